-- `search::says::rows_say` meets its contract. The loop's invariant: the rows to come decide, with what the pair at hand has said. Assumes nothing.
use lib.ListN.{length}
use Rattle.sheet.specs.Sheet.{parameters_of}
use Rattle.card.specs.Card.{entries_of}
use Rattle.search.specs.Meaning.{alternative_says}
use Rattle.search.proofs.Judging.{Saying}
use Rattle.search.proofs.says.rows_say.Given as goal

abbrev pub invariant-loop-row : goal.invariant-loop-row
invariant-loop-row l = Saying (length l.fn.asked.bytes.now) (alternative_says (parameters_of l.sheet) (entries_of l.card)) l.fn.asked.bytes.now l.fn.asked.rows.now l.row-index l.met
