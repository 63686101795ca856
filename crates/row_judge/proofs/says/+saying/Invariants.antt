-- `row_judge::says::rows_say` and `bracket_says` meet their contracts: rows are judged from left to right, and a test after brackets goes
-- along the entries of its parameter that count, and judges the rows in the brackets for the occurrence of each. The measure is two for each
-- row, with one more for the rows in brackets. The loop over the rows keeps `Telling`, that over the entries `Brackets`. Each member has the
-- answers to its needs in the order of its code, each with the need's name. Assumes nothing.
use Prim.Native.Nat.{◌+◌, ◌*◌, ◌-◌}
use lib.ListN.{length}
use Rattle.card.specs.Card.{entries_of}
use Rattle.judge.specs.Sets.{chosen_of}
use Rattle.card_reader.specs.Listed.{counted}
use Rattle.row_judge.specs.Saying.{rows_say}
use Rattle.row_judge.proofs.Saying.{Brackets, Telling}
use Rattle.row_judge.proofs.says.+saying.Given as goal

abbrev pub decreases-bracket_says : goal.decreases-bracket_says
decreases-bracket_says l = 2 * (length l.rows.now - 1) + 1

abbrev pub decreases-rows_say : goal.decreases-rows_say
decreases-rows_say l = 2 * length l.opened.now.rows.now

abbrev pub invariant-bracket_says-loop-next : goal.invariant-bracket_says-loop-next
invariant-bracket_says-loop-next l = Brackets l.filter l.rows l.read.card.now l.read.kept.now l.chosen l.index l.meaning l.opened (counted l.next)

abbrev pub invariant-rows_say-loop-at : goal.invariant-rows_say-loop-at
invariant-rows_say-loop-at l =
    Telling l.read.kept.now.kinds l.filter l.cells l.chosen (entries_of l.read.card.now) (rows_say l.read.kept.now.kinds l.filter (chosen_of l.chosen (entries_of l.read.card.now)) l.cells) l.at l.verdict

abbrev pub decreases-bracket_says-loop-next : goal.decreases-bracket_says-loop-next
decreases-bracket_says-loop-next l = counted l.next

abbrev pub decreases-rows_say-loop-at : goal.decreases-rows_say-loop-at
decreases-rows_say-loop-at l = length l.cells - l.at
