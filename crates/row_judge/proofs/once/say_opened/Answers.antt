-- `row_judge::once::say_opened` meets its contract: the card conforms, so that all is kept that the rows ask about. Assumes nothing.
use Rattle.row_judge.proofs.Asking.{read-lent, read_conforming}
use Rattle.row_judge.proofs.once.say_opened.Goals as goal

pub invariant_of-read : goal.invariant_of-read
invariant_of-read c = record { keeps = c.read_entries.ensures.keeps (read_conforming _ _ _ _ _ c.read_entries.ensures c.requires) }

pub rows_say-requires : goal.rows_say-requires
rows_say-requires c = read-lent _ _ _ _ _ _ c.lend_for-kept.ensures c.read_entries.ensures
