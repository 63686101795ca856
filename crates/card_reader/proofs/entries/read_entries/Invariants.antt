-- `card_reader::entries::read_entries` meets its contract: the entries so far are kept, and those to come decide. Assumes nothing.
use Rattle.card_reader.proofs.Reading.{Progress}
use Rattle.card_reader.proofs.entries.read_entries.Given as goal

abbrev pub invariant-loop-e : goal.invariant-loop-e
invariant-loop-e l = Progress l.kinds l.card l.initial.kept l.kept l.e-iterator.iter l.e-iterator.count
