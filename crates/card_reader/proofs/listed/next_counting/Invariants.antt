-- `card_reader::listed::next_counting` meets its contract: the entries that are passed over do not count. Assumes nothing.
use Rattle.card_reader.specs.Listed.{entry_counts, counted}
use Rattle.card_reader.proofs.Chains.{Passing}
use Rattle.card_reader.proofs.listed.next_counting.Given as goal

abbrev pub invariant-loop-next : goal.invariant-loop-next
invariant-loop-next l = Passing (entry_counts l.chosen l.question.meaning l.question.value.now) l.read.card.now l.read.kept.now l.question.index (counted l.fn.from) (counted l.next)

abbrev pub decreases-loop-next : goal.decreases-loop-next
decreases-loop-next l = counted l.next
