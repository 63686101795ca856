-- `card_reader::listed::next_counting` meets its contract: the entries that are passed over do not count. Assumes nothing.
use borrow.Author.Rules.{rules}
use Rattle.card_reader.proofs.Chains.{passing_start, passing_holds, passing_room, passing_found, passing_less, passing_next, passing_end}
use Rattle.card_reader.proofs.listed.next_counting.Goals as goal

pub loop-next-preserved : goal.loop-next-preserved
loop-next-preserved c = passing_next _ _ _ _ _ _ (rw c.in-Some.is at c.loop-next.invariant) _ c.entry_counts.ensures (search rules) _ c.chain_behind-next.ensures c.if-entry_counts.false

pub returns : goal.returns
returns c = search (passing_end, rules)
