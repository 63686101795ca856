-- `query::pieces::next_alternative` meets its contract. The loop's invariant: what was written and the signs that are left make the alternative. Assumes nothing.
use borrow.Author.Rules.{rules}
use mathlib.Core.Path.{refl}
use Rattle.query.proofs.Gathering.{gathering_starts, gathering_room, gathering_less, gathering_less-split, gathering_byte, gathering_split, gathering_cut, gathering_ends}
use Rattle.query.proofs.pieces.next_alternative.Goals as goal

pub loop-i-init : goal.loop-i-init
loop-i-init c = (search (gathering_starts, rules), refl)

pub bounds-out-n : goal.bounds-out-n
bounds-out-n c = search (gathering_room, rules)

pub loop-i-smaller-in-Byte : goal.loop-i-smaller-in-Byte
loop-i-smaller-in-Byte c = search (gathering_less, rules)

pub loop-i-preserved-in-Byte : goal.loop-i-preserved-in-Byte
loop-i-preserved-in-Byte c = (search (gathering_byte, rules), search rules)

pub bounds-out-n-in-Split : goal.bounds-out-n-in-Split
bounds-out-n-in-Split c = search (gathering_room, rules)

pub loop-i-smaller : goal.loop-i-smaller
loop-i-smaller c = search (gathering_less-split, rules)

pub loop-i-preserved : goal.loop-i-preserved
loop-i-preserved c = (search (gathering_split, rules), search rules)

pub returns-in-Cut : goal.returns-in-Cut
returns-in-Cut c = search (gathering_cut, rules)

pub returns : goal.returns
returns c = search (gathering_ends, rules)
