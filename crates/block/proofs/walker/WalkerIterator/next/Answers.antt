-- `block::walker::Walker::next` meets its contract: the item at hand is given, and the walk goes on behind it. Assumes nothing.
use native.Mathlib.Omega.{arith}
use mathlib.Core.Path.{refl}
use Rattle.block.proofs.Walking.{walk_on, text_there}
use Rattle.block.proofs.walker.WalkerIterator.next.Goals as goal

pub invariant_of-self : goal.invariant_of-self
invariant_of-self c = record { walk = walk_on _ _ _ c.place_at-place.ensures _ c.args.self.now.walk (omega arith) }

pub returns-clause-steps : goal.returns-clause-steps
returns-clause-steps c =
    let h = c.place_at-place.ensures in
    record { some = omega arith; tag = h.tag; mark = h.mark; start = h.start; text = text_there _ _ _ h; block = refl; at = h.end; left = refl }
