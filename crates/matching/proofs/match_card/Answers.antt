-- `matching::match_card` meets its contract: prepare, and judge on the cells that it has filled. Assumes nothing.
use borrow.Author.Rules.{rules}
use native.Mathlib.Omega.{arith}
use Rattle.matching.proofs.RowsMatched.{match_handed, match_judged, match_room}
use Rattle.matching.proofs.match_card.Goals as goal

pub returns-in_default : goal.returns-in_default
returns-in_default c = match_handed _ _ _ _ _ c.prepare-prepared.ensures (search rules) (λ i. omega (arith, c.shared_slice_known-1.given i)) _ _ c.in_default.is _ c.hand_back.ensures

pub returns : goal.returns
returns c = match_judged _ _ _ _ _ c.prepare-prepared.ensures (search rules) (λ i. omega (arith, c.shared_slice_known-1.given i)) _ c.in-Ok.is _ _ c.judge.ensures

pub slice_bounds-judge-end : goal.slice_bounds-judge-end
slice_bounds-judge-end c =
    let room = match_room _ _ _ _ _ c.prepare-prepared.ensures (search rules) (λ i. omega (arith, c.shared_slice_known-1.given i)) _ c.in-Ok.is (search rules) in
    search (room, rules)
