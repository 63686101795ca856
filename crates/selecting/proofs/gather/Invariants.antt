-- `selecting::gather` meets its contract, whatever is asked: the cards are judged one by one, and each is asked the same. Assumes nothing.
use mathlib.Core.Path.{◌≡◌}
use Rattle.selecting.proofs.Gathering.{Gathering}
use Rattle.selecting.proofs.gather.Given as goal

abbrev pub invariant-loop-index : goal.invariant-loop-index
invariant-loop-index g l = Gathering (g.A.Asking.question l.initial.asking) l.cards l.initial.buffer l.buffer l.index l.count
    × (g.A.Asking.ready l.asking × (g.A.Asking.question l.asking ≡ g.A.Asking.question l.initial.asking))
