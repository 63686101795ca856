-- `listing::lines::put_lines` meets its contract: the lines before the index stand in `at` bytes. Assumes nothing.
use Rattle.listing.proofs.Putting.{LinesPut}
use Rattle.listing.proofs.lines.put_lines.Given as goal

abbrev pub invariant-loop-n : goal.invariant-loop-n
invariant-loop-n l = LinesPut l.numbers l.initial.out l.out l.at l.n-index
