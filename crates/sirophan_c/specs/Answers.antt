-- A report's answer as C gets it: four numbers.
-- Assumes nothing.
use Rattle.std.specs.Prelude.{ℕ}
use Rattle.refusal.specs.Answers as paper
use Rattle.refusal.specs.Answers.{yes, no, count, counts, refused}
use Rattle.sirophan_c.specs.declared.Counts.{Counts}

abbrev pub counts_of : (refusal place yes no : ℕ) → Counts
counts_of refusal place y n = record { refusal = refusal; place = place; yes = y; no = n }

-- the number of the refusal, 0 where there is none, and its place; and how many cards say yes, and how many no
unfoldable pub c_counts : paper.Answer → Counts
c_counts (counts y n) = counts_of 0 0 y n
c_counts (refused n p) = counts_of n p 0 0
-- the answers of the other operations
c_counts yes = counts_of 0 0 1 0
c_counts no = counts_of 0 0 0 1
c_counts (count n) = counts_of 0 0 n 0
