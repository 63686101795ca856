-- How large the numbers are that the program's parts answer.
-- Assumes nothing.
use Rattle.std.specs.Prelude.{ℕ, ◌≤◌, ◌≡◌, cond, List, length, Result, is_err, Option, Some, None}
use Rattle.refusal.specs.Answers.{count}
use Rattle.answer.specs.Operations.{select_answer}
use Rattle.listing.specs.declared.Totals.{Totals}
use Rattle.listing.specs.Totals.{Added}

-- what fills a buffer of `room` bytes is no more than those
abbrev pub Fills : Option ℕ → ℕ → Type 0
Fills (Some n) room = n ≤ room
Fills None room = Unit {0}

-- what a buffer has after a read that gave nothing more, by what that read answered: an error is a failure
abbrev pub ended_by : {E : Type 0} → ℕ → Result ℕ E → Option ℕ
ended_by at got = cond (is_err got) None (Some at)

-- unless the output has ended, the run was full, its cards are added to the totals t, and as many matches as select counts among them
abbrev pub RunAdded : (sheet filter cards : List ℕ) → Totals → Option Totals → Type 0
RunAdded sheet filter cards t (Some u) = (n : ℕ) × (select_answer sheet filter cards 128 ≡ count n) × (n ≤ 128) × (length cards ≡ 65536) × Added t n (length cards) u
RunAdded sheet filter cards t None = Unit {0}

pub record RunAdds (sheet filter cards : List ℕ) (t : Totals) (r : Option Totals) : Type 0 where
  pub added : RunAdded sheet filter cards t r

-- unless the output has ended, a full run is added, of which at most all cards match
abbrev pub FullRunAdded : Totals → Option Totals → Type 0
FullRunAdded t (Some u) = (n : ℕ) × (n ≤ 128) × Added t n 65536 u
FullRunAdded t None = Unit {0}
