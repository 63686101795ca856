-- What a run comes to: the bytes that are printed of it, and whether the output goes on.
-- Assumes nothing.
use Rattle.std.specs.Prelude.{ℕ, ◌+◌, ◌/◌, ◌≤◌, ◌<◌, ◌≡◌, cond, List, [], ◌++◌, ltb, length, Option, Some, None}
use Rattle.base.specs.Writing.{Puts}
use Rattle.refusal.specs.Steps.{Step, found, stop}
use Rattle.answer.specs.Operations.{filter_question, selection}
use Rattle.listing.specs.declared.Totals.{Totals}
use Rattle.listing.specs.Totals.{Added}
use Rattle.listing.specs.Lines.{lines, refusal_line, count_line}
use Rattle.listing.specs.Places.{place_in_file}
use Rattle.pick.specs.declared.runs.RunText.{RunText}

-- "and then the count": behind a run of fewer than 128 cards, the last
unfoldable pub last_line : (size matches cards : ℕ) → List ℕ
last_line size matches cards = cond (ltb size 65536) (count_line matches cards) []

-- what a selection from a run of `size` bytes says, behind the runs that come to the totals t: the numbers that it lists, and behind the
-- last run the totals with it; or its refusal
unfoldable pub selection_text : Totals → (size : ℕ) → Step (List ℕ) → List ℕ
selection_text t size (found ns) = lines ns ++ last_line size (t.matches + length ns) (t.cards + size / 512)
selection_text t size (stop number place) = refusal_line number (place_in_file number place t.cards)

unfoldable pub run_text : (sheet filter cards : List ℕ) → Totals → List ℕ
run_text sheet filter cards t = selection_text t (length cards) (selection (filter_question sheet filter) cards 128)

-- where select lists numbers, as many matches are added to the totals t, and the run's cards, and the output goes on behind a full run;
-- a refusal "ends the output"
abbrev pub TurnAfter : Step (List ℕ) → (size : ℕ) → Totals → Option Totals → Type 0
TurnAfter (found ns) size t (Some u) = (65536 ≤ size) × Added t (length ns) size u
TurnAfter (found ns) size t None = size < 65536
TurnAfter (stop n p) size t (Some u) = ⊥
TurnAfter (stop n p) size t None = Unit {0}

-- the text stands over the first bytes of the buffer, and the turn is the run's
pub record RunPut (sheet filter cards : List ℕ) (t : Totals) (entry exit : List ℕ) (r : RunText) : Type 0 where
  pub text : Puts (run_text sheet filter cards t) entry exit r.size
  pub turn : TurnAfter (selection (filter_question sheet filter) cards 128) (length cards) t r.turn

-- the end of a run of `size` bytes that comes to the totals t
abbrev pub TurnOf : (size : ℕ) → Totals → Option Totals → Type 0
TurnOf size t (Some u) = (65536 ≤ size) × (u ≡ t)
TurnOf size t None = size < 65536

pub record EndPut (t : Totals) (size : ℕ) (entry exit : List ℕ) (r : RunText) : Type 0 where
  pub text : Puts (last_line size t.matches t.cards) entry exit r.size
  pub turn : TurnOf size t r.turn

-- the numbers on their lines, and then the end of the run
pub record ListedPut (numbers : List ℕ) (t : Totals) (size : ℕ) (entry exit : List ℕ) (r : RunText) : Type 0 where
  pub text : Puts (lines numbers ++ last_line size t.matches t.cards) entry exit r.size
  pub turn : TurnOf size t r.turn
