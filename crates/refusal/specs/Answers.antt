-- Answers as document 01 has them, and the numbers of refusal.
-- Assumes nothing.
use Rattle.std.specs.Prelude.{ℕ, ◌≤◌, ◌<◌, Bool, true, false, Result, Ok, Err}
use Rattle.refusal.specs.declared.Reason.{Reason}
use Rattle.refusal.specs.declared.Refusal.{Refusal}

-- "a yes, a no, a count, or a refusal holding a number and a place"; 02: a report answers two counts, of yes and of no
pub data Answer : Type 0 where
  yes no : Answer
  count : ℕ → Answer
  counts : (yes no : ℕ) → Answer
  refused : ℕ → ℕ → Answer

abbrev pub yes_or_no : Bool → Answer
yes_or_no true = yes
yes_or_no false = no

-- the numbers of refusal
abbrev pub number_of : Reason → ℕ
number_of Reason.SheetSize = 1
number_of Reason.SheetSum = 2
number_of Reason.SheetLayout = 3
number_of Reason.FilterSize = 10
number_of Reason.NoFilter = 11
number_of Reason.TooDeep = 12
number_of Reason.TooMany = 13
number_of Reason.UnknownName = 14
number_of Reason.Unsupported = 15
number_of Reason.NoMeaning = 16
number_of Reason.Unreadable = 17
number_of Reason.BareBundle = 18
number_of Reason.CardSize = 20
number_of Reason.CardSum = 21
number_of Reason.CardLayout = 22
number_of Reason.CardMisfit = 23
number_of Reason.ShortList = 30
number_of Reason.ShortRows = 31
number_of Reason.ShortBuffer = 32
number_of Reason.ShortMarks = 33
number_of Reason.ShortCells = 34
number_of Reason.BadRows = 40
number_of Reason.NoPair = 50
number_of Reason.ManyAlternatives = 51

-- what is answered for a refusal: its number and its place
unfoldable pub refusal_answer : Refusal → Answer
refusal_answer r = refused (number_of r.reason) r.place

-- what an operation answers that counts
unfoldable pub counted_answer : Result ℕ Refusal → Answer
counted_answer (Ok n) = count n
counted_answer (Err r) = refusal_answer r

-- what an operation answers that says yes or no
unfoldable pub matched_answer : Result Bool Refusal → Answer
matched_answer (Ok v) = yes_or_no v
matched_answer (Err r) = refusal_answer r

-- the place of the refusals 21 to 23 is the index of a card of the run
pub record PlaceBound (number place : ℕ) : Type 0 where
  pub within : 21 ≤ number → number ≤ 23 → place < 128
