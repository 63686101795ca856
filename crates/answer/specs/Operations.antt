-- Check, match and select over lists of bytes, as functions that compute: refusals in the order of document 01's table.
-- Assumes nothing.
use Rattle.std.specs.Prelude.{ℕ, zero, suc, ◌/◌, ◌%◌, Bool, true, false, cond, ◌&&◌, ◌||◌, List, [], ◌∷◌, ◌++◌, leb, eqb, ltb, length, take, drop, Err, Ok, Result, ⊤}
use Rattle.std.proofs.Math.Option.{Option, none, some}
use Rattle.sheet.specs.Sheet.{Parameter, parameters_of, read_sheet}
use Rattle.card.specs.Card.{Entry, record_number, entries_of, read_card}
use Rattle.syntax.specs.Tree.{Test, Tree, tests_of}
use Rattle.syntax.specs.Grammar.{deepest, most_tests}
use Rattle.syntax.specs.Reader.{read}
use Rattle.place.specs.Machine.{failure}
use Rattle.judge.specs.Sets.{conforms}
use Rattle.judge.specs.Faults.{first_fault}
use Rattle.judge.specs.Verdicts.{filter_says}
use Rattle.refusal.specs.Answers.{Answer, yes_or_no, count}
use Rattle.refusal.specs.Steps.{Step, found, stop, refusal_step, ◌>>=◌, answer}
use Rattle.refusal.specs.declared.Refusal.{Refusal}
use Rattle.block.specs.declared.Flaw.{Flaw}

-- ---- the sheet: 1, 2, 3

abbrev pub sheet_step : Result ⊤ Flaw → List Parameter → Step (List Parameter)
sheet_step (Ok tt) ps = found ps
sheet_step (Err Flaw.Size) ps = stop 1 0
sheet_step (Err Flaw.Sum) ps = stop 2 0
sheet_step (Err Flaw.Layout) ps = stop 3 0

unfoldable pub accept_sheet : List ℕ → Step (List Parameter)
accept_sheet sheet = sheet_step (read_sheet sheet) (parameters_of sheet)

-- ---- the filter: 10, 11 to 13, and 14 to 18 for the first test at fault; names are looked up at the top

abbrev pub tree_step : List ℕ → Option Tree → Step Tree
tree_step text (some f) = found f
tree_step text none = refusal_step (failure deepest most_tests text)

unfoldable pub accept_filter : List ℕ → Step Tree
accept_filter text = cond (eqb (length text) 0 || ltb 1024 (length text)) (stop 10 0) (tree_step text (read text))

abbrev pub decision_step : Result ⊤ Refusal → Step (Unit {0})
decision_step (Ok tt) = found tt
decision_step (Err r) = refusal_step r

unfoldable pub tests_step : List Parameter → List Test → Step (Unit {0})
tests_step ps ts = decision_step (first_fault ps 0 ts)

-- the parameters of the sheet and the tree of the filter
pub record Inputs : Type 0 where
  pub parameters : List Parameter
  pub filter : Tree

unfoldable pub accept_inputs : List ℕ → List ℕ → Step Inputs
accept_inputs sheet text = do
  ps ← accept_sheet sheet
  f ← accept_filter text
  u ← tests_step ps (tests_of f)
  found (record { parameters = ps; filter = f })

-- ---- cards: 20 to 23

-- a card that conforms: its record number and its entries
pub record Card : Type 0 where
  pub number : ℕ
  pub entries : List Entry

abbrev pub card_step : Result ⊤ Flaw → Bool → Card → ℕ → Step Card
card_step (Err Flaw.Size) fits c i = stop 20 i
card_step (Err Flaw.Sum) fits c i = stop 21 i
card_step (Err Flaw.Layout) fits c i = stop 22 i
card_step (Ok tt) true c i = found c
card_step (Ok tt) false c i = stop 23 i

-- the card with the index i in its run
unfoldable pub accept_card : List Parameter → ℕ → List ℕ → Step Card
accept_card ps i b = card_step (read_card b) (conforms ps (entries_of b)) (record { number = record_number b; entries = entries_of b }) i

-- ---- check and match

-- the answer of check for a filter on a well-formed sheet
unfoldable pub filter_answer : List Parameter → List ℕ → Answer
filter_answer ps text = answer (do
  f ← accept_filter text
  u ← tests_step ps (tests_of f)
  found (count (length (tests_of f))))

unfoldable pub check_answer : List ℕ → List ℕ → Answer
check_answer sheet text = answer (do
  p ← accept_inputs sheet text
  found (count (length (tests_of p.filter))))

-- what is asked of cards: the parameters of the sheet, and what is said of a card's entries
pub record Question : Type 0 where
  pub parameters : List Parameter
  pub says : List Entry → Bool

-- the answer of match to a question, or why there is none
unfoldable pub match_by : Step Question → List ℕ → Answer
match_by asked card = answer (do
  q ← asked
  c ← accept_card q.parameters 0 card
  found (yes_or_no (q.says c.entries)))

-- what a filter asks
abbrev pub question_of : Inputs → Question
question_of p = record { parameters = p.parameters; says = λ es. filter_says p.parameters 0 es p.filter }

unfoldable pub filter_question : List ℕ → List ℕ → Step Question
filter_question sheet text = do
  p ← accept_inputs sheet text
  found (question_of p)

abbrev pub match_answer : List ℕ → List ℕ → List ℕ → Answer
match_answer sheet text = match_by (filter_question sheet text)

-- ---- select

-- n blocks of 512 bytes, from the first on
unfoldable pub blocks : ℕ → List ℕ → List (List ℕ)
blocks zero bytes = []
blocks (suc n) bytes = take 512 bytes ∷ blocks n (drop 512 bytes)

-- "no whole number of blocks, or over 128": 20
unfoldable pub accept_run : List ℕ → Step (List (List ℕ))
accept_run cards =
    cond (eqb (length cards % 512) 0 && leb (length cards) 65536) (found (blocks (length cards / 512) cards)) (stop 20 0)

-- "for 21 to 23 the first faulty card decides, and on it the lower number"; i is the index of the first
unfoldable pub accept_cards : List Parameter → ℕ → List (List ℕ) → Step (List Card)
accept_cards ps i [] = found []
accept_cards ps i (b ∷ bs) = do
  c ← accept_card ps i b
  cs ← accept_cards ps (suc i) bs
  found (c ∷ cs)

-- the record numbers of the cards of which yes is said, in card order and repeats kept
unfoldable pub matching : (List Entry → Bool) → List Card → List ℕ
matching says [] = []
matching says (c ∷ cs) = cond (says c.entries) (c.number ∷ matching says cs) (matching says cs)

-- 30: "list shorter than the matches", place the number of matches
unfoldable pub accept_room : ℕ → List ℕ → Step (List ℕ)
accept_room room numbers = cond (leb (length numbers) room) (found numbers) (stop 30 (length numbers))

-- the numbers that a selection writes, for a list of `room` cells
unfoldable pub selection : Step Question → List ℕ → ℕ → Step (List ℕ)
selection asked cards room = do
  q ← asked
  bs ← accept_run cards
  cs ← accept_cards q.parameters 0 bs
  accept_room room (matching q.says cs)

-- the answer of select to a question, or why there is none
unfoldable pub select_by : Step Question → List ℕ → ℕ → Answer
select_by asked cards room = answer (do
  ns ← selection asked cards room
  found (count (length ns)))

-- the list's cells after a selection: the numbers from the first cell on, and later cells as they were; on a refusal all of them
abbrev pub written : Step (List ℕ) → List ℕ → List ℕ
written (found ns) list = ns ++ drop (length ns) list
written (stop n p) list = list

unfoldable pub cells_by : Step Question → List ℕ → List ℕ → List ℕ
cells_by asked cards list = written (selection asked cards (length list)) list

-- by a filter
abbrev pub select_answer : List ℕ → List ℕ → List ℕ → ℕ → Answer
select_answer sheet text = select_by (filter_question sheet text)

abbrev pub select_cells : List ℕ → List ℕ → List ℕ → List ℕ → List ℕ
select_cells sheet text = cells_by (filter_question sheet text)
