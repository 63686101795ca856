-- What explain has to do with match, and its cells in 02's words.
-- Assumes nothing.
use Rattle.std.specs.Prelude.{ℕ, ◌≡◌, Bool, true, ◌↔◌, List, ◌∷◌, ◌++◌, length, drop}
use Rattle.sheet.specs.Sheet.{Parameter}
use Rattle.card.specs.Card.{Entry}
use Rattle.syntax.specs.Tree.{Tree}
use Rattle.judge.specs.Rules.{FilterSays}
use Rattle.refusal.specs.Answers.{refused}
use Rattle.answer.specs.Operations.{match_answer}
use Rattle.answer.specs.Verdicts.{Verdict}
use Rattle.deciding.specs.Deciding.{outer_tests, outer_count, says_by, Explains, cells}
use Rattle.explain.specs.Operation.{explain_answer, explain_cells}

-- v has by number what each test of the filter says of entries
abbrev pub SaysEach : List Parameter → List Entry → Tree → (v : ℕ → Bool) → Type 0
SaysEach ps es f v = (before : List Tree) (t : Tree) (after : List Tree) → outer_tests f ≡ before ++ (t ∷ after) → (v (length before) ≡ true) ↔ FilterSays ps 0 es t

-- where no line of the table holds, explain answers the filter's yes or no, and writes the cells of the tests that decide
pub record ExplainAnswers (sheet text card list : List ℕ) (ps : List Parameter) (es : List Entry) (f : Tree) : Type 0 where
  pub verdict : Verdict (FilterSays ps 0 es f) (explain_answer sheet text card (length list))
  pub v : ℕ → Bool
  pub says : SaysEach ps es f v
  -- by what its tests say the filter says what it says
  pub by_tests : (says_by v 0 f ≡ true) ↔ FilterSays ps 0 es f
  pub kept : ℕ → Bool
  pub explains : Explains f v kept
  pub writes : explain_cells sheet text card list ≡ cells v kept 0 (outer_count f) ++ drop (outer_count f) list

-- "refusals: as match; then 33": match's answer, or 33 where match answers yes or no
pub data AsMatch (sheet text card : List ℕ) (room : ℕ) : Type 0 where
  same_answer : explain_answer sheet text card room ≡ match_answer sheet text card → AsMatch sheet text card room
  short_list : (p : ℕ) → explain_answer sheet text card room ≡ refused 33 p → ((n q : ℕ) → match_answer sheet text card ≡ refused n q → ⊥) → AsMatch sheet text card room
