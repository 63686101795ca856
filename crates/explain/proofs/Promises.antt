-- The promises about explain (02: "why this card?"); each is proved where its one line says. The contract of `explain` says that the code
-- answers as explain_answer does, and leaves the list as explain_cells says. Assumes nothing.
use Prim.Native.Nat.{ℕ, ◌≤◌, ◌<◌}
use mathlib.Core.Path.{◌≡◌}
use mathlib.Core.Bool.{Bool, true}
use mathlib.Core.Logic.{◌↔◌}
use mathlib.Core.List.{List}
use lib.ListN.{length}
use Rattle.base.specs.Bytes.{Bytes}
use Rattle.base.specs.Lists.{All}
use Rattle.sheet.specs.Encode.{SheetBlock}
use Rattle.sheet.specs.Trial.{trial_sheet}
use Rattle.card.specs.Card.{Entry}
use Rattle.card.specs.Trial.{trial_card}
use Rattle.syntax.specs.Tree.{Tree}
use Rattle.syntax.specs.Grammar.{Spells}
use Rattle.judge.specs.Rules.{Conforms}
use Rattle.refusal.specs.Answers.{refused}
use Rattle.refusal.specs.Order.{Decides}
use Rattle.deciding.specs.Deciding.{outer_tests, outer_count, Suffices, Explains}
use Rattle.deciding.specs.Marks.{suffices, deciding}
use Rattle.explain.specs.Operation.{explain_answer, explain_cells}
use Rattle.explain.specs.Refusals.{ExplainLine}
use Rattle.explain.specs.Explaining.{ExplainAnswers, AsMatch}
use Rattle.explain.specs.Trial.{Row, lent, explain_rows}
use Rattle.deciding.proofs.Exact as exact
use Rattle.deciding.proofs.Numbered as numbered
use Rattle.deciding.proofs.Deciding as deciding-set
use Rattle.explain.proofs.Table as table
use Rattle.explain.proofs.Answered as answered
use Rattle.explain.proofs.Trial as trial

-- ---- explain: refusals

-- refused with a number and a place exactly where that line of the table holds and none before it does
pub explain_refused : (sheet text card : List ℕ) (room : ℕ) → Bytes sheet → Bytes card → (n p : ℕ) → (explain_answer sheet text card room ≡ refused n p) ↔ Decides (ExplainLine sheet text card room) n p
explain_refused = table.explain_table

pub refusal_keeps_cells : (sheet text card list : List ℕ) (n p : ℕ) → explain_answer sheet text card (length list) ≡ refused n p → explain_cells sheet text card list ≡ list
refusal_keeps_cells = answered.refusal_keeps

-- match's answer, or 33 where match answers yes or no
pub explain_as_match : (sheet text card list : List ℕ) → AsMatch sheet text card (length list)
explain_as_match = answered.as_match

-- ---- explain: the answer

-- where no line holds, explain answers the filter's yes or no, and writes the cells of the tests that decide; later cells stay
pub explain_answered : (sheet text card list : List ℕ) (s : SheetBlock sheet) (f : Tree) → length text ≤ 1024 → Spells text f → (es : List Entry) → Conforms s.parameters card es → Bytes sheet
    → ((n p : ℕ) → ExplainLine sheet text card (length list) n p → ⊥) → ExplainAnswers sheet text card list s.parameters es f
explain_answered = answered.explain_answered

-- ---- explain: the tests that decide

-- the tests that are kept are the ones that 02 names, and no others are
pub deciding_explains : (f : Tree) (v : ℕ → Bool) → Explains f v (deciding f v)
deciding_explains = deciding-set.explains

pub explains_unique : (f : Tree) (v kept other : ℕ → Bool) → Explains f v kept → Explains f v other → (i : ℕ) → i < outer_count f → kept i ≡ other i
explains_unique = deciding-set.explains_unique

-- judging with three values tells exactly whether the answer stands, no matter what the others say
pub sufficing : (f : Tree) (v kept : ℕ → Bool) → (suffices f v kept ≡ true) ↔ Suffices f v kept
sufficing f v kept = (exact.suffices_stands f v kept, exact.stands_suffices f v kept)

-- there is a cell for each outer test, and there is one at least
pub tests_counted : (f : Tree) → (length (outer_tests f) ≡ outer_count f) × (0 < outer_count f)
tests_counted f = (numbered.tests_counted f, numbered.some_tests f)

-- ---- explain: the trial card

-- what it gives, and the list that it leaves: 0, 1 and 2 in its cells
pub explain_trial_answers : All (λ (r : Row). explain_answer trial_sheet r.filter trial_card (length lent) ≡ r.gives) explain_rows
explain_trial_answers = trial.answered_rows

pub explain_trial-cells : All (λ (r : Row). explain_cells trial_sheet r.filter trial_card lent ≡ r.leaves) explain_rows
explain_trial-cells = trial.left_rows
