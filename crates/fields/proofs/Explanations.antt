-- The explanation on two cards that hold the same texts under the names used: every outer test says the same of both, and an explanation
-- depends on what these say alone.
-- Assumes nothing.
use Prim.Native.Nat.{ℕ}
use mathlib.Core.Path.{◌≡◌, refl, ap, ap₂}
use mathlib.Core.Bool.{Bool}
use mathlib.Core.List.{List}
use lib.ListN.{length}
use Rattle.base.specs.Lists.{All, all_empty, all_cons}
use Rattle.base.proofs.All.{all_append}
use Rattle.sheet.specs.Sheet.{Parameter}
use Rattle.sheet.specs.Encode.{WellFormedSheet, SheetBlock}
use Rattle.card.specs.Card.{Entry}
use Rattle.syntax.specs.Tree.{Test, Tree, test, bracketed, join, negation, tests_of}
use Rattle.syntax.specs.Grammar.{Spells}
use Rattle.judge.specs.Rules.{Conforms}
use Rattle.judge.specs.Verdicts.{filter_says}
use Rattle.refusal.specs.Answers.{yes_or_no}
use Rattle.refusal.specs.Steps.{Step, found, stop, ◌>>=◌, answer}
use Rattle.answer.specs.Operations.{Inputs, accept_inputs, accept_card, written}
use Rattle.answer.proofs.Cards.{conforms_accepted}
use Rattle.deciding.specs.Deciding.{outer_tests, outer_count}
use Rattle.explain.specs.Operation.{Explanation, explanation_of, accept_marks, explaining, explain_answer, explain_cells}
use Rattle.deciding.proofs.Numbered.{explanation-same}
use Rattle.fields.specs.Used.{names_of, SameUnder, Alike}
use Rattle.fields.proofs.Verdicts.{parts_same, verdict_same}
use Rattle.fields.proofs.Answers.{inputs_found}

module _ (ps : List Parameter) (w : WellFormedSheet ps) (es es' : List Entry) where
  outer_same : (f : Tree) → Alike ps (names_of f) es es' → All (λ g. filter_says ps 0 es g ≡ filter_says ps 0 es' g) (outer_tests f)
  unfolding outer_tests tests_of
  outer_same (test t) h = all_cons (verdict_same ps w (test t) es es' h) all_empty
  outer_same (bracketed p b f t) h = all_cons (verdict_same ps w (bracketed p b f t) es es' h) all_empty
  outer_same (join k f g) h =
      let (left, right) = parts_same (SameUnder ps es es') (λ (t : Test). t.path) (tests_of f) (tests_of g) h in
      all_append (λ g. filter_says ps 0 es g ≡ filter_says ps 0 es' g) (outer_same f left) (outer_same g right)
  outer_same (negation f) h = outer_same f h

module _ (sheet text card card' : List ℕ) (s : SheetBlock sheet) (es es' : List Entry) (c : Conforms s.parameters card es) (c' : Conforms s.parameters card' es')
    (alike : (f : Tree) → Spells text f → Alike s.parameters (names_of f) es es') where
  -- sheet and text come first, and then the card
  by_inputs : (room : ℕ) (inputs : Step Inputs) → accept_inputs sheet text ≡ inputs
      → (inputs >>= λ p. accept_card p.parameters 0 card >>= λ d. accept_marks room (outer_count p.filter) (explanation_of p d))
      ≡ (inputs >>= λ p. accept_card p.parameters 0 card' >>= λ d. accept_marks room (outer_count p.filter) (explanation_of p d))
  by_inputs room (stop n p) e = refl
  by_inputs room (found p) e =
      let (f, spells, is) = inputs_found sheet s text p e in
      let h = alike f spells in
      let ps = s.parameters in
      let cells = explanation-same (filter_says ps 0 es) (filter_says ps 0 es') f (outer_same ps s.well_formed es es' f h) in
      rw (← is, conforms_accepted c 0, conforms_accepted c' 0)
      (ap₂ (λ (v : Bool) (l : List ℕ). accept_marks room (outer_count f) (record { verdict = v; cells = l })) (verdict_same ps s.well_formed f es es' h) cells)

  explaining-same : (room : ℕ) → explaining sheet text card room ≡ explaining sheet text card' room
  unfolding explaining
  explaining-same room = by_inputs room (accept_inputs sheet text) refl

  pub explain_same : (list : List ℕ) → (explain_answer sheet text card (length list) ≡ explain_answer sheet text card' (length list)) × (explain_cells sheet text card list ≡ explain_cells sheet text card' list)
  unfolding explain_answer explain_cells
  explain_same list =
      let same = explaining-same (length list) in
      (ap (λ (r : Step Explanation). answer (r >>= λ x. found (yes_or_no x.verdict))) same, ap (λ (r : Step Explanation). written (r >>= λ x. found x.cells) list) same)
