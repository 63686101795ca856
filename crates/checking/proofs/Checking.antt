-- Check, as the code comes to its answer.
-- Assumes nothing.
use Rattle.std.specs.Prelude.{Err, Ok, Result, ⊤, Option, Some, None}
use Prim.Native.Nat.{ℕ}
use native.Mathlib.Omega.{arith}
use mathlib.Core.Path.{◌≡◌, refl, sym, ap, ◌∙◌}
use mathlib.Core.Option.{none, some}
use mathlib.Core.Bool.{Bool, true, false, cond, ◌&&◌}
use lib.Dec.{eqb, leb}
use mathlib.Core.List.{List}
use lib.ListN.{length}
use Rattle.sheet.specs.Sheet.{Parameter, parameters_of, read_sheet}
use Rattle.syntax.specs.Tree.{Tree, tests_of}
use Rattle.syntax.specs.Scan.{skip_at}
use Rattle.syntax.specs.Grammar.{deepest, most_tests}
use Rattle.syntax.specs.Reader.{parsed, filter_at, whole, read}
use Rattle.place.specs.Machine.{failure}
use Rattle.filter.specs.Folds.{summary_of, reading, walked}
use Rattle.filter.specs.Walks.{top_spot, answer_of}
use Rattle.filter.specs.declared.Spot.{Spot}
use Rattle.filter.specs.declared.Summary.{Summary}
use Rattle.filter.specs.declared.Walked.{Walked}
use Rattle.filter.proofs.Walk.{top-bundle, top_read, WasFilter, was_filter, was_none}
use Rattle.filter.proofs.Reading.{walked_cases, reading_is}
use Rattle.refusal.specs.declared.Refusal.{Refusal}
use Rattle.refusal.specs.Answers.{Answer, count, refusal_answer, counted_answer}
use Rattle.refusal.specs.Steps.{Step, found, stop, refusal_step, ◌>>=◌, answer}
use Rattle.answer.specs.Operations.{accept_filter, decision_step, tests_step, accept_sheet, filter_answer, Inputs, accept_inputs, check_answer}
use Rattle.answer.specs.Passing.{summary_answer}
use Rattle.answer.specs.Preparing.{accept_size}
use Rattle.answer.proofs.Inputs.{text_read, size_refused}

-- ---- a whole text, with few enough tests

cond_and : {A : Type 0} (b d : Bool) (x y : A) → cond b (cond d x y) y ≡ cond (b && d) x y
cond_and true d x y = refl
cond_and false d x y = refl

-- what is found of the end and of the number of tests decides whether the text is read
module _ (xs : List ℕ) (q n : ℕ) (f : Tree) (c : n ≡ length (tests_of f)) (z : Result ⊤ Refusal)
    (g : z ≡ cond (eqb (skip_at xs q) (length xs) && leb n most_tests) (Ok tt) (Err (failure deepest most_tests xs))) where
  whole_by : whole xs (parsed q f) ≡ cond (eqb (skip_at xs q) (length xs) && leb n most_tests) (some f) none
  whole_by = ap (λ (k : ℕ). cond (eqb (skip_at xs q) (length xs)) (cond (leb k most_tests) (some f) none) none) (sym c) ∙ cond_and (eqb (skip_at xs q) (length xs)) (leb n most_tests) (some f) none

  pub whole_few : z ≡ Ok tt → whole xs (parsed q f) ≡ some f
  whole_few h = go (eqb (skip_at xs q) (length xs) && leb n most_tests) (sym h ∙ g) whole_by
    where
      go : (b : Bool) → Ok (tt {0}) ≡ cond b (Ok (tt {0})) (Err (failure deepest most_tests xs)) → whole xs (parsed q f) ≡ cond b (some f) none → whole xs (parsed q f) ≡ some f
      go true i w = w
      go false i w = let y : ◌≡◌ {A = ℕ} 0 1 = cc in absurd (omega arith)

  module _ (x : Refusal) (h : z ≡ Err x) where
    pub whole_none : (whole xs (parsed q f) ≡ none) × (x ≡ failure deepest most_tests xs)
    whole_none = go (eqb (skip_at xs q) (length xs) && leb n most_tests) (sym h ∙ g) whole_by
      where
        go : (b : Bool) → Err x ≡ cond b (Ok (tt {0})) (Err (failure deepest most_tests xs)) → whole xs (parsed q f) ≡ cond b (some f) none → (whole xs (parsed q f) ≡ none) × (x ≡ failure deepest most_tests xs)
        go true i w = let y : ◌≡◌ {A = ℕ} 0 1 = cc in absurd (omega arith)
        go false i w = (w, cc)

-- ---- the filter's text

module _ (ps : List Parameter) (ys : List ℕ) where
  pub text_refused : (x : Refusal) → accept_size ys ≡ refusal_step x → counted_answer (Err x) ≡ filter_answer ps ys
  unfolding filter_answer counted_answer refusal_answer
  text_refused x e = rw (size_refused ys x e)

  module _ (xs : List ℕ) (i : (xs ≡ ys) × (accept_size ys ≡ found tt)) where
    text_none : (x : Refusal) → read xs ≡ none → x ≡ failure deepest most_tests ys → counted_answer (Err x) ≡ filter_answer ps ys
    unfolding filter_answer refusal_answer counted_answer
    text_none x e h = rw (h, text_read ys i.1 none (ap read (sym i.0) ∙ e))

    module _ (spot : Spot) (s : spot ≡ top_spot xs) (w : Option Walked) (e : w ≡ answer_of walked (reading ps spot.bundle) (filter_at spot.levels xs spot.close spot.at)) where
      pub text_nothing : (x : Refusal) → w ≡ None → x ≡ failure deepest most_tests ys → counted_answer (Err x) ≡ filter_answer ps ys
      text_nothing x h = text_none x (top_read xs spot s ∙ ap (whole xs) (was_none walked walked_cases (reading ps spot.bundle) xs spot.close spot.levels spot.at w e h))

      module _ (r : Walked) (h : w ≡ Some r) (z : Result ⊤ Refusal) (g : z ≡ cond (eqb (skip_at xs r.end) (length xs) && leb r.summary.tests most_tests) (Ok tt) (Err (failure deepest most_tests xs))) where
        was : WasFilter walked walked_cases (reading ps spot.bundle) xs spot.close spot.levels spot.at r.end r.summary
        was = was_filter walked walked_cases (reading ps spot.bundle) xs spot.close spot.levels spot.at w r.end r.summary e h

        gathered : r.summary ≡ summary_of ps 0 (tests_of was.tree)
        gathered = was.value ∙ reading_is ps spot.bundle was.tree ∙ ap (λ (c : ℕ). summary_of ps c (tests_of was.tree)) (top-bundle xs spot s)

        tests_are : r.summary.tests ≡ length (tests_of was.tree)
        tests_are = ap (λ (x : Summary). x.tests) gathered

        text_read_whole : read xs ≡ whole xs (parsed r.end was.tree)
        text_read_whole = top_read xs spot s ∙ ap (whole xs) was.read

        pub text_unread : (x : Refusal) → z ≡ Err x → counted_answer (Err x) ≡ filter_answer ps ys
        text_unread x j =
            let none_is = whole_none xs r.end r.summary.tests was.tree tests_are z g x j in
            text_none x (text_read_whole ∙ none_is.0) (none_is.1 ∙ ap (failure deepest most_tests) i.0)

        pub text_answered : z ≡ Ok tt → (c : Result ℕ Refusal) → counted_answer c ≡ summary_answer r.summary → counted_answer c ≡ filter_answer ps ys
        unfolding filter_answer summary_answer tests_step
        text_answered j c k =
            let done : read xs ≡ some was.tree = text_read_whole ∙ whole_few xs r.end r.summary.tests was.tree tests_are z g j in
            k ∙ rw (text_read ys i.1 (some was.tree) (ap read (sym i.0) ∙ done)) (ap (λ (x : Summary). answer (decision_step x.first >>= λ u. found (count x.tests))) gathered)

-- ---- the sheet

abbrev inputs_as : List Parameter → Tree → Inputs
inputs_as ps f = record { parameters = ps; filter = f }

abbrev counted : Inputs → Step Answer
counted p = found (count (length (tests_of p.filter)))

-- counting after all is read is counting where the tests are read
count_tests : (ps : List Parameter) (f : Tree) (t : Step (Unit {0})) → (t >>= λ u. found (inputs_as ps f)) >>= counted ≡ t >>= λ u. found (count (length (tests_of f)))
count_tests ps f (found u) = refl
count_tests ps f (stop n p) = refl

count_filter : (ps : List Parameter) (t : Step Tree) → (t >>= λ f. tests_step ps (tests_of f) >>= λ u. found (inputs_as ps f)) >>= counted ≡ t >>= λ f. tests_step ps (tests_of f) >>= λ u. found (count (length (tests_of f)))
count_filter ps (found f) = count_tests ps f (tests_step ps (tests_of f))
count_filter ps (stop n p) = refl

module _ (b xs : List ℕ) (c : Result ℕ Refusal) where
  pub check_refused : (x : Refusal) → accept_sheet b ≡ refusal_step x → counted_answer (Err x) ≡ check_answer b xs
  unfolding counted_answer refusal_answer check_answer accept_inputs
  check_refused x h = rw h

  pub check_filter : (k : List ℕ) → (k ≡ b) × (read_sheet b ≡ (Ok tt)) → counted_answer c ≡ filter_answer (parameters_of k) xs → counted_answer c ≡ check_answer b xs
  unfolding check_answer accept_inputs accept_sheet filter_answer
  check_filter k h g = g ∙ rw (h.0, h.1) (sym (ap answer (count_filter (parameters_of b) (accept_filter xs))))
