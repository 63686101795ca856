-- What check answers to a text that is no filter, on a well-formed sheet.
-- Assumes nothing.
use Prim.Native.Nat.{ℕ, ◌≤◌}
use native.Mathlib.Omega.{arith}
use mathlib.Core.Path.{◌≡◌, refl, sym, subst, subst₂, ap₂, ◌∙◌}
use mathlib.Core.Logic.{◌↔◌}
use mathlib.Core.Option.{Option, none, some}
use mathlib.Core.List.{List}
use lib.ListN.{length}
use borrow.Author.Tests.{ne_eqb, le-ltb}
use Rattle.sheet.specs.Encode.{SheetBlock}
use Rattle.syntax.specs.Tree.{Tree}
use Rattle.syntax.specs.Grammar.{deepest, most_tests, Spells}
use Rattle.syntax.specs.Reader.{read}
use Rattle.syntax.proofs.Spelling.{read_iff}
use Rattle.place.specs.Begins.{Begins, Longest, Number}
use Rattle.place.specs.Machine.{failure}
use Rattle.place.proofs.Place.{text_place, text_number, longest_unique, number_unique}
use Rattle.refusal.specs.Answers.{refused, number_of}
use Rattle.answer.specs.Operations.{accept_filter, accept_inputs, check_answer}
use Rattle.answer.proofs.Inputs.{sheet_accepted}

reads_none : (text : List ℕ) → ((f : Tree) → Spells text f → ⊥) → read text ≡ none
reads_none text h = go (read text) refl
  where
    go : (o : Option Tree) → read text ≡ o → o ≡ none
    go none e = refl
    go (some f) e = absurd (h f ((read_iff text f).0 e))

module _ (sheet text : List ℕ) (s : SheetBlock sheet) (some_bytes : 1 ≤ length text) (short : length text ≤ 1024) (no-filter : (f : Tree) → Spells text f → ⊥) where
  failed : check_answer sheet text ≡ refused (number_of (failure deepest most_tests text).reason) (failure deepest most_tests text).place
  unfolding check_answer accept_inputs accept_filter
  failed =
      let n : length text ≡ 0 → ⊥ = λ e. omega arith in
      rw (sheet_accepted sheet s, ne_eqb (length text) 0 n, le-ltb 1024 (length text) short, reads_none text no-filter)

  pub no_filter_refused : (n p : ℕ) → (check_answer sheet text ≡ refused n p) ↔ (Longest (Begins deepest most_tests) text p × Number deepest most_tests text p n)
  no_filter_refused n p = (there, back)
    where
      there : check_answer sheet text ≡ refused n p → Longest (Begins deepest most_tests) text p × Number deepest most_tests text p n
      there e =
          let z = sym failed ∙ e in
          let u : (failure deepest most_tests text).place ≡ p = cc in
          let v : number_of (failure deepest most_tests text).reason ≡ n = cc in
          (subst (Longest (Begins deepest most_tests) text) u (text_place text), subst₂ (λ (q m : ℕ). Number deepest most_tests text q m) u v (text_number text))

      back : Longest (Begins deepest most_tests) text p × Number deepest most_tests text p n → check_answer sheet text ≡ refused n p
      back h =
          let u : (failure deepest most_tests text).place ≡ p = longest_unique (text_place text) h.0 in
          let w : Number deepest most_tests text p (number_of (failure deepest most_tests text).reason) = subst (λ (q : ℕ). Number deepest most_tests text q (number_of (failure deepest most_tests text).reason)) u (text_number text) in
          failed ∙ ap₂ refused (number_unique w h.1) u
