-- Match, as the code comes to its answer: prepare into 1,024 cells, and judge on those that it has filled.
-- Assumes nothing.
use Rattle.std.specs.Prelude.{Err, Ok, Result, Bool}
use Prim.Native.Nat.{ℕ, ◌≤◌}
use native.Mathlib.Nat.{sub-zero}
use native.Mathlib.Omega.{arith}
use mathlib.Core.Path.{◌≡◌, refl, sym, ap, ◌∙◌}
use mathlib.Core.List.{List}
use lib.ListN.{length, take}
use Rattle.base.specs.Parts.{part}
use Rattle.base.proofs.All.{bytes_of}
use Rattle.refusal.specs.Answers.{count, refused, number_of, refusal_answer, counted_answer, matched_answer}
use Rattle.refusal.specs.declared.Reason.{Reason}
use Rattle.refusal.specs.declared.Refusal.{Refusal}
use Rattle.answer.specs.Operations.{match_answer}
use Rattle.answer.specs.Preparing.{prepare_cells, judge_answer, Prepares}
use Rattle.matching.specs.HandedBack.{handed_back}
use Rattle.answer.proofs.Slices.{Sliced}
use Rattle.answer.proofs.RowsAnswered.{match_is, prepare_within}

-- ---- a refusal is handed back

pub refusal_handed : (prepared : Result ℕ Refusal) (r : Refusal) → prepared ≡ Err r → matched_answer (Err r) ≡ handed_back prepared
unfolding matched_answer handed_back
refusal_handed prepared r h = sym (ap handed_back h)

pub cells_handed : (prepared : Result ℕ Refusal) (k : ℕ) → prepared ≡ Ok k → matched_answer (Err (record { reason = Reason.BadRows; place = 0 })) ≡ handed_back prepared
unfolding matched_answer handed_back refusal_answer
cells_handed prepared k h = sym (ap handed_back h)

-- ---- prepare into 1,024 cells

module _ (sheet text list exit : List ℕ) (r : Result ℕ Refusal) (e : Prepares sheet text list r exit) (size : length list ≡ 1024) (sliced : Sliced sheet) where
  pub match_handed : (card : List ℕ) (f : Refusal) → r ≡ Err f → (m : Result Bool Refusal) → matched_answer m ≡ handed_back r → matched_answer m ≡ match_answer sheet text card
  match_handed card f h m back =
      let is : counted_answer r ≡ refused (number_of f.reason) f.place = ap counted_answer h ∙ (unfold counted_answer refusal_answer in refl) in
      let given : handed_back (Err f) ≡ refused (number_of f.reason) f.place = unfold handed_back refusal_answer in refl in
      back ∙ ap handed_back h ∙ given ∙ sym ((match_is sheet text card list (bytes_of sheet sliced) (omega (arith, size))).refused_alike (number_of f.reason) f.place (sym e.answers ∙ is))

  module _ (n : ℕ) (h : r ≡ Ok n) where
    counted : counted_answer r ≡ count n
    counted = ap counted_answer h ∙ (unfold counted_answer in refl)

    pub match_room : length exit ≡ 1024 → n ≤ length exit
    match_room l = omega (arith, l, (prepare_within sheet text list (bytes_of sheet sliced)).0 n (sym e.answers ∙ counted))

    pub match_judged : (card : List ℕ) (m : Result Bool Refusal) → matched_answer m ≡ judge_answer sheet text (part exit 0 n) card → matched_answer m ≡ match_answer sheet text card
    match_judged card m a =
        let cells : part exit 0 n ≡ take n (prepare_cells sheet text list) = rw (sub-zero n) (ap (take n) e.cells) in
        a ∙ ap (λ (cs : List ℕ). judge_answer sheet text cs card) cells ∙ sym ((match_is sheet text card list (bytes_of sheet sliced) (omega (arith, size))).judged n (sym e.answers ∙ counted))
