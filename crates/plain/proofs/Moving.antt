-- A pair of brackets around the first bytes: they move one place on, and the brackets go where they free one and behind them.
-- Assumes nothing.
use Prim.Native.Nat.{ℕ, suc, ◌+◌, ◌-◌, ◌≤◌}
use Prim.Native.Char.{code}
use native.Mathlib.Numerals.{add-one}
use native.Mathlib.Omega.{arith}
use mathlib.Core.Path.{◌≡◌, sym, ap, ap₂, ◌∙◌}
use mathlib.Core.Bool.{Bool, true, false}
use mathlib.Core.List.{List, [], ◌∷◌, ◌++◌, append_assoc}
use lib.ListN.{length, get_or, take, drop, set, length-append, take-append-drop}
use lib.Seq.{drop-cons, length-take-le}
use Rattle.std.specs.List.{copy_within}
use Rattle.std.proofs.lemmas.List.{set_at}
use Rattle.base.specs.Ascii.{ascii}
use Rattle.plain.specs.Plain.{in_round, in_round_if}
use Rattle.base.specs.Writing.{Room, Puts}

-- the bytes behind the last that is moved
behind_is : (entry : List ℕ) (count : ℕ) → count + 2 ≤ length entry → drop (1 + count) entry ≡ get_or entry (count + 1) 0 ∷ drop (count + 2) entry
behind_is entry count h =
    let one : 1 + count ≡ count + 1 = omega arith in
    let two : suc (count + 1) ≡ count + 2 = omega arith in
    rw one (drop-cons entry (count + 1) 0 (omega arith) ∙ ap (λ (k : ℕ). get_or entry (count + 1) 0 ∷ drop k entry) two)

pub bracket_puts : (entry moved : List ℕ) (count : ℕ) → moved ≡ copy_within entry 0 count 1 → count + 2 ≤ length entry
    → Puts (in_round (take count entry)) entry (set (set moved 0 (code "(")) (count + 1) (code ")")) (count + 2)
bracket_puts [] moved count e h = absurd (omega (arith, h))
bracket_puts (x ∷ xs) moved count e h =
    let entry : List ℕ = x ∷ xs in
    let front : List ℕ = take count entry in
    let size : length front ≡ count = length-take-le count entry (omega arith) in
    let same : count - 0 ≡ count = omega arith in
    let place : moved ≡ x ∷ (front ++ drop (1 + count) entry) = e ∙ ap (λ (n : ℕ). x ∷ (take n entry ++ drop (1 + n) entry)) same in
    let last : set (front ++ drop (1 + count) entry) count (code ")") ≡ front ++ code ")" ∷ drop (count + 2) entry =
    ap (λ (b : List ℕ). set (front ++ b) count (code ")")) (behind_is entry count h) ∙ set_at front (get_or entry (count + 1) 0) (drop (count + 2) entry) (code ")") count size in
    record {
      long = omega (arith, length-append front (ascii ")"), size);
      bytes = ap₂ (λ (b : List ℕ) (k : ℕ). set (set b 0 (code "(")) k (code ")")) place (add-one count)
          ∙ ap (λ (b : List ℕ). code "(" ∷ b) (last ∙ sym (append_assoc front (ascii ")") (drop (count + 2) entry)));
    }

-- ---- where there is a join, and where there is none

module _ (join : Bool) (count : ℕ) (out : List ℕ) (h : Room (in_round_if join (take count out)) out) (l : count ≤ length out) where
  pub join_room : join ≡ true → count + 2 ≤ length out
  join_room e =
      let r : Room (in_round (take count out)) out = rw e at h in
      omega (arith, r.fits, length-append (take count out) (ascii ")"), length-take-le count out l)

  pub join_puts : join ≡ true → {exit : List ℕ} {n : ℕ} → Puts (in_round (take count out)) out exit n → Puts (in_round_if join (take count out)) out exit n
  join_puts e p = rw e p

  pub no_join_puts : join ≡ false → Puts (in_round_if join (take count out)) out out count
  no_join_puts e = rw e (record { long = sym (length-take-le count out l); bytes = sym (take-append-drop count out) })
