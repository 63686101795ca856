-- Laws of size and check sum: what the code's tests decide, and that a block which is sealed is the seal of its body.
-- Assumes nothing.
use Rattle.std.specs.Prelude.{Err, Ok, Result, ⊤}
use Prim.Native.Nat.{ℕ, ◌-◌, ◌^◌, ◌≤◌, ◌<◌}
use native.Mathlib.Omega.{arith}
use mathlib.Core.Path.{◌≡◌, refl, ap, ap₂, sym, ◌∙◌}
use mathlib.Core.Bool.{cond}
use mathlib.Core.Logic.{◌↔◌}
use mathlib.Core.List.{List, [], ◌++◌, append-nil, append_assoc}
use lib.Dec.{eqb}
use lib.ListN.{length, take, drop, replicate, length-append, length-replicate, length-drop, take-append-drop}
use lib.Seq.{take_all, take_at, drop_at}
use borrow.Author.Tests.{eq-eqb, ne_eqb, eqb-true}
use Rattle.base.specs.Bytes.{Byte, Bytes}
use Rattle.base.proofs.Tests.{cond-first}
use Rattle.base.proofs.All.{all_append, all_replicate}
use Rattle.base.specs.Parts.{padded}
use Rattle.block.specs.Words.{word, word_bytes}
use Rattle.block.specs.Sum.{sum_from, check_sum}
use Rattle.block.specs.Seal.{check, IsSealed, seal}
use Rattle.block.proofs.Words.{word-bytes, word-length, word-written, word_read}
use Rattle.block.proofs.Sum.{sum_largest}
use Rattle.block.specs.declared.Flaw.{Flaw}

-- ---- what the tests decide

pub check-size_wrong : (b : List ℕ) → (length b ≡ 512 → ⊥) → (Err Flaw.Size) ≡ check b
unfolding check
check-size_wrong b n = rw (ne_eqb (length b) 512 n)

module _ (b : List ℕ) (h : length b ≡ 512) (s w : ℕ) (es : s ≡ check_sum b) (ew : w ≡ word b 508) where
  pub check_sum_wrong : (s ≡ w → ⊥) → (Err Flaw.Sum) ≡ check b
  unfolding check
  check_sum_wrong n = rw (eq-eqb (length b) 512 h, ne_eqb (check_sum b) (word b 508) (λ e. n (es ∙ e ∙ sym ew)))

  pub check_right : s ≡ w → (Ok tt) ≡ check b
  unfolding check
  check_right e = rw (eq-eqb (length b) 512 h, eq-eqb (check_sum b) (word b 508) (sym es ∙ e ∙ ew))

-- where something is wrong, nothing reads
pub flawed : (flaw : Flaw) → ◌≡◌ {A = Result ⊤ Flaw} (Err flaw) (Ok tt) → ⊥
flawed flaw e = let z : ◌≡◌ {A = ℕ} 0 1 = cc in omega arith

check_sealed : (b : List ℕ) → check b ≡ (Ok tt) → IsSealed b
unfolding check
check_sealed b h =
    let p = cond-first (eqb (length b) 512) (cond (eqb (check_sum b) (word b 508)) (Ok tt) (Err Flaw.Sum)) (Err Flaw.Size) (flawed Flaw.Size) h in
    let q = cond-first (eqb (check_sum b) (word b 508)) (Ok tt) (Err Flaw.Sum) (flawed Flaw.Sum) p.1 in
    record { size = eqb-true (length b) 512 p.0; sum = eqb-true (check_sum b) (word b 508) q.0 }

-- the test says so exactly where the size and the sum are right
pub check_iff : (b : List ℕ) → (check b ≡ (Ok tt)) ↔ IsSealed b
check_iff b = (check_sealed b, (λ s. sym (check_right b s.size (check_sum b) (word b 508) refl refl s.sum)))

-- ---- the seal of a body

-- what follows a body in its seal
abbrev pub after : List ℕ → List ℕ
after body = replicate (508 - length body) 0 ++ word_bytes (sum_from 1 (padded 508 body))

pub seal-body : (body : List ℕ) → seal body ≡ body ++ after body
unfolding seal padded
seal-body body = append_assoc body (replicate (508 - length body) 0) (word_bytes (sum_from 1 (padded 508 body)))

module _ (body : List ℕ) (room : length body ≤ 508) where
  padded-length : length (padded 508 body) ≡ 508
  unfolding padded
  padded-length = simp (length-append, length-replicate) (omega arith)

  take-seal : take 508 (seal body) ≡ padded 508 body
  unfolding seal
  take-seal = take_at (padded 508 body) (word_bytes (sum_from 1 (padded 508 body))) 508 padded-length

  module _ (h : Bytes body) where
    padded-bytes : Bytes (padded 508 body)
    unfolding padded
    padded-bytes = all_append Byte h (all_replicate Byte (508 - length body) (omega arith))

    -- a seal is a list of bytes
    pub seal-bytes : Bytes (seal body)
    unfolding seal
    seal-bytes = all_append Byte padded-bytes (word-bytes (sum_from 1 (padded 508 body)))

    -- with the size and the check sum of a block
    pub seal_sealed : IsSealed (seal body)
    unfolding seal check_sum
    seal_sealed =
        let n = sum_from 1 (padded 508 body) in
        let small : n < 2 ^ 32 = omega (arith, sum_largest padded-bytes padded-length) in
        let last : drop 508 (seal body) ≡ word_bytes n ++ [] = drop_at (padded 508 body) (word_bytes n) 508 padded-length ∙ sym (append-nil (word_bytes n)) in
        record {
          size = length-append (padded 508 body) (word_bytes n) ∙ omega (arith, padded-length, word-length n);
          sum = ap (sum_from 1) take-seal ∙ sym (word-written (seal body) 508 n [] small last);
        }

-- ---- the body of a sealed block

module _ (b : List ℕ) (h : Bytes b) (s : IsSealed b) where
  last_four_lem : drop 508 b ≡ word_bytes (check_sum b)
  last_four_lem =
      let all : length (drop 508 b) ≤ 4 = omega (arith, length-drop 508 b, s.size) in
      sym (take_all 4 (drop 508 b) all) ∙ sym (word_read b 508 h (omega (arith, s.size))) ∙ ap word_bytes (sym s.sum)

  -- a sealed block is the seal of the body that its first 508 bytes pad
  pub sealed_seal : (body : List ℕ) → take 508 b ≡ padded 508 body → b ≡ seal body
  unfolding seal check_sum
  sealed_seal body e =
      sym (take-append-drop 508 b) ∙ ap₂ (λ (x y : List ℕ). x ++ y) e (last_four_lem ∙ ap (λ (l : List ℕ). word_bytes (sum_from 1 l)) e)
