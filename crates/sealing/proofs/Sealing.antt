-- Laws of the answers' cases, of the four bytes in their place, and of what is sealed: it passes the check, and only its last four bytes are new.
-- Assumes nothing.
use Rattle.std.specs.Prelude.{Err, Ok, Result}
use Prim.Native.Nat.{ℕ, ◌/◌, ◌≤◌, ◌-◌}
use native.Mathlib.Omega.{arith}
use mathlib.Core.Path.{◌≡◌, refl, sym, ◌∙◌}
use mathlib.Core.List.{List, [], ◌++◌, append-nil}
use lib.ListN.{length, take, drop, length-drop, drop_of_length-le}
use lib.Seq.{take_at, length-take-le}
use borrow.Author.Tests.{eq-eqb, ne_eqb}
use mir.Syntax.{w32}
use Rattle.std.specs.Int.{to_le_bytes}
use Rattle.base.specs.Bytes.{Byte, Bytes}
use Rattle.base.specs.Parts.{padded}
use Rattle.base.proofs.Writing.{back}
use Rattle.base.proofs.All.{all_take}
use Rattle.refusal.specs.Answers.{refused, refusal_answer, counted_answer}
use Rattle.refusal.specs.declared.Reason.{Reason}
use Rattle.block.specs.Words.{word, word_bytes}
use Rattle.block.specs.Sum.{check_sum, sum_from}
use Rattle.block.specs.Seal.{seal, check}
use Rattle.block.proofs.Seal.{check_iff, seal_sealed}
use Rattle.sealing.specs.Sealing.{seal_answer, sealed_bytes, record_answer}
use Rattle.refusal.specs.declared.Refusal.{Refusal}

-- ---- the answers' cases

pub size_refused : counted_answer (Err (record { reason = Reason.CardSize; place = 0 })) ≡ refused 20 0
unfolding counted_answer refusal_answer
size_refused = refl

bytes_same : (n : ℕ) → to_le_bytes w32 n ≡ word_bytes n
unfolding word_bytes
bytes_same n =
    let two : n / 65536 ≡ n / 256 / 256 = omega arith in
    let three : n / 16777216 ≡ n / 256 / 256 / 256 = omega arith in
    rw (two, three)

module _ (b : List ℕ) where
  module _ (n : length b ≡ 512 → ⊥) where
    pub record_refused : (r : Result ℕ Refusal) → counted_answer r ≡ refused 20 0 → counted_answer r ≡ record_answer b
    unfolding record_answer
    record_refused r e = e ∙ rw (ne_eqb (length b) 512 n)

    pub seal_refused : (r : Result ℕ Refusal) → counted_answer r ≡ refused 20 0 → counted_answer r ≡ seal_answer b
    unfolding seal_answer
    seal_refused r e = e ∙ rw (ne_eqb (length b) 512 n)

    pub bytes_stay : b ≡ sealed_bytes b
    unfolding sealed_bytes
    bytes_stay = rw (ne_eqb (length b) 512 n)

    pub no_block-stays : sealed_bytes b ≡ b
    no_block-stays = sym bytes_stay

  module _ (h : length b ≡ 512) where
    pub record_read : (r : ℕ) → r ≡ word b 1 → counted_answer (Ok r) ≡ record_answer b
    unfolding counted_answer record_answer
    record_read r e = rw (eq-eqb (length b) 512 h, e)

    pub sum_told : (s : ℕ) → s ≡ check_sum b → counted_answer (Ok s) ≡ seal_answer b
    unfolding counted_answer seal_answer
    sum_told s e = rw (eq-eqb (length b) 512 h, e)

    -- the four bytes in their place
    pub four-stored : (n : ℕ) {four : List ℕ} → four ≡ to_le_bytes w32 n → back b 508 four ≡ take 508 b ++ word_bytes n
    four-stored n {four} e =
        let none : drop (length b - 508) (drop 508 b) ≡ [] = drop_of_length-le (drop 508 b) {i = length b - 508} (omega (arith, length-drop 508 b)) in
        rw (none, append-nil, e, bytes_same n)

    -- ---- what is sealed

    body-length : length (take 508 b) ≡ 508
    body-length = length-take-le 508 b (omega (arith, h))

    body-padded : padded 508 (take 508 b) ≡ take 508 b
    unfolding padded
    body-padded = rw body-length (append-nil (take 508 b))

    pub sealed_written : (s : ℕ) (exit : List ℕ) → s ≡ check_sum b → exit ≡ take 508 b ++ word_bytes s → exit ≡ sealed_bytes b
    unfolding sealed_bytes seal check_sum
    sealed_written s exit e w = w ∙ rw (eq-eqb (length b) 512 h, body-padded, e)

    -- the first 508 bytes stay
    pub seal_keeps : take 508 (sealed_bytes b) ≡ take 508 b
    unfolding sealed_bytes seal
    seal_keeps = rw (eq-eqb (length b) 512 h, body-padded) (take_at (take 508 b) (word_bytes (sum_from 1 (take 508 b))) 508 body-length)

    -- a block that was sealed has the size and the check sum that every operation asks for
    pub seal-passes : Bytes b → check (sealed_bytes b) ≡ (Ok tt)
    unfolding sealed_bytes
    seal-passes all =
        let room : length (take 508 b) ≤ 508 = omega (arith, body-length) in
        rw (eq-eqb (length b) 512 h) ((check_iff (seal (take 508 b))).1 (seal_sealed (take 508 b) room (all_take Byte 508 all)))
