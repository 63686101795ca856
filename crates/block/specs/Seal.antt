-- Size and check sum of a block: as a test, and as what makes a block of its body.
-- Assumes nothing.
use Rattle.std.specs.Prelude.{ℕ, ◌≡◌, cond, List, ◌++◌, eqb, length, Err, Ok, Result, ⊤}
use Rattle.base.specs.Parts.{padded}
use Rattle.block.specs.Words.{word, word_bytes}
use Rattle.block.specs.Sum.{check_sum, sum_from}
use Rattle.block.specs.declared.Flaw.{Flaw}

-- the bytes are as many as a block's
abbrev pub HasSize : List ℕ → Type 0
HasSize b = length b ≡ 512

-- "both are 512 bytes, each with its own check: bytes 508 to 511, low byte first, hold the sum"
unfoldable pub check : List ℕ → Result ⊤ Flaw
check b = cond (eqb (length b) 512) (cond (eqb (check_sum b) (word b 508)) (Ok tt) (Err Flaw.Sum)) (Err Flaw.Size)

-- the same, part by part
pub record IsSealed (b : List ℕ) : Type 0 where
  pub size : HasSize b
  pub sum : check_sum b ≡ word b 508

-- the block of a body of at most 508 bytes: the body, zeros to byte 507 and the check sum
unfoldable pub seal : List ℕ → List ℕ
seal body = padded 508 body ++ word_bytes (sum_from 1 (padded 508 body))
