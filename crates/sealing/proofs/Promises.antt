-- The promises about seal and record; each is proved where its one line says. The contracts say that seal answers as seal_answer does and
-- leaves the block as sealed_bytes says, and that record answers as record_answer does. Assumes nothing.
use Rattle.std.specs.Prelude.{Ok}
use Prim.Native.Nat.{ℕ}
use mathlib.Core.Path.{◌≡◌}
use mathlib.Core.List.{List}
use lib.ListN.{take}
use Rattle.base.specs.Bytes.{Bytes}
use Rattle.block.specs.Seal.{HasSize, check}
use Rattle.sealing.specs.Sealing.{sealed_bytes}
use Rattle.sealing.proofs.Sealing as sealing

-- ---- blocks that programs make

-- a block that was sealed has the size and the check sum that every operation asks for
pub sealed_checked : (b : List ℕ) → HasSize b → Bytes b → check (sealed_bytes b) ≡ (Ok tt)
sealed_checked = sealing.seal-passes

-- of a block that is sealed only the last four bytes are new
pub seal_keeps_body : (b : List ℕ) → HasSize b → take 508 (sealed_bytes b) ≡ take 508 b
seal_keeps_body = sealing.seal_keeps

-- what is no block stays as it is
pub refusal_keeps_block : (b : List ℕ) → (HasSize b → ⊥) → sealed_bytes b ≡ b
refusal_keeps_block = sealing.no_block-stays
