-- What seal and record answer, and what seal leaves in the block.
-- Assumes nothing.
use Rattle.std.specs.Prelude.{ℕ, cond, List, eqb, length, take}
use Rattle.refusal.specs.Answers.{Answer, count, refused}
use Rattle.block.specs.Words.{word}
use Rattle.block.specs.Sum.{check_sum}
use Rattle.block.specs.Seal.{seal}

-- seal answers the check sum; "20: the card is not 512 bytes" is said of any block here
unfoldable pub seal_answer : List ℕ → Answer
seal_answer b = cond (eqb (length b) 512) (count (check_sum b)) (refused 20 0)

-- it leaves the seal of the first 508 bytes, and what is no block as it is
unfoldable pub sealed_bytes : List ℕ → List ℕ
sealed_bytes b = cond (eqb (length b) 512) (seal (take 508 b)) b

-- the record number: "bytes 1 to 4, low byte first"
unfoldable pub record_answer : List ℕ → Answer
record_answer b = cond (eqb (length b) 512) (count (word b 1)) (refused 20 0)
