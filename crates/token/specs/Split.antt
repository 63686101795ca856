-- A token's text, split at a bar, and folded.
-- Assumes nothing.
use Rattle.std.specs.Prelude.{ℕ, ◌+◌, cond, List, ltb, length, take, drop}
use Rattle.base.specs.Split.{Split, whole, parts}
use Rattle.text.specs.Fold.{fold_text}

-- split at the index i, where the text has a byte there
unfoldable pub split_at : ℕ → List ℕ → Split
split_at i t = cond (ltb i (length t)) (parts (take i t) (drop (i + 1) t)) (whole t)

-- the parts folded, each by itself
unfoldable pub fold_parts : Split → Split
fold_parts (whole t) = whole (fold_text t)
fold_parts (parts s c) = parts (fold_text s) (fold_text c)
