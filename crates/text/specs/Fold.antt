-- Folding: what makes texts compare with no regard to case. A capital of A to Z goes to its small letter, and so do the letters U+00C0 to
-- U+00DE without U+00D7, which in UTF-8 are a byte 0xC3 and one behind it.
-- Assumes nothing.
use Rattle.std.specs.Prelude.{ℕ, ◌+◌, ◌/◌, ◌%◌, ◌≤◌, ◌≡◌, Bool, ◌&&◌, ◌||◌, not, cond, List, [], ◌∷◌, ◌++◌, eqb, leb}
use Prim.Native.Char.{code}

-- ---- the rule, byte by byte

-- "the case of A to Z"
unfoldable pub is_capital : ℕ → Bool
is_capital b = leb (code "A") b && leb b (code "Z")

-- "a byte 0xC3"
abbrev pub lead : ℕ
lead = 195

-- "a byte from 0x80 to 0x9E except 0x97"
unfoldable pub is_accented : ℕ → Bool
is_accented b = leb 128 b && (leb b 158 && not (eqb b 151))

-- a byte by the one straight before it
unfoldable pub fold_byte : ℕ → ℕ → ℕ
fold_byte before b = cond (is_capital b || (eqb before lead && is_accented b)) (b + 32) b

-- a text behind a byte
unfoldable pub fold_from : ℕ → List ℕ → List ℕ
fold_from before [] = []
fold_from before (x ∷ xs) = fold_byte before x ∷ fold_from x xs

-- "each text is folded whole": no byte stands before its first, for which 0 stands in
unfoldable pub fold_text : List ℕ → List ℕ
fold_text s = fold_from 0 s

-- ---- the same in the words of the rules

-- the byte x behind the bytes p folds
pub data Folds (p : List ℕ) (x : ℕ) : Type 0 where
  folds_capital : code "A" ≤ x → x ≤ code "Z" → Folds p x
  folds_accented : (o : List ℕ) → p ≡ o ++ (lead ∷ []) → 128 ≤ x → x ≤ 158 → (x ≡ 151 → ⊥) → Folds p x

-- the byte x behind the bytes p becomes y: "the letter 32 above", or itself
pub data Becomes (p : List ℕ) (x : ℕ) : ℕ → Type 0 where
  becomes_small : Folds p x → Becomes p x (x + 32)
  becomes_itself : (Folds p x → ⊥) → Becomes p x x

-- the bytes t are what the bytes s behind the bytes p become, one for one
pub data FoldedBehind : List ℕ → List ℕ → List ℕ → Type 0 where
  folded_end : {p : List ℕ} → FoldedBehind p [] []
  folded_byte : {p s t : List ℕ} {x y : ℕ} → Becomes p x y → FoldedBehind (p ++ (x ∷ [])) s t → FoldedBehind p (x ∷ s) (y ∷ t)

-- t is the whole text s folded
abbrev pub Folded : List ℕ → List ℕ → Type 0
Folded s t = FoldedBehind [] s t

-- ---- the letters

-- a letter of U+0080 to U+07FF in UTF-8
unfoldable pub two_bytes : ℕ → List ℕ
two_bytes c = (192 + c / 64) ∷ (128 + c % 64) ∷ []

-- "the letters U+00C0 to U+00DE without U+00D7 .. onto the letter 32 above", and any other as it is
unfoldable pub small_letter : ℕ → ℕ
small_letter c = cond (leb 192 c && (leb c 222 && not (eqb c 215))) (c + 32) c
