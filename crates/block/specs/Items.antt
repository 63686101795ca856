-- Items: what a block lists, a sheet its parameters and a card its entries. An item is a byte, in a block with marks
-- a second byte, the length of a text, and the text.
-- Assumes nothing.
use Rattle.std.specs.Prelude.{ℕ, zero, suc, ◌+◌, ◌≤◌, ◌<◌, ◌≡◌, Bool, true, false, cond, ◌&&◌, ◌||◌, List, [], ◌∷◌, ◌++◌, leb, eqb, get_or, Option, Some, None}
use Rattle.base.specs.Lists.{every}
use Rattle.base.specs.Parts.{part}
use Rattle.block.specs.Seal.{HasSize}
use Rattle.block.specs.declared.Place.{Place}

-- ---- reading

-- every byte is zero
unfoldable pub zeros : List ℕ → Bool
zeros = every (λ (x : ℕ). eqb x 0)

-- 02: the blocks whose items have a mark, a second byte before the length, by their first byte: 0x44 of a card, 0x51 of a sheet
unfoldable pub has_marks : ℕ → Bool
has_marks first = eqb first 0x44 || eqb first 0x51

-- as many bytes stand before the length of an item's text
abbrev pub head_size : Bool → ℕ
head_size true = 2
head_size false = 1

-- where the length of the text of the item at p stands
unfoldable pub length_at : List ℕ → ℕ → ℕ
length_at b p = p + head_size (has_marks (get_or b 0 0))

-- where the item after the one at p starts
unfoldable pub next : List ℕ → ℕ → ℕ
next b p = length_at b p + 1 + get_or b (length_at b p) 0

-- the mark of the item at p, 0 where the block has none
unfoldable pub mark_at : List ℕ → ℕ → ℕ
mark_at b p = cond (has_marks (get_or b 0 0)) (get_or b (p + 1) 0) 0

-- the text of the item at p
unfoldable pub text_at : List ℕ → ℕ → List ℕ
text_at b p = part b (length_at b p + 1) (next b p)

-- "entries end at or before byte 507; bytes from there to 507 are zero": so it is with the k items from p on
unfoldable pub laid_out : ℕ → List ℕ → ℕ → Bool
laid_out zero b p = zeros (part b p 508)
laid_out (suc k) b p = leb (next b p) 508 && laid_out k b (next b p)

-- the first byte is `first`, the byte at `at` says how many items follow it, `most` or fewer, and they and the padding are laid out
unfoldable pub has_layout : (first at most : ℕ) → List ℕ → Bool
has_layout first at most b = eqb (get_or b 0 0) first && (leb (get_or b at 0) most && laid_out (get_or b at 0) b (at + 1))

-- the same with either of two first bytes
unfoldable pub has_either : (plain marked at most : ℕ) → List ℕ → Bool
has_either plain marked at most b = has_layout plain at most b || has_layout marked at most b

-- r says whether a block with its size is laid out, and where its items end: zeros follow from there to byte 507
pub record LaysOut (b : List ℕ) (laid : Bool) (r : Option ℕ) : Type 0 where
  pub wrong : r ≡ None → laid ≡ false
  pub right : (e : ℕ) → r ≡ Some e → laid ≡ true
  pub zero : (e : ℕ) → r ≡ Some e → zeros (part b e 508) ≡ true

-- the k items from p on, each made of its first byte, its mark and its text
unfoldable pub items : {X : Type 0} → (ℕ → ℕ → List ℕ → X) → ℕ → List ℕ → ℕ → List X
items make zero b p = []
items make (suc k) b p = make (get_or b p 0) (mark_at b p) (text_at b p) ∷ items make k b (next b p)

-- r says where the item at p of b stands
pub record PlaceAt (b : List ℕ) (p : ℕ) (r : Place) : Type 0 where
  pub tag : r.tag ≡ get_or b p 0
  pub mark : r.mark ≡ mark_at b p
  pub start : r.start ≡ length_at b p + 1
  pub ahead : p < r.start
  pub end : r.end ≡ next b p
  pub order : r.start ≤ r.end

-- a walk over the items of a block stands at p, with `left` items to come
pub record Walk (b : List ℕ) (p left : ℕ) : Type 0 where
  pub size : HasSize b
  pub within : p ≤ 508
  pub laid : laid_out left b p ≡ true

-- ---- writing

-- the mark as it is written
abbrev pub marks : Bool → ℕ → List ℕ
marks true m = m ∷ []
marks false m = []

-- the bytes of one after the other
unfoldable pub join : {X : Type 0} → (X → List ℕ) → List X → List ℕ
join bytes_of [] = []
join bytes_of (x ∷ xs) = bytes_of x ++ join bytes_of xs
