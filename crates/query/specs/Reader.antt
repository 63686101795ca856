-- Search strings as they are read: a pair at a time, from left to right.
-- Assumes nothing.
use Rattle.std.specs.Prelude.{ℕ, zero, suc, ◌+◌, ◌*◌, ◌-◌, Bool, true, false, cond, ◌||◌, List, [], ◌∷◌, map, eqb, leb, ltb, length, drop, take, Option, Some, None}
use Prim.Native.Char.{code}
use Rattle.base.specs.Lists.{member}
use Rattle.base.specs.Digits.{is_digit}
use Rattle.base.specs.Between.{between}
use Rattle.base.specs.Runs.{run_end, differs}
use Rattle.syntax.specs.Strings.{backslash}
use Rattle.text.specs.Bar.{bar}
use Rattle.refusal.specs.Steps.{Step, found, stop, ◌>>=◌}
use Rattle.query.specs.Spelling.{ampersand, equals, percent, plus, comma, Sign, byte, cut, split, Alternative, Query, alternatives_of}

-- the value of a hex digit, where the byte is one
unfoldable pub hex_value : ℕ → Option ℕ
hex_value b =
    cond (is_digit b) (Some (b - code "0")) (cond (between (code "A") (code "F") b) (Some (b - code "A" + 10)) (cond (between (code "a") (code "f") b) (Some (b - code "a" + 10)) None))

-- the byte of two hex digits
abbrev pub hex_byte : Option ℕ → Option ℕ → Option ℕ
hex_byte (Some h) (Some l) = Some (h * 16 + l)
hex_byte (Some h) None = None
hex_byte None l = None

abbrev pub prepend : Option ℕ → Option (List ℕ) → Option (List ℕ)
prepend (Some b) (Some v) = Some (b ∷ v)
prepend (Some b) None = None
prepend None v = None

-- the bytes that a name or a value stands for; none where a % is bad
unfoldable pub decoded : List ℕ → Option (List ℕ)
decoded [] = Some []
decoded (b ∷ []) = cond (eqb b percent) None (Some (cond (eqb b plus) 0x20 b ∷ []))
decoded (b ∷ h ∷ []) = cond (eqb b percent) None (prepend (Some (cond (eqb b plus) 0x20 b)) (decoded (h ∷ [])))
decoded (b ∷ h ∷ l ∷ s) =
    cond (eqb b percent) (prepend (hex_byte (hex_value h) (hex_value l)) (decoded s)) (prepend (Some (cond (eqb b plus) 0x20 b)) (decoded (h ∷ l ∷ s)))

-- whether a backslash makes the byte plain
unfoldable pub is_special : ℕ → Bool
is_special b = member b (code "$" ∷ comma ∷ backslash ∷ bar ∷ [])

-- whether the next byte is one
abbrev pub begins_special : List ℕ → Bool
begins_special [] = false
begins_special (b ∷ s) = is_special b

-- pending says that a backslash stands before
unfoldable pub signs_of : (pending : Bool) → List ℕ → List Sign
signs_of false [] = []
signs_of true [] = byte backslash ∷ []
signs_of true (b ∷ s) = cond (is_special b) (byte b ∷ signs_of false s) (byte backslash ∷ byte b ∷ signs_of false s)
signs_of false (b ∷ s) =
    cond (eqb b backslash) (signs_of true s) (cond (eqb b comma) (cut ∷ signs_of false s) (cond (eqb b bar) (split ∷ signs_of false s) (byte b ∷ signs_of false s)))

-- a sign before the first of the alternatives
abbrev pub on_first : Sign → List (List Sign) → List (List Sign)
on_first x [] = (x ∷ []) ∷ []
on_first x (w ∷ ws) = (x ∷ w) ∷ ws

-- the alternatives of a value, as signs: one more than it has cuts
unfoldable pub cut_signs : List Sign → List (List Sign)
cut_signs [] = [] ∷ []
cut_signs (cut ∷ v) = [] ∷ cut_signs v
cut_signs (byte b ∷ v) = on_first (byte b) (cut_signs v)
cut_signs (split ∷ v) = on_first split (cut_signs v)

-- the bytes of an alternative
unfoldable pub text_of : List Sign → List ℕ
text_of [] = []
text_of (byte b ∷ v) = b ∷ text_of v
text_of (cut ∷ v) = comma ∷ text_of v
text_of (split ∷ v) = bar ∷ text_of v

-- where a token is split: the first bar that is not plain, or the end
unfoldable pub split_of : List Sign → ℕ
split_of [] = 0
split_of (split ∷ v) = 0
split_of (byte b ∷ v) = suc (split_of v)
split_of (cut ∷ v) = suc (split_of v)

-- an alternative of the pair at p, by its parameter's name and its signs
abbrev pub alternative : ℕ → List ℕ → List Sign → Alternative
alternative p n w = record { at = p; name = n; text = text_of w; split = split_of w }

abbrev pub pair_of : ℕ → Option (List ℕ) → Option (List ℕ) → Step (List Alternative)
pair_of p (Some n) (Some u) = found (map (alternative p n) (cut_signs (signs_of false u)))
pair_of p (Some n) None = stop 50 p
pair_of p None u = stop 50 p

-- 50: "a bad % or no "=" in a pair", place "the pair's first byte"
unfoldable pub read_pair : ℕ → List ℕ → Step (List Alternative)
read_pair p s =
    cond (ltb (run_end (differs equals) s 0) (length s))
    (pair_of p (decoded (take (run_end (differs equals) s 0) s)) (decoded (drop (run_end (differs equals) s 0 + 1) s))) (stop 50 p)

-- as many pairs as there are bytes and one more at most
unfoldable pub read_pairs : ℕ → ℕ → List ℕ → Step Query
read_pairs zero p xs = stop 50 p
read_pairs (suc n) p xs = do
  a ← read_pair p (take (run_end (differs ampersand) xs 0) xs)
  q ← cond (ltb (run_end (differs ampersand) xs 0) (length xs)) (read_pairs n (p + run_end (differs ampersand) xs 0 + 1) (drop (run_end (differs ampersand) xs 0 + 1) xs)) (found [])
  found (a ∷ q)

-- 51: "too many alternatives, place 0"
unfoldable pub accept_query : List ℕ → Step Query
accept_query xs = cond (eqb (length xs) 0 || ltb 1024 (length xs)) (stop 10 0) (do
  q ← read_pairs (suc (length xs)) 0 xs
  cond (leb (length (alternatives_of q)) 32) (found q) (stop 51 0))
