-- Words and spaces: the scans find what the grammar asks for, and all of it.
-- Assumes nothing.
use Prim.Native.Nat.{ℕ, suc, ◌+◌, ◌-◌, ◌≤◌, ◌<◌}
use native.Mathlib.Omega.{arith}
use native.Mathlib.Nat.{add-zero}
use mathlib.Core.Path.{◌≡◌, refl, sym, ap, ◌∙◌}
use mathlib.Core.Bool.{Bool, true, false, cond}
use mathlib.Core.List.{List, [], ◌∷◌}
use lib.Dec.{eqb}
use lib.ListN.{length, take, drop, length-drop, length-append, take-append-drop}
use lib.Seq.{drop-drop, drop_at, drop-length}
use borrow.Author.Tests.{eqb-true, eqb-false}
use Rattle.base.specs.Lists.{equal}
use Rattle.base.specs.Parts.{part}
use Rattle.base.specs.Runs.{run, run_end}
use Rattle.base.proofs.Affixes.{prefix_rest, prefix_append, prefix_short, prefix_take}
use Rattle.syntax.specs.Grammar.{Stands, Spaces, no_space, space, Gap, gap}
use Rattle.syntax.specs.Scan.{is_space, skip_at, has}

-- ---- words

pub has_stands : (xs : List ℕ) (p : ℕ) (w : List ℕ) → has xs p w ≡ true → Stands xs p w
has_stands xs p w e = prefix_rest (drop p xs) w e

pub stands_has : (xs : List ℕ) (p : ℕ) (w : List ℕ) → Stands xs p w → has xs p w ≡ true
stands_has xs p w s = rw s.1 (prefix_append w s.0)

-- as the code finds it
pub has_short : (xs : List ℕ) (p : ℕ) (w : List ℕ) → length xs - p < length w → false ≡ has xs p w
has_short xs p w h = sym (prefix_short (drop p xs) w (rw length-drop h))

pub has_equal : (xs : List ℕ) (p end : ℕ) (w : List ℕ) (r : Bool) → r ≡ equal (part xs p end) w → end ≡ p + length w → p ≤ length xs → length w ≤ length xs - p → r ≡ has xs p w
has_equal xs p end w r e n i h =
    let k : end - p ≡ length w = omega arith in
    e ∙ rw k (sym (prefix_take (drop p xs) w (rw length-drop h)))

-- a word that stands lies inside the text
pub stands_within : (xs : List ℕ) (p b : ℕ) (w : List ℕ) → Stands xs p (b ∷ w) → p + suc (length w) ≤ length xs
stands_within xs p b w s = omega (arith, ap length s.1, length-drop p xs, length-append w s.0)

-- what comes after a word
pub stands_after : (xs : List ℕ) (p : ℕ) (w : List ℕ) (s : Stands xs p w) → drop (p + length w) xs ≡ s.0
stands_after xs p w s = sym (drop-drop (length w) p xs) ∙ ap (drop (length w)) s.1 ∙ drop_at w s.0 (length w) refl

-- the bytes taken from p on stand there
pub taken_stands : (xs : List ℕ) (p n : ℕ) → Stands xs p (take n (drop p xs))
taken_stands xs p n = (drop n (drop p xs), sym (take-append-drop n (drop p xs)))

-- ---- spaces

-- no space stands at p
abbrev pub NoSpaceAt : List ℕ → ℕ → Type 0
NoSpaceAt xs p = run is_space (drop p xs) ≡ 0

pub stands_no_space : (xs : List ℕ) (p b : ℕ) (w : List ℕ) → Stands xs p (b ∷ w) → eqb b 0x20 ≡ false → NoSpaceAt xs p
unfolding run
stands_no_space xs p b w s n = rw (s.1, n)

pub end_no_space : (xs : List ℕ) → NoSpaceAt xs (length xs)
unfolding run
end_no_space xs = rw (drop-length xs)

drop-next : (xs : List ℕ) (p y : ℕ) (ys : List ℕ) → drop p xs ≡ y ∷ ys → drop (p + 1) xs ≡ ys
drop-next xs p y ys e = sym (drop-drop 1 p xs) ∙ ap (drop 1) e

run_spaces : (xs ys : List ℕ) (p : ℕ) → drop p xs ≡ ys → Spaces xs p (p + run is_space ys)
unfolding run
run_spaces xs [] p e = rw add-zero no_space
run_spaces xs (y ∷ ys) p e = go (eqb y 0x20) refl (run_spaces xs ys (p + 1) (drop-next xs p y ys e))
  where
    go : (b : Bool) → eqb y 0x20 ≡ b → Spaces xs (p + 1) (p + 1 + run is_space ys) → Spaces xs p (p + cond b (suc (run is_space ys)) 0)
    go true t m =
        let n : p + 1 + run is_space ys ≡ p + suc (run is_space ys) = omega arith in
        space {p = p} (ys, e ∙ ap (λ (k : ℕ). k ∷ ys) (eqb-true y 0x20 t)) (rw n at m)
    go false t m = rw add-zero no_space

pub skip_spaces : (xs : List ℕ) (p : ℕ) → Spaces xs p (skip_at xs p)
unfolding run_end
skip_spaces xs p = run_spaces xs (drop p xs) p refl

spaces_gap : {xs : List ℕ} {p q : ℕ} → Spaces xs p q → (q ≡ p → ⊥) → Gap xs p q
spaces_gap no_space n = absurd (n refl)
spaces_gap (space s m) n = gap s m

pub skip_gap : (xs : List ℕ) (p : ℕ) → eqb (skip_at xs p) p ≡ false → Gap xs p (skip_at xs p)
skip_gap xs p h = spaces_gap (skip_spaces xs p) (eqb-false _ _ h)

pub spaces_skip : {xs : List ℕ} {p q : ℕ} → Spaces xs p q → NoSpaceAt xs q → skip_at xs p ≡ q
unfolding run_end run
spaces_skip {xs} (no_space {p = p}) n = rw n (add-zero p)
spaces_skip {xs} (space {p = p} {q = q} s k) n =
    let e = spaces_skip k n in
    let d = stands_after xs p (0x20 ∷ []) s in
    rw s.1 (omega (arith, rw d at e))

pub gap_skip : {xs : List ℕ} {p q : ℕ} → Gap xs p q → NoSpaceAt xs q → skip_at xs p ≡ q
gap_skip (gap s k) n = spaces_skip (space s k) n

-- ---- positions rise, inside the text

pub spaces_rise : {xs : List ℕ} {p q : ℕ} → Spaces xs p q → (p ≤ q) × (p ≤ length xs → q ≤ length xs)
spaces_rise no_space = (omega arith, λ h. h)
spaces_rise (space s r) = let k = spaces_rise r in (omega arith, λ h. k.1 (stands_within _ _ 0x20 [] s))

pub gap_rise : {xs : List ℕ} {p q : ℕ} → Gap xs p q → (p + 1 ≤ q) × (q ≤ length xs)
gap_rise (gap s r) = let u = spaces_rise r in (u.0, u.1 (stands_within _ _ 0x20 [] s))
