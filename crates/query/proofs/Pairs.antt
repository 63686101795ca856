-- A pair, by where it is cut and what its parts decode to.
-- Assumes nothing.
use Rattle.std.specs.Prelude.{Option, Some, None}
use Prim.Native.Nat.{ℕ, ◌+◌, ◌-◌, ◌≤◌, ◌<◌}
use native.Mathlib.Omega.{arith}
use mathlib.Core.Path.{◌≡◌, ◌∙◌, subst}
use mathlib.Core.List.{List}
use lib.ListN.{length, take, drop, length-drop}
use lib.Seq.{length-take-le}
use borrow.Author.Tests.{lt-ltb, le-ltb}
use Rattle.base.specs.Runs.{differs, RunEnd}
use Rattle.base.proofs.Lists.{rest}
use Rattle.refusal.specs.Steps.{stop}
use Rattle.query.specs.Reader.{decoded, pair_of, read_pair}
use Rattle.query.specs.Scan.{DecodesTo, decodes_bytes, decodes_bad, PairOf, pair-of, pair_of_none}

-- a part at the beginning fits where the whole does
pub front_fits : (s out : List ℕ) (n : ℕ) → n ≤ length s → length s ≤ length out → length (take n s) ≤ length out
front_fits s out n h k = omega (arith, length-take-le n s h)

module _ (pair : List ℕ) (cut : ℕ) (e : RunEnd (differs 61) pair 0 cut) where
  uncut : length pair ≤ cut → (p : ℕ) → read_pair p pair ≡ stop 50 p
  unfolding read_pair
  uncut h p = rw (← e.is, le-ltb cut (length pair) h)

  pub pair_uncut : (name value : List ℕ) → length pair ≤ cut → PairOf pair name value None
  pair_uncut name value h = pair_of_none (uncut h)

  by_parts : cut < length pair → (p : ℕ) → read_pair p pair ≡ pair_of p (decoded (take cut pair)) (decoded (drop (cut + 1) pair))
  unfolding read_pair
  by_parts h p = rw (← e.is, lt-ltb cut (length pair) h)

  module _ (h : cut < length pair) (name : List ℕ) (r : Option ℕ) (d : DecodesTo (take cut pair) name r) where
    pub pair-name_bad : (value : List ℕ) → r ≡ None → PairOf pair name value None
    pair-name_bad value k = by_case (subst (DecodesTo (take cut pair) name) k d)
      where
        by_case : DecodesTo (take cut pair) name None → PairOf pair name value None
        by_case (decodes_bad z) = pair_of_none (λ p. by_parts h p ∙ rw z)

    module _ (n : ℕ) (k : r ≡ Some n) (value : List ℕ) (r' : Option ℕ) (d' : DecodesTo (take (length pair - (cut + 1)) (drop (cut + 1) pair)) value r') where
      whole : DecodesTo (drop (cut + 1) pair) value r'
      whole = subst (λ (l : List ℕ). DecodesTo l value r') (rest pair (cut + 1)) d'

      pub pair-value_bad : r' ≡ None → PairOf pair name value None
      pair-value_bad k' = by_case (subst (DecodesTo (take cut pair) name) k d) (subst (DecodesTo (drop (cut + 1) pair) value) k' whole)
        where
          by_case : DecodesTo (take cut pair) name (Some n) → DecodesTo (drop (cut + 1) pair) value None → PairOf pair name value None
          by_case (decodes_bytes x l) (decodes_bad z) = pair_of_none (λ p. by_parts h p ∙ rw (x, z))

      pub pair_read : (m : ℕ) → r' ≡ Some m → PairOf pair name value (Some (record { name = n; value = m }))
      pair_read m k' = by_case (subst (DecodesTo (take cut pair) name) k d) (subst (DecodesTo (drop (cut + 1) pair) value) k' whole)
        where
          by_case : DecodesTo (take cut pair) name (Some n) → DecodesTo (drop (cut + 1) pair) value (Some m) → PairOf pair name value (Some (record { name = n; value = m }))
          by_case (decodes_bytes x l) (decodes_bytes y l') =
              pair-of {n = n} {m = m} (λ p. by_parts h p ∙ rw (x, y)) (omega (arith, l, l', length-take-le cut pair (omega arith), length-drop (cut + 1) pair))
