-- Laws of reading, as the code does it. Numbers of seconds are read back from their bits.
-- Assumes nothing.
use Rattle.std.specs.Prelude.{Option, Some, None, MatchOption, IsSomeAnd}
use Prim.Native.Nat.{ℕ, ◌+◌, ◌-◌, ◌≤◌, ◌<◌}
use mathlib.Core.Path.{◌≡◌, sym, ap, ◌∙◌}
use mathlib.Core.Bool.{Bool, true, false}
use mathlib.Core.List.{List}
use native.Mathlib.Omega.{arith}
use lib.IntN.{ℤ}
use lib.ListN.{length, take, drop}
use lib.Signed.{lt_z}
use mir.Syntax.{w64}
use mir.Val.{SFits, to_z, of_z}
use mir.ValLaws.{to_z-of_z}
use borrow.Author.Tests.{ne_eqb}
use Rattle.base.specs.Split.{first_of}
use Rattle.base.proofs.Split.{split_none, split_parts}
use Rattle.date.specs.declared.Date.{Date}
use Rattle.date.specs.Texts as texts
use Rattle.period.specs.Texts.{slash, period, known, from_to, both_ends, open_end, open_start, read_parts, read, span_or, read_span}
use Rattle.period.specs.declared.Period.{Period}

-- ---- ends

abbrev at : ℤ → Option ℤ
at z = Some (to_z w64 (of_z w64 z))

at_back : (z : ℤ) → SFits w64 z → at z ≡ Some z
at_back z f = ap (λ (x : ℤ). Some x) (to_z-of_z w64 z f)

module _ (a b : Date) (low : SFits w64 a.start) (high : SFits w64 b.end) where
  both-back : period (at a.start) (at b.end) ≡ period (Some a.start) (Some b.end)
  both-back = rw (at_back a.start low, at_back b.end high)

  pub from_to_on : (t : Bool) → t ≡ lt_z a.start b.end → t ≡ true → Some (period (at a.start) (at b.end)) ≡ from_to a b
  unfolding from_to
  from_to_on t e h = rw (sym e ∙ h) (ap (λ (p : Period). Some p) both-back)

pub from_to_off : (a b : Date) (t : Bool) → t ≡ lt_z a.start b.end → t ≡ false → None ≡ from_to a b
unfolding from_to
from_to_off a b t e h = rw (sym e ∙ h)

pub known_is : (d : Date) → SFits w64 d.start → SFits w64 d.end → period (at d.start) (at d.end) ≡ known d
unfolding known
known_is d low high = both-back d d low high

-- ---- one date, two dates

module _ (t : List ℕ) (r : Option Date) (e : r ≡ texts.read t) where
  pub end_unreadable : r ≡ None → None ≡ open_end (texts.read t)
  unfolding open_end
  end_unreadable h = rw (sym e ∙ h)

  pub start_unreadable : r ≡ None → None ≡ open_start (texts.read t)
  unfolding open_start
  start_unreadable h = rw (sym e ∙ h)

  module _ (d : Date) (h : r ≡ Some d) where
    pub end_open : SFits w64 d.start → Some (period (at d.start) None) ≡ open_end (texts.read t)
    unfolding open_end
    end_open f = rw (sym e ∙ h, at_back d.start f)

    pub start_open : SFits w64 d.end → Some (period None (at d.end)) ≡ open_start (texts.read t)
    unfolding open_start
    start_open f = rw (sym e ∙ h, at_back d.end f)

  module _ (u : List ℕ) where
    pub first_unreadable : r ≡ None → None ≡ both_ends (texts.read t) (texts.read u)
    unfolding both_ends
    first_unreadable h = rw (sym e ∙ h)

    module _ (a : Date) (h : r ≡ Some a) (s : Option Date) (f : s ≡ texts.read u) where
      pub second_unreadable : s ≡ None → None ≡ both_ends (texts.read t) (texts.read u)
      unfolding both_ends
      second_unreadable k = rw (sym e ∙ h, sym f ∙ k)

      pub both-readable : (b : Date) (q : Option Period) → s ≡ Some b → q ≡ from_to a b → q ≡ both_ends (texts.read t) (texts.read u)
      unfolding both_ends
      both-readable b q k g = rw (sym e ∙ h, sym f ∙ k) g

-- ---- the parts

module _ (a b : List ℕ) (r : Option Period) where
  pub parts_second : length a ≡ 0 → r ≡ open_start (texts.read b) → r ≡ read_parts a b
  unfolding read_parts
  parts_second h e = rw h e

  module _ (n : length a ≡ 0 → ⊥) where
    pub parts_first : length b ≡ 0 → r ≡ open_end (texts.read a) → r ≡ read_parts a b
    unfolding read_parts
    parts_first h e = rw (ne_eqb (length a) 0 n, h) e

    pub parts_both : (length b ≡ 0 → ⊥) → r ≡ both_ends (texts.read a) (texts.read b) → r ≡ read_parts a b
    unfolding read_parts
    parts_both m e = rw (ne_eqb (length a) 0 n, ne_eqb (length b) 0 m) e

module _ (t : List ℕ) (i : ℕ) (e : i ≡ first_of slash t) where
  pub read_parts_lem : (r : Option Period) → i < length t → r ≡ read_parts (take i t) (take (length t - (i + 1)) (drop (i + 1) t)) → r ≡ read t
  unfolding read
  read_parts_lem r h f = rw (split_parts slash t i e h) f

  pub read_whole : length t ≤ i → None ≡ read t
  unfolding read
  read_whole h = rw (split_none slash t i e h)

-- ---- the whole

module _ (t : List ℕ) (r : Option Date) (e : r ≡ texts.read t) where
  span_date : (d : Date) (p : Period) → r ≡ Some d → p ≡ known d → Some p ≡ read_span t
  unfolding read_span span_or
  span_date d p h k = rw (sym e ∙ h) (ap (λ (x : Period). Some x) k)

  span_period : (q : Option Period) → r ≡ None → q ≡ read t → q ≡ read_span t
  unfolding read_span span_or
  span_period q h k = rw (sym e ∙ h) k

  -- what is made of a date that is read, and where none is, what else is read
  pub span_first : (P : Date → Period → Type 0) (Q : Type 0) (o : Option Date) (m q : Option Period) → r ≡ o → MatchOption o (m ≡ None) (λ d. IsSomeAnd m (P d))
      → MatchOption m Q (λ p. q ≡ Some p) → ((d : Date) (p : Period) → P d p → p ≡ known d) → (Q → q ≡ read t) → q ≡ read_span t
  span_first P Q (Some d) (Some p) q h x y f g = y ∙ span_date d p h (f d p x)
  span_first P Q (Some d) None q h x y f g = elim x [ ]
  span_first P Q None None q h x y f g = span_period q h (g y)
  span_first P Q None (Some p) q h x y f g = let z : ◌≡◌ {A = ℕ} 0 1 = cc in absurd (omega arith)
