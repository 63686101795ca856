-- The relations by their ends are those by their instants.
-- Most rest on a witness: a period that starts before an instant has an instant before it (`start_witness`), and one that ends after an
-- instant has an instant at it or behind it (`end_witness`). For `overlaps` the witness has to lie in the date as well (`common`). The other
-- directions are laws of the order: an instant of the period lies between its ends. `covers` takes no witness in the period: if the period
-- ended within the date, its end would be an instant of the date and none of the period (`ends-within`). It is asked that the period has an
-- instant, and that the date's start is one of the date's.
-- Assumes nothing.
use Rattle.std.specs.Prelude.{Option, Some, None}
use Prim.Native.Nat.{zero, suc}
use native.Mathlib.Omega.{arith}
use mathlib.Core.Path.{◌≡◌, refl}
use mathlib.Core.Bool.{Bool, true, not}
use mathlib.Core.Logic.{◌↔◌, ◌⊎◌, ⊎_elim}
use lib.IntN.{ℤ, pos, negsuc}
use lib.Signed.{lt_z, ◌≤ℤ◌, ◌<ℤ◌, ≤ℤ_refl, <ℤ-≤ℤ_trans, <ℤ_irrefl, clash_ℤ}
use borrow.Author.Tests.{lt-ltb, not-true}
use Rattle.base.proofs.Integers.{le_z_iff, lt_z_iff, lt_z_false, <ℤ-≤ℤ, ≤ℤ-trans}
use Rattle.base.proofs.Tests.{and_left, and_right, and_both, decided, both_ways}
use Rattle.date.specs.declared.Date.{Date}
use Rattle.date.specs.Instants.{InRange}
use Rattle.period.specs.Instants.{From, from_open, from_known, Until, until_open, until_known, InPeriod, Inhabited, AfterAll, BeforeAll, Held, Holds, Meets, SomeAfter, SomeBefore, EveryAfter, EveryBefore}
use Rattle.period.specs.Relations.{starts_before, starts_no_later, ends_after, ends_no_earlier, inside, later, earlier, starts_after, ends_before, overlaps, covers}
use Rattle.period.specs.declared.Period.{Period}

-- ---- order

≤ℤ-<ℤ-trans : {a b c : ℤ} → a ≤ℤ b → b <ℤ c → a <ℤ c
≤ℤ-<ℤ-trans {a} {b} {c} h k = ⊎_elim (λ e. (lt_z_iff a c).0 e) (λ e. clash_ℤ k (≤ℤ-trans (lt_z_false a c e) h)) (decided (lt_z a c))

-- an instant before another
pub less : (z : ℤ) → (y : ℤ) × (y <ℤ z)
less (pos zero) = (negsuc 0, (lt_z_iff (negsuc 0) (pos zero)).0 refl)
less (pos (suc n)) = (pos n, (lt_z_iff (pos n) (pos (suc n))).0 (lt-ltb n (suc n) (omega arith)))
less (negsuc n) = (negsuc (suc n), (lt_z_iff (negsuc (suc n)) (negsuc n)).0 (lt-ltb n (suc n) (omega arith)))

-- what is not before lies at or behind
no_less : (a b : ℤ) → (a <ℤ b → ⊥) → b ≤ℤ a
no_less a b n = ⊎_elim (λ e. absurd (n ((lt_z_iff a b).0 e))) (λ e. lt_z_false a b e) (decided (lt_z a b))

-- ---- an end and an instant

-- an end lies behind the instants before it
until_there : (e : Option ℤ) (t : ℤ) → ends_after e t ≡ true → Until e t
unfolding ends_after
until_there None t h = until_open
until_there (Some e) t h = until_known ((lt_z_iff t e).0 h)

until_back : (e : Option ℤ) (t u : ℤ) → u ≤ℤ t → Until e t → ends_after e u ≡ true
unfolding ends_after
until_back None t u l until_open = refl
until_back (Some e) t u l (until_known h) = (lt_z_iff u e).1 (≤ℤ-<ℤ-trans l h)

until_down : (e : Option ℤ) (t u : ℤ) → u ≤ℤ t → Until e t → Until e u
until_down e t u l h = until_there e u (until_back e t u l h)

-- a start lies before what lies behind its instants
from_back : (s : Option ℤ) (t b : ℤ) → From s t → t <ℤ b → starts_before s b ≡ true
unfolding starts_before
from_back None t b from_open l = refl
from_back (Some s) t b (from_known h) l = (lt_z_iff s b).1 (≤ℤ-<ℤ-trans h l)

from_up : (s : Option ℤ) (t u : ℤ) → From s t → t ≤ℤ u → From s u
from_up None t u from_open l = from_open
from_up (Some s) t u (from_known h) l = from_known (≤ℤ-trans h l)

from_there : (s : Option ℤ) (t : ℤ) → starts_no_later s t ≡ true → From s t
unfolding starts_no_later
from_there None t h = from_open
from_there (Some s) t h = from_known ((le_z_iff s t).0 h)

from_test : (s : Option ℤ) (t : ℤ) → From s t → starts_no_later s t ≡ true
unfolding starts_no_later
from_test None t from_open = refl
from_test (Some s) t (from_known h) = (le_z_iff s t).1 h

-- before an end there is an instant that lies before another, too
until_less : (e : Option ℤ) (b : ℤ) → (t : ℤ) × Until e t × (t <ℤ b)
until_less None b = let y = less b in (y.0, until_open, y.1)
until_less (Some e) b =
    ⊎_elim
    (λ h. let y = less e in (y.0, until_known y.1, <ℤ-≤ℤ_trans y.1 (<ℤ-≤ℤ ((lt_z_iff e b).0 h))))
    (λ h. let y = less b in (y.0, until_known (<ℤ-≤ℤ_trans y.1 (lt_z_false e b h)), y.1))
    (decided (lt_z e b))

-- ---- the two witnesses

-- a period that starts before an instant has an instant before it
start_witness : (s e : Option ℤ) (b t : ℤ) → From s t → Until e t → starts_before s b ≡ true → (u : ℤ) × From s u × Until e u × (u <ℤ b)
unfolding starts_before
start_witness None e b t from_open h l = let y = until_less e b in (y.0, from_open, y.1, y.2)
start_witness (Some s) e b t (from_known g) h l = (s, from_known (≤ℤ_refl s), until_down e t s g h, (lt_z_iff s b).0 l)

-- a period that ends after an instant has one at it or behind it: the instant itself, or else its own start
end_witness : (s e : Option ℤ) (b t : ℤ) → From s t → Until e t → ends_after e b ≡ true → (u : ℤ) × From s u × Until e u × (b ≤ℤ u)
end_witness None e b t from_open h l = (b, from_open, until_there e b l, ≤ℤ_refl b)
end_witness (Some s) e b t (from_known g) h l =
    ⊎_elim
    (λ k. (b, from_known (<ℤ-≤ℤ ((lt_z_iff s b).0 k)), until_there e b l, ≤ℤ_refl b))
    (λ k. (s, from_known (≤ℤ_refl s), until_down e t s g h, lt_z_false s b k))
    (decided (lt_z s b))

refuted : (t : Bool) → (t ≡ true → ⊥) → not t ≡ true
refuted t n = ⊎_elim (λ e. absurd (n e)) (λ e. rw e) (decided t)

module _ (i : Period) (some : Inhabited i) (f : Date) (first : InRange f f.start) where
  starts_there : (b : ℤ) → starts_before i.start b ≡ true → (t : ℤ) × InPeriod i t × (t <ℤ b)
  starts_there b h =
      let w = start_witness i.start i.end b some.0 some.1.from some.1.before h in
      (w.0, record { from = w.1; before = w.2 }, w.3)

  ends_there : (b : ℤ) → ends_after i.end b ≡ true → (t : ℤ) × InPeriod i t × (b ≤ℤ t)
  ends_there b h =
      let w = end_witness i.start i.end b some.0 some.1.from some.1.before h in
      (w.0, record { from = w.1; before = w.2 }, w.3)

  starts-back : (b t : ℤ) → InPeriod i t → t <ℤ b → starts_before i.start b ≡ true
  starts-back b t p l = from_back i.start t b p.from l

  ends-back : (b t : ℤ) → InPeriod i t → b ≤ℤ t → ends_after i.end b ≡ true
  ends-back b t p l = until_back i.end t b l p.before

  -- the same where the test fails
  starts_not : (b : ℤ) → not (starts_before i.start b) ≡ true → (t : ℤ) → InPeriod i t → b ≤ℤ t
  starts_not b h t p = no_less t b (λ l. both_ways (starts-back b t p l) (not-true (starts_before i.start b) h))

  ends_not : (b : ℤ) → not (ends_after i.end b) ≡ true → (t : ℤ) → InPeriod i t → t <ℤ b
  ends_not b h t p =
      ⊎_elim (λ e. (lt_z_iff t b).0 e) (λ e. both_ways (ends-back b t p (lt_z_false t b e)) (not-true (ends_after i.end b) h)) (decided (lt_z t b))

  -- ---- an instant and the date

  after_end : (t : ℤ) → AfterAll f t → f.end ≤ℤ t
  after_end t a = no_less t f.end (λ l. <ℤ_irrefl (a t (record { from = <ℤ-≤ℤ (a f.start first); before = l })))

  end_after : (t : ℤ) → f.end ≤ℤ t → AfterAll f t
  end_after t l u r = <ℤ-≤ℤ_trans r.before l

  start-before : (t : ℤ) → t <ℤ f.start → BeforeAll f t
  start-before t l u r = <ℤ-≤ℤ_trans l r.from

  -- ---- the relations

  pub inside_iff : (inside i f ≡ true) ↔ Held i f
  unfolding inside
  inside_iff = (
    (λ h t p. record {
      from = starts_not f.start (and_left (not (starts_before i.start f.start)) (not (ends_after i.end f.end)) h) t p;
      before = ends_not f.end (and_right (not (starts_before i.start f.start)) (not (ends_after i.end f.end)) h) t p;
    }),
    (λ h. and_both (not (starts_before i.start f.start)) (not (ends_after i.end f.end))
        (refuted (starts_before i.start f.start) (λ e. let w = starts_there f.start e in clash_ℤ w.2 (h w.0 w.1).from))
        (refuted (ends_after i.end f.end) (λ e. let w = ends_there f.end e in clash_ℤ (h w.0 w.1).before w.2))),
  )

  -- a period open at an end has instants beyond every date
  pub open_never_held : (i.start ≡ None) ⊎ (i.end ≡ None) → Held i f → ⊥
  unfolding starts_before ends_after
  open_never_held o h =
      ⊎_elim
      (λ (e : i.start ≡ None). let w = starts_there f.start (rw e) in clash_ℤ w.2 (h w.0 w.1).from)
      (λ (e : i.end ≡ None). let w = ends_there f.end (rw e) in clash_ℤ (h w.0 w.1).before w.2)
      o

  pub later_iff : (later i f ≡ true) ↔ SomeAfter i f
  later_iff = (
    (λ h. let w = ends_there f.end h in (w.0, w.1, end_after w.0 w.2)),
    (λ w. ends-back f.end w.0 w.1 (after_end w.0 w.2)),
  )

  pub earlier_iff : (earlier i f ≡ true) ↔ SomeBefore i f
  earlier_iff = (
    (λ h. let w = starts_there f.start h in (w.0, w.1, start-before w.0 w.2)),
    (λ w. starts-back f.start w.0 w.1 (w.2 f.start first)),
  )

  pub starts-after_iff : (starts_after i f ≡ true) ↔ EveryAfter i f
  starts-after_iff = (
    (λ h t p. end_after t (starts_not f.end h t p)),
    (λ h. refuted (starts_before i.start f.end) (λ e. let w = starts_there f.end e in clash_ℤ w.2 (after_end w.0 (h w.0 w.1)))),
  )

  pub ends-before_iff : (ends_before i f ≡ true) ↔ EveryBefore i f
  ends-before_iff = (
    (λ h t p. start-before t (ends_not f.start h t p)),
    (λ h. refuted (ends_after i.end f.start) (λ e. let w = ends_there f.start e in clash_ℤ (h w.0 w.1 f.start first) w.2)),
  )

  -- an instant of the period at the date's start or behind it, but before its end
  common : (s e : Option ℤ) (t : ℤ) → From s t → Until e t → starts_before s f.end ≡ true → ends_after e f.start ≡ true → (u : ℤ) × From s u × Until e u × InRange f u
  unfolding starts_before
  common None e t g h l k = (f.start, from_open, until_there e f.start k, first)
  common (Some s) e t (from_known g) h l k =
      ⊎_elim
      (λ m. (f.start, from_known (<ℤ-≤ℤ ((lt_z_iff s f.start).0 m)), until_there e f.start k, first))
      (λ m. (s, from_known (≤ℤ_refl s), until_down e t s g h, record { from = lt_z_false s f.start m; before = (lt_z_iff s f.end).0 l }))
      (decided (lt_z s f.start))

  pub overlaps_iff : (overlaps i f ≡ true) ↔ Meets i f
  unfolding overlaps
  overlaps_iff = (
    (λ h.
        let low = starts_before i.start f.end in
        let high = ends_after i.end f.start in
        let w = common i.start i.end some.0 some.1.from some.1.before (and_left low high h) (and_right low high h) in
        (w.0, record { from = w.1; before = w.2 }, w.3)),
    (λ w. and_both (starts_before i.start f.end) (ends_after i.end f.start) (starts-back f.end w.0 w.1 w.2.before) (ends-back f.start w.0 w.1 w.2.from)),
  )

  -- the date ends no later than the period: else the period's end would be an instant of the date
  ends-within : (e : Option ℤ) → Until e f.start → ((t : ℤ) → InRange f t → Until e t) → ends_no_earlier e f.end ≡ true
  unfolding ends_no_earlier
  ends-within None u h = refl
  ends-within (Some e) (until_known u) h =
      (le_z_iff f.end e).1 (no_less e f.end (λ l. own_end (h e (record { from = <ℤ-≤ℤ u; before = l }))))
    where
      own_end : Until (Some e) e → ⊥
      own_end (until_known k) = <ℤ_irrefl k

  ends-within-back : (e : Option ℤ) (t : ℤ) → ends_no_earlier e f.end ≡ true → t <ℤ f.end → Until e t
  unfolding ends_no_earlier
  ends-within-back None t h l = until_open
  ends-within-back (Some e) t h l = until_known (<ℤ-≤ℤ_trans l ((le_z_iff f.end e).0 h))

  pub covers_iff : (covers i f ≡ true) ↔ Holds i f
  unfolding covers
  covers_iff = (
    (λ h t r.
        let low = starts_no_later i.start f.start in
        let high = ends_no_earlier i.end f.end in
        record {
          from = from_up i.start f.start t (from_there i.start f.start (and_left low high h)) r.from;
          before = ends-within-back i.end t (and_right low high h) r.before;
        }),
    (λ h. and_both (starts_no_later i.start f.start) (ends_no_earlier i.end f.end)
        (from_test i.start f.start (h f.start first).from)
        (ends-within i.end (h f.start first).before (λ t r. (h t r).before))),
  )
