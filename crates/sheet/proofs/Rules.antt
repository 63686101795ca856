-- Laws of parameters: what the code's tests decide, for the parameters of a list, and that the tests are the rules.
-- The first half says that a test of a list is the test of each of its parameters. The second half puts the tests into the rules' words,
-- `-there` and `-back` for the two directions: `parameter_iff` by the cases of the kind, `parameters_iff`, `distinct_iff` and `parents_iff` by
-- induction on the list.
-- Assumes nothing.
use Prim.Native.Nat.{ℕ, ◌-◌, ◌≤◌, ◌<◌}
use native.Mathlib.Omega.{arith}
use mathlib.Core.Path.{◌≡◌, refl, ap, sym, ◌∙◌}
use mathlib.Core.Bool.{Bool, true, false, not, ◌&&◌, and-true, and-false, or-true}
use mathlib.Core.Logic.{◌↔◌, ◌⊎◌, inl, inr, ⊎_elim}
use mathlib.Core.List.{List, [], ◌∷◌}
use Rattle.std.specs.List.{list_all}
use lib.Dec.{leb, eqb}
use lib.ListN.{length}
use borrow.Author.Tests.{not-true, leb-true, le-leb, eqb-true, eqb-false, eq-eqb, ne_eqb}
use Rattle.std.proofs.lemmas.Bool.{lt-leb}
use Rattle.base.specs.Lists.{All, all_empty, all_cons, equal}
use Rattle.base.specs.Between.{between}
use Rattle.base.specs.Names.{is_name}
use Rattle.base.proofs.Tests.{and_left, and_right, and_both, both_ways, or_either}
use Rattle.base.proofs.Lists.{equal-same, equal_refl}
use Rattle.base.proofs.Names.{name_iff, name-length}
use Rattle.base.specs.Kinds.{bundle_kind, kind_number}
use Rattle.base.specs.declared.kind.Kind.{Kind}
use Rattle.base.proofs.Named.{no_kind_beyond}
use Rattle.sheet.specs.Sheet.{Parameter, parameter, is_kind, is_parameter, are_parameters, clashes, absent, distinct, kind_at, has_parent, have_parents}
use Rattle.sheet.specs.Encode.{ValueKind, WellFormedParameter, MayShare, Absent, HasParent, at_top, in_bundle, Distinct, distinct_empty, distinct_cons}
use Rattle.sheet.proofs.Listed.{at_listed, listed_kind}

-- ---- one parameter

-- what a kind decides
module _ (w : Bool) (k : ℕ) where
  pub kind_value : 1 ≤ k → k ≤ 6 → true ≡ is_kind w k
  unfolding is_kind between
  kind_value low high = rw (le-leb 1 k low, le-leb k 6 high)

  pub kind_bundle : k ≡ 7 → w ≡ is_kind w k
  unfolding is_kind between
  kind_bundle e = rw (e, and-true w)

  -- a number that is no kind's
  pub no_kind : ((x : Kind) → kind_number x ≡ k → ⊥) → false ≡ is_kind w k
  unfolding is_kind between
  no_kind n =
      ⊎_elim
      (λ (l : k < 1). rw (lt-leb 1 k l, ne_eqb k 7 (λ e. omega (arith, e, l)), and-false w))
      (λ (m : 7 < k). rw (lt-leb k 6 (omega (arith, m)), and-false (leb 1 k), ne_eqb k 7 (λ e. omega (arith, e, m)), and-false w))
      (no_kind_beyond k n)

-- what the name decides, where the kind is right
name-decides : (w : Bool) (k c : ℕ) (n : List ℕ) (t : Bool) → t ≡ is_kind w k → t ≡ true → length n ≤ 30 → (r : Bool) → r ≡ is_name n → r ≡ is_parameter w (parameter k c n)
unfolding is_parameter
name-decides w k c n t i y h r e = rw (sym i ∙ y, le-leb (length n) 30 h) e

-- ---- a list of parameters: each test of a list is `all` of a test

pub are_all : (w : Bool) (ps : List Parameter) → list_all (is_parameter w) ps ≡ are_parameters w ps
unfolding are_parameters
are_all w [] = refl
are_all w (p ∷ ps) = ap (λ (b : Bool). is_parameter w p && b) (are_all w ps)

pub absent_all : (c : ℕ) (n : List ℕ) (ps : List Parameter) → list_all (λ (p : Parameter). not (clashes p.bundle c (equal p.name n))) ps ≡ absent c n ps
unfolding absent
absent_all c n [] = refl
absent_all c n (p ∷ ps) = ap (λ (b : Bool). not (clashes p.bundle c (equal p.name n)) && b) (absent_all c n ps)

pub parents_all : (ps qs : List Parameter) → list_all (λ (q : Parameter). has_parent ps q.kind q.bundle) qs ≡ have_parents ps qs
unfolding have_parents
parents_all ps [] = refl
parents_all ps (q ∷ qs) = ap (λ (b : Bool). has_parent ps q.kind q.bundle && b) (parents_all ps qs)

-- a turn over the parameters to come, for the names
module _ (all xs : List Parameter) (inv : distinct xs ≡ distinct all) where
  module _ (p : Parameter) (ps : List Parameter) (e : xs ≡ p ∷ ps) where
    pub distinct-next : absent p.bundle p.name ps ≡ true → distinct ps ≡ distinct all
    unfolding distinct
    distinct-next t = sym (ap distinct e ∙ rw t) ∙ inv

    pub distinct_not : absent p.bundle p.name ps ≡ false → false ≡ distinct all
    unfolding distinct
    distinct_not f = sym (ap distinct e ∙ rw f) ∙ inv

  pub distinct_end : xs ≡ [] → true ≡ distinct all
  unfolding distinct
  distinct_end e = sym (ap distinct e) ∙ inv

-- ---- the same name in two bundles

module _ (a c : ℕ) (same : Bool) where
  pub clash_other : same ≡ false → false ≡ clashes a c same
  unfolding clashes
  clash_other h = rw h

  module _ (h : same ≡ true) where
    pub clash_asked_top : c ≡ 0 → true ≡ clashes a c same
    unfolding clashes
    clash_asked_top e = rw (h, e)

-- ---- a parent

module _ (ps : List Parameter) (k c : ℕ) where
  pub parent_top : c ≡ 0 → true ≡ has_parent ps k c
  unfolding has_parent
  parent_top e = rw e

  module _ (n : c ≡ 0 → ⊥) where
    pub parent_kind : (k ≡ 7 → ⊥) → (j : ℕ) → j ≡ kind_at (c - 1) ps → eqb j 7 ≡ has_parent ps k c
    unfolding has_parent
    parent_kind m j e = rw (ne_eqb c 0 n, ne_eqb k 7 m, ← e)

-- ---- the rules' words

-- a kind that may stand on a sheet with bundles, and on one without
kind_there : (w : Bool) (k : ℕ) → is_kind w k ≡ true → ValueKind k ⊎ ((k ≡ bundle_kind) × (w ≡ true))
unfolding is_kind between
kind_there w k h =
    ⊎_elim (λ (v : (leb 1 k && leb k 6) ≡ true). inl (record { lowest = leb-true 1 k (and_left (leb 1 k) (leb k 6) v); highest = leb-true k 6 (and_right (leb 1 k) (leb k 6) v) }))
    (λ (v : (w && eqb k 7) ≡ true). inr (eqb-true k 7 (and_right w (eqb k 7) v), and_left w (eqb k 7) v)) (or_either (leb 1 k && leb k 6) (w && eqb k 7) h)

-- what it takes on a sheet with bundles or without
abbrev pub FormOf : Bool → Parameter → Type 0
FormOf w p = w ≡ false → ValueKind p.kind

parameter_there : (w : Bool) (p : Parameter) → is_parameter w p ≡ true → WellFormedParameter p × FormOf w p
unfolding is_parameter
parameter_there w p h =
    let named = leb (length p.name) 30 && is_name p.name in
    let k = kind_there w p.kind (and_left (is_kind w p.kind) named h) in
    let n = and_right (is_kind w p.kind) named h in
    let name = (name_iff p.name).0 (and_right (leb (length p.name) 30) (is_name p.name) n) in (
      record {
        kind = ⊎_elim (λ v. inl v) (λ v. inr v.0) k;
        shortest = name-length p.name name;
        longest = leb-true (length p.name) 30 (and_left (leb (length p.name) 30) (is_name p.name) n);
        name = name;
      },
      (λ f. ⊎_elim (λ v. v) (λ v. both_ways v.1 f) k),
    )

kind_back : (w : Bool) (k : ℕ) → ValueKind k ⊎ (k ≡ bundle_kind) → (w ≡ false → ValueKind k) → true ≡ is_kind w k
kind_back w k (inl v) f = kind_value w k v.lowest v.highest
kind_back true k (inr e) f = kind_bundle true k e
kind_back false k (inr e) f = let v = f refl in kind_value false k v.lowest v.highest

pub parameter_iff : (w : Bool) (p : Parameter) → (is_parameter w p ≡ true) ↔ (WellFormedParameter p × FormOf w p)
parameter_iff w p = (
  parameter_there w p,
  (λ v. sym (name-decides w p.kind p.bundle p.name true (kind_back w p.kind v.0.kind v.1) refl v.0.longest true (sym ((name_iff p.name).1 v.0.name)))),
)

parameters_there : (w : Bool) (ps : List Parameter) → are_parameters w ps ≡ true → All WellFormedParameter ps × All (FormOf w) ps
unfolding are_parameters
parameters_there w [] h = (all_empty, all_empty)
parameters_there w (p ∷ ps) h =
    let f = (parameter_iff w p).0 (and_left (is_parameter w p) (are_parameters w ps) h) in
    let r = parameters_there w ps (and_right (is_parameter w p) (are_parameters w ps) h) in
    (all_cons f.0 r.0, all_cons f.1 r.1)

parameters_back : (w : Bool) (ps : List Parameter) → All WellFormedParameter ps → All (FormOf w) ps → are_parameters w ps ≡ true
unfolding are_parameters
parameters_back w [] h g = refl
parameters_back w (p ∷ ps) (all_cons v h) (all_cons f g) = and_both (is_parameter w p) (are_parameters w ps) ((parameter_iff w p).1 (v, f)) (parameters_back w ps h g)

pub parameters_iff : (w : Bool) (ps : List Parameter) → (are_parameters w ps ≡ true) ↔ (All WellFormedParameter ps × All (FormOf w) ps)
parameters_iff w ps = (parameters_there w ps, (λ h. parameters_back w ps h.0 h.1))

-- a name that does not clash may be shared
clash_there : (a c : ℕ) → clashes a c true ≡ false → MayShare a c
unfolding clashes
clash_there a c h = (
  (λ e. both_ways (sym (clash_top' e)) h),
  (λ e. both_ways (sym (clash_asked_top a c true refl e)) h),
  (λ e. both_ways (rw (eq-eqb a c e, or-true (eqb a 0), or-true (eqb c 0))) h),
)
  where
    clash_top' : a ≡ 0 → true ≡ clashes a c true
    clash_top' e = rw (e, or-true (eqb c 0))

clash_back : (a c : ℕ) → MayShare a c → clashes a c true ≡ false
unfolding clashes
clash_back a c h = rw (ne_eqb c 0 h.1, ne_eqb a 0 h.0, ne_eqb a c h.2)

absent_there : (c : ℕ) (n : List ℕ) (ps : List Parameter) → absent c n ps ≡ true → Absent c n ps
unfolding absent
absent_there c n [] h = all_empty
absent_there c n (p ∷ ps) h =
    let t = clashes p.bundle c (equal p.name n) in
    let f = not-true t (and_left (not t) (absent c n ps) h) in
    all_cons {x = p} (λ e. clash_there p.bundle c (sym (ap (clashes p.bundle c) (ap (λ (l : List ℕ). equal l n) e ∙ equal_refl n)) ∙ f)) (absent_there c n ps (and_right (not t) (absent c n ps) h))

absent-back : (c : ℕ) (n : List ℕ) (ps : List Parameter) → Absent c n ps → absent c n ps ≡ true
unfolding absent
absent-back c n [] h = refl
absent-back c n (p ∷ ps) (all_cons d h) = rw (by_name (equal p.name n) refl) (absent-back c n ps h)
  where
    by_name : (t : Bool) → equal p.name n ≡ t → clashes p.bundle c (equal p.name n) ≡ false
    by_name true e = ap (clashes p.bundle c) e ∙ clash_back p.bundle c (d (equal-same p.name n e))
    by_name false e = ap (clashes p.bundle c) e ∙ sym (clash_other p.bundle c false refl)

distinct_there : (ps : List Parameter) → distinct ps ≡ true → Distinct ps
unfolding distinct
distinct_there [] h = distinct_empty
distinct_there (p ∷ ps) h =
    let t = absent p.bundle p.name ps in
    distinct_cons (absent_there p.bundle p.name ps (and_left t (distinct ps) h)) (distinct_there ps (and_right t (distinct ps) h))

distinct-back : (ps : List Parameter) → Distinct ps → distinct ps ≡ true
unfolding distinct
distinct-back [] h = refl
distinct-back (p ∷ ps) (distinct_cons a h) = and_both (absent p.bundle p.name ps) (distinct ps) (absent-back p.bundle p.name ps a) (distinct-back ps h)

pub distinct_iff : (ps : List Parameter) → (distinct ps ≡ true) ↔ Distinct ps
distinct_iff ps = (distinct_there ps, distinct-back ps)

-- ---- parents

parent_there : (ps : List Parameter) (p : Parameter) → has_parent ps p.kind p.bundle ≡ true → HasParent ps p
unfolding has_parent
parent_there ps p h =
    ⊎_elim (λ (e : eqb p.bundle 0 ≡ true). at_top (eqb-true p.bundle 0 e)) (λ (e : (not (eqb p.kind 7) && eqb (kind_at (p.bundle - 1) ps) 7) ≡ true). by (eqb p.bundle 0) refl e)
    (or_either (eqb p.bundle 0) (not (eqb p.kind 7) && eqb (kind_at (p.bundle - 1) ps) 7) h)
  where
    by : (t : Bool) → eqb p.bundle 0 ≡ t → (not (eqb p.kind 7) && eqb (kind_at (p.bundle - 1) ps) 7) ≡ true → HasParent ps p
    by true z e = at_top (eqb-true p.bundle 0 z)
    by false z e =
        let k : kind_at (p.bundle - 1) ps ≡ 7 = eqb-true (kind_at (p.bundle - 1) ps) 7 (and_right (not (eqb p.kind 7)) (eqb (kind_at (p.bundle - 1) ps) 7) e) in
        let l = at_listed (p.bundle - 1) ps 6 k in
        let n : p.bundle ≡ 0 → ⊥ = eqb-false p.bundle 0 z in
        in_bundle l.1 l.2 (omega arith) (λ s. both_ways (eq-eqb p.kind 7 s) (not-true (eqb p.kind 7) (and_left (not (eqb p.kind 7)) (eqb (kind_at (p.bundle - 1) ps) 7) e)))

parent_back : (ps : List Parameter) (p : Parameter) → HasParent ps p → true ≡ has_parent ps p.kind p.bundle
parent_back ps p (at_top e) = parent_top ps p.kind p.bundle e
parent_back ps p (in_bundle {i = i} {q = q} l k e n) =
    let m : p.bundle ≡ 0 → ⊥ = λ z. omega arith in
    let j : p.bundle - 1 ≡ i = omega arith in
    sym (eq-eqb 7 7 refl) ∙ parent_kind ps p.kind p.bundle m n 7 (sym (ap (λ (x : ℕ). kind_at x ps) j ∙ listed_kind ps i q l ∙ k))

parents_there : (ps qs : List Parameter) → have_parents ps qs ≡ true → All (HasParent ps) qs
unfolding have_parents
parents_there ps [] h = all_empty
parents_there ps (q ∷ qs) h =
    let t = has_parent ps q.kind q.bundle in
    all_cons (parent_there ps q (and_left t (have_parents ps qs) h)) (parents_there ps qs (and_right t (have_parents ps qs) h))

parents_back : (ps qs : List Parameter) → All (HasParent ps) qs → have_parents ps qs ≡ true
unfolding have_parents
parents_back ps [] h = refl
parents_back ps (q ∷ qs) (all_cons p h) = and_both (has_parent ps q.kind q.bundle) (have_parents ps qs) (sym (parent_back ps q p)) (parents_back ps qs h)

pub parents_iff : (ps qs : List Parameter) → (have_parents ps qs ≡ true) ↔ All (HasParent ps) qs
parents_iff ps qs = (parents_there ps qs, parents_back ps qs)
