-- Where a parameter that is found stands: by its name, and by its index.
-- By induction on the list: what the search by name finds stands there (`found_listed`), and the first parameter with a name in a bundle is
-- found (`listed_found`). Where the names are distinct none before a parameter has its name in its bundle (`distinct-before`), so it is the
-- first. These give the two directions of `find_iff`. By index: a kind other than 0 is that of the parameter there (`at_listed`), and a
-- parameter's kind is found at its index (`listed_kind`). A table of 32 cells is the list with zeros behind it, so its cells give the same
-- (`table_kind`, `table_listed`).
-- Assumes nothing.
use Rattle.std.specs.Prelude.{Option, None, Some}
use Prim.Native.Nat.{ℕ, zero, suc, ◌+◌, ◌-◌}
use native.Mathlib.Nat.{add-zero}
use native.Mathlib.Omega.{arith}
use mathlib.Core.Path.{◌≡◌, refl, ap, ap₂, sym, ◌∙◌, subst}
use mathlib.Core.Bool.{Bool, true, false, cond, ◌&&◌}
use lib.Dec.{eqb}
use borrow.Author.Tests.{eqb-true, eq-eqb, ne_eqb}
use mathlib.Core.Logic.{◌↔◌}
use mathlib.Core.List.{List, [], ◌∷◌, ◌++◌, map}
use lib.ListN.{length, get_or, replicate}
use Rattle.base.specs.Lists.{Listed, All, all_empty, all_cons, equal}
use Rattle.base.proofs.Tests.{and_left, and_right}
use Rattle.base.proofs.All.{all_head, all_right}
use Rattle.base.proofs.Lists.{equal-same, equal_refl}
use Rattle.base.specs.Parts.{padded}
use Rattle.base.proofs.Lists.{listed_first, listed_later}
use Rattle.sheet.specs.Sheet.{Parameter, parameter, kind_at}
use Rattle.sheet.specs.Encode.{MayShare, Distinct, distinct_cons}
use Rattle.sheet.specs.Find.{found_at, find_from, find, enter, table_of, kinds_of}
use Rattle.sheet.specs.declared.Found.{Found}

-- ---- what is found by name

-- one index and one kind are found
pub found_same : {i j k l : ℕ} → found_at i k ≡ found_at j l → (i ≡ j) × (k ≡ l)
found_same {i} {j} {k} {l} e =
    let same : ◌≡◌ {A = Found} (record { index = i; kind = k }) (record { index = j; kind = l }) = cc in (ap (λ (f : Found). f.index) same, ap (λ (f : Found). f.kind) same)

-- the test on a parameter, taken apart
named_there : (p : Parameter) (c : ℕ) (n : List ℕ) → (eqb p.bundle c && equal p.name n) ≡ true → p ≡ parameter p.kind c n
named_there p c n e =
    ap₂ (λ (d : ℕ) (l : List ℕ). parameter p.kind d l) (eqb-true p.bundle c (and_left (eqb p.bundle c) (equal p.name n) e)) (equal-same p.name n (and_right (eqb p.bundle c) (equal p.name n) e))

-- a name that is found is that of the parameter there
found_listed : (j c : ℕ) (n : List ℕ) (ps : List Parameter) (i k : ℕ) → find_from j c n ps ≡ found_at i k → (m : ℕ) × (i ≡ j + m) × Listed ps m (parameter k c n)
unfolding find_from
found_listed j c n [] i k h = absurd (let z : ◌≡◌ {A = ℕ} 0 1 = cc in omega arith)
found_listed j c n (p ∷ ps) i k h =
    by_name (eqb p.bundle c && equal p.name n) refl h (found_listed (suc j) c n ps i k)
  where
    by_name : (t : Bool) → (eqb p.bundle c && equal p.name n) ≡ t → cond t (found_at j p.kind) (find_from (suc j) c n ps) ≡ found_at i k
        → (find_from (suc j) c n ps ≡ found_at i k → (m : ℕ) × (i ≡ suc j + m) × Listed ps m (parameter k c n)) → (m : ℕ) × (i ≡ j + m) × Listed (p ∷ ps) m (parameter k c n)
    by_name true e g again =
        let index : i ≡ j + 0 = omega (arith, (found_same g).0) in
        let same : p ≡ parameter k c n = named_there p c n e ∙ ap (λ (l : ℕ). parameter l c n) (found_same g).1 in
        (0, index, subst (λ (q : Parameter). Listed (p ∷ ps) 0 q) same (listed_first p ps))
    by_name false e g again =
        let r = again g in
        (suc r.0, omega (arith, r.1), listed_later p r.2)

-- no parameter has the name n in the bundle c
abbrev Unnamed : ℕ → List ℕ → List Parameter → Type 0
Unnamed c n = All (λ (p : Parameter). p.bundle ≡ c → p.name ≡ n → ⊥)

named_not : (p : Parameter) (c : ℕ) (n : List ℕ) → (p.bundle ≡ c → p.name ≡ n → ⊥) → (t u : Bool) → eqb p.bundle c ≡ t → equal p.name n ≡ u → (eqb p.bundle c && equal p.name n) ≡ false
named_not p c n d true true e f = absurd (d (eqb-true p.bundle c e) (equal-same p.name n f))
named_not p c n d true false e f = rw (e, f)
named_not p c n d false u e f = rw e

-- the first parameter with a name is found
listed_found : (j c : ℕ) (n : List ℕ) (k : ℕ) (before after : List Parameter) → Unnamed c n before
    → find_from j c n (before ++ (parameter k c n ∷ after)) ≡ found_at (j + length before) k
unfolding find_from
listed_found j c n k [] after h = rw (eq-eqb c c refl, equal_refl n, add-zero j)
listed_found j c n k (q ∷ before) after (all_cons d h) =
    let index : suc j + length before ≡ j + suc (length before) = omega arith in
    rw (named_not q c n d (eqb q.bundle c) (equal q.name n) refl refl) (listed_found (suc j) c n k before after h ∙ ap (λ (m : ℕ). found_at m k) index)

-- where no name is twice, none of the parameters before another has its name in its bundle
distinct-before : (before : List Parameter) (p : Parameter) (after : List Parameter) → Distinct (before ++ (p ∷ after)) → Unnamed p.bundle p.name before
distinct-before [] p after d = all_empty
distinct-before (q ∷ before) p after (distinct_cons a d) =
    let share : p.name ≡ q.name → MayShare p.bundle q.bundle = all_head (λ (x : Parameter). x.name ≡ q.name → MayShare x.bundle q.bundle) (all_right (λ (x : Parameter). x.name ≡ q.name → MayShare x.bundle q.bundle) before a) in
    all_cons {x = q} (λ b e. (share (sym e)).2 (sym b)) (distinct-before before p after d)

-- a name is found in a bundle exactly where its parameter stands
pub find_iff : (c : ℕ) (n : List ℕ) (ps : List Parameter) → Distinct ps → (i k : ℕ) → (find c n ps ≡ found_at i k) ↔ Listed ps i (parameter k c n)
unfolding find
find_iff c n ps d i k = (there, back)
  where
    there : find_from 0 c n ps ≡ found_at i k → Listed ps i (parameter k c n)
    there h =
        let r = found_listed 0 c n ps i k h in
        let e : r.0 ≡ i = omega (arith, r.1) in
        subst (λ (m : ℕ). Listed ps m (parameter k c n)) e r.2

    back : Listed ps i (parameter k c n) → find_from 0 c n ps ≡ found_at i k
    back l =
        let e : 0 + length l.before ≡ i = omega (arith, l.index) in
        ap (find_from 0 c n) l.split
        ∙ listed_found 0 c n k l.before l.after (distinct-before l.before (parameter k c n) l.after (subst Distinct l.split d))
        ∙ ap (λ (m : ℕ). found_at m k) e

-- ---- what is found by index

-- a kind that is not 0 is that of the parameter there
pub at_listed : (i : ℕ) (ps : List Parameter) (k : ℕ) → kind_at i ps ≡ suc k → (q : Parameter) × Listed ps i q × (q.kind ≡ suc k)
unfolding kind_at
at_listed i [] k h = absurd (omega arith)
at_listed zero (p ∷ ps) k h = (p, listed_first p ps, h)
at_listed (suc i) (p ∷ ps) k h = let r = at_listed i ps k h in (r.0, listed_later p r.1, r.2)

kind_back : (before : List Parameter) (q : Parameter) (after : List Parameter) → kind_at (length before) (before ++ (q ∷ after)) ≡ q.kind
unfolding kind_at
kind_back [] q after = refl
kind_back (p ∷ before) q after = kind_back before q after

pub listed_kind : (ps : List Parameter) (i : ℕ) (q : Parameter) → Listed ps i q → kind_at i ps ≡ q.kind
listed_kind ps i q l = ap₂ kind_at (sym l.index) l.split ∙ kind_back l.before q l.after

-- the same in a table
past_zeros : (n i : ℕ) → ◌≡◌ {A = ℕ} (get_or (replicate n 0) i 0) 0
past_zeros zero i = refl
past_zeros (suc n) zero = refl
past_zeros (suc n) (suc i) = past_zeros n i

pub table_kind : (ps : List Parameter) (i : ℕ) → get_or (kinds_of ps) i 0 ≡ kind_at i ps
unfolding table_of padded kind_at
table_kind ps i = go (32 - length (map (λ (p : Parameter). p.kind) ps)) ps i
  where
    go : (n : ℕ) (ps : List Parameter) (i : ℕ) → get_or (map (λ (p : Parameter). p.kind) ps ++ replicate n 0) i 0 ≡ kind_at i ps
    go n [] i = past_zeros n i
    go n (p ∷ ps) zero = refl
    go n (p ∷ ps) (suc i) = go n ps i

pub table_listed : (of : Parameter → ℕ) (ps : List Parameter) (i : ℕ) (q : Parameter) → Listed ps i q → get_or (table_of of ps) i 0 ≡ of q
unfolding table_of padded
table_listed of ps i q l = ap₂ (λ (j : ℕ) (qs : List Parameter). get_or (table_of of qs) j 0) (sym l.index) l.split ∙ go (32 - length (map of (l.before ++ (q ∷ l.after)))) l.before
  where
    go : (n : ℕ) (before : List Parameter) → get_or (map of (before ++ (q ∷ l.after)) ++ replicate n 0) (length before) 0 ≡ of q
    go n [] = refl
    go n (p ∷ before) = go n before

-- ---- inside what a name names

module _ (ps : List Parameter) (c : ℕ) (n : List ℕ) (f : Option Found) (e : f ≡ find c n ps) where
  pub enter-bundle : (x : Found) → f ≡ Some x → x.kind ≡ 7 → x.index + 1 ≡ enter ps c n
  unfolding enter
  enter-bundle x h z = rw (sym e ∙ h, z)

  pub enter_other : (x : Found) → f ≡ Some x → (x.kind ≡ 7 → ⊥) → 255 ≡ enter ps c n
  unfolding enter
  enter_other x h z = rw (sym e ∙ h, ne_eqb x.kind 7 z)

  pub enter_missing : f ≡ None → 255 ≡ enter ps c n
  unfolding enter
  enter_missing h = rw (sym e ∙ h)
