-- Sets by their members: what a test says of a set depends on which texts are in it; a set is the texts that entries hold, and entries that
-- are kept hold what passes.
-- Assumes nothing.
use Prim.Native.Nat.{ℕ}
use mathlib.Core.Path.{◌≡◌, refl, ap, ap₂, sym, ◌∙◌, subst}
use mathlib.Core.Bool.{Bool, true, false, cond, not}
use mathlib.Core.Logic.{◌↔◌, ⊎_elim}
use mathlib.Core.List.Memᴰ
use mathlib.Core.List.{List, [], ◌∷◌, Memᴰ}
use lib.Dec.{eqb}
use borrow.Author.Tests.{eq-eqb, eqb-true}
use Rattle.base.proofs.Tests.{cond-elim, same_test}
use Rattle.card.specs.Card.{Entry, entry}
use Rattle.kind.specs.Readable.{is_true}
use Rattle.kind.specs.declared.Meaning.{Meaning}
use Rattle.judge.specs.Sets.{is_under, values_at, keep, of_occurrence}
use Rattle.judge.specs.Verdicts.{some_value, is_empty, related, says_of}
use Rattle.judge.proofs.Rules.{some_there, some_back}
use Rattle.fields.specs.Used.{Holds, SameTexts, SameOccurrences}

-- ---- a set by its members

abbrev pub SameMembers : (xs ys : List (List ℕ)) → Type 0
SameMembers xs ys = (x : List ℕ) → Memᴰ x xs ↔ Memᴰ x ys

pub some_same : (p : List ℕ → Bool) (xs ys : List (List ℕ)) → SameMembers xs ys → some_value p xs ≡ some_value p ys
some_same p xs ys h =
    same_test (some_value p xs) (some_value p ys) (λ e. let w = some_there p xs e in some_back p ((h w.0).0 w.1) w.2)
    (λ e. let w = some_there p ys e in some_back p ((h w.0).1 w.1) w.2)

empty_same : (xs ys : List (List ℕ)) → SameMembers xs ys → is_empty xs ≡ is_empty ys
unfolding is_empty
empty_same [] [] h = refl
empty_same [] (y ∷ ys) h = absurd (Memᴰ.not-nil ((h y).1 (Memᴰ.head refl)))
empty_same (x ∷ xs) [] h = absurd (Memᴰ.not-nil ((h x).0 (Memᴰ.head refl)))
empty_same (x ∷ xs) (y ∷ ys) h = refl

pub says_same : (m : Meaning) (v : List ℕ) (xs ys : List (List ℕ)) → SameMembers xs ys → says_of m v xs ≡ says_of m v ys
unfolding says_of
says_same Meaning.Present v xs ys h = ap (λ (b : Bool). cond (is_true v) (not b) b) (empty_same xs ys h)
says_same (Meaning.Relates r) v xs ys h = some_same (related false r v) xs ys h
says_same (Meaning.Differs r) v xs ys h = some_same (related true r v) xs ys h
says_same Meaning.Nothing v xs ys h = refl

-- ---- the texts under a parameter are those that the entries hold

pub values_there : (i : ℕ) (es : List Entry) (x : List ℕ) → Memᴰ x (values_at i es) → (o : ℕ) × Holds es i o x
unfolding values_at
values_there i [] x m = absurd (Memᴰ.not-nil m)
values_there i (e ∷ es) x m =
    cond-elim (λ (l : List (List ℕ)). Memᴰ x l → (o : ℕ) × Holds (e ∷ es) i o x) (is_under i e)
    (λ t n. ⊎_elim
    (λ q. (e.occurrence, Memᴰ.head (ap₂ (λ (j : ℕ) (y : List ℕ). entry j e.occurrence y) (sym (eqb-true e.index i t)) q)))
    (λ q. let w = values_there i es x q in (w.0, Memᴰ.tail w.1)) (Memᴰ.cases_cons n))
    (λ t n. let w = values_there i es x n in (w.0, Memᴰ.tail w.1)) m

pub values_back : (i : ℕ) (es : List Entry) (o : ℕ) (x : List ℕ) → Holds es i o x → Memᴰ x (values_at i es)
unfolding values_at
values_back i [] o x m = absurd (Memᴰ.not-nil m)
values_back i (e ∷ es) o x m =
    ⊎_elim
    (λ q. let t : is_under i e ≡ true = eq-eqb e.index i (sym (ap (λ (u : Entry). u.index) q)) in rw t (Memᴰ.head (ap (λ (u : Entry). u.text) q)))
    (λ q. let again = values_back i es o x q in cond-elim (λ (l : List (List ℕ)). Memᴰ x l) (is_under i e) (λ t. Memᴰ.tail again) (λ t. again))
    (Memᴰ.cases_cons m)

pub values_iff : (i : ℕ) (es : List Entry) (x : List ℕ) → Memᴰ x (values_at i es) ↔ ((o : ℕ) × Holds es i o x)
values_iff i es x = (values_there i es x, (λ w. values_back i es w.0 x w.1))

-- there are none exactly where none is held
pub values_none : (i : ℕ) (es : List Entry) → (values_at i es ≡ []) ↔ ((o : ℕ) (x : List ℕ) → Holds es i o x → ⊥)
values_none i es = ((λ e o x h. Memᴰ.not-nil (subst (Memᴰ x) e (values_back i es o x h))), by_values (values_at i es) refl)
  where
    by_values : (xs : List (List ℕ)) → values_at i es ≡ xs → ((o : ℕ) (x : List ℕ) → Holds es i o x → ⊥) → xs ≡ []
    by_values [] e n = refl
    by_values (x ∷ xs) e n = let w = values_there i es x (subst (Memᴰ x) (sym e) (Memᴰ.head refl)) in absurd (n w.0 x w.1)

pub values_same : {es es' : List Entry} (i : ℕ) → SameTexts es es' i → SameMembers (values_at i es) (values_at i es')
values_same {es} {es'} i h x = (
  λ m. let w = (h x).0 (values_there i es x m) in values_back i es' w.0 x w.1,
  λ m. let w = (h x).1 (values_there i es' x m) in values_back i es w.0 x w.1,
)

-- ---- entries that are kept

pub keep_there : (p : Entry → Bool) (es : List Entry) (e : Entry) → Memᴰ e (keep p es) → Memᴰ e es × (p e ≡ true)
unfolding keep
keep_there p [] e m = absurd (Memᴰ.not-nil m)
keep_there p (d ∷ es) e m =
    cond-elim (λ (l : List Entry). Memᴰ e l → Memᴰ e (d ∷ es) × (p e ≡ true)) (p d)
    (λ t n. ⊎_elim (λ q. (Memᴰ.head q, ap p q ∙ t)) (λ q. let w = keep_there p es e q in (Memᴰ.tail w.0, w.1)) (Memᴰ.cases_cons n))
    (λ t n. let w = keep_there p es e n in (Memᴰ.tail w.0, w.1)) m

pub keep-back : (p : Entry → Bool) (es : List Entry) (e : Entry) → Memᴰ e es → p e ≡ true → Memᴰ e (keep p es)
unfolding keep
keep-back p [] e m t = absurd (Memᴰ.not-nil m)
keep-back p (d ∷ es) e m t =
    ⊎_elim (λ q. let s : p d ≡ true = ap p (sym q) ∙ t in rw s (Memᴰ.head q))
    (λ q. let again = keep-back p es e q t in cond-elim (λ (l : List Entry). Memᴰ e l) (p d) (λ _. Memᴰ.tail again) (λ _. again)) (Memᴰ.cases_cons m)

-- two tests that agree keep the same texts in the same occurrences
pub keep-alike : (p p' : Entry → Bool) → ((e : Entry) → p e ≡ p' e) → {es es' : List Entry} {i : ℕ} → SameOccurrences es es' i → SameOccurrences (keep p es) (keep p' es') i
keep-alike p p' same {es} {es'} {i} h o x = (
  λ m. let w = keep_there p es (entry i o x) m in keep-back p' es' (entry i o x) ((h o x).0 w.0) (sym (same (entry i o x)) ∙ w.1),
  λ m. let w = keep_there p' es' (entry i o x) m in keep-back p es (entry i o x) ((h o x).1 w.0) (same (entry i o x) ∙ w.1),
)

pub texts_of : {es es' : List Entry} {i : ℕ} → SameOccurrences es es' i → SameTexts es es' i
texts_of h x = ((λ w. (w.0, (h w.0 x).0 w.1)), (λ w. (w.0, (h w.0 x).1 w.1)))

-- ---- one occurrence

pub occurrence_iff : (o : ℕ) (es : List Entry) (i p : ℕ) (x : List ℕ) → Holds (of_occurrence o es) i p x ↔ (Holds es i p x × (p ≡ o))
unfolding of_occurrence
occurrence_iff o es i p x = (
  λ m. let w = keep_there (λ (e : Entry). eqb e.occurrence o) es (entry i p x) m in (w.0, eqb-true p o w.1),
  λ w. keep-back (λ (e : Entry). eqb e.occurrence o) es (entry i p x) w.0 (eq-eqb p o w.1),
)
