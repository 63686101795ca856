-- Reading: what is gathered is the number of tests and the first refusal, and it fits.
-- Assumes nothing.
use Rattle.std.specs.Prelude.{Result, ⊤, Option, Some}
use Prim.Native.Nat.{ℕ, suc, ◌+◌, ◌≤◌}
use native.Mathlib.Omega.{arith}
use mathlib.Core.Path.{◌≡◌, refl, sym, ap, ap₂, ◌∙◌}
use mathlib.Core.Bool.{Bool, true, false, cond}
use mathlib.Core.List.{List, [], ◌∷◌, ◌++◌, map}
use lib.ListN.{length, length-append}
use Rattle.sheet.specs.Sheet.{Parameter}
use Rattle.syntax.specs.Tree.{Test, moved, under, Tree, test, bracketed, join, negation, tests_of}
use Rattle.sheet.specs.Find.{enter}
use Rattle.judge.specs.Sets.{lookup}
use Rattle.base.specs.Runs.{RunEnd}
use Rattle.syntax.specs.Scan.{is_space, connective_at}
use Rattle.syntax.specs.Reader.{item_at, filter_at}
use Rattle.syntax.specs.declared.Link.{Link}
use Rattle.syntax.proofs.Complete.{item_rise, filter_rise}
use Rattle.syntax.proofs.Places.{connective_ahead}
use Rattle.syntax.proofs.Spelling.{item_count, filter_count}
use Rattle.refusal.specs.Decisions.{or_else}
use Rattle.refusal.proofs.Decisions.{or_else_passed, or_else_assoc}
use Rattle.judge.specs.Faults.{test_fault, first_fault}
use Rattle.syntax.specs.Fold.{fold_tree}
use Rattle.filter.specs.Folds.{walked, join_summaries, summary_of, reading}
use Rattle.filter.specs.Walks.{answer_of}
use Rattle.filter.specs.declared.Summary.{Summary}
use Rattle.filter.specs.declared.Walked.{Walked}
use Rattle.filter.proofs.Walk.{Cases, was_item, was_filter, Chain}
use Rattle.refusal.specs.declared.Refusal.{Refusal}

-- ---- as the code gathers

pub summary_joined : (a b : Summary) (f : Result ⊤ Refusal) → f ≡ or_else a.first b.first → record { tests = a.tests + b.tests; first = f } ≡ join_summaries a b
summary_joined a b f e = ap (λ (x : Result ⊤ Refusal). record { tests = a.tests + b.tests; first = x }) e

pub summary_test : (ps : List Parameter) (c : ℕ) (t : Test) (f : Result ⊤ Refusal) → f ≡ test_fault ps c t → record { tests = 1; first = f } ≡ (reading ps c).one t
unfolding first_fault
summary_test ps c t f e = ap (λ (x : Result ⊤ Refusal). record { tests = 1; first = x }) (e ∙ sym (or_else_passed (test_fault ps c t)))

-- an answer keeps where it ends, and what was gathered
pub walked_cases : Cases walked
walked_cases = record { end = λ q p a b h. ap (λ (w : Walked). w.end) h; value = λ q p a b h. ap (λ (w : Walked). w.summary) h }

-- ---- the number of tests and the first refusal

length-map : {A B : Type 0} (f : A → B) (xs : List A) → length (map f xs) ≡ length xs
length-map f [] = refl
length-map f (x ∷ xs) = ap suc (length-map f xs)

pub fault_append : (ps : List Parameter) (c : ℕ) (ts us : List Test) → first_fault ps c (ts ++ us) ≡ or_else (first_fault ps c ts) (first_fault ps c us)
unfolding first_fault
fault_append ps c [] us = refl
fault_append ps c (t ∷ ts) us = rw (fault_append ps c ts us) (sym (or_else_assoc (test_fault ps c t) (first_fault ps c ts) (first_fault ps c us)))

-- a path among a bundle's members is looked up inside the bundle
pub fault_under : (ps : List Parameter) (c : ℕ) (b : List ℕ) (ts : List Test) → first_fault ps c (map (under b) ts) ≡ first_fault ps (enter ps c b) ts
unfolding first_fault test_fault lookup
fault_under ps c b [] = refl
fault_under ps c b (t ∷ ts) = rw (fault_under ps c b ts)

pub reading_is : (ps : List Parameter) (c : ℕ) (f : Tree) → fold_tree (reading ps c) f ≡ summary_of ps c (tests_of f)
unfolding fold_tree tests_of
reading_is ps c (test t) = refl
reading_is ps c (bracketed p b f t) = refl
reading_is ps c (join k f g) = rw (reading_is ps c f, reading_is ps c g, length-append (tests_of f) (tests_of g), fault_append ps c (tests_of f) (tests_of g))
reading_is ps c (negation f) = reading_is ps c f

-- the member's test, and then those in the brackets
pub summary_inside : (ps : List Parameter) (c : ℕ) (b : List ℕ) (i p : ℕ) (t : Test) (o a s : Summary) → i ≡ enter ps c b → o ≡ (reading ps i).one (moved p t) → s ≡ join_summaries o a
    → (f : Tree) → a ≡ fold_tree (reading ps i) f → s ≡ (reading ps c).inside p b f (fold_tree (reading ps c) f) t
unfolding tests_of
summary_inside ps c b i p t o a s e h k f g =
    let ts = tests_of f in
    let inner : a ≡ summary_of ps i ts = g ∙ reading_is ps i f in
    let count : length (map (under b) (moved p t ∷ ts)) ≡ suc (length ts) = ap suc (length-map (under b) ts) in
    let faults : first_fault ps c (map (under b) (moved p t ∷ ts)) ≡ or_else (first_fault ps i (moved p t ∷ [])) (first_fault ps i ts) = fault_under ps c b (moved p t ∷ ts) ∙ ap (λ (x : ℕ). first_fault ps x (moved p t ∷ ts)) (sym e) ∙ fault_append ps i (moved p t ∷ []) ts in
    k ∙ rw (h, inner) (sym (ap₂ (λ (n : ℕ) (x : Result ⊤ Refusal). record { tests = n; first = x }) (count ∙ omega arith) faults))

-- ---- there are no more tests than bytes, so that their sum fits

pub tests_fit : (ps : List Parameter) (s : ℕ) (xs : List ℕ) (close d p m n : ℕ) (a b : Summary) (c : Option Link) (l : Link) (r : Option Walked)
    → Chain walked walked_cases (reading ps s) xs close d p m a → c ≡ connective_at xs m → c ≡ Some l
    → r ≡ answer_of walked (reading ps s) (item_at d xs close l.next) → r ≡ Some (walked n b) → length xs ≤ 1024 → a.tests + b.tests ≤ 1024
tests_fit ps s xs close d p m n a b c l r k e h f i short =
    let w = was_item walked walked_cases (reading ps s) xs close d l.next r n b f i in
    let u = connective_ahead xs m l c e h in
    let before : a.tests ≡ length (tests_of k.tree) = ap (λ (s : Summary). s.tests) (k.value ∙ reading_is ps s k.tree) in
    let after : b.tests ≡ length (tests_of w.tree) = ap (λ (s : Summary). s.tests) (w.value ∙ reading_is ps s w.tree) in
    omega (arith, filter_count k.derives, item_count w.derives, item_rise w.derives)

-- a member's test and those in its bundle's brackets: behind the opening bracket at least
pub member-fits : (ps : List Parameter) (i : ℕ) (xs : List ℕ) (close d u q n : ℕ) (o a : Summary) (t : Test) (r : Option Walked) → RunEnd is_space xs (u + 1) q → r ≡ answer_of walked (reading ps i) (filter_at d xs close q)
    → r ≡ Some (walked n a) → o ≡ (reading ps i).one t → length xs ≤ 1024 → o.tests + a.tests ≤ 1024
member-fits ps i xs close d u q n o a t r s f e h short =
    let w = was_filter walked walked_cases (reading ps i) xs close d q r n a f e in
    let outer : o.tests ≡ 1 = ap (λ (s : Summary). s.tests) h in
    let inner : a.tests ≡ length (tests_of w.tree) = ap (λ (s : Summary). s.tests) (w.value ∙ reading_is ps i w.tree) in
    omega (arith, filter_count w.derives, filter_rise w.derives, s.from)

-- a negation changes nothing that reading gathers
pub summary_negated : (b : Bool) (a : Summary) → a ≡ cond b a a
summary_negated true a = refl
summary_negated false a = refl
