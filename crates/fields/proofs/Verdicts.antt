-- What a filter says of entries depends on the texts under the names it uses: a test on which texts there are, brackets on which
-- occurrences say yes, and these on the texts in each.
-- Assumes nothing.
use Rattle.std.specs.Prelude.{Option, None, Some}
use Prim.Native.Nat.{ℕ}
use mathlib.Core.Path.{◌≡◌, refl, ap, ap₂, sym, ◌∙◌, subst}
use mathlib.Core.Bool.{cond, not, ◌&&◌, ◌||◌}
use mathlib.Core.List.{List, [], ◌∷◌, ◌++◌, map, map-append, flatten}
use lib.Dec.{eqb}
use Rattle.base.specs.Kinds.{token}
use Rattle.base.specs.Lists.{All, all_empty, all_cons}
use Rattle.base.proofs.All.{all_left, all_right, all_map}
use Rattle.token.specs.Match.{matches_at}
use Rattle.sheet.specs.Sheet.{Parameter}
use Rattle.sheet.specs.Encode.{WellFormedSheet}
use Rattle.sheet.specs.Find.{found_at, enter}
use Rattle.sheet.specs.declared.Found.{Found}
use Rattle.card.specs.Card.{Entry}
use Rattle.syntax.specs.Tree.{Path, name, member, Test, under, Tree, test, bracketed, join, negation, tests_of}
use Rattle.syntax.specs.Fold.{fold_tree}
use Rattle.kind.specs.Table.{meaning_of}
use Rattle.judge.specs.Sets.{lookup, values_at, keep, of_occurrence}
use Rattle.judge.specs.Verdicts.{says_at, test_says, joined, filter_says}
use Rattle.judge.specs.Rules.{FilterSays}
use Rattle.judge.proofs.Rules.{names_iff, pr_spelled, filter_says_iff}
use Rattle.query.specs.Spelling.{Alternative, Query, alternatives_of}
use Rattle.search.specs.Asking.{asked_of}
use Rattle.query.specs.Met.{pair_met, query_met}
use Rattle.search.specs.Meaning.{text_says, alternative_says, query_says}
use Rattle.search.specs.Meaning as queries
use Rattle.fields.specs.Used.{names_of, alternative_names, query_names, SameTexts, SameOccurrences, SameUnder, same_name, same_member, Alike, ByNames}
use Rattle.fields.proofs.Sets.{SameMembers, some_same, says_same, values_same, keep-alike, texts_of}

-- what holds of the names of both parts holds of those of each
pub parts_same : {A B : Type 0} (P : B → Type 0) (of : A → B) (xs ys : List A) → All P (map of (xs ++ ys)) → All P (map of xs) × All P (map of ys)
parts_same P of xs ys h =
    let both = subst (All P) (map-append of xs ys) h in
    (all_left P (map of xs) (map of ys) both, all_right P (map of xs) both)

-- ---- the same texts under a path that is looked up in c, 0 at the top and a bundle's index plus 1 in its brackets

module _ (ps : List Parameter) where
  data SameIn (c : ℕ) (es es' : List Entry) : Path → Type 0 where
    in_name : {n : List ℕ} → ((i k : ℕ) → lookup ps c (name n) ≡ found_at i k → SameTexts es es' i) → SameIn c es es' (name n)
    in_member : {b : List ℕ} {path : Path} → ((i k : ℕ) → lookup ps c (member b path) ≡ found_at i k → SameOccurrences es es' i) → SameIn c es es' (member b path)

  same_texts : {c : ℕ} {es es' : List Entry} {path : Path} → SameIn c es es' path → (i k : ℕ) → lookup ps c path ≡ found_at i k → SameTexts es es' i
  same_texts (in_name h) i k e = h i k e
  same_texts (in_member h) i k e = texts_of (h i k e)

  same-within : {c : ℕ} {es es' : List Entry} {b : List ℕ} {path : Path} → SameIn c es es' (member b path) → (i k : ℕ) → lookup ps (enter ps c b) path ≡ found_at i k → SameOccurrences es es' i
  unfolding lookup
  same-within (in_member h) i k e = h i k e

  -- the paths in the brackets of a bundle, on the entries of one occurrence
  same-inside : (c : ℕ) (es es' : List Entry) (b : List ℕ) (path : Path) → SameIn c es es' (member b path) → (o : ℕ) → SameIn (enter ps c b) (of_occurrence o es) (of_occurrence o es') path
  unfolding of_occurrence
  same-inside c es es' b (name n) h o = in_name (λ i k e. texts_of (keep-alike (λ d. eqb d.occurrence o) (λ d. eqb d.occurrence o) (λ d. refl) (same-within h i k e)))
  same-inside c es es' b (member a path) h o = in_member (λ i k e. keep-alike (λ d. eqb d.occurrence o) (λ d. eqb d.occurrence o) (λ d. refl) (same-within h i k e))

  all_inside : (c : ℕ) (es es' : List Entry) (b : List ℕ) (ts : List Test) → All (SameIn c es es') (map (λ (t : Test). t.path) (map (under b) ts)) → (o : ℕ)
      → All (SameIn (enter ps c b) (of_occurrence o es) (of_occurrence o es')) (map (λ (t : Test). t.path) ts)
  all_inside c es es' b [] h o = all_empty
  all_inside c es es' b (t ∷ ts) (all_cons s h) o = all_cons (same-inside c es es' b t.path s o) (all_inside c es es' b ts h o)

  -- ---- verdicts

  found-same : (r : Option Found) (k : ℕ) (v : List ℕ) (es es' : List Entry) → ((i kind : ℕ) → r ≡ found_at i kind → SameTexts es es' i) → says_at r k v es ≡ says_at r k v es'
  found-same None k v es es' h = refl
  found-same (Some found) k v es es' h = says_same (meaning_of k found.kind) v (values_at found.index es) (values_at found.index es') (values_same found.index (h found.index found.kind refl))

  test_same : (c : ℕ) (es es' : List Entry) (t : Test) → ((i kind : ℕ) → lookup ps c t.path ≡ found_at i kind → SameTexts es es' i) → test_says ps c es t ≡ test_says ps c es' t
  unfolding test_says
  test_same c es es' t h = found-same (lookup ps c t.path) t.operator t.value es es' h

  filter_same : (f : Tree) (c : ℕ) (es es' : List Entry) → All (SameIn c es es') (names_of f) → filter_says ps c es f ≡ filter_says ps c es' f
  unfolding filter_says fold_tree tests_of
  filter_same (test t) c es es' (all_cons h _) = test_same c es es' t (same_texts h)
  filter_same (bracketed p b f t) c es es' (all_cons h hs) =
      let inner : (o : ℕ) → filter_says ps (enter ps c b) (of_occurrence o es) f ≡ filter_says ps (enter ps c b) (of_occurrence o es') f =
      λ o. filter_same f (enter ps c b) (of_occurrence o es) (of_occurrence o es') (all_inside c es es' b (tests_of f) hs o)
      in
      test_same (enter ps c b) (keep (λ e. filter_says ps (enter ps c b) (of_occurrence e.occurrence es) f) es)
      (keep (λ e. filter_says ps (enter ps c b) (of_occurrence e.occurrence es') f) es') t
      (λ i k e. texts_of (keep-alike _ _ (λ d. inner d.occurrence) (same-within h i k e)))
  filter_same (join k f g) c es es' h =
      let (left, right) = parts_same (SameIn c es es') (λ (t : Test). t.path) (tests_of f) (tests_of g) h in
      ap₂ (joined k) (filter_same f c es es' left) (filter_same g c es es' right)
  filter_same (negation f) c es es' h = ap not (filter_same f c es es' h)

  -- ---- at the top

  module _ (w : WellFormedSheet ps) where
    at_top : {es es' : List Entry} {path : Path} → SameUnder ps es es' path → SameIn 0 es es' path
    at_top (same_name {n = n} h) = in_name (λ i k e. h i k ((names_iff ps w (name n) i k).0 e))
    at_top (same_member {b = b} {path = path} h) = in_member (λ i k e. h i k ((names_iff ps w (member b path) i k).0 e))

    pub verdict_same : (f : Tree) (es es' : List Entry) → Alike ps (names_of f) es es' → filter_says ps 0 es f ≡ filter_says ps 0 es' f
    verdict_same f es es' h = filter_same f 0 es es' (all_map (λ path. at_top) h)

    -- ---- search strings

    text_same : (kind split : ℕ) (text : List ℕ) (xs ys : List (List ℕ)) → SameMembers xs ys → text_says kind split text xs ≡ text_says kind split text ys
    unfolding text_says
    text_same kind split text xs ys h =
        ap₂ (cond (eqb kind token)) (some_same (λ x. matches_at x split text) xs ys h)
        (says_same (meaning_of (asked_of kind text).operator kind) (asked_of kind text).value xs ys h)

    alternative-found : (r : Option Found) (split : ℕ) (text : List ℕ) (es es' : List Entry) → ((i kind : ℕ) → r ≡ found_at i kind → SameTexts es es' i)
        → queries.says_at r split text es ≡ queries.says_at r split text es'
    alternative-found None split text es es' h = refl
    alternative-found (Some found) split text es es' h = text_same found.kind split text (values_at found.index es) (values_at found.index es') (values_same found.index (h found.index found.kind refl))

    alternative-same : (es es' : List Entry) (a : Alternative) → SameUnder ps es es' (name a.name) → alternative_says ps es a ≡ alternative_says ps es' a
    unfolding alternative_says
    alternative-same es es' a h = alternative-found (lookup ps 0 (name a.name)) a.split a.text es es' (same_texts (at_top h))

    pair_same : (es es' : List Entry) (p : List Alternative) → Alike ps (alternative_names p) es es' → pair_met (alternative_says ps es) p ≡ pair_met (alternative_says ps es') p
    unfolding pair_met
    pair_same es es' [] h = refl
    pair_same es es' (a ∷ p) (all_cons h hs) = ap₂ ◌||◌ (alternative-same es es' a h) (pair_same es es' p hs)

    pub query_same : (q : Query) (es es' : List Entry) → Alike ps (query_names q) es es' → query_says ps es q ≡ query_says ps es' q
    unfolding query_says query_met flatten
    query_same [] es es' h = refl
    query_same (p ∷ q) es es' h =
        let (first, rest) = parts_same (SameUnder ps es es') (λ (a : Alternative). name a.name) p (alternatives_of q) h in
        ap₂ ◌&&◌ (pair_same es es' p first) (query_same q es es' rest)

-- the meaning of filters goes by the names used
pub by_names : ByNames (λ ps es f. FilterSays ps 0 es f)
by_names ps w card card' es es' c c' f m h =
    let spelled = all_map (λ t. pr_spelled ps es t) m in
    let same = verdict_same ps w f es es' h in (
      (λ s. (filter_says_iff ps w 0 es' f spelled).0 (sym same ∙ (filter_says_iff ps w 0 es f spelled).1 s)),
      (λ s. (filter_says_iff ps w 0 es f spelled).0 (same ∙ (filter_says_iff ps w 0 es' f spelled).1 s)),
    )
