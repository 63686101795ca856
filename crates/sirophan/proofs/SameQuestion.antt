-- A filter that asks the same as a search string, and that check passes, is answered the same: both ask one question.
-- An alternative and the test that asks the same say the same of every card (`same-says`). Of a token `AsksAlike` demands that its system
-- stands for itself (`Literal`), since a filter takes short names for systems, and that no bar of it is plain, so that it is split at its
-- first bar (`form_same`). By
-- induction on how trees are joined, a join by or says the or of its tests and a join by and the and of its parts, whatever the brackets,
-- as both are associative (`or_joined`, `and_joined`); so the query says what the filter says (`query_says_lem`). Where an alternative lacks a
-- meaning its test lacks one (`lacks_alike`), so the string passes where check passes the filter, and the counts are equal, as there are as
-- many alternatives as tests (`pairs_alike`). Then both ask one question (`one_question`), and what match and select answer is a function
-- of it.
-- Assumes nothing.
use Rattle.std.specs.Prelude.{Ok, Option as Maybe}
use Prim.Native.Nat.{ℕ, suc, ◌+◌, ◌≤◌, ◌<◌}
use native.Mathlib.Omega.{arith}
use mathlib.Core.Path.{◌≡◌, refl, ap, sym, ◌∙◌, subst, fun_ext}
use mathlib.Core.Bool.{Bool, true, false, cond, ◌&&◌, ◌||◌, or-false}
use mathlib.Core.Logic.{⊎_elim}
use mathlib.Core.Option.{Option, none, some}
use mathlib.Core.List.{List, [], ◌∷◌, ◌++◌, flatten, append_assoc, append-nil, Permᴰ}
use lib.Dec.{eqb, ltb}
use lib.ListN.{length, take, length-append}
use borrow.Author.Tests.{eq-eqb, ne_eqb, eqb-true, eqb-false, ltb-true}
use Rattle.base.specs.Kinds.{token, bundle_kind}
use Rattle.base.specs.Lists.{All, all_empty, all_cons}
use Rattle.base.specs.Operators.{eq}
use Rattle.base.proofs.All.{all_append, all_left, all_right}
use Rattle.base.proofs.Tests.{cond-elim, decided, and_true}
use Rattle.text.specs.Bar.{bar}
use Rattle.text.specs.Compare.{same}
use Rattle.token.specs.Card.{Token, card_token}
use Rattle.token.specs.Filter.{split_form, form_at, filter_form}
use Rattle.token.specs.Match.{asks, meets, matches, matches_at}
use Rattle.token.specs.Namespace.{namespace_of, system_of}
use Rattle.base.specs.Split as tokens
use Rattle.base.specs.Split.{first_of}
use Rattle.token.specs.Split.{split_at}
use Rattle.token.proofs.Split.{split_at-first}
use Rattle.token.proofs.Rules.{stands_namespace}
use Rattle.token.proofs.Readings.{filter_form_iff, form_at_iff}
use Rattle.sheet.specs.Sheet.{Parameter}
use Rattle.sheet.specs.Encode.{SheetBlock, WellFormedSheet}
use Rattle.sheet.specs.Find.{found_at}
use Rattle.sheet.proofs.Listed.{found_same}
use Rattle.sheet.specs.declared.Found.{Found}
use Rattle.card.specs.Card.{Entry}
use Rattle.syntax.specs.Tree.{Path, name, Test, Tree, tests_of}
use Rattle.syntax.specs.Fold.{fold_tree}
use Rattle.syntax.specs.declared.Connective.{Connective}
use Rattle.syntax.specs.Grammar.{Spells}
use Rattle.kind.specs.Table.{meaning_of, row_meaning, row, of_kind, kinds, token_row, relation_in}
use Rattle.kind.specs.Rules.{readable_token, ReadableInFilter, ReadableValue, value_of_pr, value_of_kind, HasOperator}
use Rattle.kind.specs.Relations.{relates_to}
use Rattle.judge.specs.Sets.{lookup, values_at}
use Rattle.judge.specs.Verdicts.{some_value, says_of, says_at, test_says, filter_says}
use Rattle.judge.specs.Rules.{Names}
use Rattle.judge.specs.Rules as tests
use Rattle.judge.proofs.Rules.{names_iff}
use Rattle.query.specs.Spelling.{Alternative, Query, alternatives_of, SpellsQuery}
use Rattle.query.proofs.Alternatives.{split-first-bar}
use Rattle.search.specs.Asking.{AskedBy, Comparison, asked_of}
use Rattle.search.specs.Meaning as search
use Rattle.query.specs.Met.{pair_met, query_met}
use Rattle.search.specs.Meaning.{text_says, alternative_says, query_says}
use Rattle.search.specs.Rules.{ReadableAlternative, readable_form, readable_value, LacksMeaning, not_on_sheet, bundle_named, lacks_operator, unreadable}
use Rattle.search.proofs.Asking.{asked_is, token-asks, never_pr}
use Rattle.refusal.specs.Answers.{count, counted_answer}
use Rattle.refusal.specs.Steps.{Step, found, ◌>>=◌}
use Rattle.answer.specs.Operations.{Question, match_by, select_by, cells_by, check_answer, question_of, filter_question}
use Rattle.answer.specs.Searching.{question_of_query, search_question}
use Rattle.answer.specs.Demand.{TestRules, Meaningful, filter_tests}
use Rattle.answer.specs.SearchDemand.{search_tests}
use Rattle.sirophan.specs.SameQuestion.{Joined, alone, joins, AsksAlike, TestsAlike, alike_end, alike_next, PairsAlike, pairs_end, pairs_next, SameQuestion, AnsweredAlike}
use Rattle.answer.proofs.Outcomes.{TestsOutcome, all_mean, one_refused}
use Rattle.answer.proofs.Passing.{passing}
use Rattle.answer.proofs.Inputs.{inputs_accepted, tests_outcome, question_by}
use Rattle.sirophan.proofs.Demand.{demand_met}
use Rattle.answer.proofs.SearchFaults.{alternatives-outcome}
use Rattle.sirophan.proofs.SearchDemand.{query_question, search_demand_met}

-- ---- joins

or_all : (Tree → Bool) → List Tree → Bool
or_all p [] = false
or_all p (f ∷ fs) = p f || or_all p fs

and_all : (Tree → Bool) → List Tree → Bool
and_all p [] = true
and_all p (f ∷ fs) = p f && and_all p fs

or_assoc : (a b c : Bool) → ((a || b) || c) ≡ (a || (b || c))
or_assoc true b c = refl
or_assoc false b c = refl

and_assoc : (a b c : Bool) → ((a && b) && c) ≡ (a && (b && c))
and_assoc true b c = refl
and_assoc false b c = refl

or_append : (p : Tree → Bool) (fs gs : List Tree) → or_all p (fs ++ gs) ≡ (or_all p fs || or_all p gs)
unfolding or_all
or_append p [] gs = refl
or_append p (f ∷ fs) gs = ap (λ (b : Bool). p f || b) (or_append p fs gs) ∙ sym (or_assoc (p f) (or_all p fs) (or_all p gs))

and_append : (p : Tree → Bool) (fs gs : List Tree) → and_all p (fs ++ gs) ≡ (and_all p fs && and_all p gs)
unfolding and_all
and_append p [] gs = refl
and_append p (f ∷ fs) gs = ap (λ (b : Bool). p f && b) (and_append p fs gs) ∙ sym (and_assoc (p f) (and_all p fs) (and_all p gs))

or_swap : (a b c : Bool) → (a || (b || c)) ≡ (b || (a || c))
or_swap true true c = refl
or_swap true false c = refl
or_swap false b c = refl

and_swap : (a b c : Bool) → (a && (b && c)) ≡ (b && (a && c))
and_swap false false c = refl
and_swap false true c = refl
and_swap true b c = refl

-- in whichever order
or_order : (p : Tree → Bool) {fs gs : List Tree} → Permᴰ fs gs → or_all p fs ≡ or_all p gs
unfolding or_all
or_order p Permᴰ.nil = refl
or_order p (Permᴰ.cons {a = a} {l₂ = l₂} e d) = ap (λ (b : Bool). p a || b) (or_order p d) ∙ ap (λ (f : Tree). p f || or_all p l₂) e
or_order p (Permᴰ.swap {a = a} {b = b} {a' = a'} {b' = b'} {l = l} e g) =
    or_swap (p a) (p b) (or_all p l) ∙ ap (λ (f : Tree). p f || (p a || or_all p l)) g ∙ ap (λ (f : Tree). p a' || (p f || or_all p l)) e
or_order p (Permᴰ.trans d e) = or_order p d ∙ or_order p e

and_order : (p : Tree → Bool) {fs gs : List Tree} → Permᴰ fs gs → and_all p fs ≡ and_all p gs
unfolding and_all
and_order p Permᴰ.nil = refl
and_order p (Permᴰ.cons {a = a} {l₂ = l₂} e d) = ap (λ (b : Bool). p a && b) (and_order p d) ∙ ap (λ (f : Tree). p f && and_all p l₂) e
and_order p (Permᴰ.swap {a = a} {b = b} {a' = a'} {b' = b'} {l = l} e g) =
    and_swap (p a) (p b) (and_all p l) ∙ ap (λ (f : Tree). p f && (p a && and_all p l)) g ∙ ap (λ (f : Tree). p a' && (p f && and_all p l)) e
and_order p (Permᴰ.trans d e) = and_order p d ∙ and_order p e

module _ (ps : List Parameter) (es : List Entry) where
  abbrev says : Tree → Bool
  says f = filter_says ps 0 es f

  or_joined : {fs : List Tree} {f : Tree} → Joined Connective.Or fs f → says f ≡ or_all says fs
  unfolding or_all filter_says fold_tree
  or_joined (alone {f = f}) = sym (or-false (says f))
  or_joined (joins {fs = fs} {gs = gs} {g = g} a b) = ap (λ (x : Bool). x || says g) (or_joined a) ∙ ap (λ (x : Bool). or_all says fs || x) (or_joined b) ∙ sym (or_append says fs gs)

  and_joined : {fs : List Tree} {f : Tree} → Joined Connective.And fs f → says f ≡ and_all says fs
  unfolding and_all filter_says fold_tree
  and_joined (alone {f = f}) = sym (and_true (says f))
  and_joined (joins {fs = fs} {gs = gs} {g = g} a b) = ap (λ (x : Bool). x && says g) (and_joined a) ∙ ap (λ (x : Bool). and_all says fs && x) (and_joined b) ∙ sym (and_append says fs gs)

-- ---- tokens

some_same : (p q : List ℕ → Bool) (xs : List (List ℕ)) → ((x : List ℕ) → p x ≡ q x) → some_value p xs ≡ some_value q xs
unfolding some_value
some_same p q [] h = refl
some_same p q (x ∷ xs) h = ap (λ (b : Bool). b || some_value p xs) (h x) ∙ ap (λ (b : Bool). q x || b) (some_same p q xs h)

-- the system of the split stands for itself
data Literal : tokens.Split → Type 0 where
  literal_none : {c : List ℕ} → Literal (tokens.whole c)
  literal_system : {s c : List ℕ} → namespace_of s ≡ s → Literal (tokens.parts s c)

literal_asks : (d : tokens.Split) (t : Option Token) → Literal d → meets false t (split_form d) ≡ meets true t (split_form d)
unfolding split_form meets asks system_of
literal_asks (tokens.whole []) none l = refl
literal_asks (tokens.whole []) (some t) l = refl
literal_asks (tokens.whole (b ∷ c)) none l = refl
literal_asks (tokens.whole (b ∷ c)) (some t) l = refl
literal_asks (tokens.parts [] []) none l = refl
literal_asks (tokens.parts [] []) (some t) l = refl
literal_asks (tokens.parts [] (b ∷ c)) none l = refl
literal_asks (tokens.parts [] (b ∷ c)) (some t) l = refl
literal_asks (tokens.parts (y ∷ s) []) none l = refl
literal_asks (tokens.parts (y ∷ s) []) (some t) (literal_system e) = ap (λ (n : List ℕ). same t.system n) (sym e)
literal_asks (tokens.parts (y ∷ s) (b ∷ c)) none l = refl
literal_asks (tokens.parts (y ∷ s) (b ∷ c)) (some t) (literal_system e) = ap (λ (n : List ℕ). same t.system n && same t.code (b ∷ c)) (sym e)

split_literal : (i : ℕ) (t : List ℕ) → (i < length t → namespace_of (take i t) ≡ take i t) → Literal (split_at i t)
unfolding split_at
split_literal i t h = cond-elim Literal (ltb i (length t)) (λ e. literal_system (h (ltb-true i (length t) e))) (λ e. literal_none)

module _ (i : ℕ) (t : List ℕ) (first : i ≡ first_of bar t) where
  pub form_same : form_at i t ≡ filter_form t
  unfolding form_at filter_form
  form_same = ap (λ (n : ℕ). split_form (split_at n t)) first ∙ ap split_form (split_at-first t)

  token-same : (i < length t → namespace_of (take i t) ≡ take i t) → (x : List ℕ) → matches_at x i t ≡ matches x t
  unfolding matches_at matches form_at
  token-same h x = literal_asks (split_at i t) (card_token x) (split_literal i t h) ∙ ap (meets true (card_token x)) form_same

  token_set : (i < length t → namespace_of (take i t) ≡ take i t) → (set : List (List ℕ)) → some_value (λ x. matches_at x i t) set ≡ says_of (meaning_of eq token) t set
  unfolding meaning_of row_meaning row of_kind kinds token_row relation_in says_of relates_to
  token_set h set = some_same (λ x. matches_at x i t) (λ x. matches x t) set (token-same h)

-- ---- an alternative says what its test says

module _ (ps : List Parameter) (w : WellFormedSheet ps) (a : Alternative) (t : Test) (h : AsksAlike ps a t) where
  place_found : lookup ps 0 (name a.name) ≡ found_at h.index h.kind
  place_found = (names_iff ps w (name a.name) h.index h.kind).1 h.names

  module _ (is : h.kind ≡ token) where
    of_token : AskedBy token a.text t.operator t.value
    of_token = subst (λ (x : ℕ). AskedBy x a.text t.operator t.value) is h.asked

    at_first : a.split ≡ first_of bar a.text
    at_first = split-first-bar h.text h.split (h.bars is)

    literal : a.split < length a.text → namespace_of (take a.split a.text) ≡ take a.split a.text
    literal l = stands_namespace (take a.split a.text) (h.systems is l)

  test_found : (es : List Entry) → test_says ps 0 es t ≡ says_at (found_at h.index h.kind) t.operator t.value es
  unfolding test_says
  test_found es = ap (λ (o : Maybe Found). says_at o t.operator t.value es) (ap (lookup ps 0) h.path ∙ place_found)

  same-says : (es : List Entry) → alternative_says ps es a ≡ test_says ps 0 es t
  unfolding alternative_says
  same-says es =
      ap (λ (o : Maybe Found). search.says_at o a.split a.text es) place_found
      ∙ ⊎_elim (λ e. by_token (eqb-true h.kind token e)) (λ e. by_other (eqb-false h.kind token e)) (decided (eqb h.kind token))
      ∙ sym (test_found es)
    where
      by_other : (h.kind ≡ token → ⊥) → text_says h.kind a.split a.text (values_at h.index es) ≡ says_of (meaning_of t.operator h.kind) t.value (values_at h.index es)
      by_other n = unfold text_says in (let q = asked_is h.asked n in let z = ne_eqb h.kind token n in cc)

      by_token : h.kind ≡ token → text_says h.kind a.split a.text (values_at h.index es) ≡ says_of (meaning_of t.operator h.kind) t.value (values_at h.index es)
      by_token e =
          unfold text_says in
          (let k = eq-eqb h.kind token e in
          let o : t.operator ≡ eq = (token-asks (of_token e)).0 in
          let v : t.value ≡ a.text = (token-asks (of_token e)).1 in
          let q = token_set a.split a.text (at_first e) (literal e) (values_at h.index es) in
          let r : says_of (meaning_of t.operator h.kind) t.value (values_at h.index es) ≡ says_of (meaning_of eq token) a.text (values_at h.index es) = cc in
          let u : cond (eqb h.kind token) (some_value (λ x. matches_at x a.split a.text) (values_at h.index es)) (says_of (meaning_of (asked_of h.kind a.text).operator h.kind) (asked_of h.kind a.text).value (values_at h.index es)) ≡ some_value (λ x. matches_at x a.split a.text) (values_at h.index es) = rw k in
          u ∙ q ∙ sym r)

  -- ---- where an alternative lacks a meaning, its test does

  named : Names ps t.path h.index h.kind
  named = subst (λ (p : Path). Names ps p h.index h.kind) (sym h.path) h.names

  same_place : {i k : ℕ} → Names ps (name a.name) i k → found_at i k ≡ found_at h.index h.kind
  same_place {i} {k} j = sym ((names_iff ps w (name a.name) i k).1 j) ∙ place_found

  same_asked : {k o : ℕ} {v : List ℕ} → k ≡ h.kind → AskedBy k a.text o v → o ≡ t.operator
  same_asked {k} {o} {v} e asked =
      let mine : AskedBy h.kind a.text o v = subst (λ (m : ℕ). AskedBy m a.text o v) e asked in
      ⊎_elim
      (λ z. let is : h.kind ≡ token = eqb-true h.kind token z in (token-asks (subst (λ (m : ℕ). AskedBy m a.text o v) is mine)).0 ∙ sym (token-asks (of_token is)).0)
      (λ z. let n = eqb-false h.kind token z in ap (λ (x : Comparison). x.operator) (sym (asked_is mine n) ∙ asked_is h.asked n))
      (decided (eqb h.kind token))

  form_read : h.kind ≡ token → ReadableInFilter token t.value → ReadableAlternative h.kind a
  form_read is (readable_token (f, s)) =
      let v : t.value ≡ a.text = (token-asks (of_token is)).1 in
      readable_form is ((form_at_iff a.text a.split f).0 (form_same a.split a.text (at_first is) ∙ ap filter_form (sym v) ∙ (filter_form_iff t.value f).1 s))

  reads : ReadableValue h.kind t.value t.operator → ReadableAlternative h.kind a
  reads r = by_value r refl
    where
      by_value : {o : ℕ} → ReadableValue h.kind t.value o → o ≡ t.operator → ReadableAlternative h.kind a
      by_value (value_of_pr x) e = absurd (never_pr h.asked (sym e))
      by_value (value_of_kind n r) e =
          ⊎_elim (λ z. let is : h.kind ≡ token = eqb-true h.kind token z in form_read is (subst (λ (m : ℕ). ReadableInFilter m t.value) is r))
          (λ z. readable_value (eqb-false h.kind token z) h.asked r) (decided (eqb h.kind token))

  lacks_alike : (es : List Entry) → LacksMeaning ps es a → tests.LacksMeaning ps es t
  lacks_alike es (not_on_sheet n) = absurd (n h.index h.kind h.names)
  lacks_alike es (bundle_named {i = i} j) =
      let e = same_place j in
      let kind : bundle_kind ≡ h.kind = (found_same e).1 in
      tests.bare_bundle (subst (λ (m : ℕ). Names ps t.path h.index m) (sym kind) named)
  lacks_alike es (lacks_operator {i = i} {k = k} {o = o} j v asked n) =
      let e = same_place j in
      let index : i ≡ h.index = (found_same e).0 in
      let kind : k ≡ h.kind = (found_same e).1 in
      tests.lacks_operator named (subst (λ (m : ℕ). values_at m es ≡ [] → ⊥) index v)
      (λ has. n (subst (HasOperator k) (sym (same_asked kind asked)) (subst (λ (m : ℕ). HasOperator m t.operator) (sym kind) has)))
  lacks_alike es (unreadable {i = i} {k = k} j v n) =
      let e = same_place j in
      let index : i ≡ h.index = (found_same e).0 in
      let kind : k ≡ h.kind = (found_same e).1 in
      tests.unreadable named (subst (λ (m : ℕ). values_at m es ≡ [] → ⊥) index v) (λ r. n (subst (λ (m : ℕ). ReadableAlternative m a) (sym kind) (reads r)))

  meaning_alike : Meaningful (filter_tests ps) t → Meaningful (search_tests ps) a
  meaning_alike m card es c l = m card es c (lacks_alike es l)

-- ---- pairs and queries

all_tests : List Tree → List Test
all_tests [] = []
all_tests (f ∷ fs) = tests_of f ++ all_tests fs

tests_append : (fs gs : List Tree) → all_tests (fs ++ gs) ≡ all_tests fs ++ all_tests gs
unfolding all_tests
tests_append [] gs = refl
tests_append (f ∷ fs) gs = ap (λ (l : List Test). tests_of f ++ l) (tests_append fs gs) ∙ sym (append_assoc (tests_of f) (all_tests fs) (all_tests gs))

joined_tests : {c : Connective} {fs : List Tree} {f : Tree} → Joined c fs f → tests_of f ≡ all_tests fs
unfolding all_tests tests_of
joined_tests (alone {f = f}) = sym (append-nil (tests_of f))
joined_tests (joins {fs = fs} {gs = gs} {g = g} a b) =
    ap (λ (l : List Test). l ++ tests_of g) (joined_tests a) ∙ ap (λ (l : List Test). all_tests fs ++ l) (joined_tests b) ∙ sym (tests_append fs gs)

-- the tests of trees in another order: as many, and all of a property together
order_count : {fs gs : List Tree} → Permᴰ fs gs → length (all_tests fs) ≡ length (all_tests gs)
unfolding all_tests
order_count Permᴰ.nil = refl
order_count (Permᴰ.cons {a = a} {b = b} {l₁ = l₁} {l₂ = l₂} e d) =
    omega (arith, order_count d, length-append (tests_of a) (all_tests l₁), length-append (tests_of b) (all_tests l₂), ap (λ (f : Tree). length (tests_of f)) e)
order_count (Permᴰ.swap {a = a} {b = b} {a' = a'} {b' = b'} {l = l} e g) =
    omega (
      arith,
      length-append (tests_of a) (tests_of b ++ all_tests l),
      length-append (tests_of b) (all_tests l),
      length-append (tests_of a') (tests_of b' ++ all_tests l),
      length-append (tests_of b') (all_tests l),
      ap (λ (f : Tree). length (tests_of f)) e,
      ap (λ (f : Tree). length (tests_of f)) g,
    )
order_count (Permᴰ.trans d e) = order_count d ∙ order_count e

order_all : (P : Test → Type 0) {fs gs : List Tree} → Permᴰ fs gs → All P (all_tests gs) → All P (all_tests fs)
unfolding all_tests
order_all P Permᴰ.nil h = h
order_all P (Permᴰ.cons {a = a} {b = b} {l₁ = l₁} {l₂ = l₂} e d) h =
    all_append P (subst (λ (f : Tree). All P (tests_of f)) (sym e) (all_left P (tests_of b) (all_tests l₂) h)) (order_all P d (all_right P (tests_of b) h))
order_all P (Permᴰ.swap {a = a} {b = b} {a' = a'} {b' = b'} {l = l} e g) h =
    let more = all_right P (tests_of a') h in
    all_append P (subst (λ (f : Tree). All P (tests_of f)) (sym e) (all_left P (tests_of b') (all_tests l) more))
    (all_append P (subst (λ (f : Tree). All P (tests_of f)) (sym g) (all_left P (tests_of a') (tests_of b' ++ all_tests l) h)) (all_right P (tests_of b') more))
order_all P (Permᴰ.trans d e) h = order_all P d (order_all P e h)

sums : {a b c d : ℕ} → a ≡ b → c ≡ d → a + c ≡ b + d
sums e g = cc

module _ (ps : List Parameter) (w : WellFormedSheet ps) where
  pair-says : (es : List Entry) {p : List Alternative} {fs : List Tree} → TestsAlike ps p fs → pair_met (alternative_says ps es) p ≡ or_all (says ps es) fs
  unfolding pair_met or_all filter_says fold_tree
  pair-says es alike_end = refl
  pair-says es (alike_next {a = a} {rest = rest} {t = t} {fs = fs} h r) =
      ap (λ (b : Bool). b || pair_met (alternative_says ps es) rest) (same-says ps w a t h es) ∙ ap (λ (b : Bool). test_says ps 0 es t || b) (pair-says es r)

  pairs_say : (es : List Entry) {q : Query} {fs : List Tree} → PairsAlike ps q fs → query_met (alternative_says ps es) q ≡ and_all (says ps es) fs
  unfolding query_met and_all
  pairs_say es pairs_end = refl
  pairs_say es (pairs_next {p = p} {q = q} {fs = fs} {f = f} h o j r) =
      ap (λ (b : Bool). b && query_met (alternative_says ps es) q) (pair-says es h ∙ or_order (says ps es) o ∙ sym (or_joined ps es j)) ∙ ap (λ (b : Bool). says ps es f && b) (pairs_say es r)

  query_says_lem : (es : List Entry) (q : Query) (f : Tree) → SameQuestion ps q f → query_says ps es q ≡ filter_says ps 0 es f
  unfolding query_says
  query_says_lem es q f s = pairs_say es s.alike ∙ and_order (says ps es) s.order ∙ sym (and_joined ps es s.joined)

  pair-alike : {p : List Alternative} {fs : List Tree} → TestsAlike ps p fs
      → (length p ≡ length (all_tests fs)) × (All (Meaningful (filter_tests ps)) (all_tests fs) → All (Meaningful (search_tests ps)) p)
  unfolding all_tests tests_of
  pair-alike alike_end = (refl, (λ _. all_empty))
  pair-alike (alike_next {a = a} {t = t} h r) =
      let more = pair-alike r in
      (ap suc more.0, by_head more.1)
    where
      by_head : {ts : List Test} {rest : List Alternative} → (All (Meaningful (filter_tests ps)) ts → All (Meaningful (search_tests ps)) rest) → All (Meaningful (filter_tests ps)) (t ∷ ts)
          → All (Meaningful (search_tests ps)) (a ∷ rest)
      by_head f (all_cons m ms) = all_cons (meaning_alike ps w a t h m) (f ms)

  pairs_alike : {q : Query} {fs : List Tree} → PairsAlike ps q fs
      → (length (alternatives_of q) ≡ length (all_tests fs)) × (All (Meaningful (filter_tests ps)) (all_tests fs) → All (Meaningful (search_tests ps)) (alternatives_of q))
  unfolding all_tests flatten
  pairs_alike pairs_end = (refl, (λ _. all_empty))
  pairs_alike (pairs_next {p = p} {q = q} {ts = ts} {us = us} {fs = fs} {f = f} h o j r) =
      let here = pair-alike h in
      let more = pairs_alike r in
      let same : tests_of f ≡ all_tests us = joined_tests j in (
        length-append p (flatten q) ∙ sums (here.0 ∙ order_count o ∙ sym (ap length same)) more.0 ∙ sym (length-append (tests_of f) (all_tests fs)),
        (λ all. all_append (Meaningful (search_tests ps)) (here.1 (order_all (Meaningful (filter_tests ps)) o (subst (All (Meaningful (filter_tests ps))) same (all_left (Meaningful (filter_tests ps)) (tests_of f) (all_tests fs) all))))
            (more.1 (all_right (Meaningful (filter_tests ps)) (tests_of f) all))),
      )

-- ---- the operations

-- tests that all have a meaning are found to have none at fault
all_found : {T : Type 0} (rules : TestRules T) {ts : List T} {s : Step (Unit {0})} → TestsOutcome rules ts s → All (Meaningful rules) ts → s ≡ found tt
all_found rules (all_mean m) h = refl
all_found rules (one_refused before t after n split m r) h = absurd (at_head (all_right (Meaningful rules) before (subst (All (Meaningful rules)) split h)))
  where
    at_head : All (Meaningful rules) (t ∷ after) → ⊥
    at_head (all_cons x y) = x r.card r.entries r.conforms r.lacks

module _ (sheet text query : List ℕ) (s : SheetBlock sheet) (f : Tree) (q : Query) (spells : Spells text f) (asked : SpellsQuery query q) (alike : SameQuestion s.parameters q f)
    (passes : check_answer sheet text ≡ count (length (tests_of f))) where
  abbrev ps : List Parameter
  ps = s.parameters

  short : length text ≤ 1024
  short = (passing sheet text (Ok (length (tests_of f))) (length (tests_of f)) (unfold counted_answer in sym passes) refl).short

  tests_mean : All (Meaningful (filter_tests ps)) (tests_of f)
  tests_mean = (demand_met sheet text s f short spells).passes.0 passes

  alternatives_mean : All (Meaningful (search_tests ps)) (alternatives_of q)
  alternatives_mean = (pairs_alike ps s.well_formed alike.alike).1 (order_all (Meaningful (filter_tests ps)) alike.order (subst (All (Meaningful (filter_tests ps))) (joined_tests alike.joined) tests_mean))

  sizes : length (alternatives_of q) ≡ length (tests_of f)
  sizes = (pairs_alike ps s.well_formed alike.alike).0 ∙ order_count alike.order ∙ sym (ap length (joined_tests alike.joined))

  filter_asks : filter_question sheet text ≡ found (record { parameters = ps; says = λ es. filter_says ps 0 es f })
  filter_asks =
      question_by sheet text _ (inputs_accepted sheet text s f short spells)
      ∙ ap (λ (t : Step (Unit {0})). (t >>= λ u. found (record { parameters = ps; filter = f })) >>= λ p. found (question_of p))
      (all_found (filter_tests ps) (tests_outcome ps s.well_formed (tests_of f)) tests_mean)

  search_asks : search_question sheet query ≡ found (record { parameters = ps; says = λ es. query_says ps es q })
  search_asks =
      query_question sheet query s q asked
      ∙ ap (λ (t : Step (Unit {0})). (t >>= λ u. found (record { parameters = ps; query = q })) >>= λ p. found (question_of_query p))
      (all_found (search_tests ps) (alternatives-outcome ps s.well_formed (alternatives_of q)) alternatives_mean)

  -- both ask one question
  one_question : search_question sheet query ≡ filter_question sheet text
  one_question =
      search_asks ∙ ap (λ (g : List Entry → Bool). found (record { parameters = ps; says = g })) (fun_ext (λ es. query_says_lem ps s.well_formed es q f alike)) ∙ sym filter_asks

  pub same_question : AnsweredAlike sheet query text
  same_question =
      record {
        check = (search_demand_met sheet query s q asked).passes.1 alternatives_mean ∙ ap count sizes ∙ sym passes;
        match = λ card. ap (λ (x : Step Question). match_by x card) one_question;
        select = λ cards room. ap (λ (x : Step Question). select_by x cards room) one_question;
        cells = λ cards list. ap (λ (x : Step Question). cells_by x cards list) one_question;
      }
