-- The computed tests are the rules: what a path names, whether entries conform, and what a test and a filter say.
-- A rule is a data type with its cases, and its test a nested choice. `-there` leads from the test to the rule, by what the test has found,
-- and `-back` from the rule to the test, by the rule's cases; `-iff` is both. Paths are by induction on the path one way and on the rule
-- the other (`names_in_iff`), entries on their list (`entries_iff`), filters on the tree (`filter_says_iff`). `PrSpelled` says that the
-- value of pr is true or false. The computed verdict does not test that: it takes every value that is not true for false. `PrSpelled` holds
-- of a test that does not lack a meaning (`pr_spelled`).
-- Assumes nothing.
use Rattle.std.specs.Prelude.{Option, Some, None, Option as Maybe}
use Prim.Native.Nat.{ℕ, zero, suc, ◌+◌, ◌≤◌}
use native.Mathlib.Omega.{arith}
use mathlib.Core.Path.{◌≡◌, refl, ap, sym, ◌∙◌, subst}
use mathlib.Core.Bool.{Bool, true, false, cond, not, false≢true}
use mathlib.Core.Logic.{◌↔◌, ◌⊎◌, ⊎_elim, inl, inr}
use mathlib.Core.List.{List, [], ◌∷◌, Memᴰ, map, cons≢nil}
use lib.Dec.{eqb}
use lib.ListN.{length, length-append}
use borrow.Author.Tests.{not-true, ne_eqb, eqb-true}
use Rattle.base.specs.Ascii.{ascii}
use Rattle.base.specs.Operators.{pr, eq, ne, ap as approximately, ss, sb, «in», ni}
use Rattle.base.proofs.Tests.{or_either, or_left, or_right, decided, both_ways, cond_either, and_left, and_right, and_both, cond-elim}
use Rattle.text.specs.Fold.{fold_text}
use Rattle.kind.specs.Readable.{card_readable, is_true, is_false}
use Rattle.kind.specs.Rules.{ReadableOnCard, TrueOrFalse, spells_true, spells_false}
use Rattle.base.specs.Lists.{Listed, All, all_empty, all_cons, every}
use Rattle.base.proofs.Lists.{every-member}
use Rattle.base.proofs.All.{all_head, all_right, all_left}
use Rattle.base.specs.Kinds.{bundle_kind}
use Rattle.sheet.specs.Sheet.{Parameter, parameter, kind_at}
use Rattle.sheet.specs.Encode.{ValueKind, WellFormedParameter, HasParent, at_top, in_bundle, WellFormedSheet}
use Rattle.sheet.specs.Find.{found_at, find, nowhere, inside, enter}
use Rattle.sheet.specs.declared.Found.{Found}
use Rattle.sheet.proofs.Listed.{find_iff, at_listed, listed_kind}
use Rattle.card.specs.Card.{Entry}
use Rattle.syntax.specs.Tree.{Path, name, member, Test, under, Tree, test, bracketed, join, negation, tests_of}
use Rattle.syntax.specs.Fold.{fold_tree}
use Rattle.syntax.specs.declared.Connective.{Connective}
use Rattle.kind.specs.Table.{string_row, number_row, date_row, token_row, reference_row, kinds, of_kind, row, relation_in, meaning_by, row_meaning, meaning_of, is_meaning, has_meaning}
use Rattle.kind.specs.declared.Meaning.{Meaning}
use Rattle.kind.specs.declared.Relation.{Relation}
use Rattle.judge.specs.Sets.{lookup, entry_conforms, conforms, values_at, of_occurrence, keep}
use Rattle.judge.specs.Faults.{unsupported}
use Rattle.judge.specs.Rules.{EntryConforms, NamesIn, Names, names, names_member, NotOnSheet, LacksMeaning, neither, Says, says_present, says_absent, says_relates, says_differs, Keeps, keeps_none, keeps, leaves, FilterSays}
use Rattle.kind.proofs.Rules.{row_iff, card_iff, true_iff, false_iff, ne_not_in_row, pr_not_in_row, each_row, by_row, relates_iff}
use Rattle.kind.specs.Relations.{relates_to}
use Rattle.judge.specs.Verdicts.{some_value, is_empty, says_of, says_at, test_says, filter_says}

-- no kind has ap, ss, sb, in or ni
five_lack : (kind : ℕ) → every (λ k. not (has_meaning k kind)) (approximately ∷ ss ∷ sb ∷ «in» ∷ ni ∷ []) ≡ true
unfolding every has_meaning meaning_of row_meaning relation_in each_row kinds string_row number_row date_row token_row reference_row
five_lack =
    by_row (λ us. every (λ k. not (is_meaning (cond (eqb k pr) Meaning.Present (row_meaning us k)))) (approximately ∷ ss ∷ sb ∷ «in» ∷ ni ∷ []))
    refl refl

pub unsupported_lacks : (kind k : ℕ) → unsupported k ≡ true → has_meaning k kind ≡ false
unfolding unsupported
unsupported_lacks kind k h = not-true (has_meaning k kind) (every-member (λ o. not (has_meaning o kind)) (approximately ∷ ss ∷ sb ∷ «in» ∷ ni ∷ []) k (five_lack kind) h)

-- ---- names

at-bundle : (ps : List Parameter) (c : ℕ) (n : List ℕ) (j : ℕ) → find c n ps ≡ found_at j bundle_kind → enter ps c n ≡ suc j
unfolding enter
at-bundle ps c n j e = rw e (omega arith)

module _ (ps : List Parameter) (w : WellFormedSheet ps) where
  -- no parameter has nowhere as its bundle
  listed_within : (i k c : ℕ) (n : List ℕ) → Listed ps i (parameter k c n) → c ≤ 32
  listed_within i k c n l = by (all_head (HasParent ps) (all_right (HasParent ps) l.before (subst (All (HasParent ps)) l.split w.parents)))
    where
      by : HasParent ps (parameter k c n) → c ≤ 32
      by (at_top e) = omega arith
      by (in_bundle {i = j} {q = q} m b e o) = omega (arith, w.count, ap length m.split, length-append m.before (q ∷ m.after), m.index)

  never_nowhere : {path : Path} {i k : ℕ} → NamesIn ps nowhere path i k → ⊥
  never_nowhere (names {n = n} {i = i} {k = k} l) = let z = listed_within i k nowhere n l in omega arith
  never_nowhere (names_member {j = j} {b = b} l m) = let z = listed_within j bundle_kind nowhere b l in omega arith

  names_there : (path : Path) (c i k : ℕ) → lookup ps c path ≡ found_at i k → NamesIn ps c path i k
  unfolding lookup enter
  names_there (name n) c i k h = names ((find_iff c n ps w.names i k).0 h)
  names_there (member b path) c i k h = by (find c b ps) refl h (λ x g. names_there path x i k g)
    where
      kinds : (j m : ℕ) → find c b ps ≡ found_at j m → (t : Bool) → eqb m bundle_kind ≡ t → lookup ps (cond t (j + 1) nowhere) path ≡ found_at i k
          → ((x : ℕ) → lookup ps x path ≡ found_at i k → NamesIn ps x path i k) → NamesIn ps c (member b path) i k
      kinds j m e true f g again =
          let one : j + 1 ≡ suc j = omega arith in
          names_member ((find_iff c b ps w.names j bundle_kind).0 (e ∙ ap (found_at j) (eqb-true m bundle_kind f))) (again (suc j) (ap (λ (x : ℕ). lookup ps x path) (sym one) ∙ g))
      kinds j m e false f g again = absurd (never_nowhere (again nowhere g))

      by : (o : Maybe Found) → find c b ps ≡ o → lookup ps (inside o) path ≡ found_at i k → ((x : ℕ) → lookup ps x path ≡ found_at i k → NamesIn ps x path i k) → NamesIn ps c (member b path) i k
      by None e g again = absurd (never_nowhere (again nowhere g))
      by (Some found) e g again = kinds found.index found.kind e (eqb found.kind bundle_kind) refl g again

  names_back : {path : Path} {c i k : ℕ} → NamesIn ps c path i k → lookup ps c path ≡ found_at i k
  unfolding lookup
  names_back (names {c = c} {n = n} {i = i} {k = k} l) = (find_iff c n ps w.names i k).1 l
  names_back (names_member {c = c} {j = j} {b = b} {path = path} l m) =
      ap (λ (x : ℕ). lookup ps x path) (at-bundle ps c b j ((find_iff c b ps w.names j bundle_kind).1 l)) ∙ names_back m

  -- a path is found exactly where it names a parameter
  pub names_in_iff : (c : ℕ) (path : Path) (i k : ℕ) → (lookup ps c path ≡ found_at i k) ↔ NamesIn ps c path i k
  names_in_iff c path i k = (names_there path c i k, names_back)

  pub names_iff : (path : Path) (i k : ℕ) → (lookup ps 0 path ≡ found_at i k) ↔ Names ps path i k
  names_iff path i k = (names_there path 0 i k, names_back)

  -- a name that paths go into is that of a bundle
  pub entered : (c : ℕ) (b : List ℕ) (path : Path) (i k : ℕ) → lookup ps (enter ps c b) path ≡ found_at i k → (j : ℕ) × Listed ps j (parameter bundle_kind c b)
  unfolding lookup
  entered c b path i k e = by (names_there (member b path) c i k e)
    where
      by : NamesIn ps c (member b path) i k → (j : ℕ) × Listed ps j (parameter bundle_kind c b)
      by (names_member {j = j} l m) = (j, l)

  pub enters : (c : ℕ) (b : List ℕ) (j : ℕ) → Listed ps j (parameter bundle_kind c b) → enter ps c b ≡ suc j
  enters c b j l = at-bundle ps c b j ((find_iff c b ps w.names j bundle_kind).1 l)

  missing_there : (path : Path) → lookup ps 0 path ≡ None → NotOnSheet ps path
  missing_there path h i k m = let e = names_back m in let z : ◌≡◌ {A = ℕ} 0 1 = cc in omega arith

  missing_back : (path : Path) (o : Maybe Found) → lookup ps 0 path ≡ o → NotOnSheet ps path → o ≡ None
  missing_back path (Some found) e n = absurd (n found.index found.kind (names_there path 0 found.index found.kind e))
  missing_back path None e n = refl

  -- and missing exactly where it names none
  pub missing_iff : (path : Path) → (lookup ps 0 path ≡ None) ↔ NotOnSheet ps path
  missing_iff path = (missing_there path, (λ n. missing_back path (lookup ps 0 path) refl n))

-- what a path names is listed
pub names_listed : {ps : List Parameter} {path : Path} {c i k : ℕ} → NamesIn ps c path i k → (b : ℕ) × (n : List ℕ) × Listed ps i (parameter k b n)
names_listed (names {c = c} {n = n} l) = (c, n, l)
names_listed (names_member l m) = names_listed m

-- and is a kind of values, or a bundle
pub names_kind : (ps : List Parameter) → WellFormedSheet ps → {path : Path} {c i k : ℕ} → NamesIn ps c path i k → ValueKind k ⊎ (k ≡ bundle_kind)
names_kind ps w {k = k} j =
    let (b, n, l) = names_listed j in
    let good : WellFormedParameter (parameter k b n) =
    all_head WellFormedParameter (all_right WellFormedParameter l.before (subst (All WellFormedParameter) l.split w.parameters))
    in
    good.kind

-- ---- cards

module _ (ps : List Parameter) where
  entry_there : (e : Entry) (k : ℕ) → kind_at e.index ps ≡ k → card_readable k e.text ≡ true → EntryConforms ps e
  unfolding card_readable of_kind kinds
  entry_there e zero g h = absurd (false≢true h)
  entry_there e (suc k) g h =
      let l = at_listed e.index ps k g in
      record { parameter = l.0; listed = l.1; readable = subst (λ (m : ℕ). ReadableOnCard m e.text) (sym l.2) ((card_iff (suc k) e.text).0 h) }

  entry-back : (e : Entry) → EntryConforms ps e → entry_conforms ps e ≡ true
  unfolding entry_conforms
  entry-back e c =
      let k = c.parameter.kind in
      ap (λ (m : ℕ). card_readable m e.text) (listed_kind ps e.index c.parameter c.listed) ∙ (card_iff k e.text).1 c.readable

  entries_there : (es : List Entry) → conforms ps es ≡ true → All (EntryConforms ps) es
  unfolding conforms entry_conforms
  entries_there [] h = all_empty
  entries_there (e ∷ es) h =
      all_cons (entry_there e (kind_at e.index ps) refl (and_left (entry_conforms ps e) (conforms ps es) h)) (entries_there es (and_right (entry_conforms ps e) (conforms ps es) h))

  entries_back : (es : List Entry) → All (EntryConforms ps) es → conforms ps es ≡ true
  unfolding conforms
  entries_back [] h = refl
  entries_back (e ∷ es) (all_cons c h) = and_both (entry_conforms ps e) (conforms ps es) (entry-back e c) (entries_back es h)

  -- the entries of a card conform exactly where each does
  pub entries_iff : (es : List Entry) → (conforms ps es ≡ true) ↔ All (EntryConforms ps) es
  entries_iff es = (entries_there es, entries_back es)

-- what an operator means for a kind, by the kind's row
pub data MeansFor (operator kind : ℕ) : Meaning → Type 0 where
  means_present : operator ≡ pr → MeansFor operator kind Meaning.Present
  means_relation : {r : Relation} → relation_in (row kind) operator ≡ Some r → MeansFor operator kind (Meaning.Relates r)
  means_other : {r : Relation} → operator ≡ ne → relation_in (row kind) eq ≡ Some r → MeansFor operator kind (Meaning.Differs r)
  means_nothing : MeansFor operator kind Meaning.Nothing

-- ---- some text of a set

pub some_there : (p : List ℕ → Bool) (xs : List (List ℕ)) → some_value p xs ≡ true → (x : List ℕ) × Memᴰ x xs × (p x ≡ true)
unfolding some_value
some_there p [] h = absurd (false≢true h)
some_there p (x ∷ xs) h =
    ⊎_elim (λ e. (x, Memᴰ.head refl, e)) (λ r. let w = some_there p xs r in (w.0, Memᴰ.tail w.1, w.2)) (or_either (p x) (some_value p xs) h)

pub some_back : (p : List ℕ → Bool) {x : List ℕ} {xs : List (List ℕ)} → Memᴰ x xs → p x ≡ true → some_value p xs ≡ true
unfolding some_value
some_back p (Memᴰ.head {x = y} {xs = xs} e) h = or_left (p y) (some_value p xs) (ap p (sym e) ∙ h)
some_back p (Memᴰ.tail {x = y} {xs = xs} m) h = or_right (p y) (some_value p xs) (some_back p m h)

empty_iff : (xs : List (List ℕ)) → (is_empty xs ≡ true) ↔ (xs ≡ [])
unfolding is_empty
empty_iff [] = ((λ _. refl), (λ _. refl))
empty_iff (x ∷ xs) = ((λ h. absurd (false≢true h)), (λ e. absurd (cons≢nil e)))

-- ---- what an operator means for a kind, by the kind's row

meaning_relation : (op kind : ℕ) (o : Option Relation) → relation_in (row kind) op ≡ o → MeansFor op kind (meaning_by Meaning.Relates o)
meaning_relation op kind (Some r) e = means_relation e
meaning_relation op kind None e = means_nothing

meaning_other : (op kind : ℕ) → op ≡ ne → (o : Option Relation) → relation_in (row kind) eq ≡ o → MeansFor op kind (meaning_by Meaning.Differs o)
meaning_other op kind n (Some r) e = means_other n e
meaning_other op kind n None e = means_nothing

means_for : (op kind : ℕ) → MeansFor op kind (meaning_of op kind)
unfolding meaning_of row_meaning
means_for op kind =
    cond-elim (MeansFor op kind) (eqb op pr) (λ e. means_present (eqb-true op pr e))
    (λ _. cond-elim (MeansFor op kind) (eqb op ne)
    (λ e. meaning_other op kind (eqb-true op ne e) (relation_in (row kind) eq) refl)
    (λ _. meaning_relation op kind (relation_in (row kind) op) refl))

none_not_some : {A : Type 0} {x : A} {o : Option A} {X : Type 0} → o ≡ None → o ≡ Some x → X
none_not_some {X = X} p q = absurd (let z : ◌≡◌ {A = ℕ} 0 1 = cc in omega arith)

-- the relation that the row gives an operator is what it means
relation_means : (op kind : ℕ) (r : Relation) → relation_in (row kind) op ≡ Some r → meaning_of op kind ≡ Meaning.Relates r
unfolding meaning_of row_meaning
relation_means op kind r e =
    let not-pr : op ≡ pr → ⊥ = λ h. none_not_some (ap (relation_in (row kind)) h ∙ pr_not_in_row kind) e in
    let not-ne : op ≡ ne → ⊥ = λ h. none_not_some (ap (relation_in (row kind)) h ∙ ne_not_in_row kind) e in
    rw (ne_eqb op pr not-pr, ne_eqb op ne not-ne, e)

present : (kind : ℕ) → meaning_of pr kind ≡ Meaning.Present
unfolding meaning_of
present kind = refl

other_means : (kind : ℕ) (r : Relation) → relation_in (row kind) eq ≡ Some r → meaning_of ne kind ≡ Meaning.Differs r
unfolding meaning_of row_meaning
other_means kind r e = rw e

-- ---- a test

neither_spelled : (v : List ℕ) → is_true v ≡ false → is_false v ≡ false → TrueOrFalse v → ⊥
neither_spelled v a b (spells_true e) = both_ways ((true_iff v).1 e) a
neither_spelled v a b (spells_false e) = both_ways ((false_iff v).1 e) b

-- false is spelled otherwise than true
false_not_true : (v : List ℕ) → fold_text v ≡ ascii "false" → is_true v ≡ false
false_not_true v e = ⊎_elim (λ h. absurd (not_both (sym ((true_iff v).0 h) ∙ e))) (λ h. h) (decided (is_true v))
  where
    not_both : ascii "true" ≡ ascii "false" → ⊥
    not_both h = let z : ◌≡◌ {A = ℕ} 116 102 = cc in omega arith

-- a test whose operator is pr spells true or false
abbrev pub PrSpelled : Test → Type 0
PrSpelled t = t.operator ≡ pr → TrueOrFalse t.value

module _ (ps : List Parameter) (w : WellFormedSheet ps) (c : ℕ) (es : List Entry) (t : Test) where
  says_present_or_absent : {i k : ℕ} → NamesIn ps c t.path i k → t.operator ≡ pr → PrSpelled t
      → cond (is_true t.value) (not (is_empty (values_at i es))) (is_empty (values_at i es)) ≡ true → Says ps c es t
  says_present_or_absent {i = i} j e meaning h =
      let set = values_at i es in
      ⊎_elim
      (λ d. says_present j e ((true_iff t.value).0 d.0) (λ z. both_ways ((empty_iff set).1 z) (not-true (is_empty set) d.1)))
      (λ d. ⊎_elim
      (λ f. says_absent j e ((false_iff t.value).0 f) ((empty_iff set).0 d.1))
      (λ n. absurd (neither_spelled t.value d.0 n (meaning e)))
      (decided (is_false t.value)))
      (cond_either (is_true t.value) (not (is_empty set)) (is_empty set) h)

  says_by_lem : {m : Meaning} {i k : ℕ} → NamesIn ps c t.path i k → MeansFor t.operator k m → PrSpelled t → says_of m t.value (values_at i es) ≡ true
      → Says ps c es t
  unfolding says_of
  says_by_lem j (means_present e) meaning h = says_present_or_absent j e meaning h
  says_by_lem {i = i} {k = k} j (means_relation {r = r} e) meaning h =
      let x = some_there (λ x. relates_to r x t.value) (values_at i es) h in
      says_relates j ((row_iff k t.operator r).0 e) x.1 ((relates_iff r x.0 t.value).0 x.2)
  says_by_lem {i = i} {k = k} j (means_other {r = r} n e) meaning h =
      let x = some_there (λ x. not (relates_to r x t.value)) (values_at i es) h in
      says_differs j n ((row_iff k eq r).0 e) x.1 (λ s. both_ways ((relates_iff r x.0 t.value).1 s) (not-true (relates_to r x.0 t.value) x.2))
  says_by_lem j means_nothing meaning h = absurd (false≢true h)

  says_there : PrSpelled t → (o : Maybe Found) → lookup ps c t.path ≡ o → says_at o t.operator t.value es ≡ true → Says ps c es t
  says_there meaning None e h = absurd (false≢true h)
  says_there meaning (Some found) e h = says_by_lem ((names_in_iff ps w c t.path found.index found.kind).0 e) (means_for t.operator found.kind) meaning h

  -- what a test says at the parameter that its path names
  at-parameter : {i k : ℕ} (m : Meaning) → NamesIn ps c t.path i k → meaning_of t.operator k ≡ m → says_of m t.value (values_at i es) ≡ true → test_says ps c es t ≡ true
  unfolding test_says
  at-parameter {i = i} {k = k} m j e h = rw ((names_in_iff ps w c t.path i k).1 j, e) h

  says_back : Says ps c es t → test_says ps c es t ≡ true
  unfolding says_of
  says_back (says_present {i = i} {k = k} j e v n) =
      let set = values_at i es in
      let filled : is_empty set ≡ false = ⊎_elim (λ h. absurd (n ((empty_iff set).0 h))) (λ h. h) (decided (is_empty set)) in
      at-parameter Meaning.Present j (rw e (present k)) (rw ((true_iff t.value).1 v, filled))
  says_back (says_absent {i = i} {k = k} j e v z) =
      at-parameter Meaning.Present j (rw e (present k)) (rw (false_not_true t.value v) ((empty_iff (values_at i es)).1 z))
  says_back (says_relates {i = i} {k = k} {r = r} {x = x} j e m s) =
      at-parameter (Meaning.Relates r) j (relation_means t.operator k r ((row_iff k t.operator r).1 e)) (some_back (λ x. relates_to r x t.value) m ((relates_iff r x t.value).1 s))
  says_back (says_differs {i = i} {k = k} {r = r} {x = x} j n e m s) =
      let differs : not (relates_to r x t.value) ≡ true = ⊎_elim (λ h. absurd (s ((relates_iff r x t.value).0 h))) (λ h. ap not h) (decided (relates_to r x t.value)) in
      at-parameter (Meaning.Differs r) j (rw n (other_means k r ((row_iff k eq r).1 e))) (some_back (λ x. not (relates_to r x t.value)) m differs)

  -- a test with a meaning says yes exactly where the rules do
  pub says_iff : PrSpelled t → (test_says ps c es t ≡ true) ↔ Says ps c es t
  unfolding test_says
  says_iff meaning = (says_there meaning (lookup ps c t.path) refl, says_back)

-- a test that does not lack a meaning spells true or false after pr
pub pr_spelled : (ps : List Parameter) (es : List Entry) (t : Test) → (LacksMeaning ps es t → ⊥) → PrSpelled t
pr_spelled ps es t meaning e =
    let v = t.value in
    ⊎_elim (λ y. spells_true ((true_iff v).0 y))
    (λ n. ⊎_elim (λ y. spells_false ((false_iff v).0 y)) (λ m. absurd (meaning (neither e (neither_spelled v n m)))) (decided (is_false v)))
    (decided (is_true v))

-- ---- a filter

-- the entries kept by a test are those of which it says what it stands for
keeps_there : (P : Entry → Type 0) (p : Entry → Bool) → ((e : Entry) → (p e ≡ true) ↔ P e) → (es : List Entry) → Keeps P es (keep p es)
unfolding keep
keeps_there P p h [] = keeps_none
keeps_there P p h (e ∷ es) =
    cond-elim (Keeps P (e ∷ es)) (p e) (λ y. keeps ((h e).0 y) (keeps_there P p h es)) (λ n. leaves (λ x. both_ways ((h e).1 x) n) (keeps_there P p h es))

keeps_back : (P : Entry → Type 0) (p : Entry → Bool) → ((e : Entry) → (p e ≡ true) ↔ P e) → {es kept : List Entry} → Keeps P es kept → kept ≡ keep p es
unfolding keep
keeps_back P p h keeps_none = refl
keeps_back P p h (keeps {e = e} x k) = rw ((h e).1 x) (ap (λ (l : List Entry). e ∷ l) (keeps_back P p h k))
keeps_back P p h (leaves {e = e} n k) = rw (⊎_elim (λ y. absurd (n ((h e).0 y))) (λ y. y) (decided (p e))) (keeps_back P p h k)

all_tail : (P : Test → Type 0) {t : Test} {ts : List Test} → All P (t ∷ ts) → All P ts
all_tail P (all_cons p h) = h

-- members spell as their tests do
spelled_under : (b : List ℕ) (ts : List Test) → All PrSpelled (map (under b) ts) → All PrSpelled ts
spelled_under b [] h = all_empty
spelled_under b (t ∷ ts) h = all_cons (all_head PrSpelled h) (spelled_under b ts (all_tail PrSpelled h))

module _ (ps : List Parameter) (w : WellFormedSheet ps) where
  module _ (c : ℕ) (es : List Entry) (p : ℕ) (b : List ℕ) (f : Tree) (t : Test) where
    abbrev chosen_in : ℕ → List Entry
    chosen_in x = keep (λ e. filter_says ps x (of_occurrence e.occurrence es) f) es

    -- the bundle that the name names
    bundle_there : (o : Maybe Found) → lookup ps (enter ps c b) t.path ≡ o → says_at o t.operator t.value (chosen_in (enter ps c b)) ≡ true → (j : ℕ) × Listed ps j (parameter bundle_kind c b)
    bundle_there None e h = absurd (false≢true h)
    bundle_there (Some found) e h = entered ps w c b t.path found.index found.kind e

    bundle_of : filter_says ps c es (bracketed p b f t) ≡ true → (j : ℕ) × Listed ps j (parameter bundle_kind c b)
    unfolding filter_says fold_tree test_says
    bundle_of h = bundle_there (lookup ps (enter ps c b) t.path) refl h

    -- what is said in it
    bundle-says : (j : ℕ) → Listed ps j (parameter bundle_kind c b) → filter_says ps c es (bracketed p b f t) ≡ test_says ps (suc j) (chosen_in (suc j)) t
    unfolding filter_says fold_tree
    bundle-says j l = ap (λ (x : ℕ). test_says ps x (chosen_in x) t) (enters ps w c b j l)

    module _ (spelled : PrSpelled t) (again : (j : ℕ) (l : List Entry) → (filter_says ps (suc j) l f ≡ true) ↔ FilterSays ps (suc j) l f) where
      bracket_there : filter_says ps c es (bracketed p b f t) ≡ true → FilterSays ps c es (bracketed p b f t)
      bracket_there h =
          let (j, l) = bundle_of h in
          let kept = keeps_there (λ e. FilterSays ps (suc j) (of_occurrence e.occurrence es) f) (λ e. filter_says ps (suc j) (of_occurrence e.occurrence es) f) (λ e. again j (of_occurrence e.occurrence es)) es in
          (j, l, chosen_in (suc j), kept, (says_iff ps w (suc j) (chosen_in (suc j)) t spelled).0 (sym (bundle-says j l) ∙ h))

      bracket_back : FilterSays ps c es (bracketed p b f t) → filter_says ps c es (bracketed p b f t) ≡ true
      bracket_back (j, l, kept, k, s) =
          let same : kept ≡ chosen_in (suc j) = keeps_back (λ e. FilterSays ps (suc j) (of_occurrence e.occurrence es) f) (λ e. filter_says ps (suc j) (of_occurrence e.occurrence es) f) (λ e. again j (of_occurrence e.occurrence es)) k in
          bundle-says j l ∙ ap (λ (x : List Entry). test_says ps (suc j) x t) (sym same) ∙ (says_iff ps w (suc j) kept t spelled).1 s

  -- where each pr spells true or false, the filter says yes exactly where the rules do
  pub filter_says_iff : (c : ℕ) (es : List Entry) (f : Tree) → All PrSpelled (tests_of f) → (filter_says ps c es f ≡ true) ↔ FilterSays ps c es f
  unfolding filter_says fold_tree tests_of
  filter_says_iff c es (test t) h = says_iff ps w c es t (all_head PrSpelled h)
  filter_says_iff c es (bracketed p b f t) h =
      let again : (j : ℕ) (l : List Entry) → (filter_says ps (suc j) l f ≡ true) ↔ FilterSays ps (suc j) l f = λ j l. filter_says_iff (suc j) l f (spelled_under b (tests_of f) (all_tail PrSpelled h)) in
      (bracket_there c es p b f t (all_head PrSpelled h) again, bracket_back c es p b f t (all_head PrSpelled h) again)
  filter_says_iff c es (join Connective.And f g) h =
      let x = filter_says ps c es f in
      let y = filter_says ps c es g in
      let i = filter_says_iff c es f (all_left PrSpelled (tests_of f) (tests_of g) h) in
      let j = filter_says_iff c es g (all_right PrSpelled (tests_of f) h) in
      ((λ e. (i.0 (and_left x y e), j.0 (and_right x y e))), (λ s. and_both x y (i.1 s.0) (j.1 s.1)))
  filter_says_iff c es (join Connective.Or f g) h =
      let x = filter_says ps c es f in
      let y = filter_says ps c es g in
      let i = filter_says_iff c es f (all_left PrSpelled (tests_of f) (tests_of g) h) in
      let j = filter_says_iff c es g (all_right PrSpelled (tests_of f) h) in
      ((λ e. ⊎_elim (λ u. inl (i.0 u)) (λ v. inr (j.0 v)) (or_either x y e)), ⊎_elim (λ u. or_left x y (i.1 u)) (λ v. or_right x y (j.1 v)))
  filter_says_iff c es (negation f) h =
      let x = filter_says ps c es f in
      let i = filter_says_iff c es f h in
      ((λ e s. both_ways (i.1 s) (not-true x e)), (λ n. ⊎_elim (λ e. absurd (n (i.0 e))) (λ e. ap not e) (decided x)))
