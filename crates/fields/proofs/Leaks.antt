-- The two meanings under which an unused field counts do not go by the names used: a card without entries and a card with one entry tell each
-- of them from one that does.
-- A meaning that goes by names says the same of two cards that agree under the names used. So one filter and two such cards are enough, of
-- which the meaning says no and yes (`two_cards`): the card without entries, and one with an entry under a name that the filter does not
-- use. In `all_texts_leak` the filter asks whether there is a birthdate, and the entry is a title. In `occurrence_leak` it asks for
-- relations without a target, and the entry is a relation's type. That the cards agree is computed, and what the meaning says follows from
-- the rules.
-- Assumes nothing.
use Prim.Native.Nat.{ℕ}
use native.Mathlib.Omega.{arith}
use mathlib.Core.Path.{◌≡◌, refl, sym, ◌∙◌}
use mathlib.Core.Bool.{true, false}
use mathlib.Core.List.Memᴰ
use mathlib.Core.List.{List, [], ◌∷◌, cons≢nil}
use Rattle.base.specs.Ascii.{ascii}
use Rattle.base.specs.Kinds.{string, date, token, reference, bundle_kind}
use Rattle.base.specs.Lists.{Listed, All, all_empty, all_cons, equal}
use Rattle.base.specs.Operators.{pr}
use Rattle.base.proofs.All.{all_head}
use Rattle.text.specs.Fold.{is_capital, fold_byte, fold_from, fold_text}
use Rattle.sheet.specs.Sheet.{Parameter, parameter}
use Rattle.sheet.specs.Encode.{WellFormedSheet}
use Rattle.sheet.specs.Find.{found_at, find_from, find, enter}
use Rattle.sheet.proofs.Listed.{found_same}
use Rattle.sheet.specs.Trial.{trial_parameters, trial_sheet, bundle_parameters, bundle_sheet}
use Rattle.sheet.proofs.Sheets.{sheet_reads_iff}
use Rattle.sheet.proofs.Trial.{trial_sheet_reads, bundle_sheet_reads}
use Rattle.card.specs.Card.{Entry}
use Rattle.syntax.specs.Tree.{Path, name, member, Test, Tree, test, bracketed, tests_of}
use Rattle.kind.specs.Rules.{TrueOrFalse, spells_true, spells_false}
use Rattle.judge.specs.Sets.{lookup, values_at, keep, of_occurrence}
use Rattle.judge.specs.Rules.{LacksMeaning, not_on_sheet, bare_bundle, neither, lacks_operator, unreadable, Says, says_present, says_absent, says_relates, says_differs, keeps, keeps_none}
use Rattle.judge.proofs.Rules.{names_in_iff, names_iff}
use Rattle.kind.specs.Readable.{witness_text}
use Rattle.answer.proofs.Cards.{one_entry, empty_conforms, one_entry-conforms}
use Rattle.fields.specs.Used.{names_of, Alike, ByNames}
use Rattle.fields.specs.Leaks.{spread, AllTextsSay, Occurs, Occurring, occurring, OccurringSay}
use Rattle.fields.proofs.Comparing.{within, alike, marks_at, name_by, member_by_lem}

-- a test of pr
abbrev presence : Path → List ℕ → Test
presence path v = record { at = 0; path = path; operator = pr; value = v }

-- on a card without entries it has a meaning, where its path names a parameter that is no bundle
present_means : (ps : List Parameter) (w : WellFormedSheet ps) (path : Path) (v : List ℕ) (i k : ℕ) → lookup ps 0 path ≡ found_at i k → (k ≡ bundle_kind → ⊥) → TrueOrFalse v
    → LacksMeaning ps [] (presence path v) → ⊥
unfolding values_at
present_means ps w path v i k e n s (not_on_sheet none) = none i k ((names_iff ps w path i k).0 e)
present_means ps w path v i k e n s (bare_bundle {i = j} named) = let other = (names_iff ps w path j bundle_kind).1 named in n (found_same (sym e ∙ other)).1
present_means ps w path v i k e n s (neither _ other) = other s
present_means ps w path v i k e n s (lacks_operator _ filled _) = filled refl
present_means ps w path v i k e n s (unreadable _ filled _) = filled refl

-- a card without entries and a card with one, alike under the names used: a meaning that says yes of the second alone
module _ (Meant : List Parameter → List Entry → Tree → Type 0) (ps : List Parameter) (w : WellFormedSheet ps) (i : ℕ) (p : Parameter) (l : Listed ps i p) (n : p.kind ≡ bundle_kind → ⊥) where
  two_cards : (f : Tree) → All (λ t. LacksMeaning ps [] t → ⊥) (tests_of f) → Alike ps (names_of f) [] (one_entry ps w i p l)
      → (Meant ps [] f → ⊥) → Meant ps (one_entry ps w i p l) f → ByNames Meant → ⊥
  two_cards f means same says_no says_yes by_names =
      says_no ((by_names ps w _ _ [] (one_entry ps w i p l) (empty_conforms ps) (one_entry-conforms ps w i p l n) f means same).1 says_yes)

-- ---- all texts: `birthdate pr true`, and a title

trial_well_formed : WellFormedSheet trial_parameters
trial_well_formed = ((sheet_reads_iff trial_sheet false trial_parameters).0 trial_sheet_reads).0

title_listed : Listed trial_parameters 0 (parameter string 0 (ascii "title"))
unfolding trial_parameters
title_listed = record { before = []; after = _; split = refl; index = refl }

abbrev titled : List Entry
titled = one_entry trial_parameters trial_well_formed 0 (parameter string 0 (ascii "title")) title_listed

abbrev birthdate : Path
birthdate = name (ascii "birthdate")

true_spelled : fold_text (ascii "true") ≡ ascii "true"
unfolding fold_text fold_from fold_byte is_capital
true_spelled = refl

false_spelled : fold_text (ascii "false") ≡ ascii "false"
unfolding fold_text fold_from fold_byte is_capital
false_spelled = refl

birthdate-found : (lookup trial_parameters 0 birthdate ≡ found_at 1 date) × (alike (values_at 1 []) (values_at 1 titled) ≡ true)
unfolding trial_parameters lookup find find_from equal values_at within
birthdate-found = (refl, refl)

-- without entries there is nothing to say yes of
none_says : (t : Test) → t.value ≡ ascii "true" → Says trial_parameters 0 [] t → ⊥
unfolding values_at
none_says t v (says_present _ _ _ filled) = filled refl
none_says t v (says_absent _ _ said _) = let other : ascii "true" ≡ ascii "false" = sym true_spelled ∙ rw (← v) said in let z : ◌≡◌ {A = ℕ} 116 102 = cc in omega arith
none_says t v (says_relates _ _ m _) = Memᴰ.not-nil m
none_says t v (says_differs _ _ _ m _) = Memᴰ.not-nil m

pub all_texts_leak : ByNames AllTextsSay → ⊥
unfolding tests_of trial_parameters spread values_at
all_texts_leak =
    two_cards AllTextsSay trial_parameters trial_well_formed 0 (parameter string 0 (ascii "title")) title_listed (λ e. omega arith) (test (presence birthdate (ascii "true")))
    (all_cons (present_means trial_parameters trial_well_formed birthdate (ascii "true") 1 date birthdate-found.0 (λ e. omega arith) (spells_true true_spelled)) all_empty)
    (all_cons (name_by trial_parameters trial_well_formed [] titled 1 date (ascii "birthdate") birthdate-found.0 birthdate-found.1) all_empty)
    (none_says (presence birthdate (ascii "true")) refl)
    (says_present ((names_iff trial_parameters trial_well_formed birthdate 1 date).0 birthdate-found.0) refl true_spelled (λ e. cons≢nil e))

-- ---- an occurrence: `related[target pr false].target pr false`, and a relation of which only the type is known

bundle_well_formed : WellFormedSheet bundle_parameters
bundle_well_formed = ((sheet_reads_iff bundle_sheet true bundle_parameters).0 bundle_sheet_reads).0

related_listed : Listed bundle_parameters 0 (parameter bundle_kind 0 (ascii "related"))
unfolding bundle_parameters
related_listed = record { before = []; after = _; split = refl; index = refl }

type_listed : Listed bundle_parameters 1 (parameter token 1 (ascii "type"))
unfolding bundle_parameters
type_listed = record { before = parameter bundle_kind 0 (ascii "related") ∷ []; after = _; split = refl; index = refl }

abbrev typed : List Entry
typed = one_entry bundle_parameters bundle_well_formed 1 (parameter token 1 (ascii "type")) type_listed

abbrev target : Test
target = presence (name (ascii "target")) (ascii "false")

target_found : (lookup bundle_parameters 0 (member (ascii "related") (name (ascii "target"))) ≡ found_at 2 reference) × (lookup bundle_parameters 1 (name (ascii "target")) ≡ found_at 2 reference)
    × (alike (marks_at 2 []) (marks_at 2 typed) ≡ true)
unfolding bundle_parameters lookup find find_from enter equal keep within
target_found = (refl, refl, refl)

-- no occurrence of the relation has a target, and no relation is none
target-absent : (es : List Entry) → values_at 2 es ≡ [] → Says bundle_parameters 1 es target
target-absent es e = says_absent ((names_in_iff bundle_parameters bundle_well_formed 1 (name (ascii "target")) 2 reference).0 target_found.1) refl false_spelled e

type_occurs : Occurs bundle_parameters typed (ascii "related")
type_occurs =
    record {
      bundle = 0;
      is_bundle = related_listed;
      index = 1;
      occurrence = 0;
      text = witness_text token;
      held = Memᴰ.head refl;
      kind = token;
      name = ascii "type";
      is_member = type_listed;
    }

none_occurs : {b : List ℕ} {path : Path} → Occurring bundle_parameters [] (member b path) → ⊥
none_occurs (occurring o) = Memᴰ.not-nil o.held

pub occurrence_leak : ByNames OccurringSay → ⊥
unfolding tests_of values_at of_occurrence keep
occurrence_leak =
    let path = member (ascii "related") (name (ascii "target")) in
    let means = present_means bundle_parameters bundle_well_formed path (ascii "false") 2 reference target_found.0 (λ e. omega arith) (spells_false false_spelled) in
    let same = member_by_lem bundle_parameters bundle_well_formed [] typed 2 reference (ascii "related") (name (ascii "target")) target_found.0 target_found.2 in
    two_cards OccurringSay bundle_parameters bundle_well_formed 1 (parameter token 1 (ascii "type")) type_listed (λ e. omega arith) (bracketed 0 (ascii "related") (test target) target)
    (all_cons means (all_cons means all_empty)) (all_cons same (all_cons same all_empty)) (λ s. none_occurs (all_head (Occurring bundle_parameters []) s.0))
    (all_cons (occurring type_occurs) (all_cons (occurring type_occurs) all_empty), (0, related_listed, typed, keeps (target-absent typed refl) keeps_none, target-absent typed refl))
