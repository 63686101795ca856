-- Programs that the demand on check and match shuts out, shown on the trial sheet.
-- Assumes nothing.
use Rattle.std.specs.Prelude.{Ok, Result, ⊤}
use Prim.Native.Nat.{ℕ}
use native.Mathlib.Omega.{arith}
use mathlib.Core.Path.{◌≡◌, refl, subst}
use mathlib.Core.List.Memᴰ
use mathlib.Core.List.{List, []}
use mathlib.Core.Bool.{false}
use mathlib.Core.Option.{some}
use Rattle.base.specs.Ascii.{ascii}
use Rattle.base.specs.Lists.{all_empty, all_cons, every, equal, member}
use Rattle.base.specs.Affixes.{has_prefix}
use Rattle.base.specs.Digits.{is_digit}
use Rattle.base.specs.Between.{between}
use Rattle.base.specs.Names.{is_letter, is_name_start, is_name_part, is_reserved, is_name}
use Rattle.base.specs.Operators.{operator_words}
use Rattle.base.specs.Runs.{run, run_end}
use Rattle.base.proofs.All.{all_head}
use Rattle.sheet.specs.Encode.{WellFormedSheet}
use Rattle.sheet.specs.Find.{find_from, find}
use Rattle.sheet.specs.Trial.{trial_parameters, trial_sheet}
use Rattle.sheet.proofs.Sheets.{sheet_reads_iff}
use Rattle.sheet.proofs.Trial.{trial_sheet_reads}
use Rattle.card.specs.Encode.{encode_card}
use Rattle.syntax.specs.Tree.{Test, test, tests_of}
use Rattle.syntax.specs.Grammar.{Spells}
use Rattle.syntax.specs.Strings.{is_bare}
use Rattle.syntax.specs.Scan.{step_of, string_from, string_at, value_at, follows, find_operator, operator_at, test_value, test_operator, test_at, open_at, head_at, connective_at, close_at}
use Rattle.syntax.specs.Reader.{chain_of, filter_of, item_at, filter_at, read}
use Rattle.syntax.proofs.Spelling.{read_iff}
use Rattle.kind.specs.Table.{string_row, token_row, row, relation_in, row_meaning, meaning_of, has_meaning, kinds, of_kind}
use Rattle.kind.specs.Readable.{filter_readable, value_readable}
use Rattle.judge.specs.Sets.{lookup, values_at}
use Rattle.judge.specs.Faults.{unsupported, kind_fault, test_fault}
use Rattle.refusal.specs.declared.Reason.{Reason}
use Rattle.refusal.specs.Decisions.{refuse}
use Rattle.refusal.specs.Answers.{Answer, yes, no, count, refused}
use Rattle.refusal.specs.Steps.{found, stop}
use Rattle.answer.specs.Operations.{decision_step}
use Rattle.judge.specs.Rules.{FilterSays, Says, says_present, says_absent, says_relates, says_differs}
use Rattle.answer.specs.Verdicts.{Verdict, answers_yes, answers_no}
use Rattle.answer.specs.Demand.{Meaningful, RefusesAlike, filter_tests, FilterDemand}
use Rattle.sirophan.specs.Trial.{title_test, code_test}
use Rattle.answer.proofs.Cards.{empty_conforms}
use Rattle.answer.proofs.Outcomes.{TestOutcome, test_means, test_refused}
use Rattle.answer.proofs.Faults.{outcome}
use Rattle.refusal.specs.declared.Refusal.{Refusal}

-- ---- the two filters

trees_read : (read (ascii "title co \"BOOK\"") ≡ some (test title_test)) × (read (ascii "code gt 5") ≡ some (test code_test))
unfolding title_test code_test tests_of read filter_at item_at filter_of chain_of close_at connective_at head_at open_at test_at test_operator test_value operator_at find_operator follows value_at string_at string_from step_of is_bare run_end run operator_words is_name is_reserved is_name_part is_name_start is_letter between is_digit has_prefix equal every
trees_read = (refl, refl)

pub title_spelled : Spells (ascii "title co \"BOOK\"") (test title_test)
title_spelled = (read_iff (ascii "title co \"BOOK\"") (test title_test)).0 trees_read.0

pub code_spelled : Spells (ascii "code gt 5") (test code_test)
code_spelled = (read_iff (ascii "code gt 5") (test code_test)).0 trees_read.1

faults_found : (test_fault trial_parameters 0 title_test ≡ (Ok tt)) × (test_fault trial_parameters 0 code_test ≡ (refuse Reason.NoMeaning code_test.at))
unfolding title_test code_test trial_parameters test_fault kind_fault lookup find find_from equal unsupported member has_meaning meaning_of row_meaning relation_in row kinds of_kind string_row token_row value_readable filter_readable
faults_found = (refl, refl)

trial_well_formed : WellFormedSheet trial_parameters
trial_well_formed = ((sheet_reads_iff trial_sheet false trial_parameters).0 trial_sheet_reads).0

outcome_as : (t : Test) (d : Result ⊤ Refusal) → test_fault trial_parameters 0 t ≡ d → TestOutcome (filter_tests trial_parameters) t (decision_step d)
outcome_as t d e = subst (λ (k : Result ⊤ Refusal). TestOutcome (filter_tests trial_parameters) t (decision_step k)) e (outcome trial_parameters trial_well_formed t)

title_means : Meaningful (filter_tests trial_parameters) title_test
title_means = meaning (outcome_as title_test (Ok tt) faults_found.0)
  where
    meaning : TestOutcome (filter_tests trial_parameters) title_test (found tt) → Meaningful (filter_tests trial_parameters) title_test
    meaning (test_means m _) = m

code_lacks : Meaningful (filter_tests trial_parameters) code_test → ⊥
unfolding code_test
code_lacks m = shown (outcome_as code_test (refuse Reason.NoMeaning code_test.at) faults_found.1)
  where
    shown : TestOutcome (filter_tests trial_parameters) code_test (stop 16 code_test.at) → ⊥
    shown (test_refused r) = m r.card r.entries r.conforms r.lacks

-- of the card with no entries the first filter says no
says_none : Says trial_parameters 0 [] title_test → ⊥
unfolding values_at title_test
says_none (says_present j e v n) = omega (arith, e)
says_none (says_absent j e v z) = omega (arith, e)
says_none (says_relates j e m s) = Memᴰ.not-nil m
says_none (says_differs j n e m s) = Memᴰ.not-nil m

says_no : {a : Answer} → Verdict (FilterSays trial_parameters 0 [] (test title_test)) a → a ≡ no
says_no (answers_yes s e) = absurd (says_none s)
says_no (answers_no n e) = e

-- ---- what no check does, and no match

module _ (check : Answer) (match : List ℕ → Answer) where
  -- a filter with a meaning is passed, and match judges the card with no entries
  module _ (d : FilterDemand trial_parameters (test title_test) check match) where
    passed : check ≡ count 1
    unfolding tests_of
    passed = d.passes.1 (all_cons title_means all_empty)

    judged : match (encode_card false 0 []) ≡ no
    unfolding tests_of
    judged = says_no (d.verdict passed (encode_card false 0 []) [] (empty_conforms trial_parameters))

  -- a filter without is refused, and match refuses alike
  module _ (d : FilterDemand trial_parameters (test code_test) check match) where
    refused_alike : RefusesAlike (filter_tests trial_parameters) (tests_of (test code_test)) check match
    unfolding tests_of
    refused_alike = d.refuses (λ e. code_lacks (all_head (Meaningful (filter_tests trial_parameters)) (d.passes.0 e)))

-- a check that refuses everything
pub check_refuses_all : (n p : ℕ) (match : List ℕ → Answer) → FilterDemand trial_parameters (test title_test) (refused n p) match → ⊥
check_refuses_all n p match d = let e = passed (refused n p) match d in let z : ◌≡◌ {A = ℕ} 0 1 = cc in omega arith

-- a count made up
pub check_miscounts : (n : ℕ) → (n ≡ 1 → ⊥) → (match : List ℕ → Answer) → FilterDemand trial_parameters (test title_test) (count n) match → ⊥
check_miscounts n other match d = let e = passed (count n) match d in let z : n ≡ 1 = cc in other z

-- a check that passes everything
pub check-passes_all : (n : ℕ) (match : List ℕ → Answer) → FilterDemand trial_parameters (test code_test) (count n) match → ⊥
check-passes_all n match d = let e = (refused_alike (count n) match d).checked in let z : ◌≡◌ {A = ℕ} 0 1 = cc in omega arith

-- a match that refuses everything
pub match_refuses_all : (n p : ℕ) (check : Answer) → FilterDemand trial_parameters (test title_test) check (λ card. refused n p) → ⊥
match_refuses_all n p check d = let e = judged check (λ card. refused n p) d in let z : ◌≡◌ {A = ℕ} 0 1 = cc in omega arith

-- a match that says yes to all
pub match_says_yes : (check : Answer) → FilterDemand trial_parameters (test title_test) check (λ card. yes) → ⊥
match_says_yes check d = let e = judged check (λ card. yes) d in let z : ◌≡◌ {A = ℕ} 0 1 = cc in omega arith

-- a match that answers no where a test has no meaning
pub match_says_no : (check : Answer) → FilterDemand trial_parameters (test code_test) check (λ card. no) → ⊥
match_says_no check d = let e = (refused_alike check (λ card. no) d).matched [] in let z : ◌≡◌ {A = ℕ} 0 1 = cc in omega arith
