-- The table of refusals for check: sheet, text and tests are decided one after the other, each by its lines.
-- `Decided` says of a step: it has found something and none of its lines holds, or it has stopped at the line that decides. Sheet, text and
-- tests are each decided by their own lines. `decided_then` joins two steps where no line of the later one comes before a line of the
-- earlier one. The text's lines are in later groups than the sheet's, and the tests' in later groups than the text's (`apart_at`). The
-- tests share one group, so `tests_decided` is by induction on their list: the places rise, so a line of a later test has a later place
-- (`later_place`). `check_table` reads check's answer off.
-- Assumes nothing.
use Rattle.std.specs.Prelude.{Result, ⊤}
use Prim.Native.Nat.{ℕ, ◌≤◌, ◌<◌}
use native.Mathlib.Nat.{le_of_eq}
use native.Mathlib.Omega.{arith}
use mathlib.Core.Path.{◌≡◌, refl, sym, ◌∙◌, subst, subst₂}
use mathlib.Core.Bool.{true, ◌||◌}
use mathlib.Core.Logic.{◌↔◌, ◌⊎◌, inl, inr, ⊎_elim}
use mathlib.Core.Option.{Option, none, some}
use mathlib.Core.List.{List, ◌∷◌, Memᴰ}
use lib.Dec.{eqb, ltb}
use lib.ListN.{length}
use borrow.Author.Tests.{eq-eqb, eqb-true, lt-ltb, ltb-true}
use Rattle.base.specs.Lists.{member}
use Rattle.base.specs.Bytes.{Bytes}
use Rattle.base.proofs.Tests.{or_either, or_left, or_right, both_ways, cond-elim}
use Rattle.block.specs.Words.{word}
use Rattle.block.specs.Sum.{check_sum}
use Rattle.sheet.specs.Sheet.{Parameter, parameters_of}
use Rattle.sheet.specs.Encode.{WellFormedSheet, SheetBlock}
use Rattle.sheet.proofs.Sheets.{sheet_reads_iff}
use Rattle.syntax.specs.Tree.{Test, Tree, tests_of, Rising, rising_end, rising_next}
use Rattle.syntax.specs.Grammar.{deepest, most_tests, Spells}
use Rattle.syntax.specs.Reader.{read}
use Rattle.syntax.proofs.Spelling.{read_iff, spells_unique, tests_rise, rising_member}
use Rattle.place.specs.Begins.{Begins, Longest, Number, number_11, number_12, number_13}
use Rattle.place.proofs.Place.{text_place, text_number, longest_unique, number_unique}
use Rattle.judge.specs.Faults.{first_fault}
use Rattle.refusal.specs.Answers.{count, refused}
use Rattle.refusal.specs.Steps.{Step, found, ◌>>=◌}
use Rattle.answer.specs.Operations.{sheet_step, accept_sheet, tree_step, accept_filter, tests_step, Inputs, accept_inputs, check_answer}
use Rattle.answer.specs.Demand.{filter_tests}
use Rattle.answer.specs.Numbers.{TestLine, line_14, line_18, line_15, line_16, line_17}
use Rattle.refusal.specs.Order.{group, rank, Before, Decides}
use Rattle.answer.specs.Refusals.{SheetLine, line_1, line_2, line_3, TextLine, line_10, line_11, TestsLine, line_of_test, CheckLine}
use Rattle.refusal.proofs.Answers.{count_not_refused}
use Rattle.refusal.proofs.Deciding.{Decided, none_holds, one_decides, decided_as, decided_then, decided_found, decided_answer}
use Rattle.answer.proofs.Outcomes.{ReadsTo, size_wrong, sum_wrong, layout_wrong, all_right, TestOutcome, test_means, test_refused}
use Rattle.answer.proofs.Faults.{outcome}
use Rattle.answer.proofs.Inputs.{tests_next}
use Rattle.answer.proofs.Blocks.{sheet_reads_to}
use Rattle.refusal.proofs.Order.{apart_at, before_itself, before_ranks, later-group, later_place, no_lower_rank}
use Rattle.block.specs.declared.Flaw.{Flaw}

-- ---- the sheet

-- the parameters found are those of the sheet
abbrev pub OfSheet : List ℕ → List Parameter → Type 0
OfSheet sheet ps = (s : SheetBlock sheet) × (s.parameters ≡ ps)

module _ (sheet : List ℕ) where
  -- one sheet has the bytes
  pub sheet_parameters : (s : SheetBlock sheet) → parameters_of sheet ≡ s.parameters
  sheet_parameters s = ((sheet_reads_iff sheet s.marked s.parameters).1 (s.well_formed, s.form, s.encoded)).parameters

  -- none comes before n, where the lines that rank lower do not hold
  sheet_first_lem : (n : ℕ) → rank n ≤ rank 3 → (rank 1 < rank n → length sheet ≡ 512) → (rank 2 < rank n → check_sum sheet ≡ word sheet 508)
      → (m q : ℕ) → SheetLine sheet m q → Before m q n 0 → ⊥
  sheet_first_lem n h a b m q (line_1 u) k = u (a (before_ranks k))
  sheet_first_lem n h a b m q (line_2 u) k = u (b (before_ranks k))
  sheet_first_lem n h a b m q (line_3 u) k = let l = before_ranks k in omega arith

  sheet_none : length sheet ≡ 512 → check_sum sheet ≡ word sheet 508 → SheetBlock sheet → (m q : ℕ) → SheetLine sheet m q → ⊥
  sheet_none a b s m q (line_1 u) = u a
  sheet_none a b s m q (line_2 u) = u b
  sheet_none a b s m q (line_3 u) = u s

  sheet_step_lem : {r : Result ⊤ Flaw} → ReadsTo sheet (SheetBlock sheet) r → Decided (OfSheet sheet) (SheetLine sheet) (sheet_step r (parameters_of sheet))
  unfolding rank
  sheet_step_lem (size_wrong u) =
      one_decides (record { holds = line_1 u; first = sheet_first_lem 1 (omega arith) (λ l. absurd (omega arith)) (λ l. absurd (omega arith)) })
  sheet_step_lem (sum_wrong a u) =
      one_decides (record { holds = line_2 u; first = sheet_first_lem 2 (omega arith) (λ l. a) (λ l. absurd (omega arith)) })
  sheet_step_lem (layout_wrong a b u) =
      one_decides (record { holds = line_3 u; first = sheet_first_lem 3 (omega arith) (λ l. a) (λ l. b) })
  sheet_step_lem (all_right a b s) = none_holds (s, sym (sheet_parameters s)) (sheet_none a b s)

  pub sheet_decided : Bytes sheet → Decided (OfSheet sheet) (SheetLine sheet) (accept_sheet sheet)
  unfolding accept_sheet
  sheet_decided bytes = sheet_step_lem (sheet_reads_to sheet bytes)

pub sheet_group : {sheet : List ℕ} (n p : ℕ) → SheetLine sheet n p → group n ≤ group 3
unfolding group member
sheet_group n p (line_1 u) = omega arith
sheet_group n p (line_2 u) = omega arith
sheet_group n p (line_3 u) = omega arith

-- ---- the text

-- 11 to 13 share a line
pub number-group : {d m : ℕ} {xs : List ℕ} {p n : ℕ} → Number d m xs p n → group n ≡ group 11
unfolding group member
number-group (number_12 x) = refl
number-group (number_13 x y) = refl
number-group (number_11 x y) = refl

module _ (text : List ℕ) where
  abbrev pub SizeWrong : Type 0
  SizeWrong = (length text ≡ 0) ⊎ (1024 < length text)

  -- none comes before 10
  size-first : (m q : ℕ) → TextLine text m q → Before m q 10 0 → ⊥
  unfolding group member
  size-first m q (line_10 u) k = before_itself k
  size-first m q (line_11 u l w) k = later-group (let g = number-group w in omega arith) k

  -- nor before the text's number at its place, where 10 does not hold
  text_first : (SizeWrong → ⊥) → {n p : ℕ} → Longest (Begins deepest most_tests) text p → Number deepest most_tests text p n → (m q : ℕ) → TextLine text m q → Before m q n p → ⊥
  text_first a l w m q (line_10 u) k = a u
  text_first a {n} {p} l w m q (line_11 u l' w') k =
      let e : q ≡ p = longest_unique l' l in
      let f : m ≡ n = number_unique (subst (λ (x : ℕ). Number deepest most_tests text x m) e w') w in
      before_itself (subst₂ (λ (x y : ℕ). Before x y n p) f e k)

  text_none : (SizeWrong → ⊥) → (f : Tree) → Spells text f → (m q : ℕ) → TextLine text m q → ⊥
  text_none a f s m q (line_10 u) = a u
  text_none a f s m q (line_11 u l w) = u f s

  tree_step_lem : (SizeWrong → ⊥) → (o : Option Tree) → read text ≡ o → Decided (Spells text) (TextLine text) (tree_step text o)
  tree_step_lem a (some f) e = let s = (read_iff text f).0 e in none_holds s (text_none a f s)
  tree_step_lem a none e =
      one_decides
      (record {
        holds = line_11 (λ f s. let r = (read_iff text f).1 s in let z : ◌≡◌ {A = ℕ} 0 1 = cc in omega arith) (text_place text) (text_number text);
        first = text_first a (text_place text) (text_number text);
      })

  pub size_there : (eqb (length text) 0 || ltb 1024 (length text)) ≡ true → SizeWrong
  size_there h = ⊎_elim (λ e. inl (eqb-true (length text) 0 e)) (λ e. inr (ltb-true 1024 (length text) e)) (or_either (eqb (length text) 0) (ltb 1024 (length text)) h)

  pub size_back : SizeWrong → (eqb (length text) 0 || ltb 1024 (length text)) ≡ true
  size_back =
      ⊎_elim
      (λ e. or_left (eqb (length text) 0) (ltb 1024 (length text)) (eq-eqb (length text) 0 e))
      (λ e. or_right (eqb (length text) 0) (ltb 1024 (length text)) (lt-ltb 1024 (length text) e))

  pub text_decided : Decided (Spells text) (TextLine text) (accept_filter text)
  unfolding accept_filter
  text_decided =
      cond-elim (Decided (Spells text) (TextLine text)) (eqb (length text) 0 || ltb 1024 (length text))
      (λ h. one_decides (record { holds = line_10 (size_there h); first = size-first }))
      (λ h. tree_step_lem (λ w. both_ways (size_back w) h) (read text) refl)

-- ---- the tests

test_group : {ps : List Parameter} {t : Test} {n : ℕ} → TestLine ps t n → group n ≡ group 14
unfolding group member
test_group (line_14 u) = refl
test_group (line_18 j) = refl
test_group (line_15 u) = refl
test_group (line_16 j u o) = refl
test_group (line_17 j r) = refl

module _ (ps : List Parameter) where
  -- a line of one test, and of some test among others
  abbrev HeadLine : Test → ℕ → ℕ → Type 0
  HeadLine t n p = TestLine ps t n × (p ≡ t.at)

  abbrev LineAmong : List Test → ℕ → ℕ → Type 0
  LineAmong ts n p = (t : Test) × Memᴰ t ts × HeadLine t n p

  head_decided : {t : Test} {s : Step (Unit {0})} → TestOutcome (filter_tests ps) t s → Decided (λ u. Unit {0}) (HeadLine t) s
  head_decided (test_means m no_line) = none_holds tt (λ n p l. no_line n l.0)
  head_decided {t = t} (test_refused r) =
      one_decides
      (record {
        holds = (r.table.line, refl);
        first = λ m q l. no_lower_rank (test_group l.0 ∙ sym (test_group r.table.line)) (le_of_eq (sym l.1)) (r.table.lowest m l.0);
      })

  among_cons : (t : Test) (ts : List Test) (n p : ℕ) → (HeadLine t n p ⊎ LineAmong ts n p) ↔ LineAmong (t ∷ ts) n p
  among_cons t ts n p = (
    ⊎_elim (λ l. (t, mathlib.Core.List.Memᴰ.head refl, l)) (λ l. (l.0, mathlib.Core.List.Memᴰ.tail l.1, l.2)),
    (λ l. ⊎_elim (λ e. inl (subst (λ (u : Test). HeadLine u n p) e l.2)) (λ m. inr (l.0, m, l.2)) (mathlib.Core.List.Memᴰ.cases_cons l.1)),
  )

  tests_decided : WellFormedSheet ps → {p q : ℕ} {ts : List Test} → Rising p q ts → Decided (λ u. Unit {0}) (LineAmong ts) (tests_step ps ts)
  tests_decided w (rising_end h) = unfold tests_step first_fault in none_holds tt (λ n p l. mathlib.Core.List.Memᴰ.not-nil l.1)
  tests_decided w (rising_next {t = t} {ts = ts} h r) =
      rw (tests_next ps t ts)
      (decided_as (among_cons t ts)
      (decided_then (HeadLine t) (LineAmong ts)
      (λ m q n p l k. later_place (test_group l.2.0 ∙ sym (test_group k.0)) (let g = rising_member r l.1 in omega arith))
      (head_decided (outcome ps w t)) (λ u e k. tests_decided w r)))

-- ---- check

module _ (sheet text : List ℕ) where
  -- what is accepted: the sheet's parameters and the text's tree
  abbrev pub Ready : Inputs → Type 0
  Ready r = (s : SheetBlock sheet) × (s.parameters ≡ r.parameters) × Spells text r.filter

  module _ (s : SheetBlock sheet) (f : Tree) (spells : Spells text f) where
    among_there : (n p : ℕ) → LineAmong s.parameters (tests_of f) n p → TestsLine sheet text n p
    among_there n p l = subst (TestsLine sheet text n) (sym l.2.1) (line_of_test s spells l.1 l.2.0)

    among-back : {n p : ℕ} → TestsLine sheet text n p → LineAmong s.parameters (tests_of f) n p
    among-back (line_of_test s' {f = f'} {t = t} {n = n} spells' m l) =
        let same : s'.parameters ≡ s.parameters = sym (sheet_parameters sheet s') ∙ sheet_parameters sheet s in
        let member : Memᴰ t (tests_of f) = subst (λ (g : Tree). Memᴰ t (tests_of g)) (spells_unique text f' f spells' spells) m in
        (t, member, (subst (λ (ps : List Parameter). TestLine ps t n) same l, refl))

    filter_decided : Decided Ready (TestsLine sheet text) (tests_step s.parameters (tests_of f) >>= λ u. found (record { parameters = s.parameters; filter = f }))
    filter_decided =
        decided_found (λ u. record { parameters = s.parameters; filter = f }) (λ u _. (s, refl, spells))
        (decided_as (λ n p. (among_there n p, among-back)) (tests_decided s.parameters s.well_formed (tests_rise text f spells)))

  text_group : (n p : ℕ) → TextLine text n p → (group 3 < group n) × (group n ≤ group 11)
  unfolding group member
  text_group n p (line_10 u) = (omega arith, omega arith)
  text_group n p (line_11 u l w) = let g = number-group w in (omega arith, omega arith)

  tests_group : (n p : ℕ) → TestsLine sheet text n p → (group 11 < group n) × (group n ≡ group 14)
  unfolding group member
  tests_group n p (line_of_test s spells m l) = let g = test_group l in (omega arith, omega arith)

  -- those after the sheet's
  later_groups : (n p : ℕ) → TextLine text n p ⊎ TestsLine sheet text n p → (group 3 < group n) × (group n ≤ group 14)
  unfolding group member
  later_groups n p (inl l) = let g = text_group n p l in (omega arith, omega arith)
  later_groups n p (inr l) = let g = tests_group n p l in (omega arith, omega arith)

  pub check-group : (n p : ℕ) → CheckLine sheet text n p → group n ≤ group 14
  unfolding group member
  check-group n p (inl l) = let g = sheet_group n p l in omega arith
  check-group n p (inr l) = (later_groups n p l).1

  -- what follows the sheet
  text_step : (s : SheetBlock sheet)
      → Decided Ready (λ n p. TextLine text n p ⊎ TestsLine sheet text n p)
      (accept_filter text >>= λ f. tests_step s.parameters (tests_of f) >>= λ u. found (record { parameters = s.parameters; filter = f }))
  text_step s =
      decided_then (TextLine text) (TestsLine sheet text)
      (apart_at (TextLine text) (TestsLine sheet text) (group 11) (λ n p l. (text_group n p l).1) (λ n p l. (tests_group n p l).0))
      (text_decided text) (λ f _ spells. filter_decided s f spells)

  pub inputs_decided : Bytes sheet → Decided Ready (CheckLine sheet text) (accept_inputs sheet text)
  unfolding accept_inputs
  inputs_decided bytes =
      decided_then (SheetLine sheet) (λ n p. TextLine text n p ⊎ TestsLine sheet text n p)
      (apart_at (SheetLine sheet) (λ n p. TextLine text n p ⊎ TestsLine sheet text n p) (group 3) sheet_group (λ n p l. (later_groups n p l).0))
      (sheet_decided sheet bytes) (λ ps _ of-sheet. rw (← of-sheet.1) (text_step of-sheet.0))

  -- check is refused with a number and a place exactly where that line of the table decides
  pub check_table : Bytes sheet → (n p : ℕ) → (check_answer sheet text ≡ refused n p) ↔ Decides (CheckLine sheet text) n p
  unfolding check_answer
  check_table bytes =
      decided_answer (CheckLine sheet text)
      (decided_found (λ r. count (length (tests_of r.filter))) (λ r _. count_not_refused (length (tests_of r.filter))) (inputs_decided bytes))
