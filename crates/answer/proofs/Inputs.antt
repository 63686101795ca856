-- What the operations take, which is the parameters of a well-formed sheet and the tree that a text spells, and which test is refused.
-- The definition takes sheet, text and tests one after the other. For a sheet block, and a text of at most 1,024 bytes that spells a tree,
-- the first two steps are known, so that the tests' step is what is left (`inputs_accepted`). `tests_outcome` is by induction on the tests:
-- all have a meaning, or a first one is refused and those before it have one (`outcome-next`). No step is refused with a number above 18,
-- and so neither is one step after another (`at_most_then`). So these refusals are apart from those of cards and lists (`question_number`).
-- Assumes nothing.
use Rattle.std.specs.Prelude.{Err, Ok, Result, ⊤, Option as Maybe, None, Some}
use Prim.Native.Nat.{ℕ, ◌≤◌}
use native.Mathlib.Omega.{arith}
use mathlib.Core.Path.{◌≡◌, refl, ap}
use mathlib.Core.Bool.{Bool, true, false, cond, ◌||◌}
use mathlib.Core.Option.{Option, none, some}
use mathlib.Core.List.{List, [], ◌∷◌}
use lib.Dec.{eqb, ltb}
use lib.ListN.{length}
use borrow.Author.Tests.{ne_eqb, le-ltb}
use Rattle.std.proofs.lemmas.Bool.{ltb-false}
use Rattle.base.specs.Lists.{all_empty, all_cons}
use Rattle.base.specs.Kinds.{bundle_kind}
use Rattle.base.proofs.Tests.{cond-elim}
use Rattle.sheet.specs.Sheet.{Parameter, parameters_of, read_sheet}
use Rattle.sheet.specs.Encode.{WellFormedSheet, SheetBlock}
use Rattle.sheet.specs.declared.Found.{Found}
use Rattle.sheet.proofs.Sheets.{sheet_reads_iff}
use Rattle.syntax.specs.Tree.{Test, Tree, tests_of}
use Rattle.syntax.specs.Grammar.{deepest, most_tests, Spells}
use Rattle.syntax.specs.Reader.{read}
use Rattle.syntax.proofs.Spelling.{read_iff, spells_not_empty}
use Rattle.place.specs.Machine.{failure}
use Rattle.place.proofs.Place.{text_number, number_bound}
use Rattle.kind.specs.Table.{has_meaning}
use Rattle.kind.specs.Readable.{value_readable}
use Rattle.judge.specs.Sets.{lookup}
use Rattle.judge.specs.Faults.{unsupported, kind_fault, fault_at, test_fault, first_fault}
use Rattle.refusal.specs.Decisions.{or_else}
use Rattle.refusal.specs.Answers.{yes_or_no, count, number_of}
use Rattle.refusal.specs.Steps.{Step, found, stop, refusal_step, ◌>>=◌, answer}
use Rattle.answer.specs.Operations.{sheet_step, accept_sheet, tree_step, accept_filter, decision_step, tests_step, Inputs, accept_inputs, accept_card, check_answer, Question, question_of, match_by, filter_question}
use Rattle.answer.specs.Demand.{TestRules, filter_tests}
use Rattle.answer.specs.Preparing.{accept_size}
use Rattle.answer.proofs.Outcomes.{TestOutcome, test_means, test_refused, TestsOutcome, all_mean, one_refused, AtMost, found_at_most, stop_at_most}
use Rattle.answer.proofs.Faults.{outcome}
use Rattle.refusal.specs.declared.Refusal.{Refusal}
use Rattle.block.specs.declared.Flaw.{Flaw}

-- ---- tests

-- the first of two decisions, as a step
pub step_or_else : (first rest : Result ⊤ Refusal) → decision_step (or_else first rest) ≡ (decision_step first >>= λ u. decision_step rest)
step_or_else (Ok tt) rest = refl
step_or_else (Err r) rest = refl

-- what one test comes to, and then those after it
pub outcome-next : {T : Type 0} (rules : TestRules T) {t : T} {ts : List T} {first rest : Step (Unit {0})} → TestOutcome rules t first → TestsOutcome rules ts rest
    → TestsOutcome rules (t ∷ ts) (first >>= λ u. rest)
outcome-next rules {t = t} {ts = ts} (test_refused {n = n} r) s = one_refused [] t ts n refl all_empty r
outcome-next rules (test_means m _) (all_mean ms) = all_mean (all_cons m ms)
outcome-next {T} rules {t = t} (test_means m _) (one_refused before u after n e ms r) = one_refused (t ∷ before) u after n (ap (λ (l : List T). t ∷ l) e) (all_cons m ms) r

module _ (ps : List Parameter) where
  pub tests_next : (t : Test) (ts : List Test) → tests_step ps (t ∷ ts) ≡ (decision_step (test_fault ps 0 t) >>= λ u. tests_step ps ts)
  unfolding tests_step first_fault
  tests_next t ts = step_or_else (test_fault ps 0 t) (first_fault ps 0 ts)

  pub tests_outcome : WellFormedSheet ps → (ts : List Test) → TestsOutcome (filter_tests ps) ts (tests_step ps ts)
  tests_outcome w [] = unfold tests_step first_fault in all_mean all_empty
  tests_outcome w (t ∷ ts) = rw (tests_next t ts) (outcome-next (filter_tests ps) (outcome ps w t) (tests_outcome w ts))

-- ---- check and match, by what is accepted

pub match_by_lem : (asked : Step Question) (r : Step Question) → asked ≡ r → (card : List ℕ)
    → match_by asked card ≡ answer (r >>= λ q. accept_card q.parameters 0 card >>= λ c. found (yes_or_no (q.says c.entries)))
unfolding match_by
match_by_lem asked r e card = rw e

module _ (sheet text : List ℕ) (r : Step Inputs) (e : accept_inputs sheet text ≡ r) where
  pub check_by : check_answer sheet text ≡ answer (r >>= λ p. found (count (length (tests_of p.filter))))
  unfolding check_answer
  check_by = rw e

  pub question_by : filter_question sheet text ≡ (r >>= λ p. found (question_of p))
  unfolding filter_question
  question_by = rw e

-- ---- sheet and text

pub sheet_accepted : (sheet : List ℕ) (s : SheetBlock sheet) → accept_sheet sheet ≡ found s.parameters
unfolding accept_sheet
sheet_accepted sheet s =
    let r = (sheet_reads_iff sheet s.marked s.parameters).1 (s.well_formed, s.form, s.encoded) in
    rw (r.reading, r.parameters)

spells_length : (text : List ℕ) (f : Tree) → Spells text f → length text ≡ 0 → ⊥
spells_length [] f s e = spells_not_empty f s
spells_length (x ∷ xs) f s e = omega arith

-- a text of the right size is accepted as what it reads to
pub text_read : (xs : List ℕ) → accept_size xs ≡ found tt → (o : Option Tree) → read xs ≡ o → accept_filter xs ≡ tree_step xs o
unfolding accept_filter accept_size
text_read xs a o e = go (eqb (length xs) 0 || ltb 1024 (length xs)) a
  where
    go : (b : Bool) → cond b (stop 10 0) (found (tt {0})) ≡ found (tt {0}) → cond b (stop 10 0) (tree_step xs (read xs)) ≡ tree_step xs o
    go true h = let y : ◌≡◌ {A = ℕ} 0 1 = cc in absurd (omega arith)
    go false h = ap (tree_step xs) e

-- and one of another size is refused
pub size_refused : (xs : List ℕ) (r : Refusal) → accept_size xs ≡ refusal_step r → accept_filter xs ≡ refusal_step r
unfolding accept_filter accept_size
size_refused xs r a = go (eqb (length xs) 0 || ltb 1024 (length xs)) a
  where
    go : (b : Bool) → cond b (stop 10 0) (found (tt {0})) ≡ refusal_step r → cond b (stop 10 0) (tree_step xs (read xs)) ≡ refusal_step r
    go true h = cc
    go false h = let y : ◌≡◌ {A = ℕ} 0 1 = cc in absurd (omega arith)

pub size_short : (xs : List ℕ) → accept_size xs ≡ found tt → length xs ≤ 1024
unfolding accept_size
size_short xs a = go (eqb (length xs) 0) (ltb 1024 (length xs)) refl a
  where
    go : (b d : Bool) → ltb 1024 (length xs) ≡ d → cond (b || d) (stop 10 0) (found (tt {0})) ≡ found (tt {0}) → length xs ≤ 1024
    go true d e h = let y : ◌≡◌ {A = ℕ} 0 1 = cc in absurd (omega arith)
    go false true e h = let y : ◌≡◌ {A = ℕ} 0 1 = cc in absurd (omega arith)
    go false false e h = ltb-false 1024 (length xs) e

pub right_size : (xs : List ℕ) → (length xs ≡ 0 → ⊥) → length xs ≤ 1024 → accept_size xs ≡ found tt
unfolding accept_size
right_size xs n l = rw (ne_eqb (length xs) 0 n, le-ltb 1024 (length xs) l)

filter_accepted : (text : List ℕ) (f : Tree) → length text ≤ 1024 → Spells text f → accept_filter text ≡ found f
filter_accepted text f short s = text_read text (right_size text (spells_length text f s) short) (some f) ((read_iff text f).1 s)

pub inputs_accepted : (sheet text : List ℕ) (s : SheetBlock sheet) (f : Tree) → length text ≤ 1024 → Spells text f
    → accept_inputs sheet text ≡ (tests_step s.parameters (tests_of f) >>= λ u. found (record { parameters = s.parameters; filter = f }))
unfolding accept_inputs
inputs_accepted sheet text s f short spells = rw (sheet_accepted sheet s, filter_accepted text f short spells)

-- ---- the numbers of these refusals

pub at_most_then : {A B : Type 0} {most : ℕ} {s : Step A} {next : A → Step B} → AtMost most s → ((x : A) → AtMost most (next x)) → AtMost most (s >>= next)
at_most_then (found_at_most {x = x}) h = h x
at_most_then (stop_at_most n p l) h = stop_at_most n p l

pub at_most_number : {A : Type 0} {most : ℕ} {s : Step A} → AtMost most s → (n p : ℕ) → s ≡ stop n p → n ≤ most
at_most_number found_at_most n p e = absurd (let z : ◌≡◌ {A = ℕ} 0 1 = cc in omega arith)
at_most_number (stop_at_most m q l) n p e = let z : m ≡ n = cc in omega arith

pub sheet_at_most : (r : Result ⊤ Flaw) (ps : List Parameter) → AtMost 18 (sheet_step r ps)
sheet_at_most (Ok tt) ps = found_at_most
sheet_at_most (Err Flaw.Size) ps = stop_at_most 1 0 (omega arith)
sheet_at_most (Err Flaw.Sum) ps = stop_at_most 2 0 (omega arith)
sheet_at_most (Err Flaw.Layout) ps = stop_at_most 3 0 (omega arith)

tree_at_most : (text : List ℕ) (o : Option Tree) → AtMost 18 (tree_step text o)
tree_at_most text (some f) = found_at_most
tree_at_most text none =
    stop_at_most (number_of (failure deepest most_tests text).reason) (failure deepest most_tests text).place (omega (arith, number_bound (text_number text)))

pub kind_at_most : (k kind : ℕ) (v : List ℕ) (p : ℕ) → AtMost 18 (decision_step (kind_fault k kind v p))
unfolding kind_fault
kind_at_most k kind v p =
    cond-elim (λ f. AtMost 18 (decision_step f)) (unsupported k) (λ _. stop_at_most 15 p (omega arith))
    (λ _. cond-elim (λ f. AtMost 18 (decision_step f)) (has_meaning k kind)
    (λ _. cond-elim (λ f. AtMost 18 (decision_step f)) (value_readable k kind v) (λ _. found_at_most) (λ _. stop_at_most 17 p (omega arith)))
    (λ _. stop_at_most 16 p (omega arith)))

fault_at_most : (o : Maybe Found) (k : ℕ) (v : List ℕ) (p : ℕ) → AtMost 18 (decision_step (fault_at o k v p))
fault_at_most None k v p = stop_at_most 14 p (omega arith)
fault_at_most (Some named) k v p =
    cond-elim (λ f. AtMost 18 (decision_step f)) (eqb named.kind bundle_kind) (λ _. stop_at_most 18 p (omega arith)) (λ _. kind_at_most k named.kind v p)

tests_at_most : (ps : List Parameter) (ts : List Test) → AtMost 18 (tests_step ps ts)
unfolding test_fault
tests_at_most ps [] = unfold tests_step first_fault in found_at_most
tests_at_most ps (t ∷ ts) = rw (tests_next ps t ts) (at_most_then (fault_at_most (lookup ps 0 t.path) t.operator t.value t.at) (λ u. tests_at_most ps ts))

pub inputs_number : (sheet text : List ℕ) (n p : ℕ) → accept_inputs sheet text ≡ stop n p → n ≤ 18
unfolding accept_inputs accept_sheet accept_filter
inputs_number sheet text =
    at_most_number
    (at_most_then (sheet_at_most (read_sheet sheet) (parameters_of sheet))
    (λ ps. at_most_then
    (cond-elim (AtMost 18) (eqb (length text) 0 || ltb 1024 (length text)) (λ _. stop_at_most 10 0 (omega arith)) (λ _. tree_at_most text (read text)))
    (λ f. at_most_then (tests_at_most ps (tests_of f)) (λ u. found_at_most))))

-- a filter is refused with none of the numbers that cards and lists are refused with
pub question_number : (sheet text : List ℕ) (n p : ℕ) → filter_question sheet text ≡ stop n p → n ≤ 18
unfolding filter_question
question_number sheet text n p e = by (accept_inputs sheet text) refl e
  where
    by : (r : Step Inputs) → accept_inputs sheet text ≡ r → (r >>= λ p. found (question_of p)) ≡ stop n p → n ≤ 18
    by (found q) f g = absurd (let z : ◌≡◌ {A = ℕ} 0 1 = cc in omega arith)
    by (stop m q) f g = let same : m ≡ n = cc in omega (arith, inputs_number sheet text m q f)
