-- Prepare and judge: what they answer where no line holds, that prepared rows are good and state the filter, and that match is the two after
-- each other.
-- Where no line holds `preparation` has not stopped (`refusing`), so it has found the cells of the filter's rows. That these are good and
-- state the filter are laws of crate row_writer (`prepared-good`, `prepared_states`). `match_is` is for a list of at least 1,024 cells, and
-- goes by what was accepted. Where sheet, text or tests are refused, prepare and match are refused alike. Else there are no more cells than
-- the text has bytes (`cells-within`), so they fit the list. The rows state the filter but for its positions, on which no verdict depends
-- (`erase-says`), so judging them is judging the filter.
-- Assumes nothing.
use Rattle.std.specs.Prelude.{Err, Ok, Result, ⊤}
use Prim.Native.Nat.{ℕ, ◌≤◌, ◌<◌}
use native.Mathlib.Omega.{arith}
use mathlib.Core.Path.{◌≡◌, refl, sym, ap, subst, ◌∙◌}
use mathlib.Core.Logic.{◌⊎◌, inl, inr}
use mathlib.Core.List.{List, ◌++◌}
use lib.Dec.{leb}
use lib.ListN.{length, take, drop}
use lib.Seq.{take_at}
use borrow.Author.Tests.{ne_eqb, le-ltb, le-leb}
use Rattle.base.specs.Bytes.{Bytes}
use Rattle.base.proofs.Tests.{cond-elim}
use Rattle.sheet.specs.Sheet.{Parameter}
use Rattle.sheet.specs.Encode.{SheetBlock}
use Rattle.card.specs.Card.{Entry}
use Rattle.syntax.specs.Tree.{Tree, tests_of}
use Rattle.syntax.specs.Grammar.{Spells}
use Rattle.syntax.proofs.Complete.{filter_rise}
use Rattle.judge.specs.Faults.{first_fault}
use Rattle.judge.specs.Rules.{Conforms, FilterSays}
use Rattle.judge.specs.Verdicts.{filter_says}
use Rattle.rows.specs.Good.{Good}
use Rattle.rows.specs.Stated.{tree_of}
use Rattle.rows.proofs.Good.{good_states, good_iff}
use Rattle.row_writer.proofs.Writing.{filter_cells, cells-counted}
use Rattle.row_writer.proofs.Preparing.{prepared-good, prepared_states}
use Rattle.refusal.specs.Answers.{Answer, yes_or_no, count, refused}
use Rattle.refusal.specs.Steps.{Step, found, stop, ◌>>=◌, answer}
use Rattle.refusal.proofs.Deciding.{Decided, none_holds, one_decides}
use Rattle.answer.specs.Operations.{decision_step, tests_step, Inputs, accept_inputs, Card, accept_card, question_of, filter_question, written}
use Rattle.answer.specs.Preparing.{row_cells, accept_cells, preparation, prepare_answer, prepare_cells, accept_size, accept_rows, judge_answer}
use Rattle.answer.specs.Refusals.{CheckLine, line_10}
use Rattle.answer.specs.RowsRefusals.{PrepareLine, PrepareAnswers, PreparesGood, MatchIs}
use Rattle.answer.specs.Verdicts.{Verdict}
use Rattle.answer.proofs.Cards.{conforms_accepted}
use Rattle.answer.proofs.Verdicts.{verdict_spelled}
use Rattle.row_judge.proofs.Meaning.{erase-says, fits_spelled}
use Rattle.answer.proofs.CheckTable.{inputs_decided}
use Rattle.answer.proofs.Inputs.{sheet_accepted, inputs_accepted, inputs_number, question_by, match_by_lem}
use Rattle.answer.proofs.Passing.{same-verdicts}
use Rattle.answer.proofs.RowsTable.{prepare_table}
use Rattle.refusal.specs.declared.Refusal.{Refusal}

-- ---- what was accepted

-- of what was found, what is known, and that no line holds
pub known_of : {A : Type 0} {Known : A → Type 0} {Line : ℕ → ℕ → Type 0} {s : Step A} → Decided Known Line s → (x : A) → s ≡ found x → Known x × ((n p : ℕ) → Line n p → ⊥)
known_of {Known = Known} (none_holds {x = y} k h) x e = let same : y ≡ x = cc in (subst Known same k, h)
known_of (one_decides d) x e = let z : ◌≡◌ {A = ℕ} 0 1 = cc in absurd (omega arith)

pub step_passed : (d : Result ⊤ Refusal) → decision_step d ≡ found tt → d ≡ (Ok tt)
step_passed (Ok tt) e = refl
step_passed (Err r) e = let z : ◌≡◌ {A = ℕ} 0 1 = cc in absurd (omega arith)

-- what is found where the room is enough
found-cells : (room : ℕ) (cs ds : List ℕ) → accept_cells room cs ≡ found ds → ds ≡ cs
unfolding accept_cells
found-cells room cs ds = cond-elim (λ q. q ≡ found ds → ds ≡ cs) (leb (length cs) room) (λ h e. cc) (λ h e. let z : ◌≡◌ {A = ℕ} 0 1 = cc in absurd (omega arith))

-- rows are no more than the bytes of the text
pub cells-within : (ps : List Parameter) (text : List ℕ) (f : Tree) → Spells text f → length (row_cells ps text f) ≤ length text
cells-within ps text f s = omega (arith, cells-counted ps text 0 f, filter_cells s.filter, filter_rise s.filter)

module _ (sheet text : List ℕ) (s : SheetBlock sheet) (f : Tree) (short : length text ≤ 1024) (spells : Spells text f) where
  abbrev ps : List Parameter
  ps = s.parameters

  abbrev cells : List ℕ
  cells = row_cells ps text f

  abbrev both : Inputs
  both = record { parameters = ps; filter = f }

  accepted_by : (t : Step (Unit {0})) → tests_step ps (tests_of f) ≡ t → accept_inputs sheet text ≡ (t >>= λ u. found both)
  accepted_by t e = inputs_accepted sheet text s f short spells ∙ ap (λ (q : Step (Unit {0})). q >>= λ u. found both) e

  clean : tests_step ps (tests_of f) ≡ found tt → first_fault ps 0 (tests_of f) ≡ (Ok tt)
  unfolding tests_step
  clean e = step_passed (first_fault ps 0 (tests_of f)) e

  prepared_by : (room : ℕ) (t : Step (Unit {0})) → tests_step ps (tests_of f) ≡ t → preparation sheet text room ≡ (t >>= λ u. accept_cells room cells)
  unfolding preparation
  prepared_by room (found u) e = ap (λ (q : Step Inputs). q >>= λ p. accept_cells room (row_cells p.parameters text p.filter)) (accepted_by (found u) e)
  prepared_by room (stop n p) e = ap (λ (q : Step Inputs). q >>= λ p. accept_cells room (row_cells p.parameters text p.filter)) (accepted_by (stop n p) e)

  -- what prepare answers, by how the tests and the room come out
  answer_by : (room : ℕ) (q : Step (List ℕ)) → preparation sheet text room ≡ q → prepare_answer sheet text room ≡ answer (q >>= λ cs. found (count (length cs)))
  unfolding prepare_answer
  answer_by room q e = rw e

  cells_by_lem : (list : List ℕ) (q : Step (List ℕ)) → preparation sheet text (length list) ≡ q → prepare_cells sheet text list ≡ written q list
  unfolding prepare_cells
  cells_by_lem list q e = rw e

  -- prepare answers, where no line holds
  pub prepare_answered : Bytes sheet → (list : List ℕ) → ((n p : ℕ) → PrepareLine sheet text (length list) n p → ⊥) → PrepareAnswers sheet text list ps f
  prepare_answered bytes list none_of = by_tests (tests_step ps (tests_of f)) refl
    where
      refusing : (n p : ℕ) → preparation sheet text (length list) ≡ stop n p → ⊥
      refusing n p e = none_of n p ((prepare_table sheet text (length list) bytes n p).0 (answer_by (length list) (stop n p) e)).holds

      by_room : (q : Step (List ℕ)) → preparation sheet text (length list) ≡ q → accept_cells (length list) cells ≡ q → PrepareAnswers sheet text list ps f
      by_room (stop n p) e g = absurd (refusing n p e)
      by_room (found cs) e g =
          let same : cs ≡ cells = found-cells (length list) cells cs g in
          record {
            counts = answer_by (length list) (found cs) e ∙ ap (λ (x : List ℕ). count (length x)) same;
            writes = cells_by_lem list (found cs) e ∙ ap (λ (x : List ℕ). x ++ drop (length x) list) same;
          }

      by_tests : (t : Step (Unit {0})) → tests_step ps (tests_of f) ≡ t → PrepareAnswers sheet text list ps f
      by_tests (found u) e = by_room (accept_cells (length list) cells) (prepared_by (length list) (found u) e) refl
      by_tests (stop n p) e = absurd (refusing n p (prepared_by (length list) (stop n p) e))

  -- a count is that of the cells, which are written
  counted : (list : List ℕ) (n : ℕ) → prepare_answer sheet text (length list) ≡ count n → (tests_step ps (tests_of f) ≡ found tt) × ((n ≡ length cells) × (prepare_cells sheet text list ≡ cells ++ drop (length cells) list))
  counted list n h = by_tests (tests_step ps (tests_of f)) refl
    where
      not_refused : (m p : ℕ) → preparation sheet text (length list) ≡ stop m p → ⊥
      not_refused m p e =
          let r : count n ≡ refused m p = sym h ∙ answer_by (length list) (stop m p) e in
          let z : ◌≡◌ {A = ℕ} 0 1 = cc in omega arith

      by_room : (q : Step (List ℕ)) → preparation sheet text (length list) ≡ q → accept_cells (length list) cells ≡ q → (n ≡ length cells) × (prepare_cells sheet text list ≡ cells ++ drop (length cells) list)
      by_room (stop m p) e g = absurd (not_refused m p e)
      by_room (found cs) e g =
          let same : cs ≡ cells = found-cells (length list) cells cs g in
          let r : count n ≡ count (length cs) = sym h ∙ answer_by (length list) (found cs) e in
          let number : n ≡ length cs = cc in
          (number ∙ ap length same, cells_by_lem list (found cs) e ∙ ap (λ (x : List ℕ). x ++ drop (length x) list) same)

      by_tests : (t : Step (Unit {0})) → tests_step ps (tests_of f) ≡ t → (tests_step ps (tests_of f) ≡ found tt) × ((n ≡ length cells) × (prepare_cells sheet text list ≡ cells ++ drop (length cells) list))
      by_tests (found u) e = (e, by_room (accept_cells (length list) cells) (prepared_by (length list) (found u) e) refl)
      by_tests (stop m p) e = absurd (not_refused m p (prepared_by (length list) (stop m p) e))

  -- the cells that were filled are those of the filter's rows
  pub filled-cells : (list : List ℕ) (n : ℕ) → prepare_answer sheet text (length list) ≡ count n → take n (prepare_cells sheet text list) ≡ cells
  filled-cells list n h = let c = counted list n h in ap (take n) c.1.1 ∙ take_at cells (drop (length cells) list) n (sym c.1.0)

  pub prepares_good : (list : List ℕ) (n : ℕ) → prepare_answer sheet text (length list) ≡ count n → PreparesGood sheet text list ps f n
  prepares_good list n h =
      let c = clean (counted list n h).0 in
      let g : Good ps text cells = prepared-good ps s.well_formed text f spells c in
      let e : cells ≡ take n (prepare_cells sheet text list) = sym (filled-cells list n h) in
      record {
        rows = record { expression = g.expression; written = sym e ∙ g.written; nests = g.nests; few = g.few; fits = g.fits };
        states = prepared_states ps s.well_formed text f spells c;
      }

-- ---- judge

module _ (sheet text cells : List ℕ) (s : SheetBlock sheet) (some-text : 1 ≤ length text) (short : length text ≤ 1024) (g : Good s.parameters text cells) (card : List ℕ) where
  judged_by : (q : Step Card) → accept_card s.parameters 0 card ≡ q → judge_answer sheet text cells card ≡ answer (q >>= λ c. found (yes_or_no (filter_says s.parameters 0 c.entries (tree_of s.parameters text g.expression))))
  unfolding judge_answer accept_size accept_rows
  judged_by q e =
      let n : length text ≡ 0 → ⊥ = λ z. omega (arith, z, some-text) in
      rw (sheet_accepted sheet s, ne_eqb (length text) 0 n, le-ltb 1024 (length text) short, (good_iff s.parameters s.well_formed text cells).1 g, good_states s.parameters s.well_formed text g, e)

  -- judge answers the meaning of what its rows state
  pub judge_answered : (es : List Entry) → Conforms s.parameters card es → Verdict (FilterSays s.parameters 0 es (tree_of s.parameters text g.expression)) (judge_answer sheet text cells card)
  judge_answered es c =
      let e : judge_answer sheet text cells card ≡ yes_or_no (filter_says s.parameters 0 es (tree_of s.parameters text g.expression)) = judged_by (accept_card s.parameters 0 card) refl ∙ rw (conforms_accepted c 0) in
      subst (λ (a : Answer). Verdict (FilterSays s.parameters 0 es (tree_of s.parameters text g.expression)) a) (sym e) (verdict_spelled s.parameters s.well_formed es (tree_of s.parameters text g.expression) (fits_spelled s.parameters text g.fits))

-- ---- match is prepare and judge after each other

enough : (room : ℕ) (cs : List ℕ) → length cs ≤ room → accept_cells room cs ≡ found cs
unfolding accept_cells
enough room cs l = rw (le-leb (length cs) room l)

room_outcome : (room : ℕ) (cs : List ℕ) → (accept_cells room cs ≡ found cs) ⊎ (accept_cells room cs ≡ stop 34 (length cs))
unfolding accept_cells
room_outcome room cs = cond-elim (λ q. (q ≡ found cs) ⊎ (q ≡ stop 34 (length cs))) (leb (length cs) room) (λ h. inl refl) (λ h. inr refl)

prepares_by : (sheet text : List ℕ) (room : ℕ) (r : Step Inputs) → accept_inputs sheet text ≡ r → prepare_answer sheet text room ≡ answer ((r >>= λ y. accept_cells room (row_cells y.parameters text y.filter)) >>= λ cs. found (count (length cs)))
unfolding preparation prepare_answer
prepares_by sheet text room r e = rw e

module _ (sheet text card list : List ℕ) (bytes : Bytes sheet) (room : 1024 ≤ length list) where
  not_long : ((n p : ℕ) → CheckLine sheet text n p → ⊥) → length text ≤ 1024
  not_long h = let z : 1024 < length text → ⊥ = λ l. h 10 0 (inr (inl (line_10 (inr l)))) in omega arith

  some_of : ((n p : ℕ) → CheckLine sheet text n p → ⊥) → 1 ≤ length text
  some_of h = let z : length text ≡ 0 → ⊥ = λ l. h 10 0 (inr (inl (line_10 (inl l)))) in omega arith

  prepares : (r : Step Inputs) → accept_inputs sheet text ≡ r → prepare_answer sheet text (length list) ≡ answer ((r >>= λ y. accept_cells (length list) (row_cells y.parameters text y.filter)) >>= λ cs. found (count (length cs)))
  prepares = prepares_by sheet text (length list)

  -- the inputs were refused, or accepted with what is known of them
  match_is_by : (r : Step Inputs) → accept_inputs sheet text ≡ r → MatchIs sheet text card list
  match_is_by (stop n p) e =
      record {
        refused_alike = λ m q h. match_by_lem (filter_question sheet text) (stop n p) (question_by sheet text (stop n p) e) card ∙ sym (prepares (stop n p) e) ∙ h;
        judged = λ k h.
            let a : refused n p ≡ count k = sym (prepares (stop n p) e) ∙ h in
            let z : ◌≡◌ {A = ℕ} 0 1 = cc in absurd (omega arith);
      }
  match_is_by (found y) e =
      let k = known_of (inputs_decided sheet text bytes) y e in
      let s : SheetBlock sheet = k.0.0 in
      let spells : Spells text y.filter = k.0.2 in
      let short : length text ≤ 1024 = not_long k.1 in
      let same : s.parameters ≡ y.parameters = k.0.1 in
      record {
        refused_alike = λ n p h.
            let fits : length (row_cells y.parameters text y.filter) ≤ length list = omega (arith, cells-within y.parameters text y.filter spells, short, room) in
            let a : count (length (row_cells y.parameters text y.filter)) ≡ refused n p = sym (prepares (found y) e ∙ ap (λ (q : Step (List ℕ)). answer (q >>= λ cs. found (count (length cs)))) (enough (length list) (row_cells y.parameters text y.filter) fits)) ∙ h in
            let z : ◌≡◌ {A = ℕ} 0 1 = cc in absurd (omega arith);
        judged = λ n h.
            let g = prepares_good sheet text s y.filter short spells list n h in
            let says : (es : List Entry) → filter_says s.parameters 0 es y.filter ≡ filter_says s.parameters 0 es (tree_of s.parameters text g.rows.expression) = λ es. sym (erase-says s.parameters 0 es y.filter) ∙ ap (filter_says s.parameters 0 es) (sym g.states) ∙ erase-says s.parameters 0 es (tree_of s.parameters text g.rows.expression) in
            match_by_lem (filter_question sheet text) (found (question_of y)) (question_by sheet text (found y) e) card
            ∙ ap (λ (qs : List Parameter). answer (accept_card qs 0 card >>= λ c. found (yes_or_no (filter_says qs 0 c.entries y.filter)))) (sym same)
            ∙ same-verdicts (accept_card s.parameters 0 card) (λ c. filter_says s.parameters 0 c.entries y.filter) (λ c. filter_says s.parameters 0 c.entries (tree_of s.parameters text g.rows.expression)) (λ c. says c.entries)
            ∙ sym (judged_by sheet text (take n (prepare_cells sheet text list)) s (some_of k.1) short g.rows card (accept_card s.parameters 0 card) refl);
      }

  pub match_is : MatchIs sheet text card list
  match_is = match_is_by (accept_inputs sheet text) refl

-- ---- the list

module _ (sheet text list : List ℕ) where
  -- a refusal keeps it
  pub prepare_keeps : (n p : ℕ) → prepare_answer sheet text (length list) ≡ refused n p → prepare_cells sheet text list ≡ list
  unfolding prepare_answer prepare_cells
  prepare_keeps n p h = by_step (preparation sheet text (length list)) h
    where
      by_step : (q : Step (List ℕ)) → answer (q >>= λ cs. found (count (length cs))) ≡ refused n p → written q list ≡ list
      by_step (stop m o) e = refl
      by_step (found cs) e = let z : ◌≡◌ {A = ℕ} 0 1 = cc in absurd (omega arith)

  -- and neither the answer nor the place of 34 is more than the text can have bytes
  pub prepare_within : Bytes sheet → ((n : ℕ) → prepare_answer sheet text (length list) ≡ count n → n ≤ 1024) × ((p : ℕ) → prepare_answer sheet text (length list) ≡ refused 34 p → p ≤ 1024)
  prepare_within bytes = by_inputs (accept_inputs sheet text) refl
    where
      prepares : (r : Step Inputs) → accept_inputs sheet text ≡ r → prepare_answer sheet text (length list) ≡ answer ((r >>= λ y. accept_cells (length list) (row_cells y.parameters text y.filter)) >>= λ cs. found (count (length cs)))
      prepares r e = prepares_by sheet text (length list) r e

      by_room : (cs : List ℕ) → length cs ≤ 1024 → (a : Answer) → a ≡ answer (accept_cells (length list) cs >>= λ ds. found (count (length ds))) → ((n : ℕ) → a ≡ count n → n ≤ 1024) × ((p : ℕ) → a ≡ refused 34 p → p ≤ 1024)
      by_room cs l a e = by_step (accept_cells (length list) cs) (room_outcome (length list) cs) e
        where
          by_step : (q : Step (List ℕ)) → (q ≡ found cs) ⊎ (q ≡ stop 34 (length cs)) → a ≡ answer (q >>= λ ds. found (count (length ds))) → ((n : ℕ) → a ≡ count n → n ≤ 1024) × ((p : ℕ) → a ≡ refused 34 p → p ≤ 1024)
          by_step q (inl i) g =
              let is : a ≡ count (length cs) = g ∙ ap (λ (x : Step (List ℕ)). answer (x >>= λ ds. found (count (length ds)))) i in
              ((λ n h. let b : count (length cs) ≡ count n = sym is ∙ h in let d : length cs ≡ n = cc in omega (arith, l)), (λ p h. let b : count (length cs) ≡ refused 34 p = sym is ∙ h in let z : ◌≡◌ {A = ℕ} 0 1 = cc in absurd (omega arith)))
          by_step q (inr i) g =
              let is : a ≡ refused 34 (length cs) = g ∙ ap (λ (x : Step (List ℕ)). answer (x >>= λ ds. found (count (length ds)))) i in
              ((λ n h. let b : refused 34 (length cs) ≡ count n = sym is ∙ h in let z : ◌≡◌ {A = ℕ} 0 1 = cc in absurd (omega arith)), (λ p h. let b : refused 34 (length cs) ≡ refused 34 p = sym is ∙ h in let d : length cs ≡ p = cc in omega (arith, l)))

      short_of : ((n p : ℕ) → CheckLine sheet text n p → ⊥) → length text ≤ 1024
      short_of h = let z : 1024 < length text → ⊥ = λ l. h 10 0 (inr (inl (line_10 (inr l)))) in omega arith

      by_inputs : (r : Step Inputs) → accept_inputs sheet text ≡ r → ((n : ℕ) → prepare_answer sheet text (length list) ≡ count n → n ≤ 1024) × ((p : ℕ) → prepare_answer sheet text (length list) ≡ refused 34 p → p ≤ 1024)
      by_inputs (stop n p) e = (
        (λ m h. let a : refused n p ≡ count m = sym (prepares (stop n p) e) ∙ h in let z : ◌≡◌ {A = ℕ} 0 1 = cc in absurd (omega arith)),
        (λ q h. let a : refused n p ≡ refused 34 q = sym (prepares (stop n p) e) ∙ h in let b : n ≡ 34 = cc in absurd (omega (arith, inputs_number sheet text n p e))),
      )
      by_inputs (found y) e =
          let k = known_of (inputs_decided sheet text bytes) y e in
          by_room (row_cells y.parameters text y.filter) (omega (arith, cells-within y.parameters text y.filter k.0.2, short_of k.1)) (prepare_answer sheet text (length list)) (prepares (found y) e)
