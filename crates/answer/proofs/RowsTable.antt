-- The tables of refusals for prepare and judge: for prepare, what check decides and then the list; for judge, the sheet, the text's size,
-- the rows and then the card.
-- As in CheckTable: each step is decided by its own lines, and `decided_then` joins them, since later lines are in later groups. The line
-- about the list names some sheet and some filter. The bytes have one sheet and a text spells one tree, so the number of cells needed is
-- the same for all of them (`needed`). Rows are good exactly where a computed test says so (`good_iff`), and by that test they are decided
-- (`rows_decided`).
-- Assumes nothing.
use Prim.Native.Nat.{ℕ, ◌≤◌, ◌<◌}
use native.Mathlib.Omega.{arith}
use mathlib.Core.Path.{◌≡◌, refl, ap, sym, ◌∙◌, subst, subst₂}
use mathlib.Core.Bool.{false, ◌||◌}
use mathlib.Core.Logic.{◌↔◌, ◌⊎◌, inl, inr}
use mathlib.Core.Option.{Option}
use mathlib.Core.List.{List}
use lib.Dec.{eqb, ltb, leb}
use lib.ListN.{length}
use borrow.Author.Tests.{leb-true, leb-false}
use Rattle.base.specs.Lists.{member}
use Rattle.base.specs.Bytes.{Bytes}
use Rattle.base.proofs.Tests.{both_ways, cond-elim}
use Rattle.sheet.specs.Sheet.{Parameter}
use Rattle.sheet.specs.Find.{kinds_of, parents_of}
use Rattle.sheet.specs.Encode.{SheetBlock}
use Rattle.syntax.specs.Tree.{Tree}
use Rattle.syntax.proofs.Spelling.{spells_unique}
use Rattle.judge.specs.Verdicts.{filter_says}
use Rattle.rows.specs.Good.{Good}
use Rattle.rows.specs.Shapes.{good}
use Rattle.rows.specs.Stated.{tree_of}
use Rattle.rows.proofs.Good.{good_states, good_iff}
use Rattle.refusal.specs.Answers.{yes_or_no, count, refused}
use Rattle.refusal.specs.Steps.{found, ◌>>=◌}
use Rattle.refusal.specs.Order.{group, Before, Decides}
use Rattle.refusal.proofs.Answers.{count_not_refused, verdict_not_refused}
use Rattle.refusal.proofs.Deciding.{Decided, none_holds, one_decides, NotRefused, decided_then, decided_found, decided_answer}
use Rattle.refusal.proofs.Order.{apart_at, before_itself}
use Rattle.answer.specs.Operations.{Inputs, Card, accept_card}
use Rattle.answer.specs.Preparing.{row_cells, accept_cells, preparation, prepare_answer, accept_size, stated_step, accept_rows, judge_answer}
use Rattle.answer.specs.Refusals.{SheetLine, CheckLine, OneCardLine, line_20_match, line_of_card}
use Rattle.answer.specs.RowsRefusals.{CellsLine, line_34, PrepareLine, SizeLine, line_10_judge, RowsLine, line_40, JudgeLine}
use Rattle.answer.proofs.CheckTable.{sheet_parameters, sheet_group, sheet_decided, size_there, size_back, check-group, Ready, inputs_decided}
use Rattle.answer.proofs.MatchTable.{card-group, one_decided}

-- ---- prepare

module _ (sheet text : List ℕ) (room : ℕ) where
  -- the cells needed are the same by whichever words of sheet and filter
  needed : (r : Inputs) → Ready sheet text r → {m q : ℕ} → CellsLine sheet text room m q
      → (m ≡ 34) × ((q ≡ length (row_cells r.parameters text r.filter)) × (room < length (row_cells r.parameters text r.filter)))
  needed r ready (line_34 s {f = f} spells l) =
      let ps : s.parameters ≡ r.parameters = sym (sheet_parameters sheet s) ∙ sheet_parameters sheet ready.0 ∙ ready.1 in
      let tree : f ≡ r.filter = spells_unique text f r.filter spells ready.2 in
      let same : length (row_cells s.parameters text f) ≡ length (row_cells r.parameters text r.filter) = ap (λ (qs : List Parameter). length (row_cells qs text f)) ps ∙ ap (λ (g : Tree). length (row_cells r.parameters text g)) tree in
      (refl, (same, subst (λ (k : ℕ). room < k) same l))

  cells_decided : (r : Inputs) → Ready sheet text r → Decided (λ cs. Unit {0}) (CellsLine sheet text room) (accept_cells room (row_cells r.parameters text r.filter))
  unfolding accept_cells
  cells_decided r ready =
      let cs : List ℕ = row_cells r.parameters text r.filter in
      cond-elim (Decided (λ cs. Unit {0}) (CellsLine sheet text room)) (leb (length cs) room)
      (λ h. none_holds tt (λ n p l. omega (arith, (needed r ready l).1.1, leb-true (length cs) room h)))
      (λ h. one_decides
      (record {
        holds = subst (λ (ps : List Parameter). CellsLine sheet text room 34 (length (row_cells ps text r.filter))) ready.1 (line_34 ready.0 ready.2 (subst (λ (ps : List Parameter). room < length (row_cells ps text r.filter)) (sym ready.1) (leb-false (length cs) room h)));
        first = λ m q l k. let e = needed r ready l in before_itself (subst₂ (λ (x y : ℕ). Before x y 34 (length cs)) e.0 e.1.0 k);
      }))

  cells-group : (n p : ℕ) → CellsLine sheet text room n p → group 14 < group n
  unfolding group member
  cells-group n p (line_34 s spells l) = omega arith

  preparation_decided : Bytes sheet → Decided (λ cs. Unit {0}) (PrepareLine sheet text room) (preparation sheet text room)
  unfolding preparation
  preparation_decided bytes =
      decided_then (CheckLine sheet text) (CellsLine sheet text room)
      (apart_at (CheckLine sheet text) (CellsLine sheet text room) (group 14) (check-group sheet text) cells-group)
      (inputs_decided sheet text bytes) (λ r _ ready. cells_decided r ready)

  -- prepare is refused with a number and a place exactly where that line decides
  pub prepare_table : Bytes sheet → (n p : ℕ) → (prepare_answer sheet text room ≡ refused n p) ↔ Decides (PrepareLine sheet text room) n p
  unfolding prepare_answer
  prepare_table bytes =
      decided_answer (PrepareLine sheet text room)
      (decided_found (λ cs. count (length cs)) (λ cs _. count_not_refused (length cs)) (preparation_decided bytes))

-- ---- judge

module _ (sheet text cells card : List ℕ) where
  size_decided : Decided (λ u. Unit {0}) (SizeLine text) (accept_size text)
  unfolding accept_size
  size_decided =
      cond-elim (Decided (λ u. Unit {0}) (SizeLine text)) (eqb (length text) 0 || ltb 1024 (length text))
      (λ h. one_decides (record { holds = line_10_judge (size_there text h); first = λ m q l k. size-first m q l k }))
      (λ h. none_holds tt (λ n p l. size_none h l))
    where
      size-first : (m q : ℕ) → SizeLine text m q → Before m q 10 0 → ⊥
      size-first m q (line_10_judge u) k = before_itself k

      size_none : (eqb (length text) 0 || ltb 1024 (length text)) ≡ false → {n p : ℕ} → SizeLine text n p → ⊥
      size_none h (line_10_judge u) = both_ways (size_back text u) h

  module _ (s : SheetBlock sheet) where
    abbrev ps : List Parameter
    ps = s.parameters

    rows_first : (m q : ℕ) → RowsLine sheet text cells m q → Before m q 40 0 → ⊥
    rows_first m q (line_40 s' u) k = before_itself k

    rows_none : Good ps text cells → (m q : ℕ) → RowsLine sheet text cells m q → ⊥
    rows_none g m q (line_40 s' u) =
        let same : ps ≡ s'.parameters = sym (sheet_parameters sheet s) ∙ sheet_parameters sheet s' in
        u (subst (λ (qs : List Parameter). Good qs text cells) same g)

    -- what good rows state
    abbrev Stated : Tree → Type 0
    Stated f = (g : Good ps text cells) × (f ≡ tree_of ps text g.expression)

    rows_decided : Decided Stated (RowsLine sheet text cells) (accept_rows ps text cells)
    unfolding accept_rows
    rows_decided =
        cond-elim (Decided Stated (RowsLine sheet text cells)) (good (kinds_of ps) (parents_of ps) text cells)
        (λ h. let g = (good_iff ps s.well_formed text cells).0 h in
        subst (λ (o : Option _). Decided Stated (RowsLine sheet text cells) (stated_step ps text o)) (sym (good_states ps s.well_formed text g)) (none_holds (g, refl) (rows_none g)))
        (λ h. one_decides (record { holds = line_40 s (λ g. both_ways ((good_iff ps s.well_formed text cells).1 g) h); first = rows_first }))

  size-group : (n p : ℕ) → SizeLine text n p → (group 3 < group n) × (group n ≤ group 10)
  unfolding group member
  size-group n p (line_10_judge u) = (omega arith, omega arith)

  rows_group : (n p : ℕ) → RowsLine sheet text cells n p → (group 10 < group n) × (group n ≤ group 40)
  unfolding group member
  rows_group n p (line_40 s u) = (omega arith, omega arith)

  card_groups : (n p : ℕ) → OneCardLine sheet card n p → group 40 < group n
  unfolding group member
  card_groups n p (line_20_match u) = omega arith
  card_groups n p (line_of_card l) = let g = card-group sheet l in omega arith

  after-size : (n p : ℕ) → RowsLine sheet text cells n p ⊎ OneCardLine sheet card n p → group 10 < group n
  unfolding group member
  after-size n p (inl l) = (rows_group n p l).0
  after-size n p (inr l) = let g = card_groups n p l in omega arith

  after_sheet : (n p : ℕ) → SizeLine text n p ⊎ (RowsLine sheet text cells n p ⊎ OneCardLine sheet card n p) → group 3 < group n
  unfolding group member
  after_sheet n p (inl l) = (size-group n p l).0
  after_sheet n p (inr l) = let g = after-size n p l in omega arith

  module _ (bytes : Bytes card) (s : SheetBlock sheet) where
    verdict_decided : (f : Tree) → Decided NotRefused (OneCardLine sheet card) (accept_card s.parameters 0 card >>= λ c. found (yes_or_no (filter_says s.parameters 0 c.entries f)))
    verdict_decided f =
        decided_found (λ (c : Card). yes_or_no (filter_says s.parameters 0 c.entries f)) (λ c _. verdict_not_refused (filter_says s.parameters 0 c.entries f)) (one_decided sheet card s bytes)

    rows_then : Decided NotRefused (λ n p. RowsLine sheet text cells n p ⊎ OneCardLine sheet card n p) (accept_rows s.parameters text cells >>= λ f. accept_card s.parameters 0 card >>= λ c. found (yes_or_no (filter_says s.parameters 0 c.entries f)))
    rows_then =
        decided_then (RowsLine sheet text cells) (OneCardLine sheet card)
        (apart_at (RowsLine sheet text cells) (OneCardLine sheet card) (group 40) (λ n p l. (rows_group n p l).1) card_groups)
        (rows_decided s) (λ f _ _. verdict_decided f)

    size_then : Decided NotRefused (λ n p. SizeLine text n p ⊎ (RowsLine sheet text cells n p ⊎ OneCardLine sheet card n p))
        (accept_size text >>= λ u. accept_rows s.parameters text cells >>= λ f. accept_card s.parameters 0 card >>= λ c. found (yes_or_no (filter_says s.parameters 0 c.entries f)))
    size_then =
        decided_then (SizeLine text) (λ n p. RowsLine sheet text cells n p ⊎ OneCardLine sheet card n p)
        (apart_at (SizeLine text) (λ n p. RowsLine sheet text cells n p ⊎ OneCardLine sheet card n p) (group 10) (λ n p l. (size-group n p l).1) after-size)
        size_decided (λ u _ _. rows_then)

  -- judge is refused with a number and a place exactly where that line decides
  pub judge_table : Bytes sheet → Bytes card → (n p : ℕ) → (judge_answer sheet text cells card ≡ refused n p) ↔ Decides (JudgeLine sheet text cells card) n p
  unfolding judge_answer
  judge_table sheet-bytes bytes =
      decided_answer (JudgeLine sheet text cells card)
      (decided_then (SheetLine sheet) (λ n p. SizeLine text n p ⊎ (RowsLine sheet text cells n p ⊎ OneCardLine sheet card n p))
      (apart_at (SheetLine sheet) (λ n p. SizeLine text n p ⊎ (RowsLine sheet text cells n p ⊎ OneCardLine sheet card n p)) (group 3) sheet_group after_sheet)
      (sheet_decided sheet sheet-bytes) (λ ps _ of-sheet. rw (← of-sheet.1) (size_then bytes of-sheet.0)))
