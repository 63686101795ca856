-- The rows of a filter that check passes ask what the filter asks: select by rows.
-- Assumes nothing.
use Rattle.std.specs.Prelude.{Ok, Err, Result}
use Prim.Native.Nat.{ℕ, ◌≤◌}
use native.Mathlib.Nat.{sub-zero}
use native.Mathlib.Omega.{arith}
use mathlib.Core.Path.{◌≡◌, refl, sym, ap, subst, fun_ext, ◌∙◌}
use mathlib.Core.Bool.{Bool, true}
use mathlib.Core.List.{List}
use lib.ListN.{length, take}
use Rattle.base.specs.Parts.{part}
use Rattle.sheet.specs.Sheet.{Parameter, parameters_of, read_sheet}
use Rattle.sheet.specs.Find.{kinds_of, parents_of}
use Rattle.sheet.specs.Encode.{WellFormedSheet}
use Rattle.sheet.proofs.RoundTrip.{sheet_well_formed}
use Rattle.card.specs.Card.{Entry}
use Rattle.syntax.specs.Tree.{tests_of}
use Rattle.syntax.specs.Grammar.{Spells}
use Rattle.syntax.proofs.Spelling.{read_iff}
use Rattle.judge.specs.Faults.{first_fault}
use Rattle.judge.specs.Verdicts.{filter_says}
use Rattle.rows.specs.Good.{Good}
use Rattle.row_judge.specs.Saying.{rows_say, Whole}
use Rattle.rows.specs.Shapes.{good}
use Rattle.rows.specs.Stated.{tree_of}
use Rattle.rows.proofs.Good.{good_states, good_iff, good_few}
use Rattle.row_judge.proofs.Meaning.{erase-says, good-whole, rows_mean}
use Rattle.row_writer.proofs.Preparing.{prepared-good, prepared_states}
use Rattle.refusal.specs.Answers.{number_of}
use Rattle.refusal.specs.Steps.{Step, found, stop, ◌>>=◌}
use Rattle.refusal.specs.declared.Refusal.{Refusal}
use Rattle.answer.specs.Operations.{tests_step, Inputs, accept_inputs, Question, filter_question}
use Rattle.answer.specs.Passing.{Passing}
use Rattle.answer.specs.Preparing.{row_cells, Fills}
use Rattle.selecting.specs.Selecting.{Selects}
use Rattle.one_card.specs.OneCard.{cells_question}
use Rattle.answer.proofs.Passing.{passing_inputs}
use Rattle.answer.proofs.RowsAnswered.{step_passed}
use Rattle.selecting.proofs.Selecting.{select_stopped}

-- ---- the rows of a filter that check has passed

module _ (sheet text : List ℕ) (p : Passing sheet text) where
  abbrev ps : List Parameter
  ps = parameters_of sheet

  abbrev cells : List ℕ
  cells = row_cells ps text p.tree

  well : WellFormedSheet ps
  well = sheet_well_formed sheet p.sheet_well_formed

  spells : Spells text p.tree
  spells = (read_iff text p.tree).0 p.reads

  clean : first_fault ps 0 (tests_of p.tree) ≡ (Ok tt)
  unfolding tests_step
  clean = step_passed (first_fault ps 0 (tests_of p.tree)) p.meant

  abbrev rows_good : Good ps text cells
  rows_good = prepared-good ps well text p.tree spells clean

  passes : good (kinds_of ps) (parents_of ps) text cells ≡ true
  passes = (good_iff ps well text cells).1 rows_good

  pub rows_whole : Whole cells
  rows_whole = good-whole (kinds_of ps) (parents_of ps) text cells passes

  pub rows_short : length cells ≤ 320
  rows_short = good_few (kinds_of ps) (parents_of ps) text cells passes

  says_same : (es : List Entry) → filter_says ps 0 es p.tree ≡ rows_say (kinds_of ps) text es cells
  says_same es =
      sym (erase-says ps 0 es p.tree)
      ∙ ap (filter_says ps 0 es) (sym (prepared_states ps well text p.tree spells clean))
      ∙ erase-says ps 0 es (tree_of ps text rows_good.expression)
      ∙ sym (rows_mean ps well text cells rows_good.expression passes (good_states ps well text rows_good) es)

  pub rows_ask : filter_question sheet text ≡ found (cells_question ps text cells)
  unfolding filter_question
  rows_ask = rw p.inputs_accepted (ap (λ (f : List Entry → Bool). found (record { parameters = ps; says = f })) (fun_ext says_same))

-- ---- as the code has filled them

module _ (sheet text buffer : List ℕ) (r : Result ℕ Refusal) (e : Fills sheet text r buffer) where
  abbrev filling : Step Inputs → Step (List ℕ)
  filling s = s >>= λ p. found (row_cells p.parameters text p.filter)

  pub filled_refused : (cards list : List ℕ) (f : Refusal) → r ≡ Err f → Selects (filter_question sheet text) cards list (Err f) list
  filled_refused cards list f h = select_stopped (filter_question sheet text) cards list f (unfold filter_question in rw (by (accept_inputs sheet text) (sym e.rows ∙ rw h)))
    where
      by : (s : Step Inputs) → filling s ≡ stop (number_of f.reason) f.place → s ≡ stop (number_of f.reason) f.place
      by (found p) g = absurd (let z : ◌≡◌ {A = ℕ} 0 1 = cc in omega arith)
      by (stop n q) g = cc

  module _ (n : ℕ) (h : r ≡ Ok n) where
    inputs : (p : Inputs) × ((accept_inputs sheet text ≡ found p) × (take n buffer ≡ row_cells p.parameters text p.filter))
    inputs = by (accept_inputs sheet text) refl (sym e.rows ∙ rw h)
      where
        by : (s : Step Inputs) → accept_inputs sheet text ≡ s → filling s ≡ found (take n buffer) → (p : Inputs) × ((accept_inputs sheet text ≡ found p) × (take n buffer ≡ row_cells p.parameters text p.filter))
        by (found p) i g = (p, (i, cc))
        by (stop m q) i g = absurd (let z : ◌≡◌ {A = ℕ} 0 1 = cc in omega arith)

    passed : Passing sheet text
    passed = passing_inputs sheet text inputs.0 inputs.1.0

    filled-cells : part buffer 0 n ≡ row_cells (parameters_of sheet) text passed.tree
    filled-cells =
        let same : inputs.0 ≡ record { parameters = parameters_of sheet; filter = passed.tree } = inputs_same (sym inputs.1.0 ∙ passed.inputs_accepted) in
        rw (sub-zero n) (inputs.1.1 ∙ ap (λ (p : Inputs). row_cells p.parameters text p.filter) same)
      where
        inputs_same : {a b : Inputs} → found a ≡ found b → a ≡ b
        inputs_same i = cc

    pub filled_room : n ≤ length buffer
    filled_room = e.room n h

    pub filled_sheet : read_sheet sheet ≡ (Ok tt)
    filled_sheet = passed.sheet_well_formed

    pub filled_short : length text ≤ 1024
    filled_short = passed.short

    pub filled_few : length (part buffer 0 n) ≤ 320
    filled_few = subst (λ (cs : List ℕ). length cs ≤ 320) (sym filled-cells) (rows_short sheet text passed)

    pub filled_whole : Whole (part buffer 0 n)
    filled_whole = subst Whole (sym filled-cells) (rows_whole sheet text passed)

    pub filled_selects : (b t cs cards list : List ℕ) (s : Result ℕ Refusal) (exit : List ℕ) → b ≡ sheet → t ≡ text → cs ≡ part buffer 0 n
        → Selects (found (cells_question (parameters_of b) t cs)) cards list s exit → Selects (filter_question sheet text) cards list s exit
    filled_selects b t cs cards list s exit e f h g =
        let same : filter_question sheet text ≡ found (cells_question (parameters_of sheet) text (part buffer 0 n)) =
        rows_ask sheet text passed ∙ ap (λ (cs : List ℕ). found (cells_question (parameters_of sheet) text cs)) (sym filled-cells)
        in
        subst (λ (a : Step Question). Selects a cards list s exit) (sym same) (rw (← e, ← f, ← h) g)
