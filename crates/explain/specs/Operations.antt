-- What the code of explain does on every input: the answer of its definition, refused where a line of the table decides, and every cell; and
-- what its parts are handed.
-- Assumes nothing.
use Rattle.std.specs.Prelude.{ℕ, ◌≤◌, ◌≡◌, Bool, List, length, Result, Ok}
use Rattle.sheet.specs.Sheet.{parameters_of, read_sheet}
use Rattle.card.specs.Card.{record_number, entries_of, read_card}
use Rattle.syntax.specs.Tree.{Tree, erase}
use Rattle.judge.specs.Verdicts.{filter_says}
use Rattle.rows.specs.Good.{Good}
use Rattle.row_judge.specs.Saying.{Whole}
use Rattle.rows.specs.Stated.{tree_of}
use Rattle.refusal.specs.Steps.{found}
use Rattle.sirophan.specs.Operations.{RefusedBy}
use Rattle.answer.specs.Operations.{accept_inputs, accept_card}
use Rattle.explain.specs.Operation.{explain_answer, explain_cells}
use Rattle.explain.specs.Refusals.{ExplainLine}
use Rattle.refusal.specs.declared.Refusal.{Refusal}
use Rattle.refusal.specs.Answers.{matched_answer}

-- the answer, and every cell of the list at exit
pub record Marks (sheet text card list : List ℕ) (r : Result Bool Refusal) (exit : List ℕ) : Type 0 where
  pub answers : matched_answer r ≡ explain_answer sheet text card (length list)
  pub cells : exit ≡ explain_cells sheet text card list

pub record ExplainsInto (sheet text card list : List ℕ) (r : Result Bool Refusal) (exit : List ℕ) : Type 0 where
  pub answers : matched_answer r ≡ explain_answer sheet text card (length list)
  pub cells : exit ≡ explain_cells sheet text card list
  pub refuses : RefusedBy (ExplainLine sheet text card (length list)) (matched_answer r)

-- rows that state the filter, on a card that conforms and of which the filter says `says`
pub record Judged (sheet text rows card : List ℕ) (says : Bool) : Type 0 where
  pub filter : Tree
  pub inputs_accepted : accept_inputs sheet text ≡ found (record { parameters = parameters_of sheet; filter = filter })
  pub sheet_reads : read_sheet sheet ≡ (Ok tt)
  pub short : length text ≤ 1024
  pub good : Good (parameters_of sheet) text rows
  pub states : erase (tree_of (parameters_of sheet) text good.expression) ≡ erase filter
  pub whole : Whole rows
  pub few : length rows ≤ 320
  pub card_reads : read_card card ≡ (Ok tt)
  pub card_accepted : accept_card (parameters_of sheet) 0 card ≡ found (record { number = record_number card; entries = entries_of card })
  pub verdict : says ≡ filter_says (parameters_of sheet) 0 (entries_of card) filter
