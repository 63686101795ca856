-- What the parts of the operations answer: a filter's text read, a sheet and a filter that check has passed, one card under them.
-- Assumes nothing.
use Rattle.std.specs.Prelude.{ℕ, ◌≤◌, ◌≡◌, Bool, false, List, length, Ok}
use Rattle.std.proofs.Math.Option.{Option, none, some}
use Rattle.sheet.specs.Sheet.{Parameter, parameters_of, read_sheet}
use Rattle.card.specs.Card.{Entry}
use Rattle.syntax.specs.Tree.{Tree, tests_of}
use Rattle.syntax.specs.Reader.{read}
use Rattle.judge.specs.Verdicts.{filter_says}
use Rattle.filter.specs.declared.Summary.{Summary}
use Rattle.refusal.specs.Answers.{Answer, count}
use Rattle.refusal.specs.Steps.{Step, found, ◌>>=◌, answer}
use Rattle.answer.specs.Operations.{decision_step, tests_step, accept_inputs, accept_card, Question}

-- the answer of check for a text that is a filter, from what was gathered reading it
unfoldable pub summary_answer : Summary → Answer
summary_answer s = answer (decision_step s.first >>= λ u. found (count s.tests))

-- check has passed the sheet and the text, which spells the tree
pub record Passing (sheet text : List ℕ) : Type 0 where
  pub tree : Tree
  pub sheet_well_formed : read_sheet sheet ≡ (Ok tt)
  pub short : length text ≤ 1024
  pub reads : read text ≡ some tree
  pub meant : tests_step (parameters_of sheet) (tests_of tree) ≡ found tt
  pub inputs_accepted : accept_inputs sheet text ≡ found (record { parameters = parameters_of sheet; filter = tree })

-- what the text's filter says of entries
abbrev pub text_says : List Parameter → List Entry → Option Tree → Bool
text_says ps es (some f) = filter_says ps 0 es f
text_says ps es none = false

-- the verdict of the card with the index i, or its refusal
unfoldable pub card_verdict : Question → ℕ → List ℕ → Step Bool
card_verdict q i b = accept_card q.parameters i b >>= λ c. found (q.says c.entries)

-- what the text asks, as the code judges by it
abbrev pub text_question : List Parameter → Option Tree → Question
text_question ps f = record { parameters = ps; says = λ es. text_says ps es f }
