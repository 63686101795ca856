-- The code's answers are refused by the table: a slice holds bytes, which is all that the table asks.
-- Assumes nothing.
use Rattle.std.specs.Prelude.{Result, Bool}
use Prim.Native.Nat.{ℕ}
use mathlib.Core.List.{List}
use lib.ListN.{length}
use Rattle.base.proofs.All.{bytes_of}
use Rattle.answer.proofs.Slices.{Sliced}
use Rattle.sirophan.proofs.Contracts.{refused_by}
use Rattle.explain.specs.Operation.{explain_answer}
use Rattle.explain.specs.Refusals.{ExplainLine}
use Rattle.explain.specs.Operations.{Marks, ExplainsInto}
use Rattle.explain.proofs.Table.{explain_table}
use Rattle.refusal.specs.declared.Refusal.{Refusal}
use Rattle.refusal.specs.Answers.{matched_answer}

pub explains_into : (sheet text card list : List ℕ) (r : Result Bool Refusal) (exit : List ℕ) → Marks sheet text card list r exit → Sliced sheet → Sliced card → ExplainsInto sheet text card list r exit
explains_into sheet text card list r exit h s c =
    record {
      answers = h.answers;
      cells = h.cells;
      refuses =
          refused_by (ExplainLine sheet text card (length list)) (matched_answer r) (explain_answer sheet text card (length list)) h.answers
          (explain_table sheet text card (length list) (bytes_of sheet s) (bytes_of card c));
    }
