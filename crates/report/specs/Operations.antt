-- What the code of the report does on every input: the answer of its definition, refused where a line of the table decides, and every row.
-- Assumes nothing.
use Rattle.std.specs.Prelude.{ℕ, ◌<◌, ◌≡◌, List, length, Result}
use Rattle.sirophan.specs.Operations.{RefusedBy}
use Rattle.report.specs.Operation.{reported_answer, report_answer, report_rows}
use Rattle.report.specs.Refusals.{ReportLine}
use Rattle.report.specs.Steps.{stepped, Ready}
use Rattle.report.specs.declared.Tally.{Tally}
use Rattle.report.specs.declared.Verdicts.{Verdicts}
use Rattle.report.specs.declared.plan.Plan.{Plan}
use Rattle.refusal.specs.declared.Refusal.{Refusal}

-- a plan for `room` rows: what it answers, and what its steps make of such rows
pub record Plans (sheet text cards : List ℕ) (room : ℕ) (p : Plan) : Type 0 where
  pub answers : reported_answer p.answer ≡ report_answer sheet text cards room
  pub refuses : RefusedBy (ReportLine sheet text cards room) (reported_answer p.answer)
  pub ready : (rows : List Tally) → length rows ≡ room → (k : ℕ) → k < p.steps → Ready cards p.rows k rows
  pub writes : (rows : List Tally) → length rows ≡ room → stepped cards p.rows p.steps rows ≡ report_rows sheet text cards rows

-- the answer, and every row at exit
pub record Reports (sheet text cards : List ℕ) (rows : List Tally) (r : Result Verdicts Refusal) (exit : List Tally) : Type 0 where
  pub answers : reported_answer r ≡ report_answer sheet text cards (length rows)
  pub tallies : exit ≡ report_rows sheet text cards rows
  pub refuses : RefusedBy (ReportLine sheet text cards (length rows)) (reported_answer r)
