-- What the report for C does on every input: the numbers of the answer, and every row.
-- Assumes nothing.
use Rattle.std.specs.Prelude.{ℕ, ◌≡◌, List, length}
use Rattle.report.specs.Operation.{report_answer, report_rows}
use Rattle.report.specs.declared.Tally.{Tally}
use Rattle.sirophan_c.specs.Answers.{c_counts}
use Rattle.sirophan_c.specs.declared.Counts.{Counts}

pub record TellsReport (sheet text cards : List ℕ) (rows : List Tally) (r : Counts) (exit : List Tally) : Type 0 where
  pub tells : r ≡ c_counts (report_answer sheet text cards (length rows))
  pub tallies : exit ≡ report_rows sheet text cards rows
