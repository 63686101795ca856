-- The promises about the report (02: the month-end sheet); each is proved where its one line says. The contract of `report` says that the code
-- answers as report_answer does, and leaves the rows as report_rows says. Assumes nothing.
use Prim.Native.Nat.{ℕ, ◌<◌}
use mathlib.Core.Path.{◌≡◌}
use mathlib.Core.Logic.{◌↔◌}
use mathlib.Core.List.{List}
use lib.ListN.{length, get_or}
use Rattle.base.specs.Bytes.{Bytes}
use Rattle.base.specs.Kinds.{bundle_kind}
use Rattle.base.specs.Lists.{Listed, All}
use Rattle.sheet.specs.Sheet.{Parameter}
use Rattle.sheet.specs.Encode.{SheetBlock}
use Rattle.card.specs.Card.{Entry, entries_of}
use Rattle.judge.specs.Rules.{Conforms}
use Rattle.refusal.specs.Answers.{refused}
use Rattle.refusal.specs.Order.{Decides}
use Rattle.answer.specs.Selection.{Run}
use Rattle.report.specs.Tallies.{tally, tallies}
use Rattle.report.specs.Operation.{report_answer, report_rows}
use Rattle.report.specs.Refusals.{ReportLine}
use Rattle.report.specs.Reporting.{rows_of, RowSays, ReportAnswers, ReportsByMatch}
use Rattle.report.specs.declared.Tally.{Tally}
use Rattle.report.proofs.Table as table
use Rattle.report.proofs.Reporting as reporting
use Rattle.report.proofs.Words as words
use Rattle.report.proofs.Passes as passes

-- ---- the report: refusals

-- refused with a number and a place exactly where that line of the table holds and none before it does
pub report_refused : (sheet text cards : List ℕ) (room : ℕ) → Bytes sheet → Bytes cards → (n p : ℕ)
    → (report_answer sheet text cards room ≡ refused n p) ↔ Decides (ReportLine sheet text cards room) n p
report_refused = table.report_table

pub refusal_keeps_rows : (sheet text cards : List ℕ) (rows : List Tally) (n i : ℕ) → report_answer sheet text cards (length rows) ≡ refused n i → report_rows sheet text cards rows ≡ rows
refusal_keeps_rows = reporting.refusal_keeps

-- ---- the report: yes and no

-- where no line holds, a report answers on how many cards match answers yes, and on how many no, which make up the run, and writes the rows
pub report_answered : (sheet text cards : List ℕ) (s : SheetBlock sheet) (rows : List Tally) (bs : List (List ℕ)) → Run cards bs → Bytes sheet → Bytes cards
    → ((n p : ℕ) → ReportLine sheet text cards (length rows) n p → ⊥) → ReportAnswers sheet text cards s.parameters rows bs
report_answered = reporting.report_answered

-- whatever it answers, it goes by match on each card
pub report_by_match : (sheet text cards : List ℕ) (s : SheetBlock sheet) (rows : List Tally) (bs : List (List ℕ)) → Run cards bs → ReportsByMatch sheet text cards s.parameters rows bs
report_by_match = reporting.reports_by_match

-- ---- the report: its rows

-- each row says how many cards of the run have its parameter, and how many values stand under it
pub row_in_words : (ps : List Parameter) (bs : List (List ℕ)) (rows : List Tally) (i : ℕ) → i < length ps → RowSays i bs (rows_of ps bs rows)
row_in_words = words.row-says

-- and there are as many rows as parameters
pub row_for_each : (cs : List (List Entry)) (i n : ℕ) → length (tallies cs i n) ≡ n
row_for_each = passes.tallies-length

-- a bundle tallies 0 and 0
pub bundle-tallies_nothing : (ps : List Parameter) (i : ℕ) (p : Parameter) → Listed ps i p → p.kind ≡ bundle_kind → (bs : List (List ℕ)) (rows : List Tally)
    → All (λ (b : List ℕ). Conforms ps b (entries_of b)) bs → get_or (rows_of ps bs rows) i (tally 0 0) ≡ tally 0 0
bundle-tallies_nothing = words.bundle-says
