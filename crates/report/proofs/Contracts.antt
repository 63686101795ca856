-- What the report does, from its plan and what its steps have made of the rows.
-- Assumes nothing.
use Rattle.std.specs.Prelude.{Result}
use Prim.Native.Nat.{ℕ, ◌<◌}
use mathlib.Core.Path.{◌≡◌, refl, ◌∙◌}
use mathlib.Core.List.{List}
use lib.ListN.{length}
use Rattle.report.specs.Steps.{stepped, Ready}
use Rattle.report.specs.Operations.{Plans, Reports}
use Rattle.report.specs.declared.Tally.{Tally}
use Rattle.report.specs.declared.Verdicts.{Verdicts}
use Rattle.report.specs.declared.plan.Plan.{Plan}
use Rattle.refusal.specs.declared.Refusal.{Refusal}

module _ (sheet text cards : List ℕ) (rows : List Tally) (p : Plan) where
  -- each step that it has finds its row and its card
  pub plan_ready : Plans sheet text cards (length rows) p → (k : ℕ) → k < p.steps → Ready cards p.rows k rows
  plan_ready h k l = h.ready rows refl k l

  pub plan_reports : (exit : List Tally) → Plans sheet text cards (length rows) p → exit ≡ stepped cards p.rows p.steps rows → Reports sheet text cards rows p.answer exit
  plan_reports exit h g = record { answers = h.answers; tallies = g ∙ h.writes rows refl; refuses = h.refuses }
