-- Where a walk begins, and its answers: where it ends and what it gathered, or that the text is no filter.
-- Assumes nothing.
use Rattle.std.specs.Prelude.{ℕ, List, Option, Some, None}
use Rattle.syntax.specs.Grammar.{round, deepest}
use Rattle.syntax.specs.Scan.{skip_at}
use Rattle.syntax.specs.Reader.{Parsed, parsed, unparsed}
use Rattle.syntax.specs.Fold.{Fold, fold_tree}
use Rattle.filter.specs.declared.Spot.{Spot}

-- where the whole text begins: behind leading spaces, with every level of brackets below it, at the top of the sheet
unfoldable pub top_spot : List ℕ → Spot
top_spot xs = record { at = skip_at xs 0; levels = deepest; close = round; bundle = 0 }

-- what a walk answers for what was parsed, if there is anything: where it ends and what φ gathers over its tree, put together by done
unfoldable pub answer_of : {A W : Type 0} → (ℕ → A → W) → Fold A → Parsed → Option W
answer_of done φ (parsed q f) = Some (done q (fold_tree φ f))
answer_of done φ unparsed = None
