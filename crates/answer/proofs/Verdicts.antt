-- The computed verdict of a filter is its yes or no, in the rules' words.
-- Assumes nothing.
use mathlib.Core.Path.{◌≡◌, refl}
use mathlib.Core.Bool.{Bool, true, false, false≢true}
use mathlib.Core.Logic.{◌↔◌}
use mathlib.Core.List.{List}
use Rattle.base.specs.Lists.{All}
use Rattle.base.proofs.All.{all_map}
use Rattle.sheet.specs.Sheet.{Parameter}
use Rattle.sheet.specs.Encode.{WellFormedSheet}
use Rattle.card.specs.Card.{Entry}
use Rattle.syntax.specs.Tree.{Test, Tree, tests_of}
use Rattle.judge.specs.Rules.{LacksMeaning, FilterSays}
use Rattle.judge.specs.Verdicts.{filter_says}
use Rattle.judge.proofs.Rules.{PrSpelled, pr_spelled, filter_says_iff}
use Rattle.refusal.specs.Answers.{yes_or_no}
use Rattle.answer.specs.Verdicts.{Verdict, answers_yes, answers_no}

-- a verdict that computes what Says states
pub verdict_of : {Says : Type 0} (b : Bool) → (b ≡ true) ↔ Says → Verdict Says (yes_or_no b)
verdict_of true i = answers_yes (i.0 refl) refl
verdict_of false i = answers_no (λ s. false≢true (i.1 s)) refl

-- where pr's values are true or false
pub verdict_spelled : (ps : List Parameter) → WellFormedSheet ps → (es : List Entry) (f : Tree) → All PrSpelled (tests_of f) → Verdict (FilterSays ps 0 es f) (yes_or_no (filter_says ps 0 es f))
verdict_spelled ps w es f h = verdict_of (filter_says ps 0 es f) (filter_says_iff ps w 0 es f h)

-- where no test lacks a meaning on the entries
pub verdict_by : (ps : List Parameter) → WellFormedSheet ps → (es : List Entry) (f : Tree) → All (λ (t : Test). LacksMeaning ps es t → ⊥) (tests_of f)
    → Verdict (FilterSays ps 0 es f) (yes_or_no (filter_says ps 0 es f))
verdict_by ps w es f h = verdict_spelled ps w es f (all_map (λ t. pr_spelled ps es t) h)
