-- What judging gathers over a tree: what the filter says.
-- Assumes nothing.
use Rattle.std.specs.Prelude.{ℕ, Bool, cond, not, ◌&&◌, List}
use Rattle.sheet.specs.Sheet.{Parameter}
use Rattle.card.specs.Card.{Entry}
use Rattle.syntax.specs.Tree.{bracketed}
use Rattle.syntax.specs.Fold.{Fold}
use Rattle.syntax.specs.declared.Connective.{Connective}
use Rattle.judge.specs.Verdicts.{test_says, joined, filter_says}
use Rattle.text_judge.specs.declared.Judged.{Judged}

-- what was judged up to q, with what it says
abbrev pub judged : ℕ → Bool → Judged
judged q says = record { end = q; says = says }

-- whether a verdict that is joined to a can change it
abbrev pub undecided : Connective → Bool → Bool
undecided Connective.And a = a
undecided Connective.Or a = not a

-- what the filter says; where the verdict is not needed, no test is judged, and what is gathered says nothing of the filter
unfoldable pub judging : (needed : Bool) → List Parameter → ℕ → List Entry → Fold Bool
judging needed ps c es =
    record {
      one = λ t. needed && test_says ps c es t;
      inside = λ p b f a t. needed && filter_says ps c es (bracketed p b f t);
      both = λ o a b. cond needed (joined o a b) a;
      negate = not;
    }
