-- The fold of a tree that may be negated.
-- Assumes nothing.
use mathlib.Core.Path.{◌≡◌, refl}
use mathlib.Core.Bool.{Bool, true, false, cond}
use Rattle.syntax.specs.Tree.{Tree}
use Rattle.syntax.specs.Fold.{Fold, fold_tree}
use Rattle.syntax.specs.Reader.{negated_if}

pub fold_negated : {A : Type 0} (φ : Fold A) (b : Bool) (f : Tree) → fold_tree φ (negated_if b f) ≡ cond b (φ.negate (fold_tree φ f)) (fold_tree φ f)
unfolding fold_tree
fold_negated φ true f = refl
fold_negated φ false f = refl
