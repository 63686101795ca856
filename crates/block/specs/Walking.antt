-- The items of a block one by one, as a walk gives them.
-- Assumes nothing.
use Rattle.std.specs.Prelude.{ℕ, ◌+◌, ◌-◌, ◌<◌, ◌≡◌, get_or, List, Option, MatchOption}
use Rattle.block.specs.Items.{mark_at, length_at, text_at, next, items}
use Rattle.block.specs.declared.walker.Item.{Item}
use Rattle.block.specs.declared.walker.Walker.{Walker}

-- a step gives the item at hand, and the walk goes on behind it
pub record Steps (s : Walker) (i : Item) (t : Walker) : Type 0 where
  pub some : 0 < s.left
  pub tag : i.tag ≡ get_or s.block.now s.at 0
  pub mark : i.mark ≡ mark_at s.block.now s.at
  pub start : i.start ≡ length_at s.block.now s.at + 1
  pub text : i.text.now ≡ text_at s.block.now s.at
  pub block : t.block.now ≡ s.block.now
  pub at : t.at ≡ next s.block.now s.at
  pub left : t.left ≡ s.left - 1

-- what a call gives: nothing where no item is to come
abbrev pub Walks : Walker → Option Item → Walker → Type 0
Walks s r t = MatchOption r ((s.left ≡ 0) × (t.left ≡ 0)) (λ i. Steps s i t)

-- what an item is made into
abbrev pub made : {X : Type 0} → (ℕ → ℕ → List ℕ → X) → Item → X
made make i = make i.tag i.mark i.text.now

-- those that are to come
abbrev pub coming : {X : Type 0} → (ℕ → ℕ → List ℕ → X) → Walker → List X
coming make s = items make s.left s.block.now s.at
