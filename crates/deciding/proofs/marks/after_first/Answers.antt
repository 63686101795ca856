-- `deciding::marks::after_first` meets its contract: each first row is a case. Assumes nothing.
use borrow.Author.Rules.{rules}
use mathlib.Core.Path.{◌≡◌, subst}
use mathlib.Core.List.{List}
use Prim.Native.Nat.{ℕ, ◌≤◌}
use lib.ListN.{length}
use Rattle.row_judge.specs.Saying.{Whole}
use Rattle.deciding.specs.Rows.{Starts}
use Rattle.deciding.proofs.Parting.{whole_some, starts_other, bracket_fits, starts-behind}
use Rattle.deciding.proofs.marks.after_first.Goals as goal

starts_whole : (cells rows : List ℕ) → cells ≡ rows → Whole cells → length cells ≤ 320 → (at : ℕ) → Starts cells at → record { starts : Starts rows at; whole : Whole rows; few : length rows ≤ 320 }
starts_whole cells rows e w few at s = record { starts = subst (λ (n : List ℕ). Starts n at) e s; whole = subst Whole e w; few = subst (λ (n : List ℕ). length n ≤ 320) e few }

pub bounds-rows-inside-0 : goal.bounds-rows-inside-0
bounds-rows-inside-0 c = whole_some c.rows.invariant.0

pub overflow_add-result : goal.overflow_add-result
overflow_add-result c = bracket_fits c.rows.invariant.0 _ c.row_of.ensures _ c.in-Bracket.is c.rows.invariant.1

pub returns-in_default : goal.returns-in_default
returns-in_default c = starts_whole _ _ c.rows.view_is c.rows.invariant.0 c.rows.invariant.1 _ (search (starts_other, rules))

pub returns-in-Bracket : goal.returns-in-Bracket
returns-in-Bracket c = starts_whole _ _ c.rows.view_is c.rows.invariant.0 c.rows.invariant.1 _ (starts-behind c.rows.invariant.0 _ c.row_of.ensures _ c.in-Bracket.is)
