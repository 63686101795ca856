-- `sheet::sheet_layout` meets its contract. Assumes nothing.
use borrow.Author.Rules.{rules}
use borrow.Author.Tests.{not-true}
use Rattle.sheet.proofs.Read.{layout_not, layout_walk, layout_right}
use Rattle.sheet.proofs.sheet_layout.Goals as goal

pub returns-then-not-has_either : goal.returns-then-not-has_either
returns-then-not-has_either c = search (layout_not, not-true, rules)

pub invariant_of-are_right : goal.invariant_of-are_right
invariant_of-are_right c = record { walk = layout_walk _ _ c.has_either.ensures c.if-not-has_either.false c.told-sheet }

pub returns : goal.returns
returns c = layout_right _ _ c.has_either.ensures c.if-not-has_either.false _ c.has_marks.ensures _ c.are_right.ensures
