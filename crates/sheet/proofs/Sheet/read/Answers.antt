-- `sheet::Sheet::read` meets its contract: the check answers, and then the layout. Assumes nothing.
use Rattle.std.proofs.lemmas.Result.{err_from_is_err_and}
use mathlib.Core.Path.{refl, ap, sym, ◌∙◌}
use Rattle.block.proofs.Readings.{reading_flaw, reading_layout, reading_right}
use Rattle.sheet.specs.Sheet.{sheet_layout, read_sheet}
use Rattle.sheet.proofs.Sheet.read.Goals as goal

pub returns-in_err-block-clause-flaw : goal.returns-in_err-block-clause-flaw
unfolding read_sheet
returns-in_err-block-clause-flaw c =
    let p = err_from_is_err_and c.from_residual.result c.from_residual.ensures.1 in
    rw (p.1, p.2) (sym (reading_flaw _ _ refl _ _ c.in_err-block.ensures.flaw))

pub invariant_of-result : goal.invariant_of-result
unfolding read_sheet
invariant_of-result c = sym (reading_right _ _ refl _ c.in_ok-block.ensures.block.1 _ (c.sheet_layout.ensures ∙ ap sheet_layout c.in_ok-block.ensures.block.0) c.if-sheet_layout.true)

pub returns-then-sheet_layout-clause-read : goal.returns-then-sheet_layout-clause-read
unfolding read_sheet
returns-then-sheet_layout-clause-read c = (refl, sym (reading_right _ _ refl _ c.in_ok-block.ensures.block.1 _ (c.sheet_layout.ensures ∙ ap sheet_layout c.in_ok-block.ensures.block.0) c.if-sheet_layout.true))

pub returns-clause-flaw : goal.returns-clause-flaw
unfolding read_sheet
returns-clause-flaw c = sym (reading_layout _ _ refl _ c.in_ok-block.ensures.block.1 _ (c.sheet_layout.ensures ∙ ap sheet_layout c.in_ok-block.ensures.block.0) c.if-sheet_layout.false)
