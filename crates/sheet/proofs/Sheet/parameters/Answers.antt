-- `sheet::Sheet::parameters` meets its contract: the walk over a sheet's parameters starts at byte 2. Assumes nothing.
use mathlib.Core.Path.{refl, sym}
use Rattle.sheet.specs.Sheet.{parameter_count, parameters_of}
use Rattle.sheet.proofs.Read.{sheet_walk, sheet_count}
use Rattle.sheet.proofs.Sheet.parameters.Goals as goal

pub invariant_of-result : goal.invariant_of-result
invariant_of-result c = record { walk = sheet_walk _ c.self.invariant }

pub returns : goal.returns
unfolding parameters_of parameter_count
returns c = rw (sym c.self.view_is) (record { parameters = refl; most = sheet_count _ c.self.invariant })
