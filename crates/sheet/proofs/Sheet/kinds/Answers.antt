-- `sheet::Sheet::kinds` meets its contract. Assumes nothing.
use borrow.Author.Rules.{rules}
use mathlib.Core.Path.{sym}
use Rattle.sheet.proofs.Sheet.kinds.Goals as goal

pub returns : goal.returns
returns c = record { kinds = c.table.ensures (λ p. p.kind) (λ p n k. search rules); well_formed = rw (sym c.self.view_is) c.self.invariant }
