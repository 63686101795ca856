-- Conforming to a sheet, from the table of its kinds.
-- Assumes nothing.
use mathlib.Core.Path.{◌≡◌, refl}
use mathlib.Core.List.{List, [], ◌∷◌}
use Rattle.sheet.specs.Sheet.{Parameter}
use Rattle.sheet.specs.Find.{kinds_of}
use Rattle.sheet.proofs.Listed.{table_kind}
use Rattle.card.specs.Card.{Entry}
use Rattle.judge.specs.Sets.{entry_conforms, conforms, conforms_to}

pub table_conforms : (ps : List Parameter) (es : List Entry) → conforms_to (kinds_of ps) es ≡ conforms ps es
unfolding conforms_to conforms entry_conforms
table_conforms ps [] = refl
table_conforms ps (e ∷ es) = rw (table_kind ps e.index, table_conforms ps es)
