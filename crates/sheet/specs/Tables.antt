-- A table of the parameters by their index, as code makes it.
-- Assumes nothing.
use Rattle.std.specs.Prelude.{ℕ, ◌≡◌, List}
use Rattle.block.specs.Walking.{made}
use Rattle.block.specs.declared.walker.Item.{Item}
use Rattle.sheet.specs.Sheet.{Parameter, parameter, parameters_of}
use Rattle.sheet.specs.Find.{table_of}

-- r is the table of what a function gives of each parameter of the sheet b, where it gives a part of it
abbrev pub TableBy : (Item → ℕ → Type 0) → List ℕ → List ℕ → Type 0
TableBy gives b r = (of : Parameter → ℕ) → ((p : Item) (n : ℕ) → gives p n → n ≡ of (made parameter p)) → r ≡ table_of of (parameters_of b)
