-- A filter's value that is read once for many texts.
-- Assumes nothing.
use Rattle.std.specs.Prelude.{ℕ, Bool, true, false, not, List}
use Rattle.kind.specs.Relations.{unread, readings_of, relates_read}
use Rattle.kind.specs.declared.Readings.{Readings}
use Rattle.kind.specs.declared.Meaning.{Meaning}

-- what a value reads to for a meaning
unfoldable pub readings_for : Meaning → List ℕ → Readings
readings_for Meaning.Present v = unread
readings_for (Meaning.Relates r) v = readings_of r v
readings_for (Meaning.Differs r) v = readings_of r v
readings_for Meaning.Nothing v = unread

-- whether a text counts for a meaning and a value that was read
unfoldable pub counts_read : Meaning → List ℕ → Readings → List ℕ → Bool
counts_read Meaning.Present v w x = true
counts_read (Meaning.Relates r) v w x = relates_read r x v w
counts_read (Meaning.Differs r) v w x = not (relates_read r x v w)
counts_read Meaning.Nothing v w x = false
