-- What a reader believes of the texts: the computing definition of reading agrees with the spellings.
-- Assumes nothing.
use Rattle.std.specs.Prelude.{Option, Some, None, is_some}
use Prim.Native.Nat.{ℕ}
use mathlib.Core.Bool.{true, false≢true}
use mathlib.Core.Path.{◌≡◌, refl, sym, ◌∙◌}
use mathlib.Core.List.{List}
use mathlib.Core.Logic.{◌↔◌}
use Rattle.date.specs.Texts.{read, readable}
use Rattle.date.specs.Spelling.{Spells}
use Rattle.date.specs.declared.Date.{Date}
use Rattle.date.proofs.Complete.{spells_reads}
use Rattle.date.proofs.Sound.{date-same, reads_spells}

-- the theorem: a text reads to a date exactly where it is a spelling of it
pub read_iff : (s : List ℕ) (d : Date) → (read s ≡ Some d) ↔ Spells s d
read_iff s d = (reads_spells s, spells_reads)

-- so a text spells one date at most
pub spells_unique : {s : List ℕ} {d e : Date} → Spells s d → Spells s e → d ≡ e
spells_unique p q = date-same (sym (spells_reads p) ∙ spells_reads q)

-- and it is readable exactly where it spells one
readable_date : (s : List ℕ) (r : Option Date) → read s ≡ r → is_some r ≡ true → (d : Date) × Spells s d
readable_date s (Some d) e h = (d, reads_spells s e)
readable_date s None e h = absurd (false≢true h)

spells_readable : (s : List ℕ) → (d : Date) × Spells s d → readable s ≡ true
unfolding readable
spells_readable s h = rw (spells_reads h.1)

pub readable_iff : (s : List ℕ) → (readable s ≡ true) ↔ ((d : Date) × Spells s d)
unfolding readable
readable_iff s = (readable_date s (read s) refl, spells_readable s)
