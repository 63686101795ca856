-- What an expression says of a card's entries, as the code goes: by index, and entry by entry. Kinds are a table by index.
-- Assumes nothing.
use Rattle.std.specs.Prelude.{ℕ, ◌-◌, ◌/◌, ◌≤◌, ◌<◌, ◌≡◌, Bool, false, cond, not, ◌&&◌, ◌||◌, List, [], ◌∷◌, eqb, length, get_or, take, drop, Option, Some, None}
use Rattle.std.proofs.Math.Option as maybe
use Rattle.std.proofs.Math.Option.{none, some}
use Rattle.card.specs.Card.{Entry}
use Rattle.syntax.specs.Scan.{value_at}
use Rattle.syntax.specs.declared.Connective.{Connective}
use Rattle.syntax.specs.declared.RawValue.{RawValue}
use Rattle.kind.specs.Table.{meaning_of}
use Rattle.kind.specs.Readable.{is_true}
use Rattle.kind.specs.declared.Meaning.{Meaning}
use Rattle.judge.specs.Sets.{Chosen, values_at, of_occurrence, keep, counts}
use Rattle.judge.specs.Verdicts.{text_counts, some_says, says_of, joined}
use Rattle.rows.specs.Expression.{Expression, probing, choosing, joining, negating}
use Rattle.rows.specs.Cells.{probe_of, row_of, stated}
use Rattle.rows.specs.Shapes.{value_in}
use Rattle.rows.specs.declared.Probe.{Probe}
use Rattle.rows.specs.declared.Row.{Row}
use Rattle.card_reader.specs.Lists.{IsKept}
use Rattle.card_reader.specs.declared.Kept.{Kept}
use Rattle.row_opener.specs.Opening.{Opens}
use Rattle.row_opener.specs.declared.Opened.{Opened}

-- ---- an expression

abbrev pub probe_says_by : Option RawValue → ℕ → List ℕ → Probe → List Entry → Bool
probe_says_by (Some v) kind xs p es = says_of (meaning_of p.operator kind) (value_in xs v) (values_at p.index es)
probe_says_by None kind xs p es = false

unfoldable pub probe_says : List ℕ → List ℕ → Probe → List Entry → Bool
probe_says kinds xs p es = probe_says_by (value_at xs p.position) (get_or kinds p.index 0) xs p es

unfoldable pub expression_says : List ℕ → List ℕ → List Entry → Expression → Bool
expression_says kinds xs es (probing p) = probe_says kinds xs p es
expression_says kinds xs es (choosing e p) = probe_says kinds xs p (keep (λ n. expression_says kinds xs (of_occurrence n.occurrence es) e) es)
expression_says kinds xs es (joining k e f) = joined k (expression_says kinds xs es e) (expression_says kinds xs es f)
expression_says kinds xs es (negating e) = not (expression_says kinds xs es e)

-- ---- rows

abbrev pub stated_says : List ℕ → List ℕ → List Entry → maybe.Option Expression → Bool
stated_says kinds xs es none = false
stated_says kinds xs es (some e) = expression_says kinds xs es e

-- what the rows say of entries
unfoldable pub rows_say : List ℕ → List ℕ → List Entry → List ℕ → Bool
rows_say kinds xs es cs = stated_says kinds xs es (stated cs)

-- they state an expression
pub record Whole (cs : List ℕ) : Type 0 where
  pub expression : Expression
  pub states : stated cs ≡ some expression

-- the entries of every parameter that the rows ask about are kept
pub record AllKept (rows : List ℕ) (kept : Kept) : Type 0 where
  pub each : (j : ℕ) → j < length rows → (p : Probe) → row_of (get_or rows j 0) ≡ Row.Test p → IsKept kept p.index

-- the row of a test and the rows of its brackets behind it, opened by the kinds that are kept
pub record Bracketed (xs rows : List ℕ) (values : List (Option Opened)) (kept : Kept) : Type 0 where
  pub some_row : 1 ≤ length rows
  pub test : Probe
  pub row : row_of (get_or rows 0 0) ≡ Row.Test test
  pub whole : Whole (take (length rows - 1) (drop 1 rows))
  pub opens : Opens kept.kinds xs rows values (length rows)
  pub all_kept : AllKept rows kept

-- a join is decided by the verdict of its first part
abbrev pub decides : Connective → Bool → Bool
decides Connective.And a = not a
decides Connective.Or a = a

-- how many of the rows of its second part are left out
abbrev pub skipped : Connective → Bool → ℕ → ℕ
skipped c a n = cond (decides c a) n 0

-- ---- a test after the rows in its brackets, entry by entry

-- some of the entries is among those that count, stands under the parameter, has a text that counts, and has an occurrence that says yes
unfoldable pub some_entry : (ℕ → Bool) → Chosen → ℕ → Meaning → List ℕ → List Entry → Bool
some_entry says k i m v [] = false
some_entry says k i m v (e ∷ es) = (((counts k e.occurrence && eqb e.index i) && text_counts m v e.text) && says e.occurrence) || some_entry says k i m v es

-- what the rows in the brackets say of an occurrence of a card with the entries all
abbrev pub occurrence_says : List ℕ → List ℕ → List Entry → List ℕ → ℕ → Bool
occurrence_says kinds xs all inner o = rows_say kinds xs (of_occurrence o all) inner

abbrev pub probe_says_each_by : Option RawValue → ℕ → List ℕ → List ℕ → List ℕ → Probe → Chosen → List Entry → Bool
probe_says_each_by (Some v) kind kinds xs inner p k all =
    some_says (meaning_of p.operator kind) (is_true (value_in xs v)) (some_entry (occurrence_says kinds xs all inner) k p.index (meaning_of p.operator kind) (value_in xs v) all)
probe_says_each_by None kind kinds xs inner p k all = false

unfoldable pub probe_says_each : List ℕ → List ℕ → List ℕ → Probe → Chosen → List Entry → Bool
probe_says_each kinds xs inner p k all = probe_says_each_by (value_at xs p.position) (get_or kinds p.index 0) kinds xs inner p k all

-- by the row of the test and the rows behind it
abbrev pub bracket_says : List ℕ → List ℕ → List ℕ → Chosen → List Entry → Bool
bracket_says kinds xs rows k all = probe_says_each kinds xs (take (length rows - 1) (drop 1 rows)) (probe_of (get_or rows 0 0 / 8)) k all
