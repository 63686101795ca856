-- What a text on a card reads to.
-- Assumes nothing.
use Rattle.std.specs.Prelude.{ℕ, ◌≡◌, List, Some}
use Rattle.number.specs.Reading as numbers
use Rattle.number.specs.declared.Decimal.{Decimal}
use Rattle.period.specs.Texts as periods
use Rattle.period.specs.declared.Period.{Period}
use Rattle.card_reader.specs.declared.TextReading.{TextReading}

-- the text t reads to it
pub data Serves (t : List ℕ) : TextReading → Type 0 where
  serves_bytes : Serves t TextReading.Bytes
  serves_number : {n : Decimal} → numbers.read t ≡ Some n → Serves t (TextReading.Number n)
  serves_span : {p : Period} → periods.read_span t ≡ Some p → Serves t (TextReading.Span p)
