-- That a card is kept is one fact: two proofs of it are the same. A struct that knows it as a ghost field asks for that.
-- Assumes nothing.
use Rattle.std.specs.Prelude.{Some}
use Rattle.std.proofs.Props.{props}
use Prim.Native.Nat.{ℕ}
use mathlib.Core.Path.{◌≡◌, refl, ap, sym, ◌∙◌}
use mathlib.Core.List.{List}
use Rattle.number.specs.Reading as numbers
use Rattle.period.specs.Texts as periods
use Rattle.card_reader.specs.Readings.{Serves, serves_bytes, serves_number, serves_span}
use Rattle.card_reader.specs.Lists.{KeepsCard}
use Rattle.card_reader.specs.declared.Kept.{Kept}
use Rattle.card_reader.specs.declared.TextReading.{TextReading}

-- the same fact by cases of what it reads to
abbrev By : List ℕ → TextReading → Type 0
By _ TextReading.Bytes = Unit {0}
By t (TextReading.Number n) = numbers.read t ≡ Some n
By t (TextReading.Span p) = periods.read_span t ≡ Some p

to : (t : List ℕ) (h : TextReading) → Serves t h → By t h
to _ _ serves_bytes = tt
to _ _ (serves_number q) = q
to _ _ (serves_span q) = q

from : (t : List ℕ) (h : TextReading) → By t h → Serves t h
from _ TextReading.Bytes _ = serves_bytes
from _ (TextReading.Number n) q = serves_number {n = n} q
from _ (TextReading.Span p) q = serves_span {p = p} q

back : (t : List ℕ) (h : TextReading) (s : Serves t h) → from t h (to t h s) ≡ s
unfolding from to
back _ _ serves_bytes = refl
back _ _ (serves_number q) = refl
back _ _ (serves_span q) = refl

By_prop : (t : List ℕ) (h : TextReading) → IsProp (By t h)
By_prop _ TextReading.Bytes = Prim.hlevel props
By_prop _ (TextReading.Number n) = Prim.hlevel props
By_prop _ (TextReading.Span p) = Prim.hlevel props

Serves_prop : (t : List ℕ) (h : TextReading) → IsProp (Serves t h)
Serves_prop t h a b = sym (back t h a) ∙ ap (from t h) (By_prop t h (to t h a) (to t h b)) ∙ back t h b

pub KeepsCard_prop : (card : List ℕ) (kept : Kept) → IsProp (KeepsCard card kept)
KeepsCard_prop card kept = Prim.hlevel (props, Serves_prop)
