-- Whether a card's token is what a token asks for: eq on tokens, and the same without the short names of systems.
-- Assumes nothing.
use Rattle.std.specs.Prelude.{ℕ, Bool, true, false, ◌&&◌, List, []}
use Rattle.std.proofs.Math.Option.{Option, none, some}
use Rattle.base.specs.Lists.{equal}
use Rattle.text.specs.Compare.{same}
use Rattle.token.specs.Card.{Token, card_token}
use Rattle.token.specs.Filter.{Form, any_system, system_code, no_system, any_code, form_at, filter_form}
use Rattle.token.specs.Namespace.{system_of}

-- 01: eq by the four forms, with the short names or without
unfoldable pub asks : (short : Bool) → Form → Token → Bool
asks short (any_system c) t = same t.code c
asks short (system_code s c) t = same t.system (system_of short s) && same t.code c
asks short (no_system c) t = equal t.system [] && same t.code c
asks short (any_code s) t = same t.system (system_of short s)

-- the same of what was read; false where either text is unreadable
unfoldable pub meets : (short : Bool) → Option Token → Option Form → Bool
meets short none p = false
meets short (some t) none = false
meets short (some t) (some f) = asks short f t

-- eq of a card's text and a filter's. Callers ask it of readable texts
unfoldable pub matches : List ℕ → List ℕ → Bool
matches card filter = meets true (card_token card) (filter_form filter)

-- 02: "01's four forms without the short system names", of a text that is split at the index i
unfoldable pub matches_at : List ℕ → ℕ → List ℕ → Bool
matches_at card i text = meets false (card_token card) (form_at i text)
