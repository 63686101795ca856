-- How a token is spelled on a card, and each form in a filter or split at an index of its own.
-- Assumes nothing.
use Rattle.std.specs.Prelude.{ℕ, ◌≤◌, ◌<◌, List, [], ◌∷◌, ◌++◌, length}
use Rattle.text.specs.Bar.{bar, NoBar}
use Rattle.token.specs.Card.{Token}
use Rattle.token.specs.Filter.{Form, any_system, system_code, no_system, any_code}

-- the text has a byte
abbrev pub NotEmpty : List ℕ → Type 0
NotEmpty s = 0 < length s

-- code, or system|code with a system that may be empty
pub data CardSpells : List ℕ → Token → Type 0 where
  spells_code : {c : List ℕ} → NoBar c → NotEmpty c → CardSpells c (record { system = []; code = c })
  spells_token : {s c : List ℕ} → NoBar s → NotEmpty c → CardSpells (s ++ (bar ∷ c)) (record { system = s; code = c })

-- code, system|code, |code, system|
pub data FilterSpells : List ℕ → Form → Type 0 where
  spells_any_system : {c : List ℕ} → NoBar c → NotEmpty c → FilterSpells c (any_system c)
  spells_system_code : {s c : List ℕ} → NoBar s → NotEmpty s → NotEmpty c → FilterSpells (s ++ (bar ∷ c)) (system_code s c)
  spells_no_system : {c : List ℕ} → NotEmpty c → FilterSpells (bar ∷ c) (no_system c)
  spells_any_code : {s : List ℕ} → NoBar s → NotEmpty s → FilterSpells (s ++ (bar ∷ [])) (any_code s)

-- the same of a text that is split at the index i, whatever bars it has besides
pub data SplitSpells : List ℕ → ℕ → Form → Type 0 where
  split_any_system : {c : List ℕ} {i : ℕ} → length c ≤ i → NotEmpty c → SplitSpells c i (any_system c)
  split_system_code : {s c : List ℕ} (b : ℕ) → NotEmpty s → NotEmpty c → SplitSpells (s ++ (b ∷ c)) (length s) (system_code s c)
  split_no_system : {c : List ℕ} (b : ℕ) → NotEmpty c → SplitSpells (b ∷ c) 0 (no_system c)
  split_any_code : {s : List ℕ} (b : ℕ) → NotEmpty s → SplitSpells (s ++ (b ∷ [])) (length s) (any_code s)
