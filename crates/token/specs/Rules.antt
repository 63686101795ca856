-- What a token asks for, in document 01's words: the short names of systems, and the four forms.
-- Assumes nothing.
use Rattle.std.specs.Prelude.{ℕ, ◌≡◌, List, []}
use Rattle.base.specs.Ascii.{ascii}
use Rattle.text.specs.Fold.{fold_text}
use Rattle.token.specs.Card.{Token}
use Rattle.token.specs.Filter.{Form, any_system, system_code, no_system, any_code}

-- "a filter's system loinc, snomed, rxnorm or ucum, case ignored, stands for its namespace below"; any other stands for itself
pub data StandsFor (s : List ℕ) : List ℕ → Type 0 where
  stands_for_loinc : fold_text s ≡ ascii "loinc" → StandsFor s (ascii "http://loinc.org")
  stands_for_snomed : fold_text s ≡ ascii "snomed" → StandsFor s (ascii "http://snomed.info/sct")
  stands_for_rxnorm : fold_text s ≡ ascii "rxnorm" → StandsFor s (ascii "http://www.nlm.nih.gov/research/umls/rxnorm")
  stands_for_ucum : fold_text s ≡ ascii "ucum" → StandsFor s (ascii "http://unitsofmeasure.org")
  stands_for_itself : (fold_text s ≡ ascii "loinc" → ⊥) → (fold_text s ≡ ascii "snomed" → ⊥) → (fold_text s ≡ ascii "rxnorm" → ⊥) → (fold_text s ≡ ascii "ucum" → ⊥) → StandsFor s s

-- 02: "without the short system names" a system stands for itself
abbrev pub Itself : List ℕ → List ℕ → Type 0
Itself s n = s ≡ n

-- the form asks for the card's token, where Stands says what a system stands for; "text comparisons ignore the case"
pub data AsksBy (Stands : List ℕ → List ℕ → Type 0) : Form → Token → Type 0 where
  -- "code (no bar, whichever system)"
  asks_any_system : {c : List ℕ} {t : Token} → fold_text t.code ≡ fold_text c → AsksBy Stands (any_system c) t
  -- "system|code"
  asks_system_code : {s n c : List ℕ} {t : Token} → Stands s n → fold_text t.system ≡ fold_text n → fold_text t.code ≡ fold_text c → AsksBy Stands (system_code s c) t
  -- "|code (no system)"
  asks_no_system : {c : List ℕ} {t : Token} → t.system ≡ [] → fold_text t.code ≡ fold_text c → AsksBy Stands (no_system c) t
  -- "system| (every code of it)"
  asks_any_code : {s n : List ℕ} {t : Token} → Stands s n → fold_text t.system ≡ fold_text n → AsksBy Stands (any_code s) t

-- a filter's form
abbrev pub Asks : Form → Token → Type 0
Asks = AsksBy StandsFor
