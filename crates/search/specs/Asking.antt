-- What an alternative's text asks under a kind: an operator and a value.
-- Assumes nothing.
use Rattle.std.specs.Prelude.{ℕ, ◌≤◌, ◌≡◌, Bool, cond, ◌||◌, List, [], ◌∷◌, ◌++◌, eqb, length, get_or, drop}
use Rattle.base.specs.Ascii.{ascii}
use Rattle.base.specs.Affixes.{has_prefix}
use Rattle.base.specs.Kinds.{string, number, date, token, reference, period}
use Rattle.base.specs.Operators.{operator_words, eq, ne, gt, lt, ge, le, sa, eb, sw, re}
use Rattle.search.specs.declared.Prefixed.{Prefixed}

-- "numbers, dates and periods take a prefix"
pub data TakesPrefix : ℕ → Type 0 where
  number_takes : TakesPrefix number
  date_takes : TakesPrefix date
  period_takes : TakesPrefix period

-- "of eq, ne, gt, lt, ge, le, sa, eb": each operator by its word
pub data Prefix : ℕ → List ℕ → Type 0 where
  prefix_eq : Prefix eq (ascii "eq")
  prefix_ne : Prefix ne (ascii "ne")
  prefix_gt : Prefix gt (ascii "gt")
  prefix_lt : Prefix lt (ascii "lt")
  prefix_ge : Prefix ge (ascii "ge")
  prefix_le : Prefix le (ascii "le")
  prefix_sa : Prefix sa (ascii "sa")
  prefix_eb : Prefix eb (ascii "eb")

-- the text asks for the operator with the value
pub data AskedBy (kind : ℕ) : List ℕ → ℕ → List ℕ → Type 0 where
  asked_prefix : {k : ℕ} {w v : List ℕ} → TakesPrefix kind → Prefix k w → AskedBy kind (w ++ v) k v
  -- "none meaning eq"
  asked_eq : {v : List ℕ} → TakesPrefix kind → ((k : ℕ) (w rest : List ℕ) → Prefix k w → v ≡ w ++ rest → ⊥) → AskedBy kind v eq v
  -- "a string asks for a start, a token for 01's four forms .., a reference for sameness"
  asked_start : {v : List ℕ} → kind ≡ string → AskedBy kind v sw v
  asked_token : {v : List ℕ} → kind ≡ token → AskedBy kind v eq v
  asked_reference : {v : List ℕ} → kind ≡ reference → AskedBy kind v re v

-- ---- as it is computed

-- which kinds take a prefix, which operators are prefixes, and an operator's word
unfoldable pub takes_prefix : ℕ → Bool
takes_prefix kind = eqb kind number || (eqb kind date || eqb kind period)

abbrev pub prefixes : List ℕ
prefixes = eq ∷ ne ∷ gt ∷ lt ∷ ge ∷ le ∷ sa ∷ eb ∷ []

abbrev pub word_of : ℕ → List ℕ
word_of k = get_or operator_words k []

-- what is asked of a text on a card
pub record Comparison : Type 0 where
  pub operator : ℕ
  pub value : List ℕ

-- the first of the words that the text begins with
unfoldable pub prefixed : List ℕ → List ℕ → Comparison
prefixed [] t = record { operator = eq; value = t }
prefixed (k ∷ ks) t = cond (has_prefix t (word_of k)) (record { operator = k; value = drop 2 t }) (prefixed ks t)

unfoldable pub asked_of : ℕ → List ℕ → Comparison
asked_of kind t =
    cond (takes_prefix kind) (prefixed prefixes t)
    (cond (eqb kind string) (record { operator = sw; value = t }) (cond (eqb kind token) (record { operator = eq; value = t }) (record { operator = re; value = t })))

-- what `asked_of` answers: the operator, and how many bytes stand before the value
pub record PrefixOf (asked : Comparison) (text : List ℕ) (r : Prefixed) : Type 0 where
  pub operator : r.operator ≡ asked.operator
  pub value : drop r.skip text ≡ asked.value
  pub within : r.skip ≤ length text
