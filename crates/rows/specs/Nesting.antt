-- How deep the brackets nest that an expression needs: the grammar's rules for items and filters, without the text.
-- Assumes nothing.
use Rattle.std.specs.Prelude.{ℕ, suc, ◌+◌, cond, ltb}
use Rattle.syntax.specs.declared.Connective.{Connective}
use Rattle.rows.specs.Expression.{Expression, probing, choosing, joining, negating}
use Rattle.rows.specs.declared.Probe.{Probe}
use Rattle.rows.specs.declared.Shape.{Shape}

mutual
  -- an item, with brackets nested at most d deep
  pub data NestsItem : ℕ → Expression → Type 0 where
    nests_test : {d : ℕ} {p : Probe} → NestsItem d (probing p)
    nests_bracketed : {d : ℕ} {e : Expression} {p : Probe} → Nests d e → NestsItem (suc d) (choosing e p)
    nests_bracket : {d : ℕ} {e : Expression} → Nests d e → NestsItem (suc d) e
    nests_not : {d : ℕ} {e : Expression} → Nests d e → NestsItem (suc d) (negating e)

  -- "one or more items joined by and or or"
  pub data Nests : ℕ → Expression → Type 0 where
    nests_item : {d : ℕ} {e : Expression} → NestsItem d e → Nests d e
    nests_more : {d : ℕ} {c : Connective} {e f : Expression} → Nests d e → NestsItem d f → Nests d (joining c e f)

-- ---- as numbers

unfoldable pub larger : ℕ → ℕ → ℕ
larger a b = cond (ltb a b) b a

-- with one level more, for brackets or for not, and n tests
abbrev pub deeper_shape : Shape → ℕ → Shape
deeper_shape a n = record { tests = a.tests + n; chain = a.chain + 1; item = a.chain + 1 }

-- of two that are joined: the second is an item, and the whole would need brackets to be one
abbrev pub joined_shape : Shape → Shape → Shape
joined_shape a b = record { tests = a.tests + b.tests; chain = larger a.chain b.item; item = larger a.chain b.item + 1 }

-- the number of tests, and the depth as a filter and as an item of one
unfoldable pub shape_of : Expression → Shape
shape_of (probing p) = record { tests = 1; chain = 0; item = 0 }
shape_of (choosing e p) = deeper_shape (shape_of e) 1
shape_of (negating e) = deeper_shape (shape_of e) 0
shape_of (joining c e f) = joined_shape (shape_of e) (shape_of f)

-- ---- how deep parts stand in parts, where a second part is one, and what is in brackets

unfoldable pub parts_in : Expression → ℕ
parts_in (probing p) = 1
parts_in (choosing e p) = suc (parts_in e)
parts_in (negating e) = parts_in e
parts_in (joining c e f) = larger (parts_in e) (suc (parts_in f))
