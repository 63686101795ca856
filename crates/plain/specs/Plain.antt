-- The plain spelling of a filter (02 [5]): the one text that its tests, connectives, negations and grouping are written as.
-- Assumes nothing.
use Rattle.std.specs.Prelude.{ℕ, Bool, true, false, cond, not, ◌&&◌, List, [], ◌∷◌, ◌++◌, eqb, get_or}
use Prim.Native.Char.{code}
use Rattle.base.specs.Ascii.{ascii}
use Rattle.base.specs.Lists.{every}
use Rattle.base.specs.Operators.{operator_words}
use Rattle.syntax.specs.Tree.{Path, name, member, Test, Tree, test, bracketed, join, negation}
use Rattle.syntax.specs.declared.Connective.{Connective}
use Rattle.syntax.specs.Strings.{quote, backslash, is_bare, is_plain}

-- ---- values

-- the value can be a bare word
unfoldable pub is_word : List ℕ → Bool
is_word [] = false
is_word (b ∷ w) = not (eqb b quote) && every is_bare (b ∷ w)

-- the byte that stands after a backslash for one that cannot stand plainly
unfoldable pub escape_of : ℕ → ℕ
escape_of b =
    cond (eqb b 0x08) (code "b") (cond (eqb b 0x0c) (code "f") (cond (eqb b 0x0a) (code "n")
    (cond (eqb b 0x0d) (code "r") (cond (eqb b 0x09) (code "t") b))))

-- what stands between the quotes, "in its shortest form": an escape only where a byte cannot stand plainly
unfoldable pub escaped : List ℕ → List ℕ
escaped [] = []
escaped (b ∷ v) = cond (is_plain b) (b ∷ escaped v) (backslash ∷ escape_of b ∷ escaped v)

-- "a bare word wherever the value can be one, else a string"
unfoldable pub plain_value : List ℕ → List ℕ
plain_value v = cond (is_word v) v (quote ∷ (escaped v ++ (quote ∷ [])))

-- ---- tests

-- the name that a path begins with: all of it, in a tree that a text spells
abbrev pub first_name : Path → List ℕ
first_name (name n) = n
first_name (member b p) = b

abbrev pub operator_word : ℕ → List ℕ
operator_word k = get_or operator_words k []

-- "one space where one is needed"
unfoldable pub plain_test : Test → List ℕ
plain_test t = first_name t.path ++ (ascii " " ++ (operator_word t.operator ++ (ascii " " ++ plain_value t.value)))

-- ---- filters

abbrev pub connective_text : Connective → List ℕ
connective_text Connective.And = ascii " and "
connective_text Connective.Or = ascii " or "

abbrev pub is_join : Tree → Bool
is_join (test t) = false
is_join (bracketed p b f t) = false
is_join (join c f g) = true
is_join (negation f) = false

abbrev pub in_round : List ℕ → List ℕ
in_round s = ascii "(" ++ (s ++ ascii ")")

-- "a bracketed join after and or or keeps one pair"
abbrev pub in_round_if : Bool → List ℕ → List ℕ
in_round_if true s = in_round s
in_round_if false s = s

unfoldable pub plain : Tree → List ℕ
plain (test t) = plain_test t
plain (bracketed p b f t) = b ++ (ascii "[" ++ (plain f ++ (ascii "]." ++ plain_test t)))
plain (join c f g) = plain f ++ (connective_text c ++ in_round_if (is_join g) (plain g))
plain (negation f) = ascii "not" ++ in_round (plain f)

-- what stands after a connective
abbrev pub operand : Tree → List ℕ
operand f = in_round_if (is_join f) (plain f)
