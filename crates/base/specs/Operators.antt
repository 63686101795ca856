-- The 19 operators (01: operation words), numbered from 0 in the order of the R4 page's table: a number for each, and its word.
-- Assumes nothing.
use Rattle.std.specs.Prelude.{ℕ, ◌≡◌, List, [], ◌∷◌, Option, MatchOption}
use Rattle.base.specs.Ascii.{ascii}
use Rattle.base.specs.declared.operator.Operator.{Operator}
use Rattle.base.specs.declared.operator.Operator.TheVariants as operators

-- the word of an operator stands at its number
unfoldable pub operator_words : List (List ℕ)
operator_words =
    ascii "eq" ∷ ascii "ne" ∷ ascii "co" ∷ ascii "sw" ∷ ascii "ew" ∷ ascii "gt" ∷ ascii "lt" ∷ ascii "ge" ∷ ascii "le" ∷ ascii "ap" ∷
    ascii "sa" ∷ ascii "eb" ∷ ascii "pr" ∷ ascii "po" ∷ ascii "ss" ∷ ascii "sb" ∷ ascii "in" ∷ ascii "ni" ∷ ascii "re" ∷ []

abbrev pub eq : ℕ
eq = 0

abbrev pub ne : ℕ
ne = 1

abbrev pub co : ℕ
co = 2

abbrev pub sw : ℕ
sw = 3

abbrev pub ew : ℕ
ew = 4

abbrev pub gt : ℕ
gt = 5

abbrev pub lt : ℕ
lt = 6

abbrev pub ge : ℕ
ge = 7

abbrev pub le : ℕ
le = 8

abbrev pub ap : ℕ
ap = 9

abbrev pub sa : ℕ
sa = 10

abbrev pub eb : ℕ
eb = 11

abbrev pub pr : ℕ
pr = 12

abbrev pub po : ℕ
po = 13

abbrev pub ss : ℕ
ss = 14

abbrev pub sb : ℕ
sb = 15

abbrev pub «in» : ℕ
«in» = 16

abbrev pub ni : ℕ
ni = 17

abbrev pub re : ℕ
re = 18

-- the number of an operator
abbrev pub operator_number : Operator → ℕ
operator_number operators.Eq = eq
operator_number operators.Ne = ne
operator_number operators.Co = co
operator_number operators.Sw = sw
operator_number operators.Ew = ew
operator_number operators.Gt = gt
operator_number operators.Lt = lt
operator_number operators.Ge = ge
operator_number operators.Le = le
operator_number operators.Ap = ap
operator_number operators.Sa = sa
operator_number operators.Eb = eb
operator_number operators.Pr = pr
operator_number operators.Po = po
operator_number operators.Ss = ss
operator_number operators.Sb = sb
operator_number operators.In = «in»
operator_number operators.Ni = ni
operator_number operators.Re = re

-- r is the operator that has the number, or none has it
abbrev pub OperatorOf : ℕ → Option Operator → Type 0
OperatorOf n r = MatchOption r ((x : Operator) → operator_number x ≡ n → ⊥) (λ x. operator_number x ≡ n)
