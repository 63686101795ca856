-- Rules that statements and code share, said a second time: the words that are not supported, the check sum, the tests of a filter, and
-- the order of refusals of each operation.
-- Assumes nothing.
use Rattle.std.specs.Prelude.{ℕ, zero, suc, ◌+◌, ◌*◌, ◌≡◌, cond, List, [], ◌∷◌, ◌++◌, get_or}
use Rattle.base.specs.Ascii.{ascii}
use Rattle.base.specs.Lists.{member}
use Rattle.base.specs.Operators.{ap, ss, sb, «in», ni}
use Rattle.syntax.specs.Tree.{Test, moved, under, Tree, test, bracketed, join, negation}
use Rattle.syntax.specs.declared.Connective.{Connective}

-- "word is ap, ss, sb, in or ni": each operator by its word
pub data NotSupported : ℕ → List ℕ → Type 0 where
  word_ap : NotSupported ap (ascii "ap")
  word_ss : NotSupported ss (ascii "ss")
  word_sb : NotSupported sb (ascii "sb")
  word_in : NotSupported «in» (ascii "in")
  word_ni : NotSupported ni (ascii "ni")

-- "the sum of the first .. bytes, each times its place counted from 1": place by place
unfoldable pub places_sum : (places : ℕ) → List ℕ → ℕ
places_sum zero b = 0
places_sum (suc n) b = places_sum n b + get_or b n 0 * suc n

-- the tests of a filter, each with its path from the top; a bracketed one begins where its bundle's name does
pub data TestIn : Tree → Test → Type 0 where
  its_test : {t : Test} → TestIn (test t) t
  outer_test : {p : ℕ} {b : List ℕ} {f : Tree} {t u : Test} → u ≡ under b (moved p t) → TestIn (bracketed p b f t) u
  inner_test : {p : ℕ} {b : List ℕ} {f : Tree} {t u v : Test} → TestIn f v → u ≡ under b v → TestIn (bracketed p b f t) u
  in_first : {c : Connective} {f g : Tree} {u : Test} → TestIn f u → TestIn (join c f g) u
  in_second : {c : Connective} {f g : Tree} {u : Test} → TestIn g u → TestIn (join c f g) u
  in_negation : {f : Tree} {u : Test} → TestIn f u → TestIn (negation f) u

-- ---- the order of refusals, operation by operation: lines one after the other, and the numbers of a line as they decide there

-- 01's table, with 02's 12, 13 and 18
abbrev pub check_order : List (List ℕ)
check_order = (1 ∷ []) ∷ (2 ∷ []) ∷ (3 ∷ []) ∷ (10 ∷ []) ∷ (11 ∷ 12 ∷ 13 ∷ []) ∷ (14 ∷ 18 ∷ 15 ∷ 16 ∷ 17 ∷ []) ∷ []

abbrev pub card_order : List (List ℕ)
card_order = (20 ∷ []) ∷ (21 ∷ 22 ∷ 23 ∷ []) ∷ []

-- "10; 50 ..; 51 ..; then per alternative .. 14 .., 16, 17"
abbrev pub check_search_order : List (List ℕ)
check_search_order = (1 ∷ []) ∷ (2 ∷ []) ∷ (3 ∷ []) ∷ (10 ∷ []) ∷ (50 ∷ []) ∷ (51 ∷ []) ∷ (14 ∷ 16 ∷ 17 ∷ []) ∷ []

-- check; match; select, "then .. 30"; report, "31, last"; explain, "then 33"; prepare, "then 34"; judge, "1 to 3, 10, 40 .., 20 to 23";
-- spell, "10 to 13; then 32"; and check, match and select by a search string
unfoldable pub orders : List (List (List ℕ))
orders =
    check_order
    ∷ (check_order ++ card_order)
    ∷ (check_order ++ (card_order ++ ((30 ∷ []) ∷ [])))
    ∷ (check_order ++ (card_order ++ ((31 ∷ []) ∷ [])))
    ∷ (check_order ++ (card_order ++ ((33 ∷ []) ∷ [])))
    ∷ (check_order ++ ((34 ∷ []) ∷ []))
    ∷ ((1 ∷ []) ∷ (2 ∷ []) ∷ (3 ∷ []) ∷ (10 ∷ []) ∷ (40 ∷ []) ∷ card_order)
    ∷ ((10 ∷ []) ∷ (11 ∷ 12 ∷ 13 ∷ []) ∷ (32 ∷ []) ∷ [])
    ∷ check_search_order
    ∷ (check_search_order ++ card_order)
    ∷ (check_search_order ++ (card_order ++ ((30 ∷ []) ∷ [])))
    ∷ []

-- of a list of numbers those that stand in another, and of lines those that have one
abbrev pub only : List ℕ → List ℕ → List ℕ
only ns [] = []
only ns (x ∷ xs) = cond (member x ns) (x ∷ only ns xs) (only ns xs)

abbrev pub or_none : List ℕ → List (List ℕ) → List (List ℕ)
or_none [] ls = ls
or_none (x ∷ xs) ls = (x ∷ xs) ∷ ls

abbrev pub among : List ℕ → List (List ℕ) → List (List ℕ)
among ns [] = []
among ns (l ∷ ls) = or_none (only ns l) (among ns ls)
