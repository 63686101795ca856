-- The reader of filters, as a function that computes: by recursion on the nesting left, and along a chain of items.
-- Assumes nothing.
use Rattle.std.specs.Prelude.{ℕ, zero, suc, ◌+◌, Bool, true, false, cond, List, eqb, leb, length, Option, Some, None}
use Rattle.std.proofs.Math.Option as maybe
use Rattle.std.proofs.Math.Option.{none, some}
use Rattle.syntax.specs.Tree.{Tree, test, bracketed, join, negation, tests_of}
use Rattle.syntax.specs.Grammar.{round, square, deepest, most_tests}
use Rattle.base.specs.Parts.{part}
use Rattle.syntax.specs.Scan.{skip_at, test_of, head_at, member_after, connective_at, close_at}
use Rattle.syntax.specs.declared.Head.{Head}
use Rattle.syntax.specs.declared.Link.{Link}
use Rattle.syntax.specs.declared.RawTest.{RawTest}

-- where what was read ends, and its tree
pub data Parsed : Type 0 where
  parsed : ℕ → Tree → Parsed
  unparsed : Parsed

abbrev pub negated_if : Bool → Tree → Tree
negated_if true f = negation f
negated_if false f = f

-- a bracket's filter, and what closes it
abbrev pub close_bracket : Bool → Tree → Option ℕ → Parsed
close_bracket negated f (Some q) = parsed q (negated_if negated f)
close_bracket negated f None = unparsed

abbrev pub in_bracket : List ℕ → Bool → Parsed → Parsed
in_bracket xs negated (parsed q f) = close_bracket negated f (close_at xs round q)
in_bracket xs negated unparsed = unparsed

-- a test of a member of the bundle with the name n, at p, from its filter and what comes after that
abbrev pub member_by : List ℕ → ℕ → List ℕ → Tree → Option RawTest → Parsed
member_by xs p n f (Some r) = parsed r.value.next (bracketed p n f (test_of xs r))
member_by xs p n f None = unparsed

abbrev pub in_choice : List ℕ → (close p : ℕ) → List ℕ → Parsed → Parsed
in_choice xs close p n (parsed b f) = member_by xs p n f (member_after xs close b)
in_choice xs close p n unparsed = unparsed

-- an item at p by what it begins with, where inner reads a filter one bracket deeper that a byte closes
abbrev pub item_by : List ℕ → (close p : ℕ) → (ℕ → ℕ → Parsed) → Option Head → Parsed
item_by xs close p inner (Some (Head.Test r)) = parsed r.value.next (test (test_of xs r))
item_by xs close p inner (Some (Head.Open q negated)) = in_bracket xs negated (inner round q)
item_by xs close p inner (Some (Head.Choice e)) = in_choice xs close p (part xs p e) (inner square (skip_at xs (e + 1)))
item_by xs close p inner None = unparsed

abbrev pub and_then : (ℕ → Tree → Parsed) → (Tree → Tree) → Parsed → Parsed
and_then next put (parsed q u) = next q (put u)
and_then next put unparsed = unparsed

abbrev pub chain_by : ℕ → Tree → (ℕ → Parsed) → (ℕ → Tree → Parsed) → Option Link → Parsed
chain_by p f item next (Some j) = and_then next (join j.connective f) (item j.next)
chain_by p f item next None = parsed p f

-- connectives and items from p on, after the tree f; the first number bounds how many
unfoldable pub chain_of : ℕ → List ℕ → (ℕ → Parsed) → ℕ → Tree → Parsed
chain_of zero xs item p f = unparsed
chain_of (suc k) xs item p f = chain_by p f item (λ q u. chain_of k xs item q u) (connective_at xs p)

-- an item and the chain after it: there are fewer connectives than bytes
unfoldable pub filter_of : List ℕ → (ℕ → Parsed) → ℕ → Parsed
filter_of xs item p = and_then (λ q f. chain_of (length xs) xs item q f) (λ f. f) (item p)

-- an item at p, with brackets nested at most d deep, where close closes the bracket around it
unfoldable pub item_at : ℕ → List ℕ → (close p : ℕ) → Parsed
item_at zero xs close p = item_by xs close p (λ c q. unparsed) (head_at xs close p)
item_at (suc d) xs close p = item_by xs close p (λ c q. filter_of xs (λ k. item_at d xs c k) q) (head_at xs close p)

unfoldable pub filter_at : ℕ → List ℕ → (close p : ℕ) → Parsed
filter_at d xs close p = filter_of xs (λ k. item_at d xs close k) p

-- a filter in round brackets that begins at p inside them, after not or without, with brackets nested at most d deep in them
unfoldable pub bracket_at : (d : ℕ) → List ℕ → (negated : Bool) → (p : ℕ) → Parsed
bracket_at d xs negated p = in_bracket xs negated (filter_at d xs round p)

-- the test of a member at p after the filter in square brackets of the bundle whose name ends at u
unfoldable pub chosen_at : (d : ℕ) → List ℕ → (close p u : ℕ) → Parsed
chosen_at d xs close p u = in_choice xs close p (part xs p u) (filter_at d xs square (skip_at xs (u + 1)))

-- a whole text: a filter between spaces, with few enough tests
abbrev pub whole : List ℕ → Parsed → maybe.Option Tree
whole xs (parsed q f) = cond (eqb (skip_at xs q) (length xs)) (cond (leb (length (tests_of f)) most_tests) (some f) none) none
whole xs unparsed = none

-- the tree of the text, if it is a filter
unfoldable pub read : List ℕ → maybe.Option Tree
read xs = whole xs (filter_at deepest xs round (skip_at xs 0))
