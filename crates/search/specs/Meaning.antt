-- Search strings as they are judged: the fault of an alternative on a sheet, and what alternatives, pairs and queries say of a card.
-- Assumes nothing.
use Rattle.std.specs.Prelude.{ℕ, Bool, false, cond, List, [], ◌∷◌, eqb, Ok, Result, ⊤, Option, None, Some}
use Rattle.base.specs.Kinds.{token, bundle_kind}
use Rattle.token.specs.Filter.{readable_at}
use Rattle.token.specs.Match.{matches_at}
use Rattle.sheet.specs.Sheet.{Parameter}
use Rattle.sheet.specs.declared.Found.{Found}
use Rattle.card.specs.Card.{Entry}
use Rattle.syntax.specs.Tree.{name}
use Rattle.kind.specs.Table.{meaning_of}
use Rattle.judge.specs.Sets.{lookup, values_at}
use Rattle.judge.specs.Faults.{kind_fault}
use Rattle.judge.specs.Verdicts.{some_value, says_of}
use Rattle.refusal.specs.declared.Reason.{Reason}
use Rattle.refusal.specs.Decisions.{refuse, or_else}
use Rattle.query.specs.Spelling.{Alternative, Query}
use Rattle.query.specs.Met.{query_met}
use Rattle.search.specs.Asking.{asked_of}
use Rattle.refusal.specs.declared.Refusal.{Refusal}

-- ---- faults

-- 16 and 17 of a text under a kind, with the place of its pair: a token by its own split, any other by the operator and the value that
-- are asked
unfoldable pub text_fault : (kind split : ℕ) → List ℕ → (place : ℕ) → Result ⊤ Refusal
text_fault kind split text p =
    cond (eqb kind token) (cond (readable_at split text) (Ok tt) (refuse Reason.Unreadable p))
    (kind_fault (asked_of kind text).operator kind (asked_of kind text).value p)

-- "14 (bundles and members too)": a member's name is not found at the top
abbrev pub fault_at : Option Found → (split : ℕ) → List ℕ → (place : ℕ) → Result ⊤ Refusal
fault_at None split text p = refuse Reason.UnknownName p
fault_at (Some found) split text p = cond (eqb found.kind bundle_kind) (refuse Reason.UnknownName p) (text_fault found.kind split text p)

-- of an alternative: its place is the first byte of its pair
unfoldable pub alternative_fault : List Parameter → Alternative → Result ⊤ Refusal
alternative_fault ps a = fault_at (lookup ps 0 (name a.name)) a.split a.text a.at

-- "per alternative, the first deciding"
unfoldable pub first_alternative_fault : List Parameter → List Alternative → Result ⊤ Refusal
first_alternative_fault ps [] = Ok tt
first_alternative_fault ps (a ∷ rest) = or_else (alternative_fault ps a) (first_alternative_fault ps rest)

-- ---- verdicts

-- what a text under a kind says of the set of its name
unfoldable pub text_says : (kind split : ℕ) → List ℕ → List (List ℕ) → Bool
text_says kind split text set =
    cond (eqb kind token) (some_value (λ x. matches_at x split text) set)
    (says_of (meaning_of (asked_of kind text).operator kind) (asked_of kind text).value set)

abbrev pub says_at : Option Found → (split : ℕ) → List ℕ → List Entry → Bool
says_at None split text es = false
says_at (Some found) split text es = text_says found.kind split text (values_at found.index es)

unfoldable pub alternative_says : List Parameter → List Entry → Alternative → Bool
alternative_says ps es a = says_at (lookup ps 0 (name a.name)) a.split a.text es

-- of a query
unfoldable pub query_says : List Parameter → List Entry → Query → Bool
query_says ps es q = query_met (alternative_says ps es) q
