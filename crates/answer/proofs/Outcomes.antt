-- How the steps of the operations come out, in the rules' words: the cases that the proofs go by.
-- Assumes nothing.
use Rattle.std.specs.Prelude.{Ok, Result, ⊤, Err}
use Prim.Native.Nat.{ℕ, ◌+◌, ◌≤◌, ◌<◌}
use mathlib.Core.Path.{◌≡◌}
use mathlib.Core.Bool.{true, false}
use mathlib.Core.List.{List, ◌∷◌, ◌++◌, map}
use lib.ListN.{length}
use Rattle.base.specs.Lists.{All}
use Rattle.block.specs.Words.{word}
use Rattle.block.specs.Sum.{check_sum}
use Rattle.base.specs.Kinds.{bundle_kind}
use Rattle.sheet.specs.Sheet.{Parameter}
use Rattle.card.specs.Card.{Entry, record_number, entries_of}
use Rattle.syntax.specs.Tree.{Test}
use Rattle.judge.specs.Faults.{unsupported}
use Rattle.refusal.specs.declared.Reason.{Reason}
use Rattle.refusal.specs.Decisions.{refuse}
use Rattle.refusal.specs.Answers.{Answer}
use Rattle.refusal.specs.Steps.{Step, found, stop}
use Rattle.answer.specs.Operations.{Card, accept_card}
use Rattle.kind.specs.Rules.{ReadableValue, HasOperator}
use Rattle.judge.specs.Rules.{Conforms, Names, NotOnSheet}
use Rattle.answer.specs.Numbers.{Numbered}
use Rattle.answer.specs.Demand.{TestRules, Meaningful}
use Rattle.answer.specs.Selection.{matching_cards, matching_numbers, RefusesCard}
use Rattle.refusal.specs.declared.Refusal.{Refusal}
use Rattle.block.specs.declared.Flaw.{Flaw}

-- ---- blocks

-- what reading says of a block's bytes, where IsBlock says that they are a block that can be written
pub data ReadsTo (b : List ℕ) (IsBlock : Type 0) : Result ⊤ Flaw → Type 0 where
  size_wrong : (length b ≡ 512 → ⊥) → ReadsTo b IsBlock (Err Flaw.Size)
  sum_wrong : length b ≡ 512 → (check_sum b ≡ word b 508 → ⊥) → ReadsTo b IsBlock (Err Flaw.Sum)
  layout_wrong : length b ≡ 512 → check_sum b ≡ word b 508 → (IsBlock → ⊥) → ReadsTo b IsBlock (Err Flaw.Layout)
  all_right : length b ≡ 512 → check_sum b ≡ word b 508 → IsBlock → ReadsTo b IsBlock (Ok tt)

-- ---- tests

-- what is decided of a test
pub data Judged (ps : List Parameter) (t : Test) : Result ⊤ Refusal → Type 0 where
  judged_unknown : NotOnSheet ps t.path → Judged ps t (refuse Reason.UnknownName t.at)
  judged_bundle : {i : ℕ} → Names ps t.path i bundle_kind → Judged ps t (refuse Reason.BareBundle t.at)
  judged_unsupported : {i k : ℕ} → (k ≡ bundle_kind → ⊥) → Names ps t.path i k → unsupported t.operator ≡ true → Judged ps t (refuse Reason.Unsupported t.at)
  judged_meaningless : {i k : ℕ} → (k ≡ bundle_kind → ⊥) → Names ps t.path i k → unsupported t.operator ≡ false → (HasOperator k t.operator → ⊥) → Judged ps t (refuse Reason.NoMeaning t.at)
  judged_unreadable : {i k : ℕ} → (k ≡ bundle_kind → ⊥) → Names ps t.path i k → unsupported t.operator ≡ false → HasOperator k t.operator
      → (ReadableValue k t.value t.operator → ⊥) → Judged ps t (refuse Reason.Unreadable t.at)
  judged_right : {i k : ℕ} → (k ≡ bundle_kind → ⊥) → Names ps t.path i k → HasOperator k t.operator → ReadableValue k t.value t.operator → Judged ps t (Ok tt)

-- the table gives the test the number n, and there is a conforming card on which it lacks a meaning
pub record Refused {T : Type 0} (rules : TestRules T) (t : T) (n : ℕ) : Type 0 where
  pub table : Numbered (rules.Line t) n
  pub card : List ℕ
  pub entries : List Entry
  pub conforms : Conforms rules.parameters card entries
  pub lacks : rules.Lacks entries t

-- a test has a meaning on every conforming card, and no line of the table holds for it, or it is refused
pub data TestOutcome {T : Type 0} (rules : TestRules T) (t : T) : Step (Unit {0}) → Type 0 where
  test_means : Meaningful rules t → ((n : ℕ) → rules.Line t n → ⊥) → TestOutcome rules t (found tt)
  test_refused : {n : ℕ} → Refused rules t n → TestOutcome rules t (stop n (rules.place t))

-- each of the tests has a meaning on every conforming card, or one is the first that is refused
pub data TestsOutcome {T : Type 0} (rules : TestRules T) (ts : List T) : Step (Unit {0}) → Type 0 where
  all_mean : All (Meaningful rules) ts → TestsOutcome rules ts (found tt)
  one_refused : (before : List T) (t : T) (after : List T) (n : ℕ) → ts ≡ before ++ (t ∷ after) → All (Meaningful rules) before → Refused rules t n
      → TestsOutcome rules ts (stop n (rules.place t))

-- ---- cards

-- the number and the entries of a block's card
abbrev pub card_of : List ℕ → Card
card_of b = record { number = record_number b; entries = entries_of b }

-- at whatever index, the card is accepted, or refused with the number n
abbrev pub Accepted : List Parameter → List ℕ → Type 0
Accepted ps b = (i : ℕ) → accept_card ps i b ≡ found (card_of b)

abbrev pub Stopped : List Parameter → ℕ → List ℕ → Type 0
Stopped ps n b = (i : ℕ) → accept_card ps i b ≡ stop n i

-- each of the cards from the index i on is accepted, or one is the first that is refused
pub data CardsOutcome (ps : List Parameter) (i : ℕ) (bs : List (List ℕ)) : Step (List Card) → Type 0 where
  all_accepted : All (Accepted ps) bs → CardsOutcome ps i bs (found (map card_of bs))
  one_stopped : (before : List (List ℕ)) (b : List ℕ) (after : List (List ℕ)) (n j : ℕ) → bs ≡ before ++ (b ∷ after) → j ≡ i + length before
      → All (Accepted ps) before → n ≤ 23 → Stopped ps n b → CardsOutcome ps i bs (stop n j)

-- a number that neither a card nor a list is refused with
abbrev pub OtherNumber : ℕ → Type 0
OtherNumber n = 21 ≤ n → n ≤ 30 → ⊥

-- a selection from a run, for a list of `room` cells
pub data SelectionOutcome (match : List ℕ → Answer) (bs : List (List ℕ)) (room : ℕ) : Step (List ℕ) → Type 0 where
  not_asked : (n i : ℕ) → OtherNumber n → SelectionOutcome match bs room (stop n i)
  card_refused : (n i : ℕ) → n ≤ 23 → RefusesCard match bs n i → SelectionOutcome match bs room (stop n i)
  no_room : (i : ℕ) → i ≡ length (matching_cards match bs) → room < i → SelectionOutcome match bs room (stop 30 i)
  numbers_found : SelectionOutcome match bs room (found (matching_numbers match bs))

-- ---- any step

-- it found something, or was refused with a number of at most `most`
pub data AtMost {A : Type 0} (most : ℕ) : Step A → Type 0 where
  found_at_most : {x : A} → AtMost most (found x)
  stop_at_most : (n p : ℕ) → n ≤ most → AtMost most (stop n p)
