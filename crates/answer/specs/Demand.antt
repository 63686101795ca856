-- The letter's third demand on check and match, sentence by sentence: over any kind of test, then over the tests of a filter.
-- Assumes nothing.
use Rattle.std.specs.Prelude.{ℕ, ◌≤◌, ◌≡◌, ◌↔◌, List, ◌∷◌, ◌++◌, length}
use Rattle.base.specs.Bytes.{Bytes}
use Rattle.base.specs.Lists.{All}
use Rattle.sheet.specs.Sheet.{Parameter}
use Rattle.sheet.specs.Encode.{SheetBlock}
use Rattle.card.specs.Card.{Entry}
use Rattle.syntax.specs.Tree.{Test, Tree, tests_of}
use Rattle.syntax.specs.Grammar.{Spells}
use Rattle.refusal.specs.Answers.{Answer, count, refused}
use Rattle.answer.specs.Verdicts.{Verdict}
use Rattle.judge.specs.Rules.{Conforms, LacksMeaning, FilterSays}
use Rattle.answer.specs.Numbers.{TestLine, Numbered}

-- ---- over any kind of test

-- the rules of a kind of test on a sheet
pub record TestRules (T : Type 0) : Type 1 where
  -- the sheet's parameters
  pub parameters : List Parameter
  -- the place that a test is refused at
  pub place : T → ℕ
  -- the test lacks a meaning on a card with these entries
  pub Lacks : List Entry → T → Type 0
  -- the line of the table with the number holds for the test
  pub Line : T → ℕ → Type 0

-- the test has a meaning on every card that conforms to the sheet
abbrev pub Meaningful : {T : Type 0} → TestRules T → T → Type 0
Meaningful rules t = (card : List ℕ) (es : List Entry) → Conforms rules.parameters card es → rules.Lacks es t → ⊥

-- how check and match refuse a text with these tests
pub record RefusesAlike {T : Type 0} (rules : TestRules T) (tests : List T) (check : Answer) (match : List ℕ → Answer) : Type 0 where
  -- a test, with those before it and those after it in the text
  pub before : List T
  pub test : T
  pub after : List T
  pub split : tests ≡ before ++ (test ∷ after)
  pub number : ℕ
  -- "the check refuses, and match refuses alike, whatever it is given as a card"; "the place is then the first byte of the .. test"
  pub checked : check ≡ refused number (rules.place test)
  pub matched : (any : List ℕ) → match any ≡ refused number (rules.place test)
  -- it is "the first test that lacks a meaning on some fitting card": each before it has one on all of them
  pub first : All (Meaningful rules) before
  -- "the number is the one that document 01's table gives that test"
  pub table : Numbered (rules.Line test) number
  -- "such a card exists"
  pub card : List ℕ
  pub entries : List Entry
  pub size : length card ≡ 512
  pub bytes : Bytes card
  pub conforms : Conforms rules.parameters card entries
  pub lacks : rules.Lacks entries test

-- what check answers to a text with these tests, and match of each card, where Says is the text's yes
pub record Demand {T : Type 0} (rules : TestRules T) (tests : List T) (Says : List Entry → Type 0) (check : Answer) (match : List ℕ → Answer) : Type 0 where
  -- "The check passes, and answers the number of tests, exactly when every test has a meaning on every card that fits the sheet."
  pub passes : (check ≡ count (length tests)) ↔ All (Meaningful rules) tests
  -- "If it passes, match answers with the filter's yes or no, whichever fitting card it is given."
  pub verdict : check ≡ count (length tests) → (card : List ℕ) (es : List Entry) → Conforms rules.parameters card es → Verdict (Says es) (match card)
  -- "If it does not, the check refuses, and match refuses alike, .."
  pub refuses : (check ≡ count (length tests) → ⊥) → RefusesAlike rules tests check match

-- two checks answer alike, and so do two matches, on each card that conforms, and on every list where the check refuses
pub record Agree {T : Type 0} (rules : TestRules T) (tests : List T) (check check' : Answer) (match match' : List ℕ → Answer) : Type 0 where
  pub checks : check ≡ check'
  pub conforming : (card : List ℕ) (es : List Entry) → Conforms rules.parameters card es → match card ≡ match' card
  pub refusals : (check ≡ count (length tests) → ⊥) → (any : List ℕ) → match any ≡ match' any

-- ---- over the tests of a filter

-- a test is refused at its first byte
abbrev pub filter_tests : List Parameter → TestRules Test
filter_tests ps = record { parameters = ps; place = λ t. t.at; Lacks = LacksMeaning ps; Line = TestLine ps }

-- what check answers to a filter f, and match of each card, on a sheet with the parameters ps
abbrev pub FilterDemand : List Parameter → Tree → (check : Answer) → (match : List ℕ → Answer) → Type 0
FilterDemand ps f = Demand (filter_tests ps) (tests_of f) (λ es. FilterSays ps 0 es f)

-- a check and a match meet it: "Take any sound sheet and any text of at most 1,024 bytes that is a filter by the grammar."
abbrev pub MeetsDemand : (check : List ℕ → List ℕ → Answer) → (match : List ℕ → List ℕ → List ℕ → Answer) → Type 0
MeetsDemand check match =
    (sheet text : List ℕ) (s : SheetBlock sheet) (f : Tree) → length text ≤ 1024 → Spells text f → FilterDemand s.parameters f (check sheet text) (match sheet text)
