-- The machine as the code has it: a name is told by where it begins, and the open brackets are the binary digits of a number.
-- Assumes nothing.
use Rattle.std.specs.Prelude.{ℕ, ◌+◌, ◌*◌, ◌/◌, ◌%◌, Bool, true, false, cond, ◌&&◌, List, [], ◌∷◌, eqb, ltb, get_or, Err, Ok, Result}
use Prim.Native.Char.{code}
use Rattle.base.specs.Ascii.{ascii}
use Rattle.base.specs.Lists.{equal}
use Rattle.base.specs.Names.{is_name_start, is_name_part, is_name}
use Rattle.base.specs.Parts.{part}
use Rattle.syntax.specs.Strings.{quote, is_bare}
use Rattle.syntax.specs.Grammar.{round, square}
use Rattle.syntax.specs.Scan.{is_space, step_of}
use Rattle.syntax.specs.declared.StringStep.{StringStep}
use Rattle.place.specs.declared.Mode.{Mode}
use Rattle.place.specs.declared.Reached.{Reached}
use Rattle.place.specs.Machine.{Phase, at_item, in_name, after_not, after-name, in_operator, after_operator, at_value, in_bare, in-string, after_item, after-space, in_connective, after_square, at_member, in_member, Bracket, round_open, square-open, begins_operator, is_operator}
use Rattle.refusal.specs.declared.Reason.{Reason}

-- ---- the open brackets: a 1, then a 0 for a round one and a 1 for a square one, from the outermost to the innermost

unfoldable pub digits : List Bracket → ℕ
digits [] = 1
digits (round_open ∷ k) = 2 * digits k
digits (square-open ∷ k) = 2 * digits k + 1

-- eight digits behind the first: no bracket more may open
abbrev pub full : ℕ
full = 256

-- ---- the steps

-- what a byte comes to: the text may go on with it, or only beyond the limit on nesting (TooDeep), or beyond that on tests (TooMany), or not at all (NoFilter)
abbrev pub Outcome : Type 0
Outcome = Result Reached Reason

abbrev pub on : Mode → ℕ → ℕ → Outcome
on f k n = Ok (record { mode = f; brackets = k; tests = n })

abbrev pub opened : ℕ → ℕ → Outcome
opened k n = cond (ltb k full) (on Mode.Item (2 * k) n) (Err Reason.TooDeep)

abbrev pub chosen : ℕ → ℕ → Outcome
chosen k n = cond (ltb k full) (cond (ltb n 32) (on Mode.Item (2 * k + 1) (n + 1)) (Err Reason.TooMany)) (cond (ltb n 32) (Err Reason.TooDeep) (Err Reason.NoFilter))

abbrev pub closed_round : (b k n : ℕ) → Outcome
closed_round b k n = cond (eqb b round) (on Mode.AfterItem (k / 2) n) (Err Reason.NoFilter)

abbrev pub closed_square : (b k n : ℕ) → Outcome
closed_square b k n = cond (eqb b square) (on Mode.AfterSquare (k / 2) n) (Err Reason.NoFilter)

abbrev pub closed : (b k n : ℕ) → Outcome
closed b k n = cond (eqb k 1) (Err Reason.NoFilter) (cond (eqb (k % 2) 0) (closed_round b k n) (closed_square b k n))

abbrev pub joined : Mode → ℕ → ℕ → Outcome
joined f k n = cond (ltb n 32) (on f k (n + 1)) (Err Reason.TooMany)

abbrev pub ended : ℕ → ℕ → ℕ → Outcome
ended b k n = cond (is_space b) (on Mode.AfterSpace k n) (closed b k n)

abbrev pub item_step : ℕ → ℕ → ℕ → ℕ → Outcome
item_step b p k n =
    cond (is_space b) (on Mode.Item k n) (cond (eqb b (code "(")) (opened k n) (cond (is_name_start b) (on (Mode.Name p) k n) (Err Reason.NoFilter)))

abbrev pub not_step : ℕ → ℕ → ℕ → Outcome
not_step b k n = cond (is_space b) (cond (ltb k full) (on Mode.AfterNot k n) (Err Reason.TooDeep)) (cond (eqb b (code "(")) (opened k n) (Err Reason.NoFilter))

abbrev pub name_ends : ℕ → ℕ → ℕ → Outcome
name_ends b k n = cond (is_space b) (on Mode.AfterName k n) (cond (eqb b (code "[")) (chosen k n) (Err Reason.NoFilter))

abbrev pub name_step : List ℕ → ℕ → ℕ → ℕ → ℕ → Outcome
name_step xs from p k n =
    cond (is_name_part (get_or xs p 0)) (on (Mode.Name from) k n)
    (cond (is_name (part xs from p)) (name_ends (get_or xs p 0) k n)
    (cond (equal (part xs from p) (ascii "not")) (not_step (get_or xs p 0) k n) (Err Reason.NoFilter)))

abbrev pub member_step : List ℕ → ℕ → ℕ → ℕ → ℕ → Outcome
member_step xs from p k n =
    cond (is_name_part (get_or xs p 0)) (on (Mode.MemberName from) k n)
    (cond (is_name (part xs from p)) (cond (is_space (get_or xs p 0)) (on Mode.AfterName k n) (Err Reason.NoFilter)) (Err Reason.NoFilter))

abbrev pub member_start : ℕ → ℕ → ℕ → ℕ → Outcome
member_start b p k n = cond (is_name_start b) (on (Mode.MemberName p) k n) (Err Reason.NoFilter)

abbrev pub after_name : ℕ → ℕ → ℕ → Outcome
after_name b k n = cond (is_space b) (on Mode.AfterName k n) (cond (begins_operator b) (on (Mode.Letter b) k n) (Err Reason.NoFilter))

abbrev pub letter : ℕ → ℕ → ℕ → ℕ → Outcome
letter x b k n = cond (is_operator (x ∷ b ∷ [])) (on Mode.AfterOperator k n) (Err Reason.NoFilter)

abbrev pub value_step : ℕ → ℕ → ℕ → Outcome
value_step b k n = cond (is_space b) (on Mode.Value k n) (cond (eqb b quote) (on (Mode.Quoted false) k n) (cond (is_bare b) (on Mode.Bare k n) (Err Reason.NoFilter)))

abbrev pub bare_step : ℕ → ℕ → ℕ → Outcome
bare_step b k n = cond (is_bare b) (on Mode.Bare k n) (ended b k n)

abbrev pub on_quoted : ℕ → ℕ → StringStep → Outcome
on_quoted k n (StringStep.More pending) = on (Mode.Quoted pending) k n
on_quoted k n StringStep.Close = on Mode.AfterItem k n
on_quoted k n StringStep.Wrong = (Err Reason.NoFilter)

abbrev pub quoted : Bool → ℕ → ℕ → ℕ → Outcome
quoted pending b k n = on_quoted k n (step_of pending b)

abbrev pub after_space : ℕ → ℕ → ℕ → Outcome
after_space b k n =
    cond (is_space b) (on Mode.AfterSpace k n)
    (cond (eqb b (code "a")) (joined Mode.AfterA k n)
    (cond (eqb b (code "o")) (joined Mode.AfterO k n) (closed b k n)))

abbrev pub expect : ℕ → Mode → ℕ → ℕ → ℕ → Outcome
expect want f b k n = cond (eqb b want) (on f k n) (Err Reason.NoFilter)

abbrev pub by_mode : List ℕ → ℕ → Mode → ℕ → ℕ → Outcome
by_mode xs p Mode.Item k n = item_step (get_or xs p 0) p k n
by_mode xs p (Mode.Name from) k n = name_step xs from p k n
by_mode xs p Mode.AfterNot k n = not_step (get_or xs p 0) k n
by_mode xs p Mode.AfterName k n = after_name (get_or xs p 0) k n
by_mode xs p (Mode.Letter x) k n = letter x (get_or xs p 0) k n
by_mode xs p Mode.AfterOperator k n = expect 0x20 Mode.Value (get_or xs p 0) k n
by_mode xs p Mode.Value k n = value_step (get_or xs p 0) k n
by_mode xs p Mode.Bare k n = bare_step (get_or xs p 0) k n
by_mode xs p (Mode.Quoted pending) k n = quoted pending (get_or xs p 0) k n
by_mode xs p Mode.AfterItem k n = ended (get_or xs p 0) k n
by_mode xs p Mode.AfterSpace k n = after_space (get_or xs p 0) k n
by_mode xs p Mode.AfterA k n = expect (code "n") Mode.AfterAn (get_or xs p 0) k n
by_mode xs p Mode.AfterAn k n = expect (code "d") Mode.WantsSpace (get_or xs p 0) k n
by_mode xs p Mode.AfterO k n = expect (code "r") Mode.WantsSpace (get_or xs p 0) k n
by_mode xs p Mode.WantsSpace k n = expect 0x20 Mode.Item (get_or xs p 0) k n
by_mode xs p Mode.AfterSquare k n = expect (code ".") Mode.Member (get_or xs p 0) k n
by_mode xs p Mode.Member k n = member_start (get_or xs p 0) p k n
by_mode xs p (Mode.MemberName from) k n = member_step xs from p k n

unfoldable pub advance : List ℕ → ℕ → Reached → Outcome
advance xs p r = by_mode xs p r.mode r.brackets r.tests

-- where the name begins that is being read
abbrev pub name_from : Mode → ℕ
name_from Mode.Item = 0
name_from (Mode.Name from) = from
name_from Mode.AfterNot = 0
name_from Mode.AfterName = 0
name_from (Mode.Letter x) = 0
name_from Mode.AfterOperator = 0
name_from Mode.Value = 0
name_from Mode.Bare = 0
name_from (Mode.Quoted pending) = 0
name_from Mode.AfterItem = 0
name_from Mode.AfterSpace = 0
name_from Mode.AfterA = 0
name_from Mode.AfterAn = 0
name_from Mode.AfterO = 0
name_from Mode.WantsSpace = 0
name_from Mode.AfterSquare = 0
name_from Mode.Member = 0
name_from (Mode.MemberName from) = from

-- the phase that a mode stands for
abbrev pub phase_of : List ℕ → ℕ → Mode → Phase
phase_of xs p Mode.Item = at_item
phase_of xs p (Mode.Name from) = in_name (part xs from p)
phase_of xs p Mode.AfterNot = after_not
phase_of xs p Mode.AfterName = after-name
phase_of xs p (Mode.Letter x) = in_operator x
phase_of xs p Mode.AfterOperator = after_operator
phase_of xs p Mode.Value = at_value
phase_of xs p Mode.Bare = in_bare
phase_of xs p (Mode.Quoted pending) = in-string pending
phase_of xs p Mode.AfterItem = after_item
phase_of xs p Mode.AfterSpace = after-space
phase_of xs p Mode.AfterA = in_connective (ascii "nd ")
phase_of xs p Mode.AfterAn = in_connective (ascii "d ")
phase_of xs p Mode.AfterO = in_connective (ascii "r ")
phase_of xs p Mode.WantsSpace = in_connective (ascii " ")
phase_of xs p Mode.AfterSquare = after_square
phase_of xs p Mode.Member = at_member
phase_of xs p (Mode.MemberName from) = in_member (part xs from p)

-- ---- the end of the text

abbrev pub item_over : Mode → Bool
item_over Mode.Item = false
item_over (Mode.Name from) = false
item_over Mode.AfterNot = false
item_over Mode.AfterName = false
item_over (Mode.Letter x) = false
item_over Mode.AfterOperator = false
item_over Mode.Value = false
item_over Mode.Bare = true
item_over (Mode.Quoted pending) = false
item_over Mode.AfterItem = true
item_over Mode.AfterSpace = true
item_over Mode.AfterA = false
item_over Mode.AfterAn = false
item_over Mode.AfterO = false
item_over Mode.WantsSpace = false
item_over Mode.AfterSquare = false
item_over Mode.Member = false
item_over (Mode.MemberName from) = false

-- an item has ended, and no bracket is open
unfoldable pub over : Reached → Bool
over r = item_over r.mode && eqb r.brackets 1
