-- The machine that goes over a text byte by byte for as long as it begins a filter within the limits.
-- Assumes nothing.
use Rattle.std.specs.Prelude.{ℕ, suc, ◌+◌, Bool, true, false, cond, ◌||◌, List, [], ◌∷◌, ◌++◌, eqb, ltb, length, Err, Ok, Result, ⊤}
use Prim.Native.Char.{code}
use Rattle.base.specs.Ascii.{ascii}
use Rattle.base.specs.Lists.{equal, member}
use Rattle.base.specs.Names.{is_name_start, is_name_part, is_name}
use Rattle.base.specs.Operators.{operator_words}
use Rattle.syntax.specs.Strings.{quote, is_bare}
use Rattle.syntax.specs.Grammar.{round, square}
use Rattle.syntax.specs.Scan.{is_space, step_of}
use Rattle.syntax.specs.declared.StringStep.{StringStep}
use Rattle.refusal.specs.declared.Reason.{Reason}
use Rattle.refusal.specs.declared.Refusal.{Refusal}

-- what the bytes so far end in
pub data Phase : Type 0 where
  at_item : Phase  -- an item may begin here, after spaces
  in_name : List ℕ → Phase  -- these bytes of a name, or of not
  after_not : Phase  -- not and a space: only a bracket may come
  after-name : Phase  -- a name and a space
  in_operator : ℕ → Phase  -- an operator's first letter
  after_operator : Phase
  at_value : Phase  -- an operator and a space
  in_bare : Phase
  in-string : Bool → Phase  -- true behind a backslash
  after_item : Phase  -- a string or a round bracket has closed
  after-space : Phase  -- an item and a space
  in_connective : List ℕ → Phase  -- these bytes of the connective are to come, with the space after it
  after_square : Phase  -- a square bracket has closed: "." must come
  at_member : Phase  -- the name of a member must begin here
  in_member : List ℕ → Phase  -- these bytes of it

-- an open bracket
pub data Bracket : Type 0 where
  round_open square-open : Bracket

-- the byte that closes it, and what it then ends in
abbrev pub close_of : Bracket → ℕ
close_of round_open = round
close_of square-open = square

abbrev pub closed_phase : Bracket → Phase
closed_phase round_open = after_item
closed_phase square-open = after_square

-- a phase, the open brackets with the innermost first, and the tests begun or due
pub data State : Type 0 where
  state : Phase → List Bracket → ℕ → State

-- a filter may go on; or only with brackets deeper than the limit, or more tests than the limit; or not at all
pub data Progress : Type 0 where
  live : State → Progress
  deep : Progress
  many : Progress
  wrong : Progress

-- some word of the list passes
unfoldable pub some_word : (List ℕ → Bool) → List (List ℕ) → Bool
some_word p [] = false
some_word p (w ∷ ws) = p w || some_word p ws

-- the byte begins an operator
unfoldable pub begins_operator : ℕ → Bool
begins_operator b = member b (ascii "cegns") || member b (ascii "ailpr")

unfoldable pub is_operator : List ℕ → Bool
is_operator w = some_word (λ u. equal w u) operator_words

-- a round bracket opens
abbrev pub opened : (d : ℕ) → List Bracket → ℕ → Progress
opened d k n = cond (ltb (length k) d) (live (state at_item (round_open ∷ k) n)) deep

-- a square bracket opens: one test more is due, the first one in it; where both limits are met, neither alone is the reason
abbrev pub chosen : (d m : ℕ) → List Bracket → ℕ → Progress
chosen d m k n =
    cond (ltb (length k) d) (cond (ltb n m) (live (state at_item (square-open ∷ k) (suc n))) many) (cond (ltb n m) deep wrong)

-- a byte that may close the innermost bracket
abbrev pub closed : List Bracket → (n b : ℕ) → Progress
closed [] n b = wrong
closed (s ∷ k) n b = cond (eqb b (close_of s)) (live (state (closed_phase s) k n)) wrong

-- a connective begins, of which w is to come: one test more is due
abbrev pub joined : (m : ℕ) → List ℕ → List Bracket → ℕ → Progress
joined m w k n = cond (ltb n m) (live (state (in_connective w) k (suc n))) many

-- the byte after a value or a round bracket
abbrev pub ended : List Bracket → (n b : ℕ) → Progress
ended k n b = cond (is_space b) (live (state after-space k n)) (closed k n b)

abbrev pub in_string : List Bracket → ℕ → StringStep → Progress
in_string k n (StringStep.More pending) = live (state (in-string pending) k n)
in_string k n StringStep.Close = live (state after_item k n)
in_string k n StringStep.Wrong = wrong

-- the byte after a name
abbrev pub name_ends : (d m : ℕ) → List Bracket → (n b : ℕ) → Progress
name_ends d m k n b = cond (is_space b) (live (state after-name k n)) (cond (eqb b (code "[")) (chosen d m k n) wrong)

-- the byte after not, or after not and spaces: a bracket must come, so one must still be allowed
abbrev pub not_ends : (d : ℕ) → List Bracket → (n b : ℕ) → Progress
not_ends d k n b =
    cond (is_space b) (cond (ltb (length k) d) (live (state after_not k n)) deep) (cond (eqb b (code "(")) (opened d k n) wrong)

abbrev pub connective_left : List ℕ → Phase
connective_left [] = at_item
connective_left (x ∷ w) = in_connective (x ∷ w)

-- the machine's step on a byte, with brackets at most d deep and at most m tests
unfoldable pub step : (d m : ℕ) → State → ℕ → Progress
step d m (state at_item k n) b =
    cond (is_space b) (live (state at_item k n))
    (cond (eqb b (code "(")) (opened d k n)
    (cond (is_name_start b) (live (state (in_name (b ∷ [])) k n)) wrong))
step d m (state (in_name w) k n) b =
    cond (is_name_part b) (live (state (in_name (w ++ (b ∷ []))) k n))
    (cond (is_name w) (name_ends d m k n b)
    (cond (equal w (ascii "not")) (not_ends d k n b) wrong))
step d m (state after_not k n) b = not_ends d k n b
step d m (state after-name k n) b =
    cond (is_space b) (live (state after-name k n)) (cond (begins_operator b) (live (state (in_operator b) k n)) wrong)
step d m (state (in_operator x) k n) b = cond (is_operator (x ∷ b ∷ [])) (live (state after_operator k n)) wrong
step d m (state after_operator k n) b = cond (is_space b) (live (state at_value k n)) wrong
step d m (state at_value k n) b =
    cond (is_space b) (live (state at_value k n))
    (cond (eqb b quote) (live (state (in-string false) k n)) (cond (is_bare b) (live (state in_bare k n)) wrong))
step d m (state in_bare k n) b = cond (is_bare b) (live (state in_bare k n)) (ended k n b)
step d m (state (in-string pending) k n) b = in_string k n (step_of pending b)
step d m (state after_item k n) b = ended k n b
step d m (state after-space k n) b =
    cond (is_space b) (live (state after-space k n))
    (cond (eqb b (code "a")) (joined m (ascii "nd ") k n)
    (cond (eqb b (code "o")) (joined m (ascii "r ") k n) (closed k n b)))
step d m (state (in_connective []) k n) b = wrong
step d m (state (in_connective (x ∷ w)) k n) b = cond (eqb b x) (live (state (connective_left w) k n)) wrong
step d m (state after_square k n) b = cond (eqb b (code ".")) (live (state at_member k n)) wrong
step d m (state at_member k n) b = cond (is_name_start b) (live (state (in_member (b ∷ [])) k n)) wrong
step d m (state (in_member w) k n) b =
    cond (is_name_part b) (live (state (in_member (w ++ (b ∷ []))) k n))
    (cond (is_name w) (cond (is_space b) (live (state after-name k n)) wrong) wrong)

-- ---- where it fails

abbrev pub on_step : Progress → (State → Refusal) → ℕ → Refusal
on_step (live s) next p = next s
on_step deep next p = record { reason = Reason.TooDeep; place = p }
on_step many next p = record { reason = Reason.TooMany; place = p }
on_step wrong next p = record { reason = Reason.NoFilter; place = p }

-- from a state on, of the bytes from p on; at the end of a text no byte is wrong, and the text is too short
unfoldable pub failure_from : (d m : ℕ) → State → List ℕ → ℕ → Refusal
failure_from d m s [] p = record { reason = Reason.NoFilter; place = p }
failure_from d m s (y ∷ ys) p = on_step (step d m s y) (λ t. failure_from d m t ys (p + 1)) p

-- no bracket is open, and one test is due
abbrev pub start : State
start = state at_item [] 1

unfoldable pub failure : (d m : ℕ) → List ℕ → Refusal
failure d m xs = failure_from d m start xs 0

-- ---- whether the text is a filter

-- an item has ended, perhaps with a space
abbrev pub item_over : Phase → Bool
item_over at_item = false
item_over (in_name w) = false
item_over after_not = false
item_over after-name = false
item_over (in_operator x) = false
item_over after_operator = false
item_over at_value = false
item_over in_bare = true
item_over (in-string pending) = false
item_over after_item = true
item_over after-space = true
item_over (in_connective w) = false
item_over after_square = false
item_over at_member = false
item_over (in_member w) = false

-- and no bracket is open
abbrev pub over : State → Bool
over (state f [] n) = item_over f
over (state f (s ∷ k) n) = false

abbrev pub on_live : Progress → (State → Bool) → Bool
on_live (live s) next = next s
on_live deep next = false
on_live many next = false
on_live wrong next = false

-- the machine goes over all the bytes, and may end there
unfoldable pub ends_from : (d m : ℕ) → State → List ℕ → Bool
ends_from d m s [] = over s
ends_from d m s (y ∷ ys) = on_live (step d m s y) (λ t. ends_from d m t ys)

unfoldable pub is_filter : (d m : ℕ) → List ℕ → Bool
is_filter d m xs = ends_from d m start xs

-- a filter, or where the text fails to be one
unfoldable pub found : (d m : ℕ) → List ℕ → Result ⊤ Refusal
found d m xs = cond (is_filter d m xs) (Ok tt) (Err (failure d m xs))
