-- What the reader finds at a position of the text: spaces, words, values, tests, connectives, brackets.
-- Assumes nothing.
use Rattle.std.specs.Prelude.{ℕ, suc, ◌+◌, ◌≤◌, ◌≡◌, Bool, true, false, cond, ◌||◌, List, [], ◌∷◌, eqb, leb, ltb, length, get_or, take, drop, Option, Some, None}
use Rattle.base.specs.Ascii.{ascii}
use Rattle.base.specs.Lists.{equal}
use Rattle.base.specs.Names.{is_name_part, is_name}
use Rattle.base.specs.Parts.{part}
use Rattle.base.specs.Affixes.{has_prefix}
use Rattle.base.specs.Runs.{run_end}
use Rattle.base.specs.Operators.{operator_words}
use Rattle.syntax.specs.Strings.{quote, backslash, is_bare, is_escape, unescaped}
use Rattle.syntax.specs.Tree.{Test, name}
use Rattle.syntax.specs.Grammar.{square}
use Rattle.syntax.specs.declared.StringStep.{StringStep}
use Rattle.syntax.specs.declared.StringEnd.{StringEnd}
use Rattle.syntax.specs.declared.RawValue.{RawValue}
use Rattle.syntax.specs.declared.RawTest.{RawTest}
use Rattle.syntax.specs.declared.Head.{Head}
use Rattle.syntax.specs.declared.Connective.{Connective}
use Rattle.syntax.specs.declared.Link.{Link}

-- ---- spaces and words

-- "only the byte 0x20 is a space"
abbrev pub is_space : ℕ → Bool
is_space b = eqb b 0x20

-- the first position from p on where no space stands
abbrev pub skip_at : List ℕ → ℕ → ℕ
skip_at xs p = run_end is_space xs p

-- the word stands at p
abbrev pub has : List ℕ → ℕ → List ℕ → Bool
has xs p word = has_prefix (drop p xs) word

-- ---- values

-- what a byte does in a string, where pending says that a backslash stands before it
unfoldable pub step_of : Bool → ℕ → StringStep
step_of true b = cond (is_escape b) (StringStep.More false) StringStep.Wrong
step_of false b =
    cond (eqb b quote) StringStep.Close
    (cond (eqb b backslash) (StringStep.More true)
    (cond (leb 0x20 b) (StringStep.More false) StringStep.Wrong))

-- where a string's closing quote stands, and whether an escape was met
abbrev pub string_end : ℕ → Bool → StringEnd
string_end e escaped = record { end = e; escaped = escaped }

-- goes on behind a byte of a string, or ends there
abbrev pub on_step : StringStep → (Bool → Option StringEnd) → ℕ → Bool → Option StringEnd
on_step (StringStep.More pending) next p escaped = next pending
on_step StringStep.Close next p escaped = Some (string_end p escaped)
on_step StringStep.Wrong next p escaped = None

-- the closing quote of a string of which the bytes from p on are given; escaped says that an escape came before
unfoldable pub string_from : List ℕ → Bool → Bool → ℕ → Option StringEnd
string_from [] pending escaped p = None
string_from (y ∷ ys) pending escaped p = on_step (step_of pending y) (λ k. string_from ys k (escaped || k) (p + 1)) p escaped

-- the same from the position p of the text
unfoldable pub string_at : List ℕ → Bool → Bool → ℕ → Option StringEnd
string_at xs pending escaped p = string_from (drop p xs) pending escaped p

-- the string whose opening quote stands at p
abbrev pub string_value : ℕ → Option StringEnd → Option RawValue
string_value p (Some s) = Some (record { start = p + 1; end = s.end; escaped = s.escaped; next = s.end + 1 })
string_value p None = None

-- the bare word from p up to e
abbrev pub bare_value : ℕ → ℕ → Option RawValue
bare_value p e = Some (record { start = p; end = e; escaped = false; next = e })

-- the value that begins at p: a string with its closing quote, or a bare word as long as it goes
unfoldable pub value_at : List ℕ → ℕ → Option RawValue
value_at xs p =
    cond (ltb p (length xs))
    (cond (eqb (get_or xs p 0) quote) (string_value p (string_at xs false false (p + 1)))
    (cond (is_bare (get_or xs p 0)) (bare_value p (run_end is_bare xs p)) None))
    None

-- what a byte between the quotes adds to the value
unfoldable pub piece_of : Bool → ℕ → Option ℕ
piece_of true b = Some (unescaped b)
piece_of false b = cond (eqb b backslash) None (Some b)

-- the bytes between the quotes with each escape resolved, where pending says that a backslash came before
unfoldable pub decode : Bool → List ℕ → List ℕ
decode pending [] = []
decode true (x ∷ xs) = unescaped x ∷ decode false xs
decode false (x ∷ xs) = cond (eqb x backslash) (decode true xs) (x ∷ decode false xs)

-- what `decode` leaves: the first r bytes of out are the decoded ones
pub record Decoded (raw out : List ℕ) (r : ℕ) : Type 0 where
  pub is : take r out ≡ decode false raw
  pub few : r ≤ length raw

-- the bytes that a value decodes to, from those that stand in the text
abbrev pub contents : Bool → List ℕ → List ℕ
contents true raw = decode false raw
contents false raw = raw

-- "a space, a ")" or the end"
unfoldable pub follows : ℕ → List ℕ → Bool
follows close [] = true
follows close (x ∷ xs) = eqb x 0x20 || eqb x close

-- ---- tests

-- the word's number among the words from the k-th on
unfoldable pub find_operator : ℕ → List (List ℕ) → List ℕ → Option ℕ
find_operator k [] w = None
find_operator k (u ∷ us) w = cond (equal w u) (Some k) (find_operator (suc k) us w)

unfoldable pub operator_at : List ℕ → ℕ → Option ℕ
operator_at xs p = find_operator 0 operator_words (take 2 (drop p xs))

abbrev pub with_operator : Option ℕ → (ℕ → Option RawTest) → Option RawTest
with_operator (Some k) next = next k
with_operator None next = None

abbrev pub with_value : Option RawValue → (RawValue → Option RawTest) → Option RawTest
with_value (Some v) next = next v
with_value None next = None

-- a test at p whose name ends at e and whose operator k ends at o: the value, with spaces before it
unfoldable pub test_value : List ℕ → ℕ → (p e k o : ℕ) → Option RawTest
test_value xs close p e k o =
    cond (eqb (skip_at xs o) o) None
    (with_value (value_at xs (skip_at xs o)) λ v.
    cond (follows close (drop v.next xs)) (Some (record { at = p; until = e; operator = k; value = v })) None)

-- a test at p whose name ends at e: the operator, with spaces before it, and the rest
unfoldable pub test_operator : List ℕ → ℕ → (p e : ℕ) → Option RawTest
test_operator xs close p e =
    cond (eqb (skip_at xs e) e) None
    (with_operator (operator_at xs (skip_at xs e)) λ k. test_value xs close p e k (skip_at xs e + 2))

-- where the name bytes from p on end
abbrev pub name_end : List ℕ → ℕ → ℕ
name_end xs p = run_end is_name_part xs p

unfoldable pub test_at : List ℕ → ℕ → ℕ → Option RawTest
test_at xs close p = cond (is_name (part xs p (name_end xs p))) (test_operator xs close p (name_end xs p)) None

-- the test that stands in the text
abbrev pub test_of : List ℕ → RawTest → Test
test_of xs r =
    record {
      at = r.at;
      path = name (part xs r.at r.until);
      operator = r.operator;
      value = contents r.value.escaped (part xs r.value.start r.value.end);
    }

-- ---- brackets and connectives

unfoldable pub open_at : List ℕ → ℕ → Option Head
open_at xs p =
    cond (has xs p (ascii "(")) (Some (Head.Open (skip_at xs (p + 1)) false))
    (cond (has xs p (ascii "not"))
    (cond (has xs (skip_at xs (p + 3)) (ascii "(")) (Some (Head.Open (skip_at xs (skip_at xs (p + 3) + 1)) true)) None)
    None)

abbrev pub test_or : Option RawTest → Option Head → Option Head
test_or (Some r) other = Some (Head.Test r)
test_or None other = other

-- a name and "[" at p
unfoldable pub choice_at : List ℕ → ℕ → Option ℕ
choice_at xs p =
    cond (is_name (part xs p (name_end xs p)))
    (cond (has xs (name_end xs p) (ascii "[")) (Some (name_end xs p)) None)
    None

abbrev pub choice_or : Option ℕ → Option Head → Option Head
choice_or (Some e) other = Some (Head.Choice e)
choice_or None other = other

-- what an item begins with
unfoldable pub head_at : List ℕ → ℕ → ℕ → Option Head
head_at xs close p = test_or (test_at xs close p) (choice_or (choice_at xs p) (open_at xs p))

-- the test among what an item may begin with
abbrev pub test_in : Option Head → Option RawTest
test_in (Some (Head.Test r)) = Some r
test_in (Some (Head.Open q negated)) = None
test_in (Some (Head.Choice e)) = None
test_in None = None

-- "." and a member's test at p, after the bracket
unfoldable pub member_at : List ℕ → ℕ → ℕ → Option RawTest
member_at xs close p = cond (has xs p (ascii ".")) (test_at xs close (p + 1)) None

-- where the item after a connective begins, and the connective
abbrev pub link : ℕ → Connective → Link
link q c = record { next = q; connective = c }

unfoldable pub connective_at : List ℕ → ℕ → Option Link
connective_at xs p =
    cond (eqb (skip_at xs p) p) None
    (cond (has xs (skip_at xs p) (ascii "and ")) (Some (link (skip_at xs (skip_at xs p + 4)) Connective.And))
    (cond (has xs (skip_at xs p) (ascii "or ")) (Some (link (skip_at xs (skip_at xs p + 3)) Connective.Or))
    None))

unfoldable pub close_at : List ℕ → ℕ → ℕ → Option ℕ
close_at xs close p = cond (has xs (skip_at xs p) (close ∷ [])) (Some (skip_at xs p + 1)) None

-- the member's test after a filter in square brackets that ends at p
abbrev pub after_close : List ℕ → ℕ → Option ℕ → Option RawTest
after_close xs close (Some m) = member_at xs close m
after_close xs close None = None

unfoldable pub member_after : List ℕ → (close p : ℕ) → Option RawTest
member_after xs close p = after_close xs close (close_at xs square p)
