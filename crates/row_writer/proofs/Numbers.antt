-- The number of a test of the text: where its value begins is told from where it stands.
-- Assumes nothing.
use Rattle.std.specs.Prelude.{Option, Some, None}
use Prim.Native.Nat.{ℕ, ◌+◌, ◌*◌, ◌-◌, ◌≤◌}
use native.Mathlib.Omega.{arith}
use mathlib.Core.Path.{◌≡◌, refl, sym, ap, ◌∙◌}
use mathlib.Core.Bool.{false, cond}
use mathlib.Core.List.{List}
use lib.Dec.{eqb, ltb}
use lib.ListN.{length, get_or, drop}
use Rattle.base.specs.Ascii.{ascii}
use Rattle.base.specs.Names.{is_name}
use Rattle.base.specs.Parts.{part}
use Rattle.base.proofs.Tests.{cond-elim}
use Rattle.sheet.specs.Sheet.{Parameter}
use Rattle.sheet.specs.declared.Found.{Found}
use Rattle.syntax.specs.Strings.{quote, is_bare}
use Rattle.syntax.specs.Scan.{skip_at, has, follows, operator_at, with_operator, with_value, string_at, string_value, value_at, test_value, test_operator, name_end, test_at}
use Rattle.syntax.specs.Scan.{test_of, head_at, test_or, choice_at, choice_or, open_at, member_at, after_close, member_after, close_at}
use Rattle.syntax.specs.Grammar.{square}
use Rattle.syntax.specs.declared.StringEnd.{StringEnd}
use Rattle.syntax.specs.declared.RawTest.{RawTest}
use Rattle.syntax.specs.declared.Head.{Head}
use Rattle.syntax.specs.declared.RawValue.{RawValue}
use Rattle.syntax.proofs.Structure.{OpenDerived, open_derived}
use Rattle.judge.specs.Sets.{lookup}
use Rattle.rows.specs.Cells.{number_of}
use Rattle.row_writer.specs.Writing.{value_place, index_of, probe_for, Read}

-- ---- where a value begins

abbrev Begins : ℕ → Option RawValue → Type 0
Begins p (Some v) = (v.end ≤ v.next) × ((v.next - v.end ≤ v.start) × (v.start - (v.next - v.end) ≡ p))
Begins p None = Unit {0}

string_begins : (p : ℕ) (f : Option StringEnd) → Begins p (string_value p f)
string_begins p (Some s) = (omega arith, (omega arith, omega arith))
string_begins p None = tt

value_begins : (xs : List ℕ) (p : ℕ) → Begins p (value_at xs p)
unfolding value_at
value_begins xs p =
    cond-elim (Begins p) (ltb p (length xs))
    (λ i. cond-elim (Begins p) (eqb (get_or xs p 0) quote) (λ q. string_begins p (string_at xs false false (p + 1)))
    (λ q. cond-elim (Begins p) (is_bare (get_or xs p 0)) (λ b. (omega arith, (omega arith, omega arith))) (λ b. tt)))
    (λ i. tt)

module _ (xs : List ℕ) (t : RawTest) (r : Read xs t) where
  begins : (t.value.end ≤ t.value.next) × ((t.value.next - t.value.end ≤ t.value.start) × (t.value.start - (t.value.next - t.value.end) ≡ value_place xs t.at))
  begins = rw r.found at (value_begins xs (value_place xs t.at))

  pub read-ends : t.value.end ≤ t.value.next
  read-ends = begins.0

  pub read_quotes : t.value.next - t.value.end ≤ t.value.start
  read_quotes = begins.1.0

  pub read_place : t.value.start - (t.value.next - t.value.end) ≡ value_place xs t.at
  read_place = begins.1.1

-- ---- a test that was read

abbrev ReadIn : List ℕ → Option RawTest → Type 0
ReadIn xs (Some t) = Read xs t
ReadIn xs None = Unit {0}

test_read : (xs : List ℕ) (close p : ℕ) → ReadIn xs (test_at xs close p)
unfolding test_at test_operator test_value
test_read xs close p =
    let e : ℕ = name_end xs p in
    cond-elim (ReadIn xs) (is_name (part xs p e))
    (λ n. cond-elim (ReadIn xs) (eqb (skip_at xs e) e) (λ f. tt) (λ f. by_operator (operator_at xs (skip_at xs e)))) (λ n. tt)
  where
    by_value : (k : ℕ) (f : Option RawValue) → value_at xs (value_place xs p) ≡ f
        → ReadIn xs (with_value f λ v. cond (follows close (drop v.next xs)) (Some (record { at = p; until = name_end xs p; operator = k; value = v })) None)
    by_value k (Some v) i = cond-elim (ReadIn xs) (follows close (drop v.next xs)) (λ f. record { found = i }) (λ f. tt)
    by_value k None i = tt

    by_operator : (f : Option ℕ) → ReadIn xs (with_operator f λ k. test_value xs close p (name_end xs p) k (skip_at xs (name_end xs p) + 2))
    by_operator (Some k) =
        cond-elim (ReadIn xs) (eqb (value_place xs p) (skip_at xs (name_end xs p) + 2)) (λ f. tt) (λ f. by_value k (value_at xs (value_place xs p)) refl)
    by_operator None = tt

pub found-read : (xs : List ℕ) (close p : ℕ) (t : RawTest) → test_at xs close p ≡ Some t → Read xs t
found-read xs close p t e = rw e at (test_read xs close p)

abbrev ReadFirst : List ℕ → Option Head → Type 0
ReadFirst xs (Some (Head.Test t)) = Read xs t
ReadFirst xs (Some (Head.Open q b)) = Unit {0}
ReadFirst xs (Some (Head.Choice e)) = Unit {0}
ReadFirst xs None = Unit {0}

-- an opening bracket begins with no test
open_first : (xs : List ℕ) (p : ℕ) → ReadFirst xs (open_at xs p)
open_first xs p = by_head (open_at xs p) (open_derived xs p)
  where
    by_head : (h : Option Head) → OpenDerived xs p h → ReadFirst xs h
    by_head (Some (Head.Test r)) o = absurd o
    by_head (Some (Head.Open q b)) o = tt
    by_head (Some (Head.Choice e)) o = tt
    by_head None o = tt

pub head_read : (xs : List ℕ) (close p : ℕ) (h : Option Head) (g : Head) (t : RawTest) → h ≡ head_at xs close p → h ≡ Some g → g ≡ Head.Test t → Read xs t
unfolding head_at
head_read xs close p h g t e o i = rw (sym e ∙ o ∙ ap Some i) at (or_else (test_at xs close p) (test_read xs close p))
  where
    choice : (c : Option ℕ) → ReadFirst xs (choice_or c (open_at xs p))
    choice (Some e) = tt
    choice None = open_first xs p

    or_else : (f : Option RawTest) → ReadIn xs f → ReadFirst xs (test_or f (choice_or (choice_at xs p) (open_at xs p)))
    or_else (Some r) s = s
    or_else None s = choice (choice_at xs p)

pub member-read : (xs : List ℕ) (close p : ℕ) (f : Option RawTest) (t : RawTest) → f ≡ member_after xs close p → f ≡ Some t → Read xs t
unfolding member_after member_at
member-read xs close p f t e i = rw (sym e ∙ i) at (by_close (close_at xs square p))
  where
    by_close : (c : Option ℕ) → ReadIn xs (after_close xs close c)
    by_close (Some m) = cond-elim (ReadIn xs) (has xs m (ascii ".")) (λ h. test_read xs close (m + 1)) (λ h. tt)
    by_close None = tt

-- ---- its number

pub number_is : (ps : List Parameter) (xs : List ℕ) (c : ℕ) (t : RawTest) (f : Option Found) (i p : ℕ) → f ≡ lookup ps c (test_of xs t).path → i ≡ index_of f → p ≡ value_place xs t.at
    → i + 32 * (t.operator + 32 * p) ≡ number_of (probe_for ps xs c (test_of xs t))
unfolding probe_for
number_is ps xs c t f i p e h k = rw (h, k, e)
