-- The fault and the verdict of a test, as the code decides them.
-- The definitions are nested choices, and there is a law for each way through the code, which rewrites the definition by the tests made on
-- that way. A value with escapes is judged by its decoded bytes (`value-escaped`), and one without by the bytes as they stand in the text
-- (`value-plain`). `says_some` brings every operator into one form, whether some text of a set counts: by it tests are judged. It is by
-- the cases of the meaning, and by induction on the set only where there is no meaning.
-- Assumes nothing.
use Rattle.std.specs.Prelude.{Result, ⊤, Option}
use Prim.Native.Nat.{ℕ}
use mathlib.Core.Path.{◌≡◌, refl, sym, ap₂, ◌∙◌}
use mathlib.Core.Bool.{Bool, true, false, cond, not, not-not}
use mathlib.Core.List.{List, [], ◌∷◌}
use lib.ListN.{take}
use borrow.Author.Tests.{ne_eqb}
use Rattle.base.specs.Lists.{member}
use Rattle.base.specs.Operators.{operator_number}
use Rattle.base.specs.declared.operator.Operator.{Operator}
use Rattle.base.specs.declared.operator.Operator.TheVariants as operators
use Rattle.sheet.specs.Sheet.{Parameter}
use Rattle.sheet.specs.Find.{find}
use Rattle.sheet.specs.declared.Found.{Found}
use Rattle.card.specs.Card.{Entry}
use Rattle.syntax.specs.Tree.{Path, name, Test, moved}
use Rattle.syntax.specs.Scan.{contents, Decoded, test_of}
use Rattle.syntax.specs.declared.RawTest.{RawTest}
use Rattle.kind.specs.Readable.{is_true}
use Rattle.kind.specs.declared.Meaning.{Meaning}
use Rattle.judge.specs.Faults.{unsupported, fault_at, test_fault}
use Rattle.judge.specs.Sets.{lookup}
use Rattle.judge.specs.Verdicts.{is_empty, some_value, text_counts, some_says, says_of, says_at, test_says}
use Rattle.refusal.specs.declared.Refusal.{Refusal}

-- ---- a number that is no operator's

pub no_operator : (k : ℕ) → ((x : Operator) → operator_number x ≡ k → ⊥) → false ≡ unsupported k
unfolding unsupported member
no_operator k n =
    rw (ne_eqb k 9 (λ e. n operators.Ap (sym e)), ne_eqb k 14 (λ e. n operators.Ss (sym e)), ne_eqb k 15 (λ e. n operators.Sb (sym e)), ne_eqb k 16 (λ e. n operators.In (sym e)), ne_eqb k 17 (λ e. n operators.Ni (sym e)))

-- ---- tests as they stand in the text

-- a value is the text's part, or what its escapes stand for
pub value-escaped : (b : Bool) (raw out : List ℕ) (n : ℕ) → Decoded raw out n → b ≡ true → take n out ≡ contents b raw
value-escaped b raw out n d e = rw e d.is

pub value-plain : (b : Bool) (raw : List ℕ) → b ≡ false → raw ≡ contents b raw
value-plain b raw e = rw e

module _ (ps : List Parameter) (c : ℕ) (t : Test) (f : Option Found) (g : f ≡ lookup ps c t.path) where
  pub fault_placed : (p o : ℕ) (d : Result ⊤ Refusal) → d ≡ fault_at f o t.value p → o ≡ t.operator → d ≡ test_fault ps c (moved p t)
  unfolding test_fault
  fault_placed p o d e h = e ∙ rw (g, h)

  pub says-placed : (o : ℕ) → o ≡ t.operator → (es : List Entry) (v : List ℕ) (b : Bool) → b ≡ says_at f o v es → t.value ≡ v → b ≡ test_says ps c es t
  unfolding test_says
  says-placed o i es v b e h = e ∙ rw (g, ← h, i)

-- ---- the test of a member

pub found_name : (ps : List Parameter) (c : ℕ) (n : List ℕ) (p : Path) (r : Option Found) → p ≡ name n → r ≡ find c n ps → r ≡ lookup ps c p
unfolding lookup
found_name ps c n p r i e = rw i e

-- what a test says is told by whether some text counts
pub says_some : (m : Meaning) (v : List ℕ) (set : List (List ℕ)) → says_of m v set ≡ some_says m (is_true v) (some_value (text_counts m v) set)
unfolding says_of some_says text_counts some_value is_empty
says_some Meaning.Present v set = go set
  where
    any_text_lem : (xs : List (List ℕ)) → some_value (text_counts Meaning.Present v) xs ≡ not (is_empty xs)
    any_text_lem [] = refl
    any_text_lem (x ∷ xs) = refl

    go : (set : List (List ℕ)) → cond (is_true v) (not (is_empty set)) (is_empty set) ≡ cond (is_true v) (some_value (text_counts Meaning.Present v) set) (not (some_value (text_counts Meaning.Present v) set))
    go set = rw (any_text_lem set, not-not (is_empty set))
says_some (Meaning.Relates r) v set = refl
says_some (Meaning.Differs r) v set = refl
says_some Meaning.Nothing v set = sym (never set)
  where
    never : (xs : List (List ℕ)) → some_value (text_counts Meaning.Nothing v) xs ≡ false
    never [] = refl
    never (x ∷ xs) = never xs

-- `says_of`
pub says_by_some : (m : Meaning) (v : List ℕ) (set : List (List ℕ)) (truth some r : Bool) → some ≡ some_value (text_counts m v) set → truth ≡ is_true v → r ≡ some_says m truth some → r ≡ says_of m v set
says_by_some m v set truth some r e f g = g ∙ ap₂ (some_says m) f e ∙ sym (says_some m v set)
