-- The decision, as the code makes it: over the operator and the kind that the numbers name, and where they name none.
-- Assumes nothing.
use Prim.Native.Nat.{ℕ}
use mathlib.Core.Path.{◌≡◌, refl, sym, ◌∙◌}
use mathlib.Core.Bool.{Bool, true, false, cond}
use mathlib.Core.List.{List, [], ◌∷◌}
use lib.Dec.{eqb}
use borrow.Author.Tests.{eq-eqb, ne_eqb}
use Rattle.std.specs.Prelude.{None}
use Rattle.base.specs.Kinds.{kind_number, string, number, date, token, reference, period}
use Rattle.base.specs.Lists.{All, all_empty, all_cons}
use Rattle.base.specs.Operators.{pr, ne, operator_number}
use Rattle.base.specs.declared.kind.Kind.TheVariants as named
use Rattle.base.specs.declared.kind.Kind.{Kind as Named}
use Rattle.base.specs.declared.operator.Operator.{Operator}
use Rattle.base.specs.declared.operator.Operator.TheVariants as operators
use Rattle.kind.specs.Table.{RowEntry, string_row, number_row, date_row, token_row, reference_row, Kind, kinds, of_kind, row, relation_in, row_meaning, meaning_of}
use Rattle.kind.specs.declared.Meaning.{Meaning}
use Rattle.kind.specs.declared.Meaning.TheVariants.{Present, Nothing}
use Rattle.kind.proofs.Rules.{by_kind}

-- ---- a number that is no kind's

module _ (kind : ℕ) (n : (x : Named) → kind_number x ≡ kind → ⊥) where
  -- it is in no column of the table
  pub no_column : {A : Type 0} (other : A) (f : Kind → A) → of_kind other f kinds kind ≡ other
  unfolding of_kind kinds
  no_column other f =
      rw (
        ne_eqb kind string (λ e. n named.String (sym e)),
        ne_eqb kind number (λ e. n named.Number (sym e)),
        ne_eqb kind date (λ e. n named.Date (sym e)),
        ne_eqb kind token (λ e. n named.Token (sym e)),
        ne_eqb kind reference (λ e. n named.Reference (sym e)),
        ne_eqb kind period (λ e. n named.Period (sym e)),
      )

-- ---- a number that is no operator's

-- an operator of a row has a name
abbrev HasName : RowEntry → Type 0
HasName u = (x : Operator) × (operator_number x ≡ u.operator)

dates_named : All HasName date_row
unfolding date_row
dates_named =
    all_cons (operators.Eq, refl) (all_cons (operators.Gt, refl) (all_cons (operators.Lt, refl) (all_cons (operators.Ge, refl) (all_cons (operators.Le, refl)
    (all_cons (operators.Sa, refl) (all_cons (operators.Eb, refl) (all_cons (operators.Po, refl) (all_cons (operators.Co, refl) all_empty))))))))

row_named : (kind : ℕ) → All HasName (row kind)
unfolding row kinds string_row number_row token_row reference_row
row_named =
    by_kind (λ k us. All HasName us) [] (λ x. x.operators) (λ k. all_empty) kinds
    (all_cons (all_cons (operators.Eq, refl) (all_cons (operators.Co, refl) (all_cons (operators.Sw, refl) (all_cons (operators.Ew, refl) all_empty))))
    (all_cons (all_cons (operators.Eq, refl) (all_cons (operators.Gt, refl) (all_cons (operators.Lt, refl) (all_cons (operators.Ge, refl) (all_cons (operators.Le, refl) (all_cons (operators.Co, refl) all_empty))))))
    (all_cons dates_named
    (all_cons (all_cons (operators.Eq, refl) all_empty)
    (all_cons (all_cons (operators.Re, refl) all_empty)
    (all_cons dates_named all_empty))))))

module _ (k : ℕ) (n : (x : Operator) → operator_number x ≡ k → ⊥) where
  not_in : (us : List RowEntry) → All HasName us → relation_in us k ≡ None
  unfolding relation_in
  not_in [] all_empty = refl
  not_in (u ∷ us) (all_cons h all) = rw (ne_eqb k u.operator (λ e. n h.0 (h.1 ∙ sym e))) (not_in us all)

  pub no_operator : (kind : ℕ) → Nothing ≡ meaning_of k kind
  unfolding meaning_of row_meaning
  no_operator kind = rw (ne_eqb k pr (λ e. n operators.Pr (sym e)), ne_eqb k ne (λ e. n operators.Ne (sym e)), not_in (row kind) (row_named kind))

-- ---- the decision

-- what has no row has no operators
pub no_row : (k : ℕ) → Nothing ≡ row_meaning [] k
unfolding row_meaning relation_in
no_row k = either_way (eqb k ne) Nothing
  where
    either_way : (b : Bool) (m : Meaning) → m ≡ cond b m m
    either_way true m = refl
    either_way false m = refl

module _ (k kind : ℕ) where
  pub present : k ≡ pr → Present ≡ meaning_of k kind
  unfolding meaning_of
  present e = rw (eq-eqb k pr e)

  module _ (n : k ≡ pr → ⊥) where
    pub of_row : (o i : ℕ) (m : Meaning) → m ≡ row_meaning (row i) o → o ≡ k → i ≡ kind → m ≡ meaning_of k kind
    unfolding meaning_of
    of_row o i m h e f = rw (ne_eqb k pr n, sym e, sym f) h

    pub no_kind : ((y : Named) → kind_number y ≡ kind → ⊥) → Nothing ≡ meaning_of k kind
    unfolding meaning_of row
    no_kind h = rw (ne_eqb k pr n, no_column kind h [] (λ (x : Kind). x.operators)) (no_row k)
