-- Loops over a card's entries: what an entry at hand decides, and what is left to the entries to come.
-- Assumes nothing.
use Rattle.std.specs.Prelude.{Option, None, Some, MatchOption}
use denote.Bor.{Bor}
use native.Mathlib.Omega.{arith}
use Rattle.std.specs.Slice.{IsItemAt}
use Prim.Native.Nat.{ℕ, ◌≤◌}
use mathlib.Core.Path.{◌≡◌, refl, sym, ap, ◌∙◌}
use mathlib.Core.Bool.{Bool, true, false, ◌&&◌, ◌||◌}
use mathlib.Core.List.{List, [], ◌∷◌}
use lib.Dec.{eqb}
use lib.ListN.{length, get_or, get_or-eq_default}
use Rattle.std.specs.List.{list_all, list_any}
use Rattle.base.proofs.Tests.{cond-elim}
use Rattle.card.specs.Card.{Entry, entry}
use Rattle.kind.specs.Readable.{card_readable}
use Rattle.kind.specs.Table as table
use Rattle.judge.specs.Sets.{Chosen, values_at, counts, chosen_of, conforms_to, keep}
use Rattle.judge.specs.Verdicts.{some_value}

-- ---- conforming

-- 0 is no kind
none_readable : (t : List ℕ) → false ≡ card_readable 0 t
unfolding card_readable table.of_kind table.kinds
none_readable t = refl

pub past_readable : (kinds : List ℕ) (i : ℕ) (t : List ℕ) → length kinds ≤ i → false ≡ card_readable (get_or kinds i 0) t
past_readable kinds i t h = rw (get_or-eq_default kinds 0 {n = i} h) (none_readable t)

-- what is said of a table's byte at an index, which it may not have
pub conforms_at : (kinds : List ℕ) (i : ℕ) (t : List ℕ) (g : Option (Bor ℕ)) (r : Bool) (Q : Bor ℕ → Type 0) → IsItemAt kinds i g → MatchOption g (r ≡ false) Q → ((x : Bor ℕ) → Q x → r ≡ card_readable x.now t) → r ≡ card_readable (get_or kinds i 0) t
conforms_at kinds i t (Some x) r Q h e q = q x e ∙ ap (λ (k : ℕ). card_readable k t) (grind arith)
conforms_at kinds i t None r Q h e q = e ∙ past_readable kinds i t (grind arith)

pub conforms_all : (kinds : List ℕ) (es : List Entry) → list_all (λ (e : Entry). card_readable (get_or kinds e.index 0) e.text) es ≡ conforms_to kinds es
unfolding conforms_to
conforms_all kinds [] = refl
conforms_all kinds (e ∷ es) = ap (λ (b : Bool). card_readable (get_or kinds e.index 0) e.text && b) (conforms_all kinds es)

module _ (kinds : List ℕ) (i o : ℕ) (t : List ℕ) (es : List Entry) (r : Bool) (e : r ≡ card_readable (get_or kinds i 0) t) where
  pub conforms-next : r ≡ true → conforms_to kinds (entry i o t ∷ es) ≡ conforms_to kinds es
  unfolding conforms_to
  conforms-next h = rw (sym e ∙ h)

  pub conforms_not : r ≡ false → false ≡ conforms_to kinds (entry i o t ∷ es)
  unfolding conforms_to
  conforms_not h = rw (sym e ∙ h)

pub conforms_end : (kinds : List ℕ) → true ≡ conforms_to kinds []
unfolding conforms_to
conforms_end kinds = refl

-- ---- entries that count

-- all entries of a card
abbrev pub every : Chosen
every = None

pub chosen-every : (es : List Entry) → chosen_of every es ≡ es
unfolding chosen_of keep
chosen-every [] = refl
chosen-every (e ∷ es) = ap (λ (l : List Entry). e ∷ l) (chosen-every es)

-- ---- whether some text passes a test

module _ (test : List ℕ → Bool) (i : ℕ) where
  pub value_any : (es : List Entry) → list_any (λ (e : Entry). eqb e.index i && test e.text) es ≡ some_value test (values_at i es)
  unfolding values_at some_value
  value_any [] = refl
  value_any (e ∷ es) =
      cond-elim (λ (vs : List (List ℕ)). ((eqb e.index i && test e.text) || list_any (λ (e : Entry). eqb e.index i && test e.text) es) ≡ some_value test vs) (eqb e.index i)
      (λ t. rw t (ap (λ (b : Bool). test e.text || b) (value_any es))) (λ f. rw f (value_any es))

  pub chosen_any : (c : Chosen) (es : List Entry) → list_any (λ (e : Entry). (counts c e.occurrence && eqb e.index i) && test e.text) es ≡ some_value test (values_at i (chosen_of c es))
  unfolding chosen_of keep values_at some_value
  chosen_any c [] = refl
  chosen_any c (e ∷ es) = go (counts c e.occurrence) (eqb e.index i) refl refl (chosen_any c es)
    where
      go : (u w : Bool) → counts c e.occurrence ≡ u → eqb e.index i ≡ w → list_any (λ (x : Entry). (counts c x.occurrence && eqb x.index i) && test x.text) es ≡ some_value test (values_at i (chosen_of c es))
          → list_any (λ (x : Entry). (counts c x.occurrence && eqb x.index i) && test x.text) (e ∷ es) ≡ some_value test (values_at i (chosen_of c (e ∷ es)))
      go true true p q again = rw (p, q) (ap (λ (b : Bool). test e.text || b) again)
      go true false p q again = rw (p, q) again
      go false w p q again = rw p again
