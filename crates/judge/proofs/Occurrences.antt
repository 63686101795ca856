-- The entries of one occurrence, among those of a card that count.
-- Assumes nothing.
use Rattle.std.specs.Prelude.{Some}
use Prim.Native.Nat.{ℕ}
use mathlib.Core.Path.{◌≡◌, refl, ap, ◌∙◌}
use mathlib.Core.Bool.{Bool, true, false}
use mathlib.Core.List.{List, [], ◌∷◌}
use lib.Dec.{eqb}
use borrow.Author.Tests.{eqb-true}
use Rattle.base.proofs.Tests.{both_ways}
use Rattle.card.specs.Card.{Entry}
use Rattle.judge.specs.Sets.{Chosen, counts, chosen_of, of_occurrence, keep}

-- the entries that count, where they are one occurrence's
pub chosen_one : (o : ℕ) (es : List Entry) → chosen_of (Some o) es ≡ of_occurrence o es
unfolding chosen_of of_occurrence keep
chosen_one o [] = refl
chosen_one o (e ∷ es) = rw (chosen_one o es)

-- an occurrence that counts has all its entries among those that count
pub occurrence_whole : (k : Chosen) (o : ℕ) (es : List Entry) → counts k o ≡ true → of_occurrence o (chosen_of k es) ≡ of_occurrence o es
unfolding chosen_of of_occurrence keep
occurrence_whole k o [] h = refl
occurrence_whole k o (e ∷ es) h = go (eqb e.occurrence o) (counts k e.occurrence) refl refl (occurrence_whole k o es h)
  where
    go : (t u : Bool) → eqb e.occurrence o ≡ t → counts k e.occurrence ≡ u → of_occurrence o (chosen_of k es) ≡ of_occurrence o es → of_occurrence o (chosen_of k (e ∷ es)) ≡ of_occurrence o (e ∷ es)
    go true true p q r = rw (q, p, r)
    go true false p q r = both_ways (ap (counts k) (eqb-true e.occurrence o p) ∙ h) q
    go false true p q r = rw (q, p, r)
    go false false p q r = rw (q, p, r)
