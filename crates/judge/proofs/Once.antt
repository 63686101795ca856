-- A value that is read once for many texts counts as it did.
-- Assumes nothing.
use Prim.Native.Nat.{ℕ}
use mathlib.Core.Path.{◌≡◌, refl, ap, ◌∙◌}
use mathlib.Core.Bool.{Bool, true, false, not}
use mathlib.Core.List.{List}
use Rattle.kind.specs.Relations.{Kept, relates_read}
use Rattle.kind.specs.declared.Readings.{Readings}
use Rattle.kind.specs.declared.Relation.{Relation}
use Rattle.kind.specs.declared.Meaning.{Meaning}
use Rattle.kind.proofs.Values.{relates_is, unread_kept, readings_kept}
use Rattle.judge.specs.Verdicts.{text_counts}
use Rattle.judge.specs.Once.{readings_for, counts_read}

pub counts_once : (m : Meaning) (v x : List ℕ) → counts_read m v (readings_for m v) x ≡ text_counts m v x
unfolding readings_for counts_read text_counts
counts_once Meaning.Present v x = refl
counts_once (Meaning.Relates r) v x = relates_is r x v
counts_once (Meaning.Differs r) v x = ap not (relates_is r x v)
counts_once Meaning.Nothing v x = refl

pub for_kept : (m : Meaning) (v : List ℕ) → Kept (readings_for m v).number
unfolding readings_for
for_kept Meaning.Present v = unread_kept
for_kept (Meaning.Relates r) v = readings_kept r v
for_kept (Meaning.Differs r) v = readings_kept r v
for_kept Meaning.Nothing v = unread_kept

-- ---- the arms of `counts_read`

module _ (m : Meaning) (v : List ℕ) (w : Readings) (x : List ℕ) where
  pub read_present : m ≡ Meaning.Present → true ≡ counts_read m v w x
  unfolding counts_read
  read_present h = rw h

  pub read_relates : (r : Relation) (t : Bool) → m ≡ Meaning.Relates r → t ≡ relates_read r x v w → t ≡ counts_read m v w x
  unfolding counts_read
  read_relates r t h e = rw h e

  pub read-differs : (r : Relation) (t : Bool) → m ≡ Meaning.Differs r → t ≡ relates_read r x v w → not t ≡ counts_read m v w x
  unfolding counts_read
  read-differs r t h e = rw h (ap not e)

  pub read_nothing : m ≡ Meaning.Nothing → false ≡ counts_read m v w x
  unfolding counts_read
  read_nothing h = rw h

-- ---- a value that was read for the meaning counts as before

module _ (m : Meaning) (v : List ℕ) (w : Readings) (e : w ≡ readings_for m v) where
  pub once_kept : Kept w.number
  once_kept = rw e (for_kept m v)

  pub once_counts : (x : List ℕ) (t : Bool) → t ≡ counts_read m v w x → t ≡ text_counts m v x
  once_counts x t h = h ∙ ap (λ (y : Readings). counts_read m v y x) e ∙ counts_once m v x
