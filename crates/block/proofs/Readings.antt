-- Laws of what reading a block answers.
-- Assumes nothing.
use Rattle.std.specs.Prelude.{Option, Some, None, Err, Ok, Result, ⊤}
use Prim.Native.Nat.{ℕ}
use mathlib.Core.Path.{◌≡◌, refl, sym, ◌∙◌}
use mathlib.Core.Bool.{Bool, true, false}
use mathlib.Core.Logic.{◌↔◌}
use mathlib.Core.List.{List}
use lib.ListN.{length}
use Rattle.block.specs.Words.{word}
use Rattle.block.specs.Sum.{check_sum}
use Rattle.block.specs.Seal.{check, IsSealed}
use Rattle.block.specs.Items.{LaysOut}
use Rattle.block.specs.Readings.{reading}
use Rattle.block.proofs.Seal.{check_iff, check-size_wrong, check_sum_wrong, check_right, flawed}
use Rattle.block.specs.declared.Flaw.{Flaw}

-- ---- what a reader answers after the check, and after the layout

module _ (r c : Result ⊤ Flaw) (e : r ≡ c) (layout : Bool) where
  pub reading_flaw : (flaw : Flaw) → r ≡ Err flaw → Err flaw ≡ reading c layout
  unfolding reading
  reading_flaw flaw k = rw (sym e ∙ k)

  module _ (k : r ≡ (Ok tt)) (t : Bool) (l : t ≡ layout) where
    pub reading_layout : t ≡ false → (Err Flaw.Layout) ≡ reading c layout
    unfolding reading
    reading_layout f = rw (sym e ∙ k, sym l ∙ f)

    pub reading_right : t ≡ true → (Ok tt) ≡ reading c layout
    unfolding reading
    reading_right f = rw (sym e ∙ k, sym l ∙ f)

-- ---- a block reads as well formed exactly where it is sealed and its layout is right

reading_sealed : (c : Result ⊤ Flaw) (layout : Bool) → reading c layout ≡ (Ok tt) → (c ≡ (Ok tt)) × (layout ≡ true)
unfolding reading
reading_sealed (Err flaw) layout h = absurd (flawed flaw h)
reading_sealed (Ok t) true h = (h, refl)
reading_sealed (Ok t) false h = absurd (flawed Flaw.Layout h)

pub reading_iff : (b : List ℕ) (layout : Bool) → (reading (check b) layout ≡ (Ok tt)) ↔ (IsSealed b × (layout ≡ true))
reading_iff b layout = (
  (λ h. let r = reading_sealed (check b) layout h in ((check_iff b).0 r.0, r.1)),
  (λ h. sym (reading_right (check b) (check b) refl layout ((check_iff b).1 h.0) layout refl h.1)),
)

-- ---- what a reader answers that looks at the layout first

pub block_size : (b : List ℕ) (layout : Bool) → (length b ≡ 512 → ⊥) → (Err Flaw.Size) ≡ reading (check b) layout
block_size b layout n = reading_flaw (check b) (check b) refl layout Flaw.Size (sym (check-size_wrong b n))

module _ (b : List ℕ) (h : length b ≡ 512) (s w : ℕ) (es : s ≡ check_sum b) (ew : w ≡ word b 508) (layout : Bool) where
  pub block_sum : (s ≡ w → ⊥) → (Err Flaw.Sum) ≡ reading (check b) layout
  block_sum n = reading_flaw (check b) (check b) refl layout Flaw.Sum (sym (check_sum_wrong b h s w es ew n))

  module _ (k : s ≡ w) (r : Option ℕ) (l : LaysOut b layout r) where
    pub block_right : (p : ℕ) → r ≡ Some p → (Ok tt) ≡ reading (check b) layout
    block_right p e = reading_right (check b) (check b) refl layout (sym (check_right b h s w es ew k)) layout refl (l.right p e)

    pub block_wrong : r ≡ None → (Err Flaw.Layout) ≡ reading (check b) layout
    block_wrong e = reading_layout (check b) (check b) refl layout (sym (check_right b h s w es ew k)) layout refl (l.wrong e)
