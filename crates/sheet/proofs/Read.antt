-- Laws of reading a sheet: what the code's tests decide, and what holds of bytes that read as a well-formed sheet.
-- Assumes nothing.
use Rattle.std.specs.Prelude.{Ok}
use Prim.Native.Nat.{ℕ, ◌≤◌}
use native.Mathlib.Omega.{arith}
use mathlib.Core.Path.{◌≡◌, refl, sym, ◌∙◌}
use mathlib.Core.Bool.{Bool, true, false, ◌&&◌}
use mathlib.Core.List.{List}
use lib.ListN.{length, get_or}
use Rattle.base.specs.Bytes.{Bytes}
use Rattle.base.proofs.Tests.{and_left, and_right}
use Rattle.block.specs.Items.{has_marks, has_layout, has_either, items, Walk}
use Rattle.block.proofs.Contents.{Held}
use Rattle.block.proofs.Items.{either_own, either_form, layout_count, items-length, walk_start}
use Rattle.block.proofs.Readings.{reading_iff}
use Rattle.sheet.specs.Sheet.{parameter, parameter_count, parameters_of, are_parameters, distinct, have_parents, are_right, sheet_layout, read_sheet}
use Rattle.sheet.specs.Encode.{sheet_first}

-- ---- what the tests decide

module _ (b : List ℕ) (r : Bool) (e : r ≡ has_either 0x50 0x51 1 32 b) where
  pub layout_not : r ≡ false → false ≡ sheet_layout b
  unfolding sheet_layout
  layout_not f = rw (sym e ∙ f)

  module _ (t : r ≡ true) where
    -- a walk over the parameters can start
    pub layout_walk : length b ≡ 512 → Walk b 2 (get_or b 1 0)
    layout_walk h = walk_start b (get_or b 0 0) 1 32 (either_own b 0x50 0x51 1 32 (sym e ∙ t)) h (omega arith)

    pub layout_right : (w : Bool) → w ≡ has_marks (get_or b 0 0) → (u : Bool) → u ≡ are_right w (items parameter (get_or b 1 0) b 2) → u ≡ sheet_layout b
    unfolding sheet_layout parameters_of parameter_count
    layout_right w i u k = rw (sym e ∙ t, ← i) k

-- ---- what a well-formed sheet has

module _ (b : List ℕ) (h : read_sheet b ≡ (Ok tt)) where
  pub sheet_length : length b ≡ 512
  unfolding read_sheet
  sheet_length = ((reading_iff b (sheet_layout b)).0 h).0.size

  pub sheet_layout_lem : sheet_layout b ≡ true
  unfolding read_sheet
  sheet_layout_lem = ((reading_iff b (sheet_layout b)).0 h).1

  abbrev marked : Bool
  marked = has_marks (get_or b 0 0)

  either_layout : has_either 0x50 0x51 1 32 b ≡ true
  unfolding sheet_layout
  either_layout = and_left (has_either 0x50 0x51 1 32 b) (are_right marked (parameters_of b)) sheet_layout_lem

  block_layout : has_layout (get_or b 0 0) 1 32 b ≡ true
  block_layout = either_own b 0x50 0x51 1 32 either_layout

  -- the form that the first byte tells
  pub sheet_form : (w : Bool) × (get_or b 0 0 ≡ sheet_first w)
  sheet_form = either_form b 0x50 0x51 1 32 either_layout

  sheet_right : are_right marked (parameters_of b) ≡ true
  unfolding sheet_layout
  sheet_right = and_right (has_either 0x50 0x51 1 32 b) (are_right marked (parameters_of b)) sheet_layout_lem

  pub sheet_parameters : are_parameters (has_marks (get_or b 0 0)) (parameters_of b) ≡ true
  unfolding are_right
  sheet_parameters = and_left (are_parameters marked (parameters_of b)) (distinct (parameters_of b) && have_parents (parameters_of b) (parameters_of b)) sheet_right

  names_and_parents : (distinct (parameters_of b) && have_parents (parameters_of b) (parameters_of b)) ≡ true
  unfolding are_right
  names_and_parents = and_right (are_parameters marked (parameters_of b)) (distinct (parameters_of b) && have_parents (parameters_of b) (parameters_of b)) sheet_right

  pub sheet_names : distinct (parameters_of b) ≡ true
  sheet_names = and_left (distinct (parameters_of b)) (have_parents (parameters_of b) (parameters_of b)) names_and_parents

  pub sheet_parents : have_parents (parameters_of b) (parameters_of b) ≡ true
  sheet_parents = and_right (distinct (parameters_of b)) (have_parents (parameters_of b) (parameters_of b)) names_and_parents

  pub sheet_count : length (parameters_of b) ≤ 32
  unfolding parameters_of parameter_count
  sheet_count = omega (arith, items-length parameter (get_or b 1 0) b 2, layout_count b (get_or b 0 0) 1 32 block_layout)

  pub sheet_held : Bytes b → Held parameter (get_or b 0 0) 1 32 b (parameters_of b)
  unfolding read_sheet parameters_of parameter_count
  sheet_held bytes = record { bytes = bytes; sealed = ((reading_iff b (sheet_layout b)).0 h).0; layout = block_layout; same = refl }

-- a walk over the parameters can start
pub sheet_walk : (b : List ℕ) → read_sheet b ≡ (Ok tt) → Walk b 2 (get_or b 1 0)
sheet_walk b h = walk_start b (get_or b 0 0) 1 32 (block_layout b h) (sheet_length b h) (omega arith)
