-- The loop of `table`: the cells filled, and what the parameters to come will fill, make the whole table.
-- Assumes nothing.
use Prim.Native.Nat.{ℕ, suc, ◌+◌, ◌-◌, ◌≤◌, ◌<◌}
use native.Mathlib.Numerals.{add-one}
use native.Mathlib.Omega.{arith}
use mathlib.Core.Path.{◌≡◌, refl, sym, ap, ◌∙◌}
use mathlib.Core.List.{List, [], ◌∷◌, ◌++◌, append_assoc, map}
use lib.ListN.{length, take, drop, set, replicate, length-set, take-append-drop}
use lib.Seq.{take-suc-set, drop-set-lt, drop-drop}
use Rattle.sheet.specs.Sheet.{Parameter}
use Rattle.base.specs.Parts.{padded}
use Rattle.sheet.specs.Find.{table_of}

-- the table that the parameters to come make of the cells filled so far with a part of each
abbrev pub filled : (Parameter → ℕ) → List ℕ → ℕ → List Parameter → List ℕ
filled of table index ps = take index table ++ padded (32 - index) (map of ps)

-- of the parameters `all`, those before `index` have their cells, and ps are to come
pub record Filling (of : Parameter → ℕ) (all : List Parameter) (table : List ℕ) (index : ℕ) (ps : List Parameter) : Type 0 where
  pub whole : filled of table index ps ≡ table_of of all
  pub size : length table ≡ 32
  pub zeros : drop index table ≡ replicate (32 - index) 0
  pub few : index + length ps ≤ 32

pub filling-start : (of : Parameter → ℕ) (ps : List Parameter) → length ps ≤ 32 → Filling of ps (replicate 32 0) 0 ps
unfolding table_of
filling-start of ps few = record { whole = refl; size = refl; zeros = refl; few = omega arith }

-- one cell more
filled_more : (of : Parameter → ℕ) (table : List ℕ) (index : ℕ) (p : Parameter) (ps : List Parameter) (v : ℕ) → v ≡ of p → index < length table → index < 32
    → filled of table index (p ∷ ps) ≡ filled of (set table index v) (index + 1) ps
unfolding padded
filled_more of table index p ps v e h k =
    let n : 32 - index - suc (length (map of ps)) ≡ 32 - (index + 1) - length (map of ps) = omega arith in
    rw (n, add-one index, e, take-suc-set table index (of p) h, append_assoc)

module _ (of : Parameter → ℕ) (all xs : List Parameter) (table : List ℕ) (index : ℕ) (f : Filling of all table index xs) where
  module _ (p : Parameter) (ps : List Parameter) (e : xs ≡ p ∷ ps) where
    few_more : index + 1 + length ps ≤ 32
    few_more = omega (arith, f.few, ap length e)

    pub filling_room : index < 32
    filling_room = omega (arith, few_more)

    pub filling-next : (v : ℕ) → v ≡ of p → Filling of all (set table index v) (index + 1) ps
    filling-next v i =
        let h : index < length table = omega (arith, f.size, few_more) in
        let k : index < 32 = filling_room in
        let a : index < index + 1 = omega arith in
        let n : 32 - index ≡ suc (32 - (index + 1)) = omega arith in
        record {
          whole = sym (filled_more of table index p ps v i h k) ∙ sym (ap (filled of table index) e) ∙ f.whole;
          size = length-set table index v ∙ f.size;
          zeros = drop-set-lt (index + 1) table index v a ∙ sym (drop-drop 1 index table) ∙ ap (drop 1) (f.zeros ∙ ap (λ (m : ℕ). replicate m 0) n);
          few = few_more;
        }

  pub filling_end : xs ≡ [] → table ≡ table_of of all
  unfolding padded
  filling_end e =
      let n : 32 - index ≡ 32 - index - 0 = omega arith in
      sym (take-append-drop index table) ∙ ap (λ (l : List ℕ). take index table ++ l) (f.zeros ∙ ap (λ (m : ℕ). replicate m 0) n)
      ∙ sym (ap (filled of table index) e) ∙ f.whole
