-- The value that a position names is the one that the scanner finds there.
-- Assumes nothing.
use Rattle.std.specs.Prelude.{Some}
use Prim.Native.Nat.{ℕ}
use native.Mathlib.Omega.{arith}
use native.Mathlib.Nat.{add-zero}
use mathlib.Core.Path.{◌≡◌, refl, sym, ap, ◌∙◌}
use mathlib.Core.Bool.{Bool, true, false}
use mathlib.Core.List.{List, [], ◌∷◌}
use mathlib.Core.Logic.{⊎_elim}
use lib.ListN.{get_or, drop}
use lib.Seq.{get_or-drop}
use Rattle.base.specs.Runs.{run}
use Rattle.base.proofs.Tests.{decided}
use Rattle.syntax.specs.Strings.{is_bare}
use Rattle.syntax.specs.Scan.{value_at}
use Rattle.syntax.specs.declared.RawValue.{RawValue}
use Rattle.syntax.proofs.Values.{Found, value_derives, value-named, value-ends}
use Rattle.rows.specs.Good.{ValueFrom}
use Rattle.rows.specs.Shapes.{value_in}

run_none : (p : ℕ → Bool) (s : List ℕ) → p 0 ≡ false → run p s ≡ 0 → p (get_or s 0 0) ≡ false
unfolding run
run_none p [] z h = z
run_none p (x ∷ s) z h = ⊎_elim (λ (d : p x ≡ true). absurd (omega (arith, rw d at h))) (λ (d : p x ≡ false). d) (decided (p x))

none_run : (p : ℕ → Bool) (s : List ℕ) → p (get_or s 0 0) ≡ false → run p s ≡ 0
unfolding run
none_run p [] h = refl
none_run p (x ∷ s) h = rw h

first_of : (xs : List ℕ) (q : ℕ) → get_or (drop q xs) 0 0 ≡ get_or xs q 0
first_of xs q = get_or-drop q xs 0 0 ∙ ap (λ (n : ℕ). get_or xs n 0) (add-zero q)

zero_not_bare : is_bare 0 ≡ false
unfolding is_bare
zero_not_bare = refl

pub found_from : (xs : List ℕ) (p : ℕ) (v : RawValue) → value_at xs p ≡ Some v → ValueFrom xs p (value_in xs v)
found_from xs p v e =
    record {
      end = v.next;
      value = value_derives xs p v e;
      longest = λ n. ap is_bare (sym (first_of xs v.next)) ∙ run_none is_bare (drop v.next xs) zero_not_bare (value-ends xs p v e n);
    }

pub from_found : {xs : List ℕ} {p : ℕ} {v : List ℕ} (f : ValueFrom xs p v) → Found xs p f.end v
from_found {xs} f = value-named f.value (λ n. none_run is_bare (drop f.end xs) (ap is_bare (first_of xs f.end) ∙ f.longest n))
