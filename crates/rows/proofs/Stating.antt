-- The cells of an expression state it, and cells that state an expression are its cells.
-- Both are shown for a bound on how deep parts stand in parts: from an expression by induction on it, with any rows behind its own
-- (`from-encode`), and from cells by induction on the bound (`in_cells`), with the rows behind an expression in hand by induction on them
-- (`on-cells`). So the bound makes no difference, and rows state what their first row makes of what the parts behind it state (`stated-step`).
-- Assumes nothing.
use Prim.Native.Nat.{ℕ, zero, suc, ◌≤◌}
use native.Mathlib.Omega.{arith}
use mathlib.Core.Path.{◌≡◌, refl, sym, ap, ap₂, subst, ◌∙◌}
use mathlib.Core.Option.{Option, none, some, none-ne-some, some-injective}
use mathlib.Core.List.{List, [], ◌∷◌, ◌++◌, append-nil, append_assoc}
use lib.ListN.{length, take, drop, length-append, length-take, take-append-drop}
use lib.Seq.{take-append_seam, drop-append_seam, length-take-le}
use Rattle.rows.specs.Expression.{Expression, probing, choosing, joining, negating}
use Rattle.rows.specs.Cells.{row_of, cell_of, encode, Sayable, Writable, writable_test, writable_bracket, writable_join, writable_not, and_then, next_row, on_from, after_brackets, by_first, whole_by, stated_in, stated}
use Rattle.rows.specs.declared.Row.{Row}
use Rattle.rows.specs.Nesting.{parts_in}
use Rattle.rows.proofs.Nesting.{larger_of, parts_some, parts_rows}
use Rattle.rows.proofs.Cells.{row_test, row_bracket, row_not, row_connect, cell_row, RowSayable, row_sayable}

-- ---- the cells of an expression state it

pub rows_some : (e : Expression) → 1 ≤ length (encode e)
unfolding encode
rows_some (probing p) = omega arith
rows_some (choosing e p) = omega arith
rows_some (negating e) = omega (arith, rows_some e, length-append (encode e) (cell_of Row.Not ∷ []))
rows_some (joining c e f) = omega (arith, length-append (encode e) (cell_of (Row.Connect c (length (encode f))) ∷ encode f), rows_some e)

module _ (inner : List ℕ → Option Expression) where
  -- rows are skipped
  pub on_skip : (n : ℕ) (e : Expression) (cs : List ℕ) → n ≤ length cs → on_from inner n e cs ≡ on_from inner 0 e (drop n cs)
  unfolding on_from
  on_skip zero e cs h = refl
  on_skip (suc n) e [] h = absurd (omega (arith, h))
  on_skip (suc n) e (c ∷ cs) h = on_skip n e cs (omega (arith, h))

  on-part : (f e : Expression) (cs : List ℕ) → on_from inner (length (encode f)) e (encode f ++ cs) ≡ on_from inner 0 e cs
  on-part f e cs = on_skip (length (encode f)) e (encode f ++ cs) (omega (arith, length-append (encode f) cs)) ∙ ap (on_from inner 0 e) (drop-append_seam (encode f) cs)

  pub on_row : (e : Expression) (c : ℕ) (cs : List ℕ) (r : Row) → row_of c ≡ r → on_from inner 0 e (c ∷ cs) ≡ next_row (λ n f. on_from inner n f cs) inner e cs r
  unfolding on_from
  on_row e c cs r h = ap (next_row (λ n f. on_from inner n f cs) inner e cs) h

in_from : (f : Expression) → ((k : ℕ) → parts_in f ≤ suc k → (cs : List ℕ) → whole_by (λ l. stated_in k l) (encode f ++ cs) ≡ on_from (λ l. stated_in k l) 0 f cs)
    → (k : ℕ) → parts_in f ≤ k → stated_in k (encode f) ≡ some f
unfolding stated_in on_from
in_from f h zero l = absurd (omega (arith, l, parts_some f))
in_from f h (suc k) l = ap (whole_by (λ l. stated_in k l)) (sym (append-nil (encode f))) ∙ h k l []

from-encode : (e : Expression) → Writable e → (k : ℕ) → parts_in e ≤ suc k → (cs : List ℕ) → whole_by (λ l. stated_in k l) (encode e ++ cs) ≡ on_from (λ l. stated_in k l) 0 e cs
unfolding encode parts_in
from-encode (probing p) (writable_test s) k h cs = ap (by_first (λ l. stated_in k l) cs) (row_test p s)
from-encode (choosing e p) (writable_bracket w s) k h cs =
    let n : ℕ = length (encode e) in
    let inner : List ℕ → Option Expression = λ l. stated_in k l in
    ap (by_first inner (cell_of (Row.Test p) ∷ (encode e ++ cs))) (row_bracket n) ∙ ap (after_brackets inner n (encode e ++ cs)) (row_test p s)
    ∙ ap (λ (o : Option Expression). and_then o (λ g. on_from inner n (choosing g p) (encode e ++ cs))) (ap (stated_in k) (take-append_seam (encode e) cs) ∙ in_from e (λ i l ds. from-encode e w i l ds) k (omega (arith, h)))
    ∙ on-part inner e (choosing e p) cs
from-encode (negating e) (writable_not w) k h cs =
    let c : ℕ = cell_of Row.Not in
    let inner : List ℕ → Option Expression = λ l. stated_in k l in
    ap (whole_by inner) (append_assoc (encode e) (c ∷ []) cs)
    ∙ from-encode e w k h (c ∷ cs) ∙ on_row inner e c cs Row.Not row_not
from-encode (joining o e f) (writable_join w v) k h cs =
    let n : ℕ = length (encode f) in
    let c : ℕ = cell_of (Row.Connect o n) in
    let inner : List ℕ → Option Expression = λ l. stated_in k l in
    let each = larger_of (parts_in e) (suc (parts_in f)) in
    ap (whole_by inner) (append_assoc (encode e) (c ∷ encode f) cs)
    ∙ from-encode e w k (omega (arith, h, each.0)) (c ∷ (encode f ++ cs)) ∙ on_row inner e c (encode f ++ cs) (Row.Connect o n) (row_connect o n)
    ∙ ap (λ (g : Option Expression). and_then g (λ g. on_from inner n (joining o e g) (encode f ++ cs))) (ap (stated_in k) (take-append_seam (encode f) cs) ∙ in_from f (λ i l ds. from-encode f v i l ds) k (omega (arith, h, each.1)))
    ∙ on-part inner f (joining o e f) cs

pub in_encode : (e : Expression) → Writable e → (k : ℕ) → parts_in e ≤ k → stated_in k (encode e) ≡ some e
in_encode e w = in_from e (from-encode e w)

pub stated-encode : (e : Expression) → Writable e → stated (encode e) ≡ some e
unfolding stated
stated-encode e w = in_encode e w (length (encode e)) (parts_rows e)

-- ---- cells that state an expression are its cells

-- the cell of a row that says something
said : (c : ℕ) (r : Row) → row_of c ≡ r → (r ≡ Row.Unknown → ⊥) → c ≡ cell_of r
said c r i h = sym (subst (λ (q : Row). cell_of q ≡ c) i (cell_row c (λ (e : row_of c ≡ Row.Unknown). h (sym i ∙ e))))

-- a part that something follows of is there
pub record Then (a : Option Expression) (then : Expression → Option Expression) (g : Expression) : Type 0 where
  pub expression : Expression
  pub has : a ≡ some expression
  pub then_is : then expression ≡ some g

pub then_some : (a : Option Expression) (then : Expression → Option Expression) (g : Expression) → and_then a then ≡ some g → Then a then g
then_some none then g h = absurd (none-ne-some _ h)
then_some (some e) then g h = record { expression = e; has = refl; then_is = h }

-- the cells of an expression that can be written
pub record Cells (cs : List ℕ) (e : Expression) : Type 0 where
  pub are : cs ≡ encode e
  pub writable : Writable e

-- the cells of an expression, and those behind the next n
pub record Onward (e g : Expression) (n : ℕ) (cs : List ℕ) : Type 0 where
  pub enough : n ≤ length cs
  pub are : encode e ++ drop n cs ≡ encode g
  pub writable : Writable e → Writable g

-- a part of so many rows
part-size : (n : ℕ) (cs : List ℕ) (e : Expression) → take n cs ≡ encode e → n ≤ length cs → length (encode e) ≡ n
part-size n cs e h l = sym (ap length h) ∙ length-take-le n cs l

pub part-joined : (n : ℕ) (cs : List ℕ) (e : Expression) → take n cs ≡ encode e → encode e ++ drop n cs ≡ cs
part-joined n cs e h = ap (λ (l : List ℕ). l ++ drop n cs) (sym h) ∙ take-append-drop n cs

module _ (inner : List ℕ → Option Expression) (sound : (l : List ℕ) (e : Expression) → inner l ≡ some e → Cells l e) where
  row-cells : (e : Expression) (c : ℕ) (cs : List ℕ) (r : Row) → row_of c ≡ r → (g : Expression) → ((n : ℕ) (f : Expression) → on_from inner n f cs ≡ some g → Onward f g n cs)
      → next_row (λ n f. on_from inner n f cs) inner e cs r ≡ some g → Onward e g 0 (c ∷ cs)
  unfolding encode
  row-cells e c cs (Row.Test p) i g rest h = absurd (none-ne-some _ h)
  row-cells e c cs (Row.Bracket n) i g rest h = absurd (none-ne-some _ h)
  row-cells e c cs Row.Not i g rest h =
      let o = rest 0 (negating e) h in
      let cell : c ≡ cell_of Row.Not = said c Row.Not i (λ (h : Row.Not ≡ Row.Unknown). let z : ◌≡◌ {A = ℕ} 0 1 = cc in omega arith) in
      record {
        enough = omega arith;
        are = ap (λ (x : ℕ). encode e ++ (x ∷ cs)) cell ∙ sym (append_assoc (encode e) (cell_of Row.Not ∷ []) cs) ∙ o.are;
        writable = λ w. o.writable (writable_not w);
      }
  row-cells e c cs (Row.Connect k n) i g rest h =
      let t = then_some (inner (take n cs)) (λ f. on_from inner n (joining k e f) cs) g h in
      let f : Expression = t.expression in
      let s = sound (take n cs) f t.has in
      let o = rest n (joining k e f) t.then_is in
      let size : length (encode f) ≡ n = part-size n cs f s.are o.enough in
      let cell : c ≡ cell_of (Row.Connect k (length (encode f))) = said c (Row.Connect k n) i (λ (h : Row.Connect k n ≡ Row.Unknown). let z : ◌≡◌ {A = ℕ} 0 1 = cc in omega arith) ∙ ap (λ (m : ℕ). cell_of (Row.Connect k m)) (sym size) in
      record {
        enough = omega arith;
        are = ap₂ (λ (x : ℕ) (l : List ℕ). encode e ++ (x ∷ l)) cell (sym (part-joined n cs f s.are))
            ∙ sym (append_assoc (encode e) (cell_of (Row.Connect k (length (encode f))) ∷ encode f) (drop n cs)) ∙ o.are;
        writable = λ w. o.writable (writable_join w s.writable);
      }
  row-cells e c cs Row.Unknown i g rest h = absurd (none-ne-some _ h)

  pub on-cells : (n : ℕ) (e : Expression) (cs : List ℕ) (g : Expression) → on_from inner n e cs ≡ some g → Onward e g n cs
  unfolding on_from
  on-cells zero e [] g h = record { enough = omega arith; are = append-nil (encode e) ∙ ap encode (some-injective _ _ h); writable = λ w. subst Writable (some-injective _ _ h) w }
  on-cells (suc n) e [] g h = absurd (none-ne-some _ h)
  on-cells zero e (c ∷ cs) g h = row-cells e c cs (row_of c) refl g (λ n f i. on-cells n f cs g i) h
  on-cells (suc n) e (c ∷ cs) g h = let o = on-cells n e cs g h in record { enough = omega (arith, o.enough); are = o.are; writable = o.writable }

  bracket_cells : (c d : ℕ) (cs : List ℕ) (n : ℕ) (r : Row) → row_of c ≡ Row.Bracket n → row_of d ≡ r → (g : Expression) → after_brackets inner n cs r ≡ some g → Cells (c ∷ (d ∷ cs)) g
  unfolding encode
  bracket_cells c d cs n (Row.Test p) i j g h =
      let t = then_some (inner (take n cs)) (λ e. on_from inner n (choosing e p) cs) g h in
      let e : Expression = t.expression in
      let s = sound (take n cs) e t.has in
      let o = on-cells n (choosing e p) cs g t.then_is in
      let size : length (encode e) ≡ n = part-size n cs e s.are o.enough in
      let first : c ≡ cell_of (Row.Bracket (length (encode e))) = said c (Row.Bracket n) i (λ (h : Row.Bracket n ≡ Row.Unknown). let z : ◌≡◌ {A = ℕ} 0 1 = cc in omega arith) ∙ ap (λ (m : ℕ). cell_of (Row.Bracket m)) (sym size) in
      let second : d ≡ cell_of (Row.Test p) = said d (Row.Test p) j (λ (h : Row.Test p ≡ Row.Unknown). let z : ◌≡◌ {A = ℕ} 0 1 = cc in omega arith) in
      let sayable : Sayable p = subst RowSayable j (row_sayable d) in
      record {
        are = ap₂ (λ (x y : ℕ). x ∷ (y ∷ cs)) first second ∙ ap (λ (l : List ℕ). cell_of (Row.Bracket (length (encode e))) ∷ (cell_of (Row.Test p) ∷ l)) (sym (part-joined n cs e s.are)) ∙ o.are;
        writable = o.writable (writable_bracket s.writable sayable);
      }
  bracket_cells c d cs n (Row.Bracket m) i j g h = absurd (none-ne-some _ h)
  bracket_cells c d cs n Row.Not i j g h = absurd (none-ne-some _ h)
  bracket_cells c d cs n (Row.Connect k m) i j g h = absurd (none-ne-some _ h)
  bracket_cells c d cs n Row.Unknown i j g h = absurd (none-ne-some _ h)

  first-cells : (c : ℕ) (cs : List ℕ) (r : Row) → row_of c ≡ r → (g : Expression) → by_first inner cs r ≡ some g → Cells (c ∷ cs) g
  unfolding encode
  first-cells c cs (Row.Test p) i g h =
      let o = on-cells 0 (probing p) cs g h in
      let sayable : Sayable p = subst RowSayable i (row_sayable c) in
      record {
        are = ap (λ (x : ℕ). x ∷ cs) (said c (Row.Test p) i (λ (h : Row.Test p ≡ Row.Unknown). let z : ◌≡◌ {A = ℕ} 0 1 = cc in omega arith)) ∙ o.are;
        writable = o.writable (writable_test sayable);
      }
  first-cells c [] (Row.Bracket n) i g h = absurd (none-ne-some _ h)
  first-cells c (d ∷ cs) (Row.Bracket n) i g h = bracket_cells c d cs n (row_of d) i refl g h
  first-cells c cs Row.Not i g h = absurd (none-ne-some _ h)
  first-cells c cs (Row.Connect k n) i g h = absurd (none-ne-some _ h)
  first-cells c cs Row.Unknown i g h = absurd (none-ne-some _ h)

  whole_cells : (cs : List ℕ) (g : Expression) → whole_by inner cs ≡ some g → Cells cs g
  whole_cells [] g h = absurd (none-ne-some _ h)
  whole_cells (c ∷ cs) g h = first-cells c cs (row_of c) refl g h

pub in_cells : (k : ℕ) (cs : List ℕ) (e : Expression) → stated_in k cs ≡ some e → Cells cs e
unfolding stated_in
in_cells zero cs e h = absurd (none-ne-some _ h)
in_cells (suc k) cs e h = whole_cells (λ l. stated_in k l) (λ l f i. in_cells k l f i) cs e h

pub stated_are : (cs : List ℕ) (e : Expression) → stated cs ≡ some e → Cells cs e
unfolding stated
stated_are cs e h = in_cells (length cs) cs e h

pub stated-cells : (cs : List ℕ) (e : Expression) → stated cs ≡ some e → cs ≡ encode e
stated-cells cs e h = (stated_are cs e h).are

-- ---- what rows state, by the first of them

-- the bound makes no difference
stated-same : (k : ℕ) (cs : List ℕ) → length cs ≤ k → stated_in k cs ≡ stated cs
unfolding stated
stated-same k cs h = by_both (stated_in k cs) (stated_in (length cs) cs) refl refl
  where
    states : (m : ℕ) (e : Expression) → stated_in m cs ≡ some e → (n : ℕ) → length cs ≤ n → stated_in n cs ≡ some e
    states m e i n l = let c = in_cells m cs e i in ap (stated_in n) c.are ∙ in_encode e c.writable n (omega (arith, l, ap length c.are, parts_rows e))

    by_both : (a b : Option Expression) → stated_in k cs ≡ a → stated_in (length cs) cs ≡ b → a ≡ b
    by_both none none i j = refl
    by_both none (some f) i j = sym i ∙ states (length cs) f j k h
    by_both (some e) b i j = sym (states k e i (length cs) (omega arith)) ∙ j

then_same : (a b : Option Expression) (f g : Expression → Option Expression) → a ≡ b → ((e : Expression) → f e ≡ g e) → and_then a f ≡ and_then b g
then_same a none f g h s = ap (λ (o : Option Expression). and_then o f) h
then_same a (some e) f g h s = ap (λ (o : Option Expression). and_then o f) h ∙ s e

few : (n : ℕ) (cs : List ℕ) → length (take n cs) ≤ length cs
few n cs = omega (arith, length-take n cs)

module _ (k : ℕ) where
  abbrev within : List ℕ → Option Expression
  within l = stated_in k l

  on_same : (n : ℕ) (e : Expression) (cs : List ℕ) → length cs ≤ k → on_from within n e cs ≡ on_from stated n e cs
  unfolding on_from
  on_same zero e [] h = refl
  on_same (suc n) e [] h = refl
  on_same zero e (c ∷ cs) h = by_row (row_of c) (λ n f. on_same n f cs (omega (arith, h)))
    where
      by_row : (r : Row) → ((n : ℕ) (f : Expression) → on_from within n f cs ≡ on_from stated n f cs) → next_row (λ n f. on_from within n f cs) within e cs r ≡ next_row (λ n f. on_from stated n f cs) stated e cs r
      by_row (Row.Test p) s = refl
      by_row (Row.Bracket n) s = refl
      by_row Row.Not s = s 0 (negating e)
      by_row (Row.Connect o n) s = then_same (within (take n cs)) (stated (take n cs)) (λ f. on_from within n (joining o e f) cs) (λ f. on_from stated n (joining o e f) cs) (stated-same k (take n cs) (omega (arith, h, few n cs))) (λ f. s n (joining o e f))
      by_row Row.Unknown s = refl
  on_same (suc n) e (c ∷ cs) h = on_same n e cs (omega (arith, h))

  brackets_same : (n : ℕ) (cs : List ℕ) → length cs ≤ k → (r : Row) → after_brackets within n cs r ≡ after_brackets stated n cs r
  brackets_same n cs h (Row.Test p) = then_same (within (take n cs)) (stated (take n cs)) (λ e. on_from within n (choosing e p) cs) (λ e. on_from stated n (choosing e p) cs) (stated-same k (take n cs) (omega (arith, h, few n cs))) (λ e. on_same n (choosing e p) cs h)
  brackets_same n cs h (Row.Bracket m) = refl
  brackets_same n cs h Row.Not = refl
  brackets_same n cs h (Row.Connect c m) = refl
  brackets_same n cs h Row.Unknown = refl

  first-same : (cs : List ℕ) → length cs ≤ k → (r : Row) → by_first within cs r ≡ by_first stated cs r
  first-same cs h (Row.Test p) = on_same 0 (probing p) cs h
  first-same [] h (Row.Bracket n) = refl
  first-same (c ∷ cs) h (Row.Bracket n) = brackets_same n cs (omega (arith, h)) (row_of c)
  first-same cs h Row.Not = refl
  first-same cs h (Row.Connect c n) = refl
  first-same cs h Row.Unknown = refl

pub stated-step : (cs : List ℕ) → stated cs ≡ whole_by stated cs
unfolding stated stated_in
stated-step [] = refl
stated-step (c ∷ cs) = first-same (length cs) cs (omega arith) (row_of c)
