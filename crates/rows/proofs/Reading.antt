-- The shape of what rows state: a law for each answer and each turn of the code.
-- The loop keeps `InHand`: an expression that fits is in hand with its shape, and the rows from here on decide what is stated. An expression with a test
-- that does not fit is part of none that fits, whatever rows follow (`on_misfits`), and a part that is too large for the rows leaves nothing (`on_short`).
-- Shapes are small, for an expression has no more tests and levels than rows.
-- Assumes nothing.
use Rattle.std.specs.Prelude.{Option, Some, None}
use Prim.Native.Nat.{ℕ, zero, suc, ◌+◌, ◌-◌, ◌≤◌, ◌<◌}
use native.Mathlib.Omega.{arith}
use mathlib.Core.Path.{◌≡◌, refl, sym, ap, ap₂, subst, ◌∙◌}
use mathlib.Core.Bool.{Bool, true, false, cond, ◌&&◌}
use mathlib.Core.Option as maybe
use mathlib.Core.Option.{none, some, none-ne-some, some-injective}
use mathlib.Core.List.{List, [], ◌∷◌}
use lib.Dec.{eqb}
use lib.ListN.{length, get_or, take, drop, length-take, length-drop}
use lib.Seq.{drop-cons, drop-drop, drop-length}
use borrow.Author.Tests.{lt-ltb, le-ltb, ne_eqb}
use Rattle.base.specs.Parts.{part}
use Rattle.base.proofs.Parts.{part_length}
use Rattle.syntax.specs.declared.Connective.{Connective}
use Rattle.rows.specs.Expression.{Expression, probing, choosing, joining, negating}
use Rattle.rows.specs.Cells.{row_of, and_then, next_row, on_from, after_brackets, in_brackets, by_first, whole_by, stated_in}
use Rattle.rows.specs.Nesting.{larger, deeper_shape, joined_shape, shape_of}
use Rattle.rows.specs.Shapes.{probe_fits, member_of, member_by, fits_in, shape_by, Misfit, InHand, Began, began_at, began_nothing, BeganInBrackets}
use Rattle.rows.specs.declared.Begun.{Begun}
use Rattle.rows.specs.declared.Probe.{Probe}
use Rattle.rows.specs.declared.Row.{Row}
use Rattle.rows.specs.declared.Shape.{Shape}
use Rattle.rows.proofs.Nesting.{larger_least, tests_rows, shape_tests, levels_rows}
use Rattle.rows.proofs.Stating.{on_skip, on_row, in_cells}

pub larger-second : (a b : ℕ) → a < b → b ≡ larger a b
unfolding larger
larger-second a b h = rw (lt-ltb a b h)

pub larger-first : (a b : ℕ) → b ≤ a → a ≡ larger a b
unfolding larger
larger-first a b h = rw (le-ltb a b h)

pub larger_most : (a b n r : ℕ) → a ≤ n → b ≤ n → r ≡ larger a b → r ≤ n
larger_most a b n r h k e = omega (arith, e, larger_least a b n h k)

pub joined_is : (a b : Shape) (n : ℕ) → n ≡ larger a.chain b.item → ◌≡◌ {A = Shape} (record { tests = a.tests + b.tests; chain = n; item = n + 1 }) (joined_shape a b)
joined_is a b n h = rw h

-- ---- what was found

-- an expression that fits, and its shape
pub record Found (fits : Expression → Bool) (k : ℕ) (cs : List ℕ) (s : Shape) : Type 0 where
  pub expression : Expression
  pub states : stated_in k cs ≡ some expression
  pub fitting : fits expression ≡ true
  pub is : s ≡ shape_of expression
  pub few_tests : s.tests ≤ length cs
  pub few_levels : s.chain < length cs
  pub few_brackets : s.item ≤ length cs

pub found : (fits : Expression → Bool) (k : ℕ) (cs : List ℕ) (r : Option Shape) → r ≡ shape_by fits (stated_in k cs) → (s : Shape) → r ≡ Some s → Found fits k cs s
found fits k cs r h s i = by_stated (stated_in k cs) refl (sym i ∙ h)
  where
    by_fits : (e : Expression) → stated_in k cs ≡ some e → (t : Bool) → fits e ≡ t → Some s ≡ cond t (Some (shape_of e)) None → Found fits k cs s
    by_fits e j false f g = let z : ◌≡◌ {A = ℕ} 0 1 = cc in absurd (omega (arith, z))
    by_fits e j true f g =
        let same : s ≡ shape_of e = cc in
        let size = ap length (in_cells k cs e j).are in
        let tests : s.tests ≡ (shape_of e).tests = ap (λ (x : Shape). x.tests) same in
        let chain : s.chain ≡ (shape_of e).chain = ap (λ (x : Shape). x.chain) same in
        let item : s.item ≡ (shape_of e).item = ap (λ (x : Shape). x.item) same in
        record {
          expression = e;
          states = j;
          fitting = f;
          is = same;
          few_tests = omega (arith, size, tests, shape_tests e, tests_rows e);
          few_levels = omega (arith, size, chain, (levels_rows e).0);
          few_brackets = omega (arith, size, item, (levels_rows e).1);
        }

    by_stated : (o : maybe.Option Expression) → stated_in k cs ≡ o → Some s ≡ shape_by fits o → Found fits k cs s
    by_stated none j g = let z : ◌≡◌ {A = ℕ} 0 1 = cc in absurd (omega (arith, z))
    by_stated (some e) j g = by_fits e j (fits e) refl g

-- nothing that fits
pub not_found : (fits : Expression → Bool) (o : maybe.Option Expression) (r : Option Shape) → r ≡ shape_by fits o → r ≡ None → Misfit fits o
not_found fits o r h i = record { each = λ e j. by_fits e (fits e) refl (sym i ∙ h ∙ ap (shape_by fits) j) }
  where
    by_fits : (e : Expression) (t : Bool) → fits e ≡ t → None ≡ cond (fits e) (Some (shape_of e)) None → fits e ≡ false
    by_fits e false f g = f
    by_fits e true f g =
        let h : None ≡ Some (shape_of e) = g ∙ ap (λ (b : Bool). cond b (Some (shape_of e)) None) f in
        let z : ◌≡◌ {A = ℕ} 0 1 = cc in absurd (omega (arith, z))

misfit_nothing : (fits : Expression → Bool) (o : maybe.Option Expression) → Misfit fits o → None ≡ shape_by fits o
misfit_nothing fits none m = refl
misfit_nothing fits (some e) m = sym (ap (λ (b : Bool). cond b (Some (shape_of e)) None) (m.each e refl))

misfit_none : (fits : Expression → Bool) (o : maybe.Option Expression) → o ≡ none → Misfit fits o
misfit_none fits o h = record { each = λ e i. absurd (none-ne-some _ (sym h ∙ i)) }

misfit_same : (fits : Expression → Bool) (o p : maybe.Option Expression) → o ≡ p → Misfit fits p → Misfit fits o
misfit_same fits o p h m = record { each = λ e i. m.each e (sym h ∙ i) }

-- what is found in a part of few rows is small
module _ (rows : List ℕ) (a b : ℕ) (few : length rows ≤ 320) where
  pub part_few : length (part rows a b) ≤ 320
  part_few = omega (arith, few, length-take (b - a) (drop a rows), length-drop a rows)

  module _ (fits : Expression → Bool) (k : ℕ) (r : Option Shape) (h : r ≡ shape_by fits (stated_in k (part rows a b))) (s : Shape) (i : r ≡ Some s) where
    pub tests_few : s.tests ≤ 320
    tests_few = omega (arith, part_few, (found fits k (part rows a b) r h s i).few_tests)

    pub levels_few : s.chain ≤ 320
    levels_few = omega (arith, part_few, (found fits k (part rows a b) r h s i).few_levels)

    pub brackets_few : s.item ≤ 320
    brackets_few = omega (arith, part_few, (found fits k (part rows a b) r h s i).few_brackets)

module _ (kinds parents xs : List ℕ) (c k : ℕ) where
  abbrev fits : Expression → Bool
  fits = fits_in kinds parents xs c

  abbrev inner : List ℕ → maybe.Option Expression
  inner l = stated_in k l

  -- ---- rows behind an expression

  on_short : (n : ℕ) (e : Expression) (cs : List ℕ) → length cs < n → on_from inner n e cs ≡ none
  unfolding on_from
  on_short zero e cs h = absurd (omega (arith, h))
  on_short (suc n) e [] h = refl
  on_short (suc n) e (d ∷ cs) h = on_short n e cs (omega (arith, h))

  then_short : (o : maybe.Option Expression) (n : ℕ) (then : Expression → Expression) (cs : List ℕ) → length cs < n → and_then o (λ f. on_from inner n (then f) cs) ≡ none
  then_short none n then cs h = refl
  then_short (some f) n then cs h = on_short n (then f) cs h

  on_misfits : (n : ℕ) (e : Expression) (cs : List ℕ) → fits e ≡ false → Misfit fits (on_from inner n e cs)
  unfolding on_from fits_in
  on_misfits zero e [] h = record { each = λ f i. ap fits (sym (some-injective _ _ i)) ∙ h }
  on_misfits (suc n) e [] h = misfit_none fits none refl
  on_misfits zero e (d ∷ cs) h = by_row (row_of d) (λ n f g. on_misfits n f cs g)
    where
      by_row : (r : Row) → ((n : ℕ) (f : Expression) → fits f ≡ false → Misfit fits (on_from inner n f cs)) → Misfit fits (next_row (λ n f. on_from inner n f cs) inner e cs r)
      by_row (Row.Test p) s = misfit_none fits none refl
      by_row (Row.Bracket n) s = misfit_none fits none refl
      by_row Row.Not s = s 0 (negating e) h
      by_row (Row.Connect o n) s = by_part (inner (take n cs))
        where
          by_part : (a : maybe.Option Expression) → Misfit fits (and_then a (λ f. on_from inner n (joining o e f) cs))
          by_part none = misfit_none fits none refl
          by_part (some f) = s n (joining o e f) (rw h)
      by_row Row.Unknown s = misfit_none fits none refl
  on_misfits (suc n) e (d ∷ cs) h = on_misfits n e cs h

  then_misfits : (o : maybe.Option Expression) (n : ℕ) (then : Expression → Expression) (cs : List ℕ) → ((f : Expression) → o ≡ some f → fits (then f) ≡ false) → Misfit fits (and_then o (λ f. on_from inner n (then f) cs))
  then_misfits none n then cs h = misfit_none fits none refl
  then_misfits (some f) n then cs h = on_misfits n (then f) cs (h f refl)

  -- ---- a turn of the loop

  module _ (rows : List ℕ) (at : ℕ) (shape : Shape) (s : InHand kinds parents xs c k rows at shape) where
    pub hand_few_tests : length rows ≤ 320 → shape.tests ≤ 320
    hand_few_tests few = omega (arith, few, s.within, s.few_tests)

    pub hand_few_levels : length rows ≤ 320 → shape.chain ≤ 320
    hand_few_levels few = omega (arith, few, s.within, s.few_levels)

    pub hand_end : length rows ≤ at → Some shape ≡ shape_by fits (stated_in (suc k) rows)
    unfolding on_from
    hand_end h =
        let n : at ≡ length rows = omega (arith, h, s.within) in
        let all : stated_in (suc k) rows ≡ some s.expression = s.rest ∙ ap (on_from inner 0 s.expression) (ap (λ (m : ℕ). drop m rows) n ∙ drop-length rows) in
        ap Some s.is ∙ sym (ap (shape_by fits) all ∙ ap (λ (b : Bool). cond b (Some (shape_of s.expression)) None) s.fits)

    module _ (l : at < length rows) (q : Row) (i : q ≡ row_of (get_or rows at 0)) where
      abbrev behind : List ℕ
      behind = drop (suc at) rows

      next : (p : Row) → q ≡ p → stated_in (suc k) rows ≡ next_row (λ n f. on_from inner n f behind) inner s.expression behind p
      next p j = s.rest ∙ ap (on_from inner 0 s.expression) (drop-cons rows at 0 l) ∙ on_row inner s.expression (get_or rows at 0) behind p (sym i ∙ j)

      no_more : (p : Row) → q ≡ p → Misfit fits (next_row (λ n f. on_from inner n f behind) inner s.expression behind p) → None ≡ shape_by fits (stated_in (suc k) rows)
      no_more p j m = misfit_nothing fits (stated_in (suc k) rows) (misfit_same fits (stated_in (suc k) rows) (next_row (λ n f. on_from inner n f behind) inner s.expression behind p) (next p j) m)

      pub hand_other : (q ≡ Row.Not → ⊥) → ((o : Connective) (n : ℕ) → q ≡ Row.Connect o n → ⊥) → None ≡ shape_by fits (stated_in (suc k) rows)
      hand_other t b = by_row q refl
        where
          by_row : (p : Row) → q ≡ p → None ≡ shape_by fits (stated_in (suc k) rows)
          by_row (Row.Test p) j = no_more (Row.Test p) j (misfit_none fits none refl)
          by_row (Row.Bracket n) j = no_more (Row.Bracket n) j (misfit_none fits none refl)
          by_row Row.Not j = absurd (t j)
          by_row (Row.Connect o n) j = absurd (b o n j)
          by_row Row.Unknown j = no_more Row.Unknown j (misfit_none fits none refl)

      pub hand_not : (r : Shape) → q ≡ Row.Not → r ≡ deeper_shape shape 0 → InHand kinds parents xs c k rows (at + 1) r
      unfolding shape_of fits_in
      hand_not r j e =
          let one : suc at ≡ at + 1 = omega arith in
          let tests : r.tests ≡ shape.tests + 0 = ap (λ (x : Shape). x.tests) e in
          let chain : r.chain ≡ shape.chain + 1 = ap (λ (x : Shape). x.chain) e in
          record {
            expression = negating s.expression;
            rest = next Row.Not j ∙ ap (λ (m : ℕ). on_from inner 0 (negating s.expression) (drop m rows)) one;
            fits = s.fits;
            is = e ∙ ap (λ (x : Shape). deeper_shape x 0) s.is;
            within = omega (arith, l);
            few_tests = omega (arith, tests, s.few_tests);
            few_levels = omega (arith, chain, s.few_levels);
          }

      module _ (o : Connective) (n : ℕ) (j : q ≡ Row.Connect o n) where
        pub hand_large : length rows - (at + 1) < n → None ≡ shape_by fits (stated_in (suc k) rows)
        hand_large h =
            no_more (Row.Connect o n) j
            (misfit_none fits (and_then (inner (take n behind)) (λ f. on_from inner n (joining o s.expression f) behind))
            (then_short (inner (take n behind)) n (λ f. joining o s.expression f) behind (omega (arith, h, length-drop (suc at) rows))))

        module _ (room : n ≤ length rows - (at + 1)) where
          abbrev second_rows : List ℕ
          second_rows = part rows (at + 1) (at + 1 + n)

          part_is : second_rows ≡ take n behind
          part_is =
              let size : at + 1 + n - (at + 1) ≡ n = omega arith in
              let from : at + 1 ≡ suc at = omega arith in
              ap₂ (λ (a b : ℕ). take a (drop b rows)) size from

          second-size : length second_rows ≡ n
          second-size = part_length rows (at + 1) (at + 1 + n) (omega (arith, l, room)) ∙ (omega arith)

          module _ (b : Option Shape) (h : b ≡ shape_by fits (stated_in k second_rows)) where
            pub hand_nothing : b ≡ None → None ≡ shape_by fits (stated_in (suc k) rows)
            unfolding fits_in
            hand_nothing z =
                no_more (Row.Connect o n) j
                (then_misfits (inner (take n behind)) n (λ f. joining o s.expression f) behind
                (λ f g. ap (λ (t : Bool). fits s.expression && t) ((not_found fits (stated_in k second_rows) b h z).each f (ap inner part_is ∙ g)) ∙ nothing (fits s.expression)))
              where
                nothing : (t : Bool) → (t && false) ≡ false
                nothing true = refl
                nothing false = refl

            pub hand_join : (d r : Shape) → b ≡ Some d → r ≡ joined_shape shape d → InHand kinds parents xs c k rows (at + 1 + n) r
            unfolding shape_of fits_in
            hand_join d r z e =
                let w = found fits k second_rows b h d z in
                let f : Expression = w.expression in
                let g : Expression = joining o s.expression f in
                let to : suc at + n ≡ at + 1 + n = omega arith in
                let tests : r.tests ≡ shape.tests + d.tests = ap (λ (x : Shape). x.tests) e in
                let chain : r.chain ≡ larger shape.chain d.item = ap (λ (x : Shape). x.chain) e in
                record {
                  expression = g;
                  rest = next (Row.Connect o n) j
                      ∙ ap (λ (a : maybe.Option Expression). and_then a (λ f. on_from inner n (joining o s.expression f) behind)) (ap inner (sym part_is) ∙ w.states)
                      ∙ on_skip inner n g behind (omega (arith, room, length-drop (suc at) rows))
                      ∙ ap (on_from inner 0 g) (drop-drop n (suc at) rows ∙ ap (λ (m : ℕ). drop m rows) to);
                  fits = ap₂ (λ (x y : Bool). x && y) s.fits w.fitting;
                  is = e ∙ ap₂ joined_shape s.is w.is;
                  within = omega (arith, l, room);
                  few_tests = omega (arith, tests, s.few_tests, w.few_tests, second-size);
                  few_levels = larger_most shape.chain d.item (at + 1 + n) r.chain (omega (arith, s.few_levels)) (omega (arith, w.few_brackets, second-size)) chain;
                }

  -- ---- the first test

  first_step : (rows : List ℕ) → 1 ≤ length rows → (p : Row) → row_of (get_or rows 0 0) ≡ p → stated_in (suc k) rows ≡ by_first inner (drop 1 rows) p
  unfolding stated_in
  first_step rows z p j = ap (whole_by inner) (drop-cons rows 0 0 (omega (arith, z))) ∙ ap (by_first inner (drop 1 rows)) j

  module _ (rows : List ℕ) (z : 1 ≤ length rows) where
    no_first : (p : Row) → row_of (get_or rows 0 0) ≡ p → Misfit fits (by_first inner (drop 1 rows) p) → Began kinds parents xs c k rows None
    no_first p j m = began_nothing (misfit_same fits (stated_in (suc k) rows) (by_first inner (drop 1 rows) p) (first_step rows z p j) m)

    module _ (q : Row) (i : q ≡ row_of (get_or rows 0 0)) where
      module _ (p : Probe) (j : q ≡ Row.Test p) (t : Bool) (h : t ≡ (probe_fits kinds xs p && eqb (get_or parents p.index 0) c)) where
        pub first_misfits : t ≡ false → Began kinds parents xs c k rows None
        unfolding fits_in
        first_misfits y = no_first (Row.Test p) (sym i ∙ j) (on_misfits 0 (probing p) (drop 1 rows) (sym h ∙ y))

        pub first_fits : t ≡ true → Began kinds parents xs c k rows (Some (record { shape = record { tests = 1; chain = 0; item = 0 }; next = 1 }))
        unfolding shape_of fits_in
        first_fits y =
            began_at
            (record {
              expression = probing p;
              rest = first_step rows z (Row.Test p) (sym i ∙ j);
              fits = sym h ∙ y;
              is = refl;
              within = z;
              few_tests = omega arith;
              few_levels = omega arith;
            })

      pub first_other : ((p : Probe) → q ≡ Row.Test p → ⊥) → ((n : ℕ) → q ≡ Row.Bracket n → ⊥) → Began kinds parents xs c k rows None
      first_other t b = by_row q refl
        where
          by_row : (p : Row) → q ≡ p → Began kinds parents xs c k rows None
          by_row (Row.Test p) j = absurd (t p j)
          by_row (Row.Bracket n) j = absurd (b n j)
          by_row Row.Not j = no_first Row.Not (sym i ∙ j) (misfit_none fits none refl)
          by_row (Row.Connect o n) j = no_first (Row.Connect o n) (sym i ∙ j) (misfit_none fits none refl)
          by_row Row.Unknown j = no_first Row.Unknown (sym i ∙ j) (misfit_none fits none refl)

      -- there are no brackets in brackets
      pub first-inside : (n : ℕ) → q ≡ Row.Bracket n → 0 < c → Began kinds parents xs c k rows None
      unfolding fits_in
      first-inside n j h = no_first (Row.Bracket n) (sym i ∙ j) (by_rows (drop 1 rows))
        where
          by_row : (ds : List ℕ) (r : Row) → Misfit fits (after_brackets inner n ds r)
          by_row ds (Row.Test p) = then_misfits (inner (take n ds)) n (λ e. choosing e p) ds (λ e g. rw (ne_eqb c 0 (λ y. omega (arith, h, y))))
          by_row ds (Row.Bracket m) = misfit_none fits none refl
          by_row ds Row.Not = misfit_none fits none refl
          by_row ds (Row.Connect o m) = misfit_none fits none refl
          by_row ds Row.Unknown = misfit_none fits none refl

          by_rows : (ds : List ℕ) → Misfit fits (in_brackets inner n ds)
          by_rows [] = misfit_none fits none refl
          by_rows (d ∷ ds) = by_row ds (row_of d)

      pub first_bracket : (n : ℕ) (r : Option Begun) → q ≡ Row.Bracket n → c ≤ 0 → BeganInBrackets kinds parents xs k rows n r → Began kinds parents xs c k rows r
      first_bracket n r j top b = let scope : 0 ≡ c = omega arith in subst (λ (x : ℕ). Began kinds parents xs x k rows r) scope (b.began (sym i ∙ j) z)

-- ---- a test after brackets

module _ (kinds parents xs : List ℕ) (k : ℕ) (rows : List ℕ) (n : ℕ) where
  abbrev top : Expression → Bool
  top = fits_in kinds parents xs 0

  abbrev within : List ℕ → maybe.Option Expression
  within l = stated_in k l

  no_brackets : Misfit top (in_brackets within n (drop 1 rows)) → BeganInBrackets kinds parents xs k rows n None
  no_brackets m = record { began = λ i z. no_first kinds parents xs 0 k rows z (Row.Bracket n) i m }

  too_short : length (drop 1 rows) < n + 1 → BeganInBrackets kinds parents xs k rows n None
  too_short h = no_brackets (misfit_none top (in_brackets within n (drop 1 rows)) (by_rows (drop 1 rows) h))
    where
      by_row : (ds : List ℕ) → length ds < n → (r : Row) → after_brackets within n ds r ≡ none
      by_row ds h (Row.Test p) = then_short kinds parents xs 0 k (within (take n ds)) n (λ e. choosing e p) ds h
      by_row ds h (Row.Bracket m) = refl
      by_row ds h Row.Not = refl
      by_row ds h (Row.Connect o m) = refl
      by_row ds h Row.Unknown = refl

      by_rows : (ds : List ℕ) → length ds < n + 1 → in_brackets within n ds ≡ none
      by_rows [] h = refl
      by_rows (d ∷ ds) h = by_row ds (omega (arith, h)) (row_of d)

  pub brackets_short : length rows < 2 → BeganInBrackets kinds parents xs k rows n None
  brackets_short h = too_short (omega (arith, h, length-drop 1 rows))

  pub brackets_large : length rows - 2 < n → BeganInBrackets kinds parents xs k rows n None
  brackets_large h = too_short (omega (arith, h, length-drop 1 rows))

  module _ (two : 2 ≤ length rows) (b : ℕ) (m : b ≡ member_by kinds parents xs (row_of (get_or rows 1 0))) where
    -- by the row of the test and the rows behind it
    rest_is : in_brackets within n (drop 1 rows) ≡ after_brackets within n (drop 2 rows) (row_of (get_or rows 1 0))
    rest_is = ap (in_brackets within n) (drop-cons rows 1 0 (omega (arith, two)))

    after_misfits : Misfit top (after_brackets within n (drop 2 rows) (row_of (get_or rows 1 0))) → BeganInBrackets kinds parents xs k rows n None
    after_misfits w = no_brackets (misfit_same top (in_brackets within n (drop 1 rows)) (after_brackets within n (drop 2 rows) (row_of (get_or rows 1 0))) rest_is w)

    pub brackets_no_member : b ≡ 0 → BeganInBrackets kinds parents xs k rows n None
    unfolding fits_in
    brackets_no_member y = after_misfits (by_row (row_of (get_or rows 1 0)) (sym m ∙ y))
      where
        by_row : (r : Row) → member_by kinds parents xs r ≡ 0 → Misfit top (after_brackets within n (drop 2 rows) r)
        by_row (Row.Test p) h = then_misfits kinds parents xs 0 k (within (take n (drop 2 rows))) n (λ e. choosing e p) (drop 2 rows) (λ e g. rw h)
        by_row (Row.Bracket j) h = misfit_none top none refl
        by_row Row.Not h = misfit_none top none refl
        by_row (Row.Connect o j) h = misfit_none top none refl
        by_row Row.Unknown h = misfit_none top none refl

    module _ (some-bundle : b ≡ 0 → ⊥) (room : n ≤ length rows - 2) (a : Option Shape) (h : a ≡ shape_by (fits_in kinds parents xs b) (stated_in k (part rows 2 (n + 2)))) where
      inner_is : part rows 2 (n + 2) ≡ take n (drop 2 rows)
      inner_is = let size : n + 2 - 2 ≡ n = omega arith in ap (λ (j : ℕ). take j (drop 2 rows)) size

      inner-size : length (part rows 2 (n + 2)) ≡ n
      inner-size = part_length rows 2 (n + 2) (omega (arith, room, two)) ∙ (omega arith)

      the_test : (r : Row) → member_by kinds parents xs r ≡ b → (p : Probe) × ((r ≡ Row.Test p) × (member_of kinds parents xs p ≡ b))
      the_test (Row.Test p) e = (p, (refl, e))
      the_test (Row.Bracket j) e = absurd (some-bundle (sym e))
      the_test Row.Not e = absurd (some-bundle (sym e))
      the_test (Row.Connect o j) e = absurd (some-bundle (sym e))
      the_test Row.Unknown e = absurd (some-bundle (sym e))

      fits-same : (p : Probe) → member_of kinds parents xs p ≡ b → (e : Expression) → top (choosing e p) ≡ fits_in kinds parents xs b e
      unfolding fits_in
      fits-same p i e = rw (i, ne_eqb b 0 some-bundle)

      pub brackets_nothing : a ≡ None → BeganInBrackets kinds parents xs k rows n None
      brackets_nothing i =
          let t = the_test (row_of (get_or rows 1 0)) (sym m) in
          let p : Probe = t.0 in
          after_misfits
          (misfit_same top (after_brackets within n (drop 2 rows) (row_of (get_or rows 1 0))) (after_brackets within n (drop 2 rows) (Row.Test p)) (ap (after_brackets within n (drop 2 rows)) t.1.0)
          (then_misfits kinds parents xs 0 k (within (take n (drop 2 rows))) n (λ e. choosing e p) (drop 2 rows)
          (λ e g. fits-same p t.1.1 e ∙ (not_found (fits_in kinds parents xs b) (stated_in k (part rows 2 (n + 2))) a h i).each e (ap within inner_is ∙ g))))

      pub brackets_found : (d r : Shape) → a ≡ Some d → r ≡ deeper_shape d 1 → BeganInBrackets kinds parents xs k rows n (Some (record { shape = r; next = n + 2 }))
      unfolding shape_of
      brackets_found d r i e =
          let t = the_test (row_of (get_or rows 1 0)) (sym m) in
          let p : Probe = t.0 in
          let w = found (fits_in kinds parents xs b) k (part rows 2 (n + 2)) a h d i in
          let f : Expression = choosing w.expression p in
          let to : 2 + n ≡ n + 2 = omega arith in
          let tests : r.tests ≡ d.tests + 1 = ap (λ (x : Shape). x.tests) e in
          let chain : r.chain ≡ d.chain + 1 = ap (λ (x : Shape). x.chain) e in
          record {
            began = λ j z. began_at
                (record {
                  expression = f;
                  rest = first_step kinds parents xs 0 k rows z (Row.Bracket n) j ∙ rest_is ∙ ap (after_brackets within n (drop 2 rows)) t.1.0
                      ∙ ap (λ (x : maybe.Option Expression). and_then x (λ e. on_from within n (choosing e p) (drop 2 rows))) (ap within (sym inner_is) ∙ w.states)
                      ∙ on_skip within n f (drop 2 rows) (omega (arith, room, two, length-drop 2 rows))
                      ∙ ap (on_from within 0 f) (drop-drop n 2 rows ∙ ap (λ (x : ℕ). drop x rows) to);
                  fits = fits-same p t.1.1 w.expression ∙ w.fitting;
                  is = e ∙ ap (λ (x : Shape). deeper_shape x 1) w.is;
                  within = omega (arith, room, two);
                  few_tests = omega (arith, tests, w.few_tests, inner-size);
                  few_levels = omega (arith, chain, w.few_levels, inner-size);
                });
          }

-- ---- all rows

module _ (fits : Expression → Bool) (rows : List ℕ) (k : ℕ) where
  pub no_calls : k ≡ 0 → None ≡ shape_by fits (stated_in k rows)
  unfolding stated_in
  no_calls e = rw e

  pub no_rows : length rows ≡ 0 → None ≡ shape_by fits (stated_in k rows)
  unfolding stated_in
  no_rows e = by_calls k rows e
    where
      by_calls : (j : ℕ) (l : List ℕ) → length l ≡ 0 → None ≡ shape_by fits (stated_in j l)
      by_calls zero l z = refl
      by_calls (suc j) [] z = refl
      by_calls (suc j) (d ∷ l) z = absurd (omega (arith, z))

module _ (kinds parents xs : List ℕ) (c : ℕ) (rows : List ℕ) (k : ℕ) (some-calls : k ≡ 0 → ⊥) where
  calls_are : suc (k - 1) ≡ k
  calls_are = omega (arith, some-calls)

  pub began_read : (r : Option Shape) → r ≡ shape_by (fits_in kinds parents xs c) (stated_in (suc (k - 1)) rows) → r ≡ shape_by (fits_in kinds parents xs c) (stated_in k rows)
  began_read r e = e ∙ ap (λ (m : ℕ). shape_by (fits_in kinds parents xs c) (stated_in m rows)) calls_are

  pub began_none : (b : Option Begun) → Began kinds parents xs c (k - 1) rows b → b ≡ None → None ≡ shape_by (fits_in kinds parents xs c) (stated_in k rows)
  began_none (Some s) (began_at w) j = let z : ◌≡◌ {A = ℕ} 0 1 = cc in absurd (omega (arith, z))
  began_none None (began_nothing w) j = began_read None (misfit_nothing (fits_in kinds parents xs c) (stated_in (suc (k - 1)) rows) w)

pub began_hand : (kinds parents xs : List ℕ) (c k : ℕ) (rows : List ℕ) (b : Option Begun) → Began kinds parents xs c k rows b → (s : Begun) → b ≡ Some s → InHand kinds parents xs c k rows s.next s.shape
began_hand kinds parents xs c k rows (Some r) (began_at w) s j =
    let same : r ≡ s = cc in
    subst (λ (y : Begun). InHand kinds parents xs c k rows y.next y.shape) same w
began_hand kinds parents xs c k rows None (began_nothing w) s j = let z : ◌≡◌ {A = ℕ} 0 1 = cc in absurd (omega (arith, z))
