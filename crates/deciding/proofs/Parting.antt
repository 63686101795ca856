-- Rows that state an expression, from left to right: the expression in hand is what the rows before state, and a second part states one too.
-- Assumes nothing.
use Prim.Native.Nat.{ℕ, suc, ◌+◌, ◌-◌, ◌≤◌, ◌<◌}
use native.Mathlib.Omega.{arith}
use mathlib.Core.Path.{◌≡◌, refl, sym, ap, ap₂, subst, ◌∙◌}
use mathlib.Core.Option.{none, some, none-ne-some}
use mathlib.Core.List.{List, [], ◌∷◌, ◌++◌}
use lib.ListN.{length, get_or, take, drop, length-append, length-drop}
use lib.Seq.{drop-cons, drop-drop, drop-length, take_at}
use mir.Syntax.{w64}
use mir.Val.{Fits}
use Rattle.base.specs.Parts.{part}
use Rattle.base.proofs.Parts.{part_length}
use Rattle.syntax.specs.declared.Connective.{Connective}
use Rattle.rows.specs.Expression.{Expression, probing, choosing, joining, negating}
use Rattle.rows.specs.Cells.{row_of, encode, Sayable, writable_test, writable_bracket, writable_join, writable_not, next_row, on_from, after_brackets, in_brackets, by_first, whole_by, stated}
use Rattle.rows.specs.declared.Probe.{Probe}
use Rattle.rows.specs.declared.Row.{Row}
use Rattle.rows.proofs.Cells.{RowSayable, row_sayable}
use Rattle.rows.proofs.Stating.{rows_some, stated-cells, stated_are, stated-encode, stated-step, on_skip, on_row, on-cells, then_some, Then}
use Rattle.row_judge.specs.Saying.{Whole}
use Rattle.deciding.specs.Rows.{single_test, single_bracket, Reading, Starts}

module _ {rows : List ℕ} (w : Whole rows) where
  pub whole_some : 1 ≤ length rows
  whole_some = omega (arith, rows_some w.expression, ap length (stated-cells rows w.expression w.states))

  -- what is in hand is what the rows before state
  module _ (at : ℕ) (e : Expression) (s : Reading rows at e) where
    pub part_states : stated (take at rows) ≡ some e
    part_states =
        let o = on-cells stated stated_are 0 e (drop at rows) w.expression (sym s.rest ∙ w.states) in
        let all : encode e ++ drop at rows ≡ rows = o.are ∙ sym (stated-cells rows w.expression w.states) in
        let size : length (encode e) ≡ at = omega (arith, length-append (encode e) (drop at rows), ap length all, length-drop at rows, s.within) in
        ap (λ (l : List ℕ). stated (take at l)) (sym all) ∙ ap stated (take_at (encode e) (drop at rows) at size) ∙ stated-encode e s.writable

    pub part-whole : Whole (take at rows)
    part-whole = record { expression = e; states = part_states }

    pub all_states : length rows ≤ at → stated rows ≡ some e
    unfolding on_from
    all_states h =
        let n : at ≡ length rows = omega (arith, h, s.within) in
        s.rest ∙ ap (on_from stated 0 e) (ap (λ (m : ℕ). drop m rows) n ∙ drop-length rows)

    module _ (l : at < length rows) (r : Row) (i : r ≡ row_of (get_or rows at 0)) where
      abbrev behind : List ℕ
      behind = drop (suc at) rows

      next : (p : Row) → r ≡ p → stated rows ≡ next_row (λ n f. on_from stated n f behind) stated e behind p
      next p j = s.rest ∙ ap (on_from stated 0 e) (drop-cons rows at 0 l) ∙ on_row stated e (get_or rows at 0) behind p (sym i ∙ j)

      -- no other row is there than not and a connective
      pub no_other : {A : Type 0} → (r ≡ Row.Not → ⊥) → ((c : Connective) (n : ℕ) → r ≡ Row.Connect c n → ⊥) → A
      no_other no_not no_connect = absurd (none-ne-some _ (sym (by_row r refl) ∙ w.states))
        where
          by_row : (p : Row) → r ≡ p → stated rows ≡ none
          by_row (Row.Test p) j = next (Row.Test p) j
          by_row (Row.Bracket n) j = next (Row.Bracket n) j
          by_row Row.Not j = absurd (no_not j)
          by_row (Row.Connect c n) j = absurd (no_connect c n j)
          by_row Row.Unknown j = next Row.Unknown j

      pub reading_not : r ≡ Row.Not → Reading rows (at + 1) (negating e)
      reading_not j =
          let one : suc at ≡ at + 1 = omega arith in
          record { within = omega (arith, l); writable = writable_not s.writable; rest = next Row.Not j ∙ ap (λ (m : ℕ). on_from stated 0 (negating e) (drop m rows)) one }

      module _ (c : Connective) (n : ℕ) (j : r ≡ Row.Connect c n) where
        second : Then (stated (take n behind)) (λ f. on_from stated n (joining c e f) behind) w.expression
        second = then_some (stated (take n behind)) (λ f. on_from stated n (joining c e f) behind) w.expression (sym (next (Row.Connect c n) j) ∙ w.states)

        pub second_room : at + 1 + n ≤ length rows
        second_room = let o = on-cells stated stated_are n (joining c e second.expression) behind w.expression second.then_is in omega (arith, l, o.enough, length-drop (suc at) rows)

        abbrev second_rows : List ℕ
        second_rows = part rows (at + 1) (at + 1 + n)

        second_are : second_rows ≡ take n behind
        second_are =
            let size : at + 1 + n - (at + 1) ≡ n = omega arith in
            let from : at + 1 ≡ suc at = omega arith in
            ap₂ (λ (a b : ℕ). take a (drop b rows)) size from

        pub second-whole : Whole second_rows
        second-whole = record { expression = second.expression; states = ap stated second_are ∙ second.has }

        pub second-size : length second_rows ≡ n
        second-size = part_length rows (at + 1) (at + 1 + n) second_room ∙ (omega arith)

        pub reading-join : Reading rows (at + 1 + n) (joining c e second-whole.expression)
        unfolding second second-whole
        reading-join =
            let f : Expression = second.expression in
            let to : suc at + n ≡ at + 1 + n = omega arith in
            record {
              within = second_room;
              writable = writable_join s.writable (stated_are (take n behind) f second.has).writable;
              rest = w.states ∙ sym second.then_is ∙ on_skip stated n (joining c e f) behind (omega (arith, second_room, length-drop (suc at) rows))
                  ∙ ap (on_from stated 0 (joining c e f)) (drop-drop n (suc at) rows ∙ ap (λ (m : ℕ). drop m rows) to);
            }

  -- the first test
  module _ (r : Row) (i : r ≡ row_of (get_or rows 0 0)) where
    first_step : (p : Row) → r ≡ p → stated rows ≡ by_first stated (drop 1 rows) p
    first_step p j =
        let split : rows ≡ get_or rows 0 0 ∷ drop 1 rows = drop-cons rows 0 0 (omega (arith, whole_some)) in
        stated-step rows ∙ ap (whole_by stated) split ∙ ap (by_first stated (drop 1 rows)) (sym i ∙ j)

    starts_test : (p : Probe) → r ≡ Row.Test p → Starts rows 1
    starts_test p j =
        let sayable : Sayable p = subst RowSayable (sym i ∙ j) (row_sayable (get_or rows 0 0)) in
        record { expression = probing p; single = single_test; reading = record { within = whole_some; writable = writable_test sayable; rest = first_step (Row.Test p) j }; some_rows = omega arith }

    -- rows begin with a test or with brackets
    pub starts_other : ((n : ℕ) → r ≡ Row.Bracket n → ⊥) → Starts rows 1
    starts_other no_bracket = by_row r refl
      where
        none_stated : (p : Row) → r ≡ p → by_first stated (drop 1 rows) p ≡ none → Starts rows 1
        none_stated p j k = absurd (none-ne-some _ (sym (first_step p j ∙ k) ∙ w.states))

        by_row : (p : Row) → r ≡ p → Starts rows 1
        by_row (Row.Test p) j = starts_test p j
        by_row (Row.Bracket n) j = absurd (no_bracket n j)
        by_row Row.Not j = none_stated Row.Not j refl
        by_row (Row.Connect c n) j = none_stated (Row.Connect c n) j refl
        by_row Row.Unknown j = none_stated Row.Unknown j refl

    starts_bracket : (n : ℕ) → r ≡ Row.Bracket n → (n + 2 ≤ length rows) × Starts rows (n + 2)
    starts_bracket n j = by_rest (drop 1 rows) refl
      where
        by_rest : (ds : List ℕ) → drop 1 rows ≡ ds → (n + 2 ≤ length rows) × Starts rows (n + 2)
        by_rest [] y = absurd (none-ne-some _ (sym (first_step (Row.Bracket n) j ∙ ap (in_brackets stated n) y) ∙ w.states))
        by_rest (d ∷ ds) y = by_row (row_of d) refl
          where
            states : (q : Row) → row_of d ≡ q → after_brackets stated n ds q ≡ some w.expression
            states q g = sym (first_step (Row.Bracket n) j ∙ ap (in_brackets stated n) y ∙ ap (after_brackets stated n ds) g) ∙ w.states

            by_row : (q : Row) → row_of d ≡ q → (n + 2 ≤ length rows) × Starts rows (n + 2)
            by_row (Row.Test p) g =
                let t = then_some (stated (take n ds)) (λ e. on_from stated n (choosing e p) ds) w.expression (states (Row.Test p) g) in
                let e : Expression = t.expression in
                let o = on-cells stated stated_are n (choosing e p) ds w.expression t.then_is in
                let sayable : Sayable p = subst RowSayable g (row_sayable d) in
                let room : n + 2 ≤ length rows = omega (arith, o.enough, length-drop 1 rows, ap length y) in
                let to : 1 + suc n ≡ n + 2 = omega arith in
                let left : drop n ds ≡ drop (n + 2) rows = sym (ap (drop (suc n)) y) ∙ drop-drop (suc n) 1 rows ∙ ap (λ (m : ℕ). drop m rows) to in (
                  room,
                  record {
                    expression = choosing e p;
                    single = single_bracket;
                    reading = record {
                      within = room;
                      writable = writable_bracket (stated_are (take n ds) e t.has).writable sayable;
                      rest = w.states ∙ sym t.then_is ∙ on_skip stated n (choosing e p) ds o.enough ∙ ap (on_from stated 0 (choosing e p)) left;
                    };
                    some_rows = omega arith;
                  },
                )
            by_row (Row.Bracket m) g = absurd (none-ne-some _ (states (Row.Bracket m) g))
            by_row Row.Not g = absurd (none-ne-some _ (states Row.Not g))
            by_row (Row.Connect c m) g = absurd (none-ne-some _ (states (Row.Connect c m) g))
            by_row Row.Unknown g = absurd (none-ne-some _ (states Row.Unknown g))

    pub starts-behind : (n : ℕ) → r ≡ Row.Bracket n → Starts rows (n + 2)
    starts-behind n j = (starts_bracket n j).1

    pub bracket_fits : (n : ℕ) → r ≡ Row.Bracket n → length rows ≤ 320 → Fits w64 (n + 2)
    bracket_fits n j few = omega (arith, (starts_bracket n j).0)
