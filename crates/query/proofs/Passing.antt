-- The loop of `read_query`: the rows keep the pairs so far, and those that are left make the query.
-- The invariant `Pass`: the rows keep the pairs so far, and the definition, from the start of the text, comes to these pairs and then to
-- what it reads from the position reached on (`left`). A turn takes the part up to the next ampersand, which is the definition's own cut
-- (`read_next`). Either it is no pair, and the definition stops there with 50 (`pass_bad`), or its alternatives are kept (file Holding):
-- then one pair more is done (`pass-next`), and where the part was the last, all of them (`pass-ends`).
-- Assumes nothing.
use Rattle.std.specs.Prelude.{Option, Some, None, Ok, Err}
use Prim.Native.Nat.{ℕ, zero, suc, ◌+◌, ◌-◌, ◌≤◌, ◌<◌}
use native.Mathlib.Nat.{zero-add}
use native.Mathlib.Omega.{arith}
use mathlib.Core.Path.{◌≡◌, refl, ap, sym, ◌∙◌, subst}
use mathlib.Core.Bool.{Bool, true, false, cond}
use mathlib.Core.List.{List, [], ◌∷◌, ◌++◌, map, append_assoc, append-nil}
use lib.Dec.{ltb}
use lib.ListN.{length, take, drop, length-append, length-drop, drop_of_length-le}
use lib.Seq.{take-append_seam, length-take-le, drop-append-add, drop-drop}
use borrow.Author.Tests.{lt-ltb, le-ltb, ltb-true, ltb-false}
use Rattle.base.specs.Lists.{all_empty}
use Rattle.base.specs.Parts.{part}
use Rattle.base.specs.Runs.{run, run_end, differs, RunEnd}
use Rattle.base.proofs.Parts.{part_length}
use Rattle.refusal.specs.declared.Reason.{Reason}
use Rattle.refusal.specs.Steps.{Step, found, stop, ◌>>=◌}
use Rattle.query.specs.Spelling.{Alternative, Query}
use Rattle.query.specs.Reader.{signs_of, read_pair, read_pairs, cut_signs, alternative}
use Rattle.query.specs.Scan.{PairOf, pair-of, pair_of_none}
use Rattle.query.specs.Rows.{Kept, keep_pair, keep_all, Keeps, PairHeld, QueryOf, query_of, query_of_none}
use Rattle.query.specs.declared.PairLengths.{PairLengths}
use Rattle.query.specs.declared.Rows.{Rows}
use Rattle.query.specs.declared.Held.{Held}
use Rattle.query.proofs.Holding.{keeps_on}

-- the pairs before what is left
abbrev pub after : Query → Step Query → Step Query
after done (found q) = found (done ++ q)
after done (stop n p) = stop n p

after_next : (done : Query) (a : List Alternative) (r : Step Query) → after done (r >>= λ q. found (a ∷ q)) ≡ after (done ++ (a ∷ [])) r
after_next done a (found q) = ap found (sym (append_assoc done (a ∷ []) q))
after_next done a (stop n p) = refl

after_none : (r : Step Query) → r ≡ after [] r
after_none (found q) = refl
after_none (stop n p) = refl

keep_more : (done : Query) (a : List Alternative) → keep_all (done ++ (a ∷ [])) ≡ keep_all done ++ keep_pair a
unfolding keep_all
keep_more [] a = append-nil (keep_pair a)
keep_more (p ∷ done) a = ap (λ (l : List Kept). keep_pair p ++ l) (keep_more done a) ∙ sym (append_assoc (keep_pair p) (keep_all done) (keep_pair a))

-- ---- one pair of the text

module _ (text : List ℕ) (at end : ℕ) (e : RunEnd (differs 38) text at end) where
  here : run_end (differs 38) (drop at text) 0 ≡ end - at
  unfolding run_end
  here = zero-add (run (differs 38) (drop at text)) ∙ omega (arith, e.is)

  next_place : at + (end - at) + 1 ≡ end + 1
  next_place = omega (arith, e.from)

  next_rest : drop (end - at + 1) (drop at text) ≡ drop (end + 1) text
  next_rest =
      let n : at + (end - at + 1) ≡ end + 1 = omega (arith, e.from) in
      drop-drop (end - at + 1) at text ∙ ap (λ (j : ℕ). drop j text) n

  same_test : ltb (end - at) (length (drop at text)) ≡ ltb end (length text)
  same_test = by_test (ltb end (length text)) refl
    where
      by_test : (t : Bool) → ltb end (length text) ≡ t → ltb (end - at) (length (drop at text)) ≡ t
      by_test true k = lt-ltb (end - at) (length (drop at text)) (omega (arith, ltb-true end (length text) k, e.from, length-drop at text))
      by_test false k = le-ltb (end - at) (length (drop at text)) (omega (arith, ltb-false end (length text) k, e.from, length-drop at text))

  read_next : (n : ℕ) → read_pairs (suc n) at (drop at text)
      ≡ (read_pair at (part text at end) >>= λ a. cond (ltb end (length text)) (read_pairs n (end + 1) (drop (end + 1) text)) (found []) >>= λ q. found (a ∷ q))
  unfolding read_pairs
  read_next n = rw (here, same_test, next_place, next_rest)

-- ---- the loop

pub record Pass (text bytes₀ bytes : List ℕ) (rows : Rows) (used at : ℕ) : Type 0 where
  pub done : Query
  pub fuel : ℕ
  pub keeps : Keeps rows bytes used (keep_all done)
  pub enough : length text < at + fuel
  pub within : at ≤ length text
  pub left : read_pairs (suc (length text)) 0 text ≡ after done (read_pairs fuel at (drop at text))
  pub behind : used ≤ at
  pub counted : rows.count ≤ at
  pub short : length text ≤ 1024
  pub room : length text ≤ length bytes₀

pub pass-starts : (text bytes : List ℕ) (rows : Rows) → (rows.count ≡ 0) × (length rows.rows ≡ 32) → length text ≤ 1024 → length text ≤ length bytes → Pass text bytes bytes rows 0 0
unfolding keep_all
pass-starts text bytes rows h s r =
    record {
      done = [];
      fuel = suc (length text);
      keeps = record { count = h.0; cells = h.1; kept = λ n. rw h.0 refl; ends = λ n. rw h.0 all_empty };
      enough = omega arith;
      within = omega arith;
      left = after_none (read_pairs (suc (length text)) 0 text);
      behind = omega arith;
      counted = omega arith;
      short = s;
      room = r;
    }

module _ {text bytes₀ bytes : List ℕ} {rows : Rows} {used at : ℕ} (h : Pass text bytes₀ bytes rows used at) where
  pub pass-within : at ≤ length text
  pass-within = h.within

  module _ (end : ℕ) (e : RunEnd (differs 38) text at end) where
    size : length (part text at end) ≡ end - at
    size = part_length text at end e.within

    pub pass-less : (end ≡ length text → ⊥) → length text - (end + 1) < length text - at
    pass-less n = omega (arith, e.from, e.within)

    pub pair_in_value : (value : List ℕ) → length value ≡ 1024 → length (part text at end) ≤ length value
    pair_in_value value v = omega (arith, size, e.within, h.short)

    module _ (long : length bytes ≡ length bytes₀) where
      pub pass_used : used ≤ length bytes
      pass_used = omega (arith, h.behind, h.within, h.room, long)

      pub pair_in_bytes : length (part text at end) ≤ length (take (length bytes - used) (drop used bytes))
      pair_in_bytes = omega (arith, size, e.within, h.behind, h.room, long, length-take-le (length bytes - used) (drop used bytes) (omega (arith, length-drop used bytes)))

    -- the part is no pair
    pub pass_bad : (out value : List ℕ) (r : Option PairLengths) → PairOf (part text at end) out value r → r ≡ None → (bytes' : List ℕ) → QueryOf text bytes' (Err (record { reason = Reason.NoPair; place = at }))
    pass_bad out value r p k bytes' = by_case (subst (PairOf (part text at end) out value) k p)
      where
        by_fuel : (n : ℕ) → length text < at + n → read_pair at (part text at end) ≡ stop 50 at → read_pairs n at (drop at text) ≡ stop 50 at
        by_fuel zero l z = absurd (let w : at ≤ length text = h.within in omega arith)
        by_fuel (suc n) l z = read_next text at end e n ∙ rw z

        by_case : PairOf (part text at end) out value None → QueryOf text bytes' (Err (record { reason = Reason.NoPair; place = at }))
        by_case (pair_of_none z) = query_of_none (h.left ∙ ap (after h.done) (by_fuel h.fuel (h.enough) (z at)))

    pub pass_until : (out value : List ℕ) (sizes : PairLengths) (r : Option PairLengths) → PairOf (part text at end) out value r → r ≡ Some sizes → used + sizes.name < 18446744073709551616
    pass_until out value sizes r p is = by_case (subst (PairOf (part text at end) out value) is p)
      where
        by_case : PairOf (part text at end) out value (Some sizes) → used + sizes.name < 18446744073709551616
        by_case (pair-of z few) = omega (arith, size, few, e.within, h.behind, h.short)

    module _ (long : length bytes ≡ length bytes₀) (out value : List ℕ) (sizes : PairLengths) (r : Option PairLengths) (p : PairOf (part text at end) out value r) (is : r ≡ Some sizes) where
      lengths : sizes.name + sizes.value < end - at
      lengths = by_case (subst (PairOf (part text at end) out value) is p)
        where
          by_case : PairOf (part text at end) out value (Some sizes) → sizes.name + sizes.value < end - at
          by_case (pair-of z few) = omega (arith, size, few)

      pub pass_count : length value ≡ 1024 → length (take sizes.value value) ≡ sizes.value
      pass_count v = length-take-le sizes.value value (omega (arith, lengths, e.within, h.short))

      pub pass-value : length value ≡ 1024 → sizes.value ≤ length value
      pass-value v = omega (arith, lengths, e.within, h.short)

      abbrev named : List ℕ
      named = take used bytes ++ (out ++ drop (length bytes - used) (drop used bytes))

      pub pass_room : length value ≡ 1024 → length out ≡ length (take (length bytes - used) (drop used bytes)) → length (take sizes.value value) + (used + sizes.name) ≤ length named
      pass_room v l =
          let rest = drop (length bytes - used) (drop used bytes) in
          omega (arith, length-append (take used bytes) (out ++ rest), length-append out rest, l, length-take-le (length bytes - used) (drop used bytes) (omega (arith, length-drop used bytes)), length-take-le used bytes (pass_used long), length-drop used bytes, lengths, e.within, h.behind, h.room, long, length-take-le sizes.value value (pass-value v))

      pub pass_few : length value ≡ 1024 → rows.count + length (take sizes.value value) < 4000
      pass_few v = omega (arith, lengths, e.within, h.counted, h.within, h.short, length-take-le sizes.value value (pass-value v))

      width : length (take used bytes) ≡ used
      width = length-take-le used bytes (pass_used long)

      same_front : take used named ≡ take used bytes
      same_front = ap (λ (j : ℕ). take j named) (sym width) ∙ take-append_seam (take used bytes) (out ++ drop (length bytes - used) (drop used bytes))

      nothing_more : drop (length bytes - used) (drop used bytes) ≡ []
      nothing_more = drop_of_length-le (drop used bytes) {i = length bytes - used} (omega (arith, length-drop used bytes))

      name_there : part named used (used + sizes.name) ≡ take sizes.name out
      name_there =
          let w : used + sizes.name - used ≡ sizes.name = omega arith in
          ap (λ (j : ℕ). take j (drop used named)) w
          ∙ ap (λ (j : ℕ). take sizes.name (drop j named)) (sym width ∙ plus_zero (length (take used bytes)))
          ∙ ap (take sizes.name) (drop-append-add (take used bytes) (out ++ drop (length bytes - used) (drop used bytes)) 0)
          ∙ ap (λ (l : List ℕ). take sizes.name (out ++ l)) nothing_more ∙ ap (take sizes.name) (append-nil out)
        where
          plus_zero : (j : ℕ) → j ≡ j + 0
          plus_zero j = omega arith

      abbrev alternatives : List Alternative
      alternatives = map (alternative at (take sizes.name out)) (cut_signs (signs_of false (take sizes.value value)))

      read_here : read_pair at (part text at end) ≡ found alternatives
      read_here = by_case (subst (PairOf (part text at end) out value) is p)
        where
          by_case : PairOf (part text at end) out value (Some sizes) → read_pair at (part text at end) ≡ found alternatives
          by_case (pair-of z few) = z at

      read-on : (fuel : ℕ) → length text < at + fuel → (f : ℕ) × (fuel ≡ suc f)
      read-on zero l = absurd (let w : at ≤ length text = h.within in omega arith)
      read-on (suc f) l = (f, refl)

      whole : read_pairs (suc (length text)) 0 text ≡ after h.done (cond (ltb end (length text)) (read_pairs (read-on h.fuel (h.enough)).0 (end + 1) (drop (end + 1) text)) (found []) >>= λ q. found (alternatives ∷ q))
      whole =
          let f = (read-on h.fuel (h.enough)).0 in
          let step : read_pairs (suc f) at (drop at text) ≡ (cond (ltb end (length text)) (read_pairs f (end + 1) (drop (end + 1) text)) (found []) >>= λ q. found (alternatives ∷ q)) = read_next text at end e f ∙ rw read_here in
          h.left ∙ ap (λ (f : ℕ). after h.done (read_pairs f at (drop at text))) (read-on h.fuel (h.enough)).1
          ∙ ap (after h.done) step

      whole_on : (end ≡ length text → ⊥) → read_pairs (suc (length text)) 0 text ≡ after (h.done ++ (alternatives ∷ [])) (read_pairs (read-on h.fuel h.enough).0 (end + 1) (drop (end + 1) text))
      whole_on m = whole ∙ rw (lt-ltb end (length text) (omega (arith, e.within))) (after_next h.done alternatives (read_pairs (read-on h.fuel h.enough).0 (end + 1) (drop (end + 1) text)))

      whole_ends : end ≡ length text → read_pairs (suc (length text)) 0 text ≡ found (h.done ++ (alternatives ∷ []))
      whole_ends m = whole ∙ rw (le-ltb end (length text) (omega arith))

      module _ (v : length value ≡ 1024) (bytes' : List ℕ) (held : Held) (p' : PairHeld (take sizes.value value) at used (used + sizes.name) (used + sizes.name) named rows bytes' held) where
        kept : Keeps held.rows bytes' held.used (keep_all (h.done ++ (alternatives ∷ [])))
        kept =
            subst (Keeps held.rows bytes' held.used) (sym (keep_more h.done alternatives))
            (subst (λ (l : List ℕ). Keeps held.rows bytes' held.used (keep_all h.done ++ keep_pair (map (alternative at l) (cut_signs (signs_of false (take sizes.value value)))))) name_there
            (p'.keeps (keep_all h.done) (keeps_on named (used + sizes.name) h.keeps same_front (omega arith))))

        pub pass-next : (end ≡ length text → ⊥) → Pass text bytes₀ bytes' held.rows held.used (end + 1)
        pass-next m =
            record {
              done = h.done ++ (alternatives ∷ []);
              fuel = (read-on h.fuel h.enough).0;
              keeps = kept;
              enough = omega (arith, e.from, h.enough, (read-on h.fuel h.enough).1);
              within = omega (arith, e.within);
              left = whole_on m;
              behind = omega (arith, p'.upper, lengths, h.behind, e.from, length-take-le sizes.value value (pass-value v));
              counted = omega (arith, p'.count, lengths, h.counted, e.from, length-take-le sizes.value value (pass-value v));
              short = h.short;
              room = h.room;
            }

        pub pass-ends : end ≡ length text → length bytes' ≡ length bytes₀ → QueryOf text bytes' (Ok held.rows)
        pass-ends m long' = query_of held.used (omega (arith, p'.upper, lengths, h.behind, h.room, length-take-le sizes.value value (pass-value v))) (whole_ends m) kept
