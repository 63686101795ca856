-- What a run's selection comes to: its text, its turn, and how small its numbers are.
-- Assumes nothing.
use Rattle.std.specs.Prelude.{Err, Ok, Result, Option, Some, None}
use Prim.Native.Nat.{ℕ, ◌^◌, ◌≤◌, ◌<◌}
use native.Mathlib.Nat.{sub-zero}
use native.Mathlib.Omega.{arith}
use mathlib.Core.Path.{◌≡◌, refl, sym, ap, subst, ◌∙◌}
use mathlib.Core.Bool.{Bool, true, false, cond}
use mathlib.Core.List.{List, [], ◌++◌}
use lib.Dec.{ltb}
use lib.ListN.{length, get_or, take, drop, replicate, length-append}
use lib.Seq.{take_at}
use Rattle.base.specs.Parts.{part}
use Rattle.base.specs.Writing.{Room, Puts}
use Rattle.listing.proofs.Putting.{lines-length, count_room}
use Rattle.refusal.specs.declared.Refusal.{Refusal}
use Rattle.refusal.specs.Answers.{Answer, count, refused, number_of, refusal_answer, PlaceBound, counted_answer}
use Rattle.refusal.specs.Steps.{Step, found, stop, answer, ◌>>=◌}
use Rattle.sirophan.specs.Operations.{SelectsInto}
use Rattle.answer.specs.Operations.{filter_question, selection, select_by, cells_by, written, select_answer}
use Rattle.sirophan.proofs.Promises.{select_count_within, select_place_within}
use Rattle.listing.specs.declared.Totals.{Totals}
use Rattle.listing.specs.Totals.{Added}
use Rattle.listing.specs.Lines.{lines, refusal_line, count_line}
use Rattle.listing.specs.Places.{place_in_file}
use Rattle.pick.specs.declared.runs.RunText.{RunText}
use Rattle.pick.specs.Bounds.{RunAdded, RunAdds}
use Rattle.pick.specs.Runs.{ListedPut, last_line, selection_text, run_text, TurnAfter, TurnOf, RunPut}

-- the answer of a selection
abbrev run_answer : Step (List ℕ) → Answer
run_answer x = answer (do
  ns ← x
  found (count (length ns)))

-- one that answers a count has found that many numbers, which the list begins with
pub record Listed (x : Step (List ℕ)) (n : ℕ) (list : List ℕ) : Type 0 where
  pub numbers : List ℕ
  pub finds : x ≡ found numbers
  pub many : length numbers ≡ n
  pub first : take n (written x list) ≡ numbers

listed : (x : Step (List ℕ)) (n : ℕ) (list : List ℕ) → run_answer x ≡ count n → Listed x n list
listed (found ns) n list e =
    let l : length ns ≡ n = cc in
    record { numbers = ns; finds = refl; many = l; first = take_at ns (drop (length ns) list) n l }
listed (stop k p) n list e = let z : ◌≡◌ {A = ℕ} 0 1 = cc in absurd (omega arith)

-- one that is refused has stopped there
stopped : (x : Step (List ℕ)) (k p : ℕ) → run_answer x ≡ refused k p → x ≡ stop k p
stopped (found ns) k p e = let z : ◌≡◌ {A = ℕ} 0 1 = cc in absurd (omega arith)
stopped (stop k' p') k p e = cc

-- ---- what a run comes to

-- there is room for the numbers of a run and the count
pub listed_room : (ns : List ℕ) (t : Totals) (size : ℕ) (out : List ℕ) → ((i : ℕ) → get_or ns i 0 < 2 ^ 64) → length ns ≤ 128 → t.matches < 2 ^ 64 → t.cards < 2 ^ 64 → 2752 ≤ length out
    → Room (lines ns ++ last_line size t.matches t.cards) out
unfolding last_line
listed_room ns t size out h few m c l =
    record { fits = omega (arith, length-append (lines ns) (last_line size t.matches t.cards), lines-length ns h, line (ltb size 65536)) }
  where
    line : (b : Bool) → length (cond b (count_line t.matches t.cards) []) ≤ 64
    line true = omega (arith, (count_room (replicate 64 0) t.matches t.cards m c (omega arith)).fits)
    line false = omega arith

-- what a run comes to, by what its selection is
module _ (sheet text cards : List ℕ) (t : Totals) {entry out : List ℕ} {size : ℕ} where
  pub run_listed : (ns : List ℕ) → selection (filter_question sheet text) cards 128 ≡ found ns → (u : Totals) → Added t (length ns) (length cards) u
      → Puts (lines ns ++ last_line (length cards) u.matches u.cards) entry out size → (turn : Option Totals) → TurnOf (length cards) u turn
      → RunPut sheet text cards t entry out (record { size = size; turn = turn })
  unfolding run_text selection_text
  run_listed ns e u a p turn o = record { text = rw (e, ← a.matches, ← a.cards) p; turn = rw e (after turn o) }
    where
      after : (turn : Option Totals) → TurnOf (length cards) u turn → TurnAfter (found ns) (length cards) t turn
      after (Some v) (l, same) = (l, subst (λ (x : Totals). Added t (length ns) (length cards) x) (sym same) a)
      after None l = l

  pub run_stopped : (k p : ℕ) → selection (filter_question sheet text) cards 128 ≡ stop k p → Puts (refusal_line k (place_in_file k p t.cards)) entry out size
      → RunPut sheet text cards t entry out (record { size = size; turn = None })
  unfolding run_text selection_text
  run_stopped k p e q = record { text = rw e q; turn = rw e tt }

-- unless the output has ended, the run is added with the count that select answers
turn_added : (sheet text cards : List ℕ) → length cards ≤ 65536 → (t : Totals) (x : Step (List ℕ)) → selection (filter_question sheet text) cards 128 ≡ x → (turn : Option Totals)
    → TurnAfter x (length cards) t turn → RunAdded sheet text cards t turn
unfolding select_by
turn_added sheet text cards most t (found ns) e (Some u) (l, a) =
    let room : List ℕ = replicate 128 0 in
    let few : select_answer sheet text cards (length room) ≡ count (length ns) → length ns ≤ length room = select_count_within sheet text cards room (length ns) in
    (length ns, ap run_answer e, omega (arith, few (ap run_answer e)), omega (arith, l), a)
turn_added sheet text cards most t (found ns) e None a = tt
turn_added sheet text cards most t (stop k p) e (Some u) a = absurd a
turn_added sheet text cards most t (stop k p) e None a = a

pub run_added : (sheet text cards : List ℕ) (t : Totals) {entry out : List ℕ} {r : RunText} → RunPut sheet text cards t entry out r → length cards ≤ 65536 → RunAdds sheet text cards t r.turn
run_added sheet text cards t {r = r} p most = record { added = turn_added sheet text cards most t (selection (filter_question sheet text) cards 128) refl r.turn p.turn }

module _ (sheet text cards list : List ℕ) {r : Result ℕ Refusal} {exit : List ℕ} (s : SelectsInto sheet text cards list r exit) where
  pub selected_count : (n : ℕ) → r ≡ Ok n → n ≤ length list
  unfolding counted_answer
  selected_count n e = select_count_within sheet text cards list n (sym s.answers ∙ rw e)

  pub selected_place : (x : Refusal) → r ≡ Err x → PlaceBound (number_of x.reason) x.place
  unfolding counted_answer refusal_answer
  selected_place x e = record { within = select_place_within sheet text cards list (number_of x.reason) x.place (sym s.answers ∙ rw e) }

  module _ (h : length list ≡ 128) (t : Totals) {entry out : List ℕ} where
    -- the part of the list that select filled, line by line
    pub selected_run : {n : ℕ} → r ≡ Ok n → (u : Totals) → Added t n (length cards) u → (x : RunText) → ListedPut (part exit 0 n) u (length cards) entry out x
        → RunPut sheet text cards t entry out x
    unfolding counted_answer select_by cells_by
    selected_run {n} e u a x p =
        let l : Listed (selection (filter_question sheet text) cards 128) n list = rw (← h) (listed (selection (filter_question sheet text) cards (length list)) n list (sym s.answers ∙ rw e)) in
        let cells : exit ≡ written (selection (filter_question sheet text) cards 128) list = rw (← h) s.cells in
        let same : part exit 0 n ≡ l.numbers = ap (λ (k : ℕ). take k exit) (sub-zero n) ∙ ap (take n) cells ∙ l.first in
        run_listed sheet text cards t l.numbers l.finds u (rw l.many a) (rw (← same) p.text) x.turn p.turn

    -- the line of the refusal, with its place in the file
    pub refused_run : (x : Refusal) → r ≡ Err x → {k number place : ℕ} → k ≡ number_of x.reason → number ≡ k → place ≡ place_in_file k x.place t.cards
        → {size : ℕ} → Puts (refusal_line number place) entry out size → RunPut sheet text cards t entry out (record { size = size; turn = None })
    unfolding counted_answer refusal_answer select_by
    refused_run x e {k} {number} {place} ek en ep p =
        let stops : selection (filter_question sheet text) cards 128 ≡ stop (number_of x.reason) x.place = rw (← h) (stopped (selection (filter_question sheet text) cards (length list)) (number_of x.reason) x.place (sym s.answers ∙ rw e)) in
        run_stopped sheet text cards t (number_of x.reason) x.place stops (rw (← ek, ← ep, ← en) p)
