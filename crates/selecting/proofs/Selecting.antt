-- Select, as the code comes to its answer.
-- Assumes nothing.
use Rattle.std.specs.Prelude.{Err, Result, Ok}
use Prim.Native.Nat.{ℕ, suc, ◌%◌, ◌≤◌, ◌<◌}
use native.Mathlib.Nat.{sub-zero}
use mathlib.Core.Path.{◌≡◌, refl, sym, ap, subst, ◌∙◌}
use mathlib.Core.Bool.{cond}
use mathlib.Core.List.{List, [], ◌∷◌, ◌++◌}
use lib.ListN.{length, take, drop}
use lib.Seq.{length-take-le}
use borrow.Author.Tests.{eq-eqb, ne_eqb, le-leb, lt-leb}
use Rattle.base.specs.Parts.{part}
use Rattle.card.specs.Card.{record_number}
use Rattle.refusal.specs.declared.Reason.{Reason}
use Rattle.refusal.specs.declared.Refusal.{Refusal}
use Rattle.refusal.specs.Answers.{number_of, refusal_answer, counted_answer}
use Rattle.refusal.specs.Steps.{Step, found, stop, ◌>>=◌}
use Rattle.answer.specs.Operations.{check_answer, Card, accept_card, Question, filter_question, accept_run, accept_cards, matching, accept_room, selection, select_by, cells_by}
use Rattle.answer.specs.Passing.{Passing, card_verdict, text_question}
use Rattle.syntax.specs.Reader.{read}
use Rattle.sheet.specs.Sheet.{parameters_of}
use Rattle.selecting.specs.Selecting.{run_numbers, gathered_step, Gathers, Selects}
use Rattle.answer.proofs.Passing.{card_accepted, question_stopped, passing_asks}

-- ---- the numbers of a run are those of its matching cards

module _ (q : Question) where
  numbers-next : (c : Step Card) (b : List ℕ) (cs : Step (List Card)) → ((d : Card) → c ≡ found d → d.number ≡ record_number b)
      → (c >>= λ d. found (q.says d.entries)) >>= (λ y. (cs >>= λ ds. found (matching q.says ds)) >>= λ ns. found (cond y (record_number b ∷ ns) ns))
      ≡ (c >>= λ d. cs >>= λ ds. found (d ∷ ds)) >>= λ ds. found (matching q.says ds)
  unfolding matching
  numbers-next (found d) b (found ds) e = rw (e d refl)
  numbers-next (found d) b (stop n p) e = refl
  numbers-next (stop n p) b cs e = refl

  run-numbers : (i : ℕ) (bs : List (List ℕ)) → run_numbers q i bs ≡ accept_cards q.parameters i bs >>= λ cs. found (matching q.says cs)
  unfolding run_numbers accept_cards matching card_verdict
  run-numbers i [] = refl
  run-numbers i (b ∷ bs) =
      rw (run-numbers (suc i) bs) (numbers-next (accept_card q.parameters i b) b (accept_cards q.parameters (suc i) bs) (λ d h. (card_accepted q.parameters i b d h).1))

  room_after : (room : ℕ) (s : Step (List Card)) → (s >>= λ cs. accept_room room (matching q.says cs)) ≡ (s >>= λ cs. found (matching q.says cs)) >>= accept_room room
  room_after room (found cs) = refl
  room_after room (stop n p) = refl

after : {A B : Type 0} (s : Step A) (g h : A → Step B) → ((a : A) → g a ≡ h a) → (s >>= g) ≡ (s >>= h)
after (found a) g h e = e a
after (stop n p) g h e = refl

pub gathered_room : {q : Question} {cards buffer : List ℕ} {r : Result ℕ Refusal} (n : ℕ) → Gathers q cards r buffer → r ≡ Ok n → n ≤ length buffer
gathered_room n g h = g.room n h

-- ---- what select does, by the selection

module _ (asked : Step Question) (cards list : List ℕ) where
  selects_stop : (r : Refusal) → selection asked cards (length list) ≡ stop (number_of r.reason) r.place → Selects asked cards list (Err r) list
  unfolding counted_answer refusal_answer select_by cells_by
  selects_stop r e = record { answers = rw e; cells = rw e }

  selects_found : (ns : List ℕ) → selection asked cards (length list) ≡ found ns → Selects asked cards list (Ok (length ns)) (ns ++ drop (length ns) list)
  unfolding counted_answer select_by cells_by
  selects_found ns e = record { answers = rw e; cells = rw e }

  -- the question is refused
  pub select_stopped : (r : Refusal) → asked ≡ stop (number_of r.reason) r.place → Selects asked cards list (Err r) list
  unfolding selection
  select_stopped r e = selects_stop r (rw e)

  module _ (q : Question) (p : asked ≡ found q) where
    selection_is : (room : ℕ) → selection asked cards room ≡ accept_run cards >>= λ bs. run_numbers q 0 bs >>= accept_room room
    unfolding selection
    selection_is room =
        rw p
        (after (accept_run cards) _ _
        (λ bs. room_after q room (accept_cards q.parameters 0 bs) ∙ ap (λ (s : Step (List ℕ)). s >>= accept_room room) (sym (run-numbers q 0 bs))))

    pub select_parted : (r : Refusal) → (length cards % 512 ≡ 0 → ⊥) → r.reason ≡ Reason.CardSize → r.place ≡ 0 → Selects asked cards list (Err r) list
    unfolding accept_run
    select_parted r h n z = selects_stop r (selection_is (length list) ∙ rw (ne_eqb (length cards % 512) 0 h, n, z))

    pub select-over : (r : Refusal) → length cards % 512 ≡ 0 → 65536 < length cards → r.reason ≡ Reason.CardSize → r.place ≡ 0 → Selects asked cards list (Err r) list
    unfolding accept_run
    select-over r w h n z = selects_stop r (selection_is (length list) ∙ rw (eq-eqb (length cards % 512) 0 w, lt-leb (length cards) 65536 h, n, z))

    module _ (whole : length cards % 512 ≡ 0) (few : length cards ≤ 65536) (g : Result ℕ Refusal) (buffer : List ℕ) (e : Gathers q cards g buffer) where
      gathered : selection asked cards (length list) ≡ gathered_step g buffer >>= accept_room (length list)
      unfolding accept_run
      gathered = selection_is (length list) ∙ rw (eq-eqb (length cards % 512) 0 whole, le-leb (length cards) 65536 few, e.numbers)

      pub select-card_refused : (r : Refusal) → g ≡ Err r → Selects asked cards list (Err r) list
      select-card_refused r h = selects_stop r (gathered ∙ rw h)

      module _ (n : ℕ) (h : g ≡ Ok n) where
        size : length (take n buffer) ≡ n
        size = length-take-le n buffer (e.room n h)

        pub select_short : (r : Refusal) → length list < n → r.reason ≡ Reason.ShortList → r.place ≡ n → Selects asked cards list (Err r) list
        unfolding accept_room
        select_short r k s z = selects_stop r (gathered ∙ rw (h, size, lt-leb n (length list) k, s, z))

        pub select_writes : (exit : List ℕ) → n ≤ length list → exit ≡ part buffer 0 n ++ drop (length (part buffer 0 n)) list → Selects asked cards list (Ok n) exit
        unfolding accept_room
        select_writes exit k w =
            let q : part buffer 0 n ≡ take n buffer = rw (sub-zero n) in
            rw (w, q, size) (rw size at (selects_found (take n buffer) (gathered ∙ rw (h, size, le-leb n (length list) k))))

-- check has refused a filter
pub select_refused : (sheet text cards list : List ℕ) (c : Result ℕ Refusal) (r : Refusal) → counted_answer c ≡ check_answer sheet text → c ≡ Err r
    → Selects (filter_question sheet text) cards list (Err r) list
select_refused sheet text cards list c r e h = select_stopped (filter_question sheet text) cards list r (question_stopped sheet text c r e h)

-- check has passed it, and its text asks
pub text_selects : (sheet text : List ℕ) → Passing sheet text → (b t cards list : List ℕ) (s : Result ℕ Refusal) (exit : List ℕ) → b ≡ sheet → t ≡ text
    → Selects (found (text_question (parameters_of b) (read t))) cards list s exit → Selects (filter_question sheet text) cards list s exit
text_selects sheet text p b t cards list s exit e f g = subst (λ (a : Step Question). Selects a cards list s exit) (sym (passing_asks sheet text p)) (rw (← e, ← f) g)

-- of a question that is found already
module _ (q : Question) (cards list : List ℕ) (r : Refusal) where
  pub found_parted : (length cards % 512 ≡ 0 → ⊥) → r.reason ≡ Reason.CardSize → r.place ≡ 0 → Selects (found q) cards list (Err r) list
  found_parted = select_parted (found q) cards list q refl r

  pub found-over : length cards % 512 ≡ 0 → 65536 < length cards → r.reason ≡ Reason.CardSize → r.place ≡ 0 → Selects (found q) cards list (Err r) list
  found-over = select-over (found q) cards list q refl r
