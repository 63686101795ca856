-- Match is prepare and judge after each other for a list of any length, and neither match nor select gives 34 or 40.
-- A list on which prepare answers has its cells, and a longer one gets the same; so what holds of a list of 1,024 cells holds of it.
-- Assumes nothing.
use Rattle.std.specs.Prelude.{Err, Ok, Result, ⊤}
use Prim.Native.Nat.{ℕ, suc, ◌+◌, ◌%◌, ◌≤◌}
use native.Mathlib.Omega.{arith}
use mathlib.Core.Path.{◌≡◌, refl, ap, sym, ◌∙◌}
use mathlib.Core.Bool.{Bool, true, false, cond, ◌&&◌}
use mathlib.Core.List.{List, [], ◌∷◌, ◌++◌}
use lib.Dec.{eqb, leb}
use lib.ListN.{length, take, drop, replicate, length-append, length-replicate}
use lib.Seq.{take_at}
use borrow.Author.Tests.{le-leb, leb-true}
use Rattle.base.specs.Bytes.{Bytes}
use Rattle.base.proofs.Tests.{cond-elim}
use Rattle.sheet.specs.Sheet.{Parameter}
use Rattle.card.specs.Card.{read_card, entries_of, record_number}
use Rattle.judge.specs.Sets.{conforms}
use Rattle.refusal.specs.Answers.{Answer, yes_or_no, count, refused}
use Rattle.refusal.specs.Steps.{Step, found, stop, ◌>>=◌, answer}
use Rattle.answer.specs.Operations.{Inputs, accept_inputs, Card, card_step, accept_card, Question, match_by, filter_question, match_answer, accept_run, accept_cards, matching, accept_room, selection, select_by, select_answer, written}
use Rattle.answer.specs.Preparing.{row_cells, accept_cells, preparation, prepare_answer, prepare_cells, judge_answer}
use Rattle.answer.proofs.Outcomes.{AtMost, found_at_most, stop_at_most}
use Rattle.answer.proofs.Inputs.{at_most_then, question_number}
use Rattle.answer.proofs.RowsAnswered.{match_is}
use Rattle.sirophan.specs.AnyList.{MatchIsAnywhere}
use Rattle.block.specs.declared.Flaw.{Flaw}

-- ---- what prepare writes into a longer list

accepted_more : (room more : ℕ) (cs ds : List ℕ) → accept_cells room cs ≡ found ds → (cs ≡ ds) × (accept_cells (more + room) cs ≡ found ds)
unfolding accept_cells
accepted_more room more cs ds h = by_test (leb (length cs) room) refl h
  where
    by_test : (b : Bool) → leb (length cs) room ≡ b → cond b (found cs) (stop 34 (length cs)) ≡ found ds
        → (cs ≡ ds) × (cond (leb (length cs) (more + room)) (found cs) (stop 34 (length cs)) ≡ found ds)
    by_test true e g = let l : length cs ≤ room = leb-true (length cs) room e in (cc, rw (le-leb (length cs) (more + room) (omega arith)) g)
    by_test false e g = let z : ◌≡◌ {A = ℕ} 0 1 = cc in absurd (omega arith)

module _ (sheet text : List ℕ) where
  prepared_more : (room more : ℕ) (ds : List ℕ) → preparation sheet text room ≡ found ds → preparation sheet text (more + room) ≡ found ds
  unfolding preparation
  prepared_more room more ds h = by_inputs (accept_inputs sheet text) h
    where
      by_inputs : (r : Step Inputs) → (r >>= λ p. accept_cells room (row_cells p.parameters text p.filter)) ≡ found ds
          → (r >>= λ p. accept_cells (more + room) (row_cells p.parameters text p.filter)) ≡ found ds
      by_inputs (found p) g = (accepted_more room more (row_cells p.parameters text p.filter) ds g).1
      by_inputs (stop n q) g = let z : ◌≡◌ {A = ℕ} 0 1 = cc in absurd (omega arith)

  counted : (room n : ℕ) → prepare_answer sheet text room ≡ count n → (ds : List ℕ) × (preparation sheet text room ≡ found ds) × (length ds ≡ n)
  unfolding prepare_answer
  counted room n h = by_step (preparation sheet text room) refl h
    where
      by_step : (s : Step (List ℕ)) → preparation sheet text room ≡ s → answer (s >>= λ cs. found (count (length cs))) ≡ count n
          → (ds : List ℕ) × (preparation sheet text room ≡ found ds) × (length ds ≡ n)
      by_step (found ds) e g = (ds, e, cc)
      by_step (stop m q) e g = let z : ◌≡◌ {A = ℕ} 0 1 = cc in absurd (omega arith)

  first-cells : (list ds : List ℕ) → preparation sheet text (length list) ≡ found ds → take (length ds) (prepare_cells sheet text list) ≡ ds
  unfolding prepare_cells
  first-cells list ds e = ap (λ (s : Step (List ℕ)). take (length ds) (written s list)) e ∙ take_at ds (drop (length ds) list) (length ds) refl

  longer : List ℕ → List ℕ
  longer list = replicate 1024 0 ++ list

  longer_length : (list : List ℕ) → length (longer list) ≡ 1024 + length list
  unfolding longer
  longer_length list = omega (arith, length-append (replicate 1024 0) list, length-replicate {A = ℕ} 1024 0)

  module _ (card list : List ℕ) (bytes : Bytes sheet) where
    pub judged_anywhere : (n : ℕ) → prepare_answer sheet text (length list) ≡ count n → match_answer sheet text card ≡ judge_answer sheet text (take n (prepare_cells sheet text list)) card
    unfolding prepare_answer
    judged_anywhere n h =
        let w = counted (length list) n h in
        let ds : List ℕ = w.0 in
        let more : preparation sheet text (length (longer list)) ≡ found ds = ap (preparation sheet text) (longer_length list) ∙ prepared_more (length list) 1024 ds w.1 in
        let answers : prepare_answer sheet text (length (longer list)) ≡ count n = ap (λ (s : Step (List ℕ)). answer (s >>= λ cs. found (count (length cs)))) more ∙ ap count w.2 in
        let same : take n (prepare_cells sheet text (longer list)) ≡ take n (prepare_cells sheet text list) =
        ap (λ (k : ℕ). take k (prepare_cells sheet text (longer list))) (sym w.2) ∙ first-cells (longer list) ds more ∙ sym (first-cells list ds w.1) ∙ ap (λ (k : ℕ). take k (prepare_cells sheet text list)) w.2
        in
        (match_is sheet text card (longer list) bytes (omega (arith, longer_length list))).judged n answers ∙ ap (λ (cs : List ℕ). judge_answer sheet text cs card) same

  -- a refusal with another number than 34 is of the inputs, whatever the room
  refused_anywhere : (room other : ℕ) (n p : ℕ) → (n ≡ 34 → ⊥) → prepare_answer sheet text room ≡ refused n p → prepare_answer sheet text other ≡ refused n p
  unfolding prepare_answer preparation accept_cells
  refused_anywhere room other n p not h = by_inputs (accept_inputs sheet text) h
    where
      by_inputs : (r : Step Inputs) → answer ((r >>= λ y. accept_cells room (row_cells y.parameters text y.filter)) >>= λ cs. found (count (length cs))) ≡ refused n p
          → answer ((r >>= λ y. accept_cells other (row_cells y.parameters text y.filter)) >>= λ cs. found (count (length cs))) ≡ refused n p
      by_inputs (stop m q) g = g
      by_inputs (found y) g = absurd (short (row_cells y.parameters text y.filter) g)
        where
          by_test : (b : Bool) (cs : List ℕ) → answer (cond b (found cs) (stop 34 (length cs)) >>= λ cs. found (count (length cs))) ≡ refused n p → ⊥
          by_test true cs g = let z : ◌≡◌ {A = ℕ} 0 1 = cc in omega arith
          by_test false cs g = let z : 34 ≡ n = cc in not (sym z)

          short : (cs : List ℕ) → answer (accept_cells room cs >>= λ cs. found (count (length cs))) ≡ refused n p → ⊥
          short cs g = by_test (leb (length cs) room) cs g

  pub match_anywhere : (card list : List ℕ) → Bytes sheet → MatchIsAnywhere sheet text card list
  match_anywhere card list bytes =
      record {
        refused_alike = λ n p not h. (match_is sheet text card (longer list) bytes (omega (arith, longer_length list))).refused_alike n p (refused_anywhere (length list) (length (longer list)) n p not h);
        judged = judged_anywhere card list bytes;
      }

-- ---- the numbers of match and select

card-number : (v : Result ⊤ Flaw) (fits : Bool) (c : Card) (i : ℕ) → AtMost 30 (card_step v fits c i)
card-number (Err Flaw.Size) fits c i = stop_at_most 20 i (omega arith)
card-number (Err Flaw.Sum) fits c i = stop_at_most 21 i (omega arith)
card-number (Err Flaw.Layout) fits c i = stop_at_most 22 i (omega arith)
card-number (Ok tt) true c i = found_at_most
card-number (Ok tt) false c i = stop_at_most 23 i (omega arith)

accept_number : (ps : List Parameter) (i : ℕ) (b : List ℕ) → AtMost 30 (accept_card ps i b)
unfolding accept_card
accept_number ps i b = card-number (read_card b) (conforms ps (entries_of b)) (record { number = record_number b; entries = entries_of b }) i

cards_number : (ps : List Parameter) (i : ℕ) (bs : List (List ℕ)) → AtMost 30 (accept_cards ps i bs)
unfolding accept_cards
cards_number ps i [] = found_at_most
cards_number ps i (b ∷ bs) = at_most_then (accept_number ps i b) (λ c. at_most_then (cards_number ps (suc i) bs) (λ cs. found_at_most))

asked_number : (sheet text : List ℕ) → AtMost 30 (filter_question sheet text)
asked_number sheet text = by_step (filter_question sheet text) refl
  where
    by_step : (s : Step Question) → filter_question sheet text ≡ s → AtMost 30 s
    by_step (found q) e = found_at_most
    by_step (stop n p) e = stop_at_most n p (omega (arith, question_number sheet text n p e))

-- steps to an answer that is no refusal
data Fine : Step Answer → Type 0 where
  fine_answer : {a : Answer} → ((n p : ℕ) → a ≡ refused n p → ⊥) → Fine (found a)
  fine_stop : (n p : ℕ) → n ≤ 30 → Fine (stop n p)

fine_then : {A : Type 0} {s : Step A} {next : A → Step Answer} → AtMost 30 s → ((x : A) → Fine (next x)) → Fine (s >>= next)
fine_then (found_at_most {x = x}) h = h x
fine_then (stop_at_most n p l) h = fine_stop n p l

fine_number : {s : Step Answer} → Fine s → (n p : ℕ) → answer s ≡ refused n p → n ≤ 30
fine_number (fine_answer f) n p e = absurd (f n p e)
fine_number (fine_stop m q l) n p e = let z : m ≡ n = cc in omega arith

verdict_fine : (b : Bool) (n p : ℕ) → yes_or_no b ≡ refused n p → ⊥
verdict_fine true n p e = let z : ◌≡◌ {A = ℕ} 0 1 = cc in omega arith
verdict_fine false n p e = let z : ◌≡◌ {A = ℕ} 0 1 = cc in omega arith

count_fine : (k n p : ℕ) → count k ≡ refused n p → ⊥
count_fine k n p e = let z : ◌≡◌ {A = ℕ} 0 1 = cc in omega arith

run-number : (cards : List ℕ) → AtMost 30 (accept_run cards)
unfolding accept_run
run-number cards = cond-elim (AtMost 30) (eqb (length cards % 512) 0 && leb (length cards) 65536) (λ _. found_at_most) (λ _. stop_at_most 20 0 (omega arith))

room_number : (room : ℕ) (numbers : List ℕ) → AtMost 30 (accept_room room numbers)
unfolding accept_room
room_number room numbers = cond-elim (AtMost 30) (leb (length numbers) room) (λ _. found_at_most) (λ _. stop_at_most 30 (length numbers) (omega arith))

module _ (sheet text : List ℕ) where
  pub match_number : (card : List ℕ) (n p : ℕ) → match_answer sheet text card ≡ refused n p → n ≤ 30
  unfolding match_by
  match_number card = fine_number (fine_then (asked_number sheet text) (λ q. fine_then (accept_number q.parameters 0 card) (λ c. fine_answer (verdict_fine (q.says c.entries)))))

  selection-number : (cards : List ℕ) (room : ℕ) → AtMost 30 (selection (filter_question sheet text) cards room)
  unfolding selection
  selection-number cards room =
      at_most_then (asked_number sheet text) (λ q. at_most_then (run-number cards) (λ bs. at_most_then (cards_number q.parameters 0 bs) (λ cs. room_number room (matching q.says cs))))

  pub select-number : (cards : List ℕ) (room n p : ℕ) → select_answer sheet text cards room ≡ refused n p → n ≤ 30
  unfolding select_by
  select-number cards room = fine_number (fine_then (selection-number cards room) (λ ns. fine_answer (count_fine (length ns))))
