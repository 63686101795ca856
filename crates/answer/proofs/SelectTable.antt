-- The table of refusals for select: after what check decides come the run, its cards one after the other, and the list's room.
-- Assumes nothing.
use Prim.Native.Nat.{ℕ, ◌≤◌, ◌<◌}
use native.Mathlib.Nat.{le_refl, le_of_eq}
use native.Mathlib.Omega.{arith}
use mathlib.Core.Path.{◌≡◌, refl, ap, sym, ◌∙◌, subst}
use mathlib.Core.Logic.{◌↔◌, ◌⊎◌, inl, inr}
use mathlib.Core.List.{List}
use lib.Dec.{leb}
use lib.ListN.{length, length-map}
use borrow.Author.Tests.{leb-true, leb-false}
use Rattle.base.specs.Bytes.{Bytes}
use Rattle.base.specs.Lists.{All, member}
use Rattle.base.proofs.Tests.{cond-elim}
use Rattle.sheet.specs.Sheet.{Parameter}
use Rattle.sheet.specs.Encode.{SheetBlock}
use Rattle.card.specs.Card.{record_number}
use Rattle.refusal.specs.Answers.{count, refused}
use Rattle.refusal.specs.Steps.{Step, found, ◌>>=◌}
use Rattle.answer.specs.Operations.{Card, Question, match_by, filter_question, accept_run, accept_cards, matching, accept_room, selection, select_by, select_answer}
use Rattle.refusal.specs.Order.{rank, group, Before, Decides}
use Rattle.answer.specs.Selection.{Run, matching_cards}
use Rattle.answer.specs.Refusals.{CheckLine, RunLine, CardsLine, RoomLine, line_30, SelectLine}
use Rattle.refusal.proofs.Answers.{count_not_refused}
use Rattle.refusal.proofs.Deciding.{Decided, none_holds, one_decides, decided_then, decided_found, decided_answer}
use Rattle.answer.proofs.Outcomes.{Accepted}
use Rattle.answer.proofs.Selection.{matching-numbers}
use Rattle.refusal.proofs.Order.{apart_at, no_lower_rank}
use Rattle.answer.proofs.CheckTable.{check-group}
use Rattle.answer.proofs.MatchTable.{AskedOn, question_decided}
use Rattle.answer.proofs.RunTable.{run_unique, run_decided, AllAccepted, run-group, cards_group, accepted_decided}

-- ---- the room, and the theorem

module _ (sheet : List ℕ) (asked : Step Question) (cards : List ℕ) (room : ℕ) where
  -- the lines that come after those of the question
  abbrev RestLine : ℕ → ℕ → Type 0
  RestLine n p = RunLine cards n p ⊎ (CardsLine sheet cards n p ⊎ RoomLine (match_by asked) cards room n p)

  module _ (r : Question) (e : asked ≡ found r) (bs : List (List ℕ)) (run : Run cards bs) where
    abbrev matches : ℕ
    matches = length (matching_cards (match_by asked) bs)

    -- the number of matches of the run is one
    same-matches : {bs' : List (List ℕ)} → Run cards bs' → length (matching_cards (match_by asked) bs') ≡ matches
    same-matches run' = ap (λ (cs : List (List ℕ)). length (matching_cards (match_by asked) cs)) (run_unique run' run)

    room_none : matches ≤ room → (n p : ℕ) → RoomLine (match_by asked) cards room n p → ⊥
    room_none few n p (line_30 run' h) = omega (arith, same-matches run')

    room_first : (m q : ℕ) → RoomLine (match_by asked) cards room m q → Before m q 30 matches → ⊥
    room_first m q (line_30 run' h) = no_lower_rank refl (le_of_eq (sym (same-matches run'))) (le_refl (rank 30))

    room_decided : (ns : List ℕ) → length ns ≡ matches → Decided (λ (ms : List ℕ). Unit {0}) (RoomLine (match_by asked) cards room) (accept_room room ns)
    unfolding accept_room
    room_decided ns size =
        cond-elim (Decided (λ (ms : List ℕ). Unit {0}) (RoomLine (match_by asked) cards room)) (leb (length ns) room)
        (λ h. none_holds tt (room_none (omega (arith, leb-true (length ns) room h))))
        (λ h. rw size (one_decides (record { holds = line_30 run (omega (arith, leb-false (length ns) room h)); first = room_first })))

    matched : (s : SheetBlock sheet) → s.parameters ≡ r.parameters → (cs : List Card) → AllAccepted sheet s bs cs
        → length (matching r.says cs) ≡ matches
    matched s same cs accepted =
        let all : All (Accepted r.parameters) bs = subst (λ (ps : List Parameter). All (Accepted ps) bs) same accepted.0 in
        ap (λ (ds : List Card). length (matching r.says ds)) accepted.1
        ∙ ap length (matching-numbers asked r e all)
        ∙ length-map (matching_cards (match_by asked) bs) record_number

  room_group : (n p : ℕ) → RoomLine (match_by asked) cards room n p → group 21 < group n
  unfolding group member
  room_group n p (line_30 run h) = omega arith

  cards_or_room : (n p : ℕ) → CardsLine sheet cards n p ⊎ RoomLine (match_by asked) cards room n p → group 20 < group n
  unfolding group member
  cards_or_room n p (inl l) = omega (arith, cards_group sheet cards n p l)
  cards_or_room n p (inr l) = omega (arith, room_group n p l)

  rest_group : (n p : ℕ) → RestLine n p → group 14 < group n
  unfolding group member
  rest_group n p (inl l) = omega (arith, run-group sheet cards n p l)
  rest_group n p (inr l) = omega (arith, cards_or_room n p l)

  module _ (bytes : Bytes cards) (r : Question) (e : asked ≡ found r) (s : SheetBlock sheet) (same : s.parameters ≡ r.parameters) where
    run_step : (bs : List (List ℕ)) → Run cards bs
        → Decided (λ (ns : List ℕ). Unit {0}) (λ n p. CardsLine sheet cards n p ⊎ RoomLine (match_by asked) cards room n p)
        (accept_cards r.parameters 0 bs >>= λ cs. accept_room room (matching r.says cs))
    run_step bs run =
        let accepted : Decided (AllAccepted sheet s bs) (CardsLine sheet cards) (accept_cards r.parameters 0 bs) =
        rw (← same) (accepted_decided sheet cards bytes s bs run)
        in
        decided_then (CardsLine sheet cards) (RoomLine (match_by asked) cards room)
        (apart_at (CardsLine sheet cards) (RoomLine (match_by asked) cards room) (group 21) (λ n p l. le_of_eq (cards_group sheet cards n p l)) room_group)
        accepted
        (λ cs _ k. room_decided r e bs run (matching r.says cs) (matched r e bs run s same cs k))

    rest_decided : Decided (λ (ns : List ℕ). Unit {0}) RestLine
        (accept_run cards >>= λ bs. accept_cards r.parameters 0 bs >>= λ cs. accept_room room (matching r.says cs))
    rest_decided =
        decided_then (RunLine cards) (λ n p. CardsLine sheet cards n p ⊎ RoomLine (match_by asked) cards room n p)
        (apart_at (RunLine cards) (λ n p. CardsLine sheet cards n p ⊎ RoomLine (match_by asked) cards room n p) (group 20) (λ n p l. le_of_eq (run-group sheet cards n p l)) cards_or_room)
        (run_decided cards) (λ bs _ run. run_step bs run)

  -- select is refused with a number and a place exactly where that line of the table decides; Line has what comes before the run
  pub select_table_by : (Line : ℕ → ℕ → Type 0) → ((n p : ℕ) → Line n p → group n ≤ group 14) → Decided (AskedOn sheet) Line asked → Bytes cards
      → (n p : ℕ) → (select_by asked cards room ≡ refused n p) ↔ Decides (λ n p. Line n p ⊎ RestLine n p) n p
  unfolding select_by selection
  select_table_by Line low decided bytes =
      decided_answer (λ n p. Line n p ⊎ RestLine n p)
      (decided_found (λ (ns : List ℕ). count (length ns)) (λ ns _. count_not_refused (length ns))
      (decided_then Line RestLine (apart_at Line RestLine (group 14) low rest_group) decided (λ r e on. rest_decided bytes r e on.0 on.1)))

-- ---- filters

pub select_table : (sheet text cards : List ℕ) (room : ℕ) → Bytes sheet → Bytes cards → (n p : ℕ)
    → (select_answer sheet text cards room ≡ refused n p) ↔ Decides (SelectLine sheet text cards room) n p
select_table sheet text cards room bytes = select_table_by sheet (filter_question sheet text) cards room (CheckLine sheet text) (check-group sheet text) (question_decided sheet text bytes)
