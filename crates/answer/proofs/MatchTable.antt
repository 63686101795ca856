-- The table of refusals for match: after what check decides comes the card.
-- As in CheckTable: a card of the right size is decided by its sum, its layout and its fit, in this order (`card_decided`), and the size
-- comes before them (`one_decided`). `decided_then` puts that behind what check decides, since the card's lines are in later groups than
-- all of check's (`one_group`). The theorem is over any question with lines of its own (`match_table_by`); that of filters is an instance.
-- Assumes nothing.
use Rattle.std.specs.Prelude.{Err, Result, ⊤}
use Prim.Native.Nat.{ℕ, ◌≤◌, ◌<◌}
use native.Mathlib.Decide.{ℕ_discrete}
use native.Mathlib.Nat.{le_refl, le_of_eq}
use native.Mathlib.Omega.{arith}
use mathlib.Core.Path.{◌≡◌, refl, ap, sym, ◌∙◌, subst}
use mathlib.Core.Bool.{Bool, true, false}
use mathlib.Core.Logic.{◌↔◌, ◌⊎◌}
use mathlib.Core.List.{List}
use lib.ListN.{length}
use Rattle.base.specs.Lists.{member}
use Rattle.base.specs.Bytes.{Bytes}
use Rattle.base.proofs.Tests.{both_ways}
use Rattle.block.specs.Words.{word}
use Rattle.block.specs.Sum.{check_sum}
use Rattle.sheet.specs.Sheet.{Parameter}
use Rattle.sheet.specs.Encode.{SheetBlock}
use Rattle.card.specs.Card.{Entry, entries_of, read_card}
use Rattle.card.specs.Encode.{CardBlock}
use Rattle.judge.specs.Sets.{conforms}
use Rattle.refusal.specs.Answers.{yes_or_no, refused}
use Rattle.refusal.specs.Steps.{Step, found, stop, ◌>>=◌}
use Rattle.answer.specs.Operations.{Card, card_step, accept_card, Question, question_of, match_by, filter_question, match_answer}
use Rattle.judge.specs.Rules.{Conforms}
use Rattle.refusal.specs.Order.{rank, group, Before, Decides}
use Rattle.answer.specs.Refusals.{CheckLine, CardLine, line_21, line_22, line_23, OneCardLine, line_20_match, line_of_card, MatchLine}
use Rattle.refusal.proofs.Answers.{verdict_not_refused}
use Rattle.judge.proofs.Rules.{entries_iff}
use Rattle.answer.proofs.Cards.{conforms_reads, reads_conforms}
use Rattle.refusal.proofs.Deciding.{Decided, none_holds, one_decides, NotRefused, decided_as, decided_then, decided_found, decided_answer}
use Rattle.answer.proofs.Outcomes.{ReadsTo, size_wrong, sum_wrong, layout_wrong, all_right, card_of, Accepted}
use Rattle.answer.proofs.Blocks.{card_reads_to}
use Rattle.refusal.proofs.Order.{apart_at, later-group, no_lower_rank}
use Rattle.answer.proofs.CheckTable.{sheet_parameters, check-group, inputs_decided}
use Rattle.block.specs.declared.Flaw.{Flaw}

-- ---- one card

module _ (sheet : List ℕ) where
  pub card-group : {b : List ℕ} {n : ℕ} → CardLine sheet b n → group n ≡ group 21
  unfolding group member
  card-group (line_21 u) = refl
  card-group (line_22 u) = refl
  card-group (line_23 s c n) = refl

  module _ (s : SheetBlock sheet) (b : List ℕ) where
    abbrev ps : List Parameter
    ps = s.parameters

    -- a line ranks at n or after, where the lines before n do not hold
    card_lowest : (n : ℕ) → rank n ≤ rank 23 → (rank 21 < rank n → check_sum b ≡ word b 508) → (rank 22 < rank n → CardBlock b) → (m : ℕ) → CardLine sheet b m
        → rank n ≤ rank m
    card_lowest n h a c m (line_21 u) = let z : rank 21 < rank n → ⊥ = λ l. u (a l) in omega arith
    card_lowest n h a c m (line_22 u) = let z : rank 22 < rank n → ⊥ = λ l. u (c l) in omega arith
    card_lowest n h a c m (line_23 s' k v) = h

    -- where the card conforms, none holds
    card_none : check_sum b ≡ word b 508 → CardBlock b → (es : List Entry) → Conforms ps b es → (m : ℕ) → CardLine sheet b m → ⊥
    card_none a c es k m (line_21 u) = u a
    card_none a c es k m (line_22 u) = u c
    card_none a c es k m (line_23 s' d v) =
        let same : ps ≡ s'.parameters = sym (sheet_parameters sheet s) ∙ sheet_parameters sheet s' in
        v es (subst (λ (qs : List Parameter). Conforms qs b es) same k)

    -- the lines of the card, at its index
    abbrev pub LineAt : ℕ → ℕ → ℕ → Type 0
    LineAt i n p = CardLine sheet b n × (p ≡ i)

    -- and what is found where none holds
    abbrev pub AcceptedAs : Card → Type 0
    AcceptedAs c = Accepted ps b × (c ≡ card_of b)

    -- the line that ranks lowest decides
    card-decides : (i n : ℕ) → CardLine sheet b n → ((m : ℕ) → CardLine sheet b m → rank n ≤ rank m) → Decided AcceptedAs (LineAt i) (stop n i)
    card-decides i n l lowest =
        one_decides (record { holds = (l, refl); first = λ m q k. no_lower_rank (card-group k.0 ∙ sym (card-group l)) (le_of_eq (sym k.1)) (lowest m k.0) })

    module _ (bytes : Bytes b) (size : length b ≡ 512) (i : ℕ) where
      card-step : (r : Result ⊤ Flaw) → read_card b ≡ r → ReadsTo b (CardBlock b) r → (fits : Bool) → conforms ps (entries_of b) ≡ fits
          → Decided AcceptedAs (LineAt i) (card_step r fits (card_of b) i)
      unfolding rank
      card-step r e (size_wrong u) fits h = absurd (u size)
      card-step r e (sum_wrong a u) fits h =
          card-decides i 21 (line_21 u) (card_lowest 21 (omega arith) (λ l. absurd (omega arith)) (λ l. absurd (omega arith)))
      card-step r e (layout_wrong a c u) fits h =
          card-decides i 22 (line_22 u) (card_lowest 22 (omega arith) (λ l. c) (λ l. absurd (omega arith)))
      card-step r e (all_right a c k) true h =
          let accepted : Accepted ps b = λ j. unfold accept_card in rw (e, h) in
          none_holds (accepted, refl) (λ m p l. card_none c k (entries_of b) (reads_conforms ps b bytes e h) m l.0)
      card-step r e (all_right a c k) false h =
          let not-conforming : (es : List Entry) → Conforms ps b es → ⊥ =
          λ es g. both_ways (ap (conforms ps) (conforms_reads g).entries ∙ (entries_iff ps es).1 g.entries) h
          in
          card-decides i 23 (line_23 s k not-conforming) (card_lowest 23 (omega arith) (λ l. c) (λ l. k))

      pub card_decided : Decided AcceptedAs (LineAt i) (accept_card ps i b)
      unfolding accept_card
      card_decided = card-step (read_card b) refl (card_reads_to b bytes) (conforms ps (entries_of b)) refl

-- ---- match

-- the question is about the sheet
abbrev pub AskedOn : List ℕ → Question → Type 0
AskedOn sheet q = (s : SheetBlock sheet) × (s.parameters ≡ q.parameters)

module _ (sheet card : List ℕ) where
  wrong_size_lem : {r : Result ⊤ Flaw} → ReadsTo card (CardBlock card) r → (length card ≡ 512 → ⊥) → r ≡ (Err Flaw.Size)
  wrong_size_lem (size_wrong u) n = refl
  wrong_size_lem (sum_wrong a u) n = absurd (n a)
  wrong_size_lem (layout_wrong a b u) n = absurd (n a)
  wrong_size_lem (all_right a b k) n = absurd (n a)

  -- none comes before 20
  size-first : (m q : ℕ) → OneCardLine sheet card m q → Before m q 20 0 → ⊥
  unfolding group member
  size-first m q (line_20_match u) = no_lower_rank refl (le_refl 0) (le_refl (rank 20))
  size-first m q (line_of_card l) = later-group (omega (arith, card-group sheet l))

  one_there : (n p : ℕ) → CardLine sheet card n × (p ≡ 0) → OneCardLine sheet card n p
  one_there n p l = subst (OneCardLine sheet card n) (sym l.1) (line_of_card l.0)

  one_back : length card ≡ 512 → {n p : ℕ} → OneCardLine sheet card n p → CardLine sheet card n × (p ≡ 0)
  one_back e (line_20_match u) = absurd (u e)
  one_back e (line_of_card l) = (l, refl)

  pub one_decided : (s : SheetBlock sheet) → Bytes card → Decided (AcceptedAs sheet s card) (OneCardLine sheet card) (accept_card s.parameters 0 card)
  unfolding accept_card
  one_decided s bytes = by_size (ℕ_discrete (length card) 512)
    where
      by_size : Dec (length card ≡ 512) → Decided (AcceptedAs sheet s card) (OneCardLine sheet card) (accept_card s.parameters 0 card)
      by_size (yes e) = decided_as (λ n p. (one_there n p, one_back e)) (card_decided sheet s card bytes e 0)
      by_size (no n) = rw (wrong_size_lem (card_reads_to card bytes) n) (one_decides (record { holds = line_20_match n; first = size-first }))

  one_group : (n p : ℕ) → OneCardLine sheet card n p → group 14 < group n
  unfolding group member
  one_group n p (line_20_match u) = omega arith
  one_group n p (line_of_card l) = let g = card-group sheet l in omega arith

  verdict_decided : Bytes card → (q : Question) → AskedOn sheet q
      → Decided NotRefused (OneCardLine sheet card) (accept_card q.parameters 0 card >>= λ c. found (yes_or_no (q.says c.entries)))
  verdict_decided bytes q on =
      rw (← on.1)
      (decided_found (λ (c : Card). yes_or_no (q.says c.entries)) (λ c _. verdict_not_refused (q.says c.entries)) (one_decided on.0 bytes))

  -- match is refused with a number and a place exactly where that line of the table decides; Line has what comes before the card
  pub match_table_by : (Line : ℕ → ℕ → Type 0) → ((n p : ℕ) → Line n p → group n ≤ group 14) → {asked : Step Question} → Decided (AskedOn sheet) Line asked → Bytes card
      → (n p : ℕ) → (match_by asked card ≡ refused n p) ↔ Decides (λ n p. Line n p ⊎ OneCardLine sheet card n p) n p
  unfolding match_by
  match_table_by Line low decided bytes =
      decided_answer (λ n p. Line n p ⊎ OneCardLine sheet card n p)
      (decided_then Line (OneCardLine sheet card) (apart_at Line (OneCardLine sheet card) (group 14) low one_group)
      decided (λ q _ on. verdict_decided bytes q on))

-- ---- filters

pub question_decided : (sheet text : List ℕ) → Bytes sheet → Decided (AskedOn sheet) (CheckLine sheet text) (filter_question sheet text)
unfolding filter_question
question_decided sheet text bytes = decided_found question_of (λ r ready. (ready.0, ready.1)) (inputs_decided sheet text bytes)

pub match_table : (sheet text card : List ℕ) → Bytes sheet → Bytes card → (n p : ℕ) → (match_answer sheet text card ≡ refused n p) ↔ Decides (MatchLine sheet text card) n p
match_table sheet text card sheet-bytes = match_table_by sheet card (CheckLine sheet text) (check-group sheet text) (question_decided sheet text sheet-bytes)
