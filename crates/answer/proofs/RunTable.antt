-- The lines about a run of cards: the run, and its cards one after the other.
-- Assumes nothing.
use Prim.Native.Nat.{ℕ, suc, ◌+◌}
use native.Mathlib.Nat.{le_refl}
use native.Mathlib.Omega.{arith}
use mathlib.Core.Path.{◌≡◌, refl, ap₂, sym, ◌∙◌, subst}
use mathlib.Core.Logic.{◌↔◌, ◌⊎◌, inl, inr, ⊎_elim}
use mathlib.Core.List.{List, [], ◌∷◌, map, flatten}
use lib.ListN.{length}
use Rattle.base.specs.Bytes.{Byte, Bytes}
use Rattle.base.specs.Lists.{Listed, All, all_empty, all_cons, member}
use Rattle.base.proofs.Lists.{listed_nil, listed_first, listed_later, listed_cases}
use Rattle.base.proofs.All.{all_left, all_right}
use Rattle.sheet.specs.Encode.{SheetBlock}
use Rattle.refusal.specs.Steps.{found, stop}
use Rattle.answer.specs.Operations.{Card, accept_run, accept_cards}
use Rattle.refusal.specs.Order.{rank, group, Before}
use Rattle.answer.specs.Selection.{Run}
use Rattle.answer.specs.Refusals.{CardLine, RunLine, line_20_select, CardsLine, line_of_card_at}
use Rattle.refusal.proofs.Deciding.{Decided, none_holds, one_decides, decided_as, decided_then, decided_found}
use Rattle.answer.proofs.Outcomes.{card_of, Accepted}
use Rattle.answer.proofs.Runs.{run_iff, run_or_none}
use Rattle.refusal.proofs.Order.{later_place, no_lower_rank}
use Rattle.answer.proofs.MatchTable.{card-group, LineAt, card_decided}

-- ---- the run

pub run_unique : {cards : List ℕ} {bs bs' : List (List ℕ)} → Run cards bs → Run cards bs' → bs ≡ bs'
run_unique {cards = cards} {bs = bs} {bs' = bs'} r r' =
    let e = (run_iff cards bs).1 r in
    let e' = (run_iff cards bs').1 r' in
    cc

module _ (cards : List ℕ) where
  run_none : (bs : List (List ℕ)) → Run cards bs → (n p : ℕ) → RunLine cards n p → ⊥
  run_none bs r n p (line_20_select u) = u bs r

  run-first : (m q : ℕ) → RunLine cards m q → Before m q 20 0 → ⊥
  run-first m q (line_20_select u) = no_lower_rank refl (le_refl 0) (le_refl (rank 20))

  pub run_decided : Decided (Run cards) (RunLine cards) (accept_run cards)
  run_decided =
      ⊎_elim
      (λ w. let r = (run_iff cards w.0).0 w.1 in rw w.1 (none_holds r (run_none w.0 r)))
      (λ e. rw e (one_decides (record { holds = line_20_select (λ bs r. not_both bs ((run_iff cards bs).1 r) e); first = run-first })))
      (run_or_none cards)
    where
      not_both : (bs : List (List ℕ)) → accept_run cards ≡ found bs → accept_run cards ≡ stop 20 0 → ⊥
      not_both bs a b = let z : ◌≡◌ {A = ℕ} 0 1 = cc in omega arith

-- ---- its cards

module _ (sheet : List ℕ) (s : SheetBlock sheet) where
  -- a line of some card of bs, of which the first has the index i
  abbrev LineFrom : ℕ → List (List ℕ) → ℕ → ℕ → Type 0
  LineFrom i bs n p = (j : ℕ) × (b : List ℕ) × Listed bs j b × CardLine sheet b n × (p ≡ i + j)

  from_cons : (i : ℕ) (b : List ℕ) (bs : List (List ℕ)) (n p : ℕ) → (LineAt sheet s b i n p ⊎ LineFrom (suc i) bs n p) ↔ LineFrom i (b ∷ bs) n p
  from_cons i b bs n p = (
    ⊎_elim (λ l. (0, b, listed_first b bs, l.0, omega (arith, l.1))) (λ l. (suc l.0, l.1, listed_later b l.2, l.3, omega (arith, l.4))),
    (λ l. ⊎_elim
        (λ e. inl (subst (λ (c : List ℕ). CardLine sheet c n) e.1 l.3, omega (arith, l.4, e.0)))
        (λ e. inr (e.0, l.1, e.2, l.3, omega (arith, l.4, e.1)))
        (listed_cases b bs l.0 l.1 l.2)),
  )

  -- each card is accepted
  abbrev pub AllAccepted : List (List ℕ) → List Card → Type 0
  AllAccepted bs cs = All (Accepted s.parameters) bs × (cs ≡ map card_of bs)

  cards_decided : {bs : List (List ℕ)} → All (λ (b : List ℕ). length b ≡ 512) bs → All Bytes bs → (i : ℕ)
      → Decided (AllAccepted bs) (LineFrom i bs) (accept_cards s.parameters i bs)
  unfolding accept_cards
  cards_decided all_empty all_empty i = none_holds (all_empty, refl) (λ n p l. listed_nil l.2)
  cards_decided (all_cons {x = b} {xs = bs} size sizes) (all_cons bytes all-bytes) i =
      decided_as (from_cons i b bs)
      (decided_then (LineAt sheet s b i) (LineFrom (suc i) bs)
      (λ m q n p l k. later_place (card-group sheet l.3 ∙ sym (card-group sheet k.0)) (omega (arith, l.4, k.1)))
      (card_decided sheet s b bytes size i)
      (λ c _ accepted. decided_found (λ (cs : List Card). c ∷ cs)
      (λ cs k. (all_cons accepted.0 k.0, ap₂ (λ (x : Card) (xs : List Card). x ∷ xs) accepted.1 k.1))
      (cards_decided sizes all-bytes (suc i))))

  module _ (cards : List ℕ) (bs : List (List ℕ)) (run : Run cards bs) where
    from_there : (n p : ℕ) → LineFrom 0 bs n p → CardsLine sheet cards n p
    from_there n p l =
        let place : l.0 ≡ p = omega (arith, l.4) in
        subst (CardsLine sheet cards n) place (line_of_card_at run l.2 l.3)

    from_back : {n p : ℕ} → CardsLine sheet cards n p → LineFrom 0 bs n p
    from_back (line_of_card_at {n = n} {i = i} {b = b} run' a l) =
        (i, b, subst (λ (cs : List (List ℕ)). Listed cs i b) (run_unique run' run) a, l, omega arith)

-- the cards of a run of bytes are bytes
flatten_bytes : (bs : List (List ℕ)) → Bytes (flatten bs) → All Bytes bs
unfolding flatten
flatten_bytes [] h = all_empty
flatten_bytes (b ∷ bs) h = all_cons (all_left Byte b (flatten bs) h) (flatten_bytes bs (all_right Byte b h))

module _ (sheet cards : List ℕ) where
  pub run-group : (n p : ℕ) → RunLine cards n p → group n ≡ group 20
  unfolding group member
  run-group n p (line_20_select u) = refl

  pub cards_group : (n p : ℕ) → CardsLine sheet cards n p → group n ≡ group 21
  cards_group n p (line_of_card_at run a l) = card-group sheet l

  -- the cards of a run are all accepted, or the first that is refused decides
  pub accepted_decided : Bytes cards → (s : SheetBlock sheet) (bs : List (List ℕ)) → Run cards bs → Decided (AllAccepted sheet s bs) (CardsLine sheet cards) (accept_cards s.parameters 0 bs)
  accepted_decided bytes s bs run =
      decided_as (λ n p. (from_there sheet s cards bs run n p, from_back sheet s cards bs run))
      (cards_decided sheet s run.sizes (flatten_bytes bs (subst Bytes run.whole bytes)) 0)
