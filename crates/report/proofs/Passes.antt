-- The steps are passes over the rows, each of one step a row: the first clears them, and each other adds a card to what they hold.
-- Step k changes row k mod n in pass k / n. Within a pass the rows before the current one are changed and the others are not (`pass_steps`,
-- by induction on the row). `stepped_cards` is by induction on the number of cards: the first pass leaves the tallies of no cards
-- (`pass_clears`), and each other those of one card more, which is last in the list (`pass-adds`, from `cards_snoc` and `values_snoc`). A
-- card counts at most once under a parameter and has few values, so what the rows hold stays small, and each step can raise its row
-- (`steps_ready`).
-- Assumes nothing.
use Rattle.std.specs.Prelude.{Ok}
use Prim.Native.Nat.{ℕ, zero, suc, ◌+◌, ◌*◌, ◌-◌, ◌/◌, ◌%◌, ◌≤◌, ◌<◌}
use native.Mathlib.Nat.{add-mul-div_left, add-mul-mod_self_left, div-eq_of_lt, mod-eq_of_lt, mod-lt, mod-add-div, div-lt_iff_lt-mul, mul-zero, zero-mul, mul-suc, mul_comm}
use native.Mathlib.Omega.{arith}
use mathlib.Core.Path.{◌≡◌, refl, ap, ap₂, sym, ◌∙◌, subst}
use mathlib.Core.Bool.{Bool, true, false, cond}
use mathlib.Core.List.{List, [], ◌∷◌, ◌++◌, map, map-append}
use lib.Dec.{eqb}
use lib.ListN.{length, take, drop, set, get_or, get_or-append}
use lib.Seq.{drop-drop}
use borrow.Author.Tests.{lt-ltb, le-ltb, ne_eqb}
use Rattle.base.specs.Parts.{part}
use Rattle.base.specs.Lists.{All, all_empty, all_cons}
use Rattle.base.proofs.All.{all_head, all_right}
use Rattle.base.proofs.Tests.{cond-elim}
use Rattle.card.specs.Card.{Entry, entries_of, read_card}
use Rattle.judge.specs.Sets.{values_at}
use Rattle.answer.specs.Operations.{blocks}
use Rattle.answer.proofs.Runs.{blocks-length}
use Rattle.report.specs.Tallies.{tally, cards_with, values_under, tallies}
use Rattle.report.specs.Steps.{raise, step_index, step_tally, stepped, Raisable, Ready}
use Rattle.report.specs.declared.Tally.{Tally}
use Rattle.report.proofs.Values.{card_values_most}
use Rattle.report.proofs.Steps.{length-stepped, stepped_none, stepped_more}

-- ---- a pass

-- the first i rows changed, row j by g j; the rows are counted from j on
unfoldable pass : (ℕ → Tally → Tally) → (j i : ℕ) → List Tally → List Tally
pass g j zero rows = rows
pass g j (suc i) [] = []
pass g j (suc i) (r ∷ rows) = g j r ∷ pass g (suc j) i rows

-- the next row is as it was
pass-at : (g : ℕ → Tally → Tally) (j i : ℕ) (rows : List Tally) (d : Tally) → get_or (pass g j i rows) i d ≡ get_or rows i d
unfolding pass
pass-at g j zero rows d = refl
pass-at g j (suc i) [] d = refl
pass-at g j (suc i) (r ∷ rows) d = pass-at g (suc j) i rows d

-- and it is changed next
pass-next : (g : ℕ → Tally → Tally) (j i : ℕ) (rows : List Tally) (d : Tally) → i < length rows
    → set (pass g j i rows) i (g (j + i) (get_or (pass g j i rows) i d)) ≡ pass g j (suc i) rows
unfolding pass
pass-next g j zero (r ∷ rows) d h = let e : j + 0 ≡ j = omega arith in rw e
pass-next g j i [] d h = absurd (omega arith)
pass-next g j (suc i) (r ∷ rows) d h =
    let e : j + suc i ≡ suc j + i = omega arith in
    rw e (ap (λ (l : List Tally). g j r ∷ l) (pass-next g (suc j) i rows d (omega arith)))

-- ---- what a pass makes of the rows

pub tallies-length : (cs : List (List Entry)) (i n : ℕ) → length (tallies cs i n) ≡ n
unfolding tallies
tallies-length cs i zero = refl
tallies-length cs i (suc n) = ap suc (tallies-length cs (suc i) n)

pub tallies-at : (cs : List (List Entry)) (j n i : ℕ) (d : Tally) → i < n → get_or (tallies cs j n) i d ≡ tally (cards_with (j + i) cs) (values_under (j + i) cs)
unfolding tallies
tallies-at cs j zero i d h = absurd (omega arith)
tallies-at cs j (suc n) zero d h = let e : j + 0 ≡ j = omega arith in rw e
tallies-at cs j (suc n) (suc i) d h = let e : j + suc i ≡ suc j + i = omega arith in rw e (tallies-at cs (suc j) n i d (omega arith))

-- the first clears them: no card is counted yet
pass_clears : (j n : ℕ) (rows : List Tally) → n ≤ length rows → pass (λ k r. tally 0 0) j n rows ≡ tallies [] j n ++ drop n rows
unfolding pass tallies cards_with values_under
pass_clears j zero rows h = refl
pass_clears j (suc n) [] h = absurd (omega arith)
pass_clears j (suc n) (r ∷ rows) h = ap (λ (l : List Tally). tally 0 0 ∷ l) (pass_clears (suc j) n rows (omega arith))

-- what a card adds to the row of the parameter i
abbrev adds : List Entry → ℕ → Tally → Tally
adds es i r = raise (length (values_at i es)) r

raise_more : (n c v : ℕ) → raise n (tally c v) ≡ tally (c + cond (eqb n 0) 0 1) (v + n)
unfolding raise
raise_more zero c v = ap₂ tally (omega arith) (omega arith)
raise_more (suc n) c v = rw (ne_eqb (suc n) 0 (λ e. omega arith))

cards_snoc : (i : ℕ) (cs : List (List Entry)) (es : List Entry) → cards_with i (cs ++ (es ∷ [])) ≡ cards_with i cs + cond (eqb (length (values_at i es)) 0) 0 1
unfolding cards_with
cards_snoc i [] es = go (eqb (length (values_at i es)) 0)
  where
    go : (b : Bool) → cond b 0 1 ≡ 0 + cond b 0 1
    go true = refl
    go false = refl
cards_snoc i (c ∷ cs) es = go (eqb (length (values_at i c)) 0) (cards_with i cs) (cond (eqb (length (values_at i es)) 0) 0 1) (cards_snoc i cs es)
  where
    go : (b : Bool) (y z : ℕ) {x : ℕ} → x ≡ y + z → cond b x (suc x) ≡ cond b y (suc y) + z
    go true y z e = e
    go false y z e = omega arith

values_snoc : (i : ℕ) (cs : List (List Entry)) (es : List Entry) → values_under i (cs ++ (es ∷ [])) ≡ values_under i cs + length (values_at i es)
unfolding values_under
values_snoc i [] es = omega arith
values_snoc i (c ∷ cs) es = omega (arith, values_snoc i cs es)

adds_one : (cs : List (List Entry)) (es : List Entry) (i : ℕ)
    → adds es i (tally (cards_with i cs) (values_under i cs)) ≡ tally (cards_with i (cs ++ (es ∷ []))) (values_under i (cs ++ (es ∷ [])))
adds_one cs es i = raise_more (length (values_at i es)) (cards_with i cs) (values_under i cs) ∙ ap₂ tally (sym (cards_snoc i cs es)) (sym (values_snoc i cs es))

-- each other adds a card
pass-adds : (cs : List (List Entry)) (es : List Entry) (j n : ℕ) (later : List Tally) → pass (adds es) j n (tallies cs j n ++ later) ≡ tallies (cs ++ (es ∷ [])) j n ++ later
unfolding pass tallies
pass-adds cs es j zero later = refl
pass-adds cs es j (suc n) later = ap₂ (λ (r : Tally) (l : List Tally). r ∷ l) (adds_one cs es j) (pass-adds cs es (suc j) n later)

-- ---- the steps of a pass

module _ (n i p : ℕ) (h : i < n) where
  step-number : (i + n * p) / n ≡ p
  step-number = add-mul-div_left i p (omega arith) ∙ ap (λ (k : ℕ). k + p) (div-eq_of_lt h) ∙ omega arith

  step-at : (i + n * p) % n ≡ i
  step-at = add-mul-mod_self_left i n p ∙ mod-eq_of_lt h

module _ (cards : List ℕ) (n : ℕ) where
  -- what the pass p does to row i
  abbrev change : ℕ → ℕ → Tally → Tally
  change zero i r = tally 0 0
  change (suc p) i r = adds (entries_of (part cards (512 * suc p - 512) (512 * suc p))) i r

  step_is : (p i : ℕ) (r : Tally) → i < n → step_tally cards n (i + n * p) r ≡ change p i r
  unfolding step_tally
  step_is zero i r h = let e : i + n * 0 ≡ i = ap (λ (k : ℕ). i + k) (mul-zero n) ∙ omega arith in rw (e, lt-ltb i n h)
  step_is (suc p) i r h =
      let late : n ≤ i + n * suc p = omega (arith, mul-suc n p) in
      rw (le-ltb (i + n * suc p) n late, step-number n i (suc p) h, step-at n i (suc p) h)

  step-next : (p i : ℕ) → i < n → {l m : List Tally} → l ≡ m
      → set l (step_index n (i + n * p)) (step_tally cards n (i + n * p) (get_or l (step_index n (i + n * p)) (tally 0 0))) ≡ set m i (change p i (get_or m i (tally 0 0)))
  unfolding step_index
  step-next p i h {l} {m} e = rw (e, step-at n i p h) (ap (λ (r : Tally). set m i r) (step_is p i (get_or m i (tally 0 0)) h))

  module _ (rows : List Tally) (room : n ≤ length rows) (p : ℕ) where
    abbrev start : List Tally
    start = stepped cards n (n * p) rows

    -- within a pass
    pass_steps : (i : ℕ) → i ≤ n → stepped cards n (i + n * p) rows ≡ pass (change p) 0 i start
    unfolding pass
    pass_steps zero h = let e : 0 + n * p ≡ n * p = omega arith in ap (λ (k : ℕ). stepped cards n k rows) e
    pass_steps (suc i) h =
        let e : suc i + n * p ≡ i + n * p + 1 = omega arith in
        let z : 0 + i ≡ i = omega arith in
        let l : i < length start = omega (arith, length-stepped cards n (n * p) rows) in
        ap (λ (k : ℕ). stepped cards n k rows) e ∙ stepped_more cards n (i + n * p) rows ∙ step-next p i (omega arith) (pass_steps i (omega arith))
        ∙ (rw z at (pass-next (change p) 0 i start (tally 0 0) l))

    -- a whole one
    pass-whole : stepped cards n (n * suc p) rows ≡ pass (change p) 0 n start
    pass-whole = let e : n * suc p ≡ n + n * p = mul-suc n p ∙ omega arith in ap (λ (k : ℕ). stepped cards n k rows) e ∙ pass_steps n (omega arith)

-- ---- the blocks of a run, from the front and from the back

abbrev pub block_at : List ℕ → ℕ → List ℕ
block_at cards c = part cards (512 * suc c - 512) (512 * suc c)

block-later : (cards : List ℕ) (c : ℕ) → block_at (drop 512 cards) c ≡ block_at cards (suc c)
block-later cards c =
    let a : 512 * suc c - (512 * suc c - 512) ≡ 512 = omega arith in
    let b : 512 * suc (suc c) - (512 * suc (suc c) - 512) ≡ 512 = omega arith in
    let d : 512 + (512 * suc c - 512) ≡ 512 * suc (suc c) - 512 = omega arith in
    rw (a, b, drop-drop (512 * suc c - 512) 512 cards, d)

blocks_snoc : (c : ℕ) (cards : List ℕ) → blocks (suc c) cards ≡ blocks c cards ++ (block_at cards c ∷ [])
unfolding blocks
blocks_snoc zero cards = refl
blocks_snoc (suc c) cards =
    ap (λ (bs : List (List ℕ)). take 512 cards ∷ bs)
    (blocks_snoc c (drop 512 cards) ∙ ap (λ (b : List ℕ). blocks c (drop 512 cards) ++ (b ∷ [])) (block-later cards c))

module _ {P : List ℕ → Type 0} where
  fewer_blocks : (c t : ℕ) (cards : List ℕ) → c ≤ t → All P (blocks t cards) → All P (blocks c cards)
  unfolding blocks
  fewer_blocks zero t cards h a = all_empty
  fewer_blocks (suc c) zero cards h a = absurd (omega arith)
  fewer_blocks (suc c) (suc t) cards h (all_cons p ps) = all_cons p (fewer_blocks c t (drop 512 cards) (omega arith) ps)

  block_holds : (c t : ℕ) (cards : List ℕ) → c < t → All P (blocks t cards) → P (block_at cards c)
  block_holds c t cards h a =
      all_head P (all_right P (blocks c cards) (subst (All P) (blocks_snoc c cards) (fewer_blocks (suc c) t cards (omega arith) a)))

-- ---- what the rows hold is small

cards_most : (i : ℕ) (bs : List (List ℕ)) → cards_with i (map entries_of bs) ≤ length bs
unfolding cards_with
cards_most i [] = omega arith
cards_most i (b ∷ bs) =
    let h = cards_most i bs in
    cond-elim (λ (k : ℕ). k ≤ suc (length bs)) (eqb (length (values_at i (entries_of b))) 0) (λ _. omega arith) (λ _. omega arith)

values_under_most : (i : ℕ) {bs : List (List ℕ)} → All (λ (b : List ℕ). read_card b ≡ (Ok tt)) bs → values_under i (map entries_of bs) ≤ 64 * length bs
unfolding values_under
values_under_most i all_empty = omega arith
values_under_most i (all_cons {x = b} {xs = bs} h hs) = omega (arith, card_values_most i b h, values_under_most i hs)

-- ---- the theorems

pos_of_mul_pos : (n m k : ℕ) → k < n * m → 0 < n
pos_of_mul_pos zero m k h = absurd (omega (arith, zero-mul m))
pos_of_mul_pos (suc n) m k h = omega arith

module _ (cards : List ℕ) (n : ℕ) (rows : List Tally) (room : n ≤ length rows) where
  -- after the pass for each of c cards the rows hold the tallies of these
  pub stepped_cards : (c : ℕ) → stepped cards n (n * suc c) rows ≡ tallies (map entries_of (blocks c cards)) 0 n ++ drop n rows
  unfolding blocks
  stepped_cards zero =
      pass-whole cards n rows room 0
      ∙ ap (λ (l : List Tally). pass (λ k r. tally 0 0) 0 n l) (ap (λ (k : ℕ). stepped cards n k rows) (mul-zero n) ∙ stepped_none cards n rows)
      ∙ pass_clears 0 n rows room
  stepped_cards (suc c) =
      pass-whole cards n rows room (suc c) ∙ ap (λ (l : List Tally). pass (adds (entries_of (block_at cards c))) 0 n l) (stepped_cards c)
      ∙ pass-adds (map entries_of (blocks c cards)) (entries_of (block_at cards c)) 0 n (drop n rows)
      ∙ ap (λ (es : List (List Entry)). tallies es 0 n ++ drop n rows) (sym (ap (map entries_of) (blocks_snoc c cards) ∙ map-append entries_of (blocks c cards) (block_at cards c ∷ [])))

  module _ (t : ℕ) (size : length cards ≡ 512 * t) (few : t ≤ 128) (all : All (λ (b : List ℕ). read_card b ≡ (Ok tt)) (blocks t cards)) where
    -- the row of a step, as the passes before have left it
    old_row : (i c : ℕ) → i < n → get_or (stepped cards n (i + n * suc c) rows) i (tally 0 0) ≡ tally (cards_with i (map entries_of (blocks c cards))) (values_under i (map entries_of (blocks c cards)))
    old_row i c h =
        let cs = map entries_of (blocks c cards) in
        let z : 0 + i ≡ i = omega arith in
        ap (λ (l : List Tally). get_or l i (tally 0 0)) (pass_steps cards n rows room (suc c) i (omega arith))
        ∙ pass-at (change cards n (suc c)) 0 i (stepped cards n (n * suc c) rows) (tally 0 0)
        ∙ ap (λ (l : List Tally). get_or l i (tally 0 0)) (stepped_cards c)
        ∙ get_or-append (tallies cs 0 n) (drop n rows) (tally 0 0) i (omega (arith, tallies-length cs 0 n))
        ∙ (rw z at (tallies-at cs 0 n i (tally 0 0) h))

    raisable_at : (i p : ℕ) → i < n → p ≤ t → Raisable cards n (i + n * p) (get_or (stepped cards n (i + n * p) rows) i (tally 0 0))
    raisable_at i zero h l =
        let early : n ≤ i + n * 0 → ⊥ = λ g. omega (arith, mul-zero n) in
        record {
          some = omega arith;
          short = omega arith;
          inside = λ g. absurd (early g);
          well_formed = λ g. absurd (early g);
          few_cards = λ g. absurd (early g);
          few_values = λ g. absurd (early g);
        }
    raisable_at i (suc c) h l =
        let number = step-number n i (suc c) h in
        let done = blocks-length c cards in
        record {
          some = omega arith;
          short = omega arith;
          inside = λ g. rw number (omega arith);
          well_formed = λ g. rw number (block_holds c t cards l all);
          few_cards = λ g. rw (old_row i c h) (omega (arith, cards_most i (blocks c cards)));
          few_values = λ g. rw (old_row i c h) (omega (arith, values_under_most i (fewer_blocks c t cards (omega arith) all)));
        }

    ready_at : (i p : ℕ) → i < n → p ≤ t → Ready cards n (i + n * p) rows
    unfolding step_index
    ready_at i p h l = record { room = rw (step-at n i p h) (omega arith); raisable = rw (step-at n i p h) (raisable_at i p h l) }

    -- each step finds its row, and a card that is well formed
    pub steps_ready : (k : ℕ) → k < n * suc t → Ready cards n k rows
    steps_ready k h =
        let some : 0 < n = pos_of_mul_pos n (suc t) k h in
        let pass-number : k / n < suc t = (div-lt_iff_lt-mul some).1 (subst (λ (m : ℕ). k < m) (mul_comm n (suc t)) h) in
        subst (λ (j : ℕ). Ready cards n j rows) (mod-add-div k n) (ready_at (k % n) (k / n) (mod-lt k some) (omega arith))
