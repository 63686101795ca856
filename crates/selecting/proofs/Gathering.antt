-- The loop of `gather`: what the run comes to is the numbers gathered, and then what the cards to come add to them.
-- The invariant is the field `rest`: the numbers of the run are the first `count` in the buffer and then those of the cards from the index
-- on. A turn takes the card at the position off the run (`split`): where it matches its number is added, where it does not the buffer
-- stays, and where it is refused the loop and the run both stop at its index. There are no more
-- numbers than cards seen (`few`), so the buffer has room. A card with a verdict is well formed (`judged_well_formed`).
-- Assumes nothing.
use Rattle.std.specs.Prelude.{Err, Ok, Result, MatchResult, IsErrAnd}
use Prim.Native.Nat.{ℕ, suc, ◌+◌, ◌-◌, ◌*◌, ◌/◌, ◌%◌, ◌≤◌, ◌<◌, zero-le}
use native.Mathlib.Nat.{sub-zero}
use native.Mathlib.Numerals.{add-one}
use native.Mathlib.Omega.{arith}
use mir.Syntax.{w64}
use mir.Val.{Fits}
use mathlib.Core.Path.{◌≡◌, refl, sym, ap, ◌∙◌}
use mathlib.Core.Bool.{Bool, true, false, cond}
use mathlib.Core.List.{List, [], ◌∷◌, ◌++◌, append_assoc, append-nil}
use lib.ListN.{length, take, drop, set, length-set}
use lib.Seq.{take-suc-set, drop-drop}
use Rattle.base.specs.Parts.{part}
use Rattle.card.specs.Card.{record_number, read_card}
use Rattle.refusal.specs.declared.Refusal.{Refusal}
use Rattle.refusal.specs.Steps.{Step, found, stop, ◌>>=◌}
use Rattle.answer.specs.Operations.{Question, blocks, accept_card}
use Rattle.answer.specs.Passing.{card_verdict}
use Rattle.one_card.specs.OneCard.{verdict_step}
use Rattle.selecting.specs.Selecting.{run_numbers, Gathers}
use Rattle.refusal.proofs.Steps.{bind_found}
use Rattle.answer.proofs.Passing.{card_accepted}
use Rattle.refusal.specs.declared.Reason.{Reason}

-- ---- a card that has a verdict is well formed

judged_well_formed : (q : Question) (b : List ℕ) (y : Bool) → card_verdict q 0 b ≡ found y → read_card b ≡ (Ok tt)
unfolding card_verdict
judged_well_formed q b y h =
    let (c, t, says) = bind_found (accept_card q.parameters 0 b) (λ c. found (q.says c.entries)) y h in
    (card_accepted q.parameters 0 b c t).0

-- ---- the next card is asked what the first was

pub asked_alike : (q first : Question) (b : List ℕ) (v : Result Bool Reason) → q ≡ first → ((i : ℕ) → verdict_step v i ≡ card_verdict q i b) → (i : ℕ) → verdict_step v i ≡ card_verdict first i b
asked_alike q first b v h e i = e i ∙ ap (λ (w : Question). card_verdict w i b) h

-- ---- a verdict, and a refusal at its card's index

pub verdict_same : (v : Result Bool Reason) (m : Result Bool Refusal) (Q : Reason → Refusal → Type 0) → MatchResult v (λ y. m ≡ Ok y) (λ e. IsErrAnd m (Q e)) → (y : Bool) → m ≡ Ok y → v ≡ Ok y
verdict_same (Ok x) m Q h y e = let same : ◌≡◌ {A = Result Bool Refusal} (Ok x) (Ok y) = sym h ∙ e in let is : x ≡ y = cc in ap Ok is
verdict_same (Err x) (Ok z) Q h y e = absurd h
verdict_same (Err x) (Err z) Q h y e = absurd (let z : ◌≡◌ {A = ℕ} 0 1 = cc in omega arith)

verdict_refused : (index : ℕ) (v : Result Bool Reason) (m : Result Bool Refusal) (Q : Reason → Refusal → Type 0) → MatchResult v (λ y. m ≡ Ok y) (λ e. IsErrAnd m (Q e))
    → ((x : Reason) (r : Refusal) → Q x r → (r.reason ≡ x) × (r.place ≡ index)) → (r : Refusal) → m ≡ Err r → (v ≡ Err r.reason) × (r.place ≡ index)
verdict_refused index (Ok x) m Q h q r e = absurd (let same : ◌≡◌ {A = Result Bool Refusal} (Ok x) (Err r) = sym h ∙ e in let z : ◌≡◌ {A = ℕ} 0 1 = cc in omega arith)
verdict_refused index (Err x) (Ok z) Q h q r e = absurd h
verdict_refused index (Err x) (Err z) Q h q r e = let is : z ≡ r = cc in let w = q x z h in (ap Err (sym w.0 ∙ ap (λ (s : Refusal). s.reason) is), sym (ap (λ (s : Refusal). s.place) is) ∙ w.1)

-- ---- the loop

-- numbers, and then those that are found
abbrev onto : List ℕ → Step (List ℕ) → Step (List ℕ)
onto ns s = s >>= λ ms. found (ns ++ ms)

onto_none : (s : Step (List ℕ)) → s ≡ onto [] s
onto_none (found ns) = refl
onto_none (stop n p) = refl

onto_more : (ns : List ℕ) (x : ℕ) (s : Step (List ℕ)) → onto ns (s >>= λ ms. found (x ∷ ms)) ≡ onto (ns ++ (x ∷ [])) s
onto_more ns x (found ms) = rw (append_assoc ns (x ∷ []) ms)
onto_more ns x (stop n p) = refl

onto_same : (s : Step (List ℕ)) → (s >>= λ ms. found ms) ≡ s
onto_same (found ms) = refl
onto_same (stop n p) = refl

pub record Gathering (q : Question) (cards entry buffer : List ℕ) (index count : ℕ) : Type 0 where
  -- how many cards there are
  pub total : ℕ
  pub size : length cards ≡ total * 512
  pub seen : index ≤ total
  pub few : count ≤ index
  pub room : total ≤ length buffer
  pub long : length buffer ≡ length entry
  pub short : length buffer ≤ 128
  pub rest : run_numbers q 0 (blocks total cards) ≡ onto (take count buffer) (run_numbers q index (blocks (total - index) (drop (512 * index) cards)))

module _ (q : Question) (cards : List ℕ) where
  pub gathering_start : (buffer : List ℕ) → length cards % 512 ≡ 0 → length cards / 512 ≤ length buffer → length buffer ≤ 128 → Gathering q cards buffer buffer 0 0
  gathering_start buffer w h s =
      record {
        total = length cards / 512;
        size = omega arith;
        seen = zero-le;
        few = zero-le;
        room = h;
        long = refl;
        short = s;
        rest = rw (sub-zero (length cards / 512)) (onto_none (run_numbers q 0 (blocks (length cards / 512) cards)));
      }

  module _ {entry buffer : List ℕ} {index count : ℕ} (g : Gathering q cards entry buffer index count) (h : index < length cards / 512) where
    pub gathering_part : (at : ℕ) → at ≡ 512 * index → at + 512 ≤ length cards
    gathering_part at e = omega (arith, e, h, g.size)

    pub gathering_scaled_index : Fits w64 (512 * index)
    gathering_scaled_index = record { fits = omega (arith, h, g.size, g.room, g.short) }

    pub gathering_room : count < length buffer
    gathering_room = omega (arith, h, g.size, g.few, g.room)

    pub gathering_scaled : Fits w64 (count * 4)
    gathering_scaled = record { fits = omega (arith, gathering_room, g.short) }

    pub gathering_more : Fits w64 (count + 1)
    gathering_more = record { fits = omega (arith, gathering_room, g.short) }

    pub gathering_well_formed : (b : List ℕ) (v : Result Bool Reason) → ((i : ℕ) → verdict_step v i ≡ card_verdict q i b) → (y : Bool) → v ≡ Ok y → read_card b ≡ (Ok tt)
    gathering_well_formed b v e y s = judged_well_formed q b y (sym (e 0) ∙ ap (λ (w : Result Bool Reason). verdict_step w 0) s)

    module _ (at : ℕ) (p : at ≡ 512 * index) (v : Result Bool Reason) (e : (i : ℕ) → verdict_step v i ≡ card_verdict q i (part cards at (at + 512))) where
      abbrev later : Step (List ℕ)
      later = run_numbers q (suc index) (blocks (g.total - suc index) (drop (512 * suc index) cards))

      -- the card at `at`, and then the cards after it
      split : run_numbers q 0 (blocks g.total cards)
          ≡ onto (take count buffer) (verdict_step v index >>= λ y. later >>= λ ns. found (cond y (record_number (part cards at (at + 512)) ∷ ns) ns))
      unfolding run_numbers blocks
      split =
          let n : g.total - index ≡ suc (g.total - suc index) = omega (arith, h, g.size) in
          let m : at + 512 - at ≡ 512 = omega arith in
          let behind : 512 * suc index ≡ at + 512 = omega (arith, p) in
          g.rest ∙ rw (n, e index, m, behind, ← p, ← drop-drop 512 at cards)

      next : (filled : List ℕ) (n : ℕ) → length filled ≡ length buffer → n ≤ suc index
          → run_numbers q 0 (blocks g.total cards) ≡ onto (take n filled) later → Gathering q cards entry filled (index + 1) n
      next filled n l few rest =
          record {
            total = g.total;
            size = g.size;
            seen = omega (arith, h, g.size);
            few = omega (arith, few);
            room = rw l g.room;
            long = l ∙ g.long;
            short = omega (arith, l, g.short);
            rest = rw (add-one index) rest;
          }

      pub gathering_match : (y : Bool) (x : ℕ) → v ≡ Ok y → y ≡ true → x ≡ record_number (part cards at (at + 512)) → Gathering q cards entry (set buffer count x) (index + 1) (count + 1)
      gathering_match y x s t r =
          next (set buffer count x) (count + 1) (length-set buffer count x) (omega (arith, g.few))
          (split ∙ rw (s, t, ← r, add-one count, take-suc-set buffer count x gathering_room) (onto_more (take count buffer) x later))

      pub gathering_other : (y : Bool) → v ≡ Ok y → y ≡ false → Gathering q cards entry buffer (index + 1) count
      gathering_other y s t = next buffer count refl (omega (arith, g.few)) (split ∙ rw (s, t, onto_same later))

      gathering_refused : (r : Refusal) → v ≡ Err r.reason → r.place ≡ index → Gathers q cards (Err r) buffer
      gathering_refused r s t =
          let n : length cards / 512 ≡ g.total = omega (arith, g.size) in
          record {
            numbers = rw (n, t) (sym (split ∙ rw s));
            room = λ k z. absurd (let z : ◌≡◌ {A = ℕ} 0 1 = cc in omega arith);
          }

      pub gathering_stopped : (m : Result Bool Refusal) (Q : Reason → Refusal → Type 0) → MatchResult v (λ y. m ≡ Ok y) (λ e. IsErrAnd m (Q e)) → ((x : Reason) (r : Refusal) → Q x r → (r.reason ≡ x) × (r.place ≡ index))
          → (r : Refusal) → m ≡ Err r → Gathers q cards (Err r) buffer
      gathering_stopped m Q k u r z = let w = verdict_refused index v m Q k u r z in gathering_refused r w.0 w.1

  pub gathering_end : {entry buffer : List ℕ} {index count : ℕ} → Gathering q cards entry buffer index count → length cards / 512 ≤ index → Gathers q cards (Ok count) buffer
  unfolding run_numbers blocks
  gathering_end {entry} {buffer} {index} {count} g h =
      let d : g.total - index ≡ 0 = omega (arith, h, g.size) in
      let n : length cards / 512 ≡ g.total = omega (arith, g.size) in
      record {
        numbers = rw n (sym (g.rest ∙ rw (d) (ap found (append-nil (take count buffer)))));
        room = λ k z. let s : count ≡ k = cc in omega (arith, g.few, g.seen, g.room);
      }
