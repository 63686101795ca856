-- A run of cards is read as its blocks.
-- Assumes nothing.
use Prim.Native.Nat.{ℕ, zero, suc, ◌*◌, ◌/◌, ◌%◌, ◌≤◌}
use native.Mathlib.Omega.{arith}
use mathlib.Core.Path.{◌≡◌, refl, ap, ap₂, sym, ◌∙◌, subst}
use mathlib.Core.Bool.{◌&&◌}
use mathlib.Core.Logic.{◌↔◌, ◌⊎◌, inl, inr}
use mathlib.Core.List.{List, ◌∷◌, ◌++◌, flatten}
use lib.Dec.{eqb, leb}
use lib.ListN.{length, take, drop, length-append, length-drop, take-append-drop}
use lib.Seq.{take_at, drop_at, length-take-le}
use borrow.Author.Tests.{eq-eqb, eqb-true, le-leb, leb-true}
use Rattle.base.specs.Lists.{All, all_empty, all_cons}
use Rattle.base.proofs.Lists.{length_zero}
use Rattle.base.proofs.Tests.{and_left, and_right, cond-first, cond-elim}
use Rattle.refusal.specs.Steps.{Step, found, stop}
use Rattle.answer.specs.Operations.{blocks, accept_run}
use Rattle.answer.specs.Selection.{Run}

-- ---- written and read back

flatten_length : {bs : List (List ℕ)} → All (λ (b : List ℕ). length b ≡ 512) bs → length (flatten bs) ≡ 512 * length bs
unfolding flatten
flatten_length all_empty = refl
flatten_length (all_cons {x = b} {xs = bs} e h) = length-append b (flatten bs) ∙ omega (arith, flatten_length h)

flatten_blocks : {bs : List (List ℕ)} → All (λ (b : List ℕ). length b ≡ 512) bs → blocks (length bs) (flatten bs) ≡ bs
unfolding flatten blocks
flatten_blocks all_empty = refl
flatten_blocks (all_cons {x = b} {xs = bs} e h) =
    ap₂ (λ (c : List ℕ) (cs : List (List ℕ)). c ∷ cs) (take_at b (flatten bs) 512 e)
    (ap (blocks (length bs)) (drop_at b (flatten bs) 512 e) ∙ flatten_blocks h)

-- ---- read and written back

pub blocks-length : (n : ℕ) (cards : List ℕ) → length (blocks n cards) ≡ n
unfolding blocks
blocks-length zero cards = refl
blocks-length (suc n) cards = ap suc (blocks-length n (drop 512 cards))

blocks_sizes : (n : ℕ) (cards : List ℕ) → length cards ≡ 512 * n → All (λ (b : List ℕ). length b ≡ 512) (blocks n cards)
unfolding blocks
blocks_sizes zero cards e = all_empty
blocks_sizes (suc n) cards e =
    all_cons (length-take-le 512 cards (omega arith)) (blocks_sizes n (drop 512 cards) (length-drop 512 cards ∙ omega arith))

blocks_flatten : (n : ℕ) (cards : List ℕ) → length cards ≡ 512 * n → cards ≡ flatten (blocks n cards)
unfolding blocks flatten
blocks_flatten zero cards e = length_zero cards (omega arith)
blocks_flatten (suc n) cards e =
    sym (take-append-drop 512 cards) ∙ ap (λ (l : List ℕ). take 512 cards ++ l) (blocks_flatten n (drop 512 cards) (length-drop 512 cards ∙ omega arith))

-- ---- the size of a run, and its blocks
pub run-size : {cards : List ℕ} {bs : List (List ℕ)} → Run cards bs → length cards ≡ 512 * length bs
run-size r = ap length r.whole ∙ flatten_length r.sizes

pub run-blocks : {cards : List ℕ} {bs : List (List ℕ)} → Run cards bs → blocks (length bs) cards ≡ bs
run-blocks {bs = bs} r = ap (blocks (length bs)) r.whole ∙ flatten_blocks r.sizes

-- ---- the theorem

found-same : {A : Type 0} {x y : A} → found x ≡ found y → x ≡ y
found-same e = cc

run_there : (cards : List ℕ) (bs : List (List ℕ)) → accept_run cards ≡ found bs → Run cards bs
unfolding accept_run
run_there cards bs h =
    let n = length cards / 512 in
    let c = cond-first (eqb (length cards % 512) 0 && leb (length cards) 65536) (found (blocks n cards)) (stop 20 0) (λ e. absurd (let z : ◌≡◌ {A = ℕ} 0 1 = cc in omega arith)) h in
    let whole : length cards ≡ 512 * n = omega (arith, eqb-true (length cards % 512) 0 (and_left (eqb (length cards % 512) 0) (leb (length cards) 65536) c.0)) in
    let most : length cards ≤ 65536 = leb-true (length cards) 65536 (and_right (eqb (length cards % 512) 0) (leb (length cards) 65536) c.0) in
    subst (Run cards) (found-same c.1)
    (record { few = omega (arith, blocks-length n cards); sizes = blocks_sizes n cards whole; whole = blocks_flatten n cards whole })

run-back : (cards : List ℕ) (bs : List (List ℕ)) → Run cards bs → accept_run cards ≡ found bs
unfolding accept_run
run-back cards bs r =
    let size = run-size r in
    let few = r.few in
    let count : length cards / 512 ≡ length bs = omega arith in
    rw (eq-eqb (length cards % 512) 0 (omega arith), le-leb (length cards) 65536 (omega arith), count)
    (ap (λ (l : List ℕ). found (blocks (length bs) l)) r.whole ∙ ap found (flatten_blocks r.sizes))

-- a list is accepted as a run of blocks exactly where it is one
pub run_iff : (cards : List ℕ) (bs : List (List ℕ)) → (accept_run cards ≡ found bs) ↔ Run cards bs
run_iff cards bs = (run_there cards bs, run-back cards bs)

-- and refused with 20 where it is none
pub run_or_none : (cards : List ℕ) → ((bs : List (List ℕ)) × (accept_run cards ≡ found bs)) ⊎ (accept_run cards ≡ stop 20 0)
unfolding accept_run
run_or_none cards =
    cond-elim (λ (s : Step (List (List ℕ))). ((bs : List (List ℕ)) × (s ≡ found bs)) ⊎ (s ≡ stop 20 0)) (eqb (length cards % 512) 0 && leb (length cards) 65536)
    (λ _. inl (blocks (length cards / 512) cards, refl)) (λ _. inr refl)
