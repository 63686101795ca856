-- A search string is refused with 10, 50 or 51 exactly where that line decides.
-- `pairs_outcome`, by induction on the fuel, which is more than the bytes left: all parts of the text are pairs, or reading stopped at the
-- first that is none. For the text is cut at its first ampersand in one way, so that a part of it is the one cut off or a part of the rest
-- (`part_cases`). `query_decided` shows that the line with which the reader stops is the first in the table. Where the size is wrong that
-- is 10, since 50 and 51 are of a later group. Else 10 does not hold. Where a part is no pair 51 does not hold, and of the lines 50 the one
-- with the lowest place is first. Where all parts are pairs only 51 can hold.
-- Assumes nothing.
use Rattle.std.specs.Prelude.{Option, Some, None}
use Prim.Native.Nat.{ℕ, zero, suc, ◌+◌, ◌≤◌, ◌<◌}
use native.Mathlib.Nat.{le_of_eq}
use native.Mathlib.Omega.{arith}
use mathlib.Core.Path.{◌≡◌, refl, ap, sym, ◌∙◌, subst}
use mathlib.Core.Bool.{true, cond, ◌||◌}
use mathlib.Core.Logic.{◌⊎◌, inl, inr, ⊎_elim}
use mathlib.Core.List.{List, [], ◌∷◌, ◌++◌}
use lib.Dec.{eqb, leb, ltb}
use lib.ListN.{length}
use borrow.Author.Tests.{eq-eqb, eqb-true, lt-ltb, ltb-true, ltb-false, leb-true, leb-false}
use Rattle.base.specs.Lists.{member}
use Rattle.base.proofs.Tests.{or_either, or_left, or_right, both_ways, cond-elim, decided}
use Rattle.refusal.specs.Steps.{Step, found, stop, ◌>>=◌}
use Rattle.refusal.proofs.Steps.{stop_not_found}
use Rattle.refusal.specs.Order.{rank, group, Before}
use Rattle.refusal.proofs.Deciding.{Decided, none_holds, one_decides}
use Rattle.refusal.proofs.Order.{later-group, no_lower_rank}
use Rattle.base.specs.Split.{Without}
use Rattle.query.specs.Spelling.{ampersand, equals, Alternative, Query, alternatives_of, PairAt, PairsAt, last_pair, next_pair, SpellsQuery}
use Rattle.query.specs.Reader.{decoded, pair_of, read_pair, read_pairs, accept_query}
use Rattle.query.specs.Lines.{PartAt, part_last, part_first, part_later, BadPart, QueryLine, line_10, line_50, line_51}
use Rattle.query.proofs.Cuts.{cut_shorter, Cut, cut_at, no_cut, cut_of, cut_unique, not_both}
use Rattle.query.proofs.Parts.{part_iff, pair_not_bad}
use Rattle.query.proofs.Reading.{pair_cut, pair-whole, pair_there, pair-back, pair-without, pairs_cut, pairs_last, pairs_back}

-- ---- parts

part-from : {p at : ℕ} {xs s : List ℕ} → PartAt p xs at s → p ≤ at
part-from (part_last h) = omega arith
part-from (part_first xs h) = omega arith
part-from (part_later h r) = omega (arith, part-from r)

-- a text without an ampersand is its only part
part-only : {p at : ℕ} {xs s : List ℕ} → PartAt p xs at s → Without ampersand xs → (at ≡ p) × (s ≡ xs)
part-only (part_last h) w = (refl, refl)
part-only (part_first {s = s} xs h) w = absurd (not_both ampersand s xs w)
part-only (part_later {h = h} {xs = xs} n r) w = absurd (not_both ampersand h xs w)

-- a part of a text with one is the first or one of the rest
part_cases : {p at : ℕ} {xs s : List ℕ} → PartAt p xs at s → (m t : List ℕ) → Without ampersand m → xs ≡ m ++ (ampersand ∷ t)
    → ((at ≡ p) × (s ≡ m)) ⊎ PartAt (p + length m + 1) t at s
part_cases (part_last {s = s} h) m t w e = absurd (not_both ampersand m t (subst (Without ampersand) e h))
part_cases (part_first {s = s} xs h) m t w e = inl (refl, (cut_unique ampersand s m xs t h w e).0)
part_cases (part_later {p = p} {at = at} {h = h} {xs = xs} {s = s} n r) m t w e =
    let same = cut_unique ampersand h m xs t n w e in
    let heads : h ≡ m = same.0 in
    let tails : xs ≡ t = same.1 in
    inr (subst (λ (k : ℕ). PartAt k t at s) (ap (λ (l : List ℕ). p + length l + 1) heads) (subst (λ (l : List ℕ). PartAt (p + length h + 1) l at s) tails r))

abbrev IsPair : ℕ → List ℕ → Type 0
IsPair at s = (a : List Alternative) × PairAt at s a

-- each part of pairs is a pair
parts_are_pairs : {p : ℕ} {xs : List ℕ} {q : Query} → PairsAt p xs q → {at : ℕ} {s : List ℕ} → PartAt p xs at s → IsPair at s
parts_are_pairs (last_pair {p = p} {s = t} {a = a} h) {at} {s} r =
    let same = part-only r (pair-without h) in
    (_, subst (λ (k : ℕ). PairAt k s a) (sym same.0) (subst (λ (l : List ℕ). PairAt p l a) (sym same.1) h))
parts_are_pairs (next_pair {p = p} {s = t} {xs = xs} {a = a} h rest) {at} {s} r =
    ⊎_elim
    (λ same. (_, subst (λ (k : ℕ). PairAt k s a) (sym same.0) (subst (λ (l : List ℕ). PairAt p l a) (sym same.1) h)))
    (λ later. parts_are_pairs rest later)
    (part_cases r t xs (pair-without h) refl)

-- ---- a pair

data PairOutcome (p : ℕ) (s : List ℕ) : Step (List Alternative) → Type 0 where
  pair_is : {a : List Alternative} → PairAt p s a → PairOutcome p s (found a)
  pair_is_none : BadPart s → PairOutcome p s (stop 50 p)

pair_step : (p : ℕ) (s : List ℕ) → Without ampersand s → (r : Step (List Alternative)) → read_pair p s ≡ r → (r ≡ stop 50 p) ⊎ ((a : List Alternative) × (r ≡ found a)) → PairOutcome p s r
pair_step p s o r e (inl z) = subst (PairOutcome p s) (sym z) (pair_is_none ((part_iff p s o).0 (λ a h. stop_not_found (sym z ∙ sym e ∙ pair-back h))))
pair_step p s o r e (inr (a, z)) = subst (PairOutcome p s) (sym z) (pair_is (pair_there p s a o (e ∙ z)))

pair-either : (p : ℕ) (s : List ℕ) → (read_pair p s ≡ stop 50 p) ⊎ ((a : List Alternative) × (read_pair p s ≡ found a))
pair-either p s = by_cut (cut_of equals s)
  where
    of_parts : (x y : Option (List ℕ)) → (pair_of p x y ≡ stop 50 p) ⊎ ((a : List Alternative) × (pair_of p x y ≡ found a))
    of_parts (Some x) (Some y) = inr (_, refl)
    of_parts (Some x) None = inl refl
    of_parts None y = inl refl

    by_cut : {t : List ℕ} → Cut equals t → (read_pair p t ≡ stop 50 p) ⊎ ((a : List Alternative) × (read_pair p t ≡ found a))
    by_cut (cut_at m w h) = rw (pair_cut p m w h) (of_parts (decoded m) (decoded w))
    by_cut {t} (no_cut h) = inl (pair-whole p t h)

pair-outcome : (p : ℕ) (s : List ℕ) → Without ampersand s → PairOutcome p s (read_pair p s)
pair-outcome p s o = pair_step p s o (read_pair p s) refl (pair-either p s)

-- ---- pairs

data PairsOutcome (p : ℕ) (xs : List ℕ) : Step Query → Type 0 where
  pairs_are : {q : Query} → PairsAt p xs q → PairsOutcome p xs (found q)
  first_is_none : {at : ℕ} {s : List ℕ} → PartAt p xs at s → BadPart s
      → ((k : ℕ) (t : List ℕ) → PartAt p xs k t → k < at → IsPair k t) → PairsOutcome p xs (stop 50 at)

module _ (p : ℕ) (s : List ℕ) (o : Without ampersand s) where
  last_outcome : {r : Step (List Alternative)} → PairOutcome p s r → PairsOutcome p s (r >>= λ a. found (a ∷ []))
  last_outcome (pair_is h) = pairs_are (last_pair h)
  last_outcome (pair_is_none n) = first_is_none (part_last o) n (λ k t r l. absurd (let z = part-from r in omega arith))

  module _ (xs : List ℕ) where
    rest_outcome : {a : List Alternative} → PairAt p s a → {r : Step Query} → PairsOutcome (p + length s + 1) xs r → PairsOutcome p (s ++ (ampersand ∷ xs)) (r >>= λ q. found (a ∷ q))
    rest_outcome h (pairs_are r) = pairs_are (next_pair h r)
    rest_outcome {a} h (first_is_none {at = at} part n earlier) =
        first_is_none (part_later o part) n
        (λ k t r l. ⊎_elim
        (λ same. (a, subst (λ (k : ℕ). PairAt k t a) (sym same.0) (subst (λ (l : List ℕ). PairAt p l a) (sym same.1) h)))
        (λ later. earlier k t later l)
        (part_cases r s xs o refl))

    next-outcome : {r : Step (List Alternative)} {rest : Step Query} → PairOutcome p s r → PairsOutcome (p + length s + 1) xs rest
        → PairsOutcome p (s ++ (ampersand ∷ xs)) (r >>= λ a. rest >>= λ q. found (a ∷ q))
    next-outcome (pair_is h) rest = rest_outcome h rest
    next-outcome (pair_is_none n) rest = first_is_none (part_first xs o) n (λ k t r l. absurd (let z = part-from r in omega arith))

pairs_outcome : (n p : ℕ) (xs : List ℕ) → length xs < n → PairsOutcome p xs (read_pairs n p xs)
pairs_outcome zero p xs h = absurd (omega arith)
pairs_outcome (suc n) p xs h = by_cut (pairs_outcome n) (cut_of ampersand xs) h
  where
    by_cut : ((p : ℕ) (xs : List ℕ) → length xs < n → PairsOutcome p xs (read_pairs n p xs)) → {t : List ℕ} → Cut ampersand t → length t < suc n → PairsOutcome p t (read_pairs (suc n) p t)
    by_cut on (cut_at s t o) l = rw (pairs_cut n p s t o) (next-outcome p s o t (pair-outcome p s o) (on (p + length s + 1) t (omega (arith, l, cut_shorter ampersand s t))))
    by_cut on {t} (no_cut o) l = rw (pairs_last n p t o) (last_outcome p t o (pair-outcome p t o))

-- ---- the whole string

module _ (text : List ℕ) where
  abbrev SizeWrong : Type 0
  SizeWrong = (length text ≡ 0) ⊎ (1024 < length text)

  size_there : (eqb (length text) 0 || ltb 1024 (length text)) ≡ true → SizeWrong
  size_there h = ⊎_elim (λ e. inl (eqb-true (length text) 0 e)) (λ e. inr (ltb-true 1024 (length text) e)) (or_either (eqb (length text) 0) (ltb 1024 (length text)) h)

  size_back : SizeWrong → (eqb (length text) 0 || ltb 1024 (length text)) ≡ true
  size_back =
      ⊎_elim
      (λ e. or_left (eqb (length text) 0) (ltb 1024 (length text)) (eq-eqb (length text) 0 e))
      (λ e. or_right (eqb (length text) 0) (ltb 1024 (length text)) (lt-ltb 1024 (length text) e))

  first_10 : (m q : ℕ) → QueryLine text m q → Before m q 10 0 → ⊥
  unfolding group rank member
  first_10 m q (line_10 u) = no_lower_rank refl (omega arith) (omega arith)
  first_10 m q (line_50 r n) = later-group (omega arith)
  first_10 m q (line_51 r n) = later-group (omega arith)

  module _ (size : SizeWrong → ⊥) where
    right_size : (text ≡ [] → ⊥) × (length text ≤ 1024)
    right_size = ((λ e. size (inl (ap length e))), (let z : 1024 < length text → ⊥ = λ l. size (inr l) in omega arith))

    -- all pairs are there
    module _ (q : Query) (pairs : PairsAt 0 text q) where
      pairs_line : {m p : ℕ} → QueryLine text m p → (m ≡ 51) × (p ≡ 0) × (32 < length (alternatives_of q))
      pairs_line (line_10 u) = absurd (size u)
      pairs_line (line_50 r n) = absurd (let w = parts_are_pairs pairs r in pair_not_bad w.1 n)
      pairs_line (line_51 {q = r} other l) =
          let e : found q ≡ found r = sym (pairs_back pairs (suc (length text)) (omega arith)) ∙ pairs_back other (suc (length text)) (omega arith) in
          let z : q ≡ r = cc in
          (refl, refl, subst (λ (q : Query). 32 < length (alternatives_of q)) (sym z) l)

      count_decided : Decided (SpellsQuery text) (QueryLine text) (cond (leb (length (alternatives_of q)) 32) (found q) (stop 51 0))
      unfolding group rank member
      count_decided =
          cond-elim (Decided (SpellsQuery text) (QueryLine text)) (leb (length (alternatives_of q)) 32)
          (λ e. let few = leb-true (length (alternatives_of q)) 32 e in
          none_holds (record { not-empty = right_size.0; short = right_size.1; pairs = pairs; few = few }) (λ m p l. let z = pairs_line l in omega arith))
          (λ e. let many = leb-false (length (alternatives_of q)) 32 e in
          one_decides (record { holds = line_51 pairs many; first = λ m p l. let z = pairs_line l in let y : m ≡ 51 = z.0 in let x : p ≡ 0 = z.1 in no_lower_rank (ap group y) (omega arith) (le_of_eq (ap rank (sym y))) }))

    pairs_decided : {r : Step Query} → PairsOutcome 0 text r → Decided (SpellsQuery text) (QueryLine text) (r >>= λ q. cond (leb (length (alternatives_of q)) 32) (found q) (stop 51 0))
    pairs_decided (pairs_are {q = q} pairs) = count_decided q pairs
    pairs_decided (first_is_none {at = at} part lacks earlier) = one_decides (record { holds = line_50 part lacks; first = first })
      where
        first : (m p : ℕ) → QueryLine text m p → Before m p 50 at → ⊥
        first m p (line_10 u) k = size u
        first m p (line_50 {at = q} {s = s} r n) k =
            ⊎_elim (λ t. let w = earlier q s r (ltb-true q at t) in pair_not_bad w.1 n)
            (λ t. no_lower_rank {m = 50} {q = q} {n = 50} {p = at} refl (ltb-false q at t) (omega arith) k) (decided (ltb q at))
        first m p (line_51 pairs l) k = let w = parts_are_pairs pairs part in pair_not_bad w.1 lacks

  pub query_decided : Decided (SpellsQuery text) (QueryLine text) (accept_query text)
  unfolding accept_query
  query_decided =
      cond-elim (Decided (SpellsQuery text) (QueryLine text)) (eqb (length text) 0 || ltb 1024 (length text))
      (λ h. one_decides (record { holds = line_10 (size_there h); first = first_10 }))
      (λ h. pairs_decided (λ w. both_ways (size_back w) h) (pairs_outcome (suc (length text)) 0 text (omega arith)))

-- a string that no line refuses spells a query
pub unrefused_spells : (text : List ℕ) → ((n p : ℕ) → QueryLine text n p → ⊥) → (q : Query) × SpellsQuery text q
unrefused_spells text n = by_case (query_decided text)
  where
    by_case : {s : Step Query} → Decided (SpellsQuery text) (QueryLine text) s → (q : Query) × SpellsQuery text q
    by_case (none_holds h k) = (_, h)
    by_case (one_decides {n = m} {p = p} d) = absurd (n m p d.holds)
