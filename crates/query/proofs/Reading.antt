-- The reader reads exactly what is spelled.
-- Assumes nothing.
use Rattle.std.specs.Prelude.{Option, Some, None}
use Prim.Native.Nat.{ℕ, zero, suc, ◌+◌, ◌≤◌, ◌<◌}
use native.Mathlib.Omega.{arith}
use mathlib.Core.Path.{◌≡◌, refl, ap, sym, ◌∙◌, subst}
use mathlib.Core.Bool.{Bool, true, false, cond, ◌||◌}
use mathlib.Core.Logic.{◌↔◌}
use mathlib.Core.List.{List, [], ◌∷◌, ◌++◌, map}
use lib.Dec.{eqb, leb, ltb}
use lib.ListN.{length}
use lib.Seq.{take-append_seam, take-length}
use borrow.Author.Tests.{ne_eqb, eqb-false, lt-ltb, le-ltb, ltb-false, leb-true, le-leb}
use Rattle.base.specs.Lists.{all_empty, all_cons}
use Rattle.base.specs.Runs.{run_end, differs}
use Rattle.base.proofs.All.{all_append}
use Rattle.base.proofs.Tests.{cond-first}
use Rattle.refusal.specs.Steps.{Step, found, stop, ◌>>=◌}
use Rattle.refusal.proofs.Steps.{stop_not_found, bind_found}
use Rattle.base.specs.Split.{Without}
use Rattle.query.specs.Spelling.{ampersand, equals, Alternative, Query, alternatives_of, PairAt, a_pair, PairsAt, last_pair, next_pair, SpellsQuery}
use Rattle.query.specs.Reader.{decoded, signs_of, pair_of, read_pair, read_pairs, accept_query, cut_signs, alternative}
use Rattle.query.proofs.Cuts.{drop_right, cut_shorter, cut_end, whole_end, Cut, cut_at, no_cut, cut_of}
use Rattle.query.proofs.Decoding.{decoded_there, decoded-back}
use Rattle.query.proofs.Signs.{signs_iff}
use Rattle.query.proofs.Alternatives.{pieces_back, alternatives-back, alternatives_cut}

-- ---- a pair

pub pair_cut : (p : ℕ) (m w : List ℕ) → Without equals m → read_pair p (m ++ (equals ∷ w)) ≡ pair_of p (decoded m) (decoded w)
unfolding read_pair
pair_cut p m w h =
    let r : run_end (differs equals) (m ++ (equals ∷ w)) 0 ≡ length m = cut_end equals m w h in
    rw (r, lt-ltb (length m) (length (m ++ (equals ∷ w))) (omega (arith, cut_shorter equals m w)), take-append_seam m (equals ∷ w), drop_right equals m w)

pub pair-whole : (p : ℕ) (s : List ℕ) → Without equals s → read_pair p s ≡ stop 50 p
unfolding read_pair
pair-whole p s h = rw (whole_end equals s h, le-ltb (length s) (length s) (omega arith))

pairs_of : (p : ℕ) (n u : Option (List ℕ)) (a : List Alternative) → pair_of p n u ≡ found a
    → (m : List ℕ) × (v : List ℕ) × (n ≡ Some m) × (u ≡ Some v) × (a ≡ map (alternative p m) (cut_signs (signs_of false v)))
pairs_of p (Some m) (Some v) a e = (m, v, refl, refl, cc)
pairs_of p (Some m) None a e = absurd (let z : ◌≡◌ {A = ℕ} 0 1 = cc in omega arith)
pairs_of p None u a e = absurd (let z : ◌≡◌ {A = ℕ} 0 1 = cc in omega arith)

pub without-left : (b : ℕ) (m w : List ℕ) → Without b (m ++ w) → Without b m
without-left b [] w h = all_empty
without-left b (x ∷ m) w (all_cons n h) = all_cons n (without-left b m w h)

pub without_right : (b : ℕ) (m : List ℕ) (x : ℕ) (w : List ℕ) → Without b (m ++ (x ∷ w)) → Without b w
without_right b [] x w (all_cons n h) = h
without_right b (y ∷ m) x w (all_cons n h) = without_right b m x w h

pair_of_cut : (p : ℕ) {s : List ℕ} (a : List Alternative) → Without ampersand s → Cut equals s → read_pair p s ≡ found a → PairAt p s a
pair_of_cut p a o (cut_at m w h) e =
    let (n, u, d, f, i) = pairs_of p (decoded m) (decoded w) a (sym (pair_cut p m w h) ∙ e) in
    let rest = alternatives_cut p n (signs_of false u) in
    subst (PairAt p (m ++ (equals ∷ w))) (sym i)
    (a_pair (without-left ampersand m (equals ∷ w) o) h (without_right ampersand m equals w o) (decoded_there m n d) (decoded_there w u f) ((signs_iff u (signs_of false u)).0 refl) rest.0 rest.1)
pair_of_cut p {s} a o (no_cut h) e = absurd (let k : read_pair p s ≡ stop 50 p = pair-whole p s h in let z : ◌≡◌ {A = ℕ} 0 1 = cc in omega arith)

pub pair_there : (p : ℕ) (s : List ℕ) (a : List Alternative) → Without ampersand s → read_pair p s ≡ found a → PairAt p s a
pair_there p s a o e = pair_of_cut p a o (cut_of equals s) e

pub pair-back : {p : ℕ} {s : List ℕ} {a : List Alternative} → PairAt p s a → read_pair p s ≡ found a
pair-back (a_pair {p = p} {m = m} {n = n} {w = w} {u = u} {v = v} {ws = ws} {a = a} x h y d f g c l) =
    pair_cut p m w h ∙ rw (decoded-back d, decoded-back f, (signs_iff u v).1 g, pieces_back c) (ap found (alternatives-back p n l))

pub pair-without : {p : ℕ} {s : List ℕ} {a : List Alternative} → PairAt p s a → Without ampersand s
pair-without (a_pair x h y d f g c l) = all_append (λ (z : ℕ). z ≡ ampersand → ⊥) x (all_cons (λ e. omega arith) y)

-- ---- pairs

pub pairs_cut : (n p : ℕ) (s xs : List ℕ) → Without ampersand s
    → read_pairs (suc n) p (s ++ (ampersand ∷ xs)) ≡ (read_pair p s >>= λ a. read_pairs n (p + length s + 1) xs >>= λ q. found (a ∷ q))
unfolding read_pairs
pairs_cut n p s xs h =
    let r : run_end (differs ampersand) (s ++ (ampersand ∷ xs)) 0 ≡ length s = cut_end ampersand s xs h in
    rw (r, lt-ltb (length s) (length (s ++ (ampersand ∷ xs))) (omega (arith, cut_shorter ampersand s xs)), take-append_seam s (ampersand ∷ xs), drop_right ampersand s xs)

pub pairs_last : (n p : ℕ) (s : List ℕ) → Without ampersand s → read_pairs (suc n) p s ≡ (read_pair p s >>= λ a. found (a ∷ []))
unfolding read_pairs
pairs_last n p s h = rw (whole_end ampersand s h, le-ltb (length s) (length s) (omega arith), take-length s)

pub pairs_there : (n p : ℕ) (xs : List ℕ) (q : Query) → read_pairs n p xs ≡ found q → PairsAt p xs q
pairs_there zero p xs q e = unfold read_pairs in absurd (let z : ◌≡◌ {A = ℕ} 0 1 = cc in omega arith)
pairs_there (suc n) p xs q e = by_cut (pairs_there n) (cut_of ampersand xs) e
  where
    by_cut : ((p : ℕ) (xs : List ℕ) (q : Query) → read_pairs n p xs ≡ found q → PairsAt p xs q) → {t : List ℕ} → Cut ampersand t → read_pairs (suc n) p t ≡ found q → PairsAt p t q
    by_cut on (cut_at s t h) e =
        let (a, i, rest) = bind_found (read_pair p s) (λ a. read_pairs n (p + length s + 1) t >>= λ q. found (a ∷ q)) q (sym (pairs_cut n p s t h) ∙ e) in
        let (r, j, k) = bind_found (read_pairs n (p + length s + 1) t) (λ q. found (a ∷ q)) q rest in
        let z : q ≡ a ∷ r = cc in
        subst (PairsAt p (s ++ (ampersand ∷ t))) (sym z) (next_pair (pair_there p s a h i) (on (p + length s + 1) t r j))
    by_cut on {t} (no_cut h) e =
        let (a, i, rest) = bind_found (read_pair p t) (λ a. found (a ∷ [])) q (sym (pairs_last n p t h) ∙ e) in
        let z : q ≡ a ∷ [] = cc in
        subst (PairsAt p t) (sym z) (last_pair (pair_there p t a h i))

pub pairs_back : {p : ℕ} {xs : List ℕ} {q : Query} → PairsAt p xs q → (n : ℕ) → length xs < n → read_pairs n p xs ≡ found q
pairs_back {p = p} h zero k = absurd (omega arith)
pairs_back {p = p} (last_pair {s = s} h) (suc n) k = pairs_last n p s (pair-without h) ∙ rw (pair-back h)
pairs_back {p = p} (next_pair {s = s} {xs = xs} h r) (suc n) k =
    pairs_cut n p s xs (pair-without h) ∙ rw (pair-back h, pairs_back {p = p + length s + 1} r n (omega (arith, k, cut_shorter ampersand s xs)))

-- ---- the whole string

or_false : (a b : Bool) → (a || b) ≡ false → (a ≡ false) × (b ≡ false)
or_false true b h = (cc, cc)
or_false false b h = (refl, h)

found-size : (t : Bool) (r : Step Query) (q : Query) → cond t (stop 10 0) r ≡ found q → (t ≡ false) × (r ≡ found q)
found-size true r q e = stop_not_found e
found-size false r q e = (refl, e)

pub query_there : (xs : List ℕ) (q : Query) → accept_query xs ≡ found q → SpellsQuery xs q
unfolding accept_query
query_there xs q e =
    let (size, rest) = found-size (eqb (length xs) 0 || ltb 1024 (length xs)) _ q e in
    let (r, i, last) = bind_found (read_pairs (suc (length xs)) 0 xs) (λ q. cond (leb (length (alternatives_of q)) 32) (found q) (stop 51 0)) q rest in
    let (few, same) = cond-first (leb (length (alternatives_of r)) 32) (found r) (stop 51 0) {v = found q} stop_not_found last in
    let (filled, short) = or_false (eqb (length xs) 0) (ltb 1024 (length xs)) size in
    let z : r ≡ q = cc in
    record {
      not-empty = λ n. eqb-false (length xs) 0 filled (ap length n);
      short = ltb-false 1024 (length xs) short;
      pairs = subst (PairsAt 0 xs) z (pairs_there (suc (length xs)) 0 xs r i);
      few = subst (λ (q : Query). length (alternatives_of q) ≤ 32) z (leb-true (length (alternatives_of r)) 32 few);
    }

not_empty_length : (xs : List ℕ) → (xs ≡ [] → ⊥) → length xs ≡ 0 → ⊥
not_empty_length [] n e = n refl
not_empty_length (x ∷ xs) n e = omega arith

pub query_back : (xs : List ℕ) (q : Query) → SpellsQuery xs q → accept_query xs ≡ found q
unfolding accept_query
query_back xs q h =
    rw (ne_eqb (length xs) 0 (not_empty_length xs h.not-empty), le-ltb 1024 (length xs) h.short, pairs_back h.pairs (suc (length xs)) (omega arith), le-leb (length (alternatives_of q)) 32 h.few)

-- a query is read exactly where the string asks it
pub query_read : (xs : List ℕ) (q : Query) → (accept_query xs ≡ found q) ↔ SpellsQuery xs q
query_read xs q = (query_there xs q, query_back xs q)

-- so that a string asks one query at most
pub query_unique : (xs : List ℕ) (q r : Query) → SpellsQuery xs q → SpellsQuery xs r → q ≡ r
query_unique xs q r h k = let e : found q ≡ found r = sym (query_back xs q h) ∙ query_back xs r k in cc
