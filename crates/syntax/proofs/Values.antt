-- Values: the scans find what the grammar asks for, and all of it.
-- The scan of a string keeps two bits: whether a backslash came last, which decides what the next byte does (`Step` has the cases), and
-- whether an escape was met. Sound, by induction on the bytes: a scan that came to the closing quote has gone over a body that the grammar
-- quotes, and one without escapes stands for itself (`string-ended`). Complete, by induction on the quoting (`string-found`). A bare word
-- is a run of bytes, which is found whole where none goes on behind it (`value-named`). The code's loop keeps that what is left decides
-- (`Reading`).
-- Assumes nothing.
use Rattle.std.specs.Prelude.{Option, Some, None}
use Prim.Native.Nat.{ℕ, suc, ◌+◌, ◌-◌, ◌≤◌, ◌<◌}
use native.Mathlib.Omega.{arith}
use native.Mathlib.Nat.{add-zero, le_refl}
use native.Mathlib.Numerals.{add-one}
use mathlib.Core.Path.{◌≡◌, refl, sym, ap, subst, ◌∙◌}
use mathlib.Core.Bool.{Bool, true, false, ◌||◌, or-true, or-false, true≢false, false≢true}
use mathlib.Core.List.{List, [], ◌∷◌, ◌++◌, append_assoc}
use mathlib.Core.Logic.{◌⊎◌, inl, inr, ⊎_elim}
use lib.Dec.{eqb, leb, ltb}
use lib.ListN.{length, get_or, take, drop, length-append, length-drop, take-append-drop, drop_of_length-le}
use lib.Seq.{drop-drop, get_or-drop, take_at, length-take-le, drop-cons}
use borrow.Author.Tests.{eqb-true, eqb-false, eq-eqb, ne_eqb, ltb-true, lt-ltb, le-ltb}
use Rattle.base.specs.Lists.{All, all_cons, every}
use Rattle.base.specs.Parts.{part}
use Rattle.base.specs.Runs.{run, run_end, RunEnd}
use Rattle.base.proofs.Tests.{and_left, decided, apart, cond-elim}
use Rattle.base.proofs.Lists.{every_all, cons_same}
use Rattle.base.proofs.Runs.{run-within, run_take, run_then}
use Rattle.syntax.proofs.Bytes.{escape_stands, stands_escape}
use Rattle.syntax.specs.Strings.{quote, backslash, is_bare, is_plain, is_escape, Quoted, nothing_more, plain, escaped}
use Rattle.syntax.specs.Grammar.{Stands, Value, bare, string, Follows, the_end, a_space, a_close}
use Rattle.syntax.specs.Scan.{step_of, on_step, string_from, string_at, string_value, bare_value, value_at, decode, contents, string_end}
use Rattle.syntax.specs.declared.StringStep.{StringStep}
use Rattle.syntax.specs.declared.StringEnd.{StringEnd}
use Rattle.syntax.specs.declared.RawValue.{RawValue}
use Rattle.syntax.proofs.Words.{NoSpaceAt, stands_within, stands_after, stands_no_space}

-- ---- what a byte does in a string

data Step : Bool → ℕ → StringStep → Type 0 where
  ends_escape : {b : ℕ} → is_escape b ≡ true → Step true b (StringStep.More false)
  no_escape : {b : ℕ} → is_escape b ≡ false → Step true b StringStep.Wrong
  ends_string : {b : ℕ} → b ≡ quote → Step false b StringStep.Close
  starts_escape : {b : ℕ} → b ≡ backslash → Step false b (StringStep.More true)
  goes_on : {b : ℕ} → is_plain b ≡ true → Step false b (StringStep.More false)
  too_low : {b : ℕ} → leb 0x20 b ≡ false → Step false b StringStep.Wrong

step_is : (pending : Bool) (b : ℕ) → Step pending b (step_of pending b)
unfolding step_of is_plain
step_is true b = cond-elim (Step true b) (is_escape b) (λ e. ends_escape e) (λ e. no_escape e)
step_is false b =
    cond-elim (Step false b) (eqb b quote) (λ e. ends_string (eqb-true b quote e))
    (λ q. cond-elim (Step false b) (eqb b backslash) (λ e. starts_escape (eqb-true b backslash e))
    (λ s. cond-elim (Step false b) (leb 0x20 b) (λ e. goes_on (rw (e, q, s))) (λ e. too_low e)))

-- ---- the loop of `read_string`, which has come to i: what is left decides

pub record Reading (xs : List ℕ) (at i : ℕ) (pending met : Bool) : Type 0 where
  pub from : at ≤ i
  pub within : i ≤ length xs
  pub left : string_at xs false false at ≡ string_at xs pending met i

pub string_starts : (xs : List ℕ) (at : ℕ) → at ≤ length xs → Reading xs at at false false
string_starts xs at h = record { from = le_refl at; within = h; left = refl }

string-step : (xs : List ℕ) (pending met : Bool) (i : ℕ) → i < length xs → string_at xs pending met i ≡ on_step (step_of pending (get_or xs i 0)) (λ k. string_at xs k (met || k) (i + 1)) i met
unfolding string_at string_from
string-step xs pending met i h = rw (drop-cons xs i 0 h, add-one i)

module _ (xs : List ℕ) (at i : ℕ) (pending met : Bool) (a : Reading xs at i pending met) where
  module _ (s : StringStep) (e : s ≡ step_of pending (get_or xs i 0)) (h : i < length xs) where
    pub string_more : (k m : Bool) → s ≡ StringStep.More k → m ≡ (met || k) → Reading xs at (i + 1) k m
    string_more k m t f =
        record { from = omega (arith, a.from); within = omega arith; left = a.left ∙ rw (string-step xs pending met i h, sym e ∙ t, f) }

    pub string_closes : s ≡ StringStep.Close → Some (string_end i met) ≡ string_at xs false false at
    string_closes t = sym (a.left ∙ rw (string-step xs pending met i h, sym e ∙ t))

    pub string_wrong : s ≡ StringStep.Wrong → None ≡ string_at xs false false at
    string_wrong t = sym (a.left ∙ rw (string-step xs pending met i h, sym e ∙ t))

  pub string_open : length xs ≤ i → None ≡ string_at xs false false at
  unfolding string_at string_from
  string_open h = sym (a.left ∙ rw (drop_of_length-le xs h))

-- ---- a string that is found is one

-- the string's bytes, with the backslash that came before them
abbrev after_backslash : Bool → List ℕ → List ℕ
after_backslash true s = backslash ∷ s
after_backslash false s = s

-- the scan came to the closing quote at e; found says whether an escape was met
record Ended (ys : List ℕ) (pending met : Bool) (p e : ℕ) (found : Bool) : Type 0 where
  body : List ℕ
  tail : List ℕ
  split : ys ≡ body ++ quote ∷ tail
  at : e ≡ p + length body
  quoted : Quoted (after_backslash pending body) (decode pending body)
  as_it_stands : (found ≡ true) ⊎ ((met ≡ false) × (decode pending body ≡ body))

closed_same : {e e' : ℕ} {g g' : Bool} → Some (string_end e g) ≡ Some (string_end e' g') → (e ≡ e') × (g ≡ g')
closed_same {e} {e'} {g} {g'} h =
    let s : string_end e g ≡ string_end e' g' = cc in
    (ap (λ (x : StringEnd). x.end) s, ap (λ (x : StringEnd). x.escaped) s)

never_closed : {X : Type 0} {e : ℕ} {g : Bool} → None ≡ Some (string_end e g) → X
never_closed h = let z : ◌≡◌ {A = ℕ} 0 1 = cc in absurd (omega arith)

module _ (y : ℕ) (ys : List ℕ) (p e : ℕ) (found : Bool) where
  ended_here : (met : Bool) → y ≡ quote → Some (string_end p met) ≡ Some (string_end e found) → Ended (y ∷ ys) false met p e found
  unfolding decode
  ended_here met q h =
      let s = closed_same h in
      record {
        body = [];
        tail = ys;
        split = ap (λ (b : ℕ). b ∷ ys) q;
        at = sym s.0 ∙ sym (add-zero p);
        quoted = nothing_more;
        as_it_stands = ⊎_elim (λ (t : met ≡ true). inl (sym s.1 ∙ t)) (λ (t : met ≡ false). inr (t, refl)) (decided met);
      }

  -- behind a backslash
  ended_escape : is_escape y ≡ true → Ended ys false true (p + 1) e found → Ended (y ∷ ys) true true p e found
  unfolding decode
  ended_escape h r =
      record {
        body = y ∷ r.body;
        tail = r.tail;
        split = ap (λ (l : List ℕ). y ∷ l) r.split;
        at = omega (arith, r.at);
        quoted = escaped (stands_escape y h) r.quoted;
        as_it_stands = ⊎_elim (λ t. inl t) (λ t. absurd (true≢false t.0)) r.as_it_stands;
      }

  ended-backslash : (met : Bool) → y ≡ backslash → Ended ys true true (p + 1) e found → Ended (y ∷ ys) false met p e found
  unfolding decode
  ended-backslash met h r =
      record {
        body = y ∷ r.body;
        tail = r.tail;
        split = ap (λ (l : List ℕ). y ∷ l) r.split;
        at = omega (arith, r.at);
        quoted = rw h r.quoted;
        as_it_stands = ⊎_elim (λ t. inl t) (λ t. absurd (true≢false t.0)) r.as_it_stands;
      }

  ended-plain : (met : Bool) → is_plain y ≡ true → Ended ys false met (p + 1) e found → Ended (y ∷ ys) false met p e found
  unfolding decode is_plain
  ended-plain met h r =
      let n : eqb y backslash ≡ false = apart is_plain y backslash h refl in
      record {
        body = y ∷ r.body;
        tail = r.tail;
        split = ap (λ (l : List ℕ). y ∷ l) r.split;
        at = omega (arith, r.at);
        quoted = rw n (plain h r.quoted);
        as_it_stands = ⊎_elim (λ t. inl t) (λ (t : (met ≡ false) × (decode false r.body ≡ r.body)). inr (t.0, rw n (ap (λ (l : List ℕ). y ∷ l) t.1))) r.as_it_stands;
      }

string-ended : (ys : List ℕ) (pending met : Bool) (p e : ℕ) (found : Bool) → (pending ≡ true → met ≡ true) → string_from ys pending met p ≡ Some (string_end e found) → Ended ys pending met p e found
unfolding string_from
string-ended [] pending met p e found inv h = never_closed h
string-ended (y ∷ ys) pending met p e found inv h = go pending inv (step_of pending y) (step_is pending y) h (λ k m i r. string-ended ys k m (p + 1) e found i r)
  where
    go : (pending : Bool) → (pending ≡ true → met ≡ true) → (s : StringStep) → Step pending y s
        → on_step s (λ k. string_from ys k (met || k) (p + 1)) p met ≡ Some (string_end e found)
        → ((k m : Bool) → (k ≡ true → m ≡ true) → string_from ys k m (p + 1) ≡ Some (string_end e found) → Ended ys k m (p + 1) e found)
        → Ended (y ∷ ys) pending met p e found
    go true inv _ (ends_escape b) h next =
        rw (inv refl) (ended_escape y ys p e found b (next false true (λ t. refl) (rw (inv refl) at h)))
    go true inv _ (no_escape b) h next = never_closed h
    go false inv _ (ends_string b) h next = ended_here y ys p e found met b h
    go false inv _ (starts_escape b) h next = ended-backslash y ys p e found met b (next true true (λ t. refl) (rw (or-true met) at h))
    go false inv _ (goes_on b) h next = ended-plain y ys p e found met b (next false met (λ t. absurd (false≢true t)) (rw (or-false met) at h))
    go false inv _ (too_low b) h next = never_closed h

-- ---- a string is found

string-plain : (y : ℕ) (ys : List ℕ) (met : Bool) (p : ℕ) → is_plain y ≡ true → string_from (y ∷ ys) false met p ≡ string_from ys false met (p + 1)
unfolding string_from step_of is_plain
string-plain y ys met p h =
    rw (apart is_plain y quote h refl, apart is_plain y backslash h refl, and_left (leb 0x20 y) _ h, or-false met)

string_escape : (y : ℕ) (ys : List ℕ) (met : Bool) (p : ℕ) → is_escape y ≡ true → string_from (backslash ∷ y ∷ ys) false met p ≡ string_from ys false true (p + 1 + 1)
unfolding string_from step_of
string_escape y ys met p h = rw (or-true met, h)

string-found : {s v : List ℕ} → Quoted s v → (t : List ℕ) (met : Bool) (p : ℕ) → (found : Bool) × (string_from (s ++ quote ∷ t) false met p ≡ Some (string_end (p + length s) found))
unfolding string_from step_of
string-found nothing_more t met p = (met, rw add-zero)
string-found (plain {b = b} {s = s} h q) t met p =
    let r = string-found q t met (p + 1) in
    let n : p + 1 + length s ≡ p + suc (length s) = omega arith in
    (r.0, string-plain b (s ++ quote ∷ t) met p h ∙ r.1 ∙ ap (λ (k : ℕ). Some (string_end k r.0)) n)
string-found (escaped {b = b} {s = s} h q) t met p =
    let r = string-found q t true (p + 1 + 1) in
    let n : p + 1 + 1 + length s ≡ p + suc (suc (length s)) = omega arith in
    (r.0, string_escape b (s ++ quote ∷ t) met p (escape_stands h).0 ∙ r.1 ∙ ap (λ (k : ℕ). Some (string_end k r.0)) n)

quoted-decode : {s v : List ℕ} → Quoted s v → decode false s ≡ v
unfolding decode is_plain
quoted-decode nothing_more = refl
quoted-decode (plain {b = b} h q) = rw (apart is_plain b backslash h refl) (cons_same refl (quoted-decode q))
quoted-decode (escaped h q) = cons_same (escape_stands h).1 (quoted-decode q)

-- ---- a value that is found is one

pub part_at : (xs : List ℕ) (p n : ℕ) (w t : List ℕ) → drop p xs ≡ w ++ t → n ≡ p + length w → part xs p n ≡ w
part_at xs p n w t e h =
    let k : n - p ≡ length w = omega arith in
    rw (k, e) (take_at w t (length w) refl)

contents-decode : (found : Bool) (s : List ℕ) → (found ≡ true) ⊎ (decode false s ≡ s) → decode false s ≡ contents found s
contents-decode true s h = refl
contents-decode false s h = ⊎_elim (λ t. absurd (false≢true t)) (λ t. t) h

string_derives : (xs : List ℕ) (p e : ℕ) (found : Bool) → drop p xs ≡ quote ∷ drop (p + 1) xs → Ended (drop (p + 1) xs) false false (p + 1) e found → Value xs p (e + 1) (contents found (part xs (p + 1) e))
string_derives xs p e found h r =
    let s : List ℕ = r.body in
    let z : drop p xs ≡ (quote ∷ (s ++ (quote ∷ []))) ++ r.tail = h ∙ cons_same refl (r.split ∙ sym (append_assoc s (quote ∷ []) r.tail)) in
    let n : p + (length s + 2) ≡ e + 1 = omega (arith, r.at) in
    let v : decode false s ≡ contents found (part xs (p + 1) e) =
    contents-decode found s (⊎_elim (λ t. inl t) (λ (t : (false ≡ false) × (decode false s ≡ s)). inr t.1) r.as_it_stands)
    ∙ ap (contents found) (sym (part_at xs (p + 1) e s (quote ∷ r.tail) r.split r.at)) in
    subst (λ (w : List ℕ). Value xs p (e + 1) w) v (subst (λ (q : ℕ). Value xs p q (decode false s)) n (string (r.tail, z) r.quoted))

bare_derives : (xs : List ℕ) (p b : ℕ) (ys : List ℕ) → drop p xs ≡ b ∷ ys → is_bare b ≡ true → (b ≡ quote → ⊥)
    → Value xs p (p + run is_bare (b ∷ ys)) (take (run is_bare (b ∷ ys)) (b ∷ ys))
unfolding run every
bare_derives xs p b ys e h q =
    let w : List ℕ = take (run is_bare ys) ys in
    let l : length w ≡ run is_bare ys = length-take-le (run is_bare ys) ys (run-within is_bare ys) in
    let z : drop p xs ≡ b ∷ (w ++ drop (run is_bare ys) ys) = e ∙ cons_same refl (sym (take-append-drop (run is_bare ys) ys)) in
    let all : every is_bare (b ∷ w) ≡ true = rw h (run_take is_bare ys) in
    let m : p + length (b ∷ w) ≡ p + suc (run is_bare ys) = omega arith in
    rw h (subst (λ (k : ℕ). Value xs p k (b ∷ w)) m (bare (drop (run is_bare ys) ys, z) (every_all is_bare (b ∷ w) all) q))

-- what is known of a value that the scan gives
abbrev Derived : List ℕ → ℕ → Option RawValue → Type 0
Derived xs p (Some v) = Value xs p v.next (contents v.escaped (part xs v.start v.end))
Derived xs p None = Unit {0}

string-value : (xs : List ℕ) (p : ℕ) (f : Option StringEnd) → drop p xs ≡ quote ∷ drop (p + 1) xs → string_at xs false false (p + 1) ≡ f → Derived xs p (string_value p f)
unfolding string_at
string-value xs p (Some s) h i =
    string_derives xs p s.end s.escaped h (string-ended (drop (p + 1) xs) false false (p + 1) s.end s.escaped (λ t. absurd (false≢true t)) i)
string-value xs p None h i = tt

value_derived : (xs : List ℕ) (p : ℕ) → Derived xs p (value_at xs p)
unfolding value_at run_end
value_derived xs p =
    cond-elim (Derived xs p) (ltb p (length xs))
    (λ i. let e : drop p xs ≡ get_or xs p 0 ∷ drop (p + 1) xs = rw add-one (drop-cons xs p 0 (ltb-true p (length xs) i)) in
    cond-elim (Derived xs p) (eqb (get_or xs p 0) quote)
    (λ q. string-value xs p (string_at xs false false (p + 1)) (e ∙ cons_same (eqb-true (get_or xs p 0) quote q) refl) refl)
    (λ q. cond-elim (Derived xs p) (is_bare (get_or xs p 0)) (λ h. bare_value_lem e q h) (λ h. tt)))
    (λ i. tt)
  where
    bare_value_lem : drop p xs ≡ get_or xs p 0 ∷ drop (p + 1) xs → eqb (get_or xs p 0) quote ≡ false → is_bare (get_or xs p 0) ≡ true → Derived xs p (bare_value p (p + run is_bare (drop p xs)))
    bare_value_lem e q h =
        let k : p + run is_bare (drop p xs) - p ≡ run is_bare (drop p xs) = omega arith in
        rw (k, e) (bare_derives xs p (get_or xs p 0) (drop (p + 1) xs) e h (eqb-false _ _ q))

pub value_derives : (xs : List ℕ) (p : ℕ) (v : RawValue) → value_at xs p ≡ Some v → Value xs p v.next (contents v.escaped (part xs v.start v.end))
value_derives xs p v e = rw e at (value_derived xs p)

-- ---- a value is found, up to its end

-- what follows a value is no part of a bare word
follows-run : (close : ℕ) {t : List ℕ} → is_bare close ≡ false → Follows close t → run is_bare t ≡ 0
unfolding run is_bare
follows-run close h the_end = refl
follows-run close h a_space = refl
follows-run close h a_close = rw h

-- the scan finds a value that ends at q and decodes to v
pub record Found (xs : List ℕ) (p q : ℕ) (v : List ℕ) : Type 0 where
  pub raw : RawValue
  pub found : value_at xs p ≡ Some raw
  pub ends : raw.next ≡ q
  pub decodes : contents raw.escaped (part xs raw.start raw.end) ≡ v

get_d_drop_cons : (xs : List ℕ) (p b : ℕ) (ys : List ℕ) → drop p xs ≡ b ∷ ys → get_or xs p 0 ≡ b
get_d_drop_cons xs p b ys e = sym (ap (λ (n : ℕ). get_or xs n 0) (add-zero p)) ∙ sym (get_or-drop p xs 0 0) ∙ ap (λ (l : List ℕ). get_or l 0 0) e

bare_found : (xs : List ℕ) (p b : ℕ) (w : List ℕ) (s : Stands xs p (b ∷ w)) → All (λ (x : ℕ). is_bare x ≡ true) (b ∷ w) → (b ≡ quote → ⊥) → run is_bare s.0 ≡ 0
    → Found xs p (p + length (b ∷ w)) (b ∷ w)
unfolding value_at run_end
bare_found xs p b w s (all_cons h all) q z =
    let inside : p < length xs = omega (arith, stands_within xs p b w s) in
    let g : get_or xs p 0 ≡ b = get_d_drop_cons xs p b (w ++ s.0) s.1 in
    let n : run is_bare (drop p xs) ≡ length (b ∷ w) = ap (run is_bare) s.1 ∙ run_then is_bare (b ∷ w) s.0 (all_cons h all) z in
    record {
      raw = record { start = p; end = p + length (b ∷ w); escaped = false; next = p + length (b ∷ w) };
      found = rw (lt-ltb p (length xs) inside, g, ne_eqb b quote q, h, n);
      ends = refl;
      decodes = part_at xs p (p + length (b ∷ w)) (b ∷ w) s.0 s.1 refl;
    }

string-at : (xs : List ℕ) (p : ℕ) (s v : List ℕ) (h : Stands xs p (quote ∷ (s ++ (quote ∷ [])))) → Quoted s v → Found xs p (p + (length s + 2)) v
unfolding value_at string_at
string-at xs p s v h q =
    let inside : p < length xs = omega (arith, stands_within xs p quote (s ++ (quote ∷ [])) h) in
    let e : drop p xs ≡ quote ∷ (s ++ quote ∷ h.0) = h.1 ∙ cons_same refl (append_assoc s (quote ∷ []) h.0) in
    let d : drop (p + 1) xs ≡ s ++ quote ∷ h.0 = sym (drop-drop 1 p xs) ∙ ap (drop 1) e in
    let g : get_or xs p 0 ≡ quote = get_d_drop_cons xs p quote (s ++ quote ∷ h.0) e in
    let r = string-found q h.0 false (p + 1) in
    let i : string_from (drop (p + 1) xs) false false (p + 1) ≡ Some (string_end (p + 1 + length s) r.0) = ap (λ (l : List ℕ). string_from l false false (p + 1)) d ∙ r.1 in
    let ended = string-ended (drop (p + 1) xs) false false (p + 1) (p + 1 + length s) r.0 (λ t. absurd (false≢true t)) i in
    record {
      raw = record { start = p + 1; end = p + 1 + length s; escaped = r.0; next = p + 1 + length s + 1 };
      found = rw (lt-ltb p (length xs) inside, g, i);
      ends = omega arith;
      decodes =
          ap (contents r.0) (part_at xs (p + 1) (p + 1 + length s) s (quote ∷ h.0) d refl)
          ∙ sym (contents-decode r.0 s (same_body ended d))
          ∙ quoted-decode q;
    }
  where
    same_body : {found : Bool} → Ended (drop (p + 1) xs) false false (p + 1) (p + 1 + length s) found → drop (p + 1) xs ≡ s ++ quote ∷ h.0 → (found ≡ true) ⊎ (decode false s ≡ s)
    same_body {found} r d =
        let l : length r.body ≡ length s = omega (arith, r.at) in
        let b : r.body ≡ s = sym (take_at r.body (quote ∷ r.tail) (length s) l) ∙ ap (take (length s)) (sym r.split ∙ d) ∙ take_at s (quote ∷ h.0) (length s) refl in
        ⊎_elim (λ t. inl t) (λ (t : (false ≡ false) × (decode false r.body ≡ r.body)). inr (subst (λ (k : List ℕ). decode false k ≡ k) b t.1)) r.as_it_stands

-- a bare word goes on as long as it can
pub value-named : {xs : List ℕ} {p q : ℕ} {v : List ℕ} → Value xs p q v → ((get_or xs p 0 ≡ quote → ⊥) → run is_bare (drop q xs) ≡ 0) → Found xs p q v
value-named {xs} (bare {p = p} {b = b} {w = w} s all n) f =
    let first : get_or xs p 0 ≡ b = get_d_drop_cons xs p b (w ++ s.0) s.1 in
    bare_found xs p b w s all n (ap (run is_bare) (sym (stands_after xs p (b ∷ w) s)) ∙ f (λ e. n (sym first ∙ e)))
value-named {xs} (string {p = p} {s = s} {v = v} i q) f = string-at xs p s v i q

pub value_found : {xs : List ℕ} {p q close : ℕ} {v : List ℕ} → Value xs p q v → is_bare close ≡ false → Follows close (drop q xs) → Found xs p q v
value_found {close = close} w h f = value-named w (λ n. follows-run close h f)

-- behind a run no other begins
run_past : (p : ℕ → Bool) (s : List ℕ) → run p (drop (run p s) s) ≡ 0
unfolding run
run_past p [] = refl
run_past p (x ∷ s) = ⊎_elim (λ (d : p x ≡ true). rw d (run_past p s)) (λ (d : p x ≡ false). rw (d, d)) (decided (p x))

-- where a bare word that is found ends, none goes on
abbrev Ends : List ℕ → Option RawValue → Type 0
Ends xs (Some v) = run is_bare (drop v.next xs) ≡ 0
Ends xs None = Unit {0}

pub value-ends : (xs : List ℕ) (p : ℕ) (v : RawValue) → value_at xs p ≡ Some v → (get_or xs p 0 ≡ quote → ⊥) → run is_bare (drop v.next xs) ≡ 0
unfolding value_at run_end
value-ends xs p v e n =
    let z : run is_bare (drop (p + run is_bare (drop p xs)) xs) ≡ 0 = ap (run is_bare) (sym (drop-drop (run is_bare (drop p xs)) p xs)) ∙ run_past is_bare (drop p xs) in
    let all : Ends xs (value_at xs p) =
    cond-elim (Ends xs) (ltb p (length xs))
    (λ i. cond-elim (Ends xs) (eqb (get_or xs p 0) quote) (λ q. absurd (n (eqb-true (get_or xs p 0) quote q))) (λ q. cond-elim (Ends xs) (is_bare (get_or xs p 0)) (λ b. z) (λ b. tt)))
    (λ i. tt) in
    rw e at all

pub value_no_space : {xs : List ℕ} {p q : ℕ} {v : List ℕ} → Value xs p q v → NoSpaceAt xs p
unfolding is_bare
value_no_space {xs} (bare {p = p} {b = b} {w = w} s (all_cons h all) n) = stands_no_space xs p b w s (apart is_bare b 0x20 h refl)
value_no_space {xs} (string {p = p} {s = s} h q) = stands_no_space xs p quote (s ++ (quote ∷ [])) h refl

pub value_rise : {xs : List ℕ} {p q : ℕ} {v : List ℕ} → Value xs p q v → (p + 1 ≤ q) × (q ≤ length xs)
value_rise {xs} (bare {p = p} {b = b} {w = w} s a n) = (omega arith, stands_within xs p b w s)
value_rise {xs} (string {p = p} {s = s} h q) = (omega arith, omega (arith, stands_within xs p quote (s ++ (quote ∷ [])) h, length-append s (quote ∷ [])))

-- ---- as the code finds a value

module _ (xs : List ℕ) (at : ℕ) where
  pub value_end : length xs ≤ at → None ≡ value_at xs at
  unfolding value_at
  value_end h = rw (le-ltb at (length xs) h)

  module _ (i : at ≤ length xs) (n : at ≡ length xs → ⊥) where
    inside : at < length xs
    inside = omega arith

    module _ (q : get_or xs at 0 ≡ quote) (f : Option StringEnd) (e : f ≡ string_at xs false false (at + 1)) where
      pub value-string : (s : StringEnd) → f ≡ Some s → Some (record { start = at + 1; end = s.end; escaped = s.escaped; next = s.end + 1 }) ≡ value_at xs at
      unfolding value_at
      value-string s h = rw (lt-ltb at (length xs) inside, eq-eqb _ _ q, sym e ∙ h)

      pub value_open : f ≡ None → None ≡ value_at xs at
      unfolding value_at
      value_open h = rw (lt-ltb at (length xs) inside, eq-eqb _ _ q, sym e ∙ h)

    module _ (q : get_or xs at 0 ≡ quote → ⊥) (r : Bool) (e : r ≡ is_bare (get_or xs at 0)) where
      pub value_bare : (end : ℕ) → RunEnd is_bare xs at end → r ≡ true → Some (record { start = at; end = end; escaped = false; next = end }) ≡ value_at xs at
      unfolding value_at
      value_bare end h t = rw (lt-ltb at (length xs) inside, ne_eqb _ _ q, sym e ∙ t, h.is)

      pub value_none : r ≡ false → None ≡ value_at xs at
      unfolding value_at
      value_none t = rw (lt-ltb at (length xs) inside, ne_eqb _ _ q, sym e ∙ t)

-- a closing quote stands inside the text
pub string-within : (xs : List ℕ) (at : ℕ) (s : StringEnd) (f : Option StringEnd) → f ≡ string_at xs false false at → f ≡ Some s → at ≤ length xs → s.end < length xs
unfolding string_at
string-within xs at s f e h i =
    let r = string-ended (drop at xs) false false at s.end s.escaped (λ t. absurd (false≢true t)) (sym e ∙ h) in
    omega (arith, r.at, ap length r.split, length-drop at xs, length-append r.body (quote ∷ r.tail))

pub string_ahead : (xs : List ℕ) (at : ℕ) (s : StringEnd) (f : Option StringEnd) → f ≡ string_at xs false false at → f ≡ Some s → at ≤ s.end
unfolding string_at
string_ahead xs at s f e h =
    let r = string-ended (drop at xs) false false at s.end s.escaped (λ t. absurd (false≢true t)) (sym e ∙ h) in
    omega (arith, r.at)
