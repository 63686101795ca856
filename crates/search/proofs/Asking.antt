-- What a text asks under a kind: the computed operator and value are those of the rule.
-- Assumes nothing.
use Prim.Native.Nat.{ℕ, ◌<◌}
use native.Mathlib.Omega.{arith}
use mathlib.Core.Path.{◌≡◌, refl, ap, sym, ◌∙◌, subst}
use mathlib.Core.Bool.{true, false, ◌||◌}
use mathlib.Core.Logic.{◌↔◌, ◌⊎◌, inl, inr, ⊎_elim}
use mathlib.Core.List.{List, [], ◌∷◌, ◌++◌}
use lib.Dec.{eqb}
use lib.ListN.{length, drop}
use borrow.Author.Tests.{eq-eqb, eqb-true, eqb-false}
use Rattle.base.specs.Lists.{member, All, all_empty, all_cons}
use Rattle.base.specs.Affixes.{has_prefix}
use Rattle.base.specs.Kinds.{string, number, date, token, reference, period}
use Rattle.base.specs.Operators.{operator_words, eq, sw, re, pr}
use Rattle.base.proofs.Affixes.{prefix_append}
use Rattle.base.proofs.Tests.{or_left, or_right, or_either, and_left, and_right, both_ways, cond-elim, decided}
use Rattle.sheet.specs.Encode.{ValueKind}
use Rattle.judge.specs.Faults.{unsupported}
use Rattle.search.specs.Asking.{TakesPrefix, number_takes, date_takes, period_takes, Prefix, prefix_eq, prefix_ne, prefix_gt, prefix_lt, prefix_ge, prefix_le, prefix_sa, prefix_eb, takes_prefix, prefixes, word_of, AskedBy, asked_prefix, asked_eq, asked_start, asked_token, asked_reference, Comparison, prefixed, asked_of}

-- ---- the rule has one operator and one value, the computed ones

pub start_is : {kind : ℕ} → kind ≡ string → (v : List ℕ) → asked_of kind v ≡ record { operator = sw; value = v }
unfolding asked_of takes_prefix
start_is e v = ap (λ (k : ℕ). asked_of k v) e

pub reference_is : {kind : ℕ} → kind ≡ reference → (v : List ℕ) → asked_of kind v ≡ record { operator = re; value = v }
unfolding asked_of takes_prefix
reference_is e v = ap (λ (k : ℕ). asked_of k v) e

abbrev pub asks_for : ℕ → List ℕ → Comparison
asks_for k v = record { operator = k; value = v }

pub at_one : (P : ℕ → Type 0) (ks : List ℕ) (k : ℕ) → All P ks → member k ks ≡ true → P k
unfolding member
at_one P [] k h m = absurd (let z : ◌≡◌ {A = ℕ} 0 1 = cc in omega arith)
at_one P (j ∷ ks) k (all_cons h hs) m = ⊎_elim (λ t. subst P (sym (eqb-true k j t)) h) (λ t. at_one P ks k hs t) (or_either (eqb k j) (member k ks) m)

pub prefix_splits : (t w : List ℕ) → has_prefix t w ≡ true → t ≡ w ++ drop (length w) t
unfolding has_prefix
prefix_splits t [] h = refl
prefix_splits [] (y ∷ w) h = absurd (let z : ◌≡◌ {A = ℕ} 0 1 = cc in omega arith)
prefix_splits (x ∷ t) (y ∷ w) h =
    let e : x ≡ y = eqb-true x y (and_left (eqb x y) (has_prefix t w) h) in
    let r : t ≡ w ++ drop (length w) t = prefix_splits t w (and_right (eqb x y) (has_prefix t w) h) in
    ap (λ (z : ℕ). z ∷ t) e ∙ ap (λ (l : List ℕ). y ∷ l) r

-- ---- prefixes by their words, and the kinds that take one

takes_there : (kind : ℕ) → takes_prefix kind ≡ true → TakesPrefix kind
unfolding takes_prefix
takes_there kind h =
    ⊎_elim (λ e. subst TakesPrefix (sym (eqb-true kind number e)) number_takes)
    (λ k. ⊎_elim (λ e. subst TakesPrefix (sym (eqb-true kind date e)) date_takes) (λ e. subst TakesPrefix (sym (eqb-true kind period e)) period_takes) (or_either (eqb kind date) (eqb kind period) k))
    (or_either (eqb kind number) (eqb kind date || eqb kind period) h)

takes_back : {kind : ℕ} → TakesPrefix kind → takes_prefix kind ≡ true
unfolding takes_prefix
takes_back number_takes = refl
takes_back date_takes = refl
takes_back period_takes = refl

pub takes_iff : (kind : ℕ) → (takes_prefix kind ≡ true) ↔ TakesPrefix kind
takes_iff kind = (takes_there kind, takes_back)

prefix_there : (k : ℕ) → member k prefixes ≡ true → Prefix k (word_of k)
unfolding operator_words
prefix_there k m =
    at_one (λ (j : ℕ). Prefix j (word_of j)) prefixes k
    (all_cons prefix_eq (all_cons prefix_ne (all_cons prefix_gt (all_cons prefix_lt (all_cons prefix_ge (all_cons prefix_le (all_cons prefix_sa (all_cons prefix_eb all_empty)))))))) m

prefix_back : {k : ℕ} {w : List ℕ} → Prefix k w → (member k prefixes ≡ true) × (w ≡ word_of k)
unfolding member operator_words
prefix_back prefix_eq = (refl, refl)
prefix_back prefix_ne = (refl, refl)
prefix_back prefix_gt = (refl, refl)
prefix_back prefix_lt = (refl, refl)
prefix_back prefix_ge = (refl, refl)
prefix_back prefix_le = (refl, refl)
prefix_back prefix_sa = (refl, refl)
prefix_back prefix_eb = (refl, refl)

-- the words of the operators that are prefixes
pub prefix_iff : (k : ℕ) (w : List ℕ) → ((member k prefixes ≡ true) × (w ≡ word_of k)) ↔ Prefix k w
prefix_iff k w = ((λ h. subst (Prefix k) (sym h.1) (prefix_there k h.0)), prefix_back)

pub prefixed-word : (k : ℕ) (v : List ℕ) → member k prefixes ≡ true → prefixed prefixes (word_of k ++ v) ≡ asks_for k v
unfolding prefixed has_prefix operator_words
prefixed-word k v m =
    at_one (λ (j : ℕ). prefixed prefixes (word_of j ++ v) ≡ asks_for j v) prefixes k
    (all_cons refl (all_cons refl (all_cons refl (all_cons refl (all_cons refl (all_cons refl (all_cons refl (all_cons refl all_empty)))))))) m

pub no_prefix : (ks : List ℕ) (t : List ℕ) → ((k : ℕ) → member k ks ≡ true → has_prefix t (word_of k) ≡ false) → prefixed ks t ≡ asks_for eq t
unfolding prefixed member
no_prefix [] t h = refl
no_prefix (k ∷ ks) t h =
    let e = h k (or_left (eqb k k) (member k ks) (eq-eqb k k refl)) in
    let r = no_prefix ks t (λ j m. h j (or_right (eqb j k) (member j ks) m)) in
    cond-elim (λ (a : Comparison). a ≡ asks_for eq t) (has_prefix t (word_of k)) (λ x. absurd (let z : ◌≡◌ {A = ℕ} 0 1 = cc in omega arith)) (λ x. r)

-- no word stands at the beginning
without-word : (v : List ℕ) → ((k : ℕ) (w rest : List ℕ) → Prefix k w → v ≡ w ++ rest → ⊥) → (k : ℕ) → member k prefixes ≡ true → has_prefix v (word_of k) ≡ false
without-word v h k m =
    ⊎_elim (λ e. absurd (h k (word_of k) (drop (length (word_of k)) v) (prefix_there k m) (prefix_splits v (word_of k) e))) (λ e. e) (decided (has_prefix v (word_of k)))

word-without : (v : List ℕ) → ((k : ℕ) → member k prefixes ≡ true → has_prefix v (word_of k) ≡ false) → (k : ℕ) (w rest : List ℕ) → Prefix k w → v ≡ w ++ rest → ⊥
word-without v h k w rest p e =
    let is = prefix_back p in
    both_ways (ap (λ (x : List ℕ). has_prefix x (word_of k)) (e ∙ ap (λ (x : List ℕ). x ++ rest) is.1) ∙ prefix_append (word_of k) rest) (h k is.0)

pub asked_is : {kind o : ℕ} {t v : List ℕ} → AskedBy kind t o v → (kind ≡ token → ⊥) → asked_of kind t ≡ asks_for o v
unfolding asked_of
asked_is {kind} (asked_prefix {k = k} {w = w} {v = v} p m) n =
    let t = takes_back p in
    let is = prefix_back m in
    let word : w ≡ word_of k = is.1 in
    let e = prefixed-word k v is.0 in
    cc
asked_is {kind} (asked_eq {v = v} p h) n =
    let t = takes_back p in
    let e = no_prefix prefixes v (λ k m. without-word v h k m) in
    cc
asked_is {kind} (asked_start {v = v} e) n = start_is e v
asked_is {kind} (asked_token e) n = absurd (n e)
asked_is {kind} (asked_reference {v = v} e) n = reference_is e v

pub token-asks : {o : ℕ} {t v : List ℕ} → AskedBy token t o v → (o ≡ eq) × (v ≡ t)
unfolding takes_prefix
token-asks (asked_prefix p m) = absurd (let e = takes_back p in let z : ◌≡◌ {A = ℕ} 0 1 = cc in omega arith)
token-asks (asked_eq p h) = (refl, refl)
token-asks (asked_start e) = absurd (omega arith)
token-asks (asked_token e) = (refl, refl)
token-asks (asked_reference e) = absurd (omega arith)

-- ---- and the computed ones are in the rule

-- each of the words has two bytes
pub two_bytes_lem : All (λ (k : ℕ). length (word_of k) ≡ 2) prefixes
unfolding operator_words
two_bytes_lem = all_cons refl (all_cons refl (all_cons refl (all_cons refl (all_cons refl (all_cons refl (all_cons refl (all_cons refl all_empty)))))))

module _ (kind : ℕ) (takes : takes_prefix kind ≡ true) (t : List ℕ) where
  prefixed-asks : (ks : List ℕ) → All (λ (k : ℕ). length (word_of k) ≡ 2) ks → ((k : ℕ) → member k ks ≡ true → member k prefixes ≡ true)
      → ((k : ℕ) → member k prefixes ≡ true → (member k ks ≡ true) ⊎ (has_prefix t (word_of k) ≡ false))
      → AskedBy kind t (prefixed ks t).operator (prefixed ks t).value
  unfolding prefixed member
  prefixed-asks [] l sub rest = asked_eq (takes_there kind takes) (word-without t (λ k m. ⊎_elim (λ z. absurd (let y : ◌≡◌ {A = ℕ} 0 1 = cc in omega arith)) (λ z. z) (rest k m)))
  prefixed-asks (k ∷ ks) (all_cons two l) sub rest =
      let more = prefixed-asks ks l (λ j m. sub j (or_right (eqb j k) (member j ks) m)) in
      cond-elim (λ (a : Comparison). AskedBy kind t a.operator a.value) (has_prefix t (word_of k))
      (λ h. let e : t ≡ word_of k ++ drop 2 t = prefix_splits t (word_of k) h ∙ ap (λ (n : ℕ). word_of k ++ drop n t) two in
      subst (λ (u : List ℕ). AskedBy kind u k (drop 2 t)) (sym e) (asked_prefix (takes_there kind takes) (prefix_there k (sub k (or_left (eqb k k) (member k ks) (eq-eqb k k refl))))))
      (λ h. more (λ j m. ⊎_elim (λ z. ⊎_elim (λ e. inr (ap (λ (i : ℕ). has_prefix t (word_of i)) (eqb-true j k e) ∙ h)) (λ e. inl e) (or_either (eqb j k) (member j ks) z)) (λ z. inr z) (rest j m)))

-- each kind of values asks something of every text
pub asked_there : (kind : ℕ) (t : List ℕ) → ValueKind kind → AskedBy kind t (asked_of kind t).operator (asked_of kind t).value
unfolding asked_of takes_prefix
asked_there kind t v =
    cond-elim By (takes_prefix kind) (λ h. prefixed-asks kind h t prefixes two_bytes_lem (λ k m. m) (λ k m. inl m))
    (λ h. cond-elim By (eqb kind string) (λ e. asked_start (eqb-true kind string e))
    (λ n. cond-elim By (eqb kind token) (λ e. asked_token (eqb-true kind token e)) (λ m. asked_reference (last h (eqb-false kind string n) (eqb-false kind token m)))))
  where
    By : Comparison → Type 0
    By a = AskedBy kind t a.operator a.value

    last : takes_prefix kind ≡ false → (kind ≡ string → ⊥) → (kind ≡ token → ⊥) → kind ≡ reference
    last h n m =
        let other : (j : ℕ) → takes_prefix j ≡ true → kind ≡ j → ⊥ = λ j e same. both_ways (ap takes_prefix same ∙ e) h in
        let above : date < kind = omega (arith, v.lowest, other number refl, other date refl) in
        omega (arith, v.highest, other period refl)

-- what is asked is none of the operators that are not supported
pub asked_supported : {kind o : ℕ} {t v : List ℕ} → AskedBy kind t o v → unsupported o ≡ false
unfolding unsupported member
asked_supported (asked_prefix {k = k} p m) =
    at_one (λ (j : ℕ). unsupported j ≡ false) prefixes k
    (all_cons refl (all_cons refl (all_cons refl (all_cons refl (all_cons refl (all_cons refl (all_cons refl (all_cons refl all_empty)))))))) (prefix_back m).0
asked_supported (asked_eq p h) = refl
asked_supported (asked_start h) = refl
asked_supported (asked_token h) = refl
asked_supported (asked_reference h) = refl

-- nothing asks for pr
pub never_pr : {kind o : ℕ} {t v : List ℕ} → AskedBy kind t o v → o ≡ pr → ⊥
never_pr (asked_prefix {k = k} p m) e =
    at_one (λ (j : ℕ). j ≡ pr → ⊥) prefixes k
    (all_cons (λ e. omega arith) (all_cons (λ e. omega arith) (all_cons (λ e. omega arith) (all_cons (λ e. omega arith) (all_cons (λ e. omega arith) (all_cons (λ e. omega arith) (all_cons (λ e. omega arith) (all_cons (λ e. omega arith) all_empty)))))))) (prefix_back m).0 e
never_pr (asked_eq p h) e = omega arith
never_pr (asked_start h) e = omega arith
never_pr (asked_token h) e = omega arith
never_pr (asked_reference h) e = omega arith
