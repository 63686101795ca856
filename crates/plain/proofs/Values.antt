-- Plain values: each spells its value, is never longer than another spelling of it, and is the only one as short.
-- By induction on how a string spells its value (`Quoted`): the plain form escapes a byte only where it must, and an escape takes two bytes
-- in any spelling (`escaped_short`). A byte that must be escaped has one escape (`escape_same`), so where the lengths are equal so are the
-- bytes (`quoted_tight`). A value that can stand as a word is shorter so, as the two quotes are saved. That a value has a spelling at all
-- is known from the text that it came from (`value_spellable`).
-- Assumes nothing.
use Prim.Native.Nat.{ℕ, ◌+◌, ◌≤◌}
use native.Mathlib.Omega.{arith}
use native.Mathlib.Nat.{le_refl}
use mathlib.Core.Path.{◌≡◌, refl, ap, sym, ◌∙◌, subst}
use mathlib.Core.Bool.{Bool, true, false, not, ◌&&◌}
use mathlib.Core.List.{List, [], ◌∷◌, ◌++◌}
use lib.Dec.{eqb}
use lib.ListN.{length, drop, length-append}
use borrow.Author.Tests.{ne_eqb, eqb-false, not-true}
use Rattle.base.specs.Lists.{All, every}
use Rattle.base.proofs.Tests.{and_left, and_right, cond-elim, both_ways}
use Rattle.base.proofs.Lists.{every_all, all_every}
use Rattle.syntax.specs.Strings.{quote, backslash, is_bare, is_plain, Escape, quotation_mark, reverse_solidus, solidus, backspace, form_feed, line-feed, carriage_return, tabulation, Quoted, nothing_more, plain as plainly, escaped as escapes}
use Rattle.syntax.specs.Grammar.{Stands, Value, bare, string}
use Rattle.syntax.proofs.Words.{stands_after}
use Rattle.plain.specs.Plain.{is_word, escape_of, escaped, plain_value}
use Rattle.std.specs.Prelude.{IsTrue, ◌↔◌}
use Rattle.std.specs.List.{AllPass, list_all}
use Rattle.std.proofs.lemmas.List.Sums.{AllPass-from_list_all, list_all-from_AllPass}

-- ---- a test of every byte, as std answers it

every_is : (p : ℕ → Bool) (xs : List ℕ) → list_all p xs ≡ every p xs
unfolding every
every_is p [] = refl
every_is p (x ∷ xs) = ap (λ (b : Bool). p x && b) (every_is p xs)

pub every_tested : (p : ℕ → Bool) (xs : List ℕ) (r : Bool) → IsTrue r ↔ AllPass p xs → r ≡ every p xs
every_tested p xs r h = by r h ∙ every_is p xs
  where
    by : (r : Bool) → IsTrue r ↔ AllPass p xs → r ≡ list_all p xs
    by true h = sym (list_all-from_AllPass p xs (h.0 refl))
    by false h = go (list_all p xs) refl
      where
        go : (b : Bool) → list_all p xs ≡ b → false ≡ b
        go true e = h.1 (AllPass-from_list_all p xs e)
        go false e = refl

-- ---- bare words

pub word_of : (b : ℕ) (w : List ℕ) → All (λ (x : ℕ). is_bare x ≡ true) (b ∷ w) → (b ≡ quote → ⊥) → is_word (b ∷ w) ≡ true
unfolding is_word
word_of b w h n = let e = all_every is_bare (b ∷ w) h in let d = ne_eqb b quote n in cc

empty_word : is_word [] ≡ true → ⊥
unfolding is_word
empty_word e = let z : ◌≡◌ {A = ℕ} 0 1 = cc in omega arith

word_all : (b : ℕ) (w : List ℕ) → is_word (b ∷ w) ≡ true → All (λ (x : ℕ). is_bare x ≡ true) (b ∷ w)
unfolding is_word
word_all b w h = every_all is_bare (b ∷ w) (and_right (not (eqb b quote)) (every is_bare (b ∷ w)) h)

word-quote : (b : ℕ) (w : List ℕ) → is_word (b ∷ w) ≡ true → b ≡ quote → ⊥
unfolding is_word
word-quote b w h = eqb-false b quote (not-true (eqb b quote) (and_left (not (eqb b quote)) (every is_bare (b ∷ w)) h))

-- ---- strings

pub escaped_long : (v : List ℕ) → length v ≤ length (escaped v)
unfolding escaped
escaped_long [] = le_refl 0
escaped_long (b ∷ v) = let i = escaped_long v in cond-elim (λ (w : List ℕ). length (b ∷ v) ≤ length w) (is_plain b) (λ e. omega arith) (λ e. omega arith)

-- an escape is never saved by another form
pub escaped_short : {s v : List ℕ} → Quoted s v → length (escaped v) ≤ length s
unfolding escaped
escaped_short nothing_more = le_refl 0
escaped_short (plainly {b = b} {s = s} {v = v} h q) =
    cond-elim (λ (w : List ℕ). length w ≤ length (b ∷ s)) (is_plain b) (λ e. omega (arith, escaped_short q)) (λ e. both_ways h e)
escaped_short (escapes {b = b} {u = u} {s = s} {v = v} h q) =
    cond-elim (λ (w : List ℕ). length w ≤ length (backslash ∷ b ∷ s)) (is_plain u) (λ e. omega (arith, escaped_short q)) (λ e. omega (arith, escaped_short q))

-- what an escape stands for is plain, or has no other
escape_same : {b u : ℕ} → Escape b u → is_plain u ≡ false → b ≡ escape_of u
unfolding is_plain escape_of
escape_same quotation_mark e = refl
escape_same reverse_solidus e = refl
escape_same solidus e = both_ways refl e
escape_same backspace e = refl
escape_same form_feed e = refl
escape_same line-feed e = refl
escape_same carriage_return e = refl
escape_same tabulation e = refl

-- ---- a value that some text spells

pub data SpellableValue (v : List ℕ) : Type 0 where
  as_word : is_word v ≡ true → SpellableValue v
  as_string : is_word v ≡ false → Quoted (escaped v) v → SpellableValue v

quoted_again : {s v : List ℕ} → Quoted s v → Quoted (escaped v) v
unfolding escaped
quoted_again nothing_more = nothing_more
quoted_again (plainly {b = b} {v = v} h q) =
    cond-elim (λ (w : List ℕ). Quoted w (b ∷ v)) (is_plain b) (λ e. plainly e (quoted_again q)) (λ e. both_ways h e)
quoted_again (escapes {b = b} {u = u} {v = v} h q) =
    cond-elim (λ (w : List ℕ). Quoted w (u ∷ v)) (is_plain u) (λ e. plainly e (quoted_again q))
    (λ e. subst (λ (x : ℕ). Quoted (backslash ∷ x ∷ escaped v) (u ∷ v)) (escape_same h e) (escapes h (quoted_again q)))

pub value_spellable : {xs : List ℕ} {p q : ℕ} {v : List ℕ} → Value xs p q v → SpellableValue v
value_spellable (bare {b = b} {w = w} h a n) = as_word (word_of b w a n)
value_spellable (string {v = v} h q) = by (is_word v) refl
  where
    by : (t : Bool) → is_word v ≡ t → SpellableValue v
    by true e = as_word e
    by false e = as_string e (quoted_again q)

-- ---- no spelling of a value is shorter

pub value_short : {xs : List ℕ} {p q : ℕ} {v : List ℕ} → Value xs p q v → p + length (plain_value v) ≤ q
unfolding plain_value
value_short (bare {p = p} {b = b} {w = w} h a n) =
    cond-elim (λ (s : List ℕ). p + length s ≤ p + length (b ∷ w)) (is_word (b ∷ w)) (λ e. le_refl (p + length (b ∷ w))) (λ e. both_ways (word_of b w a n) e)
value_short (string {p = p} {s = s} {v = v} h q) =
    cond-elim (λ (w : List ℕ). p + length w ≤ p + (length s + 2)) (is_word v) (λ e. omega (arith, escaped_short q, escaped_long v))
    (λ e. omega (arith, escaped_short q, length-append (escaped v) (quote ∷ [])))

-- ---- where the plain value stands, a value does

module _ (xs : List ℕ) (p : ℕ) (rest : List ℕ) where
  word-written : (v : List ℕ) → is_word v ≡ true → drop p xs ≡ v ++ rest → Value xs p (p + length v) v
  word-written [] e h = absurd (empty_word e)
  word-written (b ∷ w) e h = bare (rest, h) (word_all b w e) (word-quote b w e)

  pub value_written : (v : List ℕ) → SpellableValue v → drop p xs ≡ plain_value v ++ rest → Value xs p (p + length (plain_value v)) v
  unfolding plain_value
  value_written v (as_word e) h =
      let w : plain_value v ≡ v = cc in
      let h' : drop p xs ≡ v ++ rest = h ∙ ap (λ (x : List ℕ). x ++ rest) w in
      subst (λ (x : List ℕ). Value xs p (p + length x) v) (sym w) (word-written v e h')
  value_written v (as_string e q) h =
      let w : plain_value v ≡ quote ∷ (escaped v ++ (quote ∷ [])) = cc in
      let h' : drop p xs ≡ (quote ∷ (escaped v ++ (quote ∷ []))) ++ rest = h ∙ ap (λ (x : List ℕ). x ++ rest) w in
      let m : p + (length (escaped v) + 2) ≡ p + length (quote ∷ (escaped v ++ (quote ∷ []))) = omega (arith, length-append (escaped v) (quote ∷ [])) in
      subst (λ (x : List ℕ). Value xs p (p + length x) v) (sym w) (subst (λ (x : ℕ). Value xs p x v) m (string (rest, h') q))

-- ---- a value as short is the plain one

quoted_tight : {s v : List ℕ} → Quoted s v → length s ≡ length (escaped v) → s ≡ escaped v
unfolding escaped
quoted_tight nothing_more e = refl
quoted_tight (plainly {b = b} {s = s} {v = v} h q) g =
    cond-elim (λ (w : List ℕ). length (b ∷ s) ≡ length w → b ∷ s ≡ w) (is_plain b)
    (λ t e. let i : length s ≡ length (escaped v) = omega arith in ap (λ (w : List ℕ). b ∷ w) (quoted_tight q i)) (λ t e. both_ways h t) g
quoted_tight (escapes {b = b} {u = u} {s = s} {v = v} h q) g =
    cond-elim (λ (w : List ℕ). length (backslash ∷ b ∷ s) ≡ length w → backslash ∷ b ∷ s ≡ w) (is_plain u) (λ t e. absurd (omega (arith, escaped_short q)))
    (λ t e.
    let i : length s ≡ length (escaped v) = omega arith in
    let w : b ≡ escape_of u = escape_same h t in
    let r = quoted_tight q i in
    cc) g

-- the word stands at p, and what comes at q after it
pub stands_tight : (xs : List ℕ) (p q : ℕ) (w : List ℕ) → Stands xs p w → q ≡ p + length w → drop p xs ≡ w ++ drop q xs
stands_tight xs p q w s e = s.1 ∙ ap (λ (t : List ℕ). w ++ t) (sym (ap (λ (k : ℕ). drop k xs) e ∙ stands_after xs p w s))

pub value_tight : {xs : List ℕ} {p q : ℕ} {v : List ℕ} → Value xs p q v → q ≡ p + length (plain_value v) → drop p xs ≡ plain_value v ++ drop q xs
unfolding plain_value
value_tight {xs} (bare {p = p} {b = b} {w = w} h a n) e =
    let t = word_of b w a n in
    let k : plain_value (b ∷ w) ≡ b ∷ w = cc in
    stands_tight xs p (p + length (b ∷ w)) (b ∷ w) h refl ∙ ap (λ (x : List ℕ). x ++ drop (p + length (b ∷ w)) xs) (sym k)
value_tight {xs} (string {p = p} {s = s} {v = v} h q) g =
    cond-elim (λ (w : List ℕ). p + (length s + 2) ≡ p + length w → drop p xs ≡ w ++ drop (p + (length s + 2)) xs) (is_word v) (λ t e. absurd (omega (arith, escaped_short q, escaped_long v)))
    (λ t e.
    let l = length-append (escaped v) (quote ∷ []) in
    let k : s ≡ escaped v = quoted_tight q (omega (arith, l)) in
    let m : p + (length s + 2) ≡ p + length (quote ∷ (s ++ (quote ∷ []))) = omega (arith, length-append s (quote ∷ [])) in
    stands_tight xs p (p + (length s + 2)) (quote ∷ (s ++ (quote ∷ []))) h m ∙ ap (λ (x : List ℕ). (quote ∷ (x ++ (quote ∷ []))) ++ drop (p + (length s + 2)) xs) k) g
