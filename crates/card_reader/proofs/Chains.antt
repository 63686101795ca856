-- A test judged along the chain of its parameter.
-- `some_before` asks the first n entries from the last to the first. Entries that stand under another parameter are passed over
-- (`before_last`), so a walk goes from each entry of the chain to the one behind it. Asked of all entries it is what a test asks
-- (`before_all`).
-- Assumes nothing.
use Rattle.std.specs.Prelude.{Option, Some, None, is_some}
use Prim.Native.Nat.{ℕ, zero, suc, ◌+◌, ◌≤◌, ◌<◌}
use native.Mathlib.Nat.{eq-or-lt_of_le}
use native.Mathlib.Numerals.{add-one}
use native.Mathlib.Omega.{arith}
use mathlib.Core.Path.{◌≡◌, refl, ap, sym, ◌∙◌, subst}
use mathlib.Core.Logic.{⊎_elim}
use mathlib.Core.Bool.{Bool, true, false, ◌&&◌, ◌||◌}
use mathlib.Core.List.{List, [], ◌∷◌}
use lib.Dec.{eqb, ltb}
use lib.ListN.{length, get_or}
use borrow.Author.Tests.{eq-eqb, ne_eqb, lt-ltb}
use Rattle.base.specs.Parts.{part}
use Rattle.block.proofs.Items.{items-length}
use Rattle.card.specs.Card.{Entry, entry, entries_of, entry_count}
use Rattle.kind.specs.declared.Meaning.{Meaning}
use Rattle.kind.specs.declared.Readings.{Readings}
use Rattle.judge.specs.Once.{readings_for, counts_read}
use Rattle.judge.specs.Sets.{Chosen, values_at, counts, chosen_of, keep}
use Rattle.judge.specs.Verdicts.{some_value, text_counts}
use Rattle.judge.proofs.Once.{once_counts}
use Rattle.card_reader.specs.Readings.{Serves}
use Rattle.card_reader.specs.Lists.{none_kept, no_entry, Holds, Last, IsKept, KeepsCard}
use Rattle.card_reader.specs.Listed.{counted, entry_counts, some_before, OnChain, FirstFrom}
use Rattle.card_reader.specs.declared.Kept.{Kept}
use Rattle.card_reader.specs.declared.KeptEntry.{KeptEntry}
use Rattle.card_reader.specs.declared.TextReading.{TextReading}
use Rattle.card_reader.proofs.Reading.{card_few}

-- ---- the first n entries, from the last to the first

or_swap : (a b c : Bool) → (a || (b || c)) ≡ (b || (a || c))
or_swap true true c = refl
or_swap true false c = refl
or_swap false b c = refl

module _ (f : Entry → Bool) (i : ℕ) where
  pub before_cons : (x : Entry) (es : List Entry) (n : ℕ) → some_before f i (x ∷ es) (suc n) ≡ ((eqb x.index i && f x) || some_before f i es n)
  unfolding some_before
  before_cons x es zero = refl
  before_cons x es (suc n) =
      ap (λ (b : Bool). (eqb (get_or es n no_entry).index i && f (get_or es n no_entry)) || b) (before_cons x es n)
      ∙ or_swap (eqb (get_or es n no_entry).index i && f (get_or es n no_entry)) (eqb x.index i && f x) (some_before f i es n)

  module _ (es : List Entry) where
    before_here : (e : ℕ) → (get_or es e no_entry).index ≡ i → some_before f i es (e + 1) ≡ (f (get_or es e no_entry) || some_before f i es e)
    unfolding some_before
    before_here e h = rw (add-one e, eq-eqb (get_or es e no_entry).index i h)

    before_other : (n : ℕ) → ((get_or es n no_entry).index ≡ i → ⊥) → some_before f i es (suc n) ≡ some_before f i es n
    unfolding some_before
    before_other n h = rw (ne_eqb (get_or es n no_entry).index i h)

    before_skip : (c n : ℕ) → c ≤ n → ((e : ℕ) → c ≤ e → e < n → (get_or es e no_entry).index ≡ i → ⊥) → some_before f i es n ≡ some_before f i es c
    before_skip c zero h o = let z : 0 ≡ c = omega (arith, h) in ap (some_before f i es) z
    before_skip c (suc n) h o =
        ⊎_elim
        (λ (same : c ≡ suc n). ap (some_before f i es) (sym same))
        (λ (less : c < suc n). before_other n (o n (omega (arith, less)) (omega arith)) ∙ before_skip c n (omega (arith, less)) (λ e p q. o e p (omega (arith, q))))
        (eq-or-lt_of_le {n = c} {m = suc n} h)

    before_last : (n c : ℕ) → Last es i n c → some_before f i es n ≡ some_before f i es c
    before_last n c l = before_skip c n l.within l.others

-- ---- all entries

module _ (c : Chosen) (i : ℕ) (m : Meaning) (v : List ℕ) where
  some_cons : (x : Entry) (es : List Entry) (u w : Bool) → counts c x.occurrence ≡ u → eqb x.index i ≡ w
      → some_value (text_counts m v) (values_at i (chosen_of c (x ∷ es))) ≡ ((eqb x.index i && entry_counts c m v x) || some_value (text_counts m v) (values_at i (chosen_of c es)))
  unfolding some_value values_at chosen_of keep entry_counts
  some_cons x es true true p q = rw (p, q)
  some_cons x es true false p q = rw (p, q)
  some_cons x es false true p q = rw (p, q)
  some_cons x es false false p q = rw (p, q)

  before_all : (es : List Entry) → some_before (entry_counts c m v) i es (length es) ≡ some_value (text_counts m v) (values_at i (chosen_of c es))
  unfolding some_before some_value values_at chosen_of keep
  before_all [] = refl
  before_all (x ∷ es) =
      before_cons (entry_counts c m v) i x es (length es)
      ∙ ap (λ (b : Bool). (eqb x.index i && entry_counts c m v x) || b) (before_all es)
      ∙ sym (some_cons x es (counts c x.occurrence) (eqb x.index i) refl refl)

-- ---- the walk

entries_length : (card : List ℕ) → length (entries_of card) ≡ entry_count card
unfolding entries_of
entries_length card = items-length entry (entry_count card) card 6

-- ---- where a chain begins, and where it goes on

module _ (card : List ℕ) (kept : Kept) (h : KeepsCard card kept) (i : ℕ) where
  pub chain_begins : (n : ℕ) → i < 32 → IsKept kept i → n ≡ get_or kept.last i 0 → OnChain card kept i n
  chain_begins n l k e =
      let top : Last (entries_of card) i (entry_count card) n = subst (Last (entries_of card) i (entry_count card)) (sym e) (h.holds.heads i l k) in
      record { low = l; is_kept = k; few = card_few card h.well_formed; within = top.within; under = top.under }

  -- all entries are asked by the chain from its beginning
  pub chain_all : (f : Entry → Bool) (n : ℕ) → i < 32 → IsKept kept i → n ≡ get_or kept.last i 0 → some_before f i (entries_of card) (length (entries_of card)) ≡ some_before f i (entries_of card) n
  chain_all f n l k e =
      let top : Last (entries_of card) i (entry_count card) n = subst (Last (entries_of card) i (entry_count card)) (sym e) (h.holds.heads i l k) in
      ap (some_before f i (entries_of card)) (entries_length card) ∙ before_last f i (entries_of card) (entry_count card) n top

  module _ (c : ℕ) (o : OnChain card kept i (c + 1)) where
    here : (get_or (entries_of card) c no_entry).index ≡ i
    here = o.under c refl

    here_kept : IsKept kept (get_or (entries_of card) c no_entry).index
    here_kept = subst (IsKept kept) (sym here) o.is_kept

    pub chain_holds : Holds card (get_or kept.entries c none_kept) (get_or (entries_of card) c no_entry)
    chain_holds = h.holds.each c (omega (arith, o.within)) here_kept

    pub chain_room : c < 64
    chain_room = omega (arith, o.within, o.few)

    last_behind : (n : ℕ) → n ≡ (get_or kept.entries c none_kept).behind → Last (entries_of card) i c n
    last_behind n e =
        subst (λ (j : ℕ). Last (entries_of card) j c n) here
        (subst (Last (entries_of card) (get_or (entries_of card) c no_entry).index c) (sym e) (h.holds.behind c (omega (arith, o.within)) here_kept))

    module _ (n : ℕ) (e : n ≡ (get_or kept.entries c none_kept).behind) where
      pub chain_less : n < c + 1
      chain_less = omega (arith, (last_behind n e).within)

      pub chain_on : OnChain card kept i n
      chain_on = record { low = o.low; is_kept = o.is_kept; few = o.few; within = omega (arith, (last_behind n e).within, o.within); under = (last_behind n e).under }

      -- one step
      pub chain_step : (g : Entry → Bool) → some_before g i (entries_of card) (c + 1) ≡ (g (get_or (entries_of card) c no_entry) || some_before g i (entries_of card) n)
      chain_step g =
          before_here g i (entries_of card) c here
          ∙ ap (λ (b : Bool). g (get_or (entries_of card) c no_entry) || b) (before_last g i (entries_of card) c n (last_behind n e))

-- ---- the loop along a chain

-- the walk from c on stands at n, and the entries that it passed over do not count
pub record Passing (f : Entry → Bool) (card : List ℕ) (kept : Kept) (i c n : ℕ) : Type 0 where
  pub on : OnChain card kept i n
  pub less : n ≤ c
  pub passed : (g : Entry → Bool) → ((x : Entry) → f x ≡ false → g x ≡ false) → some_before g i (entries_of card) c ≡ some_before g i (entries_of card) n

module _ (f : Entry → Bool) (card : List ℕ) (kept : Kept) (i c : ℕ) where
  pub passing_start : OnChain card kept i c → Passing f card kept i c c
  passing_start o = record { on = o; less = omega arith; passed = λ g d. refl }

  module _ (n : ℕ) (inv : Passing f card kept i c (n + 1)) where
    pub passing_holds : KeepsCard card kept → Holds card (get_or kept.entries n none_kept) (get_or (entries_of card) n no_entry)
    passing_holds h = chain_holds card kept h i n inv.on

    pub passing_room : n < 64
    passing_room = omega (arith, inv.on.within, inv.on.few)

    module _ (r : Bool) (y : r ≡ f (get_or (entries_of card) n no_entry)) where
      pub passing_found : r ≡ true → FirstFrom f card kept i c (n + 1)
      passing_found t =
          record {
            on = inv.on;
            less = inv.less;
            counts = λ e k. let same : n ≡ e = omega (arith, k) in ap (λ (m : ℕ). f (get_or (entries_of card) m no_entry)) (sym same) ∙ sym y ∙ t;
            passed = inv.passed;
          }

      module _ (h : KeepsCard card kept) (m : ℕ) (e : m ≡ (get_or kept.entries n none_kept).behind) where
        pub passing_less : m < n + 1
        passing_less = chain_less card kept h i n inv.on m e

        pub passing_next : r ≡ false → Passing f card kept i c m
        passing_next t =
            record {
              on = chain_on card kept h i n inv.on m e;
              less = omega (arith, inv.less, passing_less);
              passed = λ g d.
                  inv.passed g d ∙ chain_step card kept h i n inv.on m e g
                  ∙ ap (λ (b : Bool). b || some_before g i (entries_of card) m) (d (get_or (entries_of card) n no_entry) (sym y ∙ t));
            }

  pub passing_end : Passing f card kept i c 0 → FirstFrom f card kept i c 0
  passing_end inv = record { on = inv.on; less = inv.less; counts = λ e k. absurd (omega (arith, k)); passed = inv.passed }

-- ---- whether some text counts

module _ (card : List ℕ) (kept : Kept) (h : KeepsCard card kept) (i : ℕ) (l : i < 32) (k : IsKept kept i) (c : Chosen) (m : Meaning) (v : List ℕ) (from r : ℕ) (e : from ≡ get_or kept.last i 0)
    (first : FirstFrom (entry_counts c m v) card kept i from r) where
  by_first_lem : (g : Entry → Bool) → ((x : Entry) → entry_counts c m v x ≡ false → g x ≡ false) → some_before g i (entries_of card) (length (entries_of card)) ≡ some_before g i (entries_of card) r
  by_first_lem g d = chain_all card kept h i g from l k e ∙ first.passed g d

  found : (n : ℕ) → r ≡ n → some_before (entry_counts c m v) i (entries_of card) r ≡ ltb 0 r
  unfolding some_before
  found zero q = ap (some_before (entry_counts c m v) i (entries_of card)) q ∙ ap (ltb 0) (sym q)
  found (suc n) q =
      let z : r ≡ n + 1 = q ∙ sym (add-one n) in
      ap (some_before (entry_counts c m v) i (entries_of card)) z ∙ before_here (entry_counts c m v) i (entries_of card) n (first.on.under n z)
      ∙ ap (λ (b : Bool). b || some_before (entry_counts c m v) i (entries_of card) n) (first.counts n z) ∙ sym (lt-ltb 0 r (omega (arith, z)))

  some_first : ltb 0 r ≡ some_value (text_counts m v) (values_at i (chosen_of c (entries_of card)))
  some_first = sym (found r refl) ∙ sym (by_first_lem (entry_counts c m v) (λ x d. d)) ∙ before_all c i m v (entries_of card)

module _ (card : List ℕ) (kept : Kept) (h : KeepsCard card kept) (i : ℕ) (l : i < 32) (k : IsKept kept i) (c : Chosen) (m : Meaning) (v : List ℕ) (from : ℕ) (e : from ≡ get_or kept.last i 0) where
  pub first_some : (r : Option ℕ) → FirstFrom (entry_counts c m v) card kept i from (counted r) → is_some r ≡ some_value (text_counts m v) (values_at i (chosen_of c (entries_of card)))
  first_some (Some n) f = sym (lt-ltb 0 (n + 1) (omega arith)) ∙ some_first card kept h i l k c m v from (n + 1) e f
  first_some None f = some_first card kept h i l k c m v from 0 e f

-- ---- one entry

module _ (card : List ℕ) (o : KeptEntry) (x : Entry) (h : Holds card o x) where
  pub holds_serves : (r : TextReading) (start end : ℕ) → start ≡ o.start → end ≡ o.end → r ≡ o.reading → Serves (part card start end) r
  holds_serves r start end a b k = rw (a, b, k) (subst (λ (t : List ℕ). Serves t o.reading) h.text h.serves)

  pub holds_order : (start end : ℕ) → start ≡ o.start → end ≡ o.end → (start ≤ end) × (end ≤ length card)
  holds_order start end a b = (omega (arith, a, b, h.order), omega (arith, b, h.within))

  module _ (c : Chosen) (m : Meaning) (v : List ℕ) (w : Readings) (k : w ≡ readings_for m v) (r : Bool) (g : r ≡ counts c o.occurrence) where
    own : r ≡ counts c x.occurrence
    own = g ∙ ap (counts c) h.occurrence

    pub entry_not : r ≡ false → false ≡ entry_counts c m v x
    unfolding entry_counts
    entry_not n = rw (sym own ∙ n)

    pub entry_text : r ≡ true → (t : Bool) (start end : ℕ) → start ≡ o.start → end ≡ o.end → (b : List ℕ) → b ≡ card → t ≡ counts_read m v w (part b start end) → t ≡ entry_counts c m v x
    unfolding entry_counts
    entry_text y t start end a b card_bytes same d =
        let same_text : part card start end ≡ part card o.start o.end = rw (a, b) in
        rw (sym own ∙ y)
        (once_counts m v w k (part card start end) t (d ∙ ap (λ (k : List ℕ). counts_read m v w (part k start end)) same) ∙ ap (text_counts m v) (same_text ∙ sym h.text))

-- what is kept of a parameter
pub head_is : (kept : Kept) (i j n : ℕ) → j ≡ i → n ≡ get_or kept.last j 0 → n ≡ get_or kept.last i 0
head_is kept i j n same e = e ∙ ap (λ (k : ℕ). get_or kept.last k 0) same

pub kind_is : (kept : Kept) (i j n : ℕ) → j ≡ i → n ≡ get_or kept.kinds j 0 → n ≡ get_or kept.kinds i 0
kind_is kept i j n same e = e ∙ ap (λ (k : ℕ). get_or kept.kinds k 0) same
