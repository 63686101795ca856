-- Judging rows: from left to right with one verdict in hand, and a test after brackets entry by entry.
-- What rows say with a verdict in hand is `tell`. The rows of an expression bring its verdict into the hand, whatever was in it before
-- (`tell-encode`, by induction on the expression); the loop keeps that what is left decides (`Telling`), with a law for each row. The
-- verdict of a test after brackets, by the set of the entries that are kept, is found from whether there is an entry that counts and of
-- whose occurrence the rows in the brackets say yes (`each_is`, from `entry_is`, by induction on the entries).
-- Assumes nothing.
use Rattle.std.specs.Prelude.{Option, Some, None, is_some}
use Prim.Native.Nat.{ℕ, zero, suc, ◌+◌, ◌-◌, ◌/◌, ◌≤◌, ◌<◌}
use native.Mathlib.Omega.{arith}
use mathlib.Core.Path.{◌≡◌, refl, sym, ap, ap₂, subst, ◌∙◌}
use mathlib.Core.Bool.{Bool, true, false, cond, not, ◌&&◌, ◌||◌}
use mathlib.Core.Option as maybe
use mathlib.Core.Option.{none, some, none-ne-some, some-injective}
use mathlib.Core.List.{List, [], ◌∷◌, ◌++◌, append-nil, append_assoc}
use lib.Dec.{eqb}
use lib.ListN.{length, get_or, take, drop, length-take, length-drop}
use lib.Seq.{length-take-le, get_or-take, get_or-drop, take_all, take-append_seam, drop-cons, drop-drop, drop-length}
use Rattle.std.proofs.lemmas.Option.{none-some, same_Some}
use Rattle.base.specs.Parts.{part}
use Rattle.base.proofs.Parts.{part_length}
use Rattle.base.proofs.Tests.{and_true, and_false, both_ways}
use Rattle.card.specs.Card.{Entry, entries_of}
use Rattle.syntax.specs.Placed.{PlacedValue}
use Rattle.syntax.specs.declared.Connective.{Connective}
use Rattle.syntax.specs.Scan.{value_at, contents, decode, Decoded}
use Rattle.syntax.specs.declared.RawValue.{RawValue}
use Rattle.syntax.proofs.Places.{value-at-placed}
use Rattle.kind.specs.Table.{meaning_of}
use Rattle.kind.specs.Readable.{is_true}
use Rattle.kind.specs.declared.Readings.{Readings}
use Rattle.kind.specs.declared.Meaning.{Meaning}
use Rattle.judge.specs.Sets.{Chosen, values_at, counts, chosen_of, of_occurrence, keep}
use Rattle.judge.specs.Verdicts.{some_value, text_counts, some_says, says_of, joined}
use Rattle.judge.specs.Once.{readings_for}
use Rattle.judge.proofs.Meaning.{says_some, says_by_some}
use Rattle.judge.proofs.Occurrences.{chosen_one, occurrence_whole}
use Rattle.rows.specs.Expression.{Expression, probing, choosing, joining, negating}
use Rattle.rows.specs.Cells.{probe_of, row_of, cell_of, encode, Writable, writable_test, writable_bracket, writable_join, writable_not, stated}
use Rattle.rows.specs.Shapes.{value_in}
use Rattle.rows.specs.declared.Probe.{Probe}
use Rattle.rows.specs.declared.Row.{Row}
use Rattle.rows.proofs.Cells.{row_test, row_bracket, row_not, row_connect, test_index, cell_probe}
use Rattle.rows.proofs.Stating.{stated-encode, stated_are}
use Rattle.card_reader.specs.Lists.{none_kept, no_entry, IsKept, KeepsCard}
use Rattle.card_reader.specs.declared.Kept.{Kept}
use Rattle.card_reader.specs.Listed.{counted, entry_counts, some_before, OnChain, FirstFrom}
use Rattle.card_reader.proofs.Chains.{before_cons, chain_begins, chain_all, chain_holds, chain_room, chain_less, chain_on, chain_step, first_some}
use Rattle.row_judge.specs.Asking.{LentFor}
use Rattle.row_opener.specs.Opening.{Opens, readings_in, opened_value, opened_by, opened_for, opened_in, opened_row, value_of, Known}
use Rattle.row_opener.specs.declared.Opened.{Opened}
use Rattle.row_opener.proofs.Opening.{opens_second, opened_reads}
use Rattle.row_judge.specs.Saying.{probe_says_by, probe_says, expression_says, stated_says, rows_say, Whole, AllKept, Bracketed, decides, skipped, some_entry, occurrence_says, probe_says_each_by, probe_says_each, bracket_says}

-- ---- entry by entry is by the set of the entries that are kept

module _ (says kept : ℕ → Bool) (k : Chosen) (same : (o : ℕ) → counts k o ≡ true → says o ≡ kept o) (i : ℕ) (m : Meaning) (v : List ℕ) where
  entry_is : (es : List Entry) → some_entry says k i m v es ≡ some_value (text_counts m v) (values_at i (keep (λ e. kept e.occurrence) (chosen_of k es)))
  unfolding some_entry chosen_of keep values_at some_value
  entry_is [] = refl
  entry_is (e ∷ es) = go (counts k e.occurrence) refl (entry_is es)
    where
      go : (t : Bool) → counts k e.occurrence ≡ t → some_entry says k i m v es ≡ some_value (text_counts m v) (values_at i (keep (λ e. kept e.occurrence) (chosen_of k es)))
          → some_entry says k i m v (e ∷ es) ≡ some_value (text_counts m v) (values_at i (keep (λ e. kept e.occurrence) (chosen_of k (e ∷ es))))
      go false a r = rw (a, r)
      go true a r = by (eqb e.index i) (kept e.occurrence) refl refl
        where
          by : (u w : Bool) → eqb e.index i ≡ u → kept e.occurrence ≡ w → some_entry says k i m v (e ∷ es) ≡ some_value (text_counts m v) (values_at i (keep (λ e. kept e.occurrence) (chosen_of k (e ∷ es))))
          by true true b d = rw (a, d, b, same e.occurrence a ∙ d, r, and_true (text_counts m v e.text))
          by true false b d = rw (a, d, b, same e.occurrence a ∙ d, r, and_false (text_counts m v e.text))
          by false true b d = rw (a, d, b, r)
          by false false b d = rw (a, d, b, r)

-- rows say what their expression says
rows_are : (kinds xs : List ℕ) (e : Expression) (cs : List ℕ) (es : List Entry) → stated cs ≡ some e → rows_say kinds xs es cs ≡ expression_says kinds xs es e
unfolding rows_say
rows_are kinds xs e cs es h = ap (stated_says kinds xs es) h

module _ (kinds xs : List ℕ) (k : Chosen) (all : List Entry) (p : Probe) where
  -- the test of what is kept, from some entry that counts
  each_is : (says kept : ℕ → Bool) → ((o : ℕ) → counts k o ≡ true → says o ≡ kept o) → (kind : ℕ) (v : RawValue)
      → some_says (meaning_of p.operator kind) (is_true (value_in xs v)) (some_entry says k p.index (meaning_of p.operator kind) (value_in xs v) all)
      ≡ says_of (meaning_of p.operator kind) (value_in xs v) (values_at p.index (keep (λ e. kept e.occurrence) (chosen_of k all)))
  each_is says kept same kind v =
      let m : Meaning = meaning_of p.operator kind in
      ap (some_says m (is_true (value_in xs v))) (entry_is says kept k same p.index m (value_in xs v) all) ∙ sym (says_some m (value_in xs v) (values_at p.index (keep (λ e. kept e.occurrence) (chosen_of k all))))

  bracket_is : (e : Expression) (cs : List ℕ) → stated cs ≡ some e → probe_says_each kinds xs cs p k all ≡ expression_says kinds xs (chosen_of k all) (choosing e p)
  unfolding probe_says_each probe_says expression_says
  bracket_is e cs h = by_value (value_at xs p.position)
    where
      kept : ℕ → Bool
      kept o = expression_says kinds xs (of_occurrence o (chosen_of k all)) e

      same : (o : ℕ) → counts k o ≡ true → occurrence_says kinds xs all cs o ≡ kept o
      same o c = rows_are kinds xs e cs (of_occurrence o all) h ∙ ap (λ (l : List Entry). expression_says kinds xs l e) (sym (occurrence_whole k o all c))

      by_value : (f : Option RawValue) → probe_says_each_by f (get_or kinds p.index 0) kinds xs cs p k all ≡ probe_says_by f (get_or kinds p.index 0) xs p (keep (λ n. kept n.occurrence) (chosen_of k all))
      by_value (Some v) = each_is (occurrence_says kinds xs all cs) kept same (get_or kinds p.index 0) v
      by_value None = refl

-- ---- entry by entry from the last to the first

-- an entry's text counts, and its occurrence says yes
abbrev pub says_too : (ℕ → Bool) → Chosen → Meaning → List ℕ → Entry → Bool
says_too says k m v x = entry_counts k m v x && says x.occurrence

module _ (says : ℕ → Bool) (k : Chosen) (i : ℕ) (m : Meaning) (v : List ℕ) where
  entries_cons : (x : Entry) (es : List Entry) (a b : Bool) → counts k x.occurrence ≡ a → eqb x.index i ≡ b
      → some_entry says k i m v (x ∷ es) ≡ ((eqb x.index i && says_too says k m v x) || some_entry says k i m v es)
  unfolding some_entry entry_counts
  entries_cons x es true true p q = rw (p, q)
  entries_cons x es true false p q = rw (p, q)
  entries_cons x es false true p q = rw (p, q)
  entries_cons x es false false p q = rw (p, q)

  entries_before : (es : List Entry) → some_before (says_too says k m v) i es (length es) ≡ some_entry says k i m v es
  unfolding some_before some_entry
  entries_before [] = refl
  entries_before (x ∷ es) =
      before_cons (says_too says k m v) i x es (length es)
      ∙ ap (λ (b : Bool). (eqb x.index i && says_too says k m v x) || b) (entries_before es)
      ∙ sym (entries_cons x es (counts k x.occurrence) (eqb x.index i) refl refl)

  -- only entries that count can meet it
  counts-first : (x : Entry) → entry_counts k m v x ≡ false → says_too says k m v x ≡ false
  counts-first x h = rw h

-- ---- the loop over the entries of a chain that count

-- n is an entry that counts, or 0, and the entries from it on decide
pub record Choosing (says : ℕ → Bool) (k : Chosen) (i : ℕ) (m : Meaning) (v card : List ℕ) (kept : Kept) (answer : Bool) (n : ℕ) : Type 0 where
  pub keeps : KeepsCard card kept
  pub on : OnChain card kept i n
  pub counts_here : (e : ℕ) → n ≡ e + 1 → entry_counts k m v (get_or (entries_of card) e no_entry) ≡ true
  pub rest : some_before (says_too says k m v) i (entries_of card) n ≡ answer

module _ (says : ℕ → Bool) (k : Chosen) (i : ℕ) (m : Meaning) (v card : List ℕ) (kept : Kept) where
  pub choosing_start : KeepsCard card kept → (from r : ℕ) → i < 32 → IsKept kept i → from ≡ get_or kept.last i 0 → FirstFrom (entry_counts k m v) card kept i from r
      → Choosing says k i m v card kept (some_entry says k i m v (entries_of card)) r
  choosing_start h from r l y e f =
      record {
        keeps = h;
        on = f.on;
        counts_here = f.counts;
        rest =
            sym (f.passed (says_too says k m v) (counts-first says k i m v)) ∙ sym (chain_all card kept h i (says_too says k m v) from l y e)
            ∙ entries_before says k i m v (entries_of card);
      }

  module _ (answer : Bool) (n : ℕ) (inv : Choosing says k i m v card kept answer (n + 1)) where
    h : KeepsCard card kept
    h = inv.keeps

    pub choosing_room : n < 64
    choosing_room = chain_room card kept h i n inv.on

    module _ (o : ℕ) (oe : o ≡ (get_or kept.entries n none_kept).occurrence) (r : Bool) (y : r ≡ says o) where
      here_is : says_too says k m v (get_or (entries_of card) n no_entry) ≡ r
      here_is =
          let own : o ≡ (get_or (entries_of card) n no_entry).occurrence = oe ∙ (chain_holds card kept h i n inv.on).occurrence in
          let there : entry_counts k m v (get_or (entries_of card) n no_entry) ≡ true = inv.counts_here n refl in
          ap (λ (b : Bool). b && says (get_or (entries_of card) n no_entry).occurrence) there ∙ sym (y ∙ ap says own)

      module _ (b : ℕ) (be : b ≡ (get_or kept.entries n none_kept).behind) where
        step : answer ≡ (r || some_before (says_too says k m v) i (entries_of card) b)
        step = sym inv.rest ∙ chain_step card kept h i n inv.on b be (says_too says k m v) ∙ ap (λ (x : Bool). x || some_before (says_too says k m v) i (entries_of card) b) here_is

        pub choosing_next : (q : ℕ) → FirstFrom (entry_counts k m v) card kept i b q → r ≡ false → Choosing says k i m v card kept answer q
        choosing_next q f z =
            record {
              keeps = h;
              on = f.on;
              counts_here = f.counts;
              rest = sym (f.passed (says_too says k m v) (counts-first says k i m v)) ∙ sym (step ∙ ap (λ (x : Bool). x || some_before (says_too says k m v) i (entries_of card) b) z);
            }

      pub choosing_yes : r ≡ true → true ≡ answer
      choosing_yes z =
          let b : ℕ = (get_or kept.entries n none_kept).behind in
          sym (step b refl ∙ ap (λ (x : Bool). x || some_before (says_too says k m v) i (entries_of card) b) z)

  pub choosing_end : (answer : Bool) → Choosing says k i m v card kept answer 0 → false ≡ answer
  unfolding some_before
  choosing_end answer inv = inv.rest

-- what the rows behind a test's say of an occurrence
unfoldable pub in_brackets : List ℕ → List ℕ → List ℕ → List Entry → ℕ → Bool
in_brackets kinds xs rows all o = occurrence_says kinds xs all (take (length rows - 1) (drop 1 rows)) o

pub occurrence_says_lem : (kinds xs rows : List ℕ) (all : List Entry) (o : ℕ) (r : Bool) → r ≡ rows_say kinds xs (chosen_of (Some o) all) (take (length rows - 1) (drop 1 rows)) → r ≡ in_brackets kinds xs rows all o
unfolding in_brackets
occurrence_says_lem kinds xs rows all o r e = e ∙ ap (λ (l : List Entry). rows_say kinds xs l (take (length rows - 1) (drop 1 rows))) (chosen_one o all)

module _ (kinds xs : List ℕ) (p : Probe) (c : Option Opened) (e : c ≡ opened_for kinds xs p) where
  -- where none is opened there is none
  none_told : c ≡ None → value_at xs p.position ≡ None
  unfolding opened_for
  none_told h = by_value (value_at xs p.position) refl
    where
      by_value : (f : Option RawValue) → value_at xs p.position ≡ f → f ≡ None
      by_value (Some v) i =
          absurd (none-some _ (sym h ∙ e ∙ ap (opened_by xs (meaning_of p.operator (get_or kinds p.index 0))) i))
      by_value None i = refl

  pub plain_closed : (es : List Entry) → c ≡ None → false ≡ probe_says kinds xs p es
  unfolding probe_says
  plain_closed es h = rw (none_told h)

  pub probe_closed : (inner : List ℕ) (k : Chosen) (all : List Entry) → c ≡ None → false ≡ probe_says_each kinds xs inner p k all
  unfolding probe_says_each
  probe_closed inner k all h = rw (none_told h)

  module _ (o : Opened) (h : c ≡ Some o) where
    -- what is opened of a value that there is
    record Told (m : Meaning) : Type 0 where
      known : Known xs m o
      value : RawValue
      found : value_at xs p.position ≡ Some value
      same : value_of xs o ≡ value_in xs value
      truth : o.truth ≡ is_true (value_in xs value)

    told : Told (meaning_of p.operator (get_or kinds p.index 0))
    unfolding opened_for opened_value value_of
    told = by_value (value_at xs p.position) refl
      where
        by_value : (f : Option RawValue) → value_at xs p.position ≡ f → Told (meaning_of p.operator (get_or kinds p.index 0))
        by_value (Some v) i =
            let is : o ≡ opened_value (meaning_of p.operator (get_or kinds p.index 0)) v (value_in xs v) =
            same_Some _ _ (sym h ∙ e ∙ ap (opened_by xs (meaning_of p.operator (get_or kinds p.index 0))) i) in
            let q : PlacedValue xs v = value-at-placed xs p.position (value_at xs p.position) v refl i in
            record {
              known = record { order = rw is q.order; within = rw is q.within; read = rw is (opened_reads (meaning_of p.operator (get_or kinds p.index 0)) v (value_in xs v)) };
              value = v;
              found = i;
              same = rw is;
              truth = rw is;
            }
        by_value None i =
            absurd (none-some o (sym (ap (opened_by xs (meaning_of p.operator (get_or kinds p.index 0))) i) ∙ sym e ∙ h))

    pub probe_known : (m : Meaning) (kind : ℕ) → kind ≡ get_or kinds p.index 0 → m ≡ meaning_of p.operator kind → Known xs m o
    probe_known m kind i j = subst (λ (n : Meaning). Known xs n o) (sym (j ∙ ap (meaning_of p.operator) i)) told.known

    -- a test without brackets
    pub plain-opened : (es : List Entry) (m : Meaning) (kind : ℕ) (s r : Bool) → kind ≡ get_or kinds p.index 0 → m ≡ meaning_of p.operator kind
        → s ≡ some_value (text_counts m (value_of xs o)) (values_at p.index es) → r ≡ some_says m o.truth s → r ≡ probe_says kinds xs p es
    unfolding probe_says
    plain-opened es m kind s r i j q y =
        let is : m ≡ meaning_of p.operator (get_or kinds p.index 0) = j ∙ ap (meaning_of p.operator) i in
        let w = told in
        rw w.found (says_by_some m (value_of xs o) (values_at p.index es) o.truth s r q (w.truth ∙ ap is_true (sym w.same)) y ∙ ap₂ (λ (n : Meaning) (v : List ℕ). says_of n v (values_at p.index es)) is w.same)

    -- a test after brackets
    pub probe_opened : (inner : List ℕ) (k : Chosen) (all : List Entry) (m : Meaning) (kind : ℕ) (s r : Bool) → kind ≡ get_or kinds p.index 0 → m ≡ meaning_of p.operator kind
        → s ≡ some_entry (occurrence_says kinds xs all inner) k p.index m (value_of xs o) all → r ≡ some_says m o.truth s → r ≡ probe_says_each kinds xs inner p k all
    unfolding probe_says_each
    probe_opened inner k all m kind s r i j q y =
        let is : m ≡ meaning_of p.operator (get_or kinds p.index 0) = j ∙ ap (meaning_of p.operator) i in
        let w = told in
        rw w.found (y ∙ ap₂ (λ (a b : Bool). some_says m a b) w.truth (q ∙ ap (λ (v : List ℕ). some_entry (occurrence_says kinds xs all inner) k p.index m v all) w.same) ∙ ap (λ (n : Meaning). some_says n (is_true (value_in xs w.value)) (some_entry (occurrence_says kinds xs all inner) k p.index n (value_in xs w.value) all)) is)

-- ---- a value that was opened

-- the first entry that counts for a value is that for the same value
first-same : (k : Chosen) (m : Meaning) (card : List ℕ) (kept : Kept) (i from r : ℕ) {v w : List ℕ} → v ≡ w → FirstFrom (entry_counts k m v) card kept i from r → FirstFrom (entry_counts k m w) card kept i from r
first-same k m card kept i from r e f = subst (λ (x : List ℕ). FirstFrom (entry_counts k m x) card kept i from r) e f

module _ (xs : List ℕ) (m : Meaning) (o : Opened) (w : Known xs m o) where
  module _ (a b : ℕ) (s : a ≡ o.start) (t : b ≡ o.end) where
    pub part_order : a ≤ b
    part_order = omega (arith, s, t, w.order)

    pub part_within : b ≤ length xs
    part_within = omega (arith, t, w.within)

    part_is : (raw : List ℕ) → raw ≡ part xs a b → raw ≡ part xs o.start o.end
    part_is raw q = q ∙ rw (s, t)

    pub plain-is : (raw : List ℕ) → raw ≡ part xs a b → o.escaped ≡ false → raw ≡ value_of xs o
    unfolding value_of
    plain-is raw q h = part_is raw q ∙ ap (λ (b : Bool). contents b (part xs o.start o.end)) (sym h)

    pub escaped-is : (raw : List ℕ) → raw ≡ part xs a b → o.escaped ≡ true → (out : List ℕ) (n : ℕ) → Decoded raw out n → take n out ≡ value_of xs o
    unfolding value_of
    escaped-is raw q h out n d = d.is ∙ ap (decode false) (part_is raw q) ∙ ap (λ (b : Bool). contents b (part xs o.start o.end)) (sym h)

  module _ (v : List ℕ) (e : v ≡ value_of xs o) where
    pub value_reads : (r : Readings) → r ≡ readings_in o.reading → r ≡ readings_for m v
    value_reads r q = q ∙ w.read ∙ ap (readings_for m) (sym e)

    pub value_first : (k : Chosen) (card : List ℕ) (kept : Kept) (i from r : ℕ) → FirstFrom (entry_counts k m v) card kept i from r → FirstFrom (entry_counts k m (value_of xs o)) card kept i from r
    value_first k card kept i from r f = first-same k m card kept i from r e f

-- ---- a test without brackets, by the lists of the card

module _ (card : List ℕ) (kept : Kept) (h : KeepsCard card kept) (i : ℕ) (l : i < 32) (z : IsKept kept i) where
  pub test_chain : (from : ℕ) → from ≡ get_or kept.last i 0 → OnChain card kept i from
  test_chain from e = chain_begins card kept h i from l z e

  pub test_opened : (xs : List ℕ) (p : Probe) (c : Option Opened) (o : Opened) → c ≡ opened_for kept.kinds xs p → c ≡ Some o → p.index ≡ i → (k : Chosen) (m : Meaning) (kind from : ℕ) (first : Option ℕ) (r : Bool) → kind ≡ get_or kept.kinds i 0
      → m ≡ meaning_of p.operator kind → from ≡ get_or kept.last i 0 → FirstFrom (entry_counts k m (value_of xs o)) card kept i from (counted first) → r ≡ some_says m o.truth (is_some first)
      → r ≡ probe_says kept.kinds xs p (chosen_of k (entries_of card))
  test_opened xs p c o e f same k m kind from first r ke me fe d y =
      plain-opened kept.kinds xs p c e o f (chosen_of k (entries_of card)) m kind (is_some first) r (ke ∙ ap (λ (n : ℕ). get_or kept.kinds n 0) (sym same)) me
      (first_some card kept h i l z k m (value_of xs o) from fe first d ∙ ap (λ (n : ℕ). some_value (text_counts m (value_of xs o)) (values_at n (chosen_of k (entries_of card)))) (sym same)) y

-- ---- rows, from left to right with a verdict in hand

decided_so : (c : Connective) (a b : Bool) → decides c a ≡ true → a ≡ joined c a b
decided_so Connective.And true b h = both_ways h refl
decided_so Connective.And false b h = refl
decided_so Connective.Or true b h = refl
decided_so Connective.Or false b h = both_ways h refl

decided_not : (c : Connective) (a b : Bool) → decides c a ≡ false → b ≡ joined c a b
decided_not Connective.And true b h = refl
decided_not Connective.And false b h = both_ways refl h
decided_not Connective.Or true b h = both_ways refl h
decided_not Connective.Or false b h = refl

abbrev when_stated : maybe.Option Expression → maybe.Option Bool → maybe.Option Bool
when_stated none then = none
when_stated (some e) then = then

module _ (kinds xs : List ℕ) (k : Chosen) (all : List Entry) where
  -- brackets with n rows in them, by the row of the test
  abbrev tell_test : (ℕ → Bool → maybe.Option Bool) → ℕ → List ℕ → Row → maybe.Option Bool
  tell_test go n cs (Row.Test p) = when_stated (stated (take n cs)) (go n (probe_says_each kinds xs (take n cs) p k all))
  tell_test go n cs (Row.Bracket m) = none
  tell_test go n cs Row.Not = none
  tell_test go n cs (Row.Connect c m) = none
  tell_test go n cs Row.Unknown = none

  abbrev tell_brackets : (ℕ → Bool → maybe.Option Bool) → ℕ → List ℕ → maybe.Option Bool
  tell_brackets go n [] = none
  tell_brackets go n (c ∷ cs) = tell_test (λ m u. go (suc m) u) n cs (row_of c)

  abbrev tell_row : (ℕ → Bool → maybe.Option Bool) → Bool → List ℕ → Row → maybe.Option Bool
  tell_row go v cs (Row.Test p) = go 0 (probe_says kinds xs p (chosen_of k all))
  tell_row go v cs (Row.Bracket n) = tell_brackets go n cs
  tell_row go v cs Row.Not = go 0 (not v)
  tell_row go v cs (Row.Connect c n) = go (skipped c v n) v
  tell_row go v cs Row.Unknown = none

  -- the verdict in hand, and all rows behind the next n
  unfoldable pub tell : ℕ → Bool → List ℕ → maybe.Option Bool
  tell zero v [] = some v
  tell (suc n) v [] = none
  tell zero v (c ∷ cs) = tell_row (λ n u. tell n u cs) v cs (row_of c)
  tell (suc n) v (c ∷ cs) = tell n v cs

  tell_skip : (n : ℕ) (v : Bool) (cs : List ℕ) (r : Bool) → tell n v cs ≡ some r → (n ≤ length cs) × (tell 0 v (drop n cs) ≡ some r)
  unfolding tell
  tell_skip zero v cs r h = (omega arith, h)
  tell_skip (suc n) v [] r h = absurd (none-ne-some _ h)
  tell_skip (suc n) v (c ∷ cs) r h = let t = tell_skip n v cs r h in (omega (arith, t.0), t.1)

  tell-part : (l : List ℕ) (v : Bool) (cs : List ℕ) → tell (length l) v (l ++ cs) ≡ tell 0 v cs
  unfolding tell
  tell-part [] v cs = refl
  tell-part (c ∷ l) v cs = tell-part l v cs

  -- the rows of an expression say what it says
  tell-encode : (e : Expression) → Writable e → (v : Bool) (cs : List ℕ) → tell 0 v (encode e ++ cs) ≡ tell 0 (expression_says kinds xs (chosen_of k all) e) cs
  unfolding tell encode expression_says
  tell-encode (probing p) (writable_test s) v cs = ap (tell_row (λ n u. tell n u cs) v cs) (row_test p s)
  tell-encode (choosing e p) (writable_bracket w s) v cs =
      let n : ℕ = length (encode e) in
      let c : ℕ = cell_of (Row.Test p) in
      let part_is : take n (encode e ++ cs) ≡ encode e = take-append_seam (encode e) cs in
      ap (tell_row (λ m u. tell m u (c ∷ (encode e ++ cs))) v (c ∷ (encode e ++ cs))) (row_bracket n)
      ∙ ap (tell_test (λ m u. tell m u (encode e ++ cs)) n (encode e ++ cs)) (row_test p s)
      ∙ ap (λ (l : List ℕ). when_stated (stated l) (tell n (probe_says_each kinds xs l p k all) (encode e ++ cs))) part_is
      ∙ ap (λ (o : maybe.Option Expression). when_stated o (tell n (probe_says_each kinds xs (encode e) p k all) (encode e ++ cs))) (stated-encode e w)
      ∙ tell-part (encode e) (probe_says_each kinds xs (encode e) p k all) cs
      ∙ ap (λ (u : Bool). tell 0 u cs) (bracket_is kinds xs k all p e (encode e) (stated-encode e w))
  tell-encode (negating e) (writable_not w) v cs =
      let a : Bool = expression_says kinds xs (chosen_of k all) e in
      ap (tell 0 v) (append_assoc (encode e) (cell_of Row.Not ∷ []) cs) ∙ tell-encode e w v (cell_of Row.Not ∷ cs) ∙ ap (tell_row (λ n u. tell n u cs) a cs) row_not
  tell-encode (joining o e f) (writable_join w x) v cs =
      let n : ℕ = length (encode f) in
      let c : ℕ = cell_of (Row.Connect o n) in
      let a : Bool = expression_says kinds xs (chosen_of k all) e in
      let b : Bool = expression_says kinds xs (chosen_of k all) f in
      ap (tell 0 v) (append_assoc (encode e) (c ∷ encode f) cs) ∙ tell-encode e w v (c ∷ (encode f ++ cs)) ∙ ap (tell_row (λ m u. tell m u (encode f ++ cs)) a (encode f ++ cs)) (row_connect o n)
      ∙ by_verdict a b (decides o a) refl (tell-encode f x a cs)
    where
      by_verdict : (a b t : Bool) → decides o a ≡ t → tell 0 a (encode f ++ cs) ≡ tell 0 b cs → tell (cond (decides o a) (length (encode f)) 0) a (encode f ++ cs) ≡ tell 0 (joined o a b) cs
      by_verdict a b true h i = ap (λ (t : Bool). tell (cond t (length (encode f)) 0) a (encode f ++ cs)) h ∙ tell-part (encode f) a cs ∙ ap (λ (u : Bool). tell 0 u cs) (decided_so o a b h)
      by_verdict a b false h i = ap (λ (t : Bool). tell (cond t (length (encode f)) 0) a (encode f ++ cs)) h ∙ i ∙ ap (λ (u : Bool). tell 0 u cs) (decided_not o a b h)

  -- brackets that are told of
  record ToldOf (n : ℕ) (cs : List ℕ) (r : Bool) : Type 0 where
    first : ℕ
    rest : List ℕ
    are : cs ≡ first ∷ rest
    probe : Probe
    row : row_of first ≡ Row.Test probe
    expression : Expression
    states : stated (take n rest) ≡ some expression
    goes : tell n (probe_says_each kinds xs (take n rest) probe k all) rest ≡ some r

  told_of : (n : ℕ) (cs : List ℕ) (r : Bool) → tell_brackets (λ m u. tell m u cs) n cs ≡ some r → ToldOf n cs r
  unfolding tell
  told_of n [] r h = absurd (none-ne-some _ h)
  told_of n (c ∷ cs) r h = by_row (row_of c) refl h
    where
      by_row : (q : Row) → row_of c ≡ q → tell_test (λ m u. tell m u cs) n cs q ≡ some r → ToldOf n (c ∷ cs) r
      by_row (Row.Test p) i g = by_stated (stated (take n cs)) refl g
        where
          by_stated : (o : maybe.Option Expression) → stated (take n cs) ≡ o → when_stated o (tell n (probe_says_each kinds xs (take n cs) p k all) cs) ≡ some r → ToldOf n (c ∷ cs) r
          by_stated none j g = absurd (none-ne-some _ g)
          by_stated (some e) j g = record { first = c; rest = cs; are = refl; probe = p; row = i; expression = e; states = j; goes = g }
      by_row (Row.Bracket m) i g = absurd (none-ne-some _ g)
      by_row Row.Not i g = absurd (none-ne-some _ g)
      by_row (Row.Connect o m) i g = absurd (none-ne-some _ g)
      by_row Row.Unknown i g = absurd (none-ne-some _ g)

-- rows that were opened by the kinds that are kept, and whose parameters are kept
pub record Ready (xs rows : List ℕ) (values : List (Option Opened)) (kept : Kept) : Type 0 where
  pub opens : Opens kept.kinds xs rows values (length rows)
  pub all_kept : AllKept rows kept

module _ (kinds xs rows cells : List ℕ) (same : cells ≡ rows) (kept : Kept) (l : LentFor kinds rows kept) where
  pub ready_of : (values : List (Option Opened)) → Opens kinds xs rows values (length rows) → Ready xs cells values kept
  ready_of values o =
      record {
        opens = subst (λ (n : List ℕ). Opens kept.kinds xs n values (length n)) (sym same) (subst (λ (n : List ℕ). Opens n xs rows values (length rows)) (sym l.kinds_are) o);
        all_kept = subst (λ (n : List ℕ). AllKept n kept) (sym same) l.all_kept;
      }

  pub ready_says : (es : List Entry) (r : Bool) → r ≡ rows_say kept.kinds xs es cells → r ≡ rows_say kinds xs es rows
  ready_says es r e = e ∙ ap₂ (λ (n m : List ℕ). rows_say n xs es m) l.kinds_are same

-- the parameters that a part of the rows asks about
kept_part : {rows : List ℕ} {kept : Kept} → AllKept rows kept → (m e : ℕ) → e ≤ length rows → AllKept (part rows m e) kept
kept_part {rows} {kept} w m e h =
    record {
      each = λ j l p r.
          let z : j < e - m = omega (arith, l, length-take (e - m) (drop m rows)) in
          let same : get_or (part rows m e) j 0 ≡ get_or rows (m + j) 0 = get_or-take (e - m) (drop m rows) j 0 z ∙ get_or-drop m rows j 0 in
          w.each (m + j) (omega (arith, z, h)) p (sym (ap row_of same) ∙ r);
    }

-- the loop: what is left decides
pub record Telling (kinds xs rows : List ℕ) (k : Chosen) (all : List Entry) (r : Bool) (at : ℕ) (v : Bool) : Type 0 where
  pub within : at ≤ length rows
  pub rest : tell kinds xs k all 0 v (drop at rows) ≡ some r

inner_of : (x : ℕ) (l cs : List ℕ) → cs ≡ x ∷ l → take (length cs - 1) (drop 1 cs) ≡ l
inner_of x l cs h = ap (λ (c : List ℕ). take (length c - 1) (drop 1 c)) h ∙ take_all (length (x ∷ l) - 1) l (omega arith)

module _ (kinds xs rows : List ℕ) (k : Chosen) (all : List Entry) where
  pub telling_start : Whole rows → Telling kinds xs rows k all (rows_say kinds xs (chosen_of k all) rows) 0 false
  unfolding tell
  telling_start w =
      let e : Expression = w.expression in
      let c = stated_are rows e w.states in
      let says : rows_say kinds xs (chosen_of k all) rows ≡ expression_says kinds xs (chosen_of k all) e = rows_are kinds xs e rows (chosen_of k all) w.states in
      record {
        within = omega arith;
        rest = ap (tell kinds xs k all 0 false) (c.are ∙ sym (append-nil (encode e))) ∙ tell-encode kinds xs k all e c.writable false [] ∙ ap some (sym says);
      }

  module _ (r : Bool) (at : ℕ) (v : Bool) (s : Telling kinds xs rows k all r at v) where
    pub telling_end : length rows ≤ at → v ≡ r
    unfolding tell
    telling_end h =
        let n : at ≡ length rows = omega (arith, h, s.within) in
        let none_left : drop at rows ≡ [] = ap (λ (m : ℕ). drop m rows) n ∙ drop-length rows in
        some-injective _ _ (sym (ap (tell kinds xs k all 0 v) none_left) ∙ s.rest)

    module _ (l : at < length rows) (q : Row) (e : q ≡ row_of (get_or rows at 0)) where
      next : tell_row kinds xs k all (λ n u. tell kinds xs k all n u (drop (suc at) rows)) v (drop (suc at) rows) q ≡ some r
      unfolding tell
      next = ap (tell_row kinds xs k all (λ n u. tell kinds xs k all n u (drop (suc at) rows)) v (drop (suc at) rows)) e ∙ sym (ap (tell kinds xs k all 0 v) (drop-cons rows at 0 l)) ∙ s.rest

      by_row : (p : Row) → q ≡ p → tell_row kinds xs k all (λ n u. tell kinds xs k all n u (drop (suc at) rows)) v (drop (suc at) rows) p ≡ some r
      by_row p j = ap (tell_row kinds xs k all (λ n u. tell kinds xs k all n u (drop (suc at) rows)) v (drop (suc at) rows)) (sym j) ∙ next

      go_on : (n : ℕ) (u : Bool) → tell kinds xs k all n u (drop (suc at) rows) ≡ some r → (m : ℕ) → suc at + n ≡ m → Telling kinds xs rows k all r m u
      go_on n u h m i =
          let t = tell_skip kinds xs k all n u (drop (suc at) rows) r h in
          record {
            within = omega (arith, i, l, t.0, length-drop (suc at) rows);
            rest = ap (tell kinds xs k all 0 u) (sym (drop-drop n (suc at) rows ∙ ap (λ (j : ℕ). drop j rows) i)) ∙ t.1;
          }

      pub step_test : (p : Probe) (u : Bool) → q ≡ Row.Test p → u ≡ probe_says kinds xs p (chosen_of k all) → Telling kinds xs rows k all r (at + 1) u
      step_test p u j h = go_on 0 u (ap (λ (x : Bool). tell kinds xs k all 0 x (drop (suc at) rows)) h ∙ by_row (Row.Test p) j) (at + 1) (omega arith)

      pub step_not : q ≡ Row.Not → Telling kinds xs rows k all r (at + 1) (not v)
      step_not j = go_on 0 (not v) (by_row Row.Not j) (at + 1) (omega arith)

      pub step_connect : (c : Connective) (n m : ℕ) → q ≡ Row.Connect c n → m ≡ skipped c v n → Telling kinds xs rows k all r (at + 1 + m) v
      step_connect c n m j h = go_on m v (ap (λ (x : ℕ). tell kinds xs k all x v (drop (suc at) rows)) h ∙ by_row (Row.Connect c n) j) (at + 1 + m) (omega arith)

      pub step_unknown : q ≡ Row.Unknown → false ≡ r
      step_unknown j = absurd (none-ne-some _ (by_row Row.Unknown j))

      module _ (n : ℕ) (j : q ≡ Row.Bracket n) where
        brackets : ToldOf kinds xs k all n (drop (suc at) rows) r
        brackets = told_of kinds xs k all n (drop (suc at) rows) r (by_row (Row.Bracket n) j)

        pub bracket_room : at + 1 + n + 1 ≤ length rows
        bracket_room =
            let t = tell_skip kinds xs k all n (probe_says_each kinds xs (take n brackets.rest) brackets.probe k all) brackets.rest r brackets.goes in
            omega (arith, l, t.0, ap length brackets.are, length-drop (suc at) rows)

        abbrev part_rows : List ℕ
        part_rows = part rows (at + 1) (at + 1 + n + 1)

        part_are : part_rows ≡ brackets.first ∷ take n brackets.rest
        part_are =
            let size : at + 1 + n + 1 - (at + 1) ≡ suc n = omega arith in
            let from : at + 1 ≡ suc at = omega arith in
            ap₂ (λ (a b : ℕ). take a (drop b rows)) size from ∙ ap (take (suc n)) brackets.are

        pub part-size : length part_rows ≡ n + 1
        part-size = part_length rows (at + 1) (at + 1 + n + 1) bracket_room ∙ (omega arith)

        pub bracket_ready : {values : List (Option Opened)} {kept : Kept} → Ready xs rows values kept
            → Bracketed xs part_rows (take (length values - (at + 1)) (drop (at + 1) values)) kept
        bracket_ready w =
            record {
              some_row = omega (arith, part-size);
              test = brackets.probe;
              row = ap (λ (c : List ℕ). row_of (get_or c 0 0)) part_are ∙ brackets.row;
              whole = record { expression = brackets.expression; states = ap stated (inner_of brackets.first (take n brackets.rest) part_rows part_are) ∙ brackets.states };
              opens = opens_second w.opens (at + 1) (at + 1 + n + 1) (omega arith) bracket_room;
              all_kept = kept_part w.all_kept (at + 1) (at + 1 + n + 1) bracket_room;
            }

        pub step_bracket : (u : Bool) → u ≡ bracket_says kinds xs part_rows k all → Telling kinds xs rows k all r (at + 1 + n + 1) u
        unfolding tell
        step_bracket u h =
            let probe_is : probe_of (get_or part_rows 0 0 / 8) ≡ brackets.probe = cell_probe (get_or part_rows 0 0) brackets.probe (ap (λ (c : List ℕ). row_of (get_or c 0 0)) part_are ∙ brackets.row) in
            let says : u ≡ probe_says_each kinds xs (take n brackets.rest) brackets.probe k all = h ∙ ap₂ (λ (c : List ℕ) (p : Probe). probe_says_each kinds xs c p k all) (inner_of brackets.first (take n brackets.rest) part_rows part_are) probe_is in
            go_on (suc n) u (ap (tell kinds xs k all (suc n) u) brackets.are ∙ ap (λ (x : Bool). tell kinds xs k all n x brackets.rest) says ∙ brackets.goes) (at + 1 + n + 1) (omega arith)

-- ---- the loop of a test after brackets

-- what it keeps: n is an entry that counts, or 0, and the entries from it on decide
pub record Brackets (xs rows card : List ℕ) (kept : Kept) (k : Chosen) (i : ℕ) (m : Meaning) (o : Opened) (n : ℕ) : Type 0 where
  pub choosing : Choosing (in_brackets kept.kinds xs rows (entries_of card)) k i m (value_of xs o) card kept (some_entry (in_brackets kept.kinds xs rows (entries_of card)) k i m (value_of xs o) (entries_of card)) n
  pub answers : (s r : Bool) → s ≡ some_entry (in_brackets kept.kinds xs rows (entries_of card)) k i m (value_of xs o) (entries_of card) → r ≡ some_says m o.truth s → r ≡ bracket_says kept.kinds xs rows k (entries_of card)

-- ---- rows that are ready, and a test after brackets

module _ {xs rows : List ℕ} {values : List (Option Opened)} {kept : Kept} (w : Ready xs rows values kept) (at : ℕ) (l : at < length rows) where
  pub ready-value : at < length values
  ready-value = omega (arith, l, w.opens.room)

  module _ (r : Row) (e : r ≡ row_of (get_or rows at 0)) (p : Probe) (j : r ≡ Row.Test p) where
    pub ready_test : (o : Option Opened) → o ≡ get_or values at None → o ≡ opened_for kept.kinds xs p
    unfolding opened_row
    ready_test o h = h ∙ w.opens.each at l ∙ ap (opened_in kept.kinds xs) (sym e ∙ j)

    pub ready_kept : IsKept kept p.index
    ready_kept = w.all_kept.each at l p (sym e ∙ j)

module _ {xs rows : List ℕ} {values : List (Option Opened)} {kept : Kept} (w : Bracketed xs rows values kept) where
  pub bracketed_value : 0 < length values
  bracketed_value = omega (arith, w.some_row, w.opens.room)

  pub bracketed_opens : Opens kept.kinds xs (take (length rows - 1) (drop 1 rows)) (take (length values - 1) (drop 1 values)) (length (take (length rows - 1) (drop 1 rows)))
  bracketed_opens = opens_second w.opens 1 (length rows) w.some_row (omega arith)

  pub bracketed_lent : LentFor kept.kinds (take (length rows - 1) (drop 1 rows)) kept
  bracketed_lent = record { kinds_are = refl; all_kept = kept_part w.all_kept 1 (length rows) (omega arith) }

  module _ (p : Probe) (i : p ≡ probe_of (get_or rows 0 0 / 8)) where
    test_is : w.test ≡ p
    test_is = sym (i ∙ cell_probe (get_or rows 0 0) w.test w.row)

    pub bracketed_index : p.index < 32
    bracketed_index = test_index (get_or rows 0 0) (Row.Test p) p (sym (w.row ∙ ap Row.Test test_is)) refl

    bracketed_kept : IsKept kept p.index
    bracketed_kept = w.all_kept.each 0 (omega (arith, w.some_row)) p (w.row ∙ ap Row.Test test_is)

    pub bracketed_chain : (card : List ℕ) → KeepsCard card kept → (from : ℕ) → from ≡ get_or kept.last p.index 0 → OnChain card kept p.index from
    bracketed_chain card keeps from e = chain_begins card kept keeps p.index from bracketed_index bracketed_kept e

    module _ (c : Option Opened) (h : c ≡ get_or values 0 None) where
      opened_is : c ≡ opened_for kept.kinds xs p
      unfolding opened_row
      opened_is = h ∙ w.opens.each 0 (omega (arith, w.some_row)) ∙ ap (opened_in kept.kinds xs) (w.row ∙ ap Row.Test test_is)

      abbrev inner_rows : List ℕ
      inner_rows = take (length rows - 1) (drop 1 rows)

      bracket_none : (k : Chosen) (all : List Entry) → c ≡ None → false ≡ bracket_says kept.kinds xs rows k all
      bracket_none k all f = probe_closed kept.kinds xs p c opened_is inner_rows k all f ∙ ap (λ (x : Probe). probe_says_each kept.kinds xs inner_rows x k all) i

      module _ (o : Opened) (f : c ≡ Some o) (m : Meaning) (kind : ℕ) (a : kind ≡ get_or kept.kinds p.index 0) (b : m ≡ meaning_of p.operator kind) where
        pub bracket_known : Known xs m o
        bracket_known = probe_known kept.kinds xs p c opened_is o f m kind a b

        module _ (k : Chosen) (card : List ℕ) where
          -- the answer that the loop over the entries looks for
          abbrev bracket_some : Bool
          bracket_some = some_entry (in_brackets kept.kinds xs rows (entries_of card)) k p.index m (value_of xs o) (entries_of card)

          bracket_start : KeepsCard card kept → (from r : ℕ) → from ≡ get_or kept.last p.index 0 → FirstFrom (entry_counts k m (value_of xs o)) card kept p.index from r
              → Choosing (in_brackets kept.kinds xs rows (entries_of card)) k p.index m (value_of xs o) card kept bracket_some r
          bracket_start keeps from r e c = choosing_start (in_brackets kept.kinds xs rows (entries_of card)) k p.index m (value_of xs o) card kept keeps from r bracketed_index bracketed_kept e c

          bracket_opened : (s r : Bool) → s ≡ bracket_some → r ≡ some_says m o.truth s → r ≡ bracket_says kept.kinds xs rows k (entries_of card)
          unfolding in_brackets
          bracket_opened s r q y =
              probe_opened kept.kinds xs p c opened_is o f inner_rows k (entries_of card) m kind s r a b q y ∙ ap (λ (x : Probe). probe_says_each kept.kinds xs inner_rows x k (entries_of card)) i

          pub brackets_start : KeepsCard card kept → (from r : ℕ) → from ≡ get_or kept.last p.index 0 → FirstFrom (entry_counts k m (value_of xs o)) card kept p.index from r → Brackets xs rows card kept k p.index m o r
          brackets_start keeps from r e first = record { choosing = bracket_start keeps from r e first; answers = bracket_opened }

  pub bracket_closed : (k : Chosen) (all : List Entry) (c : Option Opened) → c ≡ get_or values 0 None → c ≡ None → false ≡ bracket_says kept.kinds xs rows k all
  bracket_closed k all c h f = bracket_none (probe_of (get_or rows 0 0 / 8)) refl c h k all f

module _ (xs rows card : List ℕ) (kept : Kept) (k : Chosen) (i : ℕ) (m : Meaning) (o : Opened) where
  pub brackets_end : Brackets xs rows card kept k i m o 0 → (r : Bool) → r ≡ some_says m o.truth false → r ≡ bracket_says kept.kinds xs rows k (entries_of card)
  brackets_end inv r y = inv.answers false r (choosing_end (in_brackets kept.kinds xs rows (entries_of card)) k i m (value_of xs o) card kept (some_entry (in_brackets kept.kinds xs rows (entries_of card)) k i m (value_of xs o) (entries_of card)) inv.choosing) y

  module _ (n : ℕ) (inv : Brackets xs rows card kept k i m o (n + 1)) where
    abbrev says : ℕ → Bool
    says = in_brackets kept.kinds xs rows (entries_of card)

    abbrev answer : Bool
    answer = some_entry says k i m (value_of xs o) (entries_of card)

    pub brackets_room : n < 64
    brackets_room = choosing_room says k i m (value_of xs o) card kept answer n inv.choosing

    module _ (b : ℕ) (be : b ≡ (get_or kept.entries n none_kept).behind) where
      pub brackets_behind : OnChain card kept i b
      brackets_behind = chain_on card kept inv.choosing.keeps i n inv.choosing.on b be

      pub brackets_less : (a : ℕ) → FirstFrom (entry_counts k m (value_of xs o)) card kept i b a → a < n + 1
      brackets_less a f = omega (arith, f.less, chain_less card kept inv.choosing.keeps i n inv.choosing.on b be)

    module _ (q : ℕ) (qe : q ≡ (get_or kept.entries n none_kept).occurrence) (r : Bool)
        (y : r ≡ rows_say kept.kinds xs (chosen_of (Some q) (entries_of card)) (take (length rows - 1) (drop 1 rows))) where
      said : r ≡ says q
      said = occurrence_says_lem kept.kinds xs rows (entries_of card) q r y

      pub brackets_yes : (t : Bool) → r ≡ true → t ≡ some_says m o.truth true → t ≡ bracket_says kept.kinds xs rows k (entries_of card)
      brackets_yes t z g = inv.answers true t (choosing_yes says k i m (value_of xs o) card kept answer n inv.choosing q qe r said z) g

      pub brackets_next : (b : ℕ) → b ≡ (get_or kept.entries n none_kept).behind → (a : ℕ) → FirstFrom (entry_counts k m (value_of xs o)) card kept i b a → r ≡ false → Brackets xs rows card kept k i m o a
      brackets_next b be a f z = record { choosing = choosing_next says k i m (value_of xs o) card kept answer n inv.choosing q qe r said b be a f z; answers = inv.answers }
