-- A card's entries read once: the entries so far are kept, and those to come decide.
-- The loop keeps `Progress`: the entries from e on are those that the walk has before it (`rest`), and the first e entries are kept
-- (`HoldsTo`). A turn takes one entry more (`progress_next`): it is the one just stored, and all others are as they were. A chain
-- begins at the last entry under its parameter; what stood there before stands behind it now (`Last`). Of a parameter whose entries are not
-- kept nothing changes but the number of entries (`holds_more`).
-- Assumes nothing.
use Rattle.std.specs.Prelude.{Ok}
use Prim.Native.Nat.{ℕ, ◌+◌, ◌≤◌, ◌<◌}
use native.Mathlib.Nat.{add-zero}
use native.Mathlib.Omega.{arith}
use mathlib.Core.Path.{◌≡◌, refl, ap, sym, ◌∙◌, subst}
use mathlib.Core.Bool.{Bool, true, false}
use mathlib.Core.List.{List, ◌∷◌}
use lib.Dec.{eqb}
use lib.ListN.{length, get_or, drop}
use lib.Seq.{get_or-drop, drop-drop}
use borrow.Author.Tests.{eqb-true, eqb-false}
use Rattle.base.specs.Parts.{part}
use Rattle.base.proofs.Tests.{both_ways}
use Rattle.block.specs.Walking.{Steps, made, coming}
use Rattle.block.specs.declared.walker.Walker.{Walker}
use Rattle.block.proofs.Items.{layout_count, items-length}
use Rattle.block.proofs.Walking.{step_first, step_stands, walked_next, walked_decides, walked_end}
use Rattle.card.specs.Card.{Entry, entry, entries_of, entry_count, read_card}
use Rattle.block.specs.declared.walker.Item.{Item}
use Rattle.card.proofs.Read.{card_layout}
use Rattle.kind.specs.Readable.{card_readable}
use Rattle.judge.specs.Sets.{conforms_to}
use Rattle.judge.proofs.Entries.{past_readable, conforms-next, conforms_not, conforms_end}
use Rattle.card_reader.specs.Readings.{Serves}
use Rattle.card_reader.specs.Lists.{Lent, none_kept, no_entry, Holds, Last, IsKept, HoldsTo, BeginsAlike, ReadsCard}
use Rattle.card_reader.specs.Storing.{Stored, Begun, TakesAs, Takes}
use Rattle.card_reader.specs.declared.Kept.{Kept}
use Rattle.card_reader.specs.declared.KeptEntry.{KeptEntry}
use Rattle.card_reader.specs.declared.TextReading.{TextReading}
use Rattle.card_reader.proofs.Storing.{stored_head, stored_heads, stored_entry, stored_others, stored_kept, stored_lent, stored_begins, begun_lent}

-- ---- chains

none_last : (es : List Entry) (i : ℕ) → Last es i 0 0
none_last es i = record { within = omega arith; under = λ e h. absurd (omega (arith, h)); others = λ e h k z. absurd (omega (arith, k)) }

module _ (es : List Entry) (e i : ℕ) (here : (get_or es e no_entry).index ≡ i) where
  last_here : Last es i (e + 1) (e + 1)
  last_here =
      record {
        within = omega arith;
        under = λ k h. let same : k ≡ e = omega (arith, h) in ap (λ (n : ℕ). (get_or es n no_entry).index) same ∙ here;
        others = λ k h z n. absurd (omega (arith, h, z));
      }

  last_other : (j c : ℕ) → (j ≡ i → ⊥) → Last es j e c → Last es j (e + 1) c
  last_other j c n l =
      record { within = omega (arith, l.within); under = l.under; others = λ k h z u. by_place k h z u (eqb k e) refl }
    where
      by_place : (k : ℕ) → c ≤ k → k < e + 1 → (get_or es k no_entry).index ≡ j → (t : Bool) → eqb k e ≡ t → ⊥
      by_place k h z u true q = n (sym u ∙ ap (λ (m : ℕ). (get_or es m no_entry).index) (eqb-true k e q) ∙ here)
      by_place k h z u false q = l.others k h (omega (arith, z, eqb-false k e q)) u

-- ---- one entry more, of a parameter whose entries are not kept

module _ (card : List ℕ) (es : List Entry) (kept : Kept) (e : ℕ) (w : HoldsTo card es kept e) (i : ℕ) (here : (get_or es e no_entry).index ≡ i) (low : i < 32) (not-kept : get_or kept.asked i false ≡ false) where
  -- an entry whose parameter is kept is none of the new ones
  before : (k : ℕ) → k < e + 1 → IsKept kept (get_or es k no_entry).index → k < e
  before k z h = by_place (eqb k e) refl
    where
      by_place : (t : Bool) → eqb k e ≡ t → k < e
      by_place true q =
          let same : (get_or es k no_entry).index ≡ i = ap (λ (m : ℕ). (get_or es m no_entry).index) (eqb-true k e q) ∙ here in
          both_ways (subst (IsKept kept) same h) not-kept
      by_place false q = omega (arith, z, eqb-false k e q)

  holds_more : HoldsTo card es kept (e + 1)
  holds_more =
      record {
        low = λ k z. by_place k z (eqb k e) refl;
        each = λ k z h. w.each k (before k z h) h;
        heads = λ j z h. last_other es e i here j (get_or kept.last j 0) (λ same. both_ways (subst (IsKept kept) same h) not-kept) (w.heads j z h);
        behind = λ k z h. w.behind k (before k z h) h;
      }
    where
      by_place : (k : ℕ) → k < e + 1 → (t : Bool) → eqb k e ≡ t → (get_or es k no_entry).index < 32
      by_place k z true q = subst (λ (n : ℕ). n < 32) (sym (ap (λ (m : ℕ). (get_or es m no_entry).index) (eqb-true k e q) ∙ here)) low
      by_place k z false q = w.low k (omega (arith, z, eqb-false k e q))

-- ---- one entry more, stored

module _ (e : ℕ) (x : Item) (h : TextReading) (old new : Kept) (st : Stored e x h old new) (lent : Lent old) (few : e < 64) (low : x.tag < 32) (kept : IsKept old x.tag) where
  module _ (card : List ℕ) (es : List Entry) (w : HoldsTo card es old e) (is : get_or es e no_entry ≡ made entry x) (text : x.text.now ≡ part card x.start (x.start + length x.text.now))
      (within : x.start + length x.text.now ≤ length card) (serves : Serves x.text.now h) where
    here : (get_or es e no_entry).index ≡ x.tag
    here = ap (λ (y : Entry). y.index) is

    other : (k : ℕ) → k < e → get_or new.entries k none_kept ≡ get_or old.entries k none_kept
    other k z = stored_others e x h old new st lent k (λ q. omega (arith, z, q))

    new_holds : Holds card (get_or new.entries e none_kept) (made entry x)
    new_holds =
        subst (λ (k : KeptEntry). Holds card k (made entry x)) (sym (stored_entry e x h old new st lent few))
        (record { occurrence = refl; order = omega arith; within = within; text = text; serves = serves })

    next_each : (k : ℕ) → k < e + 1 → IsKept new (get_or es k no_entry).index → Holds card (get_or new.entries k none_kept) (get_or es k no_entry)
    next_each k z y = by_place (eqb k e) refl
      where
        by_place : (b : Bool) → eqb k e ≡ b → Holds card (get_or new.entries k none_kept) (get_or es k no_entry)
        by_place true q = subst (λ (m : ℕ). Holds card (get_or new.entries m none_kept) (get_or es m no_entry)) (sym (eqb-true k e q)) (subst (Holds card (get_or new.entries e none_kept)) (sym is) new_holds)
        by_place false q =
            let z : k < e = omega (arith, z, eqb-false k e q) in
            subst (λ (o : KeptEntry). Holds card o (get_or es k no_entry)) (sym (other k z)) (w.each k z (stored_kept e x h old new st lent (get_or es k no_entry).index y))

    next_heads : (j : ℕ) → j < 32 → IsKept new j → Last es j (e + 1) (get_or new.last j 0)
    next_heads j z y = by_place (eqb j x.tag) refl
      where
        by_place : (b : Bool) → eqb j x.tag ≡ b → Last es j (e + 1) (get_or new.last j 0)
        by_place true q =
            subst (λ (m : ℕ). Last es m (e + 1) (get_or new.last m 0)) (sym (eqb-true j x.tag q))
            (subst (Last es x.tag (e + 1)) (sym (stored_head e x h old new st lent low)) (last_here es e x.tag here))
        by_place false q =
            subst (Last es j (e + 1)) (sym (stored_heads e x h old new st lent j (eqb-false j x.tag q)))
            (last_other es e x.tag here j (get_or old.last j 0) (eqb-false j x.tag q) (w.heads j z (stored_kept e x h old new st lent j y)))

    next-behind : (k : ℕ) → k < e + 1 → IsKept new (get_or es k no_entry).index → Last es (get_or es k no_entry).index k (get_or new.entries k none_kept).behind
    next-behind k z y = by_place (eqb k e) refl
      where
        by_place : (b : Bool) → eqb k e ≡ b → Last es (get_or es k no_entry).index k (get_or new.entries k none_kept).behind
        by_place true q =
            subst (λ (m : ℕ). Last es (get_or es m no_entry).index m (get_or new.entries m none_kept).behind) (sym (eqb-true k e q))
            (subst (λ (m : ℕ). Last es m e (get_or new.entries e none_kept).behind) (sym here)
            (subst (λ (o : KeptEntry). Last es x.tag e o.behind) (sym (stored_entry e x h old new st lent few)) (w.heads x.tag low kept)))
        by_place false q =
            let z : k < e = omega (arith, z, eqb-false k e q) in
            subst (λ (o : KeptEntry). Last es (get_or es k no_entry).index k o.behind) (sym (other k z))
            (w.behind k z (stored_kept e x h old new st lent (get_or es k no_entry).index y))

    next_low : (k : ℕ) → k < e + 1 → (get_or es k no_entry).index < 32
    next_low k z = by_place (eqb k e) refl
      where
        by_place : (b : Bool) → eqb k e ≡ b → (get_or es k no_entry).index < 32
        by_place true q = subst (λ (n : ℕ). n < 32) (sym (ap (λ (m : ℕ). (get_or es m no_entry).index) (eqb-true k e q) ∙ here)) low
        by_place false q = w.low k (omega (arith, z, eqb-false k e q))

    holds_stored : HoldsTo card es new (e + 1)
    holds_stored = record { low = next_low; each = next_each; heads = next_heads; behind = next-behind }

-- ---- the text of an entry is read

module _ (kinds : List ℕ) (e : ℕ) (x : Item) (old : Kept) (lent : Lent old) (i : ℕ) (same : i ≡ x.tag) where
  pub takes_past : length kinds ≡ 32 → 32 ≤ i → Takes kinds e x old old false
  takes_past l p = record { answer = past_readable kinds x.tag x.text.now (omega (arith, l, p, same)); lent = lent; begins = record { kinds_are = refl; asked_are = refl }; adds = λ y. both_ways y refl }

  module _ (low : i < 32) (kind : ℕ) (k : kind ≡ get_or kinds i 0) where
    own_kind : kind ≡ get_or kinds x.tag 0
    own_kind = k ∙ ap (λ (n : ℕ). get_or kinds n 0) same

    pub takes_over : get_or old.asked i false ≡ false → (r : Bool) → r ≡ card_readable kind x.text.now → Takes kinds e x old old r
    takes_over n r y =
        record {
          answer = y ∙ ap (λ (m : ℕ). card_readable m x.text.now) own_kind;
          lent = lent;
          begins = record { kinds_are = refl; asked_are = refl };
          adds = λ _ card es w is text within.
              holds_more card es old e w x.tag (ap (λ (z : Entry). z.index) is) (omega (arith, low, same)) (subst (λ (j : ℕ). get_or old.asked j false ≡ false) same n);
        }

    pub takes_as : get_or old.asked i false ≡ true → e < 64 → (m : ℕ) → kind ≡ m → (new : Kept) (r : Bool) → TakesAs m e x old new r → Takes kinds e x old new r
    takes_as n few m own new r a = by_answer r refl
      where
        answer : r ≡ card_readable (get_or kinds x.tag 0) x.text.now
        answer = a.answer ∙ ap (λ (q : ℕ). card_readable q x.text.now) (sym own ∙ own_kind)

        by_answer : (b : Bool) → r ≡ b → Takes kinds e x old new r
        by_answer true y =
            let h : TextReading = (a.stored y).0 in
            let st : Stored e x h old new = (a.stored y).1.1 in
            record {
              answer = answer;
              lent = stored_lent e x h old new st lent;
              begins = stored_begins e x h old new st lent;
              adds = λ _ card es w is text within.
                  holds_stored e x h old new st lent few (omega (arith, low, same)) (subst (IsKept old) same n) card es w is text within (a.stored y).1.0;
            }
        by_answer false f =
            record {
              answer = answer;
              lent = subst Lent (sym (a.stays f)) lent;
              begins = record { kinds_are = ap (λ (q : Kept). q.kinds) (a.stays f); asked_are = ap (λ (q : Kept). q.asked) (a.stays f) };
              adds = λ y. both_ways y f;
            }

-- ---- the loop

pub record Progress (kinds card : List ℕ) (before kept : Kept) (s : Walker) (e : ℕ) : Type 0 where
  pub block : s.block.now ≡ card
  pub decides : conforms_to kinds (coming entry s) ≡ conforms_to kinds (entries_of card)
  pub rest : drop e (entries_of card) ≡ coming entry s
  pub count : e + s.left ≡ entry_count card
  pub few : entry_count card ≤ 64
  pub lent : Lent kept
  pub begins : BeginsAlike before kept
  pub holds : HoldsTo card (entries_of card) kept e

pub card_few : (card : List ℕ) → read_card card ≡ (Ok tt) → entry_count card ≤ 64
unfolding entry_count
card_few card h = layout_count card (get_or card 0 0) 5 64 (card_layout card h)

entries_counted : (card : List ℕ) → length (entries_of card) ≡ entry_count card
unfolding entries_of
entries_counted card = items-length entry (entry_count card) card 6

pub progress_start : (kinds card : List ℕ) (before kept : Kept) (s : Walker) → read_card card ≡ (Ok tt) → s.block.now ≡ card → coming entry s ≡ entries_of card → Lent before → Begun before kept → Progress kinds card kept kept s 0
progress_start kinds card before kept s h same all w b =
    record {
      block = same;
      decides = ap (conforms_to kinds) all;
      rest = sym all;
      count = omega (arith, items-length entry s.left s.block.now s.at, ap (λ (es : List Entry). length es) all, entries_counted card);
      few = card_few card h;
      lent = begun_lent before kept w b;
      begins = record { kinds_are = refl; asked_are = refl };
      holds = record {
        low = λ k z. absurd (omega (arith, z));
        each = λ k z y. absurd (omega (arith, z));
        heads = λ i z y. subst (Last (entries_of card) i 0) (sym (b.front i z)) (none_last (entries_of card) i);
        behind = λ k z y. absurd (omega (arith, z));
      };
    }

-- the entry at e, and those behind it
module _ (es : List Entry) (e : ℕ) (x : Entry) (xs : List Entry) (h : drop e es ≡ x ∷ xs) where
  entry_here : get_or es e no_entry ≡ x
  entry_here = rw (add-zero e) at (sym (get_or-drop e es 0 no_entry) ∙ ap (λ (l : List Entry). get_or l 0 no_entry) h)

  entries_behind : drop (e + 1) es ≡ xs
  entries_behind = sym (drop-drop 1 e es) ∙ ap (drop 1) h

module _ (kinds card : List ℕ) (begun kept : Kept) (s : Walker) (e : ℕ) (inv : Progress kinds card begun kept s e) where
  -- since the card was begun with
  alike : (before : Kept) → Begun before begun → {after : Kept} → BeginsAlike begun after → BeginsAlike before after
  alike before b {after} a = record { kinds_are = a.kinds_are ∙ b.kinds_are; asked_are = a.asked_are ∙ b.asked_are }

  module _ (x : Item) (t : Walker) (st : Steps s x t) (n : ℕ) (same : n ≡ e) where
    pub progress_room : n < 64
    progress_room = omega (arith, inv.count, inv.few, st.some, same)

    pub progress_within : x.start + length x.text.now ≤ 508
    progress_within = (step_stands s x t st s.walk).within

    module _ (after : Kept) (r : Bool) (tk : Takes kinds n x kept after r) where
      from-here : drop n (entries_of card) ≡ made entry x ∷ coming entry t
      from-here = rw same (inv.rest ∙ step_first entry s x t st)

      begins_still : BeginsAlike begun after
      begins_still = record { kinds_are = tk.begins.kinds_are ∙ inv.begins.kinds_are; asked_are = tk.begins.asked_are ∙ inv.begins.asked_are }

      pub progress_misfit : (before : Kept) → Begun before begun → r ≡ false → ReadsCard kinds card before after false
      progress_misfit before b f =
          record {
            answer = walked_decides entry (conforms_to kinds) _ s inv.decides x t st false (conforms_not kinds x.tag x.mark x.text.now (coming entry t) r tk.answer f);
            lent = tk.lent;
            begins = alike before b begins_still;
            keeps = λ y. both_ways y refl;
          }

      pub progress_next : r ≡ true → (m : ℕ) → m ≡ e + 1 → Progress kinds card begun after t m
      progress_next y m next =
          let p = step_stands s x t st s.walk in
          record {
            block = st.block ∙ inv.block;
            decides = walked_next entry (conforms_to kinds) _ s inv.decides x t st (conforms_to kinds) (conforms-next kinds x.tag x.mark x.text.now (coming entry t) r tk.answer y);
            rest = rw (next, sym same) (entries_behind (entries_of card) n (made entry x) (coming entry t) from-here);
            count = omega (arith, inv.count, st.some, st.left, next);
            few = inv.few;
            lent = tk.lent;
            begins = begins_still;
            holds = rw (next, sym same) (tk.adds y card (entries_of card) (rw same inv.holds) (entry_here (entries_of card) n (made entry x) (coming entry t) from-here) (subst (λ (b : List ℕ). x.text.now ≡ part b x.start (x.start + length x.text.now)) inv.block p.text) (omega (arith, p.within, p.size, ap (λ (b : List ℕ). length b) inv.block)));
          }

  pub progress_end : read_card card ≡ (Ok tt) → s.left ≡ 0 → (before : Kept) → Begun before begun → ReadsCard kinds card before kept true
  progress_end w h before b =
      let all : e ≡ entry_count card = omega (arith, inv.count, h) in
      record {
        answer = walked_end entry (conforms_to kinds) _ s inv.decides h true (conforms_end kinds);
        lent = inv.lent;
        begins = alike before b inv.begins;
        keeps = λ _.
            record {
              well_formed = w;
              lent = inv.lent;
              holds = subst (HoldsTo card (entries_of card) kept) all inv.holds;
            };
      }
