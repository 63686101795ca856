-- Spelling a text: a filter is measured and then written where there is room; what is no filter is answered by its failure.
-- The laws follow the operation: a text of the wrong size; a text that is no filter, for which crate place has the refusal; else a filter.
-- Its plain spelling is no longer than the text (`never_longer`), so a buffer of 1,024 bytes has room to measure it. It is then written
-- into the caller's part where that has room (`place_text`), and else it is refused, with the length as the place (`too_long`). Both times
-- the spelling of the one tree that the reader gives is written (`TextSpelt`), so the length measured is that of what is written then.
-- Assumes nothing.
use Rattle.std.specs.Prelude.{Err, Ok, Result, ⊤}
use Prim.Native.Nat.{ℕ, ◌+◌, ◌-◌, ◌≤◌, ◌<◌}
use native.Mathlib.Omega.{arith}
use mathlib.Core.Path.{◌≡◌, refl, sym, ap, ◌∙◌}
use mathlib.Core.Bool.{Bool, true, false, ◌||◌}
use mathlib.Core.Option.{Option, none, some, none-ne-some, some-injective}
use mathlib.Core.List.{List, [], append-nil}
use lib.Dec.{eqb, leb, ltb}
use lib.ListN.{length, drop, length-drop, drop_of_length-le}
use lib.Seq.{take_all, drop-drop}
use borrow.Author.Tests.{eq-eqb, ne_eqb, lt-ltb, le-ltb, le-leb, lt-leb, leb-true, leb-false}
use Rattle.base.specs.Runs.{RunEnd}
use Rattle.base.proofs.Tests.{same_test}
use Rattle.syntax.specs.Tree.{Tree}
use Rattle.syntax.specs.Grammar.{Spells, round, deepest, most_tests}
use Rattle.syntax.specs.Scan.{is_space, skip_at}
use Rattle.syntax.specs.Reader.{Parsed, parsed, unparsed, filter_at, whole, read}
use Rattle.syntax.proofs.Whole.{whole_kept}
use Rattle.syntax.proofs.Spelling.{read_iff}
use Rattle.place.specs.Machine.{found}
use Rattle.refusal.specs.declared.Reason.{Reason}
use Rattle.refusal.specs.declared.Refusal.{Refusal}
use Rattle.place.proofs.Whole.{found_filter, found_failed}
use Rattle.plain.specs.Plain.{plain}
use Rattle.spell.specs.Walks.{RoomFor, Spelt}
use Rattle.spell.specs.Spelling.{wrong_size, placed, outcome, put, bytes, SpellsInto, IsFilter, TextRoom, TextSpelt, TextLength, PlacedInto}
use Rattle.spell.specs.declared.Written.{Written}
use Rattle.plain.proofs.Length.{never_longer}
use Rattle.base.proofs.Writing.{lent, back}
use Rattle.spell.proofs.Walking.{same_tree}

-- ---- the text's filter, from its first byte that is no space

read_parsed : (xs : List ℕ) (f : Tree) → read xs ≡ some f → (q : ℕ) × (filter_at deepest xs round (skip_at xs 0) ≡ parsed q f)
unfolding read
read_parsed xs f e = go (filter_at deepest xs round (skip_at xs 0)) refl e
  where
    go : (r : Parsed) → filter_at deepest xs round (skip_at xs 0) ≡ r → whole xs r ≡ some f → (q : ℕ) × (filter_at deepest xs round (skip_at xs 0) ≡ parsed q f)
    go (parsed q g) k h = (q, k ∙ ap (parsed q) (whole_kept xs q g f h).same)
    go unparsed k h = absurd (none-ne-some _ h)

module _ (xs : List ℕ) (p : ℕ) (s : RunEnd is_space xs 0 p) where
  here : filter_at deepest xs round p ≡ filter_at deepest xs round (skip_at xs 0)
  here = ap (filter_at deepest xs round) s.is

  module _ (out : List ℕ) (r : TextRoom xs out) where
    pub text_room : RoomFor plain (filter_at deepest xs round p) out
    text_room = let q = read_parsed xs r.tree r.reads in record { end = q.0; tree = r.tree; reads = here ∙ q.1; room = r.room }

    pub text_spelt : {exit : List ℕ} {w : Written} → Spelt plain (filter_at deepest xs round p) out exit w → TextSpelt xs out exit w.length
    text_spelt t =
        let q = read_parsed xs r.tree r.reads in
        let e : r.tree ≡ t.tree = same_tree (sym q.1 ∙ sym here ∙ t.reads) in
        record { tree = t.tree; reads = r.reads ∙ ap some e; puts = t.puts }

-- ---- measuring

module _ (xs out : List ℕ) (f : IsFilter xs) (n : length xs ≤ length out) where
  pub measure_room : TextRoom xs out
  measure_room = record { tree = f.tree; reads = f.reads; room = record { fits = omega (arith, never_longer xs f.tree ((read_iff xs f.tree).0 f.reads)) } }

pub measure_long : (xs out exit : List ℕ) (n : ℕ) → TextSpelt xs out exit n → TextLength xs n
measure_long xs out exit n s = record { tree = s.tree; reads = s.reads; long = s.puts.long }

-- ---- placing

pub room_past : (size from n : ℕ) → size < from → false ≡ leb (from + n) size
room_past size from n h = sym (lt-leb (from + n) size (omega arith))

pub room_left : (size from n : ℕ) → from ≤ size → leb n (size - from) ≡ leb (from + n) size
room_left size from n h = same_test (leb n (size - from)) (leb (from + n) size) (λ k. le-leb (from + n) size (omega (arith, leb-true n (size - from) k))) (λ k. le-leb n (size - from) (omega (arith, leb-true (from + n) size k)))

module _ (xs buffer : List ℕ) (from n : ℕ) (t : TextLength xs n) where
  too_long : length buffer < from + n → PlacedInto xs buffer from (Err (record { reason = Reason.ShortBuffer; place = n })) buffer
  unfolding placed put
  too_long h =
      let z : leb (from + length (plain t.tree)) (length buffer) ≡ false = lt-leb (from + length (plain t.tree)) (length buffer) (omega (arith, t.long)) in
      record { tree = t.tree; reads = t.reads; answers = rw (z, t.long); bytes_are = rw z }

  pub place_past : (r : Bool) → r ≡ leb (from + n) (length buffer) → r ≡ false → PlacedInto xs buffer from (Err (record { reason = Reason.ShortBuffer; place = n })) buffer
  place_past r e h = too_long (leb-false (from + n) (length buffer) (sym e ∙ h))

  module _ (r : Bool) (e : r ≡ leb (from + n) (length buffer)) (g : r ≡ true) where
    room : from + n ≤ length buffer
    room = leb-true (from + n) (length buffer) (sym e ∙ g)

    pub place_within : from ≤ length buffer
    place_within = omega (arith, room)

    lent_long : length (lent buffer from) ≡ length buffer - from
    lent_long = ap length (take_all (length buffer - from) (drop from buffer) (omega (arith, length-drop from buffer))) ∙ length-drop from buffer

    pub place_room : TextRoom xs (lent buffer from)
    place_room = record { tree = t.tree; reads = t.reads; room = record { fits = omega (arith, lent_long, room, t.long) } }

    pub place_text : {exit : List ℕ} {m : ℕ} → TextSpelt xs (lent buffer from) exit m → PlacedInto xs buffer from (Ok m) (back buffer from exit)
    unfolding placed put
    place_text {exit} {m} s =
        let same : t.tree ≡ s.tree = some-injective _ _ (sym t.reads ∙ s.reads) in
        let long : m ≡ length (plain s.tree) = s.puts.long in
        let fits : from + length (plain s.tree) ≤ length buffer = omega (arith, room, t.long, ap (λ (x : Tree). length (plain x)) same) in
        let z : leb (from + length (plain s.tree)) (length buffer) ≡ true = le-leb (from + length (plain s.tree)) (length buffer) fits in
        let rest : drop m (lent buffer from) ≡ drop (from + length (plain s.tree)) buffer =
        ap (drop m) (take_all (length buffer - from) (drop from buffer) (omega (arith, length-drop from buffer))) ∙ drop-drop m from buffer ∙ ap (λ (x : ℕ). drop (from + x) buffer) long in
        let none_after : drop (length buffer - from) (drop from buffer) ≡ [] = drop_of_length-le (drop from buffer) {i = length buffer - from} (omega (arith, length-drop from buffer)) in
        record {
          tree = s.tree;
          reads = s.reads;
          answers = rw (z, long);
          bytes_are = rw (z, none_after, append-nil, s.puts.bytes, rest);
        }

-- ---- the whole

module _ (text buffer : List ℕ) (from : ℕ) where
  pub spell_wrong : (eqb (length text) 0 || ltb 1024 (length text)) ≡ true → SpellsInto text buffer from wrong_size buffer
  unfolding outcome bytes
  spell_wrong e = record { answers = rw e; bytes_are = rw e }

  module _ (right_size : (eqb (length text) 0 || ltb 1024 (length text)) ≡ false) where
    module _ (r : Result ⊤ Refusal) (e : r ≡ found deepest most_tests text) where
      pub spell_failed : (p : Refusal) → r ≡ Err p → SpellsInto text buffer from (Err p) buffer
      unfolding outcome bytes
      spell_failed p h =
          let w = found_failed text r e p h in
          let m : read text ≡ none = not_read (read text) refl w.0 in
          record { answers = rw (right_size, m) (ap (λ (x : Refusal). Err x) w.1); bytes_are = rw (right_size, m) }
        where
          not_read : (o : Option Tree) → read text ≡ o → ((f : Tree) → Spells text f → ⊥) → read text ≡ none
          not_read (some f) k z = absurd (z f ((read_iff text f).0 k))
          not_read none k z = k

    pub spell_placed : {o : Result ℕ Refusal} {exit : List ℕ} → PlacedInto text buffer from o exit → SpellsInto text buffer from o exit
    unfolding outcome bytes
    spell_placed p = record { answers = p.answers ∙ rw (right_size, p.reads); bytes_are = p.bytes_are ∙ rw (right_size, p.reads) }

pub found_is : (text : List ℕ) (r : Result ⊤ Refusal) → r ≡ found deepest most_tests text → r ≡ (Ok tt) → IsFilter text
found_is text r e h = let s = found_filter text r e h in record { tree = s.0; reads = (read_iff text s.0).1 s.1 }
