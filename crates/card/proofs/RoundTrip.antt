-- A card is written and read back, and read and written back.
-- Assumes nothing.
use Rattle.std.specs.Prelude.{Ok}
use Prim.Native.Nat.{ℕ, ◌≤◌}
use native.Mathlib.Omega.{arith}
use mathlib.Core.Path.{◌≡◌, refl, ap, sym, ◌∙◌, subst}
use mathlib.Core.Bool.{Bool, true, false, false≢true}
use mathlib.Core.List.{List, ◌∷◌, ◌++◌, append_assoc}
use lib.ListN.{length, get_or, drop}
use Rattle.base.specs.Bytes.{Byte, Bytes}
use Rattle.base.specs.Lists.{All, all_cons}
use Rattle.base.specs.Parts.{part}
use Rattle.base.proofs.All.{all_map, all_every, all_both}
use Rattle.block.specs.Words.{word_bytes}
use Rattle.block.specs.Seal.{seal}
use Rattle.block.specs.Items.{has_marks, has_either, marks, join}
use Rattle.block.proofs.Contents.{Held, Written}
use Rattle.block.proofs.Words.{word-bytes, word-written, word_read, word_small}
use Rattle.block.proofs.Seal.{after, seal-body}
use Rattle.block.proofs.Readings.{reading_iff}
use Rattle.block.proofs.RoundTrip.{held, unmarked, written}
use Rattle.block.proofs.Items.{own_either}
use Rattle.card.specs.Card.{Entry, entry, record_number, entry_count, entries_of, read_card}
use Rattle.card.specs.Encode.{card_first, entry_bytes, card_body, encode_card, WellFormedEntry, WellFormedCard, ReadsAsCard}
use Rattle.card.proofs.Read.{card_length, card_held}

-- ---- an entry

entry_parts : (e : Entry) → (i o : ℕ) × (t : List ℕ) × (e ≡ entry i o t)
entry_parts e = (e.index, e.occurrence, e.text, refl)

first_marks : (w : Bool) → has_marks (card_first w) ≡ w
unfolding has_marks
first_marks true = refl
first_marks false = refl

first_byte : (w : Bool) → Byte (card_first w)
first_byte true = omega arith
first_byte false = omega arith

entry_spelt : (w : Bool) (i o : ℕ) (t : List ℕ) → entry_bytes w (entry i o t) ≡ i ∷ (marks w o ++ (length t ∷ t))
unfolding entry_bytes
entry_spelt w i o t = refl

entry-bytes : (w : Bool) (e : Entry) → WellFormedEntry w e → Bytes (entry_bytes w e)
unfolding entry_bytes
entry-bytes true e h = let n : Byte (length e.text) = omega (arith, h.size) in all_cons h.index (all_cons h.occurrence (all_cons n h.text))
entry-bytes false e h = let n : Byte (length e.text) = omega (arith, h.size) in all_cons h.index (all_cons n h.text)

entry_well_formed : (w : Bool) (e : Entry) → Bytes (entry_bytes w e) × (w ≡ false → e.occurrence ≡ 0) → WellFormedEntry w e
unfolding entry_bytes
entry_well_formed true e (all_cons i (all_cons o (all_cons n t)), z) = record { index = i; occurrence = o; plain = z; size = omega arith; text = t }
entry_well_formed false e (all_cons i (all_cons n t), z) =
    let none : e.occurrence ≡ 0 = z refl in
    record { index = i; occurrence = omega arith; plain = z; size = omega arith; text = t }

-- ---- written and read back

module _ (w : Bool) (n : ℕ) (es : List Entry) (h : WellFormedCard w n es) where
  -- what stands after byte 0
  encoded_rest : drop 1 (encode_card w n es) ≡ word_bytes n ++ ((length es ∷ join (entry_bytes w) es) ++ after (card_body w n es))
  unfolding encode_card card_body
  encoded_rest = ap (drop 1) (seal-body (card_body w n es)) ∙ append_assoc (word_bytes n) (length es ∷ join (entry_bytes w) es) (after (card_body w n es))

  encoded_number : record_number (encode_card w n es) ≡ n
  unfolding record_number
  encoded_number = word-written (encode_card w n es) 1 n ((length es ∷ join (entry_bytes w) es) ++ after (card_body w n es)) h.number encoded_rest

  encoded_first : get_or (encode_card w n es) 0 0 ≡ card_first w
  unfolding encode_card card_body
  encoded_first = ap (λ (l : List ℕ). get_or l 0 0) (seal-body (card_body w n es))

  encoded_held : Held entry (card_first w) 5 64 (encode_card w n es) es
  unfolding encode_card card_body word_bytes entry_parts
  encoded_held =
      held entry w (entry_bytes w) (entry_spelt w) entry_parts (card_first w) (word_bytes n) es 64 (omega arith) (first_byte w) (first_marks w)
      (all_map (λ e (k : WellFormedEntry w e). k.plain) h.entries) (word-bytes n)
      (record { few = h.count; each = all_map (entry-bytes w) h.entries; room = h.room; same = refl })

  -- a well-formed card that is written is read back
  pub encoded_card_reads : ReadsAsCard (encode_card w n es) w n es
  unfolding read_card entries_of entry_count
  encoded_card_reads =
      record {
        first = encoded_first;
        bytes = encoded_held.bytes;
        reading = (reading_iff (encode_card w n es) (has_either 0x43 0x44 5 64 (encode_card w n es))).1 (encoded_held.sealed, own_either (encode_card w n es) 0x43 0x44 5 64 w encoded_held.layout);
        number = encoded_number;
        entries = encoded_held.same;
      }

-- ---- read and written back

module _ (b : List ℕ) (h : Bytes b) (r : read_card b ≡ (Ok tt)) (w : Bool) (f : get_or b 0 0 ≡ card_first w) where
  read_held : Held entry (card_first w) 5 64 b (entries_of b)
  read_held = subst (λ (x : ℕ). Held entry x 5 64 b (entries_of b)) f (card_held b r h)

  read-written : Written (entry_bytes w) 64 (card_first w ∷ (part b 1 5 ++ (length (entries_of b) ∷ join (entry_bytes w) (entries_of b)))) b (entries_of b)
  read-written = written entry w (entry_bytes w) (entry_spelt w) b (card_first w) 5 64 (entries_of b) (omega arith) (omega arith) (first_marks w) read_held

  read_plain : All (λ (e : Entry). w ≡ false → e.occurrence ≡ 0) (entries_of b)
  read_plain = go w refl
    where
      go : (v : Bool) → w ≡ v → All (λ (e : Entry). v ≡ false → e.occurrence ≡ 0) (entries_of b)
      go true e = all_every (λ x k. absurd (false≢true (sym k))) (entries_of b)
      go false e = all_map (λ x k _. k) (unmarked entry w (entry_bytes w) (entry_spelt w) b (card_first w) 5 64 (entries_of b) (omega arith) (omega arith) (first_marks w) read_held e (λ x. x.occurrence ≡ 0) (λ t s. refl))

  body : card_first w ∷ (part b 1 5 ++ (length (entries_of b) ∷ join (entry_bytes w) (entries_of b))) ≡ card_body w (record_number b) (entries_of b)
  unfolding card_body record_number
  body = ap (λ (l : List ℕ). card_first w ∷ (l ++ (length (entries_of b) ∷ join (entry_bytes w) (entries_of b)))) (sym (word_read b 1 h (omega (arith, card_length b r))))

  pub card_well_formed : WellFormedCard w (record_number b) (entries_of b)
  unfolding record_number
  card_well_formed =
      record {
        number = word_small b 1 h;
        count = read-written.few;
        entries = all_map (entry_well_formed w) (all_both read-written.each read_plain);
        room = subst (λ (l : List ℕ). length l ≤ 508) body read-written.room;
      }

  pub card_encoded : b ≡ encode_card w (record_number b) (entries_of b)
  unfolding encode_card
  card_encoded = read-written.same ∙ ap seal body
