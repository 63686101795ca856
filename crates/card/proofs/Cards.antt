-- What a card is: the two ways to say it are one, and the cards that other layers need are there.
-- Assumes nothing.
use Rattle.std.specs.Prelude.{Ok}
use Prim.Native.Nat.{ℕ, ◌^◌, ◌≤◌, ◌<◌}
use native.Mathlib.Omega.{arith}
use mathlib.Core.Path.{◌≡◌, refl, sym, subst}
use mathlib.Core.Bool.{Bool, false}
use mathlib.Core.Logic.{◌↔◌}
use mathlib.Core.List.{List, [], ◌∷◌, append-nil}
use lib.ListN.{length}
use Rattle.base.specs.Bytes.{Bytes}
use Rattle.base.specs.Lists.{all_empty, all_cons}
use Rattle.block.specs.Words.{word_bytes}
use Rattle.block.specs.Items.{join}
use Rattle.card.specs.Card.{Entry, entry, record_number, entries_of, read_card}
use Rattle.card.specs.Encode.{entry_bytes, card_body, encode_card, WellFormedEntry, WellFormedCard, CardBlock, ReadsAsCard}
use Rattle.card.proofs.Read.{card_form}
use Rattle.card.proofs.RoundTrip.{encoded_card_reads, card_well_formed, card_encoded}

-- bytes read as a card exactly where the card is well formed and the bytes are its encoding
pub card_reads_iff : (b : List ℕ) (w : Bool) (n : ℕ) (es : List Entry) → ReadsAsCard b w n es ↔ (WellFormedCard w n es × (b ≡ encode_card w n es))
card_reads_iff b w n es = (there, back)
  where
    there : ReadsAsCard b w n es → WellFormedCard w n es × (b ≡ encode_card w n es)
    there r =
        let v = card_well_formed b r.bytes r.reading w r.first in
        let e = card_encoded b r.bytes r.reading w r.first in
        (rw (r.number, r.entries) at v, rw (r.number, r.entries) at e)

    back : WellFormedCard w n es × (b ≡ encode_card w n es) → ReadsAsCard b w n es
    back h = subst (λ (l : List ℕ). ReadsAsCard l w n es) (sym h.1) (encoded_card_reads w n es h.0)

-- bytes that read as well formed are a card of the form that their first byte tells
pub card_of_lem : (b : List ℕ) → Bytes b → read_card b ≡ (Ok tt) → CardBlock b
card_of_lem b h r =
    let f = card_form b r in
    record { marked = f.0; number = record_number b; entries = entries_of b; well_formed = card_well_formed b h r f.0 f.1; encoded = card_encoded b h r f.0 f.1 }

-- bytes read as well formed exactly where they are some card's
pub card_iff : (b : List ℕ) → (Bytes b × (read_card b ≡ (Ok tt))) ↔ CardBlock b
card_iff b = ((λ h. card_of_lem b h.0 h.1), back)
  where
    back : CardBlock b → Bytes b × (read_card b ≡ (Ok tt))
    back c =
        let r = (card_reads_iff b c.marked c.number c.entries).1 (c.well_formed, c.encoded) in
        (r.bytes, r.reading)

-- ---- cards that there are

module _ (n : ℕ) (h : n < 2 ^ 32) where
  -- the card with no entries
  pub empty_card_lem : WellFormedCard false n []
  unfolding card_body word_bytes join
  empty_card_lem = record { number = h; count = omega arith; entries = all_empty; room = omega arith }

  -- the card with one entry, whose text is short
  pub one_entry-card : (i : ℕ) (t : List ℕ) → i < 32 → length t ≤ 20 → Bytes t → WellFormedCard false n (entry i 0 t ∷ [])
  unfolding card_body word_bytes join entry_bytes
  one_entry-card i t hi ht hb =
      let e : WellFormedEntry false (entry i 0 t) = record { index = omega arith; occurrence = omega arith; plain = λ _. refl; size = omega arith; text = hb } in
      record { number = h; count = omega arith; entries = all_cons e all_empty; room = rw (append-nil t) (omega arith) }

  pub empty_card_reads : ReadsAsCard (encode_card false n []) false n []
  empty_card_reads = encoded_card_reads false n [] empty_card_lem

  pub one_entry-card_reads : (i : ℕ) (t : List ℕ) → i < 32 → length t ≤ 20 → Bytes t → ReadsAsCard (encode_card false n (entry i 0 t ∷ [])) false n (entry i 0 t ∷ [])
  one_entry-card_reads i t hi ht hb = encoded_card_reads false n (entry i 0 t ∷ []) (one_entry-card i t hi ht hb)
