-- Document 01's trial card is well formed and reads as 01 says, by computation.
-- Assumes nothing.
use Prim.Native.Nat.{ℕ}
use mathlib.Core.Path.{◌≡◌, refl}
use mathlib.Core.Bool.{true, false}
use lib.Dec.{ltb}
use borrow.Author.Tests.{ltb-true}
use Rattle.base.specs.Lists.{every}
use Rattle.base.proofs.All.{all_map}
use Rattle.base.proofs.Lists.{every_all}
use Rattle.block.specs.Words.{word_bytes}
use Rattle.block.specs.Sum.{sum_from, check_sum}
use Rattle.base.specs.Parts.{padded}
use Rattle.block.specs.Seal.{check, seal}
use Rattle.block.specs.Items.{zeros, has_marks, length_at, next, mark_at, text_at, laid_out, has_layout, has_either, items, join}
use Rattle.block.specs.Readings.{reading}
use Rattle.card.specs.Card.{record_number, entry_count, entries_of, read_card}
use Rattle.card.specs.Encode.{entry_bytes, card_body, encode_card, ReadsAsCard}
use Rattle.card.specs.Trial.{trial_entries, trial_card, bundle_entries, bundle_card, stay_entries, stay_card}

pub trial-card_encoded : encode_card false 7 trial_entries ≡ trial_card
unfolding trial_entries trial_card encode_card card_body entry_bytes seal padded sum_from word_bytes join
trial-card_encoded = refl

pub trial-card_reads : ReadsAsCard trial_card false 7 trial_entries
unfolding trial_entries trial_card read_card reading check check_sum sum_from has_either has_layout entry_count laid_out zeros every next length_at has_marks mark_at record_number entries_of items text_at
trial-card_reads =
    record {
      first = refl;
      bytes = all_map (λ (x : ℕ). ltb-true x 256) (every_all (λ (x : ℕ). ltb x 256) trial_card refl);
      reading = refl;
      number = refl;
      entries = refl;
    }

-- so is the card with occurrences

pub bundle-card_encoded : encode_card true 8 bundle_entries ≡ bundle_card
unfolding bundle_entries bundle_card encode_card card_body entry_bytes seal padded sum_from word_bytes join
bundle-card_encoded = refl

pub bundle-card_reads : ReadsAsCard bundle_card true 8 bundle_entries
unfolding bundle_entries bundle_card read_card reading check check_sum sum_from has_either has_layout entry_count laid_out zeros every next length_at has_marks mark_at record_number entries_of items text_at
bundle-card_reads =
    record {
      first = refl;
      bytes = all_map (λ (x : ℕ). ltb-true x 256) (every_all (λ (x : ℕ). ltb x 256) bundle_card refl);
      reading = refl;
      number = refl;
      entries = refl;
    }

-- and the card with periods

pub stay_card_encoded : encode_card false 9 stay_entries ≡ stay_card
unfolding stay_entries stay_card encode_card card_body entry_bytes seal padded sum_from word_bytes join
stay_card_encoded = refl
