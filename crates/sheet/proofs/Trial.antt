-- Document 01's trial sheet is well formed and reads as 01 says, by computation.
-- Assumes nothing.
use Prim.Native.Nat.{ℕ}
use mathlib.Core.Path.{◌≡◌, refl}
use mathlib.Core.Bool.{true, false}
use lib.Dec.{ltb}
use borrow.Author.Tests.{ltb-true}
use Rattle.base.specs.Digits.{is_digit}
use Rattle.base.specs.Lists.{every, equal}
use Rattle.base.specs.Between.{between}
use Rattle.base.specs.Names.{is_letter, is_name_start, is_name_part, is_reserved, is_name}
use Rattle.base.proofs.All.{all_map}
use Rattle.base.proofs.Lists.{every_all}
use Rattle.block.specs.Words.{word_bytes}
use Rattle.block.specs.Sum.{sum_from, check_sum}
use Rattle.base.specs.Parts.{padded}
use Rattle.block.specs.Seal.{check, seal}
use Rattle.block.specs.Items.{zeros, has_marks, length_at, next, mark_at, text_at, laid_out, has_layout, has_either, items, join}
use Rattle.block.specs.Readings.{reading}
use Rattle.sheet.specs.Sheet.{parameter_count, parameters_of, is_kind, is_parameter, are_parameters, clashes, absent, distinct, kind_at, has_parent, have_parents, are_right, sheet_layout, read_sheet}
use Rattle.sheet.specs.Encode.{parameter_bytes, sheet_body, encode_sheet, ReadsAsSheet}
use Rattle.sheet.specs.Trial.{trial_parameters, trial_sheet, bundle_parameters, bundle_sheet, stay_parameters, stay_sheet}

pub trial_sheet_encoded : encode_sheet false trial_parameters ≡ trial_sheet
unfolding trial_parameters trial_sheet encode_sheet sheet_body parameter_bytes seal padded sum_from word_bytes join
trial_sheet_encoded = refl

pub trial_sheet_reads : ReadsAsSheet trial_sheet false trial_parameters
unfolding trial_parameters trial_sheet read_sheet reading check check_sum sum_from sheet_layout has_either has_layout has_marks parameter_count laid_out zeros every next length_at mark_at parameters_of items text_at are_right are_parameters is_parameter is_kind between is_name is_name_start is_letter is_name_part is_digit is_reserved equal distinct absent clashes have_parents has_parent
trial_sheet_reads =
    record {
      first = refl;
      bytes = all_map (λ (x : ℕ). ltb-true x 256) (every_all (λ (x : ℕ). ltb x 256) trial_sheet refl);
      reading = refl;
      parameters = refl;
    }

-- so is the sheet with bundles

pub bundle_sheet_encoded : encode_sheet true bundle_parameters ≡ bundle_sheet
unfolding bundle_parameters bundle_sheet encode_sheet sheet_body parameter_bytes seal padded sum_from word_bytes join
bundle_sheet_encoded = refl

pub bundle_sheet_reads : ReadsAsSheet bundle_sheet true bundle_parameters
unfolding bundle_parameters bundle_sheet read_sheet reading check check_sum sum_from sheet_layout has_either has_layout has_marks parameter_count laid_out zeros every next length_at mark_at parameters_of items text_at are_right are_parameters is_parameter is_kind between is_name is_name_start is_letter is_name_part is_digit is_reserved equal distinct absent clashes have_parents has_parent kind_at
bundle_sheet_reads =
    record {
      first = refl;
      bytes = all_map (λ (x : ℕ). ltb-true x 256) (every_all (λ (x : ℕ). ltb x 256) bundle_sheet refl);
      reading = refl;
      parameters = refl;
    }

-- and the sheet with periods

pub stay_sheet_encoded : encode_sheet false stay_parameters ≡ stay_sheet
unfolding stay_parameters stay_sheet encode_sheet sheet_body parameter_bytes seal padded sum_from word_bytes join
stay_sheet_encoded = refl
