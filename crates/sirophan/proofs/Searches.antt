-- The table of search strings: match gives what its rows say, over the bytes of sheets and cards.
-- Assumes nothing.
use mathlib.Core.Path.{◌≡◌, refl}
use mathlib.Core.List.{map, flatten}
use Rattle.base.specs.Lists.{All, every, equal, member}
use Rattle.base.specs.Affixes.{has_prefix, has_suffix, has_infix}
use Rattle.base.specs.Digits.{is_digit}
use Rattle.base.specs.Between.{between}
use Rattle.base.specs.Names.{is_letter, is_name_start, is_name_part, is_reserved, is_name}
use Rattle.base.specs.Operators.{operator_words}
use Rattle.base.specs.Runs.{run, run_end}
use Rattle.base.proofs.All.{all_same}
use Rattle.text.specs.Fold.{is_capital, is_accented, fold_byte, fold_from, fold_text}
use Rattle.text.specs.Compare as texts
use Rattle.base.specs.Split.{split}
use Rattle.number.specs.Reading as numbers
use Rattle.number.specs.Value as number
use Rattle.number.specs.Billionths as billionths
use Rattle.date.specs.Fields as fields
use Rattle.date.specs.Calendar as calendar
use Rattle.date.specs.Spans as spans
use Rattle.date.specs.Texts as dates
use Rattle.period.specs.Relations as period
use Rattle.period.specs.Texts as periods
use Rattle.token.specs.Card as tokens
use Rattle.token.specs.Filter as forms
use Rattle.token.specs.Namespace.{stands_for, namespace_of, system_of}
use Rattle.token.specs.Match as token
use Rattle.block.specs.Sum.{sum_from, check_sum}
use Rattle.block.specs.Seal as block
use Rattle.block.specs.Items.{zeros, has_marks, length_at, next, mark_at, text_at, laid_out, has_layout, has_either, items}
use Rattle.block.specs.Readings.{reading}
use Rattle.sheet.specs.Sheet.{parameter_count, parameters_of, is_kind, is_parameter, are_parameters, clashes, absent, distinct, kind_at, has_parent, have_parents, are_right, sheet_layout, read_sheet}
use Rattle.sheet.specs.Find.{find_from, find}
use Rattle.sheet.specs.Trial.{trial_sheet, bundle_sheet, stay_sheet}
use Rattle.card.specs.Card.{entry_count, entries_of, read_card}
use Rattle.card.specs.Trial.{trial_card, bundle_card, stay_card}
use Rattle.kind.specs.Table as table
use Rattle.kind.specs.Readable as kind
use Rattle.kind.specs.Relations.{strings_relate, numbers_relate, dates_relate, relates_to}
use Rattle.judge.specs.Sets.{lookup, values_at, entry_conforms, conforms}
use Rattle.judge.specs.Faults.{unsupported, kind_fault}
use Rattle.judge.specs.Verdicts.{some_value, is_empty, says_of}
use Rattle.refusal.specs.Answers.{Answer}
use Rattle.answer.specs.Operations.{accept_sheet, accept_card, match_by}
use Rattle.token.specs.Split.{split_at}
use Rattle.query.specs.Reader.{hex_value, decoded, is_special, signs_of, cut_signs, text_of, split_of, read_pair, read_pairs, accept_query}
use Rattle.query.specs.Met.{pair_met, query_met}
use Rattle.search.specs.Asking.{takes_prefix, prefixed, asked_of}
use Rattle.search.specs.Meaning.{text_fault, alternative_fault, first_alternative_fault, text_says, alternative_says, query_says}
use Rattle.answer.specs.Searching.{alternatives_step, accept_query_inputs, search_question, match_search_answer}
use Rattle.sirophan.specs.Searches.{SearchRow, marked_card, search_rows}

abbrev given : SearchRow → Answer
given r = match_search_answer r.sheet r.query r.card

computed : map given search_rows ≡ map (λ (r : SearchRow). r.gives) search_rows
unfolding trial_sheet trial_card match_by accept_card accept_sheet says_of is_empty some_value kind_fault unsupported conforms entry_conforms values_at lookup relates_to dates_relate numbers_relate strings_relate kind.value_readable kind.is_true kind.filter_readable kind.card_readable table.has_meaning table.meaning_of table.row_meaning table.relation_in table.row table.token_row table.date_row table.number_row table.string_row read_card entries_of entry_count find find_from read_sheet sheet_layout are_right have_parents has_parent kind_at distinct absent clashes are_parameters is_parameter is_kind parameters_of parameter_count reading items has_either has_layout laid_out text_at mark_at next length_at has_marks zeros block.check check_sum sum_from token.matches token.meets token.asks system_of namespace_of stands_for forms.filter_readable forms.filter_form forms.split_form tokens.card_readable tokens.card_token tokens.split_token tokens.token_of split dates.readable dates.read dates.read_year dates.read_month dates.field_at dates.four_at dates.two_at dates.pair dates.digit_of spans.month_date spans.year_date spans.days_from spans.date_of spans.instant spans.epoch calendar.day_number calendar.days_of_years calendar.days_before_month calendar.month_length calendar.year_length calendar.leap_year fields.valid_month billionths.inside billionths.billionths billionths.unit number.greater number.at_least number.covers number.half_unit number.exact_value number.plus number.is_at_most number.is_less numbers.readable numbers.read numbers.read_fraction numbers.value_from texts.same texts.contains fold_text fold_byte run_end run operator_words is_name is_reserved is_name_part is_name_start is_letter between is_digit has_infix has_prefix member equal every bundle_sheet bundle_card kind.is_false table.reference_row table.kinds table.of_kind period.starts_before period.starts_no_later period.ends_after period.ends_no_earlier period.inside period.later_or_inside period.earlier_or_inside period.overlaps period.covers periods.readable periods.read_span periods.span_or periods.read periods.read_parts periods.open_start periods.open_end periods.both_ends periods.from_to periods.known stay_sheet stay_card fold_from is_capital is_accented texts.starts texts.ends has_suffix number.less number.at_most search_rows marked_card search_question accept_query_inputs alternatives_step query_says query_met pair_met alternative_says text_says asked_of prefixed takes_prefix first_alternative_fault alternative_fault text_fault accept_query read_pairs read_pair decoded hex_value signs_of is_special cut_signs text_of split_of token.matches_at forms.readable_at forms.form_at split_at flatten
computed = refl

pub search_rows_lem : All (λ (r : SearchRow). match_search_answer r.sheet r.query r.card ≡ r.gives) search_rows
search_rows_lem = all_same given (λ (r : SearchRow). r.gives) search_rows computed
