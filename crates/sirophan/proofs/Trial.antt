-- Document 01's trial card, a card with occurrences and one with periods: match gives what the tables say, over the bytes of sheets and cards.
-- Assumes nothing.
use Prim.Native.Nat.{ℕ}
use mathlib.Core.Path.{◌≡◌, refl}
use mathlib.Core.List.{List, map}
use Rattle.base.specs.Lists.{All, every, equal, member}
use Rattle.base.specs.Affixes.{has_prefix, has_suffix, has_infix}
use Rattle.base.specs.Digits.{is_digit}
use Rattle.base.specs.Between.{between}
use Rattle.base.specs.Names.{is_letter, is_name_start, is_name_part, is_reserved, is_name}
use Rattle.base.specs.Operators.{operator_words}
use Rattle.base.specs.Runs.{run, run_end}
use Rattle.base.proofs.All.{all_same}
use Rattle.text.specs.Fold.{is_capital, is_accented, fold_byte, fold_from, fold_text}
use Rattle.text.specs.Compare as texts
use Rattle.base.specs.Split.{split}
use Rattle.number.specs.Reading as numbers
use Rattle.number.specs.Value as number
use Rattle.number.specs.Billionths as billionths
use Rattle.date.specs.Fields as fields
use Rattle.date.specs.Calendar as calendar
use Rattle.date.specs.Spans as spans
use Rattle.date.specs.Texts as dates
use Rattle.period.specs.Relations as period
use Rattle.period.specs.Texts as periods
use Rattle.token.specs.Card as tokens
use Rattle.token.specs.Filter as forms
use Rattle.token.specs.Namespace.{stands_for, namespace_of, system_of}
use Rattle.token.specs.Match as token
use Rattle.block.specs.Sum.{sum_from, check_sum}
use Rattle.block.specs.Seal as block
use Rattle.block.specs.Items.{zeros, has_marks, length_at, next, mark_at, text_at, laid_out, has_layout, has_either, items}
use Rattle.block.specs.Readings.{reading}
use Rattle.sheet.specs.Sheet.{parameter_count, parameters_of, is_kind, is_parameter, are_parameters, clashes, absent, distinct, kind_at, has_parent, have_parents, are_right, sheet_layout, read_sheet}
use Rattle.sheet.specs.Find.{find_from, find, enter}
use Rattle.sheet.specs.Trial.{trial_sheet, bundle_sheet, stay_sheet}
use Rattle.card.specs.Card.{entry_count, entries_of, read_card}
use Rattle.card.specs.Trial.{trial_card, bundle_card, stay_card}
use Rattle.syntax.specs.Tree.{tests_of}
use Rattle.syntax.specs.Fold.{fold_tree}
use Rattle.syntax.specs.Strings.{is_bare, is_escape, unescaped}
use Rattle.syntax.specs.Scan.{decode, step_of, string_from, string_at, value_at, follows, find_operator, operator_at, test_value, test_operator, test_at, open_at, choice_at, head_at, member_at, connective_at, close_at, member_after}
use Rattle.syntax.specs.Reader.{chain_of, filter_of, item_at, filter_at, read}
use Rattle.place.specs.Machine as machine
use Rattle.kind.specs.Table as table
use Rattle.kind.specs.Readable as kind
use Rattle.kind.specs.Relations.{strings_relate, numbers_relate, dates_relate, relates_to}
use Rattle.judge.specs.Sets.{lookup, values_at, of_occurrence, keep, entry_conforms, conforms}
use Rattle.judge.specs.Faults.{unsupported, kind_fault, test_fault, first_fault}
use Rattle.judge.specs.Verdicts.{some_value, is_empty, says_of, test_says, filter_says}
use Rattle.refusal.specs.Answers.{Answer}
use Rattle.answer.specs.Operations.{accept_sheet, accept_filter, tests_step, accept_inputs, accept_card, match_by, filter_question, match_answer}
use Rattle.sirophan.specs.Edges.{edge_card, edge_rows, empty_card, empty_rows}
use Rattle.sirophan.specs.Trial.{Row, trial_rows, bundle_rows, stay_rows}

-- what match gives for each row of a table, on a sheet and a card
abbrev given : List ℕ → List ℕ → List Row → List Answer
given sheet card = map (λ (r : Row). match_answer sheet r.filter card)

abbrev stated : List Row → List Answer
stated = map (λ (r : Row). r.gives)

computed : (given trial_sheet trial_card trial_rows ≡ stated trial_rows) × (given bundle_sheet bundle_card bundle_rows ≡ stated bundle_rows) × (given stay_sheet stay_card stay_rows ≡ stated stay_rows) × (given trial_sheet edge_card edge_rows ≡ stated edge_rows) × (given trial_sheet empty_card empty_rows ≡ stated empty_rows)
unfolding trial_rows trial_sheet trial_card match_by filter_question accept_card accept_inputs machine.failure machine.failure_from machine.step machine.begins_operator machine.is_operator machine.some_word tests_step accept_filter accept_sheet filter_says fold_tree test_says says_of is_empty some_value first_fault test_fault kind_fault unsupported conforms entry_conforms values_at lookup relates_to dates_relate numbers_relate strings_relate kind.value_readable kind.is_true kind.filter_readable kind.card_readable table.has_meaning table.meaning_of table.row_meaning table.relation_in table.row table.token_row table.date_row table.number_row table.string_row read filter_at item_at filter_of chain_of close_at connective_at head_at choice_at member_after member_at open_at test_at test_operator test_value operator_at find_operator follows value_at string_at string_from step_of is_bare tests_of read_card entries_of entry_count find find_from read_sheet sheet_layout are_right have_parents has_parent kind_at distinct absent clashes are_parameters is_parameter is_kind parameters_of parameter_count reading items has_either has_layout laid_out text_at mark_at next length_at has_marks zeros block.check check_sum sum_from token.matches token.meets token.asks system_of namespace_of stands_for forms.filter_readable forms.filter_form forms.split_form tokens.card_readable tokens.card_token tokens.split_token tokens.token_of split dates.readable dates.read dates.read_year dates.read_month dates.field_at dates.four_at dates.two_at dates.pair dates.digit_of spans.month_date spans.year_date spans.days_from spans.date_of spans.instant spans.epoch calendar.day_number calendar.days_of_years calendar.days_before_month calendar.month_length calendar.year_length calendar.leap_year fields.valid_month billionths.inside billionths.billionths billionths.unit number.greater number.at_least number.covers number.half_unit number.exact_value number.plus number.is_at_most number.is_less numbers.readable numbers.read numbers.read_fraction numbers.value_from texts.same texts.contains fold_text fold_byte run_end run operator_words is_name is_reserved is_name_part is_name_start is_letter between is_digit has_infix has_prefix member equal every bundle_rows bundle_sheet bundle_card of_occurrence keep enter kind.is_false table.reference_row table.kinds table.of_kind period.starts_before period.starts_no_later period.ends_after period.ends_no_earlier period.inside period.later_or_inside period.earlier_or_inside period.overlaps period.covers periods.readable periods.read_span periods.span_or periods.read periods.read_parts periods.open_start periods.open_end periods.both_ends periods.from_to periods.known stay_rows stay_sheet stay_card fold_from is_capital is_accented edge_rows edge_card decode unescaped is_escape texts.starts texts.ends has_suffix number.less number.at_most empty_rows empty_card
computed = (refl, refl, refl, refl, refl)

-- each row of a table that is computed so gives what it says
rows_give : (sheet card : List ℕ) (rows : List Row) → given sheet card rows ≡ stated rows → All (λ (r : Row). match_answer sheet r.filter card ≡ r.gives) rows
rows_give sheet card rows = all_same (λ (r : Row). match_answer sheet r.filter card) (λ (r : Row). r.gives) rows

pub trial_rows_lem : All (λ (r : Row). match_answer trial_sheet r.filter trial_card ≡ r.gives) trial_rows
trial_rows_lem = rows_give trial_sheet trial_card trial_rows computed.0

-- the sheet with bundles and the card with occurrences
pub bundle_rows_lem : All (λ (r : Row). match_answer bundle_sheet r.filter bundle_card ≡ r.gives) bundle_rows
bundle_rows_lem = rows_give bundle_sheet bundle_card bundle_rows computed.1

-- the sheet and the card with periods
pub stay_rows_lem : All (λ (r : Row). match_answer stay_sheet r.filter stay_card ≡ r.gives) stay_rows
stay_rows_lem = rows_give stay_sheet stay_card stay_rows computed.2

-- the card at the edges of the rules
pub edge_rows_lem : All (λ (r : Row). match_answer trial_sheet r.filter edge_card ≡ r.gives) edge_rows
edge_rows_lem = rows_give trial_sheet edge_card edge_rows computed.3

-- the card with an empty text
pub empty_rows_lem : All (λ (r : Row). match_answer trial_sheet r.filter empty_card ≡ r.gives) empty_rows
empty_rows_lem = rows_give trial_sheet empty_card empty_rows computed.4
