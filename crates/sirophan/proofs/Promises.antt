-- The promises, grouped by the letter's demands; each is proved where its one line says. The contracts of check, match_card and select say
-- that the code answers as check_answer, match_answer and select_answer do, and leaves the list as select_cells says, and those of match_by_text
-- and select_by the same; that of spell, that it answers as spell_answer does, and leaves the buffer as spell_bytes says. Assumes nothing.
use Rattle.std.specs.Prelude.{Result, Some, None, Ok}
use Prim.Native.Nat.{ℕ, ◌+◌, ◌*◌, ◌-◌, ◌≤◌, ◌<◌}
use Prim.Native.Char.{code}
use mathlib.Core.Path.{◌≡◌, sym, ◌∙◌}
use mathlib.Core.Bool.{Bool, true}
use mathlib.Core.Logic.{◌↔◌, ◌⊎◌}
use mathlib.Core.Option.{some}
use mathlib.Core.List.{List, [], ◌∷◌, ◌++◌, map, Memᴰ}
use lib.ListN.{length, get_or}
use lib.IntN.{pos, neg_ℤ}
use Rattle.base.specs.Ascii.{ascii}
use Rattle.base.specs.Bytes.{Bytes}
use Rattle.base.specs.Lists.{All, member}
use Rattle.base.specs.Split.{Without, first_of, split}
use Rattle.text.specs.Bar.{bar}
use Rattle.text.specs.Fold.{fold_text, Folded, two_bytes, small_letter}
use Rattle.text.specs.Compare.{same, starts, ends, contains}
use Rattle.text.proofs.Folded as folded
use Rattle.text.proofs.Readings as texts
use Rattle.number.specs.Reading.{value_from}
use Rattle.number.specs.Reading as numbers-text
use Rattle.number.specs.Spelling as number-spelling
use Rattle.number.proofs.Spelling as number-reading
use Rattle.date.specs.Texts as date-texts
use Rattle.date.specs.Spelling as date-spelling
use Rattle.date.proofs.Spelling as date-reading
use Rattle.date.specs.Spans.{year_date, month_date, day_date}
use Rattle.date.specs.Succession.{next_month, next_day}
use Rattle.date.proofs.Succession as succession
use Rattle.period.specs.Texts as period-texts
use Rattle.period.specs.Spelling as period-spelling
use Rattle.period.proofs.Spelling as period-reading
use Rattle.token.specs.Card.{Token, card_token}
use Rattle.token.specs.Filter.{Form, filter_form}
use Rattle.token.specs.Spelling.{CardSpells, FilterSpells}
use Rattle.token.specs.Rules.{Asks}
use Rattle.token.specs.Match.{matches}
use Rattle.token.specs.Split.{fold_parts}
use Rattle.token.proofs.Readings as tokens
use Rattle.token.proofs.Split as token-split-law
use Rattle.block.specs.Sum.{check_sum}
use Rattle.judge.specs.Faults.{unsupported}
use Rattle.base.specs.Operators.{operator_words, eq, ne, co, sw, ew, gt, lt, ge, le, ap, sa, eb, pr, po, ss, sb, «in», ni, re}
use Rattle.sheet.specs.Sheet.{Parameter, read_sheet}
use Rattle.sheet.specs.Encode.{encode_sheet, WellFormedSheet, SheetForm, SheetBlock, ReadsAsSheet}
use Rattle.sheet.specs.Trial.{trial_parameters, trial_sheet, bundle_sheet, stay_sheet}
use Rattle.sheet.proofs.Sheets as sheets
use Rattle.card.specs.Card.{Entry, read_card}
use Rattle.card.specs.Encode.{encode_card, WellFormedCard, CardBlock, ReadsAsCard}
use Rattle.card.specs.Trial.{trial_card, bundle_card, stay_card}
use Rattle.card.proofs.Cards as cards
use Rattle.syntax.specs.Tree.{Test, Tree, test, tests_of, Rising}
use Rattle.syntax.specs.Grammar.{deepest, most_tests, Spells}
use Rattle.syntax.specs.Reader.{read}
use Rattle.syntax.proofs.Spelling as spelling
use Rattle.plain.specs.Plain.{plain}
use Rattle.plain.specs.Laws.{PlainSpelling, Determined}
use Rattle.plain.proofs.Length as lengths
use Rattle.plain.proofs.Shortest as shortest
use Rattle.place.specs.Begins.{Begins, Longest, Number}
use Rattle.place.proofs.Place as place
use Rattle.date.specs.Calendar.{leap_year, month_length, days_before_month}
use Rattle.date.specs.Arithmetic.{before_by_number}
use Rattle.date.proofs.Calendar as calendar
use Rattle.date.specs.Instants.{InRange}
use Rattle.date.specs.declared.Date.{Date}
use Rattle.period.specs.Instants.{Inhabited}
use Rattle.period.specs.declared.Period.{Period}
use Rattle.period.proofs.Relations as periods
use Rattle.number.specs.Value.{Bounded}
use Rattle.number.specs.Billionths as number-tests
use Rattle.number.specs.Range as ranges
use Rattle.number.specs.declared.Decimal.{Decimal}
use Rattle.number.proofs.Range as number-ranges
use Rattle.kind.specs.Readable.{card_readable, value_readable}
use Rattle.kind.specs.Relations.{dates_relate, relates_to}
use Rattle.kind.specs.Table.{has_meaning}
use Rattle.kind.specs.declared.Relation.{Relation}
use Rattle.refusal.proofs.Order as order
use Rattle.refusal.specs.Answers.{Answer, yes, no, count, refused, counted_answer, matched_answer}
use Rattle.kind.specs.declared.DateRelation.{DateRelation}
use Rattle.sirophan.specs.Operations.{Matches, SelectsInto}
use Rattle.answer.specs.Operations.{check_answer, filter_question, match_answer, select_answer, select_cells}
use Rattle.kind.specs.Rules.{ReadableOnCard, ReadableValue, HasOperator, DatesRelate, date_inside, RelatesTo}
use Rattle.judge.specs.Rules.{Conforms, FilterSays}
use Rattle.answer.specs.Verdicts.{Verdict}
use Rattle.answer.specs.Demand.{TestRules, Demand, Agree, FilterDemand, MeetsDemand}
use Rattle.answer.specs.Selection.{Run, matching_cards, matching_numbers, occurrences, bearing, SelectsByMatch, SelectAnswers}
use Rattle.refusal.specs.Order.{lines, numbers, rank, Decides}
use Rattle.answer.specs.Refusals.{CheckLine, MatchLine, SelectLine, SpellLine}
use Rattle.sirophan.specs.Spelling.{spell_answer, spell_bytes, SpellAnswers}
use Rattle.query.specs.Spelling.{ampersand, Special, Sign, Pieces, TextIs, SplitAt, NoPlainBar, Alternative, Query, PairAt, SpellsQuery}
use Rattle.query.specs.Lines.{BadPart, QueryLine}
use Rattle.query.specs.Reader.{is_special, cut_signs, split_of, accept_query}
use Rattle.query.proofs.Signs as query-signs
use Rattle.query.proofs.Alternatives as query-alternatives
use Rattle.query.proofs.Parts as query-parts
use Rattle.query.proofs.Lines as query-lines
use Rattle.search.specs.Asking.{TakesPrefix, Prefix, takes_prefix, prefixes}
use Rattle.search.proofs.Asking as asking
use Rattle.query.proofs.Reading as query-reading
use Rattle.refusal.specs.Steps.{found}
use Rattle.answer.specs.Searching.{check_search_answer, search_question, match_search_answer, select_search_answer, select_search_cells}
use Rattle.answer.specs.SearchDemand.{MeetsSearchDemand}
use Rattle.answer.specs.SearchRefusals.{CheckSearchLine, MatchSearchLine, SelectSearchLine}
use Rattle.sirophan.specs.SameQuestion.{SameQuestion, AnsweredAlike}
use Rattle.sirophan.proofs.SameQuestion as same_question
use Rattle.sirophan.proofs.SearchDemand as search-demand
use Rattle.answer.proofs.SearchTable as search-lines
use Rattle.sheet.specs.Find.{kinds_of, parents_of}
use Rattle.rows.specs.Expression.{Expression}
use Rattle.rows.specs.Cells.{encode, stated}
use Rattle.rows.specs.Good.{Fits, Good}
use Rattle.rows.specs.Shapes.{good}
use Rattle.rows.specs.Stated.{tree_of}
use Rattle.rows.proofs.Good as rows
use Rattle.rows.proofs.Stating as stating
use Rattle.answer.specs.Preparing.{prepare_answer, prepare_cells, judge_answer}
use Rattle.answer.specs.RowsRefusals.{PrepareLine, JudgeLine, PrepareAnswers, PreparesGood, MatchIs}
use Rattle.answer.proofs.RowsTable as rows-table
use Rattle.answer.proofs.RowsAnswered as rows-answered
use Rattle.sirophan.specs.Trial.{Row, trial_rows, bundle_rows, stay_rows, title_test, code_test}
use Rattle.sirophan.specs.Edges.{edge_card, edge_rows, empty_card, empty_rows}
use Rattle.sirophan.specs.Searches.{SearchRow, search_rows}
use Rattle.kind.proofs.Rules as rules
use Rattle.sirophan.proofs.Failing as failing
use Rattle.sirophan.proofs.Demand as demand
use Rattle.sirophan.proofs.Determinacy as determinacy
use Rattle.sirophan.proofs.Impossible as impossible
use Rattle.answer.proofs.Selection as selection
use Rattle.sirophan.proofs.Bounds as bounds
use Rattle.answer.proofs.CheckTable as check_table
use Rattle.answer.proofs.MatchTable as match_table
use Rattle.answer.proofs.SelectTable as select_table
use Rattle.answer.proofs.Answered as answered
use Rattle.sirophan.proofs.SpellTable as spell_table
use Rattle.sirophan.proofs.Spells as spell
use Rattle.sirophan.proofs.Operators as words
use Rattle.sirophan.proofs.Trial as trial
use Rattle.sirophan.proofs.Searches as searches
use Rattle.sirophan.specs.Seconds.{NotSupported, places_sum, TestIn, orders, among}
use Rattle.sirophan.proofs.Seconds as seconds
use Rattle.sirophan.specs.AnyList.{MatchIsAnywhere}
use Rattle.sirophan.proofs.AnyList as any-list
use Rattle.sirophan.specs.Stating.{States}
use Rattle.sirophan.proofs.Stating as states
use Rattle.sirophan.specs.Limits.{SpelledBy}
use Rattle.sirophan.proofs.Limits as limits
use Rattle.refusal.specs.declared.Refusal.{Refusal}

-- ---- demand 1: an answer or a refusal, and a refusal writes nothing

-- each operation is refused with a number and a place exactly where that line of the table holds and none before it does
pub check_refused : (sheet text : List ℕ) → Bytes sheet → (n p : ℕ) → (check_answer sheet text ≡ refused n p) ↔ Decides (CheckLine sheet text) n p
check_refused = check_table.check_table

pub match_refused : (sheet text card : List ℕ) → Bytes sheet → Bytes card → (n p : ℕ)
    → (match_answer sheet text card ≡ refused n p) ↔ Decides (MatchLine sheet text card) n p
match_refused = match_table.match_table

pub select_refused : (sheet text cards : List ℕ) (room : ℕ) → Bytes sheet → Bytes cards → (n p : ℕ)
    → (select_answer sheet text cards room ≡ refused n p) ↔ Decides (SelectLine sheet text cards room) n p
select_refused = select_table.select_table

pub spell_refused : (text : List ℕ) (from room n p : ℕ) → (spell_answer text from room ≡ refused n p) ↔ Decides (SpellLine text from room) n p
spell_refused = spell_table.spell_table

-- the lines decide in the order of the table; 02 gives 18 its rank in words
pub bundle_ranks_between : (rank 14 < rank 18) × (rank 18 < rank 15)
bundle_ranks_between = order.ranks_between

-- a text that is no filter is refused at the length of its longest beginning that also begins some filter within both limits, with the
-- number that the limits make it; there is one such length and one such number
pub no_filter_refused : (sheet text : List ℕ) → SheetBlock sheet → 1 ≤ length text → length text ≤ 1024 → ((f : Tree) → Spells text f → ⊥)
    → (n p : ℕ) → (check_answer sheet text ≡ refused n p) ↔ (Longest (Begins deepest most_tests) text p × Number deepest most_tests text p n)
no_filter_refused = failing.no_filter_refused

pub longest_unique : {P : List ℕ → Type 0} {text : List ℕ} {p q : ℕ} → Longest P text p → Longest P text q → p ≡ q
longest_unique = place.longest_unique

pub number_unique : {d m : ℕ} {text : List ℕ} {p n k : ℕ} → Number d m text p n → Number d m text p k → n ≡ k
number_unique = place.number_unique

pub refusal_keeps_list : (sheet text cards list : List ℕ) (n i : ℕ) → select_answer sheet text cards (length list) ≡ refused n i → select_cells sheet text cards list ≡ list
refusal_keeps_list sheet text = selection.refusal_keeps (filter_question sheet text) (selection.filter_number sheet text)

pub refusal_keeps_buffer : (text : List ℕ) (from : ℕ) (buffer : List ℕ) (n p : ℕ) → spell_answer text from (length buffer) ≡ refused n p → spell_bytes text from buffer ≡ buffer
refusal_keeps_buffer = spell.refusal_keeps_buffer

-- ---- demand 2: the answer is the meaning

-- what is read is what can be written, and what the grammar spells
pub sheet_read : (b : List ℕ) → (Bytes b × (read_sheet b ≡ (Ok tt))) ↔ SheetBlock b
sheet_read = sheets.sheet_iff

pub card-read : (b : List ℕ) → (Bytes b × (read_card b ≡ (Ok tt))) ↔ CardBlock b
card-read = cards.card_iff

-- and what is read of them is what was written
pub sheet_contents : (b : List ℕ) (marked : Bool) (ps : List Parameter) → ReadsAsSheet b marked ps ↔ (WellFormedSheet ps × SheetForm marked ps × (b ≡ encode_sheet marked ps))
sheet_contents = sheets.sheet_reads_iff

pub card-contents : (b : List ℕ) (marked : Bool) (n : ℕ) (es : List Entry) → ReadsAsCard b marked n es ↔ (WellFormedCard marked n es × (b ≡ encode_card marked n es))
card-contents = cards.card_reads_iff

-- the word of each operator stands at its number
pub operator_words_lem : map (λ (k : ℕ). get_or operator_words k []) (eq ∷ ne ∷ co ∷ sw ∷ ew ∷ gt ∷ lt ∷ ge ∷ le ∷ ap ∷ sa ∷ eb ∷ pr ∷ po ∷ ss ∷ sb ∷ «in» ∷ ni ∷ re ∷ [])
    ≡ map ascii ("eq" ∷ "ne" ∷ "co" ∷ "sw" ∷ "ew" ∷ "gt" ∷ "lt" ∷ "ge" ∷ "le" ∷ "ap" ∷ "sa" ∷ "eb" ∷ "pr" ∷ "po" ∷ "ss" ∷ "sb" ∷ "in" ∷ "ni" ∷ "re" ∷ [])
operator_words_lem = words.operator_words_lem

pub filter_read : (text : List ℕ) (f : Tree) → (read text ≡ some f) ↔ Spells text f
filter_read = spelling.read_iff

pub filter_unique : (text : List ℕ) (f g : Tree) → Spells text f → Spells text g → f ≡ g
filter_unique = spelling.spells_unique

-- the tests of a tree stand in the order of the text
pub tests_in_order : (text : List ℕ) (f : Tree) → Spells text f → Rising 0 (length text) (tests_of f)
tests_in_order = spelling.tests_rise

-- readable texts, operators with a meaning and relations are those of the rules
pub card_text_readable : (kind : ℕ) (t : List ℕ) → (card_readable kind t ≡ true) ↔ ReadableOnCard kind t
card_text_readable = rules.card_iff

pub value-readable : (kind : ℕ) (v : List ℕ) (operator : ℕ) → (value_readable operator kind v ≡ true) ↔ ReadableValue kind v operator
value-readable = rules.value_iff

pub operator-has_meaning : (kind operator : ℕ) → (has_meaning operator kind ≡ true) ↔ HasOperator kind operator
operator-has_meaning = rules.operator_iff

pub text_relates : (r : Relation) (x v : List ℕ) → (relates_to r x v ≡ true) ↔ RelatesTo r x v
text_relates = rules.relates_iff

-- a card's period, its date among them, and a filter's date: the test by their ends passes exactly where the relation holds by their
-- instants; what is read has an instant, a date its start
pub dates-relate : (i : Period) → Inhabited i → (f : Date) → InRange f f.start → (r : DateRelation) → (dates_relate r i f ≡ true) ↔ DatesRelate i f r
dates-relate = rules.date_iff

-- 02: "a stay open at an end is never eq"
pub open_never_eq : (i : Period) → Inhabited i → (f : Date) → InRange f f.start → (i.start ≡ None) ⊎ (i.end ≡ None) → DatesRelate i f DateRelation.Inside → ⊥
open_never_eq i has f first h (date_inside held) = periods.open_never_held i has f first h held

-- eq: the test of a card's number against a filter's passes exactly where every point of the card's range lies in the filter's; what is
-- read is Bounded
pub number_held : (i f : Decimal) → Bounded i → Bounded f → (number-tests.inside i f ≡ true) ↔ ranges.Held i f
number_held = number-ranges.inside_iff

-- the calendar: for each month of either kind of year, the arithmetic on its number gives the sum of the lengths before it
pub days_before_month_lem : (leap : Bool) (m : ℕ) → m ≤ 12 → before_by_number leap m ≡ days_before_month leap m
days_before_month_lem = calendar.days_before_month_lem

-- where check passes, match answers yes exactly where the filter says yes of the card, and no where it does not
pub match_verdict : (sheet text : List ℕ) (s : SheetBlock sheet) (f : Tree) → length text ≤ 1024 → Spells text f → check_answer sheet text ≡ count (length (tests_of f))
    → (card : List ℕ) (es : List Entry) → Conforms s.parameters card es → Verdict (FilterSays s.parameters 0 es f) (match_answer sheet text card)
match_verdict = demand.match_verdict

-- a selection lists the record numbers of the cards on which match answers yes, in card order
pub select_by_match : (sheet text cards list : List ℕ) (bs : List (List ℕ)) → Run cards bs
    → SelectsByMatch (match_answer sheet text) (select_answer sheet text cards (length list)) (select_cells sheet text cards list) list bs
select_by_match sheet text = selection.selects_by_match (filter_question sheet text) (selection.filter_number sheet text)

-- where no line of the table holds, it answers, and with these
pub select-answered : (sheet text cards list : List ℕ) → Bytes sheet → Bytes cards → (bs : List (List ℕ)) → Run cards bs
    → ((n p : ℕ) → SelectLine sheet text cards (length list) n p → ⊥)
    → SelectAnswers (match_answer sheet text) (select_answer sheet text cards (length list)) (select_cells sheet text cards list) list bs
select-answered = answered.select-answered

-- each as often as matching cards bear it
pub select-occurrences : (match : List ℕ → Answer) (bs : List (List ℕ)) (x : ℕ) → occurrences x (matching_numbers match bs) ≡ length (bearing x (matching_cards match bs))
select-occurrences = selection.matching-occurrences

-- what select answers is small: a count is no larger than the list, the place of a refused card no larger than the run
pub select_count_within : (sheet text cards list : List ℕ) (n : ℕ) → select_answer sheet text cards (length list) ≡ count n → n ≤ length list
select_count_within sheet text = bounds.count_within (filter_question sheet text) (selection.filter_number sheet text)

pub select_place_within : (sheet text cards list : List ℕ) (n p : ℕ) → select_answer sheet text cards (length list) ≡ refused n p → 21 ≤ n → n ≤ 23 → p < 128
select_place_within sheet text = bounds.place_within (filter_question sheet text) (selection.filter_number sheet text)

-- ---- 02: rows, which prepare writes and judge takes

-- each is refused with a number and a place exactly where that line holds and none before it does
pub prepare_refused : (sheet text : List ℕ) (room : ℕ) → Bytes sheet → (n p : ℕ) → (prepare_answer sheet text room ≡ refused n p) ↔ Decides (PrepareLine sheet text room) n p
prepare_refused = rows-table.prepare_table

pub judge_refused : (sheet text cells card : List ℕ) → Bytes sheet → Bytes card → (n p : ℕ)
    → (judge_answer sheet text cells card ≡ refused n p) ↔ Decides (JudgeLine sheet text cells card) n p
judge_refused = rows-table.judge_table

-- where no line holds prepare answers the cells of the filter's rows, and writes them before what the list held; a refusal keeps the list
pub prepare_answered : (sheet text : List ℕ) (s : SheetBlock sheet) (f : Tree) → length text ≤ 1024 → Spells text f → Bytes sheet → (list : List ℕ)
    → ((n p : ℕ) → PrepareLine sheet text (length list) n p → ⊥) → PrepareAnswers sheet text list s.parameters f
prepare_answered = rows-answered.prepare_answered

pub prepare_keeps_list : (sheet text list : List ℕ) (n p : ℕ) → prepare_answer sheet text (length list) ≡ refused n p → prepare_cells sheet text list ≡ list
prepare_keeps_list = rows-answered.prepare_keeps

-- neither its answer nor the place of 34 is over 1,024
pub prepare_within : (sheet text list : List ℕ) → Bytes sheet
    → ((n : ℕ) → prepare_answer sheet text (length list) ≡ count n → n ≤ 1024) × ((p : ℕ) → prepare_answer sheet text (length list) ≡ refused 34 p → p ≤ 1024)
prepare_within = rows-answered.prepare_within

-- the rows that it writes are good, and state the filter
pub prepare_good : (sheet text : List ℕ) (s : SheetBlock sheet) (f : Tree) → length text ≤ 1024 → Spells text f → (list : List ℕ) (n : ℕ)
    → prepare_answer sheet text (length list) ≡ count n → PreparesGood sheet text list s.parameters f n
prepare_good = rows-answered.prepares_good

-- the test for good rows passes exactly where they are good; what cells state has them for its rows; good rows are those of one expression
pub rows_good : (ps : List Parameter) → WellFormedSheet ps → (text cells : List ℕ) → (good (kinds_of ps) (parents_of ps) text cells ≡ true) ↔ Good ps text cells
rows_good = rows.good_iff

pub rows_state_one : (cells : List ℕ) (e : Expression) → stated cells ≡ some e → cells ≡ encode e
rows_state_one = stating.stated-cells

pub good_rows_state_one : (ps : List Parameter) → WellFormedSheet ps → (text cells : List ℕ) (g h : Good ps text cells) → g.expression ≡ h.expression
good_rows_state_one ps w text cells = states.good_one ps text w

-- what they state, by the sheet and the text: names, values, joins, nots and brackets, so that tree_of need not be believed
pub good_rows_state : (ps : List Parameter) (text cells : List ℕ) (g : Good ps text cells) → States ps text g.expression (tree_of ps text g.expression)
good_rows_state ps text cells = states.good_state ps text

-- both limits, by texts: what good rows state is spelled within them, by its plain spelling; and what some text spells within them, and whose
-- tests fit, has good rows, so that Nests need not be believed
pub good_rows_spelled : (ps : List Parameter) → WellFormedSheet ps → (text cells : List ℕ) (g : Good ps text cells) → SpelledBy ps text g.expression (plain (tree_of ps text g.expression))
good_rows_spelled ps w text cells = limits.good_spelled ps text w

pub spelled_rows_good : (ps : List Parameter) (text spelling : List ℕ) (e : Expression) → SpelledBy ps text e spelling → Fits ps text 0 e → (g : Good ps text (encode e)) × (g.expression ≡ e)
spelled_rows_good ps text spelling e = limits.spelled_good ps text e spelling

-- judge answers the meaning of what good rows state, on each conforming card
pub judge_answered : (sheet text cells : List ℕ) (s : SheetBlock sheet) → 1 ≤ length text → length text ≤ 1024 → (g : Good s.parameters text cells) (card : List ℕ) (es : List Entry)
    → Conforms s.parameters card es → Verdict (FilterSays s.parameters 0 es (tree_of s.parameters text g.expression)) (judge_answer sheet text cells card)
judge_answered = rows-answered.judge_answered

-- match is the two after each other
pub match_is : (sheet text card list : List ℕ) → Bytes sheet → 1024 ≤ length list → MatchIs sheet text card list
match_is = rows-answered.match_is

-- and so for a caller who lends just enough: on whichever list prepare answers, or refuses for another reason than its length
pub match_is_anywhere : (sheet text card list : List ℕ) → Bytes sheet → MatchIsAnywhere sheet text card list
match_is_anywhere = any-list.match_anywhere

-- 02: "neither gives 34 or 40": no number of match or select is over 30
pub match_number-within : (sheet text card : List ℕ) (n p : ℕ) → match_answer sheet text card ≡ refused n p → n ≤ 30
match_number-within = any-list.match_number

pub select-number-within : (sheet text cards : List ℕ) (room n p : ℕ) → select_answer sheet text cards room ≡ refused n p → n ≤ 30
select-number-within = any-list.select-number

-- ---- 02: two engines

-- match_card goes by rows and match_by_text by the filter's text, and both have match's contract: on every input they give the same answer,
-- refusals and places included; select_by has select's contract for either engine, and so gives the same answer and leaves the same list
pub engines_match_alike : (sheet text card : List ℕ) (by_rows by-text : Result Bool Refusal) → Matches sheet text card by_rows → Matches sheet text card by-text → matched_answer by_rows ≡ matched_answer by-text
engines_match_alike sheet text card by_rows by-text r t = r.answers ∙ sym t.answers

pub engines_select-alike : (sheet text cards list : List ℕ) (by_rows by-text : Result ℕ Refusal) (rows-exit text-exit : List ℕ) → SelectsInto sheet text cards list by_rows rows-exit
    → SelectsInto sheet text cards list by-text text-exit → (counted_answer by_rows ≡ counted_answer by-text) × (rows-exit ≡ text-exit)
engines_select-alike sheet text cards list by_rows by-text rows-exit text-exit r t = (r.answers ∙ sym t.answers, r.cells ∙ sym t.cells)

-- ---- demand 3: what check passes and what it refuses

pub check_and_match : MeetsDemand check_answer match_answer
check_and_match = demand.demand_met

-- nothing is left free, whatever the kind of test
pub demand_determines : {T : Type 0} (rules : TestRules T) (tests : List T) (Says : List Entry → Type 0) (check check' : Answer) (match match' : List ℕ → Answer)
    → Demand rules tests Says check match → Demand rules tests Says check' match' → Agree rules tests check check' match match'
demand_determines = determinacy.demand_determines

-- two filters for the trial sheet: `title co "BOOK"`, with a meaning on every conforming card, and `code gt 5`, without
pub title_filter : Spells (ascii "title co \"BOOK\"") (test title_test)
title_filter = impossible.title_spelled

pub code_filter : Spells (ascii "code gt 5") (test code_test)
code_filter = impossible.code_spelled

-- they shut out: a check that refuses everything, a count made up, a check that passes everything, a match that refuses everything,
-- one that says yes to all, and one that answers no where there is no meaning
pub check_never_refuses_all : (n p : ℕ) (match : List ℕ → Answer) → FilterDemand trial_parameters (test title_test) (refused n p) match → ⊥
check_never_refuses_all = impossible.check_refuses_all

pub check_never_miscounts : (n : ℕ) → (n ≡ 1 → ⊥) → (match : List ℕ → Answer) → FilterDemand trial_parameters (test title_test) (count n) match → ⊥
check_never_miscounts = impossible.check_miscounts

pub check_never_passes_all : (n : ℕ) (match : List ℕ → Answer) → FilterDemand trial_parameters (test code_test) (count n) match → ⊥
check_never_passes_all = impossible.check-passes_all

pub match_never_refuses_all : (n p : ℕ) (check : Answer) → FilterDemand trial_parameters (test title_test) check (λ card. refused n p) → ⊥
match_never_refuses_all = impossible.match_refuses_all

pub match_never_says_yes_to_all : (check : Answer) → FilterDemand trial_parameters (test title_test) check (λ card. yes) → ⊥
match_never_says_yes_to_all = impossible.match_says_yes

pub match_never_says_no_without_meaning : (check : Answer) → FilterDemand trial_parameters (test code_test) check (λ card. no) → ⊥
match_never_says_no_without_meaning = impossible.match_says_no

-- ---- the plain spelling (02 [5])

-- it is read back as the same filter, spelled again it stays, two filters get the same bytes exactly when they are the same, it is never
-- longer than its source, and a source as short is the plain spelling itself
pub plain-spelling : PlainSpelling plain
plain-spelling = shortest.plain-spelling

-- nothing is left free
pub plain_determined : Determined
plain_determined = lengths.determined

-- spell puts it into the buffer wherever there is room
pub spell_answered : (text : List ℕ) (from : ℕ) (buffer : List ℕ) (f : Tree) → length text ≤ 1024 → Spells text f → from + length (plain f) ≤ length buffer → SpellAnswers (plain f) text from buffer
spell_answered = spell.spell_answered

-- ---- search strings (02 [13])

-- a string is read as a query exactly where it spells it, and there is at most one
pub query_read : (text : List ℕ) (q : Query) → (accept_query text ≡ found q) ↔ SpellsQuery text q
query_read = query-reading.query_read

-- the rules of spelling in 02's words: the bytes that a backslash makes plain, the alternatives that commas give, where a token is split
pub special_bytes : (b : ℕ) → (is_special b ≡ true) ↔ Special b
special_bytes = query-signs.special_iff

pub alternatives_cut : (v : List Sign) (ws : List (List Sign)) → (cut_signs v ≡ ws) ↔ Pieces v ws
alternatives_cut = query-alternatives.pieces_iff

pub token-split : (w : List Sign) (i : ℕ) → (split_of w ≡ i) ↔ SplitAt w i
token-split = query-alternatives.split_iff

-- without a bar behind a backslash it is split at the first bar of its text
pub split-first-bar : {w : List Sign} {t : List ℕ} {i : ℕ} → TextIs w t → SplitAt w i → NoPlainBar w → i ≡ first_of bar t
split-first-bar = query-alternatives.split-first-bar

-- the prefixes by their words, and the kinds that take one
pub prefix_words : (k : ℕ) (w : List ℕ) → ((member k prefixes ≡ true) × (w ≡ get_or operator_words k [])) ↔ Prefix k w
prefix_words = asking.prefix_iff

pub prefix_kinds : (kind : ℕ) → (takes_prefix kind ≡ true) ↔ TakesPrefix kind
prefix_kinds = asking.takes_iff

-- a string which none of 10, 50 and 51 refuses spells a query; a part is no pair exactly where it has no "=" or a % that no two hex digits
-- follow, and 50 is the line of such a part
pub unrefused_spells : (text : List ℕ) → ((n p : ℕ) → QueryLine text n p → ⊥) → (q : Query) × SpellsQuery text q
unrefused_spells = query-lines.unrefused_spells

pub no_pair : (at : ℕ) (s : List ℕ) → Without ampersand s → ((a : List Alternative) → PairAt at s a → ⊥) ↔ BadPart s
no_pair = query-parts.part_iff

pub query_unique : (text : List ℕ) (q r : Query) → SpellsQuery text q → SpellsQuery text r → q ≡ r
query_unique = query-reading.query_unique

-- demand 1: each operation is refused exactly where a line of its table decides
pub check_search_refused : (sheet text : List ℕ) → Bytes sheet → (n p : ℕ) → (check_search_answer sheet text ≡ refused n p) ↔ Decides (CheckSearchLine sheet text) n p
check_search_refused = search-lines.check_search_table

pub match_search_refused : (sheet text card : List ℕ) → Bytes sheet → Bytes card → (n p : ℕ)
    → (match_search_answer sheet text card ≡ refused n p) ↔ Decides (MatchSearchLine sheet text card) n p
match_search_refused = search-lines.match_search_table

pub select_search_refused : (sheet text cards : List ℕ) (room : ℕ) → Bytes sheet → Bytes cards → (n p : ℕ)
    → (select_search_answer sheet text cards room ≡ refused n p) ↔ Decides (SelectSearchLine sheet text cards room) n p
select_search_refused = search-lines.select_search_table

pub search_refusal_keeps_list : (sheet text cards list : List ℕ) (n i : ℕ) → select_search_answer sheet text cards (length list) ≡ refused n i → select_search_cells sheet text cards list ≡ list
search_refusal_keeps_list sheet text = selection.refusal_keeps (search_question sheet text) (search-lines.search_number sheet text)

-- demand 2: a selection lists the record numbers of the cards on which match answers yes, in card order; where no line holds, it answers
pub select_search_by_match : (sheet text cards list : List ℕ) (bs : List (List ℕ)) → Run cards bs
    → SelectsByMatch (match_search_answer sheet text) (select_search_answer sheet text cards (length list)) (select_search_cells sheet text cards list) list bs
select_search_by_match sheet text = selection.selects_by_match (search_question sheet text) (search-lines.search_number sheet text)

pub select_search_answered : (sheet text cards list : List ℕ) → Bytes sheet → Bytes cards → (bs : List (List ℕ)) → Run cards bs
    → ((n p : ℕ) → SelectSearchLine sheet text cards (length list) n p → ⊥)
    → SelectAnswers (match_search_answer sheet text) (select_search_answer sheet text cards (length list)) (select_search_cells sheet text cards list) list bs
select_search_answered = search-lines.select_search_answered

-- demand 3 over alternatives; that nothing is left free is demand-determines
pub check_and_match_search : MeetsSearchDemand check_search_answer match_search_answer
check_and_match_search = search-demand.search_demand_met

-- a filter that asks the same, in whichever order, and that check passes, is answered the same
pub search_as_filter : (sheet text query : List ℕ) (s : SheetBlock sheet) (f : Tree) (q : Query) → Spells text f → SpellsQuery query q → SameQuestion s.parameters q f
    → check_answer sheet text ≡ count (length (tests_of f)) → AnsweredAlike sheet query text
search_as_filter = same_question.same_question

-- ---- the trial card

pub trial_table : All (λ (r : Row). match_answer trial_sheet r.filter trial_card ≡ r.gives) trial_rows
trial_table = trial.trial_rows_lem

-- 02's filters over bundles, on a sheet with bundles and a card with occurrences
pub bundle_table : All (λ (r : Row). match_answer bundle_sheet r.filter bundle_card ≡ r.gives) bundle_rows
bundle_table = trial.bundle_rows_lem

-- 02's periods, on a sheet with periods and a card with open ends
pub period_table : All (λ (r : Row). match_answer stay_sheet r.filter stay_card ≡ r.gives) stay_rows
period_table = trial.stay_rows_lem

-- a card at the edges of the rules: escapes, short names, touching spans, half units, each operator by its word
pub edge_table : All (λ (r : Row). match_answer trial_sheet r.filter edge_card ≡ r.gives) edge_rows
edge_table = trial.edge_rows_lem

-- a card whose only text is empty
pub empty_text_table : All (λ (r : Row). match_answer trial_sheet r.filter empty_card ≡ r.gives) empty_rows
empty_text_table = trial.empty_rows_lem

-- search strings, each on its sheet and card
pub search_table : All (λ (r : SearchRow). match_search_answer r.sheet r.query r.card ≡ r.gives) search_rows
search_table = searches.search_rows_lem

-- ---- rules that statements and code share, said a second time

-- the five words that are not supported
pub unsupported_words : (k : ℕ) (w : List ℕ) → ((unsupported k ≡ true) × (w ≡ get_or operator_words k [])) ↔ NotSupported k w
unsupported_words = seconds.unsupported_iff

-- a number's digits by their last: the digits before it ten times, and it
pub digits_by_the_last : (value_from 0 [] ≡ 0) × ((s : List ℕ) (x : ℕ) → value_from 0 (s ++ (x ∷ [])) ≡ value_from 0 s * 10 + (x - code "0"))
digits_by_the_last = (seconds.no_digit, seconds.last_digit)

-- the check sum over the places
pub check_sum_places : (b : List ℕ) → check_sum b ≡ places_sum 508 b
check_sum_places = seconds.check_sum_places

-- the tests of a filter are those of its tree, each with its path; that they are in order, an outer one before its inner ones, and none
-- twice is tests-in-order
pub tests_of_the_tree : (f : Tree) (t : Test) → Memᴰ t (tests_of f) ↔ TestIn f t
tests_of_the_tree = seconds.tests_iff

-- the one list of lines has the lines of each operation in that operation's order
pub refusal_orders : All (λ (o : List (List ℕ)). among (numbers o) lines ≡ o) orders
refusal_orders = seconds.orders_kept

-- ---- the leaves

-- texts
pub text_folded : (s t : List ℕ) → (fold_text s ≡ t) ↔ Folded s t
text_folded = folded.fold_text_iff

pub letter_folded : (c : ℕ) → 128 ≤ c → c < 2048 → fold_text (two_bytes c) ≡ two_bytes (small_letter c)
letter_folded = folded.letter_small

pub texts_same : (a b : List ℕ) → (same a b ≡ true) ↔ (fold_text a ≡ fold_text b)
texts_same = texts.same_iff

pub text_starts : (a b : List ℕ) → (starts a b ≡ true) ↔ ((q : List ℕ) × (fold_text a ≡ fold_text b ++ q))
text_starts = texts.starts_iff

pub text_ends : (a b : List ℕ) → (ends a b ≡ true) ↔ ((p : List ℕ) × (fold_text a ≡ p ++ fold_text b))
text_ends = texts.ends_iff

pub text_contains : (a b : List ℕ) → (contains a b ≡ true) ↔ ((p : List ℕ) × (q : List ℕ) × (fold_text a ≡ p ++ (fold_text b ++ q)))
text_contains = texts.contains_iff

-- numbers, dates and periods
pub number_read : (s : List ℕ) (d : Decimal) → (numbers-text.read s ≡ Some d) ↔ number-spelling.Spells s d
number_read = number-reading.read_iff

pub date-read : (s : List ℕ) (d : Date) → (date-texts.read s ≡ Some d) ↔ date-spelling.Spells s d
date-read = date-reading.read_iff

pub date_unique : {s : List ℕ} {d e : Date} → date-spelling.Spells s d → date-spelling.Spells s e → d ≡ e
date_unique = date-reading.spells_unique

pub period-read : (t : List ℕ) (p : Period) → (period-texts.read t ≡ Some p) ↔ period-spelling.Spells t p
period-read = period-reading.read_iff

pub period_unique : {t : List ℕ} {p q : Period} → period-spelling.Spells t p → period-spelling.Spells t q → p ≡ q
period_unique = period-reading.spells_unique

-- the days follow each other without gap, by the Gregorian rule, from 0001-01-01 to the end of 9999
pub next_year : (y : ℕ) → 1 ≤ y → (year_date (y + 1)).start ≡ (year_date y).end
next_year = succession.next_year

pub next_month_lem : (y m : ℕ) → 1 ≤ y → m ≤ 12 → (month_date (next_month y m).year (next_month y m).month).start ≡ (month_date y m).end
next_month_lem = succession.next_month_lem

pub next_day_lem : (y m d : ℕ) → 1 ≤ y → m ≤ 12 → 1 ≤ d → d ≤ month_length (leap_year y) m → (day_date (next_day y m d).year (next_day y m d).month (next_day y m d).day).start ≡ (day_date y m d).end
next_day_lem = succession.next_day_lem

pub calendar_starts : (day_date 1 1 1).start ≡ neg_ℤ (pos 62135596800)
calendar_starts = succession.calendar_starts

pub calendar_ends : (year_date 9999).end ≡ pos 253402300800
calendar_ends = succession.calendar_ends

-- tokens
pub token-on-card : (t : List ℕ) (k : Token) → (card_token t ≡ some k) ↔ CardSpells t k
token-on-card = tokens.card_token_iff

pub token_in_filter : (t : List ℕ) (f : Form) → (filter_form t ≡ some f) ↔ FilterSpells t f
token_in_filter = tokens.filter_form_iff

pub token_asked : (card filter : List ℕ) → (matches card filter ≡ true) ↔ ((k : Token) × (f : Form) × CardSpells card k × FilterSpells filter f × Asks f k)
token_asked = tokens.matches_iff

pub token_folded : (t : List ℕ) → split bar (fold_text t) ≡ fold_parts (split bar t)
token_folded = token-split-law.split_folded
