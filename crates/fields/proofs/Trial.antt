-- Two cards beside the trial cards get the same answers as they do from every filter that uses only names under which they agree.
-- Match goes by the texts under the names used, for members with their occurrences, and by nothing else of a card (`match_same`). Under the
-- names listed each of the two cards has the same texts as its trial card, which is computed name by name (`date-alike`, `members_alike`).
-- So a filter that uses only these names is answered alike on both (`only_same`), whatever else differs. From a row of each trial table
-- follows the answer on the card beside (`date-row`, `relation_row`).
-- Assumes nothing.
use Prim.Native.Nat.{ℕ}
use mathlib.Core.Path.{◌≡◌, refl, sym, ◌∙◌, subst}
use mathlib.Core.Bool.{Bool, true, false}
use mathlib.Core.Option.{Option, none, some}
use mathlib.Core.List.{List, [], ◌∷◌, Memᴰ}
use lib.Dec.{ltb}
use borrow.Author.Tests.{ltb-true}
use Rattle.base.specs.Ascii.{ascii}
use Rattle.base.specs.Digits.{is_digit}
use Rattle.base.specs.Lists.{All, all_empty, all_cons, every, equal}
use Rattle.base.specs.Affixes.{has_prefix}
use Rattle.base.specs.Between.{between}
use Rattle.base.specs.Names.{is_letter, is_name_start, is_name_part, is_reserved, is_name}
use Rattle.base.specs.Operators.{operator_words}
use Rattle.base.specs.Runs.{run, run_end}
use Rattle.base.specs.Split.{split}
use Rattle.base.proofs.All.{all_map}
use Rattle.base.proofs.Lists.{every_all}
use Rattle.number.specs.Reading as numbers
use Rattle.date.specs.Fields as date-fields
use Rattle.date.specs.Texts as dates
use Rattle.token.specs.Card as tokens
use Rattle.block.specs.Words.{word_bytes}
use Rattle.block.specs.Sum.{sum_from, check_sum}
use Rattle.base.specs.Parts.{padded}
use Rattle.block.specs.Seal.{check, seal}
use Rattle.block.specs.Items.{zeros, has_marks, length_at, next, mark_at, text_at, laid_out, has_layout, has_either, items, join}
use Rattle.block.specs.Readings.{reading}
use Rattle.sheet.specs.Sheet.{Parameter, kind_at}
use Rattle.sheet.specs.Encode.{SheetBlock, ReadsAsSheet}
use Rattle.sheet.specs.Find.{found_at, find_from, find, enter}
use Rattle.sheet.specs.Trial.{trial_parameters, trial_sheet, bundle_parameters, bundle_sheet}
use Rattle.sheet.proofs.Sheets.{sheet_reads_iff}
use Rattle.sheet.proofs.Trial.{trial_sheet_reads, bundle_sheet_reads}
use Rattle.card.specs.Card.{Entry, record_number, entry_count, entries_of, read_card}
use Rattle.card.specs.Encode.{entry_bytes, card_body, encode_card, ReadsAsCard}
use Rattle.card.specs.Trial.{trial_entries, trial_card, bundle_entries, bundle_card}
use Rattle.card.proofs.Cards.{card_reads_iff}
use Rattle.card.proofs.Trial.{trial-card_reads, bundle-card_reads}
use Rattle.syntax.specs.Tree.{Path, name, member, Tree, tests_of}
use Rattle.syntax.specs.Strings.{is_bare}
use Rattle.syntax.specs.Scan.{step_of, string_from, string_at, value_at, follows, find_operator, operator_at, test_value, test_operator, test_at, open_at, choice_at, head_at, member_at, member_after, connective_at, close_at}
use Rattle.syntax.specs.Reader.{chain_of, filter_of, item_at, filter_at, read}
use Rattle.syntax.proofs.Spelling.{read_iff}
use Rattle.kind.specs.Table.{kinds, of_kind}
use Rattle.kind.specs.Readable.{card_readable}
use Rattle.judge.specs.Sets.{lookup, values_at, keep, entry_conforms, conforms}
use Rattle.judge.specs.Verdicts.{some_value}
use Rattle.judge.specs.Rules.{Conforms}
use Rattle.judge.proofs.Rules.{entries_iff}
use Rattle.refusal.specs.Answers.{yes}
use Rattle.answer.specs.Operations.{match_answer}
use Rattle.sirophan.specs.Trial.{row, trial_rows, bundle_rows}
use Rattle.sirophan.proofs.Trial.{trial_rows_lem, bundle_rows_lem}
use Rattle.fields.specs.Used.{names_of, SameUnder, UsesOnly}
use Rattle.fields.specs.Trial.{date_entries, date_card, date_names, relation_entries, relation_card, relation_names}
use Rattle.fields.proofs.Answers.{match_same}
use Rattle.fields.proofs.Comparing.{within, alike, marks_at, name_by, member_by_lem}

-- ---- sheets and cards

abbrev block_of : (b : List ℕ) (marked : Bool) (ps : List Parameter) → ReadsAsSheet b marked ps → SheetBlock b
block_of b marked ps r =
    let (w, f, e) = (sheet_reads_iff b marked ps).0 r in
    record { marked = marked; parameters = ps; well_formed = w; form = f; encoded = e }

conforms_by : (ps : List Parameter) (b : List ℕ) (marked : Bool) (n : ℕ) (es : List Entry) → ReadsAsCard b marked n es → conforms ps es ≡ true → Conforms ps b es
conforms_by ps b marked n es r h =
    let (w, e) = (card_reads_iff b marked n es).0 r in
    record { marked = marked; number = n; well_formed = w; encoded = e; entries = (entries_iff ps es).0 h }

date-card_reads : ReadsAsCard date_card true 300 date_entries
unfolding date_entries date_card encode_card card_body entry_bytes seal padded word_bytes join read_card reading check check_sum sum_from has_either has_layout entry_count laid_out zeros every next length_at has_marks mark_at record_number entries_of items text_at
date-card_reads =
    record { first = refl; bytes = all_map (λ (x : ℕ). ltb-true x 256) (every_all (λ (x : ℕ). ltb x 256) date_card refl); reading = refl; number = refl; entries = refl }

relation_card_reads : ReadsAsCard relation_card true 301 relation_entries
unfolding relation_entries relation_card encode_card card_body entry_bytes seal padded word_bytes join read_card reading check check_sum sum_from has_either has_layout entry_count laid_out zeros every next length_at has_marks mark_at record_number entries_of items text_at
relation_card_reads =
    record { first = refl; bytes = all_map (λ (x : ℕ). ltb-true x 256) (every_all (λ (x : ℕ). ltb x 256) relation_card refl); reading = refl; number = refl; entries = refl }

conforming : (conforms trial_parameters trial_entries ≡ true) × (conforms trial_parameters date_entries ≡ true)
    × (conforms bundle_parameters bundle_entries ≡ true) × (conforms bundle_parameters relation_entries ≡ true)
unfolding trial_parameters trial_entries date_entries bundle_parameters bundle_entries relation_entries conforms entry_conforms kind_at card_readable kinds of_kind numbers.readable numbers.read run is_digit dates.readable dates.read dates.read_year dates.four_at dates.two_at dates.pair dates.digit_of between tokens.card_readable tokens.card_token tokens.split_token tokens.token_of split dates.read_month date-fields.valid_month dates.field_at numbers.read_fraction
conforming = (refl, refl, refl, refl)

-- ---- the texts under the names

all_at : {A : Type 0} {P : A → Type 0} {xs : List A} {x : A} → All P xs → Memᴰ x xs → P x
all_at {A = A} {P = P} all_empty x6 = elim x6 [ ]
all_at {P = P} (all_cons p h) (Memᴰ.head e) = subst P (sym e) p
all_at (all_cons p h) (Memᴰ.tail m) = all_at h m

-- a filter that uses none but names under which the cards agree
only_same : (sheet card card' : List ℕ) (s : SheetBlock sheet) (es es' : List Entry) → Conforms s.parameters card es → Conforms s.parameters card' es'
    → (paths : List Path) → All (SameUnder s.parameters es es') paths → (text : List ℕ) → UsesOnly paths text → match_answer sheet text card ≡ match_answer sheet text card'
only_same sheet card card' s es es' c c' paths same text only = match_same sheet text card card' s es es' c c' (λ f spells. all_map (λ path m. all_at same m) (only f spells))

abbrev trial_block : SheetBlock trial_sheet
trial_block = block_of trial_sheet false trial_parameters trial_sheet_reads

abbrev bundle_block : SheetBlock bundle_sheet
bundle_block = block_of bundle_sheet true bundle_parameters bundle_sheet_reads

date-alike : (lookup trial_parameters 0 (name (ascii "birthdate")) ≡ found_at 1 3) × (alike (values_at 1 trial_entries) (values_at 1 date_entries) ≡ true)
unfolding trial_parameters trial_entries date_entries lookup find find_from equal values_at within some_value
date-alike = (refl, refl)

pub date_answers : (text : List ℕ) → UsesOnly date_names text → match_answer trial_sheet text trial_card ≡ match_answer trial_sheet text date_card
date_answers =
    only_same trial_sheet trial_card date_card trial_block trial_entries date_entries (conforms_by trial_parameters trial_card false 7 trial_entries trial-card_reads conforming.0)
    (conforms_by trial_parameters date_card true 300 date_entries date-card_reads conforming.1) date_names
    (all_cons (name_by trial_parameters trial_block.well_formed trial_entries date_entries 1 3 (ascii "birthdate") date-alike.0 date-alike.1) all_empty)

abbrev alike_under : ℕ → Bool
alike_under i = alike (marks_at i bundle_entries) (marks_at i relation_entries)

members_found : (lookup bundle_parameters 0 (member (ascii "related") (name (ascii "type"))) ≡ found_at 1 4) × (lookup bundle_parameters 0 (member (ascii "related") (name (ascii "target"))) ≡ found_at 2 5)
    × (lookup bundle_parameters 0 (member (ascii "marriage") (name (ascii "date"))) ≡ found_at 4 3)
unfolding bundle_parameters lookup find find_from enter equal
members_found = (refl, refl, refl)

members_alike : (alike_under 1 ≡ true) × (alike_under 2 ≡ true) × (alike_under 4 ≡ true)
unfolding bundle_entries relation_entries equal keep within some_value
members_alike = (refl, refl, refl)

pub relation_answers : (text : List ℕ) → UsesOnly relation_names text → match_answer bundle_sheet text bundle_card ≡ match_answer bundle_sheet text relation_card
relation_answers =
    only_same bundle_sheet bundle_card relation_card bundle_block bundle_entries relation_entries (conforms_by bundle_parameters bundle_card true 8 bundle_entries bundle-card_reads conforming.2)
    (conforms_by bundle_parameters relation_card true 301 relation_entries relation_card_reads conforming.3) relation_names
    (all_cons (by 1 4 (ascii "related") (ascii "type") members_found.0 members_alike.0)
    (all_cons (by 2 5 (ascii "related") (ascii "target") members_found.1 members_alike.1)
    (all_cons (by 4 3 (ascii "marriage") (ascii "date") members_found.2 members_alike.2) all_empty)))
  where
    by : (i k : ℕ) (b n : List ℕ) → lookup bundle_parameters 0 (member b (name n)) ≡ found_at i k → alike_under i ≡ true → SameUnder bundle_parameters bundle_entries relation_entries (member b (name n))
    by i k b n = member_by_lem bundle_parameters bundle_block.well_formed bundle_entries relation_entries i k b (name n)

-- ---- two rows of the trial tables, on the cards beside

abbrev names_read : Option Tree → List Path
names_read none = []
names_read (some f) = names_of f

reads_only : (text : List ℕ) (paths : List Path) → All (λ path. Memᴰ path paths) (names_read (read text)) → UsesOnly paths text
reads_only text paths h f spells = rw ((read_iff text f).1 spells) at h

names_read_lem : (names_read (read (ascii "birthdate le 1974-06")) ≡ date_names)
    × (names_read (read (ascii "related[type eq \"has-component\"].target re Observation/4")) ≡ member (ascii "related") (name (ascii "target")) ∷ member (ascii "related") (name (ascii "type")) ∷ [])
unfolding tests_of read filter_at item_at filter_of chain_of close_at connective_at head_at open_at choice_at member_at member_after test_at test_operator test_value operator_at find_operator follows value_at string_at string_from step_of is_bare run_end run operator_words is_name is_reserved is_name_part is_name_start is_letter between is_digit has_prefix equal every
names_read_lem = (refl, refl)

pub date-row : match_answer trial_sheet (ascii "birthdate le 1974-06") date_card ≡ yes
unfolding trial_rows
date-row =
    sym (date_answers (ascii "birthdate le 1974-06") (reads_only (ascii "birthdate le 1974-06") date_names (rw names_read_lem.0 (all_cons (Memᴰ.head refl) all_empty))))
    ∙ all_at {x = row (ascii "birthdate le 1974-06") yes} trial_rows_lem (Memᴰ.tail (Memᴰ.head refl))

pub relation_row : match_answer bundle_sheet (ascii "related[type eq \"has-component\"].target re Observation/4") relation_card ≡ yes
unfolding bundle_rows
relation_row =
    let filter = ascii "related[type eq \"has-component\"].target re Observation/4" in
    sym (relation_answers filter (reads_only filter relation_names (rw names_read_lem.1 (all_cons (Memᴰ.tail (Memᴰ.head refl)) (all_cons (Memᴰ.head refl) all_empty)))))
    ∙ all_at {x = row filter yes} bundle_rows_lem (Memᴰ.head refl)
