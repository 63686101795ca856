-- What stands of a card behind an answer (02: helpers who may see only some fields): the texts under the names used, and nothing else. Each is
-- proved where its one line says. Not claimed for cards that do not conform, since 23 looks at all fields, nor for select, which gives record
-- numbers away. Assumes nothing.
use Prim.Native.Nat.{ℕ, ◌≤◌}
use mathlib.Core.Path.{◌≡◌}
use mathlib.Core.Logic.{◌↔◌}
use mathlib.Core.List.{List, [], Memᴰ}
use lib.ListN.{length, take}
use Rattle.base.specs.Ascii.{ascii}
use Rattle.sheet.specs.Encode.{SheetBlock}
use Rattle.sheet.specs.Trial.{trial_sheet, bundle_sheet}
use Rattle.card.specs.Card.{Entry}
use Rattle.card.specs.Trial.{trial_card, bundle_card}
use Rattle.syntax.specs.Tree.{Tree}
use Rattle.syntax.specs.Grammar.{Spells}
use Rattle.judge.specs.Rules.{Conforms, FilterSays}
use Rattle.judge.specs.Sets.{values_at, of_occurrence}
use Rattle.query.specs.Spelling.{Query, SpellsQuery}
use Rattle.rows.specs.Good.{Good}
use Rattle.rows.specs.Stated.{tree_of}
use Rattle.refusal.specs.Answers.{yes, count}
use Rattle.answer.specs.Operations.{match_answer}
use Rattle.answer.specs.Preparing.{prepare_answer, prepare_cells, judge_answer}
use Rattle.answer.specs.Searching.{match_search_answer}
use Rattle.explain.specs.Operation.{explain_answer, explain_cells}
use Rattle.fields.specs.Used.{names_of, query_names, Holds, Alike, ByNames, UsesOnly}
use Rattle.fields.specs.Leaks.{AllTextsSay, OccurringSay}
use Rattle.fields.specs.Trial.{date_card, date_names, relation_card, relation_names}
use Rattle.fields.proofs.Sets as sets
use Rattle.fields.proofs.Verdicts as verdicts
use Rattle.fields.proofs.Answers as answers
use Rattle.fields.proofs.Explanations as explanations
use Rattle.fields.proofs.Prepared as prepared
use Rattle.fields.proofs.Trial as trial
use Rattle.fields.proofs.Leaks as leaks

-- ---- sets by what a card holds

-- 01: "the set of a name is the card's texts under it": the texts in it are those that the entries hold under the index, and it is empty
-- exactly where they hold none; an empty text is a text
pub set_holds : (i : ℕ) (es : List Entry) (x : List ℕ) → Memᴰ x (values_at i es) ↔ ((o : ℕ) × Holds es i o x)
set_holds = sets.values_iff

pub set_empty : (i : ℕ) (es : List Entry) → (values_at i es ≡ []) ↔ ((o : ℕ) (x : List ℕ) → Holds es i o x → ⊥)
set_empty = sets.values_none

-- 02: the entries of one occurrence hold what bears its number, and nothing else
pub occurrence_holds : (o : ℕ) (es : List Entry) (i p : ℕ) (x : List ℕ) → Holds (of_occurrence o es) i p x ↔ (Holds es i p x × (p ≡ o))
occurrence_holds = sets.occurrence_iff

-- ---- helpers who may see only some fields (02 [14])

-- two cards that both conform, and hold the same texts under the names that a filter uses, are answered alike
pub match_no_other_field : (sheet text card card' : List ℕ) (s : SheetBlock sheet) (es es' : List Entry) → Conforms s.parameters card es → Conforms s.parameters card' es'
    → ((f : Tree) → Spells text f → Alike s.parameters (names_of f) es es') → match_answer sheet text card ≡ match_answer sheet text card'
match_no_other_field = answers.match_same

-- and explained alike: the answer, and every cell of the list
pub explain_no_other_field : (sheet text card card' : List ℕ) (s : SheetBlock sheet) (es es' : List Entry) → Conforms s.parameters card es → Conforms s.parameters card' es'
    → ((f : Tree) → Spells text f → Alike s.parameters (names_of f) es es') → (list : List ℕ)
    → (explain_answer sheet text card (length list) ≡ explain_answer sheet text card' (length list)) × (explain_cells sheet text card list ≡ explain_cells sheet text card' list)
explain_no_other_field = explanations.explain_same

-- over any cells, by the names that the expression uses which they state
pub judge_no_other_field : (sheet text card card' : List ℕ) (s : SheetBlock sheet) (es es' : List Entry) → Conforms s.parameters card es → Conforms s.parameters card' es'
    → (cells : List ℕ) → ((g : Good s.parameters text cells) → Alike s.parameters (names_of (tree_of s.parameters text g.expression)) es es')
    → judge_answer sheet text cells card ≡ judge_answer sheet text cells card'
judge_no_other_field = answers.judge_same

-- and the rows that prepare writes use the filter's names
pub prepared_names : (sheet text : List ℕ) (s : SheetBlock sheet) (f : Tree) → length text ≤ 1024 → Spells text f → (list : List ℕ) (n : ℕ) → prepare_answer sheet text (length list) ≡ count n
    → (g : Good s.parameters text (take n (prepare_cells sheet text list))) → names_of (tree_of s.parameters text g.expression) ≡ names_of f
prepared_names = prepared.prepared_names

-- by a search string, by the names of its alternatives
pub match_search_no_other_field : (sheet text card card' : List ℕ) (s : SheetBlock sheet) (es es' : List Entry) → Conforms s.parameters card es → Conforms s.parameters card' es'
    → ((q : Query) → SpellsQuery text q → Alike s.parameters (query_names q) es es') → match_search_answer sheet text card ≡ match_search_answer sheet text card'
match_search_no_other_field = answers.match_search_same

-- the same of the meaning of filters; it shuts out a meaning in which a name's set is all texts of the card, and one in which brackets ask for
-- an occurrence of the bundle at all
pub filters_by_names : ByNames (λ ps es f. FilterSays ps 0 es f)
filters_by_names = verdicts.by_names

pub all_texts_never_by_names : ByNames AllTextsSay → ⊥
all_texts_never_by_names = leaks.all_texts_leak

pub occurrences_never_by_names : ByNames OccurringSay → ⊥
occurrences_never_by_names = leaks.occurrence_leak

-- beside the trial cards: one with the same birthdates, and one with the same relations and dates of marriage
pub same_birthdates : (text : List ℕ) → UsesOnly date_names text → match_answer trial_sheet text trial_card ≡ match_answer trial_sheet text date_card
same_birthdates = trial.date_answers

pub same_relations : (text : List ℕ) → UsesOnly relation_names text → match_answer bundle_sheet text bundle_card ≡ match_answer bundle_sheet text relation_card
same_relations = trial.relation_answers

-- a row of the trial table and one of the table for bundles, so that there are such filters
pub birthdate-row : match_answer trial_sheet (ascii "birthdate le 1974-06") date_card ≡ yes
birthdate-row = trial.date-row

pub relation_row : match_answer bundle_sheet (ascii "related[type eq \"has-component\"].target re Observation/4") relation_card ≡ yes
relation_row = trial.relation_row
