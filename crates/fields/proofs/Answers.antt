-- The answers of match, judge and match by a search string on two cards that hold the same texts under the names used: sheet, text and rows
-- come first and are the same, a card that conforms is accepted with its entries, and the verdicts are the same.
-- Assumes nothing.
use Prim.Native.Nat.{ℕ}
use mathlib.Core.Path.{◌≡◌, refl, ap}
use mathlib.Core.Bool.{Bool, ◌||◌}
use mathlib.Core.Logic.{⊎_elim}
use mathlib.Core.Option.{Option, none, some}
use mathlib.Core.List.{List}
use lib.Dec.{eqb, ltb}
use lib.ListN.{length}
use Rattle.base.proofs.Tests.{cond_either}
use Rattle.sheet.specs.Sheet.{Parameter}
use Rattle.sheet.specs.Find.{kinds_of, parents_of}
use Rattle.sheet.specs.Encode.{WellFormedSheet, SheetBlock}
use Rattle.card.specs.Card.{Entry}
use Rattle.syntax.specs.Tree.{Tree, tests_of}
use Rattle.syntax.specs.Grammar.{Spells}
use Rattle.syntax.specs.Reader.{read}
use Rattle.syntax.proofs.Spelling.{read_iff}
use Rattle.judge.specs.Rules.{Conforms}
use Rattle.judge.specs.Verdicts.{filter_says}
use Rattle.query.specs.Spelling.{Query, alternatives_of, SpellsQuery}
use Rattle.query.specs.Reader.{accept_query}
use Rattle.query.proofs.Reading.{query_read}
use Rattle.rows.specs.Cells.{stated}
use Rattle.rows.specs.Good.{Good}
use Rattle.rows.specs.Shapes.{good}
use Rattle.rows.specs.Stated.{tree_of}
use Rattle.rows.proofs.Good.{good_states, good_iff}
use Rattle.refusal.specs.Answers.{Answer, yes_or_no}
use Rattle.refusal.specs.Steps.{Step, found, stop, ◌>>=◌, answer}
use Rattle.refusal.proofs.Steps.{bind_found, stop_not_found}
use Rattle.answer.specs.Operations.{tree_step, accept_filter, tests_step, accept_sheet, Inputs, accept_inputs, accept_card, Question, question_of, match_by, filter_question, match_answer}
use Rattle.answer.specs.Preparing.{accept_size, stated_step, accept_rows, judge_answer}
use Rattle.answer.specs.Searching.{alternatives_step, QueryInputs, accept_query_inputs, question_of_query, search_question, match_search_answer}
use Rattle.answer.proofs.Cards.{conforms_accepted}
use Rattle.answer.proofs.Inputs.{sheet_accepted}
use Rattle.fields.specs.Used.{names_of, query_names, Alike}
use Rattle.fields.proofs.Verdicts.{verdict_same, query_same}

-- ---- what was found

-- after a step that has nothing to do with the card
then_same : {A : Type 0} (s : Step A) (next next' : A → Step Answer) → ((x : A) → s ≡ found x → answer (next x) ≡ answer (next' x)) → answer (s >>= next) ≡ answer (s >>= next')
then_same (found x) next next' h = h x refl
then_same (stop n p) next next' h = refl

found-same : {A : Type 0} {x y : A} → found x ≡ found y → x ≡ y
found-same e = cc

tree_found : (text : List ℕ) (o : Option Tree) (f : Tree) → tree_step text o ≡ found f → o ≡ some f
tree_found text (some g) f e = cc
tree_found text none f e = cc

-- a text that is accepted spells the filter
filter_found : (text : List ℕ) (f : Tree) → accept_filter text ≡ found f → Spells text f
unfolding accept_filter
filter_found text f e =
    (read_iff text f).0 (⊎_elim (λ w. stop_not_found w.1) (λ w. tree_found text (read text) f w.1) (cond_either (eqb (length text) 0 || ltb 1024 (length text)) (stop 10 0) (tree_step text (read text)) e))

-- what was accepted of a sheet and a text, by a reader of texts and a test of what it reads
module _ (sheet : List ℕ) (s : SheetBlock sheet) where
  read_found : {X P : Type 0} (r : Step X) (tests : List Parameter → X → Step (Unit {0})) (made : List Parameter → X → P) (p : P)
      → (accept_sheet sheet >>= λ ps. r >>= λ x. tests ps x >>= λ u. found (made ps x)) ≡ found p → (x : X) × (r ≡ found x) × (made s.parameters x ≡ p)
  read_found r tests made p e =
      let (x, t, rest) = bind_found r (λ x. tests s.parameters x >>= λ u. found (made s.parameters x)) p (rw (sheet_accepted sheet s) at e) in
      let (u, _, last) = bind_found (tests s.parameters x) (λ u. found (made s.parameters x)) p rest in
      (x, t, found-same last)

  pub inputs_found : (text : List ℕ) (p : Inputs) → accept_inputs sheet text ≡ found p → (f : Tree) × Spells text f × (record { parameters = s.parameters; filter = f } ≡ p)
  unfolding accept_inputs
  inputs_found text p e =
      let (f, t, is) = read_found (accept_filter text) (λ ps f. tests_step ps (tests_of f)) (λ ps f. record { parameters = ps; filter = f }) p e in
      (f, filter_found text f t, is)

  query_found : (text : List ℕ) (p : QueryInputs) → accept_query_inputs sheet text ≡ found p → (q : Query) × SpellsQuery text q × (record { parameters = s.parameters; query = q } ≡ p)
  unfolding accept_query_inputs
  query_found text p e =
      let (q, t, is) = read_found (accept_query text) (λ ps q. alternatives_step ps (alternatives_of q)) (λ ps q. record { parameters = ps; query = q }) p e in
      (q, (query_read text q).0 t, is)

-- rows that are accepted are good, and the tree is the one that they state
rows_found : (ps : List Parameter) → WellFormedSheet ps → (text cells : List ℕ) (f : Tree) → accept_rows ps text cells ≡ found f → (g : Good ps text cells) × (tree_of ps text g.expression ≡ f)
unfolding accept_rows
rows_found ps w text cells f e =
    ⊎_elim
    (λ h. let g = (good_iff ps w text cells).0 h.0 in let is = good_states ps w text g in let same : found (tree_of ps text g.expression) ≡ found f = (rw is at h).1 in (g, cc))
    (λ h. stop_not_found h.1) (cond_either (good (kinds_of ps) (parents_of ps) text cells) (stated_step ps text (stated cells)) (stop 40 0) e)

-- ---- on two cards that conform

module _ (sheet text card card' : List ℕ) (s : SheetBlock sheet) (es es' : List Entry) (c : Conforms s.parameters card es) (c' : Conforms s.parameters card' es') where
  abbrev ps : List Parameter
  ps = s.parameters

  card-same : (says : List Entry → Bool) → says es ≡ says es'
      → answer (accept_card ps 0 card >>= λ d. found (yes_or_no (says d.entries))) ≡ answer (accept_card ps 0 card' >>= λ d. found (yes_or_no (says d.entries)))
  card-same says h = rw (conforms_accepted c 0, conforms_accepted c' 0) (ap yes_or_no h)

  -- match, whatever is accepted before the card, and what it asks
  asked_same : {P : Type 0} (inputs : Step P) (ask : P → Question) → ((p : P) → inputs ≡ found p → (ps ≡ (ask p).parameters) × ((ask p).says es ≡ (ask p).says es'))
      → match_by (inputs >>= λ p. found (ask p)) card ≡ match_by (inputs >>= λ p. found (ask p)) card'
  unfolding match_by
  asked_same (found p) ask h = let (same, said) = h p refl in rw (← same) (card-same (ask p).says said)
  asked_same (stop n p) ask h = refl

  pub match_same : ((f : Tree) → Spells text f → Alike ps (names_of f) es es') → match_answer sheet text card ≡ match_answer sheet text card'
  unfolding filter_question
  match_same alike =
      asked_same (accept_inputs sheet text) question_of
      (λ p e. let (f, spells, is) = inputs_found sheet s text p e in rw (← is) (refl, verdict_same ps s.well_formed f es es' (alike f spells)))

  pub match_search_same : ((q : Query) → SpellsQuery text q → Alike ps (query_names q) es es') → match_search_answer sheet text card ≡ match_search_answer sheet text card'
  unfolding search_question
  match_search_same alike =
      asked_same (accept_query_inputs sheet text) question_of_query
      (λ p e. let (q, spells, is) = query_found sheet s text p e in rw (← is) (refl, query_same ps s.well_formed q es es' (alike q spells)))

  -- judge, over any cells
  pub judge_same : (cells : List ℕ) → ((g : Good ps text cells) → Alike ps (names_of (tree_of ps text g.expression)) es es') → judge_answer sheet text cells card ≡ judge_answer sheet text cells card'
  unfolding judge_answer
  judge_same cells alike =
      rw (sheet_accepted sheet s) (then_same (accept_size text) (λ u. accept_rows ps text cells >>= says card) (λ u. accept_rows ps text cells >>= says card')
      (λ u _. then_same (accept_rows ps text cells) (says card) (says card')
      (λ f e. let (g, is) = rows_found ps s.well_formed text cells f e in
      card-same (λ es. filter_says ps 0 es f) (rw (← is) (verdict_same ps s.well_formed (tree_of ps text g.expression) es es' (alike g))))))
    where
      says : List ℕ → Tree → Step Answer
      says card f = accept_card ps 0 card >>= λ d. found (yes_or_no (filter_says ps 0 d.entries f))
