-- Match, as the code comes to its answer.
-- A law for each way through the code, and no induction. A card is refused for its size, its sum, its layout or as a misfit, or it conforms,
-- in the order of the definition's own choice (`accepts_flawed` .. `accepts_conforming`). The verdict on a card that conforms is what the question
-- says of its entries, and on any other the refusal (`judged_says_lem`, `judged_refused`); by rows for all parameters of these kinds
-- (`rows_says`). By the text, the tree that the walk reads is the one that check has read (`read-from`), so that the walk's answer is what
-- the text says (`says_done`). The verdict gives match's answer (`match_answered`).
-- Assumes nothing.
use Rattle.std.specs.Prelude.{Err, Ok, Result, Option, Some, None, MatchOption, MatchResult, IsErrAnd, IfOk, IfErr}
use Prim.Native.Nat.{ℕ}
use native.Mathlib.Omega.{arith}
use mathlib.Core.Path.{◌≡◌, refl, sym, ap, ap₂, subst, ◌∙◌}
use mathlib.Core.Bool.{Bool, true, false}
use mathlib.Core.Option.{none, some}
use mathlib.Core.List.{List}
use Rattle.sheet.specs.Sheet.{Parameter, parameters_of}
use Rattle.sheet.specs.Find.{kinds_of}
use Rattle.card.specs.Card.{Entry, entries_of, read_card, record_number}
use Rattle.syntax.specs.Reader.{Parsed, parsed, unparsed, filter_at, whole, read}
use Rattle.syntax.proofs.Whole.{whole_kept}
use Rattle.judge.specs.Sets.{chosen_of, conforms, conforms_to}
use Rattle.judge.specs.Verdicts.{filter_says}
use Rattle.judge.proofs.Entries.{every, chosen-every}
use Rattle.judge.proofs.Table.{table_conforms}
use Rattle.text_judge.specs.Folds.{judged, judging}
use Rattle.filter.specs.Walks.{top_spot, answer_of}
use Rattle.filter.specs.declared.Spot.{Spot}
use Rattle.text_judge.specs.declared.Judged.{Judged}
use Rattle.filter.proofs.Walk.{top-bundle, top_read, was_filter, was_none}
use Rattle.text_judge.proofs.Judging.{judged_cases, judging_is}
use Rattle.card_reader.specs.Lists.{KeepsCard, ReadsCard}
use Rattle.card_reader.specs.declared.Kept.{Kept}
use Rattle.row_judge.specs.Saying.{rows_say}
use Rattle.row_judge.specs.Asking.{LentFor}
use Rattle.row_judge.proofs.Asking.{lent-on}
use Rattle.refusal.specs.Answers.{number_of, yes_or_no, refusal_answer, matched_answer}
use Rattle.refusal.specs.Steps.{found, stop, Step, ◌>>=◌, answer}
use Rattle.refusal.specs.declared.Reason.{Reason}
use Rattle.answer.specs.Operations.{Card, card_step, accept_card, Question, match_by, filter_question, match_answer}
use Rattle.answer.specs.Passing.{Passing, text_says, text_question, card_verdict}
use Rattle.one_card.specs.OneCard.{verdict_step, ReadsBytes, AcceptsCard, TakesCard, cells_question, verdict_answer}
use Rattle.refusal.specs.declared.Refusal.{Refusal}
use Rattle.answer.proofs.Passing.{passing_asks, yes_or_no_after}
use Rattle.block.specs.declared.Flaw.{Flaw}

-- ---- what the filter says

module _ (ps : List Parameter) (es : List Entry) (b xs : List ℕ) (p : Passing b xs) (spot : Spot) (s : spot ≡ top_spot xs) (w : Option Judged)
    (e : w ≡ answer_of judged (judging true ps spot.bundle (chosen_of every es)) (filter_at spot.levels xs spot.close spot.at)) where
  read-from : (g : Parsed) → filter_at spot.levels xs spot.close spot.at ≡ g → whole xs g ≡ some p.tree
  read-from g h = sym (top_read xs spot s ∙ ap (whole xs) h) ∙ p.reads

  says_done : (j : Judged) → w ≡ Some j → j.says ≡ text_says ps es (read xs)
  says_done j h =
      let was = was_filter judged judged_cases (judging true ps spot.bundle (chosen_of every es)) xs spot.close spot.levels spot.at w j.end j.says e h in
      let f = was.tree in
      let same : f ≡ p.tree = (whole_kept xs j.end f p.tree (read-from (parsed j.end f) was.read)).same in
      was.value ∙ judging_is ps spot.bundle (chosen_of every es) f ∙ ap₂ (λ (c : ℕ) (l : List Entry). filter_says ps c l f) (top-bundle xs spot s) (chosen-every es) ∙ rw p.reads (ap (filter_says ps 0 es) same)

  says_nothing : (r : Bool) → w ≡ None → r ≡ text_says ps es (read xs)
  says_nothing r h =
      let z : none ≡ some p.tree = read-from unparsed (was_none judged judged_cases (judging true ps spot.bundle (chosen_of every es)) xs spot.close spot.levels spot.at w e h) in
      cc

  pub says_asked : (r : Bool) (Q : Judged → Type 0) → MatchOption w (r ≡ false) Q → ((j : Judged) → Q j → r ≡ j.says) → r ≡ text_says ps es (read xs)
  says_asked r Q h q = by_judged w refl h
    where
      by_judged : (o : Option Judged) → w ≡ o → MatchOption o (r ≡ false) Q → r ≡ text_says ps es (read xs)
      by_judged (Some j) i g = q j g ∙ says_done j i
      by_judged None i g = g ∙ says_nothing false i

-- ---- one card is accepted

accepted_refused : (kinds b : List ℕ) (x : Reason) → ((ps : List Parameter) → kinds ≡ kinds_of ps → (i : ℕ) → stop (number_of x) i ≡ accept_card ps i b) → AcceptsCard kinds b (Err x)
accepted_refused kinds b x t = record { same = λ c z. absurd (refused_not x c z); well_formed = λ c z. absurd (refused_not x c z); steps = t }
  where
    refused_not : (x : Reason) (c : List ℕ) → ◌≡◌ {A = Result (List ℕ) Reason} (Err x) (Ok c) → ⊥
    refused_not x c z = let y : ◌≡◌ {A = ℕ} 0 1 = cc in omega arith

ok_same : {A B : Type 0} {c d : A} → ◌≡◌ {A = Result A B} (Ok c) (Ok d) → c ≡ d
ok_same z = cc

err_same : {A B : Type 0} {c d : B} → ◌≡◌ {A = Result A B} (Err c) (Err d) → c ≡ d
err_same z = cc

not_both : {A B : Type 0} {c : A} {d : B} → ◌≡◌ {A = Result A B} (Ok c) (Err d) → ⊥
not_both z = let y : ◌≡◌ {A = ℕ} 0 1 = cc in omega arith

-- what reading the bytes says
pub reads_bytes : (b : List ℕ) (t : Result (List ℕ) Flaw) (r : Result (List ℕ) Reason) (Q : Flaw → Reason → Type 0) → IfOk t (λ card. (card ≡ b) × (read_card b ≡ Ok tt)) → IfErr t (λ flaw. read_card b ≡ Err flaw)
    → MatchResult t (λ x. r ≡ Ok x) (λ e. IsErrAnd r (Q e)) → ((e : Flaw) (x : Reason) → Q e x → (fits : Bool) (c : Card) (i : ℕ) → card_step (Err e) fits c i ≡ stop (number_of x) i) → ReadsBytes b r
unfolding accept_card
reads_bytes b (Ok k) r Q h f m q = record { same = λ c z. (ok_same (sym z ∙ m) ∙ h.0, h.1); refused = λ x z. absurd (not_both (sym m ∙ z)) }
reads_bytes b (Err e) (Ok k) Q h f m q = absurd m
reads_bytes b (Err e) (Err y) Q h f m q =
    record {
      same = λ c z. absurd (not_both (sym z));
      refused = λ x z ps i. ap (λ (n : Reason). stop (number_of n) i) (sym (err_same z)) ∙ sym (rw (f, q e y m (conforms ps (entries_of b)) (record { number = record_number b; entries = entries_of b }) i));
    }

module _ (kinds b : List ℕ) where
  module _ (o : Bool) (g : o ≡ conforms_to kinds (entries_of b)) (h : read_card b ≡ (Ok tt)) where
    fits : (ps : List Parameter) → kinds ≡ kinds_of ps → conforms ps (entries_of b) ≡ o
    fits ps l = sym (g ∙ ap (λ (k : List ℕ). conforms_to k (entries_of b)) l ∙ table_conforms ps (entries_of b))

    accepts_misfit : o ≡ false → AcceptsCard kinds b (Err Reason.CardMisfit)
    accepts_misfit n = accepted_refused kinds b Reason.CardMisfit (λ ps l i. (unfold accept_card in rw (h, fits ps l ∙ n)))

    accepts_conforming : o ≡ true → AcceptsCard kinds b (Ok b)
    accepts_conforming y = record { same = λ c z. sym (ok_same z); well_formed = λ c z. h; steps = λ ps l i. (unfold accept_card in rw (h, fits ps l ∙ y)) }

module _ (kinds b : List ℕ) (t : Result (List ℕ) Reason) (w : ReadsBytes b t) where
  pub read-refused : (x : Reason) → t ≡ Err x → AcceptsCard kinds b (Err x)
  read-refused x h = accepted_refused kinds b x (λ ps _ i. w.refused x h ps i)

  module _ (c : List ℕ) (h : t ≡ Ok c) (o : Bool) (g : o ≡ conforms_to kinds (entries_of c)) where
    same : o ≡ conforms_to kinds (entries_of b)
    same = g ∙ ap (λ (d : List ℕ). conforms_to kinds (entries_of d)) (w.same c h).0

    pub read-misfit : o ≡ false → AcceptsCard kinds b (Err Reason.CardMisfit)
    read-misfit n = accepts_misfit kinds b o same (w.same c h).1 n

    pub read-conforms : o ≡ true → AcceptsCard kinds b (Ok c)
    read-conforms y = subst (λ (d : List ℕ). AcceptsCard kinds b (Ok d)) (sym (w.same c h).0) (accepts_conforming kinds b o same (w.same c h).1 y)

-- ---- and judged

module _ (kinds b : List ℕ) (t : Result (List ℕ) Reason) (e : AcceptsCard kinds b t) where
  module _ (q : Question) (l : kinds ≡ kinds_of q.parameters) where
    pub judged_says_lem : (v : Bool) (c : List ℕ) → t ≡ Ok c → v ≡ q.says (entries_of c) → (i : ℕ) → found v ≡ card_verdict q i b
    unfolding card_verdict
    judged_says_lem v c h s i = rw (sym (e.steps q.parameters l i), h, s)

    pub judged_refused : (x : Reason) → t ≡ Err x → (i : ℕ) → stop (number_of x) i ≡ card_verdict q i b
    unfolding card_verdict
    judged_refused x h i = rw (sym (e.steps q.parameters l i), h)

  -- by rows, whatever the parameters of these kinds
  module _ (xs cs : List ℕ) where
    pub rows_says : (v : Bool) (c : List ℕ) → t ≡ Ok c → v ≡ rows_say kinds xs (chosen_of every (entries_of c)) cs
        → (ps : List Parameter) → kinds ≡ kinds_of ps → (i : ℕ) → found v ≡ card_verdict (cells_question ps xs cs) i b
    rows_says v c h s ps l = judged_says_lem (cells_question ps xs cs) l v c h (s ∙ ap₂ (λ (k : List ℕ) (es : List Entry). rows_say k xs es cs) l (chosen-every (entries_of c)))

    pub rows_refused : (x : Reason) → t ≡ Err x → (ps : List Parameter) → kinds ≡ kinds_of ps → (i : ℕ) → stop (number_of x) i ≡ card_verdict (cells_question ps xs cs) i b
    rows_refused x h ps l = judged_refused (cells_question ps xs cs) l x h

-- ---- and what it holds is kept

module _ (kinds b : List ℕ) (t : Result (List ℕ) Reason) (w : ReadsBytes b t) (before : Kept) where
  pub takes_refused : (x : Reason) → t ≡ Err x → TakesCard kinds b before before (Err x)
  takes_refused x h = record { accepts = read-refused kinds b t w x h; begins = record { kinds_are = refl; asked_are = refl }; keeps = λ c z. absurd (not_both (sym z)) }

  module _ (c : List ℕ) (h : t ≡ Ok c) (kept : Kept) (o : Bool) (r : ReadsCard kinds c before kept o) where
    pub takes_misfit : o ≡ false → TakesCard kinds b before kept (Err Reason.CardMisfit)
    takes_misfit n = record { accepts = read-misfit kinds b t w c h o r.answer n; begins = r.begins; keeps = λ d z. absurd (not_both (sym z)) }

    pub takes_conforming : o ≡ true → TakesCard kinds b before kept (Ok c)
    takes_conforming y = record { accepts = read-conforms kinds b t w c h o r.answer y; begins = r.begins; keeps = λ _ _. subst (λ (d : List ℕ). KeepsCard d kept) (w.same c h).0 (r.keeps y) }

-- what is kept is of the card
pub taken-keeps : (kinds b : List ℕ) (before kept : Kept) (t : Result (List ℕ) Reason) → TakesCard kinds b before kept t → (c : List ℕ) → t ≡ Ok c → KeepsCard c kept
taken-keeps kinds b before kept t w c k = subst (λ (d : List ℕ). KeepsCard d kept) (sym (w.accepts.same c k)) (w.keeps c k)

module _ (kinds xs rows b : List ℕ) (before kept : Kept) (t : Result (List ℕ) Reason) (l : LentFor kinds rows before) (w : TakesCard kinds b before kept t) where
  -- it stays lent for the rows
  pub taken-lent : LentFor kinds rows kept
  taken-lent = lent-on kinds rows before kept l w.begins

  pub taken-says : (v : Bool) (c : List ℕ) → t ≡ Ok c → v ≡ rows_say kinds xs (chosen_of every (entries_of c)) rows
      → (ps : List Parameter) → kinds ≡ kinds_of ps → (i : ℕ) → found v ≡ card_verdict (cells_question ps xs rows) i b
  taken-says v c h s = rows_says kinds b t w.accepts xs rows v c h s

  pub taken_refused : (x : Reason) → t ≡ Err x → (ps : List Parameter) → kinds ≡ kinds_of ps → (i : ℕ) → stop (number_of x) i ≡ card_verdict (cells_question ps xs rows) i b
  taken_refused x c = rows_refused kinds b t w.accepts xs rows x c

-- ---- match

-- what is asked is known, and so is the verdict on the card
module _ (asked : Step Question) (q : Question) (card : List ℕ) (p : asked ≡ found q) (v : Result Bool Reason) (e : (i : ℕ) → verdict_step v i ≡ card_verdict q i card) where
  match_is : match_by asked card ≡ answer (verdict_step v 0 >>= λ y. found (yes_or_no y))
  unfolding match_by card_verdict
  match_is = rw (p, e 0) (ap answer (yes_or_no_after (accept_card q.parameters 0 card) (λ c. q.says c.entries)))

  pub match_answered : (m : Result Bool Refusal) → matched_answer m ≡ verdict_answer v → matched_answer m ≡ match_by asked card
  unfolding verdict_answer
  match_answered m h = h ∙ sym match_is

-- by a filter that check has passed
pub filter_answered : (b xs card : List ℕ) → Passing b xs → (v : Result Bool Reason) → ((i : ℕ) → verdict_step v i ≡ card_verdict (text_question (parameters_of b) (read xs)) i card) → (m : Result Bool Refusal) → matched_answer m ≡ verdict_answer v
    → matched_answer m ≡ match_answer b xs card
filter_answered b xs card p = match_answered (filter_question b xs) (text_question (parameters_of b) (read xs)) card (passing_asks b xs p)

-- ---- a verdict as match's answer

pub answers_verdict : (v : Result Bool Reason) (m : Result Bool Refusal) (Q : Reason → Refusal → Type 0) → MatchResult v (λ y. m ≡ Ok y) (λ e. IsErrAnd m (Q e)) → ((e : Reason) (r : Refusal) → Q e r → (r.reason ≡ e) × (r.place ≡ 0))
    → matched_answer m ≡ verdict_answer v
unfolding matched_answer refusal_answer verdict_answer
answers_verdict (Ok true) m Q h q = rw h
answers_verdict (Ok false) m Q h q = rw h
answers_verdict (Err e) (Ok y) Q h q = absurd h
answers_verdict (Err e) (Err r) Q h q = let w = q e r h in rw (w.0, w.1)
