-- What check's answer tells of the sheet, the filter and the question, and that match is refused where check is.
-- Steps are inverted. A count comes only of steps that have all found something (`inputs_found`, `sheet_found`, `text_found`), so the sheet
-- is well formed, the text is short and was read, and no test is at fault (`Passing`). Then the question is the one that the text asks
-- (`passing_asks`). A refusal comes only of inputs that stopped with it (`stopped`), so match is refused alike (`match_refused`). The other
-- laws are about cards: one that is accepted is well formed (`card_accepted`), and verdicts that agree on every card give one answer
-- (`same-verdicts`).
-- Assumes nothing.
use Rattle.std.specs.Prelude.{Err, Ok, Result, ⊤}
use Prim.Native.Nat.{ℕ, ◌≤◌}
use native.Mathlib.Omega.{arith}
use mathlib.Core.Path.{◌≡◌, refl, sym, ap, ◌∙◌}
use mathlib.Core.Bool.{Bool, true, false, cond, ◌||◌}
use mathlib.Core.Option.{Option, none, some}
use mathlib.Core.List.{List}
use lib.Dec.{eqb, ltb}
use lib.ListN.{length}
use borrow.Author.Tests.{ltb-false}
use Rattle.sheet.specs.Sheet.{Parameter, parameters_of, read_sheet}
use Rattle.card.specs.Card.{record_number, entries_of, read_card}
use Rattle.syntax.specs.Tree.{Tree, tests_of}
use Rattle.syntax.specs.Reader.{read}
use Rattle.judge.specs.Sets.{conforms}
use Rattle.refusal.specs.declared.Refusal.{Refusal}
use Rattle.refusal.specs.Answers.{count, refused, yes_or_no, number_of, refusal_answer, counted_answer, matched_answer}
use Rattle.refusal.proofs.Steps.{bind_found}
use Rattle.refusal.specs.Steps.{Step, found, stop, ◌>>=◌, answer}
use Rattle.answer.specs.Operations.{tree_step, accept_filter, tests_step, accept_sheet, sheet_step, Inputs, accept_inputs, Card, card_step, accept_card, check_answer, Question, match_by, filter_question, match_answer}
use Rattle.answer.specs.Passing.{Passing, text_question}
use Rattle.block.specs.declared.Flaw.{Flaw}

-- ---- check has passed them

inputs_found : (s : Step Inputs) (n : ℕ) → answer (s >>= λ p. found (count (length (tests_of p.filter)))) ≡ count n → (p : Inputs) × (s ≡ found p)
inputs_found (found p) n h = (p, refl)
inputs_found (stop m p) n h = absurd (let z : ◌≡◌ {A = ℕ} 0 1 = cc in omega arith)

sheet_found : (r : Result ⊤ Flaw) (ps qs : List Parameter) → sheet_step r ps ≡ found qs → (r ≡ (Ok tt)) × (ps ≡ qs)
sheet_found (Ok tt) ps qs h = (refl, cc)
sheet_found (Err Flaw.Size) ps qs h = (cc, cc)
sheet_found (Err Flaw.Sum) ps qs h = (cc, cc)
sheet_found (Err Flaw.Layout) ps qs h = (cc, cc)

tree_found : (text : List ℕ) (o : Option Tree) (f : Tree) → tree_step text o ≡ found f → o ≡ some f
tree_found text (some g) f h = cc
tree_found text none f h = cc

text_found : (text : List ℕ) (a b : Bool) (o : Option Tree) (f : Tree) → cond (a || b) (stop 10 0) (tree_step text o) ≡ found f → (b ≡ false) × (o ≡ some f)
text_found text true b o f h = (cc, cc)
text_found text false true o f h = (cc, cc)
text_found text false false o f h = (refl, tree_found text o f h)

pub passing_inputs : (b xs : List ℕ) (p : Inputs) → accept_inputs b xs ≡ found p → Passing b xs
unfolding accept_inputs accept_sheet accept_filter
passing_inputs b xs p is =
    let (ps, s, rest) = bind_found (accept_sheet b) (λ qs. accept_filter xs >>= λ f. tests_step qs (tests_of f) >>= λ u. found (record { parameters = qs; filter = f })) p is in
    let (f, t, last) = bind_found (accept_filter xs) (λ f. tests_step ps (tests_of f) >>= λ u. found (record { parameters = ps; filter = f })) p rest in
    let (u, v, made) = bind_found (tests_step ps (tests_of f)) (λ u. found (record { parameters = ps; filter = f })) p last in
    let (well, same) = sheet_found (read_sheet b) (parameters_of b) ps s in
    let (short, reads) = text_found xs (eqb (length xs) 0) (ltb 1024 (length xs)) (read xs) f t in
    record {
      tree = f;
      sheet_well_formed = well;
      short = ltb-false 1024 (length xs) short;
      reads = reads;
      meant = ap (λ (qs : List Parameter). tests_step qs (tests_of f)) same ∙ v;
      inputs_accepted = is ∙ sym made ∙ ap (λ (qs : List Parameter). found (record { parameters = qs; filter = f })) (sym same);
    }

pub passing : (b xs : List ℕ) (c : Result ℕ Refusal) (n : ℕ) → counted_answer c ≡ check_answer b xs → c ≡ Ok n → Passing b xs
unfolding counted_answer check_answer
passing b xs c n e h =
    let (p, is) = inputs_found (accept_inputs b xs) n (sym e ∙ ap counted_answer h) in
    passing_inputs b xs p is

pub passing_sheet : (b xs : List ℕ) (c : Result ℕ Refusal) (n : ℕ) → counted_answer c ≡ check_answer b xs → c ≡ Ok n → read_sheet b ≡ (Ok tt)
passing_sheet b xs c n e h = (passing b xs c n e h).sheet_well_formed

pub passing_short : (b xs : List ℕ) (c : Result ℕ Refusal) (n : ℕ) → counted_answer c ≡ check_answer b xs → c ≡ Ok n → length xs ≤ 1024
passing_short b xs c n e h = (passing b xs c n e h).short

-- what a filter that check has passed asks
pub passing_asks : (b xs : List ℕ) (p : Passing b xs) → filter_question b xs ≡ found (text_question (parameters_of b) (read xs))
unfolding filter_question
passing_asks b xs p = rw (p.inputs_accepted, p.reads)

-- ---- a card

pub card-found : (r : Result ⊤ Flaw) (fits : Bool) (c : Card) (i : ℕ) (d : Card) → card_step r fits c i ≡ found d → (r ≡ (Ok tt)) × (d ≡ c)
card-found (Ok tt) true c i d h = (refl, cc)
card-found (Ok tt) false c i d h = (cc, cc)
card-found (Err Flaw.Size) fits c i d h = (cc, cc)
card-found (Err Flaw.Sum) fits c i d h = (cc, cc)
card-found (Err Flaw.Layout) fits c i d h = (cc, cc)

-- a card that is accepted is well formed, and has its record number
pub card_accepted : (ps : List Parameter) (i : ℕ) (b : List ℕ) (d : Card) → accept_card ps i b ≡ found d → (read_card b ≡ (Ok tt)) × (d.number ≡ record_number b)
unfolding accept_card
card_accepted ps i b d h =
    let (well, same) = card-found (read_card b) (conforms ps (entries_of b)) (record { number = record_number b; entries = entries_of b }) i d h in
    (well, ap (λ (c : Card). c.number) same)

-- ---- check has refused

stopped : (s : Step Inputs) (n p : ℕ) → answer (s >>= λ q. found (count (length (tests_of q.filter)))) ≡ refused n p → s ≡ stop n p
stopped (found q) n p h = cc
stopped (stop m q) n p h = cc

inputs_stopped : (b xs : List ℕ) (c : Result ℕ Refusal) (r : Refusal) → counted_answer c ≡ check_answer b xs → c ≡ Err r → accept_inputs b xs ≡ stop (number_of r.reason) r.place
unfolding counted_answer refusal_answer check_answer
inputs_stopped b xs c r e h = stopped (accept_inputs b xs) (number_of r.reason) r.place (sym e ∙ ap counted_answer h)

pub question_stopped : (b xs : List ℕ) (c : Result ℕ Refusal) (r : Refusal) → counted_answer c ≡ check_answer b xs → c ≡ Err r
    → filter_question b xs ≡ stop (number_of r.reason) r.place
unfolding filter_question
question_stopped b xs c r e h = rw (inputs_stopped b xs c r e h)

-- ---- match

-- the question is refused, and so is match
pub match_stopped : (asked : Step Question) (card : List ℕ) (r : Refusal) → asked ≡ stop (number_of r.reason) r.place → matched_answer (Err r) ≡ match_by asked card
unfolding matched_answer refusal_answer match_by
match_stopped asked card r e = rw e

pub match_refused : (b xs card : List ℕ) (c : Result ℕ Refusal) (r : Refusal) → counted_answer c ≡ check_answer b xs → c ≡ Err r → matched_answer (Err r) ≡ match_answer b xs card
match_refused b xs card c r e h = match_stopped (filter_question b xs) card r (question_stopped b xs c r e h)

pub yes_or_no_after : (s : Step Card) (g : Card → Bool) → (s >>= λ c. found (yes_or_no (g c))) ≡ (s >>= λ c. found (g c)) >>= λ b. found (yes_or_no b)
yes_or_no_after (found c) g = refl
yes_or_no_after (stop n p) g = refl

pub same-verdicts : (q : Step Card) (a b : Card → Bool) → ((c : Card) → a c ≡ b c) → answer (q >>= λ c. found (yes_or_no (a c))) ≡ answer (q >>= λ c. found (yes_or_no (b c)))
same-verdicts (found c) a b h = ap yes_or_no (h c)
same-verdicts (stop n p) a b h = refl
