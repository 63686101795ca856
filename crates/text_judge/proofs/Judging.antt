-- Judging: what is gathered is the filter's verdict.
-- Judging with every test needed is the definition, by induction on the tree (`judging_is`). An item that is not needed leaves the verdict
-- as it was, and by the cases of connective and verdict that is what joining it gives (`verdict_after`). For the test of a member the code
-- goes entry by entry, and asks the filter in square brackets of the entry's occurrence. The definition keeps the entries that this filter
-- chooses, and then asks their texts. By induction on the entries both give the same (`chosen_is`), since an occurrence that counts has all
-- its entries among those that count (`occurrence_whole`). So the test says what the definition says (`member_is`).
-- Assumes nothing.
use Rattle.std.specs.Prelude.{Option, None, Some}
use Prim.Native.Nat.{ℕ}
use mathlib.Core.Path.{◌≡◌, refl, ap, sym, ◌∙◌}
use mathlib.Core.Bool.{Bool, true, false, cond, not, ◌&&◌, ◌||◌}
use mathlib.Core.List.{List, [], ◌∷◌}
use lib.Dec.{eqb}
use Rattle.base.proofs.Tests.{and_true, and_false}
use Rattle.sheet.specs.Find.{enter}
use Rattle.sheet.specs.declared.Found.{Found}
use Rattle.syntax.specs.Reader.{Parsed, parsed, unparsed}
use Rattle.kind.specs.Table.{meaning_of}
use Rattle.kind.specs.Readable.{is_true}
use Rattle.kind.specs.declared.Meaning.{Meaning}
use Rattle.judge.specs.Sets.{Chosen, lookup, values_at, counts, chosen_of, of_occurrence, keep}
use Rattle.judge.proofs.Meaning.{says_some}
use Rattle.judge.proofs.Occurrences.{chosen_one, occurrence_whole}
use Rattle.filter.specs.Walks.{answer_of}
use Rattle.text_judge.specs.Members.{parsed_says, judged_says, some_chosen, member_at, member_says}
use Rattle.sheet.specs.Sheet.{Parameter}
use Rattle.card.specs.Card.{Entry, entry}
use Rattle.syntax.specs.Tree.{Test, Tree, test, bracketed, join, negation}
use Rattle.syntax.specs.Fold.{fold_tree}
use Rattle.syntax.specs.declared.Connective.{Connective}
use Rattle.judge.specs.Verdicts.{some_value, text_counts, some_says, says_at, test_says, filter_says}
use Rattle.text_judge.specs.Folds.{judged, undecided, judging}
use Rattle.text_judge.specs.declared.Judged.{Judged}
use Rattle.filter.proofs.Walk.{Cases}

-- an answer keeps where it ends, and what is said
pub judged_cases : Cases judged
judged_cases = record { end = λ q p a b h. ap (λ (j : Judged). j.end) h; value = λ q p a b h. ap (λ (j : Judged). j.says) h }

pub judging_is : (ps : List Parameter) (c : ℕ) (es : List Entry) (f : Tree) → fold_tree (judging true ps c es) f ≡ filter_says ps c es f
unfolding fold_tree filter_says judging
judging_is ps c es (test t) = refl
judging_is ps c es (bracketed p b f t) = refl
judging_is ps c es (join k f g) = rw (judging_is ps c es f, judging_is ps c es g)
judging_is ps c es (negation f) = rw (judging_is ps c es f)

-- the verdict after an item: the item's where it is needed, and else the one before it
module _ (ps : List Parameter) (c : ℕ) (es : List Entry) where
  pub verdict_after : (needed : Bool) (o : Connective) (a b v r : Bool) → r ≡ (needed && undecided o a) → v ≡ cond r b a → (f : Tree) → b ≡ fold_tree (judging r ps c es) f → v ≡ (judging needed ps c es).both o a (fold_tree (judging needed ps c es) f)
  unfolding judging
  verdict_after true Connective.And true b v r e h f s = rw (h, e, s, e)
  verdict_after true Connective.And false b v r e h f s = rw (h, e)
  verdict_after true Connective.Or true b v r e h f s = rw (h, e)
  verdict_after true Connective.Or false b v r e h f s = rw (h, e, s, e)
  verdict_after false o a b v r e h f s = rw (h, e)

-- ---- the filter in square brackets

-- judging what is in the brackets for one occurrence
pub judged_occurrence : (ps : List Parameter) (c o : ℕ) (es : List Entry) (g : Parsed) (j : Option Judged) → j ≡ answer_of judged (judging true ps c (chosen_of (Some o) es)) g
    → judged_says j ≡ parsed_says ps c (of_occurrence o es) g
unfolding answer_of
judged_occurrence ps c o es (parsed q f) j e = ap judged_says e ∙ judging_is ps c (chosen_of (Some o) es) f ∙ ap (λ (l : List Entry). filter_says ps c l f) (chosen_one o es)
judged_occurrence ps c o es unparsed j e = ap judged_says e

-- entry by entry is by the set of the entries that the filter chooses
module _ (ps : List Parameter) (c : ℕ) (all : List Entry) (k : Chosen) (q : ℕ) (f : Tree) (i : ℕ) (m : Meaning) (v : List ℕ) where
  abbrev yes_of : Entry → Bool
  yes_of e = filter_says ps c (of_occurrence e.occurrence (chosen_of k all)) f

  pub chosen_is : (es : List Entry) → some_chosen ps c all k (parsed q f) i m v es ≡ some_value (text_counts m v) (values_at i (keep yes_of (chosen_of k es)))
  unfolding some_chosen chosen_of keep values_at some_value
  chosen_is [] = refl
  chosen_is (e ∷ es) = go (counts k e.occurrence) (eqb e.index i) (yes_of e) refl refl refl (chosen_is es)
    where
      go : (t u w : Bool) → counts k e.occurrence ≡ t → eqb e.index i ≡ u → yes_of e ≡ w → some_chosen ps c all k (parsed q f) i m v es ≡ some_value (text_counts m v) (values_at i (keep yes_of (chosen_of k es)))
          → some_chosen ps c all k (parsed q f) i m v (e ∷ es) ≡ some_value (text_counts m v) (values_at i (keep yes_of (chosen_of k (e ∷ es))))
      go false u w a b d r = rw (a, r)
      go true u w a b d r =
          let same : filter_says ps c (of_occurrence e.occurrence all) f ≡ w = ap (λ (l : List Entry). filter_says ps c l f) (sym (occurrence_whole k e.occurrence all a)) ∙ d in
          by u w b d same
        where
          by : (u w : Bool) → eqb e.index i ≡ u → yes_of e ≡ w → filter_says ps c (of_occurrence e.occurrence all) f ≡ w → some_chosen ps c all k (parsed q f) i m v (e ∷ es) ≡ some_value (text_counts m v) (values_at i (keep yes_of (chosen_of k (e ∷ es))))
          by true true b d s = rw (a, d, b, s, r, and_true (text_counts m v e.text))
          by true false b d s = rw (a, d, b, s, r, and_false (text_counts m v e.text))
          by false true b d s = rw (a, d, b, r)
          by false false b d s = rw (a, d, b, r)

-- so the test of a member says what the definition says
pub member_is : (ps : List Parameter) (c : ℕ) (es : List Entry) (k : Chosen) (p : ℕ) (b : List ℕ) (q : ℕ) (f : Tree) (t : Test)
    → member_says ps (enter ps c b) es k (parsed q f) t ≡ filter_says ps c (chosen_of k es) (bracketed p b f t)
unfolding member_says filter_says fold_tree test_says
member_is ps c es k p b q f t = go (lookup ps (enter ps c b) t.path)
  where
    yes : Entry → Bool
    yes e = filter_says ps (enter ps c b) (of_occurrence e.occurrence (chosen_of k es)) f

    go : (o : Option Found) → member_at o ps (enter ps c b) es k (parsed q f) t ≡ says_at o t.operator t.value (keep yes (chosen_of k es))
    go (Some found) = ap (some_says (meaning_of t.operator found.kind) (is_true t.value)) (chosen_is ps (enter ps c b) es k q f found.index (meaning_of t.operator found.kind) t.value es) ∙ sym (says_some (meaning_of t.operator found.kind) t.value (values_at found.index (keep yes (chosen_of k es))))
    go None = refl

-- as the code judges one occurrence
pub chosen_judged : (ps : List Parameter) (c o : ℕ) (es : List Entry) (g : Parsed) (j : Option Judged) (u r : Bool) → j ≡ answer_of judged (judging true ps c (chosen_of (Some o) es)) g
    → r ≡ judged_says j → u ≡ true → r ≡ (u && parsed_says ps c (of_occurrence o es) g)
chosen_judged ps c o es g j u r e h i = rw i (h ∙ judged_occurrence ps c o es g j e)

-- after not the opposite
pub verdict_negated : (needed : Bool) (ps : List Parameter) (c : ℕ) (es : List Entry) (b a v : Bool) → v ≡ cond b (not a) a → v ≡ cond b ((judging needed ps c es).negate a) a
unfolding judging
verdict_negated needed ps c es b a v e = e

-- an entry at hand: it is chosen, or what is left decides
module _ (ps : List Parameter) (c : ℕ) (all : List Entry) (k : Chosen) (g : Parsed) (i : ℕ) (m : Meaning) (v : List ℕ) (j o : ℕ) (x : List ℕ) (es : List Entry) (under n r : Bool)
    (a : under ≡ (counts k o && eqb j i)) (b : n ≡ (under && text_counts m v x)) (d : r ≡ (n && parsed_says ps c (of_occurrence o all) g)) where
  chosen-step : some_chosen ps c all k g i m v (entry j o x ∷ es) ≡ (r || some_chosen ps c all k g i m v es)
  unfolding some_chosen
  chosen-step =
      let whole : r ≡ (((counts k o && eqb j i) && text_counts m v x) && parsed_says ps c (of_occurrence o all) g) = d ∙ ap (λ (y : Bool). y && parsed_says ps c (of_occurrence o all) g) (b ∙ ap (λ (y : Bool). y && text_counts m v x) a) in
      ap (λ (y : Bool). y || some_chosen ps c all k g i m v es) (sym whole)

  pub chosen-here : r ≡ true → true ≡ some_chosen ps c all k g i m v (entry j o x ∷ es)
  chosen-here h = sym (chosen-step ∙ ap (λ (y : Bool). y || some_chosen ps c all k g i m v es) h)

  pub chosen-next : r ≡ false → some_chosen ps c all k g i m v (entry j o x ∷ es) ≡ some_chosen ps c all k g i m v es
  chosen-next h = chosen-step ∙ ap (λ (y : Bool). y || some_chosen ps c all k g i m v es) h

pub chosen_end : (ps : List Parameter) (c : ℕ) (all : List Entry) (k : Chosen) (g : Parsed) (i : ℕ) (m : Meaning) (v : List ℕ) → false ≡ some_chosen ps c all k g i m v []
unfolding some_chosen
chosen_end ps c all k g i m v = refl

-- the test of a member, by what its path names
module _ (ps : List Parameter) (c : ℕ) (es : List Entry) (k : Chosen) (g : Parsed) (t : Test) (n : Bool) (f : Option Found) (e : f ≡ lookup ps c t.path) where
  pub member-found : (x : Found) (m : Meaning) (truth some r : Bool) → f ≡ Some x → m ≡ meaning_of t.operator x.kind → some ≡ some_chosen ps c es k g x.index m t.value es → truth ≡ is_true t.value → r ≡ some_says m truth some → n ≡ true
      → r ≡ (n && member_says ps c es k g t)
  unfolding member_says
  member-found x m truth some r h u s w z y =
      let at : lookup ps c t.path ≡ Some x = sym e ∙ h in
      let chosen : some ≡ some_chosen ps c es k g x.index (meaning_of t.operator x.kind) t.value es = s ∙ ap (λ (l : Meaning). some_chosen ps c es k g x.index l t.value es) u in
      rw (y, at) (z ∙ rw (u, w, chosen))

  pub member_missing : f ≡ None → n ≡ true → false ≡ (n && member_says ps c es k g t)
  unfolding member_says
  member_missing h y = rw (y, sym e ∙ h)

-- as the code judges the test of a member after what was parsed in the brackets
pub verdict_inside : (needed : Bool) (ps : List Parameter) (c : ℕ) (es : List Entry) (k : Chosen) (p : ℕ) (b : List ℕ) (i : ℕ) (g : Parsed) (t : Test) (v : Bool) → i ≡ enter ps c b → v ≡ (needed && member_says ps i es k g t)
    → (q : ℕ) (f : Tree) → g ≡ parsed q f → v ≡ (judging needed ps c (chosen_of k es)).inside p b f (fold_tree (judging needed ps c (chosen_of k es)) f) t
unfolding judging
verdict_inside needed ps c es k p b i g t v e h q f r =
    h ∙ ap (λ (x : Bool). needed && x) (ap (λ (x : ℕ). member_says ps x es k g t) e ∙ ap (λ (x : Parsed). member_says ps (enter ps c b) es k x t) r ∙ member_is ps c es k p b q f t)
