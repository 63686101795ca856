-- Whether two cards hold the same texts under a path, by a test that computes.
-- Assumes nothing.
use Prim.Native.Nat.{ℕ}
use mathlib.Core.Path.{◌≡◌, refl, ap, ap₂, sym, ◌∙◌, subst}
use mathlib.Core.Bool.{Bool, true, ◌&&◌}
use mathlib.Core.Logic.{⊎_elim}
use mathlib.Core.List.Memᴰ
use mathlib.Core.List.{List, [], ◌∷◌, map, Memᴰ}
use Rattle.base.specs.Lists.{equal}
use Rattle.base.proofs.Lists.{equal-same}
use Rattle.base.proofs.Tests.{and_left, and_right}
use borrow.Author.Tests.{eq-eqb, eqb-true}
use Rattle.sheet.specs.Sheet.{Parameter}
use Rattle.sheet.specs.Encode.{WellFormedSheet}
use Rattle.sheet.specs.Find.{found_at}
use Rattle.sheet.proofs.Listed.{found_same}
use Rattle.card.specs.Card.{Entry, entry}
use Rattle.syntax.specs.Tree.{Path, name, member}
use Rattle.judge.specs.Sets.{lookup, is_under, values_at, keep}
use Rattle.judge.specs.Verdicts.{some_value}
use Rattle.judge.proofs.Rules.{some_there, names_iff}
use Rattle.fields.specs.Used.{Holds, SameUnder, same_name, same_member}
use Rattle.fields.proofs.Sets.{SameMembers, values_there, values_back, keep_there, keep-back}

-- each text of the first list is in the second
unfoldable pub within : (xs ys : List (List ℕ)) → Bool
within [] ys = true
within (x ∷ xs) ys = some_value (equal x) ys && within xs ys

within_there : (xs ys : List (List ℕ)) → within xs ys ≡ true → (x : List ℕ) → Memᴰ x xs → Memᴰ x ys
unfolding within
within_there [] ys t x m = absurd (Memᴰ.not-nil m)
within_there (y ∷ xs) ys t x m =
    let w = some_there (equal y) ys (and_left (some_value (equal y) ys) (within xs ys) t) in
    ⊎_elim (λ q. subst (λ (z : List ℕ). Memᴰ z ys) (sym (q ∙ equal-same y w.0 w.2)) w.1)
    (λ q. within_there xs ys (and_right (some_value (equal y) ys) (within xs ys) t) x q) (Memᴰ.cases_cons m)

members_by : (xs ys : List (List ℕ)) → (within xs ys && within ys xs) ≡ true → SameMembers xs ys
members_by xs ys t x =
    (within_there xs ys (and_left (within xs ys) (within ys xs) t) x, within_there ys xs (and_right (within xs ys) (within ys xs) t) x)

-- the same members, by a test
abbrev pub alike : (xs ys : List (List ℕ)) → Bool
alike xs ys = within xs ys && within ys xs

found-index : {i k j l : ℕ} → found_at i k ≡ found_at j l → i ≡ j
found-index e = (found_same e).0

-- each text under the parameter with the index i, with its occurrence before it
abbrev marked : Entry → List ℕ
marked e = e.occurrence ∷ e.text

abbrev pub marks_at : ℕ → List Entry → List (List ℕ)
marks_at i es = map marked (keep (is_under i) es)

marks-back : (i : ℕ) (es : List Entry) (o : ℕ) (x : List ℕ) → Holds es i o x → Memᴰ (o ∷ x) (marks_at i es)
marks-back i es o x m = Memᴰ.map marked (keep-back (is_under i) es (entry i o x) m (eq-eqb i i refl))

marks_there : (i : ℕ) (es : List Entry) (o : ℕ) (x : List ℕ) → Memᴰ (o ∷ x) (marks_at i es) → Holds es i o x
marks_there i es o x m =
    let (e, stands, is) = Memᴰ.of_map marked (keep (is_under i) es) m in
    let (there, u) = keep_there (is_under i) es e stands in
    let index : e.index ≡ i = eqb-true e.index i u in
    let occurrence : e.occurrence ≡ o = cc in
    let text : e.text ≡ x = cc in
    subst (λ (d : Entry). Memᴰ d es) (ap (λ (j : ℕ). entry j e.occurrence e.text) index ∙ ap₂ (λ (n : ℕ) (y : List ℕ). entry i n y) occurrence text) there

module _ (ps : List Parameter) (w : WellFormedSheet ps) (es es' : List Entry) (i k : ℕ) where
  pub name_by : (n : List ℕ) → lookup ps 0 (name n) ≡ found_at i k → alike (values_at i es) (values_at i es') ≡ true → SameUnder ps es es' (name n)
  name_by n e t =
      same_name (λ j l named x.
      let same : i ≡ j = found-index (sym e ∙ (names_iff ps w (name n) j l).1 named) in
      let h = members_by (values_at i es) (values_at i es') t x in
      rw (← same) ((λ held. values_there i es' x (h.0 (values_back i es held.0 x held.1))), (λ held. values_there i es x (h.1 (values_back i es' held.0 x held.1)))))

  pub member_by_lem : (b : List ℕ) (path : Path) → lookup ps 0 (member b path) ≡ found_at i k → alike (marks_at i es) (marks_at i es') ≡ true → SameUnder ps es es' (member b path)
  member_by_lem b path e t =
      same_member (λ j l named o x.
      let same : i ≡ j = found-index (sym e ∙ (names_iff ps w (member b path) j l).1 named) in
      let h = members_by (marks_at i es) (marks_at i es') t (o ∷ x) in
      rw (← same) ((λ held. marks_there i es' o x (h.0 (marks-back i es o x held))), (λ held. marks_there i es o x (h.1 (marks-back i es' o x held)))))
