-- What is computed of a query is what the rules say of it.
-- Assumes nothing.
use Rattle.std.specs.Prelude.{Option, None, Some}
use Prim.Native.Nat.{ℕ}
use mathlib.Core.Path.{◌≡◌, refl, ap, sym, ◌∙◌, subst}
use mathlib.Core.Bool.{Bool, true, false, false≢true, ◌&&◌}
use mathlib.Core.Logic.{◌↔◌, ⊎_elim}
use mathlib.Core.List.Memᴰ
use mathlib.Core.List.{List, [], ◌∷◌, Memᴰ}
use lib.Dec.{eqb}
use borrow.Author.Tests.{ne_eqb, eqb-true, eqb-false}
use Rattle.base.specs.Kinds.{token, bundle_kind}
use Rattle.base.specs.Lists.{All, all_empty, all_cons}
use Rattle.base.proofs.Tests.{and_left, and_right, and_both, or_either, or_left, or_right, both_ways, decided}
use Rattle.token.specs.Match.{matches_at}
use Rattle.token.proofs.Readings.{matches_at_iff}
use Rattle.sheet.specs.Sheet.{Parameter}
use Rattle.sheet.specs.Encode.{ValueKind, WellFormedSheet}
use Rattle.sheet.specs.Find.{found_at}
use Rattle.sheet.specs.declared.Found.{Found}
use Rattle.card.specs.Card.{Entry}
use Rattle.syntax.specs.Tree.{name}
use Rattle.kind.specs.Table.{meaning_of, row_meaning, row, of_kind, kinds, relation_in}
use Rattle.judge.specs.Sets.{lookup, values_at}
use Rattle.judge.specs.Verdicts.{some_value, says_of, says_at, test_says}
use Rattle.judge.specs.Rules.{Names}
use Rattle.judge.proofs.Rules.{names_iff, names_kind, says_iff, some_there, some_back}
use Rattle.query.specs.Spelling.{Alternative, Query}
use Rattle.search.specs.Asking.{takes_prefix, asked_of}
use Rattle.search.specs.Meaning as text
use Rattle.query.specs.Met.{pair_met, query_met}
use Rattle.search.specs.Meaning.{text_says, alternative_says, query_says}
use Rattle.search.specs.Rules.{test_of, AlternativeSays, says_token, says_test, QuerySays}
use Rattle.search.proofs.Asking.{asks_for, asked_is, asked_there, never_pr}

-- a bundle's name says nothing
bundle_silent : (t : List ℕ) (set : List (List ℕ)) → says_of (meaning_of (asked_of bundle_kind t).operator bundle_kind) (asked_of bundle_kind t).value set ≡ false
unfolding asked_of takes_prefix meaning_of row_meaning row of_kind kinds relation_in says_of
bundle_silent t set = refl

module _ (ps : List Parameter) (w : WellFormedSheet ps) (es : List Entry) (a : Alternative) where
  abbrev path_found : Option Found
  path_found = lookup ps 0 (name a.name)

  -- ---- at the parameter that is named

  token_there : (i : ℕ) → Names ps (name a.name) i token → some_value (λ x. matches_at x a.split a.text) (values_at i es) ≡ true → AlternativeSays ps es a
  token_there i j h =
      let x = some_there (λ x. matches_at x a.split a.text) (values_at i es) h in
      let r = (matches_at_iff x.0 a.split a.text).0 x.2 in
      says_token j x.1 r.2 r.3 r.4

  -- the test that is asked, at the parameter that is named
  test_at_lem : (i k o : ℕ) (v : List ℕ) → path_found ≡ found_at i k → test_says ps 0 es (test_of a o v) ≡ says_of (meaning_of o k) v (values_at i es)
  unfolding test_says
  test_at_lem i k o v e = ap (λ (f : Option Found). says_at f o v es) e

  test_there : (i k : ℕ) → (k ≡ token → ⊥) → Names ps (name a.name) i k → path_found ≡ found_at i k → ValueKind k
      → says_of (meaning_of (asked_of k a.text).operator k) (asked_of k a.text).value (values_at i es) ≡ true → AlternativeSays ps es a
  test_there i k other j e v h =
      let asked = asked_there k a.text v in
      let o = (asked_of k a.text).operator in
      let t = (asked_of k a.text).value in
      says_test other j asked ((says_iff ps w 0 es (test_of a o t) (λ p. absurd (never_pr asked p))).0 (test_at_lem i k o t e ∙ h))

  says_there : (f : Option Found) → path_found ≡ f → text.says_at f a.split a.text es ≡ true → AlternativeSays ps es a
  unfolding text_says
  says_there None e h = absurd (false≢true h)
  says_there (Some found) e h =
      let j = (names_iff ps w (name a.name) found.index found.kind).0 e in
      ⊎_elim
      (λ t. token_there found.index (subst (λ (m : ℕ). Names ps (name a.name) found.index m) (eqb-true found.kind token t) j) (rw t at h))
      (λ t. ⊎_elim
      (λ v. test_there found.index found.kind (eqb-false found.kind token t) j e v (rw t at h))
      (λ b. absurd (both_ways (rw t at h) (ap (λ (m : ℕ). says_of (meaning_of (asked_of m a.text).operator m) (asked_of m a.text).value (values_at found.index es)) b ∙ bundle_silent a.text (values_at found.index es))))
      (names_kind ps w j))
      (decided (eqb found.kind token))

  says_back : AlternativeSays ps es a → alternative_says ps es a ≡ true
  unfolding alternative_says text_says
  says_back (says_token {i = i} {x = x} {t = t} {f = f} j m c s q) =
      let e = (names_iff ps w (name a.name) i token).1 j in
      rw e (some_back (λ x. matches_at x a.split a.text) m ((matches_at_iff x a.split a.text).1 (t, f, c, s, q)))
  says_back (says_test {i = i} {k = k} {o = o} {v = v} other j asked s) =
      let e = (names_iff ps w (name a.name) i k).1 j in
      let q : asked_of k a.text ≡ asks_for o v = asked_is asked other in
      let n : eqb k token ≡ false = ne_eqb k token other in
      rw (e, n, q) (sym (test_at_lem i k o v e) ∙ (says_iff ps w 0 es (test_of a o v) (λ p. absurd (never_pr asked p))).1 s)

  pub alternative-says_iff : (alternative_says ps es a ≡ true) ↔ AlternativeSays ps es a
  unfolding alternative_says
  alternative-says_iff = (says_there path_found refl, says_back)

-- ---- pairs and queries

module _ (says : Alternative → Bool) (Says : Alternative → Type 0) (iff : (a : Alternative) → (says a ≡ true) ↔ Says a) where
  pair_there : (p : List Alternative) → pair_met says p ≡ true → (a : Alternative) × Memᴰ a p × Says a
  unfolding pair_met
  pair_there [] h = absurd (false≢true h)
  pair_there (a ∷ rest) h =
      ⊎_elim (λ e. (a, Memᴰ.head refl, (iff a).0 e)) (λ e. let (b, m, s) = pair_there rest e in (b, Memᴰ.tail m, s)) (or_either (says a) (pair_met says rest) h)

  pair-back : (p : List Alternative) (a : Alternative) → Memᴰ a p → Says a → pair_met says p ≡ true
  unfolding pair_met
  pair-back [] a m s = absurd (Memᴰ.not-nil m)
  pair-back (b ∷ rest) a m s =
      ⊎_elim (λ e. or_left (says b) (pair_met says rest) (ap says (sym e) ∙ (iff a).1 s)) (λ n. or_right (says b) (pair_met says rest) (pair-back rest a n s)) (Memᴰ.cases_cons m)

  abbrev Met : List Alternative → Type 0
  Met p = (a : Alternative) × Memᴰ a p × Says a

  query_met_iff : (q : Query) → (query_met says q ≡ true) ↔ All Met q
  unfolding query_met
  query_met_iff [] = ((λ _. all_empty), (λ _. refl))
  query_met_iff (p ∷ q) = (
    (λ h. all_cons (pair_there p (and_left (pair_met says p) (query_met says q) h)) ((query_met_iff q).0 (and_right (pair_met says p) (query_met says q) h))),
    (λ h. both (query_met_iff q).1 h),
  )
    where
      both : (All Met q → query_met says q ≡ true) → All Met (p ∷ q) → (pair_met says p && query_met says q) ≡ true
      both on (all_cons (a, m, s) r) = and_both (pair_met says p) (query_met says q) (pair-back p a m s) (on r)

-- a query says yes exactly where the rules do
pub query_says_iff : (ps : List Parameter) → WellFormedSheet ps → (es : List Entry) (q : Query) → (query_says ps es q ≡ true) ↔ QuerySays ps es q
unfolding query_says
query_says_iff ps w es = query_met_iff (alternative_says ps es) (AlternativeSays ps es) (alternative-says_iff ps w es)
