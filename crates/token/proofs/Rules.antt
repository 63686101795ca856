-- The tests that the code computes are the rules: a system stands for the namespace that is found, and a form asks for a token.
-- Assumes nothing.
use Prim.Native.Nat.{ℕ}
use mathlib.Core.Path.{◌≡◌, refl, sym, ap, ◌∙◌}
use mathlib.Core.Bool.{Bool, true, false}
use mathlib.Core.List.{List, []}
use mathlib.Core.Logic.{◌↔◌}
use Rattle.base.specs.Ascii.{ascii}
use Rattle.base.specs.Lists.{equal}
use Rattle.base.proofs.Lists.{equal-same, equal_refl}
use Rattle.base.proofs.Tests.{and_left, and_right, and_both, both_ways, cond-elim}
use Rattle.text.specs.Fold.{is_capital, is_accented, fold_byte, fold_from, fold_text}
use Rattle.text.specs.Compare.{same}
use Rattle.text.proofs.Readings.{same_iff}
use Rattle.token.specs.Card.{Token}
use Rattle.token.specs.Filter.{Form, any_system, system_code, no_system, any_code}
use Rattle.token.specs.Namespace.{stands_for, namespace_of, system_of}
use Rattle.token.specs.Match.{asks}
use Rattle.token.specs.Rules.{StandsFor, stands_for_loinc, stands_for_snomed, stands_for_rxnorm, stands_for_ucum, stands_for_itself, Itself, AsksBy, Asks, asks_any_system, asks_system_code, asks_no_system, asks_any_code}

-- ---- systems

-- a short name is folded already
short_folded : (fold_text (ascii "loinc") ≡ ascii "loinc") × (fold_text (ascii "snomed") ≡ ascii "snomed") × (fold_text (ascii "rxnorm") ≡ ascii "rxnorm") × (fold_text (ascii "ucum") ≡ ascii "ucum")
unfolding fold_text fold_from fold_byte is_capital is_accented
short_folded = (refl, refl, refl, refl)

module _ (s : List ℕ) where
  -- the test for a short name
  is_short : (name : List ℕ) → fold_text name ≡ name → same s name ≡ true → fold_text s ≡ name
  is_short name folded h = (same_iff s name).0 h ∙ folded

  not_short : (name : List ℕ) → fold_text name ≡ name → same s name ≡ false → fold_text s ≡ name → ⊥
  not_short name folded h e = both_ways ((same_iff s name).1 (e ∙ sym folded)) h

  -- what is found is what the system stands for
  pub namespace_stands : StandsFor s (namespace_of s)
  unfolding namespace_of stands_for
  namespace_stands =
      cond-elim (StandsFor s) (same s (ascii "loinc")) (λ h. stands_for_loinc (is_short (ascii "loinc") short_folded.0 h))
      (λ a. cond-elim (StandsFor s) (same s (ascii "snomed")) (λ h. stands_for_snomed (is_short (ascii "snomed") short_folded.1 h))
      (λ b. cond-elim (StandsFor s) (same s (ascii "rxnorm")) (λ h. stands_for_rxnorm (is_short (ascii "rxnorm") short_folded.2 h))
      (λ c. cond-elim (StandsFor s) (same s (ascii "ucum")) (λ h. stands_for_ucum (is_short (ascii "ucum") short_folded.3 h))
      (λ d. stands_for_itself (not_short (ascii "loinc") short_folded.0 a) (not_short (ascii "snomed") short_folded.1 b) (not_short (ascii "rxnorm") short_folded.2 c)
      (not_short (ascii "ucum") short_folded.3 d)))))

  -- the tests for the short names, where the folded system is known
  tested : (t : List ℕ) → fold_text s ≡ t → (name : List ℕ) → same s name ≡ equal t (fold_text name)
  unfolding same
  tested t e name = rw e

  absent : (name : List ℕ) → fold_text name ≡ name → (fold_text s ≡ name → ⊥) → same s name ≡ false
  absent name folded h = go (same s name) refl
    where
      go : (b : Bool) → same s name ≡ b → b ≡ false
      go true e = absurd (h (is_short name folded e))
      go false e = refl

  -- a system stands for one namespace, the one that is found
  pub stands_namespace : {n : List ℕ} → StandsFor s n → namespace_of s ≡ n
  unfolding namespace_of stands_for equal fold_text fold_from fold_byte is_capital is_accented
  stands_namespace (stands_for_loinc e) = rw (tested (ascii "loinc") e (ascii "loinc"))
  stands_namespace (stands_for_snomed e) = let t = tested (ascii "snomed") e in rw (t (ascii "loinc"), t (ascii "snomed"))
  stands_namespace (stands_for_rxnorm e) = let t = tested (ascii "rxnorm") e in rw (t (ascii "loinc"), t (ascii "snomed"), t (ascii "rxnorm"))
  stands_namespace (stands_for_ucum e) = let t = tested (ascii "ucum") e in rw (t (ascii "loinc"), t (ascii "snomed"), t (ascii "rxnorm"), t (ascii "ucum"))
  stands_namespace (stands_for_itself a b c d) =
      rw (absent (ascii "loinc") short_folded.0 a, absent (ascii "snomed") short_folded.1 b, absent (ascii "rxnorm") short_folded.2 c, absent (ascii "ucum") short_folded.3 d)

-- ---- forms, where Stands is what a system stands for, with the short names or without

module _ (short : Bool) (Stands : List ℕ → List ℕ → Type 0) (stands : (s : List ℕ) → Stands s (system_of short s)) (one : (s n : List ℕ) → Stands s n → system_of short s ≡ n) where
  -- the test of a system against what the one that is asked for stands for
  system_there : (x s : List ℕ) → same x (system_of short s) ≡ true → fold_text x ≡ fold_text (system_of short s)
  system_there x s = (same_iff x (system_of short s)).0

  system_back : (x s : List ℕ) {n : List ℕ} → Stands s n → fold_text x ≡ fold_text n → same x (system_of short s) ≡ true
  system_back x s {n} f e = (same_iff x (system_of short s)).1 (e ∙ ap fold_text (sym (one s n f)))

  there : (f : Form) (t : Token) → asks short f t ≡ true → AsksBy Stands f t
  unfolding asks
  there (any_system c) t h = asks_any_system ((same_iff t.code c).0 h)
  there (system_code s c) t h =
      asks_system_code (stands s) (system_there t.system s (and_left (same t.system (system_of short s)) (same t.code c) h))
      ((same_iff t.code c).0 (and_right (same t.system (system_of short s)) (same t.code c) h))
  there (no_system c) t h =
      asks_no_system (equal-same t.system [] (and_left (equal t.system []) (same t.code c) h)) ((same_iff t.code c).0 (and_right (equal t.system []) (same t.code c) h))
  there (any_code s) t h = asks_any_code (stands s) (system_there t.system s h)

  back : {f : Form} {t : Token} → AsksBy Stands f t → asks short f t ≡ true
  unfolding asks
  back (asks_any_system {c = c} {t = t} e) = (same_iff t.code c).1 e
  back (asks_system_code {s = s} {c = c} {t = t} f e d) = and_both (same t.system (system_of short s)) (same t.code c) (system_back t.system s f e) ((same_iff t.code c).1 d)
  back (asks_no_system {c = c} {t = t} e d) = and_both (equal t.system []) (same t.code c) (rw e (equal_refl [])) ((same_iff t.code c).1 d)
  back (asks_any_code {s = s} {t = t} f e) = system_back t.system s f e

  forms_read : (f : Form) (t : Token) → (asks short f t ≡ true) ↔ AsksBy Stands f t
  forms_read f t = (there f t, back)

-- a form asks for a token exactly where the test says so
pub asks_iff : (f : Form) (t : Token) → (asks true f t ≡ true) ↔ Asks f t
unfolding system_of
asks_iff = forms_read true StandsFor namespace_stands (λ s n. stands_namespace s)

-- and without the short names
pub asks_itself : (f : Form) (t : Token) → (asks false f t ≡ true) ↔ AsksBy Itself f t
unfolding system_of
asks_itself = forms_read false Itself (λ s. refl) (λ s n e. e)
