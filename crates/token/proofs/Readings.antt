-- What being readable, the forms and matching mean, by the spellings.
-- A text is cut at its first bar or has none (`split_cases`), and which form it spells depends on whether the parts are empty; so every
-- direction goes by these cases. A text of a search string comes with the index of its cut, and goes by whether that lies inside it
-- (`form_at_iff`). Unreadable in a filter are the empty text and a lone bar only (`filter_unreadable_iff`). A match means that the card
-- spells a token, that the other text spells a form, and that the form asks for the token (`meets_reads`): each of the two texts is read to
-- one or to none.
-- Assumes nothing.
use mathlib.Core.Path.{◌≡◌, refl, sym, ap, ◌∙◌, subst}
use Prim.Native.Nat.{ℕ, ◌+◌, ◌≤◌, ◌<◌}
use native.Mathlib.Numerals.{add-one}
use native.Mathlib.Omega.{arith}
use mathlib.Core.Bool.{Bool, true, false, false≢true, true≢false}
use mathlib.Core.List.{List, [], ◌∷◌, ◌++◌}
use mathlib.Core.Logic.{◌⊎◌, inl, inr, ⊎_elim, ◌↔◌}
use mathlib.Core.Option.{Option, none, some, some-injective, none-ne-some}
use lib.Dec.{ltb}
use lib.ListN.{length, get_or, take, drop}
use lib.Seq.{split_at as seam, length-take-le}
use borrow.Author.Tests.{ltb-true, ltb-false}
use Rattle.base.specs.Lists.{all_empty}
use Rattle.base.specs.Options.{is_some}
use Rattle.base.proofs.Options.{is_some_iff}
use Rattle.base.proofs.Tests.{cond-elim}
use Rattle.text.specs.Bar.{bar, NoBar}
use Rattle.base.specs.Split.{Split, whole, parts}
use Rattle.base.proofs.Split.{split-whole, split_at_lem, split_cases}
use Rattle.token.specs.Split.{split_at}
use Rattle.token.specs.Card.{Token, token_of, split_token, card_token, card_readable}
use Rattle.token.specs.Filter.{Form, split_form, form_at, filter_form, filter_readable}
use Rattle.token.specs.Match.{asks, meets, matches, matches_at}
use Rattle.token.specs.Rules.{StandsFor, Itself, AsksBy, Asks}
use Rattle.token.specs.Spelling.{NotEmpty, CardSpells, spells_code, spells_token, FilterSpells, spells_any_system, spells_system_code, spells_no_system, spells_any_code, SplitSpells, split_any_system, split_system_code, split_no_system, split_any_code}
use Rattle.token.proofs.Split.{split_at_none, split_at_there}
use Rattle.token.proofs.Rules.{asks_iff, asks_itself}
use Rattle.token.proofs.Forms.{token_of_some, split_form_any_system, split_form_system_code, split_form_no_system, split_form_any_code}

-- ---- cards

token_of_parts : (k : Token) (s c : List ℕ) → token_of s c ≡ some k → NotEmpty c × (record { system = s; code = c } ≡ k)
unfolding token_of
token_of_parts k s [] e = absurd (none-ne-some k e)
token_of_parts k s (x ∷ c) e = (omega arith, some-injective _ k e)

card_token_spells : (k : Token) (t : List ℕ) → card_token t ≡ some k → CardSpells t k
unfolding card_token split_token
card_token_spells k =
    split_cases bar (λ (t : List ℕ). card_token t ≡ some k → CardSpells t k)
    (λ c h e. let w = token_of_parts k [] c (rw (split-whole bar c h) at e) in subst (CardSpells c) w.1 (spells_code h w.0))
    (λ s c h e. let w = token_of_parts k s c (rw (split_at_lem bar s c h) at e) in subst (CardSpells (s ++ (bar ∷ c))) w.1 (spells_token h w.0))

spells_card_token : {t : List ℕ} {k : Token} → CardSpells t k → card_token t ≡ some k
unfolding card_token split_token
spells_card_token (spells_code {c = c} h n) = rw (split-whole bar c h) (token_of_some [] c n)
spells_card_token (spells_token {s = s} {c = c} h n) = rw (split_at_lem bar s c h) (token_of_some s c n)

pub card_token_iff : (t : List ℕ) (k : Token) → (card_token t ≡ some k) ↔ CardSpells t k
card_token_iff t k = (card_token_spells k t, spells_card_token)

pub card_readable_iff : (t : List ℕ) → (card_readable t ≡ true) ↔ ((k : Token) × CardSpells t k)
unfolding card_readable
card_readable_iff t = is_some_iff (CardSpells t) (card_token t) (card_token_iff t)

-- ---- filters

no_bar_spells : (f : Form) (c : List ℕ) → NoBar c → split_form (whole c) ≡ some f → FilterSpells c f
unfolding split_form
no_bar_spells f [] h e = absurd (none-ne-some f e)
no_bar_spells f (x ∷ c) h e = subst (FilterSpells (x ∷ c)) (some-injective _ f e) (spells_any_system h (omega arith))

at-bar_spells : (f : Form) (s c : List ℕ) → NoBar s → split_form (parts s c) ≡ some f → FilterSpells (s ++ (bar ∷ c)) f
unfolding split_form
at-bar_spells f [] [] h e = absurd (none-ne-some f e)
at-bar_spells f [] (x ∷ c) h e = subst (FilterSpells _) (some-injective _ f e) (spells_no_system (omega arith))
at-bar_spells f (y ∷ s) [] h e = subst (FilterSpells _) (some-injective _ f e) (spells_any_code h (omega arith))
at-bar_spells f (y ∷ s) (x ∷ c) h e = subst (FilterSpells _) (some-injective _ f e) (spells_system_code h (omega arith) (omega arith))

filter_form_spells : (f : Form) (t : List ℕ) → filter_form t ≡ some f → FilterSpells t f
unfolding filter_form
filter_form_spells f =
    split_cases bar (λ (t : List ℕ). filter_form t ≡ some f → FilterSpells t f)
    (λ c h e. no_bar_spells f c h (rw (split-whole bar c h) at e))
    (λ s c h e. at-bar_spells f s c h (rw (split_at_lem bar s c h) at e))

spells_filter_form : {t : List ℕ} {f : Form} → FilterSpells t f → filter_form t ≡ some f
unfolding filter_form
spells_filter_form (spells_any_system {c = c} h n) = rw (split-whole bar c h) (split_form_any_system c n)
spells_filter_form (spells_system_code {s = s} {c = c} h m n) = rw (split_at_lem bar s c h) (split_form_system_code s c m n)
spells_filter_form (spells_no_system {c = c} n) = rw (split_at_lem bar [] c all_empty) (split_form_no_system c n)
spells_filter_form (spells_any_code {s = s} h m) = rw (split_at_lem bar s [] h) (split_form_any_code s m)

pub filter_form_iff : (t : List ℕ) (f : Form) → (filter_form t ≡ some f) ↔ FilterSpells t f
filter_form_iff t f = (filter_form_spells f t, spells_filter_form)

pub filter_readable_iff : (t : List ℕ) → (filter_readable t ≡ true) ↔ ((f : Form) × FilterSpells t f)
unfolding filter_readable
filter_readable_iff t = is_some_iff (FilterSpells t) (filter_form t) (filter_form_iff t)

-- ---- a text that is split at an index of its own

whole_spells : (c : List ℕ) (i : ℕ) (f : Form) → length c ≤ i → split_form (whole c) ≡ some f → SplitSpells c i f
unfolding split_form
whole_spells [] i f h e = absurd (none-ne-some f e)
whole_spells (x ∷ c) i f h e = subst (SplitSpells (x ∷ c) i) (some-injective _ f e) (split_any_system h (omega arith))

parts_spell : (s c : List ℕ) (b : ℕ) (f : Form) → split_form (parts s c) ≡ some f → SplitSpells (s ++ (b ∷ c)) (length s) f
unfolding split_form
parts_spell [] [] b f e = absurd (none-ne-some f e)
parts_spell [] (x ∷ c) b f e = subst (SplitSpells (b ∷ x ∷ c) 0) (some-injective _ f e) (split_no_system b (omega arith))
parts_spell (y ∷ s) [] b f e = subst (SplitSpells ((y ∷ s) ++ (b ∷ [])) (length (y ∷ s))) (some-injective _ f e) (split_any_code b (omega arith))
parts_spell (y ∷ s) (x ∷ c) b f e =
    subst (SplitSpells ((y ∷ s) ++ (b ∷ x ∷ c)) (length (y ∷ s))) (some-injective _ f e) (split_system_code b (omega arith) (omega arith))

form_at_spells : (t : List ℕ) (i : ℕ) (f : Form) → form_at i t ≡ some f → SplitSpells t i f
unfolding form_at split_at
form_at_spells t i f =
    cond-elim (λ (d : Split). split_form d ≡ some f → SplitSpells t i f) (ltb i (length t))
    (λ h e.
    let l : i < length t = ltb-true i (length t) h in
    let all : t ≡ take i t ++ (get_or t i 0 ∷ drop (i + 1) t) = seam t i 0 l ∙ ap (λ (n : ℕ). take i t ++ (get_or t i 0 ∷ drop n t)) (sym (add-one i)) in
    let size : length (take i t) ≡ i = length-take-le i t (omega arith) in
    subst (λ (u : List ℕ). SplitSpells u i f) (sym all)
    (subst (λ (n : ℕ). SplitSpells (take i t ++ (get_or t i 0 ∷ drop (i + 1) t)) n f) size (parts_spell (take i t) (drop (i + 1) t) (get_or t i 0) f e)))
    (λ h e. whole_spells t i f (ltb-false i (length t) h) e)

spells_form_at : {t : List ℕ} {i : ℕ} {f : Form} → SplitSpells t i f → form_at i t ≡ some f
unfolding form_at
spells_form_at (split_any_system {c = c} {i = i} h n) = rw (split_at_none c i h) (split_form_any_system c n)
spells_form_at (split_system_code {s = s} {c = c} b m n) = rw (split_at_there s c b) (split_form_system_code s c m n)
spells_form_at (split_no_system {c = c} b n) = rw (split_at_there [] c b) (split_form_no_system c n)
spells_form_at (split_any_code {s = s} b m) = rw (split_at_there s [] b) (split_form_any_code s m)

pub form_at_iff : (t : List ℕ) (i : ℕ) (f : Form) → (form_at i t ≡ some f) ↔ SplitSpells t i f
form_at_iff t i f = (form_at_spells t i f, spells_form_at)

-- ---- unreadable in a filter: an empty text and a lone bar, and nothing else

no_bar_unreadable : (c : List ℕ) → is_some (split_form (whole c)) ≡ false → (c ≡ []) ⊎ (c ≡ bar ∷ [])
unfolding split_form
no_bar_unreadable [] h = inl refl
no_bar_unreadable (x ∷ c) h = absurd (true≢false h)

at-bar_unreadable : (s c : List ℕ) → is_some (split_form (parts s c)) ≡ false → (s ++ (bar ∷ c) ≡ []) ⊎ (s ++ (bar ∷ c) ≡ bar ∷ [])
unfolding split_form
at-bar_unreadable [] [] h = inr refl
at-bar_unreadable [] (x ∷ c) h = absurd (true≢false h)
at-bar_unreadable (y ∷ s) [] h = absurd (true≢false h)
at-bar_unreadable (y ∷ s) (x ∷ c) h = absurd (true≢false h)

empty_unreadable : filter_readable [] ≡ false
unfolding filter_readable filter_form split_form
empty_unreadable = rw (split-whole bar [] all_empty)

lone_unreadable : filter_readable (bar ∷ []) ≡ false
unfolding filter_readable filter_form split_form
lone_unreadable = rw (split_at_lem bar [] [] all_empty)

pub filter_unreadable_iff : (t : List ℕ) → (filter_readable t ≡ false) ↔ ((t ≡ []) ⊎ (t ≡ bar ∷ []))
unfolding filter_readable filter_form
filter_unreadable_iff t = (
  split_cases bar (λ (u : List ℕ). filter_readable u ≡ false → (u ≡ []) ⊎ (u ≡ bar ∷ []))
      (λ c h e. no_bar_unreadable c (rw (split-whole bar c h) at e))
      (λ s c h e. at-bar_unreadable s c (rw (split_at_lem bar s c h) at e))
      t,
  ⊎_elim (λ e. rw e empty_unreadable) (λ e. rw e lone_unreadable),
)

-- ---- matching: the card spells a token, what is asked a form, and the form asks for the token

module _ (short : Bool) (Stands : List ℕ → List ℕ → Type 0) (asks-are : (f : Form) (k : Token) → (asks short f k ≡ true) ↔ AsksBy Stands f k) where
  meets_reads : (card : List ℕ) (form : Option Form) (Spelled : Form → Type 0) → ((f : Form) → (form ≡ some f) ↔ Spelled f)
      → (meets short (card_token card) form ≡ true) ↔ ((k : Token) × (f : Form) × CardSpells card k × Spelled f × AsksBy Stands f k)
  unfolding meets
  meets_reads card form Spelled spelled =
      (read (card_token card) form refl refl, λ w. rw (spells_card_token w.2, (spelled w.1).1 w.3) ((asks-are w.1 w.0).1 w.4))
    where
      read : (o : Option Token) (p : Option Form) → card_token card ≡ o → form ≡ p → meets short o p ≡ true → (k : Token) × (f : Form) × CardSpells card k × Spelled f × AsksBy Stands f k
      read none p e d h = absurd (false≢true h)
      read (some k) none e d h = absurd (false≢true h)
      read (some k) (some f) e d h = (k, f, card_token_spells k card e, (spelled f).0 d, (asks-are f k).0 h)

pub matches_iff : (card filter : List ℕ) → (matches card filter ≡ true) ↔ ((k : Token) × (f : Form) × CardSpells card k × FilterSpells filter f × Asks f k)
unfolding matches
matches_iff card filter = meets_reads true StandsFor asks_iff card (filter_form filter) (FilterSpells filter) (filter_form_iff filter)

-- and without the short names, of a text that is split at the index i
pub matches_at_iff : (card : List ℕ) (i : ℕ) (text : List ℕ) → (matches_at card i text ≡ true) ↔ ((k : Token) × (f : Form) × CardSpells card k × SplitSpells text i f × AsksBy Itself f k)
unfolding matches_at
matches_at_iff card i text = meets_reads false Itself asks_itself card (form_at i text) (SplitSpells text i) (form_at_iff text i)
