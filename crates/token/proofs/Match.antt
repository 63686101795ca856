-- Laws of matching: what each answer of the code comes to.
-- Assumes nothing.
use mathlib.Core.Path.{◌≡◌, ap, ◌∙◌}
use Prim.Native.Nat.{ℕ, ◌+◌, ◌-◌, ◌≤◌, ◌<◌}
use native.Mathlib.Omega.{arith}
use mathlib.Core.Bool.{Bool, true, false, ◌&&◌, and_comm}
use mathlib.Core.List.{List, []}
use mathlib.Core.Option.{Option, some}
use lib.ListN.{length, take, drop}
use Rattle.base.proofs.Lists.{length_zero, equal_refl, equal_not}
use Rattle.text.specs.Bar.{bar}
use Rattle.text.specs.Compare.{same}
use Rattle.base.specs.Split.{first_of, parts}
use Rattle.base.proofs.Split.{split_none, split_parts}
use Rattle.token.specs.Card.{Token, token_of, split_token, card_token}
use Rattle.token.specs.Filter.{Form, no_system, split_form, form_at, filter_form}
use Rattle.token.specs.Namespace.{namespace_of, system_of}
use Rattle.token.specs.Match.{asks, meets, matches, matches_at}
use Rattle.token.proofs.Split.{split_at_none, split_at_parts, split_at-first}
use Rattle.token.proofs.Forms.{token_of_some, split_form_any_system, split_form_system_code, split_form_no_system, split_form_any_code}

-- ---- `parts_match`: s and c are the parts before and after the bar

module _ (short : Bool) (t : Token) (s c : List ℕ) where
  pub parts_lone : length s ≡ 0 → length c ≡ 0 → false ≡ meets short (some t) (split_form (parts s c))
  unfolding meets split_form
  parts_lone hs hc = rw (length_zero s hs, length_zero c hc)

  module _ (hs : length s ≡ 0) (hc : length c ≡ 0 → ⊥) where
    meets_no_system : meets short (some t) (split_form (parts s c)) ≡ asks short (no_system c) t
    unfolding meets
    meets_no_system = rw (length_zero s hs, split_form_no_system c (omega arith))

    pub parts_some_system : (length t.system ≡ 0 → ⊥) → false ≡ meets short (some t) (split_form (parts s c))
    unfolding asks
    parts_some_system h = rw (meets_no_system, equal_not t.system [] (λ e. h (ap length e)))

    pub parts_no_system : (r : Bool) → length t.system ≡ 0 → r ≡ same t.code c → r ≡ meets short (some t) (split_form (parts s c))
    unfolding asks
    parts_no_system r h e = rw (meets_no_system, length_zero t.system h, equal_refl []) e

  module _ (hs : length s ≡ 0 → ⊥) where
    pub parts_any_code : (r : Bool) → length c ≡ 0 → r ≡ same t.system (system_of short s) → r ≡ meets short (some t) (split_form (parts s c))
    unfolding meets asks
    parts_any_code r hc e = rw (length_zero c hc, split_form_any_code s (omega arith)) e

    module _ (hc : length c ≡ 0 → ⊥) (q : Bool) (e : q ≡ same t.code c) where
      meets_system_code : meets short (some t) (split_form (parts s c)) ≡ (q && same t.system (system_of short s))
      unfolding meets asks
      meets_system_code = rw (split_form_system_code s c (omega arith) (omega arith), ← e) (and_comm (same t.system (system_of short s)) q)

      pub parts_other_code : q ≡ false → q ≡ meets short (some t) (split_form (parts s c))
      parts_other_code f = rw (meets_system_code, f)

      pub parts_system_code : (r : Bool) → q ≡ true → r ≡ same t.system (system_of short s) → r ≡ meets short (some t) (split_form (parts s c))
      parts_system_code r p er = rw (meets_system_code, p) er

-- ---- `system_matches`

pub system_short : (short : Bool) (system s : List ℕ) (r : Bool) → short ≡ true → r ≡ same system (namespace_of s) → r ≡ same system (system_of short s)
unfolding system_of
system_short short system s r h e = rw h e

pub system_itself : (short : Bool) (system s : List ℕ) (r : Bool) → short ≡ false → r ≡ same system s → r ≡ same system (system_of short s)
unfolding system_of
system_itself short system s r h e = rw h e

-- ---- `token_matches`: s and c are the card's system and code

module _ (short : Bool) (s c asked : List ℕ) (i : ℕ) where
  pub token_no_code : length c ≡ 0 → false ≡ meets short (token_of s c) (form_at i asked)
  unfolding token_of meets
  token_no_code h = rw (length_zero c h)

  module _ (hc : length c ≡ 0 → ⊥) where
    pub token-at-bar : (r : Bool) → i < length asked → r ≡ meets short (some (record { system = s; code = c })) (split_form (parts (take i asked) (take (length asked - (i + 1)) (drop (i + 1) asked)))) → r ≡ meets short (token_of s c) (form_at i asked)
    unfolding form_at
    token-at-bar r h er = rw (token_of_some s c (omega arith), split_at_parts asked i h) er

    pub token_empty : length asked ≤ i → length asked ≡ 0 → false ≡ meets short (token_of s c) (form_at i asked)
    unfolding form_at split_form meets
    token_empty h hf = rw (token_of_some s c (omega arith), split_at_none asked i h, length_zero asked hf)

    pub token_any_system : (r : Bool) → length asked ≤ i → (length asked ≡ 0 → ⊥) → r ≡ same c asked → r ≡ meets short (token_of s c) (form_at i asked)
    unfolding form_at meets asks
    token_any_system r h hf er = rw (token_of_some s c (omega arith), split_at_none asked i h, split_form_any_system asked (omega arith)) er

-- ---- `split_matches`

module _ (short : Bool) (card : List ℕ) (form : Option Form) (i : ℕ) (r : Bool) (e : i ≡ first_of bar card) where
  pub card-at-bar : i < length card → r ≡ meets short (token_of (take i card) (take (length card - (i + 1)) (drop (i + 1) card))) form → r ≡ meets short (card_token card) form
  unfolding card_token split_token
  card-at-bar h er = rw (split_parts bar card i e h) er

  pub card_no_bar : length card ≤ i → r ≡ meets short (token_of [] card) form → r ≡ meets short (card_token card) form
  unfolding card_token split_token
  card_no_bar h er = rw (split_none bar card i e h) er

-- ---- `matches` and `matches_at`

module _ (card asked : List ℕ) (i : ℕ) (r : Bool) where
  pub matches_by : i ≡ first_of bar asked → r ≡ meets true (card_token card) (form_at i asked) → r ≡ matches card asked
  unfolding matches filter_form form_at
  matches_by e er = er ∙ rw (e, split_at-first asked)

  pub matches-at_by : r ≡ meets false (card_token card) (form_at i asked) → r ≡ matches_at card i asked
  unfolding matches_at
  matches-at_by er = er
