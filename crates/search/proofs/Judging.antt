-- What the code answers of an alternative, and the loops over a card's entries and over the rows of a query: what is left decides.
-- What one alternative says, and what fault it has, goes by the kind of its parameter, with a law for each way through the code. Over a
-- card's entries, a token is met by the entry at hand, where that is under the parameter and matches, or else by the entries after it
-- (`asked_here`, `asked_next`). The rows from the i-th on are the i-th and then those after it (`from_next`). `Facing`: no row before the
-- i-th had a fault, so the first fault of the rows left is the first of all. `Saying`: the verdict is that of the rows left, with whether
-- the pair at hand is met so far; at the last row of a pair it is no where the pair is not met, and else the next pair begins unmet.
-- Assumes nothing.
use Rattle.std.specs.Prelude.{Err, Ok, Result, ⊤}
use Prim.Native.Nat.{ℕ, ◌+◌, ◌-◌, ◌≤◌, ◌<◌}
use native.Mathlib.Numerals.{add-one}
use mathlib.Core.Path.{◌≡◌, refl, ap, sym, ◌∙◌, subst}
use mathlib.Core.Bool.{Bool, true, false, cond, not, ◌&&◌, ◌||◌}
use mathlib.Core.List.{List, ◌∷◌, ◌++◌, map}
use lib.ListN.{length, get_or, take, drop, take-append-drop, drop_of_length-le}
use lib.Seq.{drop-cons}
use borrow.Author.Tests.{eq-eqb, ne_eqb}
use Rattle.base.specs.Kinds.{token}
use Rattle.base.specs.Lists.{All}
use Rattle.base.specs.Parts.{part}
use Rattle.base.proofs.All.{all_head, all_right}
use Rattle.base.proofs.Lists.{rest}
use Rattle.token.specs.Filter.{readable_at}
use Rattle.token.specs.Match.{matches_at}
use Rattle.sheet.specs.Sheet.{Parameter}
use Rattle.sheet.specs.Find.{find}
use Rattle.card.specs.Card.{Entry}
use Rattle.kind.specs.Table.{meaning_of}
use Rattle.kind.specs.declared.Meaning.{Meaning}
use Rattle.judge.specs.Sets.{lookup, values_at, chosen_of}
use Rattle.judge.specs.Faults.{kind_fault}
use Rattle.judge.specs.Verdicts.{some_value, says_of}
use Rattle.refusal.specs.declared.Reason.{Reason}
use Rattle.refusal.specs.declared.Refusal.{Refusal}
use Rattle.refusal.specs.Decisions.{refuse, or_else}
use Rattle.judge.proofs.Entries.{every, chosen-every}
use Rattle.query.specs.Spelling.{Alternative}
use Rattle.search.specs.Asking.{asked_of, PrefixOf}
use Rattle.search.specs.Meaning.{text_fault, fault_at, alternative_fault, first_alternative_fault, text_says, says_at, alternative_says}
use Rattle.query.specs.Rows.{kept_in, kept_says, alternative_in, alternatives_in, rows_say, RowWithin, RowsWithin}
use Rattle.search.specs.declared.Prefixed.{Prefixed}
use Rattle.query.specs.declared.Row.{Row}
use Rattle.query.specs.declared.Rows.{Rows}

-- ---- the value behind a prefix, as a slice has it

module _ (kind : ℕ) (text : List ℕ) (r : Prefixed) (p : PrefixOf (asked_of kind text) text r) where
  pub prefix_within : r.skip ≤ length text
  prefix_within = p.within

  value_is : take (length text - r.skip) (drop r.skip text) ≡ (asked_of kind text).value
  value_is = rest text r.skip ∙ p.value

  module _ (split : ℕ) (other : kind ≡ 4 → ⊥) where
    pub fault_asked : (at : ℕ) (f : Result ⊤ Refusal) → f ≡ kind_fault r.operator kind (take (length text - r.skip) (drop r.skip text)) at → f ≡ text_fault kind split text at
    unfolding text_fault
    fault_asked at f e = e ∙ rw (ne_eqb kind token other, value_is, p.operator)

    pub says_asked : (i : ℕ) (es : List Entry) (m : Meaning) (b : Bool) → m ≡ meaning_of r.operator kind
        → b ≡ says_of m (take (length text - r.skip) (drop r.skip text)) (values_at i (chosen_of every es)) → b ≡ text_says kind split text (values_at i es)
    unfolding text_says
    says_asked i es m b e g = g ∙ rw (ne_eqb kind token other, value_is, e, p.operator, chosen-every es)

-- ---- the fault of an alternative

module _ (kind split : ℕ) (text : List ℕ) (p : ℕ) where
  pub token-readable : (t : Bool) → kind ≡ 4 → t ≡ readable_at split text → t ≡ true → (Ok tt) ≡ text_fault kind split text p
  unfolding text_fault
  token-readable t k e h = rw (eq-eqb kind token k, sym e ∙ h)

  module _ (f : Result ⊤ Refusal) where
    pub token_unreadable : (t : Bool) → kind ≡ 4 → t ≡ readable_at split text → t ≡ false → f ≡ refuse Reason.Unreadable p → f ≡ text_fault kind split text p
    unfolding text_fault
    token_unreadable t k e h g = g ∙ rw (eq-eqb kind token k, sym e ∙ h)

module _ (ps : List Parameter) (bytes : List ℕ) (row : Row) where
  pub row_faulted : (f : Result ⊤ Refusal) → f ≡ fault_at (find 0 (part bytes row.name row.until) ps) row.split (part bytes row.text row.end) row.at → f ≡ alternative_fault ps (alternative_in bytes row)
  unfolding alternative_fault kept_in lookup
  row_faulted f e = e

  pub row_said : (es : List Entry) (met b : Bool) → met ≡ false → b ≡ says_at (find 0 (part bytes row.name row.until) ps) row.split (part bytes row.text row.end) es
      → b ≡ (met || alternative_says ps es (alternative_in bytes row))
  unfolding alternative_says kept_in lookup
  row_said es met b m e = e ∙ rw m

  pub row_met : (es : List Entry) (met : Bool) → met ≡ true → true ≡ (met || alternative_says ps es (alternative_in bytes row))
  row_met es met m = rw m

-- ---- tokens under a parameter

pub token-says : (kind split : ℕ) (text : List ℕ) (set : List (List ℕ)) (b : Bool) → kind ≡ 4 → b ≡ some_value (λ x. matches_at x split text) set → b ≡ text_says kind split text set
unfolding text_says
token-says kind split text set b k e = e ∙ rw (eq-eqb kind token k)

-- ---- the rows of a query

abbrev no_row : Row
no_row = record { at = 0; name = 0; until = 0; text = 0; end = 0; split = 0; last = false }

-- the rows that are kept
abbrev kept : Rows → List Row
kept rows = take rows.count rows.rows

abbrev row_at : Rows → ℕ → Row
row_at rows i = get_or (kept rows) i no_row

-- those from the i-th on
abbrev rows_from : Rows → ℕ → List Row
rows_from rows i = drop i (kept rows)

from_next : (rows : Rows) (i : ℕ) → i < length (kept rows) → rows_from rows i ≡ row_at rows i ∷ rows_from rows (i + 1)
from_next rows i h = rw (add-one i) (drop-cons (kept rows) i no_row h)

row_within : {n : ℕ} {rows : Rows} → RowsWithin n rows → (i : ℕ) → i < length (kept rows) → RowWithin n (row_at rows i)
row_within {n} {rows} w i h =
    let whole : kept rows ≡ take i (kept rows) ++ (row_at rows i ∷ rows_from rows (i + 1)) =
    sym (take-append-drop i (kept rows)) ∙ ap (λ (l : List Row). take i (kept rows) ++ l) (from_next rows i h)
    in
    all_head (RowWithin n) (all_right (RowWithin n) (take i (kept rows)) (subst (All (RowWithin n)) whole w.within))

-- ---- the loop of `first_fault`

pub record Facing (n : ℕ) (ps : List Parameter) (bytes : List ℕ) (rows : Rows) (i : ℕ) : Type 0 where
  pub within : RowsWithin n rows
  pub left : first_alternative_fault ps (alternatives_in bytes rows) ≡ first_alternative_fault ps (map (alternative_in bytes) (rows_from rows i))

pub facing_starts : {n : ℕ} {ps : List Parameter} {bytes : List ℕ} {rows : Rows} → RowsWithin n rows → Facing n ps bytes rows 0
unfolding alternatives_in
facing_starts w = record { within = w; left = refl }

module _ {n : ℕ} {ps : List Parameter} {bytes : List ℕ} {rows : Rows} {i : ℕ} (g : Facing n ps bytes rows i) where
  pub facing_row : i < length (kept rows) → RowWithin n (row_at rows i)
  facing_row h = row_within g.within i h

  module _ (h : i < length (kept rows)) (f : Result ⊤ Refusal) (e : f ≡ alternative_fault ps (alternative_in bytes (row_at rows i))) where
    abbrev later_fault : Result ⊤ Refusal
    later_fault = first_alternative_fault ps (map (alternative_in bytes) (rows_from rows (i + 1)))

    split-left : first_alternative_fault ps (alternatives_in bytes rows) ≡ or_else f later_fault
    unfolding first_alternative_fault
    split-left =
        g.left ∙ ap (λ (l : List Row). first_alternative_fault ps (map (alternative_in bytes) l)) (from_next rows i h)
        ∙ ap (λ (x : Result ⊤ Refusal). or_else x later_fault) (sym e)

    pub facing_fault : (r : Refusal) → f ≡ Err r → f ≡ first_alternative_fault ps (alternatives_in bytes rows)
    facing_fault r k = sym (split-left ∙ ap (λ (x : Result ⊤ Refusal). or_else x later_fault) k ∙ sym k)

    pub facing_next : f ≡ (Ok tt) → Facing n ps bytes rows (i + 1)
    facing_next k = record { within = g.within; left = split-left ∙ ap (λ (x : Result ⊤ Refusal). or_else x later_fault) k }

  pub facing_ends : length (kept rows) ≤ i → (Ok tt) ≡ first_alternative_fault ps (alternatives_in bytes rows)
  unfolding first_alternative_fault
  facing_ends h = sym (g.left ∙ ap (λ (l : List Row). first_alternative_fault ps (map (alternative_in bytes) l)) (drop_of_length-le (kept rows) {i = i} h))

-- ---- the loop of `rows_say`

pub record Saying (n : ℕ) (says : Alternative → Bool) (bytes : List ℕ) (rows : Rows) (i : ℕ) (met : Bool) : Type 0 where
  pub within : RowsWithin n rows
  pub left : rows_say says bytes rows ≡ kept_says says met (map (kept_in bytes) (rows_from rows i))

pub saying-starts : {n : ℕ} {says : Alternative → Bool} {bytes : List ℕ} {rows : Rows} → RowsWithin n rows → Saying n says bytes rows 0 false
unfolding rows_say
saying-starts w = record { within = w; left = refl }

module _ {n : ℕ} {says : Alternative → Bool} {bytes : List ℕ} {rows : Rows} {i : ℕ} {met : Bool} (g : Saying n says bytes rows i met) where
  pub saying-row : i < length (kept rows) → RowWithin n (row_at rows i)
  saying-row h = row_within g.within i h

  module _ (h : i < length (kept rows)) (b : Bool) (e : b ≡ (met || says (alternative_in bytes (row_at rows i)))) where
    abbrev later : Bool → Bool
    later m = kept_says says m (map (kept_in bytes) (rows_from rows (i + 1)))

    saying-split : rows_say says bytes rows ≡ cond (row_at rows i).last (b && later false) (later b)
    unfolding kept_says kept_in
    saying-split =
        g.left ∙ ap (λ (l : List Row). kept_says says met (map (kept_in bytes) l)) (from_next rows i h)
        ∙ ap (λ (x : Bool). cond (row_at rows i).last (x && later false) (later x)) (sym e)

    by_last : (last : Bool) → (last && not b) ≡ false → cond last (b && later false) (later b) ≡ later (not last && b)
    by_last true u = go b u
      where
        go : (c : Bool) → (true && not c) ≡ false → (c && later false) ≡ later (not true && c)
        go true u = refl
        go false u = let z : true ≡ false = u in cc
    by_last false u = refl

    pub saying_fails : (u : Bool) → u ≡ ((row_at rows i).last && not b) → u ≡ true → false ≡ rows_say says bytes rows
    saying_fails u k y = sym (saying-split ∙ fails (row_at rows i).last b (later false) (later b) (sym k ∙ y))
      where
        fails : (last c x y : Bool) → (last && not c) ≡ true → cond last (c && x) y ≡ false
        fails true false x y h = refl
        fails true true x y h = let z : false ≡ true = h in cc
        fails false c x y h = let z : false ≡ true = h in cc

    pub saying-next : (u v : Bool) → u ≡ ((row_at rows i).last && not b) → u ≡ false → v ≡ (not (row_at rows i).last && b) → Saying n says bytes rows (i + 1) v
    saying-next u v k y c = record { within = g.within; left = saying-split ∙ by_last (row_at rows i).last (sym k ∙ y) ∙ ap later (sym c) }

  pub saying-ends : length (kept rows) ≤ i → true ≡ rows_say says bytes rows
  unfolding kept_says
  saying-ends h = sym (g.left ∙ ap (λ (l : List Row). kept_says says met (map (kept_in bytes) l)) (drop_of_length-le (kept rows) {i = i} h))
