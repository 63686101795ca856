-- What a search string that was accepted leaves: rows that keep its query; and why one was not accepted.
-- Assumes nothing.
use Rattle.std.specs.Prelude.{Err, Ok, Result}
use Prim.Native.Nat.{ℕ}
use native.Mathlib.Omega.{arith}
use mathlib.Core.Path.{◌≡◌, refl, ap, ◌∙◌, subst}
use mathlib.Core.Bool.{false}
use mathlib.Core.List.{List, [], ◌∷◌, ◌++◌, map, flatten}
use lib.ListN.{take}
use Rattle.base.proofs.All.{all_map}
use Rattle.refusal.specs.declared.Refusal.{Refusal}
use Rattle.refusal.specs.Steps.{refusal_step}
use Rattle.query.specs.Spelling.{Alternative, Query, alternatives_of}
use Rattle.query.specs.Reader.{accept_query}
use Rattle.query.specs.Rows.{Kept, keep_pair, keep_all, kept_in, kept_says, RowWithin, alternative_in, alternatives_in, rows_say, AcceptsQuery, accepted_query, accepted_none, RowsOf}
use Rattle.query.specs.declared.Rows.{Rows}
use Rattle.query.specs.declared.Row.{Row}
use Rattle.query.proofs.Keeping.{kept_says_lem, map-append}
use Rattle.query.proofs.Reading.{query_there}
use Rattle.query.proofs.Accepting.{keep-length}

abbrev alternative_of : Kept → Alternative
alternative_of k = k.alternative

-- the alternatives that are kept
pair-alternatives : (p : List Alternative) → map alternative_of (keep_pair p) ≡ p
unfolding keep_pair
pair-alternatives [] = refl
pair-alternatives (a ∷ []) = refl
pair-alternatives (a ∷ b ∷ rest) = ap (λ (l : List Alternative). a ∷ l) (pair-alternatives (b ∷ rest))

all_alternatives : (q : Query) → map alternative_of (keep_all q) ≡ alternatives_of q
unfolding keep_all flatten
all_alternatives [] = refl
all_alternatives (p ∷ q) =
    map-append alternative_of (keep_pair p) (keep_all q) ∙ ap (λ (l : List Alternative). l ++ map alternative_of (keep_all q)) (pair-alternatives p)
    ∙ ap (λ (l : List Alternative). p ++ l) (all_alternatives q)

kept_alternatives : (bytes : List ℕ) (rs : List Row) → map (alternative_in bytes) rs ≡ map alternative_of (map (kept_in bytes) rs)
kept_alternatives bytes [] = refl
kept_alternatives bytes (r ∷ rs) = ap (λ (l : List Alternative). alternative_in bytes r ∷ l) (kept_alternatives bytes rs)

module _ {text bytes : List ℕ} where
  pub accepted_rows : {r : Result Rows Refusal} (rows : Rows) → AcceptsQuery text bytes r → r ≡ Ok rows → (q : Query) × RowsOf text bytes rows q
  unfolding alternatives_in rows_say
  accepted_rows v (accepted_query {q = q} {rows = rows} used u e few k) o = let same : rows ≡ v = cc in subst (λ (w : Rows). (q : Query) × RowsOf text bytes w q) same (
    q,
    record {
      accepted = e;
      within = record {
        few = few;
        cells = k.cells;
        within = all_map (λ (r : Row) (w : RowWithin used r). record { name = w.name; until = omega (arith, w.until); text = w.text; end = omega (arith, w.end) }) (k.ends few);
      };
      alternatives = kept_alternatives bytes (take rows.count rows.rows) ∙ ap (map alternative_of) (k.kept few) ∙ all_alternatives q;
      count = k.count ∙ keep-length q;
      says = λ says. ap (kept_says says false) (k.kept few) ∙ kept_says_lem says (query_there text q e).pairs;
    },
  )
  accepted_rows v (accepted_none e) o = absurd (let z : ◌≡◌ {A = ℕ} 0 1 = cc in omega arith)

  -- why one was not accepted
  pub accepted_refused : {r : Result Rows Refusal} (x : Refusal) → AcceptsQuery text bytes r → r ≡ Err x → accept_query text ≡ refusal_step x
  accepted_refused x (accepted_none {r = y} e) o = let z : y ≡ x = cc in e ∙ ap (λ (w : Refusal). refusal_step w) z
  accepted_refused x (accepted_query used u e few k) o = absurd (let z : ◌≡◌ {A = ℕ} 0 1 = cc in omega arith)
