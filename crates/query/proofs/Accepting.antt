-- A search string that is accepted, from the pairs that were read.
-- Assumes nothing.
use Rattle.std.specs.Prelude.{Err, Ok, Result, ⊤}
use Prim.Native.Nat.{ℕ, suc, ◌≤◌, ◌<◌}
use native.Mathlib.Omega.{arith}
use mathlib.Core.Path.{◌≡◌, refl, ap, ◌∙◌, subst}
use mathlib.Core.Bool.{cond}
use mathlib.Core.List.{List, [], ◌∷◌, flatten}
use lib.Dec.{leb}
use lib.ListN.{length, length-append}
use borrow.Author.Tests.{eq-eqb, ne_eqb, lt-ltb, le-ltb, le-leb, lt-leb}
use Rattle.refusal.specs.declared.Reason.{Reason}
use Rattle.refusal.specs.declared.Refusal.{Refusal}
use Rattle.refusal.specs.Steps.{found, stop, ◌>>=◌, refusal_step}
use Rattle.query.specs.Spelling.{Alternative, Query, alternatives_of}
use Rattle.query.specs.Reader.{read_pairs, accept_query}
use Rattle.query.specs.Rows.{keep_pair, keep_all, QueryOf, query_of, query_of_none, AcceptsQuery, accepted_query, accepted_none}
use Rattle.query.specs.declared.Rows.{Rows}
use Rattle.query.specs.declared.Rows.{Rows}

keep-pair-length : (p : List Alternative) → length (keep_pair p) ≡ length p
unfolding keep_pair
keep-pair-length [] = refl
keep-pair-length (a ∷ []) = refl
keep-pair-length (a ∷ b ∷ rest) = ap suc (keep-pair-length (b ∷ rest))

pub keep-length : (q : Query) → length (keep_all q) ≡ length (alternatives_of q)
unfolding keep_all flatten
keep-length [] = refl
keep-length (p ∷ q) = omega (arith, length-append (keep_pair p) (keep_all q), length-append p (flatten q), keep-pair-length p, keep-length q)

module _ (text : List ℕ) where
  pub query_empty : (bytes : List ℕ) → length text ≡ 0 → AcceptsQuery text bytes (Err (record { reason = Reason.FilterSize; place = 0 }))
  query_empty bytes e = accepted_none {r = record { reason = Reason.FilterSize; place = 0 }} (unfold accept_query in rw (eq-eqb (length text) 0 e))

  pub query_long : (bytes : List ℕ) → 1024 < length text → AcceptsQuery text bytes (Err (record { reason = Reason.FilterSize; place = 0 }))
  query_long bytes h =
      accepted_none {r = record { reason = Reason.FilterSize; place = 0 }}
      (unfold accept_query in rw (ne_eqb (length text) 0 (λ e. omega arith), lt-ltb 1024 (length text) h))

  module _ (bytes : List ℕ) (n : length text ≡ 0 → ⊥) (h : length text ≤ 1024) where
    sized : accept_query text ≡ (read_pairs (suc (length text)) 0 text >>= λ q. cond (leb (length (alternatives_of q)) 32) (found q) (stop 51 0))
    unfolding accept_query
    sized = rw (ne_eqb (length text) 0 n, le-ltb 1024 (length text) h)

    module _ (r : Result Rows Refusal) (d : QueryOf text bytes r) where
      pub query_refused : (x : Refusal) → r ≡ Err x → AcceptsQuery text bytes (Err x)
      query_refused x e = by_case d e
        where
          by_case : {y : Result Rows Refusal} → QueryOf text bytes y → y ≡ Err x → AcceptsQuery text bytes (Err x)
          by_case (query_of used u q k) e = absurd (let z : ◌≡◌ {A = ℕ} 0 1 = cc in omega arith)
          by_case (query_of_none {at = p} q) e =
              let z : record { reason = Reason.NoPair; place = p } ≡ x = cc in
              subst (λ (w : Refusal). AcceptsQuery text bytes (Err w)) z (accepted_none {r = record { reason = Reason.NoPair; place = p }} (sized ∙ rw q))

      module _ (rows : Rows) (e : r ≡ Ok rows) where
        pub query_many : 32 < rows.count → AcceptsQuery text bytes (Err (record { reason = Reason.ManyAlternatives; place = 0 }))
        query_many l = accepted_none {r = record { reason = Reason.ManyAlternatives; place = 0 }} (by_case d e)
          where
            by_case : {y : Result Rows Refusal} → QueryOf text bytes y → y ≡ Ok rows → accept_query text ≡ stop 51 0
            by_case (query_of {q = q} {rows = w} used u z k) e =
                let same : w ≡ rows = cc in
                sized ∙ rw (z, lt-leb (length (alternatives_of q)) 32 (omega (arith, l, ap (λ (v : Rows). v.count) same, k.count, keep-length q)))
            by_case (query_of_none q) e = absurd (let z : ◌≡◌ {A = ℕ} 0 1 = cc in omega arith)

        pub query_accepted : rows.count ≤ 32 → AcceptsQuery text bytes (Ok rows)
        query_accepted l = by_case d e
          where
            by_case : {y : Result Rows Refusal} → QueryOf text bytes y → y ≡ Ok rows → AcceptsQuery text bytes (Ok rows)
            by_case (query_of {q = q} {rows = w} used u z k) e =
                let same : w ≡ rows = cc in
                let few : w.count ≤ 32 = omega (arith, l, ap (λ (v : Rows). v.count) same) in
                subst (λ (v : Rows). AcceptsQuery text bytes (Ok v)) same
                (accepted_query {q = q} used u (sized ∙ rw (z, le-leb (length (alternatives_of q)) 32 (omega (arith, few, k.count, keep-length q)))) few k)
            by_case (query_of_none q) e = absurd (let z : ◌≡◌ {A = ℕ} 0 1 = cc in omega arith)
