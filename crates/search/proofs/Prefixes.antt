-- What a text asks, from the operator that is read at its beginning.
-- Where a kind takes prefixes and the text begins with the word of one, the value stands behind its two letters (`prefix_is`). Else the
-- whole text is the value (`whole_text`), and the operator is eq, or where the kind takes no prefixes its own: sw, eq or re. The scan of
-- crate syntax finds an operator exactly where its word stands; so where it finds none, or one that is no prefix, the text begins with no
-- prefix (`without`).
-- Assumes nothing.
use Rattle.std.specs.Prelude.{Option, Some, None}
use Prim.Native.Nat.{ℕ, ◌+◌, ◌≤◌, ◌<◌}
use native.Mathlib.Omega.{arith}
use mathlib.Core.Path.{◌≡◌, refl, ap, sym, ◌∙◌}
use mathlib.Core.Bool.{Bool, true, false}
use mathlib.Core.Logic.{⊎_elim}
use mathlib.Core.List.{List, ◌++◌}
use lib.ListN.{length, drop, length-append}
use lib.Seq.{drop-append-add}
use borrow.Author.Tests.{ne_eqb}
use Rattle.base.specs.Lists.{member, All, all_empty, all_cons}
use Rattle.base.specs.Affixes.{has_prefix}
use Rattle.base.specs.Operators.{operator_words, eq, ne, gt, lt, ge, le, sa, eb, re, operator_number}
use Rattle.base.proofs.Tests.{decided, both_ways}
use Rattle.base.specs.Kinds.{string, number, date, token, period, kind_number}
use Rattle.base.specs.declared.kind.Kind.{Kind}
use Rattle.base.specs.declared.kind.Kind.TheVariants as kinds
use Rattle.base.specs.declared.operator.Operator.{Operator}
use Rattle.base.specs.declared.operator.Operator.TheVariants as operators
use Rattle.syntax.specs.Scan.{operator_at}
use Rattle.syntax.proofs.Operators.{operator_derives, operator-found}
use Rattle.search.specs.Asking.{takes_prefix, prefixes, word_of, Comparison, prefixed, asked_of, PrefixOf}
use Rattle.search.specs.declared.Prefixed.{Prefixed}
use Rattle.search.proofs.Asking.{asks_for, at_one, prefixed-word, no_prefix, prefix_splits, two_bytes_lem}

-- ---- prefixes

pub prefix_none : (k : ℕ) → ((x : Operator) → operator_number x ≡ k → ⊥) → false ≡ member k prefixes
unfolding member
prefix_none k n =
    rw (
      ne_eqb k eq (λ e. n operators.Eq (sym e)),
      ne_eqb k ne (λ e. n operators.Ne (sym e)),
      ne_eqb k gt (λ e. n operators.Gt (sym e)),
      ne_eqb k lt (λ e. n operators.Lt (sym e)),
      ne_eqb k ge (λ e. n operators.Ge (sym e)),
      ne_eqb k le (λ e. n operators.Le (sym e)),
      ne_eqb k sa (λ e. n operators.Sa (sym e)),
      ne_eqb k eb (λ e. n operators.Eb (sym e)),
    )

in_words : All (λ (k : ℕ). k < length operator_words) prefixes
unfolding operator_words
in_words = all_cons {x = eq} (omega arith) (all_cons {x = ne} (omega arith) (all_cons {x = gt} (omega arith) (all_cons {x = lt} (omega arith) (all_cons {x = ge} (omega arith) (all_cons {x = le} (omega arith) (all_cons {x = sa} (omega arith) (all_cons {x = eb} (omega arith) all_empty)))))))

abbrev with_prefix : ℕ → ℕ → Prefixed
with_prefix k n = record { operator = k; skip = n }

module _ (text : List ℕ) where
  as_asked : (o n : ℕ) (v : List ℕ) (asked : Comparison) → asked ≡ asks_for o v → drop n text ≡ v → n ≤ length text → PrefixOf asked text (with_prefix o n)
  as_asked o n v asked e d h = record { operator = sym (ap (λ (a : Comparison). a.operator) e); value = d ∙ sym (ap (λ (a : Comparison). a.value) e); within = h }

  pub prefix_is : (f : Option ℕ) (t : Bool) (k : ℕ) → f ≡ operator_at text 0 → f ≡ Some k → t ≡ member k prefixes → t ≡ true → PrefixOf (prefixed prefixes text) text (with_prefix k 2)
  prefix_is f t k e h m u =
      let o = operator_derives text 0 k (sym e ∙ h) in
      let is : text ≡ word_of k ++ o.stands.0 = o.stands.1 in
      let two : length (word_of k) ≡ 2 = at_one (λ (j : ℕ). length (word_of j) ≡ 2) prefixes k two_bytes_lem (sym m ∙ u) in
      let rest : drop 2 text ≡ o.stands.0 =
      ap (drop 2) is ∙ ap (λ (n : ℕ). drop n (word_of k ++ o.stands.0)) (sym two ∙ plus_zero (length (word_of k))) ∙ drop-append-add (word_of k) o.stands.0 0
      in
      as_asked k 2 o.stands.0 (prefixed prefixes text) (ap (prefixed prefixes) is ∙ prefixed-word k o.stands.0 (sym m ∙ u)) rest
      (omega (arith, ap length is, length-append (word_of k) o.stands.0, two))
    where
      plus_zero : (n : ℕ) → n ≡ n + 0
      plus_zero n = omega arith

  -- no prefix stands at the beginning, where the operator read there is none
  without : ((k : ℕ) → member k prefixes ≡ true → operator_at text 0 ≡ Some k → ⊥) → PrefixOf (prefixed prefixes text) text (with_prefix 0 0)
  without n = as_asked eq 0 text (prefixed prefixes text) (no_prefix prefixes text never) refl (omega arith)
    where
      found_there : (k : ℕ) → member k prefixes ≡ true → has_prefix text (word_of k) ≡ true → ⊥
      found_there k m h =
          n k m (operator-found (record { one_of = at_one (λ (j : ℕ). j < length operator_words) prefixes k in_words m; stands = (drop (length (word_of k)) text, prefix_splits text (word_of k) h) }))

      never : (k : ℕ) → member k prefixes ≡ true → has_prefix text (word_of k) ≡ false
      never k m = ⊎_elim (λ h. absurd (found_there k m h)) (λ h. h) (decided (has_prefix text (word_of k)))

  pub other_operator : (f : Option ℕ) (t : Bool) (k : ℕ) → f ≡ operator_at text 0 → f ≡ Some k → t ≡ member k prefixes → t ≡ false → PrefixOf (prefixed prefixes text) text (with_prefix 0 0)
  other_operator f t k e h m u =
      without (λ j x y. let same : Some k ≡ Some j = sym h ∙ e ∙ y in let z : k ≡ j = cc in both_ways (ap (λ (i : ℕ). member i prefixes) z ∙ x) (sym m ∙ u))

  pub no_operator : (f : Option ℕ) → f ≡ operator_at text 0 → f ≡ None → PrefixOf (prefixed prefixes text) text (with_prefix 0 0)
  no_operator f e h = without (λ j x y. let same : None ≡ Some j = sym h ∙ e ∙ y in let z : ◌≡◌ {A = ℕ} 0 1 = cc in omega arith)

  -- a text without a prefix is the value
  pub whole_text : (o : ℕ) → PrefixOf (asks_for o text) text (with_prefix o 0)
  whole_text o = as_asked o 0 text (asks_for o text) refl refl (omega arith)

  pub asked_of_none : (kind : ℕ) (q : Prefixed) → ((x : Kind) → kind_number x ≡ kind → ⊥) → PrefixOf (asks_for re text) text q → PrefixOf (asked_of kind text) text q
  unfolding asked_of takes_prefix
  asked_of_none kind q n h =
      rw (
        ne_eqb kind number (λ e. n kinds.Number (sym e)),
        ne_eqb kind date (λ e. n kinds.Date (sym e)),
        ne_eqb kind period (λ e. n kinds.Period (sym e)),
        ne_eqb kind string (λ e. n kinds.String (sym e)),
        ne_eqb kind token (λ e. n kinds.Token (sym e)),
      )
      h
