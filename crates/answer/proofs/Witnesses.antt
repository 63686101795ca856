-- The card on which a test lacks a meaning, whatever the kind of test: one entry under the parameter that it names, or no entry.
-- Assumes nothing.
use Prim.Native.Nat.{ℕ}
use mathlib.Core.Path.{◌≡◌}
use mathlib.Core.Bool.{false}
use mathlib.Core.List.{List, []}
use Rattle.base.specs.Kinds.{bundle_kind}
use Rattle.sheet.specs.Sheet.{parameter}
use Rattle.sheet.specs.Encode.{WellFormedSheet}
use Rattle.card.specs.Card.{Entry}
use Rattle.card.specs.Encode.{encode_card}
use Rattle.syntax.specs.Tree.{Path}
use Rattle.judge.specs.Sets.{values_at}
use Rattle.judge.specs.Rules.{Names}
use Rattle.judge.proofs.Rules.{names_listed}
use Rattle.answer.specs.Numbers.{Numbered}
use Rattle.answer.specs.Demand.{TestRules}
use Rattle.answer.proofs.Cards.{empty_conforms, one_entry, one_entry-conforms, one_entry-value}
use Rattle.answer.proofs.Outcomes.{Refused}

module _ {T : Type 0} (rules : TestRules T) (t : T) (n : ℕ) (table : Numbered (rules.Line t) n) where
  pub refused_at : WellFormedSheet rules.parameters → {path : Path} {i k : ℕ} → (k ≡ bundle_kind → ⊥) → Names rules.parameters path i k
      → ((es : List Entry) → (values_at i es ≡ [] → ⊥) → rules.Lacks es t) → Refused rules t n
  refused_at w {path} {i} {k} z j lacks =
      let p = parameter k (names_listed j).0 (names_listed j).1 in
      let l = (names_listed j).2 in
      let es = one_entry rules.parameters w i p l in
      record {
        table = table;
        card = encode_card false 0 es;
        entries = es;
        conforms = one_entry-conforms rules.parameters w i p l z;
        lacks = lacks es (one_entry-value rules.parameters w i p l);
      }

  pub refused_empty : rules.Lacks [] t → Refused rules t n
  refused_empty lacks = record { table = table; card = encode_card false 0 []; entries = []; conforms = empty_conforms rules.parameters; lacks = lacks }
