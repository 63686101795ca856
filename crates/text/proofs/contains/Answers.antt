-- `text::contains` meets its contract: b is tried at every place where it has room. Assumes nothing.
use mathlib.Core.Path.{◌∙◌}
use Prim.Native.Nat.{ℕ, ◌+◌, ◌-◌}
use lib.ListN.{length, drop}
use borrow.Author.Rules.{rules}
use borrow.Author.Tests.{tests}
use Rattle.std.proofs.lemmas.Iterator.{YieldsList-from_range}
use Rattle.std.proofs.lemmas.Iterator.Search.{any_from_yields_List}
use Rattle.base.specs.Affixes.{has_prefix}
use Rattle.text.specs.Fold.{fold_text}
use Rattle.text.proofs.Compare.{contains_empty, contains_short, contains_any}
use Rattle.text.proofs.contains.Goals as goal

pub returns-then-is_empty : goal.returns-then-is_empty
returns-then-is_empty c = search (contains_empty, rules, tests)

pub returns-then-a-b : goal.returns-then-a-b
returns-then-a-b c = search (contains_short, rules)

pub returns : goal.returns
returns c =
    any_from_yields_List (λ (at : ℕ). has_prefix (drop at (fold_text c.args.a.now)) (fold_text c.args.b.now)) _ _ _ c.any.ensures.ran
    (YieldsList-from_range 0 (length c.args.a.now - length c.args.b.now + 1) (length c.args.a.now - length c.args.b.now + 1) (search rules) (search rules)) (λ x b q k. search (rules, tests))
    ∙ contains_any _ _ (search (rules, tests)) c.if-a-b.false
