-- `text::begins_at` meets its contract: every byte of b is found where it should stand. Assumes nothing.
use mathlib.Core.Path.{◌∙◌}
use Prim.Native.Nat.{ℕ, ◌+◌}
use lib.Dec.{eqb}
use lib.ListN.{length, get_or}
use borrow.Author.Rules.{rules}
use borrow.Author.Tests.{tests}
use Rattle.std.proofs.lemmas.Iterator.{YieldsList-from_range}
use Rattle.std.proofs.lemmas.Iterator.Search.{all_from_yields_List}
use Rattle.text.specs.Fold.{fold_text}
use Rattle.text.proofs.Compare.{begins_all}
use Rattle.text.proofs.begins_at.Goals as goal

pub returns : goal.returns
returns c =
    all_from_yields_List (λ (i : ℕ). eqb (get_or (fold_text c.args.a.now) (c.args.at + i) 0) (get_or (fold_text c.args.b.now) i 0)) _ _ _ c.all.ensures.ran (YieldsList-from_range 0 (length c.args.b.now) (length c.args.b.now) (search rules) (search rules)) (λ x b q k. search (rules, tests)) ∙ begins_all _ _ _ c.requires
