-- `spell::spell` meets its contract: each answer is a case of the definition. Assumes nothing.
use mathlib.Core.Path.{sym, subst}
use Rattle.std.proofs.lemmas.Result.{err_from_is_err_and}
use Rattle.spell.specs.Spelling.{IsFilter, PlacedInto}
use Rattle.spell.proofs.Spelling.{spell_wrong, spell_failed, spell_placed, found_is}
use borrow.Author.Rules.{rules}
use Rattle.spell.proofs.spell.Goals as goal

pub returns-in_default : goal.returns-in_default
returns-in_default c = rw c.refuse.ensures (spell_wrong _ _ _ (search (c.in_default.ensures, rules)))

pub place_text-requires : goal.place_text-requires
place_text-requires c = subst IsFilter (sym c.in-Some.ensures.read.0) (found_is _ _ c.find.ensures c.in_ok-find.was)

pub returns-in_err-find : goal.returns-in_err-find
returns-in_err-find c = let p = err_from_is_err_and c.from_residual.result c.from_residual.ensures.1 in rw (p.1, p.2) (spell_failed _ _ _ c.in-Some.ensures.read.1 _ c.find.ensures _ c.in_err-find.was)

pub returns : goal.returns
returns c = spell_placed _ _ _ c.in-Some.ensures.read.1 (subst (λ t. PlacedInto t c.args.buffer.now c.args.from c.place_text.result c.place_text.new.buffer) c.in-Some.ensures.read.0 c.place_text.ensures)
