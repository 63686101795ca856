-- `card_reader::entries::take_entry` meets its contract. Assumes nothing.
use borrow.Author.Rules.{rules}
use borrow.Author.Tests.{not-true}
use mathlib.Core.Path.{refl, ap, sym, ◌∙◌}
use Rattle.base.specs.Kinds.{kind_number}
use Rattle.card_reader.proofs.Reading.{takes_past, takes_over, takes_as}
use Rattle.card_reader.proofs.entries.take_entry.Goals as goal

pub returns-then-i-ge32 : goal.returns-then-i-ge32
returns-then-i-ge32 c = search (takes_past, rules)

pub returns-in_default : goal.returns-in_default
returns-in_default c = takes_as _ _ _ _ (search rules) _ c.from-i.ensures c.if-i-ge32.false _ refl (search (not-true, c.if-not-kept-i.false, rules)) c.requires.e_bound _ refl _ _ c.take_bytes.ensures
