-- `spell::walk::write_connective` meets its contract: each branch writes its case of the definition. Assumes nothing.
use Rattle.spell.proofs.Parts.{and_room, and_puts, or_room, or_puts}
use borrow.Author.Rules.{rules}
use Rattle.spell.proofs.walk.write_connective.Goals as goal

pub write_word-requires : goal.write_word-requires
write_word-requires c = search (and_room, rules)
