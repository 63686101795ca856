-- `spell::walk::write_choice` meets its contract: its two texts stand one after the other. Assumes nothing.
use Rattle.spell.proofs.Parts.{bundle_room, bundle-within, square_room, choice_long, choice_puts}
use borrow.Author.Rules.{rules}
use Rattle.spell.proofs.walk.write_choice.Goals as goal

pub write_word-end-requires : goal.write_word-end-requires
write_word-end-requires c = search (bundle_room, rules)

pub write_word-requires : goal.write_word-requires
write_word-requires c = search (square_room, rules)

pub returns : goal.returns
returns c = search (choice_puts, rules)
