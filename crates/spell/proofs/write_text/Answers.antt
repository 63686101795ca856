-- `spell::write_text` meets its contract: the filter begins after the spaces. Assumes nothing.
use Rattle.spell.proofs.Spelling.{text_room, text_spelt}
use borrow.Author.Rules.{rules}
use Rattle.spell.proofs.write_text.Goals as goal

pub write_filter-written-requires-clause-room_for : goal.write_filter-written-requires-clause-room_for
write_filter-written-requires-clause-room_for c = search (text_room, rules)

pub returns : goal.returns
returns c = search (text_spelt, rules)
