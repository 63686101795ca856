-- `spell::has_room` meets its contract: the difference decides as the sum would. Assumes nothing.
use Rattle.spell.proofs.Spelling.{room_past, room_left}
use borrow.Author.Rules.{rules}
use Rattle.spell.proofs.has_room.Goals as goal

pub returns : goal.returns
returns c = search (room_left, rules)
