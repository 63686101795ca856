-- `spell::place_text` meets its contract: each answer is a case of the definition. Assumes nothing.
use Rattle.spell.proofs.Spelling.{place_past, place_within, place_room, place_text}
use borrow.Author.Rules.{rules}
use Rattle.spell.proofs.place_text.Goals as goal

pub returns-then-has_room : goal.returns-then-has_room
returns-then-has_room c = search (place_text, rules)

pub returns : goal.returns
returns c = search (place_past, rules)
