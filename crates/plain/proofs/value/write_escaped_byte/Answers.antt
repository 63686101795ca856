-- `plain::value::write_escaped_byte` meets its contract: each branch writes its case of the definition. Assumes nothing.
use Rattle.plain.proofs.Bytes.{plain_room, puts_plain, escape_room, puts_escape}
use borrow.Author.Rules.{rules}
use Rattle.plain.proofs.value.write_escaped_byte.Goals as goal

pub write_word-requires : goal.write_word-requires
write_word-requires c = search (plain_room, rules)

pub returns-then-is_plain : goal.returns-then-is_plain
returns-then-is_plain c = search (puts_plain, rules)

pub write_word-requires-2 : goal.write_word-requires-2
write_word-requires-2 c = search (escape_room, rules)

pub returns : goal.returns
returns c = search (puts_escape, rules)
