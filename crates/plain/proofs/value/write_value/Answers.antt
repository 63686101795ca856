-- `plain::value::write_value` meets its contract: the value is the text's part, or what its escapes stand for. Assumes nothing.
use Rattle.plain.proofs.Bytes.{value-decoded_room, value-decoded_puts, value_raw_room, value_raw_puts}
use borrow.Author.Rules.{rules}
use Rattle.plain.proofs.value.write_value.Goals as goal

pub write_decoded-requires-clause-room : goal.write_decoded-requires-clause-room
write_decoded-requires-clause-room c = search (value-decoded_room, rules)

pub returns-then-value : goal.returns-then-value
returns-then-value c = search (value-decoded_puts, rules)

pub write_plain-requires : goal.write_plain-requires
write_plain-requires c = search (value_raw_room, rules)

pub returns : goal.returns
returns c = search (value_raw_puts, rules)
