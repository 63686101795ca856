-- `plain::value::write_string` meets its contract: its three texts stand one after another. Assumes nothing.
use native.Mathlib.Omega.{arith}
use Rattle.plain.proofs.Bytes.{quote_room, quote-within, between_room, between-within, closing_room, string-within, string_long, string_puts}
use borrow.Author.Rules.{rules}
use Rattle.plain.proofs.value.write_string.Goals as goal

pub write_word-start-requires : goal.write_word-start-requires
write_word-start-requires c = search (quote_room, rules)

pub write_escaped-inner-requires : goal.write_escaped-inner-requires
write_escaped-inner-requires c = search (between_room, rules)

pub write_word-requires : goal.write_word-requires
write_word-requires c = search (closing_room, rules)

pub returns : goal.returns
returns c = search (string_puts, rules)
