-- `plain::value::write_plain` meets its contract: each branch writes its case of the definition. Assumes nothing.
use Rattle.plain.proofs.Bytes.{word_room, puts_word, string_room, puts_string}
use borrow.Author.Rules.{rules}
use Rattle.plain.proofs.value.write_plain.Goals as goal

pub write_word-requires : goal.write_word-requires
write_word-requires c = search (word_room, rules)

pub returns-then-is_word : goal.returns-then-is_word
returns-then-is_word c = search (puts_word, rules)

pub write_string-requires : goal.write_string-requires
write_string-requires c = search (string_room, rules)

pub returns : goal.returns
returns c = search (puts_string, rules)
