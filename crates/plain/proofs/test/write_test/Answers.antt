-- `plain::test::write_test` meets its contract: its three texts stand one after another. Assumes nothing.
use native.Mathlib.Omega.{arith}
use Rattle.plain.proofs.Tests.{name_room, name_within, middle_room, middle_within, value_room, test_within, test_long, test_puts}
use borrow.Author.Rules.{rules}
use Rattle.plain.proofs.test.write_test.Goals as goal

pub write_word-name-requires : goal.write_word-name-requires
write_word-name-requires c = search (name_room, rules)

pub write_operator-middle-requires-clause-room : goal.write_operator-middle-requires-clause-room
write_operator-middle-requires-clause-room c = search (middle_room, rules)

pub write_value-requires : goal.write_value-requires
write_value-requires c = search (value_room, rules)

pub returns : goal.returns
returns c = search (test_puts, rules)
