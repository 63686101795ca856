-- `spell::walk::write_member` meets its contract: its two texts stand one after the other. Assumes nothing.
use native.Mathlib.Omega.{arith}
use Rattle.spell.proofs.Parts.{dot_room, dot_within, member_room, member-within, member_long, member_puts}
use borrow.Author.Rules.{rules}
use Rattle.spell.proofs.walk.write_member.Goals as goal

pub write_word-end-requires : goal.write_word-end-requires
write_word-end-requires c = search (dot_room, rules)

pub write_test-requires-clause-room : goal.write_test-requires-clause-room
write_test-requires-clause-room c = search (member_room, rules)

pub returns : goal.returns
returns c = search (member_puts, rules)
