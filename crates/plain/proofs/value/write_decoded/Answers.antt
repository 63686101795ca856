-- `plain::value::write_decoded` meets its contract: the first bytes of the local buffer are the decoded value. Assumes nothing.
use native.Mathlib.Omega.{arith}
use lib.ListN.{length-take}
use Rattle.plain.proofs.Bytes.{decoded_room, decoded_puts}
use borrow.Author.Rules.{rules}
use Rattle.plain.proofs.value.write_decoded.Goals as goal

pub write_plain-requires : goal.write_plain-requires
write_plain-requires c = search (decoded_room, rules)

pub returns : goal.returns
returns c = search (decoded_puts, rules)
