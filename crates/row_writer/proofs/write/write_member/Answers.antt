-- `row_writer::write::write_member` meets its contract: a test was found behind the brackets, or none. Assumes nothing.
use borrow.Author.Rules.{rules}
use Rattle.syntax.proofs.Places.{member_in_place}
use Rattle.row_writer.proofs.Numbers.{member-read}
use Rattle.row_writer.proofs.Writing.{member_none, member-found}
use Rattle.row_writer.proofs.write.write_member.Goals as goal

pub returns-in_err-test : goal.returns-in_err-test
returns-in_err-test c = search (member_none, rules)

pub write_pair-requires-clause-placed : goal.write_pair-requires-clause-placed
write_pair-requires-clause-placed c = search (member_in_place, rules)

pub write_pair-requires-clause-read : goal.write_pair-requires-clause-read
write_pair-requires-clause-read c = search (member-read, rules)

pub returns : goal.returns
returns c = search (member-found, rules)
