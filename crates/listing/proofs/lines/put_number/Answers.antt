-- `listing::lines::put_number` meets its contract: the digits are those of the definition. Assumes nothing.
use Rattle.std.proofs.Common.{rules}
use Rattle.listing.proofs.Decimal.{number_room, number_puts}
use Rattle.listing.proofs.lines.put_number.Goals as goal

pub write_word-requires : goal.write_word-requires
write_word-requires c = search (number_room, rules)

pub returns : goal.returns
returns c = search (number_puts, rules)
