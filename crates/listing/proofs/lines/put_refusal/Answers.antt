-- `listing::lines::put_refusal` meets its contract: its three texts stand one behind another. Assumes nothing.
use Rattle.std.proofs.Common.{rules}
use Rattle.listing.proofs.Putting.{three_puts}
use Rattle.listing.proofs.lines.put_refusal.Goals as goal

pub returns : goal.returns
returns c = search (three_puts, rules)
