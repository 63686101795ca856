-- `listing::lines::put_lines` meets its contract: the lines of the numbers stand one behind another. Assumes nothing.
use Rattle.std.proofs.Common.{rules}
use Rattle.listing.proofs.Putting.{lines_begin, line_room, line_put, lines_end}
use Rattle.listing.proofs.lines.put_lines.Goals as goal

pub loop-n-init : goal.loop-n-init
loop-n-init c = search (lines_begin, rules)

pub put_line-at-requires : goal.put_line-at-requires
put_line-at-requires c = search (line_room, rules)

pub loop-n-preserved : goal.loop-n-preserved
loop-n-preserved c = search (line_put, rules)

pub returns : goal.returns
returns c = search (lines_end, rules)
