-- `token::system_matches` meets its contract: the flag says whether short names are meant. Assumes nothing.
use borrow.Author.Rules.{rules}
use Rattle.token.proofs.Match.{system_short, system_itself}
use Rattle.token.proofs.system_matches.Goals as goal

pub returns-then-short : goal.returns-then-short
returns-then-short c = search (system_short, rules)

pub returns : goal.returns
returns c = search (system_itself, rules)
