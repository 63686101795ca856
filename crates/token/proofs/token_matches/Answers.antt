-- `token::token_matches` meets its contract: the filter's first bar says where its text is split. Assumes nothing.
use borrow.Author.Rules.{rules}
use native.Mathlib.Omega.{arith}
use lib.ListN.{length-take}
use Rattle.token.proofs.Match.{token_no_code, token-at-bar, token_empty, token_any_system}
use Rattle.token.proofs.token_matches.Goals as goal

pub returns-then-code-eq0 : goal.returns-then-code-eq0
returns-then-code-eq0 c = search (token_no_code, rules)

pub slice_bounds-parts_match-end : goal.slice_bounds-parts_match-end
slice_bounds-parts_match-end c = simp length-take (omega arith)

pub returns-then-bar-asked : goal.returns-then-bar-asked
returns-then-bar-asked c = search (token-at-bar, rules)

pub returns-then-asked-eq0 : goal.returns-then-asked-eq0
returns-then-asked-eq0 c = search (token_empty, rules)

pub returns : goal.returns
returns c = search (token_any_system, rules)
