-- `token::split_matches` meets its contract: the card's first bar says where its text is split. Assumes nothing.
use borrow.Author.Rules.{rules}
use native.Mathlib.Omega.{arith}
use lib.ListN.{length-take}
use Rattle.token.proofs.Match.{card-at-bar, card_no_bar}
use Rattle.token.proofs.split_matches.Goals as goal

pub slice_bounds-token_matches-end : goal.slice_bounds-token_matches-end
slice_bounds-token_matches-end c = simp length-take (omega arith)

pub returns-then-split-card : goal.returns-then-split-card
returns-then-split-card c = search (card-at-bar, rules)

pub returns : goal.returns
returns c = search (card_no_bar, rules)
