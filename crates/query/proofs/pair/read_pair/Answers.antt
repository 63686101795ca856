-- `query::pair::read_pair` meets its contract: it is cut where the first "=" stands, and its parts are decoded. Assumes nothing.
use borrow.Author.Rules.{rules}
use native.Mathlib.Omega.{arith}
use lib.ListN.{length-take}
use Rattle.query.proofs.Pairs.{front_fits, pair_uncut, pair-name_bad, pair-value_bad, pair_read}
use Rattle.query.proofs.pair.read_pair.Goals as goal

pub returns-then-cut-pair : goal.returns-then-cut-pair
returns-then-cut-pair c = search (pair_uncut, rules)

pub slice_bounds-decode-end : goal.slice_bounds-decode-end
slice_bounds-decode-end c = simp length-take (omega arith)

pub decode-requires : goal.decode-requires
decode-requires c = search (front_fits, rules)

pub returns-in_err-name_len : goal.returns-in_err-name_len
returns-in_err-name_len c = search (pair-name_bad, rules)

pub returns-in_err-value_len : goal.returns-in_err-value_len
returns-in_err-value_len c = search (pair-value_bad, rules)

pub returns : goal.returns
returns c = search (pair_read, rules)
