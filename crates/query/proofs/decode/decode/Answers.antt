-- `query::decode::decode` meets its contract. The loop's invariant: what was written and what is left make the whole. Assumes nothing.
use borrow.Author.Rules.{rules}
use mathlib.Core.Path.{refl}
use Rattle.query.proofs.Units.{decoding_starts, decoding_room, decoding_less, decoding_byte, decoding_bad, decoding_ends}
use Rattle.query.proofs.decode.decode.Goals as goal

pub loop-i-init : goal.loop-i-init
loop-i-init c = (search (decoding_starts, rules), refl)

pub bounds-out-n : goal.bounds-out-n
bounds-out-n c = search (decoding_room, rules)

pub loop-i-smaller : goal.loop-i-smaller
loop-i-smaller c = search (decoding_less, rules)

pub loop-i-preserved : goal.loop-i-preserved
loop-i-preserved c = (decoding_byte _ _ _ _ c.loop-i.invariant.0 _ c.unit_at.ensures c.loop-i-test.true _ c.in_ok-unit.was, search rules)

pub returns-in_err-unit : goal.returns-in_err-unit
returns-in_err-unit c = search (decoding_bad, rules)

pub returns : goal.returns
returns c = search (decoding_ends, rules)
