-- `syntax::value::decode` meets its contract. The loop's invariant: what was written and what is left make the whole value. Assumes nothing.
use Prim.Native.Nat.{◌<◌}
use lib.ListN.{length}
use borrow.Author.Rules.{rules}
use mathlib.Core.Path.{refl}
use Rattle.syntax.proofs.Decoding.{decoding_starts, decoding_byte, decoding_backslash, decoding_ends}
use Rattle.syntax.proofs.value.decode.Goals as goal
use Rattle.syntax.proofs.value.decode.Goals.{in-Some, in-None}

pub loop-b-preserved : goal.loop-b-preserved
loop-b-preserved c =
    let here : c.loop-b.b-index < length c.args.raw.now = search rules in
    elim c.match-piece.branch [
      | in-Some w ↦ rw (w.out-is, w.n-is, w.pending-is) (decoding_byte _ _ _ _ _ c.loop-b.invariant.0 _ _ c.piece.ensures w.in-Some.is here, search rules)
      | in-None w ↦ rw (w.out-is, w.n-is, w.pending-is) (decoding_backslash _ _ _ _ _ c.loop-b.invariant.0 _ c.piece.ensures w.in-None.is here, search rules)
    ]

pub returns : goal.returns
returns c = search (decoding_ends, rules)
