-- `row_judge::says::next_escaped` meets its contract: the value is what the escapes stand for. Assumes nothing.
use Rattle.row_judge.proofs.Saying.{escaped-is, value_reads, value_first}
use Rattle.row_judge.proofs.says.next_escaped.Goals as goal

pub invariant_of-question : goal.invariant_of-question
invariant_of-question c =
    record {
      low = c.args.asked.low;
      reads = value_reads _ _ _ c.args.asked.known _ (escaped-is _ _ _ c.args.asked.known _ _ c.from.ensures c.from-2.ensures _ c.part-raw.ensures.part c.requires.escaped _ _ c.decode-n.ensures) _ c.readings_in.ensures;
    }

pub returns : goal.returns
returns c = value_first _ _ _ c.args.asked.known _ (escaped-is _ _ _ c.args.asked.known _ _ c.from.ensures c.from-2.ensures _ c.part-raw.ensures.part c.requires.escaped _ _ c.decode-n.ensures) _ _ _ _ _ _ c.next_counting.ensures
