-- `row_judge::says::next_text` meets its contract: the value is the text's part, or what its escapes stand for. Assumes nothing.
use Rattle.row_judge.proofs.Saying.{plain-is, value_reads, value_first}
use Rattle.row_judge.proofs.says.next_text.Goals as goal

pub invariant_of-question : goal.invariant_of-question
invariant_of-question c =
    record {
      low = c.args.asked.low;
      reads = value_reads _ _ _ c.args.asked.known _ (plain-is _ _ _ c.args.asked.known _ _ c.from.ensures c.from-2.ensures _ c.part.ensures.part c.if-opened.false) _ c.readings_in.ensures;
    }

pub returns : goal.returns
returns c = value_first _ _ _ c.args.asked.known _ (plain-is _ _ _ c.args.asked.known _ _ c.from.ensures c.from-2.ensures _ c.part.ensures.part c.if-opened.false) _ _ _ _ _ _ c.next_counting.ensures
