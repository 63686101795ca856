-- `selecting::gather` meets its contract, whatever is asked: the cards are judged one by one. Assumes nothing.
use borrow.Author.Rules.{rules}
use Rattle.std.proofs.lemmas.Result.{err_from_is_err_and}
use mathlib.Core.Path.{refl, ◌∙◌}
use Rattle.selecting.proofs.Gathering.{asked_alike, verdict_same, gathering_start, gathering_room, gathering_scaled, gathering_more, gathering_well_formed, gathering_match, gathering_other, gathering_stopped, gathering_end}
use Rattle.selecting.proofs.gather.Goals as goal
use Rattle.selecting.proofs.gather.Goals.{then-yes, else-yes}

pub loop-index-init : goal.loop-index-init
loop-index-init g c = search (gathering_start, rules)

pub invariant_of-record_number : goal.invariant_of-record_number
invariant_of-record_number g c =
    let (gathered, (ready, alike)) = c.loop-index.invariant in
    gathering_well_formed _ _ gathered c.loop-index-test.true _ _ (asked_alike _ _ _ _ alike c.verdict-verdict.ensures.says) _ (verdict_same _ _ _ c.map_err.ensures.cases _ c.in_ok-yes.was)

pub offset_bounds-buffer-count : goal.offset_bounds-buffer-count
offset_bounds-buffer-count g c = search (gathering_scaled, rules)

pub bounds-buffer-count : goal.bounds-buffer-count
bounds-buffer-count g c = search (gathering_room, rules)

pub overflow_add-count : goal.overflow_add-count
overflow_add-count g c = search (gathering_more, rules)

pub loop-index-preserved : goal.loop-index-preserved
loop-index-preserved g c =
    let (gathered, (ready, alike)) = c.loop-index.invariant in
    let says = asked_alike _ _ _ _ alike c.verdict-verdict.ensures.says in
    elim c.if-yes.branch [
      | then-yes w ↦ (rw (w.buffer-is, w.count-is) (gathering_match _ _ gathered c.loop-index-test.true _ refl _ says _ _ (verdict_same _ _ _ c.map_err.ensures.cases _ c.in_ok-yes.was) w.if-yes.true w.record_number.ensures), (c.verdict-verdict.ensures.ready, c.verdict-verdict.ensures.same ∙ alike))
      | else-yes w ↦ (rw (w.buffer-is, w.count-is) (gathering_other _ _ gathered c.loop-index-test.true _ refl _ says _ (verdict_same _ _ _ c.map_err.ensures.cases _ c.in_ok-yes.was) w.if-yes.false), (c.verdict-verdict.ensures.ready, c.verdict-verdict.ensures.same ∙ alike))
    ]

pub returns-in_err-yes : goal.returns-in_err-yes
returns-in_err-yes g c =
    let (gathered, (ready, alike)) = c.loop-index.invariant in
    let p = err_from_is_err_and c.from_residual.result c.from_residual.ensures.1 in
    rw (p.1, p.2)
    (gathering_stopped _ _ gathered c.loop-index-test.true _ refl _ (asked_alike _ _ _ _ alike c.verdict-verdict.ensures.says) _ _ c.map_err.ensures.cases (λ x r h. search rules) _ c.in_err-yes.was)

pub returns : goal.returns
returns g c = search (gathering_end, rules)
