-- `place::find` meets its contract: each answer is a case of the definition. Assumes nothing.
use Rattle.place.proofs.Stepping.{reaching_starts, reaching_filter, reaching_ends, reaching_on, reaching_stops, refused_by}
use Rattle.std.proofs.lemmas.Result.{err_from_is_err_and}
use borrow.Author.Rules.{rules}
use mathlib.Core.Path.{◌≡◌}
use Rattle.place.proofs.find.Goals as goal

pub loop-at-init : goal.loop-at-init
loop-at-init c = search (reaching_starts, rules)

pub loop-at-preserved : goal.loop-at-preserved
loop-at-preserved c = search (reaching_on, rules)

pub returns-in_err-reached : goal.returns-in_err-reached
returns-in_err-reached c =
    let p = err_from_is_err_and c.from_residual.result c.from_residual.ensures.1 in
    let q = refused_by _ c.advance.result c.map_err.result c.map_err.ensures.cases _ c.in_err-reached.was in
    let same : c.in_err-reached.field-0.0 ≡ record { reason = q.0; place = c.loop-at.at } = search (q.1.1, rules) in
    rw (p.1, p.2, same) (search (reaching_stops, q.1.0, rules))

pub returns-then-is_over : goal.returns-then-is_over
returns-then-is_over c = search (reaching_filter, rules)

pub returns : goal.returns
returns c = search (reaching_ends, rules)
