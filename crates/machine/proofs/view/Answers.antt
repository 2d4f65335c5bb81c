-- An accepted call's part lies in the lent memory.
use Rattle.machine.proofs.Exits.{view_part, view_bounds}
use Rattle.machine.proofs.view.Goals as goal

pub overflow_sub-data : goal.overflow_sub-data
overflow_sub-data c = rw c.from.ensures (view_bounds _ _ _ _ c.lent_verdict.ensures c.in-Ok.is).0

pub bounds-m-from : goal.bounds-m-from
bounds-m-from c = rw c.from.ensures (view_bounds _ _ _ _ c.lent_verdict.ensures c.in-Ok.is).1

pub slice_bounds-result-count : goal.slice_bounds-result-count
slice_bounds-result-count c = rw c.from.ensures (view_bounds _ _ _ _ c.lent_verdict.ensures c.in-Ok.is).2

pub returns-in-Ok : goal.returns-in-Ok
returns-in-Ok c = rw c.from.ensures (view_part _ _ _ _ c.lent_verdict.ensures c.in-Ok.is)

pub slice_bounds-result-start : goal.slice_bounds-result-start
slice_bounds-result-start c = rw c.from.ensures (view_bounds _ _ _ _ c.lent_verdict.ensures c.in-Ok.is).2

pub slice_bounds-result-end-in-Ok : goal.slice_bounds-result-end-in-Ok
slice_bounds-result-end-in-Ok c = rw c.from.ensures (view_bounds _ _ _ _ c.lent_verdict.ensures c.in-Ok.is).3
