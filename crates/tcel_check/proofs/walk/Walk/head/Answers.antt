use Rattle.tcel_check.proofs.Walking.{saw_cons, saw_then}
use Rattle.tcel_check.proofs.walk.Walk.head.Goals as goal

pub returns : goal.returns
returns c = λ kind. saw_cons (c.bound.ensures kind) (saw_then (rw c.as_slice.ensures at (c.lengths.ensures kind)) (saw_cons (c.bound-2.ensures kind) (c.clause.ensures kind)))
