use Rattle.tcel_check.proofs.walk.Walk.length.Goals as goal

pub returns-in-Array : goal.returns-in-Array
returns-in-Array c = λ kind. rw c.in-Array.is (c.bound.ensures kind)
