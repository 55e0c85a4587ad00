use Rattle.tcel_check.proofs.walk.Walk.clause.Goals as goal

pub returns-in-Some : goal.returns-in-Some
returns-in-Some c = λ kind. rw c.in-Some.is (c.bound.ensures kind)
