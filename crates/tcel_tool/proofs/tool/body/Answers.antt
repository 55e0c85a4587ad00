use Rattle.tcel_tool.proofs.tool.body.Goals as goal

pub returns-in-Compile-clause-goes : goal.returns-in-Compile-clause-goes
returns-in-Compile-clause-goes g c = rw c.in-Compile.is c.compile.ensures.goes

pub returns-in-Run-clause-goes : goal.returns-in-Run-clause-goes
returns-in-Run-clause-goes g c = rw (c.in-Run.is, c.requires.task) c.run.ensures.goes

pub returns-in-Format-clause-goes : goal.returns-in-Format-clause-goes
returns-in-Format-clause-goes g c = rw (c.in-Format.is, c.requires.task) c.format.ensures.goes

pub returns-in-Check-clause-goes : goal.returns-in-Check-clause-goes
returns-in-Check-clause-goes g c = rw (c.in-Check.is, c.requires.task) c.check.ensures.goes

pub returns-in-Mean-clause-goes : goal.returns-in-Mean-clause-goes
returns-in-Mean-clause-goes g c = rw (c.in-Mean.is, c.requires.task) c.mean.ensures.goes

pub returns-in-Analyse-clause-goes : goal.returns-in-Analyse-clause-goes
returns-in-Analyse-clause-goes g c = rw c.in-Analyse.is c.analyse.ensures.goes

pub returns-in-Timeline-clause-goes : goal.returns-in-Timeline-clause-goes
returns-in-Timeline-clause-goes g c = rw c.in-Timeline.is c.timeline.ensures.goes

pub returns-in-Linked-clause-goes : goal.returns-in-Linked-clause-goes
returns-in-Linked-clause-goes g c = rw c.in-Linked.is c.linked.ensures.goes

pub returns-in-Fewest-clause-goes : goal.returns-in-Fewest-clause-goes
returns-in-Fewest-clause-goes g c = rw c.in-Fewest.is c.fewest.ensures.goes

pub returns-in-Judge-clause-goes : goal.returns-in-Judge-clause-goes
returns-in-Judge-clause-goes g c = rw c.in-Judge.is c.judge.ensures.goes

pub returns-in-Trial-clause-goes : goal.returns-in-Trial-clause-goes
returns-in-Trial-clause-goes g c = rw c.in-Trial.is (c.trial.ensures.goes (g.H.Shelf.seen c.args.shelf.now))

pub returns-in-Make-clause-goes : goal.returns-in-Make-clause-goes
returns-in-Make-clause-goes g c = rw (c.in-Make.is, c.requires.task) (c.make.ensures.goes (g.H.Shelf.seen c.args.shelf.now))
