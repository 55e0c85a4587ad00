use Rattle.tcel_busy.proofs.Laws.{shows_all}
use Rattle.tcel_busy.proofs.law.busy_period_law.Goals as goal

pub returns : goal.returns
returns c = λ plans hyper task plan fit e. shows_all plans hyper task plan fit e
