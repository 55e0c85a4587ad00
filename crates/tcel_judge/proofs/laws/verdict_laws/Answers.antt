use Rattle.tcel_judge.proofs.JudgedLaws.{only_where_met, where_met}
use Rattle.tcel_judge.proofs.OneVerdict.{said_once}
use Rattle.tcel_judge.proofs.laws.verdict_laws.Goals as goal

pub returns : goal.returns
returns c = record { once = λ set plans ticks lines v w h k. said_once set plans ticks lines v w h k; only = only_where_met; met = where_met }
