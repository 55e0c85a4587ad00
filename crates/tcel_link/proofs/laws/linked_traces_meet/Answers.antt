use Rattle.tcel_link.proofs.LinkedTraces.{linked_traces_meet as traces}
use Rattle.tcel_link.proofs.laws.linked_traces_meet.Goals as goal

pub returns : goal.returns
returns c = traces
