use Rattle.tcel_show.proofs.Putting.{puts_then, if_put}
use Rattle.tcel_show.proofs.writer.Writer.window.Goals as goal

pub returns : goal.returns
returns c = if_put c.clause-3.result (λ last. puts_then (puts_then c.in_ok-clause.ensures c.in_ok-clause-2.ensures) last) c.clause-3.ensures
