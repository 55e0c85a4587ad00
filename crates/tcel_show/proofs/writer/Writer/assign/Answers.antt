use Rattle.tcel_show.proofs.Putting.{puts_cons, puts_then, if_put}
use Rattle.tcel_show.proofs.writer.Writer.assign.Goals as goal

pub returns : goal.returns
returns c = if_put c.sign-2.result (λ last. puts_cons c.in_ok-name.ensures (puts_cons c.in_ok-sign.ensures (puts_then c.in_ok-whole.ensures last))) c.sign-2.ensures
