use Rattle.tcel_show.proofs.Putting.{puts_cons, puts_then, if_put}
use Rattle.tcel_show.proofs.writer.Writer.assign_at.Goals as goal

pub returns : goal.returns
returns c = if_put c.sign-4.result (λ last. puts_cons c.in_ok-name.ensures (puts_cons c.in_ok-sign.ensures (puts_then c.in_ok-whole.ensures (puts_cons c.in_ok-sign-2.ensures (puts_cons c.in_ok-sign-3.ensures (puts_then c.in_ok-whole-2.ensures last)))))) c.sign-4.ensures
