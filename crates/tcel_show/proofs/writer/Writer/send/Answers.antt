use Rattle.tcel_show.proofs.Putting.{puts_cons, puts_then, if_put}
use Rattle.tcel_show.proofs.writer.Writer.send.Goals as goal

pub returns : goal.returns
returns c = if_put c.sign.result (λ last. puts_cons c.in_ok-word.ensures (puts_then c.in_ok-whole.ensures (puts_cons c.in_ok-word-2.ensures (puts_cons c.in_ok-name.ensures last)))) c.sign.ensures
