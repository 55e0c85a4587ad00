use Rattle.tcel_show.proofs.Putting.{puts_cons, puts_then, if_put}
use Rattle.tcel_show.proofs.writer.Writer.every.Goals as goal

pub returns : goal.returns
returns c =
    if_put c.braced.result
    (λ last. puts_cons c.in_ok-word.ensures (puts_cons c.in_ok-placed.ensures (puts_then c.in_ok-clause.ensures (rw c.as_slice.ensures at last))))
    c.braced.ensures
