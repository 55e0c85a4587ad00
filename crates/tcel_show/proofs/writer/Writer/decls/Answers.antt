use Rattle.tcel_show.specs.Canonical.{decl_tokens}
use Rattle.tcel_show.proofs.Putting.{put_each}
use Rattle.tcel_show.proofs.writer.Writer.decls.Goals as goal

pub loop-decl-preserved : goal.loop-decl-preserved
loop-decl-preserved c =
    put_each decl_tokens c.args.decls.now c.loop-decl.decl-index c.decl-item.result c.loop-decl-test.true c.decl-item.is c.loop-decl.invariant c.in_ok-decl.ensures
