use Rattle.std.proofs.Common.{◌||◌, sym, ap, ◌∙◌}
use Rattle.tcel_core.specs.Rows.{stands_in}
use Rattle.tcel_slice.specs.Keeping.{have_common}
use Rattle.tcel_slice.proofs.Common.{meets_is}
use Rattle.tcel_slice.proofs.keeping.is_kept.Goals as goal

pub returns-else-event : goal.returns-else-event
returns-else-event c f is =
    meets_is c.args.needed.now c.args.writes.now f c.meets.result is c.meets.ensures
    ∙ sym (ap (λ b. b || have_common (stands_in c.args.writes.now) f) c.if-event.false)
