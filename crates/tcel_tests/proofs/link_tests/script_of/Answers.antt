use Rattle.std.proofs.Common.{◌∙◌}
use Rattle.tcel_core.specs.Plain.{plain_set}
use Rattle.tcel_link.proofs.Ports.{script_fits}
use Rattle.tcel_tests.proofs.link_tests.script_of.Goals as goal

pub returns : goal.returns
returns c = script_fits (plain_set c.args.set.now) c.deref.result.now c.in_ok-script.script (c.deref.ensures.value ∙ c.in_ok-ports.ensures.rows) c.in_ok-script.ensures.streams
