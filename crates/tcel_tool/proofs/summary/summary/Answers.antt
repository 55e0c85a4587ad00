use Rattle.std.proofs.Common.{◌∙◌, sym}
use Rattle.std.proofs.lemmas.List.{length-map}
use Rattle.tcel_core.specs.Plain.{plain_task}
use Rattle.tcel_tool.specs.Chosen.{plain_choice}
use Rattle.tcel_tool.proofs.Counts.{summed_up}
use Rattle.tcel_tool.proofs.summary.summary.Goals as goal

pub returns-clause-text : goal.returns-clause-text
returns-clause-text c =
    let made = c.args.prepared in
    let choice = plain_choice made.chosen in
    c.in_ok-text.ensures
    ∙ summed_up choice made.script made.ticks c.in_ok-ready.ready c.in_ok-machine.machine c.count-counts.result c.len.result c.in_ok-ready.ensures.image c.in_ok-machine.ensures
    c.count-counts.ensures.counted c.count-counts.ensures.fits (c.len.ensures ∙ sym (length-map made.chosen.set.tasks plain_task))
