use Rattle.std.specs.Prelude.{length}
use Rattle.tcel_core.specs.Plain.{plain_set}
use Rattle.tcel_tool.specs.Chosen.{plain_choice}
use Rattle.tcel_tool.specs.Report.{head_line}
use Rattle.tcel_tool.proofs.Reports.{one_task_more}
use Rattle.tcel_tool.proofs.report.report_on.Goals as goal

pub loop-number-preserved : goal.loop-number-preserved
loop-number-preserved c =
    let chosen = c.args.chosen.now in
    let head = head_line chosen.choice.sliced (length (plain_set chosen.set)) in
    one_task_more (plain_choice chosen) c.loop-number.number head c.loop-number.text.items c.put_task.new.out.items
    c.loop-number.invariant c.in_ok-put_task.ensures
