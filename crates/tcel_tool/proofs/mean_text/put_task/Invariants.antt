use Rattle.std.proofs.Common.{◌≡◌, ◌++◌, length, map}
use Rattle.tcel_core.specs.Cells.{all_words}
use Rattle.tcel_core.specs.Frames.{start_of}
use Rattle.tcel_core.specs.Plain.{plain_task}
use Rattle.tcel_tool.specs.MeanText.{task_text}
use Rattle.tcel_tool.proofs.mean_text.put_task.Given as goal

abbrev pub invariant-loop-number : goal.invariant-loop-number
invariant-loop-number l =
    let streams = map (λ list. list.items) l.fn.lists.items in
    record {
      start : record { cells = l.cells; inputs = l.inputs } ≡ start_of (plain_task l.task) streams l.number;
      words : length l.cells ≡ all_words l.task.vars;
      text : l.out.items ≡ l.fn.out.items ++ task_text (plain_task l.task) streams l.number;
    }
