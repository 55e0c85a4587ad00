use Rattle.std.proofs.Common.{◌≡◌, ◌++◌, drop}
use Rattle.std.specs.List.{flat_map}
use Rattle.tcel_core.specs.Plain.{plain_task}
use Rattle.tcel_tool.specs.MeanText.{event_line}
use Rattle.tcel_tool.proofs.mean_text.put_events.Given as goal

abbrev pub invariant-loop-event : goal.invariant-loop-event
invariant-loop-event l =
    l.out.items ++ flat_map (event_line (plain_task l.task) l.number) (drop l.event-index l.events) ≡ l.fn.out.items ++ flat_map (event_line (plain_task l.task) l.number) l.events
