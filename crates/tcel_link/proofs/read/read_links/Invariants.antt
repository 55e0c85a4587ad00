use Rattle.std.proofs.Common.{◌≡◌, ℕ, ◌+◌, ◌<◌, ◌≤◌, length, map, take, drop, None}
use Rattle.tcel_core.specs.Plain.{plain_task}
use Rattle.tcel_link.specs.Conditions.{AreLinks}
use Rattle.tcel_link.specs.Lines.{link_lines}
use Rattle.tcel_link.specs.Links.{fault_at, links_of}
use Rattle.tcel_link.proofs.read.read_links.Given as goal

abbrev pub invariant-loop-tasks : goal.invariant-loop-tasks
invariant-loop-tasks l =
    let tasks = map plain_task l.tasks in
    record {
      counted : l.number + length l.rest ≤ length l.bytes;
      left : link_lines l.rest ≡ drop l.number (link_lines l.bytes);
      so_far : l.links.items ≡ links_of tasks (take l.number (link_lines l.bytes));
      sound : (k : ℕ) → k < l.number → fault_at tasks (link_lines l.bytes) k ≡ None;
      fit : AreLinks tasks l.links.items;
    }

abbrev pub decreases-loop-tasks : goal.decreases-loop-tasks
decreases-loop-tasks l = length l.rest
