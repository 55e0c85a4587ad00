use Rattle.std.proofs.Common.{◌≡◌, ◌-◌, take, drop}
use Rattle.tcel_trace.specs.Pieces.{more_numbers}
use Rattle.tcel_trace.specs.Reading.{behind}
use Rattle.tcel_judge.proofs.states.behind_more.Given as goal

abbrev pub invariant-loop-place : goal.invariant-loop-place
invariant-loop-place l =
    behind (more_numbers (take (l.to - l.place) (drop l.place l.cells))) l.rest ≡ behind (more_numbers (take (l.to - l.from) (drop l.from l.cells))) l.text
