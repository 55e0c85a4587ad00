use Rattle.std.proofs.Common.{◌≡◌, ◌+◌, ◌-◌, ◌^◌, ◌≤◌, min, map, drop}
use Rattle.tcel_core.specs.Contents.{loops}
use Rattle.tcel_core.specs.Plain.{block_of, plain_body, plain_stmt}
use Rattle.tcel_rename.proofs.two_parts.+loops.Given as goal

abbrev pub invariant-loops_in_body-loop-stmt : goal.invariant-loops_in_body-loop-stmt
invariant-loops_in_body-loop-stmt l =
    record {
      fits : l.count ≤ 2 ^ 64 - 1;
      same : min (l.count + loops (block_of (map plain_stmt (drop l.stmt-index l.body.list)))) (2 ^ 64 - 1) ≡ min (loops (plain_body l.body)) (2 ^ 64 - 1);
    }
