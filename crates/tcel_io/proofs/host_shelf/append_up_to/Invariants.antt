use Rattle.std.proofs.Common.{◌≡◌, ◌≤◌, ◌+◌, ◌-◌, length, vec_len}
use Rattle.std.specs.Io.{StartsWith, appended_bytes}
use Rattle.std.specs.Io.KnownBytes.{Consumes}
use Rattle.tcel_io.proofs.host_shelf.append_up_to.Given as goal

-- what has been read stands behind what was there, and is at most a byte more than the limit
abbrev pub invariant-loop-block : goal.invariant-loop-block
invariant-loop-block g l = record {
  starts : StartsWith l.into.items l.fn.into.items;
  bytes : Consumes (g.R.Read.remaining l.fn.reader) (g.R.Read.remaining l.reader) (appended_bytes l.fn.into.items l.into.items);
  start : l.start ≡ vec_len l.fn.into;
  grown : l.start ≤ vec_len l.into;
  bounded : vec_len l.into ≤ l.start + l.limit + 1;
  block : length l.block ≡ 8192;
}

-- what may still be read
abbrev pub decreases-loop-block : goal.decreases-loop-block
decreases-loop-block g l = l.start + l.limit + 1 - vec_len l.into
