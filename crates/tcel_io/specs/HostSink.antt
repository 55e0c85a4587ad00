-- A sink of the host's.
use Rattle.std.specs.Prelude.{◌≡◌, ◌≤◌, length}
use Rattle.tcel_io.specs.declared.host_sink.HostSink.TheInside.{Inside}

-- what is put and not yet written stands at the front of the block
abbrev pub IsGathering : Inside → Type 0
IsGathering sink = (length sink.block ≡ 65536) × (sink.filled ≤ 65536)
