-- A sink in memory.
use Rattle.std.specs.Prelude.{◌≢◌, Some, ℕ, ◌-◌, ◌<◌, ◌==◌, min, List, [], length, Option, IsSome, ◌⊎◌, unwrap_or, find}
use Rattle.std.specs.Option.{option_map}
use Rattle.tcel_io.specs.declared.mem_sink.PutFail.{PutFail}
use Rattle.tcel_io.specs.Count.{one_more}
use Rattle.tcel_io.specs.Seen.{Seen}

-- what it took, how much it can hold in bytes, the puts that fail, and its counters
pub record State : Type 0 where
  pub taken : List ℕ
  pub room : ℕ
  pub fails : List PutFail
  pub puts : ℕ
  pub faults : ℕ
  pub reach : ℕ

-- it tells all of what is seen
abbrev pub seen : State → Seen
seen sink = record { taken = Some sink.taken; faults = sink.faults; puts = Some sink.puts; reach = Some sink.reach }

-- how many bytes the put of this number takes at most, where it is listed to fail; the first entry counts
abbrev pub cut_of : List PutFail → ℕ → Option ℕ
cut_of fails number = option_map (λ fail. fail.taken) (find (λ fail. fail.call == number) fails)

-- the cut of the next put
abbrev pub next_cut : State → Option ℕ
next_cut sink = cut_of sink.fails (one_more sink.puts)

-- the room that is left
abbrev pub room_left : State → ℕ
room_left sink = sink.room - length sink.taken

-- the next put fails: its piece isn't empty, and it is listed or passes the room
abbrev pub NextPutFails : State → List ℕ → Type 0
NextPutFails sink piece = (piece ≢ []) × (IsSome (next_cut sink) ⊎ (room_left sink < length piece))

-- how many bytes of the piece the next put takes: what fits, and no more than its cut
abbrev pub taken_next : State → List ℕ → ℕ
taken_next sink piece = let fitting = min (length piece) (room_left sink) in min fitting (unwrap_or (next_cut sink) fitting)
