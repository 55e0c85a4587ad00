-- What is seen of a sink.
use Rattle.std.specs.Prelude.{◌≡◌, ℕ, List, Option, IsSome}
use Rattle.tcel_io.specs.Count.{Rose, puts_after}
use Rattle.tcel_io.specs.Reach.{Reaches}
use Rattle.tcel_io.specs.Taken.{Takes, TakesPrefix}
use Rattle.tcel_io.specs.Told.{StaysTold}

-- the bytes taken, the faults and the puts of pieces that aren't empty so far, and the reach of these puts
pub record Seen : Type 0 where
  pub taken : Option (List ℕ)
  pub faults : ℕ
  pub puts : Option ℕ
  pub reach : Option ℕ

-- the piece was put, and taken whole
pub record IsTaken (piece : List ℕ) (old new : Seen) : Type 0 where
  pub whole : Takes piece old.taken new.taken
  pub faults : new.faults ≡ old.faults
  pub counted : StaysTold (λ before after. after ≡ puts_after piece before) old.puts new.puts
  pub reach : Reaches piece old.taken old.reach new.reach

-- the piece was put, and a fault came: a prefix of it was taken
pub record IsCutOff (piece : List ℕ) (old new : Seen) : Type 0 where
  pub part : TakesPrefix piece old.taken new.taken
  pub fault : Rose old.faults new.faults
  pub counted : StaysTold (λ before after. after ≡ puts_after piece before) old.puts new.puts
  pub reach : Reaches piece old.taken old.reach new.reach

-- the reach is told only where the bytes taken are
abbrev pub IsReachTold : Seen → Type 0
IsReachTold sink = IsSome sink.reach → IsSome sink.taken
