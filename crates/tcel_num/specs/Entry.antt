-- What a run shows: entries, each with the time at the end of the tick that made it.
use Rattle.std.specs.Prelude.{ℕ, ℤ, List}

-- a value taken from an input, a value put to an output, the end of a frame's first part, or the end of a frame with the state that it leaves
pub data What : Type 0 where
  receive : ℕ → ℤ → What
  send : ℕ → ℤ → What
  first : What
  end : List ℤ → What

-- an entry of a task, in one of its frames
pub record Entry : Type 0 where
  pub time : ℕ
  pub task : ℕ
  pub frame : ℕ
  pub what : What
