-- What a task asks of the processor. Times and counts are ticks, that is cycles.
use Rattle.std.specs.Prelude.{ℕ, List}

-- what a point bounds: the frame's deadline, or `start before` or `finish within` of the task's n-th window, from 1
pub data PointName : Type 0 where
  frame : PointName
  before : ℕ → PointName
  within : ℕ → PointName

-- after this many cycles of a frame a point is reached, which is to be within the bound after the release
pub record Point : Type 0 where
  pub prefix : ℕ
  pub bound : ℕ
  pub name : PointName

-- each period releases a frame of this many cycles, with these points
pub record Plan : Type 0 where
  pub period : ℕ
  pub total : ℕ
  pub points : List Point
