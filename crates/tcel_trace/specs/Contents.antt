-- What a buffer holds.
use Rattle.std.specs.Prelude.{ℕ, List}

-- bytes, and for how many there is room
pub record Contents : Type 0 where
  pub bytes : List ℕ
  pub room : ℕ
