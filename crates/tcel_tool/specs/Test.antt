-- The tests of what commands read. Commands.antt says what passes each, and what it refuses.
use Rattle.std.specs.Prelude.{ℕ}

pub data Test : Type 0 where
  target : Test
  choice : Test
  unit_choice : Test
  image : Test
  script : Test
  program : Test
  faultless : Test
  -- the script of this word, for the inputs of the program
  inputs : (word : ℕ) → Test
  links : Test
  few : Test
  forms : Test
  trace : Test
  verdict : Test
