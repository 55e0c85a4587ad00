-- What the call that cuts a task in two answers.
use Rattle.std.specs.Prelude.{◌≡◌, ℕ, ◌<◌}
use Rattle.tcel_rename.specs.declared.two_parts.PartsFail.{PartsFail}
use Rattle.tcel_rename.specs.declared.two_parts.PartsFail.TheVariants.{TooManyCells, NoMemory}

-- it refuses for more than 65,536 words, and tells how many there are
abbrev pub Refuses : ℕ → PartsFail → Type 0
Refuses words (TooManyCells n) = (n ≡ words) × (65536 < words)
Refuses words NoMemory = Unit {0}
