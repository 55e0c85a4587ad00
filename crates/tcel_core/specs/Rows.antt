-- Sets of variables as four words of 64 bits.
use Rattle.std.specs.Prelude.{◌≡◌, ◌<◌, ◌||◌, ℕ, ◌/◌, ◌%◌, ◌^◌, ◌==◌, Bool, slice_index, if◌then◌else◌}
use Rattle.std.specs.Int.{bit_at}
use Rattle.tcel_core.specs.declared.row.Row.{Row}

-- variable v stands in a row where bit `v mod 64` of word `v div 64` is set
abbrev pub stands_in : Row → ℕ → Bool
stands_in row v = bit_at (slice_index row.bits (v / 64)) (v % 64) == 1

-- the bit of a variable in one of the words
abbrev pub bit_in : ℕ → ℕ → ℕ
bit_in v word = if v / 64 == word then 2 ^ (v % 64) else 0

-- these variables are added to a row
abbrev pub Adds : Row → Row → (ℕ → Bool) → Type 0
Adds before after more = (v : ℕ) → v < 256 → stands_in after v ≡ (stands_in before v || more v)
