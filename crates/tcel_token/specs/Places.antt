-- Places in a text.
use Rattle.std.specs.Prelude.{◌≡◌, ℕ, ◌+◌, ◌<◌, ◌⊎◌, List, count_by}
use Rattle.std.specs.List.{suffix_len}
use Rattle.tcel_num.specs.declared.at.At.{At}
use Rattle.tcel_token.specs.Pieces.{in_line, is_line_feed}

-- the place behind these bytes: each line feed ends a line, and a column is a byte
abbrev pub place : List ℕ → At
place bytes = record { line = count_by is_line_feed bytes + 1; column = suffix_len in_line bytes + 1 }

-- a place stands before another: on an earlier line, or on the same line in an earlier column
abbrev pub Precedes : At → At → Type 0
Precedes a b = (a.line < b.line) ⊎ ((a.line ≡ b.line) × (a.column < b.column))
