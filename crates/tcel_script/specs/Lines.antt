-- The lines of a script and what each says.
use Rattle.std.specs.Prelude.{ℕ, Bool, false, ◌||◌, ◌==◌, nat_lt, if◌then◌else◌, List, [], ◌∷◌, length, map, filter}
use Rattle.std.specs.List.{slice_split}
use Rattle.std.specs.Str.Lines.{lines}

-- a space or a tab
abbrev pub is_blank : ℕ → Bool
is_blank byte = byte == 32 || byte == 9

-- the words of a line: what stands between blanks
abbrev pub words : List ℕ → List (List ℕ)
words line = filter (λ part. nat_lt 0 (length part)) (slice_split is_blank line)

-- a comment begins with the sign `#`
abbrev pub is_comment : List ℕ → Bool
is_comment [] = false
is_comment (first ∷ rest) = first == 35

-- a line says nothing, or has only one word, or gives values to an input of a task
pub data Line : Type 0 where
  passed : Line
  short : Line
  stream : List ℕ → List ℕ → List (List ℕ) → Line

abbrev pub by_words : List (List ℕ) → Line
by_words [] = passed
by_words (word ∷ []) = short
by_words (task ∷ port ∷ values) = stream task port values

abbrev pub line_of : List ℕ → Line
line_of line = if is_comment line then passed else by_words (words line)

-- all lines: a line ends with a line feed or with the bytes, and a carriage return before the line feed is dropped
abbrev pub script_lines : List ℕ → List Line
script_lines bytes = map line_of (lines bytes)
