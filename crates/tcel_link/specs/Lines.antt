-- The lines of a text of links and what each says.
use Rattle.std.specs.Prelude.{ℕ, if◌then◌else◌, List, [], ◌∷◌, map}
use Rattle.std.specs.Str.Lines.{lines}
use Rattle.tcel_script.specs.Lines.{is_comment, words}

-- a line says nothing, or hasn't four words, or links an output of a task to an input of a task
pub data Line : Type 0 where
  passed : Line
  bad : Line
  linked : List ℕ → List ℕ → List ℕ → List ℕ → Line

-- the words behind the producer
abbrev pub by_rest : List ℕ → List (List ℕ) → Line
by_rest from (output ∷ to ∷ input ∷ []) = linked from output to input
by_rest from _ = bad

abbrev pub by_words : List (List ℕ) → Line
by_words [] = passed
by_words (from ∷ rest) = by_rest from rest

abbrev pub line_of : List ℕ → Line
line_of line = if is_comment line then passed else by_words (words line)

-- all lines, which are those of a script
abbrev pub link_lines : List ℕ → List Line
link_lines bytes = map line_of (lines bytes)
