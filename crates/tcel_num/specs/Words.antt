-- Words of variables, and arrays in them.
use Rattle.std.specs.Prelude.{ℕ, ◌+◌, ℤ, pos, negsuc, nat_lt, if◌then◌else◌, List, ◌++◌, take, drop, slice_set, slice_index_or}

-- the element of the array that stands at first, or 0 where the index is out of range
abbrev pub element : List ℤ → ℕ → ℕ → ℤ → ℤ
element words first length (pos index) = if nat_lt index length then slice_index_or words (first + index) (pos 0) else pos 0
element words first length (negsuc index) = pos 0

-- the words with the element set, and unchanged where the index is out of range
abbrev pub with_element : List ℤ → ℕ → ℕ → ℤ → ℤ → List ℤ
with_element words first length (pos index) value = if nat_lt index length then slice_set words (first + index) value else words
with_element words first length (negsuc index) value = words

-- the words where those that stood at one place stand at another
abbrev pub copied : List ℤ → ℕ → ℕ → ℕ → List ℤ
copied words from to length = take to words ++ (take length (drop from words) ++ drop (to + length) words)
