-- The words of a command line.
use Rattle.std.specs.Prelude.{◌≡◌, ℕ, ◌&&◌, Bool, true, false, nat_lt, nat_le, List, [], ◌∷◌, IsTrue, length, slice_index_or}
use Rattle.std.specs.List.{list_all}
use Rattle.std.specs.Char.{is_ascii_digit}
use Rattle.tcel_script.specs.Numbers.{magnitude}
use Rattle.tcel_tool.specs.declared.command.Slot.{Slot}
use Rattle.tcel_tool.specs.declared.command.Slot.TheVariants.{File, Number, Positive}

-- the word of this number, or the empty text where there is none
abbrev pub word_at : List (List ℕ) → ℕ → List ℕ
word_at words word = slice_index_or words word []

-- 1 to 18 decimal digits
abbrev pub is_number : List ℕ → Bool
is_number word = nat_lt 0 (length word) && (nat_le (length word) 18 && list_all is_ascii_digit word)

-- the number that the digits of the word of this number write
abbrev pub number_at : List (List ℕ) → ℕ → ℕ
number_at words word = magnitude (word_at words word)

-- those of a number above 0
abbrev pub is_positive : List ℕ → Bool
is_positive word = is_number word && nat_lt 0 (magnitude word)

-- whether a word may stand in this slot: any word names a file
abbrev pub fits : Slot → List ℕ → Bool
fits File word = true
fits Number word = is_number word
fits Positive word = is_positive word

-- whether these words may stand in these slots, one in each
abbrev pub fit : List Slot → List (List ℕ) → Bool
fit [] [] = true
fit [] (word ∷ words) = false
fit (slot ∷ slots) [] = false
fit (slot ∷ slots) (word ∷ words) = fits slot word && fit slots words

-- the words are a command's: its name, and a word for each of its slots
abbrev pub AreWords : List ℕ → List Slot → List (List ℕ) → Type 0
AreWords name slots [] = ⊥
AreWords name slots (first ∷ words) = (first ≡ name) × IsTrue (fit slots words)
