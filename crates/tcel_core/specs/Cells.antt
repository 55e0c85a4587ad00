-- The words of a task's variables: one list, with the variables in order.
use Rattle.std.specs.Prelude.{ℕ, ◌+◌, ℤ, pos, List, [], ◌∷◌, take, drop, slice_index_or, slice_set}
use Rattle.tcel_num.specs.Words.{element, with_element, copied}
use Rattle.tcel_core.specs.declared.var.Var.{Var}
use Rattle.tcel_core.specs.declared.var.VarKind.{VarKind}

-- a scalar is one word, an array its length
abbrev pub words_of : VarKind → ℕ
words_of VarKind.Int = 1
words_of VarKind.Bool = 1
words_of (VarKind.Array n) = n

-- the words of these variables together
abbrev pub all_words : List Var → ℕ
all_words [] = 0
all_words (v ∷ vs) = words_of v.kind + all_words vs

-- where the words of a variable begin
abbrev pub place : List Var → ℕ → ℕ
place vars v = all_words (take v vars)

-- how many words a variable has; a number of no variable has none
abbrev pub width : List Var → ℕ → ℕ
width vars v = all_words (take 1 (drop v vars))

-- the word of a scalar
abbrev pub word : List Var → List ℤ → ℕ → ℤ
word vars cells v = slice_index_or cells (place vars v) (pos 0)

-- a scalar is set
abbrev pub set_word : List Var → List ℤ → ℕ → ℤ → List ℤ
set_word vars cells v x = slice_set cells (place vars v) x

-- the element of an array, or 0 out of range
abbrev pub element_at : List Var → List ℤ → ℕ → ℤ → ℤ
element_at vars cells v i = element cells (place vars v) (width vars v) i

-- an element of an array is set; out of range nothing changes
abbrev pub set_element : List Var → List ℤ → ℕ → ℤ → ℤ → List ℤ
set_element vars cells v i x = with_element cells (place vars v) (width vars v) i x

-- all words of the second variable are set to those of the first
abbrev pub copy_words : List Var → List ℤ → ℕ → ℕ → List ℤ
copy_words vars cells from to = copied cells (place vars from) (place vars to) (width vars from)
