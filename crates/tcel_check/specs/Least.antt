-- The first mark so far.
use Rattle.std.specs.Prelude.{ℕ, map, List, ◌++◌, Option, Some, None, if◌then◌else◌, fold}
use Rattle.tcel_check.specs.declared.mark.Mark.{Mark}
use Rattle.tcel_check.specs.Marks.{IsFirst, precedes}
use Rattle.tcel_check.specs.Rows.{passing, word_mark}
use Rattle.tcel_tree.specs.declared.task.Decl.{Decl}

-- the first of two
abbrev pub kept : Option Mark → Mark → Option Mark
kept None m = Some m
kept (Some first) m = Some (if precedes m first then m else first)

abbrev pub kept_all : Option Mark → List Mark → Option Mark
kept_all least ms = fold kept least ms

-- behind any marks, with these ones too, the first mark goes from the old to the new
pub record Adds (old new : Option Mark) (more : List Mark) : Type 0 where
  pub first : (before : List Mark) → IsFirst before old → IsFirst (before ++ more) new

-- the row of words over these declarations, behind so many words
abbrev pub AddsWords : ℕ → List Decl → Option Mark → Option Mark → Type 0
AddsWords words ds old new = Adds old new (map word_mark (passing words ds))
