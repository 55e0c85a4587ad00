-- Faults and limits at their places, and which one is answered.
use Rattle.std.specs.Prelude.{◌≡◌, ℕ, Bool, false, List, [], Option, Some, None, Contains, ◌==◌, if◌then◌else◌, nat_lt}
use Rattle.tcel_num.specs.declared.at.At.{At}
use Rattle.tcel_check.specs.declared.fail.CheckKind.{CheckKind}
use Rattle.tcel_check.specs.declared.fail.CheckKind.TheVariants.{Twice, Unknown, WrongType, NotAPort, WindowInLoop, LoopDepth, SamePriority, BadBound}
use Rattle.tcel_check.specs.declared.fail.LimitKind.{LimitKind}
use Rattle.tcel_check.specs.declared.fail.LimitKind.TheVariants.{Tasks, Variables, Words, Nodes, Windows}
use Rattle.tcel_check.specs.declared.mark.Mark.{Mark}
use Rattle.tcel_check.specs.declared.mark.Row.{Row}
use Rattle.tcel_check.specs.declared.mark.Row.TheVariants.{Fault, Limit}

-- the table's order
abbrev pub rank : Row → ℕ
rank (Limit Tasks) = 0
rank (Limit Variables) = 1
rank (Limit Words) = 2
rank (Limit Nodes) = 3
rank (Limit Windows) = 4
rank (Fault Twice) = 5
rank (Fault Unknown) = 6
rank (Fault WrongType) = 7
rank (Fault NotAPort) = 8
rank (Fault WindowInLoop) = 9
rank (Fault LoopDepth) = 10
rank (Fault SamePriority) = 11
rank (Fault BadBound) = 12

abbrev pub fault : CheckKind → At → Mark
fault kind at = record { row = Fault kind; at = at }

abbrev pub limit : LimitKind → At → Mark
limit kind at = record { row = Limit kind; at = at }

-- an earlier line, on one line an earlier column, at one place an earlier row
abbrev pub precedes : Mark → Mark → Bool
precedes a b =
    if a.at.line == b.at.line
    then (if a.at.column == b.at.column then nat_lt (rank a.row) (rank b.row) else nat_lt a.at.column b.at.column)
    else nat_lt a.at.line b.at.line

-- the mark that no other one precedes, where there is any
abbrev pub IsFirst : List Mark → Option Mark → Type 0
IsFirst marks None = marks ≡ []
IsFirst marks (Some first) = Contains marks first × ((other : Mark) → Contains marks other → precedes other first ≡ false)
