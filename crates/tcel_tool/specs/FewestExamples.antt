-- Worked texts of `fewest`, for a task `hi` above a task `lo`.
use Rattle.std.specs.Prelude.{ℕ, List, [], ◌∷◌, ◌++◌, Some, None, codes}
use Rattle.std.specs.List.{repeat}
use Rattle.tcel_core.specs.Examples.{alarm, counter}
use Rattle.tcel_core.specs.Language.{Task}
use Rattle.tcel_fewest.specs.declared.fault.SetFault.{SetFault}
use Rattle.tcel_fewest.specs.declared.fault.Why.TheVariants.{Late, Overload}
use Rattle.tcel_num.specs.Plan.{before, frame}
use Rattle.tcel_tool.specs.FewestText.{fewest_text}
use Rattle.tcel_tool.specs.declared.status.CountKind.TheVariants.{FewestTasks}
use Rattle.tcel_tool.specs.declared.status.LimitFault.TheVariants.{Count}
use Rattle.tcel_tool.specs.declared.status.Status.{Status}
use Rattle.tcel_tool.specs.declared.status.Status.TheVariants.{Limit}

abbrev pub two : List Task
two = record counter { name = codes "hi" } ∷ record alarm { name = codes "lo" } ∷ []

-- with no task sliced, the lower one's mark is late
abbrev pub late_whole : SetFault
late_whole = record { tasks = 0; why = Late (record { task = 1; frame = 4; point = 0; name = frame; response = 118; bound = 117 }) }

-- so the lower one, which is set 1, is sliced
abbrev pub lower_text : List ℕ
lower_text = fewest_text two (Some 1) (late_whole ∷ [])

abbrev pub lower_wanted : List ℕ
lower_wanted = codes "fewest 1 of 2\nslice lo\nset none late task lo frame 4 point frame response 118 bound 117\n"

-- with the higher one sliced, which is set 2, its window's start is late; with both there is no room
abbrev pub late_higher : SetFault
late_higher = record { tasks = 2; why = Late (record { task = 0; frame = 0; point = 1; name = before 3; response = 16; bound = 15 }) }

abbrev pub no_room : SetFault
no_room = record { tasks = 3; why = Overload 12 8 }

-- nothing fits
abbrev pub none_text : List ℕ
none_text = fewest_text two None (late_whole ∷ late_higher ∷ no_room ∷ [])

abbrev pub none_wanted : List ℕ
none_wanted =
    codes "fewest none of 2\nset none late task lo frame 4 point frame response 118 bound 117\n"
    ++ (codes "set hi late task hi frame 0 point before 3 response 16 bound 15\n" ++ codes "set hi+lo overload demand 12 hyperperiod 8\n")

-- both are sliced
abbrev pub full_text : List ℕ
full_text = fewest_text two (Some 3) []

abbrev pub full_wanted : List ℕ
full_wanted = codes "fewest 2 of 2\nslice hi\nslice lo\n"

-- twelve tasks and one more
abbrev pub twelve : List Task
twelve = repeat 12 (counter ∷ [])

-- one task too many
abbrev pub thirteen : Status
thirteen = Limit (Count FewestTasks 13)
