-- Worked command lines.
use Rattle.std.specs.Prelude.{ℕ, List, [], ◌∷◌, Option, None, codes}
use Rattle.tcel_check.specs.Examples.{at, tasks_to}
use Rattle.tcel_check.specs.declared.fail.CheckKind.TheVariants.{SamePriority}
use Rattle.tcel_check.specs.declared.fail.LimitKind.TheVariants.{Tasks}
use Rattle.tcel_link.specs.declared.fail.LinkFail.TheVariants.{InputTwice}
use Rattle.tcel_num.specs.Plan.{within}
use Rattle.tcel_tree.specs.Language.{Task}
use Rattle.tcel_tool.specs.declared.status.CountKind.TheVariants.{Ticks, MadeTasks, MeanFrames}
use Rattle.tcel_tool.specs.declared.status.LimitFault.TheVariants as limits
use Rattle.tcel_tool.specs.declared.status.ProgramKind.TheVariants.{Check, Unexpected}
use Rattle.tcel_tool.specs.declared.status.Status.{Status}
use Rattle.tcel_tool.specs.declared.status.Status.TheVariants.{Late, Limit, Link, Program}

-- `run a b`, and the ticks
abbrev pub run_line : List ℕ → List (List ℕ)
run_line ticks = codes "run" ∷ codes "a" ∷ codes "b" ∷ ticks ∷ []

-- `mean a b`, and the frames
abbrev pub mean_line : List ℕ → List (List ℕ)
mean_line frames = codes "mean" ∷ codes "a" ∷ codes "b" ∷ frames ∷ []

-- `timeline a b`, and the ticks
abbrev pub timeline_line : List ℕ → List (List ℕ)
timeline_line ticks = codes "timeline" ∷ codes "a" ∷ codes "b" ∷ ticks ∷ []

-- `linked a b c d`, and the ticks
abbrev pub linked_line : List ℕ → List (List ℕ)
linked_line ticks = codes "linked" ∷ codes "a" ∷ codes "b" ∷ codes "c" ∷ codes "d" ∷ ticks ∷ []

-- `compile a b`, `analyse a b`, `fewest a b`, `format a`, `check a`
abbrev pub compile_line : List (List ℕ)
compile_line = codes "compile" ∷ codes "a" ∷ codes "b" ∷ []

abbrev pub analyse_line : List (List ℕ)
analyse_line = codes "analyse" ∷ codes "a" ∷ codes "b" ∷ []

abbrev pub fewest_line : List (List ℕ)
fewest_line = codes "fewest" ∷ codes "a" ∷ codes "b" ∷ []

abbrev pub format_line : List (List ℕ)
format_line = codes "format" ∷ codes "a" ∷ []

abbrev pub check_line : List (List ℕ)
check_line = codes "check" ∷ codes "a" ∷ []

-- `make 1`, and the tasks
abbrev pub make_line : List ℕ → List (List ℕ)
make_line tasks = codes "make" ∷ codes "1" ∷ tasks ∷ []

-- `trial 1`, the tasks and the ticks
abbrev pub trial_line : List ℕ → List ℕ → List (List ℕ)
trial_line tasks ticks = codes "trial" ∷ codes "1" ∷ tasks ∷ ticks ∷ []

-- no bytes are told
abbrev pub nothing_told : List ℕ → Option (List ℕ)
nothing_told name = None

-- one tick more than there may be
abbrev pub too_many : Status
too_many = Limit (limits.Count Ticks 10000001)

-- one frame more than there may be
abbrev pub too_many_frames : Status
too_many_frames = Limit (limits.Count MeanFrames 10001)

-- one task more than may be made
abbrev pub too_many_made : Status
too_many_made = Limit (limits.Count MadeTasks 17)

-- a line of links that leads to an input again
abbrev pub again : Status
again = Link (InputTwice 2)

-- a token that begins no program goes on
abbrev pub unexpected : Status
unexpected = Program Unexpected (record { line = 1; column = 38 })

-- the 65th operator of an expression
abbrev pub too_deep : Status
too_deep = Limit (limits.Operators (record { line = 12; column = 304 }))

-- a priority that an earlier task has
abbrev pub same_priority : Status
same_priority = Program (Check SamePriority) (record { line = 2; column = 17 })

-- tasks of which the 17th has its name in column 116
abbrev pub sixteen : List Task
sixteen = tasks_to 16

abbrev pub seventeen : List Task
seventeen = tasks_to 17

abbrev pub many_tasks : Status
many_tasks = Limit (limits.Placed Tasks (at 116))

-- a bound of a block that is passed in a frame of the second task
abbrev pub late_point : Status
late_point = Late (record { task = 1; frame = 1; point = 2; name = within 3; response = 70; bound = 69 })

-- the words of a task's parts
abbrev pub many_cells : Status
many_cells = Limit (limits.Cells 0 72001)

-- the second period
abbrev pub long_hyper : Status
long_hyper = Limit (limits.Hyper 1)
