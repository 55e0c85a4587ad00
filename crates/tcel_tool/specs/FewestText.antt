-- The text of `fewest`: the first set of sliced tasks that fits, and what is wrong with each set before it.
use Rattle.std.specs.Prelude.{◌≡◌, ℕ, List, [], ◌∷◌, ◌++◌, Bool, true, false, MatchOption, Option, Some, None, length, unwrap_or, codes}
use Rattle.std.specs.List.{flat_map}
use Rattle.tcel_core.specs.Language as core
use Rattle.tcel_fewest.specs.Faults.{IsFewest, NoneFits}
use Rattle.tcel_fewest.specs.Sets.{has}
use Rattle.tcel_fewest.specs.declared.fault.SetFault.{SetFault}
use Rattle.tcel_fewest.specs.declared.fault.Why.{Why}
use Rattle.tcel_fewest.specs.declared.fault.Why.TheVariants.{Late, Overload}
use Rattle.tcel_num.specs.Lateness.{Lateness}
use Rattle.tcel_tool.specs.FaultLine.{point_number, point_word}
use Rattle.tcel_tool.specs.Report.{part_text}
use Rattle.tcel_tool.specs.SetChoice.{name_at}
use Rattle.tcel_tool.specs.SetForms.{SetForms}

-- a name, where its task is in a set
abbrev pub name_if : Bool → List ℕ → List (List ℕ)
name_if true name = name ∷ []
name_if false name = []

-- the names of the tasks that are in a set, in falling priority
abbrev pub names_in : ℕ → List core.Task → List (List ℕ)
names_in set [] = []
names_in set (task ∷ tasks) = name_if (has set (length tasks)) task.name ++ names_in set tasks

-- ---- the set that fits

abbrev pub slice_line : List ℕ → List ℕ
slice_line name = codes "slice " ++ (name ++ codes "\n")

-- out of how many tasks
abbrev pub of_line : ℕ → List ℕ
of_line tasks = part_text (codes " of ") tasks ++ codes "\n"

-- how many tasks are in the set, and a line for each; or that none fits
abbrev pub found_text : List core.Task → Option ℕ → List ℕ
found_text tasks None = codes "fewest none" ++ of_line (length tasks)
found_text tasks (Some set) =
    part_text (codes "fewest ") (length (names_in set tasks)) ++ (of_line (length tasks) ++ flat_map slice_line (names_in set tasks))

-- ---- the sets before it

abbrev pub plus_name : List ℕ → List ℕ
plus_name name = codes "+" ++ name

-- names joined by `+`, and a word for no names
abbrev pub names_text : List (List ℕ) → List ℕ
names_text [] = codes "none"
names_text (name ∷ names) = name ++ flat_map plus_name names

-- the name of the task of this number
abbrev pub task_text : List core.Task → ℕ → List ℕ
task_text tasks number = unwrap_or (name_at tasks number) []

-- a late point, behind the name of its task
abbrev pub point_text : Lateness → List ℕ
point_text late =
    part_text (codes " frame ") late.frame
    ++ (codes " point "
    ++ (point_word late.name
    ++ (point_number late.name ++ (part_text (codes " response ") late.response ++ (part_text (codes " bound ") late.bound ++ codes "\n")))))

abbrev pub why_text : List core.Task → Why → List ℕ
why_text tasks (Overload demand hyper) = part_text (codes " overload demand ") demand ++ (part_text (codes " hyperperiod ") hyper ++ codes "\n")
why_text tasks (Late late) = codes " late task " ++ (task_text tasks late.task ++ point_text late)

abbrev pub fault_line : List core.Task → SetFault → List ℕ
fault_line tasks fault = codes "set " ++ (names_text (names_in fault.tasks tasks) ++ why_text tasks fault.why)

-- ---- the whole text

abbrev pub fewest_text : List core.Task → Option ℕ → List SetFault → List ℕ
fewest_text tasks found faults = found_text tasks found ++ flat_map (fault_line tasks) faults

-- that of the first set that fits, with the faults of those before it; or of none, with the faults of all
pub record IsFewestText (f : SetForms) (text : List ℕ) : Type 0 where
  pub found : Option ℕ
  pub faults : List SetFault
  pub are : MatchOption found (NoneFits f.whole f.sliced f.hyper faults) (λ set. IsFewest f.whole f.sliced f.hyper set faults)
  pub is : text ≡ fewest_text f.set found faults
