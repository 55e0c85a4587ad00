-- The text of `analyse`: what each task of a choice asks of the processor, and how late each of its points is reached at most.
use Rattle.std.specs.Prelude.{◌≡◌, ℕ, zero, suc, ◌+◌, Bool, true, false, nat_le, List, [], ◌∷◌, ◌++◌, Some, length, slice_get, slice_index_or, codes}
use Rattle.std.specs.Fmt.{decimal}
use Rattle.tcel_busy.specs.WorstStretches.{AreWorst}
use Rattle.tcel_core.specs.Language as core
use Rattle.tcel_demand.specs.declared.plan.Worst.{Worst}
use Rattle.tcel_num.specs.Plan.{Plan, Point}
use Rattle.tcel_tool.specs.FaultLine.{point_number, point_word}
use Rattle.tcel_tool.specs.SetChoice.{Choice}

-- a word and a number
abbrev pub part_text : List ℕ → ℕ → List ℕ
part_text word number = word ++ decimal number

-- how many of so many tasks are sliced
abbrev pub head_line : ℕ → ℕ → List ℕ
head_line sliced tasks = part_text (codes "sliced ") sliced ++ (part_text (codes " of ") tasks ++ codes "\n")

abbrev pub form_word : Bool → List ℕ
form_word true = codes " sliced"
form_word false = codes " whole"

-- a task by its name, whether it is sliced, and its plan
abbrev pub task_line : List ℕ → Bool → Plan → List ℕ
task_line name sliced plan =
    codes "task " ++ (name ++ (form_word sliced ++ (part_text (codes " period ") plan.period ++ (part_text (codes " total ") plan.total ++ codes "\n"))))

-- a point, with its greatest response and the first frame that has it
abbrev pub point_line : Point → Worst → List ℕ
point_line point worst =
    codes "point "
    ++ (point_word point.name
    ++ (point_number point.name
    ++ (part_text (codes " prefix ") point.prefix
    ++ (part_text (codes " bound ") point.bound
    ++ (part_text (codes " worst ") worst.response ++ (part_text (codes " frame ") worst.frame ++ codes "\n"))))))

-- a response to nothing
abbrev pub no_response : Worst
no_response = record { frame = 0; response = 0 }

-- these points, of which the first has this number, each with its own response
abbrev pub points_text : List Worst → ℕ → List Point → List ℕ
points_text worst i [] = []
points_text worst i (point ∷ points) = point_line point (slice_index_or worst i no_response) ++ points_text worst (i + 1) points

-- so many of the last tasks are sliced
abbrev pub is_sliced : Choice → ℕ → Bool
is_sliced c number = nat_le (length c.set) (number + c.sliced)

-- the text of the task with this number: its line, and a line for each point of its plan
pub record IsTaskText (c : Choice) (number : ℕ) (text : List ℕ) : Type 0 where
  pub task : core.Task
  pub of_set : slice_get c.set number ≡ Some task
  pub plan : Plan
  pub of_plans : slice_get c.plans number ≡ Some plan
  pub worst : List Worst
  pub one_each : length worst ≡ length plan.points
  pub are : AreWorst c.plans number worst
  pub is : text ≡ task_line task.name (is_sliced c number) plan ++ points_text worst 0 plan.points

-- it was added to a text
abbrev pub AddsTask : Choice → ℕ → List ℕ → List ℕ → Type 0
AddsTask c number old new = (own : List ℕ) × IsTaskText c number own × (new ≡ old ++ own)

-- the texts of the first n tasks, one after another
abbrev pub AreTaskTexts : Choice → ℕ → List ℕ → Type 0
AreTaskTexts c zero text = text ≡ []
AreTaskTexts c (suc n) text = (front : List ℕ) × (own : List ℕ) × AreTaskTexts c n front × IsTaskText c n own × (text ≡ front ++ own)

-- the whole text: the head, and all tasks in falling priority
pub record IsReport (c : Choice) (text : List ℕ) : Type 0 where
  pub tasks : List ℕ
  pub are : AreTaskTexts c (length c.set) tasks
  pub is : text ≡ head_line c.sliced (length c.set) ++ tasks
