-- The promise of layout and code: every run of a set's image does what the source says.
use Rattle.std.specs.Prelude.{◌≡◌, ℕ, ◌≤◌, ℤ, List, length, map, All}
use Rattle.std.specs.List.{AllZip}
use Rattle.tcel_num.specs.Hyperperiod.{IsHyperperiod, demand}
use Rattle.tcel_num.specs.Lateness.{IsNeverLate}
use Rattle.tcel_num.specs.Plan.{Plan}
use Rattle.tcel_core.specs.Language.{Task}
use Rattle.tcel_core.specs.Meets.{Meets}
use Rattle.tcel_core.specs.Scope.{TaskFits}
use Rattle.tcel_target.specs.declared.costs.Costs.{Costs}
use Rattle.tcel_target.specs.Costs.{CostsInRange}
use Rattle.tcel_image.specs.Machine.{Streams, trace}
use Rattle.tcel_cost.specs.Forms.{Form}
use Rattle.tcel_cost.specs.Plans.{ArePlans}
use Rattle.tcel_cost.specs.WholePlan.{AreWholePlans}
use Rattle.tcel_code.specs.Layout.{image_of, layout}
use Rattle.tcel_code.specs.PartsFit.{PartsFit}

-- a stream for each input of a task
abbrev pub HasStreams : Task → List (List ℤ) → Type 0
HasStreams task streams = length streams ≡ length task.inputs

-- over any streams of its inputs and for any number of ticks, the trace of the image of a set in these forms meets the set, by these plans
abbrev pub RunsOfFormsMeet : List Form → Costs → List Plan → Type 0
RunsOfFormsMeet forms costs plans =
    (streams : Streams) (ticks : ℕ) → AllZip HasStreams (map (λ (form : Form). form.task) forms) streams →
    Meets (map (λ (form : Form). form.task) forms) plans streams ticks (trace (layout forms costs) streams ticks)

-- the runs of every set meet it, whichever of its tasks are sliced, where the parts of each mean its body, the demand fits, and no point of the plans
-- is ever late
abbrev pub SetsMeetTheirSource : Type 0
SetsMeetTheirSource =
    (forms : List Form) (costs : Costs) (plans : List Plan) (hyper : ℕ) → All PartsFit forms → CostsInRange costs → ArePlans forms costs plans →
    IsHyperperiod plans hyper → demand plans hyper ≤ hyper → IsNeverLate plans → RunsOfFormsMeet forms costs plans

-- the same of a set of which no task is sliced
abbrev pub RunsMeet : List Task → Costs → List Plan → Type 0
RunsMeet set costs plans =
    (streams : Streams) (ticks : ℕ) → AllZip HasStreams set streams → Meets set plans streams ticks (trace (image_of set costs) streams ticks)

-- so do those of every set of which no task is sliced
abbrev pub WholeSetsMeetTheirSource : Type 0
WholeSetsMeetTheirSource =
    (set : List Task) (costs : Costs) (plans : List Plan) (hyper : ℕ) → All TaskFits set → CostsInRange costs → AreWholePlans set costs plans →
    IsHyperperiod plans hyper → demand plans hyper ≤ hyper → IsNeverLate plans → RunsMeet set costs plans
