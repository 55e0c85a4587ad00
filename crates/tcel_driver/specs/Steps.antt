-- What the steps of a choice answer: the form of one task, and the plans of one number of sliced tasks.
use Rattle.std.specs.Prelude.{◌≡◌, ℕ, ◌-◌, ◌^◌, ◌<◌, ◌≤◌, List, ◌++◌, length, take, drop}
use Rattle.tcel_num.specs.Hyperperiod.{demand, periods_of}
use Rattle.tcel_num.specs.Lateness.{IsFirstLate, IsNeverLate}
use Rattle.tcel_num.specs.Plan.{Plan}
use Rattle.tcel_core.specs.Language.{Task}
use Rattle.tcel_demand.specs.Sound.{AreWithin}
use Rattle.tcel_target.specs.declared.costs.Costs.{Costs}
use Rattle.tcel_cost.specs.Forms.{Form}
use Rattle.tcel_driver.specs.Refusals.{IsDearForm, NeedsWords}
use Rattle.tcel_driver.specs.declared.refused.Refused.{Refused}
use Rattle.tcel_driver.specs.declared.refused.Refused.TheVariants as refused

-- the parts of the task with this number need too many words
abbrev pub IsLargeAt : ℕ → Task → Refused → Type 0
IsLargeAt number task (refused.TooManyCells at words) = (at ≡ number) × NeedsWords task words × (65536 < words)
IsLargeAt number task refused.NoMemory = Unit {0}
IsLargeAt number task _ = ⊥

-- a form of the task with this number has too many cycles
abbrev pub IsDearAt : ℕ → Form → Costs → Refused → Type 0
IsDearAt number form costs (refused.TooDear at cycles) = (at ≡ number) × IsDearForm form costs cycles
IsDearAt number form costs refused.NoMemory = Unit {0}
IsDearAt number form costs _ = ⊥

-- there is room for the plans, and no point is ever late
pub record HaveTime (plans : List Plan) (hyper : ℕ) : Type 0 where
  pub room : demand plans hyper ≤ hyper
  pub never : IsNeverLate plans

-- or what is wrong with them
abbrev pub IsFault : List Plan → ℕ → Refused → Type 0
IsFault plans hyper (refused.Overload cycles ticks) = (cycles ≡ demand plans hyper) × (ticks ≡ hyper) × (hyper < cycles)
IsFault plans hyper (refused.Late late) = (demand plans hyper ≤ hyper) × IsFirstLate plans late
IsFault plans hyper _ = ⊥

-- of two lists of plans, those of the whole tasks up to a number and then those of the sliced ones
abbrev pub joint : ℕ → List Plan → List Plan → List Plan
joint number whole sliced = take number whole ++ drop number sliced

-- two plans of each task, with the same periods
pub record ArePaired (whole sliced : List Plan) (hyper : ℕ) : Type 0 where
  pub at_once : AreWithin whole hyper
  pub in_parts : AreWithin sliced hyper
  pub same : periods_of sliced ≡ periods_of whole
  pub most : hyper ≤ 10 ^ 12

-- the least number of sliced tasks that have time, and the plans
pub record IsLeast (whole sliced : List Plan) (hyper : ℕ) (number : ℕ) (plans : List Plan) : Type 0 where
  pub most : number ≤ length whole
  pub are : plans ≡ joint (length whole - number) whole sliced
  pub time : HaveTime plans hyper
  pub least : (fewer : ℕ) → fewer < number → HaveTime (joint (length whole - fewer) whole sliced) hyper → ⊥

-- no number of them has time, and this is wrong with all tasks sliced
pub record HaveFault (whole sliced : List Plan) (hyper : ℕ) (fault : Refused) : Type 0 where
  pub none : (number : ℕ) → number ≤ length whole → HaveTime (joint (length whole - number) whole sliced) hyper → ⊥
  pub is : IsFault sliced hyper fault
