-- The next releases of the tasks above one, and what they have asked for.
use Rattle.std.specs.Prelude.{◌≡◌, ℕ, suc, ◌+◌, ◌*◌, ◌^◌, ◌<◌, ◌≤◌, List, Some, slice_get, slice_index}
use Rattle.tcel_busy.specs.declared.gap.Gap.{Gap}
use Rattle.tcel_demand.specs.Workload.{releases, asked}
use Rattle.tcel_num.specs.Plan.{Plan}

-- of each of these plans, its first release from this time on
abbrev pub AreNext : List Plan → ℕ → List ℕ → Type 0
AreNext plans time next = (task : ℕ) (plan : Plan) → slice_get plans task ≡ Some plan → slice_index next task ≡ releases plan.period time * plan.period

-- what is asked at this time, and a later time up to which no more is
pub record IsGap (plans : List Plan) (time : ℕ) (next : List ℕ) (gap : Gap) : Type 0 where
  pub cycles : asked plans time + gap.cycles ≡ asked plans (suc time)
  pub later : time < gap.until
  pub fits : gap.until < 2 ^ 64
  pub until : (task : ℕ) (plan : Plan) → slice_get plans task ≡ Some plan → gap.until ≤ slice_index next task
