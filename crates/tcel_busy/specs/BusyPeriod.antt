-- The busy period of a task's level that starts at time 0, and what it shows. The level has the task and all higher ones.
use Rattle.std.specs.Prelude.{◌≡◌, ◌↔◌, ℕ, suc, ◌+◌, ◌*◌, ◌<◌, ◌≤◌, List, Some, slice_get, take}
use Rattle.tcel_demand.specs.Sound.{Fit}
use Rattle.tcel_demand.specs.Workload.{asked}
use Rattle.tcel_num.specs.Lateness.{Place, IsFirstServed, IsLate, IsWorst}
use Rattle.tcel_num.specs.Plan.{Plan}

-- it ends at the least time, not 0, that is as long as all frames of the level that are released before it
pub record IsBusyEnd (plans : List Plan) (task end : ℕ) : Type 0 where
  pub some : 0 < end
  pub full : end ≡ asked (take (suc task) plans) end
  pub least : (time : ℕ) → 0 < time → time ≡ asked (take (suc task) plans) time → end ≤ time

-- the least time that is as long as these cycles and all frames of the higher tasks that are released before it
pub record IsLeastFixed (plans : List Plan) (task cycles time : ℕ) : Type 0 where
  pub fixed : time ≡ cycles + asked (take task plans) time
  pub least : (other : ℕ) → other ≡ cycles + asked (take task plans) other → time ≤ other

-- the place has a late one in a frame that is no later, and released before this time
pub record IsLateSooner (plans : List Plan) (end : ℕ) (plan : Plan) (place : Place) : Type 0 where
  pub frame : ℕ
  pub no_later : frame ≤ place.frame
  pub released : frame * plan.period < end
  pub late : IsLate plans (record { task = place.task; frame = frame; point = place.point })

-- the frames that are released before its end tell everything: when each cycle is reached, which frame is late first, and where the worst response is
pub record ShowsAll (plans : List Plan) (task end : ℕ) (plan : Plan) : Type 0 where
  pub reached : (frame prefix time : ℕ) → 0 < prefix → prefix ≤ plan.total → frame * plan.period < end →
      (IsFirstServed plans task (frame * plan.total + prefix) time) ↔ (IsLeastFixed plans task (frame * plan.total + prefix) time)
  pub late : (place : Place) → place.task ≡ task → IsLate plans place → IsLateSooner plans end plan place
  pub worst : (point frame response : ℕ) → IsWorst plans task point frame response → frame * plan.period < end

-- so it is for each task of plans that fit, also where the demand is equal to the hyperperiod
abbrev pub busy_periods_show_all : Type 0
busy_periods_show_all = (plans : List Plan) (hyper task : ℕ) (plan : Plan) → Fit plans hyper → slice_get plans task ≡ Some plan →
    (end : ℕ) × IsBusyEnd plans task end × (end ≤ hyper) × ShowsAll plans task end plan
