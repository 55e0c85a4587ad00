-- What the state of a walk through a level's busy period says.
use Rattle.std.specs.Prelude.{◌≡◌, ℕ, suc, ◌+◌, ◌-◌, ◌*◌, ◌^◌, ◌<◌, ◌≤◌, true, false, List, Some, length, slice_get, slice_index, take}
use Rattle.tcel_busy.specs.Releases.{AreNext}
use Rattle.tcel_busy.specs.Stretches.{Position}
use Rattle.tcel_busy.specs.declared.walk.Walk.TheInside.{Inside}
use Rattle.tcel_demand.specs.Sound.{AreSound}
use Rattle.tcel_demand.specs.Workload.{asked}
use Rattle.tcel_num.specs.Plan.{Plan}

-- the least time, not 0, by which all that the level asked for before it can be done
pub record IsEndOfLevel (plans : List Plan) (task end : ℕ) : Type 0 where
  pub some : 0 < end
  pub enough : asked (take (suc task) plans) end ≤ end
  pub least : (time : ℕ) → 0 < time → time < end → time < asked (take (suc task) plans) time

-- between releases: what the higher tasks ask for stays from behind `since` to the gap's end
pub record IsBetween (a : Inside) (plan : Plan) (end since : ℕ) : Type 0 where
  pub inside : a.release < end
  pub from : a.from < plan.total
  pub before : since < a.until
  pub next : AreNext (take a.task a.plans.now) (suc since) a.next
  pub until : (task : ℕ) (other : Plan) → slice_get (take a.task a.plans.now) task ≡ Some other → a.until ≤ slice_index a.next task
  pub start : a.release + a.delay ≡ a.frame * plan.total + asked (take a.task a.plans.now) (suc since)
  pub low : (time : ℕ) → time ≤ since → time < a.frame * plan.total + a.from + 1 + asked (take a.task a.plans.now) time

-- the walk has left the busy period
pub record IsBehind (a : Inside) (end : ℕ) : Type 0 where
  pub some : 0 < a.frame
  pub whole : a.from ≡ 0
  pub past : end ≤ a.release

pub record IsWalking (a : Inside) : Type 0 where
  pub sound : AreSound a.plans.now
  pub size : length a.next ≡ 16
  pub plan : Plan
  pub of_task : slice_get a.plans.now a.task ≡ Some plan
  pub end : ℕ
  pub ends : IsEndOfLevel a.plans.now a.task end
  pub most : end ≤ 10 ^ 12
  pub fits : a.until < 2 ^ 64
  pub released : a.release ≡ a.frame * plan.period
  pub going : a.over ≡ false → (since : ℕ) × IsBetween a plan end since
  pub over : a.over ≡ true → IsBehind a end

abbrev pub position_of : Inside → Position
position_of a = record { plans = a.plans.now; task = a.task; frame = a.frame; from = a.from; left = 2 ^ 65 - (a.frame + a.until) }
