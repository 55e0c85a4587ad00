-- The busy periods that start at time 0 show everything.
use Rattle.std.proofs.Common.{◌≡◌, ℕ, zero, suc, ◌+◌, ◌*◌, ◌<◌, ◌≤◌, List, Some, take, sym, subst, arith, inl, inr}
use Rattle.std.specs.Prelude.{slice_get}
use Rattle.std.proofs.Math.Nat.{mul-le-mul_right}
use Rattle.std.proofs.lemmas.Bool.{cases_lt}
use Rattle.tcel_busy.specs.BusyPeriod.{IsBusyEnd, IsLeastFixed, IsLateSooner, ShowsAll}
use Rattle.tcel_busy.proofs.BusyPeriod.{IsTask, IsEnd, IsLeastTime, IsShown, shown, reached, least_time, all_busy, own_of, at_end}
use Rattle.tcel_busy.proofs.StretchFacts.{first_unique}
use Rattle.tcel_busy.proofs.Tasks.{is_task, higher, all, own, end_of}
use Rattle.tcel_demand.specs.Sound.{Fit}
use Rattle.tcel_demand.proofs.PassedPlaces.{sound_point}
use Rattle.tcel_demand.proofs.Standings.{sound_at}
use Rattle.tcel_demand.proofs.Workloads.{done}
use Rattle.tcel_num.specs.Lateness.{Place, IsFirstServed, IsResponse, IsLate, IsWorst}
use Rattle.tcel_num.specs.Plan.{Plan, Point}

-- a least time with room is a least fixed point
fixed_of : (asks : ℕ → ℕ) (cycles time : ℕ) → 0 < cycles → ((early late : ℕ) → early ≤ late → asks early ≤ asks late) → IsLeastTime asks cycles time → time ≡ cycles + asks time
fixed_of asks cycles zero some rising h = let room = h.room in absurd (omega arith)
fixed_of asks cycles (suc time) some rising h =
    let room = h.room in
    let left = h.least time (omega arith) in
    let rise = rising time (suc time) (omega arith) in
    omega arith

module _ (plans : List Plan) (hyper task : ℕ) (plan : Plan) (fit : Fit plans hyper) (e : slice_get plans task ≡ Some plan) where
  is : IsTask (higher plans task) (λ t. done (take task plans) t) (all plans task) (λ t. done (take (suc task) plans) t) (own plans task) plan.period plan.total
  is = is_task plans task plan fit.within.sound e

  end : ℕ
  end = (end_of plans hyper task fit).0

  ends : IsEnd (all plans task) end
  unfolding end
  ends = (end_of plans hyper task fit).1

  within_hyper : end ≤ hyper
  unfolding end
  within_hyper = (end_of plans hyper task fit).2

  busy_end : IsBusyEnd plans task end
  busy_end =
      let busy = all_busy (higher plans task) (λ t. done (take task plans) t) (all plans task) (λ t. done (take (suc task) plans) t) (own plans task) plan.period plan.total is end ends end (omega arith) in
      let within = is.level.within end in
      let enough = ends.enough in
      record {
        some = ends.some;
        full = omega arith;
        least = λ time some full. elim (cases_lt time end) [ inl less ↦ let left = ends.least time some less in absurd (omega arith) | inr more ↦ more ];
      }

  module _ (frame prefix : ℕ) (some : 0 < prefix) (most : prefix ≤ plan.total) (released : frame * plan.period < end) where
    cycles : ℕ
    cycles = frame * plan.total + prefix

    found : (time : ℕ) × IsLeastTime (higher plans task) (frame * plan.total + prefix) time
    found =
        least_time (higher plans task) (frame * plan.total + prefix) end
        (at_end (higher plans task) (λ t. done (take task plans) t) (all plans task) (λ t. done (take (suc task) plans) t) (own plans task) plan.period plan.total is end ends frame prefix most released)

    found_first : IsFirstServed plans task (frame * plan.total + prefix) found.0
    found_first =
        let first = (reached (higher plans task) (λ t. done (take task plans) t) (all plans task) (λ t. done (take (suc task) plans) t) (own plans task) plan.period plan.total is end ends (frame * plan.total + prefix) found.0
        (own_of (higher plans task) (λ t. done (take task plans) t) (all plans task) (λ t. done (take (suc task) plans) t) (own plans task) plan.period plan.total is end ends frame prefix most released) found.1).0 in
        record { there = first.there; before = first.before }

    found_fixed : found.0 ≡ frame * plan.total + prefix + higher plans task found.0
    found_fixed = fixed_of (higher plans task) (frame * plan.total + prefix) found.0 (omega arith) is.above.rising found.1

    fixed_from : (time : ℕ) → IsFirstServed plans task (frame * plan.total + prefix) time → IsLeastFixed plans task (frame * plan.total + prefix) time
    fixed_from time first =
        let same = first_unique plans task (frame * plan.total + prefix) found.0 time found_first first in
        subst (IsLeastFixed plans task (frame * plan.total + prefix)) same (record {
          fixed = found_fixed;
          least = λ other fixed. elim (cases_lt other found.0) [ inl less ↦ let left = found.1.least other less in absurd (omega arith) | inr more ↦ more ];
        })

    first_from : (time : ℕ) → IsLeastFixed plans task (frame * plan.total + prefix) time → IsFirstServed plans task (frame * plan.total + prefix) time
    first_from time h =
        let soon = h.least found.0 found_fixed in
        let fixed = h.fixed in
        let same : found.0 ≡ time = elim (cases_lt time found.0) [ inl less ↦ let left = found.1.least time less in absurd (omega arith) | inr more ↦ omega arith ] in
        subst (IsFirstServed plans task (frame * plan.total + prefix)) same found_first

  shows : (frame prefix : ℕ) → 0 < prefix → prefix ≤ plan.total →
      (low response : ℕ) × IsShown (higher plans task) (λ t. done (take task plans) t) (all plans task) (λ t. done (take (suc task) plans) t) (own plans task) plan.period plan.total is end ends frame prefix low response
  shows frame prefix some most = shown (higher plans task) (λ t. done (take task plans) t) (all plans task) (λ t. done (take (suc task) plans) t) (own plans task) plan.period plan.total is end ends frame prefix some most

  -- the frame's response, and the one that is no smaller
  record IsLow (k frame response : ℕ) (point : Point) : Type 0 where
    low : ℕ
    no_later : low ≤ frame
    released : low * plan.period < end
    there : ℕ
    responds : IsResponse plans (record { task = task; frame = low; point = k }) plan point there
    no_less : response ≤ there

  low_of : (k frame response : ℕ) (point : Point) → IsResponse plans (record { task = task; frame = frame; point = k }) plan point response → IsLow k frame response point
  low_of k frame response point r =
      let sound_here = sound_point plan k point (sound_at plans task plan fit.within.sound e) r.of_plan in
      let found = shows frame point.prefix sound_here.prefix_some sound_here.prefix_within in
      let enough = found.2.enough in
      record {
        low = found.0;
        no_later = found.2.no_later;
        released = found.2.within;
        there = found.1;
        responds = record { of_task = e; of_plan = r.of_plan; reached = record { there = found.2.first.there; before = found.2.first.before } };
        no_less = elim (cases_lt found.1 response) [ inl less ↦ let short = r.reached.before (frame * plan.period + found.1) (omega arith) in absurd (omega arith) | inr more ↦ more ];
      }

  late_sooner : (place : Place) → place.task ≡ task → IsLate plans place → IsLateSooner plans end plan place
  late_sooner place same (other, point, response, responds, above) =
      let there : slice_get plans task ≡ Some other = subst (λ i. slice_get plans i ≡ Some other) same responds.of_task in
      let plan_same : other ≡ plan = cc in
      let here : IsResponse plans (record { task = task; frame = place.frame; point = place.point }) plan point response =
      subst (λ (p : Plan). IsResponse plans (record { task = task; frame = place.frame; point = place.point }) p point response) plan_same
      (subst (λ i. IsResponse plans (record { task = i; frame = place.frame; point = place.point }) other point response) same responds) in
      let low = low_of place.point place.frame response point here in
      let more = low.no_less in
      record {
        frame = low.low;
        no_later = low.no_later;
        released = low.released;
        late = (plan, point, low.there, subst (λ i. IsResponse plans (record { task = i; frame = low.low; point = place.point }) plan point low.there) (sym same) low.responds, omega arith);
      }

  worst_within : (point frame response : ℕ) → IsWorst plans task point frame response → frame * plan.period < end
  worst_within point frame response h =
      elim (cases_lt (frame * plan.period) end) [
        | inl soon ↦ soon
        | inr past ↦
            let there : slice_get plans task ≡ Some h.plan = h.reached.of_task in
            let same : h.plan ≡ plan = cc in
            let here : IsResponse plans (record { task = task; frame = frame; point = point }) plan h.what response = subst (λ (p : Plan). IsResponse plans (record { task = task; frame = frame; point = point }) p h.what response) same h.reached in
            let low = low_of point frame response h.what here in
            let soon = low.released in
            let more = low.no_less in
            let earlier : low.low < frame = elim (cases_lt low.low frame) [
              | inl less ↦ less
              | inr later ↦ let long : frame * plan.period ≤ low.low * plan.period = mul-le-mul_right plan.period later in absurd (omega arith)
            ] in
            let of_low : IsResponse plans (record { task = task; frame = low.low; point = point }) h.plan h.what low.there =
            subst (λ (p : Plan). IsResponse plans (record { task = task; frame = low.low; point = point }) p h.what low.there) (sym same) low.responds in
            let less = h.earliest low.low low.there earlier of_low in
            absurd (omega arith)
      ]

  pub shows_all : (end : ℕ) × IsBusyEnd plans task end × (end ≤ hyper) × ShowsAll plans task end plan
  shows_all = (
    end,
    busy_end,
    within_hyper,
    record {
      reached = λ frame prefix time some most released. (fixed_from frame prefix some most released time, first_from frame prefix some most released time);
      late = late_sooner;
      worst = worst_within;
    },
  )
