-- The state of the running demand schedule, before and behind one tick.
use Rattle.std.proofs.Common.{◌≡◌, ◌≢◌, ℕ, zero, suc, ◌+◌, ◌-◌, ◌*◌, ◌/◌, ◌^◌, ◌<◌, ◌≤◌, List, [], ◌∷◌, length, get_or, set, take, refl, sym, ◌∙◌, subst, arith, Some, None, inl, inr, get_or-set_other, get_or-set_same, add-one}
use Rattle.std.specs.Prelude.{slice_get, nat_le, position}
use Rattle.std.proofs.Math.Nat.{mul-le-mul_left, div-lt_iff_lt-mul}
use Rattle.std.proofs.lemmas.Nat.{le-div}
use Rattle.std.proofs.lemmas.Bool.{cases_eq, leb-true, leb-false}
use Rattle.std.proofs.lemmas.List.{get_or-take, length-take-le, length-set}
use Rattle.std.proofs.lemmas.List.Quantifiers.{position-Some}
use Rattle.std.proofs.lemmas.Option.{slice_get_within, get_or_from_slice_get}
use Rattle.tcel_num.specs.Plan.{Plan}
use Rattle.tcel_num.specs.Schedule.{released, served}
use Rattle.tcel_demand.specs.Sound.{IsSoundPlan, AreSound}
use Rattle.tcel_demand.specs.Ticks.{IsPending, IsIdle, Serves}
use Rattle.tcel_demand.specs.Standing.{IsAt, IsStanding, IsStep}
use Rattle.tcel_demand.specs.declared.demand.Demand.TheInside.{Inside}
use Rattle.tcel_demand.proofs.FirstPlaces.{position-none}
use Rattle.tcel_demand.proofs.TickLemmas.{tick_idle, tick_serves, tick_leaves}

-- the plan of a task is sound
pub sound_at : (plans : List Plan) (task : ℕ) (plan : Plan) → AreSound plans → slice_get plans task ≡ Some plan → IsSoundPlan plan
sound_at plans task plan sound e = subst IsSoundPlan (get_or_from_slice_get plans task plan plan e) (sound.each task plan (slice_get_within plans task plan e))

pub plan_at : (plans : List Plan) (task : ℕ) → task < length plans → (plan : Plan) × (slice_get plans task ≡ Some plan)
plan_at [] task h = absurd (omega arith)
plan_at (p ∷ plans) zero h = (p, refl)
plan_at (p ∷ plans) (suc task) h = plan_at plans task (omega arith)

-- a task is pending exactly from the release of its next frame on
started_pending : (plans : List Plan) (time task : ℕ) (plan : Plan) (frames cycles start : ℕ) → IsAt plans time task plan frames cycles start → 0 < plan.period → start ≤ time → served plans time task < released plan time
started_pending plans time task plan frames cycles start at some h =
    let begun = at.begun in
    let many = le-div frames time plan.period some (omega arith) in
    let all : plan.total * (frames + 1) ≤ plan.total * (time / plan.period + 1) = mul-le-mul_left plan.total (omega arith) in
    let done = at.done in
    let part = at.part in
    omega arith

waits_idle : (plans : List Plan) (time task : ℕ) (plan : Plan) (frames cycles start : ℕ) → IsAt plans time task plan frames cycles start → 0 < plan.period → time < start → released plan time ≤ served plans time task
waits_idle plans time task plan frames cycles start at some h =
    let begun = at.begun in
    let few = (div-lt_iff_lt-mul {k = plan.period} {x = time} {y = frames} some).1 (omega arith) in
    let all : plan.total * (time / plan.period + 1) ≤ plan.total * frames = mul-le-mul_left plan.total (omega arith) in
    let done = at.done in
    omega arith

-- what is kept of each task
module _ (plans : List Plan) (time : ℕ) (frames cycles starts : List ℕ) (sound : AreSound plans) (long : length starts ≡ 16)
    (each : (task : ℕ) (plan : Plan) → slice_get plans task ≡ Some plan → IsAt plans time task plan (get_or frames task 0) (get_or cycles task 0) (get_or starts task 0)) where
  no_pending : (task : ℕ) → time < get_or starts task 0 → IsPending plans time task → ⊥
  no_pending task h pending =
      let plan = pending.plan in
      let none = waits_idle plans time task plan (get_or frames task 0) (get_or cycles task 0) (get_or starts task 0) (each task plan pending.of_task) (sound_at plans task plan sound pending.of_task).period_some h in
      let some = pending.some in
      omega arith

  pub none_started : position (λ start. nat_le start time) (take (length plans) starts) ≡ None → IsIdle plans time
  none_started none task pending =
      let most = sound.most in
      let within = slice_get_within plans task pending.plan pending.of_task in
      let size = length-take-le (length plans) starts (omega arith) in
      let fails = position-none (λ start. nat_le start time) (take (length plans) starts) none task 0 (omega arith) in
      let same = get_or-take (length plans) starts task 0 within in
      let less = leb-false _ _ fails in
      no_pending task (omega arith) pending

  -- the first task whose next frame is released is served
  pub record IsFound (task : ℕ) : Type 0 where
    pub within : task < length plans
    pub begun : get_or starts task 0 ≤ time
    pub serves : Serves plans time task

  pub first_started : (task : ℕ) → position (λ start. nat_le start time) (take (length plans) starts) ≡ Some task → IsFound task
  first_started task found =
      let most = sound.most in
      let size = length-take-le (length plans) starts (omega arith) in
      let h = position-Some (λ start. nat_le start time) (take (length plans) starts) task 0 found in
      let within : task < length plans = let short = h.0 in omega arith in
      let begun : get_or starts task 0 ≤ time = let yes = leb-true _ _ h.1 in let same = get_or-take (length plans) starts task 0 within in omega arith in
      let here = plan_at plans task within in
      let at = each task here.0 here.1 in
      record {
        within = within;
        begun = begun;
        serves = record {
          pending = record { plan = here.0; of_task = here.1; some = started_pending plans time task here.0 _ _ _ at (sound_at plans task here.0 sound here.1).period_some begun };
          highest = λ higher less pending.
              let fails = leb-false _ _ (h.2 higher less) in
              let same = get_or-take (length plans) starts higher 0 (omega arith) in
              no_pending higher (omega arith) pending;
        };
      }

  -- the step that is made
  pub step_is : (task : ℕ) (plan : Plan) → slice_get plans task ≡ Some plan → IsFound task →
      IsStep plans time (record { task = task; frame = get_or frames task 0; cycles = get_or cycles task 0 + 1; response = time + 1 - get_or starts task 0 })
  step_is task plan e found =
      let at = each task plan e in
      let done = at.done in
      let part = at.part in
      let begun = at.begun in
      let from = found.begun in
      let more = tick_serves plans time task found.serves in
      record { serves = found.serves; plan = plan; of_task = e; some = omega arith; within = omega arith; before = omega arith; done = omega arith; response = omega arith; later = omega arith }

  -- ---- behind the tick

  moved : (task : ℕ) (plan : Plan) (f c s : ℕ) → IsAt plans time task plan f c s → served plans (suc time) task ≡ served plans time task → IsAt plans (time + 1) task plan f c s
  moved task plan f c s at same =
      let done = at.done in
      let soon = at.soon in
      let on : served plans (time + 1) task ≡ served plans (suc time) task = rw add-one refl in
      record { done = omega arith; part = at.part; begun = at.begun; soon = omega arith }

  pub kept_idle : IsIdle plans time → (task : ℕ) (plan : Plan) → slice_get plans task ≡ Some plan → IsAt plans (time + 1) task plan (get_or frames task 0) (get_or cycles task 0) (get_or starts task 0)
  kept_idle idle task plan e = moved task plan _ _ _ (each task plan e) (tick_idle plans time idle task)

  module _ (task : ℕ) (plan : Plan) (e : slice_get plans task ≡ Some plan) (found : IsFound task) where
    on : served plans (time + 1) task ≡ get_or frames task 0 * plan.total + (get_or cycles task 0 + 1)
    on =
        let more = tick_serves plans time task found.serves in
        let done = (each task plan e).done in
        let same : served plans (time + 1) task ≡ served plans (suc time) task = rw add-one refl in
        omega arith

    left : (other : ℕ) (q : Plan) → slice_get plans other ≡ Some q → other ≢ task → IsAt plans (time + 1) other q (get_or frames other 0) (get_or cycles other 0) (get_or starts other 0)
    left other q there apart = moved other q _ _ _ (each other q there) (tick_leaves plans time task other found.serves apart)

    -- within its frame
    here_more : length cycles ≡ 16 → (get_or cycles task 0 + 1 ≡ plan.total → ⊥) →
        IsAt plans (time + 1) task plan (get_or frames task 0) (get_or (set cycles task (get_or cycles task 0 + 1)) task 0) (get_or starts task 0)
    here_more size short =
        let at = each task plan e in
        let part = at.part in
        let soon = at.soon in
        let done = on in
        let within = found.within in
        let most = sound.most in
        let same = get_or-set_same cycles task (get_or cycles task 0 + 1) 0 (omega arith) in
        record { done = omega arith; part = omega arith; begun = at.begun; soon = omega arith }

    pub kept_more : length cycles ≡ 16 → (get_or cycles task 0 + 1 ≡ plan.total → ⊥) → (other : ℕ) (q : Plan) → slice_get plans other ≡ Some q →
        IsAt plans (time + 1) other q (get_or frames other 0) (get_or (set cycles task (get_or cycles task 0 + 1)) other 0) (get_or starts other 0)
    kept_more size short other q there =
        elim (cases_eq other task) [
          | inr apart ↦ rw (get_or-set_other cycles task other (get_or cycles task 0 + 1) 0 apart) (left other q there apart)
          | inl same ↦
              let plans_same : plan ≡ q = cc in
              subst (λ (i : ℕ). IsAt plans (time + 1) i q (get_or frames i 0) (get_or (set cycles task (get_or cycles task 0 + 1)) i 0) (get_or starts i 0)) (sym same)
              (subst (λ (p : Plan). IsAt plans (time + 1) task p (get_or frames task 0) (get_or (set cycles task (get_or cycles task 0 + 1)) task 0) (get_or starts task 0)) plans_same (here_more size short))
        ]

    -- at its frame's end
    here_end : length frames ≡ 16 → length cycles ≡ 16 → get_or cycles task 0 + 1 ≡ plan.total →
        IsAt plans (time + 1) task plan (get_or (set frames task (get_or frames task 0 + 1)) task 0) (get_or (set cycles task 0) task 0) (get_or (set starts task (get_or starts task 0 + plan.period)) task 0)
    here_end many size whole =
        let at = each task plan e in
        let begun = at.begun in
        let from = found.begun in
        let done = on in
        let within = found.within in
        let most = sound.most in
        let frame = get_or-set_same frames task (get_or frames task 0 + 1) 0 (omega arith) in
        let cycle = get_or-set_same cycles task 0 0 (omega arith) in
        let start = get_or-set_same starts task (get_or starts task 0 + plan.period) 0 (omega arith) in
        rw (frame, cycle, start) (record { done = omega arith; part = omega arith; begun = omega arith; soon = omega arith })

    pub kept_end : length frames ≡ 16 → length cycles ≡ 16 → get_or cycles task 0 + 1 ≡ plan.total → (other : ℕ) (q : Plan) → slice_get plans other ≡ Some q →
        IsAt plans (time + 1) other q (get_or (set frames task (get_or frames task 0 + 1)) other 0) (get_or (set cycles task 0) other 0) (get_or (set starts task (get_or starts task 0 + plan.period)) other 0)
    kept_end many size whole other q there =
        elim (cases_eq other task) [
          | inr apart ↦
              rw (get_or-set_other frames task other (get_or frames task 0 + 1) 0 apart, get_or-set_other cycles task other 0 0 apart, get_or-set_other starts task other (get_or starts task 0 + plan.period) 0 apart)
              (left other q there apart)
          | inl same ↦
              let plans_same : plan ≡ q = cc in
              subst (λ (i : ℕ). IsAt plans (time + 1) i q (get_or (set frames task (get_or frames task 0 + 1)) i 0) (get_or (set cycles task 0) i 0) (get_or (set starts task (get_or starts task 0 + plan.period)) i 0)) (sym same)
              (subst (λ (p : Plan). IsAt plans (time + 1) task p (get_or (set frames task (get_or frames task 0 + 1)) task 0) (get_or (set cycles task 0) task 0) (get_or (set starts task (get_or starts task 0 + plan.period)) task 0)) plans_same (here_end many size whole))
        ]

-- ---- the same of the state that the schedule keeps

module _ (a : Inside) (h : IsStanding a) (task : ℕ) (first : position (λ start. nat_le start a.ticks) (take (length a.plans.now) a.starts) ≡ Some task) where
  found_in : IsFound a.plans.now a.ticks a.frames a.cycles a.starts h.sound h.starts h.each task
  found_in = first_started a.plans.now a.ticks a.frames a.cycles a.starts h.sound h.starts h.each task first

  pub in_plans : task < length a.plans.now
  in_plans = found_in.within

  pub cycle_fits : get_or a.cycles task 0 + 1 < 2 ^ 64
  cycle_fits =
      let here = plan_at a.plans.now task in_plans in
      let part = (h.each task here.0 here.1).part in
      let most = (sound_at a.plans.now task here.0 h.sound here.1).total_most in
      omega arith

  pub start_before : get_or a.starts task 0 ≤ a.ticks + 1
  start_before = let begun = found_in.begun in omega arith

  module _ (plan : Plan) (e : slice_get a.plans.now task ≡ Some plan) where
    pub next_start_fits : a.ticks < 10 ^ 12 → get_or a.starts task 0 + plan.period < 2 ^ 64
    next_start_fits few =
        let begun = found_in.begun in
        let most = (sound_at a.plans.now task plan h.sound e).period_most in
        omega arith

    pub next_frame_fits : a.ticks < 10 ^ 12 → get_or a.frames task 0 + 1 < 2 ^ 64
    next_frame_fits few =
        let from = found_in.begun in
        let begun = (h.each task plan e).begun in
        let some : get_or a.frames task 0 * 1 ≤ get_or a.frames task 0 * plan.period = mul-le-mul_left (get_or a.frames task 0) (sound_at a.plans.now task plan h.sound e).period_some in
        omega arith

    pub step_made : IsStep a.plans.now a.ticks (record { task = task; frame = get_or a.frames task 0; cycles = get_or a.cycles task 0 + 1; response = a.ticks + 1 - get_or a.starts task 0 })
    step_made = step_is a.plans.now a.ticks a.frames a.cycles a.starts h.sound h.starts h.each task plan e found_in

    pub stands_more : a.ticks < 10 ^ 12 → (get_or a.cycles task 0 + 1 ≡ plan.total → ⊥) →
        IsStanding (record { plans = a.plans; ticks = a.ticks + 1; frames = a.frames; cycles = set a.cycles task (get_or a.cycles task 0 + 1); starts = a.starts })
    stands_more few short = record {
      sound = h.sound;
      ticks = omega arith;
      frames = h.frames;
      cycles = length-set a.cycles task (get_or a.cycles task 0 + 1) ∙ h.cycles;
      starts = h.starts;
      each = kept_more a.plans.now a.ticks a.frames a.cycles a.starts h.sound h.starts h.each task plan e found_in h.cycles short;
    }

    pub stands_end : a.ticks < 10 ^ 12 → get_or a.cycles task 0 + 1 ≡ plan.total →
        IsStanding (record {
          plans = a.plans;
          ticks = a.ticks + 1;
          frames = set a.frames task (get_or a.frames task 0 + 1);
          cycles = set a.cycles task 0;
          starts = set a.starts task (get_or a.starts task 0 + plan.period);
        })
    stands_end few whole = record {
      sound = h.sound;
      ticks = omega arith;
      frames = length-set a.frames task (get_or a.frames task 0 + 1) ∙ h.frames;
      cycles = length-set a.cycles task 0 ∙ h.cycles;
      starts = length-set a.starts task (get_or a.starts task 0 + plan.period) ∙ h.starts;
      each = kept_end a.plans.now a.ticks a.frames a.cycles a.starts h.sound h.starts h.each task plan e found_in h.frames h.cycles whole;
    }

-- what was served of a task, in a state of the schedule
pub served_in : (a : Inside) → IsStanding a → (task : ℕ) (plan : Plan) → slice_get a.plans.now task ≡ Some plan → served a.plans.now a.ticks task ≡ get_or a.frames task 0 * plan.total + get_or a.cycles task 0
served_in a h task plan e = (h.each task plan e).done
