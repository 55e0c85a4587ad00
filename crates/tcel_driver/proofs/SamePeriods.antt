-- The periods of tasks, and what plans and tasks with the same ones have in common.
use Rattle.std.proofs.Common.{◌≡◌, ℕ, ◌+◌, ◌/◌, ◌^◌, ◌<◌, ◌≤◌, List, [], ◌∷◌, ◌++◌, All, map, length, get_or, take, sym, ap, ◌∙◌, subst, arith}
use Rattle.std.specs.List.{sum}
use Rattle.std.proofs.lemmas.List.{length-map, map_push, take-map}
use Rattle.std.proofs.lemmas.List.Elements.{All-map, All-take}
use Rattle.tcel_num.specs.Hyperperiod.{IsLeastCommonMultiple, periods_of}
use Rattle.tcel_num.specs.Plan.{Plan}
use Rattle.tcel_core.specs.Language.{Task}
use Rattle.tcel_core.specs.Parts.{TaskParts}
use Rattle.tcel_core.specs.Sound.{IsSoundSet, IsSoundTask}
use Rattle.tcel_demand.specs.Sound.{AreWithin, IsSoundPlan, frames_in}
use Rattle.tcel_target.specs.declared.costs.Costs.{Costs}
use Rattle.tcel_driver.specs.Forms.{AreForms, frames_within, task_periods}
use Rattle.tcel_driver.specs.Refusals.{HavePlans, IsTooLong}
use Rattle.tcel_driver.specs.Steps.{ArePaired}
use Rattle.tcel_driver.proofs.Costed.{sliced_long, sliced_periods, whole_long, whole_periods}
use Rattle.tcel_driver.proofs.Joint.{frames_by_periods}
use Rattle.tcel_driver.proofs.Lists.{map_step, sum_seen}

abbrev pub IsPeriod : ℕ → Type 0
IsPeriod n = (0 < n) × (n ≤ 10 ^ 9)

period_sound : (task : Task) → IsSoundTask task → IsPeriod task.period
period_sound task h = let some = h.period.some in let most = h.period.most in (omega arith, omega arith)

module _ {X : Type 0} (f : X → Task) (xs : List X) (sound : All (λ x. IsSoundTask (f x)) xs) where
  periods_sound : (n : ℕ) → All IsPeriod (task_periods (map f (take n xs)))
  periods_sound n =
      All-map IsPeriod (λ (task : Task). task.period) (map f (take n xs))
      (All-map (λ (task : Task). IsPeriod task.period) f (take n xs) (λ k d within. period_sound (f (get_or (take n xs) k d)) (All-take (λ x. IsSoundTask (f x)) n xs sound k d within)))

  -- with one more task
  pub periods_step : (i : ℕ) (x : X) → i < length xs → x ≡ get_or xs i x → task_periods (map f (take (i + 1) xs)) ≡ task_periods (map f (take i xs)) ++ (f x).period ∷ []
  periods_step i x within is = ap task_periods (map_step f xs i x within is) ∙ map_push (λ (task : Task). task.period) (map f (take i xs)) (f x)

  pub times_step : (periods : List ℕ) (i : ℕ) (x : X) → i < length xs → x ≡ get_or xs i x → periods ≡ task_periods (map f (take i xs)) → All IsPeriod (periods ++ (f x).period ∷ [])
  times_step periods i x within is e =
      subst (All IsPeriod) (periods_step i x within is ∙ ap (λ l. l ++ (f x).period ∷ []) (sym e)) (periods_sound (i + 1))

-- the periods of the first tasks are the first periods
front_periods : {X : Type 0} (f : X → Task) (xs : List X) (n : ℕ) → task_periods (map f (take n xs)) ≡ take n (task_periods (map f xs))
front_periods f xs n = ap task_periods (sym (take-map f n xs)) ∙ sym (take-map (λ (task : Task). task.period) n (map f xs))

pub long_forbids : {X : Type 0} (f : X → Task) (xs : List X) (i : ℕ) (x : X) (periods : List ℕ) (before multiple : ℕ) → i < length xs → x ≡ get_or xs i x → periods ≡ task_periods (map f (take i xs))
    → IsLeastCommonMultiple periods before → before ≤ 10 ^ 12 → IsLeastCommonMultiple (periods ++ (f x).period ∷ []) multiple → 10 ^ 12 < multiple → (costs : Costs) → HavePlans (map f xs) costs → IsTooLong (map f xs) costs i
long_forbids f xs i x periods before multiple within is e earlier most with_it above costs plans =
    let long = length-map xs f in
    let all : periods ++ (f x).period ∷ [] ≡ take (i + 1) (task_periods (map f xs)) =
    ap (λ l. l ++ (f x).period ∷ []) e ∙ (sym (ap task_periods (map_step f xs i x within is) ∙ map_push (λ (task : Task). task.period) (map f (take i xs)) (f x)) ∙ front_periods f xs (i + 1)) in
    record {
      plans = plans;
      there = omega arith;
      before = before;
      earlier = subst (λ l. IsLeastCommonMultiple l before) (e ∙ front_periods f xs i) earlier;
      most = most;
      multiple = multiple;
      with_it = subst (λ l. IsLeastCommonMultiple l multiple) all with_it;
      above = above;
    }

-- ---- plans of tasks

frames_of_tasks : (plans : List Plan) (tasks : List Task) (hyper : ℕ) → periods_of plans ≡ task_periods tasks → frames_in plans hyper ≡ frames_within tasks hyper
frames_of_tasks plans tasks hyper e =
    frames_by_periods plans hyper
    ∙ (ap (λ periods. sum (map (λ period. hyper / period) periods)) e ∙ sym (sum_seen (λ period. hyper / period) (λ (task : Task). task.period) tasks))

module _ (tasks : List Task) (costs : Costs) (parts : List TaskParts) (whole sliced : List Plan) (hyper : ℕ) (set : IsSoundSet tasks) (forms : AreForms tasks costs parts whole sliced hyper) where
  within_limits : (plans : List Plan) → length plans ≡ length tasks → periods_of plans ≡ task_periods tasks → All IsSoundPlan plans → AreWithin plans hyper
  within_limits plans long same sound =
      let frames = frames_of_tasks plans tasks hyper same in
      let few = forms.frames in
      let some = set.some in
      let most = set.most in
      record {
        sound = record { some = omega arith; most = omega arith; each = sound };
        period = subst (λ l. IsLeastCommonMultiple l hyper) (sym same) forms.period;
        frames = omega arith;
      }

  pub forms_paired : All IsSoundPlan whole → All IsSoundPlan sliced → ArePaired whole sliced hyper
  forms_paired at_once in_parts =
      let whole_same = whole_periods costs tasks parts whole sliced forms.costed in
      let sliced_same = sliced_periods costs tasks parts whole sliced forms.costed in
      record {
        at_once = within_limits whole (whole_long costs tasks parts whole sliced forms.costed) whole_same at_once;
        in_parts = within_limits sliced (sliced_long costs tasks parts whole sliced forms.costed) sliced_same in_parts;
        same = sliced_same ∙ sym whole_same;
        most = forms.most;
      }
