-- Tasks on their way, one after another, with the first that lacks an entry.
use Rattle.std.proofs.Common.{◌≡◌, ℕ, zero, suc, ◌+◌, ◌<◌, ◌≤◌, List, [], ◌∷◌, All, length, map, drop, get_or, set, refl, sym, ap, ◌∙◌, subst, arith, Some, inl, inr}
use Rattle.std.specs.Prelude.{slice_get, slice_index}
use Rattle.std.specs.Option.{option_map}
use Rattle.std.proofs.lemmas.Bool.{cases_lt}
use Rattle.std.proofs.lemmas.List.{get_or-drop, drop-set-lt, length-map}
use Rattle.std.proofs.lemmas.List.Elements.{All-get_or}
use Rattle.std.proofs.lemmas.Option.{same_Some, slice_get-map, slice_get-get_or, slice_get_read, slice_get_within, get_or_from_slice_get}
use Rattle.tcel_num.specs.Hyperperiod.{periods_of}
use Rattle.tcel_num.specs.Plan.{Plan}
use Rattle.tcel_num.specs.Schedule.{released, served, served_counts}
use Rattle.tcel_demand.specs.Sound.{AreSound, IsSoundPlan}
use Rattle.tcel_demand.specs.Ticks.{Schedule}
use Rattle.tcel_demand.proofs.Standings.{sound_at}
use Rattle.tcel_demand.proofs.Workloads.{AreReleased, Positive, served_within}
use Rattle.tcel_judge.specs.declared.course.Course.{Course}
use Rattle.tcel_judge.specs.declared.missing.Gap.{Gap}
use Rattle.tcel_judge.specs.Courses.{Stands}
use Rattle.tcel_judge.specs.FirstBreach.{total_at}
use Rattle.tcel_judge.specs.Gaps.{period_of, Lacks, LacksNone, NoneLacks}

-- ---- plans

positive_each : (plans : List Plan) → ((i : ℕ) (plan : Plan) → slice_get plans i ≡ Some plan → IsSoundPlan plan) → Positive plans
positive_each [] each = tt
positive_each (p ∷ plans) each = ((each 0 p refl).period_some, positive_each plans (λ i plan e. each (suc i) plan e))

released_at : (plans : List Plan) (counts : List ℕ) (time i : ℕ) (plan : Plan) → AreReleased plans counts time → slice_get plans i ≡ Some plan →
    slice_index counts i ≤ released plan time
released_at [] counts time i plan h e = absurd cc
released_at (p ∷ plans) [] time i plan h e = absurd h
released_at (p ∷ plans) (n ∷ counts) time zero plan h e =
    let same : p ≡ plan = cc in
    subst (λ (q : Plan). n ≤ released q time) same h.0
released_at (p ∷ plans) (n ∷ counts) time (suc i) plan h e = released_at plans counts time i plan h.1 e

-- a task is served no more than is released of it
pub released_most : (plans : List Plan) (ticks i : ℕ) (plan : Plan) → AreSound plans → slice_get plans i ≡ Some plan → served plans ticks i ≤ released plan ticks
released_most plans ticks i plan sound e =
    released_at plans (served_counts plans ticks) ticks i plan
    (served_within plans (positive_each plans (λ k p at. sound_at plans k p sound at)) ticks) e

pub total_of : (plans : List Plan) (i : ℕ) (plan : Plan) → slice_get plans i ≡ Some plan → total_at plans i ≡ plan.total
total_of plans i plan e =
    get_or_from_slice_get (map (λ (p : Plan). p.total) plans) i plan.total 0
    (slice_get-map (λ (p : Plan). p.total) plans i ∙ ap (option_map (λ (p : Plan). p.total)) e)

-- ---- tasks

-- one that was not looked at is as it was
pub still_there : (courses old : List Course) (i : ℕ) (d : Course) → drop i courses ≡ drop i old → i < length old → slice_get old i ≡ Some (get_or courses i d)
still_there courses old i d rest within =
    let e : i + 0 ≡ i = omega arith in
    let read = λ (cs : List Course). get_or-drop i cs 0 d ∙ ap (λ n. get_or cs n d) e in
    slice_get-get_or old i d within ∙ ap Some (sym (read old) ∙ sym (ap (λ (cs : List Course). get_or cs 0 d) rest) ∙ read courses)

pub stands_at : (old : List Course) (i : ℕ) (c : Course) → All Stands old → slice_get old i ≡ Some c → Stands c
stands_at old i c all e = subst Stands (get_or_from_slice_get old i c c e) (All-get_or Stands old i c (slice_get_within old i c e) all)

pub period_at : (old : List Course) (plans : List Plan) (i : ℕ) (c : Course) (plan : Plan) → map period_of old ≡ periods_of plans → slice_get old i ≡ Some c →
    slice_get plans i ≡ Some plan → period_of c ≡ plan.period
period_at old plans i c plan same there of_task =
    same_Some (period_of c) plan.period
    (sym (slice_get-map period_of old i ∙ ap (option_map period_of) there) ∙ ap (λ (ns : List ℕ). slice_get ns i) same
    ∙ slice_get-map (λ (p : Plan). p.period) plans i ∙ ap (option_map (λ (p : Plan). p.period)) of_task)

-- what is looked at is gone from the rest
pub rest_behind : (courses old : List Course) (i : ℕ) (c : Course) → drop i courses ≡ drop i old → drop (i + 1) (set courses i c) ≡ drop (i + 1) old
rest_behind courses old i c rest =
    drop-set-lt (i + 1) courses i c (omega arith) ∙ further courses i ∙ ap (drop 1) rest ∙ sym (further old i)
  where
    further : (cs : List Course) (n : ℕ) → drop (n + 1) cs ≡ drop 1 (drop n cs)
    further cs zero = refl
    further [] (suc n) = let e : suc n + 1 ≡ suc (n + 1) = omega arith in ap (λ m. drop m []) e
    further (x ∷ cs) (suc n) = let e : suc n + 1 ≡ suc (n + 1) = omega arith in ap (λ m. drop m (x ∷ cs)) e ∙ further cs n

module _ (plans : List Plan) (ticks : ℕ) (old : List Course) where
  pub none_first : NoneLacks plans ticks old 0
  none_first i c less e = absurd (omega (arith, less))

  -- one task more lacks none
  pub none_more : (task count : ℕ) (c : Course) (plan : Plan) → NoneLacks plans ticks old task → slice_get old task ≡ Some c → slice_get plans task ≡ Some plan →
      count ≡ served plans ticks task → LacksNone ticks plan.total count c → NoneLacks plans ticks old (task + 1)
  none_more task count c plan before there of_task is none i other less e =
      elim (cases_lt i task) [
        | inl earlier ↦ before i other earlier e
        | inr most ↦
            let same : task ≡ i = omega (arith, less, most) in
            let here : LacksNone ticks (total_at plans task) (served plans ticks task) c =
            subst (λ n. LacksNone ticks n (served plans ticks task) c) (sym (total_of plans task plan of_task)) (subst (λ n. LacksNone ticks plan.total n c) is none) in
            let one : c ≡ other = same_Some c other (sym there ∙ ap (slice_get old) same ∙ e) in
            subst (λ n. LacksNone ticks (total_at plans n) (served plans ticks n) other) same
            (subst (LacksNone ticks (total_at plans task) (served plans ticks task)) one here)
      ]

-- a task that lacks an entry, in the numbers of its plan
pub lacks_at : (plans : List Plan) (ticks task count : ℕ) (c : Course) (plan : Plan) (gap : Gap) → slice_get plans task ≡ Some plan → count ≡ served plans ticks task →
    Lacks ticks plan.total count c gap → Lacks ticks (total_at plans task) (served plans ticks task) c gap
lacks_at plans ticks task count c plan gap of_task is lacks =
    subst (λ n. Lacks ticks n (served plans ticks task) c gap) (sym (total_of plans task plan of_task)) (subst (λ n. Lacks ticks plan.total n c gap) is lacks)

-- there is a plan for each
pub same_many : (old : List Course) (plans : List Plan) (i : ℕ) → map period_of old ≡ periods_of plans → i < length old → i < length plans
same_many old plans i same within =
    let many = ap (λ (ns : List ℕ). length ns) same in
    omega (arith, length-map old period_of, length-map plans (λ (p : Plan). p.period))

-- what is known of a task when it is looked at
pub record IsLookedAt (plans : List Plan) (ticks : ℕ) (old : List Course) (task : ℕ) (c : Course) (plan : Plan) (count : ℕ) : Type 0 where
  pub there : slice_get old task ≡ Some c
  pub of_task : slice_get plans task ≡ Some plan
  pub counted : count ≡ served plans ticks task

pub looked_at : (plans : List Plan) (ticks : ℕ) (courses old : List Course) (task : ℕ) (d : Course) (plan : Plan) (count : ℕ) (schedule : Schedule) →
    map period_of old ≡ periods_of plans → drop task courses ≡ drop task old → task < length old → plan ≡ get_or plans task plan →
    count ≡ served schedule.plans schedule.ticks task → schedule ≡ record { plans = plans; ticks = ticks } →
    IsLookedAt plans ticks old task (get_or courses task d) plan count
looked_at plans ticks courses old task d plan count schedule periods rest within is served_so after = record {
  there = still_there courses old task d rest within;
  of_task = slice_get_read plans (length plans) task plan refl (same_many old plans task periods within) is;
  counted = served_so ∙ ap (λ (s : Schedule). served s.plans s.ticks task) after;
}
