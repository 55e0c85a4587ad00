-- Responses in the demand schedule: how they are found, and how they repeat.
use Rattle.std.proofs.Common.{◌≡◌, ℕ, zero, suc, ◌+◌, ◌*◌, ◌/◌, ◌%◌, ◌<◌, ◌≤◌, Bool, true, false, ◌&&◌, List, [], ◌∷◌, sym, ap, ◌∙◌, subst, ⊎_elim, arith, Some}
use Rattle.std.specs.Prelude.{slice_get, nat_le}
use Rattle.std.proofs.Math.Nat.{div-add-mod', mod-lt}
use Rattle.std.proofs.lemmas.Bool.{and_parts, leb-true, leb-false, cases_lt, cases_order}
use Rattle.tcel_num.specs.Plan.{Plan, Point}
use Rattle.tcel_num.specs.Schedule.{served_counts, served}
use Rattle.tcel_num.specs.Lateness.{Place, IsResponse, IsLate}
use Rattle.tcel_demand.proofs.Served.{served_mono, served_again, AreWhole, whole_at}

-- the cycles of a point in a frame are served so many ticks after the release
abbrev pub is_within : List Plan → ℕ → Plan → Point → ℕ → ℕ → Bool
is_within plans task plan point bound frame = nat_le (frame * plan.total + point.prefix) (served plans (frame * plan.period + bound) task)

-- then the response is at most that
pub within : (plans : List Plan) (place : Place) (plan : Plan) (point : Point) (response bound : ℕ) → IsResponse plans place plan point response → is_within plans place.task plan point bound place.frame ≡ true → response ≤ bound
within plans place plan point response bound r h =
    let there = leb-true _ _ h in
    ⊎_elim (λ (late : bound < response). absurd (omega (arith, r.reached.before (place.frame * plan.period + bound) (omega arith)))) (λ e. e) (cases_lt bound response)

-- the test at each number below
abbrev pub all_below : (ℕ → Bool) → ℕ → Bool
all_below p zero = true
all_below p (suc n) = p n && all_below p n

pub all_below_at : (p : ℕ → Bool) (n k : ℕ) → all_below p n ≡ true → k < n → p k ≡ true
all_below_at p zero k h lt = absurd (omega arith)
all_below_at p (suc n) k h lt =
    let parts = and_parts (p n) (all_below p n) h in
    ⊎_elim (λ (e : k ≡ n). rw e parts.0) (⊎_elim (λ (l : k < n). all_below_at p n k parts.1 l) (λ (l : n < k). absurd (omega arith))) (cases_order k n)

-- a response repeats after a stretch in which all work was done
pub earlier : (plans : List Plan) (stretch task frame point : ℕ) (plan : Plan) (what : Point) (response : ℕ) → AreWhole plans stretch (served_counts plans stretch) → IsResponse plans (record { task = task; frame = stretch / plan.period + frame; point = point }) plan what response → IsResponse plans (record { task = task; frame = frame; point = point }) plan what response
earlier plans stretch task frame point plan what response whole r =
    let w = whole_at plans stretch (served_counts plans stretch) task plan whole r.of_task in
    let then : (stretch / plan.period + frame) * plan.period + response ≡ stretch + (frame * plan.period + response) = omega (arith, w.periods) in
    let there = rw then at r.reached.there in
    record {
      of_task = r.of_task;
      of_plan = r.of_plan;
      reached = record {
        there = omega (arith, there, w.frames, served_again plans stretch (frame * plan.period + response) task whole);
        before = λ time h. omega (arith, r.reached.before (stretch + time) (omega (arith, then)), w.frames, served_again plans stretch time task whole);
      };
    }

-- so it repeats after any number of them
pub earlier_by : (many : ℕ) (plans : List Plan) (stretch task frame point : ℕ) (plan : Plan) (what : Point) (response : ℕ) → AreWhole plans stretch (served_counts plans stretch) → IsResponse plans (record { task = task; frame = many * (stretch / plan.period) + frame; point = point }) plan what response → IsResponse plans (record { task = task; frame = frame; point = point }) plan what response
earlier_by zero plans stretch task frame point plan what response whole r =
    let e : 0 * (stretch / plan.period) + frame ≡ frame = omega arith in
    subst (λ (q : ℕ). IsResponse plans (record { task = task; frame = q; point = point }) plan what response) e r
earlier_by (suc many) plans stretch task frame point plan what response whole r =
    let e : suc many * (stretch / plan.period) + frame ≡ stretch / plan.period + (many * (stretch / plan.period) + frame) = omega arith in
    earlier_by many plans stretch task frame point plan what response whole
    (earlier plans stretch task (many * (stretch / plan.period) + frame) point plan what response whole
    (subst (λ (q : ℕ). IsResponse plans (record { task = task; frame = q; point = point }) plan what response) e r))

-- where each frame of such a stretch responds within the bound, every frame does
pub always_within : (plans : List Plan) (stretch task frame point : ℕ) (plan : Plan) (what : Point) (response bound : ℕ) → AreWhole plans stretch (served_counts plans stretch) → 0 < stretch / plan.period → all_below (is_within plans task plan what bound) (stretch / plan.period) ≡ true → IsResponse plans (record { task = task; frame = frame; point = point }) plan what response → response ≤ bound
always_within plans stretch task frame point plan what response bound whole some tests r =
    let frames = stretch / plan.period in
    let e : frame ≡ frame / frames * frames + frame % frames = sym (div-add-mod' frame frames) in
    let low = earlier_by (frame / frames) plans stretch task (frame % frames) point plan what response whole (subst (λ (q : ℕ). IsResponse plans (record { task = task; frame = q; point = point }) plan what response) e r) in
    within plans (record { task = task; frame = frame % frames; point = point }) plan what response bound low
    (all_below_at (is_within plans task plan what bound) frames (frame % frames) tests (mod-lt frame some))

-- a response is found by two tests
pub responds : (plans : List Plan) (task frame point : ℕ) (plan : Plan) (what : Point) (less : ℕ) → slice_get plans task ≡ Some plan → slice_get plan.points point ≡ Some what → is_within plans task plan what (suc less) frame ≡ true → is_within plans task plan what less frame ≡ false → IsResponse plans (record { task = task; frame = frame; point = point }) plan what (suc less)
responds plans task frame point plan what less of_task of_plan above below =
    let there = leb-true _ _ above in
    let less_served = leb-false _ _ below in
    record {
      of_task = of_task;
      of_plan = of_plan;
      reached = record {
        there = there;
        before = λ time h. omega (arith, served_mono plans time (frame * plan.period + less) task (omega arith));
      };
    }

-- a response is of the plan and the point that stand there
same_point : (plans : List Plan) (place : Place) (plan other : Plan) (point what : Point) (response : ℕ) → slice_get plans place.task ≡ Some plan → slice_get plan.points place.point ≡ Some what → IsResponse plans place other point response → IsResponse plans place plan what response × (point ≡ what)
same_point plans place plan other point what response of_task of_plan r =
    let task : slice_get plans place.task ≡ Some other = r.of_task in
    let plans_same : other ≡ plan = cc in
    let moved : IsResponse plans place plan point response = subst (λ (p : Plan). IsResponse plans place p point response) plans_same r in
    let there : slice_get plan.points place.point ≡ Some point = moved.of_plan in
    let points_same : point ≡ what = cc in
    (subst (λ (p : Point). IsResponse plans place plan p response) points_same moved, points_same)

-- where every response of a point is within its bound, it is never late
pub never_late : (plans : List Plan) (place : Place) (plan : Plan) (what : Point) → slice_get plans place.task ≡ Some plan → slice_get plan.points place.point ≡ Some what → ((response : ℕ) → IsResponse plans place plan what response → response ≤ what.bound) → IsLate plans place → ⊥
never_late plans place plan what of_task of_plan all late =
    let same = same_point plans place plan late.0 late.1 what late.2 of_task of_plan late.3 in
    let bounds : late.1.bound ≡ what.bound = ap (λ (p : Point). p.bound) same.1 in
    let above : late.1.bound < late.2 = late.4 in
    omega (arith, all late.2 same.0)

-- there is no point behind the last
pub no_more : (plans : List Plan) (place : Place) (plan : Plan) (what : Point) (k : ℕ) → slice_get plans place.task ≡ Some plan → plan.points ≡ what ∷ [] → place.point ≡ suc k → IsLate plans place → ⊥
no_more plans place plan what k of_task points at late =
    let task : slice_get plans place.task ≡ Some late.0 = late.3.of_task in
    let plans_same : late.0 ≡ plan = cc in
    let there : slice_get late.0.points place.point ≡ Some late.1 = late.3.of_plan in
    let listed : late.0.points ≡ what ∷ [] = ap (λ (p : Plan). p.points) plans_same ∙ points in
    let none : slice_get (what ∷ []) (suc k) ≡ Some late.1 = rw (listed, at) at there in
    cc
