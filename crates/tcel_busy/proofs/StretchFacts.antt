-- What a walk through a task's busy period shows, stretch by stretch.
use Rattle.std.proofs.Common.{◌≡◌, ℕ, suc, ◌+◌, ◌-◌, ◌*◌, ◌^◌, ◌<◌, ◌≤◌, List, Option, Some, None, length, get_or, refl, sym, ap, ◌∙◌, subst, arith, inl, inr}
use Rattle.std.specs.Prelude.{◌⊎◌, slice_get, MatchOption}
use Rattle.std.proofs.Math.Nat.{mul-le-mul_right}
use Rattle.std.proofs.lemmas.Bool.{cases_lt, cases_order}
use Rattle.std.proofs.lemmas.Option.{slice_get_within}
use Rattle.tcel_busy.specs.LateStretches.{IsLateIn, IsLateStretch, IsFirstOfTask, IsNeverLateTask}
use Rattle.tcel_busy.specs.Stretches.{Position, IsStretch, GoesOn, IsNextStretch, IsCovered, IsOver}
use Rattle.tcel_busy.specs.WorstStretches.{Reaches, IsWorstWith}
use Rattle.tcel_busy.specs.declared.stretch.Stretch.{Stretch}
use Rattle.tcel_demand.specs.LateSteps.{IsEarlier}
use Rattle.tcel_demand.specs.Sound.{IsSoundPoint, AreSound, HasPoint}
use Rattle.tcel_demand.specs.declared.plan.Worst.{Worst}
use Rattle.tcel_demand.proofs.FirstLates.{IsTold, IsFirstOf, HasPassed, none_more, one_more, earlier_frame}
use Rattle.tcel_demand.proofs.PassedPlaces.{sound_point, same_cycle}
use Rattle.tcel_demand.proofs.PlainReads.{plain_read}
use Rattle.tcel_demand.proofs.Standings.{sound_at}
use Rattle.tcel_demand.proofs.WorstSoFar.{IsWorstOf, worst_none, worst_same, worst_kept, worst_grown, frames_before}
use Rattle.tcel_demand.proofs.TickLemmas.{none_at_first}
use Rattle.tcel_num.specs.Lateness.{Place, Lateness, IsFirstServed, IsResponse, IsLate, IsNeverLate, IsFirstLate, IsWorst, Precedes, place_of}
use Rattle.tcel_num.specs.Plan.{Plan, Point}
use Rattle.tcel_num.specs.Schedule.{served}

-- so much is served first at one time
pub first_unique : (plans : List Plan) (task cycles early late : ℕ) → IsFirstServed plans task cycles early → IsFirstServed plans task cycles late → early ≡ late
first_unique plans task cycles early late h g =
    elim (cases_order early late) [
      | inl same ↦ same
      | inr (inl less) ↦ let there = h.there in let short = g.before early less in absurd (omega arith)
      | inr (inr more) ↦ let there = g.there in let short = h.before late more in absurd (omega arith)
    ]

-- the places of a task whose cycle is at most this one
pub record IsWalked (plans : List Plan) (task count : ℕ) (place : Place) : Type 0 where
  pub of_task : place.task ≡ task
  pub reached : (plan : Plan) (point : Point) → slice_get plans task ≡ Some plan → slice_get plan.points place.point ≡ Some point → place.frame * plan.total + point.prefix ≤ count

module _ (plans : List Plan) (task : ℕ) (plan : Plan) (sound : AreSound plans) (e : slice_get plans task ≡ Some plan) where
  point_sound : (k : ℕ) (point : Point) → slice_get plan.points k ≡ Some point → IsSoundPoint plan.total point
  point_sound k point f = sound_point plan k point (sound_at plans task plan sound e) f

  module _ (stretch : Stretch) (is : IsStretch plans task plan stretch) where
    -- a cycle that the stretch passes is one of it
    record IsCycle (frame prefix : ℕ) : Type 0 where
      frame_is : frame ≡ stretch.frame
      after : stretch.from < prefix
      upto : prefix ≤ stretch.to

    cycle_in : (frame prefix : ℕ) → 0 < prefix → prefix ≤ plan.total → stretch.frame * plan.total + stretch.from < frame * plan.total + prefix → frame * plan.total + prefix ≤ stretch.frame * plan.total + stretch.to → IsCycle frame prefix
    cycle_in frame prefix some most later now =
        let within = is.within in
        let cycle : ℕ = frame * plan.total + prefix - stretch.frame * plan.total in
        let at = same_cycle plan.total frame prefix stretch.frame cycle some most (omega arith) (omega arith) (omega arith) in
        let product = ap (λ n. n * plan.total) at.0 in
        record { frame_is = at.0; after = omega arith; upto = omega arith }

    -- its response in the stretch's frame
    response_in : (frame prefix response : ℕ) → IsCycle frame prefix → IsFirstServed plans task (frame * plan.total + prefix) (frame * plan.period + response) → response ≡ stretch.delay + prefix
    response_in frame prefix response at first =
        let here = is.reached prefix at.after at.upto in
        let moved = subst (λ f. IsFirstServed plans task (f * plan.total + prefix) (f * plan.period + response)) at.frame_is first in
        let same = first_unique plans task (stretch.frame * plan.total + prefix) (stretch.frame * plan.period + response) (stretch.frame * plan.period + (stretch.delay + prefix)) moved here in
        omega arith

    -- ---- late points

    walked : ℕ → Place → Type 0
    walked count place = IsWalked plans task count place

    late_split : (place : Place) → IsWalked plans task (stretch.frame * plan.total + stretch.to) place → IsLate plans place →
        (IsWalked plans task (stretch.frame * plan.total + stretch.from) place) ⊎ ((place.task ≡ task) × (place.frame ≡ stretch.frame) × IsLateIn plan stretch place.point)
    late_split place passed (other, point, response, responds, above) =
        let there : slice_get plans task ≡ Some other = subst (λ i. slice_get plans i ≡ Some other) passed.of_task responds.of_task in
        let same : plan ≡ other = cc in
        let of_plan : slice_get plan.points place.point ≡ Some point = subst (λ (p : Plan). slice_get p.points place.point ≡ Some point) (sym same) responds.of_plan in
        let sound_here = point_sound place.point point of_plan in
        let now = passed.reached plan point e of_plan in
        elim (cases_lt (stretch.frame * plan.total + stretch.from) (place.frame * plan.total + point.prefix)) [
          | inr before ↦ inl (record {
            of_task = passed.of_task;
            reached = λ p q f g.
                let plan_same : plan ≡ p = cc in
                let there_again : slice_get plan.points place.point ≡ Some q = subst (λ (r : Plan). slice_get r.points place.point ≡ Some q) (sym plan_same) g in
                let point_same : point ≡ q = cc in
                let total = ap (λ (r : Plan). place.frame * r.total) plan_same in
                let prefix = ap (λ (r : Point). r.prefix) point_same in
                omega arith;
          })
          | inl later ↦
              let at = cycle_in place.frame point.prefix sound_here.prefix_some sound_here.prefix_within later now in
              let first : IsFirstServed plans task (place.frame * plan.total + point.prefix) (place.frame * plan.period + response) =
              subst (λ i. IsFirstServed plans i (place.frame * plan.total + point.prefix) (place.frame * plan.period + response)) passed.of_task
              (subst (λ (p : Plan). IsFirstServed plans place.task (place.frame * p.total + point.prefix) (place.frame * p.period + response)) (sym same) responds.reached) in
              let response_is = response_in place.frame point.prefix response at first in
              inr (passed.of_task, at.frame_is, record { point = point; of_plan = of_plan; after = at.after; upto = at.upto; above = omega arith })
        ]

    told : (late : Lateness) → IsLateStretch plan task stretch late → IsTold plans late
    told late h =
        let here = is.reached h.is.point.prefix h.is.after h.is.upto in
        let response = h.response in
        let bounded = h.bounded in
        let above = h.is.above in
        let frame_total = ap (λ n. n * plan.total + h.is.point.prefix) (sym h.frame) in
        let frame_period = ap (λ n. n * plan.period) h.frame in
        let when : stretch.frame * plan.period + (stretch.delay + h.is.point.prefix) ≡ late.frame * plan.period + late.response = omega arith in
        record {
          plan = plan;
          point = h.is.point;
          responds = record {
            of_task = subst (λ i. slice_get plans i ≡ Some plan) (sym h.of_task) e;
            of_plan = h.is.of_plan;
            reached = subst (λ i. IsFirstServed plans i (late.frame * plan.total + h.is.point.prefix) (late.frame * plan.period + late.response)) (sym h.of_task)
                (subst (λ n. IsFirstServed plans task n (late.frame * plan.period + late.response)) frame_total (subst (IsFirstServed plans task (stretch.frame * plan.total + h.is.point.prefix)) when here));
          };
          named = h.named;
          bounded = h.bounded;
          above = omega arith;
        }

    module _ (old new : Position) (on : GoesOn old new plan stretch) (first : Option Lateness) (search : IsFirstOf plans (IsWalked plans task (old.frame * plan.total + old.from)) first) where
      before : old.frame * plan.total + old.from ≡ stretch.frame * plan.total + stretch.from
      before = let product = ap (λ n. n * plan.total) on.frame in let from = on.from in omega arith

      here : IsFirstOf plans (IsWalked plans task (stretch.frame * plan.total + stretch.from)) first
      here = subst (λ n. IsFirstOf plans (IsWalked plans task n) first) before search

      there : (next : Option Lateness) → IsFirstOf plans (IsWalked plans task (stretch.frame * plan.total + stretch.to)) next → IsFirstOf plans (IsWalked plans task (new.frame * plan.total + new.from)) next
      there next h = subst (λ n. IsFirstOf plans (IsWalked plans task n) next) (sym on.count) h

      pub walk_none : ((place : ℕ) → IsLateIn plan stretch place → ⊥) → IsFirstOf plans (IsWalked plans task (new.frame * plan.total + new.from)) first
      walk_none none =
          there first (none_more plans (IsWalked plans task (stretch.frame * plan.total + stretch.from)) (IsWalked plans task (stretch.frame * plan.total + stretch.to)) first here
          (λ place passed late. elim (late_split place passed late) [ inl before ↦ before | inr of ↦ absurd (none place.point of.2) ]))

      pub walk_late : (late next : Lateness) → IsLateStretch plan task stretch late → IsEarlier first late next → IsFirstOf plans (IsWalked plans task (new.frame * plan.total + new.from)) (Some next)
      walk_late late next h earlier =
          there (Some next) (one_more plans (IsWalked plans task (stretch.frame * plan.total + stretch.from)) (IsWalked plans task (stretch.frame * plan.total + stretch.to)) first late next here (told late h)
          (λ place passed is_late. elim (late_split place passed is_late) [
            | inl before ↦ inl before
            | inr of ↦ inr (record {
              task = of.0 ∙ sym h.of_task;
              frame = of.1 ∙ sym h.frame;
              point = elim (cases_lt place.point late.point) [ inl sooner ↦ absurd (h.first place.point sooner of.2) | inr behind ↦ behind ];
            })
          ]) earlier)

  -- nothing is walked at the start
  pub walk_start : IsFirstOf plans (IsWalked plans task (0 * plan.total + 0)) None
  walk_start place passed (other, point, response, responds, above) =
      let there : slice_get plans task ≡ Some other = subst (λ i. slice_get plans i ≡ Some other) passed.of_task responds.of_task in
      let some = (sound_point other place.point point (sound_at plans task other sound there) responds.of_plan).prefix_some in
      let none = passed.reached other point there responds.of_plan in
      absurd (omega arith)

  -- ---- the end

  walked_low : (frames low k : ℕ) → low < frames → IsWalked plans task (frames * plan.total + 0) (record { task = task; frame = low; point = k })
  walked_low frames low k less =
      let all : suc low * plan.total ≤ frames * plan.total = mul-le-mul_right plan.total less in
      record {
        of_task = refl;
        reached = λ p q f g.
            let same : p ≡ plan = cc in
            let total = ap (λ (r : Plan). low * r.total) same in
            let each = ap (λ (r : Plan). r.total) same in
            let most = (sound_point p k q (sound_at plans task p sound f) g).prefix_within in
            omega arith;
      }

  module _ (position : Position) (of_plans : position.plans ≡ plans) (of_task : position.task ≡ task) (over : IsOver position) where
    covers : (frame prefix : ℕ) → 0 < prefix → prefix ≤ plan.total → IsCovered plans task plan position.frame frame prefix
    covers frame prefix some most =
        let there : slice_get position.plans position.task ≡ Some plan = subst (λ ps. slice_get ps position.task ≡ Some plan) (sym of_plans) (subst (λ i. slice_get plans i ≡ Some plan) (sym of_task) e) in
        subst (λ i. IsCovered plans i plan position.frame frame prefix) of_task
        (subst (λ ps. IsCovered ps position.task plan position.frame frame prefix) of_plans (over.covers plan frame prefix there some most))

    -- a response has one no smaller in a frame that was walked
    pub record IsMet (k frame response : ℕ) (point : Point) : Type 0 where
      pub low : ℕ
      pub no_later : low ≤ frame
      pub within : low < position.frame
      pub there : ℕ
      pub responds : IsResponse plans (record { task = task; frame = low; point = k }) plan point there
      pub no_less : response ≤ there

    met : (k frame response : ℕ) (point : Point) → IsResponse plans (record { task = task; frame = frame; point = k }) plan point response → IsMet k frame response point
    met k frame response point responds =
        let sound_here = point_sound k point responds.of_plan in
        let cover = covers frame point.prefix sound_here.prefix_some sound_here.prefix_within in
        let enough = cover.enough in
        record {
          low = cover.low;
          no_later = cover.no_later;
          within = cover.within;
          there = cover.response;
          responds = record { of_task = e; of_plan = responds.of_plan; reached = cover.first };
          no_less = elim (cases_lt cover.response response) [
            | inl less ↦ let short = responds.reached.before (frame * plan.period + cover.response) (omega arith) in absurd (omega arith)
            | inr more ↦ more
          ];
        }

    passed_all : (place : Place) → place.task ≡ task → IsLate plans place → HasPassed plans (IsWalked plans task (position.frame * plan.total + position.from)) place
    passed_all place same (other, point, response, responds, above) =
        let there : slice_get plans task ≡ Some other = subst (λ i. slice_get plans i ≡ Some other) same responds.of_task in
        let plan_same : other ≡ plan = cc in
        let here : IsResponse plans (record { task = task; frame = place.frame; point = place.point }) plan point response =
        subst (λ (p : Plan). IsResponse plans (record { task = task; frame = place.frame; point = place.point }) p point response) plan_same
        (subst (λ i. IsResponse plans (record { task = i; frame = place.frame; point = place.point }) other point response) same responds) in
        let low = met place.point place.frame response point here in
        let whole = over.whole in
        let count : position.frame * plan.total + 0 ≡ position.frame * plan.total + position.from = omega arith in
        let more = low.no_less in
        record {
          frame = low.low;
          no_later = low.no_later;
          passed = subst (λ n. IsWalked plans task n (record { task = place.task; frame = low.low; point = place.point })) count
              (subst (λ i. IsWalked plans task (position.frame * plan.total + 0) (record { task = i; frame = low.low; point = place.point })) (sym same) (walked_low position.frame low.low place.point low.within));
          late = (plan, point, low.there, subst (λ i. IsResponse plans (record { task = i; frame = low.low; point = place.point }) plan point low.there) (sym same) low.responds, omega arith);
        }

    pub walk_over : (first : Option Lateness) → MatchOption first (Unit {0}) (λ late. late.task ≡ task) → IsFirstOf plans (IsWalked plans task (position.frame * plan.total + position.from)) first → MatchOption first (IsNeverLateTask plans task) (IsFirstOfTask plans task)
    walk_over None of_it search = λ place same late.
        let low = passed_all place same late in
        search (record { task = place.task; frame = low.frame; point = place.point }) low.passed low.late
    walk_over (Some late) of_it search = record {
      of_task = of_it;
      plan = search.told.plan;
      point = search.told.point;
      responds = search.told.responds;
      named = search.told.named;
      bounded = search.told.bounded;
      above = search.told.above;
      first = λ place same before is.
          let low = passed_all place same is in
          search.first (record { task = place.task; frame = low.frame; point = place.point }) low.passed (earlier_frame place (place_of late) low.frame low.no_later before) low.late;
    }

-- ---- as the code has it

module _ (plans : List Plan) (task : ℕ) (plan : Plan) (sound : AreSound plans) (e : slice_get plans task ≡ Some plan) (old new : Position) (stretch : Stretch)
    (of_plans : old.plans ≡ plans) (of_task : old.task ≡ task) (next : IsNextStretch old new stretch) where
  plan_is : next.plan ≡ plan
  plan_is =
      let there : slice_get plans task ≡ Some next.plan = subst (λ i. slice_get plans i ≡ Some next.plan) of_task (subst (λ ps. slice_get ps old.task ≡ Some next.plan) of_plans next.is.of_task) in
      cc

  pub stretch_of : IsStretch plans task plan stretch
  stretch_of =
      subst (λ (p : Plan). IsStretch plans task p stretch) plan_is
      (subst (λ i. IsStretch plans i next.plan stretch) of_task (subst (λ ps. IsStretch ps old.task next.plan stretch) of_plans next.is))

  pub on_of : GoesOn old new plan stretch
  on_of = subst (λ (p : Plan). GoesOn old new p stretch) plan_is next.on

  module _ (item : Plan) (read : item ≡ get_or plans task item) (first : Option Lateness) (search : IsFirstOf plans (IsWalked plans task (old.frame * plan.total + old.from)) first) where
    item_is : item ≡ plan
    item_is = let there = plain_read plans task item item refl read (slice_get_within plans task plan e) in cc

    pub after_none : ((place : ℕ) → IsLateIn item stretch place → ⊥) → IsFirstOf plans (IsWalked plans task (new.frame * plan.total + new.from)) first
    after_none none = walk_none plans task plan sound e stretch stretch_of old new on_of first search (subst (λ (p : Plan). (place : ℕ) → IsLateIn p stretch place → ⊥) item_is none)

    pub after_late : (late then : Lateness) → IsLateStretch item task stretch late → IsEarlier first late then → IsFirstOf plans (IsWalked plans task (new.frame * plan.total + new.from)) (Some then)
    after_late late then h earlier = walk_late plans task plan sound e stretch stretch_of old new on_of first search late then (subst (λ (p : Plan). IsLateStretch p task stretch late) item_is h) earlier

-- the earlier of two late points of a task is one of it
pub of_earlier : (task : ℕ) (first : Option Lateness) (late then : Lateness) → MatchOption first (Unit {0}) (λ l. l.task ≡ task) → late.task ≡ task → IsEarlier first late then → then.task ≡ task
of_earlier task None late then h same earlier = ap (λ (l : Lateness). l.task) earlier ∙ same
of_earlier task (Some other) late then h same (inl (is, precedes)) = ap (λ (l : Lateness). l.task) is ∙ same
of_earlier task (Some other) late then h same (inr (is, later)) = ap (λ (l : Lateness). l.task) is ∙ h

-- task by task, the first late point of a task is the first of all where no higher task has any
pub first_of_all : (plans : List Plan) (task : ℕ) (late : Lateness) → ((place : Place) → place.task < task → IsLate plans place → ⊥) → IsFirstOfTask plans task late → IsFirstLate plans late
first_of_all plans task late none h = record {
  plan = h.plan;
  point = h.point;
  responds = h.responds;
  named = h.named;
  bounded = h.bounded;
  above = h.above;
  first = λ place before is.
      let of_it = h.of_task in
      elim (cases_order place.task task) [
        | inl same ↦ h.first place same before is
        | inr (inl higher) ↦ none place higher is
        | inr (inr lower) ↦ not_lower place late (omega arith) before
      ];
}
  where
    not_lower : (place : Place) (late : Lateness) → late.task < place.task → Precedes place (place_of late) → ⊥
    not_lower place late lower (inl less) = absurd (omega arith)
    not_lower place late lower (inr (inl same)) = let task = same.0 in absurd (omega arith)
    not_lower place late lower (inr (inr same)) = let task = same.0 in absurd (omega arith)

pub none_higher : (plans : List Plan) (task : ℕ) → ((place : Place) → place.task < task → IsLate plans place → ⊥) → IsNeverLateTask plans task → (place : Place) → place.task < task + 1 → IsLate plans place → ⊥
none_higher plans task none here place less late = elim (cases_lt place.task task) [ inl higher ↦ none place higher late | inr same ↦ here place (omega arith) late ]

pub none_at_all : (plans : List Plan) (many : ℕ) → length plans ≤ many → ((place : Place) → place.task < many → IsLate plans place → ⊥) → IsNeverLate plans
none_at_all plans many all none place late = let within = slice_get_within plans place.task late.0 late.3.of_task in none place (omega arith) late

-- ---- the worst response

module _ (plans : List Plan) (task point : ℕ) (sound : AreSound plans) (has : HasPoint plans task point) where
  abbrev IsWorst_at : ℕ → Worst → Type 0
  IsWorst_at count worst = IsWorstOf plans task point has.plan has.what count worst

  prefix_sound : IsSoundPoint has.plan.total has.what
  prefix_sound = point_sound plans task has.plan sound has.of_task point has.what has.of_plan

  -- so many cycles fit
  pub prefix_most : has.what.prefix ≤ 10 ^ 9
  prefix_most = let within = prefix_sound.prefix_within in let most = (sound_at plans task has.plan sound has.of_task).total_most in omega arith

  module _ (stretch : Stretch) (is : IsStretch plans task has.plan stretch) where
    from_count : ℕ
    from_count = stretch.frame * has.plan.total + stretch.from

    at_stretch : (frame response : ℕ) → IsResponse plans (record { task = task; frame = frame; point = point }) has.plan has.what response →
        stretch.frame * has.plan.total + stretch.from < frame * has.plan.total + has.what.prefix → frame * has.plan.total + has.what.prefix ≤ stretch.frame * has.plan.total + stretch.to →
        Reaches has.what.prefix stretch × (response ≡ stretch.delay + has.what.prefix)
    at_stretch frame response r later now =
        let at = cycle_in plans task has.plan sound has.of_task stretch is frame has.what.prefix prefix_sound.prefix_some prefix_sound.prefix_within later now in
        (record { after = at.after; upto = at.upto }, response_in plans task has.plan sound has.of_task stretch is frame has.what.prefix response at r.reached)

    there_is : Reaches has.what.prefix stretch → IsResponse plans (record { task = task; frame = stretch.frame; point = point }) has.plan has.what (stretch.delay + has.what.prefix)
    there_is h = record { of_task = has.of_task; of_plan = has.of_plan; reached = is.reached has.what.prefix h.after h.upto }

    responds_once : (frame response : ℕ) → IsResponse plans (record { task = task; frame = frame; point = point }) has.plan has.what response →
        stretch.frame * has.plan.total + stretch.from < frame * has.plan.total + has.what.prefix → frame * has.plan.total + has.what.prefix ≤ stretch.frame * has.plan.total + stretch.to → response ≡ stretch.delay + has.what.prefix
    responds_once frame response r later now = (at_stretch frame response r later now).1

    with_stretch : (worst next : Worst) → IsWorst_at (stretch.frame * has.plan.total + stretch.from) worst → IsWorstWith has.what.prefix stretch worst next → IsWorst_at (stretch.frame * has.plan.total + stretch.to) next
    with_stretch worst next h (inl (other, same)) =
        subst (IsWorst_at (stretch.frame * has.plan.total + stretch.to)) (sym same)
        (worst_same plans task point sound has (stretch.frame * has.plan.total + stretch.from) (stretch.frame * has.plan.total + stretch.to) worst h (λ frame passed.
        elim (cases_lt (stretch.frame * has.plan.total + stretch.from) (frame * has.plan.total + has.what.prefix)) [
          | inr before ↦ before
          | inl later ↦
              let at = cycle_in plans task has.plan sound has.of_task stretch is frame has.what.prefix prefix_sound.prefix_some prefix_sound.prefix_within later passed in
              absurd (other (record { after = at.after; upto = at.upto }))
        ]))
    with_stretch worst next h (inr (inl (reaches, most, same))) =
        let some = prefix_sound.prefix_some in
        subst (IsWorst_at (stretch.frame * has.plan.total + stretch.to)) (sym same)
        (worst_kept plans task point sound has (stretch.frame * has.plan.total + stretch.from) (stretch.frame * has.plan.total + stretch.to) worst h stretch.frame (stretch.delay + has.what.prefix) (omega arith) responds_once most)
    with_stretch worst next h (inr (inr (reaches, more, frame, response))) =
        let some = prefix_sound.prefix_some in
        worst_grown plans task point sound has (stretch.frame * has.plan.total + stretch.from) (stretch.frame * has.plan.total + stretch.to) worst h stretch.frame (stretch.delay + has.what.prefix) (omega arith) responds_once
        (there_is reaches) (frames_before plans task point sound has stretch.frame (stretch.frame * has.plan.total + stretch.from) (omega arith)) more next frame response

  -- one step of the walk
  pub worst_step : (old new : Position) (stretch : Stretch) → old.plans ≡ plans → old.task ≡ task → IsNextStretch old new stretch → (worst next : Worst) → IsWorst_at (old.frame * has.plan.total + old.from) worst → (prefix : ℕ) → prefix ≡ has.what.prefix →
      IsWorstWith prefix stretch worst next → IsWorst_at (new.frame * has.plan.total + new.from) next
  worst_step old new stretch of_plans of_task h worst next before prefix same with_it =
      let is = stretch_of plans task has.plan sound has.of_task old new stretch of_plans of_task h in
      let on = on_of plans task has.plan sound has.of_task old new stretch of_plans of_task h in
      let product = ap (λ n. n * has.plan.total) on.frame in
      let from = on.from in
      let start : old.frame * has.plan.total + old.from ≡ stretch.frame * has.plan.total + stretch.from = omega arith in
      subst (λ n. IsWorst_at n next) (sym on.count)
      (with_stretch stretch is worst next (subst (λ n. IsWorst_at n worst) start before) (subst (λ p. IsWorstWith p stretch worst next) same with_it))

  -- the end of the walk
  pub worst_walked : (position : Position) → position.plans ≡ plans → position.task ≡ task → IsOver position → (worst : Worst) → IsWorst_at (position.frame * has.plan.total + position.from) worst → IsWorst plans task point worst.frame worst.response
  worst_walked position of_plans of_task over worst h =
      let some = over.some in
      let within = prefix_sound.prefix_within in
      let all : (low : ℕ) → low < position.frame → low * has.plan.total + has.what.prefix ≤ position.frame * has.plan.total + position.from =
      λ low less. let next : suc low * has.plan.total ≤ position.frame * has.plan.total = mul-le-mul_right has.plan.total less in omega arith in
      record {
        plan = has.plan;
        what = has.what;
        reached = elim h.met [
          | inl none ↦ let few = none.0 in let first = all 0 some in absurd (omega arith)
          | inr met ↦ met
        ];
        greatest = λ frame response r.
            let low = met plans task has.plan sound has.of_task position of_plans of_task over point frame response has.what r in
            let more = low.no_less in
            let most = h.greatest low.low low.there low.responds (all low.low low.within) in
            omega arith;
        earliest = h.earliest;
      }

  pub worst_begun : (position : Position) → position.frame ≡ 0 → position.from ≡ 0 → IsWorst_at (position.frame * has.plan.total + position.from) (record { frame = 0; response = 0 })
  worst_begun position frame from =
      let product = ap (λ n. n * has.plan.total) frame in
      let none = none_at_first plans task in
      let same : served plans 0 task ≡ position.frame * has.plan.total + position.from = omega arith in
      subst (λ n. IsWorst_at n (record { frame = 0; response = 0 })) same (worst_none plans task point sound has)
