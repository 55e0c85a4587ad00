-- The state of a walk through a busy period, before and behind one stretch.
use Rattle.std.proofs.Common.{◌≡◌, ℕ, suc, ◌+◌, ◌-◌, ◌*◌, ◌^◌, ◌<◌, ◌≤◌, min, max, true, false, All, List, [], ◌∷◌, length, take, refl, sym, ap, ◌∙◌, subst, arith, Some, inl, inr}
use Rattle.std.specs.Prelude.{slice_get, nat_le}
use Rattle.std.proofs.Math.Nat.{mul-le-mul_left, mul-le-mul_right}
use Rattle.std.proofs.lemmas.Bool.{cases_lt, leb-true, leb-false}
use Rattle.std.proofs.lemmas.List.Elements.{All-take}
use Rattle.std.proofs.lemmas.Option.{slice_get_within}
use Rattle.tcel_busy.specs.Releases.{AreNext, IsGap}
use Rattle.tcel_busy.specs.Stretches.{IsStretch, IsCovered, IsOver}
use Rattle.tcel_busy.specs.Walking.{IsBetween, IsWalking, position_of}
use Rattle.tcel_busy.specs.declared.gap.Gap.{Gap}
use Rattle.tcel_busy.specs.declared.stretch.Stretch.{Stretch}
use Rattle.tcel_busy.specs.declared.walk.Walk.TheInside.{Inside}
use Rattle.tcel_busy.proofs.BusyPeriod.{IsEnd, IsFirst, shown}
use Rattle.tcel_busy.proofs.Gaps.{each_sound}
use Rattle.tcel_busy.proofs.Tasks.{is_task, higher, all, own, end_of}
use Rattle.tcel_busy.proofs.WalkFacts.{IsGapAt, GapFacts, gap_facts}
use Rattle.tcel_demand.specs.Sound.{IsSoundPlan, Fit}
use Rattle.tcel_demand.specs.Workload.{releases, asked}
use Rattle.tcel_demand.proofs.Releases.{releases_least, releases_mono}
use Rattle.tcel_demand.proofs.Standings.{sound_at, plan_at}
use Rattle.tcel_demand.proofs.Workloads.{asked-cons, done}
use Rattle.tcel_num.specs.Lateness.{IsFirstServed}
use Rattle.tcel_num.specs.Plan.{Plan}

-- what is asked stays where no plan has a release
asked_steady : (plans : List Plan) (early late : ℕ) → ((k : ℕ) (plan : Plan) → slice_get plans k ≡ Some plan → releases plan.period late ≡ releases plan.period early) → asked plans late ≡ asked plans early
asked_steady [] early late same = refl
asked_steady (p ∷ plans) early late same =
    let own_same = ap (λ n. p.total * n) (same 0 p refl) in
    omega (arith, asked-cons p plans early, asked-cons p plans late, asked_steady plans early late (λ k plan e. same (suc k) plan e))

-- no release up to the next one
releases_steady : (period early late : ℕ) → 0 < period → early ≤ late → late ≤ releases period early * period → releases period late ≡ releases period early
releases_steady period early late some order reach =
    let most = releases_least period late (releases period early) some reach in
    let least = releases_mono period early late some order in
    omega arith

first_served : (plans : List Plan) (task cycles time other : ℕ) → time ≡ other → IsFirst (own plans task) cycles time → IsFirstServed plans task cycles other
first_served plans task cycles time other same h = subst (IsFirstServed plans task cycles) same (record { there = h.there; before = h.before })

module _ (a : Inside) (h : IsWalking a) where
  ends_at : IsEnd (all a.plans.now a.task) h.end
  ends_at = record { some = h.ends.some; enough = h.ends.enough; least = h.ends.least }

  pub frame_fits : a.frame ≤ a.release
  frame_fits =
      let some : a.frame * 1 ≤ a.frame * h.plan.period = mul-le-mul_left a.frame (sound_at a.plans.now a.task h.plan h.sound h.of_task).period_some in
      let released = h.released in
      omega arith

  pub task_within : a.task < length a.plans.now
  task_within = slice_get_within a.plans.now a.task h.plan h.of_task

  -- ---- over

  covered : a.over ≡ true → (plan : Plan) (frame prefix : ℕ) → slice_get a.plans.now a.task ≡ Some plan → 0 < prefix → prefix ≤ plan.total → IsCovered a.plans.now a.task plan a.frame frame prefix
  covered over plan frame prefix e some most =
      let behind = h.over over in
      let mine : slice_get a.plans.now a.task ≡ Some h.plan = h.of_task in
      let same : h.plan ≡ plan = cc in
      let most_here : prefix ≤ h.plan.total = let total = ap (λ (p : Plan). p.total) same in omega arith in
      let found = shown (higher a.plans.now a.task) (λ t. done (take a.task a.plans.now) t) (all a.plans.now a.task) (λ t. done (take (suc a.task) a.plans.now) t) (own a.plans.now a.task)
      h.plan.period h.plan.total (is_task a.plans.now a.task h.plan h.sound h.of_task) h.end ends_at frame prefix some most_here in
      let past = behind.past in
      let released = h.released in
      let within = found.2.within in
      let here : IsCovered a.plans.now a.task h.plan a.frame frame prefix = record {
        low = found.0;
        no_later = found.2.no_later;
        within = elim (cases_lt found.0 a.frame) [
          | inl less ↦ less
          | inr more ↦ let late : a.frame * h.plan.period ≤ found.0 * h.plan.period = mul-le-mul_right h.plan.period more in absurd (omega arith)
        ];
        response = found.1;
        first = record { there = found.2.first.there; before = found.2.first.before };
        enough = found.2.enough;
      } in
      subst (λ (p : Plan). IsCovered a.plans.now a.task p a.frame frame prefix) same here

  pub is_over : a.over ≡ true → IsOver (position_of a)
  is_over over = let behind = h.over over in record { some = behind.some; whole = behind.whole; covers = covered over }

  -- ---- going on

  module _ (going : a.over ≡ false) (plan : Plan) (e : slice_get a.plans.now a.task ≡ Some plan) where
    same_plan : h.plan ≡ plan
    same_plan = let mine : slice_get a.plans.now a.task ≡ Some h.plan = h.of_task in cc

    since : ℕ
    since = (h.going going).0

    between : IsBetween a plan h.end since
    unfolding since
    between = subst (λ (p : Plan). IsBetween a p h.end (h.going going).0) same_plan (h.going going).1

    sound_plan : IsSoundPlan plan
    sound_plan = sound_at a.plans.now a.task plan h.sound e

    sound_higher : All IsSoundPlan (take a.task a.plans.now)
    sound_higher = All-take IsSoundPlan a.task a.plans.now h.sound.each

    still : (t : ℕ) → since < t → t ≤ a.until → (k : ℕ) (other : Plan) → slice_get (take a.task a.plans.now) k ≡ Some other → releases other.period t ≡ releases other.period (suc since)
    still t from to k other there =
        let reach = between.until k other there in
        let next = between.next k other there in
        releases_steady other.period (suc since) t (each_sound (take a.task a.plans.now) k other sound_higher there).period_some from (omega arith)

    gap : IsGapAt (higher a.plans.now a.task) plan.period plan.total h.end a.frame a.from since a.until
    gap =
        let inside = between.inside in
        let released : a.release ≡ a.frame * plan.period = h.released ∙ ap (λ (p : Plan). a.frame * p.period) same_plan in
        record {
          inside = omega arith;
          part = between.from;
          before = between.before;
          steady = λ t from to. asked_steady (take a.task a.plans.now) (suc since) t (still t from to);
          low = between.low;
        }

    facts : GapFacts (higher a.plans.now a.task) (own a.plans.now a.task) plan.period plan.total h.end a.frame a.from since a.until
    facts =
        gap_facts (higher a.plans.now a.task) (λ t. done (take a.task a.plans.now) t) (all a.plans.now a.task) (λ t. done (take (suc a.task) a.plans.now) t) (own a.plans.now a.task)
        plan.period plan.total (is_task a.plans.now a.task plan h.sound e) h.end ends_at a.frame a.from since a.until gap

    released_is : a.release ≡ a.frame * plan.period
    released_is = h.released ∙ ap (λ (p : Plan). a.frame * p.period) same_plan

    pub start_fits : a.release + a.delay + plan.total ≤ 10 ^ 12
    start_fits = let start = between.start in let within = facts.start_within in let most = h.most in omega arith

    pub from_part : a.from < plan.total
    from_part = between.from

    pub release_fits : a.release < 10 ^ 12
    release_fits = let inside = between.inside in let most = h.most in omega arith

    -- where the stretch ends
    module _ (to : ℕ) (is_to : to ≡ max (min (a.until - (a.release + a.delay)) plan.total) a.from) where
      stretch : Stretch
      stretch = record { frame = a.frame; from = a.from; to = to; delay = a.delay }

      within_until : (cycle : ℕ) → a.from < cycle → cycle ≤ to → a.frame * plan.total + higher a.plans.now a.task (suc since) + cycle ≤ a.until
      within_until cycle more most = let start = between.start in omega arith

      pub stretch_is : IsStretch a.plans.now a.task plan (record { frame = a.frame; from = a.from; to = to; delay = a.delay })
      stretch_is =
          let part = between.from in
          let fits = start_fits in
          record {
            of_task = e;
            order = omega arith;
            within = omega arith;
            delay = omega arith;
            reached = λ cycle more most.
                let start = between.start in
                let released = released_is in
                first_served a.plans.now a.task (a.frame * plan.total + cycle) (a.frame * plan.total + higher a.plans.now a.task (suc since) + cycle) (a.frame * plan.period + (a.delay + cycle)) (omega arith)
                (facts.first cycle more (omega arith) (within_until cycle more most));
          }

      -- ---- at the frame's end

      module _ (whole : to ≡ plan.total) where
        done_at : a.release + a.delay + plan.total ≤ a.until
        done_at = let start = between.start in let last = within_until plan.total between.from (omega arith) in omega arith

        next_plan : Plan
        next_plan = plan

        pub stands_next : IsWalking (record {
          plans = a.plans;
          task = a.task;
          frame = a.frame + 1;
          release = a.release + plan.period;
          from = 0;
          delay = a.delay + plan.total - plan.period;
          until = a.until;
          next = a.next;
          over = nat_le (a.delay + plan.total) plan.period;
        })
        stands_next =
            let released = released_is in
            let start = between.start in
            let part = between.from in
            let done = done_at in
            record {
              sound = h.sound;
              size = h.size;
              plan = plan;
              of_task = e;
              end = h.end;
              ends = h.ends;
              most = h.most;
              fits = h.fits;
              released = omega arith;
              going = λ test.
                  let later : plan.period < a.delay + plan.total = leb-false _ _ test in
                  let next = facts.next (omega arith) in
                  let inside = next.inside in (
                    since,
                    record {
                      inside = omega arith;
                      from = omega arith;
                      before = next.before;
                      next = between.next;
                      until = between.until;
                      start = omega arith;
                      low = next.low;
                    },
                  );
              over = λ test.
                  let early : a.delay + plan.total ≤ plan.period = leb-true _ _ test in
                  let past = facts.behind (omega arith) (omega arith) in
                  record { some = omega arith; whole = refl; past = omega arith };
            }

        pub next_left : 2 ^ 65 - (a.frame + 1 + a.until) < 2 ^ 65 - (a.frame + a.until)
        next_left = let frame = frame_fits in let release = release_fits in let fits = h.fits in omega arith

      -- ---- at a release of a higher task

      module _ (short : to ≡ plan.total → ⊥) where
        to_part : to < plan.total
        to_part = let part = between.from in omega arith

        reach : a.until ≤ a.frame * plan.total + higher a.plans.now a.task (suc since) + to
        reach = let start = between.start in let part = to_part in omega arith

        pub until_fits : a.until < 10 ^ 12
        until_fits = let within = facts.until_within to (omega arith) to_part reach in let most = h.most in omega arith

        pub asked_fits : asked (take a.task a.plans.now) (suc a.until) ≤ 10 ^ 12
        asked_fits = let within = facts.asked_within to (omega arith) to_part reach in let most = h.most in omega arith

        pub next_at : AreNext (take a.task a.plans.now) a.until a.next
        next_at k other there = between.next k other there ∙ ap (λ n. n * other.period) (sym (still a.until between.before (omega arith) k other there))

        module _ (next : List ℕ) (passed : Gap) (size : length next ≡ 16) (are : AreNext (take a.task a.plans.now) (suc a.until) next) (is : IsGap (take a.task a.plans.now) a.until next passed) where
          delay_sum : a.release + (a.delay + passed.cycles) ≡ a.frame * plan.total + asked (take a.task a.plans.now) (suc a.until)
          delay_sum =
              let start = between.start in
              let same = asked_steady (take a.task a.plans.now) (suc since) a.until (still a.until between.before (omega arith)) in
              let sum = is.cycles in
              omega arith

          pub delay_fits : a.delay + passed.cycles < 2 ^ 64
          delay_fits = let sum = delay_sum in let within = facts.asked_within to (omega arith) to_part reach in let fits = facts.start_within in let most = h.most in omega arith

          pub stands_on : IsWalking (record {
            plans = a.plans;
            task = a.task;
            frame = a.frame;
            release = a.release;
            from = to;
            delay = a.delay + passed.cycles;
            until = passed.until;
            next = next;
            over = a.over;
          })
          stands_on =
              let on = facts.on to (omega arith) to_part reach passed.until is.later
              (λ t from most. asked_steady (take a.task a.plans.now) (suc a.until) t (λ k other there.
              let upto = is.until k other there in
              let at = are k other there in
              releases_steady other.period (suc a.until) t (each_sound (take a.task a.plans.now) k other sound_higher there).period_some from (omega arith))) in
              record {
                sound = h.sound;
                size = size;
                plan = plan;
                of_task = e;
                end = h.end;
                ends = h.ends;
                most = h.most;
                fits = is.fits;
                released = released_is;
                going = λ test. (
                  a.until,
                  record {
                    inside = between.inside;
                    from = on.part;
                    before = on.before;
                    next = are;
                    until = is.until;
                    start = delay_sum;
                    low = on.low;
                  },
                );
                over = λ test. absurd cc;
              }

          pub on_left : 2 ^ 65 - (a.frame + passed.until) < 2 ^ 65 - (a.frame + a.until)
          on_left = let frame = frame_fits in let release = release_fits in let fits = h.fits in let more = is.fits in let later = is.later in omega arith

-- ---- the start

pub asked_first : (plans : List Plan) (hyper task : ℕ) → Fit plans hyper → task < length plans → asked (take task plans) 1 ≤ 10 ^ 12
asked_first plans hyper task fit within =
    let plan = plan_at plans task within in
    let is = is_task plans task plan.0 fit.within.sound plan.1 in
    let end = end_of plans hyper task fit in
    let some = end.1.some in
    let rise = is.above.rising 1 end.0 some in
    let asks = is.asks end.0 in
    let enough = end.1.enough in
    let most = fit.most in
    let within_hyper = end.2 in
    omega arith

pub begun : (a : Inside) (hyper : ℕ) → Fit a.plans.now hyper → a.task < length a.plans.now → a.frame ≡ 0 → a.release ≡ 0 → a.from ≡ 0 → a.over ≡ false →
    (gap : Gap) → a.delay ≡ gap.cycles → a.until ≡ gap.until → length a.next ≡ 16 → AreNext (take a.task a.plans.now) 1 a.next → IsGap (take a.task a.plans.now) 0 a.next gap → IsWalking a
begun a hyper fit within frame release from over gap delay until size are is =
    let plan = plan_at a.plans.now a.task within in
    let task_is = is_task a.plans.now a.task plan.0 fit.within.sound plan.1 in
    let end = end_of a.plans.now hyper a.task fit in
    let first = ap (λ n. n * plan.0.total) frame in
    let first_release = ap (λ n. n * plan.0.period) frame in
    let nothing = task_is.above.nothing in
    let cycles = is.cycles in
    let later = is.later in
    let most = fit.most in
    let within_hyper = end.2 in
    let some = end.1.some in
    let total = task_is.total_some in
    let fits = is.fits in
    record {
      sound = fit.within.sound;
      size = size;
      plan = plan.0;
      of_task = plan.1;
      end = end.0;
      ends = record { some = end.1.some; enough = end.1.enough; least = end.1.least };
      most = omega arith;
      fits = omega arith;
      released = omega arith;
      going = λ test. (
        0,
        record {
          inside = omega arith;
          from = omega arith;
          before = omega arith;
          next = are;
          until = λ k other there. let at = is.until k other there in omega arith;
          start = omega arith;
          low = λ t early. omega arith;
        },
      );
      over = λ test. absurd cc;
    }
