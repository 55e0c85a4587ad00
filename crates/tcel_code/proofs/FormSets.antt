-- Every trace of the image of a set meets the set.
use Rattle.std.proofs.Common.{◌≡◌, ℕ, zero, suc, ◌+◌, ◌*◌, ◌≤◌, List, [], ◌∷◌, length, map, drop, Some, refl, sym, ap, ◌∙◌, subst, arith, inl, inr}
use Rattle.std.specs.Prelude.{slice_get, slice_index_or}
use Rattle.std.proofs.lemmas.Option.{none-some, same_Some}
use Rattle.std.proofs.lemmas.Bool.{cases_lt}
use Rattle.std.proofs.lemmas.List.{drop_more, drop_all, get_or_past}
use Rattle.tcel_num.specs.Plan.{Plan, Point}
use Rattle.tcel_num.specs.Schedule.{served}
use Rattle.tcel_core.specs.Language.{Task}
use Rattle.tcel_core.specs.Meaning.{exec}
use Rattle.tcel_core.specs.Meets.{Meets, Shows, behaviors_of, entries_of}
use Rattle.tcel_core.specs.Promises.{Behavior, behavior_of as task_behavior}
use Rattle.tcel_core.specs.Outcome.{Memory, Occurrence}
use Rattle.tcel_target.specs.declared.costs.Costs.{Costs}
use Rattle.tcel_target.specs.Costs.{CostsInRange}
use Rattle.tcel_image.specs.declared.image.Image.{Image}
use Rattle.tcel_image.specs.declared.image.ImageTask.{ImageTask}
use Rattle.tcel_image.specs.Machine.{Streams, trace}
use Rattle.tcel_code.specs.Domination.{IsAbreastAt, counting, events_of}
use Rattle.tcel_cost.specs.Forms.{Form}
use Rattle.std.specs.List.{AllByRecursion, AllZip}
use Rattle.tcel_cost.specs.Plans.{ArePlans, IsPlan}
use Rattle.tcel_code.specs.Theorem.{HasStreams}
use Rattle.tcel_code.specs.Layout.{form_task, layout}
use Rattle.tcel_code.specs.PartsFit.{PartsFit}
use Rattle.tcel_cost.proofs.SteadyWalks.{block_steady, order_by_end, upto_later}
use Rattle.tcel_cost.proofs.RunWalks.{RunWalks, run_walk}
use Rattle.tcel_cost.proofs.BoundEvents.{EachPoint, block_bound}
use Rattle.tcel_code.proofs.Progress.{IsDue}
use Rattle.tcel_code.proofs.SetMeets.{all_abreast, image_of_sites, shows}
use Rattle.tcel_code.proofs.SetRuns.{Site, Numbered, task_of, plan_of, behavior_of, events_in}
use Rattle.tcel_code.proofs.FormFrames.{EachDue, Reaches, begins_with, dues_of, events_due, form_binds, form_frames, form_first, form_mark}

-- what stands at a place, and behind it
record StandsAt {X : Type 0} (xs : List X) (n : ℕ) (d x : X) (rest : List X) : Type 0 where
  got : slice_get xs n ≡ Some x
  same : x ≡ slice_index_or xs n d
  behind : rest ≡ drop (n + 1) xs

stands_at : {X : Type 0} (xs : List X) (n : ℕ) (d x : X) (rest : List X) → x ∷ rest ≡ drop n xs → StandsAt xs n d x rest
stands_at [] zero d x rest e = absurd cc
stands_at [] (suc n) d x rest e = absurd cc
stands_at (y ∷ xs) zero d x rest e = record { got = cc; same = cc; behind = cc }
stands_at (y ∷ xs) (suc n) d x rest e =
    let there = stands_at xs n d x rest e in
    let on : suc (n + 1) ≡ suc n + 1 = omega arith in
    record { got = there.got; same = there.same; behind = subst (λ k. rest ≡ drop k (y ∷ xs)) on there.behind }

-- the task of a form
abbrev pub source_of : Form → Task
source_of form = form.task

module _ (Timed : Type 0) (costs : Costs) (ranges : CostsInRange costs) (plans : List Plan) (streams : Streams) where
  -- a form of the set, with this number and plan: where the set is timed, the demand schedule reaches each point of each of its frames by the point's bound
  pub record Serves (n : ℕ) (form : Form) (plan : Plan) : Type 0 where
    pub fits : PartsFit form
    pub is : IsPlan form costs plan
    pub in_time : Timed → (f : ℕ) → EachPoint (λ name. Reaches plan.total form.task.period f (λ time. served plans time n)) plan.points
    pub long : length (slice_index_or streams n []) ≡ length form.task.inputs

  -- each of the forms, from a number on
  abbrev pub AllServe : ℕ → List Form → List Plan → Type 0
  AllServe n [] [] = Unit {0}
  AllServe n (form ∷ forms) (plan ∷ rest) = Serves n form plan × AllServe (n + 1) forms rest
  AllServe n _ _ = ⊥

  -- each form of a set serves so, where each point of each plan is reached in time
  module _ (in_time : Timed → (n : ℕ) (form : Form) (plan : Plan) → slice_get plans n ≡ Some plan → IsPlan form costs plan → (f : ℕ) → EachPoint (λ name. Reaches plan.total form.task.period f (λ time. served plans time n)) plan.points) where
    pub all_serve : (n : ℕ) (forms : List Form) (rest : List Plan) (given : Streams) → rest ≡ drop n plans → given ≡ drop n streams → AllByRecursion PartsFit forms → ArePlans forms costs rest → AllZip HasStreams (map source_of forms) given → AllServe n forms rest
    all_serve n [] [] given at streams_at all are long = tt
    all_serve n [] (plan ∷ rest) given at streams_at all are long = absurd cc
    all_serve n (form ∷ forms) [] given at streams_at all are long = absurd are
    all_serve n (form ∷ forms) (plan ∷ rest) [] at streams_at all are long = absurd long
    all_serve n (form ∷ forms) (plan ∷ rest) (own ∷ given) at streams_at all are long =
        let here = stands_at plans n plan plan rest at in
        let its = stands_at streams n [] own given streams_at in
        let many = ap length (sym its.same) ∙ long.0 in
        (record { fits = all.0; is = are.0; in_time = λ timed. in_time timed n form plan here.got are.0; long = many }, all_serve (n + 1) forms rest given here.behind its.behind all.1 are.1 long.1)

  module _ (n : ℕ) (form : Form) (plan : Plan) (s : Serves n form plan) where
    abbrev service : ℕ → ℕ
    service time = served plans time n

    abbrev begins : ℕ → Memory
    begins f = begins_with form (slice_index_or streams n []) f

    -- the frame's point, and those of its blocks
    points_in_time : Timed → (f : ℕ) →
        Reaches plan.total form.task.period f service (s.is.first + costs.mark) form.task.deadline × EachPoint (λ name. Reaches plan.total form.task.period f service) s.is.windows
    points_in_time timed f = subst (EachPoint (λ name. Reaches plan.total form.task.period f service)) s.is.points (s.in_time timed f)

    mark_in_time : Timed → (f : ℕ) → f * plan.total + (s.is.first + costs.mark) ≤ service (f * form.task.period + form.task.deadline)
    mark_in_time timed f = (points_in_time timed f).0

    -- each event is made by its latest time
    events_in_time : (f end : ℕ) (counts : List ℕ) → RunWalks form.parts.first form.parts.vars costs (begins f) costs.dispatch end counts →
        EachDue (IsDue Timed plan.total form.task.period service f) (dues_of f (f * form.task.period) form.task.deadline counts (exec form.parts.first form.parts.vars (begins f)).events)
    events_in_time f end counts walk =
        let total = s.is.total in
        let walks = block_steady form.parts.first form.parts.vars costs in
        let is_walk = run_walk form.parts.first form.parts.vars costs (begins f) costs.dispatch end counts walk in
        let longest = s.is.first_total.greatest end (counts, is_walk) in
        let reaches : ℕ → ℕ → Type 0 = Reaches plan.total form.task.period f service in
        let by_end = order_by_end counts costs.dispatch end (walks.ordered costs.dispatch end counts is_walk) in
        events_due Timed plan.total form.task.period form.task.deadline f (s.is.first + costs.mark) service (omega arith) (λ timed. mark_in_time timed f) counts (exec form.parts.first form.parts.vars (begins f)).events
        (upto_later end (s.is.first + costs.mark) counts (omega arith) by_end)
        (λ timed.
        block_bound (λ name. reaches) (λ name count later bound le h. omega arith) form.parts.first form.parts.vars s.fits.first s.fits.untimed costs (begins f) costs.dispatch costs.dispatch end counts s.is.windows (omega arith)
        s.is.in_text (points_in_time timed f).1 walk)

    site_of : Site Timed costs plans streams
    site_of = record {
      number = n;
      task = form_task form;
      plan = plan;
      behavior = task_behavior form.task (slice_index_or streams n []);
      events = events_of form.task (slice_index_or streams n []);
      period = s.is.period;
      positive = s.fits.period;
      frames = form_frames Timed costs ranges form s.fits plan s.is service (slice_index_or streams n []) s.long mark_in_time events_in_time;
      first = form_first Timed costs ranges form s.fits plan s.is service (slice_index_or streams n []) s.long mark_in_time events_in_time;
      marked =
          λ point e.
          let own = same_Some _ point (sym (ap (λ l. slice_get l 0) s.is.points) ∙ e) in
          let prefix = ap (λ (p : Point). p.prefix) own in
          omega (arith, form_mark Timed costs ranges form s.fits plan s.is service (slice_index_or streams n []) s.long mark_in_time events_in_time);
      binds = form_binds Timed costs ranges form s.fits plan s.is service (slice_index_or streams n []) s.long mark_in_time events_in_time;
    }

  -- the events of the forms from a number on
  abbrev all_events : ℕ → List Form → List (ℕ → List Occurrence)
  all_events n [] = []
  all_events n (form ∷ forms) = events_of form.task (slice_index_or streams n []) ∷ all_events (n + 1) forms

  events_at : (n : ℕ) (forms : List Form) (i : ℕ) (form : Form) → slice_get forms i ≡ Some form → slice_get (all_events n forms) i ≡ Some (events_of form.task (slice_index_or streams (n + i) []))
  events_at n [] i form e = absurd (none-some form e)
  events_at n (f ∷ forms) zero form e =
      let at : n ≡ n + 0 = omega arith in
      ap (λ (g : Form). Some (events_of g.task (slice_index_or streams n []))) (same_Some f form e) ∙ ap (λ k. Some (events_of form.task (slice_index_or streams k []))) at
  events_at n (f ∷ forms) (suc i) form e =
      let at : n + 1 + i ≡ n + suc i = omega arith in
      events_at (n + 1) forms i form e ∙ ap (λ k. Some (events_of form.task (slice_index_or streams k []))) at

  -- the forms from a number on, as sites
  record Sites (n : ℕ) (forms : List Form) (rest : List Plan) : Type 0 where
    sites : List (Site Timed costs plans streams)
    numbered : Numbered Timed costs plans streams n sites
    of_tasks : map (task_of Timed costs plans streams) sites ≡ map form_task forms
    of_plans : map (plan_of Timed costs plans streams) sites ≡ rest
    of_behaviors : map (behavior_of Timed costs plans streams) sites ≡ behaviors_of (map source_of forms) (drop n streams)
    of_events : map (events_in Timed costs plans streams) sites ≡ all_events n forms

  first_behavior : (n : ℕ) (t : Task) (tasks : List Task) → behaviors_of (t ∷ tasks) (drop n streams) ≡ task_behavior t (slice_index_or streams n []) ∷ behaviors_of tasks (drop (n + 1) streams)
  first_behavior n t tasks =
      elim (cases_lt n (length streams)) [
        | inl less ↦ ap (behaviors_of (t ∷ tasks)) (drop_more streams n [] less)
        | inr past ↦
            ap (behaviors_of (t ∷ tasks)) (drop_all n streams past)
            ∙ ap (λ s. task_behavior t s ∷ behaviors_of tasks []) (sym (get_or_past streams n [] past))
            ∙ ap (λ l. task_behavior t (slice_index_or streams n []) ∷ behaviors_of tasks l) (sym (drop_all (n + 1) streams (omega arith)))
      ]

  sites_of : (n : ℕ) (forms : List Form) (rest : List Plan) → AllServe n forms rest → Sites n forms rest
  unfolding site_of
  sites_of n [] [] all = record { sites = []; numbered = tt; of_tasks = refl; of_plans = refl; of_behaviors = refl; of_events = refl }
  sites_of n [] (plan ∷ rest) all = absurd all
  sites_of n (form ∷ forms) [] all = absurd all
  sites_of n (form ∷ forms) (plan ∷ rest) all =
      let others = sites_of (n + 1) forms rest all.1 in record {
        sites = site_of n form plan all.0 ∷ others.sites;
        numbered = (refl, others.numbered);
        of_tasks = ap (λ l. form_task form ∷ l) others.of_tasks;
        of_plans = ap (λ l. plan ∷ l) others.of_plans;
        of_behaviors = ap (λ l. task_behavior form.task (slice_index_or streams n []) ∷ l) others.of_behaviors ∙ sym (first_behavior n form.task (map source_of forms));
        of_events = ap (λ l. events_of form.task (slice_index_or streams n []) ∷ l) others.of_events;
      }

  module _ (forms : List Form) (all : AllServe 0 forms plans) (ticks : ℕ) where
    found : Sites 0 forms plans
    found = sites_of 0 forms plans all

    -- every trace meets the set
    pub set_meets : Timed → Meets (map source_of forms) plans streams ticks (trace (layout forms costs) streams ticks)
    set_meets timed =
        let shown = shows Timed costs plans streams found.sites found.numbered (sym found.of_plans) ticks timed in
        subst (λ its. Shows (behaviors_of (map source_of forms) streams) plans ticks (trace (record { costs = costs; tasks = its }) streams ticks)) found.of_tasks
        (subst (λ bs. Shows bs plans ticks (trace (image_of_sites Timed costs plans streams found.sites) streams ticks)) found.of_behaviors shown)

    -- each task is abreast of the demand schedule
    pub set_abreast : (i : ℕ) (form : Form) (b : Behavior) (plan : Plan) → slice_get forms i ≡ Some form → slice_get (behaviors_of (map source_of forms) streams) i ≡ Some b → slice_get plans i ≡ Some plan →
        IsAbreastAt (counting (layout forms costs) streams ticks) plans plan b (events_of form.task (slice_index_or streams i [])) ticks i (entries_of i (trace (layout forms costs) streams ticks))
    set_abreast i form b plan is_form e f =
        let at : 0 + i ≡ i = omega arith in
        let events = events_of form.task (slice_index_or streams i []) in
        let its : slice_get (all_events 0 forms) i ≡ Some events = events_at 0 forms i form is_form ∙ ap (λ k. Some (events_of form.task (slice_index_or streams k []))) at in
        let P : List ImageTask → Type 0 =
        λ its.
        let image : Image = record { costs = costs; tasks = its } in
        IsAbreastAt (counting image streams ticks) plans plan b events ticks i (entries_of i (trace image streams ticks)) in
        subst P found.of_tasks
        (all_abreast Timed costs plans streams found.sites found.numbered (sym found.of_plans) ticks i b plan events (ap (λ l. slice_get l i) found.of_behaviors ∙ e) f (ap (λ l. slice_get l i) found.of_events ∙ its))
