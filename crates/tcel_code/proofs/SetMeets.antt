-- Every run of a set's tasks shows what they are to do.
use Rattle.std.proofs.Common.{◌≡◌, ℕ, zero, suc, ◌+◌, ◌*◌, ◌<◌, ◌≤◌, List, [], ◌∷◌, ◌++◌, length, map, refl, sym, ap, ◌∙◌, subst, arith, append_assoc, append-nil, Some}
use Rattle.std.specs.Prelude.{slice_get, slice_index, slice_index_or, option_to_list, All}
use Rattle.std.proofs.lemmas.List.{length-map}
use Rattle.std.specs.Option.{option_map}
use Rattle.std.proofs.lemmas.Option.{same_Some, none-some, slice_get-map}
use Rattle.tcel_core.specs.Outcome.{Occurrence}
use Rattle.tcel_num.specs.Entry.{Entry}
use Rattle.tcel_num.specs.Plan.{Plan}
use Rattle.tcel_num.specs.Schedule.{serve_highest, served_counts, served}
use Rattle.tcel_demand.proofs.Served.{served_mono, length-served}
use Rattle.tcel_core.specs.Meets.{Shows, Keeps, entries_of}
use Rattle.tcel_core.specs.Promises.{Behavior, promises}
use Rattle.tcel_target.specs.declared.costs.Costs.{Costs}
use Rattle.tcel_image.specs.declared.image.Image.{Image}
use Rattle.tcel_image.specs.Machine.{Streams, Running, tick, entries, start, start_task, trace}
use Rattle.tcel_code.specs.Domination.{Counting, IsAbreast, IsAbreastAt, count_on, counting, counting_from}
use Rattle.tcel_code.proofs.Progress.{Progress, begins}
use Rattle.tcel_code.proofs.SetRuns.{Site, Numbered, EachProgress, AreServed, ProgressAt, task_of, plan_of, behavior_of, events_in, served_tick}
use Rattle.tcel_image.proofs.Traces.{trace_rises, trace_known}
use Rattle.tcel_code.proofs.TaskMeets.{abreast, ended, keeps, map_got}

-- ---- a set

-- the image of these sites
abbrev pub image_of_sites : (Timed : Type 0) (costs : Costs) (plans : List Plan) (streams : Streams) → List (Site Timed costs plans streams) → Image
image_of_sites Timed costs plans streams sites = record { costs = costs; tasks = map (task_of Timed costs plans streams) sites }

module _ (Timed : Type 0) (costs : Costs) (plans : List Plan) (streams : Streams) where
  are_served : (sites : List (Site Timed costs plans streams)) (n now : ℕ) (counts : List ℕ) → Numbered Timed costs plans streams n sites → length counts ≡ length sites →
      ((k : ℕ) → slice_index counts k ≡ served plans now (n + k)) → AreServed Timed costs plans streams sites now counts
  are_served [] n now counts numbered long each = tt
  are_served (site ∷ sites) n now [] numbered long each = absurd (omega arith)
  are_served (site ∷ sites) n now (c ∷ counts) numbered long each =
      let same : n + 0 ≡ site.number = omega (arith, numbered.0) in (
        each 0 ∙ ap (served plans now) same,
        are_served sites (n + 1) now counts numbered.1 (omega arith) (λ k. let on : n + suc k ≡ n + 1 + k = omega arith in each (suc k) ∙ ap (served plans now) on),
      )

  module _ (sites : List (Site Timed costs plans streams)) (numbered : Numbered Timed costs plans streams 0 sites) (same : plans ≡ map (plan_of Timed costs plans streams) sites) where
    abbrev image : Image
    image = image_of_sites Timed costs plans streams sites

    abbrev At : Counting → List Entry → Type 0
    At c past = EachProgress Timed costs plans streams sites c.machine.now (served_counts plans c.machine.now) c.ran c.machine.tasks past

    served_now : (now : ℕ) → AreServed Timed costs plans streams sites now (served_counts plans now)
    served_now now =
        are_served sites 0 now (served_counts plans now) numbered (length-served plans now ∙ ap length same ∙ length-map sites (plan_of Timed costs plans streams))
        (λ k. let e : k ≡ 0 + k = omega arith in ap (served plans now) e)

    one_tick : (c : Counting) (past : List Entry) → At c past → At (count_on image streams c) (past ++ option_to_list (tick image streams c.machine).entry)
    one_tick c past p =
        let now = c.machine.now in
        let on : suc now ≡ now + 1 = omega arith in
        let ticked = tick image streams c.machine in
        let counts = ap (λ all. serve_highest all (served_counts plans now) now) (sym same) ∙ ap (served_counts plans) on in
        subst (λ l. EachProgress Timed costs plans streams sites (now + 1) l (count_on image streams c).ran ticked.tasks (past ++ option_to_list ticked.entry)) counts
        (served_tick Timed costs plans streams sites 0 now (served_counts plans now) c.ran c.machine.tasks past numbered (served_now now) p)

    run_keeps : (ticks : ℕ) (c : Counting) (past : List Entry) → At c past → At (counting_from image streams ticks c) (past ++ entries image streams ticks c.machine)
    run_keeps zero c past p = subst (At c) (sym (append-nil past)) p
    run_keeps (suc ticks) c past p =
        let ticked = tick image streams c.machine in
        let then' = count_on image streams c in
        let others = entries image streams ticks then'.machine in
        subst (At (counting_from image streams ticks then')) (append_assoc past (option_to_list ticked.entry) others)
        (run_keeps ticks then' (past ++ option_to_list ticked.entry) (one_tick c past p))

    all_begin : (some : List (Site Timed costs plans streams)) →
        EachProgress Timed costs plans streams some 0 (map (λ _. 0) (map (plan_of Timed costs plans streams) some)) (map (λ _. 0) (map (task_of Timed costs plans streams) some))
        (map start_task (map (task_of Timed costs plans streams) some)) []
    all_begin [] = tt
    all_begin (site ∷ others) =
        let inputs = slice_index_or streams site.number [] in
        let service : ℕ → ℕ = λ time. served plans time site.number in (
          subst (λ r. Progress Timed costs site.task inputs site.behavior site.plan.total service site.frames 0 0 0 r []) site.first (begins Timed costs site.task inputs site.behavior site.plan.total service site.frames),
          all_begin others,
        )

    -- the time after so many ticks
    time_on : (ticks : ℕ) (c : Counting) → (counting_from image streams ticks c).machine.now ≡ c.machine.now + ticks
    time_on zero c = omega arith
    time_on (suc ticks) c = let rest = time_on ticks (count_on image streams c) in omega arith

    -- each task's progress after so many ticks
    run : (ticks : ℕ) → EachProgress Timed costs plans streams sites ticks (served_counts plans ticks) (counting image streams ticks).ran (counting image streams ticks).machine.tasks (trace image streams ticks)
    run ticks =
        let begin : Counting = record { machine = start image; ran = map (λ _. 0) image.tasks } in
        let zeros : map (λ _. 0) (map (plan_of Timed costs plans streams) sites) ≡ served_counts plans 0 = ap (map (λ (plan : Plan). 0)) (sym same) in
        let begun = subst (λ l. EachProgress Timed costs plans streams sites 0 l begin.ran (map start_task image.tasks) []) zeros (all_begin sites) in
        let e : (counting image streams ticks).machine.now ≡ ticks = time_on ticks begin ∙ omega arith in
        subst (λ n. EachProgress Timed costs plans streams sites n (served_counts plans n) (counting image streams ticks).ran (counting image streams ticks).machine.tasks (trace image streams ticks)) e (run_keeps ticks begin [] begun)

  -- what holds of each task's progress holds of the task at this place
  found : (P : Site Timed costs plans streams → Running → ℕ → Type 0) (now : ℕ) (past : List Entry) →
      ((site : Site Timed costs plans streams) (count ran : ℕ) (r : Running) → count ≡ served plans now site.number → ProgressAt Timed costs plans streams site now count ran r past → P site r ran) →
      (sites : List (Site Timed costs plans streams)) (n : ℕ) (counts ran : List ℕ) (rs : List Running) → Numbered Timed costs plans streams n sites → AreServed Timed costs plans streams sites now counts →
      EachProgress Timed costs plans streams sites now counts ran rs past → (i : ℕ) (site : Site Timed costs plans streams) → slice_get sites i ≡ Some site →
      (r : Running) × (m : ℕ) × (slice_get rs i ≡ Some r) × (slice_get ran i ≡ Some m) × P site r m × (site.number ≡ n + i)
  found P now past holds [] n counts ran rs numbered are p i site e = absurd (none-some site e)
  found P now past holds (s ∷ sites) n [] ran rs numbered are p i site e = absurd are
  found P now past holds (s ∷ sites) n (c ∷ counts) [] rs numbered are p i site e = absurd p
  found P now past holds (s ∷ sites) n (c ∷ counts) (m ∷ ran) [] numbered are p i site e = absurd p
  found P now past holds (s ∷ sites) n (c ∷ counts) (m ∷ ran) (r ∷ rs) numbered are p zero site e =
      let same = same_Some s site e in
      let at : s.number ≡ n + 0 = omega (arith, numbered.0) in
      (r, m, refl, refl, subst (λ (q : Site Timed costs plans streams). P q r m) same (holds s c m r are.0 p.0), subst (λ (q : Site Timed costs plans streams). q.number ≡ n + 0) same at)
  found P now past holds (s ∷ sites) n (c ∷ counts) (m ∷ ran) (r ∷ rs) numbered are p (suc i) site e =
      let at : n + 1 + i ≡ n + suc i = omega arith in
      let there = found P now past holds sites (n + 1) counts ran rs numbered.1 are.1 p.1 i site e in
      (there.0, there.1, there.2, there.3, there.4, there.5 ∙ at)

  module _ (sites : List (Site Timed costs plans streams)) (numbered : Numbered Timed costs plans streams 0 sites) (same : plans ≡ map (plan_of Timed costs plans streams) sites) (ticks : ℕ) where
    abbrev its_image : Image
    its_image = image_of_sites Timed costs plans streams sites

    abbrev past : List Entry
    past = trace its_image streams ticks

    abbrev now_counting : Counting
    now_counting = counting its_image streams ticks

    at_task : (P : Site Timed costs plans streams → Running → ℕ → Type 0) →
        ((site : Site Timed costs plans streams) (count ran : ℕ) (r : Running) → count ≡ served plans ticks site.number → ProgressAt Timed costs plans streams site ticks count ran r past → P site r ran) →
        (i : ℕ) (site : Site Timed costs plans streams) → slice_get sites i ≡ Some site →
        (r : Running) × (m : ℕ) × (slice_get now_counting.machine.tasks i ≡ Some r) × (slice_get now_counting.ran i ≡ Some m) × P site r m × (site.number ≡ i)
    at_task P holds i site e =
        let at : 0 + i ≡ i = omega arith in
        let there = found P ticks past holds sites 0 (served_counts plans ticks) now_counting.ran now_counting.machine.tasks numbered (served_now sites numbered same ticks) (run sites numbered same ticks) i site e in
        (there.0, there.1, there.2, there.3, there.4, there.5 ∙ at)

    -- the plan at the place of a site is the site's
    its_plan : (i : ℕ) (site : Site Timed costs plans streams) (plan : Plan) → slice_get sites i ≡ Some site → slice_get plans i ≡ Some plan → site.plan ≡ plan
    its_plan i site plan e g =
        same_Some site.plan plan (sym (slice_get-map (plan_of Timed costs plans streams) sites i ∙ ap (option_map (plan_of Timed costs plans streams)) e) ∙ ap (λ l. slice_get l i) (sym same) ∙ g)

    -- every trace of the set's image shows what its tasks are to do
    pub shows : Timed → Shows (map (behavior_of Timed costs plans streams) sites) plans ticks past
    shows timed =
        let counted = length-map sites (task_of Timed costs plans streams) ∙ sym (length-map sites (behavior_of Timed costs plans streams)) in
        record {
          rises = trace_rises its_image streams ticks;
          known = subst (λ n. All (λ (e : Entry). e.task < n) past) counted (trace_known its_image streams ticks);
          keeps =
              λ i b e.
              let got = map_got (behavior_of Timed costs plans streams) sites i b e in
              let there =
              at_task (λ site _ _. Keeps site.behavior ticks (entries_of site.number past))
              (λ site count ran r is p. keeps Timed costs site.task (slice_index_or streams site.number []) site.behavior site.plan.total (λ time. served plans time site.number) site.frames ticks count ran r (entries_of site.number past) p
              (λ a b. served_mono plans a b site.number) is timed)
              i got.0 got.1 in
              subst (λ c. Keeps c ticks (entries_of i past)) got.2 (subst (λ k. Keeps got.0.behavior ticks (entries_of k past)) there.5 there.4);
          ended =
              λ i f b plan e g due.
              let got = map_got (behavior_of Timed costs plans streams) sites i b e in
              let there =
              at_task (λ site _ _. (f + 1) * site.plan.total ≤ served plans ticks site.number → length (promises site.behavior (f + 1)) ≤ length (entries_of site.number past))
              (λ site count ran r is p. ended Timed costs site.task (slice_index_or streams site.number []) site.behavior site.plan.total (λ time. served plans time site.number) site.frames ticks count ran r (entries_of site.number past) p
              (λ a b. served_mono plans a b site.number) is f)
              i got.0 got.1 in
              let total = ap (λ (q : Plan). (f + 1) * q.total) (its_plan i got.0 plan got.1 g) in
              let number = ap (served plans ticks) there.5 in
              subst (λ c. length (promises c (f + 1)) ≤ length (entries_of i past)) got.2
              (subst (λ k. length (promises got.0.behavior (f + 1)) ≤ length (entries_of k past)) there.5 (there.4 (omega arith)));
        }

    -- each task is abreast of the demand schedule
    pub all_abreast : (i : ℕ) (b : Behavior) (plan : Plan) (events : ℕ → List Occurrence) → slice_get (map (behavior_of Timed costs plans streams) sites) i ≡ Some b → slice_get plans i ≡ Some plan →
        slice_get (map (events_in Timed costs plans streams) sites) i ≡ Some events → IsAbreastAt now_counting plans plan b events ticks i (entries_of i past)
    all_abreast i b plan events e f g =
        let got = map_got (behavior_of Timed costs plans streams) sites i b e in
        let site = got.0 in
        let there =
        at_task (λ site r m. IsAbreast plans site.plan site.behavior site.events ticks site.number r m (entries_of site.number past))
        (λ site count ran r is p. abreast Timed costs site.task (slice_index_or streams site.number []) site.behavior site.plan.total (λ time. served plans time site.number) site.frames ticks count ran r (entries_of site.number past) p
        plans site.plan site.events site.number is refl site.marked site.binds)
        i site got.1 in
        let its_events : site.events ≡ events =
        same_Some site.events events (sym (slice_get-map (events_in Timed costs plans streams) sites i ∙ ap (option_map (events_in Timed costs plans streams)) got.1) ∙ g) in (
          there.0,
          there.1,
          there.2,
          there.3,
          subst (λ es. IsAbreast plans plan b es ticks i there.0 there.1 (entries_of i past)) its_events
              (subst (λ c. IsAbreast plans plan c site.events ticks i there.0 there.1 (entries_of i past)) got.2
              (subst (λ q. IsAbreast plans q site.behavior site.events ticks i there.0 there.1 (entries_of i past)) (its_plan i site plan got.1 f)
              (subst (λ k. IsAbreast plans site.plan site.behavior site.events ticks k there.0 there.1 (entries_of k past)) there.5 there.4))),
        )
