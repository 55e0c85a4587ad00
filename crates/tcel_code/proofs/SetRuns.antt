-- A set of tasks in a run: each tick of the machine, beside the tick of the demand schedule, keeps every task's progress.
use Rattle.std.proofs.Common.{◌≡◌, ℕ, suc, ◌+◌, ◌*◌, ◌/◌, ◌<◌, ◌≤◌, Bool, true, false, cond, List, [], ◌∷◌, ◌++◌, map, refl, sym, ap, ◌∙◌, subst, arith, append-nil, Option, Some, None}
use Rattle.std.specs.Prelude.{slice_get, slice_index_or, option_to_list, ◌==◌}
use Rattle.std.proofs.Math.Nat.{mul-le-mul_left, mul_comm, le-div_iff_mul-le}
use Rattle.std.proofs.lemmas.Bool.{cond_both, ltb-true, ltb-false, eq-eqb, ne_eqb, cond-true, cond-false}
use Rattle.std.proofs.lemmas.List.Elements.{filter-append}
use Rattle.std.proofs.lemmas.Option.{same_Some, none-some}
use Rattle.tcel_num.specs.Entry.{Entry, What}
use Rattle.tcel_num.specs.Plan.{Plan, Point}
use Rattle.tcel_num.specs.Schedule.{released, is_pending, serve_highest, served}
use Rattle.tcel_demand.proofs.Served.{served_mono}
use Rattle.tcel_core.specs.Meets.{entries_of}
use Rattle.tcel_core.specs.Promises.{Behavior}
use Rattle.tcel_target.specs.declared.costs.Costs.{Costs}
use Rattle.tcel_image.specs.declared.image.ImageTask.{ImageTask}
use Rattle.tcel_image.specs.Machine.{Streams, Running, Ticked, is_ready, own_tick, entry_of, tick_from, runs, after, start_task}
use Rattle.tcel_core.specs.Outcome.{Occurrence}
use Rattle.tcel_code.specs.Domination.{AreBoundBy, counted, ran_on}
use Rattle.tcel_code.proofs.Ahead.{Due}
use Rattle.tcel_code.proofs.Progress.{Frames, Progress, waits, not_ended}
use Rattle.tcel_code.proofs.Progress.{runs as task_runs}

-- a task of the set, with its plan, what it is to do, and its frames on the machine
pub record Site (Timed : Type 0) (costs : Costs) (plans : List Plan) (streams : Streams) : Type 0 where
  pub number : ℕ
  pub task : ImageTask
  pub plan : Plan
  pub behavior : Behavior
  -- the events of its frames
  pub events : ℕ → List Occurrence
  pub period : plan.period ≡ task.period
  pub positive : 0 < task.period
  pub frames : Frames Timed costs task (slice_index_or streams number []) behavior plan.total (λ time. served plans time number)
  pub first : frames.start 0 ≡ start_task task
  pub marked : (point : Point) → slice_get plan.points 0 ≡ Some point → frames.mark ≤ point.prefix
  pub binds : (f k : ℕ) (e : Occurrence) → slice_get (events f) k ≡ Some e → (due : Due) × (slice_get (frames.dues f) k ≡ Some due) × AreBoundBy plan.points (λ prefix. due.by ≤ prefix) e.around

-- what holds of two choices by one test
by_test : {A C : Type 0} (b : Bool) (x y : A) (u v : C) (P : A → C → Type 0) → (b ≡ true → P x u) → (b ≡ false → P y v) → P (cond b x y) (cond b u v)
by_test true x y u v P one two = one refl
by_test false x y u v P one two = two refl

-- ---- entries of one task

of_task : (n : ℕ) (past : List Entry) (now : ℕ) (r : Running) (shown : Option What) →
    entries_of n (past ++ option_to_list (entry_of now n r shown)) ≡ entries_of n past ++ option_to_list (entry_of now n r shown)
of_task n past now r None = filter-append (λ (e : Entry). e.task == n) past []
of_task n past now r (Some what) =
    let e : Entry = record { time = now + 1; task = n; frame = r.ended; what = what } in
    filter-append (λ (e : Entry). e.task == n) past (e ∷ []) ∙ ap (λ l. entries_of n past ++ l) (cond-true _ _ _ (eq-eqb n n refl))

of_other : (n : ℕ) (past : List Entry) (entry : Option Entry) → (below : (e : Entry) → entry ≡ Some e → e.task ≡ n → ⊥) →
    entries_of n (past ++ option_to_list entry) ≡ entries_of n past
of_other n past None below = filter-append (λ (e : Entry). e.task == n) past [] ∙ append-nil (entries_of n past)
of_other n past (Some e) below =
    filter-append (λ (e : Entry). e.task == n) past (e ∷ []) ∙ ap (λ l. entries_of n past ++ l) (cond-false _ _ _ (ne_eqb e.task n (below e refl)))
    ∙ append-nil (entries_of n past)

-- an entry's task is one of those from a number on
abbrev IsFrom : ℕ → Option Entry → Type 0
IsFrom n entry = (e : Entry) → entry ≡ Some e → n ≤ e.task

entry_from : (now n : ℕ) (r : Running) (shown : Option What) → (e : Entry) → entry_of now n r shown ≡ Some e → e.task ≡ n
entry_from now n r None e h = absurd (none-some e h)
entry_from now n r (Some what) e h = ap (λ (x : Entry). x.task) (sym (same_Some _ e h))

tick_is_from : (costs : Costs) (now : ℕ) (tasks : List ImageTask) (streams : Streams) (n : ℕ) (rs : List Running) → IsFrom n (tick_from costs now tasks streams n rs).entry
tick_is_from costs now [] streams n rs = λ e h. absurd (none-some e h)
tick_is_from costs now (task ∷ tasks) streams n [] = λ e h. absurd (none-some e h)
tick_is_from costs now (task ∷ tasks) streams n (r ∷ rs) =
    let o = own_tick costs task (slice_index_or streams n []) now r in
    let others = tick_from costs now tasks streams (n + 1) rs in
    cond_both (is_ready task now r) (runs now n r o rs) (after r others) (λ t. IsFrom n t.entry)
    (λ _ e h. let g = entry_from now n r o.shown e h in omega arith)
    (λ _ e h. let g = tick_is_from costs now tasks streams (n + 1) rs e h in omega arith)

module _ (Timed : Type 0) (costs : Costs) (plans : List Plan) (streams : Streams) where
  abbrev pub task_of : Site Timed costs plans streams → ImageTask
  task_of site = site.task

  abbrev pub plan_of : Site Timed costs plans streams → Plan
  plan_of site = site.plan

  abbrev pub events_in : Site Timed costs plans streams → ℕ → List Occurrence
  events_in site = site.events

  abbrev pub behavior_of : Site Timed costs plans streams → Behavior
  behavior_of site = site.behavior

  -- the sites are numbered from here on
  abbrev pub Numbered : ℕ → List (Site Timed costs plans streams) → Type 0
  Numbered n [] = Unit {0}
  Numbered n (site ∷ sites) = (site.number ≡ n) × Numbered (n + 1) sites

  abbrev pub ProgressAt : Site Timed costs plans streams → (now count ran : ℕ) → Running → List Entry → Type 0
  ProgressAt site now count ran r past =
      Progress Timed costs site.task (slice_index_or streams site.number []) site.behavior site.plan.total (λ time. served plans time site.number) site.frames now count ran r (entries_of site.number past)

  -- each task's progress at a time
  abbrev pub EachProgress : List (Site Timed costs plans streams) → ℕ → (counts ran : List ℕ) → List Running → List Entry → Type 0
  EachProgress [] now [] [] [] past = Unit {0}
  EachProgress (site ∷ sites) now (count ∷ counts) (n ∷ ran) (r ∷ rs) past = ProgressAt site now count n r past × EachProgress sites now counts ran rs past
  EachProgress _ now _ _ _ past = ⊥

  -- the counts are those of the demand schedule
  abbrev pub AreServed : List (Site Timed costs plans streams) → ℕ → List ℕ → Type 0
  AreServed [] now counts = Unit {0}
  AreServed (site ∷ sites) now [] = ⊥
  AreServed (site ∷ sites) now (count ∷ counts) = (count ≡ served plans now site.number) × AreServed sites now counts

  -- a task that is not ready has run all that is released
  at_rest : (site : Site Timed costs plans streams) (now count ran : ℕ) (r : Running) (past : List Entry) → (p : ProgressAt site now count ran r past) → now / site.task.period + 1 ≤ r.ended →
      released site.plan now ≤ p.frame * site.plan.total + ran
  at_rest site now count ran r past p h =
      let all = ap (λ n. site.plan.total * (now / n + 1)) site.period in
      let more : site.plan.total * (now / site.task.period + 1) ≤ site.plan.total * p.frame = mul-le-mul_left site.plan.total (omega (arith, p.at)) in
      let turned = mul_comm site.plan.total p.frame in
      omega arith

  -- a task that is ready has some to run that is released
  at_work : (site : Site Timed costs plans streams) (now count ran : ℕ) (r : Running) (past : List Entry) → (p : ProgressAt site now count ran r past) → r.ended < now / site.task.period + 1 →
      count < released site.plan now
  at_work site now count ran r past p h =
      let all = ap (λ n. site.plan.total * (now / n + 1)) site.period in
      let more : site.plan.total * suc p.frame ≤ site.plan.total * (now / site.task.period + 1) = mul-le-mul_left site.plan.total (omega (arith, p.at)) in
      let turned = mul_comm site.plan.total (suc p.frame) in
      let short = not_ended Timed costs site.task (slice_index_or streams site.number []) site.behavior site.plan.total (λ time. served plans time site.number) site.frames now count ran r (entries_of site.number past) p in
      let most = p.dominates in
      omega arith

  -- a tick of a site's task
  site_runs : (site : Site Timed costs plans streams) (now count count' ran : ℕ) (r : Running) (past : List Entry) (n : ℕ) → site.number ≡ n → count ≡ served plans now site.number → count' ≤ count + 1 →
      r.ended < now / site.task.period + 1 → ProgressAt site now count ran r past →
      let o = own_tick costs site.task (slice_index_or streams n []) now r in
      ProgressAt site (now + 1) count' (counted r o.task ran) o.task (past ++ option_to_list (entry_of now n r o.shown))
  site_runs site now count count' ran r past n at is one ready p =
      let ready' : r.ended * site.task.period ≤ now = (le-div_iff_mul-le site.positive).0 (omega arith) in
      let service : ℕ → ℕ = λ time. served plans time site.number in
      let inputs = slice_index_or streams site.number [] in
      let o = own_tick costs site.task inputs now r in
      let done = task_runs Timed costs site.task inputs site.behavior site.plan.total service site.frames (λ a b. served_mono plans a b site.number) now count count' site.number ran r (entries_of site.number past) is one p ready' in
      subst
      (λ k.
      let o = own_tick costs site.task (slice_index_or streams k []) now r in
      ProgressAt site (now + 1) count' (counted r o.task ran) o.task (past ++ option_to_list (entry_of now k r o.shown)))
      at
      (subst (λ l. Progress Timed costs site.task inputs site.behavior site.plan.total service site.frames (now + 1) count' (counted r o.task ran) o.task l) (sym (of_task site.number past now r o.shown)) done)

  -- a tick in which a site's task doesn't run
  site_waits : (site : Site Timed costs plans streams) (now count count' ran : ℕ) (r : Running) (past : List Entry) (entry : Option Entry) → ((e : Entry) → entry ≡ Some e → e.task ≡ site.number → ⊥) →
      (p : ProgressAt site now count ran r past) → count' ≤ p.frame * site.plan.total + ran → ProgressAt site (now + 1) count' ran r (past ++ option_to_list entry)
  site_waits site now count count' ran r past entry other p h =
      let service : ℕ → ℕ = λ time. served plans time site.number in
      let inputs = slice_index_or streams site.number [] in
      subst (λ l. Progress Timed costs site.task inputs site.behavior site.plan.total service site.frames (now + 1) count' ran r l) (sym (of_other site.number past entry other))
      (waits Timed costs site.task inputs site.behavior site.plan.total service site.frames now count count' ran r (entries_of site.number past) p h)

  -- a tick in which none of them runs
  all_wait : (sites : List (Site Timed costs plans streams)) (n now : ℕ) (counts ran : List ℕ) (rs : List Running) (past : List Entry) (entry : Option Entry) → Numbered n sites →
      ((e : Entry) → entry ≡ Some e → e.task < n) → EachProgress sites now counts ran rs past → EachProgress sites (now + 1) counts ran rs (past ++ option_to_list entry)
  all_wait [] n now [] [] [] past entry numbered other p = tt
  all_wait [] n now [] [] (r ∷ rs) past entry numbered other p = absurd p
  all_wait [] n now [] (m ∷ ran) rs past entry numbered other p = absurd p
  all_wait [] n now (c ∷ counts) ran rs past entry numbered other p = absurd p
  all_wait (site ∷ sites) n now [] ran rs past entry numbered other p = absurd p
  all_wait (site ∷ sites) n now (c ∷ counts) [] rs past entry numbered other p = absurd p
  all_wait (site ∷ sites) n now (c ∷ counts) (m ∷ ran) [] past entry numbered other p = absurd p
  all_wait (site ∷ sites) n now (c ∷ counts) (m ∷ ran) (r ∷ rs) past entry numbered other p = (
    site_waits site now c c m r past entry (λ e h same. let g = other e h in let at = numbered.0 in absurd (omega arith)) p.0 p.0.dominates,
    all_wait sites (n + 1) now counts ran rs past entry numbered.1 (λ e h. let g = other e h in omega arith) p.1,
  )

  abbrev Ticks : List (Site Timed costs plans streams) → ℕ → List Entry → List ℕ → List ℕ → Ticked → Type 0
  Ticks sites now past counts ran ticked = EachProgress sites (now + 1) counts ran ticked.tasks (past ++ option_to_list ticked.entry)

  -- the first of these tasks has the tick
  first_runs : (site : Site Timed costs plans streams) (sites : List (Site Timed costs plans streams)) (n now count count' m : ℕ) (counts ran : List ℕ) (r : Running) (rs : List Running) (past : List Entry) →
      Numbered n (site ∷ sites) → count ≡ served plans now site.number → count' ≤ count + 1 → r.ended < now / site.task.period + 1 → EachProgress (site ∷ sites) now (count ∷ counts) (m ∷ ran) (r ∷ rs) past →
      Ticks (site ∷ sites) now past (count' ∷ counts) (counted r (own_tick costs site.task (slice_index_or streams n []) now r).task m ∷ ran) (runs now n r (own_tick costs site.task (slice_index_or streams n []) now r) rs)
  first_runs site sites n now count count' m counts ran r rs past numbered is one ready p =
      let o = own_tick costs site.task (slice_index_or streams n []) now r in (
        site_runs site now count count' m r past n numbered.0 is one ready p.0,
        all_wait sites (n + 1) now counts ran rs past (entry_of now n r o.shown) numbered.1 (λ e h. let g = entry_from now n r o.shown e h in omega arith) p.1,
      )

  -- the first of these tasks doesn't have the tick
  first_waits : (site : Site Timed costs plans streams) (sites : List (Site Timed costs plans streams)) (n now count count' m : ℕ) (counts' ran' : List ℕ) (r : Running) (past : List Entry) (ticked : Ticked) →
      site.number ≡ n → IsFrom (n + 1) ticked.entry → (p : ProgressAt site now count m r past) → count' ≤ p.frame * site.plan.total + m →
      Ticks sites now past counts' ran' ticked → Ticks (site ∷ sites) now past (count' ∷ counts') (m ∷ ran') (after r ticked)
  first_waits site sites n now count count' m counts' ran' r past ticked at from p most behind = (
    site_waits site now count count' m r past ticked.entry (λ e h same. let g = from e h in absurd (omega arith)) p most,
    behind,
  )

  -- the ticks that frames have run, after a tick of the first of these tasks that is ready
  abbrev ran_then : List (Site Timed costs plans streams) → ℕ → ℕ → List Running → List ℕ → List ℕ
  ran_then sites n now rs ran = ran_on costs now (map task_of sites) streams n rs ran

  -- a tick of the machine, while the demand schedule serves none of them
  unserved_tick : (sites : List (Site Timed costs plans streams)) (n now : ℕ) (counts ran : List ℕ) (rs : List Running) (past : List Entry) → Numbered n sites → AreServed sites now counts →
      EachProgress sites now counts ran rs past → Ticks sites now past counts (ran_then sites n now rs ran) (tick_from costs now (map task_of sites) streams n rs)
  unserved_tick [] n now [] [] [] past numbered are p = tt
  unserved_tick [] n now [] [] (r ∷ rs) past numbered are p = absurd p
  unserved_tick [] n now [] (m ∷ ran) rs past numbered are p = absurd p
  unserved_tick [] n now (c ∷ counts) ran rs past numbered are p = absurd p
  unserved_tick (site ∷ sites) n now [] ran rs past numbered are p = absurd p
  unserved_tick (site ∷ sites) n now (c ∷ counts) [] rs past numbered are p = absurd p
  unserved_tick (site ∷ sites) n now (c ∷ counts) (m ∷ ran) [] past numbered are p = absurd p
  unserved_tick (site ∷ sites) n now (c ∷ counts) (m ∷ ran) (r ∷ rs) past numbered are p =
      let o = own_tick costs site.task (slice_index_or streams n []) now r in
      let others = tick_from costs now (map task_of sites) streams (n + 1) rs in
      let behind = ran_then sites (n + 1) now rs ran in
      by_test (is_ready site.task now r) (counted r o.task m ∷ ran) (m ∷ behind) (runs now n r o rs) (after r others) (Ticks (site ∷ sites) now past (c ∷ counts))
      (λ ready. first_runs site sites n now c c m counts ran r rs past numbered are.0 (omega arith) (ltb-true _ _ ready) p)
      (λ _. first_waits site sites n now c c m counts behind r past others numbered.0 (tick_is_from costs now (map task_of sites) streams (n + 1) rs) p.0 p.0.dominates
      (unserved_tick sites (n + 1) now counts ran rs past numbered.1 are.1 p.1))

  -- a tick of the machine and of the demand schedule
  pub served_tick : (sites : List (Site Timed costs plans streams)) (n now : ℕ) (counts ran : List ℕ) (rs : List Running) (past : List Entry) → Numbered n sites → AreServed sites now counts →
      EachProgress sites now counts ran rs past → Ticks sites now past (serve_highest (map plan_of sites) counts now) (ran_then sites n now rs ran) (tick_from costs now (map task_of sites) streams n rs)
  served_tick [] n now [] [] [] past numbered are p = tt
  served_tick [] n now [] [] (r ∷ rs) past numbered are p = absurd p
  served_tick [] n now [] (m ∷ ran) rs past numbered are p = absurd p
  served_tick [] n now (c ∷ counts) ran rs past numbered are p = absurd p
  served_tick (site ∷ sites) n now [] ran rs past numbered are p = absurd p
  served_tick (site ∷ sites) n now (c ∷ counts) [] rs past numbered are p = absurd p
  served_tick (site ∷ sites) n now (c ∷ counts) (m ∷ ran) [] past numbered are p = absurd p
  served_tick (site ∷ sites) n now (c ∷ counts) (m ∷ ran) (r ∷ rs) past numbered are p =
      let o = own_tick costs site.task (slice_index_or streams n []) now r in
      let others = tick_from costs now (map task_of sites) streams (n + 1) rs in
      let lower = serve_highest (map plan_of sites) counts now in
      let from = tick_is_from costs now (map task_of sites) streams (n + 1) rs in
      let own = counted r o.task m ∷ ran in
      let behind = ran_then sites (n + 1) now rs ran in
      by_test (is_ready site.task now r) own (m ∷ behind) (runs now n r o rs) (after r others)
      (Ticks (site ∷ sites) now past (cond (is_pending site.plan c now) ((c + 1) ∷ counts) (c ∷ lower)))
      (λ ready.
      let work = at_work site now c m r past p.0 (ltb-true _ _ ready) in
      cond_both (is_pending site.plan c now) ((c + 1) ∷ counts) (c ∷ lower) (λ after. Ticks (site ∷ sites) now past after own (runs now n r o rs))
      (λ _. first_runs site sites n now c (c + 1) m counts ran r rs past numbered are.0 (omega arith) (ltb-true _ _ ready) p)
      (λ idle. let none = ltb-false c (released site.plan now) idle in absurd (omega arith)))
      (λ resting.
      let rest = at_rest site now c m r past p.0 (ltb-false _ _ resting) in
      cond_both (is_pending site.plan c now) ((c + 1) ∷ counts) (c ∷ lower) (λ after'. Ticks (site ∷ sites) now past after' (m ∷ behind) (after r others))
      (λ pending. let some = ltb-true c (released site.plan now) pending in
      first_waits site sites n now c (c + 1) m counts behind r past others numbered.0 from p.0 (omega arith) (unserved_tick sites (n + 1) now counts ran rs past numbered.1 are.1 p.1))
      (λ _. first_waits site sites n now c c m lower behind r past others numbered.0 from p.0 p.0.dominates (served_tick sites (n + 1) now counts ran rs past numbered.1 are.1 p.1)))
