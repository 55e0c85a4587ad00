-- What a frame has ahead of it on the machine: its own ticks, whenever they come.
use Rattle.std.proofs.Common.{◌≡◌, ℕ, zero, suc, ◌+◌, ◌*◌, ◌<◌, ◌≤◌, Bool, true, false, cond, ℤ, List, [], ◌∷◌, refl, ap, ◌∙◌, subst, arith, Some, None}
use Rattle.std.specs.Prelude.{slice_get, nat_le, nat_lt}
use Rattle.std.proofs.lemmas.Bool.{le-ltb, lt-ltb, le-leb, lt-leb, leb-true, leb-false, cond-true, cond-false, cond_both}
use Rattle.std.proofs.lemmas.Option.{same_Some, none-some}
use Rattle.tcel_num.specs.Entry.{What}
use Rattle.tcel_core.specs.Promises.{Promise}
use Rattle.tcel_target.specs.declared.costs.Costs.{Costs}
use Rattle.tcel_image.specs.declared.image.ImageTask.{ImageTask}
use Rattle.tcel_image.specs.declared.image.Instr.{Instr}
use Rattle.tcel_image.specs.declared.image.Instr.TheVariants.{Hold}
use Rattle.tcel_image.specs.Machine.{Running, Outcome, own_tick, dispatch, cycle, cycle_of, is_last_cycle, effect}
use Rattle.tcel_image.specs.Spelling.{state_words}

-- an entry to come, when its frame has run so many ticks at most
pub record Due : Type 0 where
  pub by : ℕ
  pub promise : Promise

-- what leaves a task so, and shows nothing
abbrev pub quietly : Running → Outcome
quietly r = record { task = r; shown = None }

-- what leaves a task so, and shows this
abbrev pub showing : What → Running → Outcome
showing what r = record { task = r; shown = Some what }

-- A frame has run so many ticks, and its next one comes at a time or later. From here on it makes exactly these entries, whenever its ticks come:
-- none too early, and each before it has run more ticks than it is due by. Then it leaves its task so.
pub data Ahead (costs : Costs) (task : ImageTask) (inputs : List (List ℤ)) (last : Running) : ℕ → ℕ → Running → List Due → Type 0 where
  silent : {ran since : ℕ} {r : Running} {dues : List Due} → (to : ℕ → Running) →
      ((now : ℕ) → since ≤ now → own_tick costs task inputs now r ≡ quietly (to now)) → ((now : ℕ) → (to now).ended ≡ r.ended) →
      ((now : ℕ) → since ≤ now → Ahead costs task inputs last (suc ran) (suc now) (to now) dues) →
      Ahead costs task inputs last ran since r dues
  shows : {ran since : ℕ} {r : Running} {due : Due} {dues : List Due} → (to : Running) →
      ((now : ℕ) → own_tick costs task inputs now r ≡ showing due.promise.what to) → to.ended ≡ r.ended → due.promise.earliest ≤ suc since → ran < due.by →
      Ahead costs task inputs last (suc ran) (suc since) to dues →
      Ahead costs task inputs last ran since r (due ∷ dues)
  ends : {ran since : ℕ} {r : Running} {due : Due} →
      ((now : ℕ) → own_tick costs task inputs now r ≡ showing due.promise.what last) → due.promise.earliest ≤ suc since → ran < due.by →
      Ahead costs task inputs last ran since r (due ∷ [])

-- its next tick may come later
pub ahead_later : {costs : Costs} {task : ImageTask} {inputs : List (List ℤ)} {last : Running} {ran since : ℕ} {r : Running} {dues : List Due} →
    Ahead costs task inputs last ran since r dues → (later : ℕ) → since ≤ later → Ahead costs task inputs last ran later r dues
ahead_later (silent to step same more) later h = silent to (λ now may. step now (omega arith)) same (λ now may. more now (omega arith))
ahead_later (shows to step same early soon more) later h = shows to step same (omega arith) soon (ahead_later more (suc later) (omega arith))
ahead_later (ends step early soon) later h = ends step (omega arith) soon

-- an entry that is still to come is due by more ticks than the frame has run
pub due_later : {costs : Costs} {task : ImageTask} {inputs : List (List ℤ)} {last : Running} {ran since : ℕ} {r : Running} {dues : List Due} →
    Ahead costs task inputs last ran since r dues → (k : ℕ) (due : Due) → slice_get dues k ≡ Some due → ran < due.by
due_later {since = since} (silent to step same more) k due e = let h = due_later (more since (omega arith)) k due e in omega arith
due_later {ran = ran} (shows to step same early soon more) zero due e = subst (λ (d : Due). ran < d.by) (same_Some _ _ e) soon
due_later (shows to step same early soon more) (suc k) due e = let g = due_later more k due e in omega arith
due_later {ran = ran} (ends step early soon) zero due e = subst (λ (d : Due). ran < d.by) (same_Some _ _ e) soon
due_later (ends step early soon) (suc k) due e = absurd (none-some due e)

-- the same entries, each due by so many ticks more
abbrev pub put_off : ℕ → List Due → List Due
put_off more [] = []
put_off more (due ∷ dues) = record { by = due.by + more; promise = due.promise } ∷ put_off more dues

-- so they are where the frame has run so many ticks more, or fewer than that
pub ahead_off : {costs : Costs} {task : ImageTask} {inputs : List (List ℤ)} {last : Running} {ran since : ℕ} {r : Running} {dues : List Due} →
    Ahead costs task inputs last ran since r dues → (more later : ℕ) → later ≤ ran + more → Ahead costs task inputs last later since r (put_off more dues)
ahead_off (silent to step same on) more later h = silent to step same (λ now may. ahead_off (on now may) more (suc later) (omega arith))
ahead_off (shows to step same early soon on) more later h = shows to step same early (omega arith) (ahead_off on more (suc later) (omega arith))
ahead_off (ends step early soon) more later h = ends step early (omega arith)

-- there is always an entry to come
pub one_ahead : {costs : Costs} {task : ImageTask} {inputs : List (List ℤ)} {last : Running} {ran since : ℕ} {r : Running} {dues : List Due} →
    Ahead costs task inputs last ran since r dues → (due : Due) × (slice_get dues 0 ≡ Some due)
one_ahead {since = since} (silent to step same more) = one_ahead (more since (omega arith))
one_ahead (shows {due = due} to step same early soon more) = (due, refl)
one_ahead (ends {due = due} step early soon) = (due, refl)

-- ---- the start of a frame

-- the ticks of the frame's start are behind it
abbrev pub HasStarted : Costs → Running → Type 0
HasStarted costs r = nat_lt r.dispatched costs.dispatch ≡ false

-- the task, where it has spent so many ticks on its frame's start
abbrev pub after_ticks : ℕ → Running → Running
after_ticks dispatched r = record r { dispatched = dispatched }

pub has_started : (costs : Costs) → nat_lt costs.dispatch costs.dispatch ≡ false
has_started costs = le-ltb costs.dispatch costs.dispatch (omega arith)

module _ (costs : Costs) (task : ImageTask) (inputs : List (List ℤ)) (r : Running) where
  -- then its ticks are cycles of its instruction
  started_tick : HasStarted costs r → (now : ℕ) → own_tick costs task inputs now r ≡ cycle costs task inputs now r
  started_tick started now = cond-false _ (dispatch r) (cycle costs task inputs now r) started

  -- the ticks of its frame's start that are left are silent
  dispatches : (last : Running) (dues : List Due) (left dispatched ran since : ℕ) → dispatched + left ≡ costs.dispatch →
      Ahead costs task inputs last (ran + left) (since + left) (after_ticks costs.dispatch r) dues → Ahead costs task inputs last ran since (after_ticks dispatched r) dues
  dispatches last dues zero dispatched ran since e ahead =
      let same : ran + 0 ≡ ran = omega arith in
      let then' : since + 0 ≡ since = omega arith in
      let there : costs.dispatch ≡ dispatched = omega arith in
      subst (λ n. Ahead costs task inputs last ran since (after_ticks n r) dues) there
      (subst (λ n. Ahead costs task inputs last n since (after_ticks costs.dispatch r) dues) same
      (subst (λ n. Ahead costs task inputs last (ran + 0) n (after_ticks costs.dispatch r) dues) then' ahead))
  dispatches last dues (suc left) dispatched ran since e ahead =
      let on : ran + suc left ≡ suc ran + left = omega arith in
      silent (λ _. after_ticks (dispatched + 1) r)
      (λ now may. cond-true _ (dispatch (after_ticks dispatched r)) (cycle costs task inputs now (after_ticks dispatched r)) (lt-ltb dispatched costs.dispatch (omega arith)))
      (λ now. refl)
      (λ now may.
      dispatches last dues left (dispatched + 1) (suc ran) (suc now) (omega arith)
      (subst (λ n. Ahead costs task inputs last n (suc now + left) (after_ticks costs.dispatch r) dues) on (ahead_later ahead (suc now + left) (omega arith))))

  -- so are all of them
  pub begins : (last : Running) (dues : List Due) (since : ℕ) →
      Ahead costs task inputs last costs.dispatch (since + costs.dispatch) (after_ticks costs.dispatch r) dues → Ahead costs task inputs last 0 since (after_ticks 0 r) dues
  begins last dues since ahead =
      let all : costs.dispatch ≡ 0 + costs.dispatch = omega arith in
      dispatches last dues costs.dispatch 0 0 since (omega arith)
      (subst (λ n. Ahead costs task inputs last n (since + costs.dispatch) (after_ticks costs.dispatch r) dues) all ahead)

-- ---- one instruction, that isn't a hold

-- the task, where it has spent so many cycles on its instruction
abbrev pub after_cycles : ℕ → Running → Running
after_cycles spent r = record r { spent = spent }

-- the task is at this instruction, which takes so many cycles and one more
pub record IsAt (costs : Costs) (task : ImageTask) (instr : Instr) (more : ℕ) (r : Running) : Type 0 where
  pub started : HasStarted costs r
  pub depth : ℕ
  pub here : slice_get task.code r.place ≡ Some (record { instr = instr; depth = depth })
  pub lasts : (now spent : ℕ) → is_last_cycle costs task.period now instr (after_cycles spent r) ≡ nat_le (suc more) (spent + 1)

module _ (costs : Costs) (task : ImageTask) (inputs : List (List ℤ)) (instr : Instr) (more : ℕ) (r : Running) (is : IsAt costs task instr more r) where
  cycle_before : (now spent : ℕ) → spent < more → own_tick costs task inputs now (after_cycles spent r) ≡ quietly (after_cycles (spent + 1) r)
  cycle_before now spent h =
      started_tick costs task inputs (after_cycles spent r) is.started now
      ∙ ap (λ o. cycle_of costs task inputs now o (after_cycles spent r)) is.here
      ∙ cond-false _ _ _ (is.lasts now spent ∙ lt-leb (suc more) (spent + 1) (omega arith))

  cycle_last : (now : ℕ) → own_tick costs task inputs now (after_cycles more r) ≡ effect (state_words task.states) inputs instr (after_cycles more r)
  cycle_last now =
      started_tick costs task inputs (after_cycles more r) is.started now
      ∙ ap (λ o. cycle_of costs task inputs now o (after_cycles more r)) is.here
      ∙ cond-true _ _ _ (is.lasts now more ∙ le-leb (suc more) (more + 1) (omega arith))

  -- its cycles before the last
  waits : (last : Running) (dues : List Due) (left spent ran since : ℕ) → spent + left ≡ more →
      Ahead costs task inputs last (ran + left) (since + left) (after_cycles more r) dues → Ahead costs task inputs last ran since (after_cycles spent r) dues
  waits last dues zero spent ran since e ahead =
      let same : ran + 0 ≡ ran = omega arith in
      let then' : since + 0 ≡ since = omega arith in
      let there : more ≡ spent = omega arith in
      subst (λ n. Ahead costs task inputs last ran since (after_cycles n r) dues) there
      (subst (λ n. Ahead costs task inputs last n since (after_cycles more r) dues) same
      (subst (λ n. Ahead costs task inputs last (ran + 0) n (after_cycles more r) dues) then' ahead))
  waits last dues (suc left) spent ran since e ahead =
      let on : ran + suc left ≡ suc ran + left = omega arith in
      silent (λ _. after_cycles (spent + 1) r) (λ now may. cycle_before now spent (omega arith)) (λ now. refl)
      (λ now may.
      waits last dues left (spent + 1) (suc ran) (suc now) (omega arith)
      (subst (λ n. Ahead costs task inputs last n (suc now + left) (after_cycles more r) dues) on (ahead_later ahead (suc now + left) (omega arith))))

  -- it shows nothing
  pub passes : (last to : Running) (dues : List Due) (ran since : ℕ) →
      effect (state_words task.states) inputs instr (after_cycles more r) ≡ quietly to → to.ended ≡ r.ended →
      Ahead costs task inputs last (ran + suc more) (since + suc more) to dues → Ahead costs task inputs last ran since (after_cycles 0 r) dues
  passes last to dues ran since does same ahead =
      let on : ran + suc more ≡ suc (ran + more) = omega arith in
      waits last dues more 0 ran since (omega arith)
      (silent (λ _. to) (λ now may. cycle_last now ∙ does) (λ now. same)
      (λ now may. subst (λ n. Ahead costs task inputs last n (suc now) to dues) on (ahead_later ahead (suc now) (omega arith))))

  -- it makes an entry
  pub makes : (last to : Running) (due : Due) (dues : List Due) (ran since : ℕ) →
      effect (state_words task.states) inputs instr (after_cycles more r) ≡ showing due.promise.what to → to.ended ≡ r.ended →
      due.promise.earliest ≤ suc since → ran + suc more ≤ due.by →
      Ahead costs task inputs last (ran + suc more) (since + suc more) to dues → Ahead costs task inputs last ran since (after_cycles 0 r) (due ∷ dues)
  makes last to due dues ran since does same early soon ahead =
      let on : ran + suc more ≡ suc (ran + more) = omega arith in
      let then' : since + suc more ≡ suc (since + more) = omega arith in
      waits last (due ∷ dues) more 0 ran since (omega arith)
      (shows to (λ now. cycle_last now ∙ does) same (omega arith) (omega arith)
      (subst (λ n. Ahead costs task inputs last n (suc (since + more)) to dues) on (subst (λ n. Ahead costs task inputs last (ran + suc more) n to dues) then' ahead)))

  -- it makes the frame's last entry
  pub makes_last : (last : Running) (due : Due) (ran since : ℕ) →
      effect (state_words task.states) inputs instr (after_cycles more r) ≡ showing due.promise.what last →
      due.promise.earliest ≤ suc since → ran + suc more ≤ due.by → Ahead costs task inputs last ran since (after_cycles 0 r) (due ∷ [])
  makes_last last due ran since does early soon =
      waits last (due ∷ []) more 0 ran since (omega arith) (ends (λ now. cycle_last now ∙ does) (omega arith) (omega arith))

-- ---- a hold

quietly-cond : (b : Bool) (x y : Running) → cond b (quietly x) (quietly y) ≡ quietly (cond b x y)
quietly-cond true x y = refl
quietly-cond false x y = refl

-- on to the next instruction
abbrev pub next_place : Running → Running
next_place r = record r { place = r.place + 1; spent = 0 }

module _ (costs : Costs) (task : ImageTask) (inputs : List (List ℤ)) (bound depth : ℕ) (r : Running) (started : HasStarted costs r) (here : slice_get task.code r.place ≡ Some (record { instr = Hold bound; depth = depth })) where
  -- whether a cycle is the hold's last
  abbrev ends_now : ℕ → Bool
  ends_now now = nat_le (r.ended * task.period + bound) (now + 1)

  abbrev held_on : ℕ → ℕ → Running
  held_on spent now = cond (ends_now now) (next_place r) (after_cycles (spent + 1) r)

  cycle_held : (spent now : ℕ) → own_tick costs task inputs now (after_cycles spent r) ≡ quietly (held_on spent now)
  cycle_held spent now =
      started_tick costs task inputs (after_cycles spent r) started now
      ∙ ap (λ o. cycle_of costs task inputs now o (after_cycles spent r)) here
      ∙ quietly-cond (ends_now now) (next_place r) (after_cycles (spent + 1) r)

  -- a frame that has run as long as since its release at most goes on when the time of the hold has come, having run one tick more or as many as the hold's bound
  pub holds_on : (last : Running) (dues : List Due) (most floor : ℕ) → bound ≤ most →
      ((ran since : ℕ) → ran ≤ most → r.ended * task.period + ran ≤ since → r.ended * task.period + bound ≤ since → floor ≤ since → Ahead costs task inputs last ran since (next_place r) dues) →
      (fuel spent ran since : ℕ) → suc ran ≤ most → r.ended * task.period + ran ≤ since → r.ended * task.period + bound ≤ since + fuel → floor ≤ since →
      Ahead costs task inputs last ran since (after_cycles spent r) dues
  holds_on last dues most floor enough then' zero spent ran since less waited long low =
      silent (held_on spent) (λ now may. cycle_held spent now)
      (λ now. cond_both (ends_now now) (next_place r) (after_cycles (spent + 1) r) (λ s. s.ended ≡ r.ended) (λ _. refl) (λ _. refl))
      (λ now may.
      cond_both (ends_now now) (next_place r) (after_cycles (spent + 1) r) (λ s. Ahead costs task inputs last (suc ran) (suc now) s dues)
      (λ over. then' (suc ran) (suc now) less (omega arith) (omega arith) (omega arith))
      (λ early. let not_yet = leb-false _ _ early in absurd (omega arith)))
  holds_on last dues most floor enough then' (suc fuel) spent ran since less waited long low =
      silent (held_on spent) (λ now may. cycle_held spent now)
      (λ now. cond_both (ends_now now) (next_place r) (after_cycles (spent + 1) r) (λ s. s.ended ≡ r.ended) (λ _. refl) (λ _. refl))
      (λ now may.
      cond_both (ends_now now) (next_place r) (after_cycles (spent + 1) r) (λ s. Ahead costs task inputs last (suc ran) (suc now) s dues)
      (λ over. let yet = leb-true _ _ over in then' (suc ran) (suc now) less (omega arith) (omega arith) (omega arith))
      (λ early.
      let not_yet = leb-false _ _ early in
      holds_on last dues most floor enough then' fuel (spent + 1) (suc ran) (suc now) (omega arith) (omega arith) (omega arith) (omega arith)))
