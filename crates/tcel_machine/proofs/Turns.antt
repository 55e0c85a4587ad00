-- The turn of a task: where it is found, and what ends it.
use Rattle.std.proofs.Common.{◌≡◌, ℕ, ℤ, zero, suc, ◌+◌, ◌*◌, ◌/◌, ◌<◌, ◌≤◌, min, Bool, true, false, ltb, leb, if◌then◌else◌, ⊎_elim, List, [], ◌∷◌, length, set, map, Option, Some, None, refl, ap, sym, ◌∙◌, subst, arith}
use Rattle.std.specs.List.{slice_get}
use Rattle.std.specs.Option.{option_map, option_map_or}
use Rattle.std.proofs.lemmas.List.{length-map}
use Rattle.std.proofs.lemmas.Bool.{cases_lt, lt-leb, le-leb, true≢false}
use Rattle.std.proofs.lemmas.Option.{same_Some}
use Rattle.tcel_num.specs.Entry as plain
use Rattle.tcel_target.specs.declared.costs.Costs.{Costs}
use Rattle.tcel_image.specs.declared.image.ImageTask.{ImageTask}
use Rattle.tcel_image.specs.declared.image.Instr.{Instr}
use Rattle.tcel_image.specs.declared.image.Instr.TheVariants.{Const, Get, Put, GetAt, PutAt, Arith, Jump, Branch, Loop, Receive, Send, Hold, Copy, Mark, End}
use Rattle.tcel_image.specs.declared.image.Line.{Line}
use Rattle.tcel_image.specs.Machine.{Running, Outcome, effect, spend, dispatch, is_last_cycle, is_ready, cycle_of, own_tick}
use Rattle.tcel_image.specs.Spelling.{state_words}
use Rattle.tcel_machine.specs.declared.entry.What.{What}
use Rattle.tcel_machine.specs.declared.entry.What.TheVariants as shown
use Rattle.tcel_machine.specs.declared.task.Task.{Task}
use Rattle.tcel_machine.specs.declared.turn.Turn.{Turn}
use Rattle.tcel_machine.specs.Runs.{ready_at, IsFirstReady}
use Rattle.tcel_machine.specs.Seen.{seen}
use Rattle.tcel_machine.specs.Task.{running_of, state_of, Shows}
use Rattle.tcel_machine.specs.Turns.{IsTurn, AreReadyAlike, is_end}
use Rattle.tcel_machine.proofs.Ready.{released, ready_is, past_ready}

-- ---- where a turn is found

-- a task is ready from the release of its frame on
pub ready_from : (tasks : List ImageTask) (time : ℕ) (runs : List Task) (number : ℕ) (task : ImageTask) (run : Task) → 0 < task.period
    → slice_get tasks number ≡ Some task → slice_get runs number ≡ Some run
    → ready_at tasks time (map running_of runs) number ≡ leb (run.ended * task.period) time
ready_from tasks time runs number task run some t r = ready_is tasks time runs number task run t r ∙ sym (released run.ended task.period time some)

-- none of the first so many tasks is ready before this time
abbrev pub NoneBefore : List ImageTask → List Running → ℕ → ℕ → Type 0
NoneBefore tasks runs count until = (other time : ℕ) → other < count → time < until → ready_at tasks time runs other ≡ false

-- one task more, which is released at this time
pub none_with : (tasks : List ImageTask) (runs : List Running) (place until release : ℕ) → NoneBefore tasks runs place until
    → ((time : ℕ) → ready_at tasks time runs place ≡ leb release time) → NoneBefore tasks runs (place + 1) (min until release)
none_with tasks runs place until release before here other time lt early =
    ⊎_elim
    (λ less. before other time less (omega arith))
    (λ more.
    let same : place ≡ other = omega arith in
    subst (λ k. ready_at tasks time runs k ≡ false) same (here time ∙ lt-leb release time (omega arith)))
    (cases_lt other place)

-- none of them is
pub none_at_all : (tasks : List ImageTask) (now : ℕ) (runs : List Task) (place until : ℕ) → NoneBefore tasks (map running_of runs) place until
    → length runs ≤ place → IsTurn tasks now (map running_of runs) (record { first = None; until = until })
none_at_all tasks now runs place until before past =
    record {
      first = λ time from early other.
          ⊎_elim
          (λ less. before other time less early)
          (λ (more : place ≤ other). let h : length runs ≤ other = omega arith in past_ready tasks time (map running_of runs) other (simp length-map h))
          (cases_lt other place);
    }

-- the first of them is the task behind these
pub first_of : (tasks : List ImageTask) (now : ℕ) (runs : List Running) (place until release : ℕ) → NoneBefore tasks runs place until
    → ((time : ℕ) → ready_at tasks time runs place ≡ leb release time) → release ≤ now → IsTurn tasks now runs (record { first = Some place; until = until })
first_of tasks now runs place until release before here early =
    record { first = λ time from later. (here time ∙ le-leb release time (omega arith), λ other lt. before other time lt later) }

-- ---- what ends a turn

-- the next tick's turn is this one's
pub next_turn : (tasks : List ImageTask) (now : ℕ) (runs : List Running) (turn : Turn) → IsTurn tasks now runs turn → IsTurn tasks (now + 1) runs turn
next_turn tasks now runs turn h = record { first = λ time from early. h.first time (omega arith) early }

like_first : (tasks : List ImageTask) (time : ℕ) (old new : List Running) (first : Option ℕ)
    → ((number : ℕ) → ready_at tasks time new number ≡ ready_at tasks time old number) → IsFirstReady tasks time old first → IsFirstReady tasks time new first
like_first tasks time old new None alike h = λ number. alike number ∙ h number
like_first tasks time old new (Some place) alike h = (alike place ∙ h.0, λ other lt. alike other ∙ h.1 other lt)

-- the turn after a tick: nothing is known where it ended a frame, and else what was known stays known
pub turn_after : (tasks : List ImageTask) (now : ℕ) (old new : List Task) (turn after : Turn) (ended : Bool) → (ended ≡ false → AreReadyAlike tasks old new)
    → IsTurn tasks now (map running_of old) turn → after.first ≡ turn.first → after.until ≡ (if ended then 0 else turn.until)
    → IsTurn tasks (now + 1) (map running_of new) after
turn_after tasks now old new turn after true alike h first until = record { first = λ time from early. absurd (omega (arith, until, early)) }
turn_after tasks now old new turn after false alike h first until =
    record {
      first = λ time from early.
          let was = h.first time (omega arith) (omega (arith, until, early)) in
          subst (λ (first : Option ℕ). IsFirstReady tasks time (map running_of new) first) (sym first)
          (like_first tasks time (map running_of old) (map running_of new) turn.first ((alike refl).same time) was);
    }

ready_one : (task : ImageTask) (time : ℕ) (runs : List Task) (place : ℕ) (old new : Task) (number : ℕ)
    → slice_get runs place ≡ Some old → new.ended ≡ old.ended
    → option_map_or (λ running. is_ready task time running) (slice_get (map running_of (set runs place new)) number) false
    ≡ option_map_or (λ running. is_ready task time running) (slice_get (map running_of runs) number) false
ready_one task time [] place old new number was same = refl
ready_one task time (run ∷ runs) zero old new zero was same =
    ap (λ ended. ltb ended (time / task.period + 1)) (same ∙ ap (λ (t : Task). t.ended) (sym (same_Some run old was)))
ready_one task time (run ∷ runs) zero old new (suc number) was same = refl
ready_one task time (run ∷ runs) (suc place) old new zero was same = refl
ready_one task time (run ∷ runs) (suc place) old new (suc number) was same = ready_one task time runs place old new number was same

on_each : (found : Option ImageTask) (f g : ImageTask → Bool) → ((task : ImageTask) → f task ≡ g task)
    → option_map_or f found false ≡ option_map_or g found false
on_each None f g h = refl
on_each (Some task) f g h = h task

-- where a task ended no frame, all are ready as before
alike : (tasks : List ImageTask) (runs : List Task) (place : ℕ) (old new : Task) → slice_get runs place ≡ Some old
    → new.ended ≡ old.ended → AreReadyAlike tasks runs (set runs place new)
alike tasks runs place old new was same =
    record {
      same = λ time number.
          on_each (slice_get tasks number)
          (λ task. option_map_or (λ running. is_ready task time running) (slice_get (map running_of (set runs place new)) number) false)
          (λ task. option_map_or (λ running. is_ready task time running) (slice_get (map running_of runs) number) false)
          (λ task. ready_one task time runs place old new number was same);
    }

-- ---- which ticks end a frame

abbrev shows_end : Option plain.What → Bool
shows_end None = false
shows_end (Some (plain.receive port value)) = false
shows_end (Some (plain.send port value)) = false
shows_end (Some plain.first) = false
shows_end (Some (plain.end state)) = true

-- a task that shows no end has ended as many frames as before
abbrev KeepsEnded : Running → Outcome → Type 0
KeepsEnded old outcome = shows_end outcome.shown ≡ false → outcome.task.ended ≡ old.ended

effect_keeps : (words : ℕ) (inputs : List (List ℤ)) (instr : Instr) (r : Running) → KeepsEnded r (effect words inputs instr r)
effect_keeps words inputs (Const value) r silent = refl
effect_keeps words inputs (Get cell) r silent = refl
effect_keeps words inputs (Put cell) r silent = refl
effect_keeps words inputs (GetAt from size) r silent = refl
effect_keeps words inputs (PutAt from size) r silent = refl
effect_keeps words inputs (Arith op) r silent = refl
effect_keeps words inputs (Jump target) r silent = refl
effect_keeps words inputs (Branch target) r silent = refl
effect_keeps words inputs (Loop cell turns target) r silent = refl
effect_keeps words inputs (Receive port cell) r silent = refl
effect_keeps words inputs (Send port) r silent = refl
effect_keeps words inputs (Hold bound) r silent = refl
effect_keeps words inputs (Copy from to size) r silent = refl
effect_keeps words inputs Mark r silent = refl
effect_keeps words inputs End r silent = absurd (true≢false silent)

choice_keeps : (old : Running) (test : Bool) (x y : Outcome) → KeepsEnded old x → KeepsEnded old y → KeepsEnded old (if test then x else y)
choice_keeps old true x y h k = h
choice_keeps old false x y h k = k

cycle_keeps : (costs : Costs) (task : ImageTask) (inputs : List (List ℤ)) (now : ℕ) (line : Option Line) (r : Running)
    → KeepsEnded r (cycle_of costs task inputs now line r)
cycle_keeps costs task inputs now None r = λ silent. refl
cycle_keeps costs task inputs now (Some line) r =
    choice_keeps r (is_last_cycle costs task.period now line.instr r) (effect (state_words task.states) inputs line.instr r) (spend r)
    (effect_keeps (state_words task.states) inputs line.instr r)
    (λ silent. refl)

tick_keeps : (costs : Costs) (task : ImageTask) (inputs : List (List ℤ)) (now : ℕ) (r : Running) → KeepsEnded r (own_tick costs task inputs now r)
tick_keeps costs task inputs now r =
    choice_keeps r (ltb r.dispatched costs.dispatch) (dispatch r) (cycle_of costs task inputs now (slice_get task.code r.place) r) (λ silent. refl)
    (cycle_keeps costs task inputs now (slice_get task.code r.place) r)

abbrev pub is_end_what : Option What → Bool
is_end_what None = false
is_end_what (Some what) = is_end what

end_is : (state : List ℤ) (found : Option What) → shows_end (option_map (seen state) found) ≡ is_end_what found
end_is state None = refl
end_is state (Some (shown.Receive port value)) = refl
end_is state (Some (shown.Send port value)) = refl
end_is state (Some shown.First) = refl
end_is state (Some shown.End) = refl

-- a tick of a task that shows no end leaves all tasks ready as before
pub stays_alike : (costs : Costs) (task : ImageTask) (inputs : List (List ℤ)) (now : ℕ) (tasks : List ImageTask) (runs : List Task) (place : ℕ) (old new : Task)
    (found : Option What) → slice_get runs place ≡ Some old → running_of new ≡ (own_tick costs task inputs now (running_of old)).task
    → Shows found new (own_tick costs task inputs now (running_of old)).shown → is_end_what found ≡ false → AreReadyAlike tasks runs (set runs place new)
stays_alike costs task inputs now tasks runs place old new found was became shows silent =
    alike tasks runs place old new was
    (ap (λ (r : Running). r.ended) became
    ∙ tick_keeps costs task inputs now (running_of old) (ap shows_end (sym shows) ∙ end_is (state_of new) found ∙ silent))
