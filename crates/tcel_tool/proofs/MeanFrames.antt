-- The frames of a task, one after another, as the evaluator leaves them.
use Rattle.std.proofs.Common.{◌≡◌, ℕ, ◌+◌, ◌-◌, ◌<◌, ◌≤◌, suc, ℤ, pos, List, [], ◌∷◌, ◌++◌, length, length-append, get_or, map, All, take, replicate, Option, Some, None, refl, sym, ap, ◌∙◌, subst, arith}
use Rattle.std.specs.Prelude.{IsSome, codes}
use Rattle.std.specs.List.{AllByRecursion, cons_option, filter_map}
use Rattle.std.proofs.lemmas.Bool.{true≢false}
use Rattle.std.proofs.lemmas.List.{append_assoc, get_or-map, length-map, length-replicate, take-append-le, take_all}
use Rattle.std.proofs.lemmas.List.Elements.{All-get_or, recursion_from_All}
use Rattle.tcel_check.proofs.InScope.{tasks_in_scope}
use Rattle.tcel_code.specs.Layout.{states_of}
use Rattle.tcel_core.proofs.StateWords.{length-state_of, states_within}
use Rattle.tcel_core.specs.declared.event.Event.{Event}
use Rattle.tcel_core.specs.declared.set.CoreTask.{CoreTask}
use Rattle.tcel_core.specs.declared.var.Var.{Var}
use Rattle.tcel_core.specs.Cells.{all_words}
use Rattle.tcel_core.specs.Evaluation.{IsFrame}
use Rattle.tcel_core.specs.Frames.{Frame, frame_of, shown, start_cells, start_of, state_of, state_words}
use Rattle.tcel_core.specs.Language.{Task}
use Rattle.tcel_core.specs.Meaning.{exec}
use Rattle.tcel_core.specs.Outcome.{Memory}
use Rattle.tcel_core.specs.Plain.{plain_task}
use Rattle.tcel_core.specs.Scope.{Fits}
use Rattle.tcel_core.specs.Sound.{IsDeclared, IsSoundTask}
use Rattle.tcel_image.specs.TraceText.{states_text}
use Rattle.tcel_tool.specs.MeanText.{end_line, frame_text, head_text, task_text}
use Rattle.tcel_tool.proofs.StateTexts.{states_of_all}

-- ---- what the evaluator asks of a task

named_length : (vars : List Var) → AllByRecursion IsDeclared vars → length vars ≡ length (filter_map (λ (v : Var). v.name) vars)
named_length [] h = refl
named_length (x ∷ xs) h = one_more x.name h.0.named (named_length xs h.1)
  where
    one_more : (o : Option (List ℕ)) → IsSome o → length xs ≡ length (filter_map (λ (v : Var). v.name) xs) → length (x ∷ xs) ≡ length (cons_option o (filter_map (λ (v : Var). v.name) xs))
    one_more None some less = absurd (true≢false (sym some))
    one_more (Some name) some less = omega arith

-- a sound task has few variables and words, and its body fits them
pub record Runs (task : Task) : Type 0 where
  pub few : length task.vars ≤ 256
  pub fits : Fits task.body task.vars
  pub words : all_words task.vars ≤ 4096

pub sound_tasks_run : (task : Task) → IsSoundTask task → Runs task
sound_tasks_run task sound =
    let same = named_length task.vars (recursion_from_All IsDeclared task.vars sound.declarations.variables) in
    let both = length-append (filter_map (λ (v : Var). v.name) task.vars) (task.inputs ++ task.outputs) in
    let most = sound.declarations.most in
    record { few = omega arith; fits = (tasks_in_scope task sound).body; words = sound.declarations.words }

-- ---- a frame

-- the words with which the next frame starts keep the state
kept_state : (vars : List Var) (left cells : List ℤ) → cells ≡ start_cells vars (state_of vars left) → length cells ≡ all_words vars → state_of vars cells ≡ state_of vars left
kept_state vars left cells is long =
    let n = state_words vars in
    let zeros = replicate (all_words vars - n) (pos 0) in
    let whole : length (take n left) ≡ n =
    omega (arith, long, ap length is, length-append (take n left) zeros, length-replicate {A = ℤ} (all_words vars - n) (pos 0), states_within vars) in
    ap (take n) is ∙ take-append-le n (take n left) zeros (omega arith) ∙ take_all n (take n left) (omega arith)

-- a frame ran from its start: what it showed, and the start of the next one
pub record Ran (task : Task) (streams : List (List ℤ)) (n : ℕ) (cells : List ℤ) (inputs : List (List ℤ)) (events : List Event) : Type 0 where
  pub start : record { cells = cells; inputs = inputs } ≡ start_of task streams (n + 1)
  pub shows : record { events = events; state = state_of task.vars cells } ≡ frame_of task streams n

abbrev pub frame_with : List Event → List ℤ → Frame
frame_with events state = record { events = events; state = state }

pub frame_ran : (task : Task) (streams : List (List ℤ)) (n : ℕ) (m : Memory) (cells : List ℤ) (inputs : List (List ℤ)) (events : List Event) → m ≡ start_of task streams n →
    IsFrame task [] (exec task.body task.vars m) cells inputs events → length cells ≡ all_words task.vars → Ran task streams n cells inputs events
frame_ran task streams n m cells inputs events is ran long =
    let r = exec task.body task.vars m in
    let next : n + 1 ≡ suc n = omega arith in
    let state = kept_state task.vars r.memory.cells cells (ap (λ (k : Memory). k.cells) ran.next) long in
    record {
      start =
          ran.next ∙ ap (λ (k : Memory). start_after k) is ∙ ap (start_of task streams) (sym next);
      shows =
          ap (λ es. frame_with es (state_of task.vars cells)) ran.shows ∙ ap (frame_with (shown task.deadline task.vars r).events) state
          ∙ ap (λ (k : Memory). shown task.deadline task.vars (exec task.body task.vars k)) is;
    }
  where
    start_after : Memory → Memory
    start_after k = record { cells = start_cells task.vars (state_of task.vars (exec task.body task.vars k).memory.cells); inputs = (exec task.body task.vars k).memory.inputs }

-- the text of one frame more
pub task_next : (task : Task) (streams : List (List ℤ)) (n : ℕ) (frame : Frame) → frame ≡ frame_of task streams n → task_text task streams (n + 1) ≡ task_text task streams n ++ frame_text task n frame
task_next task streams n frame is =
    let next : n + 1 ≡ suc n = omega arith in
    ap (task_text task streams) next ∙ ap (λ (f : Frame). task_text task streams n ++ frame_text task n f) (sym is)

-- one frame more was written
pub frame_written : (task : Task) (streams : List (List ℤ)) (n : ℕ) (frame : Frame) (old before new : List ℕ) → frame ≡ frame_of task streams n → before ≡ old ++ task_text task streams n → new ≡ before ++ frame_text task n frame →
    new ≡ old ++ task_text task streams (n + 1)
frame_written task streams n frame old before new is e f =
    f ∙ ap (λ t. t ++ frame_text task n frame) e ∙ append_assoc old (task_text task streams n) (frame_text task n frame)
    ∙ ap (λ t. old ++ t) (sym (task_next task streams n frame is))

-- ---- the end of a frame

-- its line was written, with the text of all words, which is that of the state
pub end_written : (task : Task) (n : ℕ) (cells : List ℤ) (vars : List Var) (old one two three new : List ℕ) → vars ≡ task.vars → length cells ≡ all_words task.vars → one ≡ old ++ head_text task.name n →
    two ≡ one ++ codes "end" → three ≡ two ++ states_text (states_of vars) cells → new ≡ three ++ codes "\n" → new ≡ old ++ end_line task n (state_of task.vars cells)
end_written task n cells vars old one two three new same long e f g h =
    let head = head_text task.name n in
    let shown = states_of_all task.vars cells (omega (arith, length-state_of task.vars cells long)) in
    let state = states_text (states_of task.vars) (state_of task.vars cells) in
    let text : three ≡ two ++ state = g ∙ ap (λ vs. two ++ states_text (states_of vs) cells) same ∙ ap (λ t. two ++ t) shown in
    h ∙ ap (λ t. t ++ codes "\n") (text ∙ ap (λ t. t ++ state) (f ∙ ap (λ t. t ++ codes "end") e)) ∙ append_assoc ((old ++ head) ++ codes "end") state (codes "\n")
    ∙ append_assoc (old ++ head) (codes "end") (state ++ codes "\n") ∙ append_assoc old head (codes "end" ++ (state ++ codes "\n"))

-- ---- the tasks of a set

pub sound_at : (tasks : List CoreTask) (i : ℕ) (t : CoreTask) → i < length tasks → t ≡ get_or tasks i t → All IsSoundTask (map plain_task tasks) → IsSoundTask (plain_task t)
sound_at tasks i t within is each =
    let there : i < length (map plain_task tasks) = omega (arith, length-map tasks plain_task) in
    let found = All-get_or IsSoundTask (map plain_task tasks) i (plain_task t) there each in
    subst IsSoundTask (get_or-map plain_task tasks i t (plain_task t) within ∙ ap plain_task (sym is)) found
