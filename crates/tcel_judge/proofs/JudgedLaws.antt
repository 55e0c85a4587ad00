-- The two laws of what is accepted, over tasks and their streams.
use Rattle.std.proofs.Common.{◌≡◌, ℕ, ℤ, List, [], ◌∷◌, length, map, refl, sym, ap, ◌∙◌, subst}
use Rattle.std.specs.Prelude.{◌≢◌, AllPairs}
use Rattle.std.specs.List.{AllZip}
use Rattle.std.proofs.lemmas.List.{length-map}
use Rattle.tcel_num.specs.Plan.{Plan}
use Rattle.tcel_core.specs.Language.{Task}
use Rattle.tcel_core.specs.Meets.{Shows, behaviors_of}
use Rattle.tcel_core.specs.Promises.{behavior_of}
use Rattle.tcel_trace.specs.declared.trace_line.TraceLine.{TraceLine}
use Rattle.tcel_judge.specs.declared.verdict.Verdict.TheVariants.{Yes}
use Rattle.tcel_judge.specs.FirstBreach.{Judged, judged_of, Says, accepted}
use Rattle.tcel_judge.specs.JudgedTraces.{IsLineOf, Show, IsPlanned}
use Rattle.tcel_judge.specs.Laws.{IsYesOnlyWhereMet, IsYesWhereMet}
use Rattle.tcel_judge.proofs.AcceptedTraces.{accepted_meets}
use Rattle.tcel_judge.proofs.EntryLines.{tasks_of}
use Rattle.tcel_judge.proofs.JudgedTraces.{does_of, met_is_accepted}
use Rattle.tcel_judge.proofs.NamedTasks.{names}

abbrev name_of : Task → List ℕ
name_of task = task.name

-- a task of the set with some streams
abbrev with_streams : Task → List (List ℤ) → Judged
with_streams task s = record { task = task; does = behavior_of task s }

judged_tasks : (set : List Task) (streams : List (List (List ℤ))) → tasks_of (judged_of set streams) ≡ set
judged_tasks [] streams = refl
judged_tasks (task ∷ set) [] = ap (λ l. task ∷ l) (judged_tasks set [])
judged_tasks (task ∷ set) (s ∷ streams) = ap (λ l. task ∷ l) (judged_tasks set streams)

judged_does : (set : List Task) (streams : List (List (List ℤ))) → does_of (judged_of set streams) ≡ behaviors_of set streams
judged_does [] streams = refl
judged_does (task ∷ set) [] = ap (λ l. behavior_of task [] ∷ l) (judged_does set [])
judged_does (task ∷ set) (s ∷ streams) = ap (λ l. behavior_of task s ∷ l) (judged_does set streams)

judged_names : (set : List Task) (streams : List (List (List ℤ))) → names (judged_of set streams) ≡ map name_of set
judged_names [] streams = refl
judged_names (task ∷ set) [] = ap (λ l. task.name ∷ l) (judged_names set [])
judged_names (task ∷ set) (s ∷ streams) = ap (λ l. task.name ∷ l) (judged_names set streams)

module _ (set : List Task) (plans : List Plan) (streams : List (List (List ℤ))) (ticks : ℕ) (lines : List TraceLine) (planned : IsPlanned set plans) where
  abbrev judged : List Judged
  judged = judged_of set streams

  apart : AllPairs ◌≢◌ (names judged)
  apart = subst (AllPairs ◌≢◌) (sym (judged_names set streams)) planned.apart

  each : length plans ≡ length judged
  each = planned.each ∙ ap length (sym (judged_tasks set streams)) ∙ length-map judged (λ (j : Judged). j.task)

  only : Says judged plans ticks lines Yes → Show set plans streams ticks lines
  only (accepted right whole) =
      let made = accepted_meets judged apart plans each ticks lines right whole in
      record {
        trace = made.trace;
        shown = subst (λ tasks. AllZip (IsLineOf tasks) made.trace lines) (judged_tasks set streams) made.are;
        meets = subst (λ does. Shows does plans ticks made.trace) (judged_does set streams) made.shows;
      }

  met : Show set plans streams ticks lines → Says judged plans ticks lines Yes
  met shown =
      met_is_accepted judged apart plans each ticks shown.trace lines
      (subst (λ does. Shows does plans ticks shown.trace) (sym (judged_does set streams)) shown.meets)
      (subst (λ tasks. AllZip (IsLineOf tasks) shown.trace lines) (sym (judged_tasks set streams)) shown.shown)

pub only_where_met : IsYesOnlyWhereMet
only_where_met set plans streams ticks lines planned says = only set plans streams ticks lines planned says

pub where_met : IsYesWhereMet
where_met set plans streams ticks lines planned shown = met set plans streams ticks lines planned shown
