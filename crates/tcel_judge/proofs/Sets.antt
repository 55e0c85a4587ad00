-- The courses of a set before any line, and what is known of its tasks.
use Rattle.std.proofs.Common.{◌≡◌, ◌≢◌, ℕ, ◌+◌, ◌<◌, ◌≤◌, List, [], ◌∷◌, ◌++◌, length, get_or, map, All, Option, None, Some, drop, refl, sym, ap, ◌∙◌, subst, arith}
use Rattle.std.specs.Prelude.{AllPairs, slice_index_or}
use Rattle.std.proofs.lemmas.List.{append-nil, append_assoc, at_drop_all, at_drop_more, drop_more, get_or-map, length-map, map-append}
use Rattle.std.proofs.lemmas.List.Elements.{All-get_or}
use Rattle.tcel_core.specs.declared.set.CoreTask.{CoreTask}
use Rattle.tcel_core.specs.Language.{Task}
use Rattle.tcel_core.specs.Plain.{plain_task}
use Rattle.tcel_core.specs.Sound.{IsSoundTask}
use Rattle.tcel_judge.specs.declared.course.Course.{Course}
use Rattle.tcel_judge.specs.declared.verdict.Breach.{Breach}
use Rattle.tcel_judge.specs.declared.verdict.Verdict.TheVariants as verdicts
use Rattle.tcel_judge.specs.Courses.{HasTaken, IsFirstBreach, Stands, judged, judged_on, place}
use Rattle.tcel_judge.specs.FirstBreach.{AreRight, Judged, Says, judged_of, refused}
use Rattle.tcel_judge.proofs.MissingVerdicts.{judged_period}
use Rattle.tcel_num.specs.Plan.{Plan}
use Rattle.tcel_script.specs.Script.{Streams}
use Rattle.tcel_trace.specs.declared.trace_line.TraceLine.{TraceLine}

pub sound_at : (tasks : List CoreTask) (i : ℕ) (t : CoreTask) → i < length tasks → t ≡ get_or tasks i t → All IsSoundTask (map plain_task tasks) → IsSoundTask (plain_task t)
sound_at tasks i t within is each =
    let there : i < length (map plain_task tasks) = omega (arith, within, length-map tasks plain_task) in
    let found = All-get_or IsSoundTask (map plain_task tasks) i (plain_task t) there each in
    subst IsSoundTask (get_or-map plain_task tasks i t (plain_task t) within ∙ ap plain_task (sym is)) found

-- ---- names and periods

abbrev name_of : Judged → List ℕ
name_of j = j.task.name

pub judged_names : (tasks : List Task) (streams : Streams) → map name_of (judged_of tasks streams) ≡ map (λ (task : Task). task.name) tasks
judged_names [] streams = refl
judged_names (task ∷ tasks) [] = ap (λ (ns : List (List ℕ)). task.name ∷ ns) (judged_names tasks [])
judged_names (task ∷ tasks) (s ∷ streams) = ap (λ (ns : List (List ℕ)). task.name ∷ ns) (judged_names tasks streams)

pub judged_periods : (tasks : List Task) (streams : Streams) → map judged_period (judged_of tasks streams) ≡ map (λ (task : Task). task.period) tasks
judged_periods [] streams = refl
judged_periods (task ∷ tasks) [] = ap (λ (ns : List ℕ). task.period ∷ ns) (judged_periods tasks [])
judged_periods (task ∷ tasks) (s ∷ streams) = ap (λ (ns : List ℕ). task.period ∷ ns) (judged_periods tasks streams)

-- the names of the courses differ as those of the tasks do
pub names_apart : (tasks : List Task) (streams : Streams) (courses : List Course) → map judged courses ≡ judged_of tasks streams → AllPairs ◌≢◌ (map (λ (task : Task). task.name) tasks)
    → AllPairs ◌≢◌ (map name_of (map judged courses))
names_apart tasks streams courses same apart = subst (AllPairs ◌≢◌) (sym (ap (map name_of) same ∙ judged_names tasks streams)) apart

-- ---- one course more

module _ (tasks : List CoreTask) (streams : Streams) where
  -- what the tasks from this number on are to do
  abbrev pub left : ℕ → List Judged
  left i = judged_of (map plain_task (drop i tasks)) (drop i streams)

  left_next : (i : ℕ) (t : CoreTask) → i < length tasks → i < length streams → t ≡ get_or tasks i t → left i ≡ judged_on (plain_task t) (slice_index_or streams i []) ∷ left (i + 1)
  left_next i t lt there is =
      at_drop_more (λ ts. judged_of (map plain_task ts) (drop i streams)) tasks i t lt
      ∙ ap (λ (u : CoreTask). judged_of (map plain_task (u ∷ drop (i + 1) tasks)) (drop i streams)) (sym is)
      ∙ ap (λ ss. judged_of (map plain_task (t ∷ drop (i + 1) tasks)) ss) (drop_more streams i [] there)

  pub course_more : (courses : List Course) (i : ℕ) (t : CoreTask) (course : Course) → i < length tasks → i < length streams → t ≡ get_or tasks i t
      → judged course ≡ judged_on (plain_task t) (slice_index_or streams i [])
      → map judged courses ++ left i ≡ judged_of (map plain_task tasks) streams
      → map judged (courses ++ course ∷ []) ++ left (i + 1) ≡ judged_of (map plain_task tasks) streams
  course_more courses i t course lt there is does so_far =
      ap (λ js. js ++ left (i + 1)) (map-append judged courses (course ∷ [])) ∙ append_assoc (map judged courses) (judged course ∷ []) (left (i + 1))
      ∙ ap (λ (j : Judged). map judged courses ++ j ∷ left (i + 1)) does ∙ ap (λ js. map judged courses ++ js) (sym (left_next i t lt there is)) ∙ so_far

  pub courses_all : (courses : List Course) (i : ℕ) → length tasks ≤ i → map judged courses ++ left i ≡ judged_of (map plain_task tasks) streams
      → map judged courses ≡ judged_of (map plain_task tasks) streams
  courses_all courses i far so_far =
      sym (append-nil (map judged courses))
      ∙ ap (λ js. map judged courses ++ js) (sym (at_drop_all (λ ts. judged_of (map plain_task ts) (drop i streams)) tasks i far)) ∙ so_far

-- a task before its first entry has passed no line
pub none_taken : (course : Course) → Stands course → place course ≡ 0 → HasTaken [] course
none_taken course stands start = record { stands = stands; taken = start }

-- ---- what the first breach of the lines says

module _ (set : List Judged) (plans : List Plan) (ticks : ℕ) (lines : List TraceLine) where
  pub says_breach : (found : Option Breach) (b : Breach) → IsFirstBreach set lines found → found ≡ Some b → Says set plans ticks lines (verdicts.No b)
  says_breach found b h is = let it = subst (IsFirstBreach set lines) is h in refused it.place b it.at it.passed

  pub lines_right : (found : Option Breach) → IsFirstBreach set lines found → found ≡ None → AreRight set plans ticks lines
  lines_right found h is = subst (IsFirstBreach set lines) is h
