-- The tasks of a valid image, and how they start.
use Rattle.std.proofs.Common.{◌≡◌, ℕ, zero, suc, ◌+◌, ◌-◌, ◌<◌, ◌≤◌, ℤ, pos, false, ◌⊎◌, inl, inr, ⊎_elim, List, [], ◌∷◌, ◌++◌, length, get_or, take, map, replicate, All, Some, refl, ap, sym, ◌∙◌, subst, arith, length-append}
use Rattle.std.specs.List.{slice_get, flat_map, sum_by}
use Rattle.std.specs.Option.{option_map_or}
use Rattle.std.proofs.lemmas.Bool.{or_parts, eqb-false, ltb-false}
use Rattle.std.proofs.lemmas.List.{length-replicate, length-map, map-append, take_all, take_more}
use Rattle.std.proofs.lemmas.List.Concat.{length-flat_map}
use Rattle.std.proofs.lemmas.List.Sums.{sum_by-cons}
use Rattle.std.proofs.lemmas.Option.{slice_get_within, get_or_from_slice_get, same_Some}
use Rattle.tcel_image.specs.declared.flaw.FlawKind.{FlawKind}
use Rattle.tcel_image.specs.declared.flaw.FlawKind.TheVariants.{BadPeriod, SameName}
use Rattle.tcel_image.specs.declared.image.Image.{Image}
use Rattle.tcel_image.specs.declared.image.ImageState.{ImageState}
use Rattle.tcel_image.specs.declared.image.ImageTask.{ImageTask}
use Rattle.tcel_image.specs.declared.image.Line.{Line}
use Rattle.tcel_image.specs.Machine.{Running, first_cells, start_task}
use Rattle.tcel_image.specs.Spelling.{InRange, TaskInRange, StateInRange, state_words}
use Rattle.tcel_image.specs.Validity.{IsValid, line_has, task_has}
use Rattle.tcel_machine.specs.declared.task.Task.{Task}
use Rattle.tcel_machine.specs.Task.{running_of}
use Rattle.tcel_machine.specs.Runs.{IsTaskValid, HasShape, HasCounts, IsRunning, AreSound}
use Rattle.tcel_machine.proofs.Shapes.{start_at}

clear_in : (image : Image) → IsValid image → (number : ℕ) (task : ImageTask) → slice_get image.tasks number ≡ Some task → (kind : FlawKind) (place : ℕ)
    → task_has (take number image.tasks) task kind place ≡ false
clear_in image valid number task is kind place =
    ap (λ found. option_map_or (λ task. task_has (take number image.tasks) task kind place) found false) (sym is) ∙ valid.none (record { kind = kind; task = number; pc = place })

line_clear : (before : List ImageTask) (task : ImageTask) (place : ℕ) (line : Line) (kind : FlawKind) → slice_get task.code place ≡ Some line
    → task_has before task kind place ≡ false → line_has task kind place line ≡ false
line_clear before task place line BadPeriod is h = refl
line_clear before task place line SameName is h = refl
line_clear before task place line kind is h =
    let found : option_map_or (line_has task kind place) (slice_get task.code place) false ≡ false = h in
    ap (λ f. option_map_or (line_has task kind place) f false) (sym is) ∙ found

task_valid : (before : List ImageTask) (task : ImageTask) → ((kind : FlawKind) (place : ℕ) → task_has before task kind place ≡ false) → IsTaskValid task
task_valid before task clear =
    let period = or_parts _ _ (clear BadPeriod 0) in
    let some : task.period ≡ 0 → ⊥ = eqb-false task.period 0 period.0 in
    record { some = omega arith; most = ltb-false _ _ period.1; lines = λ place line is kind. line_clear before task place line kind is (clear kind place) }

pub sound : (image : Image) → InRange image → IsValid image → AreSound image.tasks
sound image range valid number task is = (
  subst TaskInRange (get_or_from_slice_get image.tasks number task task is) (range.tasks number task (slice_get_within image.tasks number task is)),
  task_valid (take number image.tasks) task (clear_in image valid number task is),
)

-- ---- the start

count_words : (states : List ImageState) → All StateInRange states → sum_by (λ (s : ImageState). length s.first) states ≡ sum_by (λ (s : ImageState). s.words) states
count_words [] all = refl
count_words (s ∷ states) all =
    sum_by-cons (λ (x : ImageState). length x.first) s states
    ∙ ap (λ n. n + sum_by (λ (x : ImageState). length x.first) states) (all 0 s (omega arith)).first
    ∙ ap (λ n. s.words + n) (count_words states (λ k d h. all (suc k) d (omega (arith, h))))
    ∙ sym (sum_by-cons (λ (x : ImageState). x.words) s states)

pub length-words : (task : ImageTask) → TaskInRange task → length (flat_map (λ (s : ImageState). s.first) task.states) ≡ state_words task.states
length-words task range = length-flat_map (λ (s : ImageState). s.first) task.states ∙ count_words task.states range.states.each

pub resized : (task : ImageTask) (words : List ℤ) (n : ℕ) → TaskInRange task → words ≡ flat_map (λ (s : ImageState). s.first) task.states → n ≡ length words
    → take task.cells words ++ replicate (task.cells - n) (pos 0) ≡ first_cells task
resized task words n range e l =
    let states = flat_map (λ (s : ImageState). s.first) task.states in
    let enough : length states ≤ task.cells = omega (arith, length-words task range, range.cells.0) in
    ap (λ k. take task.cells words ++ replicate (task.cells - k) (pos 0)) l
    ∙ ap (λ (w : List ℤ). take task.cells w ++ replicate (task.cells - length w) (pos 0)) e
    ∙ ap (λ (w : List ℤ). w ++ replicate (task.cells - length states) (pos 0)) (take_all task.cells states enough)

pub no_values : (inputs : List (List ℕ)) → replicate {A = ℕ} (length inputs) 0 ≡ map (λ _. 0) inputs
no_values [] = refl
no_values (x ∷ inputs) = ap (λ (l : List ℕ). 0 ∷ l) (no_values inputs)

none_given : (inputs : List (List ℕ)) (port : ℕ) → get_or {A = ℕ} (map (λ _. 0) inputs) port 0 ≡ 0
none_given [] port = refl
none_given (x ∷ inputs) zero = refl
none_given (x ∷ inputs) (suc port) = none_given inputs port

-- a task starts at the first line of its code
pub start_shape : (task : ImageTask) → TaskInRange task → IsTaskValid task → HasShape task (start_task task)
start_shape task range valid =
    let code = start_at task valid (omega (arith, range.code.count.0)) in
    record {
      place = code.within;
      depth = λ line is. sym (code.deep line is);
      low = omega arith;
      cells = simp (length-append, length-replicate) (omega (arith, length-words task range, range.cells.0));
      taken = length-map task.inputs (λ _. 0);
    }

pub starts : (task : ImageTask) (run : Task) → TaskInRange task → IsTaskValid task → run.words ≡ state_words task.states → running_of run ≡ start_task task → IsRunning task 0 run
starts task run range valid words e =
    let counts : HasCounts task 0 (start_task task) = record { spent = omega arith; reach = omega arith; given = λ port. omega (arith, none_given task.inputs port) } in
    let now : HasShape task (running_of run) = subst (HasShape task) (sym e) (start_shape task range valid) in
    record { words = words; fits = omega (arith, words, now.cells, range.cells.0); shape = now; counts = subst (HasCounts task 0) (sym e) counts }

pub push_get : {X : Type 0} (xs : List X) (k : ℕ) (x y : X) → slice_get (xs ++ x ∷ []) k ≡ Some y → ((k ≡ length xs) × (x ≡ y)) ⊎ (slice_get xs k ≡ Some y)
push_get [] zero x y h = inl (refl, same_Some x y h)
push_get [] (suc k) x y h = inr h
push_get (a ∷ xs) zero x y h = inr h
push_get (a ∷ xs) (suc k) x y h = ⊎_elim (λ l. inl (ap suc l.0, l.1)) (λ r. inr r) (push_get xs k x y h)

-- each of the first tasks runs
abbrev pub FirstRun : List ImageTask → List Task → Type 0
FirstRun tasks runs = (number : ℕ) (task : ImageTask) (run : Task) → slice_get tasks number ≡ Some task → slice_get runs number ≡ Some run → IsRunning task 0 run

pub one_started : (tasks : List ImageTask) (runs : List Task) (task : ImageTask) (new : Task) → FirstRun tasks runs → slice_get tasks (length runs) ≡ Some task → IsRunning task 0 new
    → FirstRun tasks (runs ++ new ∷ [])
one_started tasks runs task new first is kept number other run at was =
    ⊎_elim
    (λ same.
    let one : task ≡ other = same_Some task other (sym is ∙ ap (slice_get tasks) (sym same.0) ∙ at) in
    subst (λ x. IsRunning x 0 run) one (subst (λ x. IsRunning task 0 x) same.1 kept))
    (λ old. first number other run at old)
    (push_get runs number new run was)

pub started_more : (list : List ImageTask) (runs : List Task) (place : ℕ) (task : ImageTask) (new : Task) → task ≡ get_or list place task → place < length list
    → map running_of runs ≡ map start_task (take place list) → running_of new ≡ start_task task
    → map running_of (runs ++ new ∷ []) ≡ map start_task (take (place + 1) list)
started_more list runs place task new is h so_far e =
    map-append running_of runs (new ∷ [])
    ∙ ap (λ (l : List Running). l ++ running_of new ∷ []) so_far
    ∙ ap (λ (r : Running). map start_task (take place list) ++ r ∷ []) e
    ∙ ap (λ (t : ImageTask). map start_task (take place list) ++ start_task t ∷ []) is
    ∙ sym (ap (map start_task) (take_more list place task h) ∙ map-append start_task (take place list) (get_or list place task ∷ []))
