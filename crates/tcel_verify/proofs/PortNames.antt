-- The names of a valid image's tasks differ, and so do those of each task's inputs.
use Rattle.std.proofs.Common.{◌≡◌, ◌≢◌, ℕ, ◌<◌, Bool, true, false, ◌||◌, List, [], ◌∷◌, ◌++◌, length, get_or, take, map, zero, suc, length-take, refl, ap, sym, ◌∙◌, subst, arith, All}
use Rattle.std.specs.Prelude.{AllPairs, Some, slice_get}
use Rattle.std.specs.List.{list_any}
use Rattle.std.specs.Cmp.Lexicographic.{nat_list_eq_equiv}
use Rattle.std.proofs.lemmas.Bool.{false≢true}
use Rattle.std.proofs.lemmas.List.Folds.{list_any-append, list_any_at}
use Rattle.std.proofs.lemmas.List.Kept.{AllPairs-cons}
use Rattle.std.proofs.lemmas.List.{get_or-map, get_or-take, length-map}
use Rattle.std.proofs.lemmas.List.Elements.{All-nil, All-cons, All-map}
use Rattle.std.proofs.lemmas.Option.{slice_get-get_or, get_or_from_slice_get}
use Rattle.tcel_num.specs.declared.port_row.PortRow.{PortRow}
use Rattle.tcel_num.specs.PortRow.{HaveDistinctNames}
use Rattle.tcel_image.specs.declared.flaw.FlawKind.TheVariants.{SameName}
use Rattle.tcel_image.specs.declared.image.Image.{Image}
use Rattle.tcel_image.specs.declared.image.ImageTask.{ImageTask}
use Rattle.tcel_image.specs.declared.image.ImageState.{ImageState}
use Rattle.tcel_image.specs.Validity.{same_name, has_twice, own_names, has_same_name, IsValid}
use Rattle.tcel_verify.specs.Ports.{port_row, port_rows}

neither : (a b : Bool) → (a || b) ≡ false → (a ≡ false) × (b ≡ false)
neither true b h = absurd (false≢true (sym h))
neither false b h = (refl, h)

same : (a b : List ℕ) → a ≡ b → same_name a b ≡ true
same a b e = subst (λ (name : List ℕ). same_name a name ≡ true) e (nat_list_eq_equiv.refl a)

-- a name that is not among the names is none of them
differs : (name : List ℕ) (names : List (List ℕ)) → list_any (same_name name) names ≡ false → All (λ other. name ≢ other) names
differs name [] h = All-nil (λ other. name ≢ other)
differs name (other ∷ names) h =
    let parts = neither (same_name name other) (list_any (same_name name) names) h in
    All-cons (λ other. name ≢ other) other names (λ e. false≢true (sym parts.0 ∙ same name other e)) (differs name names parts.1)

-- names none of which stands twice differ
distinct : (names : List (List ℕ)) → has_twice names ≡ false → AllPairs ◌≢◌ names
distinct [] h = λ i j d below within. absurd (omega arith)
distinct (name ∷ names) h =
    let parts = neither (list_any (same_name name) names) (has_twice names) h in
    AllPairs-cons ◌≢◌ name names (differs name names parts.0) (distinct names parts.1)

-- no name of the front stands twice where none of the whole does
front : (names others : List (List ℕ)) → has_twice (names ++ others) ≡ false → has_twice names ≡ false
front [] others h = refl
front (name ∷ names) others h =
    let parts = neither (list_any (same_name name) (names ++ others)) (has_twice (names ++ others)) h in
    let whole : (list_any (same_name name) names || list_any (same_name name) others) ≡ false = sym (list_any-append (same_name name) names others) ∙ parts.0 in
    let left = neither (list_any (same_name name) names) (list_any (same_name name) others) whole in
    ap (λ b. b || has_twice names) left.0 ∙ front names others parts.1

-- a task of a valid image has neither an earlier task's name nor a name twice
no_same_name : (image : Image) → IsValid image → (i : ℕ) (task : ImageTask) → slice_get image.tasks i ≡ Some task → has_same_name (take i image.tasks) task ≡ false
no_same_name image valid i task e = rw e at (valid.none (record { kind = SameName; task = i; pc = 0 }))

-- there is a task at each place
task_at : (tasks : List ImageTask) (i : ℕ) → i < length tasks → (task : ImageTask) × (slice_get tasks i ≡ Some task)
task_at [] i h = absurd (omega arith)
task_at (task ∷ tasks) zero h = (task, refl)
task_at (task ∷ tasks) (suc i) h = task_at tasks i (omega arith)

row_names : (tasks : List ImageTask) → map (λ (row : PortRow). row.task) (map port_row tasks) ≡ map (λ (task : ImageTask). task.name) tasks
row_names [] = refl
row_names (task ∷ tasks) = ap (λ (names : List (List ℕ)). task.name ∷ names) (row_names tasks)

earlier_name : (image : Image) → IsValid image → (i j : ℕ) (task : ImageTask) → slice_get image.tasks j ≡ Some task → i < j → j < length image.tasks → (get_or image.tasks i task).name ≢ task.name
earlier_name image valid i j task e below within same_as =
    let free = neither (list_any (λ (other : ImageTask). same_name task.name other.name) (take j image.tasks)) (has_twice (own_names task)) (no_same_name image valid j task e) in
    let inside : i < length (take j image.tasks) = simp length-take (omega arith) in
    let at : get_or (take j image.tasks) i task ≡ get_or image.tasks i task = get_or-take j image.tasks i task below in
    false≢true
    (sym free.0
    ∙ list_any_at (λ (other : ImageTask). same_name task.name other.name) (take j image.tasks) i task inside
    (same task.name ((get_or (take j image.tasks) i task).name) (sym same_as ∙ ap (λ (other : ImageTask). other.name) (sym at))))

task_names : (image : Image) → IsValid image → AllPairs ◌≢◌ (map (λ (task : ImageTask). task.name) image.tasks)
task_names image valid i j d below within =
    let inside : j < length image.tasks = omega (arith, length-map image.tasks (λ (task : ImageTask). task.name)) in
    let found = task_at image.tasks j inside in
    let task = found.0 in
    let name_i = get_or-map (λ (other : ImageTask). other.name) image.tasks i task d (omega arith) in
    let name_j = get_or-map (λ (other : ImageTask). other.name) image.tasks j task d inside in
    let is_task = get_or_from_slice_get image.tasks j task task found.1 in
    λ e. earlier_name image valid i j task found.1 below inside (sym name_i ∙ e ∙ name_j ∙ ap (λ (other : ImageTask). other.name) is_task)

own_inputs : (image : Image) → IsValid image → All (λ (task : ImageTask). AllPairs ◌≢◌ task.inputs) image.tasks
own_inputs image valid i d within =
    let task = get_or image.tasks i d in
    let free = neither (list_any (λ (other : ImageTask). same_name task.name other.name) (take i image.tasks)) (has_twice (own_names task)) (no_same_name image valid i task (slice_get-get_or image.tasks i d within)) in
    distinct task.inputs (front task.inputs (task.outputs ++ map (λ (state : ImageState). state.name) task.states) free.1)

-- no two tasks of a valid image have one name, and no two inputs of one task
pub distinct_ports : (image : Image) → IsValid image → HaveDistinctNames (port_rows image)
distinct_ports image valid = record {
  tasks = rw row_names (task_names image valid);
  inputs = All-map (λ (row : PortRow). AllPairs ◌≢◌ row.inputs) port_row image.tasks (own_inputs image valid);
}
