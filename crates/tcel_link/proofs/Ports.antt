-- Ports by their names, among the tasks of a set.
use Rattle.std.proofs.Common.{◌≡◌, ℕ, ◌+◌, ◌<◌, ◌≤◌, Bool, not, cond, List, [], ◌∷◌, ◌++◌, length, length-append, map, get_or, All, Some, None, refl, sym, ap, ◌∙◌, subst, arith}
use Rattle.std.specs.Prelude.{filter_map, option_map, position, nat_lt}
use Rattle.std.specs.List.{position_or_len}
use Rattle.std.specs.Option.{option_and_then}
use Rattle.std.proofs.lemmas.List.{get_or-map, length-map}
use Rattle.std.proofs.lemmas.List.Elements.{All-get_or}
use Rattle.std.proofs.lemmas.List.Quantifiers.{position-Some}
use Rattle.tcel_core.specs.declared.set.CoreTask.{CoreTask}
use Rattle.tcel_core.specs.declared.var.Var.{Var}
use Rattle.tcel_core.specs.Language.{Task}
use Rattle.tcel_core.specs.Plain.{plain_task}
use Rattle.tcel_core.specs.Ports.{port_rows}
use Rattle.tcel_core.specs.Sound.{IsSoundSet, IsSoundTask}
use Rattle.tcel_link.specs.Conditions.{FitsInputs}
use Rattle.tcel_link.specs.Links.{no_task, port_of, port_of_task, task_at}
use Rattle.tcel_num.specs.declared.port_row.PortRow.{PortRow}
use Rattle.tcel_script.specs.Script.{HasStreams, Streams, same}

place_mapped : (p : Task → Bool) (tasks : List CoreTask) → position_or_len p (map plain_task tasks) ≡ position_or_len (λ (t : CoreTask). p (plain_task t)) tasks
place_mapped p [] = refl
place_mapped p (t ∷ tasks) = ap (λ n. cond (not (p (plain_task t))) (1 + n) 0) (place_mapped p tasks)

-- the first of the tasks that passes
position_mapped : (p : Task → Bool) (tasks : List CoreTask) → position p (map plain_task tasks) ≡ position (λ (t : CoreTask). p (plain_task t)) tasks
position_mapped p tasks =
    ap (λ n. cond (nat_lt n (length (map plain_task tasks))) (Some n) None) (place_mapped p tasks)
    ∙ ap (λ n. let place = position_or_len (λ (t : CoreTask). p (plain_task t)) tasks in cond (nat_lt place n) (Some place) None) (length-map tasks plain_task)

-- there is no port of a task that isn't there
pub no_such_task : (ports : Task → List (List ℕ)) (tasks : List CoreTask) (name port : List ℕ) → position (λ (t : CoreTask). same t.name name) tasks ≡ None → port_of ports (map plain_task tasks) name port ≡ None
no_such_task ports tasks name port none =
    ap (option_and_then (port_of_task ports (map plain_task tasks) port)) (position_mapped (λ (t : Task). same t.name name) tasks ∙ none)

-- the port of a task that is there
pub port_there : (ports : Task → List (List ℕ)) (tasks : List CoreTask) (name port : List ℕ) (i : ℕ) (t : CoreTask) (names : List (List ℕ)) → position (λ (t : CoreTask). same t.name name) tasks ≡ Some i →
    names ≡ ports (plain_task (get_or tasks i t)) → port_of ports (map plain_task tasks) name port ≡ option_map (λ place. record { task = i; port = place }) (position (λ n. same n port) names)
port_there ports tasks name port i t names found is =
    let inside = position-Some (λ (t : CoreTask). same t.name name) tasks i t found in
    let task : ports (task_at (map plain_task tasks) i) ≡ names = ap ports (get_or-map plain_task tasks i t no_task inside.0) ∙ sym is in
    ap (option_and_then (port_of_task ports (map plain_task tasks) port)) (position_mapped (λ (t : Task). same t.name name) tasks ∙ found)
    ∙ ap (λ ns. option_map (λ place. record { task = i; port = place }) (position (λ n. same n port) ns)) task

-- a sound task has few ports
pub record HasFewPorts (task : Task) : Type 0 where
  pub inputs : length task.inputs ≤ 256
  pub outputs : length task.outputs ≤ 256

pub few_ports : (task : Task) → IsSoundTask task → HasFewPorts task
few_ports task sound =
    let all = length-append (filter_map (λ (v : Var). v.name) task.vars) (task.inputs ++ task.outputs) in
    let both = length-append task.inputs task.outputs in
    let most = sound.declarations.most in
    record { inputs = omega arith; outputs = omega arith }

-- the task at a place of a sound set
pub sound_at : (tasks : List CoreTask) (i : ℕ) (t : CoreTask) → i < length tasks → All IsSoundTask (map plain_task tasks) → IsSoundTask (plain_task (get_or tasks i t))
sound_at tasks i t within each =
    let there : i < length (map plain_task tasks) = omega (arith, length-map tasks plain_task) in
    subst IsSoundTask (get_or-map plain_task tasks i t (plain_task t) within) (All-get_or IsSoundTask (map plain_task tasks) i (plain_task t) there each)

-- a port's number is small
pub port_small : (ports : Task → List (List ℕ)) (tasks : List CoreTask) (name port : List ℕ) (i place : ℕ) (t : CoreTask) (names : List (List ℕ)) → IsSoundSet (map plain_task tasks) →
    ((task : Task) → HasFewPorts task → length (ports task) ≤ 256) → position (λ (t : CoreTask). same t.name name) tasks ≡ Some i → names ≡ ports (plain_task (get_or tasks i t)) →
    position (λ n. same n port) names ≡ Some place → place < 256
port_small ports tasks name port i place t names sound few found is at =
    let inside = position-Some (λ (t : CoreTask). same t.name name) tasks i t found in
    let there = position-Some (λ n. same n port) names place [] at in
    let most = few (plain_task (get_or tasks i t)) (few_ports (plain_task (get_or tasks i t)) (sound_at tasks i t inside.0 sound.each)) in
    omega (arith, there.0, most, ap length is)

-- a task's number is small
pub task_small : (tasks : List CoreTask) (name : List ℕ) (i : ℕ) (t : CoreTask) → IsSoundSet (map plain_task tasks) → position (λ (t : CoreTask). same t.name name) tasks ≡ Some i → i < 16
task_small tasks name i t sound found =
    let inside = position-Some (λ (t : CoreTask). same t.name name) tasks i t found in
    omega (arith, inside.0, sound.most, length-map tasks plain_task)

-- the streams of a script for the inputs of a set
pub script_fits : (tasks : List Task) (rows : List PortRow) (streams : Streams) → rows ≡ port_rows tasks → HasStreams rows streams → FitsInputs tasks streams
script_fits tasks rows streams is has = has ∙ ap (map (λ (row : PortRow). length row.inputs)) is ∙ as_many tasks
  where
    as_many : (tasks : List Task) → map (λ (row : PortRow). length row.inputs) (port_rows tasks) ≡ map (λ (task : Task). length task.inputs) tasks
    as_many [] = refl
    as_many (task ∷ tasks) = ap (λ ns. length task.inputs ∷ ns) (as_many tasks)
