-- The rows of a sound set's inputs.
use Rattle.std.proofs.Common.{◌≡◌, ◌≢◌, ℕ, ◌+◌, ◌<◌, List, [], ◌∷◌, ◌++◌, length, length-append, get_or, map, filter_map, AllPairs, Result, Ok, Err, IfOk, Vec, Global, refl, sym, ap, ◌∙◌, subst, arith}
use Rattle.std.proofs.lemmas.List.{get_or_append_left, get_or-append-add}
use Rattle.std.proofs.lemmas.List.Elements.{All-map}
use Rattle.tcel_num.specs.declared.memory.NoMemory.{NoMemory}
use Rattle.tcel_num.specs.declared.port_row.PortRow.{PortRow}
use Rattle.tcel_num.specs.PortRow.{HaveDistinctNames}
use Rattle.tcel_core.specs.declared.var.Var.{Var}
use Rattle.tcel_core.specs.Language.{Task}
use Rattle.tcel_core.specs.Ports.{port_row, port_rows}
use Rattle.tcel_core.specs.Sound.{IsSoundSet}

-- lists in the middle of one whose elements differ
middle : {X : Type 0} (xs ys zs : List X) → AllPairs ◌≢◌ (xs ++ (ys ++ zs)) → AllPairs ◌≢◌ ys
middle xs ys zs h i j d less short same =
    h (length xs + i) (length xs + j) d (omega arith) (omega (arith, length-append xs (ys ++ zs), length-append ys zs))
    (inside xs ys zs i d (omega arith) ∙ same ∙ sym (inside xs ys zs j d short))
  where
    inside : {X : Type 0} (xs ys zs : List X) (k : ℕ) (d : X) → k < length ys → get_or (xs ++ (ys ++ zs)) (length xs + k) d ≡ get_or ys k d
    inside xs ys zs k d within = get_or-append-add xs (ys ++ zs) k d ∙ get_or_append_left ys zs d k within

names_of : (tasks : List Task) → map (λ (row : PortRow). row.task) (port_rows tasks) ≡ map (λ (task : Task). task.name) tasks
names_of [] = refl
names_of (task ∷ tasks) = ap (λ names. task.name ∷ names) (names_of tasks)

pub distinct_rows : (tasks : List Task) → IsSoundSet tasks → HaveDistinctNames (port_rows tasks)
distinct_rows tasks sound = record {
  tasks = subst (AllPairs ◌≢◌) (sym (names_of tasks)) sound.names;
  inputs = All-map (λ (row : PortRow). AllPairs ◌≢◌ row.inputs) port_row tasks
      (λ i d less. let task = get_or tasks i d in middle (filter_map (λ (v : Var). v.name) task.vars) task.inputs task.outputs (sound.each i d less).declarations.distinct);
}

pub distinct_ports : (tasks : List Task) (r : Result (Vec PortRow Global) NoMemory) → IfOk r (λ rows. rows.items ≡ port_rows tasks) → IsSoundSet tasks →
    IfOk r (λ rows. HaveDistinctNames rows.items)
distinct_ports tasks (Err e) h sound = h
distinct_ports tasks (Ok rows) h sound = subst HaveDistinctNames (sym h) (distinct_rows tasks sound)
