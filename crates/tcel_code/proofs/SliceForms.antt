-- The law of slicing, from the starts of frames.
use Rattle.std.proofs.Common.{◌≡◌, ◌+◌, ◌-◌, ◌≤◌, ℤ, pos, List, [], ◌∷◌, ◌++◌, length, map, refl, ap, ◌∙◌, subst, arith}
use Rattle.std.specs.Prelude.{replicate}
use Rattle.std.proofs.lemmas.List.{append_assoc, length-append, length-replicate, replicate-append-replicate}
use Rattle.tcel_core.specs.declared.var.Var.{Var}
use Rattle.tcel_core.specs.Cells.{all_words}
use Rattle.tcel_core.specs.Frames.{start_cells, state_words}
use Rattle.tcel_core.specs.Language.{Task}
use Rattle.tcel_core.specs.Meaning.{exec}
use Rattle.tcel_core.specs.Outcome.{Memory}
use Rattle.tcel_core.specs.Parts.{Added, TaskParts, added, added_variable, parts_of, slicing_of}
use Rattle.tcel_core.proofs.StateWords.{length-start_cells, states_within}
use Rattle.tcel_parts.specs.SliceLaw.{DoTheSame, MeanTheBody}
use Rattle.tcel_parts.proofs.Assembly.{parts_mean_the_body}
use Rattle.tcel_code.specs.PartsFit.{PartsMean, SlicesMean}

-- parts that mean the body from any words mean it from the start of a frame
pub mean_from_start : (task : Task) (parts : TaskParts) → state_words parts.vars ≡ state_words task.vars → all_words task.vars ≤ all_words parts.vars → MeanTheBody task parts → PartsMean task parts
mean_from_start task parts states words law state inputs long =
    let cells = start_cells task.vars state in
    let others : List ℤ = replicate (all_words parts.vars - all_words task.vars) (pos 0) in
    let own = length-start_cells task.vars state long in
    let within = states_within task.vars in
    let zeros : (all_words task.vars - state_words task.vars) + (all_words parts.vars - all_words task.vars) ≡ all_words parts.vars - state_words parts.vars = omega arith in
    let same : cells ++ others ≡ start_cells parts.vars state =
    append_assoc state (replicate (all_words task.vars - state_words task.vars) (pos 0)) others
    ∙ ap (λ l. state ++ l) (replicate-append-replicate (all_words task.vars - state_words task.vars) (all_words parts.vars - all_words task.vars) (pos 0))
    ∙ ap (λ n. state ++ replicate n (pos 0)) zeros in
    let all : length (cells ++ others) ≡ all_words parts.vars = omega (arith, length-append cells others, length-replicate (all_words parts.vars - all_words task.vars) (pos 0)) in
    subst
    (λ (l : List ℤ).
    let beside : Memory = record { cells = l; inputs = inputs } in
    let first = exec parts.first parts.vars beside in
    DoTheSame task.vars parts.vars (exec task.body task.vars (record { cells = cells; inputs = inputs })) first (exec parts.rest parts.vars first.memory))
    same (law cells others inputs own all)

-- ---- the variables that slicing adds

all_words-append : (a b : List Var) → all_words (a ++ b) ≡ all_words a + all_words b
all_words-append [] b = omega arith
all_words-append (v ∷ a) b = let rest = all_words-append a b in omega arith

state_words-append : (a b : List Var) → state_words (a ++ b) ≡ state_words a + state_words b
state_words-append [] b = omega arith
state_words-append (v ∷ a) b = let rest = state_words-append a b in omega arith

none_added : (vars : List Var) (more : List Added) → state_words (map (added_variable vars) more) ≡ 0
none_added vars [] = refl
none_added vars (a ∷ more) = let rest = none_added vars more in omega arith

pub slices_mean : SlicesMean
slices_mean task kept sound is =
    let s = slicing_of task kept in
    let more = map (added_variable task.vars) (added s) in
    mean_from_start task (parts_of s) (omega (arith, state_words-append task.vars more, none_added task.vars (added s))) (omega (arith, all_words-append task.vars more)) (parts_mean_the_body task kept sound is)
