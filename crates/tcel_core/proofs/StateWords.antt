-- How many words the states of a task have, and its frames.
use Rattle.std.proofs.Common.{◌≡◌, ◌+◌, ◌-◌, ◌≤◌, Bool, true, false, cond, ℤ, pos, List, [], ◌∷◌, length, refl, ap, ◌∙◌, arith, length-append}
use Rattle.std.specs.Prelude.{take, replicate}
use Rattle.std.proofs.lemmas.Bool.{cond_both}
use Rattle.std.proofs.lemmas.List.{length-replicate, length-take-le}
use Rattle.tcel_core.specs.declared.var.Var.{Var}
use Rattle.tcel_core.specs.declared.var.VarKind.{VarKind}
use Rattle.tcel_core.specs.Cells.{words_of, all_words}
use Rattle.tcel_core.specs.Frames.{is_state, first_words, declared_state, state_words, start_cells}

-- a state's first value has its words
length-first_words : (kind : VarKind) (first : ℤ) → length (first_words kind first) ≡ words_of kind
length-first_words VarKind.Int first = refl
length-first_words VarKind.Bool first = refl
length-first_words (VarKind.Array n) first = length-replicate n (pos 0)

pub length-declared_state : (vars : List Var) → length (declared_state vars) ≡ state_words vars
length-declared_state [] = refl
length-declared_state (v ∷ vs) =
    length-append (cond (is_state v.keep) (first_words v.kind v.first) []) (declared_state vs)
    ∙ ap (λ n. n + length (declared_state vs)) (chosen (is_state v.keep))
    ∙ ap (λ n. cond (is_state v.keep) (words_of v.kind) 0 + n) (length-declared_state vs)
  where
    chosen : (b : Bool) → length (cond b (first_words v.kind v.first) []) ≡ cond b (words_of v.kind) 0
    chosen true = length-first_words v.kind v.first
    chosen false = refl

-- the states are some of the words
pub states_within : (vars : List Var) → state_words vars ≤ all_words vars
states_within [] = omega arith
states_within (v ∷ vs) =
    let rest = states_within vs in
    cond_both (is_state v.keep) (words_of v.kind) 0 (λ n. n + state_words vs ≤ words_of v.kind + all_words vs) (λ _. omega arith) (λ _. omega arith)

-- a frame starts with all words
pub length-start_cells : (vars : List Var) (state : List ℤ) → length state ≡ state_words vars → length (start_cells vars state) ≡ all_words vars
length-start_cells vars state long =
    omega (arith, long, length-append state (replicate (all_words vars - state_words vars) (pos 0)), length-replicate (all_words vars - state_words vars) (pos 0), states_within vars)

pub length-state_of : (vars : List Var) (cells : List ℤ) → length cells ≡ all_words vars → length (take (state_words vars) cells) ≡ state_words vars
length-state_of vars cells long = length-take-le (state_words vars) cells (omega (arith, states_within vars))
