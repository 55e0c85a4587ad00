-- The names of a checked task: each is a name, none stands twice, and there are few.
use Rattle.std.proofs.Common.{◌≡◌, ◌≢◌, ℕ, suc, ◌+◌, ◌≤◌, Bool, true, false, cond, List, [], ◌∷◌, ◌++◌, length, length-append, map, AllPairs, Contains, Option, None, Some, refl, sym, ap, ◌∙◌, subst, arith, append_assoc}
use Rattle.std.specs.Prelude.{IsSome, filter, filter_map, unwrap_or}
use Rattle.std.specs.List.{AllByRecursion, cons_option, list_any}
use Rattle.std.proofs.lemmas.Bool.{false_from_ne_true, or_from, or_parts, false≢true}
use Rattle.std.proofs.lemmas.List.{length-map}
use Rattle.std.proofs.lemmas.List.Elements.{recursion_from_All}
use Rattle.std.proofs.lemmas.List.Folds.{list_any-append}
use Rattle.std.proofs.lemmas.Map.Views.{Contains-from_any}
use Rattle.std.proofs.lemmas.Slice.Eq.{bytes_eq-Decides}
use Rattle.tcel_num.specs.Name.{IsName}
use Rattle.tcel_core.specs.declared.var.Var.{Var}
use Rattle.tcel_core.specs.Frames.{is_state}
use Rattle.tcel_core.specs.Language.{Task}
use Rattle.tcel_core.specs.Sound.{HasSoundDeclarations, IsDeclared, declared_names}
use Rattle.tcel_image.specs.declared.image.ImageState.{ImageState}
use Rattle.tcel_image.specs.Validity.{has_twice, same_name}
use Rattle.tcel_image.proofs.Names.{twice_inserted}
use Rattle.tcel_code.specs.Layout.{state_of, states_of}

-- ---- names that differ

none_same : (x : List ℕ) (xs : List (List ℕ)) → (Contains xs x → ⊥) → list_any (same_name x) xs ≡ false
none_same x xs h = false_from_ne_true (list_any (same_name x) xs) (λ found. h (Contains-from_any (λ a b. (bytes_eq-Decides a b).0) x xs found))

pub distinct_once : (xs : List (List ℕ)) → AllPairs ◌≢◌ xs → has_twice xs ≡ false
distinct_once [] h = refl
distinct_once (x ∷ xs) h =
    or_from _ _ (none_same x xs (λ c. let less = c.1 in h 0 (suc c.0) x (omega arith) (omega arith) (sym c.2)))
    (distinct_once xs (λ i j d less short. h (suc i) (suc j) d (omega arith) (omega arith)))

-- ---- the names of variables

abbrev pub name_of : Var → List ℕ
name_of v = unwrap_or v.name []

one_named : (name : Option (List ℕ)) (xs ys : List (List ℕ)) → IsSome name → xs ≡ ys → cons_option name xs ≡ unwrap_or name [] ∷ ys
one_named None xs ys h e = absurd (false≢true h)
one_named (Some n) xs ys h e = ap (λ (l : List (List ℕ)). n ∷ l) e

named : (vars : List Var) → AllByRecursion IsDeclared vars → filter_map (λ (v : Var). v.name) vars ≡ map name_of vars
named [] h = refl
named (v ∷ vars) h = one_named v.name (filter_map (λ (w : Var). w.name) vars) (map name_of vars) (h.0).named (named vars h.1)

-- those of states
abbrev pub state_names : List Var → List (List ℕ)
state_names vars = map (λ (s : ImageState). s.name) (states_of vars)

one_state : (kept : Bool) (v : Var) (vars : List Var) → map (λ (s : ImageState). s.name) (map state_of (cond kept (v ∷ filter (λ (w : Var). is_state w.keep) vars) (filter (λ (w : Var). is_state w.keep) vars))) ≡ cond kept (name_of v ∷ state_names vars) (state_names vars)
one_state true v vars = refl
one_state false v vars = refl

states_step : (test : List ℕ → Bool) (kept : Bool) (name : List ℕ) (names : List (List ℕ)) → test name ≡ false → list_any test names ≡ false → list_any test (cond kept (name ∷ names) names) ≡ false
states_step test true name names here none = or_from _ _ here none
states_step test false name names here none = none

-- a name that no variable has is no state's
no_state : (test : List ℕ → Bool) (vars : List Var) → list_any test (map name_of vars) ≡ false → list_any test (state_names vars) ≡ false
no_state test [] none = refl
no_state test (v ∷ vars) none =
    let both = or_parts (test (name_of v)) (list_any test (map name_of vars)) none in
    ap (list_any test) (one_state (is_state v.keep) v vars) ∙ states_step test (is_state v.keep) (name_of v) (state_names vars) both.0 (no_state test vars both.1)

once_step : (kept : Bool) (ports names : List (List ℕ)) (name : List ℕ) → list_any (same_name name) (ports ++ names) ≡ false → has_twice (ports ++ names) ≡ false → has_twice (ports ++ cond kept (name ∷ names) names) ≡ false
once_step true ports names name other once = twice_inserted ports names name other once
once_step false ports names name other once = once

-- behind ports, with whose names those of the variables are distinct
states_once : (ports : List (List ℕ)) (vars : List Var) → has_twice (map name_of vars ++ ports) ≡ false → has_twice (ports ++ state_names vars) ≡ false
states_once ports [] once = ap has_twice (nothing_behind ports) ∙ once
  where
    nothing_behind : (xs : List (List ℕ)) → xs ++ [] ≡ xs
    nothing_behind [] = refl
    nothing_behind (x ∷ xs) = ap (λ (l : List (List ℕ)). x ∷ l) (nothing_behind xs)
states_once ports (v ∷ vars) once =
    let test = same_name (name_of v) in
    let both = or_parts (list_any test (map name_of vars ++ ports)) (has_twice (map name_of vars ++ ports)) once in
    let apart = or_parts (list_any test (map name_of vars)) (list_any test ports) (sym (list_any-append test (map name_of vars) ports) ∙ both.0) in
    let other = list_any-append test ports (state_names vars) ∙ or_from _ _ apart.1 (no_state test vars apart.0) in
    ap (λ (l : List (List ℕ)). has_twice (ports ++ l)) (one_state (is_state v.keep) v vars) ∙ once_step (is_state v.keep) ports (state_names vars) (name_of v) other (states_once ports vars both.1)

-- ---- those of a task

all_front : (xs ys : List (List ℕ)) → AllByRecursion IsName (xs ++ ys) → AllByRecursion IsName xs
all_front [] ys h = tt
all_front (x ∷ xs) ys h = (h.0, all_front xs ys h.1)

all_back : (xs ys : List (List ℕ)) → AllByRecursion IsName (xs ++ ys) → AllByRecursion IsName ys
all_back [] ys h = h
all_back (x ∷ xs) ys h = all_back xs ys h.1

-- the names of variables, inputs and outputs
pub record HasNames (task : Task) : Type 0 where
  pub variables : AllByRecursion IsName (map name_of task.vars)
  pub inputs : AllByRecursion IsName task.inputs
  pub outputs : AllByRecursion IsName task.outputs
  pub few : length task.vars + length task.inputs + length task.outputs ≤ 256
  pub once : has_twice (task.inputs ++ (task.outputs ++ state_names task.vars)) ≡ false

pub names_of : (task : Task) → HasSoundDeclarations task → HasNames task
names_of task sound =
    let ports = task.inputs ++ task.outputs in
    let is = named task.vars (recursion_from_All IsDeclared task.vars sound.variables) in
    let all = subst (λ l. AllByRecursion IsName (l ++ ports)) is (recursion_from_All IsName (declared_names task) sound.names) in
    let behind = all_back (map name_of task.vars) ports all in
    let distinct = subst (λ l. AllPairs ◌≢◌ (l ++ ports)) is sound.distinct in
    let most = subst (λ l. length (l ++ ports) ≤ 256) is sound.most in
    record {
      variables = all_front (map name_of task.vars) ports all;
      inputs = all_front task.inputs task.outputs behind;
      outputs = all_back task.inputs task.outputs behind;
      few = omega (arith, most, length-append (map name_of task.vars) ports, length-append task.inputs task.outputs, length-map task.vars name_of);
      once =
          ap has_twice (sym (append_assoc task.inputs task.outputs (state_names task.vars)))
          ∙ states_once ports task.vars (distinct_once (map name_of task.vars ++ ports) distinct);
    }
