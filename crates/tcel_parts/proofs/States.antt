-- The words of the states, which stand first.
use Rattle.std.proofs.Common.{◌≡◌, ℕ, zero, suc, ◌+◌, ◌-◌, ◌<◌, true, false, cond, ℤ, pos, List, [], ◌∷◌, ◌++◌, length, get_or, refl, sym, ap, ◌∙◌, subst, arith, inl, inr}
use Rattle.std.specs.Prelude.{take}
use Rattle.std.proofs.lemmas.Bool.{cases_lt}
use Rattle.std.proofs.lemmas.List.{ext_get_or, get_or-take, length-take-le}
use Rattle.tcel_core.specs.declared.var.Var.{Var}
use Rattle.tcel_core.specs.Cells.{all_words, place, width, words_of}
use Rattle.tcel_core.specs.Frames.{is_state, state_words, state_of}
use Rattle.tcel_core.specs.Kinds.{is_state_variable}
use Rattle.tcel_core.proofs.StateWords.{states_within}
use Rattle.tcel_parts.proofs.Alike.{has_place}
use Rattle.tcel_parts.proofs.Members.{In}
use Rattle.tcel_parts.proofs.NewVariables.{place_own, width_own}
use Rattle.tcel_parts.proofs.Stores.{at}

-- all are states, or none is
abbrev pub AreStates : List Var → Type 0
AreStates vars = (x : Var) → In vars x → is_state x.keep ≡ true

abbrev pub AreNoStates : List Var → Type 0
AreNoStates vars = (x : Var) → In vars x → is_state x.keep ≡ false

none_words : (vars : List Var) → AreNoStates vars → state_words vars ≡ 0
none_words [] h = refl
none_words (x ∷ vars) h =
    ap (λ b. cond b (words_of x.kind) 0 + state_words vars) (h x (inl refl)) ∙ plus (state_words vars) (none_words vars (λ y there. h y (inr there)))
  where
    plus : (n : ℕ) → n ≡ 0 → 0 + n ≡ 0
    plus n e = omega arith

pub state_words-append : (a b : List Var) → AreNoStates b → state_words (a ++ b) ≡ state_words a
state_words-append [] b h = none_words b h
state_words-append (x ∷ a) b h = ap (λ n. cond (is_state x.keep) (words_of x.kind) 0 + n) (state_words-append a b h)

all_states : (a : List Var) → AreStates a → state_words a ≡ all_words a
all_states [] h = refl
all_states (x ∷ a) h =
    ap (λ b. cond b (words_of x.kind) 0 + state_words a) (h x (inl refl)) ∙ ap (λ n. words_of x.kind + n) (all_states a (λ y there. h y (inr there)))

-- a word is one of a variable
find_word : (a : List Var) (j : ℕ) → j < all_words a → (v : ℕ) × (i : ℕ) × (v < length a) × (i < width a v) × (place a v + i ≡ j)
find_word [] j h = absurd (omega arith)
find_word (x ∷ a) j h =
    elim (cases_lt j (words_of x.kind)) [
      | inl less ↦ (0, j, omega arith, omega arith, omega arith)
      | inr past ↦
          let r = find_word a (j - words_of x.kind) (omega arith) in
          let less = r.2 in
          let at_place = r.4 in
          (suc r.0, r.1, omega arith, r.3, omega arith)
    ]

is_state_there : (a b : List Var) (v : ℕ) → AreStates a → v < length a → is_state_variable (a ++ b) v ≡ true
is_state_there [] b v h less = absurd (omega arith)
is_state_there (x ∷ a) b zero h less = h x (inl refl)
is_state_there (x ∷ a) b (suc v) h less = is_state_there a b v (λ y there. h y (inr there)) (omega arith)

-- each word of the states is one of a state variable
abbrev pub HoldStates : List Var → Type 0
HoldStates vars = (j : ℕ) → j < state_words vars → (v : ℕ) × (i : ℕ) × (is_state_variable vars v ≡ true) × (i < width vars v) × (place vars v + i ≡ j)

pub first_states : (a b : List Var) → AreStates a → AreNoStates b → HoldStates (a ++ b)
first_states a b h g j less =
    let r = find_word a j (subst (λ n. j < n) (state_words-append a b g ∙ all_states a h) less) in
    (r.0, r.1, is_state_there a b r.0 h r.2, subst (λ n. r.1 < n) (sym (width_own a b r.0 r.2)) r.3, ap (λ n. n + r.1) (place_own a b r.0 (let low = r.2 in omega arith)) ∙ r.4)

-- equal words of each state variable are equal states
pub same_states : (vars more : List Var) (cells cells' : List ℤ) → HoldStates vars → AreNoStates more → length cells ≡ all_words vars → length cells' ≡ all_words (vars ++ more) →
    ((v i : ℕ) → is_state_variable vars v ≡ true → v < length vars → i < width vars v → at vars cells v i ≡ at (vars ++ more) cells' v i) →
    state_of (vars ++ more) cells' ≡ state_of vars cells
same_states vars more cells cells' states none long long' same =
    let words = state_words-append vars more none in
    let within = states_within vars in
    let within' = states_within (vars ++ more) in
    let size = length-take-le (state_words vars) cells (omega arith) in
    let size' = length-take-le (state_words vars) cells' (omega arith) in
    ap (λ n. take n cells') words
    ∙ sym
    (ext_get_or (pos 0) (take (state_words vars) cells) (take (state_words vars) cells') (size ∙ sym size')
    (λ j less.
    let low : j < state_words vars = subst (λ n. j < n) size less in
    let r = states j low in
    get_or-take (state_words vars) cells j (pos 0) low
    ∙ (ap (λ n. get_or cells n (pos 0)) (sym r.4)
    ∙ (same r.0 r.1 r.2 (has_place vars r.0 r.1 r.3) r.3
    ∙ (ap (λ n. get_or cells' n (pos 0)) (ap (λ n. n + r.1) (place_own vars more r.0 (let low = has_place vars r.0 r.1 r.3 in omega arith)) ∙ r.4)
    ∙ sym (get_or-take (state_words vars) cells' j (pos 0) low))))))
