-- The states of an image, one variable after another.
use Rattle.std.proofs.Common.{◌≡◌, ℕ, zero, suc, ◌+◌, ◌<◌, Bool, true, false, cond, List, [], ◌∷◌, ◌++◌, length, get_or, drop, map, ap, ◌∙◌, arith, append_assoc}
use Rattle.std.specs.Prelude.{filter}
use Rattle.std.proofs.lemmas.List.{append-nil}
use Rattle.tcel_core.specs.declared.var.Var.{Var}
use Rattle.tcel_core.specs.Frames.{is_state}
use Rattle.tcel_image.specs.declared.image.ImageState.{ImageState}
use Rattle.tcel_code.specs.Layout.{state_of, states_of}

one_state : (b : Bool) (x : Var) (more : List Var) (old : List ImageState) → (old ++ cond b (state_of x ∷ []) []) ++ map state_of more ≡ old ++ map state_of (cond b (x ∷ more) more)
one_state true x more old = append_assoc old (state_of x ∷ []) (map state_of more)
one_state false x more old = ap (λ (l : List ImageState). l ++ map state_of more) (append-nil old)

pub states_next : (vars : List Var) (i : ℕ) (v : Var) (old : List ImageState) → i < length vars → v ≡ get_or vars i v →
    (old ++ cond (is_state v.keep) (state_of v ∷ []) []) ++ states_of (drop (i + 1) vars) ≡ old ++ states_of (drop i vars)
states_next [] i v old h e = absurd (omega arith)
states_next (x ∷ vars) zero v old h e =
    ap (λ (w : Var). (old ++ cond (is_state w.keep) (state_of w ∷ []) []) ++ states_of vars) e ∙ one_state (is_state x.keep) x (filter (λ (w : Var). is_state w.keep) vars) old
states_next (x ∷ vars) (suc i) v old h e =
    let more : suc i + 1 ≡ suc (i + 1) = omega arith in
    ap (λ k. (old ++ cond (is_state v.keep) (state_of v ∷ []) []) ++ states_of (drop k (x ∷ vars))) more ∙ states_next vars i v old (omega (arith, h)) e
