-- Copies one after another, from variables that none of them writes.
use Rattle.std.proofs.Common.{◌≡◌, ◌≢◌, ℕ, ◌<◌, List, [], ◌∷◌, map, length, refl, sym, ◌∙◌, subst, ◌⊎◌, inl, inr}
use Rattle.tcel_core.specs.declared.var.Var.{Var}
use Rattle.tcel_core.specs.Cells.{all_words, width}
use Rattle.tcel_core.specs.Language.{item, copy}
use Rattle.tcel_core.specs.Meaning.{exec, exec_stmt}
use Rattle.tcel_core.specs.Outcome.{Memory, Outcome}
use Rattle.tcel_core.specs.Parts.{copies}
use Rattle.tcel_parts.proofs.Alike.{decide}
use Rattle.tcel_parts.proofs.Leaves.{act_leaves}
use Rattle.tcel_parts.proofs.Members.{In}
use Rattle.tcel_parts.proofs.Stores.{at, at_copy_same, at_copy_other}

-- what copies from g v to h v leave
pub record Copied (vars : List Var) (g h : ℕ → ℕ) (vs : List ℕ) (m : Memory) (o : Outcome) : Type 0 where
  pub events : o.events ≡ []
  pub inputs : o.memory.inputs ≡ m.inputs
  pub long : length o.memory.cells ≡ all_words vars
  pub copied : (v i : ℕ) → In vs v → i < width vars (h v) → at vars o.memory.cells (h v) i ≡ at vars m.cells (g v) i
  pub kept : (u i : ℕ) → ((v : ℕ) → In vs v → u ≢ h v) → i < width vars u → at vars o.memory.cells u i ≡ at vars m.cells u i

member_or : (vs : List ℕ) (v : ℕ) → In vs v ⊎ (In vs v → ⊥)
member_or [] v = inr (λ h. h)
member_or (w ∷ vs) v =
    elim (decide w v) [
      | inl e ↦ inl (inl e)
      | inr other ↦
          elim (member_or vs v) [
            | inl there ↦ inl (inr there)
            | inr out ↦ inr (λ h. elim h [ inl e ↦ other e | inr there ↦ out there ])
          ]
    ]

module _ (vars : List Var) (g h : ℕ → ℕ) where
  -- such copies can be made in any order
  pub record AreApart (vs : List ℕ) : Type 0 where
    pub wide : (v : ℕ) → In vs v → width vars (g v) ≡ width vars (h v)
    pub sources : (v w : ℕ) → In vs v → In vs w → g v ≢ h w
    pub targets : (v w : ℕ) → In vs v → In vs w → h v ≡ h w → v ≡ w

  later : (v : ℕ) (vs : List ℕ) → AreApart (v ∷ vs) → AreApart vs
  later v vs a =
      record {
        wide = λ w there. a.wide w (inr there);
        sources = λ w x there where_. a.sources w x (inr there) (inr where_);
        targets = λ w x there where_. a.targets w x (inr there) (inr where_);
      }

  pub copies_do : (vs : List ℕ) → AreApart vs → (m : Memory) → length m.cells ≡ all_words vars → Copied vars g h vs m (exec (copies (map (λ v. (g v, h v)) vs)) vars m)
  copies_do [] a m long = record { events = refl; inputs = refl; long = long; copied = λ v i there within. absurd there; kept = λ u i none within. refl }
  copies_do (v ∷ vs) a m long =
      let wide = a.wide v (inl refl) in
      let n = (exec_stmt (item 0 (copy (g v) (h v))) vars m).memory in
      let first = act_leaves vars (copy (g v) (h v)) wide m long in
      let rest = copies_do vs (later v vs a) n first.long in
      record {
        events = rest.events;
        inputs = rest.inputs;
        long = rest.long;
        copied = λ w i there within. chosen n rest (λ j in_width. at_copy_same vars m.cells (g v) (h v) j long wide in_width) (λ u j other in_width. at_copy_other vars m.cells (g v) (h v) u j long wide other in_width) w i there (member_or vs w) within;
        kept = λ u i none within.
            rest.kept u i (λ w there. none w (inr there)) within
            ∙ at_copy_other vars m.cells (g v) (h v) u i long wide (none v (inl refl)) within;
      }
    where
      chosen : (n : Memory) → Copied vars g h vs n (exec (copies (map (λ w. (g w, h w)) vs)) vars n) →
          ((j : ℕ) → j < width vars (h v) → at vars n.cells (h v) j ≡ at vars m.cells (g v) j) →
          ((u j : ℕ) → u ≢ h v → j < width vars u → at vars n.cells u j ≡ at vars m.cells u j) →
          (w i : ℕ) → In (v ∷ vs) w → In vs w ⊎ (In vs w → ⊥) → i < width vars (h w) →
          at vars (exec (copies (map (λ w. (g w, h w)) vs)) vars n).memory.cells (h w) i ≡ at vars m.cells (g w) i
      chosen n rest same other w i there (inl again) within =
          rest.copied w i again within ∙ other (g w) i (a.sources w v (inr again) (inl refl)) (subst (λ k. i < k) (sym (a.wide w (inr again))) within)
      chosen n rest same other w i (inr there) (inr out) within = absurd (out there)
      chosen n rest same other w i (inl e) (inr out) within =
          rest.kept (h w) i (λ x is_in eq. out (subst (λ y. In vs y) (sym (a.targets w x (inl e) (inr is_in) eq)) is_in)) within
          ∙ subst (λ y. i < width vars (h y) → at vars n.cells (h y) i ≡ at vars m.cells (g y) i) e (same i) within
