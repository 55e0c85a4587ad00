-- The worst responses of all points of a task, side by side.
use Rattle.std.proofs.Common.{◌≡◌, ℕ, ◌+◌, ◌<◌, ◌≤◌, List, Some, length, get_or, set, refl, sym, ◌∙◌, subst, arith, inl, inr, get_or-set_other, get_or-set_same}
use Rattle.std.specs.Prelude.{slice_get}
use Rattle.std.proofs.lemmas.Bool.{cases_eq}
use Rattle.std.proofs.lemmas.Option.{slice_get_within, slice_get-get_or, get_or_from_slice_get}
use Rattle.tcel_busy.specs.WorstStretches.{IsWorstWith, AreWorstWith}
use Rattle.tcel_busy.specs.declared.stretch.Stretch.{Stretch}
use Rattle.tcel_demand.specs.declared.plan.Worst.{Worst}
use Rattle.tcel_num.specs.Plan.{Point}

-- the first places have the stretch, the others are as they were
pub record IsWidening (points : List Point) (stretch : Stretch) (many : ℕ) (old now : List Worst) : Type 0 where
  pub widened : (k : ℕ) (point : Point) (d : Worst) → k < many → slice_get points k ≡ Some point → IsWorstWith point.prefix stretch (get_or old k d) (get_or now k d)
  pub left : (k : ℕ) (d : Worst) → many ≤ k → get_or now k d ≡ get_or old k d

pub widening_none : (points : List Point) (stretch : Stretch) (old : List Worst) → IsWidening points stretch 0 old old
widening_none points stretch old = record { widened = λ k point d less e. absurd (omega arith); left = λ k d most. refl }

pub widening_more : (points : List Point) (stretch : Stretch) (many : ℕ) (old now : List Worst) (point : Point) (none next : Worst) → IsWidening points stretch many old now → many < length now → slice_get points many ≡ Some point →
    IsWorstWith point.prefix stretch (get_or now many none) next → IsWidening points stretch (many + 1) old (set now many next)
widening_more points stretch many old now point none next h within e with_it =
    record {
      widened = λ k other d less f. elim (cases_eq k many) [
        | inr apart ↦ rw (get_or-set_other now many k next d apart) (h.widened k other d (omega arith) f)
        | inl same ↦
            let there : slice_get points many ≡ Some other = subst (λ i. slice_get points i ≡ Some other) same f in
            let point_same : point ≡ other = cc in
            let read : get_or now many d ≡ get_or now many none = get_or_from_slice_get now many (get_or now many none) d (slice_get-get_or now many none within) in
            let before : get_or now many none ≡ get_or old many d = sym read ∙ h.left many d (omega arith) in
            let after : next ≡ get_or (set now many next) many d = sym (get_or-set_same now many next d within) in
            subst (λ i. IsWorstWith other.prefix stretch (get_or old i d) (get_or (set now many next) i d)) (sym same)
            (subst (λ w. IsWorstWith other.prefix stretch w (get_or (set now many next) many d)) before
            (subst (λ w. IsWorstWith other.prefix stretch (get_or now many none) w) after (subst (λ (p : Point). IsWorstWith p.prefix stretch (get_or now many none) next) point_same with_it)))
      ];
      left = λ k d most. rw (get_or-set_other now many k next d (omega arith)) (h.left k d (omega arith));
    }

pub widening_all : (points : List Point) (stretch : Stretch) (many : ℕ) (old now : List Worst) → length points ≤ many → IsWidening points stretch many old now → AreWorstWith points stretch old now
widening_all points stretch many old now all h = λ k point d e. h.widened k point d (let within = slice_get_within points k point e in omega arith) e
