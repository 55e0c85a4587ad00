use Rattle.std.proofs.Common.{◌≡◌, ◌<◌, ◌≤◌, List, ℕ, length, get_or, sym, ap, ◌∙◌, subst, arith}
use Rattle.tcel_core.specs.Cells.{all_words}
use Rattle.tcel_gen.proofs.PlaceTables.{place_past, starts_at, starts_long}
use Rattle.tcel_gen.proofs.places.Places.words.Goals as goal

pub bounds-as_slice-self-inside : goal.bounds-as_slice-self-inside
bounds-as_slice-self-inside c =
    let vars = c.self.inside.vars.now in
    subst (λ (l : List ℕ). length vars < length l) (sym (c.as_slice.ensures ∙ c.self.invariant.all)) (omega (arith, starts_long vars 0))

pub returns-clause-words : goal.returns-clause-words
returns-clause-words c =
    let vars = c.self.inside.vars.now in
    subst (λ (l : List ℕ). get_or l (length vars) 0 ≡ all_words c.args.self.now) (sym (c.as_slice.ensures ∙ c.self.invariant.all))
    (omega (arith, starts_at vars 0 (length vars) (omega arith), place_past vars (length vars) (omega arith), ap (λ v. all_words v) c.self.view_is))

pub returns-clause-few : goal.returns-clause-few
returns-clause-few c =
    let vars = c.self.inside.vars.now in
    let few = c.self.invariant.few in
    subst (λ (l : List ℕ). get_or l (length vars) 0 ≤ 65536) (sym (c.as_slice.ensures ∙ c.self.invariant.all))
    (omega (arith, few, starts_at vars 0 (length vars) (omega arith), place_past vars (length vars) (omega arith)))
