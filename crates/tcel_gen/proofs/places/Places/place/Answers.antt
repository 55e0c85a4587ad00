use Rattle.std.proofs.Common.{◌≡◌, ◌<◌, List, ℕ, length, get_or, sym, ap, ◌∙◌, subst, arith}
use Rattle.tcel_core.specs.Cells.{place}
use Rattle.tcel_gen.proofs.PlaceTables.{place_least, starts_at, starts_long}
use Rattle.tcel_gen.proofs.places.Places.place.Goals as goal

pub bounds-as_slice-var : goal.bounds-as_slice-var
bounds-as_slice-var c =
    subst (λ (l : List ℕ). c.min-var.result < length l) (sym (c.as_slice.ensures ∙ c.self.invariant.all)) (omega (arith, starts_long c.self.inside.vars.now 0, c.min-var.ensures))

pub returns : goal.returns
returns c =
    let vars = c.self.inside.vars.now in
    let n = c.min-var.result in
    subst (λ (l : List ℕ). get_or l n 0 ≡ place c.args.self.now c.args.var) (sym (c.as_slice.ensures ∙ c.self.invariant.all))
    (omega (
      arith,
      starts_at vars 0 n (omega (arith, c.min-var.ensures)),
      place_least vars c.args.var n (omega (arith, c.min-var.ensures)),
      ap (λ v. place v c.args.var) c.self.view_is,
    ))
