use Rattle.std.proofs.Common.{List, ℕ, sym, ap, ◌∙◌}
use Rattle.std.specs.Prelude.{slice_get}
use Rattle.tcel_core.specs.Contents.{item_loops, loops_before}
use Rattle.tcel_core.specs.Plain.{plain_body}
use Rattle.tcel_gen.proofs.FrontTables.{found, missing}
use Rattle.tcel_gen.proofs.firsts.Firsts.first.Goals as goal

pub returns-in-Some : goal.returns-in-Some
returns-in-Some c =
    let id = c.args.id in
    found (plain_body c.self.inside.source.now) id c.in-Some.front.now c.self.invariant.numbered (sym (c.in-Some.ensures.value ∙ ap (λ (l : List ℕ). slice_get l id) c.self.invariant.fronts))
    ∙ ap (λ b. loops_before id (item_loops (plain_body b))) c.self.view_is

pub returns-in-None : goal.returns-in-None
returns-in-None c =
    let id = c.args.id in
    c.self.invariant.all
    ∙ (missing (plain_body c.self.inside.source.now) id c.self.invariant.numbered (sym (c.in-None.ensures.value ∙ ap (λ (l : List ℕ). slice_get l id) c.self.invariant.fronts))
    ∙ ap (λ b. loops_before id (item_loops (plain_body b))) c.self.view_is)
