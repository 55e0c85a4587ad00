use Rattle.std.proofs.Common.{◌≡◌, ◌∙◌, ℕ, List, [], ◌∷◌, ap, inl, inr, refl, subst}
use Rattle.tcel_show.specs.Text.{canonical_text}
use Rattle.tcel_tree.specs.Plain.{plain_program}
use Rattle.tcel_tool.specs.Answer.{OrMemory}
use Rattle.tcel_tool.specs.ProgramText.{IsProgramText, RefusesText}
use Rattle.tcel_tool.proofs.Exits.{at_write_fault, cut_off, stops, taken}
use Rattle.tcel_tool.proofs.format.format.Goals as goal

pub returns-in_err-program-clause-goes : goal.returns-in_err-program-clause-goes
returns-in_err-program-clause-goes g c =
    let exit = c.from_residual-in_err-program in
    let given = c.in_err-program.field-0.0 in
    let cause = subst (λ t. OrMemory (RefusesText t) given) c.deref.ensures.value c.in_err-program.ensures.refusal in
    inr (c.in_ok-text.text.items, g.H.Shelf.seen c.load.new.shelf, c.in_ok-text.ensures.loaded, inl (stops exit.result given exit.ensures.1 cause, tt))

pub returns-in_err-put-clause-goes : goal.returns-in_err-put-clause-goes
returns-in_err-put-clause-goes g c =
    let exit = c.from_residual-in_err-put in
    let tasks = plain_program c.in_ok-program.program in
    let is = subst (λ t. IsProgramText t tasks) c.deref.ensures.value c.in_ok-program.ensures.program in
    let piece = c.deref-2.result.now in
    let canonical : piece ∷ [] ≡ canonical_text tasks ∷ [] = ap (λ (t : List ℕ). t ∷ []) (c.deref-2.ensures.value ∙ c.in_ok-canonical.ensures) in
    inr (
      c.in_ok-text.text.items,
      g.H.Shelf.seen c.load.new.shelf,
      c.in_ok-text.ensures.loaded,
      inr (
        (tasks, is),
        inr (cut_off (piece ∷ []) exit.result (record { tasks = tasks; program = is; is = canonical }) exit.ensures.1 (inl c.in_err-put.ensures.cut_off)),
      ),
    )

pub returns-clause-goes : goal.returns-clause-goes
returns-clause-goes g c =
    let tasks = plain_program c.in_ok-program.program in
    let is = subst (λ t. IsProgramText t tasks) c.deref.ensures.value c.in_ok-program.ensures.program in
    let piece = c.deref-2.result.now in
    let canonical : piece ∷ [] ≡ canonical_text tasks ∷ [] = ap (λ (t : List ℕ). t ∷ []) (c.deref-2.ensures.value ∙ c.in_ok-canonical.ensures) in
    inr (
      c.in_ok-text.text.items,
      g.H.Shelf.seen c.load.new.shelf,
      c.in_ok-text.ensures.loaded,
      inr (
        (tasks, is),
        inr (taken (piece ∷ []) (record { tasks = tasks; program = is; is = canonical }) (g.K.Sink.seen c.put.new.self, c.in_ok-put.ensures.taken, refl)),
      ),
    )

pub returns-in_err-put-clause-untouched : goal.returns-in_err-put-clause-untouched
returns-in_err-put-clause-untouched g c = inl (at_write_fault c.from_residual-in_err-put.result c.from_residual-in_err-put.ensures.1)
