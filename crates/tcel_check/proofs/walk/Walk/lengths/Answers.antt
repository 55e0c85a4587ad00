use Rattle.std.proofs.Common.{◌≡◌, ◌+◌, ◌∷◌, ◌++◌, [], List, ap, sym, ◌∙◌, take}
use Rattle.std.specs.Prelude.{flat_map}
use Rattle.std.proofs.lemmas.List.{take_more, take_all, append-nil}
use Rattle.std.proofs.lemmas.Grind.{flat_map-append}
use Rattle.tcel_tree.specs.declared.task.Decl.{Decl}
use Rattle.tcel_check.specs.Sights.{Sight, length_sights}
use Rattle.tcel_check.proofs.Walking.{saw_then, saw_same}
use Rattle.tcel_check.proofs.walk.Walk.lengths.Goals as goal

pub loop-decl-preserved : goal.loop-decl-preserved
loop-decl-preserved c = λ kind.
    let ds = c.args.decls.now in
    let i = c.loop-decl.decl-index in
    let d = c.decl-item.result in
    let f : Decl → List Sight = λ (x : Decl). length_sights x.kind in
    let more : take (i + 1) ds ≡ take i ds ++ d ∷ [] = take_more ds i d c.loop-decl-test.true ∙ ap (λ (x : Decl). take i ds ++ x ∷ []) (sym c.decl-item.is) in
    let sights : flat_map f (take (i + 1) ds) ≡ flat_map f (take i ds) ++ f d =
    ap (flat_map f) more ∙ flat_map-append f (take i ds) (d ∷ []) ∙ ap (λ (ss : List Sight). flat_map f (take i ds) ++ ss) (append-nil (f d))
    in
    saw_same sights (saw_then (c.loop-decl.invariant kind) (c.length.ensures kind))

pub returns : goal.returns
returns c = λ kind.
    let all : take c.loop-decl.decl-index c.args.decls.now ≡ c.args.decls.now = take_all c.loop-decl.decl-index c.args.decls.now c.loop-decl-test.false in
    rw all at (c.loop-decl.invariant kind)
