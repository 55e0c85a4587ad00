use Rattle.std.proofs.Common.{◌≡◌, ◌+◌, ◌∷◌, ◌++◌, [], List, ap, sym, ◌∙◌, take, Bool, not, Option, is_some}
use Rattle.std.proofs.lemmas.List.{take_more}
use Rattle.tcel_tree.specs.declared.task.Decl.{Decl}
use Rattle.std.specs.List.{list_any}
use Rattle.tcel_tree.specs.declared.task.DeclKind.{DeclKind}
use Rattle.tcel_check.specs.Known.{known_behind}
use Rattle.tcel_check.specs.Spelled.{IsSpelledDecl}
use Rattle.tcel_check.specs.Types.{kind_of}
use Rattle.tcel_check.specs.Rows.{same_decl, twice_mark}
use Rattle.tcel_check.proofs.Heads.{repeats_more, was_seen}
use Rattle.tcel_check.proofs.Walking.{all_append}
use Rattle.tcel_check.proofs.SameNames.{kind_of_push, declared_before}
use Rattle.tcel_check.proofs.head.declared.Goals as goal

-- what is new isn't declared before
by_new : (new : Bool) (ds : List Decl) (d : Decl) {known : Option DeclKind} → known ≡ kind_of ds d.name → new ≡ not (is_some known) → not new ≡ list_any (same_decl d) ds
by_new new ds d {known} same is = was_seen new (is_some known) _ is (ap is_some same ∙ declared_before ds d)

pub loop-decl-preserved : goal.loop-decl-preserved
loop-decl-preserved c =
    let ds = c.args.decls.now in
    let i = c.loop-decl.decl-index in
    let d = c.decl-item.result in
    let more : take (i + 1) ds ≡ take i ds ++ d ∷ [] = take_more ds i d c.loop-decl-test.true ∙ ap (λ (x : Decl). take i ds ++ x ∷ []) (sym c.decl-item.is) in
    record {
      known = λ name. c.in_ok-new.ensures.known name ∙ ap (λ k. known_behind k d name) (c.loop-decl.invariant.known name) ∙ sym (kind_of_push (take i ds) d name) ∙ ap (λ l. kind_of l name) (sym more);
      spelled = rw more (all_append IsSpelledDecl (take i ds) (d ∷ []) c.loop-decl.invariant.spelled (c.in_ok-new.ensures.spelled, tt));
      twice = rw more (repeats_more same_decl twice_mark (take i ds) d _ (by_new c.in_ok-new.new (take i ds) d (c.loop-decl.invariant.known d.name) c.in_ok-new.ensures.new) c.keep.ensures c.loop-decl.invariant.twice);
    }
