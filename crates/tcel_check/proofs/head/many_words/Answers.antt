use Rattle.std.proofs.Common.{◌≡◌, ◌∷◌, ◌∙◌, ◌+◌, [], ap, drop, sym}
use Rattle.std.proofs.lemmas.List.{drop_more, drop_all}
use Rattle.tcel_tree.specs.declared.task.Decl.{Decl}
use Rattle.tcel_check.proofs.Firsts.{adds_none}
use Rattle.tcel_check.proofs.head.many_words.Goals as goal

pub loop-decl-preserved : goal.loop-decl-preserved
loop-decl-preserved c =
    let ds = c.args.decls.now in
    let i = c.loop-decl.decl-index in
    let d = c.decl-item.result in
    let left : drop i ds ≡ d ∷ drop (i + 1) ds = drop_more ds i d c.loop-decl-test.true ∙ ap (λ (x : Decl). x ∷ drop (i + 1) ds) (sym c.decl-item.is) in
    record {
      ahead = λ end rest. c.loop-decl.invariant.ahead end (rw left (c.words_behind-words.ensures.step end (drop (i + 1) ds) rest));
      most = c.words_behind-words.ensures.most;
    }

pub returns : goal.returns
returns c =
    let none : drop c.loop-decl.decl-index c.args.decls.now ≡ [] = drop_all c.loop-decl.decl-index c.args.decls.now c.loop-decl-test.false in
    c.loop-decl.invariant.ahead c.loop-decl.least (rw none (adds_none c.loop-decl.least))
