use Rattle.std.proofs.Common.{◌≡◌, ◌∙◌, ap, length, replicate, arith}
use Rattle.tcel_core.specs.Inputs.{left_of}
use Rattle.tcel_core.proofs.InputsLemmas.{left_of-none}
use Rattle.tcel_core.proofs.inputs.Inputs.new.Goals as goal

pub returns : goal.returns
returns c =
    let lists = c.args.lists.items in
    let count : c.len.result ≡ length lists = omega (arith, c.args.lists.ok.0) in
    ap (λ taken. left_of lists taken)
    (c.in_ok-taken.ensures.items_if_clones_equal (λ y e. e) ∙ ap (λ n. replicate n 0) count)
    ∙ left_of-none lists
