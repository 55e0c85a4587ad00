use Rattle.std.proofs.Common.{List, length, ap, arith}
use Rattle.tcel_core.specs.declared.var.Var.{Var}
use Rattle.tcel_core.specs.Cells.{all_words}
use Rattle.tcel_core.specs.Plain.{plain_body}
use Rattle.tcel_rename.proofs.Assembled.{few_loops}
use Rattle.tcel_rename.proofs.two_parts.words_of_parts.Goals as goal

pub overflow_add-result : goal.overflow_add-result
overflow_add-result c = let fits = c.in_ok-next_number.ensures.fits in let number = c.in_ok-next_number.ensures.number in let same = ap (λ (l : List Var). length l) c.as_slice.ensures in let few = few_loops (plain_body c.args.task.now.body) in let most = c.requires.body.nodes in omega arith

pub returns : goal.returns
returns c = let few = few_loops (plain_body c.args.task.now.body) in let most = c.requires.body.nodes in let same = ap (λ (l : List Var). all_words l) c.as_slice.ensures in omega arith
