use Rattle.std.proofs.Common.{rules, tests}
use Rattle.std.proofs.lemmas.Iterator.Search.{all_from_yields_List}
use Rattle.std.proofs.lemmas.Iterator.Splits.{YieldsList-from_slice_split}
use Rattle.std.specs.Prelude.{◌==◌, is_some}
use Rattle.tcel_trace.specs.Reading.{signed_in}
use Rattle.tcel_trace.proofs.read_states.all_numbers.Goals as goal

pub returns : goal.returns
returns c =
    all_from_yields_List (λ word. is_some (signed_in word)) _ _ _ c.all.ensures.ran
    (YieldsList-from_slice_split _ (λ b. b == 44) c.args.numbers.now c.split.ensures.rest c.split.ensures.done c.split.ensures.closure
    (λ x r q k. search (rules, tests))) (λ x b q k. search (rules, tests))
