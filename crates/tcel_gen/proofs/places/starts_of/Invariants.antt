use Rattle.std.proofs.Common.{◌≡◌, ◌+◌, ◌++◌, drop}
use Rattle.tcel_core.specs.Cells.{all_words}
use Rattle.tcel_gen.specs.Places.{starts_from}
use Rattle.tcel_gen.proofs.places.starts_of.Given as goal

abbrev pub invariant-loop-var : goal.invariant-loop-var
invariant-loop-var l =
    let left = drop l.var-index l.vars in
    (l.words + all_words left ≡ all_words l.vars) × (l.starts ++ starts_from l.words left ≡ starts_from 0 l.vars)
