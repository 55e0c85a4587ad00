use Rattle.std.proofs.Common.{◌≡◌, ◌++◌, drop}
use Rattle.tcel_code.specs.Layout.{states_of}
use Rattle.tcel_gen.proofs.task.states_of.Given as goal

abbrev pub invariant-loop-var : goal.invariant-loop-var
invariant-loop-var l = l.states ++ states_of (drop l.var-index l.vars) ≡ states_of l.vars
