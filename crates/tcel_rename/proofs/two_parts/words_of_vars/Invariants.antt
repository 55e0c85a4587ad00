use Rattle.std.proofs.Common.{◌≡◌, ◌+◌, ◌*◌, ◌≤◌, drop}
use Rattle.tcel_core.specs.Cells.{all_words}
use Rattle.tcel_rename.proofs.two_parts.words_of_vars.Given as goal

abbrev pub invariant-loop-var : goal.invariant-loop-var
invariant-loop-var l = record { exact : l.words + all_words (drop l.var-index l.vars) ≡ all_words l.vars; most : l.words ≤ 4294967295 * l.var-index }
