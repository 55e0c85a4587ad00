use Rattle.std.proofs.Common.{◌≤◌, drop, map, Option}
use Rattle.tcel_check.specs.declared.mark.Mark.{Mark}
use Rattle.tcel_check.specs.Least.{Adds}
use Rattle.tcel_check.specs.Rows.{passing, word_mark}
use Rattle.tcel_check.proofs.head.many_words.Given as goal

-- from here to any end, what is left makes the whole
abbrev pub invariant-loop-decl : goal.invariant-loop-decl
invariant-loop-decl l = record {
  ahead : (end : Option Mark) → Adds l.least end (map word_mark (passing l.words (drop l.decl-index l.decls))) → Adds l.fn.least end (map word_mark (passing 0 l.decls));
  most : l.words ≤ 8192;
}
