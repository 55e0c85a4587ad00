use Rattle.std.proofs.Common.{take}
use Rattle.std.specs.Prelude.{flat_map}
use Rattle.tcel_show.specs.Canonical.{decl_tokens}
use Rattle.tcel_show.specs.Puts.{Puts}
use Rattle.tcel_show.proofs.writer.Writer.decls.Given as goal

abbrev pub invariant-loop-decl : goal.invariant-loop-decl
invariant-loop-decl l = Puts l.fn.self l.self (flat_map decl_tokens (take l.decl-index l.decls))
