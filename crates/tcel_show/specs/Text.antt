-- The canonical text of a program.
use Rattle.std.specs.Prelude.{ℕ, List}
use Rattle.tcel_tree.specs.Language.{Task}
use Rattle.tcel_show.specs.Canonical.{program_tokens}
use Rattle.tcel_show.specs.Layout.{whole_text}

-- its canonical tokens, laid out
abbrev pub canonical_text : List Task → List ℕ
canonical_text ts = whole_text (program_tokens ts)
