-- What a writer was given.
use Rattle.std.specs.Prelude.{◌≡◌, ◌++◌, List}
use Rattle.tcel_token.specs.declared.token.TokenKind.{TokenKind}
use Rattle.tcel_show.specs.declared.writer.Writer.{Writer}
use Rattle.tcel_show.specs.Layout.{Layout, laid, behind_all}

-- where the next token is put
abbrev pub layout : Writer → Layout
layout w = record { depth = w.depth; before = w.before }

-- these tokens were put
pub record Puts (old new : Writer) (kinds : List TokenKind) : Type 0 where
  pub text : new.text.items ≡ old.text.items ++ laid (layout old) kinds
  pub layout : layout new ≡ behind_all (layout old) kinds
