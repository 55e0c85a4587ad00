-- The canonical text of a program is read as the program again, but for its places.
use Rattle.std.specs.Prelude.{◌≡◌, List}
use Rattle.tcel_token.specs.declared.token.Tokens.{Tokens}
use Rattle.tcel_token.specs.Terminal.{terminals}
use Rattle.tcel_token.specs.Tokens.{HasTokens}
use Rattle.tcel_tree.specs.Language.{Task}
use Rattle.tcel_tree.specs.Unplaced.{unplaced_program}
use Rattle.tcel_grammar.specs.Programs.{IsProgram}
use Rattle.tcel_show.specs.Text.{canonical_text}

-- the canonical text has tokens, of which the grammar makes a program that is equal but for places, and has the same canonical text
pub record ReadsBack (p : List Task) : Type 0 where
  pub tokens : Tokens
  pub read : HasTokens (canonical_text p) tokens
  pub program : List Task
  pub grammar : IsProgram (terminals tokens.list) program
  pub same : unplaced_program program ≡ unplaced_program p
  pub again : canonical_text program ≡ canonical_text p
