-- Parts of declarations, by the token in front of them.
use Rattle.std.specs.Prelude.{ℤ, Bool, List, Some}
use Rattle.tcel_token.specs.declared.sign.Sign.{Sign}
use Rattle.tcel_token.specs.declared.token.TokenKind.{TokenKind}
use Rattle.tcel_token.specs.Terminal.{Terminal}
use Rattle.tcel_tree.specs.declared.task.Decl.{Decl}
use Rattle.tcel_grammar.specs.Expressions.{IsToken}
use Rattle.tcel_grammar.specs.Programs.{IsDecl, IsFirst, IsFirstTruth, keeper}

-- a declaration behind its word `state` or `local`
abbrev pub IsKept : Bool → List Terminal → Decl → List Terminal → Type 0
IsKept state ts d rest = (before : List Terminal) → IsToken (TokenKind.Word (keeper state)) before ts → IsDecl before d rest

-- a first value behind its `=`
abbrev pub IsSet : List Terminal → ℤ → List Terminal → Type 0
IsSet ts n rest = (before : List Terminal) → IsToken (TokenKind.Sign Sign.Is) before ts → IsFirst before (Some n) rest

abbrev pub IsSetTruth : List Terminal → Bool → List Terminal → Type 0
IsSetTruth ts b rest = (before : List Terminal) → IsToken (TokenKind.Sign Sign.Is) before ts → IsFirstTruth before (Some b) rest
