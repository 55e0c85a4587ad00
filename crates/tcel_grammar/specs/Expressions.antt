-- The grammar of expressions. Each relation says what a list of tokens begins with, and what rest of the list stands behind it.
use Rattle.std.specs.Prelude.{◌≡◌, ℕ, ℤ, true, false, List, ◌∷◌, Option, Some, None}
use Rattle.tcel_num.specs.declared.at.At.{At}
use Rattle.tcel_num.specs.declared.op.Op.{Op}
use Rattle.tcel_token.specs.declared.keyword.Keyword.{Keyword}
use Rattle.tcel_token.specs.declared.sign.Sign.{Sign}
use Rattle.tcel_token.specs.declared.token.TokenKind.{TokenKind}
use Rattle.tcel_token.specs.Terminal.{Terminal}
use Rattle.tcel_tree.specs.Language.{Expr, number, truth, variable, element, unary, binary}

-- a token at a place
abbrev pub placed : TokenKind → At → Terminal
placed kind at = record { kind = kind; at = at }

-- this token stands here, at a place that the tree keeps
pub data IsPlaced (kind : TokenKind) : List Terminal → At → List Terminal → Type 0 where
  here : {at : At} {rest : List Terminal} → IsPlaced kind (placed kind at ∷ rest) at rest

-- this token stands here
pub data IsToken (kind : TokenKind) : List Terminal → List Terminal → Type 0 where
  there : {at : At} {rest : List Terminal} → IsToken kind (placed kind at ∷ rest) rest

-- the operator between two operands for which a token stands
abbrev pub binary_of : TokenKind → Option Op
binary_of (TokenKind.Word Keyword.Or) = Some Op.Or
binary_of (TokenKind.Word Keyword.And) = Some Op.And
binary_of (TokenKind.Sign Sign.Equal) = Some Op.Equal
binary_of (TokenKind.Sign Sign.Unequal) = Some Op.Unequal
binary_of (TokenKind.Sign Sign.Less) = Some Op.Less
binary_of (TokenKind.Sign Sign.LessOrEqual) = Some Op.LessOrEqual
binary_of (TokenKind.Sign Sign.Greater) = Some Op.Greater
binary_of (TokenKind.Sign Sign.GreaterOrEqual) = Some Op.GreaterOrEqual
binary_of (TokenKind.Sign Sign.Plus) = Some Op.Add
binary_of (TokenKind.Sign Sign.Minus) = Some Op.Sub
binary_of (TokenKind.Sign Sign.Star) = Some Op.Mul
binary_of (TokenKind.Sign Sign.Slash) = Some Op.Div
binary_of (TokenKind.Sign Sign.Percent) = Some Op.Rem
binary_of _ = None

-- the operator in front of its operand for which a token stands
abbrev pub unary_of : TokenKind → Option Op
unary_of (TokenKind.Sign Sign.Minus) = Some Op.Neg
unary_of (TokenKind.Word Keyword.Not) = Some Op.Not
unary_of _ = None

-- the levels of expressions, the loosest first
pub data Level : Type 0 where
  disjunction : Level
  conjunction : Level
  comparison : Level
  sum : Level
  term : Level
  factor : Level
  atom : Level

-- the level of what an operator makes
abbrev pub level_of : Op → Level
level_of Op.Or = disjunction
level_of Op.And = conjunction
level_of Op.Equal = comparison
level_of Op.Unequal = comparison
level_of Op.Less = comparison
level_of Op.LessOrEqual = comparison
level_of Op.Greater = comparison
level_of Op.GreaterOrEqual = comparison
level_of Op.Add = sum
level_of Op.Sub = sum
level_of Op.Mul = term
level_of Op.Div = term
level_of Op.Rem = term
level_of Op.Neg = factor
level_of Op.Not = factor

-- an operator of this level between two operands
pub data IsBinary (level : Level) : List Terminal → At → Op → List Terminal → Type 0 where
  between : {kind : TokenKind} {op : Op} {ts rest : List Terminal} {at : At} →
      IsPlaced kind ts at rest → binary_of kind ≡ Some op → level_of op ≡ level → IsBinary level ts at op rest

-- an operator in front of its operand
pub data IsUnary : List Terminal → At → Op → List Terminal → Type 0 where
  before : {kind : TokenKind} {op : Op} {ts rest : List Terminal} {at : At} →
      IsPlaced kind ts at rest → unary_of kind ≡ Some op → IsUnary ts at op rest

-- an expression of a level, by cases as the grammar has them; chains group to the left
pub data IsExpr : Level → List Terminal → Expr → List Terminal → Type 0 where
  -- disjunction = conjunction { "or" conjunction }
  a_conjunction : {ts rest : List Terminal} {e : Expr} → IsExpr conjunction ts e rest → IsExpr disjunction ts e rest
  disjoined : {ts a b rest : List Terminal} {at : At} {op : Op} {left right : Expr} →
      IsExpr disjunction ts left a → IsBinary disjunction a at op b → IsExpr conjunction b right rest →
      IsExpr disjunction ts (binary at op left right) rest
  -- conjunction = comparison { "and" comparison }
  a_comparison : {ts rest : List Terminal} {e : Expr} → IsExpr comparison ts e rest → IsExpr conjunction ts e rest
  conjoined : {ts a b rest : List Terminal} {at : At} {op : Op} {left right : Expr} →
      IsExpr conjunction ts left a → IsBinary conjunction a at op b → IsExpr comparison b right rest →
      IsExpr conjunction ts (binary at op left right) rest
  -- comparison = sum [ ( "==" | "!=" | "<" | "<=" | ">" | ">=" ) sum ]
  a_sum : {ts rest : List Terminal} {e : Expr} → IsExpr sum ts e rest → IsExpr comparison ts e rest
  compared : {ts a b rest : List Terminal} {at : At} {op : Op} {left right : Expr} →
      IsExpr sum ts left a → IsBinary comparison a at op b → IsExpr sum b right rest →
      IsExpr comparison ts (binary at op left right) rest
  -- sum = term { ( "+" | "-" ) term }
  a_term : {ts rest : List Terminal} {e : Expr} → IsExpr term ts e rest → IsExpr sum ts e rest
  added : {ts a b rest : List Terminal} {at : At} {op : Op} {left right : Expr} →
      IsExpr sum ts left a → IsBinary sum a at op b → IsExpr term b right rest →
      IsExpr sum ts (binary at op left right) rest
  -- term = factor { ( "*" | "/" | "%" ) factor }
  a_factor : {ts rest : List Terminal} {e : Expr} → IsExpr factor ts e rest → IsExpr term ts e rest
  multiplied : {ts a b rest : List Terminal} {at : At} {op : Op} {left right : Expr} →
      IsExpr term ts left a → IsBinary term a at op b → IsExpr factor b right rest →
      IsExpr term ts (binary at op left right) rest
  -- factor = [ "-" | "not" ] atom
  an_atom : {ts rest : List Terminal} {e : Expr} → IsExpr atom ts e rest → IsExpr factor ts e rest
  applied : {ts a rest : List Terminal} {at : At} {op : Op} {operand : Expr} →
      IsUnary ts at op a → IsExpr atom a operand rest → IsExpr factor ts (unary at op operand) rest
  -- atom = NUMBER | "true" | "false" | NAME [ "[" expr "]" ] | "(" expr ")"
  a_number : {ts rest : List Terminal} {at : At} {n : ℤ} → IsPlaced (TokenKind.Number n) ts at rest → IsExpr atom ts (number at n) rest
  yes : {ts rest : List Terminal} {at : At} → IsPlaced (TokenKind.Word Keyword.True) ts at rest → IsExpr atom ts (truth at true) rest
  no : {ts rest : List Terminal} {at : At} → IsPlaced (TokenKind.Word Keyword.False) ts at rest → IsExpr atom ts (truth at false) rest
  a_variable : {ts rest : List Terminal} {at : At} {name : List ℕ} →
      IsPlaced (TokenKind.Name name) ts at rest → IsExpr atom ts (variable at name) rest
  an_element : {ts a b c rest : List Terminal} {at : At} {name : List ℕ} {index : Expr} →
      IsPlaced (TokenKind.Name name) ts at a → IsToken (TokenKind.Sign Sign.LeftSquare) a b → IsExpr disjunction b index c →
      IsToken (TokenKind.Sign Sign.RightSquare) c rest → IsExpr atom ts (element at name index) rest
  bracketed : {ts a b rest : List Terminal} {e : Expr} →
      IsToken (TokenKind.Sign Sign.LeftRound) ts a → IsExpr disjunction a e b → IsToken (TokenKind.Sign Sign.RightRound) b rest →
      IsExpr atom ts e rest
