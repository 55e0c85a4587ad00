-- Where a list of tokens goes wrong: at the first token behind which no program goes on, or at the first one that nests too deep.
-- The earlier of both counts; a token that is both is answered as the first kind.
use Rattle.std.specs.Prelude.{◌≡◌, ◌≤◌, ◌+◌, ◌-◌, ◌&&◌, ◌||◌, not, ℕ, Bool, true, false, List, [], ◌∷◌, ◌++◌, count_by, if◌then◌else◌, IsTrue}
use Rattle.std.specs.List.{list_any}
use Rattle.std.specs.Option.{is_some}
use Rattle.tcel_num.specs.declared.at.At.{At}
use Rattle.tcel_token.specs.declared.sign.Sign.{Sign}
use Rattle.tcel_token.specs.declared.token.TokenKind.{TokenKind}
use Rattle.tcel_token.specs.Terminal.{Terminal}
use Rattle.tcel_tree.specs.Language.{Task}
use Rattle.tcel_grammar.specs.declared.deep.Deep.{Deep}
use Rattle.tcel_grammar.specs.declared.deep.Deep.TheVariants.{Nesting, Operators}
use Rattle.tcel_grammar.specs.Expressions.{binary_of, unary_of}
use Rattle.tcel_grammar.specs.Programs.{IsProgram, Begins}

abbrev pub is_opening : TokenKind → Bool
is_opening (TokenKind.Sign Sign.LeftBrace) = true
is_opening (TokenKind.Sign Sign.LeftRound) = true
is_opening (TokenKind.Sign Sign.LeftSquare) = true
is_opening _ = false

abbrev pub is_closing : TokenKind → Bool
is_closing (TokenKind.Sign Sign.RightBrace) = true
is_closing (TokenKind.Sign Sign.RightRound) = true
is_closing (TokenKind.Sign Sign.RightSquare) = true
is_closing _ = false

-- the brackets that tokens leave open
abbrev pub unclosed : List Terminal → ℕ
unclosed ts = count_by (λ (t : Terminal). is_opening t.kind) ts - count_by (λ (t : Terminal). is_closing t.kind) ts

abbrev pub is_operator : TokenKind → Bool
is_operator kind = is_some (binary_of kind) || is_some (unary_of kind)

-- no outermost expression goes on behind this token: `:=`, `;` and `{`
abbrev pub is_border : TokenKind → Bool
is_border (TokenKind.Sign Sign.Becomes) = true
is_border (TokenKind.Sign Sign.Semicolon) = true
is_border (TokenKind.Sign Sign.LeftBrace) = true
is_border _ = false

-- the operators of the outermost expression in which tokens end: those behind which no border stands
abbrev pub operators : List Terminal → ℕ
operators [] = 0
operators (t ∷ ts) =
    (if is_operator t.kind && not (list_any (λ (u : Terminal). is_border u.kind) ts) then 1 else 0) + operators ts

-- behind these tokens, this one is the 33rd unclosed bracket or more, or the 65th operator of one outermost expression or more
abbrev pub IsTooDeep : Deep → List Terminal → Terminal → Type 0
IsTooDeep Nesting front t = IsTrue (is_opening t.kind) × (32 ≤ unclosed front)
IsTooDeep Operators front t = IsTrue (is_operator t.kind) × (64 ≤ operators front)

-- no token is too deep
pub record IsShallow (ts : List Terminal) : Type 0 where
  pub at_each : (front : List Terminal) (t : Terminal) (back : List Terminal) (what : Deep) → ts ≡ front ++ t ∷ back → ¬ IsTooDeep what front t

-- the tokens are a program's, which has this tree, and none is too deep
pub record IsAccepted (ts : List Terminal) (p : List Task) : Type 0 where
  pub program : IsProgram ts p
  pub shallow : IsShallow ts

-- no program goes on with the first of the tokens that are left, or the text ends and is no program
abbrev pub Stops : List Terminal → List Terminal → Type 0
Stops front [] = (p : List Task) → ¬ IsProgram front p
Stops front (t ∷ back) = ¬ Begins (front ++ t ∷ [])

-- the place of the first token, or the text's end
abbrev pub place_of : List Terminal → At → At
place_of [] end = end
place_of (t ∷ back) end = t.at

-- the first token such that the tokens up to it begin no program is at this place, or all begin one, are none themselves
-- and the text ends there; and no token before it is too deep
pub record IsSyntaxFault (ts : List Terminal) (end at : At) : Type 0 where
  pub front : List Terminal
  pub rest : List Terminal
  pub split : ts ≡ front ++ rest
  pub begins : Begins front
  pub stops : Stops front rest
  pub shallow : IsShallow front
  pub place : at ≡ place_of rest end

-- the first token that is too deep is at this place, and the tokens up to it begin a program
pub record IsDepthFault (ts : List Terminal) (what : Deep) (at : At) : Type 0 where
  pub front : List Terminal
  pub bad : Terminal
  pub back : List Terminal
  pub split : ts ≡ front ++ bad ∷ back
  pub begins : Begins (front ++ bad ∷ [])
  pub deep : IsTooDeep what front bad
  pub shallow : IsShallow front
  pub place : at ≡ bad.at
