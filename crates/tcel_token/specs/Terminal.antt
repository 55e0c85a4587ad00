-- What the grammar sees of a token: what it is, and where it stands.
use Rattle.std.specs.Prelude.{List, map}
use Rattle.tcel_num.specs.declared.at.At.{At}
use Rattle.tcel_token.specs.declared.token.Token.{Token}
use Rattle.tcel_token.specs.declared.token.TokenKind.{TokenKind}

-- a word, name, number or sign, and its place
pub record Terminal : Type 0 where
  pub kind : TokenKind
  pub at : At

-- a token
abbrev pub terminal : Token → Terminal
terminal t = record { kind = t.kind; at = t.at }

-- the tokens of a list
abbrev pub terminals : List Token → List Terminal
terminals ts = map terminal ts

-- what they are, without their places
abbrev pub kinds : List Terminal → List TokenKind
kinds ts = map (λ (t : Terminal). t.kind) ts
