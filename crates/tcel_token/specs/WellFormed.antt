-- Tokens as a text gives them: numbers are 0 or more, and places rise.
use Rattle.std.specs.Prelude.{◌^◌, pos, ◌≤ℤ◌, ◌<ℤ◌, List, [], ◌∷◌, ◌++◌, map, All, AllPairs}
use Rattle.tcel_num.specs.declared.at.At.{At}
use Rattle.tcel_num.specs.Name.{IsName}
use Rattle.tcel_token.specs.declared.token.TokenKind.{TokenKind}
use Rattle.tcel_token.specs.declared.token.TokenKind.TheVariants.{Word, Name, Number, Sign}
use Rattle.tcel_token.specs.Places.{Precedes}
use Rattle.tcel_token.specs.Terminal.{Terminal}

-- a number is 0 or more
abbrev pub IsNatural : TokenKind → Type 0
IsNatural (Number n) = pos 0 ≤ℤ n
IsNatural (Word w) = Unit {0}
IsNatural (Name name) = Unit {0}
IsNatural (Sign s) = Unit {0}

-- the places of the tokens, and that of the end
abbrev pub places : List Terminal → At → List At
places ts end = map (λ (t : Terminal). t.at) ts ++ end ∷ []

-- numbers are 0 or more, and places rise from token to token and to the end
pub record AreWellFormed (ts : List Terminal) (end : At) : Type 0 where
  pub numbers : All (λ (t : Terminal). IsNatural t.kind) ts
  pub rising : AllPairs Precedes (places ts end)

-- a text can spell the token: a name is one, and a number is 0 to 9223372036854775807
abbrev pub IsWritable : TokenKind → Type 0
IsWritable (Number n) = (pos 0 ≤ℤ n) × (n <ℤ pos (2 ^ 63))
IsWritable (Name name) = IsName name
IsWritable (Word w) = Unit {0}
IsWritable (Sign s) = Unit {0}
