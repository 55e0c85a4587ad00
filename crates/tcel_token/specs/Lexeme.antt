-- What a reader of one piece answers.
use Rattle.std.specs.Prelude.{◌≡◌, ◌<◌, ◌≤◌, ◌^◌, Bool, true, false, List, [], ◌∷◌, ℕ, ◌++◌, drop, length}
use Rattle.std.specs.Char.{is_ascii_digit}
use Rattle.std.specs.List.{prefix_len, take_while}
use Rattle.std.specs.Str.Parse.{digits_value}
use Rattle.tcel_num.specs.Name.{may_follow}
use Rattle.tcel_token.specs.declared.lexeme.Lexeme.{Lexeme}
use Rattle.tcel_token.specs.Pieces.{Piece, piece_bytes, is_piece, ends, kind_of}

-- a piece of this length and kind begins the bytes, and is as long as it can be
pub record IsFirst (bytes : List ℕ) (lexeme : Lexeme) : Type 0 where
  pub piece : Piece
  pub whole : bytes ≡ piece_bytes piece ++ drop lexeme.length bytes
  pub size : lexeme.length ≡ length (piece_bytes piece)
  pub right : is_piece piece ≡ true
  pub ends : ends piece (drop lexeme.length bytes) ≡ true
  pub kind : lexeme.kind ≡ kind_of piece

-- the first byte passes
abbrev pub starts : (ℕ → Bool) → List ℕ → Bool
starts passes [] = false
starts passes (first ∷ more) = passes first

-- the run of letters, digits and underscores is longer than a name may be
abbrev pub IsLongWord : List ℕ → Type 0
IsLongWord bytes = 32 < prefix_len may_follow bytes

-- the run of digits writes a number above the greatest
abbrev pub IsLargeNumber : List ℕ → Type 0
IsLargeNumber bytes = 2 ^ 63 ≤ digits_value 10 (take_while is_ascii_digit bytes)
