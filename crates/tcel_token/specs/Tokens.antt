-- The tokens of a text, or its first fault.
use Rattle.std.specs.Prelude.{◌≡◌, ℕ, ◌^◌, Bool, true, ◌||◌, nat_le, nat_lt, if◌then◌else◌, List, [], ◌∷◌, ◌++◌, length, take, Option, Some, None, is_some, Result, Ok, Err}
use Rattle.std.specs.Char.{is_ascii_digit}
use Rattle.std.specs.List.{prefix_len, take_while}
use Rattle.std.specs.Str.Parse.{digits_value}
use Rattle.tcel_num.specs.declared.at.At.{At}
use Rattle.tcel_num.specs.Name.{may_start, may_follow}
use Rattle.tcel_token.specs.declared.fail.LexFail.{LexFail}
use Rattle.tcel_token.specs.declared.fail.LexFail.TheVariants.{BadByte, BadNumber, NameTooLong, NoMemory}
use Rattle.tcel_token.specs.declared.token.Token.{Token}
use Rattle.tcel_token.specs.declared.token.TokenKind.{TokenKind}
use Rattle.tcel_token.specs.declared.token.Tokens.{Tokens}
use Rattle.tcel_token.specs.Pieces.{Piece, piece_bytes, bytes_of, are_pieces, kind_of, is_blank, opens_comment}
use Rattle.tcel_token.specs.Places.{place}
use Rattle.tcel_token.specs.Spelling.{sign_of}

-- the token of this many bytes that begins at this offset and place, unless a blank or a comment stands there
abbrev pub token_at : Option TokenKind → ℕ → ℕ → At → List Token
token_at None start size at = []
token_at (Some kind) start size at = record { kind = kind; start = start; length = size; at = at } ∷ []

-- the tokens among pieces that stand behind these bytes
abbrev pub tokens_behind : List ℕ → List Piece → List Token
tokens_behind before [] = []
tokens_behind before (p ∷ ps) =
    token_at (kind_of p) (length before) (length (piece_bytes p)) (place before) ++ tokens_behind (before ++ piece_bytes p) ps

-- whether a sign begins these bytes
abbrev pub begins_sign : List ℕ → Bool
begins_sign bytes = is_some (sign_of (take 1 bytes)) || is_some (sign_of (take 2 bytes))

-- the fault at this place, where one of a text stands in front of these bytes
abbrev pub fault_at : At → List ℕ → Option LexFail
fault_at at [] = None
fault_at at (b ∷ bs) =
    if is_blank b || opens_comment (take 2 (b ∷ bs)) then None
    else (if may_start b then (if nat_lt 32 (prefix_len may_follow (b ∷ bs)) then Some (NameTooLong at) else None)
    else (if is_ascii_digit b then (if nat_le (2 ^ 63) (digits_value 10 (take_while is_ascii_digit (b ∷ bs))) then Some (BadNumber at) else None)
    else (if begins_sign (b ∷ bs) then None else Some (BadByte at))))

-- a text begins with pieces, and this is the rest behind them
pub record Begins (text : List ℕ) (ps : List Piece) (rest : List ℕ) : Type 0 where
  pub whole : text ≡ bytes_of ps ++ rest
  pub pieces : are_pieces ps rest ≡ true

-- the whole text is cut into pieces, and these are its tokens and the place of its end
pub record HasTokens (text : List ℕ) (tokens : Tokens) : Type 0 where
  pub pieces : List Piece
  pub begins : Begins text pieces []
  pub list : tokens.list ≡ tokens_behind [] pieces
  pub end : tokens.end ≡ place text

-- behind some pieces of the text stands this fault
pub record HasFault (text : List ℕ) (fault : LexFail) : Type 0 where
  pub pieces : List Piece
  pub rest : List ℕ
  pub begins : Begins text pieces rest
  pub here : fault_at (place (bytes_of pieces)) rest ≡ Some fault

-- the answer for a text, unless memory ran out
abbrev pub Answers : List ℕ → Result Tokens LexFail → Type 0
Answers text (Ok tokens) = HasTokens text tokens
Answers text (Err NoMemory) = Unit {0}
Answers text (Err fault) = HasFault text fault
