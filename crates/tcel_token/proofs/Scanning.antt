-- A scan: the pieces that were read so far, and one more.
use Rattle.std.proofs.Common.{◌≡◌, ◌<◌, ◌≤◌, ℕ, suc, ◌+◌, Bool, true, false, cond, List, [], ◌∷◌, ◌++◌, length, get_or, drop, refl, sym, ap, ◌∙◌, arith, append_assoc, Option, Some, ◌⊎◌, inl, inr, ⊎_elim, lit<, subst, Err, length-append}
use Rattle.std.specs.Prelude.{◌^◌, not, ◌&&◌, nat_le, nat_lt, if◌then◌else◌}
use Rattle.std.specs.Char.{is_ascii_digit}
use Rattle.std.specs.Str.Parse.{digits_value}
use Rattle.std.specs.List.{list_all}
use Rattle.std.proofs.lemmas.Bool.{and_parts, and_from, eqb-true}
use Rattle.std.proofs.lemmas.List.{append-nil, drop-drop, drop_all, get_or_append_left}
use Rattle.tcel_num.specs.declared.at.At.{At}
use Rattle.tcel_num.specs.Name.{is_word, may_follow, may_start}
use Rattle.tcel_token.specs.declared.fail.LexFail.{LexFail}
use Rattle.tcel_token.specs.declared.fail.LexFail.TheVariants.{BadByte, BadNumber, NameTooLong, NoMemory}
use Rattle.tcel_token.specs.declared.lexeme.Lexeme.{Lexeme}
use Rattle.tcel_token.specs.declared.sign.Sign.{Sign}
use Rattle.tcel_token.specs.declared.token.Token.{Token}
use Rattle.tcel_token.specs.declared.token.TokenKind.{TokenKind}
use Rattle.tcel_token.specs.Lexeme.{IsFirst}
use Rattle.tcel_token.specs.Pieces.{Piece, blank, comment, word, number, sign, piece_bytes, bytes_of, is_piece, are_pieces, ends, kind_of, in_line, is_line_feed, is_number}
use Rattle.tcel_token.specs.Spelling.{sign_bytes}
use Rattle.tcel_token.proofs.Placing.{at_place, place_columns, place_line, place_small}
use Rattle.tcel_token.specs.Places.{place}
use Rattle.tcel_token.specs.Tokens.{token_at, tokens_behind, fault_at, Begins, HasTokens, HasFault, Answers}

-- the front of a text up to an offset is pieces, and these are their tokens and the place behind them
pub record IsRead (text : List ℕ) (start : ℕ) (at : At) (list : List Token) : Type 0 where
  pub pieces : List Piece
  pub begins : Begins text pieces (drop start text)
  pub offset : start ≡ length (bytes_of pieces)
  pub here : at ≡ place (bytes_of pieces)
  pub tokens : list ≡ tokens_behind [] pieces

-- all bytes of one more piece
bytes_push : (ps : List Piece) (p : Piece) → bytes_of (ps ++ p ∷ []) ≡ bytes_of ps ++ piece_bytes p
bytes_push [] p = append-nil (piece_bytes p)
bytes_push (q ∷ ps) p = ap (λ (xs : List ℕ). piece_bytes q ++ xs) (bytes_push ps p) ∙ sym (append_assoc (piece_bytes q) (bytes_of ps) (piece_bytes p))

pieces_push : (ps : List Piece) (p : Piece) (rest : List ℕ) → are_pieces ps (piece_bytes p ++ rest) ≡ true → is_piece p ≡ true → ends p rest ≡ true →
    are_pieces (ps ++ p ∷ []) rest ≡ true
pieces_push [] p rest h right at_end = rw (right, at_end) refl
pieces_push (q ∷ ps) p rest h right at_end =
    let parts = and_parts (is_piece q) (ends q (bytes_of ps ++ (piece_bytes p ++ rest)) && are_pieces ps (piece_bytes p ++ rest)) h in
    let more = and_parts (ends q (bytes_of ps ++ (piece_bytes p ++ rest))) (are_pieces ps (piece_bytes p ++ rest)) parts.1 in
    let here : ends q (bytes_of (ps ++ p ∷ []) ++ rest) ≡ true =
    ap (ends q) (ap (λ (xs : List ℕ). xs ++ rest) (bytes_push ps p) ∙ append_assoc (bytes_of ps) (piece_bytes p) rest) ∙ more.0
    in
    and_from _ _ parts.0 (and_from _ _ here (pieces_push ps p rest more.1 right at_end))

-- the token of a piece, with the bytes before it
abbrev last_token : Piece → List ℕ → List Token
last_token p before = token_at (kind_of p) (length before) (length (piece_bytes p)) (place before)

tokens_push : (ps : List Piece) (before : List ℕ) (p : Piece) →
    tokens_behind before (ps ++ p ∷ []) ≡ tokens_behind before ps ++ last_token p (before ++ bytes_of ps)
tokens_push [] before p = append-nil (last_token p before) ∙ ap (last_token p) (sym (append-nil before))
tokens_push (q ∷ ps) before p =
    let bytes = piece_bytes q in
    let all : (before ++ bytes) ++ bytes_of ps ≡ before ++ (bytes ++ bytes_of ps) = append_assoc before bytes (bytes_of ps) in
    let first = last_token q before in
    let behind = tokens_behind (before ++ bytes) ps in
    ap (λ (xs : List Token). first ++ xs) (tokens_push ps (before ++ bytes) p)
    ∙ sym (append_assoc first behind (last_token p ((before ++ bytes) ++ bytes_of ps)))
    ∙ ap (λ (xs : List ℕ). (first ++ behind) ++ last_token p xs) all

-- what passes a test that a line feed doesn't pass is in a line
in_line_by : (p : ℕ → Bool) (b : ℕ) (is : Bool) → is_line_feed b ≡ is → p 10 ≡ false → p b ≡ true → not is ≡ true
in_line_by p b true e fails h = let same = eqb-true b 10 e in let at = rw same at h in cc
in_line_by p b false e fails h = refl

all_in_line : (p : ℕ → Bool) (bytes : List ℕ) → p 10 ≡ false → list_all p bytes ≡ true → list_all in_line bytes ≡ true
all_in_line p [] fails h = refl
all_in_line p (b ∷ bs) fails h =
    let parts = and_parts (p b) (list_all p bs) h in
    and_from _ _ (in_line_by p b (is_line_feed b) refl fails parts.0) (all_in_line p bs fails parts.1)

word_in_line : (bytes : List ℕ) → is_word bytes ≡ true → list_all in_line bytes ≡ true
word_in_line [] h = cc
word_in_line (b ∷ bs) h =
    let parts = and_parts (may_start b) (list_all may_follow bs) h in
    and_from _ _ (in_line_by may_start b (is_line_feed b) refl refl parts.0) (all_in_line may_follow bs refl parts.1)

blank_by : (b : ℕ) (is : Bool) → is_line_feed b ≡ is → (b ∷ [] ≡ 10 ∷ []) ⊎ ((not is && true) ≡ true)
blank_by b true e = inl (ap (λ x. x ∷ []) (eqb-true b 10 e))
blank_by b false e = inr refl

sign_some : (s : Sign) → 0 < length (sign_bytes s)
sign_some Sign.LeftBrace = lit< tt
sign_some _ = lit< tt

sign_in_line : (s : Sign) → list_all in_line (sign_bytes s) ≡ true
sign_in_line Sign.LeftBrace = refl
sign_in_line _ = refl

-- a piece is a line feed, or has none
one_line : (p : Piece) → is_piece p ≡ true → (piece_bytes p ≡ 10 ∷ []) ⊎ (list_all in_line (piece_bytes p) ≡ true)
one_line (blank b) h = blank_by b (is_line_feed b) refl
one_line (comment bytes) h = inr h
one_line (word bytes) h = inr (word_in_line bytes (and_parts (is_word bytes) (nat_le (length bytes) 32) h).0)
one_line (number bytes) h =
    let digits = and_parts (is_number bytes) (nat_lt (digits_value 10 bytes) (2 ^ 63)) h in
    inr (all_in_line is_ascii_digit bytes refl (and_parts (nat_lt 0 (length bytes)) (list_all is_ascii_digit bytes) digits.0).1)
one_line (sign s) h = inr (sign_in_line s)

-- the place behind a piece that stands at a place
abbrev pub place_behind : At → ℕ → ℕ → At
place_behind at first n =
    if is_line_feed first then record { line = at.line + 1; column = 1 } else record { line = at.line; column = at.column + n }

line_by : (at : At) (n : ℕ) (is : Bool) → not is ≡ true →
    at_place at.line (at.column + n) ≡ cond is (at_place (at.line + 1) 1) (at_place at.line (at.column + n))
line_by at n true h = cc
line_by at n false h = refl

behind_line : (before bytes : List ℕ) → 0 < length bytes → list_all in_line bytes ≡ true →
    place (before ++ bytes) ≡ place_behind (place before) (get_or bytes 0 0) (length bytes)
behind_line before [] some h = absurd (omega arith)
behind_line before (b ∷ bs) some h =
    let front = and_parts (in_line b) (list_all in_line bs) h in
    place_columns (b ∷ bs) before h ∙ line_by (place before) (suc (length bs)) (is_line_feed b) front.0

behind_piece : (before : List ℕ) (p : Piece) → is_piece p ≡ true → 0 < length (piece_bytes p) →
    place (before ++ piece_bytes p) ≡ place_behind (place before) (get_or (piece_bytes p) 0 0) (length (piece_bytes p))
behind_piece before p h some =
    ⊎_elim
    (λ (e : piece_bytes p ≡ 10 ∷ []). rw e (place_line before))
    (λ (e : list_all in_line (piece_bytes p) ≡ true). behind_line before (piece_bytes p) some e)
    (one_line p h)

-- no piece is empty
pub piece_some : (p : Piece) → is_piece p ≡ true → 0 < length (piece_bytes p)
piece_some (blank b) h = lit< tt
piece_some (comment bytes) h = omega arith
piece_some (word []) h = cc
piece_some (word (b ∷ bs)) h = omega arith
piece_some (number []) h = cc
piece_some (number (b ∷ bs)) h = omega arith
piece_some (sign s) h = sign_some s

-- nothing was read yet
pub read_none : (text : List ℕ) → IsRead text 0 (record { line = 1; column = 1 }) []
read_none text = record { pieces = []; begins = record { whole = refl; pieces = refl }; offset = refl; here = refl; tokens = refl }

tokens_by : {list olds news last : List Token} {kind k : Option TokenKind} {start m n size : ℕ} {at here : At} →
    list ≡ olds → kind ≡ k → start ≡ m → size ≡ n → at ≡ here → news ≡ olds ++ last → last ≡ token_at k m n here →
    list ++ token_at kind start size at ≡ news
tokens_by a b c d e f g = cc

-- one more piece was read
pub read_more : (text : List ℕ) (start : ℕ) (at : At) (list : List Token) (lexeme : Lexeme) →
    IsRead text start at list → IsFirst (drop start text) lexeme →
    IsRead text (start + lexeme.length) (place_behind at (get_or (drop start text) 0 0) lexeme.length)
    (list ++ token_at lexeme.kind start lexeme.length at)
read_more text start at list lexeme read first =
    let ps = read.pieces in
    let p = first.piece in
    let rest = drop lexeme.length (drop start text) in
    let more : rest ≡ drop (start + lexeme.length) text = drop-drop lexeme.length start text in
    let bytes = bytes_push ps p in
    let some = piece_some p first.right in
    let same = ap (λ (xs : List ℕ). get_or xs 0 0) first.whole ∙ get_or_append_left (piece_bytes p) rest 0 0 some in
    record {
      pieces = ps ++ p ∷ [];
      begins = record {
        whole = read.begins.whole ∙ ap (λ (xs : List ℕ). bytes_of ps ++ xs) first.whole ∙ sym (append_assoc (bytes_of ps) (piece_bytes p) rest) ∙ rw (bytes, more) refl;
        pieces = rw (← more) (pieces_push ps p rest (rw first.whole at read.begins.pieces) first.right first.ends);
      };
      offset = rw (bytes, length-append) (omega (arith, first.size, read.offset));
      here = rw (bytes, read.here, same, first.size) (sym (behind_piece (bytes_of ps) p first.right some));
      tokens = tokens_by read.tokens first.kind read.offset first.size read.here (tokens_push ps [] p) refl;
    }

-- a piece that begins some bytes is some of them
pub first_some : (bytes : List ℕ) (lexeme : Lexeme) → IsFirst bytes lexeme → (0 < lexeme.length) × (lexeme.length ≤ length bytes)
first_some bytes lexeme first =
    let some = piece_some first.piece first.right in
    let all = ap length first.whole ∙ length-append (piece_bytes first.piece) (drop lexeme.length bytes) in
    (omega (arith, first.size), omega (arith, first.size))

-- all pieces were read
pub read_all : (text : List ℕ) (start : ℕ) (at : At) (list : List Token) → IsRead text start at list → length text ≤ start →
    HasTokens text (record { list = list; end = at })
read_all text start at list read end =
    let none : drop start text ≡ [] = drop_all start text end in
    let whole : text ≡ bytes_of read.pieces = read.begins.whole ∙ rw none (append-nil (bytes_of read.pieces)) in
    record {
      pieces = read.pieces;
      begins = subst (λ (rest : List ℕ). Begins text read.pieces rest) none read.begins;
      list = read.tokens;
      end = read.here ∙ ap place (sym whole);
    }

-- behind the pieces that were read stands a fault
pub read_fault : (text : List ℕ) (start : ℕ) (at : At) (list : List Token) (fault : LexFail) → IsRead text start at list →
    fault_at at (drop start text) ≡ Some fault → HasFault text fault
read_fault text start at list fault read here =
    record { pieces = read.pieces; rest = drop start text; begins = read.begins; here = rw (← read.here) here }

-- which is the answer
pub answers_fault : (text : List ℕ) (fault : LexFail) → HasFault text fault → Answers text (Err fault)
answers_fault text (BadByte at) h = h
answers_fault text (BadNumber at) h = h
answers_fault text (NameTooLong at) h = h
answers_fault text NoMemory h = tt

-- places that were reached are small
pub read_small : (text : List ℕ) (start : ℕ) (at : At) (list : List Token) → IsRead text start at list →
    (at.line ≤ start + 1) × (at.column ≤ start + 1)
read_small text start at list read =
    let small = place_small (bytes_of read.pieces) in
    rw (read.here, read.offset) small
