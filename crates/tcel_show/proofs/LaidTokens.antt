-- The canonical text of tokens has these tokens.
use Rattle.std.proofs.Common.{◌≡◌, ℕ, zero, suc, ◌<◌, ◌*◌, ◌-◌, ◌^◌, Bool, true, false, cond, List, [], ◌∷◌, ◌++◌, length, map, replicate, Option, Some, None, refl, sym, ap, ◌∙◌, arith, append_assoc}
use Rattle.std.specs.Prelude.{pos, negsuc, ◌||◌, nat_eq, flat_map, find, if◌then◌else◌}
use Rattle.std.specs.Char.{is_ascii_digit}
use Rattle.std.specs.Cmp.Lexicographic.{pointwise}
use Rattle.std.specs.Fmt.{decimal, signed_decimal}
use Rattle.std.specs.List.{list_all, list_any}
use Rattle.std.specs.Option.{option_to_list}
use Rattle.std.specs.Str.Parse.{AllDigits, digits_value}
use Rattle.std.proofs.lemmas.Bool.{and_from, and_parts, le-leb, lt-ltb}
use Rattle.std.proofs.lemmas.Fmt.{decimal_is_IsNumeral}
use Rattle.std.proofs.lemmas.Int.{ints}
use Rattle.std.proofs.lemmas.List.{append-nil}
use Rattle.std.proofs.lemmas.Str.Parse.{digit_from_value}
use Rattle.tcel_num.specs.Name.{IsName, is_reserved}
use Rattle.tcel_token.specs.declared.keyword.Keyword.{Keyword}
use Rattle.tcel_token.specs.declared.sign.Sign.{Sign}
use Rattle.tcel_token.specs.declared.token.Token.{Token}
use Rattle.tcel_token.specs.declared.token.TokenKind.{TokenKind}
use Rattle.tcel_token.specs.declared.token.Tokens.{Tokens}
use Rattle.tcel_token.specs.Pieces.{Piece, blank, word, number, sign, piece_bytes, bytes_of, is_piece, are_pieces, ends, goes_on, kind_of, is_blank}
use Rattle.tcel_token.specs.Places.{place}
use Rattle.tcel_token.specs.Spelling.{word_bytes, words, word_of, sign_bytes, kind_of_word}
use Rattle.tcel_token.specs.Terminal.{terminals, kinds}
use Rattle.tcel_token.specs.Tokens.{HasTokens, token_at, tokens_behind}
use Rattle.tcel_token.specs.WellFormed.{IsWritable}
use Rattle.tcel_show.specs.declared.writer.Before.{Before}
use Rattle.tcel_show.specs.Layout.{Layout, start, spelling, closes, closes_block, is_else, new_line, spaced, gap_behind, sign_before, kind_before, behind, laid, whole_text, is_nothing}
use Rattle.tcel_show.proofs.ReadExprs.{Writable}
use Rattle.tcel_show.proofs.Ending.{kind_some}

-- the piece that a token is
abbrev piece_of : TokenKind → Piece
piece_of (TokenKind.Word w) = word (word_bytes w)
piece_of (TokenKind.Name name) = word name
piece_of (TokenKind.Number n) = number (signed_decimal n)
piece_of (TokenKind.Sign s) = sign s

piece_spelling : (kind : TokenKind) → piece_bytes (piece_of kind) ≡ spelling kind
piece_spelling (TokenKind.Word w) = refl
piece_spelling (TokenKind.Name name) = refl
piece_spelling (TokenKind.Number n) = refl
piece_spelling (TokenKind.Sign s) = refl

-- a reserved word is itself, and a name is none
reserved_kind : (w : Keyword) → kind_of_word (word_bytes w) ≡ TokenKind.Word w
reserved_kind Keyword.Task = refl
reserved_kind _ = refl

reserved_piece : (w : Keyword) → is_piece (word (word_bytes w)) ≡ true
reserved_piece Keyword.Task = refl
reserved_piece _ = refl

not_found_by : {X : Type 0} (is : Bool) (x : X) (o : Option X) (r : Bool) → (r ≡ false → o ≡ None) → (is || r) ≡ false → cond is (Some x) o ≡ None
not_found_by true x o r h e = cc
not_found_by false x o r h e = h e

not_found : {X : Type 0} (p : X → Bool) (xs : List X) → list_any p xs ≡ false → find p xs ≡ None
not_found p [] h = refl
not_found p (x ∷ xs) h = not_found_by (p x) x (find p xs) (list_any p xs) (not_found p xs) h

free_word : (name : List ℕ) → is_reserved name ≡ false → word_of name ≡ None
free_word name h = not_found (λ (w : Keyword). pointwise nat_eq name (word_bytes w)) words h

name_kind : (name : List ℕ) → IsName name → kind_of_word name ≡ TokenKind.Name name
name_kind name h = rw (free_word name h.free) refl

-- digits are a number
digits_all : (ds : List ℕ) → AllDigits 10 ds → list_all is_ascii_digit ds ≡ true
digits_all [] h = refl
digits_all (d ∷ ds) h =
    let range = digit_from_value d h.0 in
    and_from _ _ (and_from _ _ (le-leb 48 d range.0) (le-leb d 57 range.1)) (digits_all ds h.1)

decimal_piece : (n : ℕ) → n < 2 ^ 63 → is_piece (number (decimal n)) ≡ true
decimal_piece n small =
    let numeral = decimal_is_IsNumeral n (omega arith) in
    let fits : digits_value 10 (decimal n) < 2 ^ 63 = rw numeral.1 small in
    and_from _ _
    (and_from _ _ (lt-ltb 0 (length (decimal n)) numeral.0.0) (digits_all (decimal n) numeral.0.1))
    (lt-ltb (digits_value 10 (decimal n)) (2 ^ 63) fits)

decimal_kind : (n : ℕ) → n < 2 ^ 63 → TokenKind.Number (pos (digits_value 10 (decimal n))) ≡ TokenKind.Number (pos n)
decimal_kind n small = ap (λ (m : ℕ). TokenKind.Number (pos m)) (decimal_is_IsNumeral n (omega arith)).1

right_piece : (kind : TokenKind) → IsWritable kind → is_piece (piece_of kind) ≡ true
right_piece (TokenKind.Word w) h = reserved_piece w
right_piece (TokenKind.Name name) h = and_from _ _ h.word (le-leb (length name) 32 h.short)
right_piece (TokenKind.Number (pos n)) h = decimal_piece n (omega (arith, ints))
right_piece (TokenKind.Number (negsuc n)) h = absurd (omega (arith, ints))
right_piece (TokenKind.Sign s) h = refl

right_kind : (kind : TokenKind) → IsWritable kind → kind_of (piece_of kind) ≡ Some kind
right_kind (TokenKind.Word w) h = ap (λ (k : TokenKind). Some k) (reserved_kind w)
right_kind (TokenKind.Name name) h = ap (λ (k : TokenKind). Some k) (name_kind name h)
right_kind (TokenKind.Number (pos n)) h = ap (λ (k : TokenKind). Some k) (decimal_kind n (omega (arith, ints)))
right_kind (TokenKind.Number (negsuc n)) h = absurd (omega (arith, ints))
right_kind (TokenKind.Sign s) h = refl

-- a token's piece ends at a line feed, a space, and the signs that take no space before them
record Stops (p : Piece) : Type 0 where
  pub line : goes_on p 10 ≡ false
  pub space : goes_on p 32 ≡ false
  pub semicolon : goes_on p 59 ≡ false
  pub round : goes_on p 41 ≡ false
  pub opening : goes_on p 91 ≡ false
  pub closing : goes_on p 93 ≡ false

sign_stops : (s : Sign) → Stops (sign s)
sign_stops Sign.LeftBrace = record { line = refl; space = refl; semicolon = refl; round = refl; opening = refl; closing = refl }
sign_stops _ = record { line = refl; space = refl; semicolon = refl; round = refl; opening = refl; closing = refl }

kind_stops : (kind : TokenKind) → Stops (piece_of kind)
kind_stops (TokenKind.Word w) = record { line = refl; space = refl; semicolon = refl; round = refl; opening = refl; closing = refl }
kind_stops (TokenKind.Name name) = record { line = refl; space = refl; semicolon = refl; round = refl; opening = refl; closing = refl }
kind_stops (TokenKind.Number n) = record { line = refl; space = refl; semicolon = refl; round = refl; opening = refl; closing = refl }
kind_stops (TokenKind.Sign s) = sign_stops s

stops_at : (p : Piece) (next : ℕ) (more : List ℕ) → goes_on p next ≡ false → ends p (next ∷ more) ≡ true
stops_at p next more h = rw h refl

-- behind a bracket or the sign of an operand anything may stand
minus_ends : (bytes : List ℕ) → ends (sign Sign.Minus) bytes ≡ true
minus_ends [] = refl
minus_ends (next ∷ more) = refl

round_ends : (bytes : List ℕ) → ends (sign Sign.LeftRound) bytes ≡ true
round_ends [] = refl
round_ends (next ∷ more) = refl

square_ends : (bytes : List ℕ) → ends (sign Sign.LeftSquare) bytes ≡ true
square_ends [] = refl
square_ends (next ∷ more) = refl

tight_sign : (b : Before) (s : Sign) → sign_before b s ≡ Before.Tight → (bytes : List ℕ) → ends (sign s) bytes ≡ true
tight_sign b Sign.Minus e bytes = minus_ends bytes
tight_sign b Sign.LeftRound e bytes = round_ends bytes
tight_sign b Sign.LeftSquare e bytes = square_ends bytes
tight_sign b _ e bytes = cc

tight_word : (b : Before) (w : Keyword) → kind_before b (TokenKind.Word w) ≡ Before.Tight → (bytes : List ℕ) → ends (piece_of (TokenKind.Word w)) bytes ≡ true
tight_word b Keyword.True e bytes = cc
tight_word b Keyword.False e bytes = cc
tight_word b _ e bytes = cc

tight_ends : (b : Before) (kind : TokenKind) → kind_before b kind ≡ Before.Tight → (bytes : List ℕ) → ends (piece_of kind) bytes ≡ true
tight_ends b (TokenKind.Word w) e bytes = tight_word b w e bytes
tight_ends b (TokenKind.Name name) e bytes = cc
tight_ends b (TokenKind.Number n) e bytes = cc
tight_ends b (TokenKind.Sign s) e bytes = tight_sign b s e bytes

-- what stands behind a token is a space, a line feed, or a sign that takes no space before it
module _ (p : Piece) (s : Stops p) where
  line_ends : (depth : ℕ) (kind : TokenKind) (tail : List ℕ) → ends p ((new_line depth kind ++ spelling kind) ++ tail) ≡ true
  line_ends depth kind tail = rw s.line refl

  block_by : (is : Bool) (depth : ℕ) (kind : TokenKind) (tail : List ℕ) →
      ends p (((if is then 32 ∷ [] else new_line depth kind) ++ spelling kind) ++ tail) ≡ true
  block_by true depth kind tail = rw s.space refl
  block_by false depth kind tail = line_ends depth kind tail

  spaced_sign : (x : Sign) (tail : List ℕ) → ends p ((spaced (TokenKind.Sign x) ++ sign_bytes x) ++ tail) ≡ true
  spaced_sign Sign.Semicolon tail = rw s.semicolon refl
  spaced_sign Sign.RightRound tail = rw s.round refl
  spaced_sign Sign.LeftSquare tail = rw s.opening refl
  spaced_sign Sign.RightSquare tail = rw s.closing refl
  spaced_sign _ tail = rw s.space refl

  spaced_ends : (kind : TokenKind) (tail : List ℕ) → ends p ((spaced kind ++ spelling kind) ++ tail) ≡ true
  spaced_ends (TokenKind.Word w) tail = rw s.space refl
  spaced_ends (TokenKind.Name name) tail = rw s.space refl
  spaced_ends (TokenKind.Number n) tail = rw s.space refl
  spaced_ends (TokenKind.Sign x) tail = spaced_sign x tail

  gap_ends : (b : Before) → is_nothing b ≡ false → (b ≡ Before.Tight → (bytes : List ℕ) → ends p bytes ≡ true) → (depth : ℕ) (kind : TokenKind) (tail : List ℕ) →
      ends p ((gap_behind b depth kind ++ spelling kind) ++ tail) ≡ true
  gap_ends Before.Nothing some tight depth kind tail = cc
  gap_ends Before.Line some tight depth kind tail = line_ends depth kind tail
  gap_ends Before.Block some tight depth kind tail = block_by (is_else kind) depth kind tail
  gap_ends Before.Tight some tight depth kind tail = tight refl (spelling kind ++ tail)
  gap_ends Before.Operand some tight depth kind tail = spaced_ends kind tail
  gap_ends Before.Other some tight depth kind tail = spaced_ends kind tail

-- a token's piece ends before what is laid behind it
laid_ends : (l : Layout) (kind : TokenKind) (kinds : List TokenKind) → ends (piece_of kind) (laid (behind l kind) kinds ++ 10 ∷ []) ≡ true
laid_ends l kind [] = stops_at (piece_of kind) 10 [] (kind_stops kind).line
laid_ends l kind (k ∷ kinds) =
    let b = kind_before l.before kind in
    let d = (behind l kind).depth in
    let first = gap_behind b d k ++ spelling k in
    let more = laid (behind (behind l kind) k) kinds in
    rw (append_assoc first more (10 ∷ []))
    (gap_ends (piece_of kind) (kind_stops kind) b (kind_some l.before kind) (tight_ends l.before kind) d k (more ++ 10 ∷ []))

-- the pieces of a text that is laid out
abbrev pieces_of : Layout → List TokenKind → List Piece
pieces_of l [] = blank 10 ∷ []
pieces_of l (kind ∷ kinds) = map blank (gap_behind l.before l.depth kind) ++ piece_of kind ∷ pieces_of (behind l kind) kinds

blank_bytes : (gap : List ℕ) (ps : List Piece) → bytes_of (map blank gap ++ ps) ≡ gap ++ bytes_of ps
blank_bytes [] ps = refl
blank_bytes (b ∷ gap) ps = ap (λ (xs : List ℕ). b ∷ xs) (blank_bytes gap ps)

bytes_are : (kinds : List TokenKind) (l : Layout) → bytes_of (pieces_of l kinds) ≡ laid l kinds ++ 10 ∷ []
bytes_are [] l = refl
bytes_are (kind ∷ kinds) l =
    let gap = gap_behind l.before l.depth kind in
    let more = laid (behind l kind) kinds in
    let text = spelling kind in
    blank_bytes gap (piece_of kind ∷ pieces_of (behind l kind) kinds)
    ∙ ap (λ (xs : List ℕ). gap ++ xs) (ap (λ (xs : List ℕ). xs ++ bytes_of (pieces_of (behind l kind) kinds)) (piece_spelling kind))
    ∙ ap (λ (xs : List ℕ). gap ++ (text ++ xs)) (bytes_are kinds (behind l kind))
    ∙ sym (append_assoc gap text (more ++ 10 ∷ []))
    ∙ sym (append_assoc (gap ++ text) more (10 ∷ []))

blank_ends : (b : ℕ) (bytes : List ℕ) → ends (blank b) bytes ≡ true
blank_ends b [] = refl
blank_ends b (next ∷ more) = refl

are_blanks : (gap : List ℕ) (ps : List Piece) → list_all is_blank gap ≡ true → are_pieces ps [] ≡ true → are_pieces (map blank gap ++ ps) [] ≡ true
are_blanks [] ps h right = right
are_blanks (b ∷ gap) ps h right =
    let parts = and_parts (is_blank b) (list_all is_blank gap) h in
    and_from _ _ parts.0 (and_from _ _ (blank_ends b (bytes_of (map blank gap ++ ps) ++ [])) (are_blanks gap ps parts.1 right))

all_spaces : (n : ℕ) → list_all is_blank (replicate n 32) ≡ true
all_spaces zero = refl
all_spaces (suc n) = all_spaces n

line_blank : (depth : ℕ) (kind : TokenKind) → list_all is_blank (new_line depth kind) ≡ true
line_blank depth kind = all_spaces (2 * (if closes_block kind then depth - 1 else depth))

block_blank : (is : Bool) (depth : ℕ) (kind : TokenKind) → list_all is_blank (if is then 32 ∷ [] else new_line depth kind) ≡ true
block_blank true depth kind = refl
block_blank false depth kind = line_blank depth kind

spaced_blank : (is : Bool) → list_all is_blank (if is then [] else 32 ∷ []) ≡ true
spaced_blank true = refl
spaced_blank false = refl

gap_blank : (b : Before) (depth : ℕ) (kind : TokenKind) → list_all is_blank (gap_behind b depth kind) ≡ true
gap_blank Before.Nothing depth kind = refl
gap_blank Before.Line depth kind = line_blank depth kind
gap_blank Before.Block depth kind = block_blank (is_else kind) depth kind
gap_blank Before.Tight depth kind = refl
gap_blank Before.Operand depth kind = spaced_blank (closes kind)
gap_blank Before.Other depth kind = spaced_blank (closes kind)

pieces_right : (kinds : List TokenKind) (l : Layout) → Writable kinds → are_pieces (pieces_of l kinds) [] ≡ true
pieces_right [] l w = refl
pieces_right (kind ∷ kinds) l w =
    let gap = gap_behind l.before l.depth kind in
    let more = pieces_of (behind l kind) kinds in
    let text : bytes_of more ++ [] ≡ laid (behind l kind) kinds ++ 10 ∷ [] = append-nil (bytes_of more) ∙ bytes_are kinds (behind l kind) in
    are_blanks gap (piece_of kind ∷ more) (gap_blank l.before l.depth kind)
    (and_from _ _ (right_piece kind w.0)
    (and_from _ _ (ap (ends (piece_of kind)) text ∙ laid_ends l kind kinds) (pieces_right kinds (behind l kind) w.1)))

-- the kinds of the tokens among pieces
abbrev piece_kinds : List Piece → List TokenKind
piece_kinds ps = flat_map (λ p. option_to_list (kind_of p)) ps

kinds_at : (kind : Option TokenKind) (n m : ℕ) (bytes : List ℕ) (ts : List Token) →
    kinds (terminals (token_at kind n m (place bytes) ++ ts)) ≡ option_to_list kind ++ kinds (terminals ts)
kinds_at None n m bytes ts = refl
kinds_at (Some k) n m bytes ts = refl

token_kinds : (ps : List Piece) (before : List ℕ) → kinds (terminals (tokens_behind before ps)) ≡ piece_kinds ps
token_kinds [] before = refl
token_kinds (p ∷ ps) before =
    kinds_at (kind_of p) (length before) (length (piece_bytes p)) before (tokens_behind (before ++ piece_bytes p) ps)
    ∙ ap (λ (ks : List TokenKind). option_to_list (kind_of p) ++ ks) (token_kinds ps (before ++ piece_bytes p))

blank_kinds : (gap : List ℕ) (ps : List Piece) → piece_kinds (map blank gap ++ ps) ≡ piece_kinds ps
blank_kinds [] ps = refl
blank_kinds (b ∷ gap) ps = blank_kinds gap ps

kinds_are : (ks : List TokenKind) (l : Layout) → Writable ks → piece_kinds (pieces_of l ks) ≡ ks
kinds_are [] l w = refl
kinds_are (k ∷ ks) l w =
    blank_kinds (gap_behind l.before l.depth k) (piece_of k ∷ pieces_of (behind l k) ks)
    ∙ ap (λ (o : Option TokenKind). option_to_list o ++ piece_kinds (pieces_of (behind l k) ks)) (right_kind k w.0)
    ∙ ap (λ (xs : List TokenKind). k ∷ xs) (kinds_are ks (behind l k) w.1)

-- the tokens of a text that is laid out
pub record HasKinds (text : List ℕ) (ks : List TokenKind) : Type 0 where
  pub tokens : Tokens
  pub read : HasTokens text tokens
  pub kinds : kinds (terminals tokens.list) ≡ ks

pub laid_tokens : (k : TokenKind) (ks : List TokenKind) → Writable (k ∷ ks) → HasKinds (whole_text (k ∷ ks)) (k ∷ ks)
laid_tokens k ks w =
    let text = whole_text (k ∷ ks) in
    let ps = pieces_of start (k ∷ ks) in
    let whole : text ≡ bytes_of ps ++ [] = sym (append-nil (bytes_of ps) ∙ bytes_are (k ∷ ks) start) in
    record {
      tokens = record { list = tokens_behind [] ps; end = place text };
      read = record { pieces = ps; begins = record { whole = whole; pieces = pieces_right (k ∷ ks) start w }; list = refl; end = refl };
      kinds = token_kinds ps [] ∙ kinds_are (k ∷ ks) start w;
    }
