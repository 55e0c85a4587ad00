-- A text has one answer: the piece that stands first is a function of the bytes.
use Rattle.std.proofs.Common.{◌≡◌, ◌<◌, ◌≤◌, ℕ, ◌+◌, Bool, true, false, cond, List, [], ◌∷◌, ◌++◌, length, take, drop, refl, sym, ap, ◌∙◌, arith, append_assoc, Option, Some, None, ◌⊎◌, inl, inr, ⊎_elim, subst, length-append}
use Rattle.std.specs.Prelude.{◌&&◌, if◌then◌else◌, unwrap_or, nat_le, nat_lt, ◌^◌, not, ◌==◌, ◌||◌, is_some}
use Rattle.std.specs.Char.{is_ascii_digit}
use Rattle.std.specs.List.{list_all, prefix_len, take_while}
use Rattle.std.specs.Option.{option_or}
use Rattle.std.specs.Str.Parse.{digits_value}
use Rattle.std.proofs.lemmas.Bool.{and_parts, le-ltb, lt-leb, leb-true, ltb-true}
use Rattle.std.proofs.lemmas.Bool.Decides.{nat_tests}
use Rattle.std.proofs.lemmas.List.{append_cancel_left, take_at}
use Rattle.tcel_num.specs.declared.at.At.{At}
use Rattle.tcel_num.specs.Name.{is_word, may_start, may_follow}
use Rattle.tcel_token.specs.declared.fail.LexFail.{LexFail}
use Rattle.tcel_token.specs.declared.sign.Sign.{Sign}
use Rattle.tcel_token.specs.declared.token.Token.{Token}
use Rattle.tcel_token.specs.declared.token.Tokens.{Tokens}
use Rattle.tcel_token.specs.Pieces.{Piece, blank, comment, word, number, sign, piece_bytes, bytes_of, is_piece, are_pieces, ends, is_blank, in_line, is_number, opens_comment, stops}
use Rattle.tcel_token.specs.Places.{place}
use Rattle.tcel_token.specs.Spelling.{sign_of, sign_bytes}
use Rattle.tcel_token.proofs.Scanning.{piece_some}
use Rattle.tcel_token.specs.Tokens.{tokens_behind, fault_at, HasTokens, HasFault}

-- the piece that stands first
abbrev first_piece : List ℕ → Piece
first_piece [] = blank 0
first_piece (b ∷ bs) =
    if is_blank b then blank b
    else (if opens_comment (take 2 (b ∷ bs)) then comment (take_while in_line (drop 2 (b ∷ bs)))
    else (if may_start b then word (take_while may_follow (b ∷ bs))
    else (if is_ascii_digit b then number (take_while is_ascii_digit (b ∷ bs))
    else sign (unwrap_or (option_or (sign_of (take 2 (b ∷ bs))) (sign_of (take 1 (b ∷ bs)))) Sign.Semicolon))))

run_ends : (is : Bool) (n : ℕ) → not is ≡ true → cond is (1 + n) 0 ≡ 0
run_ends true n h = cc
run_ends false n h = refl

-- a run is taken whole
run_whole : (p : ℕ → Bool) (bytes rest : List ℕ) → list_all p bytes ≡ true → stops p rest ≡ true → prefix_len p (bytes ++ rest) ≡ length bytes
run_whole p [] [] all at_end = refl
run_whole p [] (next ∷ more) all at_end = run_ends (p next) (prefix_len p more) at_end
run_whole p (b ∷ bs) rest all at_end =
    let parts = and_parts (p b) (list_all p bs) all in
    rw (parts.0, run_whole p bs rest parts.1 at_end) (omega arith)

run_taken : (p : ℕ → Bool) (bytes rest : List ℕ) → list_all p bytes ≡ true → stops p rest ≡ true → take_while p (bytes ++ rest) ≡ bytes
run_taken p bytes rest all at_end = rw (run_whole p bytes rest all at_end) (take_at bytes rest (length bytes) refl)

start_apart : (b : ℕ) → may_start b ≡ true → (is_blank b ≡ false) × ((b == 47) ≡ false)
start_apart b h = (grind (arith, nat_tests), grind (arith, nat_tests))

digit_apart : (b : ℕ) → is_ascii_digit b ≡ true → (is_blank b ≡ false) × ((b == 47) ≡ false) × (may_start b ≡ false)
digit_apart b h = (grind (arith, nat_tests), grind (arith, nat_tests), grind (arith, nat_tests))

-- a byte that may start a name may follow in one
follows : (b : ℕ) → may_start b ≡ true → may_follow b ≡ true
follows b h = rw h refl

word_all : (bytes : List ℕ) → is_word bytes ≡ true → list_all may_follow bytes ≡ true
word_all [] h = cc
word_all (b ∷ bs) h = let parts = and_parts (may_start b) (list_all may_follow bs) h in rw (follows b parts.0, parts.1) refl

third_case : (x y z w : Piece) (a b c : Bool) → a ≡ false → b ≡ false → c ≡ true → cond a x (cond b y (cond c z w)) ≡ z
third_case x y z w a b c ea eb ec = rw (ea, eb, ec) refl

fourth_case : (x y z w v : Piece) (a b c d : Bool) → a ≡ false → b ≡ false → c ≡ false → d ≡ true →
    cond a x (cond b y (cond c z (cond d w v))) ≡ w
fourth_case x y z w v a b c d ea eb ec ed = rw (ea, eb, ec, ed) refl

word_first : (bytes rest : List ℕ) → is_word bytes ≡ true → stops may_follow rest ≡ true → first_piece (bytes ++ rest) ≡ word bytes
word_first [] rest h at_end = cc
word_first (b ∷ bs) rest h at_end =
    let starts = (and_parts (may_start b) (list_all may_follow bs) h).0 in
    let apart = start_apart b starts in
    let taken = run_taken may_follow (b ∷ bs) rest (word_all (b ∷ bs) h) at_end in
    let slashes : opens_comment (take 2 (b ∷ (bs ++ rest))) ≡ false = rw apart.1 refl in
    third_case _ _ _ _ _ _ _ apart.0 slashes starts ∙ ap word taken

number_first : (bytes rest : List ℕ) → is_number bytes ≡ true → stops is_ascii_digit rest ≡ true → first_piece (bytes ++ rest) ≡ number bytes
number_first [] rest h at_end = cc
number_first (b ∷ bs) rest h at_end =
    let all = (and_parts (nat_lt 0 (length (b ∷ bs))) (list_all is_ascii_digit (b ∷ bs)) h).1 in
    let digit = (and_parts (is_ascii_digit b) (list_all is_ascii_digit bs) all).0 in
    let apart = digit_apart b digit in
    let taken = run_taken is_ascii_digit (b ∷ bs) rest all at_end in
    let slashes : opens_comment (take 2 (b ∷ (bs ++ rest))) ≡ false = rw apart.1 refl in
    fourth_case _ _ _ _ _ _ _ _ _ apart.0 slashes apart.2 digit ∙ ap number taken

-- the longer sign would be there
shorter_first : (longer shorter : Sign) (is : Bool) → not (is_some (cond (is && true) (Some longer) None) || false) ≡ true →
    sign (unwrap_or (option_or (cond (is && true) (Some longer) None) (Some shorter)) Sign.Semicolon) ≡ sign shorter
shorter_first longer shorter true h = cc
shorter_first longer shorter false h = refl

slash_first : (is : Bool) (line : List ℕ) → not (false || (is && true)) ≡ true → cond (is && true) (comment line) (sign Sign.Slash) ≡ sign Sign.Slash
slash_first true line h = cc
slash_first false line h = refl

sign_first : (s : Sign) (rest : List ℕ) → ends (sign s) rest ≡ true → first_piece (sign_bytes s ++ rest) ≡ sign s
sign_first Sign.Becomes rest h = refl
sign_first Sign.Equal rest h = refl
sign_first Sign.Unequal rest h = refl
sign_first Sign.LessOrEqual rest h = refl
sign_first Sign.GreaterOrEqual rest h = refl
sign_first Sign.Is (next ∷ more) h = shorter_first Sign.Equal Sign.Is (next == 61) h
sign_first Sign.Less (next ∷ more) h = shorter_first Sign.LessOrEqual Sign.Less (next == 61) h
sign_first Sign.Greater (next ∷ more) h = shorter_first Sign.GreaterOrEqual Sign.Greater (next == 61) h
sign_first Sign.Slash (next ∷ more) h = slash_first (next == 47) (take_while in_line more) h
sign_first _ [] h = refl
sign_first _ (next ∷ more) h = refl

piece_first : (p : Piece) (rest : List ℕ) → is_piece p ≡ true → ends p rest ≡ true → first_piece (piece_bytes p ++ rest) ≡ p
piece_first (blank b) rest h at_end = rw h refl
piece_first (comment bytes) rest h at_end = ap comment (run_taken in_line bytes rest h at_end)
piece_first (word bytes) rest h at_end = word_first bytes rest (and_parts (is_word bytes) (nat_le (length bytes) 32) h).0 at_end
piece_first (number bytes) rest h at_end = number_first bytes rest (and_parts (is_number bytes) (nat_lt (digits_value 10 bytes) (2 ^ 63)) h).0 at_end
piece_first (sign s) rest h at_end = sign_first s rest at_end

no_fault : (f : LexFail) (other : Option LexFail) (a b c d : Bool) → a ≡ false → b ≡ false → c ≡ true → d ≡ false →
    cond (a || b) None (cond c (cond d (Some f) None) other) ≡ None
no_fault f other a b c d ea eb ec ed = rw (ea, eb, ec, ed) refl

no_number_fault : (f g : Option LexFail) (fault : LexFail) (a b c d e : Bool) → a ≡ false → b ≡ false → c ≡ false → d ≡ true → e ≡ false →
    cond (a || b) None (cond c f (cond d (cond e (Some fault) None) g)) ≡ None
no_number_fault f g fault a b c d e ea eb ec ed ee = rw (ea, eb, ec, ed, ee) refl

slash_fits : (is : Bool) (other : Option LexFail) → other ≡ None → cond (is && true) None other ≡ None
slash_fits true other h = refl
slash_fits false other h = h

-- no fault stands where a piece stands
word_fits : (at : At) (bytes rest : List ℕ) → is_word bytes ≡ true → length bytes ≤ 32 → stops may_follow rest ≡ true → fault_at at (bytes ++ rest) ≡ None
word_fits at [] rest h short at_end = cc
word_fits at (b ∷ bs) rest h short at_end =
    let starts = (and_parts (may_start b) (list_all may_follow bs) h).0 in
    let apart = start_apart b starts in
    let slashes : opens_comment (take 2 (b ∷ (bs ++ rest))) ≡ false = rw apart.1 refl in
    let size = run_whole may_follow (b ∷ bs) rest (word_all (b ∷ bs) h) at_end in
    no_fault _ _ _ _ _ _ apart.0 slashes starts (ap (nat_lt 32) size ∙ le-ltb 32 (length (b ∷ bs)) short)

number_fits : (at : At) (bytes rest : List ℕ) → is_number bytes ≡ true → digits_value 10 bytes < 2 ^ 63 → stops is_ascii_digit rest ≡ true →
    fault_at at (bytes ++ rest) ≡ None
number_fits at [] rest h small at_end = cc
number_fits at (b ∷ bs) rest h small at_end =
    let all = (and_parts (nat_lt 0 (length (b ∷ bs))) (list_all is_ascii_digit (b ∷ bs)) h).1 in
    let digit = (and_parts (is_ascii_digit b) (list_all is_ascii_digit bs) all).0 in
    let apart = digit_apart b digit in
    let slashes : opens_comment (take 2 (b ∷ (bs ++ rest))) ≡ false = rw apart.1 refl in
    let value = ap (digits_value 10) (run_taken is_ascii_digit (b ∷ bs) rest all at_end) in
    no_number_fault _ _ _ _ _ _ _ _ apart.0 slashes apart.2 digit (ap (nat_le (2 ^ 63)) value ∙ lt-leb (2 ^ 63) (digits_value 10 (b ∷ bs)) small)

sign_fits : (at : At) (s : Sign) (rest : List ℕ) → fault_at at (sign_bytes s ++ rest) ≡ None
sign_fits at Sign.Slash [] = refl
sign_fits at Sign.Slash (next ∷ more) = slash_fits (next == 47) None refl
sign_fits at _ rest = refl

piece_fits : (at : At) (p : Piece) (rest : List ℕ) → is_piece p ≡ true → ends p rest ≡ true → fault_at at (piece_bytes p ++ rest) ≡ None
piece_fits at (blank b) rest h at_end = rw h refl
piece_fits at (comment bytes) rest h at_end = refl
piece_fits at (word bytes) rest h at_end =
    let parts = and_parts (is_word bytes) (nat_le (length bytes) 32) h in
    word_fits at bytes rest parts.0 (leb-true (length bytes) 32 parts.1) at_end
piece_fits at (number bytes) rest h at_end =
    let parts = and_parts (is_number bytes) (nat_lt (digits_value 10 bytes) (2 ^ 63)) h in
    number_fits at bytes rest parts.0 (ltb-true (digits_value 10 bytes) (2 ^ 63) parts.1) at_end
piece_fits at (sign s) rest h at_end = sign_fits at s rest

-- nothing of the rest is a piece
abbrev IsStuck : List ℕ → Type 0
IsStuck rest = (rest ≡ []) ⊎ ((at : At) × (fault : LexFail) × (fault_at at rest ≡ Some fault))

fault_there : {o : Option LexFail} {fault : LexFail} → o ≡ Some fault → o ≡ None → ⊥
fault_there e n = cc

not_stuck : (p : Piece) (rest : List ℕ) → is_piece p ≡ true → ends p rest ≡ true → IsStuck (piece_bytes p ++ rest) → ⊥
not_stuck p rest h at_end stuck =
    ⊎_elim
    (λ (e : piece_bytes p ++ rest ≡ []).
    let some = piece_some p h in
    let none = ap length e in
    absurd (omega (arith, length-append (piece_bytes p) rest, none)))
    (λ (f : (at : At) × (fault : LexFail) × (fault_at at (piece_bytes p ++ rest) ≡ Some fault)). fault_there f.2 (piece_fits f.0 p rest h at_end))
    stuck

-- the first of some pieces
record CutFirst (p : Piece) (ps : List Piece) (rest : List ℕ) : Type 0 where
  pub right : is_piece p ≡ true
  pub ends : ends p (bytes_of ps ++ rest) ≡ true
  pub more : are_pieces ps rest ≡ true

cut_first : (p : Piece) (ps : List Piece) (rest : List ℕ) → are_pieces (p ∷ ps) rest ≡ true → CutFirst p ps rest
cut_first p ps rest h =
    let parts = and_parts (is_piece p) (ends p (bytes_of ps ++ rest) && are_pieces ps rest) h in
    let more = and_parts (ends p (bytes_of ps ++ rest)) (are_pieces ps rest) parts.1 in
    record { right = parts.0; ends = more.0; more = more.1 }

cons_same : {p q : Piece} {ps qs : List Piece} → p ≡ q → ps ≡ qs → p ∷ ps ≡ q ∷ qs
cons_same a b = cc

-- two cuts of one text are one
record SameCut (ps qs : List Piece) (r s : List ℕ) : Type 0 where
  pub pieces : ps ≡ qs
  pub rest : r ≡ s

one_cut : (ps qs : List Piece) (r s : List ℕ) → are_pieces ps r ≡ true → are_pieces qs s ≡ true → bytes_of ps ++ r ≡ bytes_of qs ++ s →
    IsStuck r → IsStuck s → SameCut ps qs r s
one_cut [] [] r s h k same here there = record { pieces = refl; rest = same }
one_cut (p ∷ ps) [] r s h k same here there =
    let first = cut_first p ps r h in
    absurd (not_stuck p (bytes_of ps ++ r) first.right first.ends (subst IsStuck (sym same ∙ append_assoc (piece_bytes p) (bytes_of ps) r) there))
one_cut [] (q ∷ qs) r s h k same here there =
    let first = cut_first q qs s k in
    absurd (not_stuck q (bytes_of qs ++ s) first.right first.ends (subst IsStuck (same ∙ append_assoc (piece_bytes q) (bytes_of qs) s) here))
one_cut (p ∷ ps) (q ∷ qs) r s h k same here there =
    let first = cut_first p ps r h in
    let other = cut_first q qs s k in
    let whole : piece_bytes p ++ (bytes_of ps ++ r) ≡ piece_bytes q ++ (bytes_of qs ++ s) =
    sym (append_assoc (piece_bytes p) (bytes_of ps) r) ∙ same ∙ append_assoc (piece_bytes q) (bytes_of qs) s
    in
    let one : p ≡ q =
    sym (piece_first p (bytes_of ps ++ r) first.right first.ends) ∙ ap first_piece whole ∙ piece_first q (bytes_of qs ++ s) other.right other.ends
    in
    let behind = append_cancel_left (piece_bytes q) (bytes_of ps ++ r) (bytes_of qs ++ s) (rw one at whole) in
    let more = one_cut ps qs r s first.more other.more behind here there in
    record { pieces = cons_same one more.pieces; rest = more.rest }

abbrev built : List Token → At → Tokens
built list end = record { list = list; end = end }

same_tokens : (a b : Tokens) → a.list ≡ b.list → a.end ≡ b.end → a ≡ b
same_tokens a b list end = ap (λ (xs : List Token). built xs a.end) list ∙ ap (built b.list) end

stuck_at : (rest : List ℕ) (at : At) (fault : LexFail) → fault_at at rest ≡ Some fault → IsStuck rest
stuck_at rest at fault e = inr (at, fault, e)

same_some : {f g : LexFail} → Some f ≡ Some g → f ≡ g
same_some e = cc

-- a text has the tokens of one reading
pub one_list : (text : List ℕ) (a b : Tokens) → HasTokens text a → HasTokens text b → a ≡ b
one_list text a b h k =
    let same = one_cut h.pieces k.pieces [] [] h.begins.pieces k.begins.pieces (sym h.begins.whole ∙ k.begins.whole) (inl refl) (inl refl) in
    same_tokens a b (h.list ∙ ap (tokens_behind []) same.pieces ∙ sym k.list) (h.end ∙ sym k.end)

-- a text with tokens has no fault
pub no_both : (text : List ℕ) (tokens : Tokens) (fault : LexFail) → HasTokens text tokens → HasFault text fault → ⊥
no_both text tokens fault h k =
    let there = stuck_at k.rest (place (bytes_of k.pieces)) fault k.here in
    let same = one_cut h.pieces k.pieces [] k.rest h.begins.pieces k.begins.pieces (sym h.begins.whole ∙ k.begins.whole) (inl refl) there in
    fault_there (rw (← same.rest) at k.here) refl

-- and one fault
pub one_fault : (text : List ℕ) (f g : LexFail) → HasFault text f → HasFault text g → f ≡ g
one_fault text f g h k =
    let here = stuck_at h.rest (place (bytes_of h.pieces)) f h.here in
    let there = stuck_at k.rest (place (bytes_of k.pieces)) g k.here in
    let same = one_cut h.pieces k.pieces h.rest k.rest h.begins.pieces k.begins.pieces (sym h.begins.whole ∙ k.begins.whole) here there in
    same_some (sym (rw (same.pieces, same.rest) at h.here) ∙ k.here)
