-- The first piece of some bytes, kind by kind.
use Rattle.std.proofs.Common.{◌≡◌, ◌<◌, ◌≤◌, ◌^◌, ℕ, suc, Bool, true, false, cond, List, [], ◌∷◌, ◌++◌, length, get_or, take, drop, subst, refl, sym, ap, ◌∙◌, arith, one-add, Option, Some, None, inl, inr, ⊎_elim}
use Rattle.std.specs.Option.{option_or}
use Rattle.std.specs.Prelude.{◌||◌, pos, nat_eq, find, is_some, ◌⊎◌}
use Rattle.std.specs.Char.{is_ascii_digit}
use Rattle.std.specs.List.{prefix_len}
use Rattle.std.specs.Str.Parse.{digits_value}
use Rattle.std.proofs.lemmas.List.{length-take-le, take-append-drop}
use Rattle.std.proofs.lemmas.List.Sums.{prefix_len-le-length}
use Rattle.std.proofs.lemmas.Bool.{and_from, le-leb, lt-ltb}
use Rattle.std.specs.Cmp.Lexicographic.{pointwise, same_text}
use Rattle.tcel_num.specs.Name.{is_word, may_follow, may_start}
use Rattle.tcel_token.specs.declared.sign.Sign.{Sign}
use Rattle.tcel_token.specs.declared.token.TokenKind.{TokenKind}
use Rattle.tcel_token.specs.Lexeme.{IsFirst, starts}
use Rattle.tcel_token.specs.Pieces.{Piece, blank, comment, word, number, sign, piece_bytes, is_piece, goes_on, ends, kind_of, stops, is_blank, in_line, opens_comment}
use Rattle.tcel_token.specs.Spelling.{kind_of_word, sign_of, sign_bytes, signs}
use Rattle.tcel_token.specs.Tokens.{begins_sign}
use Rattle.std.specs.Prelude.{ℤ}
use Rattle.std.specs.Int.{w64}
use mir.Val.{to_z, of_z}
use Rattle.tcel_token.proofs.Values.{fitting, fitted, kept}
use Rattle.tcel_token.proofs.Runs.{run_passes, run_stops, run_starts}

-- a piece that is a run of bytes
run_is_first : (piece : Piece) (bytes : List ℕ) (passes : ℕ → Bool) →
    piece_bytes piece ≡ take (prefix_len passes bytes) bytes → is_piece piece ≡ true → goes_on piece ≡ passes →
    IsFirst bytes (record { length = prefix_len passes bytes; kind = kind_of piece })
run_is_first piece bytes passes same right going =
    record {
      piece = piece;
      whole = rw same (sym (take-append-drop (prefix_len passes bytes) bytes));
      size = rw same (sym (length-take-le (prefix_len passes bytes) bytes (prefix_len-le-length passes bytes)));
      right = right;
      ends = rw going (run_stops passes bytes);
      kind = refl;
    }

front_is_word : (b : ℕ) (bs : List ℕ) → may_start b ≡ true → is_word (take (prefix_len may_follow (b ∷ bs)) (b ∷ bs)) ≡ true
front_is_word b bs h = rw (h, one-add) (rw (h, run_passes may_follow bs) refl)

-- a run that may start a name is a word
pub run_is_word : (bytes : List ℕ) → starts may_start bytes ≡ true → is_word (take (prefix_len may_follow bytes) bytes) ≡ true
run_is_word [] h = cc
run_is_word (b ∷ bs) h = front_is_word b bs h

pub word_is_first : (bytes : List ℕ) → starts may_start bytes ≡ true → prefix_len may_follow bytes ≤ 32 →
    let n = prefix_len may_follow bytes in
    IsFirst bytes (record { length = n; kind = Some (kind_of_word (take n bytes)) })
word_is_first bytes h short =
    let n = prefix_len may_follow bytes in
    let size : length (take n bytes) ≡ n = length-take-le n bytes (prefix_len-le-length may_follow bytes) in
    let fits = le-leb (length (take n bytes)) 32 (rw size short) in
    run_is_first (word (take n bytes)) bytes may_follow refl (and_from _ _ (run_is_word bytes h) fits) refl

pub number_is_first : (bytes : List ℕ) → starts is_ascii_digit bytes ≡ true →
    let n = prefix_len is_ascii_digit bytes in
    digits_value 10 (take n bytes) < 2 ^ 63 →
    IsFirst bytes (record { length = n; kind = Some (TokenKind.Number (pos (digits_value 10 (take n bytes)))) })
number_is_first bytes h small =
    let n = prefix_len is_ascii_digit bytes in
    let size : length (take n bytes) ≡ n = length-take-le n bytes (prefix_len-le-length is_ascii_digit bytes) in
    let some = lt-ltb 0 (length (take n bytes)) (rw size (run_starts is_ascii_digit bytes h)) in
    let fits = lt-ltb (digits_value 10 (take n bytes)) (2 ^ 63) small in
    let right = and_from _ _ (and_from _ _ some (run_passes is_ascii_digit bytes)) fits in
    run_is_first (number (take n bytes)) bytes is_ascii_digit refl right refl

blank_ends : (b : ℕ) (rest : List ℕ) → ends (blank b) rest ≡ true
blank_ends b [] = refl
blank_ends b (next ∷ more) = refl

slashes_are_first : (more : List ℕ) → IsFirst (47 ∷ 47 ∷ more) (record { length = prefix_len in_line (47 ∷ 47 ∷ more); kind = None })
slashes_are_first more =
    let n = prefix_len in_line more in
    let two : prefix_len in_line (47 ∷ 47 ∷ more) ≡ suc (suc n) = omega arith in
    run_is_first (comment (take n more)) (47 ∷ 47 ∷ more) in_line (rw two refl) (run_passes in_line more) refl

-- two slashes and the line behind them
pub comment_is_first : (bytes : List ℕ) → opens_comment (take 2 bytes) ≡ true → IsFirst bytes (record { length = prefix_len in_line bytes; kind = None })
comment_is_first bytes h =
    let front = same_text (take 2 bytes) (47 ∷ 47 ∷ []) (sym h) in
    let whole : 47 ∷ 47 ∷ drop 2 bytes ≡ bytes = ap (λ (xs : List ℕ). xs ++ drop 2 bytes) (sym front) ∙ take-append-drop 2 bytes in
    subst (λ (xs : List ℕ). IsFirst xs (record { length = prefix_len in_line xs; kind = None })) whole (slashes_are_first (drop 2 bytes))

-- one blank
pub blank_is_first : (bytes : List ℕ) → 0 < length bytes → is_blank (get_or bytes 0 0) ≡ true → IsFirst bytes (record { length = 1; kind = None })
blank_is_first [] some h = absurd (omega arith)
blank_is_first (b ∷ more) some h =
    record { piece = blank b; whole = refl; size = refl; right = h; ends = blank_ends b more; kind = refl }

passes_if_found : {X : Type 0} (p : X → Bool) (x y : X) (o : Option X) (b : Bool) → p x ≡ b →
    (o ≡ Some y → p y ≡ true) → cond b (Some x) o ≡ Some y → p y ≡ true
passes_if_found p x y o true h more found = let e : x ≡ y = cc in rw (← e) h
passes_if_found p x y o false h more found = more found

found_passes : {X : Type 0} (p : X → Bool) (xs : List X) (y : X) → find p xs ≡ Some y → p y ≡ true
found_passes p [] y h = cc
found_passes p (x ∷ xs) y h = passes_if_found p x y (find p xs) (p x) refl (found_passes p xs y) h

-- what a sign is found for is how it is spelled
pub sign_found : (bytes : List ℕ) (s : Sign) → sign_of bytes ≡ Some s → bytes ≡ sign_bytes s
sign_found bytes s h = same_text bytes (sign_bytes s) (sym (found_passes (λ (x : Sign). pointwise nat_eq bytes (sign_bytes x)) signs s h))

doubles_end : (s : Sign) (next : ℕ) → length (sign_bytes s) ≡ 2 → goes_on (sign s) next ≡ false
doubles_end Sign.Becomes next h = refl
doubles_end Sign.Equal next h = refl
doubles_end Sign.Unequal next h = refl
doubles_end Sign.LessOrEqual next h = refl
doubles_end Sign.GreaterOrEqual next h = refl
doubles_end _ next h = absurd (omega arith)

double_stops : (s : Sign) (rest : List ℕ) → length (sign_bytes s) ≡ 2 → stops (goes_on (sign s)) rest ≡ true
double_stops s [] h = refl
double_stops s (next ∷ more) h = rw (doubles_end s next h) refl

first_of_two : (o p : Option Sign) (s : Sign) → option_or o p ≡ Some s → (o ≡ Some s) ⊎ ((o ≡ None) × (p ≡ Some s))
first_of_two None p s h = inr (refl, h)
first_of_two (Some t) p s h = inl h

single_is_first : (b : ℕ) (rest : List ℕ) (s : Sign) → b ∷ [] ≡ sign_bytes s → stops (goes_on (sign s)) rest ≡ true →
    IsFirst (b ∷ rest) (record { length = length (sign_bytes s); kind = Some (TokenKind.Sign s) })
single_is_first b rest s e at_end =
    let size : length (sign_bytes s) ≡ 1 = sym (ap length e) in
    record {
      piece = sign s;
      whole = rw (size, ← e) refl;
      size = refl;
      right = refl;
      ends = rw size at_end;
      kind = refl;
    }

double_is_first : (a b : ℕ) (rest : List ℕ) (s : Sign) → a ∷ b ∷ [] ≡ sign_bytes s →
    IsFirst (a ∷ b ∷ rest) (record { length = length (sign_bytes s); kind = Some (TokenKind.Sign s) })
double_is_first a b rest s e =
    let size : length (sign_bytes s) ≡ 2 = sym (ap length e) in
    record {
      piece = sign s;
      whole = rw (size, ← e) refl;
      size = refl;
      right = refl;
      ends = rw size (double_stops s rest size);
      kind = refl;
    }

-- the longest sign
pub sign_is_first : (bytes : List ℕ) (s : Sign) → opens_comment (take 2 bytes) ≡ false →
    option_or (sign_of (take 2 bytes)) (sign_of (take 1 bytes)) ≡ Some s →
    IsFirst bytes (record { length = length (sign_bytes s); kind = Some (TokenKind.Sign s) })
sign_is_first [] s passed h = cc
sign_is_first (b ∷ []) s passed h =
    ⊎_elim
    (λ e. single_is_first b [] s (sign_found (b ∷ []) s e) refl)
    (λ e. single_is_first b [] s (sign_found (b ∷ []) s e.1) refl)
    (first_of_two (sign_of (b ∷ [])) (sign_of (b ∷ [])) s h)
sign_is_first (a ∷ b ∷ rest) s passed h =
    ⊎_elim
    (λ e. double_is_first a b rest s (sign_found (a ∷ b ∷ []) s e))
    (λ e.
    let same = sign_found (a ∷ []) s e.1 in
    single_is_first a (b ∷ rest) s same (rw (← same) (rw (e.0, passed) refl)))
    (first_of_two (sign_of (a ∷ b ∷ [])) (sign_of (a ∷ [])) s h)

sign_begins : (o p : Option Sign) → option_or o p ≡ None → (is_some p || is_some o) ≡ false
sign_begins None p h = rw h refl
sign_begins (Some s) p h = cc

-- no sign
pub no_sign : (bytes : List ℕ) → option_or (sign_of (take 2 bytes)) (sign_of (take 1 bytes)) ≡ None → begins_sign bytes ≡ false
no_sign bytes h = sign_begins (sign_of (take 2 bytes)) (sign_of (take 1 bytes)) h

-- a number whose value was read into 64 bits
pub read_is_first : (bytes : List ℕ) (z : ℤ) → starts is_ascii_digit bytes ≡ true →
    let n = prefix_len is_ascii_digit bytes in
    Some z ≡ fitting (digits_value 10 (take n bytes)) →
    IsFirst bytes (record { length = n; kind = Some (TokenKind.Number (to_z w64 (of_z w64 z))) })
read_is_first bytes z h e =
    let value = digits_value 10 (take (prefix_len is_ascii_digit bytes) bytes) in
    let f = fitted value z e in
    rw (f.0, kept value f.1) (number_is_first bytes h f.1)
