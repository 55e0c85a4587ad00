-- Places rise along a text, and its tokens' numbers are 0 or more.
use Rattle.std.proofs.Common.{◌≡◌, ◌<◌, ℕ, zero, suc, ◌+◌, Bool, true, false, cond, List, [], ◌∷◌, ◌++◌, length, refl, sym, ap, ◌∙◌, arith, append_assoc, Option, Some, None, ◌⊎◌, inl, inr, ⊎_elim, subst}
use Rattle.std.specs.Prelude.{◌&&◌, ◌||◌, All, AllPairs, MatchOption, option_map, unwrap_or, find, nat_eq, nat_le, nat_lt, ◌^◌}
use Rattle.std.specs.Cmp.Lexicographic.{pointwise}
use Rattle.std.specs.List.{list_any}
use Rattle.std.specs.Str.Parse.{digits_value}
use Rattle.tcel_num.specs.Name.{IsName, is_word, is_reserved}
use Rattle.std.proofs.lemmas.Bool.{and_parts, leb-true, ltb-true}
use Rattle.std.proofs.lemmas.Int.{ints}
use Rattle.std.proofs.lemmas.List.{append-nil}
use Rattle.std.proofs.lemmas.List.Elements.{All-nil, All-cons, All-weaker}
use Rattle.tcel_num.specs.declared.at.At.{At}
use Rattle.tcel_token.specs.declared.keyword.Keyword.{Keyword}
use Rattle.tcel_token.specs.declared.token.Token.{Token}
use Rattle.tcel_token.specs.declared.token.TokenKind.{TokenKind}
use Rattle.tcel_token.specs.declared.token.Tokens.{Tokens}
use Rattle.tcel_token.specs.Pieces.{Piece, blank, comment, word, number, sign, piece_bytes, bytes_of, is_piece, are_pieces, ends, kind_of, is_line_feed, is_number}
use Rattle.tcel_token.specs.Places.{place, Precedes}
use Rattle.tcel_token.specs.Spelling.{word_bytes, words, word_of}
use Rattle.tcel_token.specs.Terminal.{Terminal, terminals}
use Rattle.tcel_token.specs.Tokens.{token_at, tokens_behind, HasTokens}
use Rattle.tcel_token.specs.WellFormed.{IsNatural, IsWritable, AreWellFormed, places}
use Rattle.tcel_token.proofs.Placing.{at_place, place_push}
use Rattle.tcel_token.proofs.Scanning.{piece_some}

pub precedes_trans : (a b c : At) → Precedes a b → Precedes b c → Precedes a c
precedes_trans a b c (inl h) (inl k) = inl (omega arith)
precedes_trans a b c (inl h) (inr k) = inl (omega (arith, k.0))
precedes_trans a b c (inr h) (inl k) = inl (omega (arith, h.0))
precedes_trans a b c (inr h) (inr k) = inr (h.0 ∙ k.0, omega (arith, h.1, k.1))

next_precedes : (at : At) (is : Bool) → Precedes at (cond is (at_place (at.line + 1) 1) (at_place at.line (at.column + 1)))
next_precedes at true = inl (omega arith)
next_precedes at false = inr (refl, omega arith)

-- the same place, or one behind it
abbrev pub IsFrom : At → At → Type 0
IsFrom a b = (a ≡ b) ⊎ Precedes a b

precedes_from : (a b c : At) → Precedes a b → IsFrom b c → Precedes a c
precedes_from a b c h k = ⊎_elim (λ (e : b ≡ c). subst (λ (x : At). Precedes a x) e h) (λ (p : Precedes b c). precedes_trans a b c h p) k

step_precedes : (before : List ℕ) (b : ℕ) (bs : List ℕ) → IsFrom (place (before ++ b ∷ [])) (place ((before ++ b ∷ []) ++ bs)) →
    Precedes (place before) (place (before ++ b ∷ bs))
step_precedes before b bs more =
    let one : Precedes (place before) (place (before ++ b ∷ [])) =
    subst (λ (x : At). Precedes (place before) x) (sym (place_push before b)) (next_precedes (place before) (is_line_feed b))
    in
    let whole = append_assoc before (b ∷ []) bs in
    subst (λ (xs : List ℕ). Precedes (place before) (place xs)) whole
    (precedes_from (place before) (place (before ++ b ∷ [])) (place ((before ++ b ∷ []) ++ bs)) one more)

behind_any : (bytes before : List ℕ) → IsFrom (place before) (place (before ++ bytes))
behind_any [] before = inl (ap place (sym (append-nil before)))
behind_any (b ∷ bs) before = inr (step_precedes before b bs (behind_any bs (before ++ b ∷ [])))

-- behind more bytes is a later place
pub behind_some : (bytes before : List ℕ) → 0 < length bytes → Precedes (place before) (place (before ++ bytes))
behind_some [] before some = absurd (omega arith)
behind_some (b ∷ bs) before some = step_precedes before b bs (behind_any bs (before ++ b ∷ []))

pairs_one : (a : At) → AllPairs Precedes (a ∷ [])
pairs_one a i j d lt short = absurd (omega arith)

pairs_cons : (a : At) (xs : List At) → All (Precedes a) xs → AllPairs Precedes xs → AllPairs Precedes (a ∷ xs)
pairs_cons a xs first rest zero (suc j) d lt short = first j d (omega arith)
pairs_cons a xs first rest (suc i) (suc j) d lt short = rest i j d (omega arith) (omega arith)
pairs_cons a xs first rest i zero d lt short = absurd (omega arith)

-- the places of the tokens that stand behind these bytes, and that of the end
abbrev places_behind : List ℕ → List Piece → List At
places_behind before ps = places (terminals (tokens_behind before ps)) (place (before ++ bytes_of ps))

record Rises (at : At) (xs : List At) : Type 0 where
  pub from : All (IsFrom at) xs
  pub pairs : AllPairs Precedes xs

-- a token in front of places that rise
rises_at : (kind : Option TokenKind) (before bytes : List ℕ) (ts : List Token) (end : At) → Precedes (place before) (place (before ++ bytes)) →
    Rises (place (before ++ bytes)) (places (terminals ts) end) →
    Rises (place before) (places (terminals (token_at kind (length before) (length bytes) (place before) ++ ts)) end)
rises_at None before bytes ts end step rest =
    let xs = places (terminals ts) end in
    let a = place before in
    let b = place (before ++ bytes) in
    record { from = All-weaker (IsFrom b) (IsFrom a) (λ x h. inr (precedes_from a b x step h)) xs rest.from; pairs = rest.pairs }
rises_at (Some k) before bytes ts end step rest =
    let xs = places (terminals ts) end in
    let a = place before in
    let b = place (before ++ bytes) in
    let behind = All-weaker (IsFrom b) (Precedes a) (λ x h. precedes_from a b x step h) xs rest.from in
    record {
      from = All-cons (IsFrom a) a xs (inl refl) (All-weaker (Precedes a) (IsFrom a) (λ x h. inr h) xs behind);
      pairs = pairs_cons a xs behind rest.pairs;
    }

rises : (ps : List Piece) (before rest : List ℕ) → are_pieces ps rest ≡ true →
    Rises (place before) (places (terminals (tokens_behind before ps)) (place (before ++ bytes_of ps)))
rises [] before rest h =
    let at = place before in
    let end = place (before ++ []) in
    record { from = All-cons (IsFrom at) end [] (inl (ap place (sym (append-nil before)))) (All-nil (IsFrom at)); pairs = pairs_one end }
rises (p ∷ ps) before rest h =
    let bytes = piece_bytes p in
    let parts = and_parts (is_piece p) (ends p (bytes_of ps ++ rest) && are_pieces ps rest) h in
    let more = (and_parts (ends p (bytes_of ps ++ rest)) (are_pieces ps rest) parts.1).1 in
    let step = behind_some bytes before (piece_some p parts.0) in
    let whole = append_assoc before bytes (bytes_of ps) in
    subst (λ (xs : List ℕ). Rises (place before) (places (terminals (tokens_behind before (p ∷ ps))) (place xs))) whole
    (rises_at (kind_of p) before bytes (tokens_behind (before ++ bytes) ps) (place ((before ++ bytes) ++ bytes_of ps)) step
    (rises ps (before ++ bytes) rest more))

-- what holds of each piece's kind holds of all tokens
module _ (P : TokenKind → Type 0) where
  kind_at : (kind : Option TokenKind) (n m : ℕ) (at : At) (ts : List Token) → MatchOption kind (Unit {0}) P →
      All (λ (t : Terminal). P t.kind) (terminals ts) → All (λ (t : Terminal). P t.kind) (terminals (token_at kind n m at ++ ts))
  kind_at None n m at ts h rest = rest
  kind_at (Some k) n m at ts h rest = All-cons (λ (t : Terminal). P t.kind) (record { kind = k; at = at }) (terminals ts) h rest

  kinds_hold : ((p : Piece) → is_piece p ≡ true → MatchOption (kind_of p) (Unit {0}) P) → (ps : List Piece) (before rest : List ℕ) →
      are_pieces ps rest ≡ true → All (λ (t : Terminal). P t.kind) (terminals (tokens_behind before ps))
  kinds_hold each [] before rest h = All-nil (λ (t : Terminal). P t.kind)
  kinds_hold each (p ∷ ps) before rest h =
      let parts = and_parts (is_piece p) (ends p (bytes_of ps ++ rest) && are_pieces ps rest) h in
      let more = and_parts (ends p (bytes_of ps ++ rest)) (are_pieces ps rest) parts.1 in
      kind_at (kind_of p) (length before) (length (piece_bytes p)) (place before) (tokens_behind (before ++ piece_bytes p) ps) (each p parts.0)
      (kinds_hold each ps (before ++ piece_bytes p) rest more.1)

none_by : {X : Type 0} (b : Bool) (o : Option X) (x : X) (r : Bool) → (o ≡ None → r ≡ false) → cond b (Some x) o ≡ None → (b || r) ≡ false
none_by true o x r h e = cc
none_by false o x r h e = h e

none_found : {X : Type 0} (p : X → Bool) (xs : List X) → find p xs ≡ None → list_any p xs ≡ false
none_found p [] h = refl
none_found p (x ∷ xs) h = none_by (p x) (find p xs) x (list_any p xs) (none_found p xs) h

-- a word that is no reserved one is a name
name_by : (o : Option Keyword) (bytes : List ℕ) → (o ≡ None → IsName bytes) →
    IsWritable (unwrap_or (option_map (λ w. TokenKind.Word w) o) (TokenKind.Name bytes))
name_by None bytes h = h refl
name_by (Some w) bytes h = tt

name_free : (bytes : List ℕ) → word_of bytes ≡ None → is_reserved bytes ≡ false
name_free bytes h = none_found (λ (w : Keyword). pointwise nat_eq bytes (word_bytes w)) words h

kind_writable : (p : Piece) → is_piece p ≡ true → MatchOption (kind_of p) (Unit {0}) IsWritable
kind_writable (blank b) h = tt
kind_writable (comment bytes) h = tt
kind_writable (word bytes) h =
    let parts = and_parts (is_word bytes) (nat_le (length bytes) 32) h in
    name_by (word_of bytes) bytes (λ none. record { word = parts.0; short = leb-true (length bytes) 32 parts.1; free = name_free bytes none })
kind_writable (number bytes) h =
    let parts = and_parts (is_number bytes) (nat_lt (digits_value 10 bytes) (2 ^ 63)) h in
    let small = ltb-true (digits_value 10 bytes) (2 ^ 63) parts.1 in
    (omega (arith, ints), omega (arith, ints))
kind_writable (sign s) h = tt

natural_from : (kind : TokenKind) → IsWritable kind → IsNatural kind
natural_from (TokenKind.Word w) h = tt
natural_from (TokenKind.Name name) h = tt
natural_from (TokenKind.Number n) h = h.0
natural_from (TokenKind.Sign s) h = tt

-- the tokens of a text are such as a text can spell
pub writable : (text : List ℕ) (tokens : Tokens) → HasTokens text tokens → All (λ (t : Terminal). IsWritable t.kind) (terminals tokens.list)
writable text tokens h = rw h.list (kinds_hold IsWritable kind_writable h.pieces [] [] h.begins.pieces)

-- the tokens of a text are well formed
pub well_formed : (text : List ℕ) (tokens : Tokens) → HasTokens text tokens → AreWellFormed (terminals tokens.list) tokens.end
well_formed text tokens h =
    let natural =
    All-weaker (λ (t : Terminal). IsWritable t.kind) (λ (t : Terminal). IsNatural t.kind) (λ t w. natural_from t.kind w) (terminals tokens.list) (writable text tokens h)
    in
    let end : tokens.end ≡ place (bytes_of h.pieces) = h.end ∙ ap place (h.begins.whole ∙ append-nil (bytes_of h.pieces)) in
    record { numbers = natural; rising = rw (h.list, end) (rises h.pieces [] [] h.begins.pieces).pairs }
