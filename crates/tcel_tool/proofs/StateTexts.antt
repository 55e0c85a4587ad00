-- The text of a state, variable by variable and word by word.
use Rattle.std.proofs.Common.{◌≡◌, ℕ, ◌+◌, ◌-◌, ◌<◌, ◌≤◌, suc, ℤ, pos, Bool, true, false, cond, List, [], ◌∷◌, ◌++◌, length, get_or, map, filter, take, drop, refl, sym, ap, ◌∙◌, arith}
use Rattle.std.specs.Prelude.{codes}
use Rattle.std.specs.Fmt.{signed_decimal}
use Rattle.std.specs.List.{join_with_byte}
use Rattle.std.proofs.lemmas.List.{append_assoc, at_drop_more, drop_more, drop-append-le, length-drop, take-append-drop, take-append-le}
use Rattle.tcel_code.specs.Layout.{kind_of, state_of, states_of}
use Rattle.tcel_core.specs.declared.var.Var.{Var}
use Rattle.tcel_core.specs.Cells.{words_of}
use Rattle.tcel_core.specs.Frames.{is_state, state_words}
use Rattle.tcel_image.specs.TraceText.{states_text, value_text}
use Rattle.tcel_tool.specs.StateText.{name_text, own_text, own_words}
use Rattle.tcel_trace.proofs.Pieces.{numbers_joined}
use Rattle.tcel_trace.specs.Pieces.{more_numbers}

-- ---- variables

-- the part of a state variable, whose words stand first
abbrev part : Var → List ℤ → List ℕ
part v words = codes " " ++ (name_text v.name ++ (codes "=" ++ value_text (kind_of v.kind) (take (words_of v.kind) words)))

first_by : (b : Bool) (v : Var) (others : List Var) (words : List ℤ) → states_text (map state_of (cond b (v ∷ others) others)) words ≡ cond b (part v words) [] ++ states_text (map state_of others) (drop (cond b (words_of v.kind) 0) words)
first_by true v others words =
    let value = value_text (kind_of v.kind) (take (words_of v.kind) words) in
    let rest = states_text (map state_of others) (drop (words_of v.kind) words) in
    ap (λ t. codes " " ++ t) (sym (append_assoc (name_text v.name) (codes "=" ++ value) rest))
first_by false v others words = refl

-- the first variable's part, and those of the others
states_first : (v : Var) (vs : List Var) (words : List ℤ) → states_text (states_of (v ∷ vs)) words ≡ own_text v words ++ states_text (states_of vs) (drop (own_words v) words)
states_first v vs words = first_by (is_state v.keep) v (filter (λ (w : Var). is_state w.keep) vs) words

-- the next variable of a list
pub states_next : (vars : List Var) (i : ℕ) (v : Var) (words : List ℤ) → i < length vars → v ≡ get_or vars i v →
    states_text (states_of (drop i vars)) words ≡ own_text v words ++ states_text (states_of (drop (i + 1) vars)) (drop (own_words v) words)
states_next vars i v words lt is =
    at_drop_more (λ vs. states_text (states_of vs) words) vars i v lt ∙ ap (λ (y : Var). states_text (states_of (y ∷ drop (i + 1) vars)) words) (sym is)
    ∙ states_first v (drop (i + 1) vars) words

pub words_left : (vars : List Var) (i : ℕ) (v : Var) → i < length vars → v ≡ get_or vars i v → state_words (drop i vars) ≡ own_words v + state_words (drop (i + 1) vars)
words_left vars i v lt is =
    at_drop_more state_words vars i v lt ∙ ap (λ (y : Var). own_words y + state_words (drop (i + 1) vars)) (sym is)

-- ---- words behind the state are not shown

own_by : (b : Bool) (v : Var) (state more : List ℤ) → cond b (words_of v.kind) 0 ≤ length state → cond b (part v (state ++ more)) [] ≡ cond b (part v state) []
own_by true v state more within =
    ap (λ words. codes " " ++ (name_text v.name ++ (codes "=" ++ value_text (kind_of v.kind) words))) (take-append-le (words_of v.kind) state more within)
own_by false v state more within = refl

states_more : (vars : List Var) (state more : List ℤ) → state_words vars ≤ length state → states_text (states_of vars) (state ++ more) ≡ states_text (states_of vars) state
states_more [] state more within = refl
states_more (v ∷ vs) state more within =
    let own : own_words v ≤ length state = omega arith in
    let rest : state_words vs ≤ length (drop (own_words v) state) = omega (arith, length-drop (own_words v) state) in
    states_first v vs (state ++ more) ∙ ap (λ t. t ++ states_text (states_of vs) (drop (own_words v) (state ++ more))) (own_by (is_state v.keep) v state more own)
    ∙ ap (λ words. own_text v state ++ states_text (states_of vs) words) (drop-append-le (own_words v) state more own)
    ∙ ap (λ t. own_text v state ++ t) (states_more vs (drop (own_words v) state) more rest) ∙ sym (states_first v vs state)

-- the text of all words is that of the state
pub states_of_all : (vars : List Var) (cells : List ℤ) → state_words vars ≤ length (take (state_words vars) cells) → states_text (states_of vars) cells ≡ states_text (states_of vars) (take (state_words vars) cells)
states_of_all vars cells within =
    ap (states_text (states_of vars)) (sym (take-append-drop (state_words vars) cells)) ∙ states_more vars (take (state_words vars) cells) (drop (state_words vars) cells) within

-- ---- words

-- the words of two places: that of the first, and those behind it
pub words_next : (cells : List ℤ) (from to : ℕ) → from < to → to ≤ length cells →
    take (to - from) (drop from cells) ≡ get_or cells from (pos 0) ∷ take (to - (from + 1)) (drop (from + 1) cells)
words_next cells from to order within =
    let more : to - from ≡ suc (to - (from + 1)) = omega arith in
    ap (take (to - from)) (drop_more cells from (pos 0) (omega arith)) ∙ ap (λ n. take n (get_or cells from (pos 0) ∷ drop (from + 1) cells)) more

-- the word of a scalar
pub word_first : (cells : List ℤ) (place : ℕ) → place + 1 ≤ length cells → get_or (take 1 (drop place cells)) 0 (pos 0) ≡ get_or cells place (pos 0)
word_first cells place within = ap (λ words. get_or (take 1 words) 0 (pos 0)) (drop_more cells place (pos 0) (omega arith))

-- a comma and a number were written
pub one_number : (start comma new all : List ℕ) (words rest : List ℤ) (w : ℤ) → words ≡ w ∷ rest → comma ≡ start ++ codes "," → new ≡ comma ++ signed_decimal w → start ++ more_numbers words ≡ all →
    new ++ more_numbers rest ≡ all
one_number start comma new all words rest w is e f h =
    let digits = signed_decimal w in
    let others = more_numbers rest in
    ap (λ t. t ++ others) (f ∙ ap (λ t. t ++ digits) e) ∙ append_assoc (start ++ codes ",") digits others ∙ append_assoc start (codes ",") (digits ++ others)
    ∙ ap (λ ws. start ++ more_numbers ws) (sym is) ∙ h

-- the first number and those behind it were written
pub all_numbers : (old one new : List ℕ) (words rest : List ℤ) (w : ℤ) → words ≡ w ∷ rest → one ≡ old ++ signed_decimal w → new ≡ one ++ more_numbers rest → new ≡ old ++ join_with_byte 44 (map signed_decimal words)
all_numbers old one new words rest w is e f =
    f ∙ ap (λ t. t ++ more_numbers rest) e ∙ append_assoc old (signed_decimal w) (more_numbers rest)
    ∙ ap (λ t. old ++ t) (sym (numbers_joined w rest) ∙ ap (λ ws. join_with_byte 44 (map signed_decimal ws)) (sym is))
