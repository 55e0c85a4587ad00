-- The text of a state, variable by variable and word by word, and what stands behind it.
use Rattle.std.proofs.Common.{◌≡◌, ℕ, ◌+◌, ◌-◌, ◌<◌, ◌≤◌, suc, ℤ, pos, Bool, true, false, cond, List, [], ◌∷◌, ◌++◌, length, get_or, map, filter, take, drop, replicate, Some, None, refl, sym, ap, ◌∙◌, arith}
use Rattle.std.specs.Prelude.{codes}
use Rattle.std.specs.Fmt.{signed_decimal}
use Rattle.std.specs.List.{join_with_byte}
use Rattle.std.proofs.lemmas.List.{append_assoc, at_drop_more, drop_more, drop-append-le, length-append, length-drop, length-replicate, take-append-le}
use Rattle.tcel_code.specs.Layout.{kind_of, state_of, states_of}
use Rattle.tcel_core.specs.declared.var.Var.{Var}
use Rattle.tcel_core.specs.Cells.{all_words, words_of}
use Rattle.tcel_core.specs.Frames.{is_state, start_cells, state_words}
use Rattle.tcel_core.proofs.StateWords.{states_within}
use Rattle.tcel_image.specs.TraceText.{states_text, value_text}
use Rattle.tcel_judge.specs.StateParts.{name_text, own_text, own_words}
use Rattle.tcel_judge.proofs.Fronts.{goes, stops}
use Rattle.tcel_trace.proofs.Pieces.{numbers_joined}
use Rattle.tcel_trace.specs.Pieces.{more_numbers}
use Rattle.tcel_trace.specs.Reading.{behind}

-- ---- variables

-- the part of a state variable, whose words stand first
abbrev part : Var → List ℤ → List ℕ
part v words = codes " " ++ (name_text v.name ++ (codes "=" ++ value_text (kind_of v.kind) (take (words_of v.kind) words)))

first_by : (b : Bool) (v : Var) (others : List Var) (words : List ℤ) → states_text (map state_of (cond b (v ∷ others) others)) words ≡ cond b (part v words) [] ++ states_text (map state_of others) (drop (cond b (words_of v.kind) 0) words)
first_by true v others words =
    let value = value_text (kind_of v.kind) (take (words_of v.kind) words) in
    let rest = states_text (map state_of others) (drop (words_of v.kind) words) in
    ap (λ t. codes " " ++ t) (sym (append_assoc (name_text v.name) (codes "=" ++ value) rest))
first_by false v others words = refl

-- the first variable's part, and those of the others
states_first : (v : Var) (vs : List Var) (words : List ℤ) → states_text (states_of (v ∷ vs)) words ≡ own_text v words ++ states_text (states_of vs) (drop (own_words v) words)
states_first v vs words = first_by (is_state v.keep) v (filter (λ (w : Var). is_state w.keep) vs) words

-- the next variable of a list
pub states_next : (vars : List Var) (i : ℕ) (v : Var) (words : List ℤ) → i < length vars → v ≡ get_or vars i v →
    states_text (states_of (drop i vars)) words ≡ own_text v words ++ states_text (states_of (drop (i + 1) vars)) (drop (own_words v) words)
states_next vars i v words lt is =
    at_drop_more (λ vs. states_text (states_of vs) words) vars i v lt ∙ ap (λ (y : Var). states_text (states_of (y ∷ drop (i + 1) vars)) words) (sym is)
    ∙ states_first v (drop (i + 1) vars) words

pub words_left : (vars : List Var) (i : ℕ) (v : Var) → i < length vars → v ≡ get_or vars i v → state_words (drop i vars) ≡ own_words v + state_words (drop (i + 1) vars)
words_left vars i v lt is =
    at_drop_more state_words vars i v lt ∙ ap (λ (y : Var). own_words y + state_words (drop (i + 1) vars)) (sym is)

-- the text has the next variable's part, or it hasn't
pub variable_passed : (vars : List Var) (i : ℕ) (v : Var) (words : List ℤ) (text rest : List ℕ) → i < length vars → v ≡ get_or vars i v → behind (own_text v words) text ≡ Some rest →
    behind (states_text (states_of (drop i vars)) words) text ≡ behind (states_text (states_of (drop (i + 1) vars)) (drop (own_words v) words)) rest
variable_passed vars i v words text rest lt is there =
    let others = states_text (states_of (drop (i + 1) vars)) (drop (own_words v) words) in
    ap (λ front. behind front text) (states_next vars i v words lt is) ∙ goes (own_text v words) others text rest there

pub variable_lost : (vars : List Var) (i : ℕ) (v : Var) (words : List ℤ) (text : List ℕ) → i < length vars → v ≡ get_or vars i v → behind (own_text v words) text ≡ None →
    behind (states_text (states_of (drop i vars)) words) text ≡ None
variable_lost vars i v words text lt is lost =
    let others = states_text (states_of (drop (i + 1) vars)) (drop (own_words v) words) in
    ap (λ front. behind front text) (states_next vars i v words lt is) ∙ stops (own_text v words) others text lost

-- ---- words behind the state are not shown

own_by : (b : Bool) (v : Var) (state more : List ℤ) → cond b (words_of v.kind) 0 ≤ length state → cond b (part v (state ++ more)) [] ≡ cond b (part v state) []
own_by true v state more within =
    ap (λ words. codes " " ++ (name_text v.name ++ (codes "=" ++ value_text (kind_of v.kind) words))) (take-append-le (words_of v.kind) state more within)
own_by false v state more within = refl

pub states_more : (vars : List Var) (state more : List ℤ) → state_words vars ≤ length state → states_text (states_of vars) (state ++ more) ≡ states_text (states_of vars) state
states_more [] state more within = refl
states_more (v ∷ vs) state more within =
    let own : own_words v ≤ length state = omega arith in
    let rest : state_words vs ≤ length (drop (own_words v) state) = omega (arith, length-drop (own_words v) state) in
    states_first v vs (state ++ more) ∙ ap (λ t. t ++ states_text (states_of vs) (drop (own_words v) (state ++ more))) (own_by (is_state v.keep) v state more own)
    ∙ ap (λ words. own_text v state ++ states_text (states_of vs) words) (drop-append-le (own_words v) state more own)
    ∙ ap (λ t. own_text v state ++ t) (states_more vs (drop (own_words v) state) more rest) ∙ sym (states_first v vs state)

-- the words with which a frame starts have the text of the state
pub states_at_start : (vars : List Var) (state cells : List ℤ) → cells ≡ start_cells vars state → length cells ≡ all_words vars →
    states_text (states_of vars) cells ≡ states_text (states_of vars) state
states_at_start vars state cells is long =
    let zeros = replicate (all_words vars - state_words vars) (pos 0) in
    let within : state_words vars ≤ length state =
    omega (arith, long, ap (λ (ws : List ℤ). length ws) is, length-append state zeros, length-replicate {A = ℤ} (all_words vars - state_words vars) (pos 0), states_within vars) in
    ap (states_text (states_of vars)) is ∙ states_more vars state zeros within

-- ---- words

-- the words of two places: that of the first, and those behind it
pub words_next : (cells : List ℤ) (from to : ℕ) → from < to → to ≤ length cells →
    take (to - from) (drop from cells) ≡ get_or cells from (pos 0) ∷ take (to - (from + 1)) (drop (from + 1) cells)
words_next cells from to order within =
    let more : to - from ≡ suc (to - (from + 1)) = omega arith in
    ap (take (to - from)) (drop_more cells from (pos 0) (omega arith)) ∙ ap (λ n. take n (get_or cells from (pos 0) ∷ drop (from + 1) cells)) more

module _ (words others : List ℤ) (w : ℤ) (is : words ≡ w ∷ others) (text comma : List ℕ) (there : behind (codes ",") text ≡ Some comma) where
  abbrev one : List ℕ
  one = codes "," ++ signed_decimal w

  pub number_passed : (rest : List ℕ) → behind (signed_decimal w) comma ≡ Some rest → behind (more_numbers words) text ≡ behind (more_numbers others) rest
  number_passed rest after =
      ap (λ ws. behind (more_numbers ws) text) is ∙ goes one (more_numbers others) text rest (goes (codes ",") (signed_decimal w) text comma there ∙ after)

  pub number_lost : behind (signed_decimal w) comma ≡ None → behind (more_numbers words) text ≡ None
  number_lost after =
      ap (λ ws. behind (more_numbers ws) text) is ∙ stops one (more_numbers others) text (goes (codes ",") (signed_decimal w) text comma there ∙ after)

pub comma_lost : (words others : List ℤ) (w : ℤ) → words ≡ w ∷ others → (text : List ℕ) → behind (codes ",") text ≡ None → behind (more_numbers words) text ≡ None
comma_lost words others w is text lost =
    ap (λ ws. behind (more_numbers ws) text) is ∙ stops (codes "," ++ signed_decimal w) (more_numbers others) text (stops (codes ",") (signed_decimal w) text lost)

module _ (words others : List ℤ) (w : ℤ) (is : words ≡ w ∷ others) (text : List ℕ) where
  joined : join_with_byte 44 (map signed_decimal words) ≡ signed_decimal w ++ more_numbers others
  joined = ap (λ ws. join_with_byte 44 (map signed_decimal ws)) is ∙ numbers_joined w others

  pub first_number_passed : (rest : List ℕ) → behind (signed_decimal w) text ≡ Some rest → behind (join_with_byte 44 (map signed_decimal words)) text ≡ behind (more_numbers others) rest
  first_number_passed rest there = ap (λ front. behind front text) joined ∙ goes (signed_decimal w) (more_numbers others) text rest there

  pub first_number_lost : behind (signed_decimal w) text ≡ None → behind (join_with_byte 44 (map signed_decimal words)) text ≡ None
  first_number_lost lost = ap (λ front. behind front text) joined ∙ stops (signed_decimal w) (more_numbers others) text lost
