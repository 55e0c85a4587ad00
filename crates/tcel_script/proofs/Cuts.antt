-- How lines and words are cut off at their first byte that ends them.
use Rattle.std.proofs.Common.{◌≡◌, ℕ, zero, suc, ◌+◌, ◌-◌, ◌<◌, ◌≤◌, ◌⊎◌, Bool, true, false, List, [], ◌∷◌, length, take, drop, get_or, not, Some, None, refl, sym, ap, ◌∙◌, inl, inr, ⊎_elim, arith}
use Rattle.std.specs.Prelude.{filter, nat_lt, ◌==◌, position, unwrap_or}
use Rattle.std.specs.List.{slice_split, position_or_len}
use Rattle.std.specs.Str.Lines.{lines, lines_of_parts, strip_carriage_return}
use Rattle.std.proofs.Common.{add-zero, add-one, drop-cons}
use Rattle.std.proofs.Math.Seq.{take-length, drop-length}
use Rattle.std.proofs.lemmas.Bool.{cond-true, cond-false, lt-ltb, ltb-false, ne_eqb, not-true, not-false, both_ways, cases_Bool}
use Rattle.std.proofs.lemmas.List.{length-take, length-drop, get_or-drop, take_rest}
use Rattle.std.proofs.lemmas.List.Quantifiers.{position-Some}
use Rattle.std.proofs.lemmas.List.Sums.{fails_before_first, passes_at_first, prefix_len-le-length}
use Rattle.std.proofs.lemmas.List.Splits.{slice_split-cons_yes, slice_split-cons_no, length-slice_split}
use Rattle.tcel_script.specs.Lines.{is_blank, words}

-- the parts behind the first one
abbrev tail_parts : (ℕ → Bool) → List ℕ → List (List ℕ)
tail_parts p [] = []
tail_parts p (x ∷ xs) = slice_split p xs

-- the first part ends at the first element that passes, or with the list
split_first : (p : ℕ → Bool) (xs : List ℕ) (n : ℕ) → n ≤ length xs → ((k : ℕ) → k < n → p (get_or xs k 0) ≡ false) → (n < length xs → p (get_or xs n 0) ≡ true) → slice_split p xs ≡ take n xs ∷ tail_parts p (drop n xs)
split_first p [] zero h before there = refl
split_first p [] (suc n) h before there = absurd (omega arith)
split_first p (x ∷ xs) zero h before there = slice_split-cons_yes p x xs (there (omega arith))
split_first p (x ∷ xs) (suc n) h before there =
    slice_split-cons_no p x xs (before 0 (omega arith)) ∙ rw (split_first p xs n (omega arith) (λ k lt. before (suc k) (omega arith)) (λ lt. there (omega arith))) refl

blank_first : (x : ℕ) (xs : List ℕ) → is_blank x ≡ true → words (x ∷ xs) ≡ words xs
blank_first x xs h = ap (filter (λ part. nat_lt 0 (length part))) (slice_split-cons_yes is_blank x xs h)

-- blanks in front make no difference
pub words_behind : (xs : List ℕ) (n : ℕ) → n ≤ length xs → ((k : ℕ) → k < n → is_blank (get_or xs k 0) ≡ true) → words xs ≡ words (drop n xs)
words_behind xs zero h blanks = refl
words_behind [] (suc n) h blanks = absurd (omega arith)
words_behind (x ∷ xs) (suc n) h blanks = blank_first x xs (blanks 0 (omega arith)) ∙ words_behind xs n (omega arith) (λ k lt. blanks (suc k) (omega arith))

words_of_tail : (xs : List ℕ) → (0 < length xs → is_blank (get_or xs 0 0) ≡ true) → filter (λ part. nat_lt 0 (length part)) (tail_parts is_blank xs) ≡ words xs
words_of_tail [] h = refl
words_of_tail (x ∷ xs) h = sym (blank_first x xs (h (omega arith)))

word_in_front : (word : List ℕ) (parts : List (List ℕ)) → 0 < length word → filter (λ part. nat_lt 0 (length part)) (word ∷ parts) ≡ word ∷ filter (λ part. nat_lt 0 (length part)) parts
word_in_front word parts h =
    let rest = filter (λ (part : List ℕ). nat_lt 0 (length part)) parts in
    cond-true (nat_lt 0 (length word)) (word ∷ rest) rest (lt-ltb 0 (length word) h)

-- a word ends at the first blank, or with the line
pub first_word : (xs : List ℕ) (n : ℕ) → 0 < n → n ≤ length xs → ((k : ℕ) → k < n → is_blank (get_or xs k 0) ≡ false) → (n < length xs → is_blank (get_or xs n 0) ≡ true) → words xs ≡ take n xs ∷ words (drop n xs)
first_word xs n some h before there =
    let long : 0 < length (take n xs) = simp length-take (omega arith) in
    ap (filter (λ part. nat_lt 0 (length part))) (split_first is_blank xs n h before there)
    ∙ word_in_front (take n xs) (tail_parts is_blank (drop n xs)) long
    ∙ ap (λ (more : List (List ℕ)). take n xs ∷ more) (words_of_tail (drop n xs) (λ lt. let inside = simp length-drop at lt in rw (get_or-drop, add-zero) (there (omega arith))))

-- where no element passes, each fails
position_none : (p : ℕ → Bool) (xs : List ℕ) → position p xs ≡ None → (k : ℕ) → k < length xs → p (get_or xs k 0) ≡ false
position_none p xs h k lt =
    ⊎_elim (λ (e : nat_lt (position_or_len p xs) (length xs) ≡ true). let found = cond-true (nat_lt (position_or_len p xs) (length xs)) (Some (position_or_len p xs)) None e in cc)
    (λ (e : nat_lt (position_or_len p xs) (length xs) ≡ false). let far = ltb-false (position_or_len p xs) (length xs) e in fails_before_first p xs k 0 (omega arith))
    (cases_Bool (nat_lt (position_or_len p xs) (length xs)))

-- the first element that passes, or else the length
position_or_end : (p : ℕ → Bool) (xs : List ℕ) → unwrap_or (position p xs) (length xs) ≡ position_or_len p xs
position_or_end p xs =
    let most = prefix_len-le-length (λ x. not (p x)) xs in
    ⊎_elim (λ (e : nat_lt (position_or_len p xs) (length xs) ≡ true). rw e refl)
    (λ (e : nat_lt (position_or_len p xs) (length xs) ≡ false). let far = ltb-false (position_or_len p xs) (length xs) e in rw e (omega arith))
    (cases_Bool (nat_lt (position_or_len p xs) (length xs)))

abbrev not_blank : ℕ → Bool
not_blank b = not (is_blank b)

-- no word where every byte is a blank
pub no_words : (xs : List ℕ) → position not_blank xs ≡ None → words xs ≡ []
no_words xs h =
    words_behind xs (length xs) (omega arith) (λ k lt. not-false (is_blank (get_or xs k 0)) (position_none not_blank xs h k lt)) ∙ rw drop-length refl

word_from : (text : List ℕ) → 0 < length text → is_blank (get_or text 0 0) ≡ false → (words text ≡ take (position_or_len is_blank text) text ∷ words (drop (position_or_len is_blank text) text)) × (0 < position_or_len is_blank text) × (position_or_len is_blank text ≤ length text)
word_from text some plain =
    let end = position_or_len is_blank text in
    let most : end ≤ length text = prefix_len-le-length (λ x. not (is_blank x)) text in
    let positive : 0 < end = ⊎_elim (λ (e : end ≡ 0). absurd (both_ways (is_blank (get_or text 0 0)) plain (rw e at (passes_at_first is_blank text 0 (omega arith))))) (λ (l : 0 < end). l) (zero_or_more end) in
    (first_word text end positive most (λ k lt. fails_before_first is_blank text k 0 lt) (λ lt. passes_at_first is_blank text 0 lt), positive, most)
  where
    zero_or_more : (n : ℕ) → (n ≡ 0) ⊎ (0 < n)
    zero_or_more zero = inl refl
    zero_or_more (suc n) = inr (omega arith)

-- the first word, from the first byte that is no blank on
pub next_word_is : (line text : List ℕ) (start end : ℕ) → position not_blank line ≡ Some start → text ≡ take (length line - start) (drop start line) → end ≡ unwrap_or (position is_blank text) (length text) → (words line ≡ take end text ∷ words (drop end text)) × (0 < end) × (end ≤ length text)
next_word_is line text start end s t e =
    let found = position-Some not_blank line start 0 s in
    let same_text : text ≡ drop start line = t ∙ take_rest line start in
    let long : 0 < length text = rw (same_text, length-drop) (omega (arith, found.0)) in
    let first : is_blank (get_or text 0 0) ≡ false = rw (same_text, get_or-drop, add-zero) (not-true (is_blank (get_or line start 0)) found.1) in
    let behind : words line ≡ words text = words_behind line start (omega (arith, found.0)) (λ k lt. not-false (is_blank (get_or line k 0)) (found.2 k lt)) ∙ ap words (sym same_text) in
    let same_end : end ≡ position_or_len is_blank text = e ∙ position_or_end is_blank text in
    let word = word_from text long first in
    rw same_end (behind ∙ word.0, word.1, word.2)

lines_front : (x : List ℕ) (parts : List (List ℕ)) → 0 < length parts → lines_of_parts (x ∷ parts) ≡ strip_carriage_return x ∷ lines_of_parts parts
lines_front x [] h = absurd (omega arith)
lines_front x (y ∷ parts) h = refl

-- a line ends at the first line feed
pub first_line : (xs : List ℕ) (n : ℕ) → position (λ byte. byte == 10) xs ≡ Some n → lines xs ≡ strip_carriage_return (take n xs) ∷ lines (drop (n + 1) xs)
first_line xs n h =
    let p : ℕ → Bool = λ byte. byte == 10 in
    let found = position-Some p xs n 0 h in
    let parts = split_first p xs n (omega (arith, found.0)) found.2 (λ _. found.1) in
    let rest : drop n xs ≡ get_or xs n 0 ∷ drop (n + 1) xs = rw add-one (drop-cons xs n 0 found.0) in
    ap lines_of_parts (parts ∙ ap (λ (more : List ℕ). take n xs ∷ tail_parts p more) rest)
    ∙ lines_front (take n xs) (slice_split p (drop (n + 1) xs)) (omega (arith, length-slice_split p (drop (n + 1) xs)))

-- or with the bytes
pub last_line : (xs : List ℕ) → 0 < length xs → position (λ byte. byte == 10) xs ≡ None → lines xs ≡ xs ∷ []
last_line xs some h =
    let p : ℕ → Bool = λ byte. byte == 10 in
    let parts = split_first p xs (length xs) (omega arith) (λ k lt. position_none p xs h k lt) (λ lt. absurd (omega arith)) in
    let only : slice_split p xs ≡ xs ∷ [] = parts ∙ rw (take-length, drop-length) refl in
    ap lines_of_parts only ∙ cond-false (length xs == 0) [] (xs ∷ []) (ne_eqb (length xs) 0 (λ e. omega arith))
