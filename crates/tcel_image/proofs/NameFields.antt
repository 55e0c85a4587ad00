-- Names as fields.
use Rattle.std.proofs.Common.{◌<◌, ◌≡◌, ℕ, ◌+◌, ◌-◌, ◌≤◌, ◌^◌, true, false, cond, ltb, List, [], ◌∷◌, ◌++◌, length, take, drop, Ok, Err, refl, sym, ap, subst, ◌∙◌, arith, inl, inr}
use Rattle.std.specs.List.{list_all, prefix_len}
use Rattle.std.specs.Int.{w16, IsInRange}
use Rattle.std.proofs.lemmas.Bool.{ltb-false, le-ltb, lt-ltb, cases_Bool, and_parts, and_from, true_from_ne_false}
use Rattle.std.proofs.lemmas.List.{take_at, drop_at, take-append-drop, length-append, length-take}
use Rattle.tcel_num.specs.Name.{IsName, is_word, is_reserved, may_start, may_follow}
use Rattle.tcel_image.specs.declared.fault.Fault.TheVariants as faults
use Rattle.tcel_image.specs.Spelling.{name, names, NamesInRange}
use Rattle.tcel_image.specs.Reading.{name_front, text_at, name_at, names_at}
use Rattle.tcel_image.proofs.Readers.{IsBytes, Takes, Reads, given, given_value, given_rest, bind_reads, as_reads, shorter}
use Rattle.tcel_image.proofs.Fields.{IsBytes-drop, guard_ok, number_reads, byte_reads, many_reads, wide16}

all_follow : (bs : List ℕ) → length bs ≤ prefix_len may_follow bs → list_all may_follow bs ≡ true
all_follow [] h = refl
all_follow (b ∷ bs) h =
    elim (cases_Bool (may_follow b)) [
      | inl good ↦
          let longer : length bs ≤ prefix_len may_follow bs = omega (arith, rw good at h) in
          and_from (may_follow b) (list_all may_follow bs) good (all_follow bs longer)
      | inr bad ↦ absurd (omega (arith, rw bad at h))
    ]

whole_front : (bs : List ℕ) → list_all may_follow bs ≡ true → prefix_len may_follow bs ≡ length bs
whole_front [] h = refl
whole_front (b ∷ bs) h =
    let p = and_parts (may_follow b) (list_all may_follow bs) h in
    rw p.0 (omega (arith, whole_front bs p.1))

-- a text is a word where a name can have all of its bytes
pub word_from_front : (text : List ℕ) → 1 ≤ length text → length text ≤ name_front text → is_word text ≡ true
word_from_front [] some h = absurd (omega arith)
word_from_front (b ∷ bs) some h =
    elim (cases_Bool (may_start b)) [
      | inl good ↦
          let longer : length bs ≤ prefix_len may_follow bs = omega (arith, rw good at h) in
          and_from (may_start b) (list_all may_follow bs) good (all_follow bs longer)
      | inr bad ↦ absurd (omega (arith, rw bad at h))
    ]

pub front_from_word : (text : List ℕ) → is_word text ≡ true → length text ≤ name_front text
front_from_word [] h = absurd cc
front_from_word (b ∷ bs) h =
    let p = and_parts (may_start b) (list_all may_follow bs) h in
    rw p.0 (omega (arith, whole_front bs p.1))

word_length : (text : List ℕ) → is_word text ≡ true → 1 ≤ length text
word_length [] h = absurd cc
word_length (b ∷ bs) h = omega arith

text_takes : (count : ℕ) → IsInRange 1 32 count → (bytes text rest : List ℕ) → IsBytes bytes → text_at count bytes ≡ Ok (text, rest) → Takes bytes text rest × ((length text ≡ count) × IsName text)
unfolding text_at
text_takes count range bytes text rest fits e =
    let front = take count bytes in
    let result = given front (drop count bytes) in
    let last = cond (is_reserved front) (Err (faults.Value (length bytes + 1))) result in
    let middle = cond (ltb (name_front front) count) (Err (faults.Value (length bytes - name_front front))) last in
    let g = guard_ok (ltb (length bytes) count) faults.Cut middle (text, rest) e in
    let h = guard_ok (ltb (name_front front) count) (faults.Value (length bytes - name_front front)) last (text, rest) g.1 in
    let k = guard_ok (is_reserved front) (faults.Value (length bytes + 1)) result (text, rest) h.1 in
    let long : count ≤ length bytes = ltb-false _ _ g.0 in
    let word_long : count ≤ name_front front = ltb-false _ _ h.0 in
    let text-is : front ≡ text = given_value front text (drop count bytes) rest k.1 in
    let rest-is : drop count bytes ≡ rest = given_rest front text (drop count bytes) rest k.1 in
    let len : length front ≡ count = omega (arith, length-take count bytes) in
    let word : is_word front ≡ true = word_from_front front (omega (arith, len, range.0)) (omega (arith, len, word_long)) in
    let is_name : IsName front = record { word = word; short = omega (arith, len, range.1); free = k.0 } in
    let parts : bytes ≡ front ++ drop count bytes = sym (take-append-drop count bytes) in (
      record {
        parts = subst (λ (t : List ℕ). bytes ≡ t ++ rest) text-is (subst (λ (r : List ℕ). bytes ≡ front ++ r) rest-is parts);
        rest_fits = subst IsBytes rest-is (IsBytes-drop count bytes fits);
      },
      subst (λ (t : List ℕ). (length t ≡ count) × IsName t) text-is (len, is_name),
    )

text_again : (text rest : List ℕ) → IsName text → text_at (length text) (text ++ rest) ≡ Ok (text, rest)
unfolding text_at
text_again text rest is_name =
    let long : ltb (length (text ++ rest)) (length text) ≡ false = le-ltb _ _ (omega (arith, length-append text rest)) in
    let word_long : ltb (name_front text) (length text) ≡ false = le-ltb _ _ (front_from_word text is_name.word) in
    rw (long, take_at text rest (length text) refl, drop_at text rest (length text) refl, word_long, is_name.free) refl

text_cut : (count : ℕ) (front : List ℕ) → length front < count → text_at count front ≡ Err faults.Cut
unfolding text_at
text_cut count front short = rw (lt-ltb (length front) count short) refl

text_reads : (count : ℕ) → IsInRange 1 32 count → Reads (text_at count) (λ text. text) (λ text. (length text ≡ count) × IsName text)
text_reads count range = record {
  takes = λ bytes text rest fits e. text_takes count range bytes text rest fits e;
  again = λ text rest fits. subst (λ n. text_at n (text ++ rest) ≡ Ok (text, rest)) fits.0 (text_again text rest fits.1);
  cut = λ text front b more fits e. text_cut count front (omega (arith, fits.0, shorter text front b more e));
}

pub name_reads : Reads name_at name IsName
unfolding name_at
name_reads =
    as_reads name IsName (bind_reads (byte_reads 1 32) (λ (text : List ℕ). length text) text_reads (λ n range text h. h.0))
    (λ text h. refl) (λ text h. h.1.1) (λ text h. ((word_length text h.word, h.short), (refl, h)))

pub names_reads : Reads names_at names NamesInRange
unfolding names_at
names_reads =
    as_reads names NamesInRange
    (bind_reads (number_reads w16 (2 ^ 16) 0 256 wide16 (omega arith)) (λ (ns : List (List ℕ)). length ns) (λ n range. many_reads name_reads n) (λ n range ns h. h.0))
    (λ ns h. refl) (λ ns h. record { count = h.0.1; each = h.1.1 }) (λ ns h. ((omega arith, h.count), (refl, h.each)))

-- what could be a name by its bytes and is none is a reserved word
pub reserved_word : (count : ℕ) → IsInRange 1 32 count → (bytes text : List ℕ) → count ≤ length bytes → text ≡ take count bytes → count ≤ name_front text → (IsName text → ⊥)
    → text_at count bytes ≡ Err (faults.Value (length bytes + 1))
unfolding text_at
reserved_word count range bytes text long text-is word_long none =
    let len : length text ≡ count = ap (λ (t : List ℕ). length t) text-is ∙ omega (arith, length-take count bytes) in
    let word : is_word text ≡ true = word_from_front text (omega (arith, len, range.0)) (omega (arith, len, word_long)) in
    let reserved : is_reserved text ≡ true = true_from_ne_false (is_reserved text) (λ free. none (record { word = word; short = omega (arith, len, range.1); free = free })) in
    let here : is_reserved (take count bytes) ≡ true = ap is_reserved (sym text-is) ∙ reserved in
    let front : count ≤ name_front (take count bytes) = subst (λ (t : List ℕ). count ≤ name_front t) text-is word_long in
    rw (le-ltb (length bytes) count long, le-ltb (name_front (take count bytes)) count front, here) refl
