-- Numbers, lists and names as fields.
use Rattle.std.proofs.Common.{◌≡◌, ℕ, ℤ, pos, negsuc, zero, suc, ◌+◌, ◌^◌, ◌<◌, ◌≤◌, Bool, true, false, cond, ltb, leb, List, [], ◌∷◌, ◌++◌, length, take, drop, Result, Ok, Err, refl, sym, ap, subst, ◌∙◌, append_assoc, arith, inl, inr, All}
use Rattle.std.specs.Prelude.{FitsSigned}
use Rattle.std.specs.List.{flat_map, AllByRecursion}
use Rattle.std.specs.Int.{Width, w16, w32, w64, byte_len, from_le_bytes, to_le_bytes, cast_signed, cast_unsigned, IsInRange, is_in_range}
use Rattle.std.proofs.lemmas.Bool.{cases_lt, ltb-false, le-ltb, leb-true, le-leb, and_parts, and_from, lt-ltb}
use Rattle.std.proofs.lemmas.List.{take_at, drop_at, take-append-drop, length-append, length-take, get_or-drop, get_or-take, get_or_past, append-nil}
use Rattle.std.proofs.lemmas.List.Elements.{All-from_recursion, recursion_from_All}
use Rattle.std.proofs.lemmas.Nat.{le_bytes_2, le_bytes_4, le_bytes_8, from_le_bytes-to_le_bytes_2, from_le_bytes-to_le_bytes_4, from_le_bytes-to_le_bytes_8}
use Rattle.std.proofs.lemmas.Int.{to_z-of_z, of_z-to_z}
use Rattle.std.proofs.Math.Facts.{sfits_to_z, Fits-bits}
use Rattle.tcel_image.specs.declared.fault.Fault.{Fault}
use Rattle.tcel_image.specs.declared.fault.Fault.TheVariants as faults
use Rattle.tcel_image.specs.Spelling.{number, value, byte}
use Rattle.tcel_image.specs.Reading.{Reader, after, ◌>>=◌, done, number_at, byte_at, value_at, many_at}
use Rattle.tcel_image.proofs.Readers.{IsBytes, Takes, Takes-then, Reads, bind_ok, given_value, given_rest, done_reads, bind_reads, as_reads, shorter, cut_after}

pub IsBytes-drop : (n : ℕ) (bytes : List ℕ) → IsBytes bytes → IsBytes (drop n bytes)
IsBytes-drop n bytes h i = rw get_or-drop (h (n + i))

pub IsBytes-take : (n : ℕ) (bytes : List ℕ) → IsBytes bytes → IsBytes (take n bytes)
IsBytes-take n bytes h i =
    elim (cases_lt i n) [
      | inl lt ↦ rw (get_or-take n bytes i 0 lt) (h i)
      | inr le ↦ rw (get_or_past (take n bytes) i 0 (omega (arith, length-take n bytes))) (omega arith)
    ]

-- a test that did not fail
pub guard_ok : {A : Type 0} (b : Bool) (f : Fault) (r : Result A Fault) (x : A) → cond b (Err f) r ≡ Ok x → (b ≡ false) × (r ≡ Ok x)
guard_ok true f r x e = absurd cc
guard_ok false f r x e = (refl, e)

-- a test that held
pub test_ok : {A : Type 0} (b : Bool) (f : Fault) (r : Result A Fault) (x : A) → cond b r (Err f) ≡ Ok x → (b ≡ true) × (r ≡ Ok x)
test_ok true f r x e = (refl, e)
test_ok false f r x e = absurd cc

pub range_true : (low high n : ℕ) → is_in_range low high n ≡ true → IsInRange low high n
range_true low high n e = let p = and_parts (leb low n) (leb n high) e in (leb-true low n p.0, leb-true n high p.1)

pub true_range : (low high n : ℕ) → IsInRange low high n → is_in_range low high n ≡ true
true_range low high n h = and_from (leb low n) (leb n high) (le-leb low n h.0) (le-leb n high h.1)

-- ---- numbers

pub record IsWide (w : Width) (limit : ℕ) : Type 0 where
  pub len : (n : ℕ) → length (to_le_bytes w n) ≡ byte_len w
  pub back : (bytes : List ℕ) → length bytes ≡ byte_len w → IsBytes bytes → to_le_bytes w (from_le_bytes w bytes) ≡ bytes
  pub again : (n : ℕ) → n < limit → from_le_bytes w (to_le_bytes w n) ≡ n

pub wide16 : IsWide w16 (2 ^ 16)
wide16 = record { len = λ n. refl; back = λ bytes len fits. le_bytes_2 bytes _ len fits refl; again = λ n lt. from_le_bytes-to_le_bytes_2 n lt }

pub wide32 : IsWide w32 (2 ^ 32)
wide32 = record { len = λ n. refl; back = λ bytes len fits. le_bytes_4 bytes _ len fits refl; again = λ n lt. from_le_bytes-to_le_bytes_4 n lt }

pub wide64 : IsWide w64 (2 ^ 64)
wide64 = record { len = λ n. refl; back = λ bytes len fits. le_bytes_8 bytes _ len fits refl; again = λ n lt. from_le_bytes-to_le_bytes_8 n lt }

number_takes : (w : Width) (limit least greatest : ℕ) (wide : IsWide w limit) (bytes : List ℕ) (n : ℕ) (rest : List ℕ) → IsBytes bytes
    → number_at w least greatest bytes ≡ Ok (n, rest) → Takes bytes (number w n) rest × IsInRange least greatest n
unfolding number_at number
number_takes w limit least greatest wide bytes n rest fits e =
    let m = from_le_bytes w (take (byte_len w) bytes) in
    let after_it = drop (byte_len w) bytes in
    let g = guard_ok (ltb (length bytes) (byte_len w)) faults.Cut (cond (is_in_range least greatest m) (Ok (m, after_it)) (Err (faults.Value (length bytes)))) (n, rest) e in
    let h = test_ok (is_in_range least greatest m) (faults.Value (length bytes)) (Ok (m, after_it)) (n, rest) g.1 in
    let long : byte_len w ≤ length bytes = ltb-false _ _ g.0 in
    let n-is : m ≡ n = given_value m n after_it rest h.1 in
    let rest-is : after_it ≡ rest = given_rest m n after_it rest h.1 in
    let front : to_le_bytes w n ≡ take (byte_len w) bytes = rw (← n-is) (wide.back (take (byte_len w) bytes) (omega (arith, length-take (byte_len w) bytes)) (IsBytes-take (byte_len w) bytes fits)) in (
      record { parts = rw (front, ← rest-is) (sym (take-append-drop (byte_len w) bytes)); rest_fits = rw (← rest-is) (IsBytes-drop (byte_len w) bytes fits) },
      subst (IsInRange least greatest) n-is (range_true least greatest m h.0),
    )

number_again : (w : Width) (limit least greatest : ℕ) (wide : IsWide w limit) → greatest < limit → (n : ℕ) (rest : List ℕ) → IsInRange least greatest n
    → number_at w least greatest (number w n ++ rest) ≡ Ok (n, rest)
unfolding number_at number
number_again w limit least greatest wide lt n rest fits =
    let len = wide.len n in
    let long : ltb (length (to_le_bytes w n ++ rest)) (byte_len w) ≡ false = le-ltb _ _ (omega (arith, length-append (to_le_bytes w n) rest)) in
    let below : n < limit = omega (arith, fits.1) in
    rw (long, take_at (to_le_bytes w n) rest (byte_len w) len, drop_at (to_le_bytes w n) rest (byte_len w) len, wide.again n below, true_range least greatest n fits) refl

number_cut : (w : Width) (limit least greatest : ℕ) (wide : IsWide w limit) (n : ℕ) (front : List ℕ) (b : ℕ) (more : List ℕ) → number w n ≡ front ++ b ∷ more
    → number_at w least greatest front ≡ Err faults.Cut
unfolding number_at number
number_cut w limit least greatest wide n front b more e = rw (lt-ltb (length front) (byte_len w) (omega (arith, shorter (to_le_bytes w n) front b more e, wide.len n))) refl

pub number_reads : (w : Width) (limit least greatest : ℕ) → IsWide w limit → greatest < limit → Reads (number_at w least greatest) (number w) (IsInRange least greatest)
number_reads w limit least greatest wide lt = record {
  takes = λ bytes n rest fits e. number_takes w limit least greatest wide bytes n rest fits e;
  again = λ n rest fits. number_again w limit least greatest wide lt n rest fits;
  cut = λ n front b more fits e. number_cut w limit least greatest wide n front b more e;
}

-- one byte
byte_takes : (least greatest : ℕ) (bytes : List ℕ) (n : ℕ) (rest : List ℕ) → IsBytes bytes → byte_at least greatest bytes ≡ Ok (n, rest) → Takes bytes (byte n) rest × IsInRange least greatest n
unfolding byte_at
byte_takes least greatest [] n rest fits e = absurd cc
byte_takes least greatest (b ∷ bytes) n rest fits e =
    let h = test_ok (is_in_range least greatest b) (faults.Value (length (b ∷ bytes))) (Ok (b, bytes)) (n, rest) e in
    let n-is : b ≡ n = given_value b n bytes rest h.1 in
    let rest-is : bytes ≡ rest = given_rest b n bytes rest h.1 in
    let tail : IsBytes bytes = λ i. fits (suc i) in
    (record { parts = rw (n-is, rest-is) refl; rest_fits = subst IsBytes rest-is tail }, subst (IsInRange least greatest) n-is (range_true least greatest b h.0))

byte_again : (least greatest n : ℕ) (rest : List ℕ) → IsInRange least greatest n → byte_at least greatest (byte n ++ rest) ≡ Ok (n, rest)
unfolding byte_at
byte_again least greatest n rest fits = rw (true_range least greatest n fits) refl

byte_cut : (least greatest n : ℕ) (front : List ℕ) (b : ℕ) (more : List ℕ) → byte n ≡ front ++ b ∷ more → byte_at least greatest front ≡ Err faults.Cut
unfolding byte_at
byte_cut least greatest n [] b more e = refl
byte_cut least greatest n (c ∷ front) b more e = absurd (omega (arith, shorter (byte n) (c ∷ front) b more e))

pub byte_reads : (least greatest : ℕ) → Reads (byte_at least greatest) byte (IsInRange least greatest)
byte_reads least greatest = record {
  takes = λ bytes n rest fits e. byte_takes least greatest bytes n rest fits e;
  again = λ n rest fits. byte_again least greatest n rest fits;
  cut = λ n front b more fits e. byte_cut least greatest n front b more e;
}

-- a signed number
bits_below : (z : ℤ) → FitsSigned w64 z → cast_unsigned w64 z ≤ 18446744073709551615
bits_below (pos n) fits = omega (arith, fits.sfits)
bits_below (negsuc n) fits = omega (arith, fits.sfits)

pub value_reads : Reads value_at value (FitsSigned w64)
unfolding value_at
value_reads =
    as_reads value (FitsSigned w64)
    (bind_reads (number_reads w64 (2 ^ 64) 0 18446744073709551615 wide64 (omega arith)) (cast_unsigned w64) (λ n range. done_reads (cast_signed w64 n))
    (λ n range z e. ap (cast_unsigned w64) e ∙ of_z-to_z w64 n (omega (arith, range.1))))
    (λ z h. sym (append-nil (value z)))
    (λ z h. subst (FitsSigned w64) (sym h.1) (sfits_to_z (Fits-bits 64 tt (omega (arith, h.0.1)))))
    (λ z h. ((omega arith, bits_below z h), sym (to_z-of_z w64 z h)))

-- ---- one after the other

many_takes : {A : Type 0} (read : Reader A) (spell : A → List ℕ) (Fits : A → Type 0) → Reads read spell Fits → (n : ℕ) (bytes : List ℕ) (xs : List A) (rest : List ℕ) → IsBytes bytes
    → many_at read n bytes ≡ Ok (xs, rest) → Takes bytes (flat_map spell xs) rest × (length xs ≡ n) × AllByRecursion Fits xs
unfolding many_at
many_takes {A} read spell Fits h zero bytes xs rest fits e =
    let none : [] ≡ xs = given_value [] xs bytes rest e in
    let same : bytes ≡ rest = given_rest [] xs bytes rest e in
    subst (λ (ys : List A). Takes bytes (flat_map spell ys) rest × (length ys ≡ 0) × AllByRecursion Fits ys) none (record { parts = same; rest_fits = subst IsBytes same fits }, refl, tt)
many_takes {A} read spell Fits h (suc n) bytes xs rest fits e =
    let a = bind_ok (read bytes) (λ first. many_at read n >>= λ others. done (first ∷ others)) (xs, rest) e in
    let b = bind_ok (many_at read n a.1) (λ others. done (a.0 ∷ others)) (xs, rest) a.3 in
    let first = h.takes bytes a.0 a.1 fits a.2 in
    let second = many_takes read spell Fits h n a.1 b.0 b.1 first.0.rest_fits b.2 in
    let both = Takes-then bytes (spell a.0) a.1 (flat_map spell b.0) b.1 first.0 second.0 in
    let list-is : a.0 ∷ b.0 ≡ xs = given_value (a.0 ∷ b.0) xs b.1 rest b.3 in
    let rest-is : b.1 ≡ rest = given_rest (a.0 ∷ b.0) xs b.1 rest b.3 in
    subst (λ (ys : List A). Takes bytes (flat_map spell ys) rest × (length ys ≡ suc n) × AllByRecursion Fits ys) list-is
    (subst (λ (r : List ℕ). Takes bytes (spell a.0 ++ flat_map spell b.0) r) rest-is both, ap suc second.1, (first.1, second.2))

many_again : {A : Type 0} (read : Reader A) (spell : A → List ℕ) (Fits : A → Type 0) → Reads read spell Fits → (xs : List A) (rest : List ℕ)
    → AllByRecursion Fits xs → many_at read (length xs) (flat_map spell xs ++ rest) ≡ Ok (xs, rest)
unfolding many_at
many_again read spell Fits h [] rest fits = refl
many_again read spell Fits h (x ∷ xs) rest fits =
    ap (many_at read (suc (length xs))) (append_assoc (spell x) (flat_map spell xs) rest)
    ∙ ap (λ r. after r (λ first. many_at read (length xs) >>= λ others. done (first ∷ others))) (h.again x (flat_map spell xs ++ rest) fits.0)
    ∙ ap (λ r. after r (λ others. done (x ∷ others))) (many_again read spell Fits h xs rest fits.1)

many_cut : {A : Type 0} (read : Reader A) (spell : A → List ℕ) (Fits : A → Type 0) → Reads read spell Fits → (xs : List A) (front : List ℕ) (b : ℕ) (more : List ℕ)
    → AllByRecursion Fits xs → flat_map spell xs ≡ front ++ b ∷ more → many_at read (length xs) front ≡ Err faults.Cut
unfolding many_at
many_cut read spell Fits h [] front b more fits e = absurd (omega (arith, shorter [] front b more e))
many_cut read spell Fits h (x ∷ xs) front b more fits e =
    cut_after read (λ first. many_at read (length xs) >>= λ others. done (first ∷ others)) x (spell x) (flat_map spell xs) front b more e
    (λ f c m q. h.cut x f c m fits.0 q) (λ rest. h.again x rest fits.0)
    (λ f q. ap (λ r. after r (λ others. done (x ∷ others))) (many_cut read spell Fits h xs f b more fits.1 q))

pub many_reads : {A : Type 0} {read : Reader A} {spell : A → List ℕ} {Fits : A → Type 0} → Reads read spell Fits → (n : ℕ)
    → Reads (many_at read n) (flat_map spell) (λ xs. (length xs ≡ n) × All Fits xs)
many_reads {A} {read} {spell} {Fits} h n = record {
  takes = λ bytes xs rest fits e.
      let t = many_takes read spell Fits h n bytes xs rest fits e in
      (t.0, (t.1, All-from_recursion Fits xs t.2));
  again = λ xs rest fits.
      subst (λ k. many_at read k (flat_map spell xs ++ rest) ≡ Ok (xs, rest)) fits.0 (many_again read spell Fits h xs rest (recursion_from_All Fits xs fits.1));
  cut = λ xs front b more fits e.
      subst (λ k. many_at read k front ≡ Err faults.Cut) fits.0 (many_cut read spell Fits h xs front b more (recursion_from_All Fits xs fits.1) e);
}
