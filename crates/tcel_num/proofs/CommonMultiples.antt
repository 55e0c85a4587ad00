-- Least common multiples, by greatest common divisors.
use Rattle.std.proofs.Common.{◌≡◌, ℕ, zero, suc, ◌+◌, ◌-◌, ◌*◌, ◌/◌, ◌%◌, ◌<◌, ◌≤◌, List, [], ◌∷◌, ◌++◌, All, sym, ap, ◌∙◌, subst, arith, append_assoc, append-nil, get_or, length, take, drop, inl, inr}
use Rattle.std.specs.Int.{IsGcd, ◌∣◌}
use Rattle.std.proofs.lemmas.Bool.{cases_lt}
use Rattle.std.proofs.lemmas.List.{take_more, take-append-drop}
use Rattle.std.proofs.lemmas.List.Elements.{All-nil, All-cons, All-head, All-tail, All-push, All-drop}
use Rattle.std.proofs.lemmas.Nat.Gcd.{IsGcd-from_zero, IsGcd-from_mod, same_from_IsGcd, le_of_dvd}
use Rattle.std.proofs.Math.Nat.{dvd-mod_iff, dvd-add_iff_right, dvd-mul_right_of_dvd, dvd_of_mul-dvd-mul_right, mul-dvd-mul, dvd_refl, div-mul_cancel, mul-pos, mul-le-mul_right, mod-lt, div-add-mod, div-add-mod', dvd-mul_left}
use Rattle.tcel_num.specs.Hyperperiod.{IsCommonMultiple, IsLeastCommonMultiple}

-- ---- quotients, rounded up

pub ceil_enough : (a b : ℕ) → 0 < b → a ≤ (a + b - 1) / b * b
ceil_enough a b some = omega (arith, div-add-mod (a + b - 1) b, mod-lt (a + b - 1) some)

pub ceil_least : (a b parts : ℕ) → 0 < b → a ≤ parts * b → (a + b - 1) / b ≤ parts
ceil_least a b parts some h =
    elim (cases_lt parts ((a + b - 1) / b)) [
      | inl less ↦ let more : suc parts * b ≤ (a + b - 1) / b * b = mul-le-mul_right b less in absurd (omega (arith, div-add-mod (a + b - 1) b))
      | inr enough ↦ enough
    ]

-- ---- what divides two multiples of one number divides that of their greatest common divisor

scaled : (fuel a b g : ℕ) → b ≤ fuel → IsGcd a b g → (c m : ℕ) → c ∣ m * a → c ∣ m * b → c ∣ m * g
scaled fuel a zero g h gcd c m p q = subst (λ n. c ∣ m * n) (same_from_IsGcd a zero a g (IsGcd-from_zero a zero (omega arith)) gcd) p
scaled zero a (suc b) g h gcd c m p q = absurd (omega arith)
scaled (suc fuel) a (suc b) g h gcd c m p q =
    let rest : IsGcd (suc b) (a % suc b) g = (gcd.1, (dvd-mod_iff g gcd.1).1 gcd.0, λ d divides remains. gcd.2 d ((dvd-mod_iff d divides).0 remains) divides) in
    let split : m * a ≡ m * suc b * (a / suc b) + m * (a % suc b) = ap (λ n. m * n) (sym (div-add-mod a (suc b))) ∙ omega arith in
    let whole : c ∣ m * suc b * (a / suc b) = dvd-mul_right_of_dvd c q (a / suc b) in
    let part : c ∣ m * (a % suc b) = (dvd-add_iff_right c whole).1 (subst (λ n. c ∣ n) split p) in
    scaled fuel (suc b) (a % suc b) g (omega (arith, mod-lt a {m = suc b} (omega arith))) rest c m q part

-- ---- two numbers

-- the divisor, and the other numbers' parts of it
pub record IsDivisor (a b g : ℕ) : Type 0 where
  pub positive : 0 < g
  pub first : a / g * g ≡ a
  pub second : b / g * g ≡ b

pub divisor : (a b g : ℕ) → 0 < a → IsGcd a b g → IsDivisor a b g
divisor a b g some gcd =
    let first = div-mul_cancel g gcd.0 in
    record {
      positive = elim (cases_lt 0 g) [ inl h ↦ h | inr h ↦ let none : g ≡ 0 = omega arith in let nothing : a / g * g ≡ a / g * 0 = ap (λ n. a / g * n) none in absurd (omega arith) ];
      first = first;
      second = div-mul_cancel g gcd.1;
    }

-- a multiple of both is one of this product
multiple_of_product : (a b g m : ℕ) → IsGcd a b g → IsDivisor a b g → a ∣ m → b ∣ m → a * (b / g) ∣ m
multiple_of_product a b g m gcd parts p q =
    let product : a * b ≡ a * (b / g) * g = ap (λ n. a * n) (sym parts.second) ∙ omega arith in
    let by_first : a * b ∣ m * a = subst (λ n. n ∣ m * a) (omega arith) (mul-dvd-mul b a q (dvd_refl a)) in
    let by_second : a * b ∣ m * b = mul-dvd-mul a b p (dvd_refl b) in
    dvd_of_mul-dvd-mul_right (a * (b / g)) parts.positive (subst (λ n. n ∣ m * g) product (scaled b a b g (omega arith) gcd (a * b) m by_first by_second))

abbrev HasMultiple : ℕ → ℕ → Type 0
HasMultiple n period = (k : ℕ) × (n ≡ k * period)

has_multiple : (period n : ℕ) → period ∣ n → HasMultiple n period
has_multiple period n h = (n / period, sym (div-mul_cancel period h))

divides_multiple : (period n : ℕ) → HasMultiple n period → period ∣ n
divides_multiple period n h = subst (λ m. period ∣ m) (sym h.1) (dvd-mul_left period h.0)

pub two : (a b g : ℕ) → 0 < a → 0 < b → IsGcd a b g → IsLeastCommonMultiple (a ∷ b ∷ []) (a * (b / g))
two a b g first second gcd =
    let parts = divisor a b g first gcd in
    let some : 0 < b / g = elim (cases_lt 0 (b / g)) [
      | inl h ↦ h
      | inr h ↦ let none : b / g ≡ 0 = omega arith in let nothing : b / g * g ≡ 0 * g = ap (λ n. n * g) none in let whole = parts.second in absurd (omega arith)
    ] in
    let whole : a * (b / g) ≡ a / g * g * (b / g) = ap (λ n. n * (b / g)) (sym parts.first) in
    let other : a / g * b ≡ a / g * (b / g * g) = ap (λ n. a / g * n) (sym parts.second) in
    let of_second : a * (b / g) ≡ a / g * b = omega arith in
    record {
      positive = mul-pos first some;
      common = All-cons (HasMultiple (a * (b / g))) a (b ∷ []) (b / g, omega arith) (All-cons (HasMultiple (a * (b / g))) b [] (a / g, of_second) (All-nil (HasMultiple (a * (b / g)))));
      least = λ m positive common. le_of_dvd positive (multiple_of_product a b g m gcd parts
          (divides_multiple a m (All-head (HasMultiple m) a (b ∷ []) common))
          (divides_multiple b m (All-head (HasMultiple m) b [] (All-tail (HasMultiple m) a (b ∷ []) common))));
    }

exists_gcd : (fuel a b : ℕ) → b ≤ fuel → (g : ℕ) × IsGcd a b g
exists_gcd fuel a zero h = (a, IsGcd-from_zero a zero (omega arith))
exists_gcd zero a (suc b) h = absurd (omega arith)
exists_gcd (suc fuel) a (suc b) h =
    let rest = exists_gcd fuel (suc b) (a % suc b) (omega (arith, mod-lt a {m = suc b} (omega arith))) in
    (rest.0, IsGcd-from_mod a (suc b) rest.0 rest.1)

exists_two : (a b : ℕ) → 0 < a → 0 < b → (n : ℕ) × IsLeastCommonMultiple (a ∷ b ∷ []) n
exists_two a b first second = let g = exists_gcd b a b (omega arith) in (a * (b / g.0), two a b g.0 first second g.1)

-- ---- one more number

remains : (x m n : ℕ) → HasMultiple m x → HasMultiple n x → HasMultiple (n % m) x
remains x m n h g = has_multiple x (n % m) ((dvd-mod_iff x (divides_multiple x m h)).1 (divides_multiple x n g))

-- each common multiple is one of the least
divides : (xs : List ℕ) (l n : ℕ) → IsLeastCommonMultiple xs l → IsCommonMultiple xs n → HasMultiple n l
divides xs l n h common =
    let rest : IsCommonMultiple xs (n % l) = λ k d at. remains (get_or xs k d) l n (h.common k d at) (common k d at) in
    let parts = div-add-mod' n l in
    elim (cases_lt 0 (n % l)) [
      | inl some ↦ let much = h.least (n % l) some rest in let small = mod-lt n h.positive in absurd (omega arith)
      | inr none ↦ (n / l, omega arith)
    ]

of_multiple : (x m n : ℕ) → HasMultiple m x → HasMultiple n m → HasMultiple n x
of_multiple x m n h g = (g.0 * h.0, g.1 ∙ ap (λ p. g.0 * p) h.1 ∙ omega arith)

front : (P : ℕ → Type 0) (xs ys : List ℕ) → All P (xs ++ ys) → All P xs
front P [] ys h = All-nil P
front P (x ∷ xs) ys h = All-cons P x xs (All-head P x (xs ++ ys) h) (front P xs ys (All-tail P x (xs ++ ys) h))

behind : (P : ℕ → Type 0) (xs : List ℕ) (y : ℕ) → All P (xs ++ y ∷ []) → P y
behind P [] y h = All-head P y [] h
behind P (x ∷ xs) y h = behind P xs y (All-tail P x (xs ++ y ∷ []) h)

pub joined : (xs : List ℕ) (l y n : ℕ) → IsLeastCommonMultiple xs l → IsLeastCommonMultiple (l ∷ y ∷ []) n → IsLeastCommonMultiple (xs ++ y ∷ []) n
joined xs l y n h both =
    let first = All-head (HasMultiple n) l (y ∷ []) both.common in
    let second = All-head (HasMultiple n) y [] (All-tail (HasMultiple n) l (y ∷ []) both.common) in
    record {
      positive = both.positive;
      common = All-push (HasMultiple n) xs y (λ k d at. of_multiple (get_or xs k d) l n (h.common k d at) first) second;
      least = λ m some common. both.least m some (All-cons (HasMultiple m) l (y ∷ []) (divides xs l m h (front (HasMultiple m) xs (y ∷ []) common))
          (All-cons (HasMultiple m) y [] (behind (HasMultiple m) xs y common) (All-nil (HasMultiple m))));
    }

pub none : IsLeastCommonMultiple [] 1
none = record { positive = omega arith; common = All-nil (HasMultiple 1); least = λ m some common. some }

-- with more numbers it is no smaller
pub with_more : (xs ys : List ℕ) (l : ℕ) → All (λ y. 0 < y) ys → IsLeastCommonMultiple xs l → (n : ℕ) × IsLeastCommonMultiple (xs ++ ys) n × (l ≤ n)
with_more xs [] l some h = (l, subst (λ zs. IsLeastCommonMultiple zs l) (sym (append-nil xs)) h, omega arith)
with_more xs (y ∷ ys) l some h =
    let next = exists_two l y h.positive (All-head (λ n. 0 < n) y ys some) in
    let rest = with_more (xs ++ y ∷ []) ys next.0 (All-tail (λ n. 0 < n) y ys some) (joined xs l y next.0 h next.1) in
    let times = All-head (HasMultiple next.0) l (y ∷ []) next.1.common in
    let grown : l ≤ next.0 = le_of_dvd next.1.positive (divides_multiple l next.0 times) in
    (rest.0, subst (λ zs. IsLeastCommonMultiple zs rest.0) (append_assoc xs (y ∷ []) ys) rest.1, let more = rest.2 in omega arith)

-- a front and one more number that are above the limit leave the whole above it
pub above : (xs : List ℕ) (i l limit : ℕ) → i < length xs → All (λ x. 0 < x) xs → IsLeastCommonMultiple (take i xs) l →
    (n : ℕ) × IsLeastCommonMultiple (l ∷ get_or xs i 0 ∷ []) n × (limit < n) → (n : ℕ) × IsLeastCommonMultiple xs n × (limit < n)
above xs i l limit at some h next =
    let grown = joined (take i xs) l (get_or xs i 0) next.0 h next.1 in
    let rest = with_more (take i xs ++ get_or xs i 0 ∷ []) (drop (i + 1) xs) next.0 (All-drop (λ x. 0 < x) (i + 1) xs some) grown in
    let whole : (take i xs ++ get_or xs i 0 ∷ []) ++ drop (i + 1) xs ≡ xs =
    ap (λ ys. ys ++ drop (i + 1) xs) (sym (take_more xs i 0 at)) ∙ take-append-drop (i + 1) xs in
    (rest.0, subst (λ ys. IsLeastCommonMultiple ys rest.0) whole rest.1, let more = rest.2 in let least = next.2 in omega arith)
