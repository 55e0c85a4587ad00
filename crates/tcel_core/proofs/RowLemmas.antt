-- What stands in rows whose words are made of the words of others.
use Rattle.std.proofs.Common.{◌≡◌, ℕ, zero, suc, ◌+◌, ◌*◌, ◌<◌, ◌/◌, ◌%◌, ◌^◌, Bool, true, false, not, cond, ◌||◌, ◌&&◌, ◌==◌, List, [], ◌∷◌, get_or, refl, sym, ap, ◌∙◌, arith, bit_and, bit_or, eq-eqb, ne_eqb, eqb-true}
use Rattle.std.specs.Prelude.{min, max, bit_xor, nat_eq}
use Rattle.std.specs.Int.{bit_at, trailing_zeros, w64}
use Rattle.std.proofs.lemmas.Nat.Bits.{bit_at_and, bit_at_or, bit_at_xor, bit_at-lt, bit_at-zero, bit_at-pow_same, bit_at-pow_other, bit_at-trailing_zeros}
use Rattle.std.proofs.lemmas.Nat.{and_le_l}
use Rattle.std.proofs.lemmas.Bool.{true≢false, or_left, or_right}
use Rattle.tcel_core.specs.declared.row.Row.{Row}
use Rattle.tcel_core.specs.Rows.{stands_in, bit_in}

-- one of four words
pub four : (f : ℕ → ℕ) (q : ℕ) → q < 4 → get_or (f 0 ∷ f 1 ∷ f 2 ∷ f 3 ∷ []) q 0 ≡ f q
four f zero h = refl
four f (suc zero) h = refl
four f (suc (suc zero)) h = refl
four f (suc (suc (suc zero))) h = refl
four f (suc (suc (suc (suc q)))) h = absurd (omega arith)

one_of : (a b : ℕ) → a < 2 → b < 2 → (max a b == 1) ≡ ((a == 1) || (b == 1))
one_of zero zero h g = refl
one_of zero (suc zero) h g = refl
one_of (suc zero) zero h g = refl
one_of (suc zero) (suc zero) h g = refl
one_of (suc (suc a)) b h g = absurd (omega arith)
one_of zero (suc (suc b)) h g = absurd (omega arith)
one_of (suc zero) (suc (suc b)) h g = absurd (omega arith)

less : (a b : ℕ) → a < 2 → b < 2 → ((a + min a b) % 2 == 1) ≡ ((a == 1) && not (b == 1))
less zero zero h g = refl
less zero (suc zero) h g = refl
less (suc zero) zero h g = refl
less (suc zero) (suc zero) h g = refl
less (suc (suc a)) b h g = absurd (omega arith)
less zero (suc (suc b)) h g = absurd (omega arith)
less (suc zero) (suc (suc b)) h g = absurd (omega arith)

row : List ℕ → Row
row bits = record { bits = bits }

pub added : (a b : List ℕ) (v : ℕ) → v < 256 →
    stands_in (record { bits = bit_or (get_or a 0 0) (get_or b 0 0) ∷ bit_or (get_or a 1 0) (get_or b 1 0) ∷ bit_or (get_or a 2 0) (get_or b 2 0) ∷ bit_or (get_or a 3 0) (get_or b 3 0) ∷ [] }) v
    ≡ (stands_in (record { bits = a }) v || stands_in (record { bits = b }) v)
added a b v h =
    ap (λ n. bit_at n (v % 64) == 1) (four (λ q. bit_or (get_or a q 0) (get_or b q 0)) (v / 64) (omega arith))
    ∙ (ap (λ n. n == 1) (bit_at_or (get_or a (v / 64) 0) (get_or b (v / 64) 0) (v % 64))
    ∙ one_of (bit_at (get_or a (v / 64) 0) (v % 64)) (bit_at (get_or b (v / 64) 0) (v % 64)) (bit_at-lt (get_or a (v / 64) 0) (v % 64)) (bit_at-lt (get_or b (v / 64) 0) (v % 64)))

pub removed : (a b : List ℕ) (v : ℕ) → v < 256 →
    stands_in
    (record {
      bits =
          bit_xor (get_or a 0 0) (bit_and (get_or a 0 0) (get_or b 0 0)) ∷ bit_xor (get_or a 1 0) (bit_and (get_or a 1 0) (get_or b 1 0))
          ∷ bit_xor (get_or a 2 0) (bit_and (get_or a 2 0) (get_or b 2 0)) ∷ bit_xor (get_or a 3 0) (bit_and (get_or a 3 0) (get_or b 3 0)) ∷ [];
    }) v
    ≡ (stands_in (record { bits = a }) v && not (stands_in (record { bits = b }) v))
removed a b v h =
    let x = get_or a (v / 64) 0 in
    let y = get_or b (v / 64) 0 in
    let k = v % 64 in
    ap (λ n. bit_at n k == 1) (four (λ q. bit_xor (get_or a q 0) (bit_and (get_or a q 0) (get_or b q 0))) (v / 64) (omega arith))
    ∙ (ap (λ n. n == 1) (bit_at_xor x (bit_and x y) k ∙ ap (λ n. (bit_at x k + n) % 2) (bit_at_and x y k))
    ∙ less (bit_at x k) (bit_at y k) (bit_at-lt x k) (bit_at-lt y k))

pub alone : (w v : ℕ) → v < 256 → stands_in (record { bits = bit_in w 0 ∷ bit_in w 1 ∷ bit_in w 2 ∷ bit_in w 3 ∷ [] }) v ≡ (w == v)
alone w v h = ap (λ n. bit_at n (v % 64) == 1) (four (bit_in w) (v / 64) (omega arith)) ∙ by_word (w / 64 == v / 64) refl
  where
    by_word : (b : Bool) → (w / 64 == v / 64) ≡ b → (bit_at (cond b (2 ^ (w % 64)) 0) (v % 64) == 1) ≡ (w == v)
    by_word false e = ap (λ n. n == 1) (bit_at-zero (v % 64)) ∙ sym (ne_eqb w v (λ same. true≢false (sym (eq-eqb (w / 64) (v / 64) (ap (λ n. n / 64) same)) ∙ e)))
    by_word true e = by_bit (w % 64 == v % 64) refl
      where
        by_bit : (c : Bool) → (w % 64 == v % 64) ≡ c → (bit_at (2 ^ (w % 64)) (v % 64) == 1) ≡ (w == v)
        by_bit true f =
            let same = eqb-true (w % 64) (v % 64) f in
            let word = eqb-true (w / 64) (v / 64) e in
            ap (λ n. bit_at (2 ^ (w % 64)) n == 1) (sym same) ∙ (ap (λ n. n == 1) (bit_at-pow_same (w % 64)) ∙ sym (eq-eqb w v (omega arith)))
        by_bit false f =
            ap (λ n. n == 1) (bit_at-pow_other (w % 64) (v % 64) (λ same. true≢false (sym (eq-eqb (w % 64) (v % 64) (sym same)) ∙ f)))
            ∙ sym (ne_eqb w v (λ same. true≢false (sym (eq-eqb (w % 64) (v % 64) (ap (λ n. n % 64) same)) ∙ f)))

-- ---- words and rows with something in common

low_bits : (a b : ℕ) → min a b ≡ 1 → a < 2 → b < 2 → (a ≡ 1) × (b ≡ 1)
low_bits zero b e h g = absurd (omega arith)
low_bits (suc zero) zero e h g = absurd (omega arith)
low_bits (suc zero) (suc zero) e h g = (refl, refl)
low_bits (suc (suc a)) b e h g = absurd (omega arith)
low_bits (suc zero) (suc (suc b)) e h g = absurd (omega arith)

-- a bit of two words
abbrev pub Common : ℕ → ℕ → Type 0
Common a b = (k : ℕ) × (k < 64) × (bit_at a k ≡ 1) × (bit_at b k ≡ 1)

some : (n : ℕ) → not (nat_eq n 0) ≡ true → 0 < n
some zero h = absurd (true≢false (sym h))
some (suc n) h = omega arith

pub common : (a b : ℕ) → a < 2 ^ 64 → not (nat_eq (bit_and a b) 0) ≡ true → Common a b
common a b small h =
    let low = and_le_l a b in
    let bit = bit_at-trailing_zeros w64 (bit_and a b) (some (bit_and a b) h) (omega arith) in
    let k = trailing_zeros w64 (bit_and a b) in
    let both = low_bits (bit_at a k) (bit_at b k) (sym (bit_at_and a b k) ∙ bit.1) (bit_at-lt a k) (bit_at-lt b k) in
    (k, bit.0, both.0, both.1)

pub common_some : (a b : ℕ) → Common a b → not (nat_eq (bit_and a b) 0) ≡ true
common_some a b (k, within, x, y) = by_case (nat_eq (bit_and a b) 0) refl
  where
    by_case : (c : Bool) → nat_eq (bit_and a b) 0 ≡ c → not c ≡ true
    by_case false e = refl
    by_case true e =
        let none : bit_at (bit_and a b) k ≡ 0 = ap (λ n. bit_at n k) (eqb-true (bit_and a b) 0 e) ∙ bit_at-zero k in
        let one : bit_at (bit_and a b) k ≡ 1 = bit_at_and a b k ∙ (ap (λ n. min n (bit_at b k)) x ∙ ap (λ n. min 1 n) y) in
        absurd (omega arith)

-- a variable of two rows
abbrev pub Shared : Row → Row → Type 0
Shared a b = (v : ℕ) × (v < 256) × (stands_in a v ≡ true) × (stands_in b v ≡ true)

module _ (a b : List ℕ) where
  word_shared : (q : ℕ) → q < 4 → Common (get_or a q 0) (get_or b q 0) → Shared (record { bits = a }) (record { bits = b })
  word_shared q h (k, within, x, y) = (
    64 * q + k,
    omega arith,
    ap (λ n. bit_at (get_or a n 0) ((64 * q + k) % 64) == 1) (omega arith) ∙ (ap (λ n. bit_at (get_or a q 0) n == 1) (omega arith) ∙ eq-eqb _ 1 x),
    ap (λ n. bit_at (get_or b n 0) ((64 * q + k) % 64) == 1) (omega arith) ∙ (ap (λ n. bit_at (get_or b q 0) n == 1) (omega arith) ∙ eq-eqb _ 1 y),
  )

  shared_word : (v : ℕ) → v < 256 → stands_in (record { bits = a }) v ≡ true → stands_in (record { bits = b }) v ≡ true → Common (get_or a (v / 64) 0) (get_or b (v / 64) 0)
  shared_word v h x y = (v % 64, omega arith, eqb-true _ 1 x, eqb-true _ 1 y)

  -- one of four words
  pub shared : (s t u w : Bool) → (s ≡ true → Common (get_or a 0 0) (get_or b 0 0)) → (t ≡ true → Common (get_or a 1 0) (get_or b 1 0)) →
      (u ≡ true → Common (get_or a 2 0) (get_or b 2 0)) → (w ≡ true → Common (get_or a 3 0) (get_or b 3 0)) → ((s || t) || (u || w)) ≡ true → Shared (record { bits = a }) (record { bits = b })
  shared true t u w f g h k e = word_shared 0 (omega arith) (f refl)
  shared false true u w f g h k e = word_shared 1 (omega arith) (g refl)
  shared false false true w f g h k e = word_shared 2 (omega arith) (h refl)
  shared false false false true f g h k e = word_shared 3 (omega arith) (k refl)
  shared false false false false f g h k e = absurd (true≢false (sym e))

  pub shared_some : (s t u w : Bool) → (Common (get_or a 0 0) (get_or b 0 0) → s ≡ true) → (Common (get_or a 1 0) (get_or b 1 0) → t ≡ true) →
      (Common (get_or a 2 0) (get_or b 2 0) → u ≡ true) → (Common (get_or a 3 0) (get_or b 3 0) → w ≡ true) → Shared (record { bits = a }) (record { bits = b }) → ((s || t) || (u || w)) ≡ true
  shared_some s t u w f g h k (v, small, x, y) = by_word (v / 64) refl (shared_word v small x y)
    where
      by_word : (q : ℕ) → v / 64 ≡ q → Common (get_or a q 0) (get_or b q 0) → ((s || t) || (u || w)) ≡ true
      by_word zero e c = or_left (s || t) (u || w) (or_left s t (f c))
      by_word (suc zero) e c = or_left (s || t) (u || w) (or_right s t (g c))
      by_word (suc (suc zero)) e c = or_right (s || t) (u || w) (or_left u w (h c))
      by_word (suc (suc (suc zero))) e c = or_right (s || t) (u || w) (or_right u w (k c))
      by_word (suc (suc (suc (suc q)))) e c = absurd (omega arith)
