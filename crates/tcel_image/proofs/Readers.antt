-- Readers and what they read: whatever a reader gives is spelled so, and what is spelled so it gives.
use Rattle.std.proofs.Common.{◌≡◌, ℕ, ◌<◌, List, [], ◌∷◌, ◌++◌, length, get_or, Result, Ok, Err, refl, sym, ap, subst, ◌∙◌, append_assoc, length-append, arith, ◌⊎◌, inl, inr}
use Rattle.tcel_image.specs.declared.fault.Fault.{Fault}
use Rattle.tcel_image.specs.declared.fault.Fault.TheVariants as faults
use Rattle.tcel_image.specs.Reading.{Reader, after, ◌>>=◌, done}

abbrev pub IsBytes : List ℕ → Type 0
IsBytes bytes = (i : ℕ) → get_or bytes i 0 < 256

-- what a reader took from the front
pub record Takes (bytes text rest : List ℕ) : Type 0 where
  pub parts : bytes ≡ text ++ rest
  pub rest_fits : IsBytes rest

-- The values of a reader are spelled by spell and fit, each value that fits is read from its spelling, and a
-- proper front of a spelling is cut.
pub record Reads {A : Type 0} (read : Reader A) (spell : A → List ℕ) (Fits : A → Type 0) : Type 0 where
  pub takes : (bytes : List ℕ) (x : A) (rest : List ℕ) → IsBytes bytes → read bytes ≡ Ok (x, rest) → Takes bytes (spell x) rest × Fits x
  pub again : (x : A) (rest : List ℕ) → Fits x → read (spell x ++ rest) ≡ Ok (x, rest)
  pub cut : (x : A) (front : List ℕ) (b : ℕ) (more : List ℕ) → Fits x → spell x ≡ front ++ b ∷ more → read front ≡ Err faults.Cut

-- the value of a step that did not fail
pub bind_ok : {A B : Type 0} (r : Result (A × List ℕ) Fault) (next : A → Reader B) (y : B × List ℕ) → after r next ≡ Ok y → (x : A) × (rest : List ℕ) × (r ≡ Ok (x, rest)) × (next x rest ≡ Ok y)
bind_ok (Ok x) next y e = (x.0, x.1, refl, e)
bind_ok (Err f) next y e = absurd cc

abbrev pub given : {A : Type 0} → A → List ℕ → Result (A × List ℕ) Fault
given x rest = Ok (x, rest)

given_pair : {A : Type 0} (x y : A) (p q : List ℕ) → given x p ≡ given y q → ◌≡◌ {A = A × List ℕ} (x, p) (y, q)
given_pair x y p q e = cc

pub given_value : {A : Type 0} (x y : A) (p q : List ℕ) → given x p ≡ given y q → x ≡ y
given_value {A} x y p q e = ap (λ (z : A × List ℕ). z.0) (given_pair x y p q e)

pub given_rest : {A : Type 0} (x y : A) (p q : List ℕ) → given x p ≡ given y q → p ≡ q
given_rest {A} x y p q e = ap (λ (z : A × List ℕ). z.1) (given_pair x y p q e)

pub Takes-then : (a x b y c : List ℕ) → Takes a x b → Takes b y c → Takes a (x ++ y) c
Takes-then a x b y c p q = record { parts = p.parts ∙ ap (λ (t : List ℕ). x ++ t) q.parts ∙ sym (append_assoc x y c); rest_fits = q.rest_fits }

-- the front of a list is shorter
pub shorter : (whole front : List ℕ) (b : ℕ) (more : List ℕ) → whole ≡ front ++ b ∷ more → length front < length whole
shorter whole front b more e = omega (arith, ap (λ (l : List ℕ). length l) e, length-append front (b ∷ more))

same_first : (x y : ℕ) (xs ys : List ℕ) → x ∷ xs ≡ y ∷ ys → x ≡ y
same_first x y xs ys e = cc

same_others : (x y : ℕ) (xs ys : List ℕ) → x ∷ xs ≡ y ∷ ys → xs ≡ ys
same_others x y xs ys e = cc

-- the front of two texts ends in the first or in the second
pub cut_in : (s t front : List ℕ) (b : ℕ) (more : List ℕ) → s ++ t ≡ front ++ b ∷ more
    → ((c : ℕ) × (rest : List ℕ) × (s ≡ front ++ c ∷ rest)) ⊎ ((behind : List ℕ) × (front ≡ s ++ behind) × (t ≡ behind ++ b ∷ more))
cut_in [] t front b more e = inr (front, refl, e)
cut_in (x ∷ s) t [] b more e = inl (x, s, refl)
cut_in (x ∷ s) t (y ∷ front) b more e =
    let head : x ≡ y = same_first x y (s ++ t) (front ++ b ∷ more) e in
    elim (cut_in s t front b more (same_others x y (s ++ t) (front ++ b ∷ more) e)) [
      | inl (c, rest, q) ↦ inl (c, rest, rw (head, q) refl)
      | inr (behind, q, r) ↦ inr (behind, rw (head, q) refl, r)
    ]

-- two readers one after the other, on a front of what they spell together
pub cut_after : {A B : Type 0} (read : Reader A) (next : A → Reader B) (x : A) (s t front : List ℕ) (b : ℕ) (more : List ℕ) → s ++ t ≡ front ++ b ∷ more
    → ((f : List ℕ) (c : ℕ) (m : List ℕ) → s ≡ f ++ c ∷ m → read f ≡ Err faults.Cut) → ((rest : List ℕ) → read (s ++ rest) ≡ Ok (x, rest))
    → ((f : List ℕ) → t ≡ f ++ b ∷ more → next x f ≡ Err faults.Cut) → (read >>= next) front ≡ Err faults.Cut
cut_after read next x s t front b more e in_first whole in_second =
    elim (cut_in s t front b more e) [
      | inl (c, rest, q) ↦ ap (λ r. after r next) (in_first front c rest q)
      | inr (behind, q, r) ↦ ap (read >>= next) q ∙ ap (λ r. after r next) (whole behind) ∙ in_second behind r
    ]

pub done_reads : {A : Type 0} (x : A) → Reads (done x) (λ _. []) (λ y. y ≡ x)
done_reads x = record {
  takes = λ bytes y rest fits e.
      (record { parts = given_rest x y bytes rest e; rest_fits = subst IsBytes (given_rest x y bytes rest e) fits }, sym (given_value x y bytes rest e));
  again = λ y rest e. ap (λ z. given z rest) (sym e);
  cut = λ y front b more fits e. absurd (omega (arith, shorter [] front b more e));
}

-- A field whose value is a part of the whole, and then what is left of it.
pub bind_reads : {A B : Type 0} {read : Reader A} {spell : A → List ℕ} {Fits : A → Type 0} {next : A → Reader B} {spell_rest : B → List ℕ} {FitsAt : A → B → Type 0}
    → Reads read spell Fits → (part : B → A) → ((x : A) → Fits x → Reads (next x) spell_rest (FitsAt x)) → ((x : A) → Fits x → (y : B) → FitsAt x y → part y ≡ x)
    → Reads (read >>= next) (λ y. spell (part y) ++ spell_rest y) (λ y. Fits (part y) × FitsAt (part y) y)
bind_reads {A} {B} {read} {spell} {Fits} {next} {spell_rest} {FitsAt} field part others is_part = record {
  takes = λ bytes y rest fits e.
      let b = bind_ok (read bytes) next (y, rest) e in
      let first = field.takes bytes b.0 b.1 fits b.2 in
      let second = (others b.0 first.1).takes b.1 y rest first.0.rest_fits b.3 in
      let both = Takes-then bytes (spell b.0) b.1 (spell_rest y) rest first.0 second.0 in
      let same : b.0 ≡ part y = sym (is_part b.0 first.1 y second.1) in
      (subst (λ x. Takes bytes (spell x ++ spell_rest y) rest) same both, (subst Fits same first.1, subst (λ x. FitsAt x y) same second.1));
  again = λ y rest fits.
      ap (read >>= next) (append_assoc (spell (part y)) (spell_rest y) rest)
      ∙ ap (λ r. after r next) (field.again (part y) (spell_rest y ++ rest) fits.0)
      ∙ (others (part y) fits.0).again y rest fits.1;
  cut = λ y front b more fits e.
      cut_after read next (part y) (spell (part y)) (spell_rest y) front b more e
      (λ f c m q. field.cut (part y) f c m fits.0 q) (λ rest. field.again (part y) rest fits.0) (λ f q. (others (part y) fits.0).cut y f b more fits.1 q);
}

-- the same reader under another spelling and another condition that say the same
pub as_reads : {A : Type 0} {read : Reader A} {spell : A → List ℕ} {Fits : A → Type 0} (spell' : A → List ℕ) (Fits' : A → Type 0)
    → Reads read spell Fits → ((x : A) → Fits x → spell' x ≡ spell x) → ((x : A) → Fits x → Fits' x) → ((x : A) → Fits' x → Fits x) → Reads read spell' Fits'
as_reads {A} {read} {spell} {Fits} spell' Fits' h same there back = record {
  takes = λ bytes x rest fits e.
      let t = h.takes bytes x rest fits e in
      (subst (λ (l : List ℕ). Takes bytes l rest) (sym (same x t.1)) t.0, there x t.1);
  again = λ x rest fits. ap (λ (l : List ℕ). read (l ++ rest)) (same x (back x fits)) ∙ h.again x rest (back x fits);
  cut = λ x front b more fits e. h.cut x front b more (back x fits) (sym (same x (back x fits)) ∙ e);
}
