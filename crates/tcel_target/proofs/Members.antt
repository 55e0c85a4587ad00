-- The strange keys of a document: the first in the keys' order is the least.
use Rattle.std.proofs.Common.{◌≡◌, ◌≢◌, ℕ, ◌⊎◌, Bool, true, false, not, List, [], ◌∷◌, Option, Some, None, IsSome, String, Global, Ordering, Less, Equal, Greater, string_bytes, nat_cmp, refl, sym, ap, ◌∙◌, subst, inl, inr}
use Rattle.std.specs.Prelude.{MatchOption, option_copied}
use Rattle.std.specs.Borrow.{Bor}
use Rattle.std.specs.List.{find, AllByRecursion}
use Rattle.std.specs.List.Sorted.{IsStrictlySortedBy}
use Rattle.std.specs.Map.{keys_of}
use Rattle.std.specs.String.{string_cmp}
use Rattle.std.specs.Ordering.{match_ordering}
use Rattle.std.specs.Cmp.Lexicographic.{slice_cmp}
use Rattle.std.proofs.lemmas.Bool.{cases_Bool, false≢true}
use Rattle.std.proofs.lemmas.Cmp.{nat_list_cmp_total, tied_itself}
use Rattle.std.proofs.lemmas.Map.Lookups.{exact_bytes}
use Rattle.toml.specs.Data.{Data, Members, member, get_member}
use Rattle.toml.specs.View.{view, members_view}
use Rattle.toml.specs.declared.value.Value.{Value}
use Rattle.tcel_target.specs.Target.{IsStrange, IsLeastStrange, HasNoStrange}
use Rattle.tcel_target.specs.Reading.{is_listed}
use Rattle.tcel_target.proofs.Keys.{listed, unlisted}

abbrev pub Entry : Type 0
Entry = String Global × Value

-- ---- one member and those behind it

here_or_behind : (o : Ordering) (d : Data) (rest : Option Data) → IsSome (match_ordering o rest (Some d) rest) → (o ≡ Equal) ⊎ IsSome rest
here_or_behind Less d rest h = inr h
here_or_behind Equal d rest h = inl refl
here_or_behind Greater d rest h = inr h

behind : (o : Ordering) (d : Data) (rest : Option Data) → IsSome rest → IsSome (match_ordering o rest (Some d) rest)
behind Less d rest h = h
behind Equal d rest h = refl
behind Greater d rest h = h

module _ (key : List ℕ) (d : Data) (rest : Members) where
  -- a key that is there is the first or one behind it
  pub there_split : (text : List ℕ) → IsSome (get_member text (member key d rest)) → (text ≡ key) ⊎ IsSome (get_member text rest)
  there_split text h =
      elim (here_or_behind (slice_cmp nat_cmp text key) d (get_member text rest) h) [
        | inl same ↦ inl (exact_bytes text key same)
        | inr later ↦ inr later
      ]

  strange_behind : (text : List ℕ) → IsStrange rest text → IsStrange (member key d rest) text
  strange_behind text s = record { there = behind (slice_cmp nat_cmp text key) d (get_member text rest) s.there; unlisted = s.unlisted }

  -- a strange key is behind the first, where that is listed
  pub strange_later : is_listed key ≡ true → (text : List ℕ) → IsStrange (member key d rest) text → IsStrange rest text
  strange_later is text s =
      elim (there_split text s.there) [
        | inl same ↦ let k = listed key is in absurd (s.unlisted k.0 (same ∙ k.1))
        | inr later ↦ record { there = later; unlisted = s.unlisted }
      ]

-- ---- the keys of a map, in order

-- a key that is before those of the entries is before each that is there
before_each : (k : String Global) (es : List Entry) → AllByRecursion (λ y. string_cmp k y ≡ Less) (keys_of es) → (text : List ℕ) →
    IsSome (get_member text (members_view es)) → slice_cmp nat_cmp (string_bytes k) text ≡ Less
before_each k [] all text h = absurd (false≢true h)
before_each k (e ∷ es) all text h =
    elim (there_split (string_bytes e.0) (view e.1) (members_view es) text h) [
      | inl same ↦ subst (λ l. slice_cmp nat_cmp (string_bytes k) l ≡ Less) (sym same) all.0
      | inr later ↦ before_each k es all.1 text later
    ]

pub less≢greater : Less ≢ Greater
less≢greater e = absurd cc

pub equal≢greater : Equal ≢ Greater
equal≢greater e = absurd cc

abbrev is_strange : String Global → Bool
is_strange key = not (is_listed (string_bytes key))

-- what is found by going over the keys in their order
abbrev pub IsFound : Members → Option (String Global) → Type 0
IsFound top found = MatchOption found (HasNoStrange top) (λ key. IsLeastStrange top (string_bytes key))

found_behind : (key : List ℕ) (d : Data) (rest : Members) (found : Option (String Global)) → is_listed key ≡ true → IsFound rest found → IsFound (member key d rest) found
found_behind key d rest None is none = λ text s. none text (strange_later key d rest is text s)
found_behind key d rest (Some k) is least = record {
  strange = strange_behind key d rest (string_bytes k) least.strange;
  least = λ other s. least.least other (strange_later key d rest is other s);
}

found_here : (e : Entry) (es : List Entry) → AllByRecursion (λ y. string_cmp e.0 y ≡ Less) (keys_of es) → is_listed (string_bytes e.0) ≡ false → IsLeastStrange (members_view (e ∷ es)) (string_bytes e.0)
found_here e es all is = record {
  strange = record { there = rw (tied_itself nat_list_cmp_total (string_bytes e.0)) refl; unlisted = unlisted (string_bytes e.0) is };
  least = λ other s greater.
      elim (there_split (string_bytes e.0) (view e.1) (members_view es) other s.there) [
        | inl same ↦ equal≢greater (sym (tied_itself nat_list_cmp_total (string_bytes e.0)) ∙ ap (slice_cmp nat_cmp (string_bytes e.0)) (sym same) ∙ greater)
        | inr later ↦ less≢greater (sym (before_each e.0 es all other later) ∙ greater)
      ];
}

pub first_strange : (es : List Entry) → IsStrictlySortedBy string_cmp (keys_of es) → IsFound (members_view es) (find is_strange (keys_of es))
unfolding IsStrictlySortedBy
first_strange [] sorted = λ text s. absurd (false≢true s.there)
first_strange (e ∷ es) sorted =
    elim (cases_Bool (is_listed (string_bytes e.0))) [
      | inl is ↦ rw is (found_behind (string_bytes e.0) (view e.1) (members_view es) (find is_strange (keys_of es)) is (first_strange es sorted.1))
      | inr other ↦ rw other (found_here e es sorted.0 other)
    ]

-- the same behind a reference
pub found_ref : (top : Members) (r : Option (Bor (String Global))) → IsFound top (option_copied r) →
    MatchOption r (HasNoStrange top) (λ key. IsLeastStrange top (string_bytes key.now))
found_ref top None h = h
found_ref top (Some key) h = h
