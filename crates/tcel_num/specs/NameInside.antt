-- A name as it is kept: its bytes, and zeros up to 32.
use Rattle.std.specs.Prelude.{◌≡◌, ℕ, ◌-◌, ◌≤◌, List, ◌++◌, length, take, drop, replicate}
use Rattle.std.proofs.Common.{ap, arith, take-append-drop}
use Rattle.std.proofs.Math.ListN.{length-take}
use Rattle.tcel_num.specs.declared.name.Name.TheInside.{Inside}
use Rattle.tcel_num.specs.Name.{IsName}

-- the bytes of the name
abbrev pub bytes_of : Inside → List ℕ
bytes_of a = take a.length a.bytes

-- the bytes are a name, and zeros stand behind it
pub record IsKept (a : Inside) : Type 0 where
  pub named : IsName (bytes_of a)
  pub short : a.length ≤ 32
  pub size : length a.bytes ≡ 32
  pub padding : drop a.length a.bytes ≡ replicate (32 - a.length) 0

-- the name with these bytes
abbrev pub inside_of : List ℕ → Inside
inside_of name = record { bytes = name ++ replicate (32 - length name) 0; length = length name }

length_of : (n : ℕ) (bytes : List ℕ) → n ≤ 32 → length bytes ≡ 32 → length (take n bytes) ≡ n
length_of n bytes short size = simp length-take (omega arith)

-- a name gives back what is kept
pub inside_of-bytes_of : (a : Inside) → IsKept a → inside_of (bytes_of a) ≡ a
inside_of-bytes_of a h =
    rw (length_of a.length a.bytes h.short h.size)
    (rw (← h.padding)
    (ap (λ (bytes : List ℕ). let b : Inside = record { bytes = bytes; length = a.length } in b) (take-append-drop a.length a.bytes)))
