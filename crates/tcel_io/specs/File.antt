-- Files in memory.
use Rattle.std.specs.Prelude.{ℕ, List, Option, find, nat_eq}
use Rattle.std.specs.Cmp.Lexicographic.{pointwise}
use Rattle.std.specs.Option.{option_map}

-- a file: its name and its bytes
pub record File : Type 0 where
  pub name : List ℕ
  pub bytes : List ℕ

-- the bytes of the first file of this name
abbrev pub bytes_under : List File → List ℕ → Option (List ℕ)
bytes_under files name = option_map (λ file. file.bytes) (find (λ file. pointwise nat_eq file.name name) files)
