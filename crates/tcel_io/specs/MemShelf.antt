-- A shelf of files in memory.
use Rattle.std.specs.Prelude.{ℕ, ◌+◌, List, length, IsNone, Contains, ◌⊎◌}
use Rattle.tcel_io.specs.File.{File, bytes_under}
use Rattle.tcel_io.specs.Load.{Load}
use Rattle.tcel_io.specs.Shelf.{SeenShelf}

-- its files, the numbers of the loads that fail, and the loads so far
pub record Contents : Type 0 where
  pub files : List File
  pub fails : List ℕ
  pub loads : List Load

-- it tells the bytes of its files
abbrev pub seen : Contents → SeenShelf
seen shelf = record { told = bytes_under shelf.files; loads = shelf.loads }

-- the next load fails: its number, from 1, is listed, or there is no file of this name
abbrev pub NextLoadFails : Contents → List ℕ → Type 0
NextLoadFails shelf name = Contains shelf.fails (length shelf.loads + 1) ⊎ IsNone (bytes_under shelf.files name)
