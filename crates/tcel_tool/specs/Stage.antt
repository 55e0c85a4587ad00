-- What a command does before it writes: its stages, in order. Each may stop it.
use Rattle.std.specs.Prelude.{ℕ, List}
use Rattle.tcel_tool.specs.Test.{Test}
use Rattle.tcel_tool.specs.declared.status.CountKind.{CountKind}

-- a text that is made of the words
pub data Made : Type 0 where
  program : Made
  script : Made

-- the file of a word is loaded, with a limit in bytes; a text is made, and stands as if it were the file of a word; the number that a word writes is compared
-- with the greatest one allowed; what was read is tested
pub data Stage : Type 0 where
  load : (word limit : ℕ) → Stage
  make : Made → (word : ℕ) → Stage
  bound : (kind : CountKind) (word most : ℕ) → Stage
  test : Test → Stage

-- a call of a command: its words, and the bytes that were read so far from the file of each word
pub record Call : Type 0 where
  pub words : List (List ℕ)
  pub read : ℕ → List ℕ
