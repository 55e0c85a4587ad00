-- Names in their 32 bytes.
use Rattle.std.proofs.Common.{ℕ, List, ◌++◌, length, drop, replicate, arith, ◌∙◌, length-append, length-drop}
use Rattle.std.proofs.Math.Seq.{drop-append_seam, take-append_seam}
use Rattle.std.proofs.lemmas.List.{drop-replicate}
use Rattle.tcel_num.specs.Name.{IsName}
use Rattle.tcel_num.specs.NameInside.{IsKept}

-- bytes written over the first of 32 zeros are kept as a name
pub kept : (bytes : List ℕ) → IsName bytes → IsKept (record { bytes = bytes ++ drop (length bytes) (replicate 32 0); length = length bytes })
kept bytes name = record {
  named = rw (take-append_seam bytes (drop (length bytes) (replicate 32 0))) name;
  short = name.short;
  size = simp (length-append, length-drop) (omega (arith, name.short));
  padding = drop-append_seam bytes (drop (length bytes) (replicate 32 0)) ∙ drop-replicate (length bytes) 32 0;
}
