use Rattle.std.proofs.Common.{◌≡◌, ◌++◌, length, false}
use Rattle.std.specs.Prelude.{flat_map, slice_index_or}
use Rattle.tcel_core.specs.Numbering.{numbers_from}
use Rattle.tcel_rename.specs.Numbers.{starts_of, truth}
use Rattle.tcel_rename.proofs.numbers.add_truths.Given as goal

abbrev pub invariant-loop-n : goal.invariant-loop-n
invariant-loop-n l =
    record {
      vars : l.vars ≡ l.initial.vars ++ flat_map (λ n. truth (slice_index_or l.splits n false)) (numbers_from 0 l.n);
      starts : l.starts ≡ starts_of (length l.initial.vars) (λ n. truth (slice_index_or l.splits n false)) l.n;
    }
