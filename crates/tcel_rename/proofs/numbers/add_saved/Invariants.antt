use Rattle.std.proofs.Common.{◌≡◌, ◌++◌, length}
use Rattle.std.specs.Prelude.{flat_map}
use Rattle.tcel_core.specs.Numbering.{numbers_from}
use Rattle.tcel_rename.specs.Lives.{stands_at}
use Rattle.tcel_rename.specs.Numbers.{starts_of, temporaries}
use Rattle.tcel_rename.proofs.numbers.add_saved.Given as goal

abbrev pub invariant-loop-n : goal.invariant-loop-n
invariant-loop-n l =
    record {
      vars : l.vars ≡ l.initial.vars ++ flat_map (λ n. temporaries l.own (stands_at l.lives n)) (numbers_from 0 l.n);
      starts : l.starts ≡ starts_of (length l.initial.vars) (λ n. temporaries l.own (stands_at l.lives n)) l.n;
    }
