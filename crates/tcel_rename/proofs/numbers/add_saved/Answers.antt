use Rattle.std.proofs.Common.{◌∙◌, ℕ}
use Rattle.tcel_rename.specs.Lives.{stands_at}
use Rattle.tcel_rename.specs.Numbers.{temporaries}
use Rattle.tcel_rename.proofs.NumberLists.{flat_kept, starts_more}
use Rattle.tcel_rename.proofs.numbers.add_saved.Goals as goal

pub loop-n-preserved : goal.loop-n-preserved
loop-n-preserved c =
    let g = λ (n : ℕ). temporaries c.args.own.now (stands_at c.args.lives.now n) in
    record {
      vars = flat_kept g c.loop-n.n c.loop-n.vars c.add_temporaries.new.vars c.args.vars.now c.loop-n.invariant.vars c.in_ok-add_temporaries.ensures;
      starts =
          c.in_ok-push.ensures.ok
          ∙ starts_more g c.loop-n.n c.in_ok-next_number.field-0 c.loop-n.vars c.args.vars.now c.loop-n.starts c.loop-n.invariant.vars c.in_ok-next_number.ensures.number c.loop-n.invariant.starts;
    }
