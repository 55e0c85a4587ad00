use Rattle.std.proofs.Common.{◌∙◌, ℕ, false}
use Rattle.std.specs.Prelude.{slice_index_or}
use Rattle.tcel_rename.specs.Numbers.{truth}
use Rattle.tcel_rename.proofs.NumberLists.{flat_kept, starts_more}
use Rattle.tcel_rename.proofs.numbers.add_truths.Goals as goal

pub loop-n-preserved : goal.loop-n-preserved
loop-n-preserved c =
    let g = λ (n : ℕ). truth (slice_index_or c.args.splits.now n false) in
    record {
      vars = flat_kept g c.loop-n.n c.loop-n.vars c.push_where.new.vars c.args.vars.now c.loop-n.invariant.vars c.in_ok-push_where.ensures;
      starts =
          c.in_ok-push.ensures.ok
          ∙ starts_more g c.loop-n.n c.in_ok-next_number.field-0 c.loop-n.vars c.args.vars.now c.loop-n.starts c.loop-n.invariant.vars c.in_ok-next_number.ensures.number c.loop-n.invariant.starts;
    }
