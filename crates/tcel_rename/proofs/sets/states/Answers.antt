use Rattle.std.proofs.Common.{sym, ◌∙◌, inl, inr, arith}
use Rattle.std.proofs.lemmas.Bool.{cases_lt}
use Rattle.tcel_core.specs.Rows.{stands_in}
use Rattle.tcel_rename.proofs.SetsFound.{states_before, states_behind, no_state}
use Rattle.tcel_rename.proofs.sets.states.Goals as goal

pub returns : goal.returns
returns c = λ v small.
    elim (cases_lt v c.loop-i.i) [
      | inl less ↦ c.loop-i.invariant.before v small less
      | inr past ↦ c.loop-i.invariant.behind v small past ∙ sym (no_state c.args.vars.now v (omega arith))
    ]

pub loop-i-preserved : goal.loop-i-preserved
loop-i-preserved c =
    let x = c.index-vars-i.result in
    record {
      before = states_before c.args.vars.now c.loop-i.i x (stands_in c.loop-i.row) (stands_in c.insert_where.new.row) (omega arith) c.index-vars-i.is c.is_state.result c.is_state.ensures c.insert_where.ensures c.loop-i.invariant.before c.loop-i.invariant.behind;
      behind = states_behind c.args.vars.now c.loop-i.i x (stands_in c.loop-i.row) (stands_in c.insert_where.new.row) (omega arith) c.index-vars-i.is c.is_state.result c.is_state.ensures c.insert_where.ensures c.loop-i.invariant.before c.loop-i.invariant.behind;
    }
