use Rattle.std.proofs.Common.{subst, sym}
use Rattle.toml.specs.View.{table_view}
use Rattle.tcel_target.proofs.Members.{IsFound, found_ref, first_strange}
use Rattle.tcel_target.proofs.read.strange_key.Goals as goal

pub returns : goal.returns
returns c =
    let found = first_strange c.args.table.now.entries c.len-keys.ensures.ordered in
    found_ref (table_view c.args.table.now) c.first_unlisted.result (subst (IsFound (table_view c.args.table.now)) (sym c.first_unlisted.ensures) found)
