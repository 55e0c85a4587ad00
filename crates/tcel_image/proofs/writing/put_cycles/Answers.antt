use Rattle.std.proofs.Common.{◌++◌, ap, ◌∙◌}
use Rattle.std.specs.Int.{w32}
use Rattle.tcel_target.specs.Costs.{instruction_keys, cost_of}
use Rattle.tcel_image.specs.Spelling.{number}
use Rattle.tcel_image.proofs.Lists.{flat_map_next}
use Rattle.tcel_image.proofs.writing.put_cycles.Goals as goal

pub loop-key-preserved : goal.loop-key-preserved
loop-key-preserved c =
    flat_map_next (λ key. number w32 (cost_of c.args.table.now key)) instruction_keys c.loop-key.key-index _ c.args.out.now.items c.loop-key.out.items c.put_u32.new.out.items
    c.loop-key-test.true c.loop-key.invariant (c.in_ok-put_u32.ensures ∙ ap (λ n. c.loop-key.out.items ++ number w32 n) c.of.ensures)
