use Rattle.std.proofs.Common.{refl}
use Rattle.tcel_core.specs.Plain.{plain_task}
use Rattle.tcel_rename.proofs.AllNumbers.{numbers_are}
use Rattle.tcel_rename.proofs.numbers.numbers_of.Goals as goal

pub returns : goal.returns
returns c =
    numbers_are (plain_task c.args.task.now) c.requires.sound c.args.kept.now.list c.args.sets.now c.requires.sets c.requires.items c.as_slice-own.result.now c.as_slice.result.now c.as_slice-2.result.now
    c.as_slice-own.ensures c.as_slice.ensures c.as_slice-2.ensures c.in_ok-vars.vars c.add_temporaries.new.vars c.add_saved.new.vars c.add_truths.new.vars _ c.in_ok-inside.inside c.in_ok-starts.starts
    c.in_ok-truths.truths c.in_ok-vars.ensures c.in_ok-add_temporaries.ensures c.in_ok-starts.ensures.vars c.in_ok-truths.ensures.vars refl c.in_ok-inside.ensures c.in_ok-starts.ensures.starts c.in_ok-truths.ensures.starts
