use Rattle.std.proofs.Common.{◌∙◌, ap, sym}
use Rattle.tcel_core.specs.Plain.{plain_set}
use Rattle.tcel_driver.proofs.Costed.{whole_periods}
use Rattle.tcel_num.specs.Hyperperiod.{periods_of}
use Rattle.tcel_tests.proofs.judge_tests.compare.Goals as goal

pub judge-requires-clause-periods : goal.judge-requires-clause-periods
judge-requires-clause-periods g c =
    let forms = c.in_ok-forms.forms in
    sym (whole_periods c.unit.result (plain_set c.in_ok-set.set) _ forms.whole forms.sliced c.in_ok-forms.ensures.forms.costed) ∙ ap periods_of (sym c.as_slice.ensures)
