use Rattle.std.proofs.Common.{sym, ◌∙◌, subst}
use Rattle.tcel_demand.specs.Sound.{AreWithin}
use Rattle.tcel_fewest.proofs.SetLemmas.{plans_within}
use Rattle.tcel_fewest.proofs.search.fits.Goals as goal

pub fault_of-requires-clause-within : goal.fault_of-requires-clause-within
fault_of-requires-clause-within c =
    let forms = c.args.forms.now in
    subst (λ l. AreWithin l forms.hyper) (sym (c.as_slice.ensures ∙ c.in_ok-plans.ensures)) (plans_within c.args.set forms.whole forms.sliced forms.hyper c.requires.paired)
