use Rattle.std.proofs.Common.{◌∙◌, ap, false, unwrap_or}
use Rattle.std.proofs.lemmas.Option.{unwrap_or-slice_get}
use Rattle.tcel_core.proofs.item_set.ItemSet.has.Goals as goal

pub returns : goal.returns
returns c =
    c.unwrap_or.ensures ∙ ap (λ o. unwrap_or o false) (c.copied.ensures ∙ c.get.ensures.value)
    ∙ unwrap_or-slice_get c.args.self.now.list c.args.item false
