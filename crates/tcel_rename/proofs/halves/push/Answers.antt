use Rattle.std.proofs.Common.{[], ◌∷◌, refl}
use Rattle.tcel_rename.proofs.Growing.{adds_list}
use Rattle.tcel_rename.proofs.halves.push.Goals as goal

pub returns : goal.returns
returns c = adds_list c.args.list.now c.push.new.self (c.args.stmt ∷ []) _ c.in_ok-push.ensures.ok refl
