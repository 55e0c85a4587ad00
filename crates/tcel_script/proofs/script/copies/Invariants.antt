use Rattle.std.proofs.Common.{◌≡◌, [], map, take, unwrap_or}
use Rattle.tcel_script.proofs.script.copies.Given as goal

abbrev pub invariant-loop-found : goal.invariant-loop-found
invariant-loop-found l = map (λ v. v.items) l.lists.items ≡ map (λ found. unwrap_or found []) (take l.found-index l.row)
