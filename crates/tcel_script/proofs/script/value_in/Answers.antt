use Rattle.std.proofs.Common.{sym, ap, ◌∙◌, pos, w64, [], List, ℤ, get_or}
use Rattle.std.specs.Prelude.{unwrap_or}
use Rattle.std.specs.Option.{option_copied}
use Rattle.std.proofs.lemmas.Int.{to_z-of_z}
use Rattle.tcel_script.proofs.Places.{stream_at}
use Rattle.tcel_script.proofs.script.value_in.Goals as goal

pub returns-in-Some : goal.returns-in-Some
returns-in-Some c =
    let found = sym c.stream_at.ensures ∙ ap option_copied c.in-Some.is in
    let stream = stream_at c.args.row.now c.args.port ∙ ap (λ o. unwrap_or o []) found in
    to_z-of_z w64 c.value_of.result (record { sfits = c.value_of.type_inv }) ∙ c.value_of.ensures ∙ ap (λ (values : List ℤ). get_or values c.args.n (pos 0)) (sym stream)

pub returns-in-None : goal.returns-in-None
returns-in-None c =
    let found = sym c.stream_at.ensures ∙ ap option_copied c.in-None.is in
    let stream = stream_at c.args.row.now c.args.port ∙ ap (λ o. unwrap_or o []) found in
    ap (λ (values : List ℤ). get_or values c.args.n (pos 0)) (sym stream)
