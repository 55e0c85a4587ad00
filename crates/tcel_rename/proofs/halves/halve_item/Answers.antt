use Rattle.std.proofs.Common.{sym, ap, ◌∙◌}
use Rattle.tcel_core.specs.Parts.{renamed_act}
use Rattle.tcel_core.specs.Plain.{plain_item, plain_stmt}
use Rattle.tcel_parts.proofs.PartsProper.{own_act}
use Rattle.tcel_rename.specs.Renaming.{number_in}
use Rattle.tcel_rename.specs.Sets.{by_list}
use Rattle.tcel_rename.proofs.Growing.{item_kept, item_left}
use Rattle.tcel_rename.proofs.halves.halve_item.Goals as goal

pub returns-then-held : goal.returns-then-held
returns-then-held c = λ vars whole list plan is.
    item_kept (by_list vars whole list) c.args.sets.now c.args.numbers.now plan c.args.id (plain_item c.args.act.now) (plain_item c.in_ok-renamed.renamed) (plain_stmt c.item_stmt.result) c.args.first.now c.push.new.list c.save.new.first
    c.args.rest.now c.save.new.rest (sym is ∙ c.if-held.true) (c.in_ok-renamed.ensures ∙ ap (λ l. renamed_act (number_in l) (plain_item c.args.act.now)) c.as_slice.ensures) c.item_stmt.ensures c.in_ok-push.ensures
    (c.in_ok-save.ensures.first vars whole list plan) (c.in_ok-save.ensures.rest vars whole list plan)

pub returns : goal.returns
returns c = λ vars whole list plan is.
    item_left (by_list vars whole list) c.args.id (plain_item c.args.act.now) (plain_item c.in_ok-copied.copied) (plain_stmt c.item_stmt-2.result) c.args.first.now c.args.rest.now c.push-2.new.list (sym is ∙ c.if-held.false)
    (c.in_ok-copied.ensures ∙ own_act (plain_item c.args.act.now)) c.item_stmt-2.ensures c.in_ok-push-2.ensures
