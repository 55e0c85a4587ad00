use Rattle.std.proofs.Common.{◌≡◌, Bool, false, List, length, replicate, refl, sym, ap, ◌∙◌, subst}
use Rattle.std.proofs.lemmas.List.{length-replicate}
use Rattle.tcel_core.specs.Numbering.{item_numbers}
use Rattle.tcel_core.specs.Plain.{plain_body, plain_task}
use Rattle.tcel_flow.specs.Shape.{AreSteps, places}
use Rattle.tcel_slice.specs.Keeping.{marked}
use Rattle.tcel_slice.proofs.Answer.{kept_set, items_counted, none_marked}
use Rattle.tcel_slice.proofs.keeping.kept.Goals as goal

are : (c : goal.After-before_branch) → AreSteps c.as_slice-steps.result.now (places (plain_body c.args.task.now.body))
are c = subst (λ l. AreSteps l (places (plain_body c.args.task.now.body))) (sym c.as_slice-steps.ensures) c.requires.shape

unmarked : (c : goal.After-before_branch) → c.from_vec-list.result ≡ replicate c.count_items.result false
unmarked c = c.from_vec-list.ensures ∙ c.in_ok-vec.ensures.items_if_clones_equal (λ y e. e)

counted : (c : goal.After-before_branch) → length c.from_vec-list.result ≡ length (item_numbers (plain_body c.args.task.now.body))
counted c =
    ap (λ (l : List Bool). length l) (unmarked c)
    ∙ (length-replicate c.count_items.result false ∙ (c.count_items.ensures ∙ items_counted (plain_body c.args.task.now.body) c.as_slice-steps.result.now (are c)))

pub returns-clause-kept : goal.returns-clause-kept
returns-clause-kept c =
    kept_set (plain_task c.args.task.now) c.requires.sound c.as_slice-steps.result.now c.before_branch.result.0 _ c.from_vec-list.result c.before_branch.result.1 c.before_branch.new.list (are c)
    (λ v small. c.empty.ensures v) refl (λ n. ap (λ l. marked l n) (unmarked c) ∙ none_marked c.count_items.result n) (counted c) c.before_branch.ensures.start c.before_branch.ensures.keeps

pub returns-clause-length : goal.returns-clause-length
returns-clause-length c = c.before_branch.ensures.keeps.long ∙ counted c
