use Rattle.std.proofs.Common.{◌≡◌, Bool, ◌≤◌, ◌&&◌, false, List, length, replicate, sym, ap, ◌∙◌, subst}
use Rattle.std.proofs.lemmas.List.{length-replicate}
use Rattle.tcel_core.specs.declared.row.Row.{Row}
use Rattle.tcel_core.specs.declared.var.Var.{Var}
use Rattle.tcel_core.specs.Kinds.{is_kind_3, is_state_variable}
use Rattle.tcel_core.specs.Numbering.{item_numbers}
use Rattle.tcel_core.specs.Paths.{points}
use Rattle.tcel_core.specs.Plain.{plain_body, plain_task}
use Rattle.tcel_core.specs.Rows.{stands_in}
use Rattle.tcel_flow.specs.Shape.{IsRow}
use Rattle.tcel_flow.proofs.Reached.{few_variables}
use Rattle.tcel_rename.specs.Lives.{FindsLiveInBlock}
use Rattle.tcel_rename.specs.Sets.{by_list}
use Rattle.tcel_rename.specs.Splits.{AreLive, FindsSides}
use Rattle.tcel_rename.proofs.SetsFound.{third_found, fetched_found, lives_found, splits_found}
use Rattle.tcel_rename.proofs.sets.sets_of.Goals as goal

pub states-wanted-requires : goal.states-wanted-requires
states-wanted-requires c =
    let few = few_variables (plain_task c.args.task.now) c.requires.sound in
    subst (λ (l : List Var). length l ≤ 256) (sym c.as_slice.ensures) few

pub returns-clause-sets : goal.returns-clause-sets
returns-clause-sets c =
    let task = plain_task c.args.task.now in
    let list = c.args.kept.now.list in
    let s = by_list task.vars task.body list in
    let count = length (item_numbers task.body) in
    let found = c.find_in_body.ensures.found task.vars task.body in
    let third : IsRow c.common-third.result (is_kind_3 s) =
    λ v small.
    c.common-third.ensures v small
    ∙ (ap (λ b. b && stands_in c.find_in_body.new.found.inside v) (c.add.ensures v small)
    ∙ third_found s _ c.find_in_body.new.found v small (c.empty.ensures v) (c.empty-2.ensures v) (c.empty-3.ensures v) (c.empty-4.ensures v) found)
    in
    let wanted : IsRow c.states-wanted.result (is_state_variable task.vars) =
    λ v small. c.states-wanted.ensures v small ∙ ap (λ (l : List Var). is_state_variable l v) c.as_slice.ensures in
    let rows : c.from_vec-lives.result ≡ replicate count c.empty-5.result =
    c.from_vec-lives.ensures
    ∙ (c.in_ok-vec.ensures.items_if_clones_equal (λ y e. e) ∙ ap (λ n. replicate n c.empty-5.result) (c.len.ensures ∙ c.requires.items))
    in
    let marks : c.from_vec-splits.result ≡ replicate 4000 false = c.from_vec-splits.ensures ∙ c.in_ok-vec-2.ensures.items_if_clones_equal (λ y e. e) in
    let live = c.live_in_body.ensures.found task.vars task.body in
    let long : length c.live_in_body.new.lives ≡ count = live.long ∙ (ap (λ (l : List Row). length l) rows ∙ length-replicate count c.empty-5.result) in
    let lives : AreLive s c.live_in_body.new.lives =
    lives_found task c.requires.sound list c.common-third.result c.states-wanted.result c.live_in_body.new.wanted c.empty-5.result c.live_in_body.new.lives third wanted c.empty-5.ensures
    (subst (λ l. FindsLiveInBlock s c.common-third.result task.body c.states-wanted.result l c.live_in_body.new.wanted c.live_in_body.new.lives) rows live) long
    in
    let sides = c.split_body.ensures task.vars task.body (subst (λ l. AreLive s l) (sym c.as_slice-2.ensures) lives) in
    record {
      third = third;
      fetched = λ v small.
          c.common-fetched.ensures v small
          ∙ fetched_found s _ c.find_in_body.new.found v small (c.empty.ensures v) (c.empty-2.ensures v) (c.empty-3.ensures v) (c.empty-4.ensures v) found (stands_in c.common-third.result v) (third v small);
      lives = lives;
      splits =
          splits_found task c.requires.sound list c.split_body.result c.split_body.new.splits
          (subst (λ l. FindsSides s (points task.body) l c.split_body.result c.split_body.new.splits) marks sides)
          (sides.long ∙ (ap (λ (l : List Bool). length l) marks ∙ length-replicate 4000 false));
    }

pub returns-clause-items : goal.returns-clause-items
returns-clause-items c =
    let count = length (item_numbers (plain_body c.args.task.now.body)) in
    let rows : c.from_vec-lives.result ≡ replicate count c.empty-5.result =
    c.from_vec-lives.ensures
    ∙ (c.in_ok-vec.ensures.items_if_clones_equal (λ y e. e) ∙ ap (λ n. replicate n c.empty-5.result) (c.len.ensures ∙ c.requires.items))
    in (c.live_in_body.ensures.found c.args.task.now.vars (plain_body c.args.task.now.body)).long ∙ (ap (λ (l : List Row). length l) rows ∙ length-replicate count c.empty-5.result)
