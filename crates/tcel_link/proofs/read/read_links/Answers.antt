use Rattle.std.proofs.Common.{◌≡◌, ◌+◌, List, length, map, None, Ok, Err, refl, sym, ◌∙◌, subst, arith, below_more}
use Rattle.std.proofs.lemmas.Bool.{eqb-true}
use Rattle.std.proofs.lemmas.Result.{err_from_is_err_and}
use Rattle.tcel_core.specs.declared.set.CoreTask.{CoreTask}
use Rattle.tcel_core.specs.Plain.{plain_task}
use Rattle.tcel_core.specs.Sound.{IsSoundSet}
use Rattle.tcel_link.specs.Conditions.{AreLinks}
use Rattle.tcel_link.specs.Lines.{line_of, link_lines}
use Rattle.tcel_link.specs.Links.{Reads, fault_at, links_in}
use Rattle.tcel_link.proofs.Reading.{failed, finished, fit_more, next_is, none_linked, went_on}
use Rattle.tcel_link.proofs.read.read_links.Goals as goal

pub loop-tasks-init : goal.loop-tasks-init
loop-tasks-init c =
    let tasks = map plain_task c.as_slice-tasks.result.now in
    let none = c.new-links.ensures.items in
    record { counted = omega arith; left = refl; so_far = none; sound = λ k h. absurd (omega arith); fit = subst (AreLinks tasks) (sym none) (none_linked tasks) }

pub take_line-requires : goal.take_line-requires
take_line-requires c = subst (λ (ts : List CoreTask). IsSoundSet (map plain_task ts)) (sym c.as_slice-tasks.ensures) c.requires.sound

pub loop-tasks-preserved : goal.loop-tasks-preserved
loop-tasks-preserved c =
    let tasks = map plain_task c.as_slice-tasks.result.now in
    let all = link_lines c.args.bytes.now in
    let h = c.loop-tasks.invariant in
    let line = c.next_line.result.0.now in
    let next = next_is all c.loop-tasks.number c.loop-tasks.rest.now line c.next_line.result.1.now h.left c.next_line.ensures.value in
    let on = went_on tasks all c.loop-tasks.number line c.next_line.result.1.now c.loop-tasks.links.items c.take_line.new.links.items next h.so_far c.in_ok-take_line.ensures in
    record {
      counted = omega (arith, c.next_line.ensures.shorter, h.counted);
      left = next.left;
      so_far = on.1;
      sound = below_more (λ k. fault_at tasks all k ≡ None) c.loop-tasks.number h.sound on.0;
      fit = fit_more tasks (c.loop-tasks.number + 1) c.loop-tasks.links.items c.take_line.new.links.items (line_of line) c.in_ok-take_line.ensures h.fit;
    }

pub returns-in_err-take_line-clause-read : goal.returns-in_err-take_line-clause-read
returns-in_err-take_line-clause-read c =
    let bytes = c.args.bytes.now in
    let tasks = map plain_task c.as_slice-tasks.result.now in
    let h = c.loop-tasks.invariant in
    let line = c.next_line.result.0.now in
    let failure = err_from_is_err_and c.from_residual.result c.from_residual.ensures.1 in
    let next = next_is (link_lines bytes) c.loop-tasks.number c.loop-tasks.rest.now line c.next_line.result.1.now h.left c.next_line.ensures.value in
    let given = c.in_err-take_line.field-0.0 in
    let end = failed tasks bytes c.loop-tasks.number line c.next_line.result.1.now c.loop-tasks.links.items c.take_line.new.links.items given next h.so_far h.sound c.in_err-take_line.ensures in
    rw (failure.1, failure.2) (subst (λ (ts : List CoreTask). Reads (Err given) (links_in (map plain_task ts) bytes)) c.as_slice-tasks.ensures end)

pub returns-clause-read : goal.returns-clause-read
returns-clause-read c =
    let h = c.loop-tasks.invariant in
    let over = eqb-true (length c.loop-tasks.rest.now) 0 (sym c.is_empty.ensures ∙ c.loop-tasks-test.false) in
    let end = finished (map plain_task c.as_slice-tasks.result.now) c.args.bytes.now c.loop-tasks.rest.now c.loop-tasks.number c.loop-tasks.links.items h.left over h.sound h.so_far in
    rw c.new.ensures (subst (λ (ts : List CoreTask). links_in (map plain_task ts) c.args.bytes.now ≡ Ok c.loop-tasks.links.items) c.as_slice-tasks.ensures end)

pub returns-clause-links : goal.returns-clause-links
returns-clause-links c =
    rw c.new.ensures (subst (λ (ts : List CoreTask). AreLinks (map plain_task ts) c.loop-tasks.links.items) c.as_slice-tasks.ensures c.loop-tasks.invariant.fit)
