use Rattle.std.proofs.Common.{◌≡◌, ◌+◌, suc, sym, ap, set, drop, ◌∙◌, arith}
use Rattle.std.proofs.lemmas.Int.{to_z-of_z}
use Rattle.std.proofs.lemmas.List.{drop_all}
use Rattle.std.specs.Int.{w64}
use Rattle.tcel_core.specs.Meaning.{head_or_zero, tail}
use Rattle.tcel_core.proofs.InputsLemmas.{next_past, next_at, none_left, first_left, rest_left, left_taken}
use Rattle.tcel_core.proofs.inputs.Inputs.next.Goals as goal

pub returns-then-port-len-clause-value : goal.returns-then-port-len-clause-value
returns-then-port-len-clause-value c = ap head_or_zero (sym (next_past c.self.inside.lists.items c.self.inside.taken.items c.args.port c.self.view_is (omega arith)))

pub returns-then-port-len-clause-rest : goal.returns-then-port-len-clause-rest
returns-then-port-len-clause-rest c = none_left c.args.self.now c.args.port (next_past c.self.inside.lists.items c.self.inside.taken.items c.args.port c.self.view_is (omega arith))

pub returns-then-taken-len-clause-value : goal.returns-then-taken-len-clause-value
returns-then-taken-len-clause-value c =
    let left = next_at c.self.inside.lists.items c.self.inside.taken.items c.args.port c.index-taken.result.now c.index-list.result.now c.self.view_is (omega arith) (omega arith) c.index-list.ensures c.index-taken.ensures in
    ap head_or_zero (sym (left ∙ drop_all c.index-taken.result.now c.index-list.result.now.items (omega arith)))

pub returns-then-taken-len-clause-rest : goal.returns-then-taken-len-clause-rest
returns-then-taken-len-clause-rest c =
    let left = next_at c.self.inside.lists.items c.self.inside.taken.items c.args.port c.index-taken.result.now c.index-list.result.now c.self.view_is (omega arith) (omega arith) c.index-list.ensures c.index-taken.ensures in
    none_left c.args.self.now c.args.port (left ∙ drop_all c.index-taken.result.now c.index-list.result.now.items (omega arith))

pub returns-clause-value : goal.returns-clause-value
returns-clause-value c =
    let left = next_at c.self.inside.lists.items c.self.inside.taken.items c.args.port c.index-taken.result.now c.index-list.result.now c.self.view_is (omega arith) (omega arith) c.index-list.ensures c.index-taken.ensures in
    to_z-of_z w64 c.value_at-value.result c.value_at-value.ensures.fits ∙ c.value_at-value.ensures.value
    ∙ sym (ap head_or_zero left ∙ first_left c.index-list.result.now.items c.index-taken.result.now (omega arith))

pub returns-clause-rest : goal.returns-clause-rest
returns-clause-rest c =
    let left = next_at c.self.inside.lists.items c.self.inside.taken.items c.args.port c.index-taken.result.now c.index-list.result.now c.self.view_is (omega arith) (omega arith) c.index-list.ensures c.index-taken.ensures in
    let next : c.index-taken.result.now + 1 ≡ suc c.index-taken.result.now = omega arith in
    left_taken c.self.inside.lists.items c.self.inside.taken.items c.args.port c.index-list.result.now (c.index-taken.result.now + 1) (omega arith) c.index-list.ensures
    ∙ ap (λ inputs. set inputs c.args.port (drop (c.index-taken.result.now + 1) c.index-list.result.now.items)) c.self.view_is
    ∙ ap (set c.args.self.now c.args.port) (ap (λ n. drop n c.index-list.result.now.items) next ∙ sym (rest_left c.index-list.result.now.items c.index-taken.result.now) ∙ sym (ap tail left))
