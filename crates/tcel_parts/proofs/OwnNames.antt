-- What stands in a typed body names its own variables.
use Rattle.std.proofs.Common.{◌≡◌, ℕ, ◌<◌, Bool, true, ◌||◌, ◌&&◌, ◌==◌, length, refl, sym, ◌∙◌, subst, inl, inr, eqb-true}
use Rattle.std.proofs.lemmas.Bool.{true≢false}
use Rattle.tcel_core.specs.Kept.{is_item}
use Rattle.tcel_core.specs.Kinds.{Slicing, writes_inside, reads_outside, is_state_variable, is_live}
use Rattle.tcel_core.specs.Language.{Block, done, next, Stmt, item, choice, timed, Act, assign, assign_at, receive, send, for_loop, while_loop, copy}
use Rattle.tcel_core.specs.Numbering.{item_numbers}
use Rattle.tcel_core.specs.Paths.{Point, at_item, at_test, points, stmt_points, point_writes}
use Rattle.tcel_core.specs.Typing.{IsTyped, StmtIsTyped, ActIsTyped, Names, int}
use Rattle.tcel_core.specs.Uses.{block_writes, stmt_writes, act_writes}
use Rattle.tcel_parts.specs.Rows.{row, row_behind, stmt_row_behind}
use Rattle.tcel_parts.proofs.Alike.{either, scalar_there, array_there}
use Rattle.tcel_parts.proofs.Distinct.{AreDistinct, one_item}
use Rattle.tcel_parts.proofs.Hits.{and_both}
use Rattle.tcel_parts.proofs.Members.{In, in_left, in_right, in_either}
use Rattle.tcel_parts.proofs.Rows.{any_behind}

-- ---- written variables are the task's own

module _ (names : Names) where
  here : (x v : ℕ) → (x == v) ≡ true → x < length names.vars → v < length names.vars
  here x v e h = subst (λ u. u < length names.vars) (eqb-true x v e) h

  mutual
    block_own : (b : Block) (v : ℕ) → IsTyped names b → block_writes b v ≡ true → v < length names.vars
    block_own done v typed h = absurd (true≢false (sym h))
    block_own (next t rest) v typed h =
        elim (either (stmt_writes t v) (block_writes rest v) h) [
          | inl first ↦ stmt_own t v typed.0 first
          | inr later ↦ block_own rest v typed.1 later
        ]

    stmt_own : (t : Stmt) (v : ℕ) → StmtIsTyped names t → stmt_writes t v ≡ true → v < length names.vars
    stmt_own (item n act) v typed h = act_own act v typed h
    stmt_own (choice n test held other) v typed h =
        elim (either (block_writes held v) (block_writes other v) h) [
          | inl first ↦ block_own held v typed.1 first
          | inr second ↦ block_own other v typed.2 second
        ]
    stmt_own (timed n window body) v typed h = block_own body v typed h

    pub act_own : (act : Act) (v : ℕ) → ActIsTyped names act → act_writes act v ≡ true → v < length names.vars
    act_own (assign x e) v typed h = here x v h (scalar_there names.vars x typed.0 typed.1)
    act_own (assign_at x i e) v typed h = here x v h (array_there names.vars x typed.0)
    act_own (receive x port) v typed h = here x v h (scalar_there names.vars x int typed.0)
    act_own (send e port) v typed h = absurd (true≢false (sym h))
    act_own (for_loop x n body) v typed h =
        elim (either (x == v) (block_writes body v) h) [
          | inl first ↦ here x v first (scalar_there names.vars x int typed.0)
          | inr later ↦ block_own body v typed.1 later
        ]
    act_own (while_loop test n body) v typed h = block_own body v typed.1 h
    act_own (copy from to) v typed h = absurd typed

  -- an item of a typed body is typed
  abbrev PointIsTyped : Point → Type 0
  PointIsTyped (at_item n act) = ActIsTyped names act
  PointIsTyped (at_test n test held other) = Unit {0}

  mutual
    pub point_typed : (b : Block) (p : Point) → IsTyped names b → In (points b) p → PointIsTyped p
    point_typed done p typed h = absurd h
    point_typed (next t rest) p typed h =
        elim (in_either (stmt_points t) (points rest) p h) [
          | inl first ↦ stmt_point_typed t p typed.0 first
          | inr later ↦ point_typed rest p typed.1 later
        ]

    stmt_point_typed : (t : Stmt) (p : Point) → StmtIsTyped names t → In (stmt_points t) p → PointIsTyped p
    stmt_point_typed (item n act) p typed (inl e) = subst PointIsTyped e typed
    stmt_point_typed (item n act) p typed (inr h) = absurd h
    stmt_point_typed (choice n test held other) p typed (inl e) = subst PointIsTyped e tt
    stmt_point_typed (choice n test held other) p typed (inr h) =
        elim (in_either (points held) (points other) p h) [
          | inl first ↦ point_typed held p typed.1 first
          | inr second ↦ point_typed other p typed.2 second
        ]
    stmt_point_typed (timed n window body) p typed h = point_typed body p typed h

-- ---- what is live writes

module _ (here hit stop : Point → Bool) where
  mutual
    -- behind a point there is this point
    pub point_behind : (b : Block) (end : Bool) → row_behind here hit stop b end ≡ true → (p : Point) × In (points b) p × (here p ≡ true)
    point_behind done end h = absurd (true≢false (sym h))
    point_behind (next t rest) end h =
        elim (either (stmt_row_behind here hit stop t (row hit stop rest end)) (row_behind here hit stop rest end) h) [
          | inl first ↦ let r = stmt_point_behind t (row hit stop rest end) first in (r.0, in_left (stmt_points t) (points rest) r.0 r.1, r.2)
          | inr later ↦ let r = point_behind rest end later in (r.0, in_right (stmt_points t) (points rest) r.0 r.1, r.2)
        ]

    stmt_point_behind : (t : Stmt) (end : Bool) → stmt_row_behind here hit stop t end ≡ true → (p : Point) × In (stmt_points t) p × (here p ≡ true)
    stmt_point_behind (item n act) end h = (at_item n act, inl refl, (and_both (here (at_item n act)) end h).0)
    stmt_point_behind (choice n test held other) end h =
        elim (either (here (at_test n test held other) && (row hit stop held end || row hit stop other end)) (row_behind here hit stop held end || row_behind here hit stop other end) h) [
          | inl at ↦ (at_test n test held other, inl refl, (and_both (here (at_test n test held other)) (row hit stop held end || row hit stop other end) at).0)
          | inr inside ↦
              elim (either (row_behind here hit stop held end) (row_behind here hit stop other end) inside) [
                | inl first ↦ let r = point_behind held end first in (r.0, inr (in_left (points held) (points other) r.0 r.1), r.2)
                | inr second ↦ let r = point_behind other end second in (r.0, inr (in_right (points held) (points other) r.0 r.1), r.2)
              ]
        ]
    stmt_point_behind (timed n window body) end h = point_behind body end h

-- an item writes what it is live for
pub live_writes : (s : Slicing) → AreDistinct (item_numbers s.body) → (n v : ℕ) (act : Act) → In (points s.body) (at_item n act) → is_live s n v ≡ true → act_writes act v ≡ true
live_writes s distinct n v act there live =
    let path = (and_both _ _ live).1 in
    let found = sym (any_behind (λ p. is_item n p && writes_inside s v p) (reads_outside s v) (λ p. point_writes p v) s.body (is_state_variable s.vars v)) ∙ path in
    let r = point_behind (λ p. is_item n p && writes_inside s v p) (reads_outside s v) (λ p. point_writes p v) s.body (is_state_variable s.vars v) found in
    by_point r.0 r.1 r.2
  where
    by_point : (p : Point) → In (points s.body) p → (is_item n p && writes_inside s v p) ≡ true → act_writes act v ≡ true
    by_point (at_item k a) h g =
        let both = and_both (k == n) (s.kept k && act_writes a v) g in
        let same : k ≡ n = eqb-true k n both.0 in
        let one : a ≡ act = one_item s.body distinct n a act (subst (λ x. In (points s.body) (at_item x a)) same h) there in
        subst (λ x. act_writes x v ≡ true) one (and_both (s.kept k) (act_writes a v) both.1).1
    by_point (at_test k test held other) h g = absurd (true≢false (sym g))
