-- A line of a valid image can run, and leads to a line that can.
use Rattle.std.proofs.Common.{◌≡◌, ℕ, zero, suc, ◌+◌, ◌-◌, ◌*◌, ◌^◌, ◌<◌, ◌≤◌, ℤ, pos, Bool, true, false, not, cond, ◌&&◌, ◌||◌, ◌==◌, ltb, leb, int_lt, List, [], ◌∷◌, length, get_or, set, Option, Some, None, refl, ap, sym, ◌∙◌, subst, arith, length-append, length-take}
use Rattle.std.specs.List.{list_any, slice_get}
use Rattle.std.specs.Option.{option_map_or}
use Rattle.std.proofs.lemmas.List.{length-replicate}
use Rattle.std.proofs.Math.ListN.{length-set}
use Rattle.std.proofs.lemmas.Bool.{or_parts, ltb-false, leb-false, eqb-true, not-false}
use Rattle.std.proofs.lemmas.Bool.Decides.{nat_tests}
use Rattle.std.proofs.lemmas.Option.{none-some, same_Some}
use Rattle.tcel_num.specs.declared.op.Op.{Op}
use Rattle.tcel_num.specs.Arithmetic.{is_unary, holds}
use Rattle.tcel_num.proofs.Words.{length-with_element, length-copied}
use Rattle.tcel_image.specs.declared.flaw.FlawKind.TheVariants.{JumpOut, BadCell, BadPort, BadDepth, FallsOff}
use Rattle.tcel_image.specs.declared.image.ImageTask.{ImageTask}
use Rattle.tcel_image.specs.declared.image.Instr.{Instr}
use Rattle.tcel_image.specs.declared.image.Instr.TheVariants.{Const, Get, Put, GetAt, PutAt, Arith, Jump, Branch, Loop, Receive, Send, Hold, Copy, Mark, End}
use Rattle.tcel_image.specs.declared.image.Line.{Line}
use Rattle.tcel_image.specs.Instructions.{pops, pushes, next_places}
use Rattle.tcel_image.specs.Machine.{Running, top, below, applied, counted, effect}
use Rattle.tcel_image.specs.Validity.{jumps_out, has_bad_cell, has_bad_port, has_other_depth, is_end, falls_off, goes_on}
use Rattle.tcel_machine.specs.Task.{CanRun}
use Rattle.tcel_machine.specs.Runs.{IsTaskValid, HasShape, HasCounts}

-- a line without flaws, fact by fact
pub record IsFine (task : ImageTask) (place depth : ℕ) (instr : Instr) : Type 0 where
  pub jump : jumps_out task instr ≡ false
  pub cell : has_bad_cell task instr ≡ false
  pub port : has_bad_port task instr ≡ false
  pub enough : pops instr ≤ depth
  pub room : depth - pops instr + pushes instr ≤ 128
  pub next : list_any (has_other_depth task (depth - pops instr + pushes instr)) (next_places place instr) ≡ false
  pub end : (is_end instr && not (depth == 0)) ≡ false
  pub falls : falls_off task place instr ≡ false

or_right : (a b c : Bool) → ((a || b) && c) ≡ false → (b && c) ≡ false
or_right true b true e = cc
or_right true true false e = refl
or_right true false c e = refl
or_right false b c e = e

pub fine : (task : ImageTask) → IsTaskValid task → (place : ℕ) (line : Line) → slice_get task.code place ≡ Some line → IsFine task place line.depth line.instr
fine task valid place line at =
    let lines = valid.lines place line at in
    let depth = or_parts _ _ (lines BadDepth) in
    let nexts = or_parts _ _ depth.0 in
    let both = or_parts _ _ nexts.0 in
    record {
      jump = lines JumpOut;
      cell = lines BadCell;
      port = lines BadPort;
      enough = ltb-false _ _ both.0;
      room = ltb-false _ _ both.1;
      next = nexts.1;
      end = or_right (place == 0) (is_end line.instr) (not (line.depth == 0)) depth.1;
      falls = lines FallsOff;
    }

one_range : (cells from size : ℕ) → (ltb cells (from + size) || false) ≡ false → from + size ≤ cells
one_range cells from size e = ltb-false _ _ (or_parts _ _ e).0

two_ranges : (cells from to size : ℕ) → (ltb cells (from + size) || (ltb cells (to + size) || false)) ≡ false → (from + size ≤ cells) × (to + size ≤ cells)
two_ranges cells from to size e = (ltb-false _ _ (or_parts _ _ e).0, ltb-false _ _ (or_parts _ _ (or_parts _ _ e).1).0)

pub can_run : (task : ImageTask) (place depth : ℕ) (instr : Instr) (r : Running) → IsFine task place depth instr → length r.stack ≡ depth → depth ≤ 128
    → length r.cells ≡ task.cells → length r.taken ≡ length task.inputs → ((port : ℕ) → get_or r.taken port 0 < 2 ^ 63) → CanRun instr r
can_run task place depth (Const value) r f d m c t g = omega (arith, f.room)
can_run task place depth (Get cell) r f d m c t g = (omega (arith, f.room), omega (arith, one_range task.cells cell 1 f.cell))
can_run task place depth (Put cell) r f d m c t g = ((omega (arith, f.enough), omega arith), omega (arith, one_range task.cells cell 1 f.cell))
can_run task place depth (GetAt from size) r f d m c t g = ((omega (arith, f.enough), omega arith), omega (arith, one_range task.cells from size f.cell))
can_run task place depth (PutAt from size) r f d m c t g = ((omega (arith, f.enough), omega arith), omega (arith, one_range task.cells from size f.cell))
can_run task place depth (Arith op) r f d m c t g = (subst (λ n. cond (is_unary op) 1 2 ≤ n) (sym d) f.enough, omega arith)
can_run task place depth (Jump target) r f d m c t g = tt
can_run task place depth (Branch target) r f d m c t g = (omega (arith, f.enough), omega arith)
can_run task place depth (Loop cell turns target) r f d m c t g = omega (arith, one_range task.cells cell 1 f.cell)
can_run task place depth (Receive port cell) r f d m c t g = (omega (arith, one_range task.cells cell 1 f.cell), omega (arith, leb-false _ _ f.port), g port)
can_run task place depth (Send port) r f d m c t g = (omega (arith, f.enough), omega arith)
can_run task place depth (Hold bound) r f d m c t g = tt
can_run task place depth (Copy from to size) r f d m c t g =
    let both = two_ranges task.cells from to size f.cell in (omega (arith, both.0), omega (arith, both.1))
can_run task place depth Mark r f d m c t g = tt
can_run task place depth End r f d m c t g = tt

-- ---- where it leads

-- a place of the code at this depth
pub record IsAt (task : ImageTask) (depth place : ℕ) : Type 0 where
  pub within : place < length task.code
  pub low : depth ≤ 128
  pub deep : (line : Line) → slice_get task.code place ≡ Some line → line.depth ≡ depth

true_from_not : (b : Bool) → not b ≡ false → b ≡ true
true_from_not b e = not-false b e

deep_as : (found : Option Line) (depth : ℕ) → option_map_or (λ (line : Line). not (line.depth == depth)) found false ≡ false
    → (line : Line) → found ≡ Some line → line.depth ≡ depth
deep_as None depth e line is = absurd (none-some line is)
deep_as (Some other) depth e line is =
    ap (λ (l : Line). l.depth) (sym (same_Some other line is)) ∙ eqb-true _ _ (true_from_not (other.depth == depth) e)

at : (task : ImageTask) (depth place : ℕ) → place < length task.code → depth ≤ 128 → has_other_depth task depth place ≡ false → IsAt task depth place
at task depth place h low e = record { within = h; low = low; deep = deep_as (slice_get task.code place) depth e }

one_place : (task : ImageTask) (depth place : ℕ) → place < length task.code → depth ≤ 128 → (has_other_depth task depth place || false) ≡ false → IsAt task depth place
one_place task depth place h low e = at task depth place h low (or_parts _ _ e).0

-- a line that goes on is not the last
not_last : (task : ImageTask) (place : ℕ) (goes : Bool) → place < length task.code → goes ≡ true → ((place + 1 == length task.code) && goes) ≡ false → place + 1 < length task.code
not_last task place goes h g e = grind (arith, nat_tests)

length-below : (stack : List ℤ) → length (below stack) ≡ length stack - 1
length-below [] = refl
length-below (value ∷ stack) = omega arith

-- the cells, the inputs' counts and the depth after an instruction
pub record LeadsTo (task : ImageTask) (r : Running) : Type 0 where
  pub cells : length r.cells ≡ task.cells
  pub taken : length r.taken ≡ length task.inputs
  pub at : IsAt task (length r.stack) r.place

pub has_shape : (task : ImageTask) (r : Running) → LeadsTo task r → HasShape task r
has_shape task r l = record { place = l.at.within; low = l.at.low; depth = λ line is. sym (l.at.deep line is); cells = l.cells; taken = l.taken }

length-applied : (op : Op) (stack : List ℤ) → cond (is_unary op) 1 2 ≤ length stack → length (applied op stack) ≡ length stack - cond (is_unary op) 1 2 + 1
length-applied op stack h =
    let both : (b : Bool) (x y : ℤ) → cond b 1 2 ≤ length stack → length (cond b (x ∷ below stack) (y ∷ below (below stack))) ≡ length stack - cond b 1 2 + 1 =
    λ b x y. elim b as (λ u. cond u 1 2 ≤ length stack → length (cond u (x ∷ below stack) (y ∷ below (below stack))) ≡ length stack - cond u 1 2 + 1)
    [ true ↦ λ k. omega (arith, length-below stack) | false ↦ λ k. omega (arith, length-below stack, length-below (below stack)) ] in
    both (is_unary op) _ _ h

either : (task : ImageTask) (depth a b : ℕ) (test : Bool) → IsAt task depth a → IsAt task depth b → IsAt task depth (cond test a b)
either task depth a b true x y = x
either task depth a b false x y = y

as_deep : (task : ImageTask) (depth n place : ℕ) → depth ≡ n → IsAt task depth place → IsAt task n place
as_deep task depth n place e a = subst (λ k. IsAt task k place) e a

straight : (task : ImageTask) (place depth n : ℕ) (instr : Instr) → IsFine task place depth instr → place < length task.code → goes_on instr ≡ true
    → list_any (has_other_depth task (depth - pops instr + pushes instr)) (next_places place instr) ≡ (has_other_depth task (depth - pops instr + pushes instr) (place + 1) || false)
    → depth - pops instr + pushes instr ≡ n → IsAt task n (place + 1)
straight task place depth n instr f h g e eq =
    as_deep task (depth - pops instr + pushes instr) n (place + 1) eq
    (one_place task (depth - pops instr + pushes instr) (place + 1) (not_last task place (goes_on instr) h g f.falls) f.room (sym e ∙ f.next))

jumped : (task : ImageTask) (depth target : ℕ) → depth ≤ 128 → (leb (length task.code) target || false) ≡ false → has_other_depth task depth target ≡ false → IsAt task depth target
jumped task depth target low j e = at task depth target (leb-false _ _ (or_parts _ _ j).0) low e

-- a turn or a branch leads to its target or goes on
parted : (task : ImageTask) (place depth n target : ℕ) (instr : Instr) (test : Bool) → IsFine task place depth instr → place < length task.code
    → goes_on instr ≡ true → (leb (length task.code) target || false) ≡ false
    → (has_other_depth task (depth - pops instr + pushes instr) target || (has_other_depth task (depth - pops instr + pushes instr) (place + 1) || false)) ≡ false
    → depth - pops instr + pushes instr ≡ n → IsAt task n target × IsAt task n (place + 1)
parted task place depth n target instr test f h g j e eq =
    let d = depth - pops instr + pushes instr in
    let parts = or_parts (has_other_depth task d target) (has_other_depth task d (place + 1) || false) e in (
      as_deep task d n target eq (jumped task d target f.room j parts.0),
      as_deep task d n (place + 1) eq (one_place task d (place + 1) (not_last task place (goes_on instr) h g f.falls) f.room parts.1),
    )

no_depth : (depth : ℕ) → not (depth == 0) ≡ false → depth ≡ 0
no_depth depth e = eqb-true _ _ (true_from_not (depth == 0) e)

pub leads : (task : ImageTask) (words : ℕ) (inputs : List (List ℤ)) (depth : ℕ) (instr : Instr) (r : Running) → IsFine task r.place depth instr → r.place < length task.code
    → IsAt task 0 0 → words ≤ length r.cells → length r.stack ≡ depth → length r.cells ≡ task.cells → length r.taken ≡ length task.inputs
    → LeadsTo task (effect words inputs instr r).task
leads task words inputs depth (Const value) r f h z w d c t =
    record { cells = c; taken = t; at = straight task r.place depth _ (Const value) f h refl refl (omega arith) }
leads task words inputs depth (Get cell) r f h z w d c t =
    record { cells = c; taken = t; at = straight task r.place depth _ (Get cell) f h refl refl (omega arith) }
leads task words inputs depth (Put cell) r f h z w d c t =
    record { cells = length-set r.cells cell _ ∙ c; taken = t; at = straight task r.place depth _ (Put cell) f h refl refl (omega (arith, length-below r.stack)) }
leads task words inputs depth (GetAt from size) r f h z w d c t =
    record { cells = c; taken = t; at = straight task r.place depth _ (GetAt from size) f h refl refl (omega (arith, length-below r.stack)) }
leads task words inputs depth (PutAt from size) r f h z w d c t =
    record {
      cells = length-with_element r.cells from size _ _ ∙ c;
      taken = t;
      at = straight task r.place depth _ (PutAt from size) f h refl refl (omega (arith, length-below r.stack, length-below (below r.stack)));
    }
leads task words inputs depth (Arith op) r f h z w d c t =
    let enough : cond (is_unary op) 1 2 ≤ length r.stack = subst (λ n. cond (is_unary op) 1 2 ≤ n) (sym d) f.enough in
    record {
      cells = c;
      taken = t;
      at = straight task r.place depth _ (Arith op) f h refl refl (ap (λ n. n - cond (is_unary op) 1 2 + 1) (sym d) ∙ sym (length-applied op r.stack enough));
    }
leads task words inputs depth (Jump target) r f h z w d c t =
    record { cells = c; taken = t; at = as_deep task (depth - 0 + 0) _ target (omega arith) (jumped task (depth - 0 + 0) target f.room f.jump (or_parts _ _ f.next).0) }
leads task words inputs depth (Branch target) r f h z w d c t =
    let test = holds (top r.stack) in
    let both = parted task r.place depth (length (below r.stack)) target (Branch target) test f h refl f.jump f.next (omega (arith, length-below r.stack)) in
    record { cells = c; taken = t; at = either task _ (r.place + 1) target test both.1 both.0 }
leads task words inputs depth (Loop cell turns target) r f h z w d c t =
    let test = int_lt (counted r.cells cell) (pos turns) in
    let both = parted task r.place depth (length r.stack) target (Loop cell turns target) test f h refl f.jump f.next (omega arith) in
    record { cells = length-set r.cells cell _ ∙ c; taken = t; at = either task _ target (r.place + 1) test both.0 both.1 }
leads task words inputs depth (Receive port cell) r f h z w d c t =
    record {
      cells = length-set r.cells cell _ ∙ c;
      taken = length-set r.taken port _ ∙ t;
      at = straight task r.place depth _ (Receive port cell) f h refl refl (omega arith);
    }
leads task words inputs depth (Send port) r f h z w d c t =
    record { cells = c; taken = t; at = straight task r.place depth _ (Send port) f h refl refl (omega (arith, length-below r.stack)) }
leads task words inputs depth (Hold bound) r f h z w d c t =
    record { cells = c; taken = t; at = straight task r.place depth _ (Hold bound) f h refl refl (omega arith) }
leads task words inputs depth (Copy from to size) r f h z w d c t =
    let both = two_ranges task.cells from to size f.cell in
    record {
      cells = length-copied r.cells from to size (omega (arith, both.0)) (omega (arith, both.1)) ∙ c;
      taken = t;
      at = straight task r.place depth _ (Copy from to size) f h refl refl (omega arith);
    }
leads task words inputs depth Mark r f h z w d c t =
    record { cells = c; taken = t; at = straight task r.place depth _ Mark f h refl refl (omega arith) }
leads task words inputs depth End r f h z w d c t =
    record {
      cells = simp (length-append, length-take, length-replicate) (omega arith);
      taken = t;
      at = as_deep task 0 _ 0 (omega (arith, no_depth depth f.end)) z;
    }

pub start_at : (task : ImageTask) → IsTaskValid task → 0 < length task.code → IsAt task 0 0
start_at task valid h =
    record { within = h; low = omega arith; deep = λ line is. no_depth line.depth (or_parts _ _ (valid.lines 0 line is BadDepth)).1 }

-- ---- counts

set_bound : (xs : List ℕ) (i v n : ℕ) → v ≤ n → ((p : ℕ) → get_or xs p 0 ≤ n) → (p : ℕ) → get_or (set xs i v) p 0 ≤ n
set_bound [] i v n b h p = h p
set_bound (x ∷ xs) zero v n b h zero = b
set_bound (x ∷ xs) zero v n b h (suc p) = h (suc p)
set_bound (x ∷ xs) (suc i) v n b h zero = h 0
set_bound (x ∷ xs) (suc i) v n b h (suc p) = set_bound xs i v n b (λ q. h (suc q)) p

pub counts : (task : ImageTask) (now words : ℕ) (inputs : List (List ℤ)) (instr : Instr) (r : Running) → HasCounts task now r → r.ended * task.period ≤ now
    → HasCounts task (now + 1) (effect words inputs instr r).task
counts task now words inputs (Receive port cell) r h ready =
    record {
      spent = omega arith;
      reach = omega arith;
      given = set_bound r.taken port (get_or r.taken port 0 + 1) (now + 1) (omega (arith, h.given port)) (λ p. omega (arith, h.given p));
    }
counts task now words inputs End r h ready = record { spent = omega arith; reach = omega arith; given = λ p. omega (arith, h.given p) }
counts task now words inputs _ r h ready = record { spent = omega arith; reach = omega arith; given = λ p. omega (arith, h.given p) }
