-- One line behind others: when nothing is wrong with it.
use Rattle.std.proofs.Common.{◌≡◌, ℕ, ◌-◌, ◌≤◌, refl, sym, ap, ◌∙◌, arith, Option, Some, None}
use Rattle.std.specs.Prelude.{Bool, true, false, not, if◌then◌else◌, nat_lt, IfSome}
use Rattle.std.proofs.lemmas.Bool.{and_from, and_parts, eq-eqb, eqb-true, ltb-false, false_from_ne_true, ltb-true}
use Rattle.std.proofs.lemmas.Bool.Decides.{Decides-int_eq}
use Rattle.tcel_num.specs.Entry.{Entry, What}
use Rattle.tcel_core.specs.Language.{Task}
use Rattle.tcel_core.specs.Meets.{IsInTime, told, promised}
use Rattle.tcel_core.specs.Promises.{Promise}
use Rattle.tcel_trace.specs.declared.trace_line.TraceLine.{TraceLine}
use Rattle.tcel_trace.specs.declared.trace_line.LineWhat.{LineWhat}
use Rattle.tcel_trace.specs.declared.trace_line.LineWhat.TheVariants.{Receive, Send, First, End}
use Rattle.tcel_judge.specs.declared.verdict.Breach.{Breach}
use Rattle.tcel_judge.specs.FirstBreach.{shown_of, shows_same, is_entry, is_over, entry_breach}
use Rattle.tcel_judge.proofs.NamedTasks.{same_equal, same_self}

-- ---- what a line shows

pub shows_self : (what : LineWhat) → shows_same what what ≡ true
shows_self (Receive port value) = and_from _ _ (same_self port) ((Decides-int_eq value value).1 refl)
shows_self (Send port value) = and_from _ _ (same_self port) ((Decides-int_eq value value).1 refl)
shows_self First = refl
shows_self (End state) = same_self state

pub shows_equal : (what other : LineWhat) → shows_same what other ≡ true → what ≡ other
shows_equal (Receive port value) (Receive p v) h =
    let parts = and_parts _ _ h in
    ap (λ t. Receive t value) (same_equal port p parts.0) ∙ ap (Receive p) ((Decides-int_eq value v).0 parts.1)
shows_equal (Send port value) (Send p v) h =
    let parts = and_parts _ _ h in
    ap (λ t. Send t value) (same_equal port p parts.0) ∙ ap (Send p) ((Decides-int_eq value v).0 parts.1)
shows_equal First First h = refl
shows_equal (End state) (End s) h = ap End (same_equal state s h)
shows_equal (Receive port value) (Send p v) h = absurd cc
shows_equal (Receive port value) First h = absurd cc
shows_equal (Receive port value) (End s) h = absurd cc
shows_equal (Send port value) (Receive p v) h = absurd cc
shows_equal (Send port value) First h = absurd cc
shows_equal (Send port value) (End s) h = absurd cc
shows_equal First (Receive p v) h = absurd cc
shows_equal First (Send p v) h = absurd cc
shows_equal First (End s) h = absurd cc
shows_equal (End state) (Receive p v) h = absurd cc
shows_equal (End state) (Send p v) h = absurd cc
shows_equal (End state) First h = absurd cc

-- ---- its window

pub not_over : (latest : Option ℕ) (time : ℕ) → IfSome latest (λ bound. time ≤ bound) → is_over latest time ≡ false
not_over None time h = refl
not_over (Some bound) time h = false_from_ne_true (nat_lt bound time) (λ over. let lt = ltb-true bound time over in omega (arith, h, lt))

pub within : (latest : Option ℕ) (time : ℕ) → is_over latest time ≡ false → IfSome latest (λ bound. time ≤ bound)
within None time h = tt
within (Some bound) time h = let not_lt = ltb-false bound time h in omega (arith, not_lt)

tests_fail : (a b c : Bool) (x y z : Breach) → (if not a then Some x else (if b then Some y else (if c then Some z else None))) ≡ None → (a ≡ true) × (b ≡ false) × (c ≡ false)
tests_fail true false false x y z h = (refl, refl, refl)
tests_fail true false true x y z h = absurd cc
tests_fail true true c x y z h = absurd cc
tests_fail false b c x y z h = absurd cc

tests_pass : (a b c : Bool) (x y z : Breach) → a ≡ true → b ≡ false → c ≡ false → (if not a then Some x else (if b then Some y else (if c then Some z else None))) ≡ None
tests_pass true false false x y z h k l = refl
tests_pass true false true x y z h k l = absurd cc
tests_pass true true c x y z h k l = absurd cc
tests_pass false b c x y z h k l = absurd cc

-- the entry that comes with the line
abbrev pub entry_shown : ℕ → TraceLine → Promise → Entry
entry_shown task line p = record { time = line.time; task = task; frame = p.frame; what = p.what }

abbrev pub line_told : Task → Entry → TraceLine
line_told task entry = record { time = entry.time; task = task.name; frame = entry.frame; what = shown_of task entry.what }

-- nothing is wrong with the line of an entry that comes as it was promised
pub entry_right : (number : ℕ) (task : Task) (e : Entry) (p : Promise) → told e ≡ promised p → IsInTime e p → entry_breach number task (line_told task e) p ≡ None
entry_right number task e p same in_time =
    let frame : e.frame ≡ p.frame = ap (λ (t : ℕ × What). t.0) same in
    let what : e.what ≡ p.what = ap (λ (t : ℕ × What). t.1) same in
    tests_pass (is_entry task (line_told task e) p) (nat_lt e.time p.earliest) (is_over p.latest e.time) _ _ _
    (and_from _ _ (eq-eqb e.frame p.frame frame)
    (ap (λ w. shows_same (shown_of task w) (shown_of task p.what)) what ∙ shows_self (shown_of task p.what)))
    (false_from_ne_true (nat_lt e.time p.earliest) (λ early. let lt = ltb-true e.time p.earliest early in let not_early = in_time.not_early in omega (arith, lt, not_early)))
    (not_over p.latest e.time in_time.not_late)

-- a line with which nothing is wrong is that of such an entry
pub record Comes (task : Task) (i : ℕ) (line : TraceLine) (p : Promise) : Type 0 where
  pub in_time : IsInTime (entry_shown i line p) p
  pub is : task.name ≡ line.task → line ≡ line_told task (entry_shown i line p)

pub entry_comes : (number i : ℕ) (task : Task) (line : TraceLine) (p : Promise) → entry_breach number task line p ≡ None → Comes task i line p
entry_comes number i task line p h =
    let tests = tests_fail (is_entry task line p) (nat_lt line.time p.earliest) (is_over p.latest line.time) _ _ _ h in
    let parts = and_parts _ _ tests.0 in
    let not_early = ltb-false line.time p.earliest tests.1 in
    record {
      in_time = record { not_early = omega (arith, not_early); not_late = within p.latest line.time tests.2 };
      is = λ named. made (eqb-true line.frame p.frame parts.0) (shows_equal line.what (shown_of task p.what) parts.1) named;
    }
  where
    made : line.frame ≡ p.frame → line.what ≡ shown_of task p.what → task.name ≡ line.task → line ≡ line_told task (entry_shown i line p)
    made frame what named =
        ap (λ n. record { time = line.time; task = n; frame = line.frame; what = line.what }) (sym named)
        ∙ ap (λ f. record { time = line.time; task = task.name; frame = f; what = line.what }) frame
        ∙ ap (λ w. record { time = line.time; task = task.name; frame = p.frame; what = w }) what
