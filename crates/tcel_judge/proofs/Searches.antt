-- A task on its way, searched from place to place for the first entry that is due.
use Rattle.std.proofs.Common.{◌≡◌, ℕ, ◌+◌, ◌-◌, ◌*◌, ◌/◌, ◌<◌, ◌≤◌, false, true, length, sym, ap, ◌∙◌, subst, arith, Some}
use Rattle.tcel_core.specs.Promises.{Behavior, promises}
use Rattle.tcel_judge.specs.declared.course.Course.{Course}
use Rattle.tcel_judge.specs.declared.course.Coming.{Coming}
use Rattle.tcel_judge.specs.declared.missing.Gap.{Gap}
use Rattle.tcel_judge.specs.Courses.{Stands, judged, place, promised}
use Rattle.tcel_judge.specs.FirstBreach.{promise_at, is_due, due_of}
use Rattle.tcel_judge.specs.Gaps.{Lacks, LacksNone}
use Rattle.tcel_judge.proofs.DueEntries.{NoneSoFar, none_yet, one_more, nothing_due, none_behind, soon_within}

-- what is known of a task that stands before an entry
pub record ComesTo (b : Behavior) (c : Course) (coming : Coming) : Type 0 where
  pub stands : Stands c
  pub same : (judged c).does ≡ b
  pub there : promise_at b (place c) ≡ Some (promised b coming)
  pub number : place c ≡ length (promises b coming.frame) + coming.number
  pub frame : coming.frame ≡ c.frame

pub comes_to : (b : Behavior) (c : Course) (coming : Coming) → Stands c → (judged c).does ≡ b →
    promise_at (judged c).does (place c) ≡ Some (promised (judged c).does coming) → place c ≡ length (promises (judged c).does coming.frame) + coming.number →
    coming.frame ≡ c.frame → ComesTo b c coming
comes_to b c coming stands same there number frame = record {
  stands = stands;
  same = same;
  there = subst (λ d. promise_at d (place c) ≡ Some (promised d coming)) same there;
  number = subst (λ d. place c ≡ length (promises d coming.frame) + coming.number) same number;
  frame = frame;
}

module _ (ticks total count : ℕ) (start : Course) where
  abbrev own : Behavior
  own = (judged start).does

  -- from its start on it has passed no entry that is due
  pub record Searched (c : Course) (coming : Coming) : Type 0 where
    pub at : ComesTo own c coming
    pub behind : place start ≤ place c
    pub passed : NoneSoFar ticks total count own (place start) (place c)

  pub begins : (coming : Coming) → ComesTo own start coming → Searched start coming
  begins coming at = record { at = at; behind = omega arith; passed = none_yet ticks total count own (place start) }

  pub goes_on : (c next : Course) (coming other : Coming) → Searched c coming → is_due ticks total count (promised own coming) ≡ false →
      place next ≡ place c + 1 → ComesTo own next other → Searched next other
  goes_on c next coming other s off further at = record {
    at = at;
    behind = omega (arith, s.behind);
    passed =
        subst (NoneSoFar ticks total count own (place start)) (sym further)
        (one_more ticks total count own (place start) (place c) (promised own coming) s.passed s.at.there off);
  }

  pub finds : (c : Course) (coming : Coming) (gap : Gap) → Searched c coming → is_due ticks total count (promised own coming) ≡ true →
      gap.frame ≡ coming.frame → gap.what ≡ due_of coming.number (promised own coming).what → Lacks ticks total count start gap
  finds c coming gap s on frame what = record {
    at = place c;
    entry = promised own coming;
    misses = record { behind = s.behind; there = s.at.there; due = on; passed = s.passed };
    frame = frame;
    what =
        let number = s.at.number in
        let e : coming.number ≡ place c - length (promises own coming.frame) = omega arith in
        what ∙ ap (λ n. due_of n (promised own coming).what) e;
  }

  module _ (last : ℕ) (is : ticks / own.period ≡ last) (some : 0 < total) (positive : 0 < own.period) (within : count ≤ total * (last + 1)) where
    served_within : count ≤ total * (ticks / own.period + 1)
    served_within = subst (λ n. count ≤ total * (n + 1)) (sym is) within

    pub ends : (c : Course) (coming : Coming) → Searched c coming → last < coming.frame → LacksNone ticks total count start
    ends c coming s late =
        nothing_due ticks total count own (place start) (place c) s.passed
        (none_behind ticks total count own some positive served_within (place c) (promised own coming) s.at.there (omega arith))

    -- so much is left at most
    pub left : (c : Course) (coming : Coming) → Searched c coming → coming.frame ≤ last → place c < length (promises own (last + 1))
    left c coming s soon =
        let near = soon_within ticks total count own some positive served_within (place c) (promised own coming) s.at.there (omega arith) in
        subst (λ n. place c < length (promises own (n + 1))) is near
