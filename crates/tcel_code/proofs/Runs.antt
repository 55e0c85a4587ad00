-- That code runs on the machine: from a place and a count on it does what statements mean, with no more ticks than a walk counts.
use Rattle.std.proofs.Common.{pos, ◌≡◌, ℕ, suc, ◌+◌, ◌*◌, ◌<◌, ◌≤◌, Bool, cond, ℤ, List, [], ◌∷◌, ◌++◌, length, get_or, refl, sym, ap, ◌∙◌, subst, arith, append_assoc, append-nil, length-append}
use Rattle.tcel_num.specs.Arithmetic.{holds}
use Rattle.tcel_core.specs.declared.event.EventKind.{EventKind}
use Rattle.tcel_core.specs.Cells.{all_words}
use Rattle.tcel_core.specs.Language.{Expr, Block, Stmt, Act}
use Rattle.tcel_core.specs.Meaning.{exec, exec_act, exec_stmt, value}
use Rattle.tcel_core.specs.Outcome.{Memory, Occurrence, Outcome, event, quiet, then_run}
use Rattle.tcel_core.specs.Promises.{what_of}
use Rattle.tcel_core.specs.Scope.{IsSound}
use Rattle.tcel_core.proofs.Remain.{Remain, take_one, takes, takes-append}
use Rattle.tcel_image.specs.declared.image.Instr.TheVariants.{Branch}
use Rattle.tcel_image.specs.declared.image.Line.{Line}
use Rattle.tcel_code.specs.Code.{at, expr_code, block_code, stmt_code, act_code}
use Rattle.tcel_cost.specs.Expressions.{expr_cycles}
use Rattle.tcel_cost.specs.Walks.{Counts, ActWalks, Then, Passes, Shows}
use Rattle.tcel_code.specs.Counters.{Counters}
use Rattle.tcel_code.proofs.Ahead.{Due}
use Rattle.tcel_code.proofs.Counters.{HaveCounters, StmtHasCounters, ActHasCounters}
use Rattle.tcel_code.proofs.Dues.{AllSuit, suit_split, no_dues, one_due}
use Rattle.tcel_code.proofs.ExprRuns.{Stands, test_runs}
use Rattle.tcel_cost.proofs.RunWalks.{RunWalks, StmtRunWalks}
use Rattle.tcel_code.proofs.Steps.{Setting, AheadAt, ahead_at}

pub quiet_after : (o : Outcome) → then_run o quiet ≡ o
quiet_after o = ap (λ (es : List Occurrence). record { memory = o.memory; events = es }) (append-nil o.events)

module _ (s : Setting) where
  open s use {costs, task, inputs, vars, frame, stack}

  -- when the frame was released
  abbrev pub release : ℕ
  release = frame * task.period

  -- at a place, with these words and others behind them, a frame has run at most so many ticks, and no more than have passed since its release;
  -- its next tick comes at a time or later
  abbrev pub From : ℕ → ℕ → List Due → (p : ℕ) (cells others : List ℤ) (taken : List ℕ) → Type 0
  From most floor dues p cells others taken =
      (ran since : ℕ) → ran ≤ most → release + ran ≤ since → floor ≤ since → AheadAt s ran since p stack (cells ++ others) taken dues

  -- from one place to another a frame does what statements mean, from a count of a walk on: with at most so many ticks run it comes to the walk's end with at most as many run,
  -- and each of its events is made by its count; of the words behind those of the variables, the lowest stay
  pub record Goes (walks : Counts) (outcome : Outcome) (low p q entry floor : ℕ) (cells others : List ℤ) (taken : List ℕ) : Type 0 where
    pub end : ℕ
    pub counts : List ℕ
    -- the words behind those of the variables
    pub left : List ℤ
    pub walk : walks entry end counts
    pub each : length counts ≡ length outcome.events
    pub as_many : length left ≡ length others
    pub kept : (j : ℕ) → j < low → get_or left j (pos 0) ≡ get_or others j (pos 0)
    pub ahead : (dues later : List Due) → AllSuit release floor counts outcome.events dues →
        From end floor later q outcome.memory.cells left (takes outcome.events taken) →
        From entry floor (dues ++ later) p cells others taken

  -- code at a place does so, up to its end
  abbrev pub Runs : Counts → List Line → Outcome → (low p entry floor : ℕ) (cells others : List ℤ) (taken : List ℕ) → Type 0
  Runs walks code outcome low p entry floor cells others taken = Goes walks outcome low p (p + length code) entry floor cells others taken

  -- what statements find: the words of the variables, and inputs that have left what wasn't taken
  pub record InOrder (m : Memory) (taken : List ℕ) : Type 0 where
    pub words : length m.cells ≡ all_words vars
    pub remain : Remain inputs m.inputs taken

  -- code with counters does what statements mean, along a walk of the run's own, wherever it stands and whenever the walk comes to it; the counters of its loops stand behind those of the
  -- loops around it
  abbrev pub Does : (C : Type 0) (walks : Memory → Counts) (code : ℕ → C → List Line) (means : Memory → Outcome) (has : C → (low room : ℕ) → Type 0) → Type 0
  Does C walks code means has =
      (m : Memory) (low p entry floor : ℕ) (counters : C) (others : List ℤ) (taken : List ℕ) → InOrder m taken → has counters low (length others) → Stands task.code p (code p counters) →
      Runs (walks m) (code p counters) (means m) low p entry floor m.cells others taken

  abbrev pub BlockDoes : Block → Type 0
  BlockDoes b = Does Counters (RunWalks b vars costs) (block_code b vars) (exec b vars) (HaveCounters b vars)

  abbrev pub StmtDoes : Stmt → Type 0
  StmtDoes stmt = Does Counters (StmtRunWalks stmt vars costs) (stmt_code stmt vars) (exec_stmt stmt vars) (StmtHasCounters stmt vars)

  abbrev pub ActDoes : Act → Type 0
  ActDoes act = Does ℕ (λ m. ActWalks act vars costs) (act_code act vars) (exec_act act vars) (ActHasCounters act vars)

  -- ---- the same, in other words

  -- fewer words that stay
  abbrev pub goes_lower : {walks : Counts} {o : Outcome} {higher p q entry floor : ℕ} {cells others : List ℤ} {taken : List ℕ} (low : ℕ) →
      Goes walks o higher p q entry floor cells others taken → low ≤ higher → Goes walks o low p q entry floor cells others taken
  goes_lower low r le =
      record { end = r.end; counts = r.counts; left = r.left; walk = r.walk; each = r.each; as_many = r.as_many; kept = λ j h. r.kept j (omega arith); ahead = r.ahead }

  -- a walk that is also one of others
  abbrev pub goes_by : {first : Counts} {o : Outcome} {low p q entry floor : ℕ} {cells others : List ℤ} {taken : List ℕ} (second : Counts) →
      Goes first o low p q entry floor cells others taken → ((from to : ℕ) (es : List ℕ) → first from to es → second from to es) → Goes second o low p q entry floor cells others taken
  goes_by {entry = entry} second r f =
      record { end = r.end; counts = r.counts; left = r.left; walk = f entry r.end r.counts r.walk; each = r.each; as_many = r.as_many; kept = r.kept; ahead = r.ahead }

  -- another place that is the same
  abbrev pub goes_to : {walks : Counts} {o : Outcome} {low p q q' entry floor : ℕ} {cells others : List ℤ} {taken : List ℕ} →
      Goes walks o low p q entry floor cells others taken → q ≡ q' → Goes walks o low p q' entry floor cells others taken
  goes_to {o = o} {floor = floor} {taken = taken} r e = record {
    end = r.end;
    counts = r.counts;
    left = r.left;
    walk = r.walk;
    each = r.each;
    as_many = r.as_many;
    kept = r.kept;
    ahead = λ dues later suit then'. r.ahead dues later suit (subst (λ k. From r.end floor later k o.memory.cells r.left (takes o.events taken)) (sym e) then');
  }

  abbrev pub goes_from : {walks : Counts} {o : Outcome} {low p p' q entry floor : ℕ} {cells others : List ℤ} {taken : List ℕ} →
      Goes walks o low p q entry floor cells others taken → p ≡ p' → Goes walks o low p' q entry floor cells others taken
  goes_from {entry = entry} {floor = floor} {cells = cells} {others = others} {taken = taken} r e = record {
    end = r.end;
    counts = r.counts;
    left = r.left;
    walk = r.walk;
    each = r.each;
    as_many = r.as_many;
    kept = r.kept;
    ahead = λ dues later suit then'. subst (λ k. From entry floor (dues ++ later) k cells others taken) e (r.ahead dues later suit then');
  }

  -- ---- parts

  -- cycles without an event
  abbrev pub pass_goes : (n : ℕ) (m : Memory) (low p q entry floor : ℕ) (cells others left : List ℤ) (taken : List ℕ) → length left ≡ length others → ((j : ℕ) → j < low → get_or left j (pos 0) ≡ get_or others j (pos 0)) →
      ((dues : List Due) (ran since : ℕ) → AheadAt s (ran + n) (since + n) q stack (m.cells ++ left) taken dues → AheadAt s ran since p stack (cells ++ others) taken dues) →
      Goes (Passes n) (quiet m) low p q entry floor cells others taken
  pass_goes n m low p q entry floor cells others left taken long kept passes = record {
    end = entry + n;
    counts = [];
    left = left;
    walk = (refl, refl);
    each = refl;
    as_many = long;
    kept = kept;
    ahead =
        λ dues later suit then' ran since h waited low'.
        subst (λ l. AheadAt s ran since p stack (cells ++ others) taken (l ++ later)) (sym (no_dues release floor [] dues suit))
        (passes later ran since (then' (ran + n) (since + n) (omega arith) (omega arith) (omega arith)));
  }

  -- no cycle at all
  abbrev pub stays_goes : (m : Memory) (low p q entry floor : ℕ) (others : List ℤ) (taken : List ℕ) → p ≡ q → Goes (Passes 0) (quiet m) low p q entry floor m.cells others taken
  stays_goes m low p q entry floor others taken same =
      pass_goes 0 m low p q entry floor m.cells others others taken refl (λ j h. refl)
      (λ dues ran since ahead. ahead_at s taken dues _ _ _ _ _ _ stack (m.cells ++ others) (omega arith) (omega arith) (sym same) ahead)

  -- a test, which goes on behind it where it holds, and else at the target
  abbrev pub test_goes : (test : Expr) → IsSound vars test → (b : Bool) (m : Memory) (low p target entry floor : ℕ) (others : List ℤ) (taken : List ℕ) → length m.cells ≡ all_words vars →
      Stands task.code p (expr_code test vars 0 ++ at 1 (Branch target)) → holds (value test vars m.cells) ≡ b →
      Goes (Passes (expr_cycles costs test + costs.branch)) (quiet m) low p (cond b (p + length (expr_code test vars 0) + 1) target) entry floor m.cells others taken
  test_goes test sound b m low p target entry floor others taken words stands is =
      pass_goes (expr_cycles costs test + costs.branch) m low p (cond b (p + length (expr_code test vars 0) + 1) target) entry floor m.cells others others taken refl (λ j h. refl)
      (λ dues ran since ahead. test_runs s test sound p target ran since m.cells others taken dues words stands b is ahead)

  -- cycles with an event at their end
  abbrev pub show_goes : (n : ℕ) (m : Memory) (kind : EventKind) (port : ℕ) (x : ℤ) (low p q entry floor : ℕ) (cells others : List ℤ) (taken : List ℕ) →
      ((due : Due) (later : List Due) (ran since : ℕ) → due.promise.what ≡ what_of kind port x → due.promise.earliest ≤ suc since → ran + n ≤ due.by →
      AheadAt s (ran + n) (since + n) q stack (m.cells ++ others) (take_one kind port taken) later → AheadAt s ran since p stack (cells ++ others) taken (due ∷ later)) →
      Goes (Shows n) (record { memory = m; events = event kind port x ∷ [] }) low p q entry floor cells others taken
  show_goes n m kind port x low p q entry floor cells others taken shows = record {
    end = entry + n;
    counts = (entry + n) ∷ [];
    left = others;
    walk = (refl, refl);
    each = refl;
    as_many = refl;
    kept = λ j h. refl;
    ahead =
        λ dues later suit then' ran since h waited low'.
        one_due release floor (entry + n) (event kind port x) dues suit (λ ds. AheadAt s ran since p stack (cells ++ others) taken (ds ++ later))
        (λ due is.
        let early = is.early in
        let soon = is.soon in
        shows due later ran since is.shows (omega arith) (omega arith) (then' (ran + n) (since + n) (omega arith) (omega arith) (omega arith)));
  }

  -- ---- one after another

  abbrev pub then_goes : {first second : Counts} {o : Outcome} {low p q r entry floor : ℕ} {cells others : List ℤ} {taken : List ℕ} (more : Memory → Outcome) →
      (one : Goes first o low p q entry floor cells others taken) → Goes second (more o.memory) low q r one.end floor o.memory.cells one.left (takes o.events taken) →
      Goes (Then first second) (then_run o more) low p r entry floor cells others taken
  then_goes {o = o} {p = p} {r = r} {floor = floor} {cells = cells} {others = others} {taken = taken} more one two = record {
    end = two.end;
    counts = one.counts ++ two.counts;
    left = two.left;
    walk = record { middle = one.end; before = one.counts; after = two.counts; one = one.walk; two = two.walk; joined = refl };
    each = length-append one.counts two.counts ∙ omega (arith, one.each, two.each) ∙ sym (length-append o.events (more o.memory).events);
    as_many = two.as_many ∙ one.as_many;
    kept = λ j h. two.kept j h ∙ one.kept j h;
    ahead =
        λ dues later suit then' ran since h waited low'.
        let split = suit_split release floor one.counts two.counts o.events (more o.memory).events dues one.each suit in
        let e = ap (λ l. l ++ later) split.joined ∙ append_assoc split.front split.back later in
        let final = (more o.memory).memory.cells in
        let end_taken = takes-append o.events (more o.memory).events taken in
        subst (λ l. AheadAt s ran since p stack (cells ++ others) taken l) (sym e)
        (one.ahead split.front (split.back ++ later) split.one
        (two.ahead split.back later split.two
        (λ ran' since' h' waited' floor'. subst (λ t. AheadAt s ran' since' r stack (final ++ two.left) t later) end_taken (then' ran' since' h' waited' floor')))
        ran since h waited low');
  }

  -- where the second makes no event
  abbrev pub then_quiet : {first second : Counts} {o : Outcome} {low p q r entry floor : ℕ} {cells others : List ℤ} {taken : List ℕ} →
      (one : Goes first o low p q entry floor cells others taken) → Goes second (quiet o.memory) low q r one.end floor o.memory.cells one.left (takes o.events taken) →
      Goes (Then first second) o low p r entry floor cells others taken
  then_quiet {o = o} {p = p} {r = r} {entry = entry} {floor = floor} {cells = cells} {others = others} {taken = taken} one two =
      let both = then_goes quiet one two in record {
        end = both.end;
        counts = both.counts;
        left = both.left;
        walk = both.walk;
        each = both.each ∙ ap (λ (k : Outcome). length k.events) (quiet_after o);
        as_many = both.as_many;
        kept = both.kept;
        ahead =
            subst
            (λ (k : Outcome). (dues later : List Due) → AllSuit release floor both.counts k.events dues → From both.end floor later r k.memory.cells both.left (takes k.events taken) →
            From entry floor (dues ++ later) p cells others taken)
            (quiet_after o) both.ahead;
      }

  pub then_runs : {first second : Counts} {o : Outcome} {low p entry floor : ℕ} {cells others : List ℤ} {taken : List ℕ} (a b : List Line) (more : Memory → Outcome) →
      (one : Runs first a o low p entry floor cells others taken) → Runs second b (more o.memory) low (p + length a) one.end floor o.memory.cells one.left (takes o.events taken) →
      Runs (Then first second) (a ++ b) (then_run o more) low p entry floor cells others taken
  then_runs {p = p} a b more one two = goes_to (then_goes more one two) (omega (arith, length-append a b))
