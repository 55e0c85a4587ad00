-- Walks have their events in order, and from a later entry there are walks with as many events, each no earlier.
use Rattle.tcel_core.specs.Contents.{hold_of}
use Rattle.std.proofs.Common.{ℕ, zero, suc, ◌+◌, ◌≤◌, List, [], ◌∷◌, ◌++◌, refl, sym, subst, arith, Option, Some, None, inl, inr}
use Rattle.tcel_core.specs.declared.var.Var.{Var}
use Rattle.tcel_core.specs.Language.{Block, done, next, Stmt, item, choice, timed, Act, assign, assign_at, receive, send, for_loop, while_loop, copy}
use Rattle.tcel_target.specs.declared.costs.Costs.{Costs}
use Rattle.tcel_cost.specs.Expressions.{expr_cycles}
use Rattle.tcel_cost.specs.Steady.{AreInOrder, AreLater, Delayed, IsSteady}
use Rattle.tcel_cost.specs.Walks.{Counts, Walks, StmtWalks, ActWalks, Then, Either, Rounds, RoundsUpTo, Passes, Shows, held_entry, jump_cost}

-- counts up to an end
abbrev pub AreUpTo : ℕ → List ℕ → Type 0
AreUpTo end [] = Unit {0}
AreUpTo end (c ∷ cs) = (c ≤ end) × AreUpTo end cs

pub upto_later : (sooner later : ℕ) (cs : List ℕ) → sooner ≤ later → AreUpTo sooner cs → AreUpTo later cs
upto_later sooner later [] h g = tt
upto_later sooner later (c ∷ cs) h g = (let k = g.0 in omega arith, upto_later sooner later cs h g.1)

order_sooner : (cs : List ℕ) (sooner entry end : ℕ) → sooner ≤ entry → AreInOrder cs entry end → AreInOrder cs sooner end
order_sooner [] sooner entry end h g = omega arith
order_sooner (c ∷ cs) sooner entry end h g = (let k = g.0 in omega arith, g.1)

order-append : (a b : List ℕ) (entry middle end : ℕ) → AreInOrder a entry middle → AreInOrder b middle end → AreInOrder (a ++ b) entry end
order-append [] b entry middle end h g = order_sooner b entry middle end h g
order-append (c ∷ a) b entry middle end h g = (h.0, order-append a b c middle end h.1 g)

-- the end is no earlier than the entry
pub order_on : (cs : List ℕ) (entry end : ℕ) → AreInOrder cs entry end → entry ≤ end
order_on [] entry end h = h
order_on (c ∷ cs) entry end h = let rest = order_on cs c end h.1 in let first = h.0 in omega arith

pub order_by_end : (cs : List ℕ) (entry end : ℕ) → AreInOrder cs entry end → AreUpTo end cs
order_by_end [] entry end h = tt
order_by_end (c ∷ cs) entry end h = (order_on cs c end h.1, order_by_end cs c end h.1)

later-append : (a later_a b later_b : List ℕ) → AreLater a later_a → AreLater b later_b → AreLater (a ++ b) (later_a ++ later_b)
later-append [] [] b later_b h g = g
later-append [] (d ∷ ds) b later_b h g = absurd h
later-append (c ∷ cs) [] b later_b h g = absurd h
later-append (c ∷ cs) (d ∷ ds) b later_b h g = (h.0, later-append cs ds b later_b h.1 g)

passes_steady : (cycles : ℕ) → IsSteady (Passes cycles)
passes_steady cycles = record {
  ordered = λ entry end events walk. subst (λ l. AreInOrder l entry end) (sym walk.1) (let e = walk.0 in omega arith);
  delayed =
      λ entry end events walk later h.
      record { to = later + cycles; moved = []; walk = (refl, refl); ends_later = (let e = walk.0 in omega arith); events_later = subst (λ l. AreLater l []) (sym walk.1) tt };
}

shows_steady : (cycles : ℕ) → IsSteady (Shows cycles)
shows_steady cycles = record {
  ordered = λ entry end events walk. subst (λ l. AreInOrder l entry end) (sym walk.1) (let e = walk.0 in omega arith, omega arith);
  delayed =
      λ entry end events walk later h.
      record {
        to = later + cycles;
        moved = (later + cycles) ∷ [];
        walk = (refl, refl);
        ends_later = (let e = walk.0 in omega arith);
        events_later = subst (λ l. AreLater l ((later + cycles) ∷ [])) (sym walk.1) (let e = walk.0 in omega arith, tt);
      };
}

then_steady : (first second : Counts) → IsSteady first → IsSteady second → IsSteady (Then first second)
then_steady first second h g = record {
  ordered =
      λ entry end events walk.
      subst (λ l. AreInOrder l entry end) (sym walk.joined)
      (order-append walk.before walk.after entry walk.middle end (h.ordered entry walk.middle walk.before walk.one) (g.ordered walk.middle end walk.after walk.two));
  delayed =
      λ entry end events walk later le.
      let one = h.delayed entry walk.middle walk.before walk.one later le in
      let two = g.delayed walk.middle end walk.after walk.two one.to one.ends_later in
      record {
        to = two.to;
        moved = one.moved ++ two.moved;
        walk = record { middle = one.to; before = one.moved; after = two.moved; one = one.walk; two = two.walk; joined = refl };
        ends_later = two.ends_later;
        events_later = subst (λ l. AreLater l (one.moved ++ two.moved)) (sym walk.joined) (later-append walk.before one.moved walk.after two.moved one.events_later two.events_later);
      };
}

-- walks that are among others
widened : (walks wider : Counts) (entry end : ℕ) (events : List ℕ) → ((to : ℕ) (es : List ℕ) → walks entry to es → wider entry to es) → Delayed walks entry end events → Delayed wider entry end events
widened walks wider entry end events f d = record { to = d.to; moved = d.moved; walk = f d.to d.moved d.walk; ends_later = d.ends_later; events_later = d.events_later }

either_steady : (first second : Counts) → IsSteady first → IsSteady second → IsSteady (Either first second)
either_steady first second h g = record {
  ordered = λ entry end events walk. elim walk as (λ _. AreInOrder events entry end) [ inl one ↦ h.ordered entry end events one | inr two ↦ g.ordered entry end events two ];
  delayed =
      λ entry end events walk later le.
      elim walk as (λ _. Delayed (Either first second) later end events) [
        | inl one ↦ widened first (Either first second) later end events (λ to es w. inl w) (h.delayed entry end events one later le)
        | inr two ↦ widened second (Either first second) later end events (λ to es w. inr w) (g.delayed entry end events two later le)
      ];
}

rounds_steady : (n : ℕ) (round : Counts) → IsSteady round → IsSteady (Rounds n round)
rounds_steady zero round h = passes_steady 0
rounds_steady (suc n) round h = then_steady round (Rounds n round) h (rounds_steady n round h)

upto_steady : (n : ℕ) (round last : Counts) → IsSteady round → IsSteady last → IsSteady (RoundsUpTo n round last)
upto_steady n round last h g = record {
  ordered =
      λ entry end events walk.
      elim walk as (λ _. AreInOrder events entry end) [
        | inl fewer ↦ (fewer_steady fewer.0).ordered entry end events fewer.2
        | inr all ↦ all_steady.ordered entry end events all
      ];
  delayed =
      λ entry end events walk later le.
      elim walk as (λ _. Delayed (RoundsUpTo n round last) later end events) [
        | inl fewer ↦
            widened (Then (Rounds fewer.0 round) last) (RoundsUpTo n round last) later end events (λ to es w. inl (fewer.0, fewer.1, w)) ((fewer_steady fewer.0).delayed entry end events fewer.2 later le)
        | inr all ↦ widened (Rounds n round) (RoundsUpTo n round last) later end events (λ to es w. inr w) (all_steady.delayed entry end events all later le)
      ];
}
  where
    fewer_steady : (m : ℕ) → IsSteady (Then (Rounds m round) last)
    fewer_steady m = then_steady (Rounds m round) last (rounds_steady m round h) g

    all_steady : IsSteady (Rounds n round)
    all_steady = rounds_steady n round h

pub held_later : (hold : Option ℕ) (entry : ℕ) → entry ≤ held_entry hold entry
held_later None entry = omega arith
held_later (Some bound) entry = omega arith

-- a hold that is entered later ends no earlier
pub held_rises : (hold : Option ℕ) (entry later : ℕ) → entry ≤ later → held_entry hold entry ≤ held_entry hold later
held_rises None entry later h = h
held_rises (Some bound) entry later h = omega arith

abbrev Held : Option ℕ → Counts → Counts
Held hold walks entry = walks (held_entry hold entry)

held_steady : (hold : Option ℕ) (walks : Counts) → IsSteady walks → IsSteady (Held hold walks)
held_steady hold walks h = record {
  ordered = λ entry end events walk. order_sooner events entry (held_entry hold entry) end (held_later hold entry) (h.ordered (held_entry hold entry) end events walk);
  delayed =
      λ entry end events walk later le.
      let d = h.delayed (held_entry hold entry) end events walk (held_entry hold later) (held_rises hold entry later le) in
      record { to = d.to; moved = d.moved; walk = d.walk; ends_later = d.ends_later; events_later = d.events_later };
}

mutual
  pub block_steady : (b : Block) (vars : List Var) (costs : Costs) → IsSteady (Walks b vars costs)
  block_steady done vars costs = passes_steady 0
  block_steady (next s rest) vars costs = then_steady (StmtWalks s vars costs) (Walks rest vars costs) (stmt_steady s vars costs) (block_steady rest vars costs)

  pub stmt_steady : (s : Stmt) (vars : List Var) (costs : Costs) → IsSteady (StmtWalks s vars costs)
  stmt_steady (item id act) vars costs = act_steady act vars costs
  stmt_steady (choice id test held other) vars costs =
      let yes_walks = Then (Walks held vars costs) (Passes (jump_cost costs other)) in
      then_steady (Passes (expr_cycles costs test + costs.branch)) (Either yes_walks (Walks other vars costs)) (passes_steady _)
      (either_steady yes_walks (Walks other vars costs) (then_steady (Walks held vars costs) (Passes (jump_cost costs other)) (block_steady held vars costs) (passes_steady _)) (block_steady other vars costs))
  stmt_steady (timed id window body) vars costs = held_steady (hold_of window body) (Walks body vars costs) (block_steady body vars costs)

  act_steady : (act : Act) (vars : List Var) (costs : Costs) → IsSteady (ActWalks act vars costs)
  act_steady (assign v e) vars costs = passes_steady _
  act_steady (assign_at v i e) vars costs = passes_steady _
  act_steady (receive v port) vars costs = shows_steady _
  act_steady (send e port) vars costs = shows_steady _
  act_steady (for_loop v n body) vars costs =
      let inner = Then (Walks body vars costs) (Passes costs.loop_) in
      let round = Then (Passes (costs.load + costs.store)) inner in
      then_steady (Passes (costs.const_ + costs.store)) (Rounds n round) (passes_steady _)
      (rounds_steady n round (then_steady (Passes (costs.load + costs.store)) inner (passes_steady _) (then_steady (Walks body vars costs) (Passes costs.loop_) (block_steady body vars costs) (passes_steady _))))
  act_steady (while_loop test n body) vars costs =
      let tested = Passes (expr_cycles costs test + costs.branch) in
      let inner = Then (Walks body vars costs) (Passes costs.loop_) in
      let round = Then tested inner in
      then_steady (Passes (costs.const_ + costs.store)) (RoundsUpTo n round tested) (passes_steady _)
      (upto_steady n round tested (then_steady tested inner (passes_steady _) (then_steady (Walks body vars costs) (Passes costs.loop_) (block_steady body vars costs) (passes_steady _))) (passes_steady _))
  act_steady (copy a b) vars costs = passes_steady _
