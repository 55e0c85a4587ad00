-- A walk from the end through the steps of a body finds what a recursion over the body's statements does.
use Rattle.std.proofs.Common.{◌≡◌, ℕ, Bool, suc, ◌-◌, ◌<◌, ◌≤◌, List, [], ◌∷◌, ◌++◌, length, get_or, take, refl, sym, ap, ◌∙◌, subst, arith}
use Rattle.std.proofs.Math.Seq.{take-suc, take-length}
use Rattle.tcel_core.specs.Language.{Expr, Block, done, next, Stmt, item, choice, timed, Act}
use Rattle.tcel_core.specs.declared.row.Row.{Row}
use Rattle.tcel_flow.specs.declared.step.Step.{Step}
use Rattle.tcel_flow.specs.declared.step.Step.TheVariants as steps
use Rattle.tcel_flow.specs.Backward.{Pass, Frame, in_second, in_first, back, from_end, run, IsStart, Goes, Passes}
use Rattle.tcel_flow.specs.Shape.{Place, at_item, opens, changes, closes, places, stmt_places, IsStep, AreSteps}

pub back-append : (xs ys rest : List Step) → back (xs ++ ys) rest ≡ back ys (back xs rest)
back-append [] ys rest = refl
back-append (x ∷ xs) ys rest = back-append xs ys (x ∷ rest)

-- the last of these many steps, and those before it
pub from_end_last : (xs : List Step) (n : ℕ) (x d : Step) → 0 < n → n ≤ length xs → get_or xs (n - 1) d ≡ x → from_end xs n ≡ x ∷ from_end xs (n - 1)
from_end_last xs n x d some most is =
    ap (λ k. back (take k xs) []) one_more
    ∙ (ap (λ l. back l []) (take-suc xs (n - 1) d (omega arith) ∙ ap (λ y. take (n - 1) xs ++ y ∷ []) is) ∙ back-append (take (n - 1) xs) (x ∷ []) [])
  where
    one_more : n ≡ suc (n - 1)
    one_more = omega arith

pub from_end_all : (xs : List Step) → from_end xs (length xs) ≡ back xs []
from_end_all xs = ap (λ l. back l []) (take-length xs)

-- ---- steps in two pieces

pub record Two (ss : List Step) (ps qs : List Place) : Type 0 where
  pub front : List Step
  pub rest : List Step
  pub whole : ss ≡ front ++ rest
  pub first : AreSteps front ps
  pub second : AreSteps rest qs

pub two : (ss : List Step) (ps qs : List Place) → AreSteps ss (ps ++ qs) → Two ss ps qs
two ss [] qs h = record { front = []; rest = ss; whole = refl; first = tt; second = h }
two [] (p ∷ ps) qs h = absurd h
two (s ∷ ss) (p ∷ ps) qs h =
    let r = two ss ps qs h.1 in
    record { front = s ∷ r.front; rest = r.rest; whole = ap (λ l. s ∷ l) r.whole; first = (h.0, r.first); second = r.second }

-- ---- a recursion over statements

pub record Rules (T : Type 0) : Type 0 where
  pub item : ℕ → Act → T → T
  pub enter : T → T
  pub again : T → T → T
  pub join : ℕ → Expr → T → T → T → T

abbrev mutual
  pub over : {T : Type 0} → Rules T → Block → T → T
  over q done t = t
  over q (next s rest) t = over_stmt q s (over q rest t)

  pub over_stmt : {T : Type 0} → Rules T → Stmt → T → T
  over_stmt q (item id act) t = q.item id act t
  over_stmt q (choice id test held other) t =
      let second = over q other (q.enter t) in
      q.join id test t second (over q held (q.again t second))
  over_stmt q (timed id window body) t = over q body t

-- a walk and a recursion know the same
pub record AreSame {S T : Type 0} (p : Pass S) (q : Rules T) (R : S → T → Type 0) : Type 0 where
  pub item : (x : Step) (n : ℕ) (act : Act) (s : S) (t : T) → IsStep x (at_item n act) → R s t → R (p.item x s) (q.item n act t)
  pub enter : (s : S) (t : T) → R s t → R (p.enter s) (q.enter t)
  pub again : (a b : S) (c d : T) → R a c → R b d → R (p.again a b) (q.again c d)
  pub join : (x : Step) (n : ℕ) (test : Expr) (a b c : S) (d e f : T) → IsStep x (opens n test) → R a d → R b e → R c f → R (p.join x a b c) (q.join n test d e f)

module _ {S T : Type 0} (p : Pass S) (q : Rules T) (R : S → T → Type 0) (rules : AreSame p q R) where
  -- through the steps of statements
  pub record Walked (ss : List Step) (s : S) (t : T) : Type 0 where
    pub known : S
    pub related : R known t
    pub runs : (k : List (Frame S)) (rest : List Step) → run p k (back ss rest) s ≡ run p k rest known

  mutual
    pub walked : (b : Block) (ss : List Step) (s : S) (t : T) → AreSteps ss (places b) → R s t → Walked ss s (over q b t)
    walked done [] s t h r = record { known = s; related = r; runs = λ k rest. refl }
    walked done (x ∷ ss) s t h r = absurd h
    walked (next st b) ss s t h r =
        let pieces = two ss (stmt_places st) (places b) h in
        let later = walked b pieces.rest s t pieces.second r in
        let first = stmt_walked st pieces.front later.known (over q b t) pieces.first later.related in
        record {
          known = first.known;
          related = first.related;
          runs = λ k rest.
              ap (λ l. run p k (back l rest) s) pieces.whole
              ∙ (ap (λ l. run p k l s) (back-append pieces.front pieces.rest rest) ∙ (later.runs k (back pieces.front rest) ∙ first.runs k rest));
        }

    stmt_walked : (st : Stmt) (ss : List Step) (s : S) (t : T) → AreSteps ss (stmt_places st) → R s t → Walked ss s (over_stmt q st t)
    stmt_walked (item n act) [] s t h r = absurd h
    stmt_walked (item n act) (x ∷ y ∷ ss) s t h r = absurd h.1
    stmt_walked (item n act) (steps.Item id reads writes event ∷ []) s t h r =
        record {
          known = p.item (steps.Item id reads writes event) s;
          related = rules.item (steps.Item id reads writes event) n act s t h.0 r;
          runs = λ k rest. refl;
        }
    stmt_walked (item n act) (steps.Open id reads ∷ []) s t h r = absurd h.0
    stmt_walked (item n act) (steps.Middle ∷ []) s t h r = absurd h.0
    stmt_walked (item n act) (steps.Close ∷ []) s t h r = absurd h.0
    stmt_walked (timed n window b) ss s t h r = walked b ss s t h r
    stmt_walked (choice n test held other) [] s t h r = absurd h
    stmt_walked (choice n test held other) (steps.Item id reads writes event ∷ ss) s t h r = absurd h.0
    stmt_walked (choice n test held other) (steps.Middle ∷ ss) s t h r = absurd h.0
    stmt_walked (choice n test held other) (steps.Close ∷ ss) s t h r = absurd h.0
    stmt_walked (choice n test held other) (steps.Open id reads ∷ ss) s t h r =
        let pieces = two ss (places held) (changes ∷ (places other ++ (closes ∷ []))) h.1 in
        let behind = two pieces.rest (changes ∷ []) (places other ++ (closes ∷ [])) pieces.second in
        let last = two behind.rest (places other) (closes ∷ []) behind.second in
        let second = walked other last.front (p.enter s) (q.enter t) last.first (rules.enter s t r) in
        let first = walked held pieces.front (p.again s second.known) (q.again t (over q other (q.enter t))) pieces.first (rules.again s second.known t (over q other (q.enter t)) r second.related) in
        record {
          known = p.join (steps.Open id reads) s second.known first.known;
          related = rules.join (steps.Open id reads) n test s second.known first.known t (over q other (q.enter t)) (over q held (q.again t (over q other (q.enter t)))) h.0 r second.related first.related;
          runs = λ k rest.
              let x = steps.Open id reads in
              let all : back (x ∷ ss) rest ≡ back last.rest (back last.front (back behind.front (back pieces.front (x ∷ rest)))) =
              ap (λ l. back l (x ∷ rest)) pieces.whole
              ∙ (back-append pieces.front pieces.rest (x ∷ rest)
              ∙ (ap (λ l. back l (back pieces.front (x ∷ rest))) behind.whole
              ∙ (back-append behind.front behind.rest (back pieces.front (x ∷ rest))
              ∙ (ap (λ l. back l (back behind.front (back pieces.front (x ∷ rest)))) last.whole
              ∙ back-append last.front last.rest (back behind.front (back pieces.front (x ∷ rest)))))))
              in ap (λ l. run p k l s) all
              ∙ (ends last.rest last.second k (back last.front (back behind.front (back pieces.front (x ∷ rest)))) s
              ∙ (second.runs (in_second s ∷ k) (back behind.front (back pieces.front (x ∷ rest)))
              ∙ (middle behind.front behind.first k (back pieces.front (x ∷ rest)) s second.known
              ∙ first.runs (in_first s second.known ∷ k) (x ∷ rest))));
        }
      where
        ends : (xs : List Step) → AreSteps xs (closes ∷ []) → (k : List (Frame S)) (rest : List Step) (a : S) → run p k (back xs rest) a ≡ run p (in_second a ∷ k) rest (p.enter a)
        ends [] g k rest a = absurd g
        ends (x ∷ y ∷ xs) g k rest a = absurd g.1
        ends (steps.Close ∷ []) g k rest a = refl
        ends (steps.Item i u w e ∷ []) g k rest a = absurd g.0
        ends (steps.Open i u ∷ []) g k rest a = absurd g.0
        ends (steps.Middle ∷ []) g k rest a = absurd g.0

        middle : (xs : List Step) → AreSteps xs (changes ∷ []) → (k : List (Frame S)) (rest : List Step) (a b : S) → run p (in_second a ∷ k) (back xs rest) b ≡ run p (in_first a b ∷ k) rest (p.again a b)
        middle [] g k rest a b = absurd g
        middle (x ∷ y ∷ xs) g k rest a b = absurd g.1
        middle (steps.Middle ∷ []) g k rest a b = refl
        middle (steps.Item i u w e ∷ []) g k rest a b = absurd g.0
        middle (steps.Open i u ∷ []) g k rest a b = absurd g.0
        middle (steps.Close ∷ []) g k rest a b = absurd g.0

-- ---- what the code's walk does at each step

module _ {S : Type 0} (p : Pass S) where
  -- where a branch begins the walk stops, or goes on in the other branch, or before the `if`
  pub stops : (xs : List Step) (s : S) → IsStart xs → run p [] xs s ≡ s
  stops [] s h = refl
  stops (steps.Item id reads writes event ∷ xs) s h = absurd h
  stops (steps.Close ∷ xs) s h = absurd h
  stops (steps.Middle ∷ xs) s h = refl
  stops (steps.Open id reads ∷ xs) s h = refl

  to_first : (k : List (Frame S)) (x : Step) (xs : List Step) (a b : S) → IsStart (x ∷ xs) → run p (in_second a ∷ k) (x ∷ xs) b ≡ run p (in_first a b ∷ k) xs (p.again a b)
  to_first k (steps.Item id reads writes event) xs a b h = absurd h
  to_first k steps.Close xs a b h = absurd h
  to_first k steps.Middle xs a b h = refl
  to_first k (steps.Open id reads) xs a b h = refl

  to_test : (k : List (Frame S)) (x : Step) (xs : List Step) (a b c : S) → IsStart (x ∷ xs) → run p (in_first a b ∷ k) (x ∷ xs) c ≡ run p k xs (p.join x a b c)
  to_test k (steps.Item id reads writes event) xs a b c h = absurd h
  to_test k steps.Close xs a b c h = absurd h
  to_test k steps.Middle xs a b c h = refl
  to_test k (steps.Open id reads) xs a b c h = refl

  module _ (xs : List Step) where
    pub starts : (n : ℕ) (x d : Step) → 0 < n → n ≤ length xs → get_or xs (n - 1) d ≡ x → IsStart (x ∷ from_end xs (n - 1)) → IsStart (from_end xs n)
    starts n x d some most is h = subst IsStart (sym (from_end_last xs n x d some most is)) h

    pub past_item : (c n id : ℕ) (reads writes : Row) (event : Bool) (d : Step) (s t u : S) → 0 < n → n ≤ length xs →
        get_or xs (n - 1) d ≡ steps.Item id reads writes event → u ≡ p.item (get_or xs (n - 1) d) t →
        Goes p (from_end xs c) (from_end xs n) s t → Goes p (from_end xs c) (from_end xs (n - 1)) s u
    past_item c n id reads writes event d s t u some most is result g =
        let x = steps.Item id reads writes event in
        let known : p.item x t ≡ u = ap (λ y. p.item y t) (sym is) ∙ sym result in
        record {
          same = λ k.
              g.same k ∙ (ap (λ l. run p k l t) (from_end_last xs n x d some most is) ∙ ap (run p k (from_end xs (n - 1))) known);
        }

    pub past_choice : (c n m : ℕ) (d : Step) (s t u : S) → 0 < n → n ≤ length xs → get_or xs (n - 1) d ≡ steps.Close →
        Goes p (from_end xs c) (from_end xs n) s t → Passes p (from_end xs (n - 1)) (from_end xs m) t u → Goes p (from_end xs c) (from_end xs m) s u
    past_choice c n m d s t u some most is g h =
        record { same = λ k. g.same k ∙ (ap (λ l. run p k l t) (from_end_last xs n steps.Close d some most is) ∙ h.same k) }

    -- to the start of the first branch
    into_first : (c m : ℕ) (a b : S) → 0 < m → m ≤ length xs → IsStart (from_end xs m) → Goes p (from_end xs c) (from_end xs m) (p.enter a) b →
        (k : List (Frame S)) → run p (in_second a ∷ k) (from_end xs c) (p.enter a) ≡ run p (in_first a b ∷ k) (from_end xs (m - 1)) (p.again a b)
    into_first c m a b some most start g k =
        let x = get_or xs (m - 1) steps.Close in
        let last : from_end xs m ≡ x ∷ from_end xs (m - 1) = from_end_last xs m x steps.Close some most refl in
        g.same (in_second a ∷ k) ∙ (ap (λ l. run p (in_second a ∷ k) l b) last ∙ to_first k x (from_end xs (m - 1)) a b (subst IsStart last start))

    pub passes : (c m o : ℕ) (d : Step) (a b u v : S) → 0 < m → m ≤ length xs → 0 < o → o ≤ length xs → IsStart (from_end xs m) → IsStart (from_end xs o) →
        Goes p (from_end xs c) (from_end xs m) (p.enter a) b → Goes p (from_end xs (m - 1)) (from_end xs o) (p.again a b) u →
        v ≡ p.join (get_or xs (o - 1) d) a b u → Passes p (from_end xs c) (from_end xs (o - 1)) a v
    passes c m o d a b u v some most some' most' start start' g h result =
        let x = get_or xs (o - 1) d in
        let last : from_end xs o ≡ x ∷ from_end xs (o - 1) = from_end_last xs o x d some' most' refl in
        record {
          same = λ k.
              into_first c m a b some most start g k
              ∙ (h.same (in_first a b ∷ k) ∙ (ap (λ l. run p (in_first a b ∷ k) l u) last ∙ (to_test k x (from_end xs (o - 1)) a b u (subst IsStart last start') ∙ ap (run p k (from_end xs (o - 1))) (sym result))));
        }

    -- all steps end in a first branch
    pub passes_all : (c m o : ℕ) (a b u : S) → o ≡ 0 → 0 < m → m ≤ length xs → IsStart (from_end xs m) →
        Goes p (from_end xs c) (from_end xs m) (p.enter a) b → Goes p (from_end xs (m - 1)) (from_end xs o) (p.again a b) u → Passes p (from_end xs c) [] a u
    passes_all c m o a b u none some most start g h =
        record { same = λ k. into_first c m a b some most start g k ∙ (h.same (in_first a b ∷ k) ∙ ap (λ n. run p (in_first a b ∷ k) (from_end xs n) u) none) }

    -- or in the second
    pub passes_none : (c m : ℕ) (a b : S) → m ≡ 0 → Goes p (from_end xs c) (from_end xs m) (p.enter a) b → Passes p (from_end xs c) [] a (p.again a b)
    passes_none c m a b none g = record { same = λ k. g.same (in_second a ∷ k) ∙ ap (λ n. run p (in_second a ∷ k) (from_end xs n) b) none }
