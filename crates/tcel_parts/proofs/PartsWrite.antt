-- What the two parts write, and that what they name has words.
use Rattle.std.proofs.Common.{◌≡◌, ℕ, ◌<◌, Bool, true, false, cond, ◌||◌, ◌==◌, List, [], ◌∷◌, ◌++◌, map, length, refl, sym, ap, ◌∙◌, subst, arith, inl, inr, eqb-true, eq-eqb}
use Rattle.std.proofs.Math.Bool.{or_assoc}
use Rattle.std.proofs.lemmas.Bool.{true≢false, or_left, or_right}
use Rattle.tcel_core.specs.Kinds.{Slicing, holds_kept, is_live}
use Rattle.tcel_core.specs.Language.{Expr, variable, Block, done, next, joined, Stmt, item, choice, timed, Act, assign, assign_at, receive, send, for_loop, while_loop, copy}
use Rattle.tcel_core.specs.Parts.{copy_of, saved, truth_of, is_split, has_rest, number_of, inside_number, copies, saves, restores, split_choice, variables, live_variables, first_of_block, first_of_stmt, rest_of_block, rest_of_stmt, renamed_expr, renamed_block, renamed_stmt, renamed_act}
use Rattle.tcel_core.specs.Paths.{Point, at_item, at_test, points, stmt_points}
use Rattle.tcel_core.specs.Uses.{block_writes, stmt_writes, act_writes}
use Rattle.tcel_parts.proofs.Alike.{either}
use Rattle.tcel_parts.proofs.Members.{In, in_left, in_right, in_filtered, numbers_within}

writes-joined : (a b : Block) (u : ℕ) → block_writes (joined a b) u ≡ (block_writes a u || block_writes b u)
writes-joined done b u = refl
writes-joined (next t rest) b u =
    ap (λ c. stmt_writes t u || c) (writes-joined rest b u) ∙ sym (or_assoc (stmt_writes t u) (block_writes rest u) (block_writes b u))

-- ---- statements over other numbers write the variables of these numbers

-- this is the number of a variable that is written
abbrev Renamed : (ℕ → ℕ) → (ℕ → Bool) → ℕ → Type 0
Renamed f writes u = (v : ℕ) × (writes v ≡ true) × (u ≡ f v)

module _ (f : ℕ → ℕ) where
  in_more : (w w' : ℕ → Bool) (u : ℕ) → ((v : ℕ) → w v ≡ true → w' v ≡ true) → Renamed f w u → Renamed f w' u
  in_more w w' u up r = (r.0, up r.0 r.1, r.2)

  one_written : (x u : ℕ) → (f x == u) ≡ true → Renamed f (λ v. x == v) u
  one_written x u e = (x, eq-eqb x x refl, sym (eqb-true (f x) u e))

  mutual
    renamed_writes : (b : Block) (u : ℕ) → block_writes (renamed_block f b) u ≡ true → Renamed f (block_writes b) u
    renamed_writes done u h = absurd (true≢false (sym h))
    renamed_writes (next t rest) u h =
        elim (either (stmt_writes (renamed_stmt f t) u) (block_writes (renamed_block f rest) u) h) [
          | inl first ↦ in_more (stmt_writes t) (block_writes (next t rest)) u (λ v w. or_left (stmt_writes t v) (block_writes rest v) w) (stmt_renamed_writes t u first)
          | inr later ↦ in_more (block_writes rest) (block_writes (next t rest)) u (λ v w. or_right (stmt_writes t v) (block_writes rest v) w) (renamed_writes rest u later)
        ]

    stmt_renamed_writes : (t : Stmt) (u : ℕ) → stmt_writes (renamed_stmt f t) u ≡ true → Renamed f (stmt_writes t) u
    stmt_renamed_writes (item id act) u h = act_renamed_writes act u h
    stmt_renamed_writes (choice id test held other) u h =
        elim (either (block_writes (renamed_block f held) u) (block_writes (renamed_block f other) u) h) [
          | inl first ↦ in_more (block_writes held) (stmt_writes (choice id test held other)) u (λ v w. or_left (block_writes held v) (block_writes other v) w) (renamed_writes held u first)
          | inr second ↦ in_more (block_writes other) (stmt_writes (choice id test held other)) u (λ v w. or_right (block_writes held v) (block_writes other v) w) (renamed_writes other u second)
        ]
    stmt_renamed_writes (timed id window body) u h = renamed_writes body u h

    pub act_renamed_writes : (act : Act) (u : ℕ) → act_writes (renamed_act f act) u ≡ true → Renamed f (act_writes act) u
    act_renamed_writes (assign x e) u h = one_written x u h
    act_renamed_writes (assign_at x i e) u h = one_written x u h
    act_renamed_writes (receive x port) u h = one_written x u h
    act_renamed_writes (send e port) u h = absurd (true≢false (sym h))
    act_renamed_writes (for_loop x n body) u h =
        elim (either (f x == u) (block_writes (renamed_block f body) u) h) [
          | inl first ↦ in_more (λ v. x == v) (act_writes (for_loop x n body)) u (λ v w. or_left (x == v) (block_writes body v) w) (one_written x u first)
          | inr later ↦ in_more (block_writes body) (act_writes (for_loop x n body)) u (λ v w. or_right (x == v) (block_writes body v) w) (renamed_writes body u later)
        ]
    act_renamed_writes (while_loop test n body) u h = renamed_writes body u h
    act_renamed_writes (copy from to) u h = one_written to u h

-- copies write what they copy to
copies_write : (g h : ℕ → ℕ) (vs : List ℕ) (u : ℕ) → block_writes (copies (map (λ v. (g v, h v)) vs)) u ≡ true → (v : ℕ) × In vs v × (u ≡ h v)
copies_write g h [] u e = absurd (true≢false (sym e))
copies_write g h (v ∷ vs) u e =
    elim (either (h v == u) (block_writes (copies (map (λ w. (g w, h w)) vs)) u) e) [
      | inl first ↦ (v, inl refl, sym (eqb-true (h v) u first))
      | inr later ↦ let r = copies_write g h vs u later in (r.0, inr r.1, r.2)
    ]

-- the live variables are variables of the task
pub live_is : (s : Slicing) (n v : ℕ) → In (live_variables s n) v → (v < length s.vars) × (is_live s n v ≡ true)
live_is s n v h = let r = in_filtered (is_live s n) (variables s) v h in let less = (numbers_within 0 (length s.vars) v r.0).1 in (omega arith, r.1)

-- ---- the first part

module _ (s : Slicing) where
  -- a kept item's variable by its number, a saved value, or a test's truth
  pub data FirstWrites (ps : List Point) (u : ℕ) : Type 0 where
    own : (n v : ℕ) (act : Act) → In ps (at_item n act) → s.kept n ≡ true → act_writes act v ≡ true → u ≡ inside_number s v → FirstWrites ps u
    save : (n v : ℕ) (act : Act) → In ps (at_item n act) → s.kept n ≡ true → v < length s.vars → is_live s n v ≡ true → u ≡ number_of s (saved n v) → FirstWrites ps u
    truth : (n : ℕ) (test : Expr) (held other : Block) → In ps (at_test n test held other) → is_split s held other ≡ true → u ≡ number_of s (truth_of n) → FirstWrites ps u

  first_more : (ps qs : List Point) (u : ℕ) → ((p : Point) → In ps p → In qs p) → FirstWrites ps u → FirstWrites qs u
  first_more ps qs u up (own n v act there kept writes is) = own n v act (up (at_item n act) there) kept writes is
  first_more ps qs u up (save n v act there kept less live is) = save n v act (up (at_item n act) there) kept less live is
  first_more ps qs u up (truth n test held other there split is) = truth n test held other (up (at_test n test held other) there) split is

  nothing : (c : Bool) (b : Block) (u : ℕ) → block_writes (cond c b done) u ≡ true → (c ≡ true) × (block_writes b u ≡ true)
  nothing true b u h = (refl, h)
  nothing false b u h = absurd (true≢false (sym h))

  no_last : (a : Bool) → (a || false) ≡ true → a ≡ true
  no_last true h = refl
  no_last false h = h

  mutual
    pub first_writes : (b : Block) (u : ℕ) → block_writes (first_of_block s b) u ≡ true → FirstWrites (points b) u
    first_writes done u h = absurd (true≢false (sym h))
    first_writes (next t rest) u h =
        elim (either (block_writes (first_of_stmt s t) u) (block_writes (first_of_block s rest) u) (sym (writes-joined (first_of_stmt s t) (first_of_block s rest) u) ∙ h)) [
          | inl first ↦ first_more (stmt_points t) (points (next t rest)) u (in_left (stmt_points t) (points rest)) (stmt_first_writes t u first)
          | inr later ↦ first_more (points rest) (points (next t rest)) u (in_right (stmt_points t) (points rest)) (first_writes rest u later)
        ]

    pub stmt_first_writes : (t : Stmt) (u : ℕ) → block_writes (first_of_stmt s t) u ≡ true → FirstWrites (stmt_points t) u
    stmt_first_writes (item n act) u h =
        let r = nothing (s.kept n) (next (item n (renamed_act (inside_number s) act)) (saves s n)) u h in
        elim (either (act_writes (renamed_act (inside_number s) act) u) (block_writes (saves s n) u) r.1) [
          | inl first ↦ let w = act_renamed_writes (inside_number s) act u first in own n w.0 act (inl refl) r.0 w.1 w.2
          | inr later ↦
              let w = copies_write (λ v. number_of s (copy_of v)) (λ v. number_of s (saved n v)) (live_variables s n) u later in
              let l = live_is s n w.0 w.1 in
              save n w.0 act (inl refl) r.0 l.0 l.1 w.2
        ]
    stmt_first_writes (choice n test held other) u h =
        let r = nothing (holds_kept s held || holds_kept s other) (split_choice s n (renamed_expr (inside_number s) test) (is_split s held other) (first_of_block s held) (first_of_block s other)) u h in
        chosen (is_split s held other) refl r.1 (first_writes held u) (first_writes other u)
      where
        branch : (block_writes (first_of_block s held) u || block_writes (first_of_block s other) u) ≡ true →
            (block_writes (first_of_block s held) u ≡ true → FirstWrites (points held) u) → (block_writes (first_of_block s other) u ≡ true → FirstWrites (points other) u) →
            FirstWrites (at_test n test held other ∷ (points held ++ points other)) u
        branch h a b =
            elim (either (block_writes (first_of_block s held) u) (block_writes (first_of_block s other) u) h) [
              | inl first ↦
                  first_more (points held) (at_test n test held other ∷ (points held ++ points other)) u (λ p i. inr (in_left (points held) (points other) p i)) (a first)
              | inr second ↦
                  first_more (points other) (at_test n test held other ∷ (points held ++ points other)) u (λ p i. inr (in_right (points held) (points other) p i)) (b second)
            ]

        chosen : (c : Bool) → is_split s held other ≡ c →
            block_writes (split_choice s n (renamed_expr (inside_number s) test) c (first_of_block s held) (first_of_block s other)) u ≡ true →
            (block_writes (first_of_block s held) u ≡ true → FirstWrites (points held) u) → (block_writes (first_of_block s other) u ≡ true → FirstWrites (points other) u) →
            FirstWrites (at_test n test held other ∷ (points held ++ points other)) u
        chosen true e h a b =
            elim (either (number_of s (truth_of n) == u) ((block_writes (first_of_block s held) u || block_writes (first_of_block s other) u) || false) h) [
              | inl first ↦ truth n test held other (inl refl) e (sym (eqb-true (number_of s (truth_of n)) u first))
              | inr later ↦ branch (no_last (block_writes (first_of_block s held) u || block_writes (first_of_block s other) u) later) a b
            ]
        chosen false e h a b = branch (no_last (block_writes (first_of_block s held) u || block_writes (first_of_block s other) u) h) a b
    stmt_first_writes (timed n window body) u h =
        let r = nothing (holds_kept s body) (next (timed n window (first_of_block s body)) done) u h in first_writes body u (no_last (block_writes (first_of_block s body) u) r.1)

  -- ---- the rest

  -- a variable of an item outside the kept set, or one for which a kept item is live
  pub data RestWrites (ps : List Point) (u : ℕ) : Type 0 where
    other_item : (n : ℕ) (act : Act) → In ps (at_item n act) → s.kept n ≡ false → act_writes act u ≡ true → RestWrites ps u
    restore : (n : ℕ) (act : Act) → In ps (at_item n act) → s.kept n ≡ true → u < length s.vars → is_live s n u ≡ true → RestWrites ps u

  rest_more : (ps qs : List Point) (u : ℕ) → ((p : Point) → In ps p → In qs p) → RestWrites ps u → RestWrites qs u
  rest_more ps qs u up (other_item n act there out writes) = other_item n act (up (at_item n act) there) out writes
  rest_more ps qs u up (restore n act there kept less live) = restore n act (up (at_item n act) there) kept less live

  mutual
    pub rest_writes : (b : Block) (u : ℕ) → block_writes (rest_of_block s b) u ≡ true → RestWrites (points b) u
    rest_writes done u h = absurd (true≢false (sym h))
    rest_writes (next t rest) u h =
        elim (either (block_writes (rest_of_stmt s t) u) (block_writes (rest_of_block s rest) u) (sym (writes-joined (rest_of_stmt s t) (rest_of_block s rest) u) ∙ h)) [
          | inl first ↦ rest_more (stmt_points t) (points (next t rest)) u (in_left (stmt_points t) (points rest)) (stmt_rest_writes t u first)
          | inr later ↦ rest_more (points rest) (points (next t rest)) u (in_right (stmt_points t) (points rest)) (rest_writes rest u later)
        ]

    pub stmt_rest_writes : (t : Stmt) (u : ℕ) → block_writes (rest_of_stmt s t) u ≡ true → RestWrites (stmt_points t) u
    stmt_rest_writes (item n act) u h = chosen (s.kept n) refl h
      where
        chosen : (c : Bool) → s.kept n ≡ c → block_writes (cond c (restores s n) (next (item n act) done)) u ≡ true → RestWrites (at_item n act ∷ []) u
        chosen true e h =
            let w = copies_write (λ v. number_of s (saved n v)) (λ v. v) (live_variables s n) u h in
            let l = live_is s n w.0 w.1 in
            restore n act (inl refl) e (subst (λ x. x < length s.vars) (sym w.2) l.0) (subst (λ x. is_live s n x ≡ true) (sym w.2) l.1)
        chosen false e h = other_item n act (inl refl) e (no_last (act_writes act u) h)
    stmt_rest_writes (choice n test held other) u h =
        let r =
        nothing (has_rest s held || has_rest s other)
        (next (choice n (cond (is_split s held other) (variable (number_of s (truth_of n))) test) (rest_of_block s held) (rest_of_block s other)) done) u h
        in elim (either (block_writes (rest_of_block s held) u) (block_writes (rest_of_block s other) u) (no_last (block_writes (rest_of_block s held) u || block_writes (rest_of_block s other) u) r.1)) [
          | inl first ↦ rest_more (points held) (stmt_points (choice n test held other)) u (λ p i. inr (in_left (points held) (points other) p i)) (rest_writes held u first)
          | inr second ↦ rest_more (points other) (stmt_points (choice n test held other)) u (λ p i. inr (in_right (points held) (points other) p i)) (rest_writes other u second)
        ]
    stmt_rest_writes (timed n window body) u h = rest_writes body u h
