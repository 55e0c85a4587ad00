-- How many lines code has: at most nine for each statement and expression of a checked task.
use Rattle.std.proofs.Common.{◌≡◌, ℕ, zero, suc, ◌+◌, ◌*◌, ◌<◌, ◌≤◌, Bool, true, false, cond, ◌||◌, ◌==◌, List, [], ◌∷◌, ◌++◌, length, map, Option, None, Some, refl, sym, ap, arith, inl, inr, eqb-true, length-append}
use Rattle.std.specs.Prelude.{filter}
use Rattle.std.proofs.lemmas.Bool.{true≢false, cond_both}
use Rattle.std.proofs.lemmas.List.Sums.{count_by-le-length, length-filter}
use Rattle.tcel_core.specs.declared.var.Var.{Var}
use Rattle.tcel_core.specs.Cells.{place, width}
use Rattle.tcel_core.specs.Contents.{has_statement, hold_of, loops, stmt_loops}
use Rattle.tcel_core.specs.Kinds.{Slicing, holds_kept, is_fetched, is_live}
use Rattle.tcel_core.specs.Language.{Expr, number, variable, element, unary, binary, Window, Block, done, next, joined, Stmt, item, choice, timed, Act, assign, assign_at, receive, send, for_loop, while_loop, copy}
use Rattle.tcel_core.specs.Limits.{act_nodes, expr_nodes, nodes, stmt_nodes}
use Rattle.tcel_core.specs.Numbering.{item_numbers, numbers_from}
use Rattle.tcel_core.specs.Parts.{copies, copy_of, fetches, first_of_block, first_of_stmt, first_part, has_rest, inside_number, is_split, live_variables, number_of, renamed_act, renamed_block, renamed_expr, renamed_stmt, rest_of_block, rest_of_stmt, restores, saved, saves, split_choice, truth_of, variables}
use Rattle.tcel_gen.specs.Sizes.{act_size, size, stmt_size}
use Rattle.tcel_core.specs.Paths.{Point, at_item, points, stmt_points}
use Rattle.tcel_core.specs.Uses.{act_writes, block_writes, stmt_writes}
use Rattle.tcel_image.specs.declared.image.Instr.TheVariants.{Arith, Branch, GetAt, Jump, Loop, Mark, End, Put, PutAt, Send}
use Rattle.tcel_image.specs.declared.image.Line.{Line}
use Rattle.tcel_parts.proofs.Distinct.{AreDistinct}
use Rattle.tcel_parts.proofs.Members.{In, in_left, in_right}
use Rattle.tcel_parts.proofs.OwnNames.{live_writes}
use Rattle.tcel_code.specs.Code.{act_code, at, block_code, branches_code, expr_code, frame_code, held_length, hold_code, stmt_code}
use Rattle.tcel_code.specs.Counters.{Counters, behind, counter_of, in_order}

pub expr_long : (e : Expr) (vars : List Var) (depth : ℕ) → length (expr_code e vars depth) ≡ expr_nodes e
expr_long (number n) vars depth = refl
expr_long (variable v) vars depth = refl
expr_long (element v i) vars depth = omega (arith, length-append (expr_code i vars depth) (at (depth + 1) (GetAt (place vars v) (width vars v))), expr_long i vars depth)
expr_long (unary op e) vars depth = omega (arith, length-append (expr_code e vars depth) (at (depth + 1) (Arith op)), expr_long e vars depth)
expr_long (binary op a b) vars depth =
    omega (arith, length-append (expr_code a vars depth) (expr_code b vars (depth + 1) ++ at (depth + 2) (Arith op)), length-append (expr_code b vars (depth + 1)) (at (depth + 2) (Arith op)), expr_long a vars depth, expr_long b vars (depth + 1))

hold_short : (bound : Option ℕ) → length (hold_code bound) ≤ 1
hold_short None = omega arith
hold_short (Some bound) = omega arith

branches_short : (has : Bool) (from : ℕ) (held other : List Line) → length (branches_code has from held other) ≤ length held + 1 + length other
branches_short true from held other = let jump = at 0 (Jump (from + length held + 1 + length other)) in omega (arith, length-append held (jump ++ other))
branches_short false from held other = omega arith

mutual
  pub code_short : (b : Block) (vars : List Var) (from : ℕ) (counters : Counters) → length (block_code b vars from counters) ≤ size b
  code_short done vars from counters = omega arith
  code_short (next s rest) vars from counters =
      let first = stmt_code s vars from counters in
      let others = behind counters (stmt_loops s) in
      omega (arith, length-append first (block_code rest vars (from + length first) others), stmt_short s vars from counters, code_short rest vars (from + length first) others)

  stmt_short : (s : Stmt) (vars : List Var) (from : ℕ) (counters : Counters) → length (stmt_code s vars from counters) ≤ stmt_size s
  stmt_short (item id act) vars from counters = act_short act vars from (counter_of counters id)
  stmt_short (choice id test held other) vars from counters =
      let before = expr_code test vars 0 in
      let yes_at = from + length before + 1 in
      let yes = block_code held vars yes_at counters in
      let no_at = yes_at + held_length (has_statement other) (length yes) in
      let no = block_code other vars no_at (behind counters (loops held)) in
      omega (
        arith,
        length-append before (at 1 (Branch no_at) ++ branches_code (has_statement other) yes_at yes no),
        expr_long test vars 0,
        branches_short (has_statement other) yes_at yes no,
        code_short held vars yes_at counters,
        code_short other vars no_at (behind counters (loops held)),
      )
  stmt_short (timed id window body) vars from counters =
      let hold = hold_code (hold_of window body) in
      omega (arith, length-append hold (block_code body vars (from + length hold) counters), hold_short (hold_of window body), code_short body vars (from + length hold) counters)

  act_short : (act : Act) (vars : List Var) (from counter : ℕ) → length (act_code act vars from counter) ≤ act_size act
  act_short (assign v e) vars from counter = omega (arith, length-append (expr_code e vars 0) (at 1 (Put (place vars v))), expr_long e vars 0)
  act_short (assign_at v i e) vars from counter =
      let put = at 2 (PutAt (place vars v) (width vars v)) in
      omega (arith, length-append (expr_code i vars 0) (expr_code e vars 1 ++ put), length-append (expr_code e vars 1) put, expr_long i vars 0, expr_long e vars 1)
  act_short (receive v port) vars from counter = omega arith
  act_short (send e port) vars from counter = omega (arith, length-append (expr_code e vars 0) (at 1 (Send port)), expr_long e vars 0)
  act_short (for_loop v turns body) vars from counter =
      let inner = block_code body vars (from + 4) (in_order (counter + 1)) in
      omega (arith, length-append inner (at 0 (Loop counter turns (from + 2))), code_short body vars (from + 4) (in_order (counter + 1)))
  act_short (while_loop test turns body) vars from counter =
      let before = expr_code test vars 0 in
      let body_at = from + 2 + length before + 1 in
      let inner = block_code body vars body_at (in_order (counter + 1)) in
      let loop = at 0 (Loop counter turns (from + 2)) in
      omega (
        arith,
        length-append before (at 1 (Branch (body_at + length inner + 1)) ++ (inner ++ loop)),
        length-append inner loop,
        expr_long test vars 0,
        code_short body vars body_at (in_order (counter + 1)),
      )
  act_short (copy a b) vars from counter = omega arith

-- ---- statements over other numbers, one after another, and copies

renamed_nodes : (f : ℕ → ℕ) (e : Expr) → expr_nodes (renamed_expr f e) ≡ expr_nodes e
renamed_nodes f (number n) = refl
renamed_nodes f (variable v) = refl
renamed_nodes f (element v i) = ap (λ n. 1 + n) (renamed_nodes f i)
renamed_nodes f (unary op e) = ap (λ n. 1 + n) (renamed_nodes f e)
renamed_nodes f (binary op a b) = omega (arith, renamed_nodes f a, renamed_nodes f b)

module _ (f : ℕ → ℕ) where
  mutual
    renamed_size : (b : Block) → size (renamed_block f b) ≡ size b
    renamed_size done = refl
    renamed_size (next s rest) = omega (arith, stmt_renamed_size s, renamed_size rest)

    stmt_renamed_size : (s : Stmt) → stmt_size (renamed_stmt f s) ≡ stmt_size s
    stmt_renamed_size (item id act) = act_renamed_size act
    stmt_renamed_size (choice id test held other) = omega (arith, renamed_nodes f test, renamed_size held, renamed_size other)
    stmt_renamed_size (timed id window body) = omega (arith, renamed_size body)

    act_renamed_size : (act : Act) → act_size (renamed_act f act) ≡ act_size act
    act_renamed_size (assign v e) = omega (arith, renamed_nodes f e)
    act_renamed_size (assign_at v i e) = omega (arith, renamed_nodes f i, renamed_nodes f e)
    act_renamed_size (receive v port) = refl
    act_renamed_size (send e port) = omega (arith, renamed_nodes f e)
    act_renamed_size (for_loop v turns body) = omega (arith, renamed_size body)
    act_renamed_size (while_loop test turns body) = omega (arith, renamed_nodes f test, renamed_size body)
    act_renamed_size (copy a b) = refl

size-joined : (a b : Block) → size (joined a b) ≡ size a + size b
size-joined done b = omega arith
size-joined (next s rest) b = omega (arith, size-joined rest b)

copies_size : (g h : ℕ → ℕ) (vs : List ℕ) → size (copies (map (λ v. (g v, h v)) vs)) ≡ length vs
copies_size g h [] = refl
copies_size g h (v ∷ vs) = omega (arith, copies_size g h vs)

-- ---- an item writes no more variables than it has nodes

pub fewer : {X : Type 0} (p : X → Bool) (xs : List X) → length (filter p xs) ≤ length xs
fewer p xs = omega (arith, length-filter p xs, count_by-le-length p xs)

none_of : (xs : List ℕ) → length (filter (λ v. false) xs) ≡ 0
none_of [] = refl
none_of (x ∷ xs) = none_of xs

filtered-step : (a b : Bool) (x : ℕ) (ps qs both : List ℕ) → length both ≤ length ps + length qs →
    length (cond (a || b) (x ∷ both) both) ≤ length (cond a (x ∷ ps) ps) + length (cond b (x ∷ qs) qs)
filtered-step true true x ps qs both h = omega arith
filtered-step true false x ps qs both h = omega arith
filtered-step false true x ps qs both h = omega arith
filtered-step false false x ps qs both h = h

filtered_or : (p q : ℕ → Bool) (xs : List ℕ) → length (filter (λ v. p v || q v) xs) ≤ length (filter p xs) + length (filter q xs)
filtered_or p q [] = omega arith
filtered_or p q (x ∷ xs) = filtered-step (p x) (q x) x (filter p xs) (filter q xs) (filter (λ v. p v || q v) xs) (filtered_or p q xs)

below_none : (x first count : ℕ) → x < first → length (filter (λ v. x == v) (numbers_from first count)) ≡ 0
below_none x first zero h = refl
below_none x first (suc count) h =
    cond_both (x == first) (first ∷ filter (λ v. x == v) (numbers_from (first + 1) count)) (filter (λ v. x == v) (numbers_from (first + 1) count)) (λ l. length l ≡ 0)
    (λ e. let same = eqb-true x first e in absurd (omega arith)) (λ _. below_none x (first + 1) count (omega arith))

at_most_one : (x first count : ℕ) → length (filter (λ v. x == v) (numbers_from first count)) ≤ 1
at_most_one x first zero = omega arith
at_most_one x first (suc count) =
    let rest = at_most_one x (first + 1) count in
    cond_both (x == first) (first ∷ filter (λ v. x == v) (numbers_from (first + 1) count)) (filter (λ v. x == v) (numbers_from (first + 1) count)) (λ l. length l ≤ 1)
    (λ e. let same = eqb-true x first e in let none = below_none x (first + 1) count (omega arith) in omega arith) (λ _. rest)

module _ (first count : ℕ) where
  abbrev numbers : List ℕ
  numbers = numbers_from first count

  mutual
    few_writes : (b : Block) → length (filter (block_writes b) numbers) ≤ nodes b
    few_writes done = omega (arith, none_of numbers)
    few_writes (next s rest) = omega (arith, filtered_or (stmt_writes s) (block_writes rest) numbers, stmt_few_writes s, few_writes rest)

    stmt_few_writes : (s : Stmt) → length (filter (stmt_writes s) numbers) ≤ stmt_nodes s
    stmt_few_writes (item id act) = act_few_writes act
    stmt_few_writes (choice id test held other) = omega (arith, filtered_or (block_writes held) (block_writes other) numbers, few_writes held, few_writes other)
    stmt_few_writes (timed id window body) = omega (arith, few_writes body)

    act_few_writes : (act : Act) → length (filter (act_writes act) numbers) ≤ 1 + act_nodes act
    act_few_writes (assign v e) = omega (arith, at_most_one v first count)
    act_few_writes (assign_at v i e) = omega (arith, at_most_one v first count)
    act_few_writes (receive v port) = omega (arith, at_most_one v first count)
    act_few_writes (send e port) = omega (arith, none_of numbers)
    act_few_writes (for_loop v turns body) = omega (arith, filtered_or (λ x. v == x) (block_writes body) numbers, at_most_one v first count, few_writes body)
    act_few_writes (while_loop test turns body) = omega (arith, few_writes body)
    act_few_writes (copy a b) = omega (arith, at_most_one b first count)

implied : (p q : ℕ → Bool) (xs : List ℕ) → ((v : ℕ) → p v ≡ true → q v ≡ true) → length (filter p xs) ≤ length (filter q xs)
implied p q [] up = omega arith
implied p q (x ∷ xs) up = step (p x) (q x) (up x) (implied p q xs up)
  where
    step : (a b : Bool) → (a ≡ true → b ≡ true) → length (filter p xs) ≤ length (filter q xs) → length (cond a (x ∷ filter p xs) (filter p xs)) ≤ length (cond b (x ∷ filter q xs) (filter q xs))
    step true true h g = omega arith
    step true false h g = absurd (true≢false (sym (h refl)))
    step false true h g = omega arith
    step false false h g = g

-- ---- both parts

mutual
  pub block_small : (b : Block) → size b ≤ 5 * nodes b
  block_small done = omega arith
  block_small (next s rest) = omega (arith, stmt_small s, block_small rest)

  stmt_small : (s : Stmt) → stmt_size s ≤ 5 * stmt_nodes s
  stmt_small (item id act) = act_small act
  stmt_small (choice id test held other) = omega (arith, block_small held, block_small other)
  stmt_small (timed id window body) = omega (arith, block_small body)

  act_small : (act : Act) → act_size act ≤ 5 * (1 + act_nodes act)
  act_small (assign v e) = omega arith
  act_small (assign_at v i e) = omega arith
  act_small (receive v port) = omega arith
  act_small (send e port) = omega arith
  act_small (for_loop v turns body) = omega (arith, block_small body)
  act_small (while_loop test turns body) = omega (arith, block_small body)
  act_small (copy a b) = omega arith

module _ (s : Slicing) (distinct : AreDistinct (item_numbers s.body)) where
  few_live : (n : ℕ) (act : Act) → In (points s.body) (at_item n act) → length (live_variables s n) ≤ 1 + act_nodes act
  few_live n act there =
      omega (arith, implied (is_live s n) (act_writes act) (variables s) (λ v live. live_writes s distinct n v act there live), act_few_writes 0 (length s.vars) act)

  item_small : (c : Bool) (n : ℕ) (act : Act) → In (points s.body) (at_item n act) →
      size (cond c (next (item n (renamed_act (inside_number s) act)) (saves s n)) done) + size (cond c (restores s n) (next (item n act) done)) ≤ 9 * (1 + act_nodes act)
  item_small true n act there =
      omega (
        arith,
        act_renamed_size (inside_number s) act,
        act_small act,
        few_live n act there,
        copies_size (λ v. number_of s (copy_of v)) (λ v. number_of s (saved n v)) (live_variables s n),
        copies_size (λ v. number_of s (saved n v)) (λ v. v) (live_variables s n),
      )
  item_small false n act there = omega (arith, act_small act)

  first_small : (kept split : Bool) (n : ℕ) (test : Expr) (held other : Block) →
      size (cond kept (split_choice s n (renamed_expr (inside_number s) test) split held other) done) ≤ expr_nodes test + 4 + size held + size other
  first_small true true n test held other = omega (arith, renamed_nodes (inside_number s) test)
  first_small true false n test held other = omega (arith, renamed_nodes (inside_number s) test)
  first_small false split n test held other = omega arith

  rest_small : (left split : Bool) (n : ℕ) (test : Expr) (held other : Block) →
      size (cond left (next (choice n (cond split (variable (number_of s (truth_of n))) test) held other) done) done) ≤ expr_nodes test + 3 + size held + size other
  rest_small true true n test held other = omega arith
  rest_small true false n test held other = omega arith
  rest_small false split n test held other = omega arith

  timed_small : (kept : Bool) (n : ℕ) (window : Window) (body : Block) → size (cond kept (next (timed n window body) done) done) ≤ 1 + size body
  timed_small true n window body = omega arith
  timed_small false n window body = omega arith

  mutual
    both_small : (b : Block) → ((p : Point) → In (points b) p → In (points s.body) p) → size (first_of_block s b) + size (rest_of_block s b) ≤ 9 * nodes b
    both_small done inside = omega arith
    both_small (next t rest) inside =
        omega (
          arith,
          size-joined (first_of_stmt s t) (first_of_block s rest),
          size-joined (rest_of_stmt s t) (rest_of_block s rest),
          stmt_both_small t (λ p there. inside p (in_left (stmt_points t) (points rest) p there)),
          both_small rest (λ p there. inside p (in_right (stmt_points t) (points rest) p there)),
        )

    stmt_both_small : (t : Stmt) → ((p : Point) → In (stmt_points t) p → In (points s.body) p) → size (first_of_stmt s t) + size (rest_of_stmt s t) ≤ 9 * stmt_nodes t
    stmt_both_small (item n act) inside = item_small (s.kept n) n act (inside (at_item n act) (inl refl))
    stmt_both_small (choice n test held other) inside =
        omega (
          arith,
          first_small (holds_kept s held || holds_kept s other) (is_split s held other) n test (first_of_block s held) (first_of_block s other),
          rest_small (has_rest s held || has_rest s other) (is_split s held other) n test (rest_of_block s held) (rest_of_block s other),
          both_small held (λ p there. inside p (inr (in_left (points held) (points other) p there))),
          both_small other (λ p there. inside p (inr (in_right (points held) (points other) p there))),
        )
    stmt_both_small (timed n window body) inside =
        omega (arith, timed_small (holds_kept s body) n window (first_of_block s body), both_small body inside)

  fetches_small : size (fetches s) ≤ length s.vars
  fetches_small =
      omega (arith, copies_size (λ v. v) (λ v. number_of s (copy_of v)) (filter (is_fetched s) (variables s)), fewer (is_fetched s) (variables s), numbers_long 0 (length s.vars))
    where
      numbers_long : (first count : ℕ) → length (numbers_from first count) ≡ count
      numbers_long first zero = refl
      numbers_long first (suc count) = omega (arith, numbers_long (first + 1) count)

  -- nine lines for each statement and expression, and one for each variable that is fetched
  pub parts_small : size (first_part s) + size (rest_of_block s s.body) ≤ 9 * nodes s.body + length s.vars
  parts_small = omega (arith, size-joined (fetches s) (first_of_block s s.body), fetches_small, both_small s.body (λ p there. there))

-- a frame has two lines more
pub frame_short : (first rest : Block) (vars : List Var) (counters : Counters) → length (frame_code first rest vars counters) ≤ size first + size rest + 2
frame_short first rest vars counters =
    let before = block_code first vars 0 counters in
    let after = block_code rest vars (length before + 1) counters in
    omega (
      arith,
      length-append before (at 0 Mark ++ (after ++ at 0 End)),
      length-append after (at 0 End),
      code_short first vars 0 counters,
      code_short rest vars (length before + 1) counters,
    )
