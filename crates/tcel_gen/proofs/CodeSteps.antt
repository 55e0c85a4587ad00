-- Code that is put line by line, and branches whose targets are set when they are known.
use Rattle.std.proofs.Common.{◌≡◌, ℕ, ◌+◌, Bool, true, false, cond, not, pos, List, [], ◌∷◌, ◌++◌, length, length-append, map, None, refl, sym, ap, ◌∙◌, arith, append_assoc}
use Rattle.std.specs.Prelude.{◌↔◌, IsTrue, slice_set}
use Rattle.std.proofs.lemmas.Bool.{false≢true}
use Rattle.std.proofs.lemmas.List.{append-nil, length-set}
use Rattle.tcel_core.specs.declared.body.Body.{Body}
use Rattle.tcel_core.specs.declared.body.CoreStmt.{CoreStmt}
use Rattle.tcel_core.specs.declared.var.Var.{Var}
use Rattle.tcel_core.specs.Cells.{place}
use Rattle.tcel_core.specs.Contents.{has_event, has_statement, loops, stmt_loops}
use Rattle.tcel_core.specs.Language.{Expr, Window, Block, done, next, Stmt, choice, timed, for_loop, while_loop}
use Rattle.tcel_core.specs.Plain.{block_of, plain_body, plain_stmt}
use Rattle.tcel_core.proofs.PlainLaws.{plain_body-list}
use Rattle.tcel_image.specs.declared.image.Instr.TheVariants.{Branch, Const, Get, Jump, Loop, Put}
use Rattle.tcel_image.specs.declared.image.Line.{Line}
use Rattle.tcel_code.specs.Code.{act_code, at, block_code, expr_code, hold_code, stmt_code}
use Rattle.tcel_code.specs.Counters.{Counters, behind, by_item, in_order}

-- ---- whether there is a statement

any_of : (list : List CoreStmt) (empty : Bool) → (IsTrue empty ↔ (list ≡ [])) → not empty ≡ has_statement (block_of (map plain_stmt list))
any_of [] true h = refl
any_of [] false h = absurd (false≢true (h.1 refl))
any_of (s ∷ list) true h = absurd (none (h.0 refl))
  where
    none : (s ∷ list) ≡ [] → ⊥
    none e = cc
any_of (s ∷ list) false h = refl

pub any_statement : (b : Body) (empty : Bool) → (IsTrue empty ↔ (b.list ≡ [])) → not empty ≡ has_statement (plain_body b)
any_statement b empty h = any_of b.list empty h ∙ ap has_statement (sym (plain_body-list b))

-- ---- one statement after another

pub behind_both : (k : Counters) (n m : ℕ) → behind (behind k n) m ≡ behind k (n + m)
behind_both (by_item cell) n m = refl
behind_both (in_order cell) n m = ap in_order (sum cell n m)
  where
    sum : (x y z : ℕ) → x + y + z ≡ x + (y + z)
    sum x y z = omega arith

pub code_step : (vars : List Var) (old new : List Line) (s : Stmt) (rest : Block) (k k' : Counters) → new ≡ old ++ stmt_code s vars (length old) k → k' ≡ behind k (stmt_loops s) →
    new ++ block_code rest vars (length new) k' ≡ old ++ block_code (next s rest) vars (length old) k
code_step vars old new s rest k k' e is =
    let first = stmt_code s vars (length old) k in
    let others = behind k (stmt_loops s) in
    ap (λ (c : Counters). new ++ block_code rest vars (length new) c) is
    ∙ ap (λ (l : List Line). l ++ block_code rest vars (length l) others) e
    ∙ append_assoc old first (block_code rest vars (length (old ++ first)) others)
    ∙ ap (λ n. old ++ (first ++ block_code rest vars n others)) (length-append old first)

-- ---- a line that is set

set_at : (a b : List Line) (x y : Line) (n : ℕ) → n ≡ length a → slice_set (a ++ (x ∷ b)) n y ≡ a ++ (y ∷ b)
set_at a b x y n e = ap (λ k. slice_set (a ++ (x ∷ b)) k y) e ∙ here a
  where
    here : (c : List Line) → slice_set (c ++ (x ∷ b)) (length c) y ≡ c ++ (y ∷ b)
    here [] = refl
    here (z ∷ c) = ap (λ (l : List Line). z ∷ l) (here c)

-- behind a test, in front of other lines
regroup : (a e y z : List Line) (x : Line) → ((a ++ (e ++ (x ∷ []))) ++ y) ++ z ≡ (a ++ e) ++ (x ∷ (y ++ z))
regroup [] [] y z x = refl
regroup [] (l ∷ e) y z x = ap (λ (m : List Line). l ∷ m) (regroup [] e y z x)
regroup (l ∷ a) e y z x = ap (λ (m : List Line). l ∷ m) (regroup a e y z x)

-- the branch behind a test, set when the lines behind it are there
set_branch : (old test behind_it more now : List Line) (x y : Line) (branch : ℕ) → now ≡ (old ++ (test ++ (x ∷ []))) ++ behind_it → branch ≡ length old + length test →
    slice_set (now ++ more) branch y ≡ old ++ (test ++ (y ∷ (behind_it ++ more)))
set_branch old test behind_it more now x y branch e is =
    ap (λ (l : List Line). slice_set l branch y) (ap (λ (l : List Line). l ++ more) e ∙ regroup old test behind_it more x)
    ∙ set_at (old ++ test) (behind_it ++ more) x y branch (omega (arith, is, length-append old test))
    ∙ append_assoc old test (y ∷ (behind_it ++ more))

-- the jump in front of other code, set when that is there
set_jump : (old test taken other now : List Line) (b x y : Line) (jump : ℕ) → now ≡ old ++ (test ++ (b ∷ (taken ++ (x ∷ [])))) → jump ≡ length old + length test + 1 + length taken →
    slice_set (now ++ other) jump y ≡ old ++ (test ++ (b ∷ (taken ++ (y ∷ other))))
set_jump old test taken other now b x y jump e is =
    let front = old ++ (test ++ (b ∷ taken)) in
    ap (λ (l : List Line). slice_set (l ++ other) jump y) e
    ∙ ap (λ (l : List Line). slice_set l jump y) (inner old test)
    ∙ set_at front other x y jump (omega (arith, is, length-append old (test ++ (b ∷ taken)), length-append test (b ∷ taken)))
    ∙ append_assoc old (test ++ (b ∷ taken)) (y ∷ other) ∙ ap (λ (l : List Line). old ++ l) (append_assoc test (b ∷ taken) (y ∷ other))
  where
    within : (ys : List Line) → (ys ++ (x ∷ [])) ++ other ≡ ys ++ (x ∷ other)
    within ys = append_assoc ys (x ∷ []) other

    inner : (c d : List Line) → (c ++ (d ++ (b ∷ (taken ++ (x ∷ []))))) ++ other ≡ (c ++ (d ++ (b ∷ taken))) ++ (x ∷ other)
    inner [] [] = ap (λ (m : List Line). b ∷ m) (within taken)
    inner [] (l ∷ d) = ap (λ (m : List Line). l ∷ m) (inner [] d)
    inner (l ∷ c) d = ap (λ (m : List Line). l ∷ m) (inner c d)

-- ---- an `if`

module _ (id : ℕ) (test : Expr) (held : Block) (vars : List Var) (k : Counters) (old tested : List Line) (branch : ℕ)
    (is_tested : tested ≡ old ++ (expr_code test vars 0 ++ at 1 (Branch 0))) (is_branch : branch ≡ length old + length (expr_code test vars 0)) where
  abbrev before : List Line
  before = expr_code test vars 0

  abbrev taken : List Line
  taken = block_code held vars (length tested) k

  yes_at : length tested ≡ length old + length before + 1
  yes_at = omega (arith, ap (λ (l : List Line). length l) is_tested, length-append old (before ++ at 1 (Branch 0)), length-append before (at 1 (Branch 0)))

  -- without other code
  choice_alone : (now parted : List Line) → now ≡ tested ++ taken → parted ≡ slice_set (now ++ []) branch (record { instr = Branch (length (now ++ [])); depth = 1 }) →
      parted ++ [] ≡ old ++ stmt_code (choice id test held done) vars (length old) k
  choice_alone now parted is_now is_parted =
      let target : length (now ++ []) ≡ length tested + length taken =
      omega (arith, length-append now [], ap (λ (l : List Line). length l) is_now, length-append tested taken) in
      append-nil parted ∙ is_parted
      ∙ set_branch old before taken [] now (record { instr = Branch 0; depth = 1 }) (record { instr = Branch (length (now ++ [])); depth = 1 }) branch (is_now ∙ ap (λ (l : List Line). l ++ taken) is_tested) is_branch
      ∙ ap (λ (l : List Line). old ++ (before ++ (at 1 (Branch (length (now ++ []))) ++ l))) (append-nil taken)
      ∙ ap (λ n. old ++ (before ++ (at 1 (Branch n) ++ taken))) target
      ∙ ap (λ from. let y = block_code held vars from k in old ++ (before ++ (at 1 (Branch (from + length y)) ++ y))) yes_at

  -- with other code
  choice_both : (s : Stmt) (rest : Block) (k' : Counters) (now parted : List Line) (jump : ℕ) → now ≡ tested ++ taken → jump ≡ length now →
      parted ≡ slice_set (now ++ at 0 (Jump 0)) branch (record { instr = Branch (length (now ++ at 0 (Jump 0))); depth = 1 }) → k' ≡ behind k (loops held) →
      slice_set (parted ++ block_code (next s rest) vars (length parted) k') jump (record { instr = Jump (length (parted ++ block_code (next s rest) vars (length parted) k')); depth = 0 })
      ≡ old ++ stmt_code (choice id test held (next s rest)) vars (length old) k
  choice_both s rest k' now parted jump is_now is_jump is_parted is_k' =
      let other = next s rest in
      let skipped = block_code other vars (length parted) k' in
      let b : Line = record { instr = Branch (length (now ++ at 0 (Jump 0))); depth = 1 } in
      let j : Line = record { instr = Jump (length (parted ++ skipped)); depth = 0 } in
      let shape : parted ≡ old ++ (before ++ (b ∷ (taken ++ at 0 (Jump 0)))) =
      is_parted ∙ set_branch old before taken (at 0 (Jump 0)) now (record { instr = Branch 0; depth = 1 }) b branch (is_now ∙ ap (λ (l : List Line). l ++ taken) is_tested) is_branch in
      let now_long : length now ≡ length tested + length taken = omega (arith, ap (λ (l : List Line). length l) is_now, length-append tested taken) in
      let target : length (now ++ at 0 (Jump 0)) ≡ length tested + (length taken + 1) = omega (arith, length-append now (at 0 (Jump 0)), now_long) in
      let no_at : length parted ≡ length tested + (length taken + 1) =
      omega (arith, ap (λ (l : List Line). length l) is_parted, length-set (now ++ at 0 (Jump 0)) branch b, target) in
      let end : length (parted ++ skipped) ≡ length tested + length taken + 1 + length skipped = omega (arith, length-append parted skipped, no_at) in
      set_jump old before taken skipped parted b (record { instr = Jump 0; depth = 0 }) j jump shape (omega (arith, is_jump, now_long, yes_at))
      ∙ ap (λ n. old ++ (before ++ (at 1 (Branch n) ++ (taken ++ (at 0 (Jump (length (parted ++ skipped))) ++ skipped))))) target
      ∙ ap (λ n. old ++ (before ++ (at 1 (Branch (length tested + (length taken + 1))) ++ (taken ++ (at 0 (Jump n) ++ skipped))))) end
      ∙ ap (λ n. let l = block_code other vars n k' in old ++ (before ++ (at 1 (Branch (length tested + (length taken + 1))) ++ (taken ++ (at 0 (Jump (length tested + length taken + 1 + length l)) ++ l))))) no_at
      ∙ ap (λ c. let l = block_code other vars (length tested + (length taken + 1)) c in
      old ++ (before ++ (at 1 (Branch (length tested + (length taken + 1))) ++ (taken ++ (at 0 (Jump (length tested + length taken + 1 + length l)) ++ l))))) is_k'
      ∙ ap (λ from. let y = block_code held vars from k in let l = block_code other vars (from + (length y + 1)) (behind k (loops held)) in
      old ++ (before ++ (at 1 (Branch (from + (length y + 1))) ++ (y ++ (at 0 (Jump (from + length y + 1 + length l)) ++ l))))) yes_at

  pub choice_put : (other : Block) (has : Bool) (k' : Counters) (now parted both end : List Line) (jump : ℕ) → has ≡ has_statement other → now ≡ tested ++ taken → jump ≡ length now →
      (let more = cond has (at 0 (Jump 0)) [] in parted ≡ slice_set (now ++ more) branch (record { instr = Branch (length (now ++ more)); depth = 1 })) → k' ≡ behind k (loops held) →
      both ≡ parted ++ block_code other vars (length parted) k' → end ≡ cond has (slice_set both jump (record { instr = Jump (length both); depth = 0 })) both →
      end ≡ old ++ stmt_code (choice id test held other) vars (length old) k
  choice_put done true k' now parted both end jump is is_now is_jump is_parted is_k' is_both is_end = absurd (false≢true (sym is))
  choice_put done false k' now parted both end jump is is_now is_jump is_parted is_k' is_both is_end = is_end ∙ is_both ∙ choice_alone now parted is_now is_parted
  choice_put (next s rest) false k' now parted both end jump is is_now is_jump is_parted is_k' is_both is_end = absurd (false≢true is)
  choice_put (next s rest) true k' now parted both end jump is is_now is_jump is_parted is_k' is_both is_end =
      is_end ∙ ap (λ (l : List Line). slice_set l jump (record { instr = Jump (length l); depth = 0 })) is_both ∙ choice_both s rest k' now parted jump is_now is_jump is_parted is_k'

-- ---- a `do` block

pub timed_put : (id : ℕ) (window : Window) (body : Block) (vars : List Var) (k : Counters) (old held new : List Line) →
    held ≡ old ++ hold_code (cond (has_event body) window.after None) → new ≡ held ++ block_code body vars (length held) k → new ≡ old ++ stmt_code (timed id window body) vars (length old) k
timed_put id window body vars k old held new e f =
    let hold = hold_code (cond (has_event body) window.after None) in
    f ∙ ap (λ (l : List Line). l ++ block_code body vars (length l) k) e ∙ append_assoc old hold (block_code body vars (length (old ++ hold)) k)
    ∙ ap (λ n. old ++ (hold ++ block_code body vars n k)) (length-append old hold)

-- ---- loops

abbrev for_start : List Var → ℕ → ℕ → List Line
for_start vars v counter = at 0 (Const (pos 0)) ++ (at 1 (Put counter) ++ (at 0 (Get counter) ++ at 1 (Put (place vars v))))

pub for_put : (v turns : ℕ) (body : Block) (vars : List Var) (counter top : ℕ) (old begun inner new : List Line) → begun ≡ old ++ for_start vars v counter → top ≡ length old + 2 →
    inner ≡ begun ++ block_code body vars (length begun) (in_order (counter + 1)) → new ≡ inner ++ at 0 (Loop counter turns top) →
    new ≡ old ++ act_code (for_loop v turns body) vars (length old) counter
for_put v turns body vars counter top old begun inner new e is f g =
    let start = for_start vars v counter in
    let loop = at 0 (Loop counter turns top) in
    let from : length begun ≡ length old + 4 = omega (arith, ap (λ (l : List Line). length l) e, length-append old start) in
    let code = block_code body vars (length begun) (in_order (counter + 1)) in
    g ∙ ap (λ (l : List Line). l ++ loop) f ∙ append_assoc begun code loop ∙ ap (λ (l : List Line). l ++ (code ++ loop)) e ∙ append_assoc old start (code ++ loop)
    ∙ ap (λ n. old ++ (start ++ (block_code body vars n (in_order (counter + 1)) ++ loop))) from
    ∙ ap (λ n. old ++ (start ++ (block_code body vars (length old + 4) (in_order (counter + 1)) ++ at 0 (Loop counter turns n)))) is

pub while_put : (test : Expr) (turns : ℕ) (body : Block) (vars : List Var) (counter top branch : ℕ) (old begun tested inner looped new : List Line) →
    begun ≡ old ++ (at 0 (Const (pos 0)) ++ at 1 (Put counter)) → top ≡ length old + 2 → tested ≡ begun ++ (expr_code test vars 0 ++ at 1 (Branch 0)) → branch ≡ length begun + length (expr_code test vars 0) →
    inner ≡ tested ++ block_code body vars (length tested) (in_order (counter + 1)) → looped ≡ inner ++ at 0 (Loop counter turns top) → new ≡ slice_set looped branch (record { instr = Branch (length looped); depth = 1 }) →
    new ≡ old ++ act_code (while_loop test turns body) vars (length old) counter
while_put test turns body vars counter top branch old begun tested inner looped new is_begun is_top is_tested is_branch is_inner is_looped is_new =
    let start = at 0 (Const (pos 0)) ++ at 1 (Put counter) in
    let before = expr_code test vars 0 in
    let loop = at 0 (Loop counter turns top) in
    let code = block_code body vars (length tested) (in_order (counter + 1)) in
    let b : Line = record { instr = Branch (length looped); depth = 1 } in
    let begun_long : length begun ≡ length old + 2 = omega (arith, ap (λ (l : List Line). length l) is_begun, length-append old start) in
    let from : length tested ≡ length old + 2 + length before + 1 =
    omega (arith, ap (λ (l : List Line). length l) is_tested, length-append begun (before ++ at 1 (Branch 0)), length-append before (at 1 (Branch 0)), begun_long) in
    let target : length looped ≡ length tested + length code + 1 =
    omega (arith, ap (λ (l : List Line). length l) is_looped, length-append inner loop, ap (λ (l : List Line). length l) is_inner, length-append tested code) in
    is_new ∙ ap (λ (l : List Line). slice_set l branch b) is_looped
    ∙ set_branch begun before code loop inner (record { instr = Branch 0; depth = 1 }) b branch (is_inner ∙ ap (λ (l : List Line). l ++ code) is_tested) is_branch
    ∙ ap (λ (l : List Line). l ++ (before ++ (b ∷ (code ++ loop)))) is_begun ∙ append_assoc old start (before ++ (b ∷ (code ++ loop)))
    ∙ ap (λ n. old ++ (start ++ (before ++ (at 1 (Branch n) ++ (code ++ loop))))) target
    ∙ ap (λ n. let l = block_code body vars n (in_order (counter + 1)) in old ++ (start ++ (before ++ (at 1 (Branch (n + length l + 1)) ++ (l ++ loop))))) from
    ∙ ap (λ n. let l = block_code body vars (length old + 2 + length before + 1) (in_order (counter + 1)) in
    old ++ (start ++ (before ++ (at 1 (Branch (length old + 2 + length before + 1 + length l + 1)) ++ (l ++ at 0 (Loop counter turns n)))))) is_top

pub nothing_behind : (k : Counters) → k ≡ behind k 0
nothing_behind (by_item cell) = refl
nothing_behind (in_order cell) = ap in_order (none cell)
  where
    none : (n : ℕ) → n ≡ n + 0
    none n = omega arith
