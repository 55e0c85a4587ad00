-- The parts of a checked task are in scope of the code's theorem.
use Rattle.std.proofs.Common.{◌≡◌, ℕ, zero, suc, ◌<◌, Bool, true, false, cond, ◌||◌, List, [], ◌∷◌, map, filter, length, refl, sym, subst, arith, inl, inr}
use Rattle.std.specs.List.{AllByRecursion}
use Rattle.std.proofs.lemmas.List.Elements.{recursion_from_All}
use Rattle.tcel_core.specs.declared.var.Var.{Var}
use Rattle.tcel_core.specs.declared.var.VarKind.{VarKind}
use Rattle.tcel_core.specs.Cells.{width, words_of}
use Rattle.tcel_core.specs.Frames.{is_state}
use Rattle.tcel_core.specs.Kinds.{Slicing, holds_kept, is_fetched}
use Rattle.tcel_core.specs.Language.{Expr, number, variable, element, unary, binary, Block, done, next, joined, Stmt, item, choice, timed, Act, assign, assign_at, receive, send, for_loop, while_loop, copy, Task}
use Rattle.tcel_core.specs.Limits.{IsCount, IsWithinBounds, StmtIsWithinBounds, ActIsWithinBounds}
use Rattle.tcel_core.specs.Parts.{added, added_variable, all_variables, copies, copy_of, fetches, first_of_block, first_of_stmt, has_rest, inside_number, is_split, live_variables, number_of, parts_of, renamed_act, renamed_block, renamed_expr, renamed_stmt, rest_of_block, rest_of_stmt, restores, saved, saves, split_choice, truth_of, variables, slicing_of}
use Rattle.tcel_core.specs.Paths.{Point, at_item, at_test, points, stmt_points}
use Rattle.tcel_core.specs.Scope.{ActFits, ActIsUntimed, AreAlike, AreTurns, Fits, HasWord, HaveOperands, IsInScope, IsSound, IsUntimed, LoopsAreUntimed, StmtFits, StmtIsUntimed, StmtLoopsAreUntimed}
use Rattle.tcel_core.specs.Sound.{IsDeclared, IsKind, IsSoundTask}
use Rattle.tcel_core.specs.Typing.{ActIsTyped, HasType, IsScalar, IsTyped, StmtIsTyped, ValueType, bool, int, operand_type}
use Rattle.tcel_core.proofs.Scope.{array_within}
use Rattle.tcel_parts.proofs.Alike.{IsRenaming, scalar_some, scalar_there}
use Rattle.tcel_parts.proofs.Members.{In, in_left, in_mapped, in_right}
use Rattle.tcel_parts.proofs.NewVariables.{inside_renames, own_renames, truth_in, width_added, width_copy, width_saved}
use Rattle.tcel_parts.proofs.PartsProper.{fetch_wide, fetched_is, live_kind, own_act, own_expr, restore_wide, save_wide}
use Rattle.tcel_parts.proofs.PartsWrite.{live_is}
use Rattle.tcel_parts.proofs.States.{state_words-append}
use Rattle.tcel_parts.specs.Fitting.{OwnPartsAreInScope, PartsAreInScope}

-- ---- a part of statements

either_block : (P : Block → Type 0) (c : Bool) (b : Block) → P done → (c ≡ true → P b) → P (cond c b done)
either_block P true b none some = some refl
either_block P false b none some = none

fits-joined : (vars : List Var) (a b : Block) → Fits a vars → Fits b vars → Fits (joined a b) vars
fits-joined vars done b h g = g
fits-joined vars (next t rest) b h g = (h.0, fits-joined vars rest b h.1 g)

untimed_loops-joined : (a b : Block) → LoopsAreUntimed a → LoopsAreUntimed b → LoopsAreUntimed (joined a b)
untimed_loops-joined done b h g = g
untimed_loops-joined (next t rest) b h g = (h.0, untimed_loops-joined rest b h.1 g)

untimed-joined : (a b : Block) → IsUntimed a → IsUntimed b → IsUntimed (joined a b)
untimed-joined done b h g = g
untimed-joined (next t rest) b h g = (h.0, untimed-joined rest b h.1 g)

copies_fit : (vars : List Var) (g h : ℕ → ℕ) (vs : List ℕ) → ((v : ℕ) → In vs v → AreAlike vars (g v) (h v)) → Fits (copies (map (λ v. (g v, h v)) vs)) vars
copies_fit vars g h [] alike = tt
copies_fit vars g h (v ∷ vs) alike = (alike v (inl refl), copies_fit vars g h vs (λ w there. alike w (inr there)))

copies_untimed : (g h : ℕ → ℕ) (vs : List ℕ) → IsUntimed (copies (map (λ v. (g v, h v)) vs))
copies_untimed g h [] = tt
copies_untimed g h (v ∷ vs) = (tt, copies_untimed g h vs)

copies_untimed_loops : (g h : ℕ → ℕ) (vs : List ℕ) → LoopsAreUntimed (copies (map (λ v. (g v, h v)) vs))
copies_untimed_loops g h [] = tt
copies_untimed_loops g h (v ∷ vs) = (tt, copies_untimed_loops g h vs)

-- ---- statements over other numbers

has_word : (vars : List Var) (v : ℕ) → 0 < width vars v → HasWord vars v
has_word vars v h = let within = array_within vars v in omega arith

are_turns : (n : ℕ) → IsCount n → AreTurns n
are_turns n h = let some = h.some in let most = h.most in record { some = omega arith; countable = omega arith }

module _ (vars vars' : List Var) (f : ℕ → ℕ) (renames : IsRenaming vars vars' f) where
  scalar_has_word : (v : ℕ) (type : ValueType) → IsScalar vars v type → HasWord vars' (f v)
  scalar_has_word v type h = has_word vars' (f v) (subst (λ n. 0 < n) (renames.wide v (scalar_there vars v type h)) (scalar_some vars v type h))

  renamed_operands : (e : Expr) (type : ValueType) → HasType vars e type → HaveOperands (renamed_expr f e)
  renamed_operands (number n) type h = tt
  renamed_operands (variable v) type h = tt
  renamed_operands (element v i) type h = renamed_operands i int h.2
  renamed_operands (unary op e) type h = (h.0, renamed_operands e (operand_type op) h.2)
  renamed_operands (binary op a b) type h = (h.0, renamed_operands a (operand_type op) h.2, renamed_operands b (operand_type op) h.3)

  renamed_scope : (e : Expr) (type : ValueType) → HasType vars e type → IsInScope vars' (renamed_expr f e)
  renamed_scope (number n) type h = tt
  renamed_scope (variable v) type h = scalar_has_word v type h
  renamed_scope (element v i) type h = renamed_scope i int h.2
  renamed_scope (unary op e) type h = renamed_scope e (operand_type op) h.2
  renamed_scope (binary op a b) type h = (renamed_scope a (operand_type op) h.2, renamed_scope b (operand_type op) h.3)

  renamed_sound : (e : Expr) (type : ValueType) → HasType vars e type → IsSound vars' (renamed_expr f e)
  renamed_sound e type h = record { operands = renamed_operands e type h; scope = renamed_scope e type h }

  module _ (ins outs : ℕ) where
    mutual
      renamed_fits : (b : Block) → IsTyped (record { vars = vars; inputs = ins; outputs = outs }) b → IsWithinBounds b → Fits (renamed_block f b) vars'
      renamed_fits done h k = tt
      renamed_fits (next t rest) h k = (stmt_renamed_fits t h.0 k.0, renamed_fits rest h.1 k.1)

      stmt_renamed_fits : (t : Stmt) → StmtIsTyped (record { vars = vars; inputs = ins; outputs = outs }) t → StmtIsWithinBounds t → StmtFits (renamed_stmt f t) vars'
      stmt_renamed_fits (item id act) h k = act_renamed_fits act h k
      stmt_renamed_fits (choice id test held other) h k = (renamed_sound test bool h.0, renamed_fits held h.1 k.1, renamed_fits other h.2 k.2)
      stmt_renamed_fits (timed id window body) h k = renamed_fits body h k.1

      act_renamed_fits : (act : Act) → ActIsTyped (record { vars = vars; inputs = ins; outputs = outs }) act → ActIsWithinBounds act → ActFits (renamed_act f act) vars'
      act_renamed_fits (assign v e) h k = (scalar_has_word v h.0 h.1, renamed_sound e h.0 h.2)
      act_renamed_fits (assign_at v i e) h k = (renamed_sound i int h.1, renamed_sound e int h.2)
      act_renamed_fits (receive v port) h k = scalar_has_word v int h.0
      act_renamed_fits (send e port) h k = renamed_sound e int h.0
      act_renamed_fits (for_loop v n body) h k = (scalar_has_word v int h.0, are_turns n k.0, renamed_fits body h.1 k.1)
      act_renamed_fits (while_loop test n body) h k = (renamed_sound test bool h.0, are_turns n k.1, renamed_fits body h.1 k.2)
      act_renamed_fits (copy from to) h k = absurd h

module _ (f : ℕ → ℕ) where
  mutual
    renamed_untimed : (b : Block) → IsUntimed b → IsUntimed (renamed_block f b)
    renamed_untimed done h = tt
    renamed_untimed (next t rest) h = (stmt_renamed_untimed t h.0, renamed_untimed rest h.1)

    stmt_renamed_untimed : (t : Stmt) → StmtIsUntimed t → StmtIsUntimed (renamed_stmt f t)
    stmt_renamed_untimed (item id act) h = act_renamed_untimed act h
    stmt_renamed_untimed (choice id test held other) h = (renamed_untimed held h.0, renamed_untimed other h.1)
    stmt_renamed_untimed (timed id window body) h = absurd h

    act_renamed_untimed : (act : Act) → ActIsUntimed act → ActIsUntimed (renamed_act f act)
    act_renamed_untimed (assign v e) h = tt
    act_renamed_untimed (assign_at v i e) h = tt
    act_renamed_untimed (receive v port) h = tt
    act_renamed_untimed (send e port) h = tt
    act_renamed_untimed (for_loop v n body) h = renamed_untimed body h
    act_renamed_untimed (while_loop test n body) h = renamed_untimed body h
    act_renamed_untimed (copy from to) h = tt

-- ---- no `do` block where none may stand

module _ (s : Slicing) where
  split_untimed : (n : ℕ) (test : Expr) (c : Bool) (held other : Block) → LoopsAreUntimed held → LoopsAreUntimed other → LoopsAreUntimed (split_choice s n test c held other)
  split_untimed n test true held other h g = (tt, ((h, g), tt))
  split_untimed n test false held other h g = ((h, g), tt)

  mutual
    first_untimed : (b : Block) → LoopsAreUntimed b → LoopsAreUntimed (first_of_block s b)
    first_untimed done h = tt
    first_untimed (next t rest) h = untimed_loops-joined (first_of_stmt s t) (first_of_block s rest) (stmt_first_untimed t h.0) (first_untimed rest h.1)

    stmt_first_untimed : (t : Stmt) → StmtLoopsAreUntimed t → LoopsAreUntimed (first_of_stmt s t)
    stmt_first_untimed (item n act) h =
        either_block LoopsAreUntimed (s.kept n) (next (item n (renamed_act (inside_number s) act)) (saves s n)) tt
        (λ _. (act_renamed_untimed (inside_number s) act h, copies_untimed_loops (λ v. number_of s (copy_of v)) (λ v. number_of s (saved n v)) (live_variables s n)))
    stmt_first_untimed (choice n test held other) h =
        either_block LoopsAreUntimed (holds_kept s held || holds_kept s other)
        (split_choice s n (renamed_expr (inside_number s) test) (is_split s held other) (first_of_block s held) (first_of_block s other)) tt
        (λ _. split_untimed n (renamed_expr (inside_number s) test) (is_split s held other) (first_of_block s held) (first_of_block s other) (first_untimed held h.0) (first_untimed other h.1))
    stmt_first_untimed (timed n window body) h =
        either_block LoopsAreUntimed (holds_kept s body) (next (timed n window (first_of_block s body)) done) tt (λ _. (first_untimed body h, tt))

  mutual
    rest_untimed : (b : Block) → LoopsAreUntimed b → IsUntimed (rest_of_block s b)
    rest_untimed done h = tt
    rest_untimed (next t rest) h = untimed-joined (rest_of_stmt s t) (rest_of_block s rest) (stmt_rest_untimed t h.0) (rest_untimed rest h.1)

    stmt_rest_untimed : (t : Stmt) → StmtLoopsAreUntimed t → IsUntimed (rest_of_stmt s t)
    stmt_rest_untimed (item n act) h = chosen (s.kept n)
      where
        chosen : (c : Bool) → IsUntimed (cond c (restores s n) (next (item n act) done))
        chosen true = copies_untimed (λ v. number_of s (saved n v)) (λ v. v) (live_variables s n)
        chosen false = (h, tt)
    stmt_rest_untimed (choice n test held other) h =
        either_block IsUntimed (has_rest s held || has_rest s other)
        (next (choice n (cond (is_split s held other) (variable (number_of s (truth_of n))) test) (rest_of_block s held) (rest_of_block s other)) done) tt
        (λ _. ((rest_untimed held h.0, rest_untimed other h.1), tt))
    stmt_rest_untimed (timed n window body) h = rest_untimed body h

-- ---- both parts over the variables of both

module _ (s : Slicing) (ins outs : ℕ) (wide : (v : ℕ) → v < length s.vars → 0 < width s.vars v) where
  truth_has_word : (n : ℕ) (test : Expr) (held other : Block) → In (points s.body) (at_test n test held other) → is_split s held other ≡ true → HasWord (all_variables s) (number_of s (truth_of n))
  truth_has_word n test held other there e =
      let one = width_added s (truth_of n) (truth_in s n test held other there e) in has_word (all_variables s) (number_of s (truth_of n)) (omega arith)

  saves_alike : (n : ℕ) (act : Act) → In (points s.body) (at_item n act) → s.kept n ≡ true → (v : ℕ) → In (live_variables s n) v →
      AreAlike (all_variables s) (number_of s (copy_of v)) (number_of s (saved n v))
  saves_alike n act there kept v h =
      let l = live_is s n v h in
      record {
        same = save_wide s ins outs n act there kept v h;
        some = subst (λ k. 0 < k) (width_copy s v l.0 (live_kind s ins outs n v l.1)) (wide v l.0);
      }

  restores_alike : (n : ℕ) (act : Act) → In (points s.body) (at_item n act) → s.kept n ≡ true → (v : ℕ) → In (live_variables s n) v →
      AreAlike (all_variables s) (number_of s (saved n v)) v
  restores_alike n act there kept v h =
      let l = live_is s n v h in
      record {
        same = restore_wide s ins outs n act there kept v h;
        some = subst (λ k. 0 < k) (width_saved s n v act there kept l.0 l.1) (wide v l.0);
      }

  fetches_alike : (v : ℕ) → In (filter (is_fetched s) (variables s)) v → AreAlike (all_variables s) v (number_of s (copy_of v))
  fetches_alike v h =
      let f = fetched_is s ins outs v h in
      record {
        same = fetch_wide s ins outs v h;
        some = subst (λ k. 0 < k) ((own_renames s).wide v f.0) (wide v f.0);
      }

  split_fits : (n : ℕ) (test : Expr) (c : Bool) (held other : Block) → IsSound (all_variables s) test → (c ≡ true → HasWord (all_variables s) (number_of s (truth_of n))) →
      Fits held (all_variables s) → Fits other (all_variables s) → Fits (split_choice s n test c held other) (all_variables s)
  split_fits n test true held other sound word h g = ((word refl, sound), ((record { operands = tt; scope = word refl }, h, g), tt))
  split_fits n test false held other sound word h g = ((sound, h, g), tt)

  mutual
    first_fits : (b : Block) → ((p : Point) → In (points b) p → In (points s.body) p) → IsTyped (record { vars = s.vars; inputs = ins; outputs = outs }) b → IsWithinBounds b → Fits (first_of_block s b) (all_variables s)
    first_fits done inside h k = tt
    first_fits (next t rest) inside h k =
        fits-joined (all_variables s) (first_of_stmt s t) (first_of_block s rest)
        (stmt_first_fits t (λ p there. inside p (in_left (stmt_points t) (points rest) p there)) h.0 k.0) (first_fits rest (λ p there. inside p (in_right (stmt_points t) (points rest) p there)) h.1 k.1)

    stmt_first_fits : (t : Stmt) → ((p : Point) → In (stmt_points t) p → In (points s.body) p) → StmtIsTyped (record { vars = s.vars; inputs = ins; outputs = outs }) t → StmtIsWithinBounds t → Fits (first_of_stmt s t) (all_variables s)
    stmt_first_fits (item n act) inside h k =
        either_block (λ b. Fits b (all_variables s)) (s.kept n) (next (item n (renamed_act (inside_number s) act)) (saves s n)) tt
        (λ kept. (
          act_renamed_fits s.vars (all_variables s) (inside_number s) (inside_renames s) ins outs act h k,
          copies_fit (all_variables s) (λ v. number_of s (copy_of v)) (λ v. number_of s (saved n v)) (live_variables s n) (saves_alike n act (inside (at_item n act) (inl refl)) kept),
        ))
    stmt_first_fits (choice n test held other) inside h k =
        either_block (λ b. Fits b (all_variables s)) (holds_kept s held || holds_kept s other)
        (split_choice s n (renamed_expr (inside_number s) test) (is_split s held other) (first_of_block s held) (first_of_block s other)) tt
        (λ _. split_fits n (renamed_expr (inside_number s) test) (is_split s held other) (first_of_block s held) (first_of_block s other)
        (renamed_sound s.vars (all_variables s) (inside_number s) (inside_renames s) test bool h.0)
        (truth_has_word n test held other (inside (at_test n test held other) (inl refl)))
        (first_fits held (λ p there. inside p (inr (in_left (points held) (points other) p there))) h.1 k.1)
        (first_fits other (λ p there. inside p (inr (in_right (points held) (points other) p there))) h.2 k.2))
    stmt_first_fits (timed n window body) inside h k =
        either_block (λ b. Fits b (all_variables s)) (holds_kept s body) (next (timed n window (first_of_block s body)) done) tt (λ _. (first_fits body inside h k.1, tt))

  rest_test : (n : ℕ) (test : Expr) (c : Bool) → HasType s.vars test bool → (c ≡ true → HasWord (all_variables s) (number_of s (truth_of n))) →
      IsSound (all_variables s) (cond c (variable (number_of s (truth_of n))) test)
  rest_test n test true h word = record { operands = tt; scope = word refl }
  rest_test n test false h word = subst (IsSound (all_variables s)) (own_expr test) (renamed_sound s.vars (all_variables s) (λ v. v) (own_renames s) test bool h)

  mutual
    rest_fits : (b : Block) → ((p : Point) → In (points b) p → In (points s.body) p) → IsTyped (record { vars = s.vars; inputs = ins; outputs = outs }) b → IsWithinBounds b → Fits (rest_of_block s b) (all_variables s)
    rest_fits done inside h k = tt
    rest_fits (next t rest) inside h k =
        fits-joined (all_variables s) (rest_of_stmt s t) (rest_of_block s rest)
        (stmt_rest_fits t (λ p there. inside p (in_left (stmt_points t) (points rest) p there)) h.0 k.0) (rest_fits rest (λ p there. inside p (in_right (stmt_points t) (points rest) p there)) h.1 k.1)

    stmt_rest_fits : (t : Stmt) → ((p : Point) → In (stmt_points t) p → In (points s.body) p) → StmtIsTyped (record { vars = s.vars; inputs = ins; outputs = outs }) t → StmtIsWithinBounds t → Fits (rest_of_stmt s t) (all_variables s)
    stmt_rest_fits (item n act) inside h k = chosen (s.kept n) refl
      where
        chosen : (c : Bool) → s.kept n ≡ c → Fits (cond c (restores s n) (next (item n act) done)) (all_variables s)
        chosen true e = copies_fit (all_variables s) (λ v. number_of s (saved n v)) (λ v. v) (live_variables s n) (restores_alike n act (inside (at_item n act) (inl refl)) e)
        chosen false e = (subst (λ a. ActFits a (all_variables s)) (own_act act) (act_renamed_fits s.vars (all_variables s) (λ v. v) (own_renames s) ins outs act h k), tt)
    stmt_rest_fits (choice n test held other) inside h k =
        either_block (λ b. Fits b (all_variables s)) (has_rest s held || has_rest s other)
        (next (choice n (cond (is_split s held other) (variable (number_of s (truth_of n))) test) (rest_of_block s held) (rest_of_block s other)) done) tt
        (λ _. (
          (
            rest_test n test (is_split s held other) h.0 (truth_has_word n test held other (inside (at_test n test held other) (inl refl))),
            rest_fits held (λ p there. inside p (inr (in_left (points held) (points other) p there))) h.1 k.1,
            rest_fits other (λ p there. inside p (inr (in_right (points held) (points other) p there))) h.2 k.2,
          ),
          tt,
        ))
    stmt_rest_fits (timed n window body) inside h k = rest_fits body inside h k.1

-- ---- a checked task

kind_wide : (kind : VarKind) → IsKind kind → 0 < words_of kind
kind_wide VarKind.Int h = omega arith
kind_wide VarKind.Bool h = omega arith
kind_wide (VarKind.Array n) h = let some = h.some in omega arith

declared_wide : (vars : List Var) → AllByRecursion IsDeclared vars → (v : ℕ) → v < length vars → 0 < width vars v
declared_wide [] h v less = absurd (omega arith)
declared_wide (x ∷ vars) h zero less = let some = kind_wide x.kind (h.0).kind in omega arith
declared_wide (x ∷ vars) h (suc v) less = declared_wide vars h.1 v (omega arith)

module _ (task : Task) (kept : ℕ → Bool) (sound : IsSoundTask task) where
  abbrev s : Slicing
  s = slicing_of task kept

  abbrev ins : ℕ
  ins = length task.inputs

  abbrev outs : ℕ
  outs = length task.outputs

  wide : (v : ℕ) → v < length task.vars → 0 < width task.vars v
  wide = declared_wide task.vars (recursion_from_All IsDeclared task.vars sound.declarations.variables)

  none_added : (x : Var) → In (map (added_variable task.vars) (added s)) x → is_state x.keep ≡ false
  none_added x h = let r = in_mapped (added_variable task.vars) (added s) x h in subst (λ (y : Var). is_state y.keep ≡ false) r.2 refl

  pub parts_fit : PartsAreInScope task (parts_of s)
  parts_fit =
      record {
        states = state_words-append task.vars (map (added_variable task.vars) (added s)) none_added;
        first =
            fits-joined (all_variables s) (fetches s) (first_of_block s task.body)
            (copies_fit (all_variables s) (λ v. v) (λ v. number_of s (copy_of v)) (filter (is_fetched s) (variables s)) (fetches_alike s ins outs wide))
            (first_fits s ins outs wide task.body (λ p there. there) sound.body.typed sound.body.bounded);
        rest = rest_fits s ins outs wide task.body (λ p there. there) sound.body.typed sound.body.bounded;
        loops =
            untimed_loops-joined (fetches s) (first_of_block s task.body)
            (copies_untimed_loops (λ v. v) (λ v. number_of s (copy_of v)) (filter (is_fetched s) (variables s))) (first_untimed s task.body sound.body.untimed);
        untimed = rest_untimed s task.body sound.body.untimed;
      }

pub own_parts_fit : OwnPartsAreInScope
own_parts_fit task parts sound own = subst (PartsAreInScope task) (sym own.are) (parts_fit task own.kept sound)
