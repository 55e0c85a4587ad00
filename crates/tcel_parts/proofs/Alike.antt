-- One statement over two memories whose variables have other numbers, and equal words where it reads.
use Rattle.std.proofs.Common.{◌≡◌, ◌≢◌, ℕ, zero, suc, ◌+◌, ◌<◌, Bool, true, false, cond, ◌||◌, ◌==◌, ℤ, pos, List, [], ◌∷◌, ◌++◌, length, get_or, set, refl, sym, ap, ◌∙◌, subst, arith, eqb-true, eq-eqb, length-set, ◌⊎◌, inl, inr}
use Rattle.std.specs.Prelude.{Some, slice_get, IfSome}
use Rattle.std.proofs.lemmas.Bool.{or_left, or_right, cases_lt}
use Rattle.std.proofs.lemmas.Option.{none-some, slice_get_within}
use Rattle.tcel_num.specs.Arithmetic.{holds, unary_value, binary_value}
use Rattle.tcel_core.specs.declared.event.EventKind.TheVariants.{Receive, Send}
use Rattle.tcel_core.specs.declared.var.Var.{Var}
use Rattle.tcel_core.specs.declared.var.VarKind.{VarKind}
use Rattle.tcel_core.specs.Cells.{all_words, place, width, set_word, element_at, set_element, words_of}
use Rattle.tcel_core.specs.Contents.{has_event, stmt_has_event, act_has_event}
use Rattle.tcel_core.specs.Language.{Expr, number, variable, element, unary, binary, Block, done, next, Stmt, item, choice, timed, Act, assign, assign_at, receive, send, for_loop, while_loop, copy}
use Rattle.tcel_core.specs.Meaning.{exec, exec_act, exec_stmt, value, with_cells, next_input, tail, head_or_zero}
use Rattle.tcel_core.specs.Outcome.{Memory, Outcome, enclosed, event, quiet, rounds, rounds_while, then_run}
use Rattle.tcel_core.specs.Parts.{renamed_expr, renamed_block, renamed_stmt, renamed_act}
use Rattle.tcel_core.specs.Typing.{HasType, IsScalar, IsArray, IsTyped, StmtIsTyped, ActIsTyped, ValueType, int, bool, scalar_type, operand_type}
use Rattle.tcel_core.specs.Uses.{expr_reads, block_writes, stmt_writes, act_writes, block_reads, stmt_reads, act_reads}
use Rattle.tcel_num.proofs.Words.{length-with_element}
use Rattle.tcel_parts.proofs.Stores.{at, word_at, at_set_same, at_set_other, element_read, element_written, at_element_other}

-- ---- widths of variables

pub width_there : (vars : List Var) (v : ℕ) (x : Var) → slice_get vars v ≡ Some x → width vars v ≡ words_of x.kind
width_there [] v x h = absurd (none-some x h)
width_there (y ∷ vars) zero x h = subst (λ o. IfSome o (λ z. words_of y.kind + 0 ≡ words_of z.kind)) h (omega arith)
width_there (y ∷ vars) (suc v) x h = width_there vars v x h

scalar_words : (kind : VarKind) (type : ValueType) → scalar_type kind ≡ Some type → words_of kind ≡ 1
scalar_words VarKind.Int type h = refl
scalar_words VarKind.Bool type h = refl
scalar_words (VarKind.Array n) type h = absurd (none-some type h)

pub scalar_width : (vars : List Var) (v : ℕ) (type : ValueType) → IsScalar vars v type → width vars v ≡ 1
scalar_width vars v type h = width_there vars v h.0 h.1 ∙ scalar_words h.0.kind type h.2

pub scalar_some : (vars : List Var) (v : ℕ) (type : ValueType) → IsScalar vars v type → 0 < width vars v
scalar_some vars v type h = let one = scalar_width vars v type h in omega arith

pub scalar_there : (vars : List Var) (v : ℕ) (type : ValueType) → IsScalar vars v type → v < length vars
scalar_there vars v type h = slice_get_within vars v h.0 h.1

pub array_there : (vars : List Var) (v : ℕ) → IsArray vars v → v < length vars
array_there vars v h = slice_get_within vars v h.0 h.1

-- a variable with a word is there
pub has_place : (vars : List Var) (v i : ℕ) → i < width vars v → v < length vars
has_place [] zero i h = absurd (omega arith)
has_place [] (suc v) i h = absurd (omega arith)
has_place (x ∷ vars) zero i h = omega arith
has_place (x ∷ vars) (suc v) i h = let r = has_place vars v i h in omega arith

-- ---- two memories

-- variables of other numbers: as wide as before, and no two are one
pub record IsRenaming (vars vars' : List Var) (f : ℕ → ℕ) : Type 0 where
  pub wide : (v : ℕ) → v < length vars → width vars v ≡ width vars' (f v)
  pub distinct : (u v : ℕ) → u < length vars → v < length vars → u ≢ v → f u ≢ f v

-- the variables of the set have equal words
pub record Alike (S : ℕ → Bool) (vars vars' : List Var) (f : ℕ → ℕ) (cells cells' : List ℤ) : Type 0 where
  pub same : (v i : ℕ) → S v ≡ true → i < width vars v → at vars cells v i ≡ at vars' cells' (f v) i
  pub long : length cells ≡ all_words vars
  pub long' : length cells' ≡ all_words vars'

pub alike_fewer : (S T : ℕ → Bool) (vars vars' : List Var) (f : ℕ → ℕ) (cells cells' : List ℤ) → ((v : ℕ) → T v ≡ true → S v ≡ true) →
    Alike S vars vars' f cells cells' → Alike T vars vars' f cells cells'
alike_fewer S T vars vars' f cells cells' fewer h = record { same = λ v i there within. h.same v i (fewer v there) within; long = h.long; long' = h.long' }

-- both do the same; where inputs matter they are equal too
pub record DoAlike (matter : Bool) (S : ℕ → Bool) (vars vars' : List Var) (f : ℕ → ℕ) (o o' : Outcome) : Type 0 where
  pub events : o.events ≡ o'.events
  pub inputs : matter ≡ true → o.memory.inputs ≡ o'.memory.inputs
  pub cells : Alike S vars vars' f o.memory.cells o'.memory.cells

-- numbers are one or not
pub decide : (a b : ℕ) → (a ≡ b) ⊎ (a ≢ b)
decide a b =
    elim (cases_lt a b) [
      | inl less ↦ inr (λ e. absurd (omega arith))
      | inr past ↦
          elim (cases_lt b a) [
            | inl above ↦ inr (λ e. absurd (omega arith))
            | inr up ↦ inl (omega arith)
          ]
    ]

-- one of two
pub either : (a b : Bool) → (a || b) ≡ true → (a ≡ true) ⊎ (b ≡ true)
either true b h = inl refl
either false b h = inr h

-- the other way round
pub swapped : (a b : Bool) → (a || b) ≡ true → (b || a) ≡ true
swapped true b h = or_right b true refl
swapped false b h = or_left b false h

module _ (vars vars' : List Var) (f : ℕ → ℕ) (renames : IsRenaming vars vars' f) where
  -- ---- values

  pub value_alike : (e : Expr) (type : ValueType) (S : ℕ → Bool) (cells cells' : List ℤ) → HasType vars e type → ((v : ℕ) → expr_reads e v ≡ true → S v ≡ true) →
      Alike S vars vars' f cells cells' → value e vars cells ≡ value (renamed_expr f e) vars' cells'
  value_alike (number n) type S cells cells' typed reads alike = refl
  value_alike (variable v) type S cells cells' typed reads alike =
      word_at vars cells v ∙ (alike.same v 0 (reads v (eq-eqb v v refl)) (scalar_some vars v type typed) ∙ sym (word_at vars' cells' (f v)))
  value_alike (element v k) type S cells cells' typed reads alike =
      ap (element_at vars cells v) (value_alike k int S cells cells' typed.2 (λ u there. reads u (or_right (v == u) (expr_reads k u) there)) alike)
      ∙ element_read vars cells v vars' cells' (f v) (value (renamed_expr f k) vars' cells') (renames.wide v (array_there vars v typed.1))
      (λ i within. alike.same v i (reads v (or_left (v == v) (expr_reads k v) (eq-eqb v v refl))) within)
  value_alike (unary op e) type S cells cells' typed reads alike = ap (unary_value op) (value_alike e (operand_type op) S cells cells' typed.2 reads alike)
  value_alike (binary op a b) type S cells cells' typed reads alike =
      ap (λ x. binary_value op x (value b vars cells)) (value_alike a (operand_type op) S cells cells' typed.2 (λ u there. reads u (or_left (expr_reads a u) (expr_reads b u) there)) alike)
      ∙ ap (binary_value op (value (renamed_expr f a) vars' cells')) (value_alike b (operand_type op) S cells cells' typed.3 (λ u there. reads u (or_right (expr_reads a u) (expr_reads b u) there)) alike)

  -- ---- one word is set on both sides

  set_alike : (S : ℕ → Bool) (v : ℕ) (type : ValueType) (x x' : ℤ) (cells cells' : List ℤ) → IsScalar vars v type → x ≡ x' → Alike S vars vars' f cells cells' →
      Alike (λ u. S u || v == u) vars vars' f (set_word vars cells v x) (set_word vars' cells' (f v) x')
  set_alike S v type x x' cells cells' scalar same alike =
      record {
        same = λ u i there within. chosen u i (decide v u) (either (S u) (v == u) there) within;
        long = length-set cells (place vars v) x ∙ alike.long;
        long' = length-set cells' (place vars' (f v)) x' ∙ alike.long';
      }
    where
      some : 0 < width vars v
      some = scalar_some vars v type scalar

      wide : width vars v ≡ width vars' (f v)
      wide = renames.wide v (scalar_there vars v type scalar)

      written : (i : ℕ) → i < width vars v → at vars (set_word vars cells v x) v i ≡ at vars' (set_word vars' cells' (f v) x') (f v) i
      written i within =
          let none : i ≡ 0 = (let one = scalar_width vars v type scalar in omega arith) in
          subst (λ n. at vars (set_word vars cells v x) v n ≡ at vars' (set_word vars' cells' (f v) x') (f v) n) (sym none)
          (at_set_same vars cells v x alike.long some
          ∙ (same ∙ sym (at_set_same vars' cells' (f v) x' alike.long' (subst (λ n. 0 < n) wide some))))

      far : (u i : ℕ) → u ≢ v → S u ≡ true → i < width vars u → at vars (set_word vars cells v x) u i ≡ at vars' (set_word vars' cells' (f v) x') (f u) i
      far u i other there within =
          at_set_other vars cells v u i x other within some
          ∙ (alike.same u i there within
          ∙ sym
          (at_set_other vars' cells' (f v) (f u) i x' (renames.distinct u v (has_place vars u i within) (scalar_there vars v type scalar) other)
          (subst (λ n. i < n) (renames.wide u (has_place vars u i within)) within) (subst (λ n. 0 < n) wide some)))

      chosen : (u i : ℕ) → (v ≡ u) ⊎ (v ≢ u) → (S u ≡ true) ⊎ ((v == u) ≡ true) → i < width vars u →
          at vars (set_word vars cells v x) u i ≡ at vars' (set_word vars' cells' (f v) x') (f u) i
      chosen u i (inl one) _ within =
          subst (λ w. i < width vars w → at vars (set_word vars cells v x) w i ≡ at vars' (set_word vars' cells' (f v) x') (f w) i) one (written i) within
      chosen u i (inr other) (inl there) within = far u i (λ e. other (sym e)) there within
      chosen u i (inr other) (inr e) within = absurd (other (eqb-true v u e))

  -- ---- an element is set on both sides

  element_alike : (S : ℕ → Bool) (v : ℕ) (k k' x x' : ℤ) (cells cells' : List ℤ) → v < length vars → S v ≡ true → k ≡ k' → x ≡ x' → Alike S vars vars' f cells cells' →
      Alike S vars vars' f (set_element vars cells v k x) (set_element vars' cells' (f v) k' x')
  element_alike S v k k' x x' cells cells' there has place_same same alike =
      subst (λ y. Alike S vars vars' f (set_element vars cells v k x) (set_element vars' cells' (f v) k' y)) same
      (subst (λ j. Alike S vars vars' f (set_element vars cells v k x) (set_element vars' cells' (f v) j x)) place_same
      (record {
        same = λ u i in_set within. chosen u i (decide v u) in_set within;
        long = length-with_element cells (place vars v) (width vars v) k x ∙ alike.long;
        long' = length-with_element cells' (place vars' (f v)) (width vars' (f v)) k x ∙ alike.long';
      }))
    where
      chosen : (u i : ℕ) → (v ≡ u) ⊎ (v ≢ u) → S u ≡ true → i < width vars u → at vars (set_element vars cells v k x) u i ≡ at vars' (set_element vars' cells' (f v) k x) (f u) i
      chosen u i (inl one) in_set within =
          subst (λ w. i < width vars w → at vars (set_element vars cells v k x) w i ≡ at vars' (set_element vars' cells' (f v) k x) (f w) i) one
          (element_written vars cells v vars' cells' (f v) k x alike.long alike.long' (renames.wide v there) (λ j h. alike.same v j has h) i) within
      chosen u i (inr other) in_set within =
          at_element_other vars cells v u i k x (λ e. other (sym e)) within
          ∙ (alike.same u i in_set within
          ∙ sym
          (at_element_other vars' cells' (f v) (f u) i k x (renames.distinct u v (has_place vars u i within) there (λ e. other (sym e)))
          (subst (λ n. i < n) (renames.wide u (has_place vars u i within)) within)))

  -- ---- loops

  rounds_alike : (matter : Bool) (S : ℕ → Bool) (round round' : ℕ → Memory → Outcome) →
      ((j : ℕ) (k k' : Memory) → (matter ≡ true → k.inputs ≡ k'.inputs) → Alike S vars vars' f k.cells k'.cells → DoAlike matter S vars vars' f (round j k) (round' j k')) →
      (n : ℕ) (m m' : Memory) → (matter ≡ true → m.inputs ≡ m'.inputs) → Alike S vars vars' f m.cells m'.cells →
      DoAlike matter S vars vars' f (rounds n round m) (rounds n round' m')
  rounds_alike matter S round round' each zero m m' inputs alike = record { events = refl; inputs = inputs; cells = alike }
  rounds_alike matter S round round' each (suc n) m m' inputs alike =
      let o = rounds n round m in
      let o' = rounds n round' m' in
      let h = rounds_alike matter S round round' each n m m' inputs alike in
      let g = each n o.memory o'.memory h.inputs h.cells in
      record { events = ap (λ es. es ++ (round n o.memory).events) h.events ∙ ap (λ es. o'.events ++ es) g.events; inputs = g.inputs; cells = g.cells }

  while_alike : (matter : Bool) (S : ℕ → Bool) (test test' : Memory → Bool) (round round' : Memory → Outcome) →
      ((k k' : Memory) → Alike S vars vars' f k.cells k'.cells → test k ≡ test' k') →
      ((k k' : Memory) → (matter ≡ true → k.inputs ≡ k'.inputs) → Alike S vars vars' f k.cells k'.cells → DoAlike matter S vars vars' f (round k) (round' k')) →
      (n : ℕ) (m m' : Memory) → (matter ≡ true → m.inputs ≡ m'.inputs) → Alike S vars vars' f m.cells m'.cells →
      DoAlike matter S vars vars' f (rounds_while n test round m) (rounds_while n test' round' m')
  while_alike matter S test test' round round' tests each zero m m' inputs alike = record { events = refl; inputs = inputs; cells = alike }
  while_alike matter S test test' round round' tests each (suc n) m m' inputs alike =
      let o = round m in
      let o' = round' m' in
      let h = each m m' inputs alike in
      let g = while_alike matter S test test' round round' tests each n o.memory o'.memory h.inputs h.cells in
      let more = λ (k : Memory). then_run (round k) (rounds_while n test round) in
      let more' = λ (k : Memory). then_run (round' k) (rounds_while n test' round') in
      subst (λ b. DoAlike matter S vars vars' f ((cond (test m) more quiet) m) ((cond b more' quiet) m')) (tests m m' alike)
      (both (test m) more more'
      (record { events = ap (λ es. es ++ (rounds_while n test round o.memory).events) h.events ∙ ap (λ es. o'.events ++ es) g.events; inputs = g.inputs; cells = g.cells })
      (record { events = refl; inputs = inputs; cells = alike }))
    where
      both : (b : Bool) (more more' : Memory → Outcome) → DoAlike matter S vars vars' f (more m) (more' m') → DoAlike matter S vars vars' f (quiet m) (quiet m') →
          DoAlike matter S vars vars' f ((cond b more quiet) m) ((cond b more' quiet) m')
      both true more more' h g = h
      both false more more' h g = g

  -- ---- statements

  -- a branch is taken on both sides
  branches : (matter : Bool) (S : ℕ → Bool) (b b' : Bool) (x y x' y' : Memory → Outcome) (m m' : Memory) → b ≡ b' →
      DoAlike matter S vars vars' f (x m) (x' m') → DoAlike matter S vars vars' f (y m) (y' m') →
      DoAlike matter S vars vars' f ((cond b x y) m) ((cond b' x' y') m')
  branches matter S b b' x y x' y' m m' same h g =
      subst (λ c. DoAlike matter S vars vars' f ((cond b x y) m) ((cond c x' y') m')) same (chosen b)
    where
      chosen : (c : Bool) → DoAlike matter S vars vars' f ((cond c x y) m) ((cond c x' y') m')
      chosen true = h
      chosen false = g

  -- the named variables are in the set
  abbrev Named : (ℕ → Bool) → (ℕ → Bool) → Type 0
  Named S names = (v : ℕ) → names v ≡ true → S v ≡ true

  if_either : (a b : Bool) → cond a true b ≡ true → (a ≡ true) ⊎ (b ≡ true)
  if_either true b h = inl refl
  if_either false b h = inr h

  if_left : (a b : Bool) → a ≡ true → cond a true b ≡ true
  if_left a b h = ap (λ c. cond c true b) h

  if_right : (a b : Bool) → b ≡ true → cond a true b ≡ true
  if_right true b h = refl
  if_right false b h = h

  -- ---- which of several tests holds

  settled : (S : ℕ → Bool) (v u : ℕ) → S v ≡ true → (S u ≡ true) ⊎ ((v == u) ≡ true) → S u ≡ true
  settled S v u has (inl h) = h
  settled S v u has (inr e) = subst (λ w. S w ≡ true) (eqb-true v u e) has

  no_more : (b : Bool) → (b || false) ≡ true → b ≡ true
  no_more true h = refl
  no_more false h = h

  joined_in : (S : ℕ → Bool) (u : ℕ) (w : Bool) → (w ≡ true → S u ≡ true) → (S u || w) ≡ true → S u ≡ true
  joined_in S u w into there = or_both (either (S u) w there)
    where
      or_both : (S u ≡ true) ⊎ (w ≡ true) → S u ≡ true
      or_both (inl h) = h
      or_both (inr h) = into h

  four_left : (a b c d : Bool) → (a || c) ≡ true → ((a || b) || (c || d)) ≡ true
  four_left true b c d h = refl
  four_left false true c d h = refl
  four_left false false c d h = or_left c d h

  four_right : (a b c d : Bool) → (b || d) ≡ true → ((a || b) || (c || d)) ≡ true
  four_right true b c d h = refl
  four_right false true c d h = refl
  four_right false false c d h = or_right c d h

  under_test : (t r w : Bool) → (r || w) ≡ true → ((t || r) || w) ≡ true
  under_test true r w h = refl
  under_test false r w h = h

  for_written : (S : ℕ → Bool) (v : ℕ) (body : Block) → Named S (λ u. (v == u) || (block_writes body u || block_reads body u)) → (u : ℕ) → ((v == u) || block_writes body u) ≡ true → S u ≡ true
  for_written S v body reads u w = reads u (more (v == u) (block_writes body u) (block_reads body u) w)
    where
      more : (a b c : Bool) → (a || b) ≡ true → (a || (b || c)) ≡ true
      more true b c h = refl
      more false b c h = or_left b c h

  inside_for : (S : ℕ → Bool) (v : ℕ) (body : Block) → Named S (λ u. (v == u) || (block_writes body u || block_reads body u)) → (u : ℕ) → (block_reads body u || block_writes body u) ≡ true → S u ≡ true
  inside_for S v body reads u there = reads u (or_right (v == u) (block_writes body u || block_reads body u) (swapped (block_reads body u) (block_writes body u) there))

  inside_while : (S : ℕ → Bool) (test : Expr) (body : Block) → Named S (λ u. expr_reads test u || (block_writes body u || block_reads body u)) → (u : ℕ) → (block_reads body u || block_writes body u) ≡ true → S u ≡ true
  inside_while S test body reads u there = reads u (or_right (expr_reads test u) (block_writes body u || block_reads body u) (swapped (block_reads body u) (block_writes body u) there))

  module _ (ins outs : ℕ) (matter : Bool) where
    mutual
      -- an item whose reads are in the set does the same, and what it writes is in the set behind it
      pub act_alike : (act : Act) (S : ℕ → Bool) → ActIsTyped (record { vars = vars; inputs = ins; outputs = outs }) act → (act_has_event act ≡ true → matter ≡ true) → Named S (act_reads act) →
          (m m' : Memory) → (matter ≡ true → m.inputs ≡ m'.inputs) → Alike S vars vars' f m.cells m'.cells →
          DoAlike matter (λ v. S v || act_writes act v) vars vars' f (exec_act act vars m) (exec_act (renamed_act f act) vars' m')
      act_alike (assign v e) S typed events reads m m' inputs alike =
          record {
            events = refl;
            inputs = inputs;
            cells =
                set_alike S v typed.0 (value e vars m.cells) (value (renamed_expr f e) vars' m'.cells) m.cells m'.cells typed.1
                (value_alike e typed.0 S m.cells m'.cells typed.2 reads alike) alike;
          }
      act_alike (assign_at v k e) S typed events reads m m' inputs alike =
          let T : ℕ → Bool = λ u. S u || v == u in
          let has = reads v (or_left (v == v) (expr_reads k v || expr_reads e v) (eq-eqb v v refl)) in
          let index = value_alike k int S m.cells m'.cells typed.1 (λ u there. reads u (or_right (v == u) (expr_reads k u || expr_reads e u) (or_left (expr_reads k u) (expr_reads e u) there))) alike in
          let new = value_alike e int S m.cells m'.cells typed.2 (λ u there. reads u (or_right (v == u) (expr_reads k u || expr_reads e u) (or_right (expr_reads k u) (expr_reads e u) there))) alike in
          record {
            events = refl;
            inputs = inputs;
            cells =
                alike_fewer S T vars vars' f _ _ (λ u there. settled S v u has (either (S u) (v == u) there))
                (element_alike S v (value k vars m.cells) (value (renamed_expr f k) vars' m'.cells) (value e vars m.cells) (value (renamed_expr f e) vars' m'.cells)
                m.cells m'.cells (array_there vars v typed.0) has index new alike);
          }
      act_alike (receive v port) S typed events reads m m' inputs alike =
          let same = inputs (events refl) in
          let taken : next_input m port ≡ next_input m' port = ap (λ ins. head_or_zero (get_or ins port [])) same in
          record {
            events = ap (λ x. event Receive port x ∷ []) taken;
            inputs = λ _. ap (λ ins. set ins port (tail (get_or ins port []))) same;
            cells = set_alike S v int (next_input m port) (next_input m' port) m.cells m'.cells typed.0 taken alike;
          }
      act_alike (send e port) S typed events reads m m' inputs alike =
          record {
            events = ap (λ x. event Send port x ∷ []) (value_alike e int S m.cells m'.cells typed.0 reads alike);
            inputs = inputs;
            cells = alike_fewer S (λ v. S v || false) vars vars' f m.cells m'.cells (λ v there. no_more (S v) there) alike;
          }
      act_alike (for_loop v n body) S typed events reads m m' inputs alike =
          let h =
          rounds_alike matter S (λ j k. exec body vars (with_cells k (set_word vars k.cells v (pos j)))) (λ j k. exec (renamed_block f body) vars' (with_cells k (set_word vars' k.cells (f v) (pos j))))
          (λ j k k' same both.
          let set = set_alike S v int (pos j) (pos j) k.cells k'.cells typed.0 refl both in
          block_alike body S typed.1 events (λ u there. inside_for S v body reads u there)
          (with_cells k (set_word vars k.cells v (pos j))) (with_cells k' (set_word vars' k'.cells (f v) (pos j))) same
          (alike_fewer (λ u. S u || v == u) S vars vars' f _ _ (λ u there. or_left (S u) (v == u) there) set))
          n m m' inputs alike
          in record {
            events = h.events;
            inputs = h.inputs;
            cells =
                alike_fewer S (λ u. S u || ((v == u) || block_writes body u)) vars vars' f _ _
                (λ u there. joined_in S u ((v == u) || block_writes body u) (λ w. for_written S v body reads u w) there) h.cells;
          }
      act_alike (while_loop test n body) S typed events reads m m' inputs alike =
          let h =
          while_alike matter S (λ k. holds (value test vars k.cells)) (λ k. holds (value (renamed_expr f test) vars' k.cells)) (exec body vars) (exec (renamed_block f body) vars')
          (λ k k' both. ap holds (value_alike test bool S k.cells k'.cells typed.0 (λ u there. reads u (or_left (expr_reads test u) (block_writes body u || block_reads body u) there)) both))
          (λ k k' same both. block_alike body S typed.1 events (λ u there. inside_while S test body reads u there) k k' same both)
          n m m' inputs alike
          in record {
            events = h.events;
            inputs = h.inputs;
            cells =
                alike_fewer S (λ u. S u || block_writes body u) vars vars' f _ _
                (λ u there. joined_in S u (block_writes body u) (λ w. inside_while S test body reads u (or_right (block_reads body u) (block_writes body u) w)) there) h.cells;
          }
      act_alike (copy from to) S typed events reads m m' inputs alike = absurd typed

      -- statements of which all that they name is in the set
      pub block_alike : (b : Block) (S : ℕ → Bool) → IsTyped (record { vars = vars; inputs = ins; outputs = outs }) b → (has_event b ≡ true → matter ≡ true) → Named S (λ v. block_reads b v || block_writes b v) →
          (m m' : Memory) → (matter ≡ true → m.inputs ≡ m'.inputs) → Alike S vars vars' f m.cells m'.cells →
          DoAlike matter S vars vars' f (exec b vars m) (exec (renamed_block f b) vars' m')
      block_alike done S typed events named m m' inputs alike = record { events = refl; inputs = inputs; cells = alike }
      block_alike (next s rest) S typed events named m m' inputs alike =
          let o = exec_stmt s vars m in
          let o' = exec_stmt (renamed_stmt f s) vars' m' in
          let h =
          stmt_alike s S typed.0 (λ e. events (if_left (stmt_has_event s) (has_event rest) e))
          (λ u there. named u (four_left (stmt_reads s u) (block_reads rest u) (stmt_writes s u) (block_writes rest u) there)) m m' inputs alike
          in let g =
          block_alike rest S typed.1 (λ e. events (if_right (stmt_has_event s) (has_event rest) e))
          (λ u there. named u (four_right (stmt_reads s u) (block_reads rest u) (stmt_writes s u) (block_writes rest u) there)) o.memory o'.memory h.inputs h.cells
          in record {
            events = ap (λ es. es ++ (exec rest vars o.memory).events) h.events ∙ ap (λ es. o'.events ++ es) g.events;
            inputs = g.inputs;
            cells = g.cells;
          }

      stmt_alike : (s : Stmt) (S : ℕ → Bool) → StmtIsTyped (record { vars = vars; inputs = ins; outputs = outs }) s → (stmt_has_event s ≡ true → matter ≡ true) → Named S (λ v. stmt_reads s v || stmt_writes s v) →
          (m m' : Memory) → (matter ≡ true → m.inputs ≡ m'.inputs) → Alike S vars vars' f m.cells m'.cells →
          DoAlike matter S vars vars' f (exec_stmt s vars m) (exec_stmt (renamed_stmt f s) vars' m')
      stmt_alike (item id act) S typed events named m m' inputs alike =
          let h = act_alike act S typed events (λ u there. named u (or_left (act_reads act u) (act_writes act u) there)) m m' inputs alike in
          record {
            events = h.events;
            inputs = h.inputs;
            cells = alike_fewer (λ v. S v || act_writes act v) S vars vars' f _ _ (λ v there. or_left (S v) (act_writes act v) there) h.cells;
          }
      stmt_alike (choice id test held other) S typed events named m m' inputs alike =
          branches matter S (holds (value test vars m.cells)) (holds (value (renamed_expr f test) vars' m'.cells)) (exec held vars) (exec other vars) (exec (renamed_block f held) vars') (exec (renamed_block f other) vars') m m'
          (ap holds (value_alike test bool S m.cells m'.cells typed.0
          (λ u there. named u (or_left (expr_reads test u || (block_reads held u || block_reads other u)) (block_writes held u || block_writes other u) (or_left (expr_reads test u) (block_reads held u || block_reads other u) there))) alike))
          (block_alike held S typed.1 (λ e. events (if_left (has_event held) (has_event other) e))
          (λ u there. named u (under_test (expr_reads test u) (block_reads held u || block_reads other u) (block_writes held u || block_writes other u)
          (four_left (block_reads held u) (block_reads other u) (block_writes held u) (block_writes other u) there))) m m' inputs alike)
          (block_alike other S typed.2 (λ e. events (if_right (has_event held) (has_event other) e))
          (λ u there. named u (under_test (expr_reads test u) (block_reads held u || block_reads other u) (block_writes held u || block_writes other u)
          (four_right (block_reads held u) (block_reads other u) (block_writes held u) (block_writes other u) there))) m m' inputs alike)
      stmt_alike (timed id window body) S typed events named m m' inputs alike =
          let h = block_alike body S typed events named m m' inputs alike in
          record { events = ap (enclosed id window true) h.events; inputs = h.inputs; cells = h.cells }
