-- Lists of statements that grow by the two bodies' statements.
use Rattle.std.proofs.Common.{◌≡◌, ℕ, zero, suc, ◌+◌, ◌<◌, Bool, true, false, cond, not, ◌&&◌, ◌||◌, ◌==◌, List, [], ◌∷◌, ◌++◌, length, get_or, take, map, refl, sym, ap, ◌∙◌, subst, arith, eq-eqb}
use Rattle.std.specs.Prelude.{filter, slice_index_or}
use Rattle.std.specs.List.{list_any}
use Rattle.std.proofs.Math.Bool.{or-false}
use Rattle.std.proofs.Math.Path.{fun_ext}
use Rattle.std.proofs.Math.Seq.{take-suc}
use Rattle.std.proofs.lemmas.Bool.{or_left, or_right, cond-true}
use Rattle.std.proofs.lemmas.List.{map-append}
use Rattle.std.proofs.lemmas.List.Folds.{list_any-append}
use Rattle.tcel_core.specs.declared.body.CoreStmt.{CoreStmt}
use Rattle.tcel_core.specs.Contents.{has_statement}
use Rattle.tcel_core.specs.Kinds.{Slicing, holds_kept, is_kept_item, is_kind_3, is_live}
use Rattle.tcel_core.specs.Language.{Expr, variable, Window, Block, done, next, joined, Stmt, item, choice, timed, Act, assign, copy}
use Rattle.tcel_core.specs.Numbering.{numbers_from}
use Rattle.tcel_core.specs.Parts.{copies, copy_of, saved, truth_of, number_of, inside_number, variables, is_left, has_rest, is_split, renamed_expr, renamed_act, first_of_block, first_of_stmt, rest_of_block, rest_of_stmt, restores, saves}
use Rattle.tcel_core.specs.Paths.{Point, points, stmt_points}
use Rattle.tcel_core.specs.Plain.{plain_stmt}
use Rattle.tcel_parts.proofs.Hits.{and_both, and_true}
use Rattle.tcel_rename.specs.declared.numbers.Numbers.{Numbers}
use Rattle.tcel_rename.specs.declared.sets.Sets.{Sets}
use Rattle.tcel_rename.specs.Halves.{stmts_of, Adds, AreWithin, saves_below, restores_below, IsPlan, has_statement_in, AreHalves, AddHalves, first_choice, rest_choice}
use Rattle.tcel_rename.specs.Renaming.{number_in}
use Rattle.tcel_rename.specs.Splits.{is_split_test}
use Rattle.tcel_rename.proofs.NumberLists.{count_more, filter_more}

-- ---- one after another

pub joined_done : (b : Block) → joined b done ≡ b
joined_done done = refl
joined_done (next s rest) = ap (next s) (joined_done rest)

pub joined_assoc : (a b c : Block) → joined (joined a b) c ≡ joined a (joined b c)
joined_assoc done b c = refl
joined_assoc (next s rest) b c = ap (next s) (joined_assoc rest b c)

pub stmts-append : (xs ys : List CoreStmt) → stmts_of (xs ++ ys) ≡ joined (stmts_of xs) (stmts_of ys)
stmts-append [] ys = refl
stmts-append (x ∷ xs) ys = ap (next (plain_stmt x)) (stmts-append xs ys)

pub adds_none : (xs : List CoreStmt) → Adds xs xs done
adds_none xs = record { added = sym (joined_done (stmts_of xs)) }

pub adds_list : (old new more : List CoreStmt) (b : Block) → new ≡ old ++ more → stmts_of more ≡ b → Adds old new b
adds_list old new more b e f = record { added = ap stmts_of e ∙ (stmts-append old more ∙ ap (joined (stmts_of old)) f) }

pub adds_then : (x y z : List CoreStmt) (a b : Block) → Adds x y a → Adds y z b → Adds x z (joined a b)
adds_then x y z a b f g = record { added = g.added ∙ (ap (λ c. joined c b) f.added ∙ joined_assoc (stmts_of x) a b) }

pub adds_as : (x y : List CoreStmt) (a b : Block) → a ≡ b → Adds x y a → Adds x y b
adds_as x y a b e f = subst (Adds x y) e f

-- ---- copies

pub copies-append : (xs ys : List (ℕ × ℕ)) → copies (xs ++ ys) ≡ joined (copies xs) (copies ys)
copies-append [] ys = refl
copies-append (x ∷ xs) ys = ap (next (item 0 (copy x.0 x.1))) (copies-append xs ys)

-- the copies for one variable more
pub below_more : (p : ℕ → Bool) (f : ℕ → ℕ × ℕ) (n : ℕ) → copies (map f (filter p (numbers_from 0 (n + 1)))) ≡ joined (copies (map f (filter p (numbers_from 0 n)))) (copies (cond (p n) (f n ∷ []) []))
below_more p f n =
    ap (λ l. copies (map f l)) (filter_more p n)
    ∙ (ap copies (map-append f (filter p (numbers_from 0 n)) (cond (p n) (n ∷ []) [])) ∙ (copies-append (map f (filter p (numbers_from 0 n))) (map f (cond (p n) (n ∷ []) [])) ∙ one (p n)))
  where
    one : (b : Bool) → joined (copies (map f (filter p (numbers_from 0 n)))) (copies (map f (cond b (n ∷ []) []))) ≡ joined (copies (map f (filter p (numbers_from 0 n)))) (copies (cond b (f n ∷ []) []))
    one true = refl
    one false = refl

-- ---- whether something is there

has_joined : (a b : Block) → has_statement (joined a b) ≡ (has_statement a || has_statement b)
has_joined done b = refl
has_joined (next s rest) b = refl

has_copies : (f : ℕ → ℕ × ℕ) (p : ℕ → Bool) (xs : List ℕ) → has_statement (copies (map f (filter p xs))) ≡ list_any p xs
has_copies f p [] = refl
has_copies f p (x ∷ xs) = by_test (p x) (has_copies f p xs)
  where
    by_test : (b : Bool) → has_statement (copies (map f (filter p xs))) ≡ list_any p xs → has_statement (copies (map f (cond b (x ∷ filter p xs) (filter p xs)))) ≡ (b || list_any p xs)
    by_test true h = refl
    by_test false h = h

pub has_in : (xs : List CoreStmt) → has_statement_in xs ≡ has_statement (stmts_of xs)
has_in [] = refl
has_in (x ∷ xs) = refl

module _ (s : Slicing) where
  mutual
    pub has_first : (b : Block) → has_statement (first_of_block s b) ≡ holds_kept s b
    has_first done = refl
    has_first (next t rest) =
        has_joined (first_of_stmt s t) (first_of_block s rest)
        ∙ (ap (λ x. x || has_statement (first_of_block s rest)) (stmt_has_first t)
        ∙ (ap (λ x. list_any (is_kept_item s) (stmt_points t) || x) (has_first rest) ∙ sym (list_any-append (is_kept_item s) (stmt_points t) (points rest))))

    stmt_has_first : (t : Stmt) → has_statement (first_of_stmt s t) ≡ list_any (is_kept_item s) (stmt_points t)
    stmt_has_first (item n act) = by_kept (s.kept n)
      where
        by_kept : (b : Bool) → has_statement (cond b (next (item n (renamed_act (inside_number s) act)) (saves s n)) done) ≡ (b || false)
        by_kept true = refl
        by_kept false = refl
    stmt_has_first (choice n test held other) = by_kept (holds_kept s held || holds_kept s other) (is_split s held other) ∙ sym (list_any-append (is_kept_item s) (points held) (points other))
      where
        by_kept : (b c : Bool) → has_statement (cond b (cond c (next (item 0 (assign (number_of s (truth_of n)) (renamed_expr (inside_number s) test))) (next (choice n (variable (number_of s (truth_of n))) (first_of_block s held) (first_of_block s other)) done)) (next (choice n (renamed_expr (inside_number s) test) (first_of_block s held) (first_of_block s other)) done)) done) ≡ b
        by_kept true true = refl
        by_kept true false = refl
        by_kept false c = refl
    stmt_has_first (timed n window body) = by_kept (holds_kept s body)
      where
        by_kept : (b : Bool) → has_statement (cond b (next (timed n window (first_of_block s body)) done) done) ≡ b
        by_kept true = refl
        by_kept false = refl

  mutual
    pub has_left : (b : Block) → has_statement (rest_of_block s b) ≡ has_rest s b
    has_left done = refl
    has_left (next t rest) =
        has_joined (rest_of_stmt s t) (rest_of_block s rest)
        ∙ (ap (λ x. x || has_statement (rest_of_block s rest)) (stmt_has_left t)
        ∙ (ap (λ x. list_any (is_left s) (stmt_points t) || x) (has_left rest) ∙ sym (list_any-append (is_left s) (stmt_points t) (points rest))))

    stmt_has_left : (t : Stmt) → has_statement (rest_of_stmt s t) ≡ list_any (is_left s) (stmt_points t)
    stmt_has_left (item n act) = by_kept (s.kept n) ∙ sym (or-false (not (s.kept n) || list_any (is_live s n) (variables s)))
      where
        by_kept : (b : Bool) → has_statement (cond b (restores s n) (next (item n act) done)) ≡ (not b || list_any (is_live s n) (variables s))
        by_kept true = has_copies (λ v. (number_of s (saved n v), v)) (is_live s n) (variables s)
        by_kept false = refl
    stmt_has_left (choice n test held other) = by_left (has_rest s held || has_rest s other) ∙ sym (list_any-append (is_left s) (points held) (points other))
      where
        by_left : (b : Bool) → has_statement (cond b (next (choice n (cond (is_split s held other) (variable (number_of s (truth_of n))) test) (rest_of_block s held) (rest_of_block s other)) done) done) ≡ b
        by_left true = refl
        by_left false = refl
    stmt_has_left (timed n window body) = has_left body

-- ---- a body's statements from the first

pub first-append : (s : Slicing) (a b : Block) → first_of_block s (joined a b) ≡ joined (first_of_block s a) (first_of_block s b)
first-append s done b = refl
first-append s (next t rest) b = ap (joined (first_of_stmt s t)) (first-append s rest b) ∙ sym (joined_assoc (first_of_stmt s t) (first_of_block s rest) (first_of_block s b))

pub rest-append : (s : Slicing) (a b : Block) → rest_of_block s (joined a b) ≡ joined (rest_of_block s a) (rest_of_block s b)
rest-append s done b = refl
rest-append s (next t rest) b = ap (joined (rest_of_stmt s t)) (rest-append s rest b) ∙ sym (joined_assoc (rest_of_stmt s t) (rest_of_block s rest) (rest_of_block s b))

-- ---- an `if` that is added

pub adds_two : (x y z : List CoreStmt) (p q a b : Stmt) → p ≡ a → q ≡ b → Adds x y (next p done) → Adds y z (next q done) → Adds x z (next a (next b done))
adds_two x y z p q a b e f g h = adds_then x y z (next a done) (next b done) (adds_as x y (next p done) (next a done) (ap (λ s. next s done) e) g) (adds_as y z (next q done) (next b done) (ap (λ s. next s done) f) h)

module _ (numbers : Numbers) (id : ℕ) (test : Expr) (inside left : Bool) (H O : Block) (x : List CoreStmt) where
  abbrev truth : ℕ
  truth = slice_index_or numbers.truths id 0

  abbrev renamed : Expr
  renamed = renamed_expr (number_in numbers.inside) test

  pub first_none : inside ≡ false → Adds x x (first_choice numbers id test inside (inside && left) H O)
  first_none e = adds_as x x done _ (sym (ap (λ b. first_choice numbers id test b (b && left) H O) e)) (adds_none x)

  first_is : (b c : Bool) → inside ≡ b → left ≡ c → first_choice numbers id test inside (inside && left) H O ≡ first_choice numbers id test b (b && c) H O
  first_is b c e f = ap (λ k. first_choice numbers id test k (k && left) H O) e ∙ ap (λ k. first_choice numbers id test b (b && k) H O) f

  pub first_whole : (y : List CoreStmt) (s : Stmt) (e' : Expr) → inside ≡ true → left ≡ false → s ≡ choice id e' H O → e' ≡ renamed → Adds x y (next s done) → Adds x y (first_choice numbers id test inside (inside && left) H O)
  first_whole y s e' e f g h k = adds_as x y (next s done) _ (ap (λ u. next u done) (g ∙ ap (λ w. choice id w H O) h) ∙ sym (first_is true false e f)) k

  pub first_split : (y z : List CoreStmt) (p q : Stmt) (t : ℕ) (e' : Expr) → inside ≡ true → left ≡ true → t ≡ truth → e' ≡ renamed → p ≡ item 0 (assign t e') → q ≡ choice id (variable t) H O →
      Adds x y (next p done) → Adds y z (next q done) → Adds x z (first_choice numbers id test inside (inside && left) H O)
  first_split y z p q t e' e f g h i j k l =
      adds_as x z (next (item 0 (assign truth renamed)) (next (choice id (variable truth) H O) done)) _ (sym (first_is true true e f))
      (adds_two x y z p q (item 0 (assign truth renamed)) (choice id (variable truth) H O) (i ∙ (ap (λ n. item 0 (assign n e')) g ∙ ap (λ w. item 0 (assign truth w)) h)) (j ∙ ap (λ n. choice id (variable n) H O) g) k l)

  rest_is : (b c : Bool) → left ≡ b → inside ≡ c → rest_choice numbers id test left (inside && left) H O ≡ rest_choice numbers id test b (c && b) H O
  rest_is b c e f = ap (λ k. rest_choice numbers id test k (inside && k) H O) e ∙ ap (λ k. rest_choice numbers id test b (k && b) H O) f

  pub rest_none : left ≡ false → Adds x x (rest_choice numbers id test left (inside && left) H O)
  rest_none e = adds_as x x done _ (sym (ap (λ b. rest_choice numbers id test b (inside && b) H O) e)) (adds_none x)

  pub rest_split : (y : List CoreStmt) (s : Stmt) (t : ℕ) → left ≡ true → inside ≡ true → t ≡ truth → s ≡ choice id (variable t) H O → Adds x y (next s done) → Adds x y (rest_choice numbers id test left (inside && left) H O)
  rest_split y s t e f g h k = adds_as x y (next s done) _ (ap (λ u. next u done) (h ∙ ap (λ n. choice id (variable n) H O) g) ∙ sym (rest_is true true e f)) k

  pub rest_whole : (y : List CoreStmt) (s : Stmt) (e' : Expr) → left ≡ true → inside ≡ false → e' ≡ test → s ≡ choice id e' H O → Adds x y (next s done) → Adds x y (rest_choice numbers id test left (inside && left) H O)
  rest_whole y s e' e f g h k = adds_as x y (next s done) _ (ap (λ u. next u done) (h ∙ ap (λ w. choice id w H O) g) ∙ sym (rest_is true false e f)) k

-- ---- one saved value more

pub one_copied : (x y : List CoreStmt) (live : Bool) (pair : ℕ × ℕ) → live ≡ true → Adds x y (copies (pair ∷ [])) → Adds x y (copies (cond live (pair ∷ []) []))
one_copied x y live pair e f = adds_as x y (copies (pair ∷ [])) _ (sym (ap (λ b. copies (cond b (pair ∷ []) [])) e)) f

pub none_copied : (x : List CoreStmt) (live : Bool) (pair : ℕ × ℕ) → live ≡ false → Adds x x (copies (cond live (pair ∷ []) []))
none_copied x live pair e = adds_as x x done _ (sym (ap (λ b. copies (cond b (pair ∷ []) [])) e)) (adds_none x)

pub numbers_ext : (f g : ℕ → ℕ) → ((v : ℕ) → f v ≡ g v) → f ≡ g
numbers_ext f g h = fun_ext h

pub paired : (a b c d : ℕ) → a ≡ b → c ≡ d → ◌≡◌ {A = ℕ × ℕ} (a, c) (b, d)
paired a b c d e f = subst (λ x. ◌≡◌ {A = ℕ × ℕ} (a, c) (x, d)) e (subst (λ y. ◌≡◌ {A = ℕ × ℕ} (a, c) (a, y)) f refl)

pub any_default : (xs : List ℕ) (i d e : ℕ) → i < length xs → get_or xs i d ≡ get_or xs i e
any_default [] i d e h = absurd (omega arith)
any_default (x ∷ xs) zero d e h = refl
any_default (x ∷ xs) (suc i) d e h = any_default xs i d e (omega arith)

-- ---- an item

module _ (s : Slicing) where
  pub item_left : (id : ℕ) (act act' : Act) (st : Stmt) (first x y : List CoreStmt) → s.kept id ≡ false → act' ≡ act → st ≡ item id act' → Adds x y (next st done) → AddHalves s (item id act) first first x y
  item_left id act act' st first x y out e f g =
      record {
        to_first = adds_as first first done _ (sym (ap (λ b. cond b (next (item id (renamed_act (inside_number s) act)) (saves s id)) done) out)) (adds_none first);
        to_rest = adds_as x y (next st done) _ (ap (λ u. next u done) (f ∙ ap (item id) e) ∙ sym (ap (λ b. cond b (restores s id) (next (item id act) done)) out)) g;
      }

  module _ (sets : Sets) (numbers : Numbers) (plan : IsPlan s sets numbers) where
    named : number_in numbers.inside ≡ inside_number s
    named = numbers_ext (number_in numbers.inside) (inside_number s) plan.numbers.inside

    pub item_kept : (id : ℕ) (act act' : Act) (st : Stmt) (x y z u w : List CoreStmt) → s.kept id ≡ true → act' ≡ renamed_act (number_in numbers.inside) act → st ≡ item id act' → Adds x y (next st done) →
        Adds y z (saves s id) → Adds u w (restores s id) → AddHalves s (item id act) x z u w
    item_kept id act act' st x y z u w held e f g h k =
        record {
          to_first =
              adds_as x z (joined (next (item id (renamed_act (inside_number s) act)) done) (saves s id)) _ (sym (ap (λ b. cond b (next (item id (renamed_act (inside_number s) act)) (saves s id)) done) held))
              (adds_then x y z (next (item id (renamed_act (inside_number s) act)) done) (saves s id)
              (adds_as x y (next st done) _ (ap (λ v. next v done) (f ∙ (ap (item id) e ∙ ap (λ r. item id (renamed_act r act)) named))) g) h);
          to_rest = adds_as u w (restores s id) _ (sym (ap (λ b. cond b (restores s id) (next (item id act) done)) held)) k;
        }

    -- ---- what an item saves, one variable more

    kind_of_live : (n v : ℕ) → is_live s n v ≡ true → is_kind_3 s v ≡ true
    kind_of_live n v h = (and_both _ _ h).0

    pub save_more : (id v place upto behind : ℕ) (live : Bool) (x y z u w t : List CoreStmt) → live ≡ is_live s id v → place ≡ number_in numbers.inside v → Adds x y (saves_below s id v) → Adds u w (restores_below s id v) →
        upto ≡ slice_index_or numbers.starts id 0 + length (filter (is_live s id) (numbers_from 0 v)) → Adds y z (copies (cond live ((place, upto) ∷ []) [])) → Adds w t (copies (cond live ((upto, v) ∷ []) [])) →
        behind ≡ cond live (upto + 1) upto →
        Adds x z (saves_below s id (v + 1)) × Adds u t (restores_below s id (v + 1)) × (behind ≡ slice_index_or numbers.starts id 0 + length (filter (is_live s id) (numbers_from 0 (v + 1))))
    save_more id v place upto behind live x y z u w t e f g h i j k l =
        let save : ℕ → ℕ × ℕ = λ n. (number_of s (copy_of n), number_of s (saved id n)) in
        let restore : ℕ → ℕ × ℕ = λ n. (number_of s (saved id n), n) in (
          adds_as x z (joined (saves_below s id v) (copies (cond (is_live s id v) (save v ∷ []) []))) _ (sym (below_more (is_live s id) save v))
              (adds_then x y z (saves_below s id v) (copies (cond (is_live s id v) (save v ∷ []) [])) g
              (adds_as y z (copies (cond live ((place, upto) ∷ []) [])) _ (ap (λ b. copies (cond b ((place, upto) ∷ []) [])) e ∙ same_pair (place, upto) (save v) (is_live s id v) saved_pair) j)),
          adds_as u t (joined (restores_below s id v) (copies (cond (is_live s id v) (restore v ∷ []) []))) _ (sym (below_more (is_live s id) restore v))
              (adds_then u w t (restores_below s id v) (copies (cond (is_live s id v) (restore v ∷ []) [])) h
              (adds_as w t (copies (cond live ((upto, v) ∷ []) [])) _ (ap (λ b. copies (cond b ((upto, v) ∷ []) [])) e ∙ same_pair (upto, v) (restore v) (is_live s id v) restored_pair) k)),
          counted live (count_more (is_live s id) v (length (filter (is_live s id) (numbers_from 0 v))) live e refl) l,
        )
      where
        is_saved : is_live s id v ≡ true → upto ≡ number_of s (saved id v)
        is_saved live_here = i ∙ sym (plan.numbers.saved id v live_here)

        saved_pair : is_live s id v ≡ true → ◌≡◌ {A = ℕ × ℕ} (place, upto) (number_of s (copy_of v), number_of s (saved id v))
        saved_pair live_here =
            paired place (number_of s (copy_of v)) upto (number_of s (saved id v)) (f ∙ (plan.numbers.inside v ∙ cond-true _ _ _ (kind_of_live id v live_here))) (is_saved live_here)

        restored_pair : is_live s id v ≡ true → ◌≡◌ {A = ℕ × ℕ} (upto, v) (number_of s (saved id v), v)
        restored_pair live_here = paired upto (number_of s (saved id v)) v v (is_saved live_here) refl

        same_pair : (p q : ℕ × ℕ) (b : Bool) → (b ≡ true → p ≡ q) → copies (cond b (p ∷ []) []) ≡ copies (cond b (q ∷ []) [])
        same_pair p q true same = ap (λ (r : ℕ × ℕ). copies (r ∷ [])) (same refl)
        same_pair p q false same = refl

        counted : (b : Bool) → length (filter (is_live s id) (numbers_from 0 v)) + cond b 1 0 ≡ length (filter (is_live s id) (numbers_from 0 (v + 1))) → behind ≡ cond b (upto + 1) upto →
            behind ≡ slice_index_or numbers.starts id 0 + length (filter (is_live s id) (numbers_from 0 (v + 1)))
        counted true more is = omega arith
        counted false more is = omega arith

    -- ---- an `if`

    abbrev first_by : ℕ → Block → Block → Bool → ℕ → Expr → Block
    first_by id H O split t r =
        cond (holds_kept s H || holds_kept s O)
        (cond split (next (item 0 (assign t r)) (next (choice id (variable t) (first_of_block s H) (first_of_block s O)) done)) (next (choice id r (first_of_block s H) (first_of_block s O)) done))
        done

    abbrev rest_by : ℕ → Block → Block → Expr → Bool → ℕ → Block
    rest_by id H O test split t = cond (has_rest s H || has_rest s O) (next (choice id (cond split (variable t) test) (rest_of_block s H) (rest_of_block s O)) done) done

    pub choice_added : (id : ℕ) (test : Expr) (H O : Block) (hf hr of orr x y u w : List CoreStmt) → AreHalves s H hf hr → AreHalves s O of orr →
        AreWithin (stmt_points (choice id test H O)) (points s.body) →
        Adds x y (first_choice numbers id test (has_statement_in hf || has_statement_in of) ((has_statement_in hf || has_statement_in of) && (has_statement_in hr || has_statement_in orr)) (stmts_of hf) (stmts_of of)) →
        Adds u w (rest_choice numbers id test (has_statement_in hr || has_statement_in orr) ((has_statement_in hf || has_statement_in of) && (has_statement_in hr || has_statement_in orr)) (stmts_of hr) (stmts_of orr)) →
        AddHalves s (choice id test H O) x y u w
    choice_added id test H O hf hr of orr x y u w held other within f g =
        record {
          to_first =
              adds_as x y _ _
              (ap (λ b. first_choice numbers id test b (b && (has_statement_in hr || has_statement_in orr)) (stmts_of hf) (stmts_of of)) inside
              ∙ (ap (λ b. first_choice numbers id test (holds_kept s H || holds_kept s O) ((holds_kept s H || holds_kept s O) && b) (stmts_of hf) (stmts_of of)) left
              ∙ (ap (λ a. first_choice numbers id test (holds_kept s H || holds_kept s O) (is_split s H O) a (stmts_of of)) held.first_is
              ∙ (ap (λ a. first_choice numbers id test (holds_kept s H || holds_kept s O) (is_split s H O) (first_of_block s H) a) other.first_is
              ∙ as_first (is_split s H O) refl)))) f;
          to_rest =
              adds_as u w _ _
              (ap (λ b. rest_choice numbers id test b ((has_statement_in hf || has_statement_in of) && b) (stmts_of hr) (stmts_of orr)) left
              ∙ (ap (λ b. rest_choice numbers id test (has_rest s H || has_rest s O) (b && (has_rest s H || has_rest s O)) (stmts_of hr) (stmts_of orr)) inside
              ∙ (ap (λ a. rest_choice numbers id test (has_rest s H || has_rest s O) (is_split s H O) a (stmts_of orr)) held.rest_is
              ∙ (ap (λ a. rest_choice numbers id test (has_rest s H || has_rest s O) (is_split s H O) (rest_of_block s H) a) other.rest_is
              ∙ as_rest (is_split s H O) refl)))) g;
        }
      where
        inside : (has_statement_in hf || has_statement_in of) ≡ (holds_kept s H || holds_kept s O)
        inside =
            ap (λ b. b || has_statement_in of) (has_in hf ∙ (ap has_statement held.first_is ∙ has_first s H))
            ∙ ap (λ b. holds_kept s H || b) (has_in of ∙ (ap has_statement other.first_is ∙ has_first s O))

        left : (has_statement_in hr || has_statement_in orr) ≡ (has_rest s H || has_rest s O)
        left =
            ap (λ b. b || has_statement_in orr) (has_in hr ∙ (ap has_statement held.rest_is ∙ has_left s H))
            ∙ ap (λ b. has_rest s H || b) (has_in orr ∙ (ap has_statement other.rest_is ∙ has_left s O))

        truth_is : is_split s H O ≡ true → slice_index_or numbers.truths id 0 ≡ number_of s (truth_of id)
        truth_is e =
            sym (plan.numbers.truths id
            (within.passed (is_split_test s id) (or_left ((id == id) && is_split s H O) (list_any (is_split_test s id) (points H ++ points O)) (and_true (id == id) (is_split s H O) (eq-eqb id id refl) e))))

        as_first : (b : Bool) → is_split s H O ≡ b → first_choice numbers id test (holds_kept s H || holds_kept s O) (is_split s H O) (first_of_block s H) (first_of_block s O) ≡ first_of_stmt s (choice id test H O)
        as_first b e =
            ap (λ r. first_by id H O (is_split s H O) (slice_index_or numbers.truths id 0) (renamed_expr r test)) named
            ∙ (ap (λ k. first_by id H O k (slice_index_or numbers.truths id 0) (renamed_expr (inside_number s) test)) e
            ∙ (by_split b e ∙ sym (ap (λ k. first_by id H O k (number_of s (truth_of id)) (renamed_expr (inside_number s) test)) e)))
          where
            by_split : (c : Bool) → is_split s H O ≡ c → first_by id H O c (slice_index_or numbers.truths id 0) (renamed_expr (inside_number s) test) ≡ first_by id H O c (number_of s (truth_of id)) (renamed_expr (inside_number s) test)
            by_split true g = ap (λ n. first_by id H O true n (renamed_expr (inside_number s) test)) (truth_is g)
            by_split false g = refl

        as_rest : (b : Bool) → is_split s H O ≡ b → rest_choice numbers id test (has_rest s H || has_rest s O) (is_split s H O) (rest_of_block s H) (rest_of_block s O) ≡ rest_of_stmt s (choice id test H O)
        as_rest b e =
            ap (λ k. rest_by id H O test k (slice_index_or numbers.truths id 0)) e ∙ (by_split b e ∙ sym (ap (λ k. rest_by id H O test k (number_of s (truth_of id))) e))
          where
            by_split : (c : Bool) → is_split s H O ≡ c → rest_by id H O test c (slice_index_or numbers.truths id 0) ≡ rest_by id H O test c (number_of s (truth_of id))
            by_split true g = ap (rest_by id H O test true) (truth_is g)
            by_split false g = refl

pub timed_none : (inside : List CoreStmt) (x : List CoreStmt) (b : Block) → inside ≡ [] → Adds x x (cond (has_statement_in inside) b done)
timed_none inside x b e = adds_as x x done _ (sym (ap (λ l. cond (has_statement_in l) b done) e)) (adds_none x)

-- ---- statements in their place

pub within_front : (ps qs rs : List Point) → AreWithin (ps ++ qs) rs → AreWithin ps rs
within_front ps qs rs h = record { passed = λ such e. h.passed such (list_any-append such ps qs ∙ or_left (list_any such ps) (list_any such qs) e) }

pub within_back : (ps qs rs : List Point) → AreWithin (ps ++ qs) rs → AreWithin qs rs
within_back ps qs rs h = record { passed = λ such e. h.passed such (list_any-append such ps qs ∙ or_right (list_any such ps) (list_any such qs) e) }

pub within_tail : (p : Point) (ps rs : List Point) → AreWithin (p ∷ ps) rs → AreWithin ps rs
within_tail p ps rs h = record { passed = λ such e. h.passed such (or_right (such p) (list_any such ps) e) }

pub timed_added : (s : Slicing) (id : ℕ) (window : Window) (b : Block) (f r x y u w : List CoreStmt) → AreHalves s b f r → Adds x y (cond (has_statement_in f) (next (timed id window (stmts_of f)) done) done) → w ≡ u ++ r → AddHalves s (timed id window b) x y u w
timed_added s id window b f r x y u w are g e =
    record {
      to_first =
          adds_as x y _ _
          (ap (λ k. cond k (next (timed id window (stmts_of f)) done) done) (has_in f ∙ (ap has_statement are.first_is ∙ has_first s b)) ∙ ap (λ a. cond (holds_kept s b) (next (timed id window a) done) done) are.first_is) g;
      to_rest = adds_list u w r (rest_of_block s b) e are.rest_is;
    }

-- the halves of the statements so far, and one more
pub halves_more : (s : Slicing) (xs : List CoreStmt) (i : ℕ) (x : CoreStmt) (f f' r r' : List CoreStmt) → i < length xs → x ≡ get_or xs i x → AreHalves s (stmts_of (take i xs)) f r → AddHalves s (plain_stmt x) f f' r r' →
    AreHalves s (stmts_of (take (i + 1) xs)) f' r'
halves_more s xs i x f f' r r' less is are more =
    let front : stmts_of (take (i + 1) xs) ≡ joined (stmts_of (take i xs)) (next (plain_stmt x) done) =
    ap (λ n. stmts_of (take n xs)) (add_one i) ∙ (ap stmts_of (take-suc xs i x less ∙ ap (λ y. take i xs ++ y ∷ []) (sym is)) ∙ stmts-append (take i xs) (x ∷ []))
    in
    record {
      first_is =
          more.to_first.added
          ∙ (ap (λ a. joined a (first_of_stmt s (plain_stmt x))) are.first_is
          ∙ (ap (joined (first_of_block s (stmts_of (take i xs)))) (sym (joined_done (first_of_stmt s (plain_stmt x))))
          ∙ (sym (first-append s (stmts_of (take i xs)) (next (plain_stmt x) done)) ∙ ap (first_of_block s) (sym front))));
      rest_is =
          more.to_rest.added
          ∙ (ap (λ a. joined a (rest_of_stmt s (plain_stmt x))) are.rest_is
          ∙ (ap (joined (rest_of_block s (stmts_of (take i xs)))) (sym (joined_done (rest_of_stmt s (plain_stmt x))))
          ∙ (sym (rest-append s (stmts_of (take i xs)) (next (plain_stmt x) done)) ∙ ap (rest_of_block s) (sym front))));
    }
  where
    add_one : (n : ℕ) → n + 1 ≡ suc n
    add_one n = omega arith

-- the points of one statement are among those of the body
pub within_one : (xs : List CoreStmt) (i : ℕ) (x : CoreStmt) (rs : List Point) → i < length xs → x ≡ get_or xs i x → AreWithin (points (stmts_of xs)) rs → AreWithin (stmt_points (plain_stmt x)) rs
within_one [] i x rs less is h = absurd (omega arith)
within_one (y ∷ xs) zero x rs less is h = subst (λ z. AreWithin (stmt_points (plain_stmt z)) rs) (sym is) (within_front (stmt_points (plain_stmt y)) (points (stmts_of xs)) rs h)
within_one (y ∷ xs) (suc i) x rs less is h = within_one xs i x rs (omega arith) is (within_back (stmt_points (plain_stmt y)) (points (stmts_of xs)) rs h)
