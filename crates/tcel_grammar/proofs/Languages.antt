-- What each symbol of the machine may read, by the grammar.
use Rattle.std.proofs.Common.{◌≡◌, ℕ, ℤ, Bool, true, false, List, [], ◌∷◌, ◌++◌, Option, ◌⊎◌, refl}
use Rattle.std.proofs.lemmas.Bool.{true≢false}
use Rattle.tcel_num.specs.declared.at.At.{At}
use Rattle.tcel_num.specs.declared.op.Op.{Op}
use Rattle.tcel_token.specs.declared.keyword.Keyword.{Keyword}
use Rattle.tcel_token.specs.declared.sign.Sign.{Sign}
use Rattle.tcel_token.specs.declared.token.TokenKind.{TokenKind}
use Rattle.tcel_token.specs.Terminal.{Terminal}
use Rattle.tcel_tree.specs.Language.{Expr, Block, Stmt, Branch, Task}
use Rattle.tcel_tree.specs.declared.placed.Placed.{Placed}
use Rattle.tcel_tree.specs.declared.stmt.Window.{Window}
use Rattle.tcel_tree.specs.declared.task.Decl.{Decl}
use Rattle.tcel_tree.specs.declared.task.DeclKind.{DeclKind}
use Rattle.tcel_grammar.specs.Expressions.{Level, disjunction, conjunction, comparison, sum, term, factor, atom, placed, IsPlaced, IsToken, IsBinary, IsExpr, a_conjunction, disjoined, a_comparison, conjoined, a_sum, compared, a_term, added, a_factor, multiplied}
use Rattle.tcel_grammar.specs.Statements.{IsWhole, IsNumber, IsClause, IsWindow, IsBlock, IsStmts, IsStmt, IsBranch}
use Rattle.tcel_grammar.specs.Programs.{IsFirst, IsFirstTruth, IsInt, IsBool, keeper, IsDecl, IsDecls, IsEvery, IsTask}
use Rattle.tcel_grammar.specs.Machine.{Symbol, this_word, this_sign, any_name, any_number, operand, behind_operand, behind_name, more_stmts, one_block, behind_target, do_clauses, behind_start, behind_after, last_clause, more_decls, task_block, behind_keeper, behind_int, behind_bool, first_int, first_bool, more_tasks, goes_on, compared_after}

-- ---- expressions

-- operators and operands behind an operand
pub data Tail : Bool → List Terminal → List Terminal → Type 0 where
  no_tail : {c : Bool} {ts : List Terminal} → Tail c ts ts
  tail : {level : Level} {c : Bool} {op : Op} {ts a b rest : List Terminal} {at : At} {e : Expr} →
      IsBinary level ts at op a → goes_on 5 c level ≡ true → IsExpr factor a e b → Tail (compared_after c level) b rest → Tail c ts rest

-- what an expression of a level makes of what stands in front of it
abbrev Up : Level → Level → List Terminal → List Terminal → Type 0
Up low high from to = (e : Expr) (rest : List Terminal) → IsExpr low to e rest → (f : Expr) × IsExpr high from f rest

-- no comparison stands in front of the sum
abbrev Bare : Bool → List Terminal → List Terminal → Type 0
Bare c from to = c ≡ false → (e : Expr) (rest : List Terminal) → IsExpr sum to e rest → IsExpr sum from e rest

-- what may stand behind an operand ends an expression
gather : {start p q s u a rest : List Terminal} {e : Expr} (c : Bool) →
    Up conjunction disjunction start p → Up comparison conjunction p q → Up sum comparison q s → Bare c q s → Up term sum s u →
    IsExpr term u e a → Tail c a rest → (f : Expr) × IsWhole start f rest
gather c conj comp sum' bare term' now no_tail =
    let x = term' _ _ now in
    let y = sum' _ _ x.1 in
    let z = comp _ _ y.1 in
    conj _ _ z.1
gather c conj comp sum' bare term' now (tail {level = disjunction} op g f more) =
    let x = term' _ _ now in
    let y = sum' _ _ x.1 in
    let z = comp _ _ y.1 in
    let w = conj _ _ z.1 in
    gather false (λ e r d. (_, disjoined w.1 op d)) (λ e r d. (e, a_comparison d)) (λ e r d. (e, a_sum d)) (λ _ e r d. d) (λ e r d. (e, a_term d)) (a_factor f) more
gather c conj comp sum' bare term' now (tail {level = conjunction} op g f more) =
    let x = term' _ _ now in
    let y = sum' _ _ x.1 in
    let z = comp _ _ y.1 in
    gather false conj (λ e r d. (_, conjoined z.1 op d)) (λ e r d. (e, a_sum d)) (λ _ e r d. d) (λ e r d. (e, a_term d)) (a_factor f) more
gather true conj comp sum' bare term' now (tail {level = comparison} op g f more) = cc
gather false conj comp sum' bare term' now (tail {level = comparison} op g f more) =
    let x = term' _ _ now in
    let y = bare refl _ _ x.1 in
    gather true conj comp (λ e r d. (_, compared y op d)) (λ h. absurd (true≢false h)) (λ e r d. (e, a_term d)) (a_factor f) more
gather c conj comp sum' bare term' now (tail {level = sum} op g f more) =
    let x = term' _ _ now in
    gather c conj comp sum' bare (λ e r d. (_, added x.1 op d)) (a_factor f) more
gather c conj comp sum' bare term' now (tail {level = term} op g f more) = gather c conj comp sum' bare term' (multiplied now op f) more
gather c conj comp sum' bare term' now (tail {level = factor} op g f more) = cc
gather c conj comp sum' bare term' now (tail {level = atom} op g f more) = cc

-- an operand and what stands behind it are an expression
pub whole_of : {ts a rest : List Terminal} {e : Expr} → IsExpr factor ts e a → Tail false a rest → (f : Expr) × IsWhole ts f rest
whole_of d more = gather false (λ e r d. (e, a_conjunction d)) (λ e r d. (e, a_comparison d)) (λ e r d. (e, a_sum d)) (λ _ e r d. d) (λ e r d. (e, a_term d)) (a_factor d) more

-- the level of an operand that may have an operator in front, or may not
abbrev pub operand_level : Bool → Level
operand_level true = factor
operand_level false = atom

-- ---- symbols

-- statements and the brace that closes them
abbrev pub Stmts : List Terminal → List Terminal → Type 0
Stmts ts rest = (b : Block) × (a : List Terminal) × IsStmts ts b a × IsToken (TokenKind.Sign Sign.RightBrace) a rest

-- the clauses behind the first of a window
abbrev pub Later : List Terminal → List Terminal → Type 0
Later ts rest =
    (m n : Option Placed) × (a : List Terminal) × IsClause Keyword.Start Keyword.Before ts m a × IsClause Keyword.Finish Keyword.Within a n rest

-- declarations, what the task does, and the brace that closes it
abbrev pub Decls : List Terminal → List Terminal → Type 0
Decls ts rest =
    (ds : List Decl) × (p : Placed) × (f : Option Placed) × (b : Block) × (a c : List Terminal) ×
    IsDecls ts ds a × IsEvery a p f b c × IsToken (TokenKind.Sign Sign.RightBrace) c rest

-- tasks
pub data Tasks : List Terminal → List Terminal → Type 0 where
  no_task : {ts : List Terminal} → Tasks ts ts
  and_task : {ts a rest : List Terminal} {t : Task} → IsTask ts t a → Tasks a rest → Tasks ts rest

-- what a symbol reads
abbrev pub L : Symbol → List Terminal → List Terminal → Type 0
L (this_word w) ts rest = IsToken (TokenKind.Word w) ts rest
L (this_sign s) ts rest = IsToken (TokenKind.Sign s) ts rest
L any_name ts rest = (n : List ℕ) × (at : At) × IsPlaced (TokenKind.Name n) ts at rest
L any_number ts rest = (n : Placed) × IsNumber ts n rest
L (operand signed c) ts rest = (e : Expr) × (a : List Terminal) × IsExpr (operand_level signed) ts e a × Tail c a rest
L (behind_operand below c) ts rest = Tail c ts rest
L (behind_name c) ts rest =
    Tail c ts rest
    ⊎ ((e : Expr) × (a b d : List Terminal) × IsToken (TokenKind.Sign Sign.LeftSquare) ts a × IsWhole a e b × IsToken (TokenKind.Sign Sign.RightSquare) b d × Tail c d rest)
L (more_stmts true) ts rest = (o : Branch) × (a : List Terminal) × IsBranch ts o a × Stmts a rest
L (more_stmts false) ts rest = Stmts ts rest
L one_block ts rest = (b : Block) × IsBlock ts b rest
L behind_target ts rest = (n : List ℕ) (at : At) → (s : Stmt) × IsStmt (placed (TokenKind.Name n) at ∷ ts) s rest
L do_clauses ts rest = (w : Window) × IsWindow ts w rest
L behind_start ts rest = (at : At) → (w : Window) × IsWindow (placed (TokenKind.Word Keyword.Start) at ∷ ts) w rest
L behind_after ts rest = Later ts rest
L last_clause ts rest = (n : Option Placed) × IsClause Keyword.Finish Keyword.Within ts n rest
L more_decls ts rest = Decls ts rest
L task_block ts rest = (a : List Terminal) × IsToken (TokenKind.Sign Sign.LeftBrace) ts a × Decls a rest
L (behind_keeper state) ts rest = (at : At) → (d : Decl) × IsDecl (placed (TokenKind.Word (keeper state)) at ∷ ts) d rest
L (behind_int state) ts rest = (kind : DeclKind) × IsInt state ts kind rest
L (behind_bool state) ts rest = (kind : DeclKind) × IsBool state ts kind rest
L first_int ts rest = (at : At) → (n : Option ℤ) × IsFirst (placed (TokenKind.Sign Sign.Is) at ∷ ts) n rest
L first_bool ts rest = (at : At) → (b : Option Bool) × IsFirstTruth (placed (TokenKind.Sign Sign.Is) at ∷ ts) b rest
L more_tasks ts rest = Tasks ts rest

-- what symbols read one after another
pub data All : List Symbol → List Terminal → List Terminal → Type 0 where
  none : {ts : List Terminal} → All [] ts ts
  also : {x : Symbol} {k : List Symbol} {ts a rest : List Terminal} → L x ts a → All k a rest → All (x ∷ k) ts rest

pub split_all : (j : List Symbol) {k : List Symbol} {ts rest : List Terminal} → All (j ++ k) ts rest → (a : List Terminal) × All j ts a × All k a rest
split_all [] h = (_, none, h)
split_all (x ∷ j) (also l h) = let s = split_all j h in (s.0, also l s.1, s.2)
