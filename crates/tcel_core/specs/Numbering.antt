-- How the statements of a checked program are numbered: outside loops in text order, and 0 in loops.
use Rattle.std.specs.Prelude.{◌≡◌, ℕ, zero, suc, ◌+◌, List, [], ◌∷◌, ◌++◌, length}
use Rattle.tcel_core.specs.Language.{Block, done, next, Stmt, item, choice, timed, Act, for_loop, while_loop}

-- so many numbers, from this one on
abbrev pub numbers_from : ℕ → ℕ → List ℕ
numbers_from first zero = []
numbers_from first (suc count) = first ∷ numbers_from (first + 1) count

-- the numbers of the items outside loops, in text order
abbrev mutual
  pub item_numbers : Block → List ℕ
  item_numbers done = []
  item_numbers (next s rest) = stmt_item_numbers s ++ item_numbers rest

  pub stmt_item_numbers : Stmt → List ℕ
  stmt_item_numbers (item id act) = id ∷ []
  stmt_item_numbers (choice id test held other) = item_numbers held ++ item_numbers other
  stmt_item_numbers (timed id window body) = item_numbers body

-- the numbers of the ifs outside loops, in text order
abbrev mutual
  pub if_numbers : Block → List ℕ
  if_numbers done = []
  if_numbers (next s rest) = stmt_if_numbers s ++ if_numbers rest

  pub stmt_if_numbers : Stmt → List ℕ
  stmt_if_numbers (item id act) = []
  stmt_if_numbers (choice id test held other) = id ∷ (if_numbers held ++ if_numbers other)
  stmt_if_numbers (timed id window body) = if_numbers body

-- the numbers of the `do` blocks, in text order
abbrev mutual
  pub do_numbers : Block → List ℕ
  do_numbers done = []
  do_numbers (next s rest) = stmt_do_numbers s ++ do_numbers rest

  pub stmt_do_numbers : Stmt → List ℕ
  stmt_do_numbers (item id act) = []
  stmt_do_numbers (choice id test held other) = do_numbers held ++ do_numbers other
  stmt_do_numbers (timed id window body) = id ∷ do_numbers body

-- items and ifs have the number 0, and there is no `do` block
abbrev mutual
  pub IsUnnumbered : Block → Type 0
  IsUnnumbered done = Unit {0}
  IsUnnumbered (next s rest) = StmtIsUnnumbered s × IsUnnumbered rest

  pub StmtIsUnnumbered : Stmt → Type 0
  StmtIsUnnumbered (item id act) = (id ≡ 0) × ActIsUnnumbered act
  StmtIsUnnumbered (choice id test held other) = (id ≡ 0) × IsUnnumbered held × IsUnnumbered other
  StmtIsUnnumbered (timed id window body) = ⊥

  pub ActIsUnnumbered : Act → Type 0
  ActIsUnnumbered (for_loop v n body) = IsUnnumbered body
  ActIsUnnumbered (while_loop test n body) = IsUnnumbered body
  ActIsUnnumbered _ = Unit {0}

-- in loops statements have no numbers
abbrev mutual
  pub LoopsAreUnnumbered : Block → Type 0
  LoopsAreUnnumbered done = Unit {0}
  LoopsAreUnnumbered (next s rest) = StmtLoopsAreUnnumbered s × LoopsAreUnnumbered rest

  pub StmtLoopsAreUnnumbered : Stmt → Type 0
  StmtLoopsAreUnnumbered (item id act) = ActIsUnnumbered act
  StmtLoopsAreUnnumbered (choice id test held other) = LoopsAreUnnumbered held × LoopsAreUnnumbered other
  StmtLoopsAreUnnumbered (timed id window body) = LoopsAreUnnumbered body

-- items and ifs outside loops are numbered from 0, each kind on its own, and `do` blocks from 1
pub record IsNumbered (body : Block) : Type 0 where
  pub items : item_numbers body ≡ numbers_from 0 (length (item_numbers body))
  pub ifs : if_numbers body ≡ numbers_from 0 (length (if_numbers body))
  pub blocks : do_numbers body ≡ numbers_from 1 (length (do_numbers body))
  pub loops : LoopsAreUnnumbered body
