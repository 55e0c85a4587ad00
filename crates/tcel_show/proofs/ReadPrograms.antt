-- Canonical tokens are read as the tree that they were made of: declarations, tasks and programs.
use Rattle.std.proofs.Common.{◌≡◌, ℕ, zero, suc, Bool, true, false, List, [], ◌∷◌, ◌++◌, Option, Some, None, map, option_map, refl, sym, ap, ◌∙◌, subst}
use Rattle.std.proofs.Common.{arith}
use Rattle.std.proofs.lemmas.Int.{ints, int_wrap_fits}
use Rattle.std.specs.Int.{w64}
use Rattle.std.specs.Prelude.{ℤ, pos, negsuc, neg_ℤ, flat_map}
use Rattle.tcel_num.specs.Arithmetic.{unary_value}
use Rattle.tcel_num.specs.declared.op.Op.{Op}
use Rattle.tcel_num.specs.declared.at.At.{At}
use Rattle.tcel_token.specs.declared.keyword.Keyword.{Keyword}
use Rattle.tcel_token.specs.declared.sign.Sign.{Sign}
use Rattle.tcel_token.specs.declared.token.TokenKind.{TokenKind}
use Rattle.tcel_token.specs.Terminal.{Terminal, kinds}
use Rattle.tcel_token.specs.WellFormed.{IsWritable}
use Rattle.tcel_tree.specs.declared.placed.Placed.{Placed}
use Rattle.tcel_tree.specs.declared.task.Decl.{Decl}
use Rattle.tcel_tree.specs.declared.task.DeclKind.{DeclKind}
use Rattle.tcel_tree.specs.Language.{Block, Task}
use Rattle.tcel_tree.specs.Unplaced.{nowhere, unplaced, unplaced_block, unplaced_kind, unplaced_decl, unplaced_task, unplaced_program}
use Rattle.tcel_grammar.specs.Expressions.{IsToken}
use Rattle.tcel_grammar.specs.Programs as grammar
use Rattle.tcel_grammar.specs.Programs.{IsFirst, unset, set, set_below, IsFirstTruth, unset_truth, set_true, set_false, IsInt, an_array, a_local, a_state, IsBool, a_local_truth, a_state_truth, IsDecl, an_input, an_output, an_int, a_bool, IsDecls, no_decl, one_decl, IsEvery, every, IsTask, task, IsProgram, last_task, one_task}
use Rattle.tcel_show.specs.Canonical.{word, sign, clause_tokens, braced, block_tokens, first_tokens, first_truth_tokens, keeper, front_tokens, back_tokens, decl_tokens, task_tokens, program_tokens}
use Rattle.tcel_show.proofs.ReadExprs.{Front, Spells, split, front_placed, front_token, last_placed, last_token, Writable, writable_then, placed_writable, token_writable}
use Rattle.tcel_show.proofs.ReadStmts.{number_known, placed_number, front_number, clause_reads, clause_known, BlockKnown, block_known, braced_reads, braced_writable, ap_two, ap_three}

-- the number below 0 of a written one is not wrapped
pub below_same : (n : ℤ) → IsWritable (TokenKind.Number n) → unary_value Op.Neg n ≡ neg_ℤ n
below_same (pos zero) w = int_wrap_fits w64 (pos zero) (record { sfits = omega arith })
below_same (pos (suc n)) w = int_wrap_fits w64 (negsuc n) (record { sfits = omega (arith, ints) })
below_same (negsuc n) w = absurd (omega (arith, ints))

first_reads : (first : Option ℤ) {ts rest : List Terminal} → Writable (first_tokens first) → Spells (first_tokens first) ts rest → IsFirst ts first rest
first_reads None {ts} w s = subst (λ (xs : List Terminal). IsFirst ts None xs) s unset
first_reads (Some (pos n)) w s = set (front_token s.1) (last_placed s.2)
first_reads (Some (negsuc n)) {ts} {rest} w s =
    subst (λ (z : ℤ). IsFirst ts (Some z) rest) (below_same (pos (suc n)) w.1.1.0) (set_below (front_token s.1) (front_token s.2.1) (last_placed s.2.2))

first_truth_reads : (first : Option Bool) {ts rest : List Terminal} → Spells (first_truth_tokens first) ts rest → IsFirstTruth ts first rest
first_truth_reads None {ts} s = subst (λ (xs : List Terminal). IsFirstTruth ts None xs) s unset_truth
first_truth_reads (Some true) s = set_true (front_token s.1) (last_token s.2)
first_truth_reads (Some false) s = set_false (front_token s.1) (last_token s.2)

-- a first value that the grammar reads can be written
natural_first : (n : ℤ) → IsWritable (TokenKind.Number n) → Writable (first_tokens (Some n))
natural_first (pos n) w = (tt, (w, tt))
natural_first (negsuc n) w = absurd (omega (arith, ints))

below_first : (n : ℤ) → IsWritable (TokenKind.Number n) → Writable (first_tokens (Some (neg_ℤ n)))
below_first (pos zero) w = (tt, (w, tt))
below_first (pos (suc n)) w = (tt, (tt, (w, tt)))
below_first (negsuc n) w = absurd (omega (arith, ints))

record FirstKnown (first : Option ℤ) (rest : List Terminal) : Type 0 where
  pub tokens : Writable (first_tokens first)
  pub behind : Writable (kinds rest)

first_known : {ts rest : List Terminal} {first : Option ℤ} → IsFirst ts first rest → Writable (kinds ts) → FirstKnown first rest
first_known unset w = record { tokens = tt; behind = w }
first_known (set {n = n} i p) w = let q = placed_writable p (token_writable i w) in record { tokens = natural_first n q.0; behind = q.1 }
first_known (set_below {n = n} i m p) w =
    let q = placed_writable p (token_writable m (token_writable i w)) in
    record { tokens = subst (λ (z : ℤ). Writable (first_tokens (Some z))) (sym (below_same n q.0)) (below_first n q.0); behind = q.1 }

record TruthKnown (first : Option Bool) (rest : List Terminal) : Type 0 where
  pub tokens : Writable (first_truth_tokens first)
  pub behind : Writable (kinds rest)

truth_known : {ts rest : List Terminal} {first : Option Bool} → IsFirstTruth ts first rest → Writable (kinds ts) → TruthKnown first rest
truth_known unset_truth w = record { tokens = tt; behind = w }
truth_known (set_true i p) w = record { tokens = (tt, (tt, tt)); behind = token_writable p (token_writable i w) }
truth_known (set_false i p) w = record { tokens = (tt, (tt, tt)); behind = token_writable p (token_writable i w) }

-- what stands behind `int NAME`
record ReadsInt (state : Bool) (kind : DeclKind) (ts rest : List Terminal) : Type 0 where
  pub tree : DeclKind
  pub grammar : IsInt state ts tree rest
  pub same : unplaced_kind tree ≡ unplaced_kind kind

record KnowsInt (state : Bool) (kind : DeclKind) (rest : List Terminal) : Type 0 where
  pub front : front_tokens kind ≡ keeper state ∷ word Keyword.Int ∷ []
  pub tokens : Writable (back_tokens kind)
  pub reads : (us vs : List Terminal) → Spells (back_tokens kind) us vs → ReadsInt state kind us vs
  pub behind : Writable (kinds rest)

size_reads : (state : Bool) (size : Placed) (us vs : List Terminal) → Spells (back_tokens (DeclKind.Array state size)) us vs →
    ReadsInt state (DeclKind.Array state size) us vs
size_reads state size us vs s =
    record {
      tree = DeclKind.Array state (placed_number s.2.1);
      grammar = an_array (front_token s.1) (front_number s.2.1) (last_token s.2.2);
      same = refl;
    }

int_known : {state : Bool} {ts rest : List Terminal} {kind : DeclKind} → IsInt state ts kind rest → Writable (kinds ts) → KnowsInt state kind rest
int_known (an_array {state = state} {size = size} l n r) w =
    let q = number_known n (token_writable l w) in
    record { front = refl; tokens = (tt, (q.number, (tt, tt))); reads = size_reads state size; behind = token_writable r q.behind }
int_known a_local w =
    record {
      front = refl;
      tokens = tt;
      reads = λ us vs s.
          record { tree = DeclKind.Int false None; grammar = subst (λ (xs : List Terminal). IsInt false us (DeclKind.Int false None) xs) s a_local; same = refl };
      behind = w;
    }
int_known (a_state {first = first} f) w =
    let q = first_known f w in
    record {
      front = refl;
      tokens = q.tokens;
      reads = λ us vs s. record { tree = DeclKind.Int true first; grammar = a_state (first_reads first q.tokens s); same = refl };
      behind = q.behind;
    }

record ReadsBool (state : Bool) (kind : DeclKind) (ts rest : List Terminal) : Type 0 where
  pub tree : DeclKind
  pub grammar : IsBool state ts tree rest
  pub same : unplaced_kind tree ≡ unplaced_kind kind

record KnowsBool (state : Bool) (kind : DeclKind) (rest : List Terminal) : Type 0 where
  pub front : front_tokens kind ≡ keeper state ∷ word Keyword.Bool ∷ []
  pub tokens : Writable (back_tokens kind)
  pub reads : (us vs : List Terminal) → Spells (back_tokens kind) us vs → ReadsBool state kind us vs
  pub behind : Writable (kinds rest)

bool_known : {state : Bool} {ts rest : List Terminal} {kind : DeclKind} → IsBool state ts kind rest → Writable (kinds ts) → KnowsBool state kind rest
bool_known a_local_truth w =
    record {
      front = refl;
      tokens = tt;
      reads = λ us vs s.
          record {
            tree = DeclKind.Bool false None;
            grammar = subst (λ (xs : List Terminal). IsBool false us (DeclKind.Bool false None) xs) s a_local_truth;
            same = refl;
          };
      behind = w;
    }
bool_known (a_state_truth {first = first} f) w =
    let q = truth_known f w in
    record {
      front = refl;
      tokens = q.tokens;
      reads = λ us vs s. record { tree = DeclKind.Bool true first; grammar = a_state_truth (first_truth_reads first s); same = refl };
      behind = q.behind;
    }

-- a declaration
pub record ReadsDecl (d : Decl) (ts rest : List Terminal) : Type 0 where
  pub tree : Decl
  pub grammar : IsDecl ts tree rest
  pub same : unplaced_decl tree ≡ unplaced_decl d

pub record DeclKnown (d : Decl) : Type 0 where
  pub tokens : Writable (decl_tokens d)
  pub reads : (us vs : List Terminal) → Spells (decl_tokens d) us vs → ReadsDecl d us vs

pub record KnowsDecl (d : Decl) (rest : List Terminal) : Type 0 where
  pub known : DeclKnown d
  pub behind : Writable (kinds rest)

abbrev pub decl_of : DeclKind → List ℕ → At → Decl
decl_of kind name at = record { kind = kind; name = name; at = at }

keeper_writable : (state : Bool) → IsWritable (keeper state)
keeper_writable true = tt
keeper_writable false = tt

keeper_token : (state : Bool) {ts rest : List Terminal} → Front (keeper state) ts rest → IsToken (TokenKind.Word (grammar.keeper state)) ts rest
keeper_token true f = front_token f
keeper_token false f = front_token f

-- the tokens of a declared variable
abbrev pub variable_tokens : Bool → Keyword → List ℕ → DeclKind → List TokenKind
variable_tokens state type name kind =
    keeper state ∷ word type ∷ TokenKind.Name name ∷ (back_tokens kind ++ sign Sign.Semicolon ∷ [])

pub variable_tokens_are : (state : Bool) (type : Keyword) (name : List ℕ) (at : At) (kind : DeclKind) → front_tokens kind ≡ keeper state ∷ word type ∷ [] →
    decl_tokens (decl_of kind name at) ≡ variable_tokens state type name kind
variable_tokens_are state type name at kind front =
    ap (λ (ts : List TokenKind). ts ++ TokenKind.Name name ∷ (back_tokens kind ++ sign Sign.Semicolon ∷ [])) front

variable_writable : (state : Bool) (type : Keyword) (name : List ℕ) (kind : DeclKind) → IsWritable (TokenKind.Name name) → Writable (back_tokens kind) →
    Writable (variable_tokens state type name kind)
variable_writable state type name kind n b =
    (keeper_writable state, (tt, (n, writable_then (back_tokens kind) (sign Sign.Semicolon ∷ []) b (tt, tt))))

same_decl : (kind other : DeclKind) (name : List ℕ) → unplaced_kind kind ≡ unplaced_kind other →
    decl_of (unplaced_kind kind) name nowhere ≡ decl_of (unplaced_kind other) name nowhere
same_decl kind other name e = ap (λ (k : DeclKind). decl_of k name nowhere) e

int_reads : (state : Bool) (kind : DeclKind) (name : List ℕ) (at : At) → ((us vs : List Terminal) → Spells (back_tokens kind) us vs → ReadsInt state kind us vs) →
    (us vs : List Terminal) → Spells (variable_tokens state Keyword.Int name kind) us vs → ReadsDecl (decl_of kind name at) us vs
int_reads state kind name at reads us vs s =
    let parts = split (back_tokens kind) (sign Sign.Semicolon ∷ []) s.2.2.2 in
    let back = reads s.2.2.0 parts.middle parts.first in
    record {
      tree = decl_of back.tree name s.2.2.1.at;
      grammar = an_int (keeper_token state s.1) (front_token s.2.1) (front_placed s.2.2.1) back.grammar (last_token parts.last);
      same = same_decl back.tree kind name back.same;
    }

bool_reads : (state : Bool) (kind : DeclKind) (name : List ℕ) (at : At) → ((us vs : List Terminal) → Spells (back_tokens kind) us vs → ReadsBool state kind us vs) →
    (us vs : List Terminal) → Spells (variable_tokens state Keyword.Bool name kind) us vs → ReadsDecl (decl_of kind name at) us vs
bool_reads state kind name at reads us vs s =
    let parts = split (back_tokens kind) (sign Sign.Semicolon ∷ []) s.2.2.2 in
    let back = reads s.2.2.0 parts.middle parts.first in
    record {
      tree = decl_of back.tree name s.2.2.1.at;
      grammar = a_bool (keeper_token state s.1) (front_token s.2.1) (front_placed s.2.2.1) back.grammar (last_token parts.last);
      same = same_decl back.tree kind name back.same;
    }

pub decl_known : {ts rest : List Terminal} {d : Decl} → IsDecl ts d rest → Writable (kinds ts) → KnowsDecl d rest
decl_known (an_input {at = at} {name = name} i n e) w =
    let q = placed_writable n (token_writable i w) in
    record {
      known = record {
        tokens = (tt, (q.0, (tt, tt)));
        reads = λ us vs s.
            record {
              tree = decl_of DeclKind.Input name s.2.1.at;
              grammar = an_input (front_token s.1) (front_placed s.2.1) (last_token s.2.2);
              same = refl;
            };
      };
      behind = token_writable e q.1;
    }
decl_known (an_output {at = at} {name = name} i n e) w =
    let q = placed_writable n (token_writable i w) in
    record {
      known = record {
        tokens = (tt, (q.0, (tt, tt)));
        reads = λ us vs s.
            record {
              tree = decl_of DeclKind.Output name s.2.1.at;
              grammar = an_output (front_token s.1) (front_placed s.2.1) (last_token s.2.2);
              same = refl;
            };
      };
      behind = token_writable e q.1;
    }
decl_known (an_int {state = state} {at = at} {name = name} {kind = kind} k i n t e) w =
    let q = placed_writable n (token_writable i (token_writable k w)) in
    let back = int_known t q.1 in
    let same = variable_tokens_are state Keyword.Int name at kind back.front in
    record {
      known = record {
        tokens = subst Writable (sym same) (variable_writable state Keyword.Int name kind q.0 back.tokens);
        reads = λ us vs s. int_reads state kind name at back.reads us vs (subst (λ (ts : List TokenKind). Spells ts us vs) same s);
      };
      behind = token_writable e back.behind;
    }
decl_known (a_bool {state = state} {at = at} {name = name} {kind = kind} k i n t e) w =
    let q = placed_writable n (token_writable i (token_writable k w)) in
    let back = bool_known t q.1 in
    let same = variable_tokens_are state Keyword.Bool name at kind back.front in
    record {
      known = record {
        tokens = subst Writable (sym same) (variable_writable state Keyword.Bool name kind q.0 back.tokens);
        reads = λ us vs s. bool_reads state kind name at back.reads us vs (subst (λ (ts : List TokenKind). Spells ts us vs) same s);
      };
      behind = token_writable e back.behind;
    }

-- declarations
record ReadsDecls (ds : List Decl) (ts rest : List Terminal) : Type 0 where
  pub tree : List Decl
  pub grammar : IsDecls ts tree rest
  pub same : map unplaced_decl tree ≡ map unplaced_decl ds

record KnowsDecls (ds : List Decl) (rest : List Terminal) : Type 0 where
  pub tokens : Writable (flat_map decl_tokens ds)
  pub reads : (us vs : List Terminal) → Spells (flat_map decl_tokens ds) us vs → ReadsDecls ds us vs
  pub behind : Writable (kinds rest)

decls_known : {ts rest : List Terminal} {ds : List Decl} → IsDecls ts ds rest → Writable (kinds ts) → KnowsDecls ds rest
decls_known no_decl w =
    record {
      tokens = tt;
      reads = λ us vs s. record { tree = []; grammar = subst (λ (xs : List Terminal). IsDecls us [] xs) s no_decl; same = refl };
      behind = w;
    }
decls_known (one_decl {d = d} {others = others} x xs) w =
    let one = decl_known x w in
    let more = decls_known xs one.behind in
    record {
      tokens = writable_then (decl_tokens d) (flat_map decl_tokens others) one.known.tokens more.tokens;
      reads = λ us vs s.
          let parts = split (decl_tokens d) (flat_map decl_tokens others) s in
          let a = one.known.reads us parts.middle parts.first in
          let b = more.reads parts.middle vs parts.last in
          record { tree = a.tree ∷ b.tree; grammar = one_decl a.grammar b.grammar; same = ap_two (λ (y : Decl) (ys : List Decl). y ∷ ys) a.same b.same };
      behind = more.behind;
    }

-- the frame of a task
record ReadsEvery (period : Placed) (finish : Option Placed) (body : Block) (ts rest : List Terminal) : Type 0 where
  pub number : Placed
  pub clause : Option Placed
  pub tree : Block
  pub grammar : IsEvery ts number clause tree rest
  pub same_number : unplaced number ≡ unplaced period
  pub same_clause : option_map unplaced clause ≡ option_map unplaced finish
  pub same : unplaced_block tree ≡ unplaced_block body

abbrev frame_tokens : Placed → Option Placed → Block → List TokenKind
frame_tokens period finish body =
    word Keyword.Every ∷ TokenKind.Number period.value ∷ (clause_tokens Keyword.Finish Keyword.Within finish ++ braced (block_tokens body))

record KnowsEvery (period : Placed) (finish : Option Placed) (body : Block) (rest : List Terminal) : Type 0 where
  pub tokens : Writable (frame_tokens period finish body)
  pub reads : (us vs : List Terminal) → Spells (frame_tokens period finish body) us vs → ReadsEvery period finish body us vs
  pub behind : Writable (kinds rest)

every_reads : (period : Placed) (finish : Option Placed) (body : Block) → BlockKnown body → (us vs : List Terminal) →
    Spells (frame_tokens period finish body) us vs → ReadsEvery period finish body us vs
every_reads period finish body known us vs s =
    let parts = split (clause_tokens Keyword.Finish Keyword.Within finish) (braced (block_tokens body)) s.2.2 in
    let clause = clause_reads Keyword.Finish Keyword.Within finish parts.first in
    let inner = braced_reads known parts.last in
    record {
      number = placed_number s.2.1;
      clause = clause.clause;
      tree = inner.tree;
      grammar = every (front_token s.1) (front_number s.2.1) clause.grammar inner.grammar;
      same_number = refl;
      same_clause = clause.same;
      same = inner.same;
    }

every_known : {ts rest : List Terminal} {period : Placed} {finish : Option Placed} {body : Block} → IsEvery ts period finish body rest → Writable (kinds ts) →
    KnowsEvery period finish body rest
every_known (every {period = period} {finish = finish} {body = body} e n c b) w =
    let p = number_known n (token_writable e w) in
    let q = clause_known c p.behind in
    let r = block_known b q.behind in
    record {
      tokens = (tt, (p.number, writable_then (clause_tokens Keyword.Finish Keyword.Within finish) (braced (block_tokens body)) q.clause (braced_writable r.known)));
      reads = every_reads period finish body r.known;
      behind = r.behind;
    }

-- a task
pub record ReadsTask (t : Task) (ts rest : List Terminal) : Type 0 where
  pub tree : Task
  pub grammar : IsTask ts tree rest
  pub same : unplaced_task tree ≡ unplaced_task t

pub record KnowsTask (t : Task) (rest : List Terminal) : Type 0 where
  pub tokens : Writable (task_tokens t)
  pub reads : (us vs : List Terminal) → Spells (task_tokens t) us vs → ReadsTask t us vs
  pub behind : Writable (kinds rest)

-- a task whose name stands nowhere
abbrev bare : List ℕ → Placed → List Decl → Placed → Option Placed → Block → Task
bare name priority decls period finish body =
    record { name = name; at = nowhere; priority = priority; decls = decls; period = period; finish = finish; body = body }

task_reads : (t : Task) {rest : List Terminal} → KnowsDecls t.decls rest → {more : List Terminal} → KnowsEvery t.period t.finish t.body more → (us vs : List Terminal) →
    Spells (task_tokens t) us vs → ReadsTask t us vs
task_reads t ds ev us vs s =
    let decls = flat_map decl_tokens t.decls in
    let frame = frame_tokens t.period t.finish t.body in
    let parts = split (decls ++ frame) (sign Sign.RightBrace ∷ []) s.2.2.2.2.2 in
    let both = split decls frame parts.first in
    let d = ds.reads s.2.2.2.2.0 both.middle both.first in
    let e = ev.reads both.middle parts.middle both.last in
    record {
      tree = record {
        name = t.name;
        at = s.2.1.at;
        priority = placed_number s.2.2.2.1;
        decls = d.tree;
        period = e.number;
        finish = e.clause;
        body = e.tree;
      };
      grammar = task (front_token s.1) (front_placed s.2.1) (front_token s.2.2.1) (front_number s.2.2.2.1) (front_token s.2.2.2.2.1) d.grammar e.grammar (last_token parts.last);
      same =
          ap (λ (x : List Decl). bare t.name (unplaced t.priority) x (unplaced e.number) (option_map unplaced e.clause) (unplaced_block e.tree)) d.same
          ∙ ap_three (bare t.name (unplaced t.priority) (map unplaced_decl t.decls)) e.same_number e.same_clause e.same;
    }

pub task_known : {ts rest : List Terminal} {t : Task} → IsTask ts t rest → Writable (kinds ts) → KnowsTask t rest
task_known (task {at = at} {name = name} {priority = priority} {period = period} {decls = decls} {finish = finish} {body = body} t n p v l d e r) w =
    let name_behind = placed_writable n (token_writable t w) in
    let number = number_known v (token_writable p name_behind.1) in
    let ds = decls_known d (token_writable l number.behind) in
    let ev = every_known e ds.behind in
    let whole : Task =
    record { name = name; at = at; priority = priority; decls = decls; period = period; finish = finish; body = body }
    in
    record {
      tokens = (
        tt,
        (
          name_behind.0,
          (
            tt,
            (
              number.number,
              (
                tt,
                writable_then (flat_map decl_tokens decls ++ frame_tokens period finish body) (sign Sign.RightBrace ∷ [])
                    (writable_then (flat_map decl_tokens decls) (frame_tokens period finish body) ds.tokens ev.tokens) (tt, tt),
              ),
            ),
          ),
        ),
      );
      reads = task_reads whole ds ev;
      behind = token_writable r ev.behind;
    }

-- a program
pub record ReadsProgram (p : List Task) (ts : List Terminal) : Type 0 where
  pub tree : List Task
  pub grammar : IsProgram ts tree
  pub same : unplaced_program tree ≡ unplaced_program p

pub record KnowsProgram (p : List Task) : Type 0 where
  pub tokens : Writable (program_tokens p)
  pub reads : (us : List Terminal) → Spells (program_tokens p) us [] → ReadsProgram p us

pub program_known : {ts : List Terminal} {p : List Task} → IsProgram ts p → Writable (kinds ts) → KnowsProgram p
program_known (last_task {t = t} d) w =
    let one = task_known d w in
    record {
      tokens = writable_then (task_tokens t) [] one.tokens tt;
      reads = λ us s.
          let parts = split (task_tokens t) [] s in
          let a = one.reads us parts.middle parts.first in
          record {
            tree = a.tree ∷ [];
            grammar = last_task (subst (λ (xs : List Terminal). IsTask us a.tree xs) parts.last a.grammar);
            same = ap (λ (x : Task). x ∷ []) a.same;
          };
    }
program_known (one_task {t = t} {others = others} d ds) w =
    let one = task_known d w in
    let more = program_known ds one.behind in
    record {
      tokens = writable_then (task_tokens t) (program_tokens others) one.tokens more.tokens;
      reads = λ us s.
          let parts = split (task_tokens t) (program_tokens others) s in
          let a = one.reads us parts.middle parts.first in
          let b = more.reads parts.middle parts.last in
          record { tree = a.tree ∷ b.tree; grammar = one_task a.grammar b.grammar; same = ap_two (λ (x : Task) (xs : List Task). x ∷ xs) a.same b.same };
    }
