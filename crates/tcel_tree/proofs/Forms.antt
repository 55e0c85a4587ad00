-- Trees as plain data, from what a match tells of them.
use Rattle.std.proofs.Common.{◌≡◌, ℕ, ℤ, Bool, List, Option, map, option_map, sym, ap, ◌∙◌}
use Rattle.tcel_num.specs.declared.at.At.{At}
use Rattle.tcel_num.specs.declared.op.Op.{Op}
use Rattle.tcel_tree.specs.declared.expr.Expr as tree
use Rattle.tcel_tree.specs.declared.expr.ExprKind.{ExprKind}
use Rattle.tcel_tree.specs.declared.expr.ExprKind.TheVariants.{Number, Truth, Var, Index, Unary, Binary, rolls-Number, rolls-Truth, rolls-Var, rolls-Index, rolls-Unary, rolls-Binary}
use Rattle.tcel_tree.specs.declared.placed.Placed.{Placed}
use Rattle.tcel_tree.specs.declared.stmt.Stmt as tree_stmt
use Rattle.tcel_tree.specs.declared.stmt.StmtKind.{StmtKind}
use Rattle.tcel_tree.specs.declared.stmt.StmtKind.TheVariants.{Assign, AssignAt, Receive, Send, If, For, While, Do, rolls-Assign, rolls-AssignAt, rolls-Receive, rolls-Send, rolls-If, rolls-For, rolls-While, rolls-Do}
use Rattle.tcel_tree.specs.declared.stmt.Window.{Window}
use Rattle.tcel_tree.specs.Language.{number, truth, variable, element, unary, binary, assign, assign_at, receive, send, choice, for_loop, while_loop, timed}
use Rattle.tcel_tree.specs.Plain.{plain_expr, placed_expr, plain_stmt, placed_stmt, plain_block, branch_of}
use Rattle.tcel_tree.proofs.PlainLaws.{plain_expr-placed, placed_expr-number, placed_expr-truth, placed_expr-variable, placed_expr-element, placed_expr-unary, placed_expr-binary, plain_stmt-placed, placed_stmt-assign, placed_stmt-assign_at, placed_stmt-receive, placed_stmt-send, placed_stmt-choice, placed_stmt-for, placed_stmt-while, placed_stmt-timed}

kind_form : (e : tree.Expr) (kind roll : ExprKind) → e.what ≡ kind → kind ≡ roll → plain_expr e ≡ placed_expr roll e.at
kind_form e kind roll is rolls = plain_expr-placed e ∙ ap (λ (k : ExprKind). placed_expr k e.at) (is ∙ rolls)

pub number_form : (e : tree.Expr) (n : ℤ) → e.what ≡ Number n → plain_expr e ≡ number e.at n
number_form e n is = kind_form e _ _ is (sym (rolls-Number n)) ∙ placed_expr-number n e.at

pub truth_form : (e : tree.Expr) (b : Bool) → e.what ≡ Truth b → plain_expr e ≡ truth e.at b
truth_form e b is = kind_form e _ _ is (sym (rolls-Truth b)) ∙ placed_expr-truth b e.at

pub variable_form : (e : tree.Expr) (name : List ℕ) → e.what ≡ Var name → plain_expr e ≡ variable e.at name
variable_form e name is = kind_form e _ _ is (sym (rolls-Var name)) ∙ placed_expr-variable name e.at

pub element_form : (e : tree.Expr) (name : List ℕ) (i : tree.Expr) → e.what ≡ Index name i → plain_expr e ≡ element e.at name (plain_expr i)
element_form e name i is = kind_form e _ _ is (sym (rolls-Index name i)) ∙ placed_expr-element name i e.at

pub unary_form : (e : tree.Expr) (op : Op) (a : tree.Expr) → e.what ≡ Unary op a → plain_expr e ≡ unary e.at op (plain_expr a)
unary_form e op a is = kind_form e _ _ is (sym (rolls-Unary op a)) ∙ placed_expr-unary op a e.at

pub binary_form : (e : tree.Expr) (op : Op) (a b : tree.Expr) → e.what ≡ Binary op a b → plain_expr e ≡ binary e.at op (plain_expr a) (plain_expr b)
binary_form e op a b is = kind_form e _ _ is (sym (rolls-Binary op a b)) ∙ placed_expr-binary op a b e.at

stmt_form : (s : tree_stmt.Stmt) (kind roll : StmtKind) → s.what ≡ kind → kind ≡ roll → plain_stmt s ≡ placed_stmt roll s.at
stmt_form s kind roll is rolls = plain_stmt-placed s ∙ ap (λ (k : StmtKind). placed_stmt k s.at) (is ∙ rolls)

pub assign_form : (s : tree_stmt.Stmt) (name : List ℕ) (e : tree.Expr) → s.what ≡ Assign name e → plain_stmt s ≡ assign s.at name (plain_expr e)
assign_form s name e is = stmt_form s _ _ is (sym (rolls-Assign name e)) ∙ placed_stmt-assign name e s.at

pub assign_at_form : (s : tree_stmt.Stmt) (name : List ℕ) (i e : tree.Expr) → s.what ≡ AssignAt name i e →
    plain_stmt s ≡ assign_at s.at name (plain_expr i) (plain_expr e)
assign_at_form s name i e is = stmt_form s _ _ is (sym (rolls-AssignAt name i e)) ∙ placed_stmt-assign_at name i e s.at

pub receive_form : (s : tree_stmt.Stmt) (name : List ℕ) (name_at : At) (port : List ℕ) (port_at : At) → s.what ≡ Receive name name_at port port_at →
    plain_stmt s ≡ receive s.at name name_at port port_at
receive_form s name name_at port port_at is =
    stmt_form s _ _ is (sym (rolls-Receive name name_at port port_at)) ∙ placed_stmt-receive name port name_at port_at s.at

pub send_form : (s : tree_stmt.Stmt) (e : tree.Expr) (port : List ℕ) (port_at : At) → s.what ≡ Send e port port_at →
    plain_stmt s ≡ send s.at (plain_expr e) port port_at
send_form s e port port_at is = stmt_form s _ _ is (sym (rolls-Send e port port_at)) ∙ placed_stmt-send e port port_at s.at

pub choice_form : (s : tree_stmt.Stmt) (test : tree.Expr) (held : List tree_stmt.Stmt) (other : Option (List tree_stmt.Stmt)) → s.what ≡ If test held other →
    plain_stmt s ≡ choice s.at (plain_expr test) (plain_block held) (branch_of (option_map (map plain_stmt) other))
choice_form s test held other is = stmt_form s _ _ is (sym (rolls-If test held other)) ∙ placed_stmt-choice test held other s.at

pub for_form : (s : tree_stmt.Stmt) (name : List ℕ) (name_at : At) (turns : Placed) (body : List tree_stmt.Stmt) → s.what ≡ For name name_at turns body →
    plain_stmt s ≡ for_loop s.at name name_at turns (plain_block body)
for_form s name name_at turns body is = stmt_form s _ _ is (sym (rolls-For name name_at turns body)) ∙ placed_stmt-for name name_at turns body s.at

pub while_form : (s : tree_stmt.Stmt) (test : tree.Expr) (turns : Placed) (body : List tree_stmt.Stmt) → s.what ≡ While test turns body →
    plain_stmt s ≡ while_loop s.at (plain_expr test) turns (plain_block body)
while_form s test turns body is = stmt_form s _ _ is (sym (rolls-While test turns body)) ∙ placed_stmt-while test turns body s.at

pub timed_form : (s : tree_stmt.Stmt) (window : Window) (body : List tree_stmt.Stmt) → s.what ≡ Do window body →
    plain_stmt s ≡ timed s.at window (plain_block body)
timed_form s window body is = stmt_form s _ _ is (sym (rolls-Do window body)) ∙ placed_stmt-timed window body s.at
