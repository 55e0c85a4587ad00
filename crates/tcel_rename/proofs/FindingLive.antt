-- What the walk that asks which items are live finds step by step is what the rows of the body say.
use Rattle.std.proofs.Common.{◌≡◌, ℕ, ◌<◌, Bool, true, false, not, ◌&&◌, ◌||◌, List, refl, sym, ap, ◌∙◌, subst}
use Rattle.tcel_core.specs.declared.row.Row.{Row}
use Rattle.tcel_core.specs.Kinds.{Slicing, holds_kept}
use Rattle.tcel_core.specs.Language.{Expr, Block, done, next, Stmt, item, choice, Act}
use Rattle.tcel_core.specs.Rows.{stands_in}
use Rattle.tcel_core.specs.Uses.{act_reads, act_writes, expr_reads}
use Rattle.tcel_rename.specs.Lives.{FindsLiveInBlock, FindsLiveInStmt, FindsLiveByItem, stands_at, wanted_row, stmt_wanted_row, live_row, stmt_live_row}

found_more : (o t q r : Bool) → ((o || (t && r)) || (t && q)) ≡ (o || (t && (q || r)))
found_more true t q r = refl
found_more false true true true = refl
found_more false true true false = refl
found_more false true false true = refl
found_more false true false false = refl
found_more false false q r = refl

found_none : (o t : Bool) → o ≡ (o || (t && false))
found_none true t = refl
found_none false true = refl
found_none false false = refl

turned : (a b : Bool) → (a || b) ≡ (b || a)
turned true true = refl
turned true false = refl
turned false true = refl
turned false false = refl

module _ (s : Slicing) (third : Row) where
  pub lives_none : (a : Row) (lives : List Row) → FindsLiveInBlock s third done a lives a lives
  lives_none a lives = record { wanted = λ v small. refl; live = λ n v less small. found_none (stands_at lives n v) (stands_in third v); long = refl }

  pub lives_next : (t : Stmt) (rest : Block) (a b c : Row) (la lb lc : List Row) → FindsLiveInBlock s third rest a la b lb → FindsLiveInStmt s third t b lb c lc → FindsLiveInBlock s third (next t rest) a la c lc
  lives_next t rest a b c la lb lc f g =
      record {
        wanted = λ v small. g.wanted v small ∙ ap (stmt_wanted_row s t v) (f.wanted v small);
        live = λ n v less small.
            g.live n v (subst (λ k. n < k) (sym f.long) less) small
            ∙ (ap (λ e. stands_at lb n v || (stands_in third v && stmt_live_row s t n v e)) (f.wanted v small)
            ∙ (ap (λ x. x || (stands_in third v && stmt_live_row s t n v (wanted_row s rest v (stands_in a v)))) (f.live n v less small)
            ∙ found_more (stands_at la n v) (stands_in third v) (stmt_live_row s t n v (wanted_row s rest v (stands_in a v))) (live_row s rest n v (stands_in a v))));
        long = g.long ∙ f.long;
      }

  pub lives_item : (n : ℕ) (act : Act) (held : Bool) (a b : Row) (la lb : List Row) → held ≡ s.kept n → FindsLiveByItem held n (act_reads act) (act_writes act) third a la b lb → FindsLiveInStmt s third (item n act) a la b lb
  lives_item n act held a b la lb is f = subst (λ k. FindsLiveByItem k n (act_reads act) (act_writes act) third a la b lb) is f

  pub lives_choice : (m : ℕ) (test : Expr) (held other : Block) (a b d : Row) (la lb ld : List Row) → FindsLiveInBlock s third other a la b lb → FindsLiveInBlock s third held a lb d ld →
      (both : Row) → ((v : ℕ) → v < 256 → stands_in both v ≡ (stands_in d v || stands_in b v)) → (holds : Bool) → holds ≡ (holds_kept s held || holds_kept s other) →
      (e : Row) → ((v : ℕ) → v < 256 → stands_in e v ≡ (stands_in both v || (not holds && expr_reads test v))) → FindsLiveInStmt s third (choice m test held other) a la e ld
  lives_choice m test held other a b d la lb ld second first both is_both holds is_held e last =
      let inside = holds_kept s held || holds_kept s other in
      record {
        wanted = λ v small.
            let out = not inside && expr_reads test v in
            last v small
            ∙ (ap (λ k. stands_in both v || (not k && expr_reads test v)) is_held
            ∙ (ap (λ k. k || out) (is_both v small)
            ∙ (ap (λ k. (k || stands_in b v) || out) (first.wanted v small)
            ∙ (ap (λ k. (wanted_row s held v (stands_in a v) || k) || out) (second.wanted v small) ∙ turned (wanted_row s held v (stands_in a v) || wanted_row s other v (stands_in a v)) out))));
        live = λ n v less small.
            first.live n v (subst (λ k. n < k) (sym second.long) less) small
            ∙ (ap (λ x. x || (stands_in third v && live_row s held n v (stands_in a v))) (second.live n v less small)
            ∙ found_more (stands_at la n v) (stands_in third v) (live_row s held n v (stands_in a v)) (live_row s other n v (stands_in a v)));
        long = first.long ∙ second.long;
      }
