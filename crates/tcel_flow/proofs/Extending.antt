-- Lists of steps that grow.
use Rattle.std.proofs.Common.{◌≡◌, ℕ, suc, ◌+◌, ◌<◌, ◌≤◌, List, [], ◌∷◌, ◌++◌, map, length, get_or, take, drop, refl, sym, ap, ◌∙◌, subst, take-append-drop, append_assoc, append-nil, arith}
use Rattle.std.proofs.Math.Seq.{take-append_seam, drop-append_seam, take-suc, take-length}
use Rattle.std.proofs.lemmas.List.{map-append}
use Rattle.tcel_core.specs.declared.body.CoreStmt.{CoreStmt}
use Rattle.tcel_core.specs.Language.{Stmt}
use Rattle.tcel_core.specs.Plain.{block_of, plain_stmt}
use Rattle.tcel_flow.specs.declared.step.Step.{Step}
use Rattle.tcel_flow.specs.Shape.{Place, places, stmt_places, IsStep, AreSteps, Extends}

steps-append : (ss ts : List Step) (ps qs : List Place) → AreSteps ss ps → AreSteps ts qs → AreSteps (ss ++ ts) (ps ++ qs)
steps-append [] ts [] qs h g = g
steps-append [] ts (p ∷ ps) qs h g = absurd h
steps-append (s ∷ ss) ts [] qs h g = absurd h
steps-append (s ∷ ss) ts (p ∷ ps) qs h g = (h.0, steps-append ss ts ps qs h.1 g)

-- a list with more steps behind it
pub extended : (old more : List Step) (ps : List Place) → AreSteps more ps → Extends old (old ++ more) ps
extended old more ps h =
    record {
      kept = take-append_seam old more;
      added = subst (λ l. AreSteps l ps) (sym (drop-append_seam old more)) h;
    }

pub extends_none : (old : List Step) → Extends old old []
extends_none old = subst (λ l. Extends old l []) (append-nil old) (extended old [] [] tt)

pub extends_push : (old : List Step) (s : Step) (p : Place) → IsStep s p → Extends old (old ++ s ∷ []) (p ∷ [])
extends_push old s p h = extended old (s ∷ []) (p ∷ []) (h, tt)

-- what is there and what was added
pub parts : (old new : List Step) (ps : List Place) → Extends old new ps → new ≡ old ++ drop (length old) new
parts old new ps h = sym (take-append-drop (length old) new) ∙ ap (λ l. l ++ drop (length old) new) h.kept

pub extends_then : (a b c : List Step) (ps qs : List Place) → Extends a b ps → Extends b c qs → Extends a c (ps ++ qs)
extends_then a b c ps qs h g =
    let more = drop (length a) b in
    let last = drop (length b) c in
    let whole : c ≡ a ++ (more ++ last) = parts b c qs g ∙ (ap (λ l. l ++ last) (parts a b ps h) ∙ append_assoc a more last) in
    subst (λ l. Extends a l (ps ++ qs)) (sym whole) (extended a (more ++ last) (ps ++ qs) (steps-append more last ps qs h.added g.added))

pub places-append : (xs ys : List Stmt) → places (block_of (xs ++ ys)) ≡ places (block_of xs) ++ places (block_of ys)
places-append [] ys = refl
places-append (x ∷ xs) ys = ap (λ l. stmt_places x ++ l) (places-append xs ys) ∙ sym (append_assoc (stmt_places x) (places (block_of xs)) (places (block_of ys)))

-- the places of one statement more
pub places_more : (xs : List CoreStmt) (i : ℕ) (x : CoreStmt) → i < length xs → x ≡ get_or xs i x →
    places (block_of (map plain_stmt (take (i + 1) xs))) ≡ places (block_of (map plain_stmt (take i xs))) ++ stmt_places (plain_stmt x)
places_more xs i x less is =
    let front : take (i + 1) xs ≡ take i xs ++ x ∷ [] =
    ap (λ n. take n xs) (one_more i) ∙ (take-suc xs i x less ∙ ap (λ y. take i xs ++ y ∷ []) (sym is))
    in ap (λ l. places (block_of (map plain_stmt l))) front
    ∙ (ap (λ l. places (block_of l)) (map-append plain_stmt (take i xs) (x ∷ []))
    ∙ (places-append (map plain_stmt (take i xs)) (plain_stmt x ∷ []) ∙ ap (λ l. places (block_of (map plain_stmt (take i xs))) ++ l) (append-nil (stmt_places (plain_stmt x)))))
  where
    one_more : (n : ℕ) → n + 1 ≡ suc n
    one_more n = omega arith

pub take_all : {X : Type 0} (xs : List X) (n : ℕ) → length xs ≤ n → n ≤ length xs → take n xs ≡ xs
take_all xs n h g = let same : n ≡ length xs = omega arith in ap (λ k. take k xs) same ∙ take-length xs
