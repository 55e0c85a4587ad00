-- A row says what stands on the paths of a body.
use Rattle.std.proofs.Common.{◌≡◌, Bool, true, false, not, ◌&&◌, ◌||◌, List, [], ◌∷◌, ◌++◌, map, refl, sym, ap, ◌∙◌}
use Rattle.std.specs.Prelude.{flat_map}
use Rattle.std.specs.List.{list_any}
use Rattle.std.proofs.Math.Bool.{or_assoc, or-false}
use Rattle.std.proofs.lemmas.List.Folds.{list_any-append}
use Rattle.tcel_core.specs.Language.{Block, done, next, Stmt, item, choice, timed}
use Rattle.tcel_core.specs.Paths.{Point, at_item, at_test, paths, stmt_paths, one_after_another, meets, behind}
use Rattle.tcel_parts.specs.Rows.{row, row_before, stmt_row, row_behind, stmt_row_behind}

-- ---- tests of lists

any_alike : {X : Type 0} (f g : X → Bool) (xs : List X) → ((x : X) → f x ≡ g x) → list_any f xs ≡ list_any g xs
any_alike f g [] same = refl
any_alike f g (x ∷ xs) same = ap (λ b. b || list_any f xs) (same x) ∙ ap (λ b. g x || b) (any_alike f g xs same)

any_map : {X Y : Type 0} (f : Y → Bool) (g : X → Y) (xs : List X) → list_any f (map g xs) ≡ list_any (λ x. f (g x)) xs
any_map f g [] = refl
any_map f g (x ∷ xs) = ap (λ b. f (g x) || b) (any_map f g xs)

any_flat : {X Y : Type 0} (f : Y → Bool) (g : X → List Y) (xs : List X) → list_any f (flat_map g xs) ≡ list_any (λ x. list_any f (g x)) xs
any_flat f g [] = refl
any_flat f g (x ∷ xs) = list_any-append f (g x) (flat_map g xs) ∙ ap (λ b. list_any f (g x) || b) (any_flat f g xs)

any_none : {X : Type 0} (xs : List X) → list_any (λ _. false) xs ≡ false
any_none [] = refl
any_none (x ∷ xs) = any_none xs

-- there is a path
abbrev IsSome : List (List Point) → Type 0
IsSome ps = list_any (λ _. true) ps ≡ true

exchange : (a b c d : Bool) → ((a || b) || (c || d)) ≡ ((a || c) || (b || d))
exchange true b c d = refl
exchange false true true d = refl
exchange false true false d = refl
exchange false false c d = refl

any_or : {X : Type 0} (f g : X → Bool) (xs : List X) → list_any (λ x. f x || g x) xs ≡ (list_any f xs || list_any g xs)
any_or f g [] = refl
any_or f g (x ∷ xs) = ap (λ b. (f x || g x) || b) (any_or f g xs) ∙ exchange (f x) (g x) (list_any f xs) (list_any g xs)

any_and : {X : Type 0} (a : Bool) (f : X → Bool) (xs : List X) → list_any (λ x. a && f x) xs ≡ (a && list_any f xs)
any_and true f xs = refl
any_and false f xs = any_none xs

any_same : {X : Type 0} (a : Bool) (xs : List X) → list_any (λ _. true) xs ≡ true → list_any (λ _. a) xs ≡ a
any_same true xs some = some
any_same false xs some = any_none xs

-- ---- one path

module _ (hit stop : Point → Bool) where
  meets-append : (end : Bool) (p q : List Point) → meets hit stop end (p ++ q) ≡ meets hit stop (meets hit stop end q) p
  meets-append end [] q = refl
  meets-append end (x ∷ p) q = ap (λ b. hit x || (not (stop x) && b)) (meets-append end p q)

  -- what some path meets behind a point
  before : (a b : Bool) {X : Type 0} (f : X → Bool) (xs : List X) → list_any (λ _. true) xs ≡ true →
      list_any (λ x. a || (not b && f x)) xs ≡ (a || (not b && list_any f xs))
  before true b f xs some = some
  before false true f xs some = any_none xs
  before false false f xs some = refl

  some_end : {X : Type 0} (e : X → Bool) (xs : List X) (p : List Point) → list_any (λ _. true) xs ≡ true →
      list_any (λ x. meets hit stop (e x) p) xs ≡ meets hit stop (list_any e xs) p
  some_end e xs [] some = refl
  some_end e xs (x ∷ p) some =
      before (hit x) (stop x) (λ y. meets hit stop (e y) p) xs some ∙ ap (λ b. hit x || (not (stop x) && b)) (some_end e xs p some)

-- ---- all paths

any_joined : (f : List Point → Bool) (ps qs : List (List Point)) → list_any f (one_after_another ps qs) ≡ list_any (λ p. list_any (λ q. f (p ++ q)) qs) ps
any_joined f ps qs =
    any_flat f (λ p. map (λ q. p ++ q) qs) ps ∙ any_alike (λ p. list_any f (map (λ q. p ++ q) qs)) (λ p. list_any (λ q. f (p ++ q)) qs) ps (λ p. any_map f (λ q. p ++ q) qs)

mutual
  pub paths_some : (b : Block) → IsSome (paths b)
  paths_some done = refl
  paths_some (next s rest) =
      any_joined (λ _. true) (stmt_paths s) (paths rest)
      ∙ (any_alike (λ _. list_any (λ _. true) (paths rest)) (λ _. true) (stmt_paths s) (λ _. paths_some rest) ∙ stmt_paths_some s)

  stmt_paths_some : (s : Stmt) → IsSome (stmt_paths s)
  stmt_paths_some (item id act) = refl
  stmt_paths_some (choice id test held other) =
      any_map (λ _. true) (λ p. at_test id test held other ∷ p) (paths held ++ paths other)
      ∙ (list_any-append (λ _. true) (paths held) (paths other) ∙ ap (λ b. b || list_any (λ _. true) (paths other)) (paths_some held))
  stmt_paths_some (timed id window body) = paths_some body

module _ (hit stop : Point → Bool) where
  mutual
    -- some path meets a hit before any stop, or comes to the end
    pub any_meets : (b : Block) (end : Bool) → list_any (meets hit stop end) (paths b) ≡ row hit stop b end
    any_meets done end = or-false end
    any_meets (next s rest) end =
        any_joined (meets hit stop end) (stmt_paths s) (paths rest)
        ∙ (any_alike (λ p. list_any (λ q. meets hit stop end (p ++ q)) (paths rest)) (meets hit stop (list_any (meets hit stop end) (paths rest))) (stmt_paths s)
        (λ p. any_alike (λ q. meets hit stop end (p ++ q)) (λ q. meets hit stop (meets hit stop end q) p) (paths rest) (meets-append hit stop end p)
        ∙ some_end hit stop (meets hit stop end) (paths rest) p (paths_some rest))
        ∙ (ap (λ e. list_any (meets hit stop e) (stmt_paths s)) (any_meets rest end) ∙ stmt_any_meets s (row hit stop rest end)))

    stmt_any_meets : (s : Stmt) (end : Bool) → list_any (meets hit stop end) (stmt_paths s) ≡ stmt_row hit stop s end
    stmt_any_meets (item id act) end = or-false (row_before hit stop (at_item id act) end)
    stmt_any_meets (choice id test held other) end =
        let t = at_test id test held other in
        any_map (meets hit stop end) (λ p. t ∷ p) (paths held ++ paths other)
        ∙ (before hit stop (hit t) (stop t) (meets hit stop end) (paths held ++ paths other)
        (list_any-append (λ _. true) (paths held) (paths other) ∙ ap (λ b. b || list_any (λ _. true) (paths other)) (paths_some held))
        ∙ ap (row_before hit stop t)
        (list_any-append (meets hit stop end) (paths held) (paths other)
        ∙ (ap (λ b. b || list_any (meets hit stop end) (paths other)) (any_meets held end) ∙ ap (λ b. row hit stop held end || b) (any_meets other end))))
    stmt_any_meets (timed id window body) end = any_meets body end

module _ (here hit stop : Point → Bool) where
  behind-append : (such : List Point → Bool) (p q : List Point) → behind here such (p ++ q) ≡ (behind here (λ x. such (x ++ q)) p || behind here such q)
  behind-append such [] q = refl
  behind-append such (x ∷ p) q =
      ap (λ b. (here x && such (p ++ q)) || b) (behind-append such p q)
      ∙ sym (or_assoc (here x && such (p ++ q)) (behind here (λ y. such (y ++ q)) p) (behind here such q))

  behind_alike : (f g : List Point → Bool) → ((x : List Point) → f x ≡ g x) → (p : List Point) → behind here f p ≡ behind here g p
  behind_alike f g same [] = refl
  behind_alike f g same (x ∷ p) =
      ap (λ b. (here x && b) || behind here f p) (same p) ∙ ap (λ b. (here x && g p) || b) (behind_alike f g same p)

  some_behind : {X : Type 0} (e : X → Bool) (xs : List X) (p : List Point) → list_any (λ _. true) xs ≡ true →
      list_any (λ x. behind here (meets hit stop (e x)) p) xs ≡ behind here (meets hit stop (list_any e xs)) p
  some_behind e xs [] some = any_none xs
  some_behind e xs (x ∷ p) some =
      any_or (λ y. here x && meets hit stop (e y) p) (λ y. behind here (meets hit stop (e y)) p) xs
      ∙ (ap (λ b. b || list_any (λ y. behind here (meets hit stop (e y)) p) xs)
      (any_and (here x) (λ y. meets hit stop (e y) p) xs ∙ ap (λ b. here x && b) (some_end hit stop e xs p some))
      ∙ ap (λ b. (here x && meets hit stop (list_any e xs) p) || b) (some_behind e xs p some))

  -- behind a front and what follows it
  front : (end : Bool) (p : List Point) (qs : List (List Point)) → IsSome qs →
      list_any (λ q. behind here (meets hit stop end) (p ++ q)) qs
      ≡ (behind here (meets hit stop (list_any (meets hit stop end) qs)) p || list_any (behind here (meets hit stop end)) qs)
  front end p qs some =
      let such = meets hit stop end in
      any_alike (λ q. behind here such (p ++ q)) (λ q. behind here (meets hit stop (such q)) p || behind here such q) qs
      (λ q. behind-append such p q
      ∙ ap (λ b. b || behind here such q) (behind_alike (λ x. such (x ++ q)) (meets hit stop (such q)) (λ x. meets-append hit stop end x q) p))
      ∙ (any_or (λ q. behind here (meets hit stop (such q)) p) (behind here such) qs
      ∙ ap (λ b. b || list_any (behind here such) qs) (some_behind such qs p some))

  mutual
    -- on some path there is such a point, and behind it a hit before any stop, or the end
    pub any_behind : (b : Block) (end : Bool) → list_any (behind here (meets hit stop end)) (paths b) ≡ row_behind here hit stop b end
    any_behind done end = refl
    any_behind (next s rest) end =
        let such = meets hit stop end in
        let back = list_any (behind here such) (paths rest) in
        any_joined (behind here such) (stmt_paths s) (paths rest)
        ∙ (any_alike (λ p. list_any (λ q. behind here such (p ++ q)) (paths rest)) (λ p. behind here (meets hit stop (list_any such (paths rest))) p || back) (stmt_paths s)
        (λ p. front end p (paths rest) (paths_some rest))
        ∙ (any_or (behind here (meets hit stop (list_any such (paths rest)))) (λ _. back) (stmt_paths s)
        ∙ (ap (λ e. list_any (behind here (meets hit stop e)) (stmt_paths s) || list_any (λ _. back) (stmt_paths s)) (any_meets hit stop rest end)
        ∙ (ap (λ b. b || list_any (λ _. back) (stmt_paths s)) (stmt_any_behind s (row hit stop rest end))
        ∙ ap (λ b. stmt_row_behind here hit stop s (row hit stop rest end) || b) (any_same back (stmt_paths s) (stmt_paths_some s) ∙ any_behind rest end)))))

    stmt_any_behind : (s : Stmt) (end : Bool) → list_any (behind here (meets hit stop end)) (stmt_paths s) ≡ stmt_row_behind here hit stop s end
    stmt_any_behind (item id act) end = or-false _ ∙ or-false _
    stmt_any_behind (choice id test held other) end =
        let t = at_test id test held other in
        let such = meets hit stop end in
        let both = paths held ++ paths other in
        any_map (behind here such) (λ p. t ∷ p) both
        ∙ (any_or (λ p. here t && such p) (behind here such) both
        ∙ (ap (λ b. b || list_any (behind here such) both)
        (any_and (here t) such both
        ∙ ap (λ b. here t && b)
        (list_any-append such (paths held) (paths other)
        ∙ (ap (λ b. b || list_any such (paths other)) (any_meets hit stop held end) ∙ ap (λ b. row hit stop held end || b) (any_meets hit stop other end))))
        ∙ ap (λ b. (here t && (row hit stop held end || row hit stop other end)) || b)
        (list_any-append (behind here such) (paths held) (paths other)
        ∙ (ap (λ b. b || list_any (behind here such) (paths other)) (any_behind held end) ∙ ap (λ b. row_behind here hit stop held end || b) (any_behind other end)))))
    stmt_any_behind (timed id window body) end = any_behind body end
