-- What a row found: the point that was met, or the end.
use Rattle.std.proofs.Common.{◌≡◌, Bool, true, false, not, ◌||◌, ◌&&◌, List, ◌∷◌, ◌++◌, refl, sym, ◌⊎◌, inl, inr}
use Rattle.std.proofs.lemmas.Bool.{true≢false, or_left, or_right}
use Rattle.tcel_core.specs.Language.{Block, done, next, Stmt, item, choice, timed}
use Rattle.tcel_core.specs.Paths.{Point, at_item, at_test, points, stmt_points}
use Rattle.tcel_parts.specs.Rows.{row, row_before, stmt_row, row_behind, stmt_row_behind}
use Rattle.tcel_parts.proofs.Alike.{either}
use Rattle.tcel_parts.proofs.Members.{In, in_left, in_right}

pub and_both : (a b : Bool) → (a && b) ≡ true → (a ≡ true) × (b ≡ true)
and_both true b h = (refl, h)
and_both false b h = absurd (true≢false (sym h))

pub and_true : (a b : Bool) → a ≡ true → b ≡ true → (a && b) ≡ true
and_true true b h g = g
and_true false b h g = absurd (true≢false (sym h))

-- a row goes on past a point that is no stop
go_on : (hit stop : Point → Bool) (p : Point) (end : Bool) → not (stop p) ≡ true → end ≡ true → row_before hit stop p end ≡ true
go_on hit stop p end free h = or_right (hit p) (not (stop p) && end) (and_true (not (stop p)) end free h)

module _ (hit stop : Point → Bool) where
  -- the row holds, whatever is asked for, where the point that was met is a hit
  pub record Met (ps : List Point) (rows : (Point → Bool) → Bool → Bool) : Type 0 where
    pub point : Point
    pub there : In ps point
    pub hits : hit point ≡ true
    pub other : (hit' : Point → Bool) → hit' point ≡ true → (end : Bool) → rows hit' end ≡ true

  -- the row holds, whatever is asked for, where the end is such
  pub record Passed (end : Bool) (rows : (Point → Bool) → Bool → Bool) : Type 0 where
    pub ends : end ≡ true
    pub other : (hit' : Point → Bool) (end' : Bool) → end' ≡ true → rows hit' end' ≡ true

  mutual
    pub row_found : (b : Block) (end : Bool) → row hit stop b end ≡ true → Met (points b) (λ hit' e. row hit' stop b e) ⊎ Passed end (λ hit' e. row hit' stop b e)
    row_found done end h = inr (record { ends = h; other = λ hit' end' e. e })
    row_found (next s rest) end h = after_first (stmt_row_found s (row hit stop rest end) h) (row_found rest end)
      where
        after_first : Met (stmt_points s) (λ hit' e. stmt_row hit' stop s e) ⊎ Passed (row hit stop rest end) (λ hit' e. stmt_row hit' stop s e) →
            (row hit stop rest end ≡ true → Met (points rest) (λ hit' e. row hit' stop rest e) ⊎ Passed end (λ hit' e. row hit' stop rest e)) →
            Met (points (next s rest)) (λ hit' e. row hit' stop (next s rest) e) ⊎ Passed end (λ hit' e. row hit' stop (next s rest) e)
        after_first (inl m) later =
            inl (record { point = m.point; there = in_left (stmt_points s) (points rest) m.point m.there; hits = m.hits; other = λ hit' g e. m.other hit' g (row hit' stop rest e) })
        after_first (inr p) later =
            elim (later p.ends) [
              | inl m ↦
                  inl (record {
                    point = m.point;
                    there = in_right (stmt_points s) (points rest) m.point m.there;
                    hits = m.hits;
                    other = λ hit' g e. p.other hit' (row hit' stop rest e) (m.other hit' g e);
                  })
              | inr q ↦ inr (record { ends = q.ends; other = λ hit' e g. p.other hit' (row hit' stop rest e) (q.other hit' e g) })
            ]

    pub stmt_row_found : (s : Stmt) (end : Bool) → stmt_row hit stop s end ≡ true → Met (stmt_points s) (λ hit' e. stmt_row hit' stop s e) ⊎ Passed end (λ hit' e. stmt_row hit' stop s e)
    stmt_row_found (item id act) end h =
        let p = at_item id act in
        elim (either (hit p) (not (stop p) && end) h) [
          | inl met ↦ inl (record { point = p; there = inl refl; hits = met; other = λ hit' g e. or_left (hit' p) (not (stop p) && e) g })
          | inr on ↦
              let both = and_both (not (stop p)) end on in
              inr (record { ends = both.1; other = λ hit' e g. go_on hit' stop p e both.0 g })
        ]
    stmt_row_found (choice id test held other) end h =
        let p = at_test id test held other in
        elim (either (hit p) (not (stop p) && (row hit stop held end || row hit stop other end)) h) [
          | inl met ↦
              inl (record { point = p; there = inl refl; hits = met; other = λ hit' g e. or_left (hit' p) (not (stop p) && (row hit' stop held e || row hit' stop other e)) g })
          | inr on ↦
              let both = and_both (not (stop p)) (row hit stop held end || row hit stop other end) on in
              branch both.0 (either (row hit stop held end) (row hit stop other end) both.1) (row_found held end) (row_found other end)
        ]
      where
        p : Point
        p = at_test id test held other

        rows : (Point → Bool) → Bool → Bool
        rows hit' e = stmt_row hit' stop (choice id test held other) e

        branch : not (stop p) ≡ true → (row hit stop held end ≡ true) ⊎ (row hit stop other end ≡ true) →
            (row hit stop held end ≡ true → Met (points held) (λ hit' e. row hit' stop held e) ⊎ Passed end (λ hit' e. row hit' stop held e)) →
            (row hit stop other end ≡ true → Met (points other) (λ hit' e. row hit' stop other e) ⊎ Passed end (λ hit' e. row hit' stop other e)) →
            Met (p ∷ (points held ++ points other)) rows ⊎ Passed end rows
        branch free (inl h) first second =
            elim (first h) [
              | inl m ↦
                  inl (record {
                    point = m.point;
                    there = inr (in_left (points held) (points other) m.point m.there);
                    hits = m.hits;
                    other = λ hit' g e. go_on hit' stop p (row hit' stop held e || row hit' stop other e) free (or_left (row hit' stop held e) (row hit' stop other e) (m.other hit' g e));
                  })
              | inr q ↦
                  inr (record {
                    ends = q.ends;
                    other = λ hit' e g. go_on hit' stop p (row hit' stop held e || row hit' stop other e) free (or_left (row hit' stop held e) (row hit' stop other e) (q.other hit' e g));
                  })
            ]
        branch free (inr h) first second =
            elim (second h) [
              | inl m ↦
                  inl (record {
                    point = m.point;
                    there = inr (in_right (points held) (points other) m.point m.there);
                    hits = m.hits;
                    other = λ hit' g e. go_on hit' stop p (row hit' stop held e || row hit' stop other e) free (or_right (row hit' stop held e) (row hit' stop other e) (m.other hit' g e));
                  })
              | inr q ↦
                  inr (record {
                    ends = q.ends;
                    other = λ hit' e g. go_on hit' stop p (row hit' stop held e || row hit' stop other e) free (or_right (row hit' stop held e) (row hit' stop other e) (q.other hit' e g));
                  })
            ]
    stmt_row_found (timed id window body) end h = row_found body end h

module _ (here hit stop : Point → Bool) where
  -- behind a point: the same
  carried : (ps qs : List Point) (rows rows' : (Point → Bool) → Bool → Bool) (end : Bool) → ((p : Point) → In ps p → In qs p) →
      ((hit' : Point → Bool) (e : Bool) → rows hit' e ≡ true → rows' hit' e ≡ true) →
      Met hit stop ps rows ⊎ Passed hit stop end rows → Met hit stop qs rows' ⊎ Passed hit stop end rows'
  carried ps qs rows rows' end into up (inl m) =
      inl (record { point = m.point; there = into m.point m.there; hits = m.hits; other = λ hit' g e. up hit' e (m.other hit' g e) })
  carried ps qs rows rows' end into up (inr p) = inr (record { ends = p.ends; other = λ hit' e g. up hit' e (p.other hit' e g) })

  mutual
    pub behind_found : (b : Block) (end : Bool) → row_behind here hit stop b end ≡ true →
        Met hit stop (points b) (λ hit' e. row_behind here hit' stop b e) ⊎ Passed hit stop end (λ hit' e. row_behind here hit' stop b e)
    behind_found done end h = absurd (true≢false (sym h))
    behind_found (next s rest) end h =
        elim (either (stmt_row_behind here hit stop s (row hit stop rest end)) (row_behind here hit stop rest end) h) [
          | inl first ↦ in_first (stmt_behind_found s (row hit stop rest end) first)
          | inr later ↦
              carried (points rest) (points (next s rest)) (λ hit' e. row_behind here hit' stop rest e) (λ hit' e. row_behind here hit' stop (next s rest) e) end
              (in_right (stmt_points s) (points rest)) (λ hit' e g. or_right (stmt_row_behind here hit' stop s (row hit' stop rest e)) (row_behind here hit' stop rest e) g) (behind_found rest end later)
        ]
      where
        up : (hit' : Point → Bool) (e : Bool) → stmt_row_behind here hit' stop s (row hit' stop rest e) ≡ true → row_behind here hit' stop (next s rest) e ≡ true
        up hit' e g = or_left (stmt_row_behind here hit' stop s (row hit' stop rest e)) (row_behind here hit' stop rest e) g

        in_first : Met hit stop (stmt_points s) (λ hit' e. stmt_row_behind here hit' stop s e) ⊎ Passed hit stop (row hit stop rest end) (λ hit' e. stmt_row_behind here hit' stop s e) →
            Met hit stop (points (next s rest)) (λ hit' e. row_behind here hit' stop (next s rest) e) ⊎ Passed hit stop end (λ hit' e. row_behind here hit' stop (next s rest) e)
        in_first (inl m) =
            inl (record {
              point = m.point;
              there = in_left (stmt_points s) (points rest) m.point m.there;
              hits = m.hits;
              other = λ hit' g e. up hit' e (m.other hit' g (row hit' stop rest e));
            })
        in_first (inr p) =
            elim (row_found hit stop rest end p.ends) [
              | inl m ↦
                  inl (record {
                    point = m.point;
                    there = in_right (stmt_points s) (points rest) m.point m.there;
                    hits = m.hits;
                    other = λ hit' g e. up hit' e (p.other hit' (row hit' stop rest e) (m.other hit' g e));
                  })
              | inr q ↦ inr (record { ends = q.ends; other = λ hit' e g. up hit' e (p.other hit' (row hit' stop rest e) (q.other hit' e g)) })
            ]

    pub stmt_behind_found : (s : Stmt) (end : Bool) → stmt_row_behind here hit stop s end ≡ true →
        Met hit stop (stmt_points s) (λ hit' e. stmt_row_behind here hit' stop s e) ⊎ Passed hit stop end (λ hit' e. stmt_row_behind here hit' stop s e)
    stmt_behind_found (item id act) end h =
        let both = and_both (here (at_item id act)) end h in
        inr (record { ends = both.1; other = λ hit' e g. and_true (here (at_item id act)) e both.0 g })
    stmt_behind_found (choice id test held other) end h =
        elim (either (here p && (row hit stop held end || row hit stop other end)) (row_behind here hit stop held end || row_behind here hit stop other end) h) [
          | inl at ↦
              let both = and_both (here p) (row hit stop held end || row hit stop other end) at in
              elim (either (row hit stop held end) (row hit stop other end) both.1) [
                | inl first ↦
                    carried (points held) (p ∷ (points held ++ points other)) (λ hit' e. row hit' stop held e) rows end (λ q g. inr (in_left (points held) (points other) q g))
                    (λ hit' e g. at_test_here hit' e both.0 (or_left (row hit' stop held e) (row hit' stop other e) g)) (row_found hit stop held end first)
                | inr second ↦
                    carried (points other) (p ∷ (points held ++ points other)) (λ hit' e. row hit' stop other e) rows end (λ q g. inr (in_right (points held) (points other) q g))
                    (λ hit' e g. at_test_here hit' e both.0 (or_right (row hit' stop held e) (row hit' stop other e) g)) (row_found hit stop other end second)
              ]
          | inr inside ↦
              elim (either (row_behind here hit stop held end) (row_behind here hit stop other end) inside) [
                | inl first ↦
                    carried (points held) (p ∷ (points held ++ points other)) (λ hit' e. row_behind here hit' stop held e) rows end (λ q g. inr (in_left (points held) (points other) q g))
                    (λ hit' e g. in_branch hit' e (or_left (row_behind here hit' stop held e) (row_behind here hit' stop other e) g)) (behind_found held end first)
                | inr second ↦
                    carried (points other) (p ∷ (points held ++ points other)) (λ hit' e. row_behind here hit' stop other e) rows end (λ q g. inr (in_right (points held) (points other) q g))
                    (λ hit' e g. in_branch hit' e (or_right (row_behind here hit' stop held e) (row_behind here hit' stop other e) g)) (behind_found other end second)
              ]
        ]
      where
        p : Point
        p = at_test id test held other

        rows : (Point → Bool) → Bool → Bool
        rows hit' e = stmt_row_behind here hit' stop (choice id test held other) e

        at_test_here : (hit' : Point → Bool) (e : Bool) → here p ≡ true → (row hit' stop held e || row hit' stop other e) ≡ true → rows hit' e ≡ true
        at_test_here hit' e g h =
            or_left (here p && (row hit' stop held e || row hit' stop other e)) (row_behind here hit' stop held e || row_behind here hit' stop other e)
            (and_true (here p) (row hit' stop held e || row hit' stop other e) g h)

        in_branch : (hit' : Point → Bool) (e : Bool) → (row_behind here hit' stop held e || row_behind here hit' stop other e) ≡ true → rows hit' e ≡ true
        in_branch hit' e h = or_right (here p && (row hit' stop held e || row hit' stop other e)) (row_behind here hit' stop held e || row_behind here hit' stop other e) h
    stmt_behind_found (timed id window body) end h = behind_found body end h
