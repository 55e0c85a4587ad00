-- What is found on the paths of a body, from the end backward: one value for each place, by what stands there and what is behind it.
use Rattle.std.specs.Prelude.{Bool, false, not, ◌&&◌, ◌||◌}
use Rattle.tcel_core.specs.Language.{Block, done, next, Stmt, item, choice, timed}
use Rattle.tcel_core.specs.Paths.{Point, at_item, at_test}

-- before a point: it is a hit, or it is no stop and this holds behind it
abbrev pub row_before : (Point → Bool) → (Point → Bool) → Point → Bool → Bool
row_before hit stop p end = hit p || (not (stop p) && end)

-- before statements, of which the end is such: some path from there meets a hit before any stop, or comes to the end
abbrev mutual
  pub row : (Point → Bool) → (Point → Bool) → Block → Bool → Bool
  row hit stop done end = end
  row hit stop (next s rest) end = stmt_row hit stop s (row hit stop rest end)

  pub stmt_row : (Point → Bool) → (Point → Bool) → Stmt → Bool → Bool
  stmt_row hit stop (item id act) end = row_before hit stop (at_item id act) end
  stmt_row hit stop (choice id test held other) end =
      row_before hit stop (at_test id test held other) (row hit stop held end || row hit stop other end)
  stmt_row hit stop (timed id window body) end = row hit stop body end

-- some point of the statements is such, and behind it some path meets a hit before any stop, or comes to the end
abbrev mutual
  pub row_behind : (Point → Bool) → (Point → Bool) → (Point → Bool) → Block → Bool → Bool
  row_behind here hit stop done end = false
  row_behind here hit stop (next s rest) end =
      stmt_row_behind here hit stop s (row hit stop rest end) || row_behind here hit stop rest end

  pub stmt_row_behind : (Point → Bool) → (Point → Bool) → (Point → Bool) → Stmt → Bool → Bool
  stmt_row_behind here hit stop (item id act) end = here (at_item id act) && end
  stmt_row_behind here hit stop (choice id test held other) end =
      (here (at_test id test held other) && (row hit stop held end || row hit stop other end))
      || (row_behind here hit stop held end || row_behind here hit stop other end)
  stmt_row_behind here hit stop (timed id window body) end = row_behind here hit stop body end
