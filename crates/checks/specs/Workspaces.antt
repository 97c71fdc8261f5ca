-- When the row of a workspace is in range, as tests.
use Rattle.std.specs.Prelude.{ℕ, ◌+◌, Bool, true, ◌&&◌, nat_le, List, length, map, filter, Option, Some, None, slice_get}
use Rattle.std.specs.Option.{unwrap_or}
use Rattle.basis.specs.Names.{is_ws_name, is_free_id}
use Rattle.basis.specs.declared.numbers.TheConstants.{MAX_NUMBER, FIRST_KEPT}
use Rattle.statements.specs.Rows.{Kept, Owned, WsRow}
use Rattle.statements.specs.Changes.{is_of, is_ws_of}

-- the number of a next version or run
abbrev pub is_next : ℕ → Bool
is_next next = nat_le 1 next && nat_le next (MAX_NUMBER + 1)

abbrev pub is_free_if : Option (List ℕ) → Bool
is_free_if None = true
is_free_if (Some id) = is_free_id id

-- the name, the next numbers and the lock that was released last
abbrev pub is_own : WsRow → Bool
is_own x = is_ws_name x.name && is_next x.it.next_version && is_next x.it.next_run && is_free_if x.it.released

-- what the rows of a workspace hold besides its name, in the order of the rows
abbrev pub its_of : {T : Type 0} → List ℕ → List ℕ → List (Kept (Owned T)) → List T
its_of org ws rows = map (λ x. x.1.it) (filter (is_of org ws) rows)

-- how many versions are kept, by the first row that says so, if there is one
abbrev pub retention_among : List ℕ → ℕ
retention_among ks = unwrap_or (slice_get ks 0) FIRST_KEPT

-- how many rows of workspaces an organization has
abbrev pub count_in : List (Kept WsRow) → List ℕ → ℕ
count_in wss org = length (filter (is_ws_of org) wss)
