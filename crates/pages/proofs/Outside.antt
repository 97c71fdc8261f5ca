-- The words that the proofs of this crate take from others.
pub use Rattle.sqlite.specs.Effect.{Database, IsDatabase}
pub use Rattle.sqlite.specs.Held.{Held, state}
pub use Rattle.sqlite.specs.State.{Executes, HasCleanDisk, IsRolledBack, IsUnchanged, KeepsCommit, State, Survives}
pub use Rattle.sqlite.specs.declared.error.Error.{Error}
pub use Rattle.sqlite.specs.declared.transaction.Transaction.{Transaction}
pub use Rattle.sqlite_keyed.proofs.ListLemmas.{all-append, all-filter, all-slice_get, all_of, all_weaker, filter_all, first_taken}
pub use Rattle.sqlite_keyed.specs.Keyed.{IsKeyedBy, next_key}
pub use Rattle.sqlite_schema.specs.declared.command.Command.TheVariants.{Delete, Insert, Update}
pub use Rattle.sqlite_schema.specs.declared.schema.Schema.{Schema}
pub use Rattle.sqlite_sql.specs.Ops.{binary, is_true}
pub use Rattle.sqlite_sql.specs.Query.{Query}
pub use Rattle.sqlite_sql.specs.Term.{col, lit}
pub use Rattle.sqlite_sql.specs.declared.ops.BinaryOp.TheVariants.{Compare}
pub use Rattle.sqlite_sql.specs.declared.ops.CompareOp.TheVariants.{Eq, Gt}
unfoldable pub use Rattle.sqlite_tied.specs.Compute.{everything}
pub use Rattle.sqlite_trees.specs.declared.store.Store.{Ghosts}
pub use Rattle.sqlite_typed.proofs.TestLemmas.{at_ints, last_term, then_term}
pub use Rattle.sqlite_value.specs.Order.{Row}
pub use Rattle.sqlite_value.specs.declared.keys.Collation.TheVariants.{Binary}
pub use Rattle.sqlite_value.specs.declared.value.Value.TheVariants.{Blob, Int, Null}
pub use Rattle.statements.proofs.Answered.{point}
pub use Rattle.statements.proofs.Commands.{delete_query, is_above, is_at, is_under, no_page, one_page, point_draft, point_rest, update_query}
pub use Rattle.statements.proofs.Conditions.{below_is, same_blob, same_number}
pub use Rattle.statements.proofs.Found.{all_updated, apart_one, apart_pushed, find_changed, find_deleted, find_left, find_pushed, find_pushed_other, find_unchanged, found_holds, found_passes, none_deleted, none_passes}
pub use Rattle.statements.proofs.Held.{IsHeld, pages, pages_held, vpages_held}
pub use Rattle.statements.proofs.PointReads.{first_own}
pub use Rattle.statements.proofs.ReadBack.{blob_read, number_read}
pub use Rattle.statements.proofs.Selects.{Asks, asks}
pub use Rattle.statements.proofs.Transactions.{any_wrote, clean_before, finds_by, moves_more, queries_by, reads_by, writes_by}
pub use Rattle.statements.proofs.Writes.{plain_program}
pub use Rattle.statements.specs.Calls.{FirstRow, IsBody, IsFlagCell, IsNumber, Pins, Wrote}
pub use Rattle.statements.specs.Place.{IsOwn, StandsAt, at_of, tree_of}
pub use Rattle.statements.specs.Rows.{Kept, PageRow, VpageRow, id_of, number, page_cells, stored, vpage_cells}
pub use Rattle.statements.specs.Schema.{page_table, vpage_table}
pub use Rattle.statements.specs.Steps.{AnyRows, Equals, LeavesAsIs, LeavesForeign, Moves, Sees, Steps, Writes}
pub use Rattle.statements.specs.Tables.{Holds, Tables, no_rows, page_layout, vpage_layout}
pub use Rattle.statements.specs.declared.rows.PageHead.{PageHead}
pub use Rattle.std.proofs.Common.{Bool, Err, IfOk, IsErr, IsSome, IsTrue, List, None, Ok, OnErr, OnOk, Option, Result, SFits, Some, [], ap, ap₂, arith, codes, cond, drop, eqb, false, filter, find, inl, inr, int_lt, is_some, length, map, nat_lt, not, option_and_then, option_map, pos, refl, rules, slice_index_or, subst, suc, sym, take, true, unwrap_or, w64, zero, ℕ, ℤ, ◌&&◌, ◌++◌, ◌+◌, ◌-◌, ◌<ℤ◌, ◌<◌, ◌==◌, ◌||◌, ◌∙◌, ◌∷◌, ◌≡◌, ◌≢◌, ◌≤◌, ◌⊎◌}
pub use Rattle.std.proofs.lemmas.Bool.{and_from, and_parts, cases_Bool, eq-eqb, eqb-true, false_from_ne_true, le-ltb, lt-ltb, ltb-false, ltb-true}
pub use Rattle.std.proofs.lemmas.Int.{ints, to_z-of_z}
pub use Rattle.std.proofs.lemmas.List.{append-nil, append_assoc, length-map, take_all}
pub use Rattle.std.specs.List.{AllByRecursion, list_any, remove}
pub use Rattle.std.specs.Str.{bytes_eq}
