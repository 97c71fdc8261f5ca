-- The words that the proofs of this crate take from others.
pub use Rattle.pages.proofs.PageLaws.{put_is, put_keeps, release_is, release_keeps}
pub use Rattle.pages.proofs.Sequences.{as_it_is, failed_behind, moved_behind, one_query, step_after, steps_are, steps_by, steps_then, still_holds, still_inside, unchanged_then}
pub use Rattle.pages.specs.Pages.{HasSoundPages, IsKeyFor, Page, PutsPage, ReleasesPage, less_used, pages_in}
pub use Rattle.pages.specs.Puts.{is_bytes_of, page_put, page_released, put_found, released_found, twin_for, twin_limit}
unfoldable pub use Rattle.pages.specs.Puts.{free_from}
pub use Rattle.pages.specs.Rows.{IsPageName, equal_page, is_page, page_added, page_bytes, page_removed, page_used, page_uses}
pub use Rattle.pages.specs.declared.store.PageId.{PageId}
pub use Rattle.sqlite.proofs.Callers.{reads_as}
pub use Rattle.sqlite.specs.Held.{Held, state}
pub use Rattle.sqlite.specs.State.{CommitsShowing, Executes, Fails, FailsToQuery, HasCleanDisk, IsRolledBack, IsTooLate, IsUnchanged, KeepsCommit, Shown, State, Survives}
pub use Rattle.sqlite.specs.declared.error.Error.{Error}
pub use Rattle.sqlite_ast.specs.declared.Expr.{Expr}
pub use Rattle.sqlite_ast.specs.declared.Expr.TheVariants.{Parameter}
pub use Rattle.sqlite_keyed.proofs.ListLemmas.{all-append, all-filter, all-flat_map, all-slice_get, all_kept, all_map, all_of, all_unmap, all_weaker, filter-map, filter_same, flat_map-map}
pub use Rattle.sqlite_keyed.specs.Lists.{delete_where}
pub use Rattle.sqlite_keyed.specs.Rules.{AreApart}
pub use Rattle.sqlite_schema.specs.declared.command.Command.TheVariants.{Delete, Insert, Select}
pub use Rattle.sqlite_schema.specs.declared.schema.Schema.{Schema}
pub use Rattle.sqlite_sql.specs.Program.{overlay}
pub use Rattle.sqlite_sql.specs.Query.{IsAnswer, Join, Output, Query, end, left, matches, or_nulls, output}
pub use Rattle.sqlite_sql.specs.Term.{Env, Term, col, eval_all, holds, lit, op2}
pub use Rattle.sqlite_sql.specs.declared.ops.BinaryOp.TheVariants.{Compare}
pub use Rattle.sqlite_sql.specs.declared.ops.CompareOp.TheVariants.{Eq}
unfoldable pub use Rattle.sqlite_tied.specs.Compute.{everything}
pub use Rattle.sqlite_trees.proofs.ListLemmas.{all-permutation}
pub use Rattle.sqlite_trees.specs.declared.store.Store.{Ghosts}
pub use Rattle.sqlite_value.specs.Order.{Row, column}
pub use Rattle.sqlite_value.specs.declared.keys.Collation.TheVariants.{Binary}
pub use Rattle.sqlite_value.specs.declared.value.Value.TheVariants.{Blob, Int, Null, Text}
pub use Rattle.statements.proofs.Calm.{failed_calm, shown_calm}
pub use Rattle.statements.proofs.Commands.{delete_query, is_at, joined_draft, listing_draft, no_page, point_draft, point_rest}
pub use Rattle.statements.proofs.Conditions.{same_number, same_text, two_texts_number}
pub use Rattle.statements.proofs.Found.{apart_pushed, find_deleted, find_left, find_pushed, find_pushed_other, none_deleted, none_found, none_passes}
pub use Rattle.statements.proofs.Held.{IsHeld, pages_held, vpages, vpages_held}
pub use Rattle.statements.proofs.Listed.{joined_listing, listing}
pub use Rattle.statements.proofs.Meaning.{Means, means}
pub use Rattle.statements.proofs.Own.{stored_tree}
pub use Rattle.statements.proofs.ReadBack.{blob_read, number_read}
pub use Rattle.statements.proofs.Selects.{Asks, IsSelect, asks, asks_query, select_means}
pub use Rattle.statements.proofs.Transactions.{clean_before, moves_then, queries_by, reads_by, writes_by}
pub use Rattle.statements.proofs.Writes.{plain_program}
pub use Rattle.statements.specs.Calls.{FirstRow, FirstRows, IsQuery, Pins}
pub use Rattle.statements.specs.Place.{StandsAt, tree_of}
pub use Rattle.statements.specs.Rows.{Kept, PageRow, VpageRow, id_of, kept_by, number, page_cells, stored, vpage_at, vpage_cells}
pub use Rattle.statements.specs.Schema.{page_table, vpage_table}
pub use Rattle.statements.specs.Steps.{AnyRows, Equals, LeavesAsIs, Moves, Queries, Sees}
pub use Rattle.statements.specs.Tables.{Holds, Tables, no_rows, page_layout, vpage_layout}
pub use Rattle.std.proofs.Common.{Bool, Err, IfErr, IfOk, IsSome, IsTrue, List, None, Ok, OnErr, OnOk, Option, Result, Some, [], ap, ap₂, arith, codes, cond, drop, eqb, false, filter, find, flat_map, inl, inr, is_some, length, map, min, nat_lt, not, option_map, pos, refl, rules, slice_get, slice_index_or, subst, suc, sym, take, true, w64, zero, ℕ, ◌&&◌, ◌*◌, ◌++◌, ◌+◌, ◌-◌, ◌<◌, ◌==◌, ◌∙◌, ◌∷◌, ◌≡◌, ◌≤◌, ◌⊎◌}
pub use Rattle.std.proofs.lemmas.Bool.{and_from, and_parts, cases_Bool, eq-eqb, eqb-true, false_from_ne_true, le-ltb, lt-ltb, ltb-false, ltb-true, true≢false}
pub use Rattle.std.proofs.lemmas.Int.{to_z-of_z}
pub use Rattle.std.proofs.lemmas.List.{drop_at, length-append, length-drop, length-take, take_all, take_at}
pub use Rattle.std.proofs.lemmas.List.Sorted.{IsPermutation-sym}
pub use Rattle.std.proofs.lemmas.Option.{same_Some, slice_get_within}
pub use Rattle.std.proofs.lemmas.Slice.Eq.{bytes_eq-Decides}
pub use Rattle.std.specs.List.{AllByRecursion, list_all}
pub use Rattle.std.specs.Prelude.{unwrap_or}
pub use Rattle.std.specs.Str.{bytes_eq}
