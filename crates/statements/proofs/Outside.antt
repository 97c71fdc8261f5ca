-- The words that the proofs of this crate take from others.
pub use Rattle.basis.proofs.NameLemmas.{equal_bytes}
pub use Rattle.basis.specs.Names.{admits, has_length, is_prefix, is_ws_byte}
pub use Rattle.basis.specs.declared.numbers.TheConstants.{MAX_MOMENT, MAX_NUMBER, MAX_SERIAL}
pub use Rattle.basis.specs.declared.roles.Role.{Role}
pub use Rattle.basis.specs.declared.rows.Holder.{Holder}
pub use Rattle.basis.specs.declared.rows.RunSettings.{RunSettings}
pub use Rattle.basis.specs.declared.runs.RunAction.{RunAction}
pub use Rattle.basis.specs.declared.runs.RunStatus.{RunStatus}
pub use Rattle.basis.specs.declared.runs.RunStatus.TheVariants.{Applied, Applying, Canceled, Discarded, Errored, Pending, Planned, PlannedAndFinished, Planning}
pub use Rattle.sqlite.proofs.Callers.{IsPlain, begins_as, command_of, first_as, given_begin, one_step, reads_as, runs_as, unchanged_then}
pub use Rattle.sqlite.proofs.InsideLemmas.{keeps_then}
pub use Rattle.sqlite.proofs.MarkLemmas.{slice_get-take}
pub use Rattle.sqlite.proofs.StateLemmas.{survives_then}
pub use Rattle.sqlite.specs.Does.{AtPlace, Concludes, Defines, MakesIndex, MakesSequence, Tally, lacks_sequence, sequence_text}
pub use Rattle.sqlite.specs.Effect.{Database, IsDatabase, IsSource, RefusesToRead, is_query, value_rows}
pub use Rattle.sqlite.specs.Held.{Held, state}
pub use Rattle.sqlite.specs.Listing.{IsSourceOf, if_select, is_select, listing_schema, reads_listing}
unfoldable pub use Rattle.sqlite.specs.Listing.{understood}
pub use Rattle.sqlite.specs.Rows.{Task, Written, stamped}
pub use Rattle.sqlite.specs.State.{Executes, Fails, FailsToShow, HasCleanDisk, IsRolledBack, IsUnchanged, KeepsCommit, QueriesRowInside, ShowsRows, State, Survives, mode_of, store_error}
unfoldable pub use Rattle.sqlite.specs.State.{Begins, CommitsShowing, FailsToQuery, IsNotRun, QueriesRow, Shown}
pub use Rattle.sqlite.specs.Values.{bound}
pub use Rattle.sqlite.specs.declared.error.Error.{Error}
pub use Rattle.sqlite.specs.declared.transaction.Transaction.{Transaction}
pub use Rattle.sqlite_ast.specs.declared.Core.{Core}
pub use Rattle.sqlite_ast.specs.declared.Core.{out-Core}
pub use Rattle.sqlite_ast.specs.declared.Expr.{Expr}
pub use Rattle.sqlite_ast.specs.declared.Expr.TheVariants.{Integer, Parameter}
pub use Rattle.sqlite_ast.specs.declared.Select.{out-Select}
pub use Rattle.sqlite_ast.specs.declared.Sort.{Sort, roll-Sort}
pub use Rattle.sqlite_ast.specs.declared.Statement.{Statement}
pub use Rattle.sqlite_catalog.proofs.AlterLemmas.{rows_trans}
pub use Rattle.sqlite_catalog.proofs.ListFacts.{filter_swap, most_from}
pub use Rattle.sqlite_catalog.proofs.StepLemmas.{no_table, same_itself}
pub use Rattle.sqlite_catalog.specs.Change.{KeepsRows, next_tree, past_views}
pub use Rattle.sqlite_catalog.specs.Listing.{IsGuarded, IsSound, IsTableRow, automatic}
pub use Rattle.sqlite_draft.specs.declared.join.Step.TheVariants.{Left}
pub use Rattle.sqlite_draft.specs.declared.query.Draft.{Draft}
pub use Rattle.sqlite_keyed.proofs.KeyedLemmas.{IsKeyedBy-delete_where, IsKeyedBy-insert_by, IsKeyedBy-update_where, Less-from_lt, int_eq_apart}
pub use Rattle.sqlite_keyed.proofs.ListLemmas.{all-append, all-filter, all-slice_get, all_both, all_from_test, all_map, all_of, all_unmap, all_weaker, along_permutation, ascending-append, ascending-filter, ascending-map, ascending_from_map, ascending_weaker, filter-map, filter_all, filter_as_flat_map, filter_none, filter_same, first_taken, flat_map-map, flat_map_none, flat_map_same_on, map-map, map_back, map_same, none_from_any, slice_get-filter}
pub use Rattle.sqlite_keyed.proofs.SliceLemmas.{insert_next, is_some-map}
pub use Rattle.sqlite_keyed.specs.Keyed.{IsKeyedBy, insert_by, next_key}
pub use Rattle.sqlite_keyed.specs.Lists.{delete_where, insert_sorted, sort_by, update_where, without_key}
pub use Rattle.sqlite_keyed.specs.Rules.{AreApart}
pub use Rattle.sqlite_resolve.specs.Body.{left_join, outputs, table_at, within}
unfoldable pub use Rattle.sqlite_resolve.specs.Body.{tests}
pub use Rattle.sqlite_resolve.specs.Compile.{first, small, table_defined_by, with_command}
unfoldable pub use Rattle.sqlite_resolve.specs.Compile.{command, compiled, create_index, create_table, creates, insert, insert_or_abort, meaning, new_rows, planned, queried, read, returning, shows, source_of, timed}
pub use Rattle.sqlite_resolve.specs.Expr.{lower}
pub use Rattle.sqlite_resolve.specs.Lowering.{Checked, and_then, nothing}
unfoldable pub use Rattle.sqlite_resolve.specs.Lowering.{take_slot}
unfoldable pub use Rattle.sqlite_resolve.specs.Order.{keys, sorts}
pub use Rattle.sqlite_resolve.specs.Program.{program}
unfoldable pub use Rattle.sqlite_resolve.specs.Program.{query}
pub use Rattle.sqlite_resolve.specs.Scope.{Context}
pub use Rattle.sqlite_resolve.specs.Select.{inside, outermost, paging}
unfoldable pub use Rattle.sqlite_resolve.specs.Select.{assembled, having, named, parts, ungrouped}
pub use Rattle.sqlite_resolve.specs.Write.{as_row, places}
unfoldable pub use Rattle.sqlite_resolve.specs.Write.{inserted, selected}
pub use Rattle.sqlite_resolve.specs.declared.body.Joined.{Joined}
pub use Rattle.sqlite_resolve.specs.declared.compiled.Compiled.{Compiled}
pub use Rattle.sqlite_resolve.specs.declared.error.CompileError.{CompileError}
pub use Rattle.sqlite_resolve.specs.declared.scope.Bound.{Bound}
pub use Rattle.sqlite_resolve.specs.declared.scope.Level.{Level}
pub use Rattle.sqlite_rules.proofs.ListLemmas.{all_has}
pub use Rattle.sqlite_rules.proofs.PlaceLemmas.{zip_more}
pub use Rattle.sqlite_rules.specs.Action.{Acts, ActsOn, AreChildren, Goes, Leads, Work, Writes, action_edit, deed_for, deed_of, is_child_of, loses, max_depth, pairs, refuses, work_by, work_for}
pub use Rattle.sqlite_rules.specs.Calls.{ids_of}
pub use Rattle.sqlite_rules.specs.Cast.{cast, cast_all, cast_row}
pub use Rattle.sqlite_rules.specs.Edit.{Applies, Edit, edit_of, edited, next_rowid, numbered, put_all, row_at, taken_by, without_all}
pub use Rattle.sqlite_rules.specs.declared.error.Rowids.TheVariants.{Above, Chosen, Given}
pub use Rattle.sqlite_schema.specs.Names.{same_name, table_named}
pub use Rattle.sqlite_schema.specs.Rules.{ParentKey, agree, clashes, declared_order, differ, guards, key_in, key_places, parent_key, passes}
pub use Rattle.sqlite_schema.specs.declared.command.Command.{Command}
pub use Rattle.sqlite_schema.specs.declared.command.Command.TheVariants.{CreateIndex, CreateTable, Delete, Insert, Nothing, Rows, Select, Update}
pub use Rattle.sqlite_schema.specs.declared.command.Source.{Source}
pub use Rattle.sqlite_schema.specs.declared.command.Source.TheVariants.{Values}
pub use Rattle.sqlite_schema.specs.declared.program.Program.{Program}
pub use Rattle.sqlite_schema.specs.declared.schema.Index.{Index}
pub use Rattle.sqlite_schema.specs.declared.schema.Keys.TheVariants.{Deferred, Enforced, Off}
pub use Rattle.sqlite_schema.specs.declared.schema.Reference.{Reference}
pub use Rattle.sqlite_schema.specs.declared.schema.Schema.{Schema}
pub use Rattle.sqlite_schema.specs.declared.schema.Table.{Table}
pub use Rattle.sqlite_sql.proofs.AggregateLemmas.{only_one}
pub use Rattle.sqlite_sql.specs.Aggregate.{count}
pub use Rattle.sqlite_sql.specs.Group.{Grouping, IsGrouped, IsSummary, value_over}
pub use Rattle.sqlite_sql.specs.Ops.{from_truth, is_true}
unfoldable pub use Rattle.sqlite_sql.specs.Ops.{binary, unary}
pub use Rattle.sqlite_sql.specs.Program.{overlay}
pub use Rattle.sqlite_sql.specs.Query.{IsAnswer, IsKept, Join, Output, Query, as_count, end, inner, left, limited, matches, or_nulls, output, output_cmp, page}
pub use Rattle.sqlite_sql.specs.Term.{Env, Term, col, eval, eval_all, holds, lit, op2}
pub use Rattle.sqlite_sql.specs.declared.aggregate.AggregateOp.TheVariants.{CountRows}
pub use Rattle.sqlite_sql.specs.declared.ops.BinaryOp.TheVariants.{Arith, Compare}
pub use Rattle.sqlite_sql.specs.declared.ops.CompareOp.TheVariants.{Eq, Ge, Gt, Lt, Ne}
pub use Rattle.sqlite_syntax.specs.declared.statement.Parsed.{Parsed}
unfoldable pub use Rattle.sqlite_tied.specs.Compute.{everything}
pub use Rattle.sqlite_trees.specs.Tree.{IsAscending, Trees, has_rowid, put_row, rowid}
pub use Rattle.sqlite_trees.specs.View.{doubt}
pub use Rattle.sqlite_trees.specs.declared.store.Store.{Ghosts}
pub use Rattle.sqlite_typed.proofs.AnswerLemmas.{IsNoTie, at_end, last_table}
pub use Rattle.sqlite_typed.proofs.TestLemmas.{at_blobs, at_ints, at_texts, difference_fits, last_term, then_term, turn_eq}
pub use Rattle.sqlite_typed.specs.Columns.{bytes_of, int_of, or_null, unless_null}
pub use Rattle.sqlite_value.proofs.OrderLemmas.{then-Equal, value_cmp-Int, value_cmp-Text, value_cmp_total}
pub use Rattle.sqlite_value.specs.Keys.{plain}
unfoldable pub use Rattle.sqlite_value.specs.Keys.{first_key}
pub use Rattle.sqlite_value.specs.Order.{Row, column, value_cmp}
pub use Rattle.sqlite_value.specs.declared.keys.Collation.{Collation}
pub use Rattle.sqlite_value.specs.declared.keys.Collation.TheVariants.{Binary}
pub use Rattle.sqlite_value.specs.declared.keys.Key.{Key}
pub use Rattle.sqlite_value.specs.declared.keys.Order.{Order}
pub use Rattle.sqlite_value.specs.declared.value.Value.{Value}
pub use Rattle.sqlite_value.specs.declared.value.Value.TheVariants.{Blob, Int, Null, Real, Text}
pub use Rattle.std.proofs.Common.{Bool, Bor, Equal, Err, Greater, IfErr, IfOk, IsPermutation, IsSome, IsTrue, Less, List, MatchBool, None, Ok, OnErr, OnOk, Option, Ordering, Result, SFits, Some, [], ap, append-nil, append_assoc, ap₂, arith, codes, cond, drop, eq-eqb, eqb, false, filter, find, flat_map, fold, get_or, if◌then◌else◌, inl, inr, int_cmp, int_eq, int_lt, is_eq, is_gt, is_lt, is_some, length, length-append, map, map-id, max, nat_cmp, negsuc, not, option_and_then, option_map, pos, refl, reverse, rules, slice_get, slice_index_or, slice_range, subst, suc, sym, take, true, true≢false, unsigned_abs, unwrap_or, w64, zero, ℕ, ℤ, ◌&&◌, ◌++◌, ◌+ℤ◌, ◌+◌, ◌-ℤ◌, ◌-◌, ◌/◌, ◌<ℤ◌, ◌<◌, ◌==◌, ◌^◌, ◌||◌, ◌∙◌, ◌∷◌, ◌≡◌, ◌≢◌, ◌≤◌, ◌⊎◌}
pub use Rattle.std.proofs.Math.Bool.{and-false, and_assoc}
pub use Rattle.std.proofs.lemmas.Bool.{and_parts, cases_Bool, eqb-true, ne_eqb, or_parts}
pub use Rattle.std.proofs.lemmas.Bool.Decides.{nat_tests}
pub use Rattle.std.proofs.lemmas.Cmp.{int_cmp_total, tied_itself, upto}
pub use Rattle.std.proofs.lemmas.Int.{ints, to_z-of_z}
pub use Rattle.std.proofs.lemmas.List.{length-map, map-append, nil_from_length, take-append-drop, take-append-le, take-map, take-take, take_all, take_more}
pub use Rattle.std.proofs.lemmas.List.Elements.{All-from_recursion, recursion_from_All}
pub use Rattle.std.proofs.lemmas.List.Sorted.{All-permutation, IsPermutation-cons, IsPermutation-middle, IsPermutation-refl, IsPermutation-trans, length_permutation}
pub use Rattle.std.proofs.lemmas.Map.Text.{is_eq-slice_cmp}
pub use Rattle.std.proofs.lemmas.Option.{slice_get-map}
pub use Rattle.std.proofs.lemmas.Result.{IfErr-weaker, IfOk-weaker}
pub use Rattle.std.specs.Cmp.{IsTotalOrder, nat_cmp_total, on_total}
pub use Rattle.std.specs.Cmp.Lexicographic.{nat_list_cmp_total, slice_partial_cmp}
pub use Rattle.std.specs.FinMap.{empty, entries, entries-insert, from_entries, len-empty, len-entries}
pub use Rattle.std.specs.List.{AllByRecursion, AllZip, list_all, list_any, position_from, position_or_len}
pub use Rattle.std.specs.Ordering.{match_ordering, ordering_reverse, ordering_then}
pub use Rattle.std.specs.Prelude.{nat_lt, ⊤}
pub use Rattle.std.specs.Str.{bytes_eq}
