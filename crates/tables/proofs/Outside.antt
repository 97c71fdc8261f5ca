-- The words that the proofs of this crate take from others.
pub use Rattle.basis.proofs.NameLemmas.{equal_bytes}
pub use Rattle.basis.specs.Listings.{listing_of}
pub use Rattle.basis.specs.Names.{admits, is_org_name, is_prefix, is_ws_name}
pub use Rattle.basis.specs.declared.numbers.TheConstants.{FIRST_KEPT, MAX_LIMIT, MAX_NUMBER}
pub use Rattle.basis.specs.declared.roles.Bounds.{Bounds}
pub use Rattle.basis.specs.declared.roles.Role.{Role}
pub use Rattle.basis.specs.declared.rows.Holder.{Holder}
pub use Rattle.basis.specs.declared.rows.Holder.TheVariants.{Lock}
pub use Rattle.basis.specs.declared.rows.RunAsk.{RunAsk}
pub use Rattle.basis.specs.declared.rows.RunSettings.{RunSettings}
pub use Rattle.basis.specs.declared.rows.Settings.{Settings}
pub use Rattle.basis.specs.declared.rows.SettingsAsk.{SettingsAsk}
pub use Rattle.basis.specs.declared.runs.RunAction.{RunAction}
pub use Rattle.basis.specs.declared.runs.RunStatus.{RunStatus}
pub use Rattle.basis.specs.declared.runs.RunStatus.TheVariants.{Applied, Applying, Canceled, Discarded, Errored, Pending, Planned, PlannedAndFinished, Planning}
pub use Rattle.machine.proofs.CutLemmas.{found_by_number, last_taken, none_up_to, there_is}
pub use Rattle.machine.proofs.KeepLemmas.{apart_from, other_workspace, own_workspace, standing_is}
pub use Rattle.machine.proofs.MapLemmas.{below_apart, both_first, both_second, get_other, get_own, names_same, names_total, not_tied, removed_other, removed_own}
pub use Rattle.machine.proofs.Rulings.{Comes, IsPut, Misses, Way, comes, it_changes, it_goes, it_stays, lock_comes, lock_goes, put_or_missed, run_comes, run_goes_on, settings_come, version_comes, versions_go}
pub use Rattle.machine.specs.Changes.{IsDue, changed_by, edited, left_above}
pub use Rattle.machine.specs.Effects.{Effect, effect}
pub use Rattle.machine.specs.Laws.{AreLawful, IsLawful, IsLawfulIfThere, IsLawfulOrganization, IsToken, KeysDiffer, Rises, is_pending}
pub use Rattle.machine.specs.Needs.{Needed, needed_of, needs}
pub use Rattle.machine.specs.Order.{name_cmp}
pub use Rattle.machine.specs.Ranges.{IsMoment}
pub use Rattle.machine.specs.Records.{Seen, count_of, missing, placed, seen_by, seen_in, standing, there, with_workspace, workspace_in}
pub use Rattle.machine.specs.Removal.{has_use, is_in_use, is_locked, org_removed}
pub use Rattle.machine.specs.Rules.{locked, new_run, purged, released, reported, with_run}
pub use Rattle.machine.specs.Settling.{begun, first_waiting, is_waiting, settled, started, started_if, to_start}
pub use Rattle.machine.specs.Tokens.{AreOrganizations, Ascend, ShowsOrganization, asker_of, is_row_of, new_organization, org_limited, token_of, token_revoked, with_limit, with_token, without_token}
pub use Rattle.machine.specs.Units.{asked_run, find_last, has_version, if_needed, is_text, newest_unit, outgoing_by, unit_by, unit_of, version_of, version_text}
pub use Rattle.machine.specs.Workspaces.{has_key, holder_status, is_keyed, is_numbered, keyed_run, last_of, new_workspace, newest, open_runs, outgoing, run_of}
pub use Rattle.machine.specs.declared.acts.Act.{Act}
pub use Rattle.machine.specs.declared.acts.Act.TheVariants.{PutWorkspace}
pub use Rattle.machine.specs.declared.acts.Change.{Change}
pub use Rattle.machine.specs.declared.acts.Edit.{Edit}
pub use Rattle.machine.specs.declared.acts.Edit.TheVariants.{AddRun, AddVersion, Configure, Hold, Make, Purge, Release, Remove, Report}
pub use Rattle.machine.specs.declared.acts.Unit.TheVariants.{Present}
pub use Rattle.machine.specs.declared.keeps.AdminAnswer.{AdminAnswer}
pub use Rattle.machine.specs.declared.keeps.AdminAnswer.TheVariants.{Absent, Done, Exists, InUse}
pub use Rattle.machine.specs.declared.records.Organization.{Organization}
pub use Rattle.machine.specs.declared.records.Token.{Token}
pub use Rattle.machine.specs.declared.records.Version.{Version}
pub use Rattle.machine.specs.declared.records.Workspace.{Workspace}
pub use Rattle.pages.proofs.Alone.{none_if}
pub use Rattle.pages.proofs.Sequences.{as_it_is, one_query, step_behind, step_none, steps_by, steps_then, still_holds, unchanged_then}
pub use Rattle.sqlite.specs.Effect.{Database, IsDatabase}
pub use Rattle.sqlite.specs.Held.{Held, state}
pub use Rattle.sqlite.specs.State.{HasCause, HasCleanDisk, IsUnchanged, KeepsCommit, KeepsCounts, Shows, State, store_error}
unfoldable pub use Rattle.sqlite.specs.State.{IsNotRun}
pub use Rattle.sqlite.specs.Steps.{FailsToCommit}
pub use Rattle.sqlite.specs.declared.error.Error.{Error}
pub use Rattle.sqlite.specs.declared.error.Error.TheVariants.{SqliteFailure}
pub use Rattle.sqlite.specs.declared.transaction.Transaction.{Transaction}
pub use Rattle.sqlite_keyed.proofs.ListLemmas.{IsPermutation-filter, all-append, all-filter, all-slice_get, all_both, all_map, all_unmap, all_weaker, along_permutation, ascending-map, ascending_from_map, ascending_weaker, filter-filter, filter_none, filter_same, map-map, map_same, none_from_any, slice_get-filter}
pub use Rattle.sqlite_keyed.proofs.RuleLemmas.{apart_delete, apart_update, first_of_both, second_of_both}
pub use Rattle.sqlite_keyed.proofs.SliceLemmas.{any_is_found, filter-slice, find-slice, is_some-map, slice-delete_mine, slice-delete_other, slice-push_mine, slice-push_other, slice-update_mine, slice-update_other}
pub use Rattle.sqlite_keyed.proofs.SortLemmas.{IsPermutation-sort_by, sort_by-map}
pub use Rattle.sqlite_keyed.specs.Keyed.{get_by, next_key}
pub use Rattle.sqlite_keyed.specs.Lists.{delete_where, insert_sorted, sort_by, update_where}
pub use Rattle.sqlite_keyed.specs.Rules.{AreApart}
pub use Rattle.sqlite_schema.specs.Names.{table_named}
unfoldable pub use Rattle.sqlite_schema.specs.Names.{same_name}
pub use Rattle.sqlite_schema.specs.declared.schema.Schema.{Schema}
pub use Rattle.sqlite_schema.specs.declared.schema.Table.{Table}
pub use Rattle.sqlite_trees.specs.Tree.{IsAscending}
pub use Rattle.sqlite_trees.specs.declared.store.Store.{Ghosts}
pub use Rattle.statements.proofs.Counts.{known_within, later_has_edition, more_tables, most_tables, next_version}
pub use Rattle.statements.proofs.Decoding.{tables-held, tables_at-held}
pub use Rattle.statements.proofs.Found.{all_deleted, all_updated, apart_one, apart_pushed, filter_deleted, find_changed, find_deleted, find_left, find_pushed, find_pushed_other, find_unchanged, found_holds, found_passes, none_found, none_passes}
pub use Rattle.statements.proofs.Sorting.{AtMost, all_sorted, filter-sort_by, filter_both, sorted_already, sorted_as_is, turned_round}
pub use Rattle.statements.proofs.Transactions.{clean_before, moves_more}
pub use Rattle.statements.specs.Belonging.{AreAmong, AreNamedApart, AreOfOrgs}
pub use Rattle.statements.specs.Changes.{HasNoRetention, edition_moved, held_by, is_bound, is_digest_of, is_of, is_org, is_retention, is_run_of, is_run_row, is_token, is_version, is_version_below, is_version_of, is_ws, is_ws_of, kept_first, new_version, org_capped, org_row_added, org_row_removed, released_from, retention_changed, run_acted, run_added, run_changed_to, run_made, runs_removed, token_added, token_removed, unbounded, version_removed, with_all, with_it, with_next, with_next_run, with_next_version, with_run_settings, workspace_made, ws_added, ws_changed, ws_removed}
pub use Rattle.statements.specs.Finds.{IsBoundedRoleOf, back_by_number, bound_in, bound_of, cap_of, first_waiting_of, is_version_before, named_role, newest_of, oldest_below, open_runs_of, retention_of, role_of_digest, role_of_name, run_cmp, size_of, status_at_number, version_before, version_cmp, workspace_of, workspaces_of}
pub use Rattle.statements.specs.Listings.{NamesApart, OrgsApart, RunsApart, TokensApart, VersionsApart, WorkspacesApart, digest_token_row, digest_tokens_of, organizations_in, run_rows_after, tokens_by_name, version_rows_after, workspace_names_of, workspace_rows_after, workspaces_by_name}
pub use Rattle.statements.specs.Making.{Alters, HasEdition, HasMeta, HasSchema, IsNotNamed, KeepsForeign, NamesNoOther, Raises, raised, sequence_name, stored_schema_version}
pub use Rattle.statements.specs.Rows.{BoundRow, Kept, OrgRow, Owned, PageRow, RetentionRow, RunRow, TokenRow, VersionRow, VpageRow, WsRow, id_of, run_settings_at}
pub use Rattle.statements.specs.Schema.{column, edition_table, meta_table, version_table}
pub use Rattle.statements.specs.Steps.{AnyRows, Equals, EqualsWhere, LeavesAsIs, Moves, Queries, Reports, Sees, Steps, Writes}
pub use Rattle.statements.specs.Tables.{Holds, HoldsIn, IsOurs, Tables, added_by, count_in, is_known, later_tables, no_rows, our_tables, schema_tables, tables_at, tables_of, up_to}
pub use Rattle.statements.specs.declared.making.TheConstants.{SCHEMA_VERSION}
pub use Rattle.statements.specs.declared.rows.NamedToken.{NamedToken}
pub use Rattle.statements.specs.declared.rows.Rows.{Rows}
pub use Rattle.std.proofs.Common.{All, Bool, Equal, Err, Greater, IfErr, IfSome, IsErr, IsSomeAnd, IsTrue, Less, List, None, Ok, OnErr, OnOk, Option, Ordering, Result, Some, T, [], ap, append-nil, ap₂, arith, cond, drop, false, filter, find, get_or, inl, inr, int_cmp, is_eq, is_gt, is_none, is_some, length, map, map-id, min, nat_cmp, nat_le, nat_lt, not, option_copied, option_map, pos, refl, reverse, rules, slice_get, slice_index_or, subst, suc, sym, take, true, true≢false, zero, ℕ, ◌&&◌, ◌++◌, ◌+◌, ◌-◌, ◌<◌, ◌==◌, ◌||◌, ◌↔◌, ◌∙◌, ◌∷◌, ◌≡◌, ◌≢◌, ◌≤◌, ◌⊎◌}
pub use Rattle.std.proofs.Math.Bool.{and_assoc, and_comm, or-false}
pub use Rattle.std.proofs.lemmas.Bool.{and_from, and_parts, eq-eqb, eqb-true, false_from_ne_true, le-ltb, leb-false, lt-ltb, ltb-false, ltb-true, ne_eqb, not-true, or_from, or_parts, or_right}
pub use Rattle.std.proofs.lemmas.Bool.Decides.{nat_tests}
pub use Rattle.std.proofs.lemmas.Cmp.{upto}
pub use Rattle.std.proofs.lemmas.List.{drop-map, get_or-reverse, length-append, length-map, length-reverse, length-take, map_more, take-map, take-take, take_all, take_more}
pub use Rattle.std.proofs.lemmas.List.Elements.{All-drop, All-push, All-weaker}
pub use Rattle.std.proofs.lemmas.List.Folds.{list_all-map, list_any-append}
pub use Rattle.std.proofs.lemmas.List.Sorted.{length_permutation}
pub use Rattle.std.proofs.lemmas.Option.{same_Some, slice_get-get_or, slice_get-map}
pub use Rattle.std.proofs.lemmas.Result.{IfOk-weaker, on_ok_weaker}
pub use Rattle.std.specs.Bool.{⊤}
pub use Rattle.std.specs.Cmp.{IsTotalOrder, eq_by_cmp_equiv, nat_cmp_is, nat_cmp_total, on_total, tied_itself, unsigned_tied}
pub use Rattle.std.specs.FinMap.{FinMap, empty, entries, entries-insert, entries_sorted, from_entries, get, get-empty, get-entries, get-from_entries, insert, len, len-empty, len-entries, len-insert, len-remove, remove, same_map}
pub use Rattle.std.specs.List.{AllByRecursion, list_all, list_any}
pub use Rattle.std.specs.Option.{option_or, unwrap_or}
pub use Rattle.std.specs.Ordering.{eq_by_cmp, ordering_reverse, ordering_then}
pub use Rattle.std.specs.Str.{bytes_eq}
pub use Rattle.texts.proofs.Many.{moves_as, sees_as, sees_by, sees_then, when_done}
pub use Rattle.texts.proofs.PieceLaws.{same_is, whole_size}
pub use Rattle.texts.proofs.TextLaws.{carried_sound, carried_text, carried_whole, no_rows_sound, text_added_bounds, text_added_editions, text_added_keeps, text_added_metas, text_added_orgs, text_added_others_text, text_added_others_whole, text_added_places, text_added_retentions, text_added_runs, text_added_text, text_added_tokens, text_added_versions, text_added_whole, text_added_wss, text_removed_bounds, text_removed_editions, text_removed_keeps, text_removed_metas, text_removed_none, text_removed_orgs, text_removed_others_text, text_removed_others_whole, text_removed_places, text_removed_retentions, text_removed_runs, text_removed_tokens, text_removed_versions, text_removed_wss}
pub use Rattle.texts.specs.Texts.{AddsText, GoesOn, HasNoPlaces, HasSoundPlaces, IsWhole, KeysFit, TwinsFit, are_pieces, is_place_of, pages_for, text_added, text_of, text_removed}
