-- The words that the proofs of this crate take from others.
pub use Rattle.basis.proofs.NameLemmas.{equal_bytes}
pub use Rattle.basis.specs.Names.{has_length, is_free_id, is_org_name, is_prefix, is_ws_name}
pub use Rattle.basis.specs.declared.numbers.TheConstants.{FIRST_KEPT, MAX_KEPT, MAX_LIMIT, MAX_NUMBER}
pub use Rattle.machine.specs.Laws.{AreRuns, AreVersions, IsHolder, IsNext, IsRun, IsVersion, IsWhereActionEnds, KeysDiffer, Rises, holds, is_active, is_nobody, is_pending}
pub use Rattle.machine.specs.Ranges.{IsRetention}
pub use Rattle.pages.specs.Heads.{has_twin, head_in}
pub use Rattle.pages.specs.Rows.{is_equal_page, is_page, page_use, page_uses}
pub use Rattle.sqlite.specs.Held.{state}
pub use Rattle.sqlite_keyed.proofs.ListLemmas.{all_both, all_map, all_unmap, all_weaker, along_permutation, any_from_none, ascending-map, ascending_from_map, filter-map, filter_none, map-map, none_from_any, slice_get-filter}
pub use Rattle.sqlite_keyed.proofs.RuleLemmas.{first_of_both, second_of_both}
pub use Rattle.sqlite_keyed.proofs.SliceLemmas.{any_is_found, is_some-map}
pub use Rattle.sqlite_keyed.proofs.SortLemmas.{IsPermutation-sort_by, sort_by-map}
pub use Rattle.sqlite_keyed.specs.Lists.{insert_sorted, sort_by}
pub use Rattle.sqlite_keyed.specs.Rules.{AreApart}
pub use Rattle.statements.proofs.Found.{apart_pushed, found_holds, found_passes}
pub use Rattle.statements.proofs.Sorting.{AtMost, all_sorted, sorted_as_is}
pub use Rattle.statements.specs.Belonging.{AreAmong, AreNamedApart, AreOfOrgs}
pub use Rattle.statements.specs.Changes.{is_digest_of, is_of, is_org, is_retention, is_run_row, is_version, is_version_of, is_ws, is_ws_of}
pub use Rattle.statements.specs.Rows.{Kept, OrgRow, Owned, PageRow, RetentionRow, RunRow, VersionRow, VpageRow, WsRow}
pub use Rattle.statements.specs.Tables.{Holds, IsOurs, Tables, tables_of}
pub use Rattle.statements.specs.declared.rows.PageHead.{PageHead}
pub use Rattle.statements.specs.declared.rows.Rows.{Rows}
pub use Rattle.std.proofs.Common.{Bool, Bor, Equal, Greater, IfSome, IsPermutation, IsSomeAnd, IsSorted, IsTrue, Less, List, None, Option, Ordering, Some, Vec, [], add-one, ap, append-nil, append_assoc, ap₂, arith, below_more, cond, drop, drop-cons, false, filter, find, get_or, inl, inr, is_eq, is_gt, length, length-append, map, nat_cmp, nat_le, nat_lt, not, option_map, refl, rules, slice_get, string_bytes, subst, suc, sym, take, true, true≢false, ℕ, ◌&&◌, ◌++◌, ◌+◌, ◌-◌, ◌<◌, ◌==◌, ◌||◌, ◌∙◌, ◌∷◌, ◌≡◌, ◌≤◌, ◌⊎◌}
pub use Rattle.std.proofs.Math.Bool.{and-true, and_assoc, and_comm, or-false}
pub use Rattle.std.proofs.lemmas.Bool.{and_from, and_parts, cases_lt, eq-eqb, eqb-true, false_from_ne_true, le-leb, leb-false, leb-true, lt-ltb, ltb-false, ltb-true, ne_eqb, not-false, not-true, or_cases, or_left, or_right}
pub use Rattle.std.proofs.lemmas.Cmp.{nat_eq_equiv, nat_list_eq_equiv, upto}
pub use Rattle.std.proofs.lemmas.List.{length-map, length-take-le, map-append, take_all, take_more}
pub use Rattle.std.proofs.lemmas.List.Elements.{All-append, All-cons, All-nil, All-weaker, Contains-append_left, Contains-append_right, Contains-push, filter-append, filter_more}
pub use Rattle.std.proofs.lemmas.List.Filters.{length-filter_both, length-filter_more}
pub use Rattle.std.proofs.lemmas.List.Folds.{find-append, list_all-map}
pub use Rattle.std.proofs.lemmas.Map.Text.{btree_set_updates_text, is_eq-slice_cmp}
pub use Rattle.std.proofs.lemmas.Option.{none-some, same_Some, slice_get-map}
pub use Rattle.std.proofs.lemmas.Result.{IfOk-weaker, on_ok_weaker}
pub use Rattle.std.proofs.lemmas.Slice.Eq.{bytes_eq-Decides}
pub use Rattle.std.specs.BTreeMap.{BTreeMap, get, is_at}
pub use Rattle.std.specs.BTreeSet.{contains_text, insert_key}
pub use Rattle.std.specs.Cmp.{nat_cmp_total, tied_itself, unsigned_tied, unsigned_ties}
pub use Rattle.std.specs.List.{All, AllByRecursion, Contains, list_all, list_any}
pub use Rattle.std.specs.Option.{option_eq, option_map_or, option_or}
pub use Rattle.std.specs.Ordering.{match_ordering, ordering_reverse, ordering_then}
pub use Rattle.std.specs.Prelude.{unwrap_or, ◌↔◌}
pub use Rattle.std.specs.Str.{bytes_eq}
pub use Rattle.tables.proofs.Ordered.{by_run, by_run_total, by_version, runs_sorted, versions_sorted}
pub use Rattle.tables.proofs.Sorted.{all_unsorted, count_sorted, found_sorted, put_in_turn}
pub use Rattle.tables.proofs.Using.{any_more}
pub use Rattle.tables.specs.Records.{organization_at, record_of, retention_at, runs_at, version_at, versions_at, workspace_at, workspace_by, workspaces_at}
pub use Rattle.tables.specs.Scans.{ArePagesKeyed, AreRowsOf}
pub use Rattle.tables.specs.Sound.{HasNoGap, HasText, IsBoundRow, IsOrgRow, IsSound, IsSoundWorkspace, IsTokenRow}
pub use Rattle.texts.specs.Texts.{bytes_named, is_place, names_page, page_name, pages_for, piece_of, piece_size}
