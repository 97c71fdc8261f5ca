-- The words that the proofs of this crate take from others.
pub use Rattle.basis.specs.Listings.{listing_of}
pub use Rattle.basis.specs.Names.{admits, is_free_id, is_prefix, is_ws_name}
unfoldable pub use Rattle.basis.specs.Names.{run_id}
pub use Rattle.basis.specs.Runs.{action_word, is_open, status_word}
pub use Rattle.basis.specs.declared.refusals.Refusal.{Refusal}
pub use Rattle.basis.specs.declared.refusals.Refusal.TheVariants.{Absent, BadBody, BadDigest, BadLock, BadMessage, BadQuery, BadSecret, BadState, BadToken, Exists, HeadTooLarge, HeldByRun, InUse, Locked, NeedAdmin, NeedWrite, NoLength, NoMethod, NoRoute, NoToken, NotApplying, NotFound, NotHeld, OldSerial, OpenRuns, OtherLineage, OverLimit, TooLarge, TwoTokens, Unavailable, WrongState}
pub use Rattle.basis.specs.declared.rows.Holder.{Holder}
pub use Rattle.basis.specs.declared.rows.Holder.TheVariants.{Lock, Nobody, Run}
pub use Rattle.basis.specs.declared.rows.RunAsk.{RunAsk}
pub use Rattle.basis.specs.declared.rows.Settings.{Settings}
pub use Rattle.basis.specs.declared.rows.SettingsAsk.{SettingsAsk}
pub use Rattle.basis.specs.declared.rows.StateHead.{StateHead}
pub use Rattle.basis.specs.declared.runs.RunAction.{RunAction}
pub use Rattle.basis.specs.declared.runs.RunAction.TheVariants.{Cancel, Confirm, Discard, Fail, ReportApplied, ReportPlanned, ReportUnchanged}
pub use Rattle.basis.specs.declared.runs.RunStatus.{RunStatus}
pub use Rattle.basis.specs.declared.runs.RunStatus.TheVariants.{Applied, Applying, Canceled, Discarded, Errored, Pending, Planned, PlannedAndFinished, Planning}
pub use Rattle.std.proofs.Common.{Bool, Err, IfOk, IfSome, IsSome, IsSomeAnd, IsTrue, List, None, Ok, OnErr, OnOk, Option, Result, Some, T, [], ap, ap₂, arith, cond, drop, eq-eqb, eqb, eqb-true, false, filter, get_or, inl, inr, is_none, is_some, length, length-append, length-drop, map, nat_le, nat_lt, ne_eqb, not, option_copied, option_map, refl, replicate, rules, set, slice_get, subst, suc, sym, take, true, zero, ℕ, ◌&&◌, ◌++◌, ◌+◌, ◌-◌, ◌<◌, ◌==◌, ◌||◌, ◌↔◌, ◌∙◌, ◌∷◌, ◌≡◌, ◌≢◌, ◌≤◌, ◌⊎◌}
pub use Rattle.std.proofs.lemmas.Bool.{and_parts, eqb-false, le-leb, le-ltb, leb-true, lt-ltb, ltb-false, ltb-true}
pub use Rattle.std.proofs.lemmas.List.{drop_more, get_or_default, length-map, length-take-le, map-set, set_split, take-append-drop, take_all, take_more}
pub use Rattle.std.proofs.lemmas.List.Edits.{insert_end, length-insert, map_over_more}
pub use Rattle.std.proofs.lemmas.Option.{same_Some}
pub use Rattle.std.proofs.lemmas.Result.{IfOk-weaker, on_ok_weaker}
pub use Rattle.std.proofs.lemmas.Slice.Eq.{bytes_eq-Decides}
pub use Rattle.std.specs.Bool.{⊤}
pub use Rattle.std.specs.Cmp.{IsTotalOrder, eq_by_cmp_equiv, tied_itself}
pub use Rattle.std.specs.FinMap.{FinMap, empty, entries, entries_sorted, get, get-empty, get-entries, insert, is_sorted, remove, same_map}
pub use Rattle.std.specs.FinMap.Entries.{below_all, find-where_key, is_sorted-put, is_sorted-where_key, length-put, where_key}
pub use Rattle.std.specs.List.{AllByRecursion, list_any, range_with_len}
pub use Rattle.std.specs.Option.{option_map_or, option_or}
pub use Rattle.std.specs.Ordering.{eq_by_cmp, is_eq, is_lt, ordering_reverse}
pub use Rattle.std.specs.Prelude.{codes, find}
pub use Rattle.std.specs.Str.{bytes_eq}
pub use Rattle.std.specs.declared.cmp.Ordering.{Ordering}
pub use Rattle.std.specs.declared.cmp.Ordering.TheVariants.{Equal, Greater, Less}
