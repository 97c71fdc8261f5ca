-- The words that the proofs of this crate take from others.
pub use Rattle.basis.specs.Checks.{and_then, or_refused}
pub use Rattle.basis.specs.Names.{admits, has_length, is_free_id, is_org_name, is_ws_name}
unfoldable pub use Rattle.basis.specs.Names.{run_id}
pub use Rattle.basis.specs.Roles.{includes, is_before, is_valid_at, role_word}
pub use Rattle.basis.specs.declared.acts.WsAct.{WsAct}
pub use Rattle.basis.specs.declared.acts.WsAct.TheVariants.{Delete, ForceUnlock, Lock, MakeRun, PurgeState, Put, Query, ReportRun, Unlock, UpdateState}
pub use Rattle.basis.specs.declared.refusals.Refusal.{Refusal}
pub use Rattle.basis.specs.declared.refusals.Refusal.TheVariants.{BadBody, BadDigest, BadLock, BadQuery, BadSecret, BadState, BadToken, Locked, NoMethod, NoRoute, NotFound, OpenRuns, Unavailable}
pub use Rattle.basis.specs.declared.roles.Caller.{Caller}
pub use Rattle.basis.specs.declared.roles.Role.{Role}
pub use Rattle.basis.specs.declared.roles.Role.TheVariants.{Admin, Write}
pub use Rattle.basis.specs.declared.rows.Holder.{Holder}
pub use Rattle.basis.specs.declared.rows.RunAsk.{RunAsk}
pub use Rattle.basis.specs.declared.rows.StateHead.{StateHead}
pub use Rattle.basis.specs.declared.runs.RunAction.{RunAction}
pub use Rattle.basis.specs.declared.runs.RunStatus.TheVariants.{Applied, Applying, Pending, Planned, Planning}
unfoldable pub use Rattle.docs.specs.Bodies.{error_text}
pub use Rattle.docs.specs.Documents.{settings_of, state_head}
unfoldable pub use Rattle.docs.specs.Documents.{lock_id_of, run_ask}
pub use Rattle.docs.specs.declared.logs.LogRow.{LogRow}
pub use Rattle.machine.proofs.BookLemmas.{IsAcceptedWrite, IsBelow, Reaches, held_stays, one_is_active, reaches_itself, reaches_more, rises_by_write, starts_above, starts_below, stays_below}
pub use Rattle.machine.proofs.CustodyLemmas.{accepted_acts_come_again, held_versions_change_by_the_id, holds_until_released, locked_workspaces_stay, versions_change_by_the_id, workspaces_begin_anew, workspaces_go_by_delete}
pub use Rattle.machine.proofs.KeepLemmas.{apart_from, other_workspace, own_workspace, standing_is}
pub use Rattle.machine.proofs.LastingLemmas.{lasts_behind}
pub use Rattle.machine.proofs.MapLemmas.{below_apart, both_first, both_second, get_own, names_same, names_total, not_tied, remove_absent, removed_own, tied_names}
pub use Rattle.machine.proofs.RefusalLemmas.{missing_names_no_holder, never_refused_as_locked, refusals_name_the_holder}
pub use Rattle.machine.proofs.Rulings.{IsWrite, all_writes, repeats}
pub use Rattle.machine.specs.Custody.{GainsVersion, IsAnew, IsRefusal, IsRepeatable, IsWriter, KeepsVersions, Releases, WritesWith}
pub use Rattle.machine.specs.Effects.{effect}
pub use Rattle.machine.specs.Laws.{AreLawful, IsLawful, IsLawfulIfThere, IsLawfulOrganization, Rises, holds, is_nobody}
pub use Rattle.machine.specs.Meaning.{ChangeIsDue, Meets, answered, holder_of, meaning}
pub use Rattle.machine.specs.Order.{name_cmp}
pub use Rattle.machine.specs.Queue.{Starts, is_active_run}
pub use Rattle.machine.specs.Ranges.{IsHeadInRange, IsInRange, IsMoment, IsRetention, IsRunAsk, IsSettingsAsk}
pub use Rattle.machine.specs.Records.{Seen, count_of, missing, placed, seen_by, seen_in, standing, there, with_workspace, workspace_in}
pub use Rattle.machine.specs.Removal.{has_use, is_in_use, is_locked, org_removed}
pub use Rattle.machine.specs.Rules.{Outcome, Ruling, delete, done, held, no_state, refused, refused_by, report, rules, runs, state, the_run, versions, workspace}
pub use Rattle.machine.specs.Tokens.{ListsOrganizations, asker_of, caller_of, has_digest, new_organization, token_added, token_list_answer, token_of, token_revoked, token_with, with_token, without_token}
pub use Rattle.machine.specs.Units.{asked_run, has_version, unit_by, unit_of, version_of, version_text}
pub use Rattle.machine.specs.Workspaces.{holder_status, new_workspace, open_runs, run_of}
pub use Rattle.machine.specs.declared.acts.Act.{Act}
pub use Rattle.machine.specs.declared.acts.Decision.{Decision}
pub use Rattle.machine.specs.declared.acts.Decision.TheVariants.{Accepted, Refused}
pub use Rattle.machine.specs.declared.keeps.AdminAnswer.{AdminAnswer}
pub use Rattle.machine.specs.declared.keeps.AdminAnswer.TheVariants.{Absent, Done, Exists, InUse, Organizations, Tokens}
pub use Rattle.machine.specs.declared.keeps.TokenRow.{TokenRow}
pub use Rattle.machine.specs.declared.records.Organization.{Organization}
pub use Rattle.machine.specs.declared.records.Token.{Token}
pub use Rattle.machine.specs.declared.records.Version.{Version}
pub use Rattle.machine.specs.declared.records.Workspace.{Workspace}
pub use Rattle.route.specs.Asks.{Asking, asked_at, asked_made, asked_of, asked_read, asking_of, asks, is_bodyless, query_text, with_query}
pub use Rattle.route.specs.Doors.{is_at_door}
pub use Rattle.route.specs.Policy.{allowed_by, caller_refused, is_admitted, least_role, need_of, or_else_refused, role_refused}
pub use Rattle.route.specs.declared.routes.Asked.{Asked}
pub use Rattle.route.specs.declared.routes.AskedAct.{AskedAct}
pub use Rattle.route.specs.declared.routes.AskedAct.TheVariants.{ListWorkspaces, OfWorkspace}
unfoldable pub use Rattle.serde_json.proofs.OnLiterals.{serde_json_on_literals}
pub use Rattle.sha2.specs.Sha256.{sha256}
pub use Rattle.std.proofs.Common.{Bool, Bor, Err, Global, IfErr, IfOk, IfSome, IsErrOf, IsSome, IsTrue, List, None, Ok, OnOk, Option, Result, Some, T, Vec, [], ap, append_assoc, ap₂, arith, cond, drop, eq-eqb, false, get_or, inl, inr, is_some, length, map, nat_lt, not, refl, slice_get, subst, suc, sym, take, true, true≢false, zero, ℕ, ◌&&◌, ◌++◌, ◌+◌, ◌<◌, ◌||◌, ◌∙◌, ◌∷◌, ◌≡◌, ◌≢◌, ◌≤◌, ◌⊎◌}
pub use Rattle.std.proofs.KnownBytes.{Appends-nil, Appends-trans, Consumes-nil}
pub use Rattle.std.proofs.Math.Path.{fun_ext}
pub use Rattle.std.proofs.Math.Seq.{take-length}
pub use Rattle.std.proofs.lemmas.Bool.{eqb-true, le-leb, lt-ltb, ltb-true}
pub use Rattle.std.proofs.lemmas.List.{flat_map_more, length-take-le, take_more}
pub use Rattle.std.proofs.lemmas.Option.{same_Some}
pub use Rattle.std.proofs.lemmas.Result.{IfErr-weaker, IfOk-weaker}
pub use Rattle.std.proofs.lemmas.Slice.Eq.{bytes_eq-Decides}
pub use Rattle.std.specs.FinMap.{FinMap, entries, entries_sorted, find, get, get-empty, get-entries, get-insert, insert, is_sorted, same_map}
unfoldable pub use Rattle.std.specs.Fmt.{digits}
pub use Rattle.std.specs.Io.KnownBytes.{Appends, Consumes}
pub use Rattle.std.specs.List.{AllByRecursion, Contains, flat_map, list_all, list_any}
pub use Rattle.std.specs.Option.{option_map_or, option_or}
pub use Rattle.std.specs.Ordering.{eq_by_cmp, is_eq}
pub use Rattle.std.specs.Prelude.{All, IsUtf8, MatchOption, codes, if◌then◌else◌, option_map, ⊤, ◌==◌}
pub use Rattle.std.specs.Str.{IsCharBoundary, bytes_eq}
unfoldable pub use Rattle.std.specs.Str.{chars, is_utf8}
pub use Rattle.std.specs.declared.cmp.Ordering.{Ordering}
pub use Rattle.wire.proofs.ReadingLemmas.{reads_one}
pub use Rattle.wire.proofs.ReplyLemmas.{one_reply}
pub use Rattle.wire.specs.Links.{ReportsInput, ReportsReceived, Writes, continue_if}
pub use Rattle.wire.specs.Messages.{Reading, Reads, unfinished, whole}
pub use Rattle.wire.specs.Replies.{Answer, IsReplyText, bad_secret_answer, empty_answer, refused_answer, secret_text, text_answer, unavailable_answer}
pub use Rattle.wire.specs.declared.messages.Message.{Message}
