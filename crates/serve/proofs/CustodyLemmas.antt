-- What a step leaves of a workspace.
use Rattle.serve.proofs.Outside.{◌≡◌, ◌≢◌, ◌⊎◌, inl, inr, ℕ, ◌≤◌, Bool, true, false, not, ◌&&◌, ◌||◌, cond, List, Option, Some, None, Result, Ok, Err, IsSome, is_some, nat_lt, refl, sym, ap, subst, ◌∙◌, bytes_eq, get, bytes_eq-Decides, Refusal, BadToken, sha256, effect, Seen, missing, there, workspace_in, count_of, seen_by, seen_in, standing, placed, Outcome, refused, held, done, no_state, state, workspace, the_run, versions, runs, rules, WritesWith, Releases, IsRepeatable, IsRefusal, has_use, token_of, with_token, without_token, has_digest, token_added, token_revoked, Done, Exists, Absent, Act, Token, Workspace, Organization, repeats, versions_change_by_the_id, holds_until_released, locked_workspaces_stay, workspaces_go_by_delete, accepted_acts_come_again, get_own, removed_own, own_workspace, other_workspace, apart_from, Asked, AskedAct, ListWorkspaces, OfWorkspace, WsAct, Asking, asked_of, asks, Message, Reading, unfinished, whole, reads_one}
use Rattle.machine.specs.declared.acts.Act.TheVariants.{DeleteWorkspace as DeleteAct}
use Rattle.basis.specs.declared.rows.Holder.TheVariants.{Lock as HeldLock}
use Rattle.serve.specs.declared.steps.Admin.{Admin}
use Rattle.serve.specs.declared.steps.Admin.TheVariants.{OrgAdd, OrgLimit, OrgRemove, OrgList, TokenAdd, TokenList, TokenRevoke}
use Rattle.serve.specs.declared.checks.Task.{Task}
use Rattle.serve.specs.declared.checks.Task.TheVariants.{ListAll, Carry}
use Rattle.serve.specs.Asks.{Ask, silent, requests, commands, stops}
use Rattle.serve.specs.Asks as ask
use Rattle.serve.specs.Checks.{spelt, act_of, checked}
use Rattle.serve.specs.Steps.{answer_to, seen_at, ruled_in, carried, command_step}
use Rattle.serve.specs.Custody.{NamesIn, IsRemoval, IsForcedRemoval, StepsChangeWhatTheyName, IsActOn, IsInCustody, LocksAreKept, IsInUseIn, OrganizationsGoByRemoval, RemovalsAreCarriedOut, OrganizationsBeginAnew, asked_again, StepsAreRepeatable, RepeatsLeaveTheWorkspace, SameBytesAskAgain, RequestsChangeTheirWorkspaceAlone}
use Rattle.serve.proofs.ActLemmas.{act_is}
use Rattle.serve.proofs.CheckLemmas.{Passes, order_passes, list_passes, checked_later, read_act}
use Rattle.serve.proofs.RecordLemmas.{placed_as_it_was, standing_at}
use Rattle.serve.proofs.LawLemmas.{ruled_leaves}
use Rattle.serve.proofs.RemovalLemmas.{lock_is_used, Comes, command_comes, removal_goes, removed_again}
use Rattle.serve.specs.Service.{asked_by, ask_of}
use Rattle.route.specs.Asks as route
use Rattle.wire.specs.Messages as wire

-- the workspaces after the rules of one of them
pub own_after : (r : Option Organization) (org ws : List ℕ) (act : Act) (now : ℕ) → IsSome r
    → workspace_in (ruled_in org ws r (rules act now (seen_at r ws))).left ws ≡ (rules act now (seen_at r ws)).left
own_after None org ws act now some = absurd (let none : ⊥ = cc in none)
own_after (Some o) org ws act now some = own_workspace o.workspaces ws (rules act now (seen_in o ws)).left

pub other_after : (r : Option Organization) (org ws other : List ℕ) (act : Act) (now : ℕ) → other ≢ ws
    → workspace_in (ruled_in org ws r (rules act now (seen_at r ws))).left other ≡ workspace_in r other
other_after None org ws other act now apart = refl
other_after (Some o) org ws other act now apart = other_workspace o.workspaces ws (rules act now (seen_in o ws)).left other apart

-- a workspace that stands is the one that the rules see
pub seen_there : (r : Option Organization) (ws : List ℕ) (w : Workspace) → workspace_in r ws ≡ Some w → seen_at r ws ≡ there w
seen_there None ws w e = absurd (let none : ⊥ = cc in none)
seen_there (Some o) ws w e = ap (seen_by (nat_lt (count_of o) o.limit)) e

pub names_of : (act : AskedAct) (ws : List ℕ) (what : WsAct) → act ≡ OfWorkspace ws what → NamesIn act ws
names_of act ws what e = subst (λ (a : AskedAct). NamesIn a ws) (sym e) refl

pub act_on : (asked : Asked) (ws body : List ℕ) (what : WsAct) (act : Act) → asked.act ≡ OfWorkspace ws what → act_of what asked.lock_id body ≡ Ok act → IsActOn asked.act asked.lock_id body act
act_on asked ws body what act e spelt = subst (λ (a : AskedAct). IsActOn a asked.lock_id body act) (sym e) spelt

-- a step changes at most the workspace that it names
request_leaves_others : (r : Option Organization) (now : ℕ) (asked : Asked) (content_md5 : Option (List ℕ)) (body ws : List ℕ) (x : Result Task Refusal) → checked r now asked content_md5 body ≡ x
    → (NamesIn asked.act ws → ⊥) → workspace_in (carried asked.caller now r x).left ws ≡ workspace_in r ws
request_leaves_others r now asked content_md5 body ws (Err refusal) e other = refl
request_leaves_others r now asked content_md5 body ws (Ok (ListAll after prefix)) e other = refl
request_leaves_others r now asked content_md5 body ws (Ok (Carry its_ws its_act)) e other =
    let p : Passes r asked body its_ws its_act = order_passes r now asked content_md5 body its_ws its_act e in
    other_after r asked.caller its_ws ws its_act now
    (λ same. other (subst (NamesIn asked.act) (sym same) (names_of asked.act its_ws p.what p.asks)))

pub steps_change_what_they_name : StepsChangeWhatTheyName
steps_change_what_they_name r silent ws other stays = refl
steps_change_what_they_name r (ask.refused at awaited refusal is_head at_door) ws other stays = refl
steps_change_what_they_name r (requests at awaited asked content_md5 body) ws other stays = request_leaves_others r at asked content_md5 body ws (checked r at asked content_md5 body) refl other
steps_change_what_they_name r (stops at) ws other stays = refl
steps_change_what_they_name r (commands at command) ws other stays = by_case (command_comes r command)
  where
    by_case : Comes r command → workspace_in (command_step r command).left ws ≡ workspace_in r ws
    by_case (inl removed) = absurd (stays removed.removes)
    by_case (inr leaves) = leaves.keeps ws

pub is_one : (a b : Act) → read_act a ≡ read_act b → b ≡ a
is_one a b e = cc

-- a workspace that a step leaves as it is
abbrev Kept : Option Workspace → Ask → List ℕ → List ℕ → List ℕ → Workspace → Type 0
Kept after what ws own text w = (v : Workspace) × (after ≡ Some v) × IsInCustody what ws own text w v

stays : (after : Option Workspace) (what : Ask) (ws own text : List ℕ) (w : Workspace) → after ≡ Some w → w.holder ≡ HeldLock own text → Kept after what ws own text w
stays after what ws own text w e lock = (w, e, record { versions = inl refl; holder = inl lock })

pub some_is : (o : Option Workspace) → IsSome o → (v : Workspace) × (o ≡ Some v)
some_is None h = absurd (let none : ⊥ = cc in none)
some_is (Some v) h = (v, refl)

-- the workspace that the rules were asked of
ruled_kept : (r : Option Organization) (now : ℕ) (awaited : Bool) (asked : Asked) (content_md5 : Option (List ℕ)) (body : List ℕ) (its_ws : List ℕ) (its_act : Act) (w : Workspace) (own text : List ℕ)
    → Passes r asked body its_ws its_act → workspace_in r its_ws ≡ Some w → w.holder ≡ HeldLock own text
    → Kept (workspace_in (ruled_in asked.caller its_ws r (rules its_act now (seen_at r its_ws))).left its_ws) (requests now awaited asked content_md5 body) its_ws own text w
ruled_kept r now awaited asked content_md5 body its_ws its_act w own text p stands lock =
    let sees : seen_at r its_ws ≡ there w = seen_there r its_ws w stands in
    let left : workspace_in (ruled_in asked.caller its_ws r (rules its_act now (seen_at r its_ws))).left its_ws ≡ (rules its_act now (there w)).left =
    own_after r asked.caller its_ws its_act now p.there ∙ ap (λ (s : Seen). (rules its_act now s).left) sees in
    let v = some_is (rules its_act now (there w)).left (locked_workspaces_stay its_act now w own text lock) in
    let names : NamesIn asked.act its_ws = names_of asked.act its_ws p.what p.asks in (
      v.0,
      left ∙ v.1,
      record {
        versions = carried_or_kept v.0 names p (versions_change_by_the_id its_act now w v.0 own text lock v.1);
        holder = released_or_held v.0 names p (holds_until_released its_act now w v.0 own text lock v.1);
      },
    )
  where
    carried_or_kept : (v : Workspace) → NamesIn asked.act its_ws → Passes r asked body its_ws its_act → (v.versions ≡ w.versions) ⊎ WritesWith its_act (Some own)
        → (v.versions ≡ w.versions) ⊎ (NamesIn asked.act its_ws × (asked.lock_id ≡ Some own))
    carried_or_kept v names p (inl h) = inl h
    carried_or_kept v names p (inr h) = inr (names, (act_is p.what asked.lock_id body its_act p.spelt).writes (Some own) h)

    released_or_held : (v : Workspace) → NamesIn asked.act its_ws → Passes r asked body its_ws its_act → (v.holder ≡ HeldLock own text) ⊎ Releases its_act own
        → (v.holder ≡ HeldLock own text) ⊎ (NamesIn asked.act its_ws × ((act : Act) × IsActOn asked.act asked.lock_id body act × Releases act own))
    released_or_held v names p (inl h) = inl h
    released_or_held v names p (inr h) = inr (names, (its_act, act_on asked its_ws body p.what its_act p.asks p.spelt, h))

request_kept : (r : Option Organization) (now : ℕ) (awaited : Bool) (asked : Asked) (content_md5 : Option (List ℕ)) (body ws : List ℕ) (w : Workspace) (own text : List ℕ) (x : Result Task Refusal)
    → checked r now asked content_md5 body ≡ x → workspace_in r ws ≡ Some w → w.holder ≡ HeldLock own text
    → Kept (workspace_in (carried asked.caller now r x).left ws) (requests now awaited asked content_md5 body) ws own text w
request_kept r now awaited asked content_md5 body ws w own text (Err refusal) e stands lock = stays _ (requests now awaited asked content_md5 body) ws own text w stands lock
request_kept r now awaited asked content_md5 body ws w own text (Ok (ListAll after prefix)) e stands lock = stays _ (requests now awaited asked content_md5 body) ws own text w stands lock
request_kept r now awaited asked content_md5 body ws w own text (Ok (Carry its_ws its_act)) e stands lock = by_name (bytes_eq ws its_ws) refl
  where
    p : Passes r asked body its_ws its_act
    p = order_passes r now asked content_md5 body its_ws its_act e

    by_name : (b : Bool) → bytes_eq ws its_ws ≡ b → Kept (workspace_in (ruled_in asked.caller its_ws r (rules its_act now (seen_at r its_ws))).left ws) (requests now awaited asked content_md5 body) ws own text w
    by_name true same =
        let is : ws ≡ its_ws = (bytes_eq-Decides ws its_ws).0 same in
        subst (λ (n : List ℕ). Kept (workspace_in (ruled_in asked.caller its_ws r (rules its_act now (seen_at r its_ws))).left n) (requests now awaited asked content_md5 body) n own text w) (sym is)
        (ruled_kept r now awaited asked content_md5 body its_ws its_act w own text p (subst (λ (n : List ℕ). workspace_in r n ≡ Some w) is stands) lock)
    by_name false apart =
        stays (workspace_in (ruled_in asked.caller its_ws r (rules its_act now (seen_at r its_ws))).left ws) (requests now awaited asked content_md5 body) ws own text w
        (other_after r asked.caller its_ws ws its_act now (apart_from ws its_ws apart) ∙ stands) lock

pub locks_are_kept : LocksAreKept
locks_are_kept r silent ws w own text stands lock = inl (stays (workspace_in r ws) silent ws own text w stands lock)
locks_are_kept r (ask.refused at awaited refusal is_head at_door) ws w own text stands lock = inl (stays (workspace_in r ws) (ask.refused at awaited refusal is_head at_door) ws own text w stands lock)
locks_are_kept r (requests at awaited asked content_md5 body) ws w own text stands lock =
    inl (request_kept r at awaited asked content_md5 body ws w own text (checked r at asked content_md5 body) refl stands lock)
locks_are_kept r (stops at) ws w own text stands lock = inl (stays (workspace_in r ws) (stops at) ws own text w stands lock)
locks_are_kept r (commands at command) ws w own text stands lock = by_case (command_comes r command)
  where
    by_reason : IsForcedRemoval command ⊎ (IsInUseIn r → ⊥) → IsForcedRemoval command
    by_reason (inl forced) = forced
    by_reason (inr free) = absurd (free (ws, w, stands, lock_is_used w own text lock))

    by_case : Comes r command → Kept (workspace_in (command_step r command).left ws) (commands at command) ws own text w ⊎ IsForcedRemoval command
    by_case (inl removed) = inr (by_reason removed.reason)
    by_case (inr leaves) = inl (stays (workspace_in (command_step r command).left ws) (commands at command) ws own text w (leaves.keeps ws ∙ stands) lock)

-- how an organization goes
request_leaves_one : (o : Organization) (now : ℕ) (org : List ℕ) (x : Result Task Refusal) → IsSome (carried org now (Some o) x).left
request_leaves_one o now org (Err refusal) = refl
request_leaves_one o now org (Ok (ListAll after prefix)) = refl
request_leaves_one o now org (Ok (Carry its_ws its_act)) = refl

some_stays : (left : Option Organization) → IsSome left → left ≡ None → ⊥
some_stays left some gone = let none : ⊥ = cc (sym some ∙ ap is_some gone) in none

pub organizations_go_by_removal : OrganizationsGoByRemoval
organizations_go_by_removal o silent gone = absurd (some_stays (Some o) refl gone)
organizations_go_by_removal o (ask.refused at awaited refusal is_head at_door) gone = absurd (some_stays (Some o) refl gone)
organizations_go_by_removal o (requests at awaited asked content_md5 body) gone =
    absurd (some_stays _ (request_leaves_one o at asked.caller (checked (Some o) at asked content_md5 body)) gone)
organizations_go_by_removal o (stops at) gone = absurd (some_stays (Some o) refl gone)
organizations_go_by_removal o (commands at command) gone = by_case (command_comes (Some o) command)
  where
    by_case : Comes (Some o) command → IsRemoval command × (IsForcedRemoval command ⊎ (IsInUseIn (Some o) → ⊥))
    by_case (inl removed) = (removed.removes, removed.reason)
    by_case (inr leaves) = absurd (some_stays (command_step (Some o) command).left (leaves.there refl) gone)

pub removals_are_carried_out : RemovalsAreCarriedOut
removals_are_carried_out o silent removes reason = absurd removes
removals_are_carried_out o (ask.refused at awaited refusal is_head at_door) removes reason = absurd removes
removals_are_carried_out o (requests at awaited asked content_md5 body) removes reason = absurd removes
removals_are_carried_out o (stops at) removes reason = absurd removes
removals_are_carried_out o (commands at command) removes reason = removal_goes o command removes reason

pub organizations_begin_anew : OrganizationsBeginAnew
organizations_begin_anew at org limit = refl

-- two orders of one request, over two records, are one
pub one_name : (a b : List ℕ) (c d : WsAct) → OfWorkspace a c ≡ OfWorkspace b d → (a ≡ b) × (c ≡ d)
one_name a b c d e = (ap name_of e, cc)
  where
    name_of : AskedAct → List ℕ
    name_of (ListWorkspaces after) = a
    name_of (OfWorkspace name act) = name

same_order : (r q : Option Organization) (asked : Asked) (body : List ℕ) (its_ws : List ℕ) (its_act : Act) (other_ws : List ℕ) (other_act : Act) → Passes r asked body its_ws its_act → Passes q asked body other_ws other_act → (other_ws ≡ its_ws) × (other_act ≡ its_act)
same_order r q asked body its_ws its_act other_ws other_act first second =
    let both : (other_ws ≡ its_ws) × (second.what ≡ first.what) = one_name other_ws its_ws second.what first.what (sym second.asks ∙ first.asks) in
    (both.0, is_one its_act other_act (sym first.spelt ∙ ap (λ (w : WsAct). act_of w asked.lock_id body) (sym both.1) ∙ second.spelt))

-- once more, on a record whose workspace is as the first left it
again_left : (q : Option Organization) (org ws : List ℕ) (act : Act) (now later : ℕ) (s : Seen) (v : Workspace) → IsSome q → IsRepeatable act → (rules act now s).left ≡ Some v
    → workspace_in q ws ≡ Some v → (ruled_in org ws q (rules act later (seen_at q ws))).left ≡ q
again_left None org ws act now later s v some may left stands = absurd (let none : ⊥ = cc in none)
again_left (Some o) org ws act now later s v some may left stands =
    let still : (rules act later (seen_in o ws)).left ≡ Some v = ap (λ (t : Seen). (rules act later t).left) (seen_there (Some o) ws v stands) ∙ repeats act now later s v may left in
    ap (λ (w : Option Workspace). Some (placed o ws w)) (still ∙ sym stands) ∙ ap Some (placed_as_it_was o ws (get o.workspaces ws) refl)

-- a request that left the record leaves it once more, not before
left_again : (r : Option Organization) (now later : ℕ) (asked : Asked) (content_md5 : Option (List ℕ)) (body : List ℕ) (x : Result Task Refusal) → now ≤ later → checked r now asked content_md5 body ≡ x
    → (carried asked.caller later r x).left ≡ r → (carried asked.caller later r (checked r later asked content_md5 body)).left ≡ r
left_again r now later asked content_md5 body x most e left = by_end (checked_later r now later asked content_md5 body most)
  where
    by_end : (checked r later asked content_md5 body ≡ Err BadToken) ⊎ (checked r later asked content_md5 body ≡ checked r now asked content_md5 body)
        → (carried asked.caller later r (checked r later asked content_md5 body)).left ≡ r
    by_end (inl ended) = ap (λ (y : Result Task Refusal). (carried asked.caller later r y).left) ended
    by_end (inr same) = ap (λ (y : Result Task Refusal). (carried asked.caller later r y).left) (same ∙ e) ∙ left

-- the second of two requests on the record that the first left
second_leaves : (r : Option Organization) (now later : ℕ) (asked : Asked) (content_md5 : Option (List ℕ)) (body : List ℕ) (x : Result Task Refusal) → now ≤ later → checked r now asked content_md5 body ≡ x
    → ((act : Act) → IsActOn asked.act asked.lock_id body act → IsRepeatable act)
    → (carried asked.caller later (carried asked.caller now r x).left (checked (carried asked.caller now r x).left later asked content_md5 body)).left ≡ (carried asked.caller now r x).left
second_leaves r now later asked content_md5 body (Err refusal) most e may = left_again r now later asked content_md5 body (Err refusal) most e refl
second_leaves r now later asked content_md5 body (Ok (ListAll after prefix)) most e may = left_again r now later asked content_md5 body (Ok (ListAll after prefix)) most e refl
second_leaves None now later asked content_md5 body (Ok (Carry its_ws its_act)) most e may = absurd (let p = order_passes None now asked content_md5 body its_ws its_act e in let none : ⊥ = cc p.there in none)
second_leaves (Some organization) now later asked content_md5 body (Ok (Carry its_ws its_act)) most e may = by_left (rules its_act now (seen_in organization its_ws)).left refl
  where
    first : Passes (Some organization) asked body its_ws its_act
    first = order_passes (Some organization) now asked content_md5 body its_ws its_act e

    repeatable : IsRepeatable its_act
    repeatable = may its_act (act_on asked its_ws body first.what its_act first.asks first.spelt)

    on : Option Organization → Result Task Refusal → Option Organization
    on q y = (carried asked.caller later q y).left

    second : (q : Organization) (v : Workspace) → get q.workspaces its_ws ≡ Some v → (rules its_act now (seen_in organization its_ws)).left ≡ Some v
        → (y : Result Task Refusal) → checked (Some q) later asked content_md5 body ≡ y → on (Some q) y ≡ Some q
    second q v stands left (Err refusal) f = refl
    second q v stands left (Ok (ListAll after prefix)) f = refl
    second q v stands left (Ok (Carry other_ws other_act)) f =
        let passes : Passes (Some q) asked body other_ws other_act = order_passes (Some q) later asked content_md5 body other_ws other_act f in
        let same : (other_ws ≡ its_ws) × (other_act ≡ its_act) = same_order (Some organization) (Some q) asked body its_ws its_act other_ws other_act first passes in
        ap (λ (n : List ℕ). (ruled_in asked.caller n (Some q) (rules other_act later (seen_at (Some q) n))).left) same.0
        ∙ ap (λ (a : Act). (ruled_in asked.caller its_ws (Some q) (rules a later (seen_at (Some q) its_ws))).left) same.1
        ∙ again_left (Some q) asked.caller its_ws its_act now later (seen_in organization its_ws) v refl repeatable left stands

    -- on a record from which the first took the workspace away
    second_gone : (q : Organization) → get q.workspaces its_ws ≡ None → its_act ≡ DeleteAct → (y : Result Task Refusal) → checked (Some q) later asked content_md5 body ≡ y → on (Some q) y ≡ Some q
    second_gone q gone is (Err refusal) f = refl
    second_gone q gone is (Ok (ListAll after prefix)) f = refl
    second_gone q gone is (Ok (Carry other_ws other_act)) f =
        let passes : Passes (Some q) asked body other_ws other_act = order_passes (Some q) later asked content_md5 body other_ws other_act f in
        let same : (other_ws ≡ its_ws) × (other_act ≡ its_act) = same_order (Some organization) (Some q) asked body its_ws its_act other_ws other_act first passes in
        let still : (rules its_act later (seen_in q its_ws)).left ≡ None =
        ap (λ (x : Option Workspace). (rules its_act later (seen_by (nat_lt (count_of q) q.limit) x)).left) gone ∙ ap (λ (a : Act). (rules a later (missing (nat_lt (count_of q) q.limit))).left) is in
        ap (λ (n : List ℕ). (ruled_in asked.caller n (Some q) (rules other_act later (seen_at (Some q) n))).left) same.0
        ∙ ap (λ (a : Act). (ruled_in asked.caller its_ws (Some q) (rules a later (seen_at (Some q) its_ws))).left) same.1
        ∙ ap (λ (w : Option Workspace). Some (placed q its_ws w)) (still ∙ sym gone) ∙ ap Some (placed_as_it_was q its_ws (get q.workspaces its_ws) refl)

    room : Bool
    room = nat_lt (count_of organization) organization.limit

    by_left : (w : Option Workspace) → (rules its_act now (seen_in organization its_ws)).left ≡ w
        → (carried asked.caller later (carried asked.caller now (Some organization) (Ok (Carry its_ws its_act))).left (checked (carried asked.caller now (Some organization) (Ok (Carry its_ws its_act))).left later asked content_md5 body)).left
        ≡ (carried asked.caller now (Some organization) (Ok (Carry its_ws its_act))).left
    by_left None left = by_stand (get organization.workspaces its_ws) refl
      where
        by_stand : (w : Option Workspace) → get organization.workspaces its_ws ≡ w
            → (carried asked.caller later (carried asked.caller now (Some organization) (Ok (Carry its_ws its_act))).left (checked (carried asked.caller now (Some organization) (Ok (Carry its_ws its_act))).left later asked content_md5 body)).left
            ≡ (carried asked.caller now (Some organization) (Ok (Carry its_ws its_act))).left
        by_stand None gone =
            let same : (carried asked.caller now (Some organization) (Ok (Carry its_ws its_act))).left ≡ Some organization =
            ap (λ (w : Option Workspace). Some (placed organization its_ws w)) (left ∙ sym gone) ∙ ap Some (placed_as_it_was organization its_ws (get organization.workspaces its_ws) refl) in
            let again : (rules its_act later (seen_by room (get organization.workspaces its_ws))).left ≡ None =
            ap (λ (x : Option Workspace). (rules its_act later (seen_by room x)).left) gone ∙ ap (λ (x : Option Workspace). (rules its_act now (seen_by room x)).left) (sym gone) ∙ left in
            let twice : (ruled_in asked.caller its_ws (Some organization) (rules its_act later (seen_in organization its_ws))).left ≡ Some organization =
            ap (λ (w : Option Workspace). Some (placed organization its_ws w)) (again ∙ sym gone) ∙ ap Some (placed_as_it_was organization its_ws (get organization.workspaces its_ws) refl) in
            ap (λ (q : Option Organization). on q (checked q later asked content_md5 body)) same ∙ left_again (Some organization) now later asked content_md5 body (Ok (Carry its_ws its_act)) most e twice ∙ sym same
        by_stand (Some w) stood =
            let q : Organization = placed organization its_ws (rules its_act now (seen_in organization its_ws)).left in
            let gone : get q.workspaces its_ws ≡ None = own_workspace organization.workspaces its_ws (rules its_act now (seen_in organization its_ws)).left ∙ left in
            let by_delete : (rules its_act now (there w)).left ≡ None = sym (ap (λ (x : Option Workspace). (rules its_act now (seen_by room x)).left) stood) ∙ left in
            second_gone q gone (workspaces_go_by_delete its_act now w by_delete).0 (checked (Some q) later asked content_md5 body) refl
    by_left (Some v) left =
        let q : Organization = placed organization its_ws (rules its_act now (seen_in organization its_ws)).left in
        let stands : get q.workspaces its_ws ≡ Some v = own_workspace organization.workspaces its_ws (rules its_act now (seen_in organization its_ws)).left ∙ left in
        second q v stands left (checked (Some q) later asked content_md5 body) refl

-- a token that is there is not added again
token_again : (o : Organization) (name : List ℕ) (token : Token) (b : Bool) → (is_some (get o.tokens name) || has_digest token.digest o) ≡ b
    → (token_added name token (cond b (effect Exists (Some o)) (effect Done (Some (with_token o name token)))).left).left ≡ (cond b (effect Exists (Some o)) (effect Done (Some (with_token o name token)))).left
token_again o name token true e = ap (λ (b : Bool). (cond b (effect Exists (Some o)) (effect Done (Some (with_token o name token)))).left) e
token_again o name token false e =
    let p : Organization = with_token o name token in
    let stands : is_some (get p.tokens name) ≡ true = ap is_some (get_own o.tokens name token) in
    ap (λ (b : Bool). (cond (b || has_digest token.digest p) (effect Exists (Some p)) (effect Done (Some (with_token p name token)))).left) stands

-- a token that is taken away again
revoked_again : (o : Organization) (name : List ℕ) (b : Bool) → is_some (get o.tokens name) ≡ b
    → (token_revoked name (cond b (effect Done (Some (without_token o name))) (effect Absent (Some o))).left).left ≡ (cond b (effect Done (Some (without_token o name))) (effect Absent (Some o))).left
revoked_again o name true e =
    let p : Organization = without_token o name in
    ap (λ (b : Bool). (cond b (effect Done (Some (without_token p name))) (effect Absent (Some p))).left) (ap is_some (removed_own o.tokens name))
revoked_again o name false e = ap (λ (b : Bool). (cond b (effect Done (Some (without_token o name))) (effect Absent (Some o))).left) e

command_again : (r : Option Organization) (command : Admin) → (command_step (command_step r command).left command).left ≡ (command_step r command).left
command_again None (OrgAdd org limit) = refl
command_again (Some o) (OrgAdd org limit) = refl
command_again None (TokenAdd org name role secret bounds) = refl
command_again (Some o) (TokenAdd org name role secret bounds) =
    let token : Token = token_of (sha256 secret) role bounds in
    token_again o name token (is_some (get o.tokens name) || has_digest token.digest o) refl
command_again r (TokenList org) = refl
command_again None (OrgLimit org limit) = refl
command_again (Some o) (OrgLimit org limit) = refl
command_again r OrgList = refl
command_again None (OrgRemove org is_forced) = refl
command_again (Some o) (OrgRemove org is_forced) = removed_again o is_forced (not is_forced && has_use o) refl
command_again None (TokenRevoke org name) = refl
command_again (Some o) (TokenRevoke org name) = revoked_again o name (is_some (get o.tokens name)) refl

pub steps_are_repeatable : StepsAreRepeatable
steps_are_repeatable r silent later may most = refl
steps_are_repeatable r (ask.refused at awaited refusal is_head at_door) later may most = refl
steps_are_repeatable r (requests at awaited asked content_md5 body) later may most = second_leaves r at later asked content_md5 body (checked r at asked content_md5 body) most refl may
steps_are_repeatable r (stops at) later may most = refl
steps_are_repeatable r (commands at command) later may most = command_again r command

-- what was accepted leaves the workspace there
pub not_refused : (org ws : List ℕ) (o : Outcome) → (answer_to org ws o).refusal ≡ None → IsRefusal o → ⊥
not_refused org ws (refused refusal) e is = cc
not_refused org ws (held holder) e is = cc
not_refused org ws done e is = is
not_refused org ws no_state e is = is
not_refused org ws (state text) e is = is
not_refused org ws (workspace shown) e is = is
not_refused org ws (the_run r) e is = is
not_refused org ws (versions list) e is = is
not_refused org ws (runs list) e is = is

-- the second of two requests, on any record whose workspace is as the first left it
later_leaves : (r q : Option Organization) (now later : ℕ) (asked : Asked) (content_md5 : Option (List ℕ)) (body ws : List ℕ) (x y : Result Task Refusal)
    → checked r now asked content_md5 body ≡ x → checked q later asked content_md5 body ≡ y → ((act : Act) → IsActOn asked.act asked.lock_id body act → IsRepeatable act)
    → NamesIn asked.act ws → (carried asked.caller now r x).answer.refusal ≡ None → workspace_in q ws ≡ workspace_in (carried asked.caller now r x).left ws
    → workspace_in (carried asked.caller later q y).left ws ≡ workspace_in q ws
later_leaves r q now later asked content_md5 body ws (Err refusal) y e f may names accepted same = absurd (let none : ⊥ = cc in none)
later_leaves r q now later asked content_md5 body ws (Ok (ListAll after prefix)) y e f may names accepted same =
    absurd (subst (λ (a : AskedAct). NamesIn a ws) (list_passes r now asked content_md5 body after prefix e) names)
later_leaves r q now later asked content_md5 body ws (Ok (Carry its_ws its_act)) (Err refusal) e f may names accepted same = refl
later_leaves r q now later asked content_md5 body ws (Ok (Carry its_ws its_act)) (Ok (ListAll after prefix)) e f may names accepted same = refl
later_leaves r q now later asked content_md5 body ws (Ok (Carry its_ws its_act)) (Ok (Carry other_ws other_act)) e f may names accepted same =
    let first : Passes r asked body its_ws its_act = order_passes r now asked content_md5 body its_ws its_act e in
    let second : Passes q asked body other_ws other_act = order_passes q later asked content_md5 body other_ws other_act f in
    let both : (other_ws ≡ its_ws) × (other_act ≡ its_act) = same_order r q asked body its_ws its_act other_ws other_act first second in
    let is : its_ws ≡ ws = subst (λ (a : AskedAct). NamesIn a ws) first.asks names in
    let stands : standing (seen_at q its_ws) ≡ (rules its_act now (seen_at r its_ws)).left = standing_at q its_ws
    ∙ subst (λ (n : List ℕ). workspace_in q n ≡ workspace_in (ruled_in asked.caller its_ws r (rules its_act now (seen_at r its_ws))).left n) (sym is) same
    ∙ own_after r asked.caller its_ws its_act now first.there in
    let repeatable : IsRepeatable its_act = may its_act (act_on asked its_ws body first.what its_act first.asks first.spelt) in
    let still : (rules its_act later (seen_at q its_ws)).left ≡ standing (seen_at q its_ws) =
    accepted_acts_come_again its_act now later (seen_at r its_ws) (seen_at q its_ws) repeatable (not_refused asked.caller its_ws (rules its_act now (seen_at r its_ws)).answer accepted) stands in
    let left : workspace_in (ruled_in asked.caller its_ws q (rules its_act later (seen_at q its_ws))).left its_ws ≡ workspace_in q its_ws = own_after q asked.caller its_ws its_act later second.there ∙ still ∙ standing_at q its_ws in
    ap (λ (n : List ℕ). workspace_in (ruled_in asked.caller n q (rules other_act later (seen_at q n))).left ws) both.0
    ∙ ap (λ (a : Act). workspace_in (ruled_in asked.caller its_ws q (rules a later (seen_at q its_ws))).left ws) both.1
    ∙ subst (λ (n : List ℕ). workspace_in (ruled_in asked.caller its_ws q (rules its_act later (seen_at q its_ws))).left n ≡ workspace_in q n) is left

pub repeats_leave_the_workspace : RepeatsLeaveTheWorkspace
repeats_leave_the_workspace r q silent later ws may names accepted same = absurd names
repeats_leave_the_workspace r q (ask.refused at awaited refusal is_head at_door) later ws may names accepted same = absurd names
repeats_leave_the_workspace r q (requests at awaited asked content_md5 body) later ws may names accepted same =
    later_leaves r q at later asked content_md5 body ws (checked r at asked content_md5 body) (checked q later asked content_md5 body) refl refl may names accepted same
repeats_leave_the_workspace r q (stops at) later ws may names accepted same = absurd names
repeats_leave_the_workspace r q (commands at command) later ws may names accepted same = absurd names

-- the same bytes at another moment
asking_again : (at later : ℕ) (awaited : Bool) (message : Message) (asking : Asking) → asked_by later awaited message asking ≡ asked_again later (asked_by at awaited message asking)
asking_again at later awaited message (route.refused refusal) = refl
asking_again at later awaited message (asks asked) = refl

reading_again : (at later : ℕ) (reading : Reading) → ask_of later reading ≡ asked_again later (ask_of at reading)
reading_again at later unfinished = refl
reading_again at later (wire.refused refusal head) = refl
reading_again at later (whole message awaited) = asking_again at later awaited message (asked_of message)

pub same_bytes_ask_again : SameBytesAskAgain
same_bytes_ask_again at later bytes a b h k =
    k.is ∙ ap (ask_of later) (reads_one bytes k.reading h.reading k.reads h.reads) ∙ reading_again at later h.reading ∙ ap (asked_again later) (sym h.is)

-- a request that leaves its workspace
request_leaves_all : (r : Option Organization) (now : ℕ) (asked : Asked) (content_md5 : Option (List ℕ)) (body ws : List ℕ) (x : Result Task Refusal) → checked r now asked content_md5 body ≡ x → NamesIn asked.act ws
    → workspace_in (carried asked.caller now r x).left ws ≡ workspace_in r ws → (carried asked.caller now r x).left ≡ r
request_leaves_all r now asked content_md5 body ws (Err refusal) e names same = refl
request_leaves_all r now asked content_md5 body ws (Ok (ListAll after prefix)) e names same = refl
request_leaves_all r now asked content_md5 body ws (Ok (Carry its_ws its_act)) e names same =
    let p : Passes r asked body its_ws its_act = order_passes r now asked content_md5 body its_ws its_act e in
    let is : its_ws ≡ ws = subst (λ (a : AskedAct). NamesIn a ws) p.asks names in
    let own : workspace_in (ruled_in asked.caller its_ws r (rules its_act now (seen_at r its_ws))).left its_ws ≡ workspace_in r its_ws =
    subst (λ (n : List ℕ). workspace_in (ruled_in asked.caller its_ws r (rules its_act now (seen_at r its_ws))).left n ≡ workspace_in r n) (sym is) same in
    ruled_leaves asked.caller its_ws r (rules its_act now (seen_at r its_ws)) (sym (own_after r asked.caller its_ws its_act now p.there) ∙ own)

pub requests_change_their_workspace_alone : RequestsChangeTheirWorkspaceAlone
requests_change_their_workspace_alone r silent ws names same = refl
requests_change_their_workspace_alone r (ask.refused at awaited refusal is_head at_door) ws names same = refl
requests_change_their_workspace_alone r (requests at awaited asked content_md5 body) ws names same = request_leaves_all r at asked content_md5 body ws (checked r at asked content_md5 body) refl names same
requests_change_their_workspace_alone r (stops at) ws names same = refl
requests_change_their_workspace_alone r (commands at command) ws names same = absurd names
