-- What stays: each version follows the one before it, an accepted text stands behind the others, and a PUT leaves what it asks for.
use Rattle.machine.proofs.Outside.{◌≡◌, ◌⊎◌, inl, inr, ℕ, zero, suc, ◌+◌, ◌-◌, ◌≤◌, ◌==◌, Bool, true, false, cond, List, [], ◌∷◌, ◌++◌, length, take, drop, Option, Some, None, refl, sym, ap, subst, ◌∙◌, arith, eq-eqb, length-append, length-drop, bytes_eq, take-append-drop, bytes_eq-Decides, same_Some, run_id, Refusal, NotApplying, Locked, Settings, SettingsAsk, StateHead, RunStatus, Holder}
use Rattle.machine.specs.Custody.{IsAnew, IsWriter}
use Rattle.machine.specs.Records.{missing, there}
use Rattle.machine.specs.Rules.{Outcome, done, Ruling, rules, rules_missing, by_may_write, by_succession, numbered_update, number_left, with_version, kept_before, kept_for, settings_for, with_settings, put}
use Rattle.machine.specs.Settling.{first_waiting, to_start, started_if, settled}
use Rattle.machine.specs.Succession.{Succession, first, same, other_lineage, old_serial, next, after_newest, lineages_differ, is_newer, succession}
use Rattle.machine.specs.Units.{version_of}
use Rattle.machine.specs.Versions.{Follows, EachFollows, NewestVersionsFollow, KeptVersionsFollow, AreNewest, posted, TextComes, TextIsThere, AcceptedTextsStand, FollowingTextsAreAccepted, AreAsked, PutsLeaveWhatTheyAsk, PutsMakeWhatTheyAsk}
use Rattle.machine.specs.Workspaces.{newest, last_of, new_workspace, holder_status}
use Rattle.machine.specs.Writing.{may_write, is_applying}
use Rattle.machine.specs.declared.acts.Act.{Act}
use Rattle.machine.specs.declared.acts.Act.TheVariants.{PutWorkspace}
use Rattle.basis.specs.declared.rows.Holder.TheVariants.{Nobody, Lock, Run as HoldingRun}
use Rattle.machine.specs.declared.records.Version.{Version}
use Rattle.machine.specs.declared.records.Workspace.{Workspace}
use Rattle.machine.proofs.CustodyLemmas.{settled_versions, workspaces_begin_anew}
use Rattle.machine.proofs.CutLemmas.{last_length, drop_before}
use Rattle.machine.proofs.DeletionLemmas.{IsKept}
use Rattle.machine.proofs.FollowLemmas.{first_has_none, next_follows, IsLetIn, following_is_let_in}
use Rattle.machine.proofs.LawLemmas.{number_left-is, in_range_is_left}
use Rattle.machine.proofs.PlainLemmas.{find_last_push}
use Rattle.machine.proofs.PuttingLemmas.{IsSet, put_comes}
use Rattle.machine.proofs.RefusedLemmas.{never_done}
use Rattle.machine.proofs.RunRulings.{IsReported}
use Rattle.machine.proofs.Rulings.{Way, version_comes, versions_go, settings_come, lock_comes, lock_goes, run_comes, run_goes_on, Leaves, leaves, settings_stay, bytes_same, newest_push}

-- ---- each version follows the one before it

-- what becomes of versions: the first ones go, or all, or one comes behind the last ones and follows the newest
abbrev Goes : List Version → List Version → Type 0
Goes before after = (k : ℕ) × (after ≡ drop k before)

abbrev Comes : List Version → List Version → Type 0
Comes before after = (k : ℕ) × (made : Version) × (after ≡ drop k before ++ made ∷ []) × ((older : Version) → newest before ≡ Some older → Follows older made)

abbrev Become : List Version → List Version → Type 0
Become before after = Goes before after ⊎ ((after ≡ []) ⊎ Comes before after)

become : (act : Act) (now : ℕ) (w v : Workspace) → (rules act now (there w)).left ≡ Some v → Become w.versions v.versions
become act now w v e = by_case (leaves act now w v e)
  where
    kept : (u : Workspace) → u.versions ≡ w.versions → Become w.versions u.versions
    kept u stays = inl (0, stays)

    judged : (text : List ℕ) (head : StateHead) (n : ℕ) (older : Version) → newest w.versions ≡ Some older
        → (succession w.versions text head ≡ first) ⊎ (succession w.versions text head ≡ next) → Follows older (posted n head text now)
    judged text head n older e (inl t) = absurd (first_has_none text head (newest w.versions) older t e)
    judged text head n older e (inr t) = next_follows text head (newest w.versions) older n now t e

    by_way : (u : Workspace) (answer : Outcome) → Way act now w u answer → Become w.versions u.versions
    by_way u answer (version_comes x) = inr (inr (
      length w.versions - (w.settings.retention - 1),
      posted x.number x.head x.text now,
      ap (λ (y : Workspace). y.versions) x.is,
      λ older e. judged x.text x.head x.number older e x.judged,
    ))
    by_way u answer (versions_go x) = inr (inl (ap (λ (y : Workspace). y.versions) x.is))
    by_way u answer (settings_come x) = inl (length w.versions - x.settings.retention, ap (λ (y : Workspace). y.versions) x.is)
    by_way u answer (lock_comes x) = kept u (ap (λ (y : Workspace). y.versions) x.is)
    by_way u answer (lock_goes x) = kept u (ap (λ (y : Workspace). y.versions) x.is)
    by_way u answer (run_comes x) = kept u (ap (λ (y : Workspace). y.versions) x.made.2)
    by_way u answer (run_goes_on x) = let is : IsReported w x.n x.action u = x.reported in kept u (ap (λ (y : Workspace). y.versions) is.is)

    by_case : (w ≡ v) ⊎ Leaves act now w v → Become w.versions v.versions
    by_case (inl still) = kept v (ap (λ (y : Workspace). y.versions) (sym still))
    by_case (inr l) =
        subst (Become w.versions) (sym (settled_versions l.to) ∙ ap (λ (y : Workspace). y.versions) l.settles) (by_way l.to l.answer l.way)

-- the newest of the last ones is that of all
newest_more : (v : Version) (vs : List Version) (u : Version) → newest vs ≡ Some u → newest (v ∷ vs) ≡ Some u
newest_more v [] u e = absurd (let none : ⊥ = cc in none)
newest_more v (w ∷ vs) u e = e

newest_among : (k : ℕ) (vs : List Version) (u : Version) → newest (drop k vs) ≡ Some u → newest vs ≡ Some u
newest_among zero vs u e = e
newest_among (suc k) [] u e = e
newest_among (suc k) (v ∷ vs) u e = newest_more v vs u (newest_among k vs u e)

pub newest_versions_follow : NewestVersionsFollow
newest_versions_follow act now w v older newer e was is = by_case (become act now w v e)
  where
    one : (vs : List Version) → v.versions ≡ vs → newest vs ≡ Some newer
    one vs are = ap newest (sym are) ∙ is

    by_case : Become w.versions v.versions → (newer ≡ older) ⊎ Follows older newer
    by_case (inl (k, are)) = inl (same_Some newer older (sym (newest_among k w.versions newer (one (drop k w.versions) are)) ∙ was))
    by_case (inr (inl none)) = absurd (let no_one : newest [] ≡ Some newer = one [] none in let none_is : ⊥ = cc in none_is)
    by_case (inr (inr (k, made, are, follows))) =
        let same_one : made ≡ newer = same_Some made newer (sym (newest_push (drop k w.versions) made) ∙ one (drop k w.versions ++ made ∷ []) are) in
        inr (subst (Follows older) same_one (follows older was))

rest_follows : (v : Version) (vs : List Version) → EachFollows (v ∷ vs) → EachFollows vs
rest_follows v [] each = tt
rest_follows v (w ∷ vs) each = each.1

last_follow : (k : ℕ) (vs : List Version) → EachFollows vs → EachFollows (drop k vs)
last_follow zero vs each = each
last_follow (suc k) [] each = tt
last_follow (suc k) (v ∷ vs) each = last_follow k vs (rest_follows v vs each)

one_more_follows : (vs : List Version) (made : Version) → EachFollows vs → ((u : Version) → newest vs ≡ Some u → Follows u made) → EachFollows (vs ++ made ∷ [])
one_more_follows [] made each follows = tt
one_more_follows (v ∷ []) made each follows = (follows v refl, tt)
one_more_follows (v ∷ w ∷ vs) made each follows = (each.0, one_more_follows (w ∷ vs) made each.1 follows)

pub kept_versions_follow : KeptVersionsFollow
kept_versions_follow act now (missing room) v each e =
    let anew : IsAnew v = workspaces_begin_anew act now room v e in subst EachFollows (sym anew.versions_begin.0) tt
kept_versions_follow act now (there w) v each e = by_case (become act now w v e)
  where
    by_case : Become w.versions v.versions → EachFollows v.versions
    by_case (inl (k, are)) = subst EachFollows (sym are) (last_follow k w.versions each)
    by_case (inr (inl none)) = subst EachFollows (sym none) tt
    by_case (inr (inr (k, made, are, follows))) =
        subst EachFollows (sym are) (one_more_follows (drop k w.versions) made (last_follow k w.versions each) (λ u is. follows u (newest_among k w.versions u is)))

-- ---- the newest stay

pub newest_are : (most : ℕ) (vs : List Version) → AreNewest most vs (last_of most vs)
newest_are most vs = record {
  gone = take (length vs - most) vs;
  is = sym (take-append-drop (length vs - most) vs);
  no_more = last_length most vs;
  no_fewer = by_count (length vs - most) refl;
}
  where
    by_count : (k : ℕ) → length vs - most ≡ k → (take k vs ≡ []) ⊎ (length (drop k vs) ≡ most)
    by_count zero e = inl refl
    by_count (suc k) e = inr (length-drop (suc k) vs ∙ omega (arith, e))

newest_with_one : (most : ℕ) (vs : List Version) (v : Version) → 1 ≤ most → AreNewest most (vs ++ v ∷ []) (last_of (most - 1) vs ++ v ∷ [])
newest_with_one most vs v some =
    let longer : length (vs ++ v ∷ []) ≡ length vs + 1 = length-append vs (v ∷ []) in
    let as_many : length (vs ++ v ∷ []) - most ≡ length vs - (most - 1) = omega (arith, longer, some) in
    subst (AreNewest most (vs ++ v ∷ []))
    (ap (λ (k : ℕ). drop k (vs ++ v ∷ [])) as_many ∙ drop_before (length vs - (most - 1)) vs v (omega arith))
    (newest_are most (vs ++ v ∷ []))

-- ---- a text that is accepted

number_stands : (head : StateHead) (text : List ℕ) (now : ℕ) (w v : Workspace) → 1 ≤ w.settings.retention → (n : Option ℕ) → number_left w.next_version ≡ n
    → (numbered_update n w head text now).answer ≡ done → (numbered_update n w head text now).left ≡ Some v → TextComes head text now w v
number_stands head text now w v some None left is e = absurd (let none : ⊥ = cc in none)
number_stands head text now w v some (Some n) left is e = subst (TextComes head text now w) settles behind
  where
    u : Workspace
    u = with_version w n head text now

    own : n ≡ w.next_version
    own = (number_left-is w.next_version n left).0

    settles : settled u ≡ v
    settles = same_Some (settled u) v e

    made : Version
    made = posted w.next_version head text now

    are : (settled u).versions ≡ last_of (w.settings.retention - 1) w.versions ++ made ∷ []
    are = settled_versions u ∙ ap (λ (m : ℕ). last_of (w.settings.retention - 1) w.versions ++ posted m head text now ∷ []) own

    next_is : (settled u).next_version ≡ n + 1
    next_is = next_stays (to_start u.holder (first_waiting u.runs))
      where
        next_stays : (o : Option ℕ) → (started_if o u).next_version ≡ n + 1
        next_stays None = refl
        next_stays (Some m) = refl

    behind : TextComes head text now w (settled u)
    behind = record {
      stay = subst (AreNewest w.settings.retention (w.versions ++ made ∷ [])) (sym are) (newest_with_one w.settings.retention w.versions made some);
      found =
          ap (version_of w.next_version) are
          ∙ find_last_push (λ (x : Version). x.number == w.next_version) (last_of (w.settings.retention - 1) w.versions) made
          ∙ ap (λ (b : Bool). cond b (Some made) (version_of w.next_version (last_of (w.settings.retention - 1) w.versions))) (eq-eqb w.next_version w.next_version refl);
      next = next_is ∙ ap (λ (m : ℕ). m + 1) own;
    }

-- a text that is repeated is the newest
same_is_there : (head : StateHead) (text : List ℕ) (w : Workspace) (o : Option Version) → newest w.versions ≡ o → after_newest text head o ≡ same → TextIsThere text w w
same_is_there head text w None at t = absurd (let none : ⊥ = cc in none)
same_is_there head text w (Some u) at t = chosen (bytes_eq u.text text) (lineages_differ u.lineage head.lineage) (is_newer u.serial head.serial) refl t
  where
    chosen : (a b c : Bool) → bytes_eq u.text text ≡ a → cond a same (cond b other_lineage (cond c next old_serial)) ≡ same → TextIsThere text w w
    chosen true b c q t = record { version = u; is = at; text_is = (bytes_eq-Decides u.text text).0 q; same = refl }
    chosen false true c q t = absurd (let none : ⊥ = cc in none)
    chosen false false true q t = absurd (let none : ⊥ = cc in none)
    chosen false false false q t = absurd (let none : ⊥ = cc in none)

abbrev Stands : StateHead → List ℕ → ℕ → Workspace → Workspace → Type 0
Stands head text now w v = TextIsThere text w v ⊎ TextComes head text now w v

succession_stands : (head : StateHead) (text : List ℕ) (now : ℕ) (w v : Workspace) → 1 ≤ w.settings.retention → (s : Succession) → succession w.versions text head ≡ s
    → (by_succession s w head text now).answer ≡ done → (by_succession s w head text now).left ≡ Some v → Stands head text now w v
succession_stands head text now w v some first t is e = inr (number_stands head text now w v some (number_left w.next_version) refl is e)
succession_stands head text now w v some same t is e = inl (subst (TextIsThere text w) (same_Some w v e) (same_is_there head text w (newest w.versions) refl t))
succession_stands head text now w v some other_lineage t is e = absurd (let none : ⊥ = cc in none)
succession_stands head text now w v some old_serial t is e = absurd (let none : ⊥ = cc in none)
succession_stands head text now w v some next t is e = inr (number_stands head text now w v some (number_left w.next_version) refl is e)

update_stands : (head : StateHead) (text : List ℕ) (now : ℕ) (w v : Workspace) → 1 ≤ w.settings.retention → (m : Option Refusal)
    → (by_may_write m w head text now).answer ≡ done → (by_may_write m w head text now).left ≡ Some v → Stands head text now w v
update_stands head text now w v some (Some refusal) is e = absurd (never_done refusal w.holder is)
update_stands head text now w v some None is e = succession_stands head text now w v some (succession w.versions text head) refl is e

pub accepted_texts_stand : AcceptedTextsStand
accepted_texts_stand head text id now w v some is e = update_stands head text now w v some (may_write w.holder (holder_status w.holder w.runs) id) is e

-- ---- a text that follows is accepted

writer_may : (h : Holder) (status : Option RunStatus) (id : Option (List ℕ)) → IsWriter h status id → may_write h status id ≡ None
writer_may Nobody status id writer = ap (may_write Nobody status) writer
writer_may (Lock own text) status id writer = ap (may_write (Lock own text) status) writer ∙ ap (λ (b : Bool). cond b None (Some Locked)) (bytes_same own)
writer_may (HoldingRun n) status id writer =
    ap (may_write (HoldingRun n) status) writer.0
    ∙ ap (λ (b : Bool). cond b (cond (is_applying status) None (Some NotApplying)) (Some Locked)) (bytes_same (run_id n))
    ∙ ap (λ (s : Option RunStatus). cond (is_applying s) None (Some NotApplying)) writer.1

let_in_is_done : (head : StateHead) (text : List ℕ) (now : ℕ) (w : Workspace) → 1 ≤ w.next_version → w.next_version ≤ 1_000_000_000 → (s : Succession) → IsLetIn s
    → (by_succession s w head text now).answer ≡ done
let_in_is_done head text now w low high first h = ap (λ (n : Option ℕ). (numbered_update n w head text now).answer) (in_range_is_left w.next_version low high)
let_in_is_done head text now w low high same h = refl
let_in_is_done head text now w low high next h = ap (λ (n : Option ℕ). (numbered_update n w head text now).answer) (in_range_is_left w.next_version low high)
let_in_is_done head text now w low high other_lineage (inl e) = absurd (let none : ⊥ = cc in none)
let_in_is_done head text now w low high other_lineage (inr (inl e)) = absurd (let none : ⊥ = cc in none)
let_in_is_done head text now w low high other_lineage (inr (inr e)) = absurd (let none : ⊥ = cc in none)
let_in_is_done head text now w low high old_serial (inl e) = absurd (let none : ⊥ = cc in none)
let_in_is_done head text now w low high old_serial (inr (inl e)) = absurd (let none : ⊥ = cc in none)
let_in_is_done head text now w low high old_serial (inr (inr e)) = absurd (let none : ⊥ = cc in none)

pub following_texts_are_accepted : FollowingTextsAreAccepted
following_texts_are_accepted head text id now w writer low high follows =
    ap (λ (m : Option Refusal). (by_may_write m w head text now).answer) (writer_may w.holder (holder_status w.holder w.runs) id writer)
    ∙ let_in_is_done head text now w low high (succession w.versions text head) (following_is_let_in text head (newest w.versions) w.next_version now follows)

-- ---- a PUT

asked_are : (ask : SettingsAsk) (before : Option Settings) → AreAsked ask (kept_before before) (settings_for ask before)
asked_are ask before = record {
  runs = refl;
  given = λ retention e. ap (λ (o : Option ℕ). kept_for o (kept_before before)) e;
  not_given = λ e. ap (λ (o : Option ℕ). kept_for o (kept_before before)) e;
}

abbrev LeavesAsked : SettingsAsk → Workspace → Workspace → Type 0
LeavesAsked ask w v = AreAsked ask w.settings.retention v.settings × AreNewest v.settings.retention w.versions v.versions

pub puts_leave_what_they_ask : PutsLeaveWhatTheyAsk
puts_leave_what_they_ask ask now w v accepted e = by_case (put_comes settings w)
  where
    settings : Settings
    settings = settings_for ask (Some w.settings)

    u : Workspace
    u = with_settings w settings

    set_is : (settled u).settings ≡ settings
    set_is = settings_stay u (to_start u.holder (first_waiting u.runs))

    after : LeavesAsked ask w (settled u)
    after = (
      subst (AreAsked ask w.settings.retention) (sym set_is) (asked_are ask (Some w.settings)),
      subst (λ (s : Settings). AreNewest s.retention w.versions (settled u).versions) (sym set_is)
          (subst (AreNewest settings.retention w.versions) (sym (settled_versions u)) (newest_are settings.retention w.versions)),
    )

    by_case : IsKept (put settings w) w ⊎ IsSet (put settings w) settings w → LeavesAsked ask w v
    by_case (inl kept) = absurd (accepted kept.refusal)
    by_case (inr set) = subst (LeavesAsked ask w) (same_Some (settled u) v (sym (ap (λ (r : Ruling). r.left) set.is) ∙ e)) after

pub puts_make_what_they_ask : PutsMakeWhatTheyAsk
puts_make_what_they_ask ask now room v e = by_room room e
  where
    by_room : (room : Bool) → (rules_missing (PutWorkspace ask) room).left ≡ Some v → AreAsked ask 100 v.settings
    by_room true e = subst (λ (x : Workspace). AreAsked ask 100 x.settings) (same_Some (new_workspace (settings_for ask None)) v e) (asked_are ask None)
    by_room false e = absurd (let none : ⊥ = cc in none)
