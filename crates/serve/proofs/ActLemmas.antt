-- What is asked of a workspace, and what its document spells: all that the laws ask of an act, a clause an act.
use Rattle.serve.proofs.Outside.{◌≡◌, ◌⊎◌, inl, inr, ℕ, ◌≤◌, Bool, true, false, ◌||◌, List, is_some, length, Option, Some, None, Result, Ok, Err, IsSome, IfSome, IsTrue, refl, sym, ap, subst, ◌∙◌, arith, codes, le-leb, is_free_id, has_length, Refusal, NotFound, BadState, BadLock, BadBody, Locked, RunAsk, StateHead, RunAction, state_head, lock_id_of, settings_of, run_ask, WritesWith, effect, IsRetention, IsHeadInRange, IsRunAsk, IsSettingsAsk, IsInRange, seen_by, Outcome, refused, rules, report, run_of, Act, Workspace, WsAct, Query, Put, Delete, UpdateState, PurgeState, Lock, Unlock, ForceUnlock, MakeRun, ReportRun}
use Rattle.basis.specs.declared.acts.Query.{Query as AnyQuery}
use Rattle.basis.specs.declared.rows.SettingsAsk.{SettingsAsk}
use Rattle.serde_json.specs.Data.{Data}
use Rattle.serde_json.specs.Find.{get_member}
use Rattle.docs.specs.Readings.{IsState, IsLock, IsText, IsRetentionAsked, IsSettings, IsKey, IsAsk}
use Rattle.docs.proofs.ReadingLemmas.{state_law, lock_law, settings_law, ask_law}
use Rattle.machine.specs.declared.acts.Act.TheVariants.{Query as QueryAct, PutWorkspace as PutAct, UpdateState as UpdateAct, PurgeState as PurgeAct, Lock as LockAct, Unlock as UnlockAct, ForceUnlock as ForceUnlockAct, DeleteWorkspace as DeleteAct, MakeRun as MakeRunAct, ReportRun as ReportRunAct}
use Rattle.basis.specs.declared.rows.RunRow.{RunRow as Run}
use Rattle.machine.proofs.QueryLemmas.{all_queries}
use Rattle.serve.specs.Book.{IsDoneOnce}
use Rattle.serve.specs.Checks.{makes, is_there, spelt, act_of}

-- what isn't there is refused by the rules, and stays so
abbrev pub Misses : Act → ℕ → Bool → Option Workspace → Type 0
Misses act now room w = rules act now (seen_by room w) ≡ effect (refused NotFound) w

-- an act, of what is asked with an ID in the query: it is in its ranges, a write carries that ID, and what isn't there is missed
pub record IsActOf (what : WsAct) (id : Option (List ℕ)) (act : Act) : Type 0 where
  pub range : IsInRange act
  pub writes : (given : Option (List ℕ)) → WritesWith act given → id ≡ given
  pub misses : (now : ℕ) (room : Bool) (w : Option Workspace) → (makes what || is_there what w) ≡ false → Misses act now room w

-- the act that a document spells, or a refusal that isn't of what is locked
abbrev IsSpelt : WsAct → Option (List ℕ) → Result Act Refusal → Type 0
IsSpelt what id (Ok act) = IsActOf what id act
IsSpelt what id (Err refusal) = refusal ≡ Locked → ⊥

by_document : {A : Type 0} (what : WsAct) (id : Option (List ℕ)) (refusal : Refusal) (f : A → Act) (o : Option A) → (refusal ≡ Locked → ⊥) → ((a : A) → o ≡ Some a → IsActOf what id (f a)) → IsSpelt what id (spelt refusal f o)
by_document what id refusal f None apart each = apart
by_document what id refusal f (Some a) apart each = each a refl

state_apart : BadState ≡ Locked → ⊥
state_apart e = cc

lock_apart : BadLock ≡ Locked → ⊥
lock_apart e = cc

body_apart : BadBody ≡ Locked → ⊥
body_apart e = cc

-- what names the workspace alone misses it where it isn't there
alone_misses : (what : WsAct) (act : Act) → ((w : Workspace) → (makes what || is_there what (Some w)) ≡ true) → ((now : ℕ) (room : Bool) → Misses act now room None)
    → (now : ℕ) (room : Bool) (w : Option Workspace) → (makes what || is_there what w) ≡ false → Misses act now room w
alone_misses what act there misses now room None gone = misses now room
alone_misses what act there misses now room (Some w) gone = absurd (let none : ⊥ = cc (sym (there w) ∙ gone) in none)

alone : (what : WsAct) (id : Option (List ℕ)) (act : Act) → IsInRange act → ((given : Option (List ℕ)) → WritesWith act given → id ≡ given) → ((w : Workspace) → (makes what || is_there what (Some w)) ≡ true)
    → ((now : ℕ) (room : Bool) → Misses act now room None) → IsActOf what id act
alone what id act range writes there misses = record { range = range; writes = writes; misses = alone_misses what act there misses }

writes_none : (id given : Option (List ℕ)) → ⊥ → id ≡ given
writes_none id given e = absurd e

query_misses : (what : AnyQuery) (now : ℕ) (room : Bool) (w : Option Workspace) → is_there (Query what) w ≡ false → Misses (QueryAct what) now room w
query_misses what now room None e = refl
query_misses what now room (Some w) e = ap (λ (o : Outcome). effect o (Some w)) ((all_queries what w).lacks e)

no_report : (o : Option Run) (n : ℕ) (action : RunAction) (w : Workspace) → is_some o ≡ false → report o n action w ≡ effect (refused NotFound) (Some w)
no_report None n action w e = refl
no_report (Some r) n action w e = absurd (let none : ⊥ = cc in none)

report_misses : (n : ℕ) (action : RunAction) (now : ℕ) (room : Bool) (w : Option Workspace) → is_there (ReportRun n action) w ≡ false → Misses (ReportRunAct n action) now room w
report_misses n action now room None e = refl
report_misses n action now room (Some w) e = no_report (run_of n w.runs) n action w e

made_anyway : {X : Type 0} → true ≡ false → X
made_anyway e = absurd (let none : ⊥ = cc in none)

-- what documents say is in range
text_most : (o : Option Data) (lineage : List ℕ) → IsText 256 o lineage → length lineage ≤ 256
text_most None lineage h = rw h (omega arith)
text_most (Some value) lineage h = h.1

head_in_range : (body : List ℕ) (head : StateHead) → state_head body ≡ Some head → IsHeadInRange head
head_in_range body head t = let is : IsState body head = (state_law body head).0 t in (is.signed, text_most (get_member (codes "lineage") is.members) head.lineage is.lineage)

retention_within : (o : Option Data) (keep : Option ℕ) → IsRetentionAsked o keep → IfSome keep IsRetention
retention_within o None h = tt
retention_within None (Some keep) h = absurd (let none : ⊥ = cc in none)
retention_within (Some value) (Some keep) h = (h.1, h.2)

settings_in_range : (body : List ℕ) (ask : SettingsAsk) → settings_of body ≡ Some ask → IsSettingsAsk ask
settings_in_range body ask t = let is : IsSettings body ask = (settings_law body ask).0 t in retention_within (get_member (codes "keep_versions") is.members) ask.retention is.retention

-- an ID that is read names no run
id_free : (body id : List ℕ) → lock_id_of body ≡ Some id → IsTrue (is_free_id id)
id_free body id t = let is : IsLock body id = (lock_law body id).0 t in rw (le-leb 1 (length id) is.least, le-leb (length id) 128 is.most, is.free) refl

message_most : (o : Option Data) (message : List ℕ) → IsText 1_000 o message → length message ≤ 1_000
message_most None message h = rw h (omega arith)
message_most (Some value) message h = h.1

key_within : (o : Option Data) (key : Option (List ℕ)) → IsKey o key → IfSome key (λ k. IsTrue (has_length 1 64 k))
key_within o None h = tt
key_within None (Some key) h = absurd (let none : ⊥ = cc in none)
key_within (Some value) (Some key) h = rw (le-leb 1 (length key) h.1, le-leb (length key) 64 h.2) refl

ask_in_range : (body : List ℕ) (ask : RunAsk) → run_ask body ≡ Some ask → IsRunAsk ask
ask_in_range body ask t =
    let is : IsAsk body ask = (ask_law body ask).0 t in
    (key_within (get_member (codes "key") is.members) ask.key is.key, message_most (get_member (codes "message") is.members) ask.message is.message)

all_spelt : (what : WsAct) (id : Option (List ℕ)) (body : List ℕ) → IsSpelt what id (act_of what id body)
all_spelt (Query what) id body = record { range = tt; writes = writes_none id; misses = query_misses what }
all_spelt Put id body =
    by_document Put id BadBody PutAct (settings_of body) body_apart (λ ask t. record { range = settings_in_range body ask t; writes = writes_none id; misses = λ now room w gone. made_anyway gone })
all_spelt Delete id body = alone Delete id DeleteAct tt (writes_none id) (λ w. refl) (λ now room. refl)
all_spelt UpdateState id body =
    by_document UpdateState id BadState (λ head. UpdateAct head body id) (state_head body) state_apart
    (λ head t. alone UpdateState id (UpdateAct head body id) (head_in_range body head t) (λ given same. same) (λ w. refl) (λ now room. refl))
all_spelt PurgeState id body = alone PurgeState id (PurgeAct id) tt (λ given same. same) (λ w. refl) (λ now room. refl)
all_spelt Lock id body =
    by_document Lock id BadLock (λ held. LockAct held body) (lock_id_of body) lock_apart
    (λ held t. alone Lock id (LockAct held body) (id_free body held t) (writes_none id) (λ w. refl) (λ now room. refl))
all_spelt Unlock id body = by_document Unlock id BadLock UnlockAct (lock_id_of body) lock_apart (λ held t. alone Unlock id (UnlockAct held) tt (writes_none id) (λ w. refl) (λ now room. refl))
all_spelt ForceUnlock id body = alone ForceUnlock id ForceUnlockAct tt (writes_none id) (λ w. refl) (λ now room. refl)
all_spelt MakeRun id body = by_document MakeRun id BadBody MakeRunAct (run_ask body) body_apart (λ ask t. alone MakeRun id (MakeRunAct ask) (ask_in_range body ask t) (writes_none id) (λ w. refl) (λ now room. refl))
all_spelt (ReportRun number action) id body = record { range = tt; writes = writes_none id; misses = report_misses number action }

pub act_is : (what : WsAct) (id : Option (List ℕ)) (body : List ℕ) (act : Act) → act_of what id body ≡ Ok act → IsActOf what id act
act_is what id body act e = subst (IsSpelt what id) e (all_spelt what id body)

pub act_other : (what : WsAct) (id : Option (List ℕ)) (body : List ℕ) → act_of what id body ≡ Err Locked → ⊥
act_other what id body e = subst (IsSpelt what id) e (all_spelt what id body) refl

-- an act that is done once: the creation of a run with a key, or an action on a run
abbrev pub IsKeyed : Act → Type 0
IsKeyed act = (ask : RunAsk) × (key : List ℕ) × (act ≡ MakeRunAct ask) × (ask.key ≡ Some key)

abbrev pub IsAction : Act → Type 0
IsAction act = (n : ℕ) × (action : RunAction) × (act ≡ ReportRunAct n action)

some_key : (o : Option (List ℕ)) → IsSome o → (key : List ℕ) × (o ≡ Some key)
some_key None h = absurd (let none : ⊥ = cc in none)
some_key (Some key) h = (key, refl)

pub once_is : (act : Act) → IsDoneOnce act → IsKeyed act ⊎ IsAction act
once_is (MakeRunAct ask) once = let key = some_key ask.key once in inl (ask, key.0, refl, key.1)
once_is (ReportRunAct n action) once = inr (n, action, refl)
once_is (PutAct ask) once = absurd once
once_is (QueryAct what) once = absurd once
once_is DeleteAct once = absurd once
once_is (UpdateAct head text id) once = absurd once
once_is (PurgeAct id) once = absurd once
once_is (LockAct id text) once = absurd once
once_is (UnlockAct id) once = absurd once
once_is ForceUnlockAct once = absurd once
