-- What the log tells: of a decision, of what isn't there, and of the token that asks.
use Rattle.serve.proofs.Outside.{◌≡◌, ◌⊎◌, ℕ, Bool, true, false, cond, List, Option, Some, None, Result, Ok, Err, IsSome, IfOk, OnOk, refl, sym, ap, subst, ◌∙◌, eq-eqb, inl, inr, if◌then◌else◌, option_map, ◌==◌, option_map_or, get, or_refused, and_then, is_valid_at, Refusal, Locked, BadToken, NotFound, Unavailable, Caller, Holder, sha256, effect, IsLawfulOrganization, meaning, answered, holder_of, Meets, workspace_in, seen_in, Outcome, refused, no_state, state, refused_by, rules, caller_of, asker_of, unit_of, unit_by, version_text, Act, Decision, Refused, Accepted, TokenRow, Token, Workspace, Organization, caller_refused, allowed_by, Asked, AskedAct, WsAct}
use Rattle.basis.specs.declared.rows.Holder.TheVariants.{Nobody, Lock as HeldLock, Run as HeldRun}
use Rattle.machine.specs.Changes.{edited}
use Rattle.machine.specs.Settling.{started_if}
use Rattle.machine.specs.declared.acts.Answer.{Answer}
use Rattle.machine.specs.declared.acts.Answer.TheVariants as answer
use Rattle.machine.specs.declared.acts.Edit.{Edit}
use Rattle.machine.specs.declared.acts.Edit.TheVariants as edit
use Rattle.machine.specs.declared.acts.Unit.{Unit as AnyUnit}
use Rattle.machine.proofs.TokenLemmas.{asker_calls}
use Rattle.serve.specs.Checks.{while_it_counts, in_reach, is_found, found, act_of}
use Rattle.serve.specs.Inner.Judging.{judged_task}
use Rattle.serve.specs.Inner.Prepared.{found_valid_token, row_known, caller_known}
use Rattle.serve.specs.Inner.Tracing.{run_shown_by, edit_number, start_of, unless_held, trace_by, read_so_far, AreReadSoFar}
use Rattle.serve.specs.Logs.{run_shown, number_given, version_made, run_holding, run_started, trace_of, no_trace, traced, valid_token_name, token_named, id_spelt, task_read}
use Rattle.serve.specs.Steps.{seen_at}
use Rattle.serve.specs.declared.logs.RowFacts.{RowFacts}
use Rattle.serve.specs.declared.logs.Trace.{Trace}
use Rattle.serve.specs.declared.checks.Task.{Task}
use Rattle.serve.specs.declared.checks.Task.TheVariants.{Carry}
use Rattle.serve.proofs.ActLemmas.{act_is}
use Rattle.serve.proofs.CheckLemmas.{unknown_refused, policy_refuses, out_of_reach, past_reach}
use Rattle.serve.proofs.JudgingLemmas.{after_callers, judged_as}
use Rattle.serve.proofs.RecordLemmas.{standing_at}

-- what stays as it was has no trace
pub given_same : (n : ℕ) → number_given n n ≡ None
given_same n = rw (eq-eqb n n refl) refl

holding_same : (h : Holder) → run_holding h h ≡ None
holding_same Nobody = refl
holding_same (HeldLock id text) = refl
holding_same (HeldRun n) = rw (eq-eqb n n refl) refl

made_same : (w : Option Workspace) → version_made w w ≡ None
made_same None = refl
made_same (Some w) = given_same w.next_version

started_same : (w : Option Workspace) → run_started w w ≡ None
started_same None = refl
started_same (Some w) = holding_same w.holder

abbrev trace : Option ℕ → Option ℕ → Option ℕ → Trace
trace shown_run version run = record { shown_run = shown_run; version = version; run = run }

traces : (a b c d e f : Option ℕ) → a ≡ b → c ≡ d → e ≡ f → trace a c e ≡ trace b d f
traces a b c d e f x y z = ap (λ (q : Option ℕ). trace q c e) x ∙ (ap (λ (q : Option ℕ). trace b q e) y ∙ ap (trace b d) z)

stays_traced : (w : Option Workspace) (o : Outcome) → trace_of w (effect o w) ≡ trace (run_shown o) None None
stays_traced w o = traces (run_shown o) (run_shown o) (version_made w w) None (run_started w w) None refl (made_same w) (started_same w)

refused_reported : (refusal : Refusal) (h : Holder) → run_shown (refused_by refusal h) ≡ None
refused_reported Locked h = refl
refused_reported _ h = refl

-- what an answer shows
state_reported : (o : Option (List ℕ)) → run_shown (option_map_or state o no_state) ≡ None
state_reported None = refl
state_reported (Some text) = refl

reported_is : (a : Answer) (w : Option Workspace) → run_shown_by a ≡ run_shown (answered a w)
reported_is answer.Done w = refl
reported_is answer.NoState w = refl
reported_is (answer.State n) w = sym (state_reported (version_text n w))
reported_is (answer.Workspace shown) w = refl
reported_is (answer.Run r) w = refl
reported_is (answer.Versions after) w = refl
reported_is (answer.Runs after) w = refl

-- a workspace that is made anew has no version
abbrev ifs : Bool → Option ℕ
ifs b = if b then None else None

none_given : (b : Bool) → ifs b ≡ None
none_given true = refl
none_given false = refl

first_given : (next : ℕ) → number_given next 1 ≡ None
first_given next = none_given (1 == next)

-- what a change makes
changed_made : (w : Workspace) (e : Edit) (start : Option ℕ) → edit_number w.next_version e ≡ version_made (Some w) (option_map (started_if start) (edited e (Some w)))
changed_made w (edit.Make settings) None = sym (first_given w.next_version)
changed_made w (edit.Make settings) (Some n) = sym (first_given w.next_version)
changed_made w (edit.Configure settings outgoing) None = sym (given_same w.next_version)
changed_made w (edit.Configure settings outgoing) (Some n) = sym (given_same w.next_version)
changed_made w edit.Remove start = refl
changed_made w (edit.AddVersion version outgoing) None = refl
changed_made w (edit.AddVersion version outgoing) (Some n) = refl
changed_made w edit.Purge None = sym (given_same w.next_version)
changed_made w edit.Purge (Some n) = sym (given_same w.next_version)
changed_made w (edit.Hold id text) None = sym (given_same w.next_version)
changed_made w (edit.Hold id text) (Some n) = sym (given_same w.next_version)
changed_made w (edit.Release id) None = sym (given_same w.next_version)
changed_made w (edit.Release id) (Some n) = sym (given_same w.next_version)
changed_made w (edit.AddRun number ask created) None = sym (given_same w.next_version)
changed_made w (edit.AddRun number ask created) (Some n) = sym (given_same w.next_version)
changed_made w (edit.Report number action status frees) None = sym (given_same w.next_version)
changed_made w (edit.Report number action status frees) (Some n) = sym (given_same w.next_version)

freed_held : (frees : Bool) (h : Holder) → run_holding h (cond frees Nobody h) ≡ None
freed_held true h = refl
freed_held false h = holding_same h

changed_started : (w : Workspace) (e : Edit) (start : Option ℕ) → unless_held w.holder (start_of e start) ≡ run_started (Some w) (option_map (started_if start) (edited e (Some w)))
changed_started w (edit.Make settings) None = refl
changed_started w (edit.Make settings) (Some n) = refl
changed_started w (edit.Configure settings outgoing) None = sym (holding_same w.holder)
changed_started w (edit.Configure settings outgoing) (Some n) = refl
changed_started w edit.Remove start = refl
changed_started w (edit.AddVersion version outgoing) None = sym (holding_same w.holder)
changed_started w (edit.AddVersion version outgoing) (Some n) = refl
changed_started w edit.Purge None = sym (holding_same w.holder)
changed_started w edit.Purge (Some n) = refl
changed_started w (edit.Hold id text) None = refl
changed_started w (edit.Hold id text) (Some n) = refl
changed_started w (edit.Release id) None = refl
changed_started w (edit.Release id) (Some n) = refl
changed_started w (edit.AddRun number ask created) None = sym (holding_same w.holder)
changed_started w (edit.AddRun number ask created) (Some n) = refl
changed_started w (edit.Report number action status frees) None = sym (freed_held frees w.holder)
changed_started w (edit.Report number action status frees) (Some n) = refl

-- a decision, by what was seen of the workspace, has the trace of what it means there
trace_is : (o : Organization) (act : Act) (w : Option Workspace) (decision : Decision) → trace_by (unit_by o act w) decision ≡ trace_of w (meaning decision w)
trace_is o act w (Refused refusal) = sym (stays_traced w (refused_by refusal (holder_of w)) ∙ ap (λ (q : Option ℕ). trace q None None) (refused_reported refusal (holder_of w)))
trace_is o act w (Accepted a None) = ap (λ (q : Option ℕ). trace q None None) (reported_is a w) ∙ sym (stays_traced w (answered a w))
trace_is o act None (Accepted a (Some change)) = ap (λ (q : Option ℕ). trace q None None) (reported_is a None)
trace_is o act (Some w) (Accepted a (Some change)) = traces _ _ _ _ _ _ (reported_is a (Some w)) (changed_made w change.edit change.start) (changed_started w change.edit change.start)

-- the same of the rules, by way of a decision
pub rule_traced : (r : Option Organization) (ws : List ℕ) (act : Act) (now : ℕ) (unit : AnyUnit) (decision : Decision)
    → ((o : Organization) → r ≡ Some o → IsLawfulOrganization o) → ((o : Organization) → r ≡ Some o → unit ≡ unit_of o ws act)
    → ((o : Organization) (name : List ℕ) → IsLawfulOrganization o → unit ≡ unit_of o name act → Meets (seen_in o name) act now decision)
    → IsSome r → trace_by unit decision ≡ trace_of (workspace_in r ws) (rules act now (seen_at r ws))
rule_traced None ws act now unit decision lawful units meets some = absurd (let none : ⊥ = cc in none)
rule_traced (Some o) ws act now unit decision lawful units meets some =
    let w : Option Workspace = get o.workspaces ws in
    let m : Meets (seen_in o ws) act now decision = meets o ws (lawful o refl) (units o refl) in
    ap (λ (u : AnyUnit). trace_by u decision) (units o refl)
    ∙ (trace_is o act w decision ∙ ap (trace_of w) (ap (meaning decision) (sym (standing_at (Some o) ws)) ∙ m.model))

-- what isn't there has no trace
missing_traced : (ws : List ℕ) (o : Organization) (what : WsAct) (id : Option (List ℕ)) (body : List ℕ) (act : Act) (now : ℕ) → act_of what id body ≡ Ok act → is_found (Some o) ws what ≡ false
    → traced now (Some o) (Ok (Carry ws act)) ≡ no_trace
missing_traced ws o what id body act now e gone =
    ap (trace_of (get o.workspaces ws)) ((act_is what id body act e).misses now _ (get o.workspaces ws) gone) ∙ stays_traced (get o.workspaces ws) (refused NotFound)

-- what was judged good has the trace of what passed the checks
pub judged_traced : (r : Option Organization) (prefix : List ℕ) (asked : AskedAct) (content_md5 id : Option (List ℕ)) (body : List ℕ) (task : Task) → IsSome r → judged_task prefix asked content_md5 id body ≡ Ok task
    → (now : ℕ) → traced now r (Ok task) ≡ traced now r (after_callers r prefix asked content_md5 id body)
judged_traced None prefix asked content_md5 id body task some e now = absurd (let none : ⊥ = cc in none)
judged_traced (Some o) prefix asked content_md5 id body task some e now =
    judged_as (traced now (Some o)) (Some o) prefix asked content_md5 id body task (λ ws what act spelt gone. missing_traced ws o what id body act now spelt gone) e

-- who asks by the token that asks
abbrev pub caller_by : Result TokenRow Refusal → Result Caller Refusal
caller_by x = and_then x (λ row. Ok row.caller)

asks_by : (now : ℕ) (x : Option TokenRow) (y : Option Token) → option_map (λ (row : TokenRow). row.caller) x ≡ option_map (λ (token : Token). token.caller) y
    → caller_by (found_valid_token now x) ≡ and_then (or_refused BadToken (while_it_counts now y)) (λ token. Ok token.caller)
asks_by now None None e = refl
asks_by now None (Some token) e = absurd (let none : ⊥ = cc in none)
asks_by now (Some row) None e = absurd (let none : ⊥ = cc in none)
asks_by now (Some row) (Some token) e = let same : row.caller ≡ token.caller = cc in by_count row.caller token.caller same (is_valid_at now row.caller) (is_valid_at now token.caller) (ap (is_valid_at now) same)
  where
    by_count : (a c : Caller) → a ≡ c → (b d : Bool) → b ≡ d
        → caller_by (if b then Ok (record row { caller = a }) else Err BadToken) ≡ and_then (or_refused BadToken (if d then Some (record token { caller = c }) else None)) (λ token. Ok token.caller)
    by_count a c same true true e = ap Ok same
    by_count a c same true false e = absurd (let none : ⊥ = cc in none)
    by_count a c same false true e = absurd (let none : ⊥ = cc in none)
    by_count a c same false false e = refl

pub callers_are : (r : Option Organization) (now : ℕ) (asked : Asked) → caller_by (row_known r now asked) ≡ caller_known r now asked
callers_are r now asked = asks_by now (asker_of r (sha256 asked.secret)) (caller_of r (sha256 asked.secret)) (asker_calls r (sha256 asked.secret))

pub row_calls : (r : Option Organization) (now : ℕ) (asked : Asked) (row : TokenRow) → row_known r now asked ≡ Ok row → caller_known r now asked ≡ Ok row.caller
row_calls r now asked row e = sym (callers_are r now asked) ∙ ap caller_by e

pub no_row_calls : (r : Option Organization) (now : ℕ) (asked : Asked) (refusal : Refusal) → row_known r now asked ≡ Err refusal → caller_known r now asked ≡ Err refusal
no_row_calls r now asked refusal e = sym (callers_are r now asked) ∙ ap caller_by e

-- the name of the token that asks
name_known : (now : ℕ) (x : Option TokenRow) (row : TokenRow) → found_valid_token now x ≡ Ok row → valid_token_name now x ≡ Some row.name
name_known now None row e = absurd (let none : ⊥ = cc in none)
name_known now (Some found) row e = by_count (is_valid_at now found.caller) e
  where
    by_count : (b : Bool) → (if b then Ok found else Err BadToken) ≡ Ok row → (if b then Some found.name else None) ≡ Some row.name
    by_count true e = let same : found ≡ row = cc in ap (λ (q : TokenRow). Some q.name) same
    by_count false e = absurd (let none : ⊥ = cc in none)

pub row_names : (r : Option Organization) (now : ℕ) (asked : Asked) (row : TokenRow) → row_known r now asked ≡ Ok row → token_named r now asked ≡ Some row.name
row_names r now asked row e = name_known now (asker_of r (sha256 asked.secret)) row e

-- the document, as it is read past the checks of the caller
module _ (r : Option Organization) (now : ℕ) (asked : Asked) (content_md5 : Option (List ℕ)) (body : List ℕ) where
  abbrev read_for : List ℕ → Result Task Refusal
  read_for prefix = judged_task prefix asked.act content_md5 asked.lock_id body

  pub unknown_unread : (refusal : Refusal) → row_known r now asked ≡ Err refusal → None ≡ id_spelt (task_read r now asked content_md5 body)
  unknown_unread refusal e = sym (ap id_spelt (unknown_refused r now asked read_for refusal (no_row_calls r now asked refusal e)))

  pub refused_unread : (caller : Caller) (refusal : Refusal) → caller_known r now asked ≡ Ok caller → allowed_by (caller_refused caller asked.act) ≡ Err refusal → None ≡ id_spelt (task_read r now asked content_md5 body)
  refused_unread caller refusal e h = sym (ap id_spelt (policy_refuses r now asked read_for caller refusal e h))

  pub out_of_reach_unread : (caller : Caller) (refusal : Refusal) → caller_known r now asked ≡ Ok caller → allowed_by (caller_refused caller asked.act) ≡ Ok tt → in_reach asked ≡ Err refusal → None ≡ id_spelt (task_read r now asked content_md5 body)
  out_of_reach_unread caller refusal e h out = sym (ap id_spelt (out_of_reach r now asked read_for caller refusal e h out))

  pub judged_read : (caller : Caller) (x : Result Task Refusal) → caller_known r now asked ≡ Ok caller → allowed_by (caller_refused caller asked.act) ≡ Ok tt → in_reach asked ≡ Ok tt
      → judged_task caller.prefix asked.act content_md5 asked.lock_id body ≡ x → id_spelt x ≡ id_spelt (task_read r now asked content_md5 body)
  judged_read caller x e h reached is = sym (ap id_spelt (past_reach r now asked read_for caller x e h reached is))

-- what isn't for want of memory
pub ok_apart : (task : Task) (x : Result Task Refusal) → x ≡ Ok task → x ≡ Err Unavailable → ⊥
ok_apart task x is e = let none : ⊥ = cc in none

pub err_apart : (refusal : Refusal) (x : Result Task Refusal) → x ≡ Err refusal → (refusal ≡ Unavailable → ⊥) → x ≡ Err Unavailable → ⊥
err_apart refusal x is apart e = apart (let same : refusal ≡ Unavailable = cc in same)

-- what is so where a refusal is told
pub with_known : {T E A : Type 0} (P : T → Type 0) (res : Result T E) → (A → IfOk res P) → OnOk res A → IfOk res P
with_known P (Ok x) f known = f known
with_known P (Err e) f known = tt

abbrev pub facts : Option (List ℕ) → Option (List ℕ) → Trace → RowFacts
facts token id trace = record { token = token; id = id; trace = trace }

pub facts_same : (a b c d : Option (List ℕ)) (s t : Trace) → a ≡ b → c ≡ d → s ≡ t → facts a c s ≡ facts b d t
facts_same a b c d s t x y z = ap (λ (q : Option (List ℕ)). facts q c s) x ∙ (ap (λ (q : Option (List ℕ)). facts b q s) y ∙ ap (facts b d) z)

-- what had been read where memory or the store refused: by what had passed the checks, or in them
module _ (r : Option Organization) (at : ℕ) (asked : Asked) (content_md5 : Option (List ℕ)) (body : List ℕ) where
  pub carried_so_far : (token id : Option (List ℕ)) (reported : RowFacts) → token ≡ token_named r at asked → id ≡ id_spelt (task_read r at asked content_md5 body)
      → (read : Option (List ℕ)) × ((read ≡ None) ⊎ (read ≡ id)) × (reported ≡ read_so_far token read) → AreReadSoFar r at asked content_md5 body reported
  carried_so_far token id reported named spelt (read, inl none, is) = subst (AreReadSoFar r at asked content_md5 body) (sym is) (record { read = inr (named, inl none); trace = refl })
  carried_so_far token id reported named spelt (read, inr same, is) = subst (AreReadSoFar r at asked content_md5 body) (sym is) (record { read = inr (named, inr (same ∙ spelt)); trace = refl })

  pub refused_so_far : (token : Option (List ℕ)) (reported : RowFacts) → (token ≡ None) ⊎ (token ≡ token_named r at asked) → reported ≡ read_so_far token None → AreReadSoFar r at asked content_md5 body reported
  refused_so_far token reported (inl none) is = subst (AreReadSoFar r at asked content_md5 body) (sym is) (record { read = inl (none, refl); trace = refl })
  refused_so_far token reported (inr named) is = subst (AreReadSoFar r at asked content_md5 body) (sym is) (record { read = inr (named, inl refl); trace = refl })
