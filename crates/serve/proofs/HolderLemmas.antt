-- The body of a 423 is the holder's.
use Rattle.serve.proofs.Outside.{◌≡◌, ℕ, Bool, true, false, cond, List, Option, Some, None, Result, Ok, Err, refl, sym, ap, subst, ◌∙◌, or_refused, and_then, includes, Refusal, Locked, BadToken, NotFound, BadDigest, Role, sha256, Seen, missing, there, standing, workspace_in, Outcome, refused, held, done, no_state, state, workspace, the_run, versions, runs, rules, caller_of, Act, Holder, Token, Workspace, Organization, refusals_name_the_holder, never_refused_as_locked, missing_names_no_holder, allowed_by, least_role, need_of, is_admitted, Asked, AskedAct, ListWorkspaces, OfWorkspace}
use Rattle.basis.specs.declared.roles.Role.TheVariants.{Read as Reads, Write as Writes, Admin as Manages}
use Rattle.serve.specs.Checks.{task_of, require, while_it_counts, known_caller, may_do, admitted, is_in_reach, in_reach, is_found, found, fits, digest_checked, act_of, checked}
use Rattle.serve.specs.Steps.{answer_to, holder_text, seen_at, carried}
use Rattle.serve.specs.Custody.{NamesIn, LockedNamesTheHolder}
use Rattle.serve.specs.declared.checks.Task.{Task}
use Rattle.serve.specs.declared.checks.Task.TheVariants.{ListAll, Carry}
use Rattle.serve.proofs.ActLemmas.{act_other}
use Rattle.serve.proofs.CheckLemmas.{Passes, order_passes, after_names, after_reach, after_prefix, after_role, after_caller}
use Rattle.serve.proofs.RecordLemmas.{standing_at}

-- no check answers 423
abbrev IsOther : {A : Type 0} → Result A Refusal → Type 0
IsOther x = x ≡ Err Locked → ⊥

module _ {A B : Type 0} where
  other_then : (x : Result A Refusal) (f : A → Result B Refusal) → IsOther x → ((a : A) → IsOther (f a)) → IsOther (and_then x f)
  other_then (Ok a) f first second e = second a e
  other_then (Err refusal) f first second e = first (let same : refusal ≡ Locked = cc in ap Err same)

required : (refusal : Refusal) (b : Bool) → (refusal ≡ Locked → ⊥) → IsOther (require refusal b)
required refusal true apart e = let none : ⊥ = cc in none
required refusal false apart e = apart (let same : refusal ≡ Locked = cc in same)

caller_other : (o : Option Token) → IsOther (or_refused BadToken o)
caller_other None e = let none : ⊥ = cc in none
caller_other (Some token) e = let none : ⊥ = cc in none

need_other : (role : Role) → IsOther (allowed_by (Some (need_of role)))
need_other Reads e = let none : ⊥ = cc in none
need_other Writes e = let none : ⊥ = cc in none
need_other Manages e = let none : ⊥ = cc in none

role_other : (b : Bool) (role : Role) → IsOther (allowed_by (cond b None (Some (need_of role))))
role_other true role e = let none : ⊥ = cc in none
role_other false role e = need_other role e

found_other : (r : Option Organization) (act : AskedAct) → IsOther (found r act)
found_other r (ListWorkspaces after) e = let none : ⊥ = cc in none
found_other r (OfWorkspace ws act) e = required NotFound (is_found r ws act) (λ is. let none : ⊥ = cc in none) e

ok_other : {A : Type 0} (a : A) → IsOther (Ok a)
ok_other a e = let none : ⊥ = cc in none

task_other : (prefix : List ℕ) (asked : AskedAct) (id : Option (List ℕ)) (body : List ℕ) → IsOther (task_of prefix asked id body)
task_other prefix (ListWorkspaces after) id body e = let none : ⊥ = cc in none
task_other prefix (OfWorkspace ws what) id body e = other_then (act_of what id body) _ (act_other what id body) (λ act. ok_other _) e

checked_other : (r : Option Organization) (now : ℕ) (asked : Asked) (content_md5 : Option (List ℕ)) (body : List ℕ) → IsOther (checked r now asked content_md5 body)
checked_other r now asked content_md5 body =
    other_then (known_caller r now asked) (after_caller r asked content_md5 body) (caller_other (while_it_counts now (caller_of r (sha256 asked.secret)))) (λ token.
    other_then (may_do token asked) (λ _. after_role r token asked content_md5 body) (role_other (includes token.caller.role (least_role asked.act)) (least_role asked.act)) (λ _.
    other_then (admitted token asked) (λ _. after_prefix r token.caller.prefix asked content_md5 body) (required NotFound (is_admitted token.caller.prefix asked.act) (λ is. let none : ⊥ = cc in none)) (λ _.
    other_then (in_reach asked) (λ _. after_reach r token.caller.prefix asked content_md5 body) (required NotFound (is_in_reach asked) (λ is. let none : ⊥ = cc in none)) (λ _.
    other_then (found r asked.act) (λ _. after_names token.caller.prefix asked content_md5 body) (found_other r asked.act) (λ _.
    other_then (digest_checked content_md5 body) (λ _. task_of token.caller.prefix asked.act asked.lock_id body) (required BadDigest (fits content_md5 body) (λ is. let none : ⊥ = cc in none)) (λ _.
    task_other token.caller.prefix asked.act asked.lock_id body))))))

-- the outcome that is answered 423 tells of a holder
held_by : (org ws : List ℕ) (o : Outcome) → (answer_to org ws o).refusal ≡ Some Locked → (o ≡ refused Locked → ⊥) → (h : Holder) × (o ≡ held h)
held_by org ws (refused refusal) e never = absurd (never (let same : refusal ≡ Locked = cc in ap refused same))
held_by org ws (held h) e never = (h, refl)
held_by org ws done e never = absurd (let none : ⊥ = cc in none)
held_by org ws no_state e never = absurd (let none : ⊥ = cc in none)
held_by org ws (state text) e never = absurd (let none : ⊥ = cc in none)
held_by org ws (workspace shown) e never = absurd (let none : ⊥ = cc in none)
held_by org ws (the_run r) e never = absurd (let none : ⊥ = cc in none)
held_by org ws (versions list) e never = absurd (let none : ⊥ = cc in none)
held_by org ws (runs list) e never = absurd (let none : ⊥ = cc in none)

seen_holder : (s : Seen) (act : Act) (now : ℕ) (h : Holder) → (rules act now s).answer ≡ held h → (w : Workspace) × (s ≡ there w) × (h ≡ w.holder)
seen_holder (missing room) act now h e = absurd (missing_names_no_holder act room h e)
seen_holder (there w) act now h e = (w, refl, refusals_name_the_holder act now w h e)

carried_holder : (r : Option Organization) (now : ℕ) (asked : Asked) (content_md5 : Option (List ℕ)) (body : List ℕ) (x : Result Task Refusal) → checked r now asked content_md5 body ≡ x
    → (carried asked.caller now r x).answer.refusal ≡ Some Locked
    → (ws : List ℕ) × (w : Workspace) × NamesIn asked.act ws × (workspace_in r ws ≡ Some w) × ((carried asked.caller now r x).answer.body ≡ holder_text asked.caller ws w.holder)
carried_holder r now asked content_md5 body (Err refusal) e is = absurd (checked_other r now asked content_md5 body (e ∙ (let same : refusal ≡ Locked = cc in ap Err same)))
carried_holder r now asked content_md5 body (Ok (ListAll after prefix)) e is = absurd (let none : ⊥ = cc in none)
carried_holder r now asked content_md5 body (Ok (Carry its_ws its_act)) e is =
    let p : Passes r asked body its_ws its_act = order_passes r now asked content_md5 body its_ws its_act e in
    let s : Seen = seen_at r its_ws in
    let h : (h : Holder) × ((rules its_act now s).answer ≡ held h) = held_by asked.caller its_ws (rules its_act now s).answer is (never_refused_as_locked its_act now s) in
    let w : (w : Workspace) × (s ≡ there w) × (h.0 ≡ w.holder) = seen_holder s its_act now h.0 h.1 in (
      its_ws,
      w.0,
      subst (λ (a : AskedAct). NamesIn a its_ws) (sym p.asks) refl,
      sym (standing_at r its_ws) ∙ ap standing w.1,
      ap (λ (x : Outcome). (answer_to asked.caller its_ws x).body) h.1 ∙ ap (holder_text asked.caller its_ws) w.2,
    )

pub locked_names_the_holder : LockedNamesTheHolder
locked_names_the_holder r now asked content_md5 body is = carried_holder r now asked content_md5 body (checked r now asked content_md5 body) refl is
