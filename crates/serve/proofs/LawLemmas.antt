-- Refusals change nothing, and what is out of reach is told as what isn't there.
use Rattle.serve.proofs.Outside.{if◌then◌else◌, ◌≡◌, ◌≢◌, ℕ, Bool, true, false, not, ◌&&◌, ◌||◌, cond, List, Option, Some, None, Result, Ok, Err, is_some, refl, sym, ap, ◌∙◌, option_map, get, and_then, Refusal, NotFound, effect, workspace_in, placed, Outcome, refused, held, done, no_state, state, workspace, the_run, versions, runs, Ruling, rules, IsRefusal, has_use, token_of, with_token, without_token, has_digest, AdminAnswer, Done, Exists, Absent, InUse, Token, Workspace, Organization, sha256, includes, Role, admits, least_role, need_of, is_admitted, allowed_by, Asked, AskedAct, ListWorkspaces, OfWorkspace, WsAct, Answer}
use Rattle.machine.proofs.RefusalLemmas.{refusals_change_nothing as rules_change_nothing}
use Rattle.serve.specs.declared.steps.Admin.{Admin}
use Rattle.serve.specs.declared.steps.Admin.TheVariants.{OrgAdd, OrgLimit, OrgRemove, OrgList, TokenAdd, TokenList, TokenRevoke}
use Rattle.serve.specs.declared.checks.Task.{Task}
use Rattle.serve.specs.declared.checks.Task.TheVariants.{ListAll, Carry}
use Rattle.serve.specs.Asks.{silent, requests, commands, stops}
use Rattle.serve.specs.Asks as ask
use Rattle.serve.specs.Checks.{known_caller, may_do, admitted, is_in_reach, in_reach, require, makes, is_there, found, checked}
use Rattle.serve.specs.Steps.{replies, reports, answer_to, seen_at, ruled_in, carried, request_step, command_step, command_said}
use Rattle.serve.specs.AbsentForms.{NeedsWorkspace}
use Rattle.serve.specs.Laws.{RefusedStepsChangeNothing, OutOfReachIsNotFound, renamed, OutOfReachIsAsAbsent, OutsideThePrefixIsNotFound, OutsideThePrefixIsAsAbsent}
use Rattle.serve.proofs.CheckLemmas.{after_ok, after_err, after_names, after_reach, after_prefix, after_role, after_caller}
use Rattle.serve.proofs.RecordLemmas.{placed_same, standing_at}

-- an answer that refuses is that of a refusal by the rules
refuses_by : (org ws : List ℕ) (o : Outcome) (refusal : Refusal) → (answer_to org ws o).refusal ≡ Some refusal → IsRefusal o
refuses_by org ws (refused other) refusal e = tt
refuses_by org ws (held holder) refusal e = tt
refuses_by org ws done refusal e = absurd (let none : ⊥ = cc in none)
refuses_by org ws no_state refusal e = absurd (let none : ⊥ = cc in none)
refuses_by org ws (state text) refusal e = absurd (let none : ⊥ = cc in none)
refuses_by org ws (workspace shown) refusal e = absurd (let none : ⊥ = cc in none)
refuses_by org ws (the_run r) refusal e = absurd (let none : ⊥ = cc in none)
refuses_by org ws (versions list) refusal e = absurd (let none : ⊥ = cc in none)
refuses_by org ws (runs list) refusal e = absurd (let none : ⊥ = cc in none)

pub ruled_leaves : (org ws : List ℕ) (r : Option Organization) (ruling : Ruling) → ruling.left ≡ workspace_in r ws → (ruled_in org ws r ruling).left ≡ r
ruled_leaves org ws r ruling e = ap (λ (w : Option Workspace). option_map (λ (o : Organization). placed o ws w) r) e ∙ placed_same r ws

carried_leaves : (org : List ℕ) (now : ℕ) (r : Option Organization) (x : Result Task Refusal) (refusal : Refusal) → (carried org now r x).answer.refusal ≡ Some refusal → (carried org now r x).left ≡ r
carried_leaves org now r (Err other) refusal e = refl
carried_leaves org now r (Ok (ListAll after prefix)) refusal e = refl
carried_leaves org now r (Ok (Carry ws act)) refusal e =
    ruled_leaves org ws r (rules act now (seen_at r ws))
    (rules_change_nothing act now (seen_at r ws) (refuses_by org ws (rules act now (seen_at r ws)).answer refusal e) ∙ standing_at r ws)

pub command_leaves : (r : Option Organization) (command : Admin) → (command_step r command).answer ≢ Done → (command_step r command).left ≡ r
command_leaves None (OrgAdd org limit) apart = absurd (apart refl)
command_leaves (Some o) (OrgAdd org limit) apart = refl
command_leaves None (TokenAdd org name role secret bounds) apart = refl
command_leaves (Some o) (TokenAdd org name role secret bounds) apart = chosen (is_some (get o.tokens name) || has_digest (sha256 secret) o) apart
  where
    chosen : (b : Bool) → (cond b (effect Exists (Some o)) (effect Done (Some (with_token o name (token_of (sha256 secret) role bounds))))).answer ≢ Done
        → (cond b (effect Exists (Some o)) (effect Done (Some (with_token o name (token_of (sha256 secret) role bounds))))).left ≡ Some o
    chosen true apart = refl
    chosen false apart = absurd (apart refl)
command_leaves r (TokenList org) apart = refl
command_leaves None (OrgLimit org limit) apart = refl
command_leaves (Some o) (OrgLimit org limit) apart = absurd (apart refl)
command_leaves r OrgList apart = refl
command_leaves None (OrgRemove org is_forced) apart = refl
command_leaves (Some o) (OrgRemove org is_forced) apart = removed (not is_forced && has_use o) apart
  where
    removed : (b : Bool) → (cond b (effect InUse (Some o)) (effect Done None)).answer ≢ Done → (cond b (effect InUse (Some o)) (effect Done None)).left ≡ Some o
    removed true apart = refl
    removed false apart = absurd (apart refl)
command_leaves None (TokenRevoke org name) apart = refl
command_leaves (Some o) (TokenRevoke org name) apart = taken (is_some (get o.tokens name)) apart
  where
    taken : (b : Bool) → (cond b (effect Done (Some (without_token o name))) (effect Absent (Some o))).answer ≢ Done → (cond b (effect Done (Some (without_token o name))) (effect Absent (Some o))).left ≡ Some o
    taken true apart = absurd (apart refl)
    taken false apart = refl

-- what is said to an operator is the word of the command, or a list
said_is : (command : Admin) (a b : AdminAnswer) → command_said command a ≡ reports b → a ≡ b
said_is (OrgAdd org limit) a b e = cc
said_is (OrgLimit org limit) a b e = cc
said_is (OrgRemove org is_forced) a b e = cc
said_is OrgList a b e = absurd (let none : ⊥ = cc in none)
said_is (TokenAdd org name role secret bounds) a b e = cc
said_is (TokenList org) a b e = absurd (let none : ⊥ = cc in none)
said_is (TokenRevoke org name) a b e = cc

pub no_reply : (command : Admin) (a : AdminAnswer) (awaited : Bool) (now : ℕ) (answer : Answer) → command_said command a ≡ replies awaited now answer → ⊥
no_reply (OrgAdd org limit) a awaited now answer e = let none : ⊥ = cc in none
no_reply (OrgLimit org limit) a awaited now answer e = let none : ⊥ = cc in none
no_reply (OrgRemove org is_forced) a awaited now answer e = let none : ⊥ = cc in none
no_reply OrgList a awaited now answer e = let none : ⊥ = cc in none
no_reply (TokenAdd org name role secret bounds) a awaited now answer e = let none : ⊥ = cc in none
no_reply (TokenList org) a awaited now answer e = let none : ⊥ = cc in none
no_reply (TokenRevoke org name) a awaited now answer e = let none : ⊥ = cc in none

answer_is : (awaited also : Bool) (at now : ℕ) (a b : Answer) → replies awaited at a ≡ replies also now b → a ≡ b
answer_is awaited also at now a b e = cc

pub refusals_change_nothing : RefusedStepsChangeNothing
refusals_change_nothing r silent = ((λ awaited at answer refusal e is. refl), (λ answer e apart. refl))
refusals_change_nothing r (ask.refused at awaited refusal is_head at_door) = ((λ awaited at answer refusal e is. refl), (λ answer e apart. refl))
refusals_change_nothing r (requests at awaited asked content_md5 body) = (
  (λ also now answer refusal e is. carried_leaves asked.caller at r (checked r at asked content_md5 body) refusal
      (ap (λ (a : Answer). a.refusal) (answer_is awaited also at now (request_step r at asked content_md5 body).answer answer e) ∙ is)),
  (λ answer e apart. absurd (let none : ⊥ = cc in none)),
)
refusals_change_nothing r (stops at) = ((λ awaited at answer refusal e is. refl), (λ answer e apart. refl))
refusals_change_nothing r (commands at command) = (
  (λ awaited now answer refusal e is. absurd (no_reply command (command_step r command).answer awaited now answer e)),
  (λ answer e apart. command_leaves r command (λ done. apart (sym (said_is command (command_step r command).answer answer e) ∙ done))),
)

-- what is out of reach
out_is : (asked : Asked) → is_in_reach asked ≡ false → in_reach asked ≡ Err NotFound
out_is asked e = ap (require NotFound) e

out_after_prefix : (r : Option Organization) (prefix : List ℕ) (asked : Asked) (content_md5 : Option (List ℕ)) (body : List ℕ) → is_in_reach asked ≡ false → after_prefix r prefix asked content_md5 body ≡ Err NotFound
out_after_prefix r prefix asked content_md5 body e = after_err (in_reach asked) (λ _. after_reach r prefix asked content_md5 body) NotFound (out_is asked e)

-- out of reach, or else not admitted: both are told alike
out_after_role : (r : Option Organization) (token : Token) (asked : Asked) (content_md5 : Option (List ℕ)) (body : List ℕ) → is_in_reach asked ≡ false → after_role r token asked content_md5 body ≡ Err NotFound
out_after_role r token asked content_md5 body e = by_prefix (is_admitted token.caller.prefix asked.act)
  where
    by_prefix : (b : Bool) → and_then (require NotFound b) (λ _. after_prefix r token.caller.prefix asked content_md5 body) ≡ Err NotFound
    by_prefix true = out_after_prefix r token.caller.prefix asked content_md5 body e
    by_prefix false = refl

pub out_of_reach_is_not_found : OutOfReachIsNotFound
out_of_reach_is_not_found r now asked content_md5 body token out known may =
    ap (carried asked.caller now r)
    (after_ok (known_caller r now asked) (after_caller r asked content_md5 body) token (Err NotFound) known
    (after_ok (may_do token asked) (λ _. after_role r token asked content_md5 body) tt (Err NotFound) may (out_after_role r token asked content_md5 body out)))

-- what isn't admitted
not_admitted : (r : Option Organization) (token : Token) (asked : Asked) (content_md5 : Option (List ℕ)) (body : List ℕ) → is_admitted token.caller.prefix asked.act ≡ false → after_role r token asked content_md5 body ≡ Err NotFound
not_admitted r token asked content_md5 body e = after_err (admitted token asked) (λ _. after_prefix r token.caller.prefix asked content_md5 body) NotFound (ap (require NotFound) e)

pub outside_the_prefix_is_not_found : OutsideThePrefixIsNotFound
outside_the_prefix_is_not_found r now asked content_md5 body token known outside may =
    ap (carried asked.caller now r)
    (after_ok (known_caller r now asked) (after_caller r asked content_md5 body) token (Err NotFound) known
    (after_ok (may_do token asked) (λ _. after_role r token asked content_md5 body) tt (Err NotFound) may (not_admitted r token asked content_md5 body outside)))

-- a workspace that is lacking isn't found
none_of_none : (act : WsAct) → is_there act None ≡ false
none_of_none act = refl

lacking : (c : Bool) (r : Option Organization) (ws : List ℕ) (what : WsAct) → workspace_in r ws ≡ None → c ≡ false → (c || is_there what (workspace_in r ws)) ≡ false
lacking c r ws what none e = ap (λ (d : Bool). d || is_there what (workspace_in r ws)) e ∙ ap (is_there what) none ∙ none_of_none what

absent_after_role : (r : Option Organization) (token : Token) (asked : Asked) (content_md5 : Option (List ℕ)) (body org ws : List ℕ) (act : AskedAct) → NeedsWorkspace act → workspace_in r ws ≡ None
    → after_role r token (record asked { org = org; act = renamed act ws }) content_md5 body ≡ Err NotFound
absent_after_role r token asked content_md5 body org ws (ListWorkspaces after) needs none = absurd needs
absent_after_role r token asked content_md5 body org ws (OfWorkspace old act) needs none = by_prefix (admits token.caller.prefix ws)
  where
    other : Asked
    other = record asked { org = org; act = OfWorkspace ws act }

    reached : (b : Bool) → and_then (require NotFound b) (λ _. after_reach r token.caller.prefix other content_md5 body) ≡ Err NotFound
    reached true = after_err (found r (OfWorkspace ws act)) (λ _. after_names token.caller.prefix other content_md5 body) NotFound
        (ap (require NotFound) (lacking (makes act) r ws act none needs))
    reached false = refl

    by_prefix : (b : Bool) → and_then (require NotFound b) (λ _. after_prefix r token.caller.prefix other content_md5 body) ≡ Err NotFound
    by_prefix true = reached (is_in_reach other)
    by_prefix false = refl

-- the role that is needed is the same
role_stays : (act : AskedAct) (ws : List ℕ) → NeedsWorkspace act → least_role (renamed act ws) ≡ least_role act
role_stays (ListWorkspaces after) ws needs = absurd needs
role_stays (OfWorkspace old act) ws needs = refl

-- where the workspace isn't told of, the request is answered as each of its absent forms
as_absent : (r : Option Organization) (asked : Asked) (content_md5 : Option (List ℕ)) (body org ws : List ℕ) (token : Token) → NeedsWorkspace asked.act → workspace_in r ws ≡ None
    → after_role r token asked content_md5 body ≡ Err NotFound
    → after_caller r asked content_md5 body token ≡ after_caller r (record asked { org = org; act = renamed asked.act ws }) content_md5 body token
as_absent r asked content_md5 body org ws token needs none gone = judged (may_do token asked) ∙ ap (λ (x : Result (Unit {0}) Refusal). and_then x (λ _. after_role r token other content_md5 body)) allowed
  where
    other : Asked
    other = record asked { org = org; act = renamed asked.act ws }

    allowed : may_do token asked ≡ may_do token other
    allowed = ap (λ (l : Role). allowed_by (if includes token.caller.role l then None else Some (need_of l))) (sym (role_stays asked.act ws needs))

    judged : (x : Result (Unit {0}) Refusal) → and_then x (λ _. after_role r token asked content_md5 body) ≡ and_then x (λ _. after_role r token other content_md5 body)
    judged (Ok passed) = gone ∙ sym (absent_after_role r token asked content_md5 body org ws asked.act needs none)
    judged (Err refusal) = refl

pub out_of_reach_is_as_absent : OutOfReachIsAsAbsent
out_of_reach_is_as_absent r now asked content_md5 body org ws out needs none = ap (carried asked.caller now r) (called (known_caller r now asked))
  where
    called : (x : Result Token Refusal) → and_then x (after_caller r asked content_md5 body) ≡ and_then x (after_caller r (record asked { org = org; act = renamed asked.act ws }) content_md5 body)
    called (Ok token) = as_absent r asked content_md5 body org ws token needs none (out_after_role r token asked content_md5 body out)
    called (Err refusal) = refl

pub outside_the_prefix_is_as_absent : OutsideThePrefixIsAsAbsent
outside_the_prefix_is_as_absent r now asked content_md5 body org ws token known outside needs none =
    let instead : Asked = record asked { org = org; act = renamed asked.act ws } in
    ap (carried asked.caller now r)
    (ap (λ (x : Result Token Refusal). and_then x (after_caller r asked content_md5 body)) known
    ∙ as_absent r asked content_md5 body org ws token needs none (not_admitted r token asked content_md5 body outside)
    ∙ sym (ap (λ (x : Result Token Refusal). and_then x (after_caller r instead content_md5 body)) known))
