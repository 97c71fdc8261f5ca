-- Records that stay as they are, and answers that are foreseen.
use Rattle.serve.proofs.Outside.{◌≡◌, ◌≢◌, ℕ, Bool, false, ◌&&◌, cond, List, is_some, Option, Some, None, Result, Ok, Err, IsSome, IfOk, OnOk, nat_lt, refl, sym, ap, subst, ◌∙◌, same_Some, option_map, is_eq, Ordering, FinMap, get, insert, get-insert, same_map, Refusal, Unavailable, name_cmp, IsLawfulOrganization, IsLawfulIfThere, AreLawful, IsInRange, IsMoment, workspace_in, count_of, seen_in, standing, with_workspace, placed, Ruling, refused_by, rules, unit_of, unit_by, has_version, asked_run, meaning, answered, holder_of, Meets, ChangeIsDue, Act, Decision, Refused, Accepted, Holder, Workspace, Organization, names_total, names_same, remove_absent, standing_is, error_text, WsAct}
use Rattle.std.specs.declared.cmp.Ordering.TheVariants.{Less, Equal, Greater}
use Rattle.machine.specs.Named.{keeps_named, has_named_run}
use Rattle.machine.specs.Needs.{Needed, needs_of_query}
use Rattle.machine.specs.declared.acts.Answer.{Answer as ActAnswer}
use Rattle.machine.specs.declared.acts.Change.{Change}
use Rattle.serve.specs.declared.requests.WsChange.{WsChange}
use Rattle.machine.specs.declared.acts.Unit.{Unit as AnyUnit}
use Rattle.wire.specs.Replies.{Answer as Reply, refused_answer}
use Rattle.serve.specs.Steps.{Answered, answer_to, seen_at, ruled_in, refusing}
use Rattle.serve.specs.Inner.Prepared.{Foresees, ChangesTo}
use Rattle.serve.specs.Checks.{named_by, has_queried, is_there}
use Rattle.serve.specs.Inner.Units.{holder_in, if_named, is_present}
use Rattle.basis.specs.declared.acts.Query.{Query as AnyQuery}
use Rattle.machine.specs.declared.acts.Act.TheVariants.{Query as QueryAct}

-- a workspace put where it stands already
inserted_same : (m : FinMap name_cmp Workspace) (ws : List ℕ) (w : Workspace) → get m ws ≡ Some w → insert m ws w ≡ m
inserted_same m ws w e = same_map names_total names_same (insert m ws w) m (λ q. get-insert names_total m ws w q ∙ tied q (name_cmp q ws) refl)
  where
    tied : (q : List ℕ) (o : Ordering) → name_cmp q ws ≡ o → cond (is_eq o) (Some w) (get m q) ≡ get m q
    tied q Less t = refl
    tied q Equal t = sym (ap (get m) (names_same q ws t) ∙ e)
    tied q Greater t = refl

with_same : (m : FinMap name_cmp Workspace) (ws : List ℕ) (w : Option Workspace) → get m ws ≡ w → with_workspace m ws w ≡ m
with_same m ws None e = remove_absent m ws e
with_same m ws (Some w) e = inserted_same m ws w e

-- nothing changes
pub placed_as_it_was : (o : Organization) (ws : List ℕ) (w : Option Workspace) → get o.workspaces ws ≡ w → placed o ws w ≡ o
placed_as_it_was o ws w e = ap (λ (m : FinMap name_cmp Workspace). record o { workspaces = m }) (with_same o.workspaces ws w e)

pub placed_same : (r : Option Organization) (ws : List ℕ) → option_map (λ (o : Organization). placed o ws (workspace_in r ws)) r ≡ r
placed_same None ws = refl
placed_same (Some o) ws = ap Some (placed_as_it_was o ws (get o.workspaces ws) refl)

-- the workspace that the rules see is the one that stands there
pub standing_at : (r : Option Organization) (ws : List ℕ) → standing (seen_at r ws) ≡ workspace_in r ws
standing_at None ws = refl
standing_at (Some o) ws = standing_is (nat_lt (count_of o) o.limit) (get o.workspaces ws)

-- a refusal by the rules is foreseen
pub refusal_foreseen : (r : Option Organization) (org ws : List ℕ) (unit : AnyUnit) (refusal : Refusal) (reply : Reply)
    → reply ≡ answer_to org ws (refused_by refusal (holder_in unit)) → holder_in unit ≡ holder_of (workspace_in r ws)
    → Foresees r org (ruled_in org ws r (meaning (Refused refusal) (workspace_in r ws))) reply None
refusal_foreseen r org ws unit refusal reply is seen = record {
  answer = is ∙ ap (λ (h : Holder). answer_to org ws (refused_by refusal h)) seen;
  changes = placed_same r ws;
}

-- an accepted act is foreseen, with its change
pub acceptance_foreseen : (r : Option Organization) (org ws : List ℕ) (answer : ActAnswer) (change : Option Change) (reply : Reply)
    → IsSome r → reply ≡ answer_to org ws (answered answer (workspace_in r ws)) → ((o : Organization) → r ≡ Some o → ChangeIsDue (seen_in o ws) (Accepted answer change))
    → Foresees r org (ruled_in org ws r (meaning (Accepted answer change) (workspace_in r ws))) reply (option_map (λ (c : Change). record { org = org; ws = ws; change = c }) change)
acceptance_foreseen r org ws answer None reply some is due = record { answer = is; changes = placed_same r ws }
acceptance_foreseen None org ws answer (Some c) reply some is due = absurd (let none : ⊥ = cc in none)
acceptance_foreseen (Some o) org ws answer (Some c) reply some is due = record { answer = is; changes = (o, refl, refl, due o refl, refl) }

holder_seen : (o : Organization) (act : Act) (w : Option Workspace) → holder_in (unit_by o act w) ≡ holder_of w
holder_seen o act None = refl
holder_seen o act (Some w) = refl

-- the rules, by way of a decision, over rows that a read of them left alone
pub rule_foreseen : (r seen : Option Organization) (org ws : List ℕ) (act : Act) (now : ℕ) (unit : AnyUnit) (decision : Decision) (reply : Reply) (change : Option WsChange)
    → seen ≡ r → ((o : Organization) → r ≡ Some o → IsLawfulOrganization o) → ((o : Organization) → r ≡ Some o → unit ≡ unit_of o ws act)
    → ((o : Organization) (name : List ℕ) → IsLawfulOrganization o → unit ≡ unit_of o name act → Meets (seen_in o name) act now decision)
    → (IsSome seen → holder_in unit ≡ holder_of (workspace_in seen ws) → ((o : Organization) → seen ≡ Some o → ChangeIsDue (seen_in o ws) decision)
    → Foresees seen org (ruled_in org ws seen (meaning decision (workspace_in seen ws))) reply change)
    → IsMoment now → IsSome r → IsInRange act → Foresees r org (ruled_in org ws r (rules act now (seen_at r ws))) reply change
rule_foreseen None seen org ws act now unit decision reply change same lawful units meets carried moment some range = absurd (let none : ⊥ = cc in none)
rule_foreseen (Some o) seen org ws act now unit decision reply change same lawful units meets carried moment some range =
    let m : Meets (seen_in o ws) act now decision = meets o ws (lawful o refl) (units o refl) in
    let stands : standing (seen_in o ws) ≡ get o.workspaces ws = standing_at (Some o) ws in
    let held : holder_in unit ≡ holder_of (get o.workspaces ws) = ap holder_in (units o refl) ∙ holder_seen o act (get o.workspaces ws) in
    let Carried : Option Organization → Type 0 = λ x. IsSome x → holder_in unit ≡ holder_of (workspace_in x ws) → ((q : Organization) → x ≡ Some q → ChangeIsDue (seen_in q ws) decision)
    → Foresees x org (ruled_in org ws x (meaning decision (workspace_in x ws))) reply change in
    let due : (q : Organization) → Some o ≡ Some q → ChangeIsDue (seen_in q ws) decision = λ q e. subst (λ (x : Organization). ChangeIsDue (seen_in x ws) decision) (same_Some o q e) (m.due range moment) in
    let f : Foresees (Some o) org (ruled_in org ws (Some o) (meaning decision (get o.workspaces ws))) reply change = subst Carried same carried refl held due in
    subst (λ (x : Ruling). Foresees (Some o) org (ruled_in org ws (Some o) x) reply change) (ap (meaning decision) (sym stands) ∙ m.model) f

-- a refusal is foreseen where it is what is wanted, with what else is given beside it
pub refused_then : {E X : Type 0} (refusal : Refusal) (r : Option Organization) (org : List ℕ) (want : Answered) (res : Result (Reply × Option WsChange × X) E)
    → (refusal ≢ Unavailable → want ≡ refusing refusal r) → OnOk res (refusal ≢ Unavailable)
    → IfOk res (λ p. (p.0 ≡ refused_answer refusal (error_text refusal) false) × (p.1 ≡ None))
    → IfOk res (λ p. Foresees r org want p.0 p.1)
refused_then refusal r org want (Ok p) is known h =
    subst (λ (w : Answered). Foresees r org w p.0 p.1) (sym (is known)) (record { answer = h.0; changes = subst (ChangesTo r org r) (sym h.1) refl })
refused_then refusal r org want (Err fault) is known h = tt

-- whether what is told of is there, by what was seen of it
seen_named : (version run : Option ℕ) (key : Option (List ℕ)) (w : Workspace)
    → (if_named version (has_version version w.versions) && if_named run (is_some (asked_run run key w.runs))) ≡ (keeps_named version w && has_named_run run w)
seen_named None None key w = refl
seen_named None (Some n) key w = refl
seen_named (Some m) None key w = refl
seen_named (Some m) (Some n) key w = refl

present_is : (o : Organization) (what : AnyQuery) (w : Option Workspace) → is_present what (unit_by o (QueryAct what) w) ≡ has_queried what w
present_is o what None = refl
present_is o what (Some w) = let need : Needed = needs_of_query what in seen_named need.version need.run need.key w

pub there_is : (r : Option Organization) (ws : List ℕ) (act : WsAct) (unit : AnyUnit) (b : Bool) → IsSome r → ((o : Organization) → r ≡ Some o → unit ≡ unit_of o ws (QueryAct (named_by act)))
    → b ≡ is_present (named_by act) unit → b ≡ is_there act (workspace_in r ws)
there_is None ws act unit b some seen h = absurd (let none : ⊥ = cc in none)
there_is (Some o) ws act unit b some seen h = h ∙ ap (is_present (named_by act)) (seen o refl) ∙ present_is o (named_by act) (get o.workspaces ws)

-- each workspace of lawful records is lawful
pub workspace_lawful : (rows : List ℕ → Option Organization) (org ws : List ℕ) → AreLawful rows → IsLawfulIfThere (workspace_in (rows org) ws)
workspace_lawful rows org ws lawful = by_record (rows org) refl
  where
    by_workspace : (o : Organization) → rows org ≡ Some o → (w : Option Workspace) → get o.workspaces ws ≡ w → IsLawfulIfThere w
    by_workspace o e None t = tt
    by_workspace o e (Some w) t = ((lawful org o e).workspaces ws w t).lawful

    by_record : (r : Option Organization) → rows org ≡ r → IsLawfulIfThere (workspace_in r ws)
    by_record None e = tt
    by_record (Some o) e = by_workspace o e (get o.workspaces ws) refl
