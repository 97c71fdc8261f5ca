-- What an operator's command changes is what its row tells.
use Rattle.serve.proofs.Outside.{◌≡◌, ◌≢◌, ◌⊎◌, inl, inr, ℕ, Bool, true, false, List, Option, Some, None, IsSome, IfSome, refl, sym, ap, subst, ◌∙◌, bytes_eq, bytes_eq-Decides, same_Some, LogRow, KeepsVersions, Starts, workspace_in, AdminAnswer, Done, Organization, Workspace}
use Rattle.serve.specs.Asks.{commands, organization}
use Rattle.serve.specs.Doors.{reported_answer}
use Rattle.serve.specs.Exchanges.{OfNamed, Makes, ComesAsLogged, ChangesAsLogged}
use Rattle.serve.specs.Logs.{org_commanded, command_row}
use Rattle.serve.specs.Service.{is_own, after_ask, Carries, IsAdminAnswer, reported_refusal}
use Rattle.serve.specs.Steps.{command_step}
use Rattle.serve.specs.declared.steps.Admin.{Admin}
use Rattle.serve.specs.declared.steps.Admin.TheVariants.{OrgAdd, OrgLimit, OrgRemove, OrgList, TokenAdd, TokenList, TokenRevoke}
use Rattle.serve.proofs.LawLemmas.{command_leaves}
use Rattle.serve.proofs.RemovalLemmas.{Comes, command_comes}
use Rattle.serve.proofs.LoggedChanges.{keeps_same, none_starts}

-- a row that tells of no version and of no run
pub record MakesNothing (row : LogRow) : Type 0 where
  pub version : row.version ≡ None
  pub run : row.run ≡ None

-- a row that tells of no version and of no run, where workspaces stay or go
abbrev StayOrGo : Option Organization → Option Organization → Type 0
StayOrGo r after = (ws : List ℕ) → (workspace_in after ws ≡ workspace_in r ws) ⊎ (workspace_in after ws ≡ None)

goes_as_logged : (row : LogRow) (r after : Option Organization) → MakesNothing row → StayOrGo r after → ComesAsLogged row r after
goes_as_logged row r after nothing stay = record {
  version = subst (λ (o : Option ℕ). IfSome o (λ n. OfNamed row.workspace r after (Makes n))) (sym nothing.version) tt;
  run = subst (λ (o : Option ℕ). IfSome o (λ n. OfNamed row.workspace r after (Starts n))) (sym nothing.run) tt;
  versions = λ ws w v stood stands. inl (kept ws w v stood stands (stay ws));
  runs = λ ws w v n stood stands starts. absurd (started ws w v n stood stands starts (stay ws));
  anew = λ ws v gone stands. absurd (come ws v gone stands (stay ws));
}
  where
    kept : (ws : List ℕ) (w v : Workspace) → workspace_in r ws ≡ Some w → workspace_in after ws ≡ Some v → (workspace_in after ws ≡ workspace_in r ws) ⊎ (workspace_in after ws ≡ None) → KeepsVersions w v
    kept ws w v stood stands (inl same) = keeps_same w v (same_Some w v (sym stood ∙ sym same ∙ stands))
    kept ws w v stood stands (inr none) = absurd (let no : ⊥ = cc (sym none ∙ stands) in no)

    started : (ws : List ℕ) (w v : Workspace) (n : ℕ) → workspace_in r ws ≡ Some w → workspace_in after ws ≡ Some v → Starts n w v → (workspace_in after ws ≡ workspace_in r ws) ⊎ (workspace_in after ws ≡ None) → ⊥
    started ws w v n stood stands starts (inl same) = none_starts w v n (same_Some w v (sym stood ∙ sym same ∙ stands)) starts
    started ws w v n stood stands starts (inr none) = let no : ⊥ = cc (sym none ∙ stands) in no

    come : (ws : List ℕ) (v : Workspace) → workspace_in r ws ≡ None → workspace_in after ws ≡ Some v → (workspace_in after ws ≡ workspace_in r ws) ⊎ (workspace_in after ws ≡ None) → ⊥
    come ws v gone stands (inl same) = let no : ⊥ = cc (sym gone ∙ sym same ∙ stands) in no
    come ws v gone stands (inr none) = let no : ⊥ = cc (sym none ∙ stands) in no

command_stays : (r : Option Organization) (command : Admin) → StayOrGo r (command_step r command).left
command_stays r command ws = by_case (command_comes r command)
  where
    by_case : Comes r command → (workspace_in (command_step r command).left ws ≡ workspace_in r ws) ⊎ (workspace_in (command_step r command).left ws ≡ None)
    by_case (inl removed) = inr (ap (λ (o : Option Organization). workspace_in o ws) removed.gone)
    by_case (inr leaves) = inl (leaves.keeps ws)

moved : (at : ℕ) (command : Admin) (b : Bool) (r : Option Organization) → StayOrGo r (after_ask b (commands at command) r)
moved at command true r = command_stays r command
moved at command false r = λ ws. inl refl

apart_name : (org own : List ℕ) (b : Bool) → bytes_eq org own ≡ b → Some own ≢ Some org → bytes_eq org own ≡ false
apart_name org own true e apart = absurd (apart (ap Some (sym ((bytes_eq-Decides org own).0 e))))
apart_name org own false e apart = e

not_own : (at : ℕ) (command : Admin) (org : List ℕ) → org_commanded command ≢ Some org → is_own (organization org) (commands at command) ≡ false
not_own at (OrgAdd own limit) org apart = apart_name org own (bytes_eq org own) refl apart
not_own at (OrgLimit own limit) org apart = apart_name org own (bytes_eq org own) refl apart
not_own at (OrgRemove own is_forced) org apart = apart_name org own (bytes_eq org own) refl apart
not_own at OrgList org apart = refl
not_own at (TokenAdd own name role secret bounds) org apart = apart_name org own (bytes_eq org own) refl apart
not_own at (TokenList own) org apart = refl
not_own at (TokenRevoke own name) org apart = apart_name org own (bytes_eq org own) refl apart

-- a command that is refused changes nothing
not_done : (answer said : AdminAnswer) → answer ≡ said → IsSome (reported_refusal answer) → said ≢ Done
not_done answer said is some done = let none : IsSome (reported_refusal Done) = subst IsSome (ap reported_refusal (is ∙ done)) some in let no : ⊥ = cc in no

own_leaves : (at : ℕ) (command : Admin) (old : List ℕ → Option Organization) (own org : List ℕ) (b : Bool) → bytes_eq org own ≡ b → (command_step (old own) command).answer ≢ Done
    → after_ask b (commands at command) (old org) ≡ old org
own_leaves at command old own org true e apart =
    let same : org ≡ own = (bytes_eq-Decides org own).0 e in
    subst (λ (name : List ℕ). (command_step (old name) command).left ≡ old name) (sym same) (command_leaves (old own) command apart)
own_leaves at command old own org false e apart = refl

refused_leaves : (at : ℕ) (command : Admin) (answer : AdminAnswer) (old : List ℕ → Option Organization) → IsAdminAnswer old command answer → IsSome (reported_refusal answer)
    → (org : List ℕ) → after_ask (is_own (organization org) (commands at command)) (commands at command) (old org) ≡ old org
refused_leaves at (OrgAdd own limit) answer old is some org = own_leaves at (OrgAdd own limit) old own org (bytes_eq org own) refl (not_done answer _ is some)
refused_leaves at (OrgLimit own limit) answer old is some org = own_leaves at (OrgLimit own limit) old own org (bytes_eq org own) refl (not_done answer _ is some)
refused_leaves at (OrgRemove own is_forced) answer old is some org = own_leaves at (OrgRemove own is_forced) old own org (bytes_eq org own) refl (not_done answer _ is some)
refused_leaves at OrgList answer old is some org = refl
refused_leaves at (TokenAdd own name role secret bounds) answer old is some org = own_leaves at (TokenAdd own name role secret bounds) old own org (bytes_eq org own) refl (not_done answer _ is some)
refused_leaves at (TokenList own) answer old is some org = refl
refused_leaves at (TokenRevoke own name) answer old is some org = own_leaves at (TokenRevoke own name) old own org (bytes_eq org own) refl (not_done answer _ is some)

-- a command changes what its row tells
pub command_reported : (now : ℕ) (by : Option (List ℕ)) (command : Admin) (answer : AdminAnswer) (old new : List ℕ → Option Organization) → IsAdminAnswer old command answer → Carries (commands now command) old new
    → ChangesAsLogged (command_row now by command (reported_answer answer)) old new
command_reported now by command answer old new answered carries = record {
  others = λ org apart. carries org ∙ ap (λ (b : Bool). after_ask b (commands now command) (old org)) (not_own now command org apart);
  refused = λ some org. carries org ∙ refused_leaves now command answer old answered some org;
  own = λ org named. goes_as_logged (command_row now by command (reported_answer answer)) (old org) (new org) (record { version = refl; run = refl })
      (subst (StayOrGo (old org)) (sym (carries org)) (moved now command (is_own (organization org) (commands now command)) (old org)));
  nobody = λ none. (refl, refl);
}
