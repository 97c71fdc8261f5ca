-- Contracts between functions: one step taken, and a run of steps over the records of all organizations.
use Rattle.std.specs.Prelude.{◌≡◌, ℕ, List, Option, ⊤}
use Rattle.machine.specs.declared.records.Organization.{Organization}
use Rattle.serve.specs.declared.steps.Step.{Step}
use Rattle.serve.specs.declared.steps.Admin.{Admin}
use Rattle.serve.specs.declared.steps.Admin.TheVariants.{OrgAdd, OrgLimit, OrgRemove, OrgList, TokenAdd, TokenList, TokenRevoke}
use Rattle.serve.specs.Asks.{Ask, Owner, commands, IsTimely}
use Rattle.machine.specs.declared.keeps.AdminAnswer.{AdminAnswer}
use Rattle.serve.specs.declared.commands.CommandReport.{CommandReport}
use Rattle.serve.specs.Service.{IsAsked, AreAsked, Carries, said_to, IsSaidText, IsListed, IsAdminAnswer, reported_text, reported_refusal}
use Rattle.serve.specs.Runs.{IsOwnRecord, AreOwnReplies, ListsAreReported}
use Rattle.std.specs.List.{AllByRecursion}

-- one step taken: what it asks is carried out, and this is the text of what is said
pub record IsTaken (s : Step) (text : List ℕ) (old new : List ℕ → Option Organization) : Type 0 where
  pub ask : Ask
  pub is : IsAsked s ask
  pub timely : IsTimely ask
  pub carries : Carries ask old new
  pub text_is : IsSaidText (said_to old ask) text
  pub listed : IsListed old ask text

pub record RunsTo (steps : List Step) (old new : List ℕ → Option Organization) (replies : List (List ℕ)) : Type 0 where
  pub asked : List Ask
  pub are : AreAsked steps asked
  pub timely : AllByRecursion IsTimely asked
  pub rows : (org : List ℕ) → IsOwnRecord asked old new org
  pub texts : (owner : Owner) → AreOwnReplies asked old replies owner
  pub listed : ListsAreReported old asked replies

-- a command on one organization, which may change it
abbrev pub IsOnOne : Admin → Type 0
IsOnOne (OrgAdd org limit) = ⊤
IsOnOne (OrgLimit org limit) = ⊤
IsOnOne (OrgRemove org is_forced) = ⊤
IsOnOne OrgList = ⊥
IsOnOne (TokenAdd org name role secret bounds) = ⊤
IsOnOne (TokenList org) = ⊥
IsOnOne (TokenRevoke org name) = ⊤

-- an answer as text, and whether it is a refusal
pub record IsReported (answer : AdminAnswer) (reported : CommandReport) : Type 0 where
  pub refusal : reported.refusal ≡ reported_refusal answer
  pub text : reported.text ≡ reported_text answer

-- a command is carried out, at any time, and this is its answer as text
pub record IsCarriedOut (command : Admin) (old new : List ℕ → Option Organization) (reported : CommandReport) : Type 0 where
  pub answer : AdminAnswer
  pub answered : IsAdminAnswer old command answer
  pub reports : IsReported answer reported
  pub carries : (at : ℕ) → Carries (commands at command) old new
