-- A run of steps over the records of all organizations: of each organization it is its own machine's run.
use Rattle.std.specs.Prelude.{◌≡◌, ℕ, List, [], ◌∷◌, Option, ⊤}
use Rattle.machine.specs.declared.records.Organization.{Organization}
use Rattle.serve.specs.Asks.{Ask, Owner, organization}
use Rattle.serve.specs.Steps.{own_said, own_record}
use Rattle.serve.specs.Service.{AreTexts, own_asks, replies_at, record_for, records_after, IsListed}

-- the record afterwards is what the organization's own machine leaves, run over its own steps
abbrev pub IsOwnRecord : List Ask → (List ℕ → Option Organization) → (List ℕ → Option Organization) → List ℕ → Type 0
IsOwnRecord asked before after org = after org ≡ own_record (before org) (own_asks (organization org) asked)

-- the replies at the positions of one's own steps are the texts of what one's own machine says
abbrev pub AreOwnReplies : List Ask → (List ℕ → Option Organization) → List (List ℕ) → Owner → Type 0
AreOwnReplies asked before replies owner = AreTexts (own_said (record_for before owner) (own_asks owner asked)) (replies_at owner asked replies)

-- for an organization, the run is that of its own machine, which gets only its own steps: its replies, and its record afterwards
pub record IsOwnMachine (org : List ℕ) (asked : List Ask) (before after : List ℕ → Option Organization) (replies : List (List ℕ)) : Type 0 where
  pub own_replies : AreOwnReplies asked before replies (organization org)
  pub own_record : IsOwnRecord asked before after org

-- each list of all organizations among the replies is that of the records at its step
abbrev pub ListsAreReported : (List ℕ → Option Organization) → List Ask → List (List ℕ) → Type 0
ListsAreReported records [] replies = ⊤
ListsAreReported records (a ∷ asked) [] = ⊥
ListsAreReported records (a ∷ asked) (t ∷ ts) = IsListed records a t × ListsAreReported (records_after a records) asked ts
