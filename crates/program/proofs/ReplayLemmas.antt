-- The replies over an empty store.
use Rattle.std.proofs.Common.{◌≡◌, ℕ, List, length, Option, None, Result, Ok, Err, Vec, Global, IfOk, subst}
use Rattle.machine.specs.declared.records.Organization.{Organization}
use Rattle.serve.specs.declared.steps.Step.{Step}
use Rattle.serve.specs.Asks.{Ask, Owner, organization, unattributed, operator}
use Rattle.serve.specs.Steps.{own_said}
use Rattle.serve.specs.Service.{AreAsked, AreTexts, own_asks, replies_at}
use Rattle.serve.specs.Runs.{IsOwnMachine, AreOwnReplies, ListsAreReported}
use Rattle.program.specs.Replies.{no_records, AreReplies}

own_replies : (rows after : List ℕ → Option Organization) (asked : List Ask) (replies : List (List ℕ)) → ((org : List ℕ) → rows org ≡ None)
    → ((org : List ℕ) → IsOwnMachine org asked rows after replies) → AreOwnReplies asked rows replies unattributed → AreOwnReplies asked rows replies operator
    → (owner : Owner) → AreOwnReplies asked no_records replies owner
own_replies rows after asked replies none some own_said_to lists unattributed = own_said_to
own_replies rows after asked replies none some own_said_to lists operator = lists
own_replies rows after asked replies none some own_said_to lists (organization org) =
    subst (λ (r : Option Organization). AreTexts (own_said r (own_asks (organization org) asked)) (replies_at (organization org) asked replies)) (none org) (some org).own_replies

pub replies_of_none : {E : Type 0} (steps : List Step) (rows after : List ℕ → Option Organization) (res : Result (Vec (List ℕ) Global) E) → ((org : List ℕ) → rows org ≡ None)
    → IfOk res (λ r. length r.items ≡ length steps)
    → IfOk res (λ r. (asked : List Ask) → AreAsked steps asked → (org : List ℕ) → IsOwnMachine org asked rows after r.items)
    → IfOk res (λ r. (asked : List Ask) → AreAsked steps asked → AreOwnReplies asked rows r.items unattributed)
    → IfOk res (λ r. (asked : List Ask) → AreAsked steps asked → AreOwnReplies asked rows r.items operator)
    → IfOk res (λ r. (asked : List Ask) → AreAsked steps asked → ListsAreReported rows asked r.items)
    → IfOk res (λ r. AreReplies steps r.items)
replies_of_none steps rows after (Ok r) none one_each some own_said_to lists reported = record {
  one_each = one_each;
  own = λ asked are. own_replies rows after asked r.items none (some asked are) (own_said_to asked are) (lists asked are);
  lists = λ asked are. subst (λ (records : List ℕ → Option Organization). ListsAreReported records asked r.items) (λ i org. none org i) (reported asked are);
}
replies_of_none steps rows after (Err e) none one_each some own_said_to lists reported = tt
