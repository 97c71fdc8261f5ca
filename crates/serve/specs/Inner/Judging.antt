-- Contracts between functions: what is judged_task before anything is looked up, and what is looked up where it is refused.
use Rattle.std.specs.Prelude.{◌≡◌, ◌≢◌, ℕ, cond, List, Option, Result, Ok, Err}
use Rattle.basis.specs.Checks.{and_then}
use Rattle.basis.specs.declared.refusals.Refusal.{Refusal}
use Rattle.basis.specs.declared.refusals.Refusal.TheVariants.{NotFound, Unavailable}
use Rattle.machine.specs.declared.records.Organization.{Organization}
use Rattle.route.specs.declared.routes.Asked.{Asked}
use Rattle.route.specs.declared.routes.AskedAct.{AskedAct}
use Rattle.route.specs.declared.routes.AskedAct.TheVariants.{ListWorkspaces, OfWorkspace}
use Rattle.serve.specs.Checks.{is_found, digest_checked, task_of, checked}
use Rattle.serve.specs.Steps.{carried}
use Rattle.serve.specs.declared.checks.Task.{Task}

-- the digest and the document
abbrev pub judged_task : List ℕ → AskedAct → Option (List ℕ) → Option (List ℕ) → List ℕ → Result Task Refusal
judged_task prefix asked content_md5 id body = and_then (digest_checked content_md5 body) (λ _. task_of prefix asked id body)

-- what isn't there is told before a refused digest or document
abbrev pub missed : Option Organization → AskedAct → Refusal → Refusal
missed r (ListWorkspaces after) refusal = refusal
missed r (OfWorkspace ws act) refusal = cond (is_found r ws act) refusal NotFound

-- what is to be done is answered as what passed the checks at a moment; what is refused is refused by them
abbrev pub Stands : Result Task Refusal → Option Organization → ℕ → Asked → Option (List ℕ) → List ℕ → Type 0
Stands (Ok task) r now asked content_md5 body = carried asked.caller now r (Ok task) ≡ carried asked.caller now r (checked r now asked content_md5 body)
Stands (Err refusal) r now asked content_md5 body = refusal ≢ Unavailable → checked r now asked content_md5 body ≡ Err refusal
