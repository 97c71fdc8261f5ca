-- What isn't there is refused by the rules as it is by the checks.
use Rattle.serve.proofs.Outside.{◌≡◌, ℕ, Bool, true, false, List, Option, Some, None, Result, Ok, Err, IsSome, refl, sym, ap, subst, ◌∙◌, get, and_then, Refusal, NotFound, effect, refused, Act, Organization, AskedAct, ListWorkspaces, OfWorkspace, WsAct}
use Rattle.serve.specs.Checks.{require, is_found, found, digest_checked, act_of, task_of}
use Rattle.serve.specs.Steps.{answer_to, ruled_in, refusing, carried}
use Rattle.serve.specs.Inner.Judging.{judged_task, missed}
use Rattle.serve.specs.Inner.Prepared.{IsTaskInRange}
use Rattle.serve.specs.declared.checks.Task.{Task}
use Rattle.serve.specs.declared.checks.Task.TheVariants.{ListAll, Carry}
use Rattle.serve.proofs.ActLemmas.{act_is}
use Rattle.serve.proofs.CheckLemmas.{after_ok, after_err, passed}
use Rattle.serve.proofs.RecordLemmas.{placed_as_it_was}

-- the rules refuse what isn't there, and leave it so
pub missing_is_refused : (org ws : List ℕ) (o : Organization) (what : WsAct) (id : Option (List ℕ)) (body : List ℕ) (act : Act) (now : ℕ) → act_of what id body ≡ Ok act → is_found (Some o) ws what ≡ false
    → carried org now (Some o) (Ok (Carry ws act)) ≡ refusing NotFound (Some o)
missing_is_refused org ws o what id body act now e gone =
    ap (ruled_in org ws (Some o)) ((act_is what id body act e).misses now _ (get o.workspaces ws) gone)
    ∙ ap (λ (p : Organization). effect (answer_to org ws (refused NotFound)) (Some p)) (placed_as_it_was o ws (get o.workspaces ws) refl)

-- what follows the checks of the caller: what is asked of is there, then the digest, then the document
abbrev pub after_callers : Option Organization → List ℕ → AskedAct → Option (List ℕ) → Option (List ℕ) → List ℕ → Result Task Refusal
after_callers r prefix asked content_md5 id body = and_then (found r asked) (λ _. judged_task prefix asked content_md5 id body)

pub task_made : (ws : List ℕ) (x : Result Act Refusal) (task : Task) → and_then x (λ act. Ok (Carry ws act)) ≡ Ok task → (act : Act) × (x ≡ Ok act) × (Carry ws act ≡ task)
task_made ws (Ok act) task e = (act, refl, let same : Carry ws act ≡ task = cc in same)
task_made ws (Err refusal) task e = absurd (let none : ⊥ = cc in none)

task_in_range : (prefix : List ℕ) (asked : AskedAct) (id : Option (List ℕ)) (body : List ℕ) (task : Task) → task_of prefix asked id body ≡ Ok task → IsTaskInRange task
task_in_range prefix (ListWorkspaces after) id body task e = let same : ListAll after prefix ≡ task = cc in subst IsTaskInRange same tt
task_in_range prefix (OfWorkspace ws what) id body task e =
    let t : (act : Act) × (act_of what id body ≡ Ok act) × (Carry ws act ≡ task) = task_made ws (act_of what id body) task e in
    subst IsTaskInRange t.2 (act_is what id body t.0 t.1).range

-- the documents of what was judged good are in their ranges
pub judged_in_range : (prefix : List ℕ) (asked : AskedAct) (content_md5 id : Option (List ℕ)) (body : List ℕ) (task : Task) → judged_task prefix asked content_md5 id body ≡ Ok task → IsTaskInRange task
judged_in_range prefix asked content_md5 id body task e = task_in_range prefix asked id body task (passed (digest_checked content_md5 body) (λ _. task_of prefix asked id body) task e).2

-- what was judged good comes to what passed the checks does, where what isn't there comes to what a refusal does
pub judged_as : {A : Type 0} (f : Result Task Refusal → A) (r : Option Organization) (prefix : List ℕ) (asked : AskedAct) (content_md5 id : Option (List ℕ)) (body : List ℕ) (task : Task)
    → ((ws : List ℕ) (what : WsAct) (act : Act) → act_of what id body ≡ Ok act → is_found r ws what ≡ false → f (Ok (Carry ws act)) ≡ f (Err NotFound))
    → judged_task prefix asked content_md5 id body ≡ Ok task → f (Ok task) ≡ f (after_callers r prefix asked content_md5 id body)
judged_as f r prefix (ListWorkspaces after) content_md5 id body task missing e = sym (ap f e)
judged_as f r prefix (OfWorkspace ws what) content_md5 id body task missing e = by_found (is_found r ws what) refl
  where
    made : Result Task Refusal
    made = judged_task prefix (OfWorkspace ws what) content_md5 id body

    by_found : (b : Bool) → is_found r ws what ≡ b → f (Ok task) ≡ f (after_callers r prefix (OfWorkspace ws what) content_md5 id body)
    by_found true is = sym (ap f (after_ok (found r (OfWorkspace ws what)) (λ _. made) tt (Ok task) (ap (require NotFound) is) e))
    by_found false is =
        let fit = passed (digest_checked content_md5 body) (λ _. task_of prefix (OfWorkspace ws what) id body) task e in
        let t : (act : Act) × (act_of what id body ≡ Ok act) × (Carry ws act ≡ task) = task_made ws (act_of what id body) task fit.2 in
        sym (ap (λ (x : Task). f (Ok x)) t.2)
        ∙ missing ws what t.0 t.1 is
        ∙ sym (ap f (after_err (found r (OfWorkspace ws what)) (λ _. made) NotFound (ap (require NotFound) is)))

-- it is answered so
pub judged_stands : (org : List ℕ) (r : Option Organization) (prefix : List ℕ) (asked : AskedAct) (content_md5 id : Option (List ℕ)) (body : List ℕ) (task : Task) → IsSome r → judged_task prefix asked content_md5 id body ≡ Ok task
    → (now : ℕ) → carried org now r (Ok task) ≡ carried org now r (after_callers r prefix asked content_md5 id body)
judged_stands org None prefix asked content_md5 id body task some e now = absurd (let none : ⊥ = cc in none)
judged_stands org (Some o) prefix asked content_md5 id body task some e now =
    judged_as (carried org now (Some o)) (Some o) prefix asked content_md5 id body task (λ ws what act spelt gone. missing_is_refused org ws o what id body act now spelt gone) e

-- what was judged bad is refused by the checks, once what isn't there is told first
pub missed_stands : (r : Option Organization) (prefix : List ℕ) (asked : AskedAct) (content_md5 id : Option (List ℕ)) (body : List ℕ) (refusal : Refusal) → judged_task prefix asked content_md5 id body ≡ Err refusal
    → after_callers r prefix asked content_md5 id body ≡ Err (missed r asked refusal)
missed_stands r prefix (ListWorkspaces after) content_md5 id body refusal e = e
missed_stands r prefix (OfWorkspace ws what) content_md5 id body refusal e = by_found (is_found r ws what)
  where
    by_found : (b : Bool) → and_then (require NotFound b) (λ _. judged_task prefix (OfWorkspace ws what) content_md5 id body) ≡ Err (Rattle.std.proofs.Common.cond b refusal NotFound)
    by_found true = e
    by_found false = refl
