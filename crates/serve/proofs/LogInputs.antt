-- What decides an answer, and a row of the log: who asks by a token, and neither its name nor its secret.
use Rattle.serve.proofs.Outside.{◌≡◌, ℕ, cond, List, [], ◌∷◌, map, Option, Some, Result, Ok, Err, refl, sym, ap, ◌∙◌, FinMap, entries, bytes_eq, sha256, or_refused, and_then, Refusal, BadToken, NotFound, Caller, name_cmp, token_with, TokenRow, Token, Organization, role_refused, is_admitted, allowed_by, Asked, AskedAct, ListWorkspaces, OfWorkspace}
use Rattle.serve.specs.Checks.{require, while_it_counts, known_caller, in_reach, found, checked}
use Rattle.serve.specs.Inner.Judging.{judged_task}
use Rattle.serve.specs.Inner.Prepared.{found_valid_token, caller_known}
use Rattle.serve.specs.Laws.{NamesDecideNothing, SecretsAreNotLogged}
use Rattle.serve.specs.Logs.{valid_token_name, token_named, id_spelt, task_read, traced, row_of_request}
use Rattle.serve.specs.Steps.{carried, request_step}
use Rattle.serve.specs.declared.checks.Task.{Task}
use Rattle.serve.specs.declared.checks.Task.TheVariants.{ListAll, Carry}
use Rattle.serve.proofs.CheckLemmas.{after_names, after_prefix}
use Rattle.serve.proofs.LogLemmas.{caller_by, callers_are}

-- what follows a caller, however its token is found
by_caller : {A : Type 0} (x y : Result Token Refusal) (f : Caller → Result A Refusal) → and_then x (λ token. Ok token.caller) ≡ and_then y (λ token. Ok token.caller)
    → and_then x (λ token. f token.caller) ≡ and_then y (λ token. f token.caller)
by_caller (Ok t) (Ok u) f e = let same : t.caller ≡ u.caller = cc in ap f same
by_caller (Ok t) (Err refusal) f e = absurd (let none : ⊥ = cc in none)
by_caller (Err refusal) (Ok u) f e = absurd (let none : ⊥ = cc in none)
by_caller (Err a) (Err b) f e = let same : a ≡ b = cc in ap Err same

-- tokens in their order, whatever they are called
with_values : (digest : List ℕ) (es fs : List (List ℕ × Token)) → map (λ (e : List ℕ × Token). e.1) es ≡ map (λ (e : List ℕ × Token). e.1) fs → token_with digest es ≡ token_with digest fs
with_values digest [] [] same = refl
with_values digest [] (f ∷ fs) same = absurd (let none : ⊥ = cc in none)
with_values digest (e ∷ es) [] same = absurd (let none : ⊥ = cc in none)
with_values digest (e ∷ es) (f ∷ fs) same =
    let first : e.1 ≡ f.1 = cc in
    let rest : map (λ (e : List ℕ × Token). e.1) es ≡ map (λ (e : List ℕ × Token). e.1) fs = cc in
    ap (λ (t : Token). cond (bytes_eq t.digest digest) (Some t) (token_with digest es)) first
    ∙ ap (cond (bytes_eq f.1.digest digest) (Some f.1)) (with_values digest es fs rest)

-- what is found doesn't rest on tokens
found_same : (o : Organization) (tokens : FinMap name_cmp Token) (act : AskedAct) → found (Some (record o { tokens = tokens })) act ≡ found (Some o) act
found_same o tokens (ListWorkspaces after) = refl
found_same o tokens (OfWorkspace ws what) = refl

answer_same : (org : List ℕ) (now : ℕ) (o : Organization) (tokens : FinMap name_cmp Token) (x : Result Task Refusal) → (carried org now (Some (record o { tokens = tokens })) x).answer ≡ (carried org now (Some o) x).answer
answer_same org now o tokens (Err refusal) = refl
answer_same org now o tokens (Ok (ListAll after prefix)) = refl
answer_same org now o tokens (Ok (Carry ws act)) = refl

pub names_decide_nothing : NamesDecideNothing
names_decide_nothing o tokens now asked content_md5 body same =
    answer_same asked.caller now o tokens (checked (Some (record o { tokens = tokens })) now asked content_md5 body)
    ∙ ap (λ (x : Result Task Refusal). (carried asked.caller now (Some o) x).answer)
    (ap (λ (u : Result (Unit {0}) Refusal). chain u (token_with (sha256 asked.secret) (entries tokens))) (found_same o tokens asked.act)
    ∙ ap (chain (found (Some o) asked.act)) (with_values (sha256 asked.secret) (entries tokens) (entries o.tokens) same))
  where
    chain : Result (Unit {0}) Refusal → Option Token → Result Task Refusal
    chain u t =
        and_then (or_refused BadToken (while_it_counts now t)) (λ token.
        and_then (allowed_by (role_refused token.caller.role asked.act)) (λ _.
        and_then (require NotFound (is_admitted token.caller.prefix asked.act)) (λ _.
        and_then (in_reach asked) (λ _.
        and_then u (λ _. after_names token.caller.prefix asked content_md5 body)))))

pub secrets_are_not_logged : SecretsAreNotLogged
secrets_are_not_logged r at asked secret content_md5 body same =
    ap (λ (x : Result Task Refusal). row_of_request at asked (carried asked.caller at r x).answer (token_named r at other) (id_spelt (task_read r at other content_md5 body)) (traced at r x)) checks
    ∙ (ap (λ (x : Result Task Refusal). row_of_request at asked (request_step r at asked content_md5 body).answer (token_named r at other) (id_spelt x) (traced at r (checked r at asked content_md5 body))) reads
    ∙ ap (λ (x : Option TokenRow). row_of_request at asked (request_step r at asked content_md5 body).answer (valid_token_name at x) (id_spelt (task_read r at asked content_md5 body)) (traced at r (checked r at asked content_md5 body))) same)
  where
    other : Asked
    other = record asked { secret = secret }

    calls : caller_known r at other ≡ caller_known r at asked
    calls = sym (callers_are r at other) ∙ (ap (λ (x : Option TokenRow). caller_by (found_valid_token at x)) same ∙ callers_are r at asked)

    checks : checked r at other content_md5 body ≡ checked r at asked content_md5 body
    checks = by_caller (known_caller r at other) (known_caller r at asked) (λ caller.
        and_then (allowed_by (role_refused caller.role asked.act)) (λ _.
        and_then (require NotFound (is_admitted caller.prefix asked.act)) (λ _. after_prefix r caller.prefix asked content_md5 body))) calls

    reads : task_read r at other content_md5 body ≡ task_read r at asked content_md5 body
    reads = by_caller (known_caller r at other) (known_caller r at asked) (λ caller.
        and_then (allowed_by (role_refused caller.role asked.act)) (λ _.
        and_then (require NotFound (is_admitted caller.prefix asked.act)) (λ _.
        and_then (in_reach asked) (λ _. judged_task caller.prefix asked.act content_md5 asked.lock_id body)))) calls
