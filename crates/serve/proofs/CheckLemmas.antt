-- The checks of a request in their order, and what an order that passed them is.
use Rattle.serve.proofs.Outside.{◌≡◌, ◌⊎◌, inl, inr, ℕ, ◌≤◌, ◌<◌, Bool, true, false, List, Option, Some, None, Result, Ok, Err, IsSome, refl, sym, ap, subst, ◌∙◌, arith, if◌then◌else◌, lt-ltb, ltb-true, or_refused, and_then, is_before, is_valid_at, Refusal, BadToken, NotFound, Caller, sha256, caller_of, Act, Token, Organization, role_refused, is_admitted, or_else_refused, caller_refused, allowed_by, Asked, AskedAct, ListWorkspaces, OfWorkspace, WsAct}
use Rattle.serve.specs.Checks.{task_of, require, while_it_counts, known_caller, may_do, admitted, in_reach, is_found, found, digest_checked, act_of, checked}
use Rattle.serve.specs.Inner.Prepared.{caller_known}
use Rattle.serve.specs.declared.checks.Task.{Task}
use Rattle.serve.specs.declared.checks.Task.TheVariants.{ListAll, Carry}

module _ {A B : Type 0} where
  pub after_ok : (x : Result A Refusal) (f : A → Result B Refusal) (a : A) (y : Result B Refusal) → x ≡ Ok a → f a ≡ y → and_then x f ≡ y
  after_ok x f a y e h = ap (λ (r : Result A Refusal). and_then r f) e ∙ h

  pub after_err : (x : Result A Refusal) (f : A → Result B Refusal) (refusal : Refusal) → x ≡ Err refusal → and_then x f ≡ Err refusal
  after_err x f refusal e = ap (λ (r : Result A Refusal). and_then r f) e

  -- what passed, passed at each check
  pub passed : (x : Result A Refusal) (f : A → Result B Refusal) (b : B) → and_then x f ≡ Ok b → (a : A) × (x ≡ Ok a) × (f a ≡ Ok b)
  passed (Ok a) f b e = (a, refl, e)
  passed (Err refusal) f b e = absurd (let none : ⊥ = cc in none)

-- what follows each check
abbrev pub after_names : List ℕ → Asked → Option (List ℕ) → List ℕ → Result Task Refusal
after_names prefix asked content_md5 body = and_then (digest_checked content_md5 body) (λ _. task_of prefix asked.act asked.lock_id body)

abbrev pub after_reach : Option Organization → List ℕ → Asked → Option (List ℕ) → List ℕ → Result Task Refusal
after_reach r prefix asked content_md5 body = and_then (found r asked.act) (λ _. after_names prefix asked content_md5 body)

abbrev pub after_prefix : Option Organization → List ℕ → Asked → Option (List ℕ) → List ℕ → Result Task Refusal
after_prefix r prefix asked content_md5 body = and_then (in_reach asked) (λ _. after_reach r prefix asked content_md5 body)

abbrev pub after_role : Option Organization → Token → Asked → Option (List ℕ) → List ℕ → Result Task Refusal
after_role r token asked content_md5 body = and_then (admitted token asked) (λ _. after_prefix r token.caller.prefix asked content_md5 body)

abbrev pub after_caller : Option Organization → Asked → Option (List ℕ) → List ℕ → Token → Result Task Refusal
after_caller r asked content_md5 body token = and_then (may_do token asked) (λ _. after_role r token asked content_md5 body)

-- the policy is the role, and then the prefix
pub policy_is : {A : Type 0} (refused : Option Refusal) (b : Bool) (x : Result A Refusal)
    → and_then (allowed_by refused) (λ _. and_then (require NotFound b) (λ _. x)) ≡ and_then (allowed_by (or_else_refused refused (if b then None else Some NotFound))) (λ _. x)
policy_is None true x = refl
policy_is None false x = refl
policy_is (Some refusal) b x = refl

pub token_of_caller : (x : Result Token Refusal) (caller : Caller) → and_then x (λ token. Ok token.caller) ≡ Ok caller → (token : Token) × (x ≡ Ok token) × (token.caller ≡ caller)
token_of_caller (Ok token) caller e = (token, refl, let same : token.caller ≡ caller = cc in same)
token_of_caller (Err refusal) caller e = absurd (let none : ⊥ = cc in none)

pub no_token : (x : Result Token Refusal) (refusal : Refusal) → and_then x (λ token. Ok token.caller) ≡ Err refusal → x ≡ Err refusal
no_token (Ok token) refusal e = absurd (let none : ⊥ = cc in none)
no_token (Err other) refusal e = let same : other ≡ refusal = cc in ap Err same

-- the checks of the caller and of the reach, and what follows them for the caller's prefix
abbrev after_known : Asked → (List ℕ → Result Task Refusal) → Token → Result Task Refusal
after_known asked rest token = and_then (may_do token asked) (λ _. and_then (admitted token asked) (λ _. and_then (in_reach asked) (λ _. rest token.caller.prefix)))

abbrev pub known_then : Option Organization → ℕ → Asked → (List ℕ → Result Task Refusal) → Result Task Refusal
known_then r now asked rest = and_then (known_caller r now asked) (after_known asked rest)

module _ (r : Option Organization) (now : ℕ) (asked : Asked) (rest : List ℕ → Result Task Refusal) where
  pub unknown_refused : (refusal : Refusal) → caller_known r now asked ≡ Err refusal → known_then r now asked rest ≡ Err refusal
  unknown_refused refusal e = after_err (known_caller r now asked) (after_known asked rest) refusal (no_token (known_caller r now asked) refusal e)

  -- by the whole policy
  by_policy : (caller : Caller) (x : Result Task Refusal) → caller_known r now asked ≡ Ok caller
      → and_then (allowed_by (caller_refused caller asked.act)) (λ _. and_then (in_reach asked) (λ _. rest caller.prefix)) ≡ x → known_then r now asked rest ≡ x
  by_policy caller x e h =
      let t : (token : Token) × (known_caller r now asked ≡ Ok token) × (token.caller ≡ caller) = token_of_caller (known_caller r now asked) caller e in
      after_ok (known_caller r now asked) (after_known asked rest) t.0 x t.1
      (policy_is (role_refused t.0.caller.role asked.act) (is_admitted t.0.caller.prefix asked.act) (and_then (in_reach asked) (λ _. rest t.0.caller.prefix))
      ∙ ap (λ (y : Caller). and_then (allowed_by (caller_refused y asked.act)) (λ _. and_then (in_reach asked) (λ _. rest y.prefix))) t.2
      ∙ h)

  pub policy_refuses : (caller : Caller) (refusal : Refusal) → caller_known r now asked ≡ Ok caller → allowed_by (caller_refused caller asked.act) ≡ Err refusal → known_then r now asked rest ≡ Err refusal
  policy_refuses caller refusal e h =
      by_policy caller (Err refusal) e (after_err (allowed_by (caller_refused caller asked.act)) (λ _. and_then (in_reach asked) (λ _. rest caller.prefix)) refusal h)

  past_policy : (caller : Caller) (x : Result Task Refusal) → caller_known r now asked ≡ Ok caller → allowed_by (caller_refused caller asked.act) ≡ Ok tt
      → and_then (in_reach asked) (λ _. rest caller.prefix) ≡ x → known_then r now asked rest ≡ x
  past_policy caller x e h more = by_policy caller x e (after_ok (allowed_by (caller_refused caller asked.act)) (λ _. and_then (in_reach asked) (λ _. rest caller.prefix)) tt x h more)

  pub out_of_reach : (caller : Caller) (refusal : Refusal) → caller_known r now asked ≡ Ok caller → allowed_by (caller_refused caller asked.act) ≡ Ok tt → in_reach asked ≡ Err refusal
      → known_then r now asked rest ≡ Err refusal
  out_of_reach caller refusal e h out = past_policy caller (Err refusal) e h (after_err (in_reach asked) (λ _. rest caller.prefix) refusal out)

  pub past_reach : (caller : Caller) (x : Result Task Refusal) → caller_known r now asked ≡ Ok caller → allowed_by (caller_refused caller asked.act) ≡ Ok tt → in_reach asked ≡ Ok tt
      → rest caller.prefix ≡ x → known_then r now asked rest ≡ x
  past_reach caller x e h reached more = past_policy caller x e h (after_ok (in_reach asked) (λ _. rest caller.prefix) tt x reached more)

-- who has a token that counts is there
caller_there : (r : Option Organization) (now : ℕ) (digest : List ℕ) (token : Token) → or_refused BadToken (while_it_counts now (caller_of r digest)) ≡ Ok token → IsSome r
caller_there None now digest token e = absurd (let none : ⊥ = cc in none)
caller_there (Some o) now digest token e = refl

pub role_there : (r : Option Organization) (now : ℕ) (asked : Asked) (caller : Caller) → caller_known r now asked ≡ Ok caller → IsSome r
role_there r now asked caller e =
    let t : (token : Token) × (known_caller r now asked ≡ Ok token) × (token.caller ≡ caller) = token_of_caller (known_caller r now asked) caller e in
    caller_there r now (sha256 asked.secret) t.0 t.1

-- a token that counts later counted before
counted_before : (now later : ℕ) (until : Option ℕ) → now ≤ later → is_before later until ≡ true → is_before now until ≡ true
counted_before now later None most e = refl
counted_before now later (Some until) most e = lt-ltb now until (let less : later < until = ltb-true later until e in omega arith)

-- at a moment that isn't before, the checks come to the same, or the token has ended
pub checked_later : (r : Option Organization) (now later : ℕ) (asked : Asked) (content_md5 : Option (List ℕ)) (body : List ℕ) → now ≤ later
    → (checked r later asked content_md5 body ≡ Err BadToken) ⊎ (checked r later asked content_md5 body ≡ checked r now asked content_md5 body)
checked_later r now later asked content_md5 body most = by_token (caller_of r (sha256 asked.secret))
  where
    at : ℕ → Option Token → Result Task Refusal
    at moment x = and_then (or_refused BadToken (while_it_counts moment x)) (after_caller r asked content_md5 body)

    by_token : (x : Option Token) → (at later x ≡ Err BadToken) ⊎ (at later x ≡ at now x)
    by_token None = inl refl
    by_token (Some token) = by_end (is_valid_at later token.caller) refl
      where
        if_it_counts : Bool → Result Task Refusal
        if_it_counts b = and_then (or_refused BadToken (if b then Some token else None)) (after_caller r asked content_md5 body)

        by_end : (b : Bool) → is_valid_at later token.caller ≡ b → (at later (Some token) ≡ Err BadToken) ⊎ (at later (Some token) ≡ at now (Some token))
        by_end false c = inl (ap if_it_counts c)
        by_end true c = inr (ap if_it_counts (c ∙ sym (counted_before now later token.caller.until most c)))

abbrev pub read_act : Act → Result Act Refusal
read_act act = Ok act

-- what an order that passed the checks is: the organization is there, and this act is asked of the workspace
pub record Passes (r : Option Organization) (asked : Asked) (body : List ℕ) (its_ws : List ℕ) (its_act : Act) : Type 0 where
  pub there : IsSome r
  pub what : WsAct
  pub asks : asked.act ≡ OfWorkspace its_ws what
  pub is_there : is_found r its_ws what ≡ true
  pub spelt : act_of what asked.lock_id body ≡ Ok its_act

order_is : (ws : List ℕ) (x : Result Act Refusal) (its_ws : List ℕ) (its_act : Act) → and_then x (λ act. Ok (Carry ws act)) ≡ Ok (Carry its_ws its_act) → (ws ≡ its_ws) × (x ≡ Ok its_act)
order_is ws (Ok act) its_ws its_act e = let name : ws ≡ its_ws = cc in let same : act ≡ its_act = cc in (name, ap read_act same)
order_is ws (Err refusal) its_ws its_act e = absurd (let none : ⊥ = cc in none)

-- what passed the checks is what was to be done, and is there
all_passed : (r : Option Organization) (now : ℕ) (asked : Asked) (content_md5 : Option (List ℕ)) (body : List ℕ) (task : Task) → checked r now asked content_md5 body ≡ Ok task
    → IsSome r × (u : Unit {0}) × (found r asked.act ≡ Ok u) × (prefix : List ℕ) × (task_of prefix asked.act asked.lock_id body ≡ Ok task)
all_passed r now asked content_md5 body task e =
    let known = passed (known_caller r now asked) (after_caller r asked content_md5 body) task e in
    let prefix : List ℕ = known.0.caller.prefix in
    let may = passed (may_do known.0 asked) (λ _. after_role r known.0 asked content_md5 body) task known.2 in
    let within = passed (admitted known.0 asked) (λ _. after_prefix r prefix asked content_md5 body) task may.2 in
    let reached = passed (in_reach asked) (λ _. after_reach r prefix asked content_md5 body) task within.2 in
    let named = passed (found r asked.act) (λ _. after_names prefix asked content_md5 body) task reached.2 in
    let fit = passed (digest_checked content_md5 body) (λ _. task_of prefix asked.act asked.lock_id body) task named.2 in
    (caller_there r now (sha256 asked.secret) known.0 known.1, named.0, named.1, prefix, fit.2)

found_holds : (b : Bool) (u : Unit {0}) → require NotFound b ≡ Ok u → b ≡ true
found_holds true u e = refl
found_holds false u e = absurd (let none : ⊥ = cc in none)

pub order_passes : (r : Option Organization) (now : ℕ) (asked : Asked) (content_md5 : Option (List ℕ)) (body : List ℕ) (its_ws : List ℕ) (its_act : Act) → checked r now asked content_md5 body ≡ Ok (Carry its_ws its_act) → Passes r asked body its_ws its_act
order_passes r now asked content_md5 body its_ws its_act e = let h = all_passed r now asked content_md5 body (Carry its_ws its_act) e in by_act asked.act refl h.0 h.1 h.2 h.3 h.4
  where
    by_act : (act : AskedAct) → asked.act ≡ act → IsSome r → (u : Unit {0}) → found r act ≡ Ok u → (prefix : List ℕ) → task_of prefix act asked.lock_id body ≡ Ok (Carry its_ws its_act) → Passes r asked body its_ws its_act
    by_act (ListWorkspaces after) is some u there prefix made = absurd (let none : ⊥ = cc in none)
    by_act (OfWorkspace ws what) is some u there prefix made =
        let done : (ws ≡ its_ws) × (act_of what asked.lock_id body ≡ Ok its_act) = order_is ws (act_of what asked.lock_id body) its_ws its_act made in
        record {
          there = some;
          what = what;
          asks = is ∙ ap (λ (name : List ℕ). OfWorkspace name what) done.0;
          is_there = subst (λ (name : List ℕ). is_found r name what ≡ true) done.0 (found_holds (is_found r ws what) u there);
          spelt = done.1;
        }

-- where the list of the workspaces passes the checks, it is asked
no_order : (ws : List ℕ) (x : Result Act Refusal) (after : Option (List ℕ)) (prefix : List ℕ) → and_then x (λ act. Ok (Carry ws act)) ≡ Ok (ListAll after prefix) → ⊥
no_order ws (Ok act) after prefix e = let none : ⊥ = cc in none
no_order ws (Err refusal) after prefix e = let none : ⊥ = cc in none

pub list_passes : (r : Option Organization) (now : ℕ) (asked : Asked) (content_md5 : Option (List ℕ)) (body : List ℕ) (after : Option (List ℕ)) (prefix : List ℕ) → checked r now asked content_md5 body ≡ Ok (ListAll after prefix)
    → asked.act ≡ ListWorkspaces after
list_passes r now asked content_md5 body after prefix e = let h = all_passed r now asked content_md5 body (ListAll after prefix) e in by_act asked.act refl h.3 h.4
  where
    by_act : (act : AskedAct) → asked.act ≡ act → (mine : List ℕ) → task_of mine act asked.lock_id body ≡ Ok (ListAll after prefix) → asked.act ≡ ListWorkspaces after
    by_act (ListWorkspaces other) is mine made = let same : other ≡ after = cc in is ∙ ap ListWorkspaces same
    by_act (OfWorkspace ws what) is mine made = absurd (no_order ws (act_of what asked.lock_id body) after prefix made)
