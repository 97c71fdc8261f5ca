-- Absent forms: what the same request asks on another workspace, and what stands at a place of a run.
use Rattle.std.specs.Prelude.{if◌then◌else◌, codes, bytes_eq, option_and_then, option_map}
use Rattle.serve.proofs.Outside.{◌≡◌, ℕ, zero, suc, Bool, true, false, ◌&&◌, List, [], ◌∷◌, take, slice_get, Option, Some, None, Result, Ok, Err, IfOk, OnOk, length, Vec, Global, refl, sym, ap, subst, ◌∙◌, or_refused, and_then, is_org_name, is_ws_name, Refusal, NoRoute, NoMethod, BadQuery, NotFound, RunAction, Organization, Asking, query_text, is_bodyless, asked_made, with_query, asked_at, asked_read, asking_of, asked_of, asks, Asked, AskedAct, ListWorkspaces, OfWorkspace, WsAct, ReportRun, Message, Reading, Reads, unfinished, whole, reads_one, take-length, bytes_eq-Decides}
use Rattle.basis.specs.Numbers.{number_of}
use Rattle.route.specs.Acts.{listing_act, workspace_act, state_act, runs_act, posted, act_at, allow_of, act_read}
use Rattle.route.specs.Asks as route
use Rattle.route.specs.Paths.{Resource, AllWorkspaces, Workspace, State, AllVersions, Version, AllRuns, Run, Action, OrgResource, path_parts, action_of, of_workspace, of_number, of_action, after_workspace, in_org, resource_at, resource_of}
use Rattle.route.specs.Queries.{query_read, lock_id_read, name_after, listed_from, ws_begun_after, begun_after, after_read}
use Rattle.route.specs.Tokens.{bearer_token_read}
use Rattle.route.specs.declared.asks.UrlQuery.{UrlQuery}
use Rattle.wire.specs.Messages as wire
use Rattle.wire.specs.Targets.{path_of, query_of}
use Rattle.wire.proofs.RetargetLemmas.{retargeted}
use Rattle.serve.specs.declared.steps.Step.{Step}
use Rattle.serve.specs.declared.steps.Step.TheVariants.{Request}
use Rattle.serve.specs.Asks.{Ask, requests, organization}
use Rattle.serve.specs.Laws.{renamed}
use Rattle.serve.specs.Steps.{Said, Answered as StepAnswered, replies, refusing, request_step, step, own_said, own_record}
use Rattle.serve.specs.Service.{Asks, IsAsked, AreAsked, IsSaidText, AreTexts, asked_by, ask_of, is_own, with_own, own_asks, replies_at, same_owner}
use Rattle.serve.specs.Runs.{IsOwnMachine}
use Rattle.serve.specs.AbsentForms.{IsFormOf, AnsweredRequest, record_before, LooksAbsent, RepliesLookAbsent}
use Rattle.serve.proofs.CheckLemmas.{after_ok, passed}
use Rattle.serve.proofs.LawLemmas.{out_of_reach_is_not_found, out_of_reach_is_as_absent, outside_the_prefix_is_not_found, outside_the_prefix_is_as_absent}
use Rattle.serve.proofs.RunLemmas.{asked_one, orgs_given}
use Rattle.serve.specs.Inner.Taking.{RunsTo}

-- ---- the same resource of another workspace

abbrev with_ws : List ℕ → Resource → Resource
with_ws ws AllWorkspaces = AllWorkspaces
with_ws ws (Workspace old) = Workspace ws
with_ws ws (State old) = State ws
with_ws ws (AllVersions old) = AllVersions ws
with_ws ws (Version old number) = Version ws number
with_ws ws (AllRuns old) = AllRuns ws
with_ws ws (Run old number) = Run ws number
with_ws ws (Action old number action) = Action ws number action

of_workspace_with : (word old ws : List ℕ) → of_workspace word ws ≡ option_map (with_ws ws) (of_workspace word old)
of_workspace_with word old ws = chosen (bytes_eq word (codes "workspaces")) (bytes_eq word (codes "state")) (bytes_eq word (codes "versions")) (bytes_eq word (codes "runs"))
  where
    chosen : (a b c d : Bool)
        → (if a then Some (Workspace ws) else (if b then Some (State ws) else (if c then Some (AllVersions ws) else (if d then Some (AllRuns ws) else None))))
        ≡ option_map (with_ws ws) (if a then Some (Workspace old) else (if b then Some (State old) else (if c then Some (AllVersions old) else (if d then Some (AllRuns old) else None))))
    chosen true b c d = refl
    chosen false true c d = refl
    chosen false false true d = refl
    chosen false false false true = refl
    chosen false false false false = refl

of_number_with : (word old ws : List ℕ) (number : ℕ) → of_number word ws number ≡ option_map (with_ws ws) (of_number word old number)
of_number_with word old ws number = chosen (bytes_eq word (codes "versions")) (bytes_eq word (codes "runs"))
  where
    chosen : (a b : Bool) → (if a then Some (Version ws number) else (if b then Some (Run ws number) else None))
        ≡ option_map (with_ws ws) (if a then Some (Version old number) else (if b then Some (Run old number) else None))
    chosen true b = refl
    chosen false true = refl
    chosen false false = refl

of_action_with : (word actions old ws : List ℕ) (number : ℕ) (action : RunAction) → of_action word actions ws number action ≡ option_map (with_ws ws) (of_action word actions old number action)
of_action_with word actions old ws number action = chosen (bytes_eq word (codes "runs") && bytes_eq actions (codes "actions"))
  where
    chosen : (a : Bool) → (if a then Some (Action ws number action) else None) ≡ option_map (with_ws ws) (if a then Some (Action old number action) else None)
    chosen true = refl
    chosen false = refl

after_workspace_with : (word old ws : List ℕ) (more : List (List ℕ)) → after_workspace word ws more ≡ option_map (with_ws ws) (after_workspace word old more)
after_workspace_with word old ws [] = of_workspace_with word old ws
after_workspace_with word old ws (n ∷ []) = by_number (number_of n)
  where
    by_number : (o : Option ℕ) → option_and_then (of_number word ws) o ≡ option_map (with_ws ws) (option_and_then (of_number word old) o)
    by_number None = refl
    by_number (Some number) = of_number_with word old ws number
after_workspace_with word old ws (n ∷ actions ∷ []) = refl
after_workspace_with word old ws (n ∷ actions ∷ action ∷ []) = by_number (number_of n)
  where
    by_action : (number : ℕ) (p : Option RunAction) → option_and_then (of_action word actions ws number) p ≡ option_map (with_ws ws) (option_and_then (of_action word actions old number) p)
    by_action number None = refl
    by_action number (Some a) = of_action_with word actions old ws number a

    by_number : (o : Option ℕ) → option_and_then (λ number. option_and_then (of_action word actions ws number) (action_of action)) o
        ≡ option_map (with_ws ws) (option_and_then (λ number. option_and_then (of_action word actions old number) (action_of action)) o)
    by_number None = refl
    by_number (Some number) = by_action number (action_of action)
after_workspace_with word old ws (n ∷ actions ∷ action ∷ other ∷ parts) = refl

routed : (root version old_org org word old ws : List ℕ) (more : List (List ℕ)) (named : OrgResource) → is_org_name org ≡ true → is_ws_name ws ≡ true
    → resource_at (root ∷ version ∷ old_org ∷ word ∷ old ∷ more) ≡ Some named → resource_at (root ∷ version ∷ org ∷ word ∷ ws ∷ more) ≡ Some (in_org org (with_ws ws named.resource))
routed root version old_org org word old ws more named org_named ws_named e = by_tests (bytes_eq root []) (bytes_eq version (codes "v1")) (is_org_name old_org) (is_ws_name old) e
  where
    mapped : (o : Option Resource) → option_map (in_org old_org) o ≡ Some named → option_map (in_org org) (option_map (with_ws ws) o) ≡ Some (in_org org (with_ws ws named.resource))
    mapped None is = absurd (let none : ⊥ = cc in none)
    mapped (Some resource) is = let one : in_org old_org resource ≡ named = cc in ap (λ (x : OrgResource). Some (in_org org (with_ws ws x.resource))) one

    by_tests : (a b c d : Bool) → (if a && b && c then option_map (in_org old_org) (if d then after_workspace word old more else None) else None) ≡ Some named
        → (if a && b && is_org_name org then option_map (in_org org) (if is_ws_name ws then after_workspace word ws more else None) else None) ≡ Some (in_org org (with_ws ws named.resource))
    by_tests true true true true is =
        ap (λ (x : Bool). if x then option_map (in_org org) (if is_ws_name ws then after_workspace word ws more else None) else None) org_named
        ∙ ap (λ (x : Bool). option_map (in_org org) (if x then after_workspace word ws more else None)) ws_named
        ∙ ap (option_map (in_org org)) (after_workspace_with word old ws more) ∙ mapped (after_workspace word old more) is
    by_tests true true true false is = absurd (let none : ⊥ = cc in none)
    by_tests true true false d is = absurd (let none : ⊥ = cc in none)
    by_tests true false c d is = absurd (let none : ⊥ = cc in none)
    by_tests false b c d is = absurd (let none : ⊥ = cc in none)

-- ---- the same act on another workspace

abbrev to_ws : List ℕ → AskedAct → AskedAct
to_ws ws act = renamed act ws

moved : (old ws : List ℕ) (o : Option WsAct) → option_map (OfWorkspace ws) o ≡ option_map (to_ws ws) (option_map (OfWorkspace old) o)
moved old ws None = refl
moved old ws (Some act) = refl

listed : (ws method : List ℕ) → listing_act method ≡ option_map (to_ws ws) (listing_act method)
listed ws method = chosen (bytes_eq method (codes "GET"))
  where
    chosen : (got : Bool) → (if got then Some (ListWorkspaces None) else None) ≡ option_map (to_ws ws) (if got then Some (ListWorkspaces None) else None)
    chosen true = refl
    chosen false = refl

act_with : (ws : List ℕ) (resource : Resource) (method : List ℕ) (bodyless : Bool) → act_at (with_ws ws resource) method bodyless ≡ option_map (to_ws ws) (act_at resource method bodyless)
act_with ws AllWorkspaces method bodyless = listed ws method
act_with ws (Workspace old) method bodyless = moved old ws (workspace_act method)
act_with ws (State old) method bodyless = moved old ws (state_act method bodyless)
act_with ws (AllVersions old) method bodyless = moved old ws _
act_with ws (Version old number) method bodyless = moved old ws _
act_with ws (AllRuns old) method bodyless = moved old ws (runs_act method)
act_with ws (Run old number) method bodyless = moved old ws _
act_with ws (Action old number action) method bodyless = moved old ws (posted (ReportRun number action) method)

found_of : {A : Type 0} (refusal : Refusal) (o : Option A) (a : A) → or_refused refusal o ≡ Ok a → o ≡ Some a
found_of refusal None a e = absurd (let none : ⊥ = cc in none)
found_of refusal (Some b) a e = let one : b ≡ a = cc in ap Some one

act_read_with : (ws : List ℕ) (resource : Resource) (method : List ℕ) (bodyless : Bool) (act : AskedAct) → act_read resource method bodyless ≡ Ok act → act_read (with_ws ws resource) method bodyless ≡ Ok (renamed act ws)
act_read_with ws resource method bodyless act e =
    ap (or_refused (NoMethod (allow_of (with_ws ws resource)))) (act_with ws resource method bodyless ∙ ap (option_map (to_ws ws)) (found_of (NoMethod (allow_of resource)) (act_at resource method bodyless) act e))

begun_with : (ws : List ℕ) (act begun : AskedAct) (after : Option (List ℕ)) → after_read act after ≡ Ok begun → after_read (renamed act ws) after ≡ Ok (renamed begun ws)
begun_with ws act begun None e = let one : act ≡ begun = cc in ap (λ (x : AskedAct). read_as (renamed x ws)) one
  where
    read_as : AskedAct → Result AskedAct Refusal
    read_as x = Ok x
begun_with ws act begun (Some text) e = by_act act (found_of BadQuery (begun_after act text) begun e)
  where
    by_name : (from : Option (List ℕ)) (o : Option (List ℕ)) → option_map listed_from o ≡ Some begun → or_refused BadQuery (option_map listed_from o) ≡ Ok (renamed begun ws)
    by_name from None is = absurd (let none : ⊥ = cc in none)
    by_name from (Some name) is = let one : listed_from name ≡ begun = cc in ap (λ (x : AskedAct). or_refused BadQuery (Some (renamed x ws))) one

    by_begun : (old : List ℕ) (o : Option WsAct) → option_map (OfWorkspace old) o ≡ Some begun → or_refused BadQuery (option_map (OfWorkspace ws) o) ≡ Ok (renamed begun ws)
    by_begun old None is = absurd (let none : ⊥ = cc in none)
    by_begun old (Some a) is = let one : OfWorkspace old a ≡ begun = cc in ap (λ (x : AskedAct). or_refused BadQuery (Some (renamed x ws))) one

    by_act : (x : AskedAct) → begun_after x text ≡ Some begun → after_read (renamed x ws) (Some text) ≡ Ok (renamed begun ws)
    by_act (ListWorkspaces from) is = by_name from (name_after text) is
    by_act (OfWorkspace old a) is = by_begun old (ws_begun_after a text) is

-- ---- what the other message asks

abbrev read_as : Asked → Result Asked Refusal
read_as asked = Ok asked

with_query_with : (authorization : Option (List ℕ)) (old_org org ws : List ℕ) (act : AskedAct) (found : UrlQuery) (asked : Asked) → with_query authorization old_org act found ≡ Ok asked
    → with_query authorization org (renamed act ws) found ≡ Ok (record asked { org = org; act = renamed asked.act ws })
with_query_with authorization old_org org ws act found asked e =
    let locked = passed (lock_id_read found.id) (λ lock_id. and_then (after_read act found.after) (λ begun. and_then (bearer_token_read authorization found.token) (λ token. Ok (asked_made old_org begun lock_id token)))) asked e in
    let listed_at = passed (after_read act found.after) (λ begun. and_then (bearer_token_read authorization found.token) (λ token. Ok (asked_made old_org begun locked.0 token))) asked locked.2 in
    let token = passed (bearer_token_read authorization found.token) (λ token. Ok (asked_made old_org listed_at.0 locked.0 token)) asked listed_at.2 in
    let one : asked_made old_org listed_at.0 locked.0 token.0 ≡ asked = let is = token.2 in cc in
    after_ok (lock_id_read found.id) (λ lock_id. and_then (after_read (renamed act ws) found.after) (λ begun. and_then (bearer_token_read authorization found.token) (λ token. Ok (asked_made org begun lock_id token)))) locked.0 _ locked.1
    (after_ok (after_read (renamed act ws) found.after) (λ begun. and_then (bearer_token_read authorization found.token) (λ token. Ok (asked_made org begun locked.0 token))) (renamed listed_at.0 ws) _
    (begun_with ws act listed_at.0 found.after listed_at.1)
    (after_ok (bearer_token_read authorization found.token) (λ token. Ok (asked_made org (renamed listed_at.0 ws) locked.0 token)) token.0 _ token.1
    (ap (λ (x : Asked). read_as (record x { org = org; act = renamed x.act ws })) one)))

asking_is : (x : Result Asked Refusal) (asked : Asked) → asking_of x ≡ asks asked → x ≡ Ok asked
asking_is (Ok other) asked e = let one : other ≡ asked = cc in ap read_as one
asking_is (Err refusal) asked e = absurd (let none : ⊥ = cc in none)

asks_instead : (message : Message) (asked : Asked) (path root version old_org org word old ws : List ℕ) (more : List (List ℕ)) → is_org_name org ≡ true → is_ws_name ws ≡ true
    → path_parts message.path ≡ root ∷ version ∷ old_org ∷ word ∷ old ∷ more → path_parts path ≡ root ∷ version ∷ org ∷ word ∷ ws ∷ more → asked_of message ≡ asks asked
    → asked_of (record message { path = path }) ≡ asks (record asked { org = org; act = renamed asked.act ws })
asks_instead message asked path root version old_org org word old ws more org_named ws_named before after e =
    let read : asked_read message ≡ Ok asked = asking_is (asked_read message) asked e in
    let named = passed (or_refused NoRoute (resource_of message.path)) (asked_at message) asked read in
    let there : resource_at (root ∷ version ∷ old_org ∷ word ∷ old ∷ more) ≡ Some named.0 = ap resource_at (sym before) ∙ found_of NoRoute (resource_of message.path) named.0 named.1 in
    let instead : resource_of path ≡ Some (in_org org (with_ws ws named.0.resource)) = ap resource_at after ∙ routed root version old_org org word old ws more named.0 org_named ws_named there in
    let act = passed (act_read named.0.resource message.method (is_bodyless message.body)) (λ act. and_then (query_read (query_text message.query)) (with_query message.authorization named.0.org act)) asked named.2 in
    let query = passed (query_read (query_text message.query)) (with_query message.authorization named.0.org act.0) asked act.2 in
    let other : Message = record message { path = path } in
    let done : asked_read other ≡ Ok (record asked { org = org; act = renamed asked.act ws }) =
    after_ok (or_refused NoRoute (resource_of path)) (asked_at other) (in_org org (with_ws ws named.0.resource)) _ (ap (or_refused NoRoute) instead)
    (after_ok (act_read (with_ws ws named.0.resource) message.method (is_bodyless message.body)) (λ act. and_then (query_read (query_text message.query)) (with_query message.authorization org act)) (renamed act.0 ws) _
    (act_read_with ws named.0.resource message.method (is_bodyless message.body) act.0 act.1)
    (after_ok (query_read (query_text message.query)) (with_query message.authorization org (renamed act.0 ws)) query.0 _ query.1
    (with_query_with message.authorization named.0.org org ws act.0 query.0 asked query.2))) in
    ap asking_of done

-- ---- what the bytes of a form ask

asked_same : (at now : ℕ) (awaited flag : Bool) (asked other : Asked) (m n : Option (List ℕ)) (body text : List ℕ) → requests at awaited asked m body ≡ requests now flag other n text
    → (awaited ≡ flag) × (asked ≡ other) × (m ≡ n) × (body ≡ text)
asked_same at now awaited flag asked other m n body text e =
    (let a : awaited ≡ flag = cc in a, let b : asked ≡ other = cc in b, let c : m ≡ n = cc in c, let d : body ≡ text = cc in d)

-- a request is of a whole message that asks it
pub record Means (bytes : List ℕ) (awaited : Bool) (asked : Asked) (content_md5 : Option (List ℕ)) (body : List ℕ) : Type 0 where
  pub message : Message
  pub reads : Reads bytes (whole message awaited)
  pub asks_it : asked_of message ≡ asks asked
  pub digest : message.content_md5 ≡ content_md5
  pub text : message.body ≡ body

means_of : (at : ℕ) (bytes : List ℕ) (awaited : Bool) (asked : Asked) (content_md5 : Option (List ℕ)) (body : List ℕ) → Asks at bytes (requests at awaited asked content_md5 body)
    → Means bytes awaited asked content_md5 body
means_of at bytes awaited asked content_md5 body h = by_reading h.reading h.reads h.is
  where
    by_asking : (message : Message) (flag : Bool) (x : Asking) → asked_of message ≡ x → Reads bytes (whole message flag) → requests at awaited asked content_md5 body ≡ asked_by at flag message x
        → Means bytes awaited asked content_md5 body
    by_asking message flag (route.refused refusal) e reads is = absurd (let none : ⊥ = cc in none)
    by_asking message flag (asks other) e reads is =
        let same = asked_same at at awaited flag asked other content_md5 message.content_md5 body message.body is in
        record {
          message = message;
          reads = subst (λ (b : Bool). Reads bytes (whole message b)) (sym same.0) reads;
          asks_it = e ∙ ap asks (sym same.1);
          digest = sym same.2;
          text = sym same.3;
        }

    by_reading : (reading : Reading) → Reads bytes reading → requests at awaited asked content_md5 body ≡ ask_of at reading → Means bytes awaited asked content_md5 body
    by_reading unfinished reads is = absurd (let none : ⊥ = cc in none)
    by_reading (wire.refused refusal head) reads is = absurd (let none : ⊥ = cc in none)
    by_reading (whole message flag) reads is = by_asking message flag (asked_of message) refl reads is

pub form_asks : (at : ℕ) (bytes other org ws : List ℕ) (awaited : Bool) (asked : Asked) (content_md5 : Option (List ℕ)) (body : List ℕ) (ask : Ask) → Asks at bytes (requests at awaited asked content_md5 body)
    → IsFormOf bytes other org ws → Asks at other ask → ask ≡ requests at awaited (record asked { org = org; act = renamed asked.act ws }) content_md5 body
form_asks at bytes other org ws awaited asked content_md5 body ask h form k =
    let m = means_of at bytes awaited asked content_md5 body h in
    let n = form.names in
    let moved_to = retargeted bytes other form.target form.aim n.from n.to m.message awaited form.same n.from_is n.to_is m.reads in
    let turned : Message = record m.message { path = path_of n.to } in
    let same : record m.message { path = path_of n.to; query = query_of n.to } ≡ turned = ap (λ (q : Option (List ℕ)). record m.message { path = path_of n.to; query = q }) (n.query_stays ∙ sym moved_to.1) in
    let reads : Reads other (whole turned awaited) = subst (λ (x : Message). Reads other (whole x awaited)) same moved_to.2 in
    let asking : asked_of turned ≡ asks (record asked { org = org; act = renamed asked.act ws }) =
    asks_instead m.message asked (path_of n.to) n.root n.version n.org_before org n.word n.ws_before ws n.more n.org_named n.ws_named (ap path_parts moved_to.0 ∙ n.path_before) n.path_after m.asks_it in
    k.is ∙ ap (ask_of at) (reads_one other k.reading (whole turned awaited) k.reads reads)
    ∙ ap (asked_by at awaited turned) asking
    ∙ ap (λ (d : Option (List ℕ)). requests at awaited (record asked { org = org; act = renamed asked.act ws }) d m.message.body) m.digest
    ∙ ap (requests at awaited (record asked { org = org; act = renamed asked.act ws }) content_md5) m.text

-- ---- what stands at a place of a run

text_at : (org : List ℕ) (r : Option Organization) (steps : List Step) (asked : List Ask) (ts : List (List ℕ)) (k : ℕ) (s : Step) (text : List ℕ) (earlier : List Ask) (a : Ask)
    → AreAsked steps asked → AreTexts (own_said r (own_asks (organization org) asked)) (replies_at (organization org) asked ts) → slice_get steps k ≡ Some s → slice_get ts k ≡ Some text
    → AreAsked (take k steps) earlier → IsAsked s a → is_own (organization org) a ≡ true → IsSaidText (step (own_record r (own_asks (organization org) earlier)) a).answer text
text_at org r [] asked ts k s text earlier a are texts is_step is_text before asks_it own = absurd (let none : ⊥ = cc in none)
text_at org r (x ∷ steps) [] ts k s text earlier a are texts is_step is_text before asks_it own = absurd are
text_at org r (x ∷ steps) (b ∷ asked) [] k s text earlier a are texts is_step is_text before asks_it own = absurd (let none : ⊥ = cc in none)
text_at org r (x ∷ steps) (b ∷ asked) (t ∷ ts) zero s text [] a are texts is_step is_text before asks_it own =
    let one : x ≡ s = cc in
    let same : b ≡ a = asked_one s b a (subst (λ (y : Step). IsAsked y b) one are.0) asks_it in
    let mine : is_own (organization org) b ≡ true = ap (is_own (organization org)) same ∙ own in
    let texts_here : AreTexts (own_said r (b ∷ own_asks (organization org) asked)) (t ∷ replies_at (organization org) asked ts) =
    subst (λ (m : Bool). AreTexts (own_said r (with_own m b (own_asks (organization org) asked))) (with_own m t (replies_at (organization org) asked ts))) mine texts in
    let text_is : t ≡ text = cc in
    subst (λ (y : Ask). IsSaidText (step r y).answer text) same (subst (IsSaidText (step r b).answer) text_is texts_here.0)
text_at org r (x ∷ steps) (b ∷ asked) (t ∷ ts) zero s text (c ∷ earlier) a are texts is_step is_text before asks_it own = absurd before
text_at org r (x ∷ steps) (b ∷ asked) (t ∷ ts) (suc k) s text [] a are texts is_step is_text before asks_it own = absurd before
text_at org r (x ∷ steps) (b ∷ asked) (t ∷ ts) (suc k) s text (c ∷ earlier) a are texts is_step is_text before asks_it own =
    subst (λ (y : Ask). IsSaidText (step (own_record r (with_own (is_own (organization org) y) y (own_asks (organization org) earlier))) a).answer text) (asked_one x b c are.0 before.0)
    (by_owner (is_own (organization org) b) texts (λ q rest. text_at org q steps asked ts k s text earlier a are.1 rest is_step is_text before.1 asks_it own))
  where
    by_owner : (m : Bool) → AreTexts (own_said r (with_own m b (own_asks (organization org) asked))) (with_own m t (replies_at (organization org) asked ts))
        → ((q : Option Organization) → AreTexts (own_said q (own_asks (organization org) asked)) (replies_at (organization org) asked ts) → IsSaidText (step (own_record q (own_asks (organization org) earlier)) a).answer text)
        → IsSaidText (step (own_record r (with_own m b (own_asks (organization org) earlier))) a).answer text
    by_owner true here more = more (step r b).left here.1
    by_owner false here more = more r here

own_request : (org : List ℕ) → same_owner (organization org) (organization org) ≡ true
own_request org = (bytes_eq-Decides org org).1 refl

reply_at : (steps : List Step) (rows rows' : List ℕ → Option Organization) (texts : List (List ℕ)) (asked : List Ask) → AreAsked steps asked → ((org : List ℕ) → IsOwnMachine org asked rows rows' texts)
    → (a : AnsweredRequest steps texts) → IsSaidText (step (record_before rows a.asked.caller a.earlier) (requests a.at a.awaited a.asked a.content_md5 a.body)).answer a.text
reply_at steps rows rows' texts asked are own a =
    text_at a.asked.caller (rows a.asked.caller) steps asked texts a.index (Request a.at a.bytes) a.text a.earlier (requests a.at a.awaited a.asked a.content_md5 a.body) are (own a.asked.caller).own_replies a.came a.replied a.came_earlier a.asks
    (own_request a.asked.caller)

-- what is told to a request, by what the machine answers it
module _ (r : Option Organization) (at : ℕ) (awaited : Bool) (bytes : List ℕ) (asked : Asked) (content_md5 : Option (List ℕ)) (body : List ℕ) (Tells : Said → Type 0)
    (asks_it : Asks at bytes (requests at awaited asked content_md5 body)) (told : Tells (step r (requests at awaited asked content_md5 body)).answer) where
  told_as : (done : StepAnswered) → request_step r at asked content_md5 body ≡ done → Tells (replies awaited at done.answer)
  told_as done same = subst (λ (d : StepAnswered). Tells (replies awaited at d.answer)) same told

  -- where the machine answers the form of a request as it does the request, that is told which it says to the form
  told_to_form : (other org ws : List ℕ) (ask : Ask) → IsFormOf bytes other org ws → Asks at other ask
      → request_step r at asked content_md5 body ≡ request_step r at (record asked { org = org; act = renamed asked.act ws }) content_md5 body → Tells (step r ask).answer
  told_to_form other org ws ask form form_asks_it same =
      let is : ask ≡ requests at awaited (record asked { org = org; act = renamed asked.act ws }) content_md5 body = form_asks at bytes other org ws awaited asked content_md5 body ask asks_it form form_asks_it in
      subst (λ (x : Ask). Tells (step r x).answer) (sym is) (told_as (request_step r at (record asked { org = org; act = renamed asked.act ws }) content_md5 body) same)

  pub looks_absent : LooksAbsent r at awaited bytes asked Tells
  looks_absent = record {
    absent_forms = λ out other org ws ask needs lacks form is. told_to_form other org ws ask form is (out_of_reach_is_as_absent r at asked content_md5 body org ws out needs lacks);
    out_of_reach = λ token out known may. told_as (refusing NotFound r) (out_of_reach_is_not_found r at asked content_md5 body token out known may);
    outside_the_prefix = λ token known outside other org ws ask needs lacks form is.
        told_to_form other org ws ask form is (outside_the_prefix_is_as_absent r at asked content_md5 body org ws token known outside needs lacks);
    not_admitted = λ token known outside may. told_as (refusing NotFound r) (outside_the_prefix_is_not_found r at asked content_md5 body token known outside may);
  }

-- each reply of a run
pub replies_look_absent : (steps : List Step) (rows rows' : List ℕ → Option Organization) (texts : List (List ℕ)) (asked : List Ask) → AreAsked steps asked → ((org : List ℕ) → IsOwnMachine org asked rows rows' texts)
    → RepliesLookAbsent steps rows texts
replies_look_absent steps rows rows' texts asked are own a =
    looks_absent (record_before rows a.asked.caller a.earlier) a.at a.awaited a.bytes a.asked a.content_md5 a.body (λ said. IsSaidText said a.text) a.asks (reply_at steps rows rows' texts asked are own a)

-- of a whole run that was answered
pub each_reply : {E : Type 0} (Law : List (List ℕ) → Type 0) (steps : List Step) (taken : ℕ) (old new : List ℕ → Option Organization) (res : Result (Vec (List ℕ) Global) E)
    → ((texts : List (List ℕ)) (asked : List Ask) → AreAsked steps asked → ((org : List ℕ) → IsOwnMachine org asked old new texts) → Law texts)
    → (replies : List (List ℕ)) × RunsTo (take taken steps) old new replies × IfOk res (λ given. given.items ≡ replies) → OnOk res (taken ≡ length steps) → IfOk res (λ given. Law given.items)
each_reply Law steps taken old new (Ok given) law h all =
    let whole_is : take taken steps ≡ steps = ap (λ (n : ℕ). take n steps) all ∙ take-length steps in
    let are : AreAsked steps h.1.asked = subst (λ (xs : List Step). AreAsked xs h.1.asked) whole_is h.1.are in
    law given.items h.1.asked are (orgs_given {E = ℕ} steps taken old new (Ok given) h all h.1.asked are)
each_reply Law steps taken old new (Err e) law h all = tt
