-- What is asked of the route that was found is what is asked of the resource that the path names: names first, then the method.
use Rattle.std.proofs.Common.{◌≡◌, ℕ, List, Option, Some, None, Result, Ok, refl, ap, ◌∙◌, codes}
use Rattle.std.specs.Option.{option_map, option_and_then}
use Rattle.basis.specs.Checks.{or_refused, and_then}
use Rattle.basis.specs.declared.refusals.Refusal.{Refusal}
use Rattle.basis.specs.declared.refusals.Refusal.TheVariants.{NoRoute}
use Rattle.basis.specs.declared.runs.RunAction.{RunAction}
use Rattle.wire.specs.declared.messages.Message.{Message}
use Rattle.route.specs.Acts.{workspace_act, state_act, runs_act, got, posted, act_read}
use Rattle.route.specs.Asks.{query_text, is_bodyless, with_query, asked_at}
use Rattle.route.specs.Inner.Kinds.{Pairs, part_of, ws_of, number_in, resource_named, org_resource_named, act_named, asked_found}
use Rattle.route.specs.Paths.{Resource, Workspace, State, AllVersions, Version, AllRuns, Run, Action, action_of, in_org}
use Rattle.route.specs.Queries.{query_read}
use Rattle.route.specs.Tokens.{org_of}
use Rattle.route.specs.declared.routes.Asked.{Asked}
use Rattle.route.specs.declared.routes.AskedAct.{AskedAct}
use Rattle.route.specs.declared.routes.AskedAct.TheVariants.{OfWorkspace}
use Rattle.basis.specs.declared.acts.WsAct.{WsAct}
use Rattle.basis.specs.declared.acts.WsAct.TheVariants.{ReportRun}
use Rattle.route.specs.declared.routes.Kind.{Kind}
use Rattle.route.specs.declared.routes.Kind.TheVariants.{ListsWorkspaces, IsWorkspace, IsState, ListsVersions, IsVersion, ListsRuns, IsRun, IsAction}
use Rattle.basis.specs.declared.acts.Query.TheVariants.{Version as VersionQuery, Versions as VersionsQuery, Run as RunQuery}

module _ (message : Message) (org : List ℕ) where
  -- the query and the token come behind
  abbrev rest : AskedAct → Result Asked Refusal
  rest act = and_then (query_read (query_text message.query)) (with_query message.authorization org act)

  -- what is asked of a resource, if it is one
  abbrev read : Option Resource → Result Asked Refusal
  read o = and_then (or_refused NoRoute (option_map (in_org org) o)) (asked_at message)

  abbrev placed : List ℕ → Result WsAct Refusal → Result AskedAct Refusal
  placed ws act = and_then act (λ what. Ok (OfWorkspace ws what))

  abbrev acts : Resource → Result AskedAct Refusal
  acts resource = act_read resource message.method (is_bodyless message.body)

  at_ws : (refusal : Refusal) (ws : List ℕ) (o : Option WsAct) → and_then (or_refused refusal (option_map (OfWorkspace ws) o)) rest ≡ and_then (placed ws (or_refused refusal o)) rest
  at_ws refusal ws None = refl
  at_ws refusal ws (Some what) = refl

  on_one : (w : Option (List ℕ)) (f : List ℕ → Resource) (refusal : Refusal) (o : Option WsAct) → ((ws : List ℕ) → acts (f ws) ≡ or_refused refusal (option_map (OfWorkspace ws) o))
      → read (option_and_then (λ ws. Some (f ws)) w) ≡ and_then (and_then (or_refused NoRoute w) (λ ws. placed ws (or_refused refusal o))) rest
  on_one None f refusal o same = refl
  on_one (Some ws) f refusal o same = ap (λ (x : Result AskedAct Refusal). and_then x rest) (same ws) ∙ at_ws refusal ws o

  numbered : (w : Option (List ℕ)) (n : Option ℕ) (f : List ℕ → ℕ → Resource) (refusal : Refusal) (o : ℕ → Option WsAct) → ((ws : List ℕ) (k : ℕ) → acts (f ws k) ≡ or_refused refusal (option_map (OfWorkspace ws) (o k)))
      → read (option_and_then (λ ws. option_map (f ws) n) w) ≡ and_then (and_then (or_refused NoRoute n) (λ k. and_then (or_refused NoRoute w) (λ ws. placed ws (or_refused refusal (o k))))) rest
  numbered None None f refusal o same = refl
  numbered (Some ws) None f refusal o same = refl
  numbered w (Some k) f refusal o same = on_one w (λ ws. f ws k) refusal (o k) (λ ws. same ws k)

  -- a run's number, and what is asked of it
  abbrev both : Option RunAction → Option ℕ → Option (ℕ × RunAction)
  both a n = option_and_then (λ number. option_map (λ action. (number, action)) a) n

  acted : (w : Option (List ℕ)) (n : Option ℕ) (a : Option RunAction) (refusal : Refusal) (o : ℕ → RunAction → Option WsAct)
      → ((ws : List ℕ) (k : ℕ) (action : RunAction) → acts (Action ws k action) ≡ or_refused refusal (option_map (OfWorkspace ws) (o k action)))
      → read (option_and_then (λ ws. option_and_then (λ number. option_map (Action ws number) a) n) w)
      ≡ and_then (and_then (or_refused NoRoute (both a n)) (λ run. and_then (or_refused NoRoute w) (λ ws. placed ws (or_refused refusal (o run.0 run.1))))) rest
  acted None None a refusal o same = refl
  acted (Some ws) None a refusal o same = refl
  acted None (Some k) None refusal o same = refl
  acted (Some ws) (Some k) None refusal o same = refl
  acted w (Some k) (Some action) refusal o same = on_one w (λ ws. Action ws k action) refusal (o k action) (λ ws. same ws k action)

  by_kind : (kind : Kind) (pairs : Pairs) → read (resource_named kind pairs) ≡ and_then (act_named kind pairs message.method (is_bodyless message.body)) rest
  by_kind ListsWorkspaces pairs = refl
  by_kind IsWorkspace pairs = on_one (ws_of (part_of (codes "ws") pairs)) Workspace _ (workspace_act message.method) (λ ws. refl)
  by_kind IsState pairs = on_one (ws_of (part_of (codes "ws") pairs)) State _ (state_act message.method (is_bodyless message.body)) (λ ws. refl)
  by_kind ListsVersions pairs = on_one (ws_of (part_of (codes "ws") pairs)) AllVersions _ (got (VersionsQuery 0) message.method) (λ ws. refl)
  by_kind IsVersion pairs = numbered (ws_of (part_of (codes "ws") pairs)) (number_in pairs) Version _ (λ k. got (VersionQuery k) message.method) (λ ws k. refl)
  by_kind ListsRuns pairs = on_one (ws_of (part_of (codes "ws") pairs)) AllRuns _ (runs_act message.method) (λ ws. refl)
  by_kind IsRun pairs = numbered (ws_of (part_of (codes "ws") pairs)) (number_in pairs) Run _ (λ k. got (RunQuery k) message.method) (λ ws k. refl)
  by_kind IsAction pairs =
      acted (ws_of (part_of (codes "ws") pairs)) (number_in pairs) (action_of (part_of (codes "action") pairs)) _ (λ k action. posted (ReportRun k action) message.method) (λ ws k action. refl)

pub found_asked : (message : Message) (kind : Kind) (pairs : Pairs) → and_then (or_refused NoRoute (org_resource_named kind pairs)) (asked_at message) ≡ asked_found message kind pairs
found_asked message kind pairs = by_org (org_of (part_of (codes "org") pairs))
  where
    by_org : (o : Option (List ℕ)) → and_then (or_refused NoRoute (option_and_then (λ org. option_map (in_org org) (resource_named kind pairs)) o)) (asked_at message)
        ≡ and_then (or_refused NoRoute o) (λ org. and_then (act_named kind pairs message.method (is_bodyless message.body)) (rest message org))
    by_org None = refl
    by_org (Some org) = by_kind message org kind pairs
