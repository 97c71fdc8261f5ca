-- The routes as the router holds them: patterns of bytes and parameters, texts with the places of names, and shapes, in its order.
use Rattle.std.specs.Prelude.{ℕ, List, [], ◌∷◌, ◌++◌, map, codes}
use Rattle.matchit.specs.Rows.{RowsOf, param_token}
use Rattle.matchit.specs.Router.{RouteOf}
use Rattle.route.specs.declared.routes.Kind.{Kind}
use Rattle.route.specs.declared.routes.Kind.TheVariants.{ListsWorkspaces, IsWorkspace, IsState, ListsVersions, IsVersion, ListsRuns, IsRun, IsAction}

-- a route within an organization: `/v1/{org}` and more
abbrev pub in_any_org : List ℕ → List ℕ
in_any_org more = codes "/v1/" ++ param_token ∷ more

abbrev pub text_in_org : List ℕ → List ℕ
text_in_org more = codes "/v1/{org}" ++ more

abbrev pub route_in : Kind → List ℕ → List ℕ → List (ℕ × ℕ) → RouteOf Kind
route_in kind pattern text names =
    record { pattern = in_any_org pattern; text = text_in_org text; names = (5, 8) ∷ names; value = kind }

-- the route of each shape
abbrev pub route_of : Kind → RouteOf Kind
route_of ListsWorkspaces = route_in ListsWorkspaces (codes "/workspaces") (codes "/workspaces") []
route_of IsWorkspace = route_in IsWorkspace (codes "/workspaces/" ++ param_token ∷ []) (codes "/workspaces/{ws}") ((22, 24) ∷ [])
route_of IsState = route_in IsState (codes "/state/" ++ param_token ∷ []) (codes "/state/{ws}") ((17, 19) ∷ [])
route_of ListsVersions = route_in ListsVersions (codes "/versions/" ++ param_token ∷ []) (codes "/versions/{ws}") ((20, 22) ∷ [])
route_of IsVersion =
    route_in IsVersion (codes "/versions/" ++ param_token ∷ 47 ∷ param_token ∷ []) (codes "/versions/{ws}/{number}") ((20, 22) ∷ (25, 31) ∷ [])
route_of ListsRuns = route_in ListsRuns (codes "/runs/" ++ param_token ∷ []) (codes "/runs/{ws}") ((16, 18) ∷ [])
route_of IsRun = route_in IsRun (codes "/runs/" ++ param_token ∷ 47 ∷ param_token ∷ []) (codes "/runs/{ws}/{number}") ((16, 18) ∷ (21, 27) ∷ [])
route_of IsAction =
    route_in IsAction (codes "/runs/" ++ param_token ∷ 47 ∷ param_token ∷ (codes "/actions/" ++ param_token ∷ [])) (codes "/runs/{ws}/{number}/actions/{action}")
    ((16, 18) ∷ (21, 27) ∷ (38, 44) ∷ [])

abbrev pub table : RowsOf (RouteOf Kind)
table = map (λ kind. ((route_of kind).pattern, route_of kind)) (IsAction ∷ IsRun ∷ ListsRuns ∷ IsState ∷ IsVersion ∷ ListsVersions ∷ IsWorkspace ∷ ListsWorkspaces ∷ [])

-- the names of a route's parameters, of which each route has the first ones
abbrev pub param_names : List (List ℕ)
param_names = codes "org" ∷ codes "ws" ∷ codes "number" ∷ codes "action" ∷ []
