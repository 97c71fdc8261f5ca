-- The methods that ask something are those that the field Allow lists, in whatever order.
use Rattle.std.proofs.Common.{◌≡◌, Bool, true, false, ◌||◌, if◌then◌else◌, Option, Some, None, refl, ap, ◌∙◌, codes}
use Rattle.std.specs.Prelude.{bytes_eq, option_map}
use Rattle.std.specs.Option.{is_some}
use Rattle.basis.specs.declared.acts.Query.TheVariants.{Workspace as WorkspaceQuery, State as StateQuery, Version as VersionQuery, Versions as VersionsQuery, Run as RunQuery, Runs as RunsQuery}
use Rattle.route.specs.Acts.{workspace_act, unlock_of, state_act, runs_act, got, posted}
use Rattle.route.specs.Methods.{MethodsAreListed}
use Rattle.route.specs.declared.routes.AskedAct.TheVariants.{ListWorkspaces, OfWorkspace}
use Rattle.basis.specs.declared.acts.WsAct.TheVariants.{Query, Put, Delete, UpdateState, PurgeState, Lock, MakeRun, ReportRun}
use Rattle.route.specs.Paths.{AllWorkspaces, Workspace, State, AllVersions, Version, AllRuns, Run, Action}

-- something is still there after it was put into more
mapped : {A B : Type 0} (f : A → B) (o : Option A) → is_some (option_map f o) ≡ is_some o
mapped f None = refl
mapped f (Some x) = refl

-- one choice of several, or the next
either : {A : Type 0} (b : Bool) (x : A) (o : Option A) → is_some (if b then Some x else o) ≡ (b || is_some o)
either true x o = refl
either false x o = refl

one : {A : Type 0} (b : Bool) (x : A) → is_some (if b then Some x else None) ≡ (b || false)
one true x = refl
one false x = refl

-- what is asked for either way comes in either order
swapped : (a b c : Bool) → (a || (b || c)) ≡ (b || (a || c))
swapped true true c = refl
swapped true false c = refl
swapped false true c = refl
swapped false false c = refl

-- GET, PUT, DELETE are listed as DELETE, GET, PUT
workspaces : {A : Type 0} (g u d : Bool) (a b c : A) → is_some (if g then Some a else (if u then Some b else (if d then Some c else None))) ≡ (d || (g || (u || false)))
workspaces g u d a b c =
    either g a _ ∙ ap (λ x. g || x) (either u b _ ∙ ap (λ x. u || x) (one d c) ∙ swapped u d false) ∙ swapped g d (u || false)

-- GET, POST, PUT, DELETE, LOCK, UNLOCK are listed as DELETE, GET, LOCK, POST, PUT, UNLOCK
chosen : {A : Type 0} (g p u d l k : Bool) (a b c e f h : A)
    → is_some (if g then Some a else (if p then Some b else (if u then Some c else (if d then Some e else (if l then Some f else (if k then Some h else None))))))
    ≡ (g || (p || (u || (d || (l || (k || false))))))
chosen g p u d l k a b c e f h =
    either g a _ ∙ ap (λ x. g || x) (either p b _ ∙ ap (λ x. p || x) (either u c _ ∙ ap (λ x. u || x) (either d e _ ∙ ap (λ x. d || x) (either l f _ ∙ ap (λ x. l || x) (one k h)))))

listed : (g p u d l k : Bool) → (g || (p || (u || (d || (l || k))))) ≡ (d || (g || (l || (p || (u || k)))))
listed g p u d l k =
    ap (λ x. g || (p || x)) (swapped u d (l || k) ∙ ap (λ x. d || x) (swapped u l k))
    ∙ ap (λ x. g || x) (swapped p d (l || (u || k)) ∙ ap (λ x. d || x) (swapped p l (u || k)))
    ∙ swapped g d (l || (p || (u || k)))

pub methods_are_listed : MethodsAreListed
methods_are_listed AllWorkspaces method bodyless = one (bytes_eq method (codes "GET")) (ListWorkspaces None)
methods_are_listed (Workspace ws) method bodyless =
    mapped (OfWorkspace ws) (workspace_act method)
    ∙ workspaces (bytes_eq method (codes "GET")) (bytes_eq method (codes "PUT")) (bytes_eq method (codes "DELETE")) (Query WorkspaceQuery) Put Delete
methods_are_listed (State ws) method bodyless =
    mapped (OfWorkspace ws) (state_act method bodyless)
    ∙ chosen (bytes_eq method (codes "GET")) (bytes_eq method (codes "POST")) (bytes_eq method (codes "PUT")) (bytes_eq method (codes "DELETE")) (bytes_eq method (codes "LOCK")) (bytes_eq method (codes "UNLOCK"))
    (Query StateQuery) UpdateState UpdateState PurgeState Lock (unlock_of bodyless)
    ∙ listed (bytes_eq method (codes "GET")) (bytes_eq method (codes "POST")) (bytes_eq method (codes "PUT")) (bytes_eq method (codes "DELETE")) (bytes_eq method (codes "LOCK")) (bytes_eq method (codes "UNLOCK") || false)
methods_are_listed (AllVersions ws) method bodyless = mapped (OfWorkspace ws) (got (VersionsQuery 0) method) ∙ one (bytes_eq method (codes "GET")) (Query (VersionsQuery 0))
methods_are_listed (Version ws number) method bodyless = mapped (OfWorkspace ws) (got (VersionQuery number) method) ∙ one (bytes_eq method (codes "GET")) (Query (VersionQuery number))
methods_are_listed (AllRuns ws) method bodyless =
    mapped (OfWorkspace ws) (runs_act method)
    ∙ either (bytes_eq method (codes "GET")) (Query (RunsQuery 0)) _ ∙ ap (λ x. bytes_eq method (codes "GET") || x) (one (bytes_eq method (codes "POST")) MakeRun)
methods_are_listed (Run ws number) method bodyless = mapped (OfWorkspace ws) (got (RunQuery number) method) ∙ one (bytes_eq method (codes "GET")) (Query (RunQuery number))
methods_are_listed (Action ws number action) method bodyless = mapped (OfWorkspace ws) (posted (ReportRun number action) method) ∙ one (bytes_eq method (codes "POST")) (ReportRun number action)
