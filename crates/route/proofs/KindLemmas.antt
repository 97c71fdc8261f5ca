-- A path whose parts lead to a route names what that route names, and no other path names anything.
use Rattle.std.proofs.Common.{◌≡◌, ℕ, List, [], ◌∷◌, zip, Bool, true, false, ◌&&◌, cond, Option, Some, None, refl, ◌∙◌, codes}
use Rattle.std.specs.Str.{bytes_eq}
use Rattle.std.specs.Option.{option_map, option_and_then}
use Rattle.basis.specs.Names.{is_org_name, is_ws_name}
use Rattle.basis.specs.Numbers.{number_of}
use Rattle.basis.specs.declared.runs.RunAction.{RunAction}
use Rattle.matchit.specs.Router.{RouteOf}
use Rattle.route.specs.declared.routes.Kind.{Kind}
use Rattle.route.specs.declared.routes.Kind.TheVariants.{IsAction}
use Rattle.route.specs.Paths.{Resource, Workspace, State, AllVersions, Version, AllRuns, Run, Action, OrgResource, action_of, of_number, of_action, after_workspace, after_org, in_org, resource_at}
use Rattle.route.specs.Inner.Kinds.{resource_named, org_resource_named}
use Rattle.route.specs.Table.{param_names}
use Rattle.route.proofs.TreeLemmas.{Taken, behind, end_or, at_name, finds}
use Rattle.route.proofs.TableLemmas.{last_name, words, tree, by_word}

-- what a route names, with the parts that its parameters take
abbrev pub names_of : Taken (RouteOf Kind) → Option OrgResource
names_of = option_and_then (λ found. org_resource_named found.0.value (zip param_names found.1))

-- the same within an organization
abbrev within : List ℕ → Taken (RouteOf Kind) → Option Resource
within org = option_and_then (λ found. resource_named found.0.value (zip param_names (org ∷ found.1)))

some_if : {A U : Type 0} (v : Bool) (x : A) (f : A → Option U) → cond v (f x) None ≡ option_and_then f (cond v (Some x) None)
some_if true x f = refl
some_if false x f = refl

none_if : {U : Type 0} (v : Bool) → cond {A = Option U} v None None ≡ None
none_if true = refl
none_if false = refl

none_of : {A : Type 0} (f : A → Option Resource) → ((x : A) → f x ≡ None) → (o : Option A) → option_and_then f o ≡ None
none_of f h None = refl
none_of f h (Some x) = h x

of_some : {A : Type 0} (f : A → Resource) (o : Option A) → option_and_then (λ x. Some (f x)) o ≡ option_map f o
of_some f None = refl
of_some f (Some x) = refl

acts : (ws : List ℕ) (o : Option ℕ) (p : Option RunAction)
    → option_and_then (λ number. option_and_then (λ action. Some (Action ws number action)) p) o
    ≡ option_and_then (λ number. option_map (Action ws number) p) o
acts ws None p = refl
acts ws (Some number) p = of_some (Action ws number) p

no_number : (word ws : List ℕ) (parts : List (List ℕ)) → after_workspace word ws ([] ∷ parts) ≡ None
no_number word ws [] = refl
no_number word ws (actions ∷ []) = refl
no_number word ws (actions ∷ action ∷ []) = refl
no_number word ws (actions ∷ action ∷ more ∷ parts) = refl

no_action : (word ws n actions : List ℕ) (parts : List (List ℕ)) → ((m : ℕ) (act : RunAction) → of_action word actions ws m act ≡ None)
    → after_workspace word ws (n ∷ actions ∷ parts) ≡ None
no_action word ws n actions [] h = refl
no_action word ws n actions (action ∷ []) h =
    none_of (λ m. option_and_then (of_action word actions ws m) (action_of action)) (λ m. none_of (of_action word actions ws m) (h m) (action_of action)) (number_of n)
no_action word ws n actions (action ∷ more ∷ parts) h = refl

-- behind a workspace whose word has no numbers, comes nothing
no_more : (word ws n : List ℕ) (parts : List (List ℕ)) → ((m : ℕ) → of_number word ws m ≡ None)
    → ((actions : List ℕ) (m : ℕ) (act : RunAction) → of_action word actions ws m act ≡ None) → after_workspace word ws (n ∷ parts) ≡ None
no_more word ws n [] f g = none_of (of_number word ws) f (number_of n)
no_more word ws n (actions ∷ parts) f g = no_action word ws n actions parts (g actions)

module _ (org : List ℕ) (x : ℕ) (w : List ℕ) where
  -- what a word and more say of a workspace
  abbrev Agrees : List (List ℕ) → List ℕ → Type 0
  Agrees parts word = after_org (word ∷ (x ∷ w) ∷ parts) ≡ within org (finds words (word ∷ (x ∷ w) ∷ parts))

  in_versions : (n : List ℕ) (parts : List (List ℕ)) → Agrees (n ∷ parts) (codes "versions")
  in_versions [] parts = rw (no_number (codes "versions") (x ∷ w) parts) (none_if (is_ws_name (x ∷ w)))
  in_versions (y ∷ n) [] =
      rw (of_some (Version (x ∷ w)) (number_of (y ∷ n))) (some_if (is_ws_name (x ∷ w)) (x ∷ w) (λ ws. option_map (Version ws) (number_of (y ∷ n))))
  in_versions (y ∷ n) (actions ∷ parts) =
      rw (no_action (codes "versions") (x ∷ w) (y ∷ n) actions parts (λ m act. refl)) (none_if (is_ws_name (x ∷ w)))

  -- what is taken behind a run's number
  abbrev acted : ℕ → List ℕ → Bool → List (List ℕ) → Option Resource
  acted y n v parts = within org (behind (x ∷ w) (behind (y ∷ n) (cond v (end_or None (finds (last_name IsAction) parts) parts) None)))

  no_end : (y : ℕ) (n : List ℕ) (v : Bool) → None ≡ acted y n v []
  no_end y n true = refl
  no_end y n false = refl

  long_end : (y : ℕ) (n action more : List ℕ) (parts : List (List ℕ)) (v : Bool) → None ≡ acted y n v (action ∷ more ∷ parts)
  long_end y n action more parts false = refl
  long_end y n [] more parts true = refl
  long_end y n (z ∷ action) more parts true = refl

  at_end : (y : ℕ) (n action : List ℕ) (v : Bool)
      → cond (is_ws_name (x ∷ w)) (option_and_then (λ m. option_and_then (λ act. cond v (Some (Action (x ∷ w) m act)) None) (action_of action)) (number_of (y ∷ n))) None
      ≡ acted y n v (action ∷ [])
  at_end y n action false =
      rw (none_of (λ m. option_and_then (λ act. None) (action_of action)) (λ m. none_of (λ act. None) (λ act. refl) (action_of action)) (number_of (y ∷ n))) (none_if (is_ws_name (x ∷ w)))
  at_end y n [] true = rw (none_of (λ m. None) (λ m. refl) (number_of (y ∷ n))) (none_if (is_ws_name (x ∷ w)))
  at_end y n (z ∷ action) true =
      rw (acts (x ∷ w) (number_of (y ∷ n)) (action_of (z ∷ action)))
      (some_if (is_ws_name (x ∷ w)) (x ∷ w) (λ ws. option_and_then (λ m. option_map (Action ws m) (action_of (z ∷ action))) (number_of (y ∷ n))))

  in_runs : (n : List ℕ) (parts : List (List ℕ)) → Agrees (n ∷ parts) (codes "runs")
  in_runs [] parts = rw (no_number (codes "runs") (x ∷ w) parts) (none_if (is_ws_name (x ∷ w)))
  in_runs (y ∷ n) [] = rw (of_some (Run (x ∷ w)) (number_of (y ∷ n))) (some_if (is_ws_name (x ∷ w)) (x ∷ w) (λ ws. option_map (Run ws) (number_of (y ∷ n))))
  in_runs (y ∷ n) (actions ∷ []) = none_if (is_ws_name (x ∷ w)) ∙ no_end y n (bytes_eq actions (codes "actions"))
  in_runs (y ∷ n) (actions ∷ action ∷ []) = at_end y n action (bytes_eq actions (codes "actions"))
  in_runs (y ∷ n) (actions ∷ action ∷ more ∷ parts) = none_if (is_ws_name (x ∷ w)) ∙ long_end y n action more parts (bytes_eq actions (codes "actions"))

  in_workspace : (parts : List (List ℕ)) (word : List ℕ) → Agrees parts word
  in_workspace [] =
      let v = is_ws_name (x ∷ w) in
      by_word (Agrees []) (some_if v (x ∷ w) (λ ws. Some (Workspace ws))) (some_if v (x ∷ w) (λ ws. Some (State ws)))
      (some_if v (x ∷ w) (λ ws. Some (AllVersions ws))) (some_if v (x ∷ w) (λ ws. Some (AllRuns ws)))
      (λ p e f g h. rw (e, f, g, h) (none_if v))
  in_workspace (n ∷ parts) =
      let none : (p : List ℕ) → ((m : ℕ) → of_number p (x ∷ w) m ≡ None) → ((actions : List ℕ) (m : ℕ) (act : RunAction) → of_action p actions (x ∷ w) m act ≡ None)
      → after_org (p ∷ (x ∷ w) ∷ n ∷ parts) ≡ None = λ p f g. rw (no_more p (x ∷ w) n parts f g) (none_if (is_ws_name (x ∷ w))) in
      by_word (Agrees (n ∷ parts)) (none (codes "workspaces") (λ m. refl) (λ actions m act. refl)) (none (codes "state") (λ m. refl) (λ actions m act. refl))
      (in_versions n parts) (in_runs n parts)
      (λ p e f g h. none p (λ m. rw (g, h) refl) (λ actions m act. rw h refl) ∙ rw (e, f, g, h) refl)

in_words : (org : List ℕ) (parts : List (List ℕ)) → after_org parts ≡ within org (finds words parts)
in_words org [] = refl
in_words org (word ∷ []) = by_word (λ p. after_org (p ∷ []) ≡ within org (finds words (p ∷ []))) refl refl refl refl (λ p e f g h. rw (e, f, g, h) refl) word
in_words org (word ∷ [] ∷ parts) =
    by_word (λ p. None ≡ within org (finds words (p ∷ [] ∷ parts))) refl refl refl refl (λ p e f g h. rw (e, f, g, h) refl) word
in_words org (word ∷ (x ∷ w) ∷ parts) = in_workspace org x w parts word

-- a resource is in the organization, where its name parses
in_named : (org : List ℕ) (found : Taken (RouteOf Kind)) → cond (is_org_name org) (option_map (in_org org) (within org found)) None ≡ names_of (behind org found)
in_named org None = none_if (is_org_name org)
in_named org (Some found) = some_if (is_org_name org) org (λ o. option_map (in_org o) (resource_named found.0.value (zip param_names (org ∷ found.1))))

-- the parts after the version
abbrev named_at : Bool → Bool → List (List ℕ) → Option OrgResource
named_at a b [] = None
named_at a b (org ∷ parts) = cond (a && b && is_org_name org) (option_map (in_org org) (after_org parts)) None

pub path_names : (parts : List (List ℕ)) → resource_at parts ≡ names_of (finds tree parts)
path_names [] = refl
path_names (root ∷ []) = elim (bytes_eq root []) as (λ a. None ≡ names_of (cond a None None)) [ true ↦ refl | false ↦ refl ]
path_names (root ∷ version ∷ parts) = by (bytes_eq root []) (bytes_eq version (codes "v1")) parts
  where
    by : (a b : Bool) (parts : List (List ℕ)) → named_at a b parts ≡ names_of (cond a (cond b (end_or None (finds (at_name None words) parts) parts) None) None)
    by true true [] = refl
    by true false [] = refl
    by false b [] = refl
    by false b (org ∷ parts) = refl
    by true false (org ∷ parts) = refl
    by true true ([] ∷ parts) = refl
    by true true ((x ∷ org) ∷ []) = none_if (is_org_name (x ∷ org))
    by true true ((x ∷ org) ∷ word ∷ parts) = rw (in_words (x ∷ org) (word ∷ parts)) (in_named (x ∷ org) (finds words (word ∷ parts)))
