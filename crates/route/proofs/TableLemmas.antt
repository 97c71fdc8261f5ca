-- The router's table is a tree, whose words are these four.
use Rattle.std.proofs.Common.{◌≡◌, ℕ, List, [], Some, None, Bool, true, false, refl, sym, subst, codes}
use Rattle.std.specs.Str.{bytes_eq}
use Rattle.matchit.specs.Router.{RouteOf}
use Rattle.basis.proofs.NameLemmas.{equal_bytes}
use Rattle.route.specs.declared.routes.Kind.{Kind}
use Rattle.route.specs.declared.routes.Kind.TheVariants.{ListsWorkspaces, IsWorkspace, IsState, ListsVersions, IsVersion, ListsRuns, IsRun, IsAction}
use Rattle.route.specs.Paths.{path_parts}
use Rattle.route.specs.Table.{table, route_of}
use Rattle.route.proofs.TreeLemmas.{Tree, nowhere, at_name, at_word, IsTree, Finds, finds, reads, IsStr}

-- a parameter at the end
abbrev pub last_name : Kind → Tree (RouteOf Kind)
last_name kind = at_name (Some (route_of kind)) nowhere

abbrev pub words : Tree (RouteOf Kind)
words =
    at_word (codes "runs") None (at_name (Some (route_of ListsRuns)) (at_name (Some (route_of IsRun)) (at_word (codes "actions") None (last_name IsAction) nowhere)))
    (at_word (codes "state") None (last_name IsState)
    (at_word (codes "versions") None (at_name (Some (route_of ListsVersions)) (last_name IsVersion))
    (at_word (codes "workspaces") (Some (route_of ListsWorkspaces)) (last_name IsWorkspace) nowhere)))

abbrev pub tree : Tree (RouteOf Kind)
tree = at_word [] None (at_word (codes "v1") None (at_name None words) nowhere) nowhere

words_tree : IsTree words
words_tree =
    (refl, refl, refl, refl, refl, (refl, refl, refl, refl, refl, tt, tt), (refl, refl, refl, refl, refl, tt, (refl, refl, refl, refl, refl, tt, (refl, refl, refl, refl, refl, tt, tt))))

pub reads_table : (path : List ℕ) → IsStr path → Finds table path (finds tree (path_parts path))
reads_table = reads tree (refl, refl, refl, refl, refl, (refl, refl, refl, refl, refl, words_tree, tt), tt)

-- four words, or another
pub by_word : (P : List ℕ → Type 0) → P (codes "workspaces") → P (codes "state") → P (codes "versions") → P (codes "runs")
    → ((p : List ℕ) → bytes_eq p (codes "workspaces") ≡ false → bytes_eq p (codes "state") ≡ false → bytes_eq p (codes "versions") ≡ false → bytes_eq p (codes "runs") ≡ false → P p)
    → (p : List ℕ) → P p
by_word P ws st vs rs other p = by (bytes_eq p (codes "workspaces")) refl (bytes_eq p (codes "state")) refl (bytes_eq p (codes "versions")) refl (bytes_eq p (codes "runs")) refl
  where
    by : (a : Bool) → bytes_eq p (codes "workspaces") ≡ a → (b : Bool) → bytes_eq p (codes "state") ≡ b
        → (c : Bool) → bytes_eq p (codes "versions") ≡ c → (d : Bool) → bytes_eq p (codes "runs") ≡ d → P p
    by true e b f c g d h = subst P (sym (equal_bytes p (codes "workspaces") e)) ws
    by false e true f c g d h = subst P (sym (equal_bytes p (codes "state") f)) st
    by false e false f true g d h = subst P (sym (equal_bytes p (codes "versions") g)) vs
    by false e false f false g true h = subst P (sym (equal_bytes p (codes "runs") h)) rs
    by false e false f false g false h = other p e f g h
