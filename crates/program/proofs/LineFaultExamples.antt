-- What holds of every line that is no command: the value that its fault names is not valid.
use Rattle.std.proofs.Common.{◌≡◌, ℕ, List, [], ◌∷◌, ◌&&◌, Bool, true, false, cond, Option, Some, None, option_map, refl}
use Rattle.std.specs.Prelude.{⊤, bytes_eq, codes, is_some, nat_eq, option_and_then}
use Rattle.std.specs.List.{starts_with}
use Rattle.basis.specs.Names.{is_org_name, is_secret}
use Rattle.basis.specs.declared.roles.Bounds.{Bounds}
use Rattle.basis.specs.declared.roles.Role.{Role}
use Rattle.serve.specs.Bounds.{bounds_of}
use Rattle.serve.specs.Parts.{limit_of, role_of}
use Rattle.serve.specs.Words.{command_of, org_add_of, org_limit_of, org_remove_of, org_list_of, token_add_of, token_list_of, token_revoke_of}
use Rattle.serve.specs.declared.steps.Admin.TheVariants.{OrgAdd, OrgLimit, OrgRemove, TokenAdd, TokenRevoke}
use Rattle.program.specs.LineFaults.{words_fault, org_add_fault, org_limit_fault, org_remove_fault, token_add_fault, token_list_fault, token_revoke_fault, bounds_fault, bound_fault, is_bound}
use Rattle.program.specs.declared.line_faults.LineFault.{LineFault}
use Rattle.program.specs.declared.line_faults.LineFault.TheVariants as fault

-- the word that a fault names, among the words behind a command's name, is not valid; of `until=` and `prefix=`, the words behind the secret are no bounds
abbrev IsInvalid : LineFault → List (List ℕ) → Type 0
IsInvalid fault.Org (org ∷ words) = is_org_name org ≡ false
IsInvalid fault.Name (org ∷ name ∷ words) = is_org_name name ≡ false
IsInvalid fault.Role (org ∷ name ∷ role ∷ words) = role_of role ≡ None
IsInvalid fault.Secret (org ∷ name ∷ role ∷ secret ∷ words) = is_secret secret ≡ false
IsInvalid fault.Until (org ∷ name ∷ role ∷ secret ∷ words) = bounds_of words ≡ None
IsInvalid fault.Prefix (org ∷ name ∷ role ∷ secret ∷ words) = bounds_of words ≡ None
IsInvalid fault.Limit (org ∷ limit ∷ words) = limit_of limit ≡ None
IsInvalid fault.NewLimit (org ∷ limit ∷ words) = limit_of limit ≡ None
IsInvalid fault.OrgRemove (org ∷ word ∷ []) = bytes_eq word (codes "force") ≡ false
IsInvalid fault words = ⊤

none_of : {X : Type 0} (b : Bool) (x : X) → cond b (Some x) None ≡ None → b ≡ false
none_of true x e = let no : ⊥ = cc in absurd no
none_of false x e = refl

org_adds : (words : List (List ℕ)) → org_add_of words ≡ None → IsInvalid (org_add_fault words) words
org_adds [] e = tt
org_adds (org ∷ []) e = none_of (is_org_name org) _ e
org_adds (org ∷ limit ∷ []) e = by_test (is_org_name org) (limit_of limit) refl refl e
  where
    by_test : (b : Bool) (o : Option ℕ) → is_org_name org ≡ b → limit_of limit ≡ o → cond b (option_map (λ n. OrgAdd org n) o) None ≡ None → IsInvalid (cond b fault.Limit fault.Org) (org ∷ limit ∷ [])
    by_test true None is none e = none
    by_test true (Some n) is some e = let no : ⊥ = cc in absurd no
    by_test false o is none e = is
org_adds (org ∷ limit ∷ word ∷ words) e = tt

org_limits : (words : List (List ℕ)) → org_limit_of words ≡ None → IsInvalid (org_limit_fault words) words
org_limits [] e = tt
org_limits (org ∷ []) e = tt
org_limits (org ∷ limit ∷ []) e = by_test (is_org_name org) (limit_of limit) refl refl e
  where
    by_test : (b : Bool) (o : Option ℕ) → is_org_name org ≡ b → limit_of limit ≡ o → cond b (option_map (λ n. OrgLimit org n) o) None ≡ None → IsInvalid (cond b fault.NewLimit fault.Org) (org ∷ limit ∷ [])
    by_test true None is none e = none
    by_test true (Some n) is some e = let no : ⊥ = cc in absurd no
    by_test false o is none e = is
org_limits (org ∷ limit ∷ word ∷ words) e = tt

org_removes : (words : List (List ℕ)) → org_remove_of words ≡ None → IsInvalid (org_remove_fault words) words
org_removes [] e = tt
org_removes (org ∷ []) e = none_of (is_org_name org) _ e
org_removes (org ∷ word ∷ []) e = by_test (is_org_name org) (bytes_eq word (codes "force")) refl refl e
  where
    by_test : (b f : Bool) → is_org_name org ≡ b → bytes_eq word (codes "force") ≡ f → cond f (cond b (Some (OrgRemove org true)) None) None ≡ None → IsInvalid (cond b fault.OrgRemove fault.Org) (org ∷ word ∷ [])
    by_test true true is forced e = let no : ⊥ = cc in absurd no
    by_test true false is other e = other
    by_test false f is other e = is
org_removes (org ∷ word ∷ other ∷ words) e = tt

-- the words behind a secret are no bounds, if one of them is at fault
bound_faults : (org name role secret word : List ℕ) (words : List (List ℕ)) → bounds_of words ≡ None → IsInvalid (bound_fault word) (org ∷ name ∷ role ∷ secret ∷ words)
bound_faults org name role secret word words none = by_test (starts_with nat_eq word (codes "until=")) (starts_with nat_eq word (codes "prefix="))
  where
    by_test : (u p : Bool) → IsInvalid (cond u fault.Until (cond p fault.Prefix fault.TokenAdd)) (org ∷ name ∷ role ∷ secret ∷ words)
    by_test true p = none
    by_test false true = none
    by_test false false = tt

all_bounds : (org name role secret : List ℕ) (words : List (List ℕ)) → bounds_of words ≡ None → IsInvalid (bounds_fault words) (org ∷ name ∷ role ∷ secret ∷ words)
all_bounds org name role secret [] none = tt
all_bounds org name role secret (word ∷ []) none = bound_faults org name role secret word (word ∷ []) none
all_bounds org name role secret (first ∷ second ∷ []) none = by_test (is_bound first) (is_bound second)
  where
    by_test : (f s : Bool) → IsInvalid (cond f (cond s fault.TokenAdd (bound_fault second)) (bound_fault first)) (org ∷ name ∷ role ∷ secret ∷ first ∷ second ∷ [])
    by_test true true = tt
    by_test true false = bound_faults org name role secret second (first ∷ second ∷ []) none
    by_test false s = bound_faults org name role secret first (first ∷ second ∷ []) none
all_bounds org name role secret (first ∷ second ∷ third ∷ words) none = tt

token_adds : (words : List (List ℕ)) → token_add_of words ≡ None → IsInvalid (token_add_fault words) words
token_adds [] e = tt
token_adds (org ∷ []) e = tt
token_adds (org ∷ name ∷ []) e = tt
token_adds (org ∷ name ∷ role ∷ []) e = tt
token_adds (org ∷ name ∷ role ∷ secret ∷ words) e = by_test (is_org_name org) (is_org_name name) (is_secret secret) (role_of role) (bounds_of words) refl refl refl refl refl e
  where
    by_test : (a n s : Bool) (r : Option Role) (b : Option Bounds) → is_org_name org ≡ a → is_org_name name ≡ n → is_secret secret ≡ s → role_of role ≡ r → bounds_of words ≡ b
        → option_and_then (λ bounds. cond (a && n && s) (option_map (λ r. TokenAdd org name r secret bounds) r) None) b ≡ None
        → IsInvalid (cond a (cond n (cond (is_some r) (cond s (bounds_fault words) fault.Secret) fault.Role) fault.Name) fault.Org) (org ∷ name ∷ role ∷ secret ∷ words)
    by_test false n s r b io jn ks ir ib e = io
    by_test true false s r b io jn ks ir ib e = jn
    by_test true true s None b io jn ks ir ib e = ir
    by_test true true false (Some r) b io jn ks ir ib e = ks
    by_test true true true (Some r) None io jn ks ir ib e = all_bounds org name role secret words ib
    by_test true true true (Some r) (Some b) io jn ks ir ib e = let no : ⊥ = cc in absurd no

token_lists : (words : List (List ℕ)) → token_list_of words ≡ None → IsInvalid (token_list_fault words) words
token_lists [] e = tt
token_lists (org ∷ []) e = none_of (is_org_name org) _ e
token_lists (org ∷ word ∷ words) e = tt

token_revokes : (words : List (List ℕ)) → token_revoke_of words ≡ None → IsInvalid (token_revoke_fault words) words
token_revokes [] e = tt
token_revokes (org ∷ []) e = tt
token_revokes (org ∷ name ∷ []) e = by_test (is_org_name org) (is_org_name name) refl refl e
  where
    by_test : (b n : Bool) → is_org_name org ≡ b → is_org_name name ≡ n → cond (b && n) (Some (TokenRevoke org name)) None ≡ None → IsInvalid (cond b fault.Name fault.Org) (org ∷ name ∷ [])
    by_test true true is named e = let no : ⊥ = cc in absurd no
    by_test true false is other e = other
    by_test false n is other e = is
token_revokes (org ∷ name ∷ word ∷ words) e = tt

-- of each line that is no command
blamed_values_are_invalid : (name : List ℕ) (words : List (List ℕ)) → command_of (name ∷ words) ≡ None → IsInvalid (words_fault (name ∷ words)) words
blamed_values_are_invalid name words e =
    by_name (bytes_eq name (codes "org-add")) (bytes_eq name (codes "org-limit")) (bytes_eq name (codes "org-remove")) (bytes_eq name (codes "org-list")) (bytes_eq name (codes "token-add")) (bytes_eq name (codes "token-list")) (bytes_eq name (codes "token-revoke")) e
  where
    by_name : (a b c d f g h : Bool)
        → cond a (org_add_of words) (cond b (org_limit_of words) (cond c (org_remove_of words) (cond d (org_list_of words) (cond f (token_add_of words) (cond g (token_list_of words) (cond h (token_revoke_of words) None)))))) ≡ None
        → IsInvalid (cond a (org_add_fault words) (cond b (org_limit_fault words) (cond c (org_remove_fault words) (cond d fault.OrgList (cond f (token_add_fault words) (cond g (token_list_fault words) (cond h (token_revoke_fault words) fault.Command))))))) words
    by_name true b c d f g h e = org_adds words e
    by_name false true c d f g h e = org_limits words e
    by_name false false true d f g h e = org_removes words e
    by_name false false false true f g h e = tt
    by_name false false false false true g h e = token_adds words e
    by_name false false false false false true h e = token_lists words e
    by_name false false false false false false true e = token_revokes words e
    by_name false false false false false false false e = tt
