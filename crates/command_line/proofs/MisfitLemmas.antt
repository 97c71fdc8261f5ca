-- Where the values fit each argument of a command, they ask for something.
use Rattle.std.proofs.Common.{◌≡◌, ◌∙◌, ℕ, List, [], ◌∷◌, Bool, true, false, not, ◌&&◌, cond, Option, Some, None, option_map, is_some, codes, refl, sym, ap, ◌+◌, suc, arith, ◌<◌, ◌≤◌, length, drop, drop-cons, drop_of_length-le}
use Rattle.std.specs.Prelude.{⊤, find, option_and_then}
use Rattle.std.specs.List.{slice_index_or}
use Rattle.std.specs.Option.{option_map_or}
use Rattle.std.specs.Str.{bytes_eq}
use Rattle.basis.specs.Names.{is_org_name, is_prefix}
use Rattle.basis.specs.declared.roles.Role.{Role}
use Rattle.std.proofs.lemmas.List.{get_or_default}
use Rattle.std.proofs.lemmas.Bool.{and_from}
use Rattle.clap.proofs.WalkLemmas.{find_here}
use Rattle.command_line.specs.Arguments.{arguments_at, arguments_of, arguments_on, first_misfit, fits, is_one_of}
use Rattle.serve.specs.Bounds.{moment_of}
use Rattle.command_line.specs.Bounds.{bounds_given, prefix_given, until_given}
use Rattle.serve.specs.Parts.{limit_of, role_of, org_command, limit_command, remove_command, list_command, revoke_command}
use Rattle.command_line.specs.Orders.{Given, address_asked, asked_with, at_port, command_in, command_on, compacting_asked, connections_of, copying_asked, count_asked, file_asked, limit_or_first, port_of, removal_asked, removing_asked, seconds_of, seconds_or, serving_asked, timeouts_asked, token_asked}
use Rattle.command_line.specs.declared.arguments.Argument.{Argument}
use Rattle.command_line.specs.declared.arguments.Argument.TheVariants as argument

-- ---- options

some_then : {X Y : Type 0} (o : Option X) (f : X → Option Y) → is_some o ≡ true → ((x : X) → o ≡ Some x → is_some (f x) ≡ true) → is_some (option_and_then f o) ≡ true
some_then None f e g = cc
some_then (Some x) f e g = g x refl

some_map : {X Y : Type 0} (o : Option X) (f : X → Y) → is_some o ≡ true → is_some (option_map f o) ≡ true
some_map None f e = e
some_map (Some x) f e = refl

some_where : {X : Type 0} (b : Bool) (o : Option X) → b ≡ true → is_some o ≡ true → is_some (cond b o None) ≡ true
some_where true o e is = is
some_where false o e is = cc

-- a value that has to be there is there
is_there : {X : Type 0} (p : X → Bool) (o : Option X) → option_map_or p o false ≡ true → is_some o ≡ true
is_there p None e = e
is_there p (Some x) e = refl

-- and passes
passes : {X : Type 0} (p : X → Bool) (o : Option X) (x : X) → option_map_or p o false ≡ true → o ≡ Some x → p x ≡ true
passes p o x e is = rw is at e

-- ---- arguments that fit

abbrev pub AllFit : Given → List Argument → Type 0
AllFit given [] = ⊤
AllFit given (x ∷ xs) = (fits given x ≡ true) × AllFit given xs

none_of : (b : Bool) (x : Argument) (o : Option Argument) → cond (not b) (Some x) o ≡ None → (b ≡ true) × (o ≡ None)
none_of true x o e = (refl, e)
none_of false x o e = cc

all_of : (given : Given) (arguments : List Argument) → find (λ argument. not (fits given argument)) arguments ≡ None → AllFit given arguments
all_of given [] none = tt
all_of given (x ∷ xs) none =
    let split = none_of (fits given x) x _ none in
    (split.0, all_of given xs split.1)

-- what a list of arguments, all of which fit, leads to
abbrev pub Leads : {X : Type 0} → Given → List Argument → Option X → Type 0
Leads given arguments asked = AllFit given arguments → is_some asked ≡ true

either : {X : Type 0} (given : Given) (b : Bool) (ones others : List Argument) (one other : Option X) → Leads given ones one → Leads given others other → Leads given (cond b ones others) (cond b one other)
either given true ones others one other f g = f
either given false ones others one other f g = g

choose : {X : Type 0} (P : X → Type 0) (b : Bool) (one other : X) → P one → P other → P (cond b one other)
choose P true one other p q = p
choose P false one other p q = q

-- ---- values

seconds_fit : (usual : ℕ) (o : Option (List ℕ)) → option_map_or (λ word. is_some (seconds_of word)) o true ≡ true → is_some (seconds_or usual o) ≡ true
seconds_fit usual None e = refl
seconds_fit usual (Some word) e = e

limit_fits : (o : Option (List ℕ)) → option_map_or (λ word. is_some (limit_of word)) o true ≡ true → is_some (limit_or_first o) ≡ true
limit_fits None e = refl
limit_fits (Some word) e = e

until_fits : (o : Option (List ℕ)) → option_map_or (λ word. is_some (moment_of word)) o true ≡ true → is_some (until_given o) ≡ true
until_fits None e = refl
until_fits (Some word) e = some_map (moment_of word) _ e

prefix_fits : (o : Option (List ℕ)) → option_map_or is_prefix o true ≡ true → is_some (prefix_given o) ≡ true
prefix_fits None e = refl
prefix_fits (Some word) e = some_where (is_prefix word) (Some word) e refl

bounds_fit : (until prefix : Option (List ℕ)) → option_map_or (λ word. is_some (moment_of word)) until true ≡ true → option_map_or is_prefix prefix true ≡ true → is_some (bounds_given until prefix) ≡ true
bounds_fit until prefix u p = some_then (until_given until) _ (until_fits until u) (λ end is. some_map (prefix_given prefix) _ (prefix_fits prefix p))

address_fits : (port socket : Option (List ℕ)) → is_one_of (is_some port) (is_some socket) ≡ true → option_map_or (λ word. is_some (port_of word)) port true ≡ true → is_some (address_asked port socket) ≡ true
address_fits (Some word) (Some path) one e = cc
address_fits (Some word) None one e = some_map (port_of word) at_port e
address_fits None (Some path) one e = refl
address_fits None None one e = one

count_fits : (o : Option (List ℕ)) (unlimited : Bool) → is_one_of (is_some o) unlimited ≡ true → option_map_or (λ word. is_some (connections_of word)) o true ≡ true → is_some (count_asked o unlimited) ≡ true
count_fits (Some word) true one e = cc
count_fits (Some word) false one e = e
count_fits None true one e = refl
count_fits None false one e = one

-- ---- commands

module _ (given : Given) (db : List ℕ) where
  serve_leads : Leads given (argument.Db ∷ argument.Listening ∷ argument.Port ∷ argument.Counting ∷ argument.Count ∷ argument.Idle ∷ argument.Most ∷ []) (serving_asked db given)
  serve_leads all =
      let timed : is_some (timeouts_asked given) ≡ true =
      some_then (seconds_or 10 given.idle) _ (seconds_fit 10 given.idle all.1.1.1.1.1.0)
      (λ idle is. some_map (seconds_or 120 given.most) _ (seconds_fit 120 given.most all.1.1.1.1.1.1.0)) in
      let counted : is_some (count_asked given.count given.unlimited) ≡ true =
      count_fits given.count given.unlimited all.1.1.1.0 all.1.1.1.1.0 in
      some_then (address_asked given.port given.socket) _ (address_fits given.port given.socket all.1.0 all.1.1.0)
      (λ site is. some_then (count_asked given.count given.unlimited) _ counted (λ count is. some_map (timeouts_asked given) _ timed))

  copy_leads : Leads given (argument.Db ∷ argument.To ∷ argument.Org ∷ []) (copying_asked db given)
  copy_leads all =
      let named = all.1.1.0 in
      some_then given.to _ all.1.0
      (λ to is. some_then given.org _ (is_there is_org_name given.org named)
      (λ org is. some_where (is_org_name org) _ (passes is_org_name given.org org named is) refl))

  removal_fits : (copied : Option (List ℕ)) (org : List ℕ) → is_org_name org ≡ true → is_some (removal_asked db copied org given.forces) ≡ true
  removal_fits None org named = some_map (remove_command org given.forces) _ (some_where (is_org_name org) _ named refl)
  removal_fits (Some copy) org named = some_where (is_org_name org) _ named refl

  removing_leads : Leads given (argument.Db ∷ argument.Org ∷ []) (removing_asked db given)
  removing_leads all =
      let named = all.1.0 in
      some_then given.org _ (is_there is_org_name given.org named) (λ org is. removal_fits given.copied org (passes is_org_name given.org org named is))

  compact_leads : Leads given (argument.Db ∷ argument.To ∷ []) (compacting_asked db given.to)
  compact_leads all = some_map given.to _ all.1.0

module _ (given : Given) where
  token_leads : Leads given (argument.Db ∷ argument.Org ∷ argument.Name ∷ argument.Role ∷ argument.Until ∷ argument.Prefix ∷ []) (token_asked given)
  token_leads all =
      let of_one = all.1.0 in
      let named = all.1.1.0 in
      let may = all.1.1.1.0 in
      let bounded : is_some (bounds_given given.until given.prefix) ≡ true =
      bounds_fit given.until given.prefix all.1.1.1.1.0 all.1.1.1.1.1.0 in
      some_then given.org _ (is_there is_org_name given.org of_one)
      (λ org is_org. some_then given.name _ (is_there is_org_name given.name named)
      (λ name is_name. some_then given.role _ (is_there (λ word. is_some (role_of word)) given.role may)
      (λ role is_role. some_where (is_org_name org && is_org_name name) _
      (and_from (is_org_name org) (is_org_name name) (passes is_org_name given.org org of_one is_org) (passes is_org_name given.name name named is_name))
      (some_then (role_of role) _ (passes (λ word. is_some (role_of word)) given.role role may is_role)
      (λ r is. some_map (bounds_given given.until given.prefix) _ bounded)))))

module _ (given : Given) (org : List ℕ) (is : given.org ≡ Some org) where
  fits_org : option_map_or is_org_name given.org false ≡ true → is_org_name org ≡ true
  fits_org e = passes is_org_name given.org org e is

  add_leads : Leads given (argument.Db ∷ argument.Org ∷ argument.Limit ∷ []) (org_command org (limit_or_first given.limit))
  add_leads all =
      some_where (is_org_name org) _ (fits_org all.1.0)
      (some_map (limit_or_first given.limit) _ (limit_fits given.limit all.1.1.0))

  limit_leads : Leads given (argument.Db ∷ argument.Org ∷ argument.NewLimit ∷ []) (option_and_then (λ limit. limit_command org (limit_of limit)) given.limit)
  limit_leads all =
      let limited = all.1.1.0 in
      some_then given.limit _ (is_there (λ word. is_some (limit_of word)) given.limit limited)
      (λ limit is_limit. some_where (is_org_name org) _ (fits_org all.1.0)
      (some_map (limit_of limit) _ (passes (λ word. is_some (limit_of word)) given.limit limit limited is_limit)))

  list_leads : Leads given (argument.Db ∷ argument.Org ∷ []) (list_command org)
  list_leads all = some_where (is_org_name org) _ (fits_org all.1.0) refl

  revoke_leads : Leads given (argument.Db ∷ argument.Org ∷ argument.Name ∷ []) (option_and_then (λ name. revoke_command org name) given.name)
  revoke_leads all =
      let named = all.1.1.0 in
      some_then given.name _ (is_there is_org_name given.name named)
      (λ name is_name. some_where (is_org_name org && is_org_name name) _
      (and_from (is_org_name org) (is_org_name name) (fits_org all.1.0) (passes is_org_name given.name name named is_name)) refl)

  on_leads : (command : List ℕ) → Leads given (arguments_on command) (command_on command org given)
  on_leads command =
      either given (bytes_eq command (codes "org-add")) _ _ _ _ add_leads
      (either given (bytes_eq command (codes "org-limit")) _ _ _ _ limit_leads
      (either given (bytes_eq command (codes "token-list")) _ _ _ _ list_leads
      (either given (bytes_eq command (codes "token-revoke")) _ _ _ _ revoke_leads (λ all. cc))))

-- each of these commands is on an organization
names_org : (given : Given) (command : List ℕ) → AllFit given (arguments_on command) → is_some given.org ≡ true
names_org given command =
    let Named : List Argument → Type 0 = λ arguments. AllFit given arguments → is_some given.org ≡ true in
    let named : option_map_or is_org_name given.org false ≡ true → is_some given.org ≡ true = is_there is_org_name given.org in
    choose Named (bytes_eq command (codes "org-add")) _ _ (λ all. named all.1.0)
    (choose Named (bytes_eq command (codes "org-limit")) _ _ (λ all. named all.1.0)
    (choose Named (bytes_eq command (codes "token-list")) _ _ (λ all. named all.1.0)
    (choose Named (bytes_eq command (codes "token-revoke")) _ _ (λ all. named all.1.0) (λ all. cc))))

command_leads : (given : Given) (command : List ℕ) → Leads given (cond (bytes_eq command (codes "org-list")) (argument.Db ∷ []) (arguments_on command)) (command_in command given)
command_leads given command =
    either given (bytes_eq command (codes "org-list")) _ _ _ _ (λ all. refl)
    (λ all. some_then given.org _ (names_org given command all) (λ org is. on_leads given org is command all))

-- a command on a file
file_leads : (given : Given) (command db : List ℕ) → Leads given (arguments_at command) (file_asked command db given)
file_leads given command db =
    either given (bytes_eq command (codes "serve")) _ _ _ _ (serve_leads given db)
    (either given (bytes_eq command (codes "check")) _ _ _ _ (λ all. refl)
    (either given (bytes_eq command (codes "admin")) _ _ _ _ (λ all. refl)
    (either given (bytes_eq command (codes "org-copy")) _ _ _ _ (copy_leads given db)
    (either given (bytes_eq command (codes "compact")) _ _ _ _ (compact_leads given db)
    (either given (bytes_eq command (codes "token-add")) _ _ _ _ (λ all. some_map (token_asked given) _ (token_leads given all))
    (either given (bytes_eq command (codes "org-remove")) _ _ _ _ (removing_leads given db)
    (λ all. some_map (command_in command given) _ (command_leads given command all))))))))

-- each of these commands is on a file
names_file : (given : Given) (command : List ℕ) → AllFit given (arguments_at command) → is_some given.db ≡ true
names_file given command =
    let Named : List Argument → Type 0 = λ arguments. AllFit given arguments → is_some given.db ≡ true in
    choose Named (bytes_eq command (codes "serve")) _ _ (λ all. all.0)
    (choose Named (bytes_eq command (codes "check")) _ _ (λ all. all.0)
    (choose Named (bytes_eq command (codes "admin")) _ _ (λ all. all.0)
    (choose Named (bytes_eq command (codes "org-copy")) _ _ (λ all. all.0)
    (choose Named (bytes_eq command (codes "compact")) _ _ (λ all. all.0)
    (choose Named (bytes_eq command (codes "token-add")) _ _ (λ all. all.0)
    (choose Named (bytes_eq command (codes "org-remove")) _ _ (λ all. all.0)
    (choose Named (bytes_eq command (codes "org-list")) _ _ (λ all. all.0)
    (choose Named (bytes_eq command (codes "org-add")) _ _ (λ all. all.0)
    (choose Named (bytes_eq command (codes "org-limit")) _ _ (λ all. all.0)
    (choose Named (bytes_eq command (codes "token-list")) _ _ (λ all. all.0)
    (choose Named (bytes_eq command (codes "token-revoke")) _ _ (λ all. all.0) (λ all. cc))))))))))))

leads : (command : List ℕ) (given : Given) → Leads given (arguments_of command) (asked_with command given)
leads command given =
    either given (bytes_eq command (codes "replay")) _ _ _ _ (λ all. refl)
    (λ all. some_then given.db _ (names_file given command all) (λ db is. file_leads given command db all))

-- a command whose values fit all its arguments asks for something
all_fit : (command : List ℕ) (given : Given) → first_misfit command given ≡ None → is_some (asked_with command given) ≡ true
all_fit command given none = leads command given (all_of given (arguments_of command) none)

not_both : {X : Type 0} (o : Option X) → o ≡ None → is_some o ≡ true → ⊥
not_both None none some = cc
not_both (Some x) none some = cc

-- so where it asks for nothing, an argument is at fault
pub one_misfits : (command : List ℕ) (given : Given) → asked_with command given ≡ None → first_misfit command given ≡ None → ⊥
one_misfits command given nothing all = not_both (asked_with command given) nothing (all_fit command given all)

-- ---- the check for it

pub misfit_at : {X : Type 0} (p : X → Bool) (xs : List X) (i : ℕ) (d : X) → i < length xs → p (slice_index_or xs i d) ≡ false → find (λ y. not (p y)) (drop i xs) ≡ find (λ y. not (p y)) xs → Some (slice_index_or xs i d) ≡ find (λ y. not (p y)) xs
misfit_at p xs i d lt hit same = find_here (λ y. not (p y)) xs i (slice_index_or xs i d) lt (get_or_default xs i d _ lt) (rw hit refl) same

pub misfit_past : {X : Type 0} (p : X → Bool) (xs : List X) (i : ℕ) (d : X) → i < length xs → p (slice_index_or xs i d) ≡ true → find (λ y. not (p y)) (drop i xs) ≡ find (λ y. not (p y)) xs → find (λ y. not (p y)) (drop (i + 1) xs) ≡ find (λ y. not (p y)) xs
misfit_past {X = X} p xs i d lt miss same =
    let q : X → Bool = λ y. not (p y) in
    let x : X = slice_index_or xs i d in
    let next : i + 1 ≡ suc i = omega arith in
    let here : find q (x ∷ drop (suc i) xs) ≡ find q (drop (suc i) xs) = rw miss refl in
    ap (λ n. find q (drop n xs)) next ∙ sym here ∙ ap (λ y. find q (y ∷ drop (suc i) xs)) (get_or_default xs i d x lt) ∙ sym (ap (find q) (drop-cons xs i x lt)) ∙ same

pub misfit_none : {X : Type 0} (q : X → Bool) (xs : List X) (i : ℕ) → length xs ≤ i → find q (drop i xs) ≡ find q xs → None ≡ find q xs
misfit_none q xs i past same = sym (ap (find q) (drop_of_length-le xs past)) ∙ same
