-- What is read on two connections, part by part, to see whether an organization is the same in both.
use Rattle.tables.proofs.Outside.{⊤, ◌≡◌, ℕ, ◌+◌, ◌<◌, ◌≤◌, Bool, true, false, List, [], ◌∷◌, ◌++◌, map, take, length, get_or, Option, Some, option_map, IsTrue, Result, Ok, Err, refl, sym, ap, subst, ◌∙◌, take_all, take_more, same_Some, AllByRecursion, FinMap, entries, entries_sorted, get-entries, same_map, all_weaker, Ghosts, Database, Held, state, HasCleanDisk, name_cmp, Workspace, names_total, names_same, NamedToken, cap_of, bound_of, digest_tokens_of, workspace_names_of, Equals, Queries, Sees, Tables, Holds, tables_of, still_holds, sees_by, text_of, Bounds, unwrap_or}
use Rattle.std.specs.FinMap.Entries.{find as find_entry}
use Rattle.basis.specs.declared.rows.VersionRow.{VersionRow as Head}
use Rattle.tables.specs.Records.{no_bounds, token_of_cells, version_of_cells, version_at, workspace_of_cells, workspace_by, tokens_at, workspaces_at, record_of}
use Rattle.tables.specs.Sound.{IsSound}
use Rattle.tables.specs.Stores.{records_of}
use Rattle.tables.specs.Opening.{IsSoundKeep}
use Rattle.tables.specs.declared.loading.LoadedWorkspace.{LoadedWorkspace}
use Rattle.tables.specs.declared.memo.Memo.{Memo}
use Rattle.tables.specs.Inner.Imports.{token_entry}
use Rattle.tables.specs.Inner.Copies.{IsWhole}
use Rattle.tables.specs.Inner.Steps.{IsAllCommitted}
use Rattle.tables.specs.Inner.Comparing.{AreAlike, AreMappedAlike, Agree, AgreeCommitted, IsSameRecord}
use Rattle.tables.proofs.Copying.{mapped_more, seen_none}
use Rattle.tables.proofs.Arriving.{unchanged_on, unchanged_as}
use Rattle.tables.proofs.Brought.{token_entries, workspace_names}
use Rattle.tables.proofs.Ranks.{all_found}
use Rattle.tables.proofs.Sets.{got_workspace}

-- ---- items of a list

-- one more that is the same
pub mapped_alike : {X Y : Type 0} (f h : X → Y) (xs : List X) (i : ℕ) (x : X) → i < length xs → x ≡ get_or xs i x → map f (take i xs) ≡ map h (take i xs) → f x ≡ h x → map f (take (i + 1) xs) ≡ map h (take (i + 1) xs)
mapped_alike f h xs i x within is before one =
    sym (mapped_more f xs i x (map f (take i xs)) (f x) within is refl refl)
    ∙ (λ k. before k ++ one k ∷ [])
    ∙ mapped_more h xs i x (map h (take i xs)) (h x) within is refl refl

-- a front, and the rest that follows it
pub same_front : {X : Type 0} (xs ys rest others : List X) (i : ℕ) (x y : X) → i < length xs → x ≡ get_or xs i x → rest ≡ y ∷ others → x ≡ y → take i xs ++ rest ≡ ys → take (i + 1) xs ++ others ≡ ys
same_front {X} xs ys rest others i x y within is first same before =
    ap (λ (l : List X). l ++ others) (sym (mapped_id within is))
    ∙ append_one (take i xs) x others ∙ ap (λ (z : X). take i xs ++ z ∷ others) same ∙ ap (λ (l : List X). take i xs ++ l) (sym first) ∙ before
  where
    append_one : (l : List X) (z : X) (m : List X) → (l ++ z ∷ []) ++ m ≡ l ++ z ∷ m
    append_one [] z m = refl
    append_one (a ∷ l) z m = ap (λ (n : List X). a ∷ n) (append_one l z m)

    mapped_id : i < length xs → x ≡ get_or xs i x → take i xs ++ x ∷ [] ≡ take (i + 1) xs
    mapped_id below at = ap (λ (z : X). take i xs ++ z ∷ []) at ∙ sym (take_more xs i x below)

-- ---- what two looks say

module _ {S : Type 0} (g : Ghosts S) where
  -- where the answer is no, nothing is said
  pub differ : (E : Type 0) (R : Tables → Tables → Type 0) (a b p q : Held S) (x : Bool) → x ≡ false → Agree {E = E} g R a b p q (Ok x)
  differ E R a b p q true e = λ clean there is f t held sound holds good. absurd (let no : ⊥ = cc in no)
  differ E R a b p q false e = λ clean there is f t held sound holds good. absurd (let no : ⊥ = cc in no)

  -- a look at each
  pub look_at_both : {X Y E F : Type 0} (G : Type 0) (P : X → Tables → Type 0) (Q : Y → Tables → Type 0) (R : Tables → Tables → Type 0) (a b p q : Held S) (x : X) (y : Y) (z : Bool)
      → (z ≡ true → (f t : Tables) → IsSound f → IsSound t → P x f → Q y t → R f t) → Sees {E = E} g P a b (Ok x) → Sees {E = F} g Q p q (Ok y) → Agree {E = G} g R a b p q (Ok z)
  look_at_both G P Q R a b p q x y z means one other = λ clean there is f t held sound holds good. means is f t sound good ((one.sees clean).0 f held) ((other.sees there).0 t holds)

  -- a look at each, and what was read behind them
  pub looks_then : {X Y E F G : Type 0} (P : X → Tables → Type 0) (Q : Y → Tables → Type 0) (R V : Tables → Tables → Type 0) (a b c p q r : Held S) (x : X) (y : Y) (result : Result Bool G)
      → ((f t : Tables) → IsSound f → IsSound t → P x f → Q y t → R f t → V f t) → Sees {E = E} g P a b (Ok x) → Sees {E = F} g Q p q (Ok y)
      → (HasCleanDisk (state g c) → HasCleanDisk (state g b)) → (HasCleanDisk (state g r) → HasCleanDisk (state g q)) → Agree g R b c q r result → Agree g V a c p r result
  looks_then P Q R V a b c p q r x y (Ok z) means one other before before_there last = λ clean there is f t held sound holds good.
      let read = one.sees (before clean) in
      let found = other.sees (before_there there) in
      means f t sound good (read.0 f held) (found.0 t holds)
      (last clean there is f t (still_holds (state g a) (state g b) read.1.0 f held) sound (still_holds (state g p) (state g q) found.1.0 t holds) good)
  looks_then P Q R V a b c p q r x y (Err e) means one other before before_there last = λ clean there. tt

  -- two comparisons, one after the other
  pub agree_then : {E F : Type 0} (R Q V : Tables → Tables → Type 0) (a b c p q r : Held S) (x : Bool) (result : Result Bool F) → ((f t : Tables) → R f t → Q f t → V f t) → x ≡ true
      → Sees {E = E} g (λ _ _. ⊤) a b (Ok x) → Sees {E = E} g (λ _ _. ⊤) p q (Ok x) → Agree {E = E} g R a b p q (Ok x)
      → (HasCleanDisk (state g c) → HasCleanDisk (state g b)) → (HasCleanDisk (state g r) → HasCleanDisk (state g q)) → Agree g Q b c q r result → Agree g V a c p r result
  agree_then R Q V a b c p q r x (Ok z) means so_is one other first before before_there last = λ clean there is f t held sound holds good.
      let read = one.sees (before clean) in
      let found = other.sees (before_there there) in
      means f t (first (before clean) (before_there there) so_is f t held sound holds good)
      (last clean there is f t (still_holds (state g a) (state g b) read.1.0 f held) sound (still_holds (state g p) (state g q) found.1.0 t holds) good)
  agree_then R Q V a b c p q r x (Err e) means so_is one other first before before_there last = λ clean there. tt

  -- what is so of the items so far, and nothing was changed
  pub record SoFar {X Y : Type 0} (E : Type 0) (h : Tables → X → Y) (xs : List X) (i : ℕ) (a b p q : Held S) : Type 0 where
    pub one : Sees {X = Bool} {E = E} g (λ _ _. ⊤) a b (Ok true)
    pub other : Sees {X = Bool} {E = E} g (λ _ _. ⊤) p q (Ok true)
    pub same : Agree {E = E} g (AreMappedAlike h (take i xs)) a b p q (Ok true)

  pub none_yet : {X Y E : Type 0} (h : Tables → X → Y) (xs : List X) (a p : Held S) → SoFar E h xs 0 a a p p
  none_yet {E = E} h xs a p = record { one = seen_none g {E = E} a true; other = seen_none g {E = E} p true; same = λ clean there is f t held sound holds good. refl }

  pub one_more : {X Y E F : Type 0} (h : Tables → X → Y) (xs : List X) (i : ℕ) (x : X) (a b c p q r : Held S) (y : Bool) → i < length xs → x ≡ get_or xs i x → y ≡ true → SoFar E h xs i a b p q
      → Sees {E = F} g (λ _ _. ⊤) b c (Ok y) → Sees {E = F} g (λ _ _. ⊤) q r (Ok y) → Agree {E = F} g (AreAlike h x) b c q r (Ok y) → SoFar E h xs (i + 1) a c p r
  one_more {E = E} {F = F} h xs i x a b c p q r y within is so_is so one other same = record {
    one = unchanged_as g (λ _ _. ⊤) a c y (Ok true) (unchanged_on g a b c true (Ok y) so.one one);
    other = unchanged_as g (λ _ _. ⊤) p r y (Ok true) (unchanged_on g p q r true (Ok y) so.other other);
    same = λ clean there.
        let agreed = agree_then {E = E} {F = F} (AreMappedAlike h (take i xs)) (AreAlike h x) (AreMappedAlike h (take (i + 1) xs)) a b c p q r true (Ok y) (λ f t before last. mapped_alike (h f) (h t) xs i x within is before last) refl so.one so.other so.same one.so_far other.so_far same in
        λ is_same f t held sound holds good. agreed clean there so_is f t held sound holds good;
  }

  -- all of them
  pub mapped_all : {X Y E : Type 0} (h : Tables → X → Y) (xs : List X) (i : ℕ) (a b p q : Held S) → length xs ≤ i → SoFar E h xs i a b p q → Agree {E = E} g (AreMappedAlike h xs) a b p q (Ok true)
  mapped_all {E = E} h xs i a b p q past so = subst (λ l. Agree {E = E} g (AreMappedAlike h l) a b p q (Ok true)) (take_all i xs past) so.same

-- ---- what rows denote

pub text_alike : (org ws : List ℕ) (head : Head) (text found : List ℕ) → text ≡ found → (f t : Tables) → text ≡ text_of org ws head.number head.size f → found ≡ text_of org ws head.number head.size t → version_at f org ws head ≡ version_at t org ws head
text_alike org ws head text found same f t read there = ap (λ (bytes : List ℕ). version_of_cells bytes head) (sym read ∙ same ∙ there)

pub token_alike : (org : List ℕ) (x : NamedToken) (reach found : Option Bounds) → reach ≡ found → (f t : Tables) → reach ≡ bound_of org x.name f → found ≡ bound_of org x.name t → token_entry f org x ≡ token_entry t org x
token_alike org x reach found same f t read there = ap (λ (o : Option Bounds). (x.name, token_of_cells (unwrap_or o no_bounds) x.it)) (sym read ∙ same ∙ there)

pub workspace_alike : (org ws : List ℕ) (a b : LoadedWorkspace) → a ≡ b → (f t : Tables) → IsWhole org ws f a.it a.retention a.versions a.runs → IsWhole org ws t b.it b.retention b.versions b.runs
    → map (version_at f org ws) a.versions ≡ map (version_at t org ws) a.versions → workspace_by f org ws ≡ workspace_by t org ws
workspace_alike org ws a b same f t one other texts =
    one.is
    ∙ ap (λ vs. Some (workspace_of_cells a.retention a.it vs a.runs)) texts
    ∙ ap (λ (w : LoadedWorkspace). Some (workspace_of_cells w.retention w.it (map (version_at t org ws) w.versions) w.runs)) same
    ∙ sym other.is

-- maps with the same entries are the same
maps_alike : {X : Type 0} (m n : FinMap name_cmp X) → entries m ≡ entries n → m ≡ n
maps_alike m n same = same_map names_total names_same m n (λ q. get-entries m q ∙ ap (find_entry name_cmp q) same ∙ sym (get-entries n q))

pub tokens_alike : (org : List ℕ) (list found : List NamedToken) → list ≡ found → (f t : Tables) → list ≡ digest_tokens_of org f → found ≡ digest_tokens_of org t → map (token_entry f org) list ≡ map (token_entry t org) list
    → tokens_at f org ≡ tokens_at t org
tokens_alike org list found same f t read there mapped =
    maps_alike (tokens_at f org) (tokens_at t org)
    (sym (token_entries f org) ∙ ap (map (token_entry f org)) (sym read) ∙ mapped ∙ ap (map (token_entry t org)) (same ∙ there) ∙ token_entries t org)

-- the workspaces of a record are those that the rows denote by their names
workspaces_here : (f : Tables) (org : List ℕ) → AllByRecursion (λ (e : List ℕ × Workspace). workspace_by f org e.0 ≡ Some e.1) (entries (workspaces_at f org))
workspaces_here f org =
    all_weaker (λ (e : List ℕ × Workspace). find_entry name_cmp e.0 (entries (workspaces_at f org)) ≡ Some e.1) (λ (e : List ℕ × Workspace). workspace_by f org e.0 ≡ Some e.1)
    (λ e is. sym (got_workspace f org e.0) ∙ get-entries (workspaces_at f org) e.0 ∙ is) (entries (workspaces_at f org)) (all_found (entries (workspaces_at f org)) (entries_sorted (workspaces_at f org)))

abbrev names_in : List (List ℕ × Workspace) → List (List ℕ)
names_in es = map (λ (e : List ℕ × Workspace). e.0) es

-- entries with the same names, under which the same is found
entries_alike : (one other : List ℕ → Option Workspace) (es ds : List (List ℕ × Workspace)) → AllByRecursion (λ (e : List ℕ × Workspace). one e.0 ≡ Some e.1) es → AllByRecursion (λ (e : List ℕ × Workspace). other e.0 ≡ Some e.1) ds
    → names_in es ≡ names_in ds → map one (names_in es) ≡ map other (names_in es) → es ≡ ds
entries_alike one other [] [] are there names same = refl
entries_alike one other [] (d ∷ ds) are there names same = absurd (let no : ⊥ = cc in no)
entries_alike one other (e ∷ es) [] are there names same = absurd (let no : ⊥ = cc in no)
entries_alike one other (e ∷ es) (d ∷ ds) are there names same =
    let first : e.0 ≡ d.0 = cc in
    let rest : names_in es ≡ names_in ds = cc in
    let here : one e.0 ≡ other e.0 = cc in
    let behind : map one (names_in es) ≡ map other (names_in es) = cc in
    let second : e.1 ≡ d.1 = same_Some e.1 d.1 (sym are.0 ∙ here ∙ ap other first ∙ there.0) in
    let more : es ≡ ds = entries_alike one other es ds are.1 there.1 rest behind in
    λ i. (first i, second i) ∷ more i

pub workspaces_alike : (org : List ℕ) (names found : List (List ℕ)) → names ≡ found → (f t : Tables) → names ≡ workspace_names_of org f → found ≡ workspace_names_of org t → map (workspace_by f org) names ≡ map (workspace_by t org) names
    → workspaces_at f org ≡ workspaces_at t org
workspaces_alike org names found same f t read there mapped =
    let named : names ≡ names_in (entries (workspaces_at f org)) = read ∙ workspace_names f org in
    let named_there : names ≡ names_in (entries (workspaces_at t org)) = same ∙ there ∙ workspace_names t org in
    maps_alike (workspaces_at f org) (workspaces_at t org)
    (entries_alike (workspace_by f org) (workspace_by t org) (entries (workspaces_at f org)) (entries (workspaces_at t org)) (workspaces_here f org) (workspaces_here t org) (sym named ∙ named_there)
    (subst (λ (ns : List (List ℕ)). map (workspace_by f org) ns ≡ map (workspace_by t org) ns) named mapped))

pub record_alike : (org : List ℕ) (f t : Tables) → cap_of org f ≡ cap_of org t → tokens_at f org ≡ tokens_at t org → workspaces_at f org ≡ workspaces_at t org → record_of f org ≡ record_of t org
record_alike org f t caps tokens workspaces = λ i. option_map (λ (cap : ℕ). record { limit = cap; tokens = tokens i; workspaces = workspaces i }) (caps i)

-- ---- committed rows, and stores

module _ {S : Type 0} (g : Ghosts S) where
  -- limits that are the same, and then tokens and workspaces
  pub organization_alike : {E F G : Type 0} (org : List ℕ) (cap found : Option ℕ) → cap ≡ found → (a b c p q r : Held S) (result : Result Bool G) → IsAllCommitted (state g a) → IsAllCommitted (state g p)
      → Queries {E = E} g (Equals (cap_of org)) a b (Ok cap) → Queries {E = F} g (Equals (cap_of org)) p q (Ok found) → (HasCleanDisk (state g c) → HasCleanDisk (state g b)) → (HasCleanDisk (state g r) → HasCleanDisk (state g q))
      → Agree g (λ f t. AreAlike tokens_at org f t × AreAlike workspaces_at org f t) b c q r result → AgreeCommitted g (IsSameRecord org) a c p r result
  organization_alike {G = G} org cap found same a b c p q r (Ok z) committed committed_there one other before before_there last = λ clean there is.
      let was = (one.read (before clean)).1.0.0.was_open in
      let was_there = (other.read (before_there there)).1.0.0.was_open in
      let agreed = looks_then g {G = G} (Equals (cap_of org)) (Equals (cap_of org)) (λ f t. AreAlike tokens_at org f t × AreAlike workspaces_at org f t) (IsSameRecord org) a b c p q r cap found (Ok z)
      (λ f t sound good read reported both. record_alike org f t (sym read ∙ same ∙ reported) both.0 both.1) (sees_by g (Equals (cap_of org)) a b (Ok cap) one) (sees_by g (Equals (cap_of org)) p q (Ok found) other) before before_there last in (
        was,
        was_there,
        λ f t held sound holds good. agreed clean there is f t (subst (λ (d : Database). Holds d f) (sym (committed was)) held) sound (subst (λ (d : Database). Holds d t) (sym (committed_there was_there)) holds) good,
      )
  organization_alike org cap found same a b c p q r (Err e) committed committed_there one other before before_there last = λ clean there. tt

  pub organizations_differ : (E : Type 0) (R : Tables → Tables → Type 0) (a b p q : Held S) → AgreeCommitted {E = E} g R a b p q (Ok false)
  organizations_differ E R a b p q = λ clean there is. absurd (let no : ⊥ = cc in no)

  -- the stores of two connections
  pub records_alike : (E : Type 0) (org : List ℕ) (db source : Database) (memo memo_there : Memo) (a b p q : Held S) (x : Bool) → AgreeCommitted {E = E} g (IsSameRecord org) a b p q (Ok x) → HasCleanDisk (state g b) → HasCleanDisk (state g q) → IsTrue x
      → IsSoundKeep db memo (state g a) → IsSoundKeep source memo_there (state g p) → records_of db org ≡ records_of source org
  records_alike E org db source memo memo_there a b p q x agree clean there is sound good =
      let agreed = agree clean there is in
      agreed.2 (tables_of db) (tables_of source) (subst (λ (d : Database). Holds d (tables_of db)) (sym (sound.tied agreed.0)) sound.store.holds) sound.store.sound
      (subst (λ (d : Database). Holds d (tables_of source)) (sym (good.tied agreed.1)) good.store.holds) good.store.sound
