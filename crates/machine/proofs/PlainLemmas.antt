-- What the store in memory rests on: the newest version is the last of the list, a scan from the front finds the last of a number, and the entries of a map in their order are the list of all organizations.
use Rattle.machine.proofs.Outside.{◌≡◌, ℕ, zero, suc, ◌+◌, ◌-◌, ◌<◌, Bool, true, false, cond, eqb, ◌==◌, List, [], ◌∷◌, ◌++◌, length, take, get_or, slice_get, Option, Some, None, option_map, is_some, map, T, ◌||◌, IsSomeAnd, refl, sym, ap, subst, ◌∙◌, arith, option_or, AllByRecursion, list_any, bytes_eq, is_lt, eq_by_cmp, tied_itself, take_more, bytes_eq-Decides, FinMap, get, insert, remove, entries, entries_sorted, get-entries}
use Rattle.std.proofs.Math.Bool.{or-true}
use Rattle.machine.specs.Workspaces.{newest}
use Rattle.machine.specs.Units.{find_last, version_of}
use Rattle.machine.specs.Records.{with_workspace, placed}
use Rattle.machine.specs.Order.{name_cmp}
use Rattle.std.specs.FinMap.Entries.{find, is_sorted, below_all}
use Rattle.machine.specs.declared.acts.Change.{Change}
use Rattle.machine.specs.declared.records.Workspace.{Workspace}
use Rattle.machine.specs.declared.records.Organization.{Organization}
use Rattle.machine.specs.declared.records.Token.{Token}
use Rattle.machine.specs.declared.keeps.AdminAnswer.TheVariants.{Done, Absent, InUse}
use Rattle.machine.specs.declared.keeps.OrgRow.{OrgRow}
use Rattle.machine.specs.Effects.{effect}
use Rattle.machine.specs.Records.{count_of}
use Rattle.machine.specs.Inner.Places.{org_row}
use Rattle.machine.specs.Removal.{is_in_use, has_use, org_removed}
use Rattle.machine.specs.Tokens.{token_revoked, without_token, is_row_of, Ascend, ShowsOrganization, AreOrganizations}
use Rattle.machine.proofs.MapLemmas.{remove_absent, names_total, tied_names, below_apart, not_tied, both_first, both_second, is_true}
use Rattle.machine.specs.declared.records.Version.{Version}
use Rattle.machine.specs.Changes.{changed_by}

last_of_length : (vs : List Version) (n : ℕ) → length vs ≡ suc n → slice_get vs n ≡ newest vs
last_of_length [] n e = absurd (omega arith)
last_of_length (v ∷ []) zero e = refl
last_of_length (v ∷ []) (suc n) e = absurd (omega arith)
last_of_length (v ∷ w ∷ vs) zero e = absurd (omega arith)
last_of_length (v ∷ w ∷ vs) (suc n) e = last_of_length (w ∷ vs) n (omega arith)

pub newest_is_last : (vs : List Version) → slice_get vs (length vs - 1) ≡ newest vs
newest_is_last [] = refl
newest_is_last (v ∷ vs) = last_of_length (v ∷ vs) (length (v ∷ vs) - 1) (omega arith)

or_cond : {X : Type 0} (b : Bool) (x : X) (o p : Option X) → option_or (cond b (Some x) o) p ≡ cond b (Some x) (option_or o p)
or_cond true x o p = refl
or_cond false x o p = refl

pub find_last_push : {X : Type 0} (test : X → Bool) (xs : List X) (x : X) → find_last test (xs ++ x ∷ []) ≡ cond (test x) (Some x) (find_last test xs)
find_last_push test [] x = refl
find_last_push test (y ∷ xs) x = rw (find_last_push test xs x) (or_cond (test x) x _ _)

-- one version more
pub version_more : (n : ℕ) (vs : List Version) (i : ℕ) (v : Version) (b : Bool) → i < length vs → v ≡ get_or vs i v → eqb v.number n ≡ b → version_of n (take (i + 1) vs) ≡ cond b (Some v) (version_of n (take i vs))
version_more n vs i v b within is test =
    ap (version_of n) (take_more vs i v within) ∙ find_last_push (λ (u : Version). u.number == n) (take i vs) _ ∙ ap (λ (y : Version). cond (y.number == n) (Some y) (version_of n (take i vs))) (sym is) ∙ ap (λ t. cond t (Some v) (version_of n (take i vs))) test

-- a workspace that is there, after a change of it
pub workspace_changed : (m : FinMap name_cmp Workspace) (name : List ℕ) (change : Change) (old new : Workspace) → Some old ≡ get m name → Some new ≡ changed_by change (Some old) → insert m name new ≡ with_workspace m name (changed_by change (get m name))
workspace_changed m name change old new was is = rw (← was, ← is) refl

-- of a workspace that isn't there, a change that makes none changes nothing
pub absent_kept : (m : FinMap name_cmp Workspace) (name : List ℕ) (change : Change) → None ≡ get m name → changed_by change None ≡ None → m ≡ with_workspace m name (changed_by change (get m name))
absent_kept m name change none makes = rw (← none, makes) (sym (remove_absent m name (sym none)))

-- an organization after a change of one of its workspaces
pub organization_changed : (m : FinMap name_cmp Organization) (org ws : List ℕ) (change : Change) (old : Organization) (new : FinMap name_cmp Workspace) → Some old ≡ get m org → new ≡ with_workspace old.workspaces ws (changed_by change (get old.workspaces ws))
    → Some (record old { workspaces = new }) ≡ option_map (λ (o : Organization). placed o ws (changed_by change (get o.workspaces ws))) (get m org)
organization_changed m org ws change old new was is = rw (← was) (ap (λ w. Some (record old { workspaces = w })) is)

-- of an organization that has no token of the name, none is taken away
none_from : {X : Type 0} (o : Option X) → is_some o ≡ false → o ≡ None
none_from None e = refl
none_from (Some x) e = absurd (subst T e tt)

pub revoke_missed : (o : Organization) (name : List ℕ) (after : FinMap name_cmp Token) → after ≡ remove o.tokens name → is_some (get o.tokens name) ≡ false
    → effect Absent (Some (record o { tokens = after })) ≡ token_revoked name (Some o)
revoke_missed o name after made missed =
    ap (λ (m : FinMap name_cmp Token). effect Absent (Some (record o { tokens = m }))) (made ∙ remove_absent o.tokens name (none_from (get o.tokens name) missed))
    ∙ ap (λ b. cond b (effect Done (Some (without_token o name))) (effect Absent (Some o))) (sym missed)

-- what entries of another type tell of an organization's use
any_through : {E : Type 0} (name : E → List ℕ) (value : E → Workspace) (es : List E)
    → list_any (λ e. is_in_use (value e)) es ≡ list_any (λ (e : List ℕ × Workspace). is_in_use e.1) (map (λ e. (name e, value e)) es)
any_through name value [] = refl
any_through name value (e ∷ es) = ap (λ b. is_in_use (value e) || b) (any_through name value es)

pub use_seen : {E : Type 0} (o : Organization) (name : E → List ℕ) (value : E → Workspace) (es : List E) → map (λ e. (name e, value e)) es ≡ entries o.workspaces
    → list_any (λ e. is_in_use (value e)) es ≡ has_use o
use_seen o name value es same = any_through name value es ∙ ap (list_any (λ (e : List ℕ × Workspace). is_in_use e.1)) same

-- an organization stays where it is in use and nothing is forced, and goes otherwise
module _ (is_forced : Bool) (o : Organization) (r : Option Organization) (was : Some o ≡ r) where
  pub removal_refused : is_forced ≡ false → has_use o ≡ true → effect InUse r ≡ org_removed is_forced r
  removal_refused unforced used = rw (← was, unforced) (ap (λ b. cond b (effect InUse (Some o)) (effect Done None)) (sym used))

  module _ (after : Option Organization) (gone : after ≡ None) where
    pub unused_removed : is_forced ≡ false → has_use o ≡ false → effect Done after ≡ org_removed is_forced r
    unused_removed unforced unused = rw (← was, gone, unforced) (ap (λ b. cond b (effect InUse (Some o)) (effect Done None)) (sym unused))

    pub forced_removed : is_forced ≡ true → effect Done after ≡ org_removed is_forced r
    forced_removed forced = rw (← was, gone, forced) refl

-- the organizations of a map, a row for each
abbrev pub row_at : List ℕ × Organization → OrgRow
row_at e = org_row e.0 e.1

abbrev Entries : Type 0
Entries = List (List ℕ × Organization)

rows_above : (name : List ℕ) (es : Entries) → T (below_all name_cmp name es) → AllByRecursion (λ (later : OrgRow). is_lt (name_cmp name later.name) ≡ true) (map row_at es)
rows_above name [] below = tt
rows_above name (e ∷ es) below = (is_true _ (both_first _ _ below), rows_above name es (both_second _ _ below))

rows_ascend : (es : Entries) → T (is_sorted name_cmp es) → Ascend (map row_at es)
rows_ascend [] sorted = tt
rows_ascend (e ∷ es) sorted = (rows_above e.0 es (both_first _ _ sorted), rows_ascend es (both_second _ _ sorted))

-- each entry is found by its name
abbrev AreFoundIn : Entries → Entries → Type 0
AreFoundIn es fs = AllByRecursion (λ (f : List ℕ × Organization). find name_cmp f.0 es ≡ Some f.1) fs

found_later : (e : List ℕ × Organization) (es fs : Entries) → T (below_all name_cmp e.0 fs) → AreFoundIn es fs → AreFoundIn (e ∷ es) fs
found_later e es [] below found = tt
found_later e es (f ∷ fs) below found =
    (ap (λ b. cond b (Some e.1) (find name_cmp f.0 es)) (not_tied f.0 e.0 (below_apart e.0 f.0 (both_first _ _ below))) ∙ found.0, found_later e es fs (both_second _ _ below) found.1)

all_found : (es : Entries) → T (is_sorted name_cmp es) → AreFoundIn es es
all_found [] sorted = tt
all_found (e ∷ es) sorted =
    (rw (tied_itself names_total e.0) refl, found_later e es es (both_first _ _ sorted) (all_found es (both_second _ _ sorted)))

rows_shown : (m : FinMap name_cmp Organization) (fs : Entries) → AreFoundIn (entries m) fs → AllByRecursion (ShowsOrganization (λ o. get m o)) (map row_at fs)
rows_shown m [] found = tt
rows_shown m (f ∷ fs) found =
    (subst (λ (r : Option Organization). IsSomeAnd r (λ (o : Organization). (count_of f.1 ≡ count_of o) × (f.1.limit ≡ o.limit))) (sym (get-entries m f.0 ∙ found.0)) (refl, refl), rows_shown m fs found.1)

-- what is found has its row
row_found : (org : List ℕ) (o : Organization) (es : Entries) → find name_cmp org es ≡ Some o → list_any (is_row_of org) (map row_at es) ≡ true
row_found org o [] e = absurd (let none : ⊥ = cc in none)
row_found org o (x ∷ es) e = passed (eq_by_cmp name_cmp org x.0) refl e (row_found org o es)
  where
    passed : (b : Bool) → eq_by_cmp name_cmp org x.0 ≡ b → cond b (Some x.1) (find name_cmp org es) ≡ Some o → (find name_cmp org es ≡ Some o → list_any (is_row_of org) (map row_at es) ≡ true)
        → (bytes_eq x.0 org || list_any (is_row_of org) (map row_at es)) ≡ true
    passed true tied is more = ap (λ b. b || list_any (is_row_of org) (map row_at es)) ((bytes_eq-Decides x.0 org).1 (sym (tied_names org x.0 tied)))
    passed false tied is more = ap (λ b. bytes_eq x.0 org || b) (more is) ∙ or-true (bytes_eq x.0 org)

-- rows of another type, each of which is an entry
rows_through : {E : Type 0} (name : E → List ℕ) (value : E → Organization) (es : List E) → map (λ e. org_row (name e) (value e)) es ≡ map row_at (map (λ e. (name e, value e)) es)
rows_through name value [] = refl
rows_through name value (e ∷ es) = ap (λ rows. org_row (name e) (value e) ∷ rows) (rows_through name value es)

module _ (m : FinMap name_cmp Organization) where
  rows_are : (rows : List OrgRow) → rows ≡ map row_at (entries m) → AreOrganizations (λ o. get m o) rows
  rows_are rows is = subst (AreOrganizations (λ o. get m o)) (sym is) (record {
    ascend = rows_ascend (entries m) (entries_sorted m);
    reported = rows_shown m (entries m) (all_found (entries m) (entries_sorted m));
    whole = λ org o e. row_found org o (entries m) (sym (get-entries m org) ∙ e);
  })

  -- the list of all organizations
  pub organizations_listed : {E : Type 0} (name : E → List ℕ) (value : E → Organization) (es : List E) (rows : List OrgRow) → map (λ e. (name e, value e)) es ≡ entries m → rows ≡ map (λ e. org_row (name e) (value e)) es
      → AreOrganizations (λ o. get m o) rows
  organizations_listed name value es rows same is = rows_are rows (is ∙ rows_through name value es ∙ ap (map row_at) same)
