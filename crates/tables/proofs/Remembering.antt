-- What is kept in memory of an organization's workspaces stays so.
use Rattle.tables.proofs.Outside.{◌≡◌, ◌≢◌, ℕ, ◌+◌, ◌-◌, nat_lt, Bool, true, false, cond, List, is_some, Option, Some, None, IfSome, option_map, refl, sym, ap, subst, ◌∙◌, same_Some, bytes_eq, FinMap, get, len, len-insert, len-remove, len-entries, is_some-map, MAX_LIMIT, equal_bytes, name_cmp, needs, count_of, with_workspace, placed, edited, changed_by, started_if, unit_by, unit_of, Act, Change, Edit, Make, Configure, Remove, AddVersion, Purge, Hold, Release, AddRun, Report, Organization, Workspace, own_workspace, other_workspace, apart_from, names_total}
use Rattle.machine.specs.declared.acts.Unit.{Unit}
use Rattle.machine.specs.declared.acts.Unit.TheVariants.{Absent, Present}
use Rattle.tables.specs.declared.counts.WorkspaceCount.{WorkspaceCount}
use Rattle.tables.specs.Counting.{IsCount, IsCachedCount}
use Rattle.tables.specs.Inner.Counting.{known_of, count_after, one_more_of, edited_count, changed_count}

-- ---- workspaces of a map

-- where one stays or stays away, there are as many
len_kept : (m : FinMap name_cmp Workspace) (ws : List ℕ) (w : Option Workspace) → is_some (get m ws) ≡ is_some w → len (with_workspace m ws w) ≡ len m
len_kept m ws None e = len-remove names_total m ws ∙ ap (λ (b : Bool). cond b (len m - 1) (len m)) e
len_kept m ws (Some w) e = len-insert names_total m ws w ∙ ap (λ (b : Bool). cond b (len m) (len m + 1)) e

-- one that comes is one more
len_more : (m : FinMap name_cmp Workspace) (ws : List ℕ) (w : Workspace) → get m ws ≡ None → len (with_workspace m ws (Some w)) ≡ len m + 1
len_more m ws w e = len-insert names_total m ws w ∙ ap (λ (v : Option Workspace). cond (is_some v) (len m) (len m + 1)) e

none_of : (w : Option Workspace) → is_some w ≡ false → w ≡ None
none_of None e = refl
none_of (Some w) e = absurd (let none : ⊥ = cc in none)

-- one that is absent stays so
stays_absent : (m : FinMap name_cmp Workspace) (ws : List ℕ) (w : Option Workspace) (absent : List ℕ) → is_some (get m ws) ≡ is_some w → get m absent ≡ None → get (with_workspace m ws w) absent ≡ None
stays_absent m ws w absent same none = by_name (bytes_eq absent ws) refl
  where
    by_name : (b : Bool) → bytes_eq absent ws ≡ b → get (with_workspace m ws w) absent ≡ None
    by_name false e = other_workspace m ws w absent (apart_from absent ws e) ∙ none
    by_name true e =
        let own : absent ≡ ws = equal_bytes absent ws e in
        let gone : w ≡ None = none_of w (sym same ∙ ap (λ (n : List ℕ). is_some (get m n)) (sym own) ∙ ap is_some none) in
        ap (get (with_workspace m ws w)) own ∙ own_workspace m ws w ∙ gone

-- ---- what is known

pub known_is : (rows : List ℕ → Option Organization) (counted : Option WorkspaceCount) (org : List ℕ) → IsCachedCount rows counted → (o : Organization) → rows org ≡ Some o → IfSome (known_of counted org) (λ n. n ≡ count_of o)
known_is rows None org is o there = tt
known_is rows (Some c) org is o there = by_name (bytes_eq c.org org) refl
  where
    by_name : (b : Bool) → bytes_eq c.org org ≡ b → IfSome (cond b (Some c.count) None) (λ n. n ≡ count_of o)
    by_name true e = is.count o (ap rows (equal_bytes c.org org e) ∙ there)
    by_name false e = tt

-- ---- a query

abbrev counted_in : Unit → ℕ
counted_in (Absent count limit) = count
counted_in (Present w) = 0

count_after_is : (rows : List ℕ → Option Organization) (before : Option WorkspaceCount) (makes : Bool) (org ws : List ℕ) (act : Act) (unit : Unit) → makes ≡ (needs act).makes → IsCachedCount rows before
    → ((o : Organization) → rows org ≡ Some o → unit ≡ unit_of o ws act) → IsCachedCount rows (count_after before makes org ws unit)
count_after_is rows before makes org ws act (Present w) same is reported = is
count_after_is rows before false org ws act (Absent count limit) same is reported = is
count_after_is rows before true org ws act (Absent count limit) same is reported = record { count = λ o there. (of_workspace o (get o.workspaces ws) (reported o there)).0; absent = λ o there. (of_workspace o (get o.workspaces ws) (reported o there)).1 }
  where
    of_workspace : (o : Organization) (w : Option Workspace) → Absent count limit ≡ unit_by o act w → (count ≡ count_of o) × (w ≡ None)
    of_workspace o None e = (ap counted_in e ∙ ap (λ (b : Bool). cond b (count_of o) 0) (sym same), refl)
    of_workspace o (Some w) e = absurd (let none : ⊥ = cc in none)

-- what is kept after a query is what was found, or nothing
pub kept_is : (rows : List ℕ → Option Organization) (before after : Option WorkspaceCount) (makes : Bool) (org ws : List ℕ) (act : Act) (unit : Unit) → IfSome after (λ kept. count_after before makes org ws unit ≡ Some kept) → makes ≡ (needs act).makes
    → IsCachedCount rows before → ((o : Organization) → rows org ≡ Some o → unit ≡ unit_of o ws act) → IsCachedCount rows after
kept_is rows before None makes org ws act unit kept same is reported = tt
kept_is rows before (Some c) makes org ws act unit kept same is reported = subst (IsCachedCount rows) kept (count_after_is rows before makes org ws act unit same is reported)

-- ---- a change

-- a run that starts makes no workspace
started_there : (start : Option ℕ) (w : Option Workspace) → is_some (option_map (started_if start) w) ≡ is_some w
started_there start None = refl
started_there start (Some w) = refl

module _ (rows after : List ℕ → Option Organization) (org ws : List ℕ) (change : Change) (others : (q : List ℕ) → q ≢ org → after q ≡ rows q) (o : Organization) (there : rows org ≡ Some o)
    (own : after org ≡ Some (placed o ws (changed_by change (get o.workspaces ws)))) where
  abbrev left : Option Workspace
  left = changed_by change (get o.workspaces ws)

  -- the organization after it
  is_placed : (name : List ℕ) → name ≡ org → (p : Organization) → after name ≡ Some p → placed o ws left ≡ p
  is_placed name e p is = same_Some (placed o ws left) p (sym own ∙ ap after (sym e) ∙ is)

  -- as many workspaces as before, and the absent one is absent
  as_many : (c : WorkspaceCount) → c.org ≡ org → IsCount rows c → is_some (get o.workspaces ws) ≡ is_some left → IsCount after c
  as_many c e is same = record {
    count = λ p h.
        is.count o (ap rows e ∙ there) ∙ sym (len-entries o.workspaces) ∙ sym (len_kept o.workspaces ws left same) ∙ len-entries (with_workspace o.workspaces ws left) ∙ ap count_of (is_placed c.org e p h);
    absent = λ p h. by_absent p (is_placed c.org e p h) c.absent (is.absent o (ap rows e ∙ there));
  }
    where
      by_absent : (p : Organization) → placed o ws left ≡ p → (absent : Option (List ℕ)) → IfSome absent (λ n. get o.workspaces n ≡ None) → IfSome absent (λ n. get p.workspaces n ≡ None)
      by_absent p h None none = tt
      by_absent p h (Some n) none = ap (λ (q : Organization). get q.workspaces n) (sym h) ∙ stays_absent o.workspaces ws left n same none

  -- one more than before
  more : (c : WorkspaceCount) → c.org ≡ org → IsCount rows c → (absent : Option (List ℕ)) → IfSome absent (λ n. get o.workspaces n ≡ None) → (w : Workspace) → left ≡ Some w → IsCachedCount after (one_more_of c absent ws)
  more c e is None none w made = tt
  more c e is (Some n) none w made = by_name (bytes_eq n ws) (nat_lt c.count MAX_LIMIT) refl
    where
      counted : bytes_eq n ws ≡ true → (p : Organization) → placed o ws left ≡ p → c.count + 1 ≡ count_of p
      counted f p h =
          ap (λ (m : ℕ). m + 1) (is.count o (ap rows e ∙ there) ∙ sym (len-entries o.workspaces))
          ∙ sym (len_more o.workspaces ws w (ap (get o.workspaces) (sym (equal_bytes n ws f)) ∙ none))
          ∙ len-entries (with_workspace o.workspaces ws (Some w))
          ∙ ap (λ (v : Option Workspace). count_of (placed o ws v)) (sym made)
          ∙ ap count_of h

      by_name : (b room : Bool) → bytes_eq n ws ≡ b → IsCachedCount after (cond b (cond room (Some (record { org = c.org; count = c.count + 1; absent = None })) None) None)
      by_name false room f = tt
      by_name true false f = tt
      by_name true true f = record { count = λ p h. counted f p (is_placed c.org e p h); absent = λ p h. tt }

  -- where the edit leaves it there or away, so does the change
  stays : (edit : Edit) → change.edit ≡ edit → is_some (edited edit (get o.workspaces ws)) ≡ is_some (get o.workspaces ws) → is_some (get o.workspaces ws) ≡ is_some left
  stays edit f same = sym (started_there change.start (edited change.edit (get o.workspaces ws)) ∙ ap (λ (x : Edit). is_some (edited x (get o.workspaces ws))) f ∙ same)

  -- after an edit, and the run that starts
  by_edit : (c : WorkspaceCount) → c.org ≡ org → IsCount rows c → (edit : Edit) → change.edit ≡ edit → IsCachedCount after (edited_count c ws edit)
  by_edit c e is (Make settings) f = more c e is c.absent (is.absent o (ap rows e ∙ there)) _ (ap (λ (x : Edit). option_map (started_if change.start) (edited x (get o.workspaces ws))) f)
  by_edit c e is Remove f = tt
  by_edit c e is (Configure settings outgoing) f = as_many c e is (stays (Configure settings outgoing) f (is_some-map _ (get o.workspaces ws)))
  by_edit c e is (AddVersion version outgoing) f = as_many c e is (stays (AddVersion version outgoing) f (is_some-map _ (get o.workspaces ws)))
  by_edit c e is Purge f = as_many c e is (stays Purge f (is_some-map _ (get o.workspaces ws)))
  by_edit c e is (Hold id text) f = as_many c e is (stays (Hold id text) f (is_some-map _ (get o.workspaces ws)))
  by_edit c e is (Release id) f = as_many c e is (stays (Release id) f (is_some-map _ (get o.workspaces ws)))
  by_edit c e is (AddRun number ask created) f = as_many c e is (stays (AddRun number ask created) f (is_some-map _ (get o.workspaces ws)))
  by_edit c e is (Report number action status frees) f = as_many c e is (stays (Report number action status frees) f (is_some-map _ (get o.workspaces ws)))

  pub changed_is : (counted : Option WorkspaceCount) → IsCachedCount rows counted → IsCachedCount after (changed_count counted org ws change.edit)
  changed_is None is = tt
  changed_is (Some c) is = by_name (bytes_eq c.org org) refl
    where
      by_name : (b : Bool) → bytes_eq c.org org ≡ b → IsCachedCount after (cond b (edited_count c ws change.edit) (Some c))
      by_name true e = by_edit c (equal_bytes c.org org e) is change.edit refl
      by_name false e = let same = others c.org (apart_from c.org org e) in record { count = λ p h. is.count p (sym same ∙ h); absent = λ p h. is.absent p (sym same ∙ h) }
