-- What is kept in memory of versions and tokens is so, and stays so.
use Rattle.tables.proofs.Outside.{All, OnOk, OnErr, slice_index_or, ◌≡◌, ◌≢◌, ◌<◌, ◌++◌, [], ◌∷◌, length, Result, Ok, Err, ℕ, ◌==◌, ◌&&◌, Bool, true, false, cond, List, Option, Some, None, is_some, IfSome, option_map, refl, sym, ap, ◌∙◌, subst, bytes_eq, get, eqb-true, same_Some, All-weaker, All-push, is_some-map, equal_bytes, changed_by, Needed, workspace_in, placed, asker_of, version_text, if_needed, Change, Present, Organization, Version, apart_from, newest_of, size_of, workspace_of, first_waiting_of, open_runs_of, Tables, text_of}
use Rattle.basis.specs.declared.rows.VersionRow.{VersionRow as Head}
use Rattle.machine.specs.declared.keeps.TokenRow.{TokenRow}
use Rattle.statements.specs.declared.rows.Workspace.{Workspace as WorkspaceCells}
use Rattle.tables.specs.Records.{settings_of_cells, workspace_at, workspace_by, record_of}
use Rattle.tables.specs.Remembered.{IsSize, IsAsker, AreAskers, IsRemembered, nothing_kept}
use Rattle.tables.specs.Sound.{IsSound}
use Rattle.tables.specs.Inner.Points.{sized_by, sized_in, size_asked, size_from, size_seen, present_in, unit_read_at, text_by}
use Rattle.tables.specs.Inner.Remembering.{size_kept, Notes, IsAskedBy}
use Rattle.tables.specs.Inner.Units.{holder_status_in, newest_by, retention_in, has_version_in, outgoing_in, asked_run_in}
use Rattle.tables.specs.declared.askers.Asked.{Asked}
use Rattle.tables.specs.declared.versions.SizedNewest.{SizedNewest}
use Rattle.tables.specs.declared.versions.VersionSize.{VersionSize}
use Rattle.tables.specs.declared.sizes.SizedVersion.{SizedVersion}
use Rattle.tables.proofs.Finding.{newest_numbered, seen_in_rows, text_found}

-- where nothing is kept
pub nothing_is : (t : Tables) → IsRemembered t nothing_kept
nothing_is t = record { counts = tt; sizes = tt; askers = tt }

-- ---- what was looked at

module _ (need : Needed) (known : Option ℕ) (org ws : List ℕ) (t : Tables) (w : WorkspaceCells) where
  newest_alone : (b : Bool) (o : Option Head) → option_map (λ (n : SizedNewest). n.newest) (if_needed b (option_map (sized_by need.text org ws t) o)) ≡ if_needed b (option_map (newest_by need.text org ws t) o)
  newest_alone false o = refl
  newest_alone true None = refl
  newest_alone true (Some h) = refl

  asked_there : (n : Option ℕ) → is_some (size_asked n org ws t) ≡ has_version_in n org ws t
  asked_there None = refl
  asked_there (Some n) = is_some-map (λ (size : ℕ). record { number = n; size = size }) (size_of org ws n t)

  -- of a workspace that is there
  pub present_read : present_in need org ws w t ≡ unit_read_at need known org ws t (Some w)
  present_read = λ i. record {
    unit = Present (record {
      settings = settings_of_cells (retention_in need.retention org ws t) w;
      holder = w.holder;
      holder_status = if_needed need.holder_status (holder_status_in org ws w.holder t);
      released = w.released;
      next_version = w.next_version;
      next_run = w.next_run;
      newest = newest_alone need.newest (newest_of org ws t) i;
      outgoing = outgoing_in need.outgoing (retention_in need.retention org ws t) w.next_version org ws t;
      first_waiting = if_needed need.waiting (first_waiting_of org ws t);
      has_version = asked_there need.version i;
      asked_run = asked_run_in need.run need.key org ws t;
      open_runs = cond need.open_runs (open_runs_of org ws t) 0;
    });
    size = size_from (if_needed need.newest (sized_in need.text org ws t)) (size_asked need.version org ws t);
  }

-- ---- the size of a text

-- the text of a version is what stands in its pages, up to this size
abbrev IsTextOf : Tables → List ℕ → List ℕ → ℕ → ℕ → Type 0
IsTextOf t org ws n size = version_text n (workspace_in (record_of t org) ws) ≡ Some (text_of org ws n size t)

module _ (t : Tables) (sound : IsSound t) (org ws : List ℕ) where
  abbrev IsText : ℕ → ℕ → Type 0
  IsText n size = IsTextOf t org ws n size

  -- the version that was looked at has a text of its size
  pub seen_size : (need : Needed) (v : VersionSize) → size_seen need org ws t (workspace_of org ws t) ≡ Some v → IsText v.number v.size
  seen_size need v e = by_row (workspace_of org ws t) refl e
    where
      asked : (n : Option ℕ) → size_asked n org ws t ≡ Some v → IsText v.number v.size
      asked None is = absurd (let none : ⊥ = cc in none)
      asked (Some n) is = by_size (size_of org ws n t) refl is
        where
          by_size : (s : Option ℕ) → size_of org ws n t ≡ s → option_map (λ (size : ℕ). record { number = n; size = size }) s ≡ Some v → IsText v.number v.size
          by_size None f is = absurd (let none : ⊥ = cc in none)
          by_size (Some s) f is =
              subst (λ (x : VersionSize). IsText x.number x.size) (same_Some _ _ is) (sym (text_found t sound org ws n) ∙ ap (option_map (λ (size : ℕ). text_of org ws n size t)) f)

      by_row : (r : Option WorkspaceCells) → workspace_of org ws t ≡ r → size_seen need org ws t r ≡ Some v → IsText v.number v.size
      by_row None f is = absurd (let none : ⊥ = cc in none)
      by_row (Some w) f is = by_newest need.newest (newest_of org ws t) refl is
        where
          stands : workspace_by t org ws ≡ Some (workspace_at t org ws w)
          stands = ap (option_map (workspace_at t org ws)) f

          by_newest : (b : Bool) (o : Option Head) → newest_of org ws t ≡ o → size_from (if_needed b (option_map (sized_by need.text org ws t) o)) (size_asked need.version org ws t) ≡ Some v → IsText v.number v.size
          by_newest false o found is = asked need.version is
          by_newest true None found is = asked need.version is
          by_newest true (Some h) found is =
              subst (λ (x : VersionSize). IsText x.number x.size) (same_Some _ _ is)
              (ap (version_text h.number) (seen_in_rows t sound org ws ∙ stands)
              ∙ ap (option_map (λ (u : Version). u.text)) (newest_numbered t org ws w.next_version (sound.workspaces org ws _ stands).lawful.versions.rise h found))

  -- so what is kept of it is so
  pub noted_size : (need : Needed) (found : Option VersionSize) (kept : Option SizedVersion) → found ≡ size_seen need org ws t (workspace_of org ws t) → IfSome kept (Notes org ws found) → IfSome kept (IsSize t)
  noted_size need found None is notes = tt
  noted_size need None (Some k) is notes = absurd notes
  noted_size need (Some v) (Some k) is notes = subst (IsSize t) (sym notes) (seen_size need v (sym is))

  -- and the text that is read by it is that of the version
  pub sized_text : (n : ℕ) (sized : Option SizedVersion) → IfSome sized (IsSize t) → text_by (size_kept sized org ws n) org ws n t ≡ version_text n (workspace_in (record_of t org) ws)
  sized_text n None is = text_found t sound org ws n
  sized_text n (Some s) is = by_name (bytes_eq s.org org) (bytes_eq s.ws ws) (s.number == n) refl refl refl
    where
      by_name : (a b c : Bool) → bytes_eq s.org org ≡ a → bytes_eq s.ws ws ≡ b → (s.number == n) ≡ c → text_by (cond ((a && b) && c) (Some s.size) None) org ws n t ≡ version_text n (workspace_in (record_of t org) ws)
      by_name true true true e f g =
          sym (subst (λ (m : ℕ). IsTextOf t org ws m s.size) (eqb-true s.number n g)
          (subst (λ (w : List ℕ). IsTextOf t org w s.number s.size) (equal_bytes s.ws ws f) (subst (λ (o : List ℕ). IsTextOf t o s.ws s.number s.size) (equal_bytes s.org org e) is)))
      by_name true true false e f g = text_found t sound org ws n
      by_name true false c e f g = text_found t sound org ws n
      by_name false b c e f g = text_found t sound org ws n

-- ---- the tokens that asked

-- one that is put behind the others, if there is memory for it
pub pushed : {X E : Type 0} {U : Type 0} (P : X → Type 0) (xs ys : List X) (x : X) (result : Result U E) → OnOk result (ys ≡ xs ++ x ∷ []) → OnErr result (ys ≡ xs) → All P xs → P x → All P ys
pushed P xs ys x (Ok u) is err all one = subst (All P) (sym is) (All-push P xs x all one)
pushed P xs ys x (Err e) ok is all one = subst (All P) (sym is) all

-- the one at a place, found by its organization and digest
pub one_of : (t : Tables) (org digest : List ℕ) (list : List Asked) (place : ℕ) (row : TokenRow) → place < length list → ((d : Asked) → IsAskedBy org digest (slice_index_or list place d)) → ((d : Asked) → (slice_index_or list place d).row ≡ row)
    → All (IsAsker t) list → Some row ≡ asker_of (record_of t org) digest
one_of t org digest list place row within by is all =
    let d : Asked = record { org = org; digest = digest; row = row } in
    ap Some (sym (is d)) ∙ sym (all place d within) ∙ (λ i. asker_of (record_of t ((by d).0 i)) ((by d).1 i))

-- a workspace that changes changes no token
module _ (t u : Tables) (org ws : List ℕ) (change : Change) (others : (q : List ℕ) → q ≢ org → record_of u q ≡ record_of t q) (o : Organization) (there : record_of t org ≡ Some o)
    (own : record_of u org ≡ Some (placed o ws (changed_by change (get o.workspaces ws)))) where
  same_asker : (a : Asked) → IsAsker t a → IsAsker u a
  same_asker a is = by_name (bytes_eq a.org org) refl
    where
      by_name : (b : Bool) → bytes_eq a.org org ≡ b → IsAsker u a
      by_name false e = ap (λ (r : Option Organization). asker_of r a.digest) (others a.org (apart_from a.org org e)) ∙ is
      by_name true e =
          let name : a.org ≡ org = equal_bytes a.org org e in
          let before : asker_of (Some o) a.digest ≡ Some a.row = ap (λ (r : Option Organization). asker_of r a.digest) (sym there ∙ ap (record_of t) (sym name)) ∙ is in
          ap (λ (r : Option Organization). asker_of r a.digest) (ap (record_of u) name ∙ own) ∙ before

  pub same_askers : (asked : Option (List Asked)) → AreAskers t asked → AreAskers u asked
  same_askers None are = tt
  same_askers (Some list) are = All-weaker (IsAsker t) (IsAsker u) same_asker list are
