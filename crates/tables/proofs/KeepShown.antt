-- From the rows of a connection to the records of its store.
use Rattle.std.proofs.Common.{◌≡◌, ◌≢◌, ℕ, ◌<◌, List, [], map, Option, Some, IfSome, IsTrue, refl, sym, ap, ◌∙◌, subst}
use Rattle.sqlite.specs.Effect.{Database}
use Rattle.sqlite.specs.State.{State, KeepsCommit}
use Rattle.basis.specs.Names.{is_ws_name}
use Rattle.machine.specs.Records.{workspace_in, placed, seen_in}
use Rattle.machine.specs.Changes.{changed_by, IsDue}
use Rattle.machine.specs.Units.{unit_of, version_text}
use Rattle.machine.specs.Needs.{Needed, needs}
use Rattle.machine.specs.Tokens as tokens
use Rattle.machine.specs.Tokens.{asker_of}
use Rattle.std.specs.FinMap.{get}
use Rattle.machine.specs.declared.acts.Act.{Act}
use Rattle.machine.specs.declared.acts.Change.{Change}
use Rattle.machine.specs.declared.records.Organization.{Organization}
use Rattle.machine.specs.declared.keeps.AdminAnswer.{AdminAnswer}
use Rattle.machine.specs.declared.keeps.TokenRow.{TokenRow}
use Rattle.statements.specs.Changes.{edition_moved}
use Rattle.statements.specs.Steps.{AnyRows}
use Rattle.statements.specs.Tables.{Tables, Holds, tables_of}
use Rattle.statements.specs.declared.making.TheConstants.{SCHEMA_VERSION}
use Rattle.statements.proofs.Decoding.{tables-held}
use Rattle.tables.specs.Inner.Edits.{changed_rows, TakesEdit}
use Rattle.tables.specs.Records.{record_of}
use Rattle.std.specs.Option.{unwrap_or}
use Rattle.basis.specs.Listings.{listing_of}
use Rattle.basis.specs.declared.rows.Listing.{Listing}
use Rattle.basis.specs.declared.rows.RunRow.{RunRow}
use Rattle.basis.specs.declared.rows.VersionRow.{VersionRow}
use Rattle.basis.specs.declared.rows.WsRow.{WsRow}
use Rattle.machine.specs.Showing as showing
use Rattle.machine.specs.Tokens.{AreOrganizations}
use Rattle.machine.specs.declared.keeps.OrgRow.{OrgRow}
use Rattle.statements.specs.Listings.{OrgsApart, BoundedTokensApart, WorkspacesApart, VersionsApart, RunsApart}
use Rattle.tables.specs.Inner.Lists.{versions_listed_in, runs_listed_in, workspaces_listed_in, asker_in, token_list_answer_in, organizations_listed_in}
use Rattle.tables.specs.Inner.Units.{unit_in}
use Rattle.tables.specs.Stores.{records_of}
use Rattle.tables.specs.Opening.{IsSoundKeep}
use Rattle.tables.specs.declared.counts.WorkspaceCount.{WorkspaceCount}
use Rattle.tables.specs.declared.askers.Asked.{Asked}
use Rattle.tables.specs.declared.points.UnitRead.{UnitRead}
use Rattle.tables.specs.declared.memo.Memo.{Memo}
use Rattle.tables.specs.declared.sizes.SizedVersion.{SizedVersion}
use Rattle.tables.specs.Remembered.{AreAskers, IsRemembered}
use Rattle.tables.specs.Inner.Counting.{known_of, count_after}
use Rattle.tables.specs.Inner.Points.{unit_read_in, text_by}
use Rattle.tables.specs.Inner.Remembering.{size_kept, Notes, changed_memo}
use Rattle.tables.proofs.Remembering.{known_is, kept_is, changed_is}
use Rattle.tables.proofs.KeptInMemory.{noted_size, sized_text, same_askers}
use Rattle.tables.specs.Inner.Steps.{Commits}
use Rattle.tables.proofs.Managed.{asker_found}
use Rattle.tables.proofs.Finding.{unit_found}
use Rattle.tables.proofs.Listed.{workspaces_apart, versions_reported, runs_reported, versions_apart, runs_apart, no_versions_after, no_runs_after, workspaces_reported}
use Rattle.tables.proofs.OrgLists.{organizations_reported}
use Rattle.tables.proofs.TokenLists.{token_list_answer}
use Rattle.tables.proofs.Databases.{store_by}
use Rattle.tables.proofs.Stores.{store_changed_own, store_changed_other, store_changed_keeps}

module _ {memo : Memo} (db : Database) (a : State) (s : IsSoundKeep db memo a) where
  abbrev now : Tables
  now = tables_of db

  -- what the store stands for is what is committed
  held : IsTrue a.is_open → Holds a.committed now
  held was = subst (λ (d : Database). Holds d now) (sym (s.tied was)) s.store.holds

  -- ---- looks

  pub asker_reported : (org digest : List ℕ) (asker : Option TokenRow) → IsTrue a.is_open × ((t : Tables) → Holds a.committed t → asker ≡ asker_in org digest t)
      → asker ≡ asker_of (records_of db org) digest
  asker_reported org digest asker reported = reported.1 now (held reported.0) ∙ asker_found now s.store.sound org digest

  -- the token that is kept is who asks
  pub asker_known : (org digest : List ℕ) (row : TokenRow) → ((t : Tables) → AreAskers t memo.asked → Some row ≡ asker_of (record_of t org) digest) → Some row ≡ asker_of (records_of db org) digest
  asker_known org digest row kept = kept now s.remembered.askers

  -- with other tokens in memory, each as it is
  asked_are : (b : State) (asked : Option (List Asked)) → AreAskers now asked → KeepsCommit a b → IsSoundKeep db (record memo { asked = asked }) b
  asked_are b asked are stays = record {
    store = s.store;
    remembered = record { counts = s.remembered.counts; sizes = s.remembered.sizes; askers = are };
    tied = λ is. stays.committed is ∙ s.tied (stays.was_open is);
  }

  -- what is kept in memory after one of them was asked for
  pub askers_stay : (asked : Option (List Asked)) → ((t : Tables) → AreAskers t memo.asked → AreAskers t asked) → IsSoundKeep db (record memo { asked = asked }) a
  askers_stay asked kept = record {
    store = s.store;
    remembered = record { counts = s.remembered.counts; sizes = s.remembered.sizes; askers = kept now s.remembered.askers };
    tied = s.tied;
  }

  -- what is kept in memory after it was looked up
  pub asker_keeps : (b : State) (org digest : List ℕ) (asker : Option TokenRow) → IsTrue a.is_open × ((t : Tables) → Holds a.committed t → asker ≡ asker_in org digest t) → KeepsCommit a b
      → (before after : Option (List Asked)) → ((t : Tables) → AreAskers t memo.asked → AreAskers t before) → ((t : Tables) → AreAskers t before → asker ≡ asker_of (record_of t org) digest → AreAskers t after) → IsSoundKeep db (record memo { asked = after }) b
  asker_keeps b org digest asker reported stays before after kept noted = asked_are b after (noted now (kept now s.remembered.askers) (asker_reported org digest asker reported)) stays

  pub unit_reported : (org ws : List ℕ) (act : Act) (need : Needed) → need ≡ needs act → (it : UnitRead) → IsTrue a.is_open × ((t : Tables) → Holds a.committed t → it ≡ unit_read_in need (known_of memo.cached org) org ws t)
      → (o : Organization) → records_of db org ≡ Some o → it.unit ≡ unit_of o ws act
  unit_reported org ws act need same it reported o there =
      ap (λ (l : UnitRead). l.unit) (reported.1 now (held reported.0)) ∙ ap (λ (n : Needed). unit_in n (known_of memo.cached org) org ws now) same
      ∙ unit_found now s.store.sound org o ws act (known_of memo.cached org) (known_is (records_of db) memo.cached org s.remembered.counts o there) there

  -- what is kept in memory after it is so
  pub unit_keeps : (b : State) (org ws : List ℕ) (act : Act) (need : Needed) → need ≡ needs act → (it : UnitRead) → IsTrue a.is_open × ((t : Tables) → Holds a.committed t → it ≡ unit_read_in need (known_of memo.cached org) org ws t)
      → KeepsCommit a b → (after : Option WorkspaceCount) → IfSome after (λ kept. count_after memo.cached need.makes org ws it.unit ≡ Some kept)
      → (sized : Option SizedVersion) → IfSome sized (Notes org ws it.size) → IsSoundKeep db (record { cached = after; sized = sized; asked = memo.asked }) b
  unit_keeps b org ws act need same it reported stays after kept sized notes = record {
    store = s.store;
    remembered = record {
      counts = kept_is (records_of db) memo.cached after need.makes org ws act it.unit kept (ap (λ (n : Needed). n.makes) same) s.remembered.counts (unit_reported org ws act need same it reported);
      sizes = noted_size now s.store.sound org ws need it.size sized (ap (λ (l : UnitRead). l.size) (reported.1 now (held reported.0))) notes;
      askers = s.remembered.askers;
    };
    tied = λ is. stays.committed is ∙ s.tied (stays.was_open is);
  }

  pub text_reported : (org ws : List ℕ) (n : ℕ) (text : Option (List ℕ)) → IsTrue a.is_open × ((t : Tables) → Holds a.committed t → text ≡ text_by (size_kept memo.sized org ws n) org ws n t)
      → text ≡ version_text n (workspace_in (records_of db org) ws)
  text_reported org ws n text reported = reported.1 now (held reported.0) ∙ sized_text now s.store.sound org ws n memo.sized s.remembered.sizes

  -- ---- lists

  pub versions_shown : (org ws : List ℕ) (after : ℕ) (list : Listing VersionRow) → IsTrue a.is_open × ((t : Tables) → Holds a.committed t → VersionsApart org ws t → list ≡ versions_listed_in after org ws t)
      → list ≡ showing.versions_after after (workspace_in (records_of db org) ws)
  versions_shown org ws after list reported = reported.1 now (held reported.0) (versions_apart now org ws s.store.sound) ∙ versions_reported now org ws s.store.sound after

  pub runs_shown : (org ws : List ℕ) (after : ℕ) (list : Listing RunRow) → IsTrue a.is_open × ((t : Tables) → Holds a.committed t → RunsApart org ws t → list ≡ runs_listed_in after org ws t)
      → list ≡ showing.runs_after after (workspace_in (records_of db org) ws)
  runs_shown org ws after list reported = reported.1 now (held reported.0) (runs_apart now org ws s.store.sound) ∙ runs_reported now org ws s.store.sound after

  -- no version and no run comes after the greatest number
  pub no_versions_shown : (org ws : List ℕ) (after : ℕ) (list : Listing VersionRow) → 1_000_000_000 < after → list ≡ listing_of [] → list ≡ showing.versions_after after (workspace_in (records_of db org) ws)
  no_versions_shown org ws after list beyond none = none ∙ no_versions_after now org ws s.store.sound after beyond

  pub no_runs_shown : (org ws : List ℕ) (after : ℕ) (list : Listing RunRow) → 1_000_000_000 < after → list ≡ listing_of [] → list ≡ showing.runs_after after (workspace_in (records_of db org) ws)
  no_runs_shown org ws after list beyond none = none ∙ no_runs_after now org ws s.store.sound after beyond

  pub workspaces_shown : (org : List ℕ) (after : Option (List ℕ)) (prefix : List ℕ) (list : Listing WsRow)
      → IsTrue a.is_open × ((t : Tables) → Holds a.committed t → WorkspacesApart t → list ≡ workspaces_listed_in (unwrap_or after []) prefix org t) → list ≡ showing.workspaces_after after prefix (records_of db org)
  workspaces_shown org after prefix list reported = reported.1 now (held reported.0) (workspaces_apart now s.store.sound) ∙ workspaces_reported now org s.store.sound after prefix

  pub tokens_shown : (org : List ℕ) (answer : AdminAnswer) → IsTrue a.is_open × ((t : Tables) → Holds a.committed t → BoundedTokensApart t → answer ≡ token_list_answer_in org t) → answer ≡ tokens.token_list_answer (records_of db org)
  tokens_shown org answer reported = reported.1 now (held reported.0) (record { tokens = s.store.sound.tokens_apart; bounds = s.store.sound.bounds_apart }) ∙ token_list_answer now org

  pub organizations_shown : (rows : List OrgRow) → IsTrue a.is_open × ((t : Tables) → Holds a.committed t → OrgsApart t → rows ≡ organizations_listed_in t) → AreOrganizations (records_of db) rows
  organizations_shown rows reported = subst (AreOrganizations (records_of db)) (sym (reported.1 now (held reported.0) s.store.sound.orgs_apart)) (organizations_reported now s.store.sound)

  module _ (b : State) where
    -- ---- a change of a workspace

    module _ (keys : ℕ → List ℕ) (org ws : List ℕ) (change : Change) (done : Commits (changed_rows keys org ws change) (TakesEdit keys org ws change.edit) a b) where
      moves : (t : Tables) → Holds db t → Holds b.committed (changed_rows keys org ws change t)
      moves t h = done.rows t (subst (λ (d : Database). Holds d t) (sym (s.tied done.was_open)) h)

      takes : (t : Tables) → Holds db t → TakesEdit keys org ws change.edit t
      takes t h = done.reports t (subst (λ (d : Database). Holds d t) (sym (s.tied done.was_open)) h)

      pub applied_own : (o : Organization) → records_of db org ≡ Some o → IsDue (seen_in o ws) change → records_of b.committed org ≡ Some (placed o ws (changed_by change (get o.workspaces ws)))
      applied_own o there due = store_changed_own db b.committed s.store keys org ws change moves takes o there due

      pub applied_other : (q : List ℕ) → q ≢ org → records_of b.committed q ≡ records_of db q
      applied_other q apart = store_changed_other db b.committed s.store keys org ws change moves takes q apart

      pub applied_keeps : (o : Organization) → IsTrue (is_ws_name ws) → records_of db org ≡ Some o → IsDue (seen_in o ws) change → IsSoundKeep b.committed (changed_memo memo org ws change.edit) b
      applied_keeps o named there due = record {
        store = store_changed_keeps db b.committed s.store keys org ws change moves takes o named there due;
        remembered = record {
          counts = changed_is (records_of db) (records_of b.committed) org ws change applied_other o there (applied_own o there due) memo.cached s.remembered.counts;
          sizes = tt;
          askers = same_askers now (tables_of b.committed) org ws change applied_other o there (applied_own o there due) memo.asked s.remembered.askers;
        };
        tied = λ _. refl;
      }

    -- ---- the version is said once more

    module _ (done : Commits (edition_moved SCHEMA_VERSION) AnyRows a b) where
      retold_holds : Holds b.committed now
      retold_holds =
          let reported = s.store.sound.reported.0 in
          let same : edition_moved SCHEMA_VERSION now ≡ now = ap (λ es. record now { editions = es }) (ap (map (λ x. (x.0, SCHEMA_VERSION))) reported ∙ sym reported) in
          subst (Holds b.committed) same (done.rows now (held done.was_open))

      retold_tables : tables_of b.committed ≡ now
      retold_tables = tables-held b.committed now retold_holds

      pub retold_rows : (org : List ℕ) → records_of b.committed org ≡ records_of db org
      retold_rows org = ap (λ (t : Tables). record_of t org) retold_tables

      pub retold_keeps : IsSoundKeep b.committed memo b
      retold_keeps = record {
        store = store_by b.committed now retold_holds s.store.sound;
        remembered = subst (λ (t : Tables). IsRemembered t memo) (sym retold_tables) s.remembered;
        tied = λ _. refl;
      }
