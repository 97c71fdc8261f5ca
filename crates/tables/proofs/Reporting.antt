-- What tells the version stays, and is read.
use Rattle.tables.proofs.Outside.{◌≡◌, ℕ, zero, suc, pos, Bool, true, false, List, Option, Some, None, option_map, refl, ap, ◌∙◌, get_by, Edit, Make, Configure, Remove, AddVersion, Purge, Hold, Release, AddRun, Report, Change, State, run_acted, workspace_of, SCHEMA_VERSION, Kept, id_of, Tables, tables_at}
use Rattle.statements.specs.declared.rows.Workspace.{Workspace as WorkspaceCells}
use Rattle.tables.specs.Inner.Edits.{all_gone, settings_rows, configured_rows, numbered_rows, versioned_rows, if_there, run_put, run_counted, freed_rows, edited_rows, started_rows, changed_rows, TakesEdit}
use Rattle.tables.specs.Sound.{StoresVersion, IsSound}
use Rattle.tables.proofs.TextRows.{KeepsRest}
use Rattle.tables.proofs.VersionEdits.{all_go, settings_leave, versions_come}
use Rattle.tables.specs.Opening.{stored_in, IsOther}
use Rattle.tables.specs.Versions.{HoldsSchema}
use Rattle.tables.proofs.There.{version_is_there}

abbrev SameReported : Tables → Tables → Type 0
SameReported u t = (u.metas ≡ t.metas) × (u.editions ≡ t.editions)

reported_there : (w : Option WorkspaceCells) (after t : Tables) → SameReported after t → SameReported (if_there w after t) t
reported_there None after t same = (refl, refl)
reported_there (Some w) after t same = same

reported_freed : (frees : Bool) (org ws : List ℕ) (t : Tables) → SameReported (freed_rows frees org ws t) t
reported_freed true org ws t = (refl, refl)
reported_freed false org ws t = (refl, refl)

reported_rest : (t u : Tables) → KeepsRest t u → SameReported u t
reported_rest t u rest = (rest.metas, rest.editions)

reported_edited : (keys : ℕ → List ℕ) (org ws : List ℕ) (t : Tables) → IsSound t → (edit : Edit) → TakesEdit keys org ws edit t → SameReported (edited_rows keys org ws edit t) t
reported_edited keys org ws t sound (Make settings) takes = (refl, refl)
reported_edited keys org ws t sound (Configure settings outgoing) takes = reported_rest (settings_rows org ws settings t) (configured_rows org ws settings outgoing t) (settings_leave org ws t sound settings outgoing).rest
reported_edited keys org ws t sound Remove takes = reported_rest t (all_gone org ws t) (all_go org ws t sound).rest
reported_edited keys org ws t sound (AddVersion version outgoing) takes = reported_rest (numbered_rows org ws version t) (versioned_rows keys org ws version outgoing t) (versions_come org ws t sound keys version takes outgoing).rest
reported_edited keys org ws t sound Purge takes = reported_rest t (all_gone org ws t) (all_go org ws t sound).rest
reported_edited keys org ws t sound (Hold id text) takes = (refl, refl)
reported_edited keys org ws t sound (Release id) takes = (refl, refl)
reported_edited keys org ws t sound (AddRun number ask created) takes = reported_there (workspace_of org ws t) (run_put org ws number ask created (run_counted org ws number t)) t (refl, refl)
reported_edited keys org ws t sound (Report number action status frees) takes = reported_freed frees org ws (run_acted status action org ws number t)

reported_started : (org ws : List ℕ) (start : Option ℕ) (t : Tables) → SameReported (started_rows org ws start t) t
reported_started org ws None t = (refl, refl)
reported_started org ws (Some n) t = (refl, refl)

-- a change of a workspace leaves what tells the version as it is
pub reported_changed : (keys : ℕ → List ℕ) (org ws : List ℕ) (t : Tables) → IsSound t → (change : Change) → TakesEdit keys org ws change.edit t → StoresVersion SCHEMA_VERSION (changed_rows keys org ws change t)
reported_changed keys org ws t sound change takes =
    let started = reported_started org ws change.start (edited_rows keys org ws change.edit t) in
    let edited = reported_edited keys org ws t sound change.edit takes in
    (started.1 ∙ edited.1 ∙ sound.reported.0, started.0 ∙ edited.0 ∙ sound.reported.1)

-- the version that rows tell is the one in row 1 of meta, or of edition
reported_is : (n : ℕ) (t : Tables) → StoresVersion n t → stored_in n t ≡ Some n
reported_is zero t reported = absurd reported
reported_is (suc zero) t reported = ap (λ (ms : List (Kept ℕ)). option_map (λ x. x.1) (get_by id_of ms (pos 1))) reported
reported_is (suc (suc n)) t reported = ap (λ (es : List (Kept ℕ)). option_map (λ x. x.1) (get_by id_of es (pos 1))) reported.0

-- a sound database of any version tells it
pub sound_is_not_other : (s : State) → IsOther s → (n : ℕ) → HoldsSchema n s.now → ⊥
sound_is_not_other s other n h = other n (version_is_there n s.now h) (tables_at n s.now) h.holds (reported_is n (tables_at n s.now) h.sound.reported)
