-- Where each page has the key of its bytes, it has it after a change.
use Rattle.tables.proofs.Outside.{⊤, ℕ, zero, suc, ◌+◌, true, false, List, [], ◌∷◌, length, Option, Some, None, MAX_NUMBER, RunAsk, Settings, Edit, Make, Configure, Remove, AddVersion, Purge, Hold, Release, AddRun, Report, Version, NamedToken, token_removed, version_removed, workspace_of, oldest_below, Tables, pages_for, KeysFit}
use Rattle.basis.specs.declared.rows.VersionRow.{VersionRow as Head}
use Rattle.statements.specs.declared.rows.Workspace.{Workspace as WorkspaceCells}
use Rattle.texts.proofs.KeyedTexts.{added_keyed, removed_keyed}
use Rattle.tables.specs.Scans.{ArePagesKeyed}
use Rattle.tables.specs.Inner.Removals.{workspaces_gone, tokens_gone, all_gone_of}
use Rattle.tables.specs.Inner.Edits.{version_gone, first_gone, oldest_gone, so_many_gone, most_gone, gone_below, all_gone, removed_rows, settings_rows, configured_rows, row_added, added_rows, if_there, run_put, run_counted, run_rows, edited_rows}
use Rattle.tables.specs.Inner.Keys.{KeepsKeys}

module _ (key_of : List ℕ → List ℕ) (org ws : List ℕ) where
  -- ---- versions that go

  gone_keyed : (head : Head) (t : Tables) → KeepsKeys key_of t (version_gone org ws head t)
  gone_keyed head t keyed = removed_keyed key_of org ws head.number (pages_for head.size) (version_removed org ws head.number t) keyed

  oldest_keyed : (below : ℕ) (t : Tables) → KeepsKeys key_of t (oldest_gone org ws below t)
  oldest_keyed below t keyed = go (oldest_below org ws below t)
    where
      go : (o : Option Head) → ArePagesKeyed key_of (first_gone org ws o t)
      go None = keyed
      go (Some head) = gone_keyed head t keyed

  many_keyed : (many below : ℕ) (t : Tables) → KeepsKeys key_of t (so_many_gone many org ws below t)
  unfolding so_many_gone
  many_keyed zero below t keyed = keyed
  many_keyed (suc many) below t keyed = oldest_keyed below (so_many_gone many org ws below t) (many_keyed many below t keyed)

  pub below_keyed : (below : ℕ) (t : Tables) → KeepsKeys key_of t (gone_below org ws below t)
  unfolding gone_below
  below_keyed below t keyed = many_keyed most_gone below t keyed

  all_keyed : (t : Tables) → KeepsKeys key_of t (all_gone org ws t)
  all_keyed t keyed = below_keyed (MAX_NUMBER + 1) t keyed

  workspace_keyed : (t : Tables) → KeepsKeys key_of t (removed_rows org ws t)
  workspace_keyed t keyed = all_keyed t keyed

  -- ---- other edits

  configured_keyed : (settings : Settings) (outgoing : Option ℕ) (t : Tables) → KeepsKeys key_of t (configured_rows org ws settings outgoing t)
  configured_keyed settings None t keyed = keyed
  configured_keyed settings (Some last) t keyed = below_keyed (last + 1) (settings_rows org ws settings t) keyed

  run_keyed : (number : ℕ) (ask : RunAsk) (created : ℕ) (t : Tables) → KeepsKeys key_of t (run_rows org ws number ask created t)
  run_keyed number ask created t keyed = go (workspace_of org ws t)
    where
      go : (o : Option WorkspaceCells) → ArePagesKeyed key_of (if_there o (run_put org ws number ask created (run_counted org ws number t)) t)
      go None = keyed
      go (Some w) = keyed

  -- every edit by which no version comes
  abbrev pub PutsNone : Edit → Type 0
  PutsNone (AddVersion version outgoing) = ⊥
  PutsNone (Make settings) = ⊤
  PutsNone (Configure settings outgoing) = ⊤
  PutsNone Remove = ⊤
  PutsNone Purge = ⊤
  PutsNone (Hold id text) = ⊤
  PutsNone (Release id) = ⊤
  PutsNone (AddRun number ask created) = ⊤
  PutsNone (Report number action status frees) = ⊤

  pub edited_keyed : (keys : ℕ → List ℕ) (edit : Edit) → PutsNone edit → (t : Tables) → KeepsKeys key_of t (edited_rows keys org ws edit t)
  edited_keyed keys (AddVersion version outgoing) none t keyed = absurd none
  edited_keyed keys (Make settings) none t keyed = keyed
  edited_keyed keys (Configure settings outgoing) none t keyed = configured_keyed settings outgoing t keyed
  edited_keyed keys Remove none t keyed = workspace_keyed t keyed
  edited_keyed keys Purge none t keyed = all_keyed t keyed
  edited_keyed keys (Hold id text) none t keyed = keyed
  edited_keyed keys (Release id) none t keyed = keyed
  edited_keyed keys (AddRun number ask created) none t keyed = run_keyed number ask created t keyed
  edited_keyed keys (Report number action status true) none t keyed = keyed
  edited_keyed keys (Report number action status false) none t keyed = keyed

  -- a version comes with its text
  pub version_keyed : (keys : ℕ → List ℕ) (v : Version) (t : Tables) → KeysFit key_of keys org ws v.number v.text (pages_for (length v.text)) (row_added org ws v t) → KeepsKeys key_of t (added_rows keys org ws v t)
  version_keyed keys v t fit keyed = added_keyed key_of org ws v.number keys v.text (pages_for (length v.text)) (row_added org ws v t) fit keyed

-- ---- an organization goes

module _ (key_of : List ℕ → List ℕ) (org : List ℕ) where
  workspaces_keyed : (names : List (List ℕ)) (t : Tables) → KeepsKeys key_of t (workspaces_gone org names t)
  workspaces_keyed [] t keyed = keyed
  workspaces_keyed (ws ∷ names) t keyed = workspaces_keyed names (removed_rows org ws t) (workspace_keyed key_of org ws t keyed)

  tokens_keyed : (list : List NamedToken) (t : Tables) → KeepsKeys key_of t (tokens_gone org list t)
  tokens_keyed [] t keyed = keyed
  tokens_keyed (x ∷ list) t keyed = tokens_keyed list (token_removed org x.name t) keyed

  pub organization_keyed : (names : List (List ℕ)) (list : List NamedToken) (t : Tables) → KeepsKeys key_of t (all_gone_of org names list t)
  organization_keyed names list t keyed = tokens_keyed list (workspaces_gone org names t) (workspaces_keyed names t keyed)
