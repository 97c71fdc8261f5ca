-- Worked rows and the records that they denote, computed by the definitions themselves.
use Rattle.tables.proofs.Outside.{◌≡◌, ◌≤◌, ℕ, zero, suc, pos, take, ◌++◌, Bool, true, false, true≢false, cond, ◌&&◌, List, [], ◌∷◌, length, filter, find, Option, Some, None, option_map, refl, sym, ap, ◌∙◌, subst, arith, unwrap_or, bytes_eq, and_parts, same_Some, AllByRecursion, list_any, from_entries, empty, len-entries, RunStatus, RunAsk, Settings, Pending, Planning, Canceled, MAX_LIMIT, count_of, Make, Configure, Remove, AddVersion, Purge, Release, AddRun, Report, Version, equal_bytes, Token, Absent, Workspace, Organization, is_ws, org_capped, token_removed, Kept, OrgRow, WsRow, VersionRow, PageRow, VpageRow, column, version_table, Tables, raised}
use Rattle.std.specs.Prelude.{◌==◌, codes}
use Rattle.basis.specs.declared.roles.Role.TheVariants.{Write}
use Rattle.basis.specs.declared.runs.RunAction.TheVariants.{Cancel}
use Rattle.basis.specs.declared.rows.Holder.TheVariants.{Nobody, Lock, Run as HoldingRun}
use Rattle.basis.specs.declared.rows.RunRow.{RunRow as Run}
use Rattle.sqlite_schema.specs.declared.schema.Kind.TheVariants.{Blob}
use Rattle.tables.proofs.Finding.{entries_counted}
use Rattle.tables.specs.Records.{record_of, organization_at, workspace_at, workspace_by}
use Rattle.tables.specs.Opening.{has_versions_in}
use Rattle.tables.specs.Sound.{IsPlaced, HasText, HasNoGap, IsSoundWorkspace, IsSound}
use Rattle.tables.specs.Inner.Edits.{so_many_gone, gone_below, edited_rows, changed_rows}
use Rattle.tables.specs.Inner.Lists.{versions_listed_in, runs_listed_in, token_list_answer_in}

abbrev acme : List ℕ
acme = codes "acme"

abbrev globex : List ℕ
globex = codes "globex"

abbrev prod : List ℕ
prod = codes "prod"

abbrev x1 : List ℕ
x1 = codes "x1"

abbrev text : List ℕ
text = codes "{\"ID\":\"x1\"}"

abbrev s1 : List ℕ
s1 = codes "{\"serial\":1}"

abbrev s2 : List ℕ
s2 = codes "{\"serial\":2}"

abbrev version : ℕ → List ℕ → Version
version n body = record { number = n; serial = n; lineage = codes "a1"; created = 1_700_000_000; text = body }

abbrev run : ℕ → RunStatus → Run
run n status = record { number = n; plan_only = false; key = None; message = codes "go"; created = 1_700_000_000; status = status; action = None }

-- two organizations, each with a workspace `prod`; that of acme is under a lock, keeps two versions, and has two and a run, and its token ends and is for some
abbrev two : Tables
two = record {
  metas = [];
  orgs = (pos 1, record { name = acme; cap = 10 }) ∷ (pos 2, record { name = globex; cap = 1 }) ∷ [];
  tokens = (pos 1, record { org = acme; name = codes "ci"; it = record { digest = codes "01234567890123456789012345678901"; role = Write } }) ∷ [];
  wss =
      (pos 1, record { org = globex; name = prod; it = record { runs = record { auto_apply = true }; holder = Nobody; released = None; next_version = 2; next_run = 1 } })
      ∷ (pos 2, record { org = acme; name = prod; it = record { runs = record { auto_apply = false }; holder = Lock x1 text; released = None; next_version = 3; next_run = 2 } })
      ∷ [];
  versions =
      (pos 1, record { org = acme; name = prod; it = record { number = 1; serial = 1; lineage = codes "a1"; created = 1_700_000_000; size = 12 } })
      ∷ (pos 2, record { org = globex; name = prod; it = record { number = 1; serial = 1; lineage = codes "a1"; created = 1_700_000_000; size = 12 } })
      ∷ (pos 3, record { org = acme; name = prod; it = record { number = 2; serial = 2; lineage = codes "a1"; created = 1_700_000_000; size = 12 } })
      ∷ [];
  runs = (pos 1, record { org = acme; name = prod; it = record { number = 1; plan_only = false; key = None; message = codes "go"; created = 1_700_000_000; status = Pending; action = None } }) ∷ [];
  pages = (pos 1, record { key = codes "{"; twin = 0; bytes = s1; uses = 2 }) ∷ (pos 2, record { key = codes "{"; twin = 1; bytes = s2; uses = 1 }) ∷ [];
  vpages =
      (pos 1, record { org = acme; ws = prod; number = 1; place = 0; key = codes "{"; twin = 0 })
      ∷ (pos 2, record { org = globex; ws = prod; number = 1; place = 0; key = codes "{"; twin = 0 })
      ∷ (pos 3, record { org = acme; ws = prod; number = 2; place = 0; key = codes "{"; twin = 1 })
      ∷ [];
  bounds = (pos 1, record { org = acme; name = codes "ci"; it = record { until = Some 1_800_000_000; prefix = codes "pr" } }) ∷ [];
  editions = (pos 1, 3) ∷ [];
  retentions = (pos 1, record { org = globex; name = prod; it = 1 }) ∷ (pos 2, record { org = acme; name = prod; it = 2 }) ∷ [];
}

-- the keys that keep a byte: each text begins with this one
abbrev first_byte : ℕ → List ℕ
first_byte place = codes "{"

abbrev globex_has : Workspace → Option Organization
globex_has w = Some (record { limit = 1; tokens = empty; workspaces = from_entries ((prod, w) ∷ []) })

-- a token with its end and its prefix, from two rows
abbrev ci : Token
ci = record { digest = codes "01234567890123456789012345678901"; caller = record { role = Write; until = Some 1_800_000_000; prefix = codes "pr" } }

abbrev acme_has : Workspace → Option Organization
acme_has w = Some (record {
  limit = 10;
  tokens = from_entries ((codes "ci", ci) ∷ []);
  workspaces = from_entries ((prod, w) ∷ []);
})

abbrev of_globex : Workspace
of_globex = record { settings = record { runs = record { auto_apply = true }; retention = 1 }; holder = Nobody; released = None; next_version = 2; next_run = 1; versions = version 1 s1 ∷ []; runs = [] }

abbrev of_acme : Workspace
of_acme = record { settings = record { runs = record { auto_apply = false }; retention = 2 }; holder = Lock x1 text; released = None; next_version = 3; next_run = 2; versions = version 1 s1 ∷ version 2 s2 ∷ []; runs = run 1 Pending ∷ [] }

-- ---- records

globex_record : record_of two globex ≡ globex_has of_globex
globex_record = refl

acme_record : record_of two acme ≡ acme_has of_acme
acme_record = refl

no_record : record_of two (codes "initech") ≡ None
no_record = refl

-- rows in another order, with rowids of their own, denote the same, and so after a change
abbrev restored : Tables
restored = record two {
  versions =
      (pos 1, record { org = acme; name = prod; it = record { number = 2; serial = 2; lineage = codes "a1"; created = 1_700_000_000; size = 12 } })
      ∷ (pos 2, record { org = acme; name = prod; it = record { number = 1; serial = 1; lineage = codes "a1"; created = 1_700_000_000; size = 12 } })
      ∷ (pos 3, record { org = globex; name = prod; it = record { number = 1; serial = 1; lineage = codes "a1"; created = 1_700_000_000; size = 12 } })
      ∷ [];
}

restored_record : record_of restored acme ≡ acme_has of_acme
restored_record = refl

restored_other : record_of restored globex ≡ globex_has of_globex
restored_other = refl

-- ---- changes: the organization's own record has it, and that of the other is as before

abbrev retention_five : Settings
retention_five = record { runs = record { auto_apply = true }; retention = 5 }

configured : record_of (edited_rows first_byte acme prod (Configure retention_five None) two) acme ≡ acme_has (record of_acme { settings = retention_five })
configured = refl

configured_other : record_of (edited_rows first_byte acme prod (Configure retention_five None) two) globex ≡ globex_has of_globex
configured_other = refl

-- a lower number of versions, of which the oldest goes at once
abbrev retention_one : Settings
retention_one = record { runs = record { auto_apply = false }; retention = 1 }

lowered : record_of (edited_rows first_byte acme prod (Configure retention_one (Some 1)) two) acme ≡ acme_has (record of_acme { settings = retention_one; versions = version 2 s2 ∷ [] })
unfolding so_many_gone gone_below
lowered = refl

purged : record_of (edited_rows first_byte acme prod Purge two) acme ≡ acme_has (record of_acme { versions = [] })
unfolding so_many_gone gone_below
purged = refl

purged_other : record_of (edited_rows first_byte acme prod Purge two) globex ≡ globex_has of_globex
unfolding so_many_gone gone_below
purged_other = refl

-- the page that the other organization names stays, and that of the second version goes
purged_pages : (edited_rows first_byte acme prod Purge two).pages ≡ (pos 1, record { key = codes "{"; twin = 0; bytes = s1; uses = 1 }) ∷ []
unfolding so_many_gone gone_below
purged_pages = refl

purged_places : (edited_rows first_byte acme prod Purge two).vpages ≡ (pos 2, record { org = globex; ws = prod; number = 1; place = 0; key = codes "{"; twin = 0 }) ∷ []
unfolding so_many_gone gone_below
purged_places = refl

-- a third version comes, and none goes; or the oldest goes; or all go, and the third with them
version_added : record_of (edited_rows first_byte acme prod (AddVersion (version 3 s1) None) two) acme ≡ acme_has (record of_acme { next_version = 4; versions = version 1 s1 ∷ version 2 s2 ∷ version 3 s1 ∷ [] })
version_added = refl

oldest_gone : record_of (edited_rows first_byte acme prod (AddVersion (version 3 s1) (Some 1)) two) acme ≡ acme_has (record of_acme { next_version = 4; versions = version 2 s2 ∷ version 3 s1 ∷ [] })
unfolding so_many_gone gone_below
oldest_gone = refl

oldest_of_restored_gone : record_of (edited_rows first_byte acme prod (AddVersion (version 3 s1) (Some 1)) restored) acme ≡ acme_has (record of_acme { next_version = 4; versions = version 2 s2 ∷ version 3 s1 ∷ [] })
unfolding so_many_gone gone_below
oldest_of_restored_gone = refl

all_gone : record_of (edited_rows first_byte acme prod (AddVersion (version 3 s1) (Some 3)) two) acme ≡ acme_has (record of_acme { next_version = 4; versions = [] })
unfolding so_many_gone gone_below
all_gone = refl

version_added_other : record_of (edited_rows first_byte acme prod (AddVersion (version 3 s1) (Some 1)) two) globex ≡ globex_has of_globex
unfolding so_many_gone gone_below
version_added_other = refl

-- a page that is there is in use once more, and no page comes
shared_page : (edited_rows first_byte acme prod (AddVersion (version 3 s1) None) two).pages
    ≡ (pos 1, record { key = codes "{"; twin = 0; bytes = s1; uses = 3 }) ∷ (pos 2, record { key = codes "{"; twin = 1; bytes = s2; uses = 1 }) ∷ []
shared_page = refl

-- a lock is released, and then the run that waits starts
started : record_of (changed_rows first_byte acme prod (record { edit = Release x1; start = Some 1 }) two) acme
    ≡ acme_has (record of_acme { holder = HoldingRun 1; released = Some x1; runs = run 1 Planning ∷ [] })
started = refl

-- a second run comes: a queued one is pending
abbrev asked : RunAsk
asked = record { key = Some (codes "k2"); message = codes "go"; plan_only = false }

abbrev second_run : Run
second_run = record (run 2 Pending) { key = Some (codes "k2") }

run_added : record_of (edited_rows first_byte acme prod (AddRun 2 asked 1_700_000_000) two) acme ≡ acme_has (record of_acme { next_run = 3; runs = run 1 Pending ∷ second_run ∷ [] })
run_added = refl

run_added_other : record_of (edited_rows first_byte acme prod (AddRun 2 asked 1_700_000_000) two) globex ≡ globex_has of_globex
run_added_other = refl

no_run_added : edited_rows first_byte globex (codes "dev") (AddRun 1 asked 1_700_000_000) two ≡ two
no_run_added = refl

-- the run was canceled: the lock stays, or nobody holds any more
canceled : record_of (edited_rows first_byte acme prod (Report 1 Cancel Canceled false) two) acme ≡ acme_has (record of_acme { runs = record (run 1 Canceled) { action = Some Cancel } ∷ [] })
canceled = refl

canceled_and_freed : record_of (edited_rows first_byte acme prod (Report 1 Cancel Canceled true) two) acme
    ≡ acme_has (record of_acme { holder = Nobody; runs = record (run 1 Canceled) { action = Some Cancel } ∷ [] })
canceled_and_freed = refl

-- a workspace more, behind the other
made : record_of (edited_rows first_byte acme (codes "dev") (Make retention_five) two) acme ≡ Some (record {
  limit = 10;
  tokens = from_entries ((codes "ci", ci) ∷ []);
  workspaces = from_entries ((prod, of_acme) ∷ (codes "dev", record { settings = retention_five; holder = Nobody; released = None; next_version = 1; next_run = 1; versions = []; runs = [] }) ∷ []);
})
unfolding so_many_gone gone_below
made = refl

-- a workspace goes with its versions and its run, and all that is left of it is nothing
removed : record_of (edited_rows first_byte acme prod Remove two) acme ≡ Some (record {
  limit = 10;
  tokens = from_entries ((codes "ci", ci) ∷ []);
  workspaces = empty;
})
unfolding so_many_gone gone_below
removed = refl

no_run_left : (edited_rows first_byte acme prod Remove two).runs ≡ []
unfolding so_many_gone gone_below
no_run_left = refl

removed_other : record_of (edited_rows first_byte acme prod Remove two) globex ≡ globex_has of_globex
unfolding so_many_gone gone_below
removed_other = refl

-- one that is made again begins anew
made_anew : record_of (edited_rows first_byte acme prod (Make retention_five) (edited_rows first_byte acme prod Remove two)) acme
    ≡ acme_has (record { settings = retention_five; holder = Nobody; released = None; next_version = 1; next_run = 1; versions = []; runs = [] })
unfolding so_many_gone gone_below
made_anew = refl

-- ---- an operator's commands

-- a limit below what there is: the workspace stays
limited : record_of (org_capped acme 0 two) acme ≡ Some (record {
  limit = 0;
  tokens = from_entries ((codes "ci", ci) ∷ []);
  workspaces = from_entries ((prod, of_acme) ∷ []);
})
limited = refl

limited_other : record_of (org_capped acme 0 two) globex ≡ globex_has of_globex
limited_other = refl

revoked : record_of (token_removed acme (codes "ci") two) acme ≡ Some (record { limit = 10; tokens = empty; workspaces = from_entries ((prod, of_acme) ∷ []) })
revoked = refl

-- and how far it reached goes with it
reach_revoked : (token_removed acme (codes "ci") two).bounds ≡ []
reach_revoked = refl

-- ---- the versions before

-- no row tells how far its token reaches: it doesn't end, and is for all workspaces; and none how many versions its workspace keeps
abbrev first : Tables
first = record two { metas = (pos 1, 1) ∷ []; bounds = []; editions = []; retentions = [] }

first_record : record_of first acme ≡ Some (record {
  limit = 10;
  tokens = from_entries ((codes "ci", record ci { caller = record { role = Write; until = None; prefix = [] } }) ∷ []);
  workspaces = from_entries ((prod, record of_acme { settings = record { runs = record { auto_apply = false }; retention = 100 } }) ∷ []);
})
first_record = refl

-- as tables of the second version each token has a row, and the record is the same
first_raised : (raised 1 first).bounds ≡ (pos 1, record { org = acme; name = codes "ci"; it = record { until = None; prefix = [] } }) ∷ []
first_raised = refl

raised_record : record_of (raised 1 first) acme ≡ record_of first acme
raised_record = refl

-- and as tables of the third each workspace has one
second_raised : (raised 2 (raised 1 first)).retentions ≡ (pos 1, record { org = globex; name = prod; it = 100 }) ∷ (pos 2, record { org = acme; name = prod; it = 100 }) ∷ []
second_raised = refl

second_record : record_of (raised 2 (raised 1 first)) acme ≡ record_of first acme
second_record = refl

reported_third : (raised 2 (raised 1 first)).editions ≡ (pos 1, 3) ∷ []
reported_third = refl

-- ---- lists

tokens_of_none : token_list_answer_in (codes "initech") two ≡ Absent
tokens_of_none = refl

versions_behind : versions_listed_in 1 acme prod two ≡ record { items = record { created = 1_700_000_000; lineage = codes "a1"; number = 2; serial = 2; size = 12 } ∷ []; more = false }
versions_behind = refl

versions_restored : versions_listed_in 0 acme prod restored ≡ versions_listed_in 0 acme prod two
versions_restored = refl

runs_behind : runs_listed_in 1 acme prod two ≡ record { items = []; more = false }
runs_behind = refl

-- ---- tables that are sound

-- an organization with a token, and a workspace under a lock, which keeps two versions and has one, of one page, and a run that waits
abbrev one : Tables
one = record {
  metas = [];
  orgs = (pos 1, record { name = acme; cap = 10 }) ∷ [];
  tokens = two.tokens;
  wss = (pos 1, record { org = acme; name = prod; it = record { runs = record { auto_apply = false }; holder = Lock x1 text; released = None; next_version = 2; next_run = 2 } }) ∷ [];
  versions = (pos 1, record { org = acme; name = prod; it = record { number = 1; serial = 1; lineage = codes "a1"; created = 1_700_000_000; size = 12 } }) ∷ [];
  runs = two.runs;
  pages = (pos 1, record { key = codes "{"; twin = 0; bytes = s1; uses = 1 }) ∷ [];
  vpages = (pos 1, record { org = acme; ws = prod; number = 1; place = 0; key = codes "{"; twin = 0 }) ∷ [];
  bounds = two.bounds;
  editions = (pos 1, 3) ∷ [];
  retentions = (pos 1, record { org = acme; name = prod; it = 2 }) ∷ [];
}

abbrev of_one : Workspace
of_one = record of_acme { next_version = 2; versions = version 1 s1 ∷ [] }

abbrev one_has : Organization
one_has = record { limit = 10; tokens = from_entries ((codes "ci", ci) ∷ []); workspaces = from_entries ((prod, of_one) ∷ []) }

one_record : record_of one acme ≡ Some one_has
one_record = refl

of_one_is_lawful : IsSoundWorkspace prod of_one
of_one_is_lawful = record {
  named = refl;
  lawful = record {
    versions = record {
      retention = (omega arith, omega arith);
      next = (omega arith, omega arith);
      rise = (omega arith, omega arith, tt);
      each = (record { serial = omega arith; lineage = omega arith; created = omega arith }, tt);
      kept = omega arith;
    };
    runs = record {
      next = (omega arith, omega arith);
      rise = (omega arith, omega arith, tt);
      each = (record { key = tt; message = omega arith; created = omega arith; action = tt; active = λ _. refl; waiting = λ _. (refl, refl) }, tt);
      open_runs = omega arith;
      keys = (tt, tt);
      held = refl;
    };
    released = tt;
  };
  gapless = refl;
}

-- what is found of an organization and of a workspace, by whether the name is theirs
abbrev record_if : Bool → List ℕ → Option Organization
record_if b org = option_map (organization_at one org) (option_map (λ (x : Kept OrgRow). x.1.cap) (cond b (Some (pos 1, record { name = acme; cap = 10 })) None))

abbrev workspace_if : Bool → List ℕ → List ℕ → Option Workspace
workspace_if b org name = option_map (workspace_at one org name) (option_map (λ (x : Kept WsRow). x.1.it) (find (λ (x : Kept WsRow). b) one.wss))

one_counts : (org : List ℕ) (o : Organization) → record_of one org ≡ Some o → count_of o ≤ MAX_LIMIT
one_counts org o is = go (bytes_eq acme org) refl
  where
    go : (b : Bool) → bytes_eq acme org ≡ b → count_of o ≤ MAX_LIMIT
    go true e =
        let reported : Some one_has ≡ Some o = subst (λ (n : List ℕ). record_of one n ≡ Some o) (sym (equal_bytes acme org e)) is in
        let counted : count_of one_has ≡ 1 = sym (len-entries one_has.workspaces) ∙ entries_counted acme (λ (x : Kept WsRow). workspace_at one acme x.1.name x.1.it) one.wss (tt, tt) in
        subst (λ (x : Organization). count_of x ≤ MAX_LIMIT) (same_Some _ _ reported) (omega (arith, counted))
    go false e = let none : None ≡ Some o = subst (λ (b : Bool). record_if b org ≡ Some o) e is in absurd (cc)

one_workspaces : (org name : List ℕ) (w : Workspace) → workspace_by one org name ≡ Some w → IsSoundWorkspace name w
one_workspaces org name w is = go (bytes_eq acme org && bytes_eq prod name) refl
  where
    go : (b : Bool) → (bytes_eq acme org && bytes_eq prod name) ≡ b → IsSoundWorkspace name w
    go true e =
        let parts = and_parts (bytes_eq acme org) (bytes_eq prod name) e in
        let there : workspace_by one org prod ≡ Some w = subst (λ (n : List ℕ). workspace_by one org n ≡ Some w) (sym (equal_bytes prod name parts.1)) is in
        let reported : Some of_one ≡ Some w = subst (λ (o : List ℕ). workspace_by one o prod ≡ Some w) (sym (equal_bytes acme org parts.0)) there in
        subst (λ (n : List ℕ). IsSoundWorkspace n w) (equal_bytes prod name parts.1) (subst (IsSoundWorkspace prod) (same_Some _ _ reported) of_one_is_lawful)
    go false e = let none : None ≡ Some w = subst (λ (b : Bool). workspace_if b org name ≡ Some w) e is in absurd (cc)

one_use : (b : Bool) → unwrap_or (option_map (λ (x : Kept PageRow). x.1.uses) (find (λ (x : Kept PageRow). b) one.pages)) 0 ≡ length (filter (λ (x : Kept VpageRow). b) one.vpages)
one_use true = refl
one_use false = refl

one_text : HasText one (pos 1, record { org = acme; name = prod; it = record { number = 1; serial = 1; lineage = codes "a1"; created = 1_700_000_000; size = 12 } })
one_text zero low = (s1, refl, refl)
one_text (suc place) low = absurd (omega (arith, low))

one_is_sound : IsSound one
one_is_sound = record {
  reported = (refl, refl);
  accounts = record {
    orgs_apart = (tt, tt);
    tokens_apart = (tt, tt);
    digests_apart = (tt, tt);
    bounds_apart = (tt, tt);
    tokens_bound = (refl, tt);
    tokens_owned = (refl, tt);
    bounds_owned = (refl, tt);
    org_rows = (record { named = refl; limit = omega arith }, tt);
    token_rows = (record { named = refl; digest = refl }, tt);
    bound_rows = (record { until = omega arith; prefix = refl }, tt);
  };
  owned = record {
    wss_apart = (tt, tt);
    retentions_apart = (tt, tt);
    wss_kept = (refl, tt);
    wss_owned = (refl, tt);
    retentions_owned = (refl, tt);
    versions_owned = (refl, tt);
    runs_owned = (refl, tt);
  };
  contents = record {
    places = record { pages = record { apart = (tt, tt); differ = (tt, tt); used = (omega arith, tt) }; counted = λ key twin. one_use (bytes_eq (codes "{") key && 0 == twin); apart = (tt, tt) };
    placed = (omega arith, tt);
    texts = (one_text, tt);
  };
  counts = one_counts;
  workspaces = one_workspaces;
}

-- ---- two versions, whose rows stand in the order of their numbers or in another

abbrev first_row : VersionRow
first_row = record { org = acme; name = prod; it = record { number = 1; serial = 1; lineage = codes "a1"; created = 1_700_000_000; size = 12 } }

abbrev second_row : VersionRow
second_row = record { org = acme; name = prod; it = record { number = 2; serial = 2; lineage = codes "a1"; created = 1_700_000_000; size = 12 } }

abbrev of_rows : List (Kept VersionRow) → Tables
of_rows rows = record one {
  wss = (pos 1, record { org = acme; name = prod; it = record { runs = record { auto_apply = false }; holder = Lock x1 text; released = None; next_version = 3; next_run = 2 } }) ∷ [];
  versions = rows;
  pages = (pos 1, record { key = codes "{"; twin = 0; bytes = s1; uses = 2 }) ∷ [];
  vpages = (pos 1, record { org = acme; ws = prod; number = 1; place = 0; key = codes "{"; twin = 0 }) ∷ (pos 2, record { org = acme; ws = prod; number = 2; place = 0; key = codes "{"; twin = 0 }) ∷ [];
}

abbrev of_both : Workspace
of_both = record of_acme { versions = version 1 s1 ∷ version 2 s1 ∷ [] }

of_both_is_lawful : IsSoundWorkspace prod of_both
of_both_is_lawful = record {
  named = refl;
  lawful = record {
    versions = record {
      retention = (omega arith, omega arith);
      next = (omega arith, omega arith);
      rise = (omega arith, omega arith, (omega arith, omega arith, tt));
      each = (record { serial = omega arith; lineage = omega arith; created = omega arith }, (record { serial = omega arith; lineage = omega arith; created = omega arith }, tt));
      kept = omega arith;
    };
    runs = of_one_is_lawful.lawful.runs;
    released = tt;
  };
  gapless = (refl, refl);
}

module _ (rows : List (Kept VersionRow)) where
  abbrev organization_if : Bool → List ℕ → Option Organization
  organization_if b org = option_map (organization_at (of_rows rows) org) (option_map (λ (x : Kept OrgRow). x.1.cap) (cond b (Some (pos 1, record { name = acme; cap = 10 })) None))

  abbrev own_if : Bool → List ℕ → List ℕ → Option Workspace
  own_if b org name = option_map (workspace_at (of_rows rows) org name) (option_map (λ (x : Kept WsRow). x.1.it) (find (λ (x : Kept WsRow). b) (of_rows rows).wss))

  abbrev of_org : Organization
  of_org = organization_at (of_rows rows) acme 10

  both_counts : (org : List ℕ) (o : Organization) → record_of (of_rows rows) org ≡ Some o → count_of o ≤ MAX_LIMIT
  both_counts org o is = go (bytes_eq acme org) refl
    where
      go : (b : Bool) → bytes_eq acme org ≡ b → count_of o ≤ MAX_LIMIT
      go true e =
          let reported : Some of_org ≡ Some o = subst (λ (n : List ℕ). record_of (of_rows rows) n ≡ Some o) (sym (equal_bytes acme org e)) is in
          let counted : count_of of_org ≡ 1 = sym (len-entries of_org.workspaces) ∙ entries_counted acme (λ (x : Kept WsRow). workspace_at (of_rows rows) acme x.1.name x.1.it) (of_rows rows).wss (tt, tt) in
          subst (λ (x : Organization). count_of x ≤ MAX_LIMIT) (same_Some _ _ reported) (omega (arith, counted))
      go false e = let none : None ≡ Some o = subst (λ (b : Bool). organization_if b org ≡ Some o) e is in absurd (cc)

  both_workspaces : workspace_by (of_rows rows) acme prod ≡ Some of_both → (org name : List ℕ) (w : Workspace) → workspace_by (of_rows rows) org name ≡ Some w → IsSoundWorkspace name w
  both_workspaces denoted org name w is = go (bytes_eq acme org && bytes_eq prod name) refl
    where
      go : (b : Bool) → (bytes_eq acme org && bytes_eq prod name) ≡ b → IsSoundWorkspace name w
      go true e =
          let parts = and_parts (bytes_eq acme org) (bytes_eq prod name) e in
          let there : workspace_by (of_rows rows) org prod ≡ Some w = subst (λ (n : List ℕ). workspace_by (of_rows rows) org n ≡ Some w) (sym (equal_bytes prod name parts.1)) is in
          let reported : Some of_both ≡ Some w = sym denoted ∙ subst (λ (o : List ℕ). workspace_by (of_rows rows) o prod ≡ Some w) (sym (equal_bytes acme org parts.0)) there in
          subst (λ (n : List ℕ). IsSoundWorkspace n w) (equal_bytes prod name parts.1) (subst (IsSoundWorkspace prod) (same_Some _ _ reported) of_both_is_lawful)
      go false e = let none : None ≡ Some w = subst (λ (b : Bool). own_if b org name ≡ Some w) e is in absurd (cc)

  both_uses : (b : Bool) → unwrap_or (option_map (λ (x : Kept PageRow). x.1.uses) (find (λ (x : Kept PageRow). b) (of_rows rows).pages)) 0 ≡ length (filter (λ (x : Kept VpageRow). b) (of_rows rows).vpages)
  both_uses true = refl
  both_uses false = refl

  text_of_first : HasText (of_rows rows) (pos 1, first_row)
  text_of_first zero low = (s1, refl, refl)
  text_of_first (suc place) low = absurd (omega (arith, low))

  text_of_second : HasText (of_rows rows) (pos 1, second_row)
  text_of_second zero low = (s1, refl, refl)
  text_of_second (suc place) low = absurd (omega (arith, low))

  both_are_sound : workspace_by (of_rows rows) acme prod ≡ Some of_both → AllByRecursion (λ (x : Kept VersionRow). list_any (is_ws x.1.org x.1.name) (of_rows rows).wss ≡ true) rows
      → AllByRecursion (IsPlaced (of_rows rows)) (of_rows rows).vpages → AllByRecursion (HasText (of_rows rows)) rows → IsSound (of_rows rows)
  both_are_sound denoted owned placed texts = record {
    reported = (refl, refl);
    accounts = record {
      orgs_apart = (tt, tt);
      tokens_apart = (tt, tt);
      digests_apart = (tt, tt);
      bounds_apart = (tt, tt);
      tokens_bound = (refl, tt);
      tokens_owned = (refl, tt);
      bounds_owned = (refl, tt);
      org_rows = one_is_sound.org_rows;
      token_rows = one_is_sound.token_rows;
      bound_rows = one_is_sound.bound_rows;
    };
    owned = record {
      wss_apart = (tt, tt);
      retentions_apart = (tt, tt);
      wss_kept = (refl, tt);
      wss_owned = (refl, tt);
      retentions_owned = (refl, tt);
      versions_owned = owned;
      runs_owned = (refl, tt);
    };
    contents = record {
      places = record {
        pages = record { apart = (tt, tt); differ = (tt, tt); used = (omega arith, tt) };
        counted = λ key twin. both_uses (bytes_eq (codes "{") key && 0 == twin);
        apart = ((refl, tt), (tt, tt));
      };
      placed = placed;
      texts = texts;
    };
    counts = both_counts;
    workspaces = both_workspaces denoted;
  }

abbrev in_order : Tables
in_order = of_rows ((pos 1, first_row) ∷ (pos 2, second_row) ∷ [])

abbrev in_another : Tables
in_another = of_rows ((pos 1, second_row) ∷ (pos 2, first_row) ∷ [])

in_order_is_sound : IsSound in_order
in_order_is_sound = both_are_sound in_order.versions refl (refl, (refl, tt)) (omega arith, (omega arith, tt)) (text_of_first in_order.versions, (text_of_second in_order.versions, tt))

in_another_is_sound : IsSound in_another
in_another_is_sound = both_are_sound in_another.versions refl (refl, (refl, tt)) (omega arith, (omega arith, tt)) (text_of_second in_another.versions, (text_of_first in_another.versions, tt))

in_another_the_same : record_of in_another acme ≡ record_of in_order acme
in_another_the_same = refl

-- ---- tables that aren't sound

-- two versions with one number
abbrev numbered_twice : Tables
numbered_twice = of_rows ((pos 1, first_row) ∷ (pos 2, first_row) ∷ [])

numbered_twice_is_not : IsSound numbered_twice → ⊥
numbered_twice_is_not sound = absurd (let rise = (sound.workspaces acme prod (record of_acme { versions = version 1 s1 ∷ version 1 s1 ∷ [] }) refl).lawful.versions.rise in omega (arith, rise.2.0))

-- a version between two that are kept is gone, or the newest is
gap_between : HasNoGap (1 ∷ 3 ∷ []) 4 → ⊥
gap_between h = omega (arith, h.0)

abbrev without_newest : Tables
without_newest = of_rows ((pos 1, first_row) ∷ [])

without_newest_is_not : IsSound without_newest → ⊥
without_newest_is_not sound = absurd (let follow = (sound.workspaces acme prod (record of_acme { versions = version 1 s1 ∷ [] }) refl).gapless in omega (arith, follow))

-- a version without its workspace
abbrev orphaned : Tables
orphaned = record two { wss = [] }

orphaned_is_not : IsSound orphaned → ⊥
orphaned_is_not sound = true≢false (sym sound.versions_owned.0)

-- another version
abbrev later : Tables
later = record two { editions = (pos 1, 4) ∷ [] }

later_is_not : IsSound later → ⊥
later_is_not sound = true≢false (ap (list_any (λ (x : Kept ℕ). x.1 == 4)) sound.reported.0)

-- a version that meta tells too
abbrev twice_reported : Tables
twice_reported = record two { metas = (pos 1, 1) ∷ [] }

twice_reported_is_not : IsSound twice_reported → ⊥
twice_reported_is_not sound = true≢false (ap (list_any (λ (x : Kept ℕ). x.1 == 1)) sound.reported.1)

-- a token of which no row tells how far it reaches
abbrev unbound : Tables
unbound = record two { bounds = [] }

unbound_is_not : IsSound unbound → ⊥
unbound_is_not sound = true≢false (sym sound.tokens_bound.0)

-- how far a token reaches that isn't there
abbrev tokenless : Tables
tokenless = record two { tokens = [] }

tokenless_is_not : IsSound tokenless → ⊥
tokenless_is_not sound = true≢false (sym sound.bounds_owned.0)

-- a workspace of which no row tells how many versions it keeps
abbrev unkept : Tables
unkept = record two { retentions = [] }

unkept_is_not : IsSound unkept → ⊥
unkept_is_not sound = true≢false (sym sound.wss_kept.0)

-- how many versions a workspace keeps that isn't there
abbrev wsless : Tables
wsless = record two { wss = (pos 2, record { org = acme; name = prod; it = record { runs = record { auto_apply = false }; holder = Lock x1 text; released = None; next_version = 3; next_run = 2 } }) ∷ [] }

wsless_is_not : IsSound wsless → ⊥
wsless_is_not sound = true≢false (sym sound.retentions_owned.0)

-- a workspace that keeps none
abbrev keepless : Tables
keepless = record two { retentions = (pos 1, record { org = globex; name = prod; it = 0 }) ∷ (pos 2, record { org = acme; name = prod; it = 2 }) ∷ [] }

keepless_is_not : IsSound keepless → ⊥
keepless_is_not sound = absurd (let least = (sound.workspaces globex prod (record of_globex { settings = record { runs = record { auto_apply = true }; retention = 0 } }) refl).lawful.versions.retention.0 in omega (arith, least))

-- two rows of one organization
abbrev doubled : Tables
doubled = record two { orgs = (pos 1, record { name = acme; cap = 10 }) ∷ (pos 2, record { name = acme; cap = 1 }) ∷ [] }

doubled_is_not : IsSound doubled → ⊥
doubled_is_not sound = true≢false (sound.orgs_apart.0.0)

-- a page that is in use more often than it is named
abbrev miscounted : Tables
miscounted = record two { pages = (pos 1, record { key = codes "{"; twin = 0; bytes = s1; uses = 3 }) ∷ (pos 2, record { key = codes "{"; twin = 1; bytes = s2; uses = 1 }) ∷ [] }

miscounted_is_not : IsSound miscounted → ⊥
miscounted_is_not sound = true≢false (ap (λ (n : ℕ). n == 3) (sound.places.counted (codes "{") 0))

-- a place behind the end of a text
abbrev beyond : Tables
beyond = record two { vpages = (pos 1, record { org = acme; ws = prod; number = 1; place = 1; key = codes "{"; twin = 0 }) ∷ [] }

beyond_is_not : IsSound beyond → ⊥
beyond_is_not sound = absurd (let below = sound.placed.0 in omega (arith, below))

-- ---- tables of versions

our_versions : has_versions_in (Some version_table) ≡ true
our_versions = refl

-- the text of each in its row
texts_in_rows : has_versions_in (Some (record version_table { columns = version_table.columns ++ (column (codes "body") Blob true ∷ []) })) ≡ false
texts_in_rows = refl

-- no size
no_sizes : has_versions_in (Some (record version_table { columns = take 6 version_table.columns })) ≡ false
no_sizes = refl
