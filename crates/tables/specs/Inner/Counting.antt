-- What is kept in memory about an organization's workspaces, and how it changes.
use Rattle.std.specs.Prelude.{ℕ, ◌+◌, nat_lt, Bool, cond, List, Option, Some, None}
use Rattle.std.specs.Str.{bytes_eq}
use Rattle.basis.specs.declared.numbers.TheConstants.{MAX_LIMIT}
use Rattle.machine.specs.declared.acts.Edit.{Edit}
use Rattle.machine.specs.declared.acts.Edit.TheVariants.{Make, Configure, Remove, AddVersion, Purge, Hold, Release, AddRun, Report}
use Rattle.machine.specs.declared.acts.Unit.{Unit}
use Rattle.machine.specs.declared.acts.Unit.TheVariants.{Absent, Present}
use Rattle.tables.specs.declared.counts.WorkspaceCount.{WorkspaceCount}

-- the number of an organization's workspaces, if it is in memory
abbrev pub known_of : Option WorkspaceCount → List ℕ → Option ℕ
known_of None org = None
known_of (Some c) org = cond (bytes_eq c.org org) (Some c.count) None

-- after a read: if the workspace is missing and the act creates it, the number of workspaces
abbrev pub count_after : Option WorkspaceCount → Bool → List ℕ → List ℕ → Unit → Option WorkspaceCount
count_after before makes org ws (Absent count limit) = cond makes (Some (record { org = org; count = count; absent = Some ws })) before
count_after before makes org ws (Present w) = before

-- after a workspace was created: one more, if it was the missing one
abbrev pub one_more_of : WorkspaceCount → Option (List ℕ) → List ℕ → Option WorkspaceCount
one_more_of c None ws = None
one_more_of c (Some absent) ws = cond (bytes_eq absent ws) (cond (nat_lt c.count MAX_LIMIT) (Some (record { org = c.org; count = c.count + 1; absent = None })) None) None

abbrev pub one_more : WorkspaceCount → List ℕ → Option WorkspaceCount
one_more c ws = one_more_of c c.absent ws

-- after an edit: nothing is kept if it deletes a workspace; other edits keep all workspaces
abbrev pub edited_count : WorkspaceCount → List ℕ → Edit → Option WorkspaceCount
edited_count c ws (Make settings) = one_more c ws
edited_count c ws Remove = None
edited_count c ws (Configure settings outgoing) = Some c
edited_count c ws (AddVersion version outgoing) = Some c
edited_count c ws Purge = Some c
edited_count c ws (Hold id text) = Some c
edited_count c ws (Release id) = Some c
edited_count c ws (AddRun number ask created) = Some c
edited_count c ws (Report number action status frees) = Some c

-- after a workspace was changed; a workspace of another organization does not matter
abbrev pub changed_count : Option WorkspaceCount → List ℕ → List ℕ → Edit → Option WorkspaceCount
changed_count None org ws edit = None
changed_count (Some c) org ws edit = cond (bytes_eq c.org org) (edited_count c ws edit) (Some c)
