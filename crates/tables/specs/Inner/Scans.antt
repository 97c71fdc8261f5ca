-- The rows of all tables, as they are read one table after the other.
use Rattle.std.specs.Prelude.{ℕ, List, [], map}
use Rattle.statements.specs.declared.rows.Rows.{Rows}
use Rattle.statements.specs.Tables.{Tables}
use Rattle.pages.specs.Heads.{head_in}

abbrev pub no_rows : Rows
no_rows = record { metas = []; orgs = []; tokens = []; wss = []; versions = []; runs = []; pages = []; vpages = []; bounds = []; editions = []; retentions = [] }

abbrev pub with_first : Tables → Rows → Rows
with_first t rows = record rows { metas = t.metas; editions = t.editions; orgs = t.orgs; tokens = t.tokens }

abbrev pub with_workspaces : Tables → Rows → Rows
with_workspaces t rows = record rows { bounds = t.bounds; wss = t.wss; retentions = t.retentions; versions = t.versions }

abbrev pub with_others : (List ℕ → List ℕ) → Tables → Rows → Rows
with_others key_of t rows = record rows { runs = t.runs; vpages = t.vpages; pages = map (head_in key_of t) t.pages }
