-- The numbers of rows of a file's tables, as `check` prints them.
use Rattle.std.specs.Prelude.{ℕ, List, [], ◌∷◌, ◌++◌, Option, Some, None, codes}
use Rattle.std.specs.Fmt.{decimal}
use Rattle.program.specs.declared.totals.Totals.{Totals}

-- when the newest version was created, in seconds since 1970; a hyphen if there is no version
abbrev pub newest_word : Option ℕ → List ℕ
newest_word (Some seconds) = codes " newest " ++ decimal seconds ++ 10 ∷ []
newest_word None = codes " newest -\n"

-- `organizations N workspaces N versions N runs N made N newest SECONDS`, and a line feed; N behind `made` is the number of versions ever made
abbrev pub totals_line : Totals → List ℕ
totals_line t =
    (codes "organizations " ++ decimal t.organizations) ++ (codes " workspaces " ++ decimal t.workspaces) ++ (codes " versions " ++ decimal t.versions)
    ++ (codes " runs " ++ decimal t.runs) ++ (codes " made " ++ decimal t.made) ++ newest_word t.newest

-- what `check` prints if there is no fault: a line `ok`, and the numbers of rows
abbrev pub sound_text : Totals → List ℕ
sound_text t = codes "ok\n" ++ totals_line t

-- what `--version` prints
abbrev pub version_text : ℕ → List ℕ
version_text schema = codes "custody 1.0.0 (schema " ++ decimal schema ++ codes ")\n"
