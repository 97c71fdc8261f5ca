-- The resource that a path names, by its parts between slashes. No part is percent-decoded.
use Rattle.std.specs.Prelude.{ℕ, ◌&&◌, ◌==◌, if◌then◌else◌, List, [], ◌∷◌, Option, Some, None, codes, bytes_eq, option_map, option_and_then}
use Rattle.basis.specs.Names.{is_org_name, is_ws_name}
use Rattle.basis.specs.Numbers.{number_of}
use Rattle.basis.specs.declared.runs.RunAction.{RunAction}
use Rattle.basis.specs.declared.runs.RunAction.TheVariants.{ReportPlanned, ReportUnchanged, Fail, Confirm, ReportApplied, Discard, Cancel}
use Rattle.basis.specs.Runs.{action_word}

-- what a path names in its organization (RFC 9110, section 3.1)
pub data Resource : Type 0 where
  AllWorkspaces : Resource
  Workspace : List ℕ → Resource
  State : List ℕ → Resource
  AllVersions : List ℕ → Resource
  Version : List ℕ → ℕ → Resource
  AllRuns : List ℕ → Resource
  Run : List ℕ → ℕ → Resource
  Action : List ℕ → ℕ → RunAction → Resource

-- the same, and the organization
pub record OrgResource : Type 0 where
  pub org : List ℕ
  pub resource : Resource

-- the byte joins the first part
abbrev pub onto_first : ℕ → List (List ℕ) → List (List ℕ)
onto_first b [] = (b ∷ []) ∷ []
onto_first b (part ∷ parts) = (b ∷ part) ∷ parts

-- the parts of a path between its slashes (47)
abbrev pub path_parts : List ℕ → List (List ℕ)
path_parts [] = [] ∷ []
path_parts (b ∷ bytes) = if b == 47 then [] ∷ path_parts bytes else onto_first b (path_parts bytes)

-- the action that a word names
abbrev pub action_of : List ℕ → Option RunAction
action_of word =
    if bytes_eq word (action_word ReportPlanned) then Some ReportPlanned
    else (if bytes_eq word (action_word ReportUnchanged) then Some ReportUnchanged
    else (if bytes_eq word (action_word Fail) then Some Fail
    else (if bytes_eq word (action_word Confirm) then Some Confirm
    else (if bytes_eq word (action_word ReportApplied) then Some ReportApplied
    else (if bytes_eq word (action_word Discard) then Some Discard
    else (if bytes_eq word (action_word Cancel) then Some Cancel
    else None))))))

-- what a word says of a workspace
abbrev pub of_workspace : List ℕ → List ℕ → Option Resource
of_workspace word ws =
    if bytes_eq word (codes "workspaces") then Some (Workspace ws)
    else (if bytes_eq word (codes "state") then Some (State ws)
    else (if bytes_eq word (codes "versions") then Some (AllVersions ws)
    else (if bytes_eq word (codes "runs") then Some (AllRuns ws)
    else None)))

-- what a word says of a workspace and a number
abbrev pub of_number : List ℕ → List ℕ → ℕ → Option Resource
of_number word ws number =
    if bytes_eq word (codes "versions") then Some (Version ws number)
    else (if bytes_eq word (codes "runs") then Some (Run ws number)
    else None)

-- what a word says of a workspace, a number and an action
abbrev pub of_action : List ℕ → List ℕ → List ℕ → ℕ → RunAction → Option Resource
of_action word actions ws number action =
    if bytes_eq word (codes "runs") && bytes_eq actions (codes "actions") then Some (Action ws number action) else None

-- the parts after a workspace's name
abbrev pub after_workspace : List ℕ → List ℕ → List (List ℕ) → Option Resource
after_workspace word ws [] = of_workspace word ws
after_workspace word ws (n ∷ []) = option_and_then (of_number word ws) (number_of n)
after_workspace word ws (n ∷ actions ∷ []) = None
after_workspace word ws (n ∷ actions ∷ action ∷ []) =
    option_and_then (λ number. option_and_then (of_action word actions ws number) (action_of action)) (number_of n)
after_workspace word ws (n ∷ actions ∷ action ∷ more ∷ parts) = None

-- the parts after an organization's name
abbrev pub after_org : List (List ℕ) → Option Resource
after_org [] = None
after_org (word ∷ []) = if bytes_eq word (codes "workspaces") then Some AllWorkspaces else None
after_org (word ∷ ws ∷ parts) = if is_ws_name ws then after_workspace word ws parts else None

-- a resource in an organization
abbrev pub in_org : List ℕ → Resource → OrgResource
in_org org resource = record { org = org; resource = resource }

-- what the parts of a path name: `/v1/`, an organization's name, and what is in it
abbrev pub resource_at : List (List ℕ) → Option OrgResource
resource_at (root ∷ version ∷ org ∷ parts) =
    if bytes_eq root [] && bytes_eq version (codes "v1") && is_org_name org then option_map (in_org org) (after_org parts) else None
resource_at [] = None
resource_at (root ∷ []) = None
resource_at (root ∷ version ∷ []) = None

-- what a path names, or none where it is no route
abbrev pub resource_of : List ℕ → Option OrgResource
resource_of path = resource_at (path_parts path)
