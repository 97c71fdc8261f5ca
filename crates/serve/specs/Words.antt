-- The operator's commands as text: a line, its words, and the command that they form.
use Rattle.std.specs.Prelude.{ℕ, true, false, List, [], ◌∷◌, Option, Some, None, ◌==◌, cond, option_map, option_and_then, map, bytes_eq, codes}
use Rattle.std.specs.Borrow.{Bor}
use Rattle.std.specs.List.{slice_split}
use Rattle.std.specs.Str.{is_utf8}
use Rattle.serve.specs.declared.steps.Admin as Operator
use Rattle.serve.specs.declared.steps.Admin.TheVariants.{OrgList}
use Rattle.serve.specs.Bounds.{bounds_of}
use Rattle.serve.specs.Parts.{limit_of, org_command, limit_command, remove_command, token_command, list_command, revoke_command}

-- a line, if it is UTF-8
abbrev pub text_of : List ℕ → Option (List ℕ)
text_of line = cond (is_utf8 line) (Some line) None

-- the words of a text, separated by single spaces (32)
abbrev pub words_in : List ℕ → List (List ℕ)
words_in text = slice_split (λ b. b == 32) text

-- the words of a line that is UTF-8
abbrev pub words_of : List ℕ → Option (List (List ℕ))
words_of line = option_map words_in (text_of line)

-- the bytes of each word
abbrev pub bytes_of : List (Bor (List ℕ)) → List (List ℕ)
bytes_of words = map (λ word. word.now) words

-- `ORG`, with the limit 200, or `ORG LIMIT`
abbrev pub org_add_of : List (List ℕ) → Option Operator.Admin
org_add_of (org ∷ []) = org_command org (Some 200)
org_add_of (org ∷ limit ∷ []) = org_command org (limit_of limit)
org_add_of words = None

-- `ORG N`
abbrev pub org_limit_of : List (List ℕ) → Option Operator.Admin
org_limit_of (org ∷ limit ∷ []) = limit_command org (limit_of limit)
org_limit_of words = None

-- `ORG`, or `ORG force`
abbrev pub forced_of : List ℕ → List ℕ → Option Operator.Admin
forced_of org word = cond (bytes_eq word (codes "force")) (remove_command org true) None

abbrev pub org_remove_of : List (List ℕ) → Option Operator.Admin
org_remove_of (org ∷ []) = remove_command org false
org_remove_of (org ∷ word ∷ []) = forced_of org word
org_remove_of words = None

-- no words
abbrev pub org_list_of : List (List ℕ) → Option Operator.Admin
org_list_of [] = Some OrgList
org_list_of words = None

-- `ORG NAME ROLE SECRET`, then optional bounds: `until=SECONDS`, `prefix=TEXT`
abbrev pub token_add_of : List (List ℕ) → Option Operator.Admin
token_add_of (org ∷ name ∷ role ∷ secret ∷ words) = option_and_then (λ bounds. token_command org name role secret bounds) (bounds_of words)
token_add_of words = None

-- `ORG`
abbrev pub token_list_of : List (List ℕ) → Option Operator.Admin
token_list_of (org ∷ []) = list_command org
token_list_of words = None

-- `ORG NAME`
abbrev pub token_revoke_of : List (List ℕ) → Option Operator.Admin
token_revoke_of (org ∷ name ∷ []) = revoke_command org name
token_revoke_of words = None

-- an operator's command: its name, and its own words
abbrev pub command_of : List (List ℕ) → Option Operator.Admin
command_of [] = None
command_of (name ∷ words) =
    cond (bytes_eq name (codes "org-add")) (org_add_of words)
    (cond (bytes_eq name (codes "org-limit")) (org_limit_of words)
    (cond (bytes_eq name (codes "org-remove")) (org_remove_of words)
    (cond (bytes_eq name (codes "org-list")) (org_list_of words)
    (cond (bytes_eq name (codes "token-add")) (token_add_of words)
    (cond (bytes_eq name (codes "token-list")) (token_list_of words)
    (cond (bytes_eq name (codes "token-revoke")) (token_revoke_of words) None))))))

-- the command that a line is
abbrev pub command_in_line : List ℕ → Option Operator.Admin
command_in_line line = option_and_then command_of (words_of line)
