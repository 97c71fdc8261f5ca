-- Why a line is neither skipped nor a command of an operator: the first of its words at fault, from the left.
use Rattle.std.specs.Prelude.{ℕ, List, [], ◌∷◌, Bool, Option, Some, None, ◌==◌, cond, is_some, nat_eq, nat_le, length, bytes_eq, codes}
use Rattle.std.specs.List.{ends_with, starts_with}
use Rattle.basis.specs.Names.{is_org_name, is_secret}
use Rattle.command_line.specs.Arguments.{form_line}
use Rattle.command_line.specs.declared.arguments.Argument.TheVariants as argument
use Rattle.serve.specs.Bounds.{bounds_of}
use Rattle.serve.specs.Parts.{role_of}
use Rattle.serve.specs.Words.{words_of}
use Rattle.program.specs.declared.line_faults.LineFault.{LineFault}
use Rattle.program.specs.declared.line_faults.LineFault.TheVariants.{Return, Long, Encoding, Command, OrgAdd, OrgLimit, OrgRemove, OrgList, TokenAdd, TokenList, TokenRevoke, Operator, SameName, SameSecret, ManyOperators, NoOperator, Org, Name, Role, Secret, Limit, NewLimit, Until, Prefix}

-- the line on the error stream for each fault. A value is described as for the words of the program
abbrev pub fault_text : LineFault → List ℕ
fault_text Return = codes "custody: the line ends with a carriage return: each line must end with LF, not with CR LF\n"
fault_text Long = codes "custody: the line has more than 4096 bytes\n"
fault_text Encoding = codes "custody: the line is not UTF-8\n"
fault_text Command = codes "custody: the line does not begin with a command that admin --help lists\n"
fault_text OrgAdd = codes "custody: the line must be: org-add ORG [LIMIT], with one space between words\n"
fault_text OrgLimit = codes "custody: the line must be: org-limit ORG N, with one space between words\n"
fault_text OrgRemove = codes "custody: the line must be: org-remove ORG [force], with one space between words\n"
fault_text OrgList = codes "custody: the line must be: org-list, without other words\n"
fault_text TokenAdd = codes "custody: the line must be: token-add ORG NAME ROLE SECRET [until=SECONDS] [prefix=TEXT], with one space between words\n"
fault_text TokenList = codes "custody: the line must be: token-list ORG, with one space between words\n"
fault_text TokenRevoke = codes "custody: the line must be: token-revoke ORG NAME, with one space between words\n"
fault_text Operator = codes "custody: the line must be: NAME SECRET [until=SECONDS] [list], or SECRET alone, with one space between words\n"
fault_text SameName = codes "custody: a line before has the same NAME\n"
fault_text SameSecret = codes "custody: a line before has the same SECRET\n"
fault_text ManyOperators = codes "custody: there are more than 100 operators\n"
fault_text NoOperator = codes "custody: there is no operator\n"
fault_text Org = form_line argument.Org
fault_text Name = form_line argument.Name
fault_text Role = form_line argument.Role
fault_text Secret = codes "custody: the value of SECRET must be 16 to 64 ASCII letters or digits\n"
fault_text Limit = codes "custody: the value of LIMIT must be 0 to 100000 without a leading zero\n"
fault_text NewLimit = form_line argument.NewLimit
fault_text Until = codes "custody: the value of until= must be 0 to 253402300799 without a leading zero\n"
fault_text Prefix = codes "custody: the value of prefix= must be 0 to 90 ASCII letters, digits, '-' and '_'\n"

-- the line ends with CR (13), before its line feed or at the end of the input
abbrev pub has_return : List ℕ → Bool
has_return line = ends_with ◌==◌ line (13 ∷ [])

-- the organization's name is at fault, or else this is
abbrev pub org_or : List ℕ → LineFault → LineFault
org_or org fault = cond (is_org_name org) fault Org

-- `ORG`, or `ORG LIMIT`
abbrev pub org_add_fault : List (List ℕ) → LineFault
org_add_fault (org ∷ []) = Org
org_add_fault (org ∷ limit ∷ []) = org_or org Limit
org_add_fault words = OrgAdd

-- `ORG N`
abbrev pub org_limit_fault : List (List ℕ) → LineFault
org_limit_fault (org ∷ limit ∷ []) = org_or org NewLimit
org_limit_fault words = OrgLimit

-- `ORG`, or `ORG force`
abbrev pub org_remove_fault : List (List ℕ) → LineFault
org_remove_fault (org ∷ []) = Org
org_remove_fault (org ∷ word ∷ []) = org_or org OrgRemove
org_remove_fault words = OrgRemove

-- a word that is neither `until=SECONDS` nor `prefix=TEXT`: its value is at fault if it begins like one
abbrev pub bound_fault : List ℕ → LineFault
bound_fault word = cond (starts_with nat_eq word (codes "until=")) Until (cond (starts_with nat_eq word (codes "prefix=")) Prefix TokenAdd)

-- the word is `until=SECONDS` or `prefix=TEXT`
abbrev pub is_bound : List ℕ → Bool
is_bound word = is_some (bounds_of (word ∷ []))

-- the second of two words after a secret, whose first is a bound: if both are, their order is at fault
abbrev pub second_fault : List ℕ → LineFault
second_fault word = cond (is_bound word) TokenAdd (bound_fault word)

abbrev pub both_faults : List ℕ → List ℕ → LineFault
both_faults first second = cond (is_bound first) (second_fault second) (bound_fault first)

-- the words after a secret: `until=SECONDS` and `prefix=TEXT`, in this order, each optional
abbrev pub bounds_fault : List (List ℕ) → LineFault
bounds_fault (word ∷ []) = bound_fault word
bounds_fault (first ∷ second ∷ []) = both_faults first second
bounds_fault words = TokenAdd

-- `ORG NAME ROLE SECRET`, then these words
abbrev pub secret_fault : List ℕ → List (List ℕ) → LineFault
secret_fault secret words = cond (is_secret secret) (bounds_fault words) Secret

abbrev pub role_fault : List ℕ → List ℕ → List (List ℕ) → LineFault
role_fault role secret words = cond (is_some (role_of role)) (secret_fault secret words) Role

abbrev pub name_fault : List ℕ → List ℕ → List ℕ → List (List ℕ) → LineFault
name_fault name role secret words = cond (is_org_name name) (role_fault role secret words) Name

abbrev pub token_add_fault : List (List ℕ) → LineFault
token_add_fault (org ∷ name ∷ role ∷ secret ∷ words) = cond (is_org_name org) (name_fault name role secret words) Org
token_add_fault words = TokenAdd

-- `ORG`
abbrev pub token_list_fault : List (List ℕ) → LineFault
token_list_fault (org ∷ []) = Org
token_list_fault words = TokenList

-- `ORG NAME`
abbrev pub token_revoke_fault : List (List ℕ) → LineFault
token_revoke_fault (org ∷ name ∷ []) = org_or org Name
token_revoke_fault words = TokenRevoke

-- the name of a command, and its own words
abbrev pub words_fault : List (List ℕ) → LineFault
words_fault [] = Command
words_fault (name ∷ words) =
    cond (bytes_eq name (codes "org-add")) (org_add_fault words)
    (cond (bytes_eq name (codes "org-limit")) (org_limit_fault words)
    (cond (bytes_eq name (codes "org-remove")) (org_remove_fault words)
    (cond (bytes_eq name (codes "org-list")) OrgList
    (cond (bytes_eq name (codes "token-add")) (token_add_fault words)
    (cond (bytes_eq name (codes "token-list")) (token_list_fault words)
    (cond (bytes_eq name (codes "token-revoke")) (token_revoke_fault words) Command))))))

abbrev pub read_fault : Option (List (List ℕ)) → LineFault
read_fault None = Encoding
read_fault (Some words) = words_fault words

-- why a line is neither skipped nor a command; of any other line it says nothing
abbrev pub line_fault : List ℕ → LineFault
line_fault line = cond (has_return line) Return (cond (nat_le (length line) 4096) (read_fault (words_of line)) Long)
