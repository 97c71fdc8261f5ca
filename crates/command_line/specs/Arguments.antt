-- The arguments of the commands, and what their values must be.
use Rattle.std.specs.Prelude.{ℕ, List, [], ◌∷◌, Bool, true, false, not, Option, is_some, cond, find, bytes_eq, codes}
use Rattle.std.specs.Option.{option_map_or}
use Rattle.basis.specs.Names.{is_org_name, is_prefix}
use Rattle.serve.specs.Bounds.{moment_of}
use Rattle.serve.specs.Parts.{limit_of, role_of}
use Rattle.command_line.specs.Orders.{Given, port_of, connections_of, seconds_of}
use Rattle.command_line.specs.declared.arguments.Argument.{Argument}
use Rattle.command_line.specs.declared.arguments.Argument.TheVariants as argument

-- the line on the error stream for an argument whose value is not valid
abbrev pub form_line : Argument → List ℕ
form_line argument.Command = codes "custody: the command is not one that --help lists\n"
form_line argument.Db = codes "custody: --db needs the path of a file\n"
form_line argument.To = codes "custody: --to needs the path of a file\n"
form_line argument.Org = codes "custody: the value of ORG must be 1 to 40 of a-z, 0-9 and '-', starting with a letter\n"
form_line argument.Name = codes "custody: the value of NAME must be 1 to 40 of a-z, 0-9 and '-', starting with a letter\n"
form_line argument.Role = codes "custody: the value of ROLE must be read, write or admin\n"
form_line argument.Limit = codes "custody: the value of --limit must be 0 to 100000 without a leading zero\n"
form_line argument.NewLimit = codes "custody: the value of N must be 0 to 100000 without a leading zero\n"
form_line argument.Until = codes "custody: the value of --until must be 0 to 253402300799 without a leading zero\n"
form_line argument.Prefix = codes "custody: the value of --prefix must be 0 to 90 ASCII letters, digits, '-' and '_'\n"
form_line argument.Listening = codes "custody: serve needs either --port P or --socket PATH\n"
form_line argument.Port = codes "custody: the value of --port must be 1 to 65535 without a leading zero\n"
form_line argument.Counting = codes "custody: serve needs either --count N or --unlimited\n"
form_line argument.Count = codes "custody: the value of --count must be 1 to 1000000 without a leading zero\n"
form_line argument.Idle = codes "custody: the value of --idle must be 1 to 3600 without a leading zero\n"
form_line argument.Most = codes "custody: the value of --most must be 1 to 3600 without a leading zero\n"

-- exactly one of two
abbrev pub is_one_of : Bool → Bool → Bool
is_one_of first second = cond first (not second) second

-- the values fit an argument: its value is there if it is required, and is valid; nothing fits an unknown command
abbrev pub fits : Given → Argument → Bool
fits given argument.Command = false
fits given argument.Db = is_some given.db
fits given argument.To = is_some given.to
fits given argument.Org = option_map_or is_org_name given.org false
fits given argument.Name = option_map_or is_org_name given.name false
fits given argument.Role = option_map_or (λ word. is_some (role_of word)) given.role false
fits given argument.Limit = option_map_or (λ word. is_some (limit_of word)) given.limit true
fits given argument.NewLimit = option_map_or (λ word. is_some (limit_of word)) given.limit false
fits given argument.Until = option_map_or (λ word. is_some (moment_of word)) given.until true
fits given argument.Prefix = option_map_or is_prefix given.prefix true
fits given argument.Listening = is_one_of (is_some given.port) (is_some given.socket)
fits given argument.Port = option_map_or (λ word. is_some (port_of word)) given.port true
fits given argument.Counting = is_one_of (is_some given.count) given.unlimited
fits given argument.Count = option_map_or (λ word. is_some (connections_of word)) given.count true
fits given argument.Idle = option_map_or (λ word. is_some (seconds_of word)) given.idle true
fits given argument.Most = option_map_or (λ word. is_some (seconds_of word)) given.most true

-- the arguments of a command on one organization, in the order in which their values are judged; an unknown command is itself at fault
abbrev pub arguments_on : List ℕ → List Argument
arguments_on command =
    cond (bytes_eq command (codes "org-add")) (argument.Db ∷ argument.Org ∷ argument.Limit ∷ [])
    (cond (bytes_eq command (codes "org-limit")) (argument.Db ∷ argument.Org ∷ argument.NewLimit ∷ [])
    (cond (bytes_eq command (codes "token-list")) (argument.Db ∷ argument.Org ∷ [])
    (cond (bytes_eq command (codes "token-revoke")) (argument.Db ∷ argument.Org ∷ argument.Name ∷ []) (argument.Command ∷ []))))

-- the arguments of a command on a file, in the order in which their values are judged
abbrev pub arguments_at : List ℕ → List Argument
arguments_at command =
    cond (bytes_eq command (codes "serve")) (argument.Db ∷ argument.Listening ∷ argument.Port ∷ argument.Counting ∷ argument.Count ∷ argument.Idle ∷ argument.Most ∷ [])
    (cond (bytes_eq command (codes "check")) (argument.Db ∷ [])
    (cond (bytes_eq command (codes "admin")) (argument.Db ∷ [])
    (cond (bytes_eq command (codes "org-copy")) (argument.Db ∷ argument.To ∷ argument.Org ∷ [])
    (cond (bytes_eq command (codes "compact")) (argument.Db ∷ argument.To ∷ [])
    (cond (bytes_eq command (codes "token-add")) (argument.Db ∷ argument.Org ∷ argument.Name ∷ argument.Role ∷ argument.Until ∷ argument.Prefix ∷ [])
    (cond (bytes_eq command (codes "org-remove")) (argument.Db ∷ argument.Org ∷ [])
    (cond (bytes_eq command (codes "org-list")) (argument.Db ∷ []) (arguments_on command))))))))

-- the arguments of a command
abbrev pub arguments_of : List ℕ → List Argument
arguments_of command = cond (bytes_eq command (codes "replay")) [] (arguments_at command)

-- the first argument of a command that the values do not fit
abbrev pub first_misfit : List ℕ → Given → Option Argument
first_misfit command given = find (λ argument. not (fits given argument)) (arguments_of command)
