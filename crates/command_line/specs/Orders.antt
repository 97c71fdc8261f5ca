-- What the words of the program ask for, once `clap` has parted them.
use Rattle.std.specs.Prelude.{ℕ, List, Bool, true, false, Option, Some, None, ◌&&◌, cond, option_map, option_and_then, bytes_eq, codes}
use Rattle.std.specs.Borrow.{Bor}
use Rattle.basis.specs.Names.{is_org_name}
use Rattle.basis.specs.Numbers.{whole_of, within}
use Rattle.basis.specs.declared.roles.Bounds.{Bounds}
use Rattle.basis.specs.declared.roles.Role.{Role}
use Rattle.clap.specs.Words.{Row, first_of, first_value}
use Rattle.clap.specs.declared.parser.matches.Found.{Found}
use Rattle.serve.specs.declared.steps.Admin as Operator
use Rattle.serve.specs.declared.steps.Admin.TheVariants.{OrgList, TokenAdd}
use Rattle.command_line.specs.Bounds.{bounds_given}
use Rattle.serve.specs.Parts.{limit_of, role_of, org_command, limit_command, remove_command, list_command, revoke_command}
use Rattle.command_line.specs.declared.addresses.Address.{Address}
use Rattle.command_line.specs.declared.addresses.Address.TheVariants.{Port, Socket}
use Rattle.command_line.specs.declared.orders.NewToken.{NewToken}
use Rattle.command_line.specs.declared.orders.Values.{Values}
use Rattle.command_line.specs.declared.orders.Order.{Order}
use Rattle.command_line.specs.declared.orders.Order.TheVariants.{Carry, AddToken, Check, Copy, RemoveCopied, Compact, Serve, CarryAll, Replay, Version}
use Rattle.command_line.specs.declared.timeouts.Timeouts.{Timeouts}

-- where a service listens: at a TCP port of 127.0.0.1, or at a Unix socket, by its path
pub data Site : Type 0 where
  at_port : ℕ → Site
  at_socket : List ℕ → Site

-- the same of an address
abbrev pub site_of : Address → Site
site_of (Port port) = at_port port
site_of (Socket path) = at_socket path.now

-- what is asked for; a database is named by the path of its file
pub data Asked : Type 0 where
  -- an operator's command
  carries : List ℕ → Operator.Admin → Asked
  -- a new token of this organization, name and role, with these bounds, but without its secret
  adds_token : List ℕ → List ℕ → List ℕ → Role → Bounds → Asked
  -- to check the tables of a file
  checks_file : List ℕ → Asked
  -- to copy an organization from one file to another: the two paths, and its name
  copies : List ℕ → List ℕ → List ℕ → Asked
  -- to remove an organization from one file, if another one has the same: the two paths, its name, and whether this is forced
  removes_copied : List ℕ → List ℕ → List ℕ → Bool → Asked
  -- to copy every organization from one file to another
  compacts : List ℕ → List ℕ → Asked
  -- to serve at a site: this many connections, each with these timeouts; whether the log is on; whether the tables are checked first; whether
  -- an operator's door is open
  serves : List ℕ → Site → ℕ → Timeouts → Bool → Bool → Bool → Asked
  -- to carry out the operator's commands on standard input, one per line, on a file
  carries_all : List ℕ → Asked
  -- to answer frames
  replays : Asked
  -- to print the version of the program
  reports_version : Asked

-- the values among the words, by argument, and whether `--unlimited`, `--log`, `--check`, `--operator` and `--force` are given
pub record Given : Type 0 where
  pub db : Option (List ℕ)
  pub to : Option (List ℕ)
  pub copied : Option (List ℕ)
  pub org : Option (List ℕ)
  pub limit : Option (List ℕ)
  pub name : Option (List ℕ)
  pub role : Option (List ℕ)
  pub until : Option (List ℕ)
  pub prefix : Option (List ℕ)
  pub port : Option (List ℕ)
  pub socket : Option (List ℕ)
  pub count : Option (List ℕ)
  pub idle : Option (List ℕ)
  pub most : Option (List ℕ)
  pub unlimited : Bool
  pub logs : Bool
  pub checks : Bool
  pub operates : Bool
  pub forces : Bool

-- a port: 1 to 65,535
abbrev pub port_of : List ℕ → Option ℕ
port_of word = option_and_then (within 1 65_535) (whole_of word)

-- where to listen: from `--port` or from `--socket`, never from both
abbrev pub address_asked : Option (List ℕ) → Option (List ℕ) → Option Site
address_asked (Some word) None = option_map at_port (port_of word)
address_asked None (Some path) = Some (at_socket path)
address_asked _ _ = None

-- a number of connections: 1 to 1,000,000
abbrev pub connections_of : List ℕ → Option ℕ
connections_of word = option_and_then (within 1 1_000_000) (whole_of word)

-- the number that `--unlimited` stands for: 2 ^ 64 - 1. At a million a second they last for half a million years
abbrev pub unlimited : ℕ
unlimited = 18_446_744_073_709_551_615

-- how many connections: from `--count` or from `--unlimited`, never from both
abbrev pub count_asked : Option (List ℕ) → Bool → Option ℕ
count_asked (Some word) false = connections_of word
count_asked None true = Some unlimited
count_asked _ _ = None

-- a timeout: 1 to 3,600 seconds
abbrev pub seconds_of : List ℕ → Option ℕ
seconds_of word = option_and_then (within 1 3_600) (whole_of word)

-- the seconds that are given, or the default
abbrev pub seconds_or : ℕ → Option (List ℕ) → Option ℕ
seconds_or usual (Some word) = seconds_of word
seconds_or usual None = Some usual

-- the limit, or 200 if none is given
abbrev pub limit_or_first : Option (List ℕ) → Option ℕ
limit_or_first (Some word) = limit_of word
limit_or_first None = Some 200

-- a command on the organization of this name
abbrev pub command_on : List ℕ → List ℕ → Given → Option Operator.Admin
command_on command org given =
    cond (bytes_eq command (codes "org-add")) (org_command org (limit_or_first given.limit))
    (cond (bytes_eq command (codes "org-limit")) (option_and_then (λ limit. limit_command org (limit_of limit)) given.limit)
    (cond (bytes_eq command (codes "token-list")) (list_command org)
    (cond (bytes_eq command (codes "token-revoke")) (option_and_then (λ name. revoke_command org name) given.name) None)))

-- an operator's command that needs no secret
abbrev pub command_in : List ℕ → Given → Option Operator.Admin
command_in command given =
    cond (bytes_eq command (codes "org-list")) (Some OrgList) (option_and_then (λ org. command_on command org given) given.org)

-- a new token, if organization, name, role and bounds are valid
abbrev pub token_in : List ℕ → List ℕ → Option Role → Option Bounds → Option NewToken
token_in org name role bounds =
    cond (is_org_name org && is_org_name name) (option_and_then (λ r. option_map (λ b. record { org = org; name = name; role = r; bounds = b }) bounds) role) None

abbrev pub token_asked : Given → Option NewToken
token_asked given =
    option_and_then (λ org. option_and_then (λ name. option_and_then (λ role. token_in org name (role_of role) (bounds_given given.until given.prefix)) given.role) given.name) given.org

-- 10 seconds for a read or a write and 120 for a connection, unless others are given
abbrev pub timeouts_asked : Given → Option Timeouts
timeouts_asked given =
    option_and_then (λ idle. option_map (λ most. record { idle = idle; most = most }) (seconds_or 120 given.most)) (seconds_or 10 given.idle)

abbrev pub serving_asked : List ℕ → Given → Option Asked
serving_asked db given =
    option_and_then (λ site. option_and_then (λ count. option_map (λ timeouts. serves db site count timeouts given.logs given.checks given.operates) (timeouts_asked given)) (count_asked given.count given.unlimited)) (address_asked given.port given.socket)

-- a copy of one organization, if its name is valid
abbrev pub copy_in : List ℕ → List ℕ → List ℕ → Option Asked
copy_in from to org = cond (is_org_name org) (Some (copies from to org)) None

abbrev pub copying_asked : List ℕ → Given → Option Asked
copying_asked db given = option_and_then (λ to. option_and_then (λ org. copy_in db to org) given.org) given.to

-- a removal of one organization, if its name is valid: whatever other files have, or only if the file at this path has the same
abbrev pub removal_asked : List ℕ → Option (List ℕ) → List ℕ → Bool → Option Asked
removal_asked db None org is_forced = option_map (λ c. carries db c) (remove_command org is_forced)
removal_asked db (Some copy) org is_forced = cond (is_org_name org) (Some (removes_copied db copy org is_forced)) None

abbrev pub removing_asked : List ℕ → Given → Option Asked
removing_asked db given = option_and_then (λ org. removal_asked db given.copied org given.forces) given.org

abbrev pub compacting_asked : List ℕ → Option (List ℕ) → Option Asked
compacting_asked db to = option_map (λ path. compacts db path) to

-- a command on a file
abbrev pub file_asked : List ℕ → List ℕ → Given → Option Asked
file_asked command db given =
    cond (bytes_eq command (codes "serve")) (serving_asked db given)
    (cond (bytes_eq command (codes "check")) (Some (checks_file db))
    (cond (bytes_eq command (codes "admin")) (Some (carries_all db))
    (cond (bytes_eq command (codes "org-copy")) (copying_asked db given)
    (cond (bytes_eq command (codes "compact")) (compacting_asked db given.to)
    (cond (bytes_eq command (codes "token-add")) (option_map (λ token. adds_token db token.org token.name token.role token.bounds) (token_asked given))
    (cond (bytes_eq command (codes "org-remove")) (removing_asked db given)
    (option_map (λ c. carries db c) (command_in command given))))))))

-- what a command of this name asks for with these values
abbrev pub asked_with : List ℕ → Given → Option Asked
asked_with command given =
    cond (bytes_eq command (codes "replay")) (Some replays) (option_and_then (λ db. file_asked command db given) given.db)

-- whether a flag is given: `clap` has the value `true` if it is, and `false` if not
abbrev pub flag_of : Option (List ℕ) → Bool
flag_of (Some word) = bytes_eq word (codes "true")
flag_of None = false

-- the values of a command's arguments
abbrev pub given_in : List Row → Given
given_in rows = record {
  db = first_of (codes "db") rows;
  to = first_of (codes "to") rows;
  copied = first_of (codes "copied-to") rows;
  org = first_of (codes "org") rows;
  limit = first_of (codes "limit") rows;
  name = first_of (codes "name") rows;
  role = first_of (codes "role") rows;
  until = first_of (codes "until") rows;
  prefix = first_of (codes "prefix") rows;
  port = first_of (codes "port") rows;
  socket = first_of (codes "socket") rows;
  count = first_of (codes "count") rows;
  idle = first_of (codes "idle") rows;
  most = first_of (codes "most") rows;
  unlimited = flag_of (first_of (codes "unlimited") rows);
  logs = flag_of (first_of (codes "log") rows);
  checks = flag_of (first_of (codes "check") rows);
  operates = flag_of (first_of (codes "operator") rows);
  forces = flag_of (first_of (codes "force") rows);
}

-- the same, of what a parse found
abbrev pub given_found : Found → Given
given_found found = record {
  db = first_value found (codes "db");
  to = first_value found (codes "to");
  copied = first_value found (codes "copied-to");
  org = first_value found (codes "org");
  limit = first_value found (codes "limit");
  name = first_value found (codes "name");
  role = first_value found (codes "role");
  until = first_value found (codes "until");
  prefix = first_value found (codes "prefix");
  port = first_value found (codes "port");
  socket = first_value found (codes "socket");
  count = first_value found (codes "count");
  idle = first_value found (codes "idle");
  most = first_value found (codes "most");
  unlimited = flag_of (first_value found (codes "unlimited"));
  logs = flag_of (first_value found (codes "log"));
  checks = flag_of (first_value found (codes "check"));
  operates = flag_of (first_value found (codes "operator"));
  forces = flag_of (first_value found (codes "force"));
}

abbrev pub text_in : Option (Bor (List ℕ)) → Option (List ℕ)
text_in value = option_map (λ text. text.now) value

abbrev pub given_of : Values → Given
given_of values = record {
  db = text_in values.db;
  to = text_in values.to;
  copied = text_in values.copied;
  org = text_in values.org;
  limit = text_in values.limit;
  name = text_in values.name;
  role = text_in values.role;
  until = text_in values.until;
  prefix = text_in values.prefix;
  port = text_in values.port;
  socket = text_in values.socket;
  count = text_in values.count;
  idle = text_in values.idle;
  most = text_in values.most;
  unlimited = values.unlimited;
  logs = values.logs;
  checks = values.checks;
  operates = values.operates;
  forces = values.forces;
}

-- what an order says
abbrev pub said_by : Order → Asked
said_by (Carry db command) = carries db.now command
said_by (AddToken db token) = adds_token db.now token.org token.name token.role token.bounds
said_by (Check db) = checks_file db.now
said_by (Copy from to org) = copies from.now to.now org
said_by (RemoveCopied db copy org is_forced) = removes_copied db.now copy.now org is_forced
said_by (Compact from to) = compacts from.now to.now
said_by (Serve db address count timeouts logs checks operates) = serves db.now (site_of address) count timeouts logs checks operates
said_by (CarryAll db) = carries_all db.now
said_by Replay = replays
said_by Version = reports_version

-- the command that adds a token with a secret
abbrev pub with_secret : NewToken → List ℕ → Operator.Admin
with_secret token secret = TokenAdd token.org token.name token.role secret token.bounds
