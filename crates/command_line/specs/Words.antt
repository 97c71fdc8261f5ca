-- The words of the program: its commands, in `clap`'s terms, and what words ask for.
use Rattle.std.specs.Prelude.{ℕ, List, [], Bool, true, false, Option, Some, None, String, cond, map, option_and_then, string_bytes, codes, length, ◌≡◌, ◌<◌, ⊤}
use Rattle.std.specs.List.{list_any}
use Rattle.std.specs.declared.alloc.Global.{Global}
use Rattle.clap.specs.Walk.{is_empty}
use Rattle.clap.specs.declared.builder.action.ArgAction.TheVariants.{SetTrue}
use Rattle.clap.specs.declared.builder.arg.Arg.{Arg}
use Rattle.clap.specs.declared.builder.command.Command.{Command}
use Rattle.clap.specs.declared.builder.command.Command.TheViews.{out-Command as fields_of}
use Rattle.clap.specs.Words.{App, Row, Rule, Text, app_of, rule_of, fault_of, new_app, new_rule, subcommand_of, with_rule, with_subcommand, IsAmong}
use Rattle.clap.specs.declared.error.kind.ErrorKind.{ErrorKind}
use Rattle.clap.specs.declared.error.kind.ErrorKind.TheVariants as kind
use Rattle.command_line.specs.declared.words.Unasked.{Unasked}
use Rattle.command_line.specs.declared.words.Unasked.TheVariants.{Help, Words, Value, Down}
use Rattle.command_line.specs.declared.arguments.Argument.{Argument}
use Rattle.command_line.specs.declared.arguments.Argument.TheVariants as argument
use Rattle.command_line.specs.Arguments.{first_misfit}
use Rattle.command_line.specs.Orders.{Asked, reports_version, asked_with, given_in}

-- the bytes of each word
abbrev pub words_bytes : List (String Global) → List (List ℕ)
words_bytes words = map (λ (word : String Global). string_bytes word) words

-- `--ID VALUE`, required or optional
abbrev pub option_rule : Text → Bool → Rule
option_rule id required = record (new_rule id) { long = Some id; value_names = 1; required = required }

-- a value by its position
abbrev pub value_rule : Text → Rule
value_rule id = record (new_rule id) { value_names = 1; required = true }

-- `--ID`, without a value, optional
abbrev pub flag_rule : Text → Rule
flag_rule id = record (new_rule id) { long = Some id; action = Some SetTrue }

-- `--db PATH`
abbrev pub database : Rule
database = option_rule (codes "db") true

-- `--to PATH`
abbrev pub target : Rule
target = option_rule (codes "to") true

abbrev pub organization : Rule
organization = value_rule (codes "org")

-- `org-add --db PATH [--limit N] ORG`
abbrev pub org_add : App
org_add = with_rule (with_rule (with_rule (new_app (codes "org-add")) database) (option_rule (codes "limit") false)) organization

-- `org-limit --db PATH ORG N`
abbrev pub org_limit : App
org_limit = with_rule (with_rule (with_rule (new_app (codes "org-limit")) database) organization) (value_rule (codes "limit"))

-- `org-copy --db PATH --to PATH ORG`
abbrev pub org_copy : App
org_copy = with_rule (with_rule (with_rule (new_app (codes "org-copy")) database) target) organization

-- `org-remove --db PATH [--copied-to PATH] [--force] ORG`
abbrev pub org_remove : App
org_remove = with_rule (with_rule (with_rule (with_rule (new_app (codes "org-remove")) database) (option_rule (codes "copied-to") false)) (flag_rule (codes "force"))) organization

-- `org-list --db PATH`
abbrev pub org_list : App
org_list = with_rule (new_app (codes "org-list")) database

-- `[--until SECONDS] [--prefix TEXT]` behind the rest
abbrev pub with_bounds : App → App
with_bounds app = with_rule (with_rule app (option_rule (codes "until") false)) (option_rule (codes "prefix") false)

-- `token-add --db PATH [--until SECONDS] [--prefix TEXT] ORG NAME ROLE`
abbrev pub token_add : App
token_add = with_rule (with_rule (with_rule (with_bounds (with_rule (new_app (codes "token-add")) database)) organization) (value_rule (codes "name"))) (value_rule (codes "role"))

-- `token-list --db PATH ORG`
abbrev pub token_list : App
token_list = with_rule (with_rule (new_app (codes "token-list")) database) organization

-- `token-revoke --db PATH ORG NAME`
abbrev pub token_revoke : App
token_revoke = with_rule (with_rule (with_rule (new_app (codes "token-revoke")) database) organization) (value_rule (codes "name"))

-- `[--port P] [--socket PATH]` behind the rest
abbrev pub with_sites : App → App
with_sites app = with_rule (with_rule app (option_rule (codes "port") false)) (option_rule (codes "socket") false)

-- `[--count N] [--unlimited]` behind the rest
abbrev pub with_counts : App → App
with_counts app = with_rule (with_rule app (option_rule (codes "count") false)) (flag_rule (codes "unlimited"))

-- `[--idle SECONDS] [--most SECONDS]` behind the rest
abbrev pub with_timeouts : App → App
with_timeouts app = with_rule (with_rule app (option_rule (codes "idle") false)) (option_rule (codes "most") false)

-- `[--log] [--check] [--operator]` behind the rest
abbrev pub with_flags : App → App
with_flags app = with_rule (with_rule (with_rule app (flag_rule (codes "log"))) (flag_rule (codes "check"))) (flag_rule (codes "operator"))

-- `serve --db PATH [--port P] [--socket PATH] [--count N] [--unlimited] [--idle SECONDS] [--most SECONDS] [--log] [--check] [--operator]`
abbrev pub serve : App
serve = with_flags (with_timeouts (with_counts (with_sites (with_rule (new_app (codes "serve")) database))))

-- `check --db PATH`
abbrev pub check : App
check = with_rule (new_app (codes "check")) database

-- `admin --db PATH`
abbrev pub admin : App
admin = with_rule (new_app (codes "admin")) database

-- `compact --db PATH --to PATH`
abbrev pub compact : App
compact = with_rule (with_rule (new_app (codes "compact")) database) target

-- `replay`
abbrev pub replay : App
replay = new_app (codes "replay")

-- the program without its commands: a command is required, and the words begin with it; `--version` and `-V` ask for the version
abbrev pub bare : App
bare = record (new_app (codes "custody")) {
  top = record (new_app (codes "custody")).top {
    no_binary_name = true;
    subcommand_required = true;
    arg_required_else_help = true;
    has_version = true;
  };
}

abbrev pub with_organizations : App → App
with_organizations app = with_subcommand (with_subcommand (with_subcommand (with_subcommand (with_subcommand app org_add.top) org_limit.top) org_copy.top) org_remove.top) org_list.top

abbrev pub with_tokens : App → App
with_tokens app = with_subcommand (with_subcommand (with_subcommand app token_add.top) token_list.top) token_revoke.top

abbrev pub with_running : App → App
with_running app = with_subcommand (with_subcommand (with_subcommand (with_subcommand (with_subcommand app serve.top) check.top) compact.top) admin.top) replay.top

-- the program
abbrev pub custody : App
custody = with_running (with_tokens (with_organizations bare))

-- an argument of this rule, which isn't global
abbrev pub IsArg : Arg → Rule → Type 0
IsArg arg rule = (rule_of arg ≡ rule) × (arg.global ≡ false)

-- a command that `clap` reads as this
abbrev pub IsCommand : Command → App → Type 0
IsCommand command app = (app_of command ≡ app) × ((fields_of command).has_globals ≡ false)

-- why the words are not those of a command: the kinds of `clap`'s error; none if they are
abbrev pub faults : List (List ℕ) → List ErrorKind
faults words = fault_of custody words

-- what the command and the values that `clap` finds ask for
abbrev pub asked_by_command : Option (Text × List Row) → Option Asked
asked_by_command found = option_and_then (λ f. asked_with f.0 (given_in f.1)) found

-- a kind is that of words that ask for the version
abbrev pub is_version : ErrorKind → Bool
is_version kind.DisplayVersion = true
is_version _ = false

-- the version is asked for
abbrev pub ask_for_version : List (List ℕ) → Bool
ask_for_version words = list_any is_version (faults words)

-- what the words ask for; nothing if they are not those of a command, or a value is not valid
abbrev pub asked_in : List (List ℕ) → Option Asked
asked_in words = cond (ask_for_version words) (Some reports_version) (cond (is_empty (faults words)) (asked_by_command (subcommand_of custody words)) None)

-- the first argument that the values which `clap` finds do not fit
abbrev pub misfit_by_command : Option (Text × List Row) → Option Argument
misfit_by_command (Some found) = first_misfit found.0 (given_in found.1)
misfit_by_command None = Some argument.Command

-- the first argument whose value among the words is not valid
abbrev pub misfit_in : List (List ℕ) → Option Argument
misfit_in words = misfit_by_command (subcommand_of custody words)

-- help is asked for
abbrev pub AskForHelp : List (List ℕ) → Type 0
AskForHelp words = IsAmong kind.DisplayHelp (faults words)

-- the words are not those of a command, and do not ask for help or the version
abbrev pub AreNoCommand : List (List ℕ) → Type 0
AreNoCommand words = (k : ErrorKind) × IsAmong k (faults words) × (k ≡ kind.DisplayHelp → ⊥) × (k ≡ kind.DisplayVersion → ⊥)

-- there is some text
abbrev pub HasText : String Global → Type 0
HasText text = 0 < length (string_bytes text)

-- why there is no command to carry out: with a text that says so, or the argument whose value is not valid; if an allocation failed, there
-- need not be a reason
abbrev pub IsWhy : List (List ℕ) → Unasked → Type 0
IsWhy words (Help text) = AskForHelp words × HasText text
IsWhy words (Words text) = AreNoCommand words × HasText text
IsWhy words (Value argument) = (faults words ≡ []) × (asked_in words ≡ None) × (misfit_in words ≡ Some argument)
IsWhy words Down = ⊤
