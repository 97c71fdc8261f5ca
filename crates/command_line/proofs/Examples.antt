-- Worked words of the program, computed by the definitions themselves.
use Rattle.std.proofs.Common.{◌≡◌, [], ◌∷◌, Some, None, true, false, refl}
use Rattle.std.specs.Prelude.{codes}
use Rattle.std.specs.Str.{chars, is_utf8}
use lib.Utf8.{encode}
use Rattle.basis.specs.declared.roles.Role.TheVariants.{Write}
use Rattle.clap.proofs.OnLiterals.{clap_on_literals}
use Rattle.serve.specs.Bounds.{bounds, no_bounds}
use Rattle.command_line.specs.Orders.{at_port, at_socket, carries, adds_token, checks_file, copies, removes_copied, compacts, serves, carries_all, replays, reports_version, unlimited}
use Rattle.command_line.specs.Words.{asked_in, misfit_in}
use Rattle.command_line.specs.declared.arguments.Argument.TheVariants.{Org, Limit, Listening, Counting, Count}
use Rattle.serve.specs.declared.steps.Admin.TheVariants.{OrgAdd, OrgRemove, TokenList}

organization_asked : asked_in (codes "org-add" ∷ codes "--db" ∷ codes "t.db" ∷ codes "acme" ∷ []) ≡ Some (carries (codes "t.db") (OrgAdd (codes "acme") 200))
unfolding clap_on_literals chars is_utf8 encode
organization_asked = refl

limit_asked : asked_in (codes "org-add" ∷ codes "acme" ∷ codes "--limit=7" ∷ codes "--db=t.db" ∷ []) ≡ Some (carries (codes "t.db") (OrgAdd (codes "acme") 7))
unfolding clap_on_literals chars is_utf8 encode
limit_asked = refl

no_such_limit : asked_in (codes "org-add" ∷ codes "--db" ∷ codes "t.db" ∷ codes "--limit" ∷ codes "100001" ∷ codes "beta" ∷ []) ≡ None
unfolding clap_on_literals chars is_utf8 encode
no_such_limit = refl

no_such_name : asked_in (codes "org-add" ∷ codes "--db" ∷ codes "t.db" ∷ codes "Acme" ∷ []) ≡ None
unfolding clap_on_literals chars is_utf8 encode
no_such_name = refl

no_file : asked_in (codes "org-add" ∷ codes "acme" ∷ []) ≡ None
unfolding clap_on_literals chars is_utf8 encode
no_file = refl

token_asked : asked_in (codes "token-add" ∷ codes "--db" ∷ codes "t.db" ∷ codes "acme" ∷ codes "ci" ∷ codes "write" ∷ []) ≡ Some (adds_token (codes "t.db") (codes "acme") (codes "ci") Write no_bounds)
unfolding clap_on_literals chars is_utf8 encode
token_asked = refl

bounds_asked : asked_in (codes "token-add" ∷ codes "--db" ∷ codes "t.db" ∷ codes "--until" ∷ codes "1700000010" ∷ codes "acme" ∷ codes "ci" ∷ codes "write" ∷ codes "--prefix=ne" ∷ [])
    ≡ Some (adds_token (codes "t.db") (codes "acme") (codes "ci") Write (bounds (Some 1_700_000_010) (codes "ne")))
unfolding clap_on_literals chars is_utf8 encode
bounds_asked = refl

empty_prefix_asked : asked_in (codes "token-add" ∷ codes "--db=t.db" ∷ codes "--prefix=" ∷ codes "acme" ∷ codes "ci" ∷ codes "write" ∷ []) ≡ Some (adds_token (codes "t.db") (codes "acme") (codes "ci") Write no_bounds)
unfolding clap_on_literals chars is_utf8 encode
empty_prefix_asked = refl

no_such_end : asked_in (codes "token-add" ∷ codes "--db=t.db" ∷ codes "--until" ∷ codes "01" ∷ codes "acme" ∷ codes "ci" ∷ codes "write" ∷ []) ≡ None
unfolding clap_on_literals chars is_utf8 encode
no_such_end = refl

tokens_asked : asked_in (codes "token-list" ∷ codes "--db" ∷ codes "t.db" ∷ codes "acme" ∷ []) ≡ Some (carries (codes "t.db") (TokenList (codes "acme")))
unfolding clap_on_literals chars is_utf8 encode
tokens_asked = refl

serving_asked : asked_in (codes "serve" ∷ codes "--db" ∷ codes "t.db" ∷ codes "--port" ∷ codes "8090" ∷ codes "--count" ∷ codes "3" ∷ []) ≡ Some (serves (codes "t.db") (at_port 8090) 3 (record { idle = 10; most = 120 }) false false false)
unfolding clap_on_literals chars is_utf8 encode
serving_asked = refl

timeouts_given : asked_in (codes "serve" ∷ codes "--db" ∷ codes "t.db" ∷ codes "--most" ∷ codes "3600" ∷ codes "--idle=1" ∷ codes "--port" ∷ codes "8090" ∷ codes "--count" ∷ codes "3" ∷ [])
    ≡ Some (serves (codes "t.db") (at_port 8090) 3 (record { idle = 1; most = 3_600 }) false false false)
unfolding clap_on_literals chars is_utf8 encode
timeouts_given = refl

no_such_seconds : asked_in (codes "serve" ∷ codes "--db" ∷ codes "t.db" ∷ codes "--port" ∷ codes "8090" ∷ codes "--count" ∷ codes "3" ∷ codes "--idle" ∷ codes "3601" ∷ []) ≡ None
unfolding clap_on_literals chars is_utf8 encode
no_such_seconds = refl

log_asked : asked_in (codes "serve" ∷ codes "--log" ∷ codes "--db" ∷ codes "t.db" ∷ codes "--port" ∷ codes "8090" ∷ codes "--count" ∷ codes "3" ∷ []) ≡ Some (serves (codes "t.db") (at_port 8090) 3 (record { idle = 10; most = 120 }) true false false)
unfolding clap_on_literals chars is_utf8 encode
log_asked = refl

no_value_of_log : asked_in (codes "serve" ∷ codes "--db" ∷ codes "t.db" ∷ codes "--port" ∷ codes "8090" ∷ codes "--count" ∷ codes "3" ∷ codes "--log=true" ∷ []) ≡ None
unfolding clap_on_literals chars is_utf8 encode
no_value_of_log = refl

log_asked_twice : asked_in (codes "serve" ∷ codes "--db" ∷ codes "t.db" ∷ codes "--log" ∷ codes "--port" ∷ codes "8090" ∷ codes "--count" ∷ codes "3" ∷ codes "--log" ∷ []) ≡ None
unfolding clap_on_literals chars is_utf8 encode
log_asked_twice = refl

check_asked_of_serve : asked_in (codes "serve" ∷ codes "--check" ∷ codes "--db" ∷ codes "t.db" ∷ codes "--port" ∷ codes "8090" ∷ codes "--count" ∷ codes "3" ∷ []) ≡ Some (serves (codes "t.db") (at_port 8090) 3 (record { idle = 10; most = 120 }) false true false)
unfolding clap_on_literals chars is_utf8 encode
check_asked_of_serve = refl

operator_asked : asked_in (codes "serve" ∷ codes "--db" ∷ codes "t.db" ∷ codes "--port" ∷ codes "8090" ∷ codes "--unlimited" ∷ codes "--operator" ∷ []) ≡ Some (serves (codes "t.db") (at_port 8090) unlimited (record { idle = 10; most = 120 }) false false true)
unfolding clap_on_literals chars is_utf8 encode
operator_asked = refl

check_asked : asked_in (codes "check" ∷ codes "--db" ∷ codes "t.db" ∷ []) ≡ Some (checks_file (codes "t.db"))
unfolding clap_on_literals chars is_utf8 encode
check_asked = refl

no_file_to_check : asked_in (codes "check" ∷ []) ≡ None
unfolding clap_on_literals chars is_utf8 encode
no_file_to_check = refl

batch_asked : asked_in (codes "admin" ∷ codes "--db" ∷ codes "t.db" ∷ []) ≡ Some (carries_all (codes "t.db"))
unfolding clap_on_literals chars is_utf8 encode
batch_asked = refl

removal_asked : asked_in (codes "org-remove" ∷ codes "--db" ∷ codes "t.db" ∷ codes "acme" ∷ []) ≡ Some (carries (codes "t.db") (OrgRemove (codes "acme") false))
unfolding clap_on_literals chars is_utf8 encode
removal_asked = refl

removal_by_force : asked_in (codes "org-remove" ∷ codes "acme" ∷ codes "--force" ∷ codes "--db=t.db" ∷ []) ≡ Some (carries (codes "t.db") (OrgRemove (codes "acme") true))
unfolding clap_on_literals chars is_utf8 encode
removal_by_force = refl

removal_of_a_copied_one : asked_in (codes "org-remove" ∷ codes "--db" ∷ codes "t.db" ∷ codes "--copied-to" ∷ codes "u.db" ∷ codes "acme" ∷ []) ≡ Some (removes_copied (codes "t.db") (codes "u.db") (codes "acme") false)
unfolding clap_on_literals chars is_utf8 encode
removal_of_a_copied_one = refl

no_copy_named : asked_in (codes "org-remove" ∷ codes "--db" ∷ codes "t.db" ∷ codes "acme" ∷ codes "--copied-to" ∷ []) ≡ None
unfolding clap_on_literals chars is_utf8 encode
no_copy_named = refl

no_name_to_remove : asked_in (codes "org-remove" ∷ codes "--db" ∷ codes "t.db" ∷ codes "--force" ∷ codes "Acme" ∷ []) ≡ None
unfolding clap_on_literals chars is_utf8 encode
no_name_to_remove = refl

no_force_elsewhere : asked_in (codes "org-copy" ∷ codes "--db" ∷ codes "t.db" ∷ codes "--to" ∷ codes "u.db" ∷ codes "--force" ∷ codes "acme" ∷ []) ≡ None
unfolding clap_on_literals chars is_utf8 encode
no_force_elsewhere = refl

copy_asked : asked_in (codes "org-copy" ∷ codes "--db" ∷ codes "t.db" ∷ codes "--to" ∷ codes "u.db" ∷ codes "acme" ∷ []) ≡ Some (copies (codes "t.db") (codes "u.db") (codes "acme"))
unfolding clap_on_literals chars is_utf8 encode
copy_asked = refl

no_name_to_copy : asked_in (codes "org-copy" ∷ codes "--db" ∷ codes "t.db" ∷ codes "--to" ∷ codes "u.db" ∷ codes "Acme" ∷ []) ≡ None
unfolding clap_on_literals chars is_utf8 encode
no_name_to_copy = refl

compacting_asked : asked_in (codes "compact" ∷ codes "--to=u.db" ∷ codes "--db=t.db" ∷ []) ≡ Some (compacts (codes "t.db") (codes "u.db"))
unfolding clap_on_literals chars is_utf8 encode
compacting_asked = refl

no_file_to_copy_to : asked_in (codes "compact" ∷ codes "--db=t.db" ∷ []) ≡ None
unfolding clap_on_literals chars is_utf8 encode
no_file_to_copy_to = refl

frames_asked : asked_in (codes "replay" ∷ []) ≡ Some replays
unfolding clap_on_literals chars is_utf8 encode
frames_asked = refl

nothing_asked : asked_in [] ≡ None
unfolding clap_on_literals chars is_utf8 encode
nothing_asked = refl

no_limit_asked : asked_in (codes "serve" ∷ codes "--db" ∷ codes "t.db" ∷ codes "--port" ∷ codes "8090" ∷ codes "--unlimited" ∷ []) ≡ Some (serves (codes "t.db") (at_port 8090) unlimited (record { idle = 10; most = 120 }) false false false)
unfolding clap_on_literals chars is_utf8 encode
no_limit_asked = refl

no_count : misfit_in (codes "serve" ∷ codes "--db" ∷ codes "t.db" ∷ codes "--port" ∷ codes "8090" ∷ []) ≡ Some Counting
unfolding clap_on_literals chars is_utf8 encode
no_count = refl

count_and_no_limit : misfit_in (codes "serve" ∷ codes "--db" ∷ codes "t.db" ∷ codes "--port" ∷ codes "8090" ∷ codes "--count" ∷ codes "3" ∷ codes "--unlimited" ∷ []) ≡ Some Counting
unfolding clap_on_literals chars is_utf8 encode
count_and_no_limit = refl

socket_asked : asked_in (codes "serve" ∷ codes "--db" ∷ codes "t.db" ∷ codes "--socket" ∷ codes "run/s" ∷ codes "--unlimited" ∷ []) ≡ Some (serves (codes "t.db") (at_socket (codes "run/s")) unlimited (record { idle = 10; most = 120 }) false false false)
unfolding clap_on_literals chars is_utf8 encode
socket_asked = refl

no_address : misfit_in (codes "serve" ∷ codes "--db" ∷ codes "t.db" ∷ codes "--unlimited" ∷ []) ≡ Some Listening
unfolding clap_on_literals chars is_utf8 encode
no_address = refl

port_and_socket : misfit_in (codes "serve" ∷ codes "--db" ∷ codes "t.db" ∷ codes "--port" ∷ codes "8090" ∷ codes "--socket" ∷ codes "run/s" ∷ codes "--unlimited" ∷ []) ≡ Some Listening
unfolding clap_on_literals chars is_utf8 encode
port_and_socket = refl

no_such_count : misfit_in (codes "serve" ∷ codes "--db" ∷ codes "t.db" ∷ codes "--port" ∷ codes "8090" ∷ codes "--count" ∷ codes "1000001" ∷ []) ≡ Some Count
unfolding clap_on_literals chars is_utf8 encode
no_such_count = refl

name_at_fault : misfit_in (codes "org-add" ∷ codes "--db" ∷ codes "t.db" ∷ codes "Acme" ∷ []) ≡ Some Org
unfolding clap_on_literals chars is_utf8 encode
name_at_fault = refl

limit_at_fault : misfit_in (codes "org-add" ∷ codes "--db" ∷ codes "t.db" ∷ codes "--limit" ∷ codes "07" ∷ codes "acme" ∷ []) ≡ Some Limit
unfolding clap_on_literals chars is_utf8 encode
limit_at_fault = refl

none_at_fault : misfit_in (codes "org-add" ∷ codes "--db" ∷ codes "t.db" ∷ codes "--limit" ∷ codes "7" ∷ codes "acme" ∷ []) ≡ None
unfolding clap_on_literals chars is_utf8 encode
none_at_fault = refl

version_asked : asked_in (codes "--version" ∷ []) ≡ Some reports_version
unfolding clap_on_literals chars is_utf8 encode
version_asked = refl

version_asked_shortly : asked_in (codes "-V" ∷ []) ≡ Some reports_version
unfolding clap_on_literals chars is_utf8 encode
version_asked_shortly = refl

no_version_of_a_command : asked_in (codes "check" ∷ codes "--db" ∷ codes "t.db" ∷ codes "--version" ∷ []) ≡ None
unfolding clap_on_literals chars is_utf8 encode
no_version_of_a_command = refl
