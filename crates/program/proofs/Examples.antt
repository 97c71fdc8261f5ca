-- Worked frames and secrets, computed by the definitions themselves.
use Rattle.std.proofs.Common.{◌≡◌, [], Some, None, refl}
use Rattle.std.specs.Prelude.{codes}
use Rattle.std.specs.Str.{chars, is_utf8}
use lib.Utf8.{encode}
use Rattle.basis.specs.declared.roles.Role.TheVariants.{Write}
use Rattle.serve.specs.declared.steps.Admin.TheVariants.{OrgAdd, OrgLimit, OrgList, TokenAdd, TokenRevoke}
use Rattle.serve.specs.declared.steps.Step.TheVariants.{Request, Command}
use Rattle.serve.specs.Bounds.{bounds, no_bounds}
use Rattle.program.specs.Frames.{first_frame}
use Rattle.program.specs.Secrets.{secret_in}

-- an organization with the limit that it has at first, and what follows the line
organization_added : first_frame (codes "at 1700000000 admin org-add acme\nat 5") ≡ Some (Command 1_700_000_000 (OrgAdd (codes "acme") 200), codes "at 5")
unfolding chars is_utf8 encode
organization_added = refl

limit_given : first_frame (codes "at 0 admin org-add a-1 100000\n") ≡ Some (Command 0 (OrgAdd (codes "a-1") 100_000), [])
unfolding chars is_utf8 encode
limit_given = refl

token_added : first_frame (codes "at 1 admin token-add acme ci write writewritewrite1\n")
    ≡ Some (Command 1 (TokenAdd (codes "acme") (codes "ci") Write (codes "writewritewrite1") no_bounds), [])
unfolding chars is_utf8 encode
token_added = refl

-- with an end, with a prefix, with both; an empty prefix is none
token_ends : first_frame (codes "at 1 admin token-add acme ci write writewritewrite1 until=0\n")
    ≡ Some (Command 1 (TokenAdd (codes "acme") (codes "ci") Write (codes "writewritewrite1") (bounds (Some 0) [])), [])
unfolding chars is_utf8 encode
token_ends = refl

token_for_some : first_frame (codes "at 1 admin token-add acme ci write writewritewrite1 prefix=a_\n")
    ≡ Some (Command 1 (TokenAdd (codes "acme") (codes "ci") Write (codes "writewritewrite1") (bounds None (codes "a_"))), [])
unfolding chars is_utf8 encode
token_for_some = refl

token_bounded : first_frame (codes "at 1 admin token-add acme ci write writewritewrite1 until=253402300799 prefix=ne\n")
    ≡ Some (Command 1 (TokenAdd (codes "acme") (codes "ci") Write (codes "writewritewrite1") (bounds (Some 253_402_300_799) (codes "ne"))), [])
unfolding chars is_utf8 encode
token_bounded = refl

empty_prefix : first_frame (codes "at 1 admin token-add acme ci write writewritewrite1 prefix=\n")
    ≡ Some (Command 1 (TokenAdd (codes "acme") (codes "ci") Write (codes "writewritewrite1") no_bounds), [])
unfolding chars is_utf8 encode
empty_prefix = refl

-- the operator's other commands
limit_set : first_frame (codes "at 1 admin org-limit acme 1\n") ≡ Some (Command 1 (OrgLimit (codes "acme") 1), [])
unfolding chars is_utf8 encode
limit_set = refl

organizations_listed : first_frame (codes "at 1 admin org-list\n") ≡ Some (Command 1 OrgList, [])
unfolding chars is_utf8 encode
organizations_listed = refl

token_revoked : first_frame (codes "at 1 admin token-revoke acme ci\n") ≡ Some (Command 1 (TokenRevoke (codes "acme") (codes "ci")), [])
unfolding chars is_utf8 encode
token_revoked = refl

-- a request of so many bytes, whatever they are, and the line feed behind them
request_taken : first_frame (codes "at 253402300799 http 3\na\nb\n!") ≡ Some (Request 253_402_300_799 (codes "a\nb"), codes "!")
unfolding chars is_utf8 encode
request_taken = refl

no_bytes : first_frame (codes "at 7 http 0\n\n") ≡ Some (Request 7 [], [])
unfolding chars is_utf8 encode
no_bytes = refl

-- bad ones: no line feed, a leading zero, two spaces, a moment too late, a byte too few, a word too many
line_cut : first_frame (codes "at 1 admin org-add acme") ≡ None
unfolding chars is_utf8 encode
line_cut = refl

leading_zero : first_frame (codes "at 01 admin org-add acme\n") ≡ None
unfolding chars is_utf8 encode
leading_zero = refl

two_spaces : first_frame (codes "at 1  admin org-add acme\n") ≡ None
unfolding chars is_utf8 encode
two_spaces = refl

too_late : first_frame (codes "at 253402300800 admin org-add acme\n") ≡ None
unfolding chars is_utf8 encode
too_late = refl

byte_missing : first_frame (codes "at 1 http 3\nab\n") ≡ None
unfolding chars is_utf8 encode
byte_missing = refl

word_too_many : first_frame (codes "at 1 admin org-add acme 1 2\n") ≡ None
unfolding chars is_utf8 encode
word_too_many = refl

limit_too_great : first_frame (codes "at 1 admin org-add acme 100001\n") ≡ None
unfolding chars is_utf8 encode
limit_too_great = refl

-- bad bounds: the other order, an end too late, none, a byte that no name has; and a list that no frame asks for
other_order : first_frame (codes "at 1 admin token-add acme ci write writewritewrite1 prefix=a until=1\n") ≡ None
unfolding chars is_utf8 encode
other_order = refl

end_too_late : first_frame (codes "at 1 admin token-add acme ci write writewritewrite1 until=253402300800\n") ≡ None
unfolding chars is_utf8 encode
end_too_late = refl

no_end : first_frame (codes "at 1 admin token-add acme ci write writewritewrite1 until=\n") ≡ None
unfolding chars is_utf8 encode
no_end = refl

no_prefix : first_frame (codes "at 1 admin token-add acme ci write writewritewrite1 prefix=a%\n") ≡ None
unfolding chars is_utf8 encode
no_prefix = refl

tokens_not_listed : first_frame (codes "at 1 admin token-list acme\n") ≡ None
unfolding chars is_utf8 encode
tokens_not_listed = refl

unknown_command : first_frame (codes "at 1 admin org-lists\n") ≡ None
unfolding chars is_utf8 encode
unknown_command = refl

-- the secret of a new token
secret_alone : secret_in (codes "writewritewrite1") ≡ Some (codes "writewritewrite1")
unfolding chars is_utf8 encode
secret_alone = refl

secret_line : secret_in (codes "writewritewrite1\n") ≡ Some (codes "writewritewrite1")
unfolding chars is_utf8 encode
secret_line = refl

two_lines : secret_in (codes "writewritewrite1\nwritewritewrite1") ≡ None
unfolding chars is_utf8 encode
two_lines = refl
