-- What holds of every line of a batch, and worked lines, computed by the definitions themselves.
use Rattle.std.proofs.Common.{◌≡◌, ℕ, List, [], ◌∷◌, Bool, true, false, cond, Some, None, eqb-true, refl}
use Rattle.std.specs.List.{onto_first}
use Rattle.std.specs.Prelude.{◌==◌, codes, length, nat_le, option_and_then, option_map}
use Rattle.std.specs.Str.{chars, is_utf8}
use lib.Utf8.{encode}
use Rattle.serve.specs.declared.steps.Admin.{Admin}
use Rattle.serve.specs.declared.steps.Admin.TheVariants.{OrgAdd, OrgList}
use Rattle.serve.specs.Words.{command_of, words_in}
use Rattle.program.specs.Batches.{AreLines, command_of_line, first_command, is_skipped, line_and_rest, line_of}
use Rattle.program.specs.LineFaults.{has_return, line_fault}
use Rattle.program.specs.declared.batches.BatchLine.{BatchLine}
use Rattle.program.specs.declared.batches.BatchLine.TheVariants.{Skipped, Command}
use Rattle.program.specs.declared.line_faults.LineFault.TheVariants as fault

-- a line that ends with CR is refused for that, whatever else it has
return_refused : (line : List ℕ) → has_return line ≡ true → (line_of line ≡ None) × (line_fault line ≡ fault.Return)
return_refused line is = rw is (refl, refl)

-- a line that begins with `#` is skipped otherwise, whatever else it has
remark_skipped : (text : List ℕ) → has_return (35 ∷ text) ≡ false → line_of (35 ∷ text) ≡ Some Skipped
remark_skipped text is = rw is refl

-- a line that begins otherwise is the command that it was without the rules on remarks, or none
others_read : (b : ℕ) (line : List ℕ) → has_return (b ∷ line) ≡ false → (b == 35) ≡ false → line_of (b ∷ line) ≡ option_map (λ command. Command command) (command_of_line (b ∷ line))
others_read b line is other = rw (is, other) refl

-- a line of more than 4,096 bytes is refused for that
long_refused : (line : List ℕ) → has_return line ≡ false → nat_le (length line) 4096 ≡ false → line_fault line ≡ fault.Long
long_refused line is long = rw (is, long) refl

-- no command is skipped
begins_no_command : (words : List (List ℕ)) → command_of (onto_first 35 words) ≡ None
begins_no_command [] = refl
begins_no_command (word ∷ words) = refl

skips_no_text : (fits is_text : Bool) (line : List ℕ) → cond fits (option_and_then command_of (option_map words_in (cond is_text (Some (35 ∷ line)) None))) None ≡ None
skips_no_text true true line = begins_no_command (words_in line)
skips_no_text true false line = refl
skips_no_text false is_text line = refl

skips_no_command : (line : List ℕ) → is_skipped line ≡ true → command_of_line line ≡ None
unfolding chars is_utf8 encode
skips_no_command [] is = refl
skips_no_command (b ∷ line) is =
    let begins : b ≡ 35 = eqb-true b 35 is in
    rw begins (skips_no_text (nat_le (length (35 ∷ line)) 4096) (is_utf8 (35 ∷ line)) line)

-- so what is a command on any line that does not end with CR is one
commands_read : (line : List ℕ) (command : Admin) → has_return line ≡ false → command_of_line line ≡ Some command → line_of line ≡ Some (Command command)
commands_read line command is asked = by_test (is_skipped line) refl
  where
    by_test : (b : Bool) → is_skipped line ≡ b → line_of line ≡ Some (Command command)
    by_test true skips = let none : command_of_line line ≡ None = skips_no_command line skips in let no : ⊥ = cc in absurd no
    by_test false other = rw (is, other, asked) refl

-- a skipped line does not change which command is the first
skipped_before : (lines : List BatchLine) → first_command (Skipped ∷ lines) ≡ first_command lines
skipped_before lines = refl

-- the first line, and what follows it; the last line may have no line feed
line_feed_ends : line_and_rest (codes "org-list\n\norg-add acme\n") ≡ Some (codes "org-list", codes "\norg-add acme\n")
unfolding chars encode
line_feed_ends = refl

input_ends : line_and_rest (codes "org-list") ≡ Some (codes "org-list", [])
unfolding chars encode
input_ends = refl

-- a line feed alone is an empty line; no bytes are no line
empty_line : line_and_rest (codes "\n") ≡ Some ([], [])
unfolding chars encode
empty_line = refl

no_line : line_and_rest [] ≡ None
no_line = refl

-- a whole batch: an empty line and remarks among commands, the last without its line feed
whole_batch : AreLines (codes "# teams\n\norg-add acme\n#org-list\norg-list") (Skipped ∷ Skipped ∷ Command (OrgAdd (codes "acme") 200) ∷ Skipped ∷ Command OrgList ∷ []) None
unfolding chars is_utf8 encode
whole_batch =
    let last : AreLines (codes "org-list") (Command OrgList ∷ []) None = (codes "org-list", [], refl, refl, refl) in
    let fourth : AreLines (codes "#org-list\norg-list") (Skipped ∷ Command OrgList ∷ []) None = (codes "#org-list", codes "org-list", refl, refl, last) in
    let third : AreLines (codes "org-add acme\n#org-list\norg-list") (Command (OrgAdd (codes "acme") 200) ∷ Skipped ∷ Command OrgList ∷ []) None = (codes "org-add acme", codes "#org-list\norg-list", refl, refl, fourth) in
    (codes "# teams", codes "\norg-add acme\n#org-list\norg-list", refl, refl, ([], codes "org-add acme\n#org-list\norg-list", refl, refl, third))

-- lines that are skipped count in the number of the line that is not read, and nothing is read after that
bad_third : AreLines (codes "# teams\n\norg-add Beta\norg-list\n") (Skipped ∷ Skipped ∷ []) (Some fault.Org)
unfolding chars is_utf8 encode
bad_third = (codes "# teams", codes "\norg-add Beta\norg-list\n", refl, refl, ([], codes "org-add Beta\norg-list\n", refl, refl, (codes "org-add Beta", codes "org-list\n", refl, refl, refl)))

-- `#` elsewhere than at the beginning is a part of a word
space_first : line_of (codes " # teams") ≡ None
unfolding chars is_utf8 encode
space_first = refl

remark_behind : line_of (codes "org-list # teams") ≡ None
unfolding chars is_utf8 encode
remark_behind = refl

-- a blank line that is not empty is no command
blank_line : line_of (codes " ") ≡ None
unfolding chars is_utf8 encode
blank_line = refl

-- CR LF: a command, an empty line and a remark
return_behind_command : (line_of (codes "org-list\r") ≡ None) × (line_fault (codes "org-list\r") ≡ fault.Return)
unfolding chars encode
return_behind_command = (refl, refl)

return_alone : (line_of (codes "\r") ≡ None) × (line_fault (codes "\r") ≡ fault.Return)
unfolding chars encode
return_alone = (refl, refl)

return_behind_remark : (line_of (codes "# teams\r") ≡ None) × (line_fault (codes "# teams\r") ≡ fault.Return)
unfolding chars encode
return_behind_remark = (refl, refl)

-- CR elsewhere is not the end of a line
return_within : line_of (codes "#\r teams") ≡ Some Skipped
unfolding chars encode
return_within = refl

-- the first word at fault
no_utf8 : line_fault (255 ∷ []) ≡ fault.Encoding
unfolding chars is_utf8 encode
no_utf8 = refl

other_command : line_fault (codes "org-copy acme") ≡ fault.Command
unfolding chars is_utf8 encode
other_command = refl

space_before : line_fault (codes " org-list") ≡ fault.Command
unfolding chars is_utf8 encode
space_before = refl

too_few_words : line_fault (codes "org-limit acme") ≡ fault.OrgLimit
unfolding chars is_utf8 encode
too_few_words = refl

too_many_words : line_fault (codes "org-add acme 7 8") ≡ fault.OrgAdd
unfolding chars is_utf8 encode
too_many_words = refl

two_spaces : line_fault (codes "token-revoke acme  ci") ≡ fault.TokenRevoke
unfolding chars is_utf8 encode
two_spaces = refl

other_word : line_fault (codes "org-remove acme forced") ≡ fault.OrgRemove
unfolding chars is_utf8 encode
other_word = refl

word_behind_list : line_fault (codes "org-list acme") ≡ fault.OrgList
unfolding chars is_utf8 encode
word_behind_list = refl

tokens_of_all : line_fault (codes "token-list") ≡ fault.TokenList
unfolding chars is_utf8 encode
tokens_of_all = refl

no_secret : line_fault (codes "token-add acme ci write") ≡ fault.TokenAdd
unfolding chars is_utf8 encode
no_secret = refl

-- the first value at fault
bad_organization : line_fault (codes "org-add Beta 007") ≡ fault.Org
unfolding chars is_utf8 encode
bad_organization = refl

bad_limit : line_fault (codes "org-add acme 007") ≡ fault.Limit
unfolding chars is_utf8 encode
bad_limit = refl

bad_new_limit : line_fault (codes "org-limit acme 100001") ≡ fault.NewLimit
unfolding chars is_utf8 encode
bad_new_limit = refl

bad_name : line_fault (codes "token-revoke acme CI") ≡ fault.Name
unfolding chars is_utf8 encode
bad_name = refl

bad_role : line_fault (codes "token-add acme ci writer short") ≡ fault.Role
unfolding chars is_utf8 encode
bad_role = refl

bad_secret : line_fault (codes "token-add acme ci write short until=x") ≡ fault.Secret
unfolding chars is_utf8 encode
bad_secret = refl

bad_until : line_fault (codes "token-add acme ci write writewritewrite1 until=253402300800 prefix=.") ≡ fault.Until
unfolding chars is_utf8 encode
bad_until = refl

bad_prefix : line_fault (codes "token-add acme ci write writewritewrite1 until=0 prefix=.") ≡ fault.Prefix
unfolding chars is_utf8 encode
bad_prefix = refl

-- bounds in another order
bad_order : line_fault (codes "token-add acme ci write writewritewrite1 prefix=a until=0") ≡ fault.TokenAdd
unfolding chars is_utf8 encode
bad_order = refl
