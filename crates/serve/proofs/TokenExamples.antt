-- Tokens that end and tokens for some workspaces: when they count, what they are for, and how they are listed.
use Rattle.serve.proofs.Outside.{codes, digits, ◌≡◌, ℕ, List, [], Option, Some, None, refl, Role, Write, Admin, Absent, Tokens, TokenRow, Token}
use Rattle.serve.specs.Checks.{while_it_counts}
use Rattle.serve.specs.Service.{token_line, token_list_text}

abbrev row : List ℕ → Role → Option ℕ → List ℕ → TokenRow
row name role until prefix = record { name = name; caller = record { role = role; until = until; prefix = prefix } }

abbrev token : Option ℕ → Token
token until = record { digest = []; caller = record { role = Write; until = until; prefix = codes "ne" } }

counts_before_its_end : while_it_counts 1_700_000_009 (Some (token (Some 1_700_000_010))) ≡ Some (token (Some 1_700_000_010))
counts_before_its_end = refl

ended_at_its_end : while_it_counts 1_700_000_010 (Some (token (Some 1_700_000_010))) ≡ None
ended_at_its_end = refl

counts_without_end : while_it_counts 253_402_300_799 (Some (token None)) ≡ Some (token None)
counts_without_end = refl

line_of_both : token_line (row (codes "tmp") Write (Some 1_700_000_010) (codes "ne")) ≡ codes "tmp write 1700000010 ne\n"
unfolding digits
line_of_both = refl

line_of_neither : token_line (row (codes "ops") Admin None []) ≡ codes "ops admin - -\n"
line_of_neither = refl

list_of_an_absent_organization : token_list_text Absent ≡ codes "refused absent\n"
list_of_an_absent_organization = refl

list_of_none : token_list_text (Tokens []) ≡ []
list_of_none = refl
