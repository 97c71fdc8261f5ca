-- Names and secrets are ASCII, so bytes that are no UTF-8 are neither.
use Rattle.std.proofs.Common.{◌≡◌, ℕ, ◌<◌, List, [], ◌∷◌, Bool, true, false, ◌&&◌, cond, Some, None, refl, arith}
use Rattle.std.specs.List.{list_all}
use Rattle.std.specs.Str.{IsAscii, IsUtf8}
use Rattle.std.specs.Char.{is_ascii_alphanumeric}
use Rattle.std.proofs.lemmas.Str.{IsUtf8-from_ascii}
use Rattle.std.proofs.lemmas.Str.Ascii.{IsAscii-nil, IsAscii-cons}
use Rattle.std.proofs.lemmas.Bool.Decides.{nat_tests}
use Rattle.std.proofs.lemmas.Bool.{and_parts}
use Rattle.basis.specs.declared.names.TheConstants.{MAX_ORG_NAME, MIN_SECRET, MAX_SECRET}
use Rattle.basis.specs.Names.{is_org_byte, is_org_name, is_secret, has_length}
use Rattle.route.specs.Tokens.{org_of, secret_of}

pub org_byte_small : (b : ℕ) → is_org_byte b ≡ true → b < 128
org_byte_small b h = grind (arith, nat_tests)

pub alphanumeric_small : (b : ℕ) → is_ascii_alphanumeric b ≡ true → b < 128
alphanumeric_small b h = grind (arith, nat_tests)

pub all_small : (p : ℕ → Bool) → ((b : ℕ) → p b ≡ true → b < 128) → (bs : List ℕ) → list_all p bs ≡ true → IsAscii bs
all_small p small [] h = IsAscii-nil
all_small p small (b ∷ bs) h =
    let parts = and_parts (p b) (list_all p bs) h in
    IsAscii-cons b bs (small b parts.0) (all_small p small bs parts.1)

org_is_text : (text : List ℕ) → is_org_name text ≡ true → IsUtf8 text
org_is_text text h =
    let parts = and_parts (has_length 1 MAX_ORG_NAME text && list_all is_org_byte text) _ h in
    IsUtf8-from_ascii text (all_small is_org_byte org_byte_small text (and_parts (has_length 1 MAX_ORG_NAME text) (list_all is_org_byte text) parts.0).1)

secret_is_text : (text : List ℕ) → is_secret text ≡ true → IsUtf8 text
secret_is_text text h =
    IsUtf8-from_ascii text (all_small is_ascii_alphanumeric alphanumeric_small text (and_parts (has_length MIN_SECRET MAX_SECRET text) (list_all is_ascii_alphanumeric text) h).1)

pub org_of-no_text : (text : List ℕ) → ¬ (IsUtf8 text) → org_of text ≡ None
org_of-no_text text broken = by (is_org_name text) (λ h. broken (org_is_text text h))
  where
    by : (v : Bool) → ¬ (v ≡ true) → cond v (Some text) None ≡ None
    by true h = absurd (h refl)
    by false h = refl

pub secret_of-no_text : (text : List ℕ) → ¬ (IsUtf8 text) → secret_of text ≡ None
secret_of-no_text text broken = by (is_secret text) (λ h. broken (secret_is_text text h))
  where
    by : (v : Bool) → ¬ (v ≡ true) → cond v (Some text) None ≡ None
    by true h = absurd (h refl)
    by false h = refl
