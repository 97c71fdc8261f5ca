-- The syntax of names, IDs and secrets, as tests of the bytes of a text.
use Rattle.std.specs.Prelude.{ℕ, List, ◌++◌, length, Bool, not, ◌&&◌, ◌||◌, ◌==◌, nat_eq, nat_le, slice_index, codes, decimal}
use Rattle.std.specs.List.{list_all, starts_with}
use Rattle.std.specs.Char.{is_ascii_digit, is_ascii_lowercase, is_ascii_alphanumeric}
use Rattle.basis.specs.declared.names.TheConstants.{MAX_ORG_NAME, MAX_WS_NAME, MAX_PREFIX, MAX_LOCK_ID, MIN_SECRET, MAX_SECRET}

-- between the least and the most bytes
abbrev pub has_length : ℕ → ℕ → List ℕ → Bool
has_length least most text = nat_le least (length text) && nat_le (length text) most

-- a small letter, a digit or a hyphen (45)
abbrev pub is_org_byte : ℕ → Bool
is_org_byte b = is_ascii_lowercase b || is_ascii_digit b || b == 45

-- 1 to MAX_ORG_NAME bytes of these, and the first is a letter
abbrev pub is_org_name : List ℕ → Bool
is_org_name text = has_length 1 MAX_ORG_NAME text && list_all is_org_byte text && is_ascii_lowercase (slice_index text 0)

-- an ASCII letter, a digit, a hyphen (45) or a low line (95)
abbrev pub is_ws_byte : ℕ → Bool
is_ws_byte b = is_ascii_alphanumeric b || b == 45 || b == 95

-- 1 to MAX_WS_NAME bytes of these
abbrev pub is_ws_name : List ℕ → Bool
is_ws_name text = has_length 1 MAX_WS_NAME text && list_all is_ws_byte text

-- how names of workspaces may begin: no more than MAX_PREFIX bytes of these
abbrev pub is_prefix : List ℕ → Bool
is_prefix text = has_length 0 MAX_PREFIX text && list_all is_ws_byte text

-- a prefix admits the names that begin with it, byte for byte: the empty one admits each
abbrev pub admits : List ℕ → List ℕ → Bool
admits prefix name = starts_with nat_eq name prefix

-- 1 to MAX_LOCK_ID bytes of text
abbrev pub is_lock_id : List ℕ → Bool
is_lock_id text = has_length 1 MAX_LOCK_ID text

-- the ID by which run n holds a workspace
unfoldable pub run_id : ℕ → List ℕ
run_id n = codes "run-" ++ decimal n

-- 1 to MAX_LOCK_ID bytes that don't begin as the IDs of runs do
abbrev pub is_free_id : List ℕ → Bool
is_free_id id = is_lock_id id && not (starts_with nat_eq id (codes "run-"))

-- MIN_SECRET to MAX_SECRET ASCII letters or digits
abbrev pub is_secret : List ℕ → Bool
is_secret text = has_length MIN_SECRET MAX_SECRET text && list_all is_ascii_alphanumeric text
