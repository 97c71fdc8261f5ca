-- The target of a request (RFC 9112, section 3.2): a path and a query, after `http://` and a host or without them.
use Rattle.std.specs.Prelude.{ℕ, ◌+◌, List, [], ◌∷◌, length, take, drop, Bool, ◌&&◌, ◌||◌, ◌==◌, nat_lt, if◌then◌else◌, Option, Some, None, codes}
use Rattle.std.specs.List.{position_or_len, before_first, after_first}
use Rattle.std.specs.Str.{str_eq_ignore_ascii_case}

-- '/'
abbrev pub is_slash : ℕ → Bool
is_slash b = b == 47

-- '?'
abbrev pub is_question : ℕ → Bool
is_question b = b == 63

-- a host ends before these, or with the target
abbrev pub ends_host : ℕ → Bool
ends_host b = is_slash b || is_question b

abbrev pub begins_with_slash : List ℕ → Bool
begins_with_slash [] = is_slash 0
begins_with_slash (b ∷ bytes) = is_slash b

-- `http://` in any case
abbrev pub begins_with_scheme : List ℕ → Bool
begins_with_scheme target = str_eq_ignore_ascii_case (take 7 target) (codes "http://")

abbrev pub host_len : List ℕ → ℕ
host_len target = position_or_len ends_host (drop 7 target)

-- the target without scheme and host, where it has one of the two forms
abbrev pub origin_of : List ℕ → Option (List ℕ)
origin_of target =
    if begins_with_slash target then Some target
    else (if begins_with_scheme target && nat_lt 0 (host_len target) then Some (drop (7 + host_len target) target) else None)

-- an empty path is '/'
abbrev pub or_root : List ℕ → List ℕ
or_root [] = 47 ∷ []
or_root (b ∷ path) = b ∷ path

-- what stands before the first '?'
abbrev pub path_of : List ℕ → List ℕ
path_of origin = or_root (before_first is_question origin)

-- what stands after the first '?', where there is one
abbrev pub query_of : List ℕ → Option (List ℕ)
query_of origin = if nat_lt (position_or_len is_question origin) (length origin) then Some (after_first is_question origin) else None
