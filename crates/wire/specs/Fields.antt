-- The field lines of a head (RFC 9110, section 5): names are compared without regard to ASCII case.
use Rattle.std.specs.Prelude.{ℕ, List, Bool, ◌&&◌, nat_lt, if◌then◌else◌, Option, None, option_map, count_by, find}
use Rattle.std.specs.List.{list_any}
use Rattle.std.specs.Str.{str_eq_ignore_ascii_case}

-- names with their values
abbrev pub Fields : Type 0
Fields = List (List ℕ × List ℕ)

abbrev pub is_named : List ℕ → List ℕ × List ℕ → Bool
is_named name field = str_eq_ignore_ascii_case field.0 name

-- a field has the name, or more than one
abbrev pub has_field : List ℕ → Fields → Bool
has_field name fields = list_any (is_named name) fields

abbrev pub stands_twice : List ℕ → Fields → Bool
stands_twice name fields = nat_lt 1 (count_by (is_named name) fields)

-- the value of the only field of a name
abbrev pub value_of : List ℕ → Fields → Option (List ℕ)
value_of name fields = if stands_twice name fields then None else option_map (λ field. field.1) (find (is_named name) fields)

-- the field has the name and the value, in any case
abbrev pub is_field : List ℕ → List ℕ → List ℕ × List ℕ → Bool
is_field name wanted field = is_named name field && str_eq_ignore_ascii_case field.1 wanted

abbrev pub has_value : List ℕ → List ℕ → Fields → Bool
has_value name wanted fields = list_any (is_field name wanted) fields
