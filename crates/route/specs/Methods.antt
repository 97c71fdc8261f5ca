-- The methods that the field Allow lists, beside those that ask something of a resource.
use Rattle.std.specs.Prelude.{◌≡◌, ℕ, Bool, ◌==◌, if◌then◌else◌, List, [], ◌∷◌, bytes_eq}
use Rattle.std.specs.List.{list_any}
use Rattle.std.specs.Option.{is_some}
use Rattle.basis.specs.Refusals.{allow_text}
use Rattle.route.specs.Acts.{act_at, allow_of}
use Rattle.route.specs.Paths.{Resource, onto_first}

-- the members of a field's list: between its commas (44), spaces (32) left out (RFC 9110, section 5.6.1)
abbrev pub members_of : List ℕ → List (List ℕ)
members_of [] = [] ∷ []
members_of (b ∷ bytes) =
    if b == 44 then [] ∷ members_of bytes
    else (if b == 32 then members_of bytes
    else onto_first b (members_of bytes))

-- a method asks something of a resource exactly where the field Allow of its 405 lists it (RFC 9110, section 10.2.1)
abbrev pub MethodsAreListed : Type 0
MethodsAreListed = (resource : Resource) (method : List ℕ) (bodyless : Bool)
    → is_some (act_at resource method bodyless) ≡ list_any (bytes_eq method) (members_of (allow_text (allow_of resource)))
