-- When the versions of a workspace are lawful, in whatever order their rows stand, as tests.
use Rattle.std.specs.Prelude.{ℕ, ◌-◌, Bool, true, not, ◌&&◌, ◌==◌, nat_le, nat_lt, List, [], ◌∷◌, length, map, find, option_map, Option}
use Rattle.std.specs.List.{list_all}
use Rattle.std.specs.Ordering.{nat_cmp}
use Rattle.sqlite_keyed.specs.Lists.{sort_by}
use Rattle.basis.specs.declared.numbers.TheConstants.{MAX_MOMENT, MAX_SERIAL}
use Rattle.basis.specs.declared.rows.TheConstants.{MAX_LINEAGE}
use Rattle.basis.specs.declared.rows.VersionRow.{VersionRow as Version}

-- the number of the first that doesn't pass, if there is one
abbrev pub first_unfit : {X : Type 0} → (X → Bool) → (X → ℕ) → List X → Option ℕ
first_unfit test number xs = option_map number (find (λ x. not (test x)) xs)

-- serial, lineage and moment are in range
abbrev pub is_version : Version → Bool
is_version v = nat_le v.serial MAX_SERIAL && nat_le (length v.lineage) MAX_LINEAGE && nat_le v.created MAX_MOMENT

abbrev pub version_number : Version → ℕ
version_number v = v.number

-- the number of the first version that isn't in range, if there is one
abbrev pub unfit_version : List Version → Option ℕ
unfit_version = first_unfit is_version version_number

-- the numbers rise, above `low` and below `next`
abbrev pub rises : ℕ → List ℕ → ℕ → Bool
rises low [] next = true
rises low (n ∷ ns) next = nat_lt low n && nat_lt n next && rises n ns next

-- from the first number on there are as many as reach up to `next`
abbrev pub reaches : List ℕ → ℕ → Bool
reaches [] next = true
reaches (n ∷ ns) next = nat_le n next && next - n == length (n ∷ ns)

abbrev pub sorted : List ℕ → List ℕ
sorted = sort_by nat_cmp

-- the numbers rise without a gap up to the next one, there are no more versions than are kept, and each is in range
abbrev pub are_versions : ℕ → ℕ → List Version → Bool
are_versions retention next vs =
    nat_le (length (sorted (map version_number vs))) retention && rises 0 (sorted (map version_number vs)) next && reaches (sorted (map version_number vs)) next && list_all is_version vs
