use Rattle.std.proofs.Common.{◌≡◌, ◌⊎◌, List, [], ◌∷◌, true, inl, inr, refl}
use Rattle.std.proofs.Math.Bool.{or-true}
use Rattle.std.specs.List.{list_any}
use Rattle.clap.specs.Kinds.{IsAmong}
use Rattle.clap.specs.declared.error.kind.ErrorKind.{ErrorKind}
use Rattle.clap.specs.declared.error.kind.ErrorKind.TheVariants as kind
use Rattle.command_line.specs.Words.{ask_for_version, faults, is_version}
use Rattle.command_line.proofs.words.unmatched.Goals as goal

is_among : (kinds : List ErrorKind) → IsAmong kind.DisplayVersion kinds → list_any is_version kinds ≡ true
is_among [] one = absurd one
is_among (k ∷ ks) (inl is) = rw (← is) refl
is_among (k ∷ ks) (inr one) = rw (is_among ks one) (or-true (is_version k))

asked_is : (k : ErrorKind) (kinds : List ErrorKind) → k ≡ kind.DisplayVersion → (k ≡ kind.OutOfMemory) ⊎ IsAmong k kinds → list_any is_version kinds ≡ true
asked_is k kinds is (inl none) = cc
asked_is k kinds is (inr one) = is_among kinds (rw is at one)

pub returns-in-DisplayVersion-clause-asked : goal.returns-in-DisplayVersion-clause-asked
returns-in-DisplayVersion-clause-asked c words has =
    let asked : ask_for_version words ≡ true = asked_is c.kind.result (faults words) c.in-DisplayVersion.is (rw c.kind.ensures has) in
    rw asked refl
