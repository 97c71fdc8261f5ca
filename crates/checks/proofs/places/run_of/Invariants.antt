use Rattle.checks.proofs.Outside.{◌≡◌, ◌<◌, ℕ, List, Some, PageHead, Kept, VpageRow}
use Rattle.texts.specs.declared.texts.TheConstants.{PAGE_BYTES}
use Rattle.checks.specs.Pages.{piece_in}
use Rattle.checks.specs.Inner.Places.{HasPieces}
use Rattle.checks.proofs.places.run_of.Given as goal

-- the places so far name whole pages
abbrev pub invariant-loop-place : goal.invariant-loop-place
invariant-loop-place l = (heads : List PageHead) (vpages : List (Kept VpageRow)) → HasPieces heads vpages l.pieces → (k : ℕ) → k < l.place → piece_in l.version.org l.version.name l.version.it.number k heads vpages ≡ Some (Some PAGE_BYTES)
