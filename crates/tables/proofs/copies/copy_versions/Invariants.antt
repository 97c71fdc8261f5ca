use Rattle.tables.proofs.Outside.{⊤, ◌≡◌, List, map, take, Ok, Error, state, HasCleanDisk, Version, Sees, Tables, Holds}
use Rattle.tables.specs.Records.{version_at}
use Rattle.tables.specs.Inner.Copies.{RelatedSteps, Carries, with_versions}
use Rattle.tables.specs.Inner.Keys.{KeepsKeys}
use Rattle.tables.proofs.copies.copy_versions.Given as goal

-- the versions so far are copied
abbrev pub invariant-versions : goal.invariant-versions
invariant-versions g l =
    Sees {X = ⊤} {E = Error} g.T.Store (λ _ _. ⊤) l.fn.from l.from (Ok tt)
    × RelatedSteps {X = ⊤} {E = Error} g.S.Store (KeepsKeys g.K.PageKey.key_of) l.fn.tx l.tx (Ok tt)
    × ((versions : List Version)
    × RelatedSteps {X = ⊤} {E = Error} g.S.Store (Carries l.org l.ws (with_versions versions)) l.fn.tx l.tx (Ok tt)
    × (HasCleanDisk (state g.T.Store l.from) → (f : Tables) → Holds (state g.T.Store l.fn.from).now f → versions ≡ map (version_at f l.org l.ws) (take l.head-index l.heads)))
