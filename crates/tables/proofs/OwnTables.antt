-- From the schema of a connection to what is committed.
use Rattle.tables.proofs.Outside.{◌≡◌, ◌↔◌, ◌∙◌, ℕ, List, [], ap, subst, AllByRecursion, Schema, Database, State, IsUnchanged, our_tables, IsOurs}
use Rattle.definitions.specs.Others.{IsOther, IsOwnOrNamed}
use Rattle.tables.specs.Defined.{ReportsTables}
use Rattle.tables.specs.Inner.Steps.{IsAllCommitted}

pub tables_reported : (old new : State) (schema : Schema) (names : List (List ℕ)) → IsAllCommitted old → schema ≡ new.now.schema
    → ((names ≡ []) ↔ IsOurs schema) → AllByRecursion (IsOther schema our_tables) names → AllByRecursion (IsOwnOrNamed schema names) our_tables → IsUnchanged old new → ReportsTables old new names
tables_reported old new schema names all_committed here none named every same =
    let is : schema ≡ old.committed.schema = here ∙ ap (λ (db : Database). db.schema) (same.0.now_is ∙ all_committed same.0.was_open) in
    record { none = subst (λ s. (names ≡ []) ↔ IsOurs s) is none; named = subst (λ s. AllByRecursion (IsOther s our_tables) names) is named; every = subst (λ s. AllByRecursion (IsOwnOrNamed s names) our_tables) is every; same = same.0.committed_is }
