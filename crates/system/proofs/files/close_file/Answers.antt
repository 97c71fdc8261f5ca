use Rattle.std.proofs.Common.{◌≡◌, ℕ, List, Option, inl, inr, refl, sym, subst}
use Rattle.std.proofs.lemmas.Bool.{and_from}
use Rattle.std.specs.Prelude.{IsTrue}
use Rattle.sqlite_disk.specs.declared.Disk as disk
use Rattle.sqlite_disk.specs.declared.Files.{Files}
use Rattle.sqlite_disk.specs.Modelled.{start_of}
use Rattle.sqlite_store.specs.declared.store.FileStore.{FileStore}
use Rattle.sqlite.proofs.Shield.{ends_well}
use Rattle.sqlite.specs.Closing.{IsCopied}
use Rattle.sqlite.specs.Files.{file_state}
use Rattle.sqlite.specs.Held.{Held}
use Rattle.machine.specs.declared.records.Organization.{Organization}
use Rattle.tables.specs.Stores.{records_of}
use Rattle.system.specs.Files.{ClosesOn}
use Rattle.system.proofs.files.close_file.Goals as goal

closes_on : {D : Type 0} {g : disk.Ghosts D} (c : Held (FileStore D g)) (files : Files D) (rows : List ℕ → Option Organization) (IsSound : Type 0) → IsCopied c files
    → (IsSound → IsTrue (file_state c).is_open → (org : List ℕ) → records_of (file_state c).committed org ≡ rows org) → ClosesOn g files rows IsSound
closes_on c files rows IsSound copied reported = record {
  committed = (file_state c).committed;
  records = λ sound. reported sound copied.was_open;
  seen = copied.seen;
  left = copied.left;
}

pub returns-in-Ok-clause-closes : goal.returns-in-Ok-clause-closes
returns-in-Ok-clause-closes g c clean = closes_on c.close.result c.in-Ok.files _ _ (c.in-Ok.ensures.copied clean) c.close.ensures.rows

pub returns-in-Ok-clause-ends : goal.returns-in-Ok-clause-ends
returns-in-Ok-clause-ends g c shielded =
    let closed = c.in-Ok.ensures.ok in
    let still = closed.2.quiet.shield (subst (λ conn. (file_state conn).IsShielded) (sym c.close.ensures.same) shielded) in
    elim (ends_well (start_of g.S.Start) (λ file. file.calls.log.events) (λ _. refl) (λ _. refl) closed.0 _ _ closed.1 still) [
      | inl honest ↦ inl (and_from _ _ honest.0 honest.1)
      | inr collided ↦ inr collided
    ]
