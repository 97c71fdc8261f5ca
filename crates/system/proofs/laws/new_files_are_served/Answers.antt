use Rattle.std.proofs.Common.{inl, inr, refl}
use Rattle.sqlite_trees.proofs.Doubt.{no_doubt}
use Rattle.sqlite_disk.specs.Modelled.{start_of}
use Rattle.sqlite.proofs.Shield.{shield_means}
use Rattle.system.proofs.ServiceLemmas.{new_files_are_served}
use Rattle.system.proofs.laws.new_files_are_served.Goals as goal

pub returns : goal.returns
returns g c is_new = new_files_are_served _ _ (λ old path unopened store held clean. (held unopened clean).0.begun is_new) (λ old path store unopened held clean. (held unopened clean).1)
    (λ store shielded. elim (shield_means (start_of g.S.Start) (λ file. file.calls.log.events) (λ file. refl) (λ file. refl) store.conn.store shielded) [
      | inl clean ↦ inl (no_doubt _ clean)
      | inr collided ↦ inr collided
    ])
