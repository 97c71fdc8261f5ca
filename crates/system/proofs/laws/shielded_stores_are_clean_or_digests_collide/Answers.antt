use Rattle.std.proofs.Common.{inl, inr, refl}
use Rattle.sqlite_trees.proofs.Doubt.{no_doubt}
use Rattle.sqlite_disk.specs.Modelled.{start_of}
use Rattle.sqlite.proofs.Shield.{shield_means}
use Rattle.system.proofs.laws.shielded_stores_are_clean_or_digests_collide.Goals as goal

pub returns : goal.returns
returns g c shielded = elim (shield_means (start_of g.S.Start) (λ file. file.calls.log.events) (λ file. refl) (λ file. refl) c.args.keep.now.conn.store shielded) [
  | inl clean ↦ inl (no_doubt _ clean)
  | inr collided ↦ inr collided
]
