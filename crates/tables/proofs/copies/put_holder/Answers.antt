use Rattle.tables.proofs.Outside.{◌≡◌, ℕ, List, refl, Holder, held_by, ws_changed, steps_by}
use Rattle.basis.specs.declared.rows.Holder.TheVariants.{Nobody, Lock, Run as HeldByRun}
use Rattle.tables.specs.Inner.Copies.{AreMadeBy, held_rows}
use Rattle.tables.proofs.Copying.{made_by_steps, related_none}
use Rattle.tables.proofs.copies.put_holder.Goals as goal

written : (org ws : List ℕ) (holder : Holder) → (holder ≡ Nobody → ⊥) → ws_changed (held_by holder) org ws ≡ held_rows org ws holder
written org ws Nobody other = absurd (other refl)
written org ws (Lock id text) other = refl
written org ws (HeldByRun n) other = refl

pub returns-in-Nobody : goal.returns-in-Nobody
returns-in-Nobody g c = rw c.in-Nobody.is (related_none g.S.Store (AreMadeBy (λ t. t)) c.args.tx.now tt (λ t. refl))

pub returns-in_default : goal.returns-in_default
returns-in_default g c =
    made_by_steps g.S.Store _ _ _ _ (rw (written c.args.org.now c.args.ws.now c.args.holder.now c.in_default.not-Nobody) at (steps_by g.S.Store _ _ _ _ c.hold.ensures))
