-- What a checkpoint may do to a store.
use Rattle.std.specs.Prelude.{◌≡◌, ℕ, List, Option}
use Rattle.machine.specs.declared.records.Organization.{Organization}

-- a checkpoint: a clean disk was clean before; sound stays sound, and then each record is unchanged; keyed stays keyed, and shielded stays
-- shielded
pub record Checkpoints {S : Type 0} (rows : S → List ℕ → Option Organization) (clean sound keyed shielded : S → Type 0) (old new : S) : Type 0 where
  pub so_far : clean new → clean old
  pub kept : clean new → sound old → sound new
  pub keys : clean new → sound old → keyed old → keyed new
  pub shield : shielded old → shielded new
  pub same : clean new → sound old → (org : List ℕ) → rows new org ≡ rows old org
