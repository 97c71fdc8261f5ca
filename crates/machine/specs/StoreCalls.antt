-- What every call of a store promises besides its answer.
use Rattle.std.specs.Prelude.{◌≡◌, ℕ, List, Option}
use Rattle.machine.specs.declared.records.Organization.{Organization}

-- A call that changes no record. A store that is clean afterwards was clean before; a sound one stays sound, a keyed one keyed, and a
-- shielded one shielded.
pub record Unchanged {S : Type 0} (rows : S → List ℕ → Option Organization) (clean sound keyed shielded : S → Type 0) (old new : S) : Type 0 where
  pub so_far : clean new → clean old
  pub kept : clean new → sound old → sound new
  pub keys : clean new → sound old → keyed old → keyed new
  pub shield : shielded old → shielded new
  pub same : clean new → (org : List ℕ) → rows new org ≡ rows old org

-- A call that may change a store, whether it succeeded or not. A store that is clean afterwards was clean before; a sound one stays sound,
-- a keyed one keyed, and a shielded one shielded.
pub record Lasts {S : Type 0} (clean sound keyed shielded : S → Type 0) (old new : S) : Type 0 where
  pub so_far : clean new → clean old
  pub kept : clean new → sound old → sound new
  pub keys : clean new → sound old → keyed old → keyed new
  pub shield : shielded old → shielded new

-- the same, but the store is promised to stay sound only if the call is due
pub record LastsWhere {S : Type 0} (due : Type 0) (clean sound keyed shielded : S → Type 0) (old new : S) : Type 0 where
  pub so_far : clean new → clean old
  pub kept : clean new → sound old → due → sound new
  pub keys : clean new → sound old → keyed old → keyed new
  pub shield : shielded old → shielded new
