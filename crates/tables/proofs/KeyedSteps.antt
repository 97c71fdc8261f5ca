-- Steps and transactions that leave each page under the key of its bytes.
use Rattle.tables.proofs.Outside.{◌≡◌, ℕ, List, Option, Some, None, Result, Ok, refl, sym, subst, ◌∙◌, AllByRecursion, Ghosts, Transaction, Holder, Kept, PageRow, AnyRows, Steps, Tables, when_done}
use Rattle.basis.specs.declared.rows.Holder.TheVariants.{Nobody, Lock, Run as HeldByRun}
use Rattle.tables.specs.Inner.Copies.{RelatedSteps, AreMadeBy, released_rows, held_rows}
use Rattle.tables.specs.Inner.Keys.{KeepsKeys, KeepsPages}
use Rattle.tables.proofs.Arriving.{related_as}
use Rattle.tables.proofs.Copying.{related_by, related_then}

module _ {S : Type 0} (g : Ghosts S) (key_of : List ℕ → List ℕ) where
  -- steps that change any rows so
  pub keyed_by : {X E : Type 0} (f : Tables → Tables) (a b : Transaction S) (result : Result X E) → Steps g f a b result → ((t : Tables) → KeepsKeys key_of t (f t)) → RelatedSteps g (KeepsKeys key_of) a b result
  keyed_by f a b result one keeps = related_by g AnyRows f (KeepsKeys key_of) a b result (λ t any. keeps t) one (λ clean inside. when_done result (λ t holds. tt))

  -- one after the other
  pub keyed_then : {X Y E F : Type 0} (a b c : Transaction S) (x : X) (result : Result Y F) → RelatedSteps {E = E} g (KeepsKeys key_of) a b (Ok x) → RelatedSteps g (KeepsKeys key_of) b c result → RelatedSteps g (KeepsKeys key_of) a c result
  keyed_then a b c x result one last = related_then g (KeepsKeys key_of) (KeepsKeys key_of) (KeepsKeys key_of) a b c x result (λ t u z first second keyed. second (first keyed)) one last

  -- steps that change no page
  pub keyed_pages : {X E : Type 0} (a b : Transaction S) (result : Result X E) → RelatedSteps g KeepsPages a b result → RelatedSteps g (KeepsKeys key_of) a b result
  keyed_pages a b result one = related_as g g KeepsPages (KeepsKeys key_of) a b result (λ t u same keyed. subst (λ (ps : List (Kept PageRow)). AllByRecursion (λ x. key_of x.1.bytes ≡ x.1.key) ps) (sym same) keyed) one

-- ---- no page changes

module _ {S : Type 0} (g : Ghosts S) where
  pub paged_by : {X E : Type 0} (f : Tables → Tables) (a b : Transaction S) (result : Result X E) → Steps g f a b result → ((t : Tables) → KeepsPages t (f t)) → RelatedSteps g KeepsPages a b result
  paged_by f a b result one keeps = related_by g AnyRows f KeepsPages a b result (λ t any. keeps t) one (λ clean inside. when_done result (λ t holds. tt))

  pub paged_made : {X E : Type 0} (f : Tables → Tables) (a b : Transaction S) (result : Result X E) → RelatedSteps g (AreMadeBy f) a b result → ((t : Tables) → KeepsPages t (f t)) → RelatedSteps g KeepsPages a b result
  paged_made f a b result one keeps = related_as g g (AreMadeBy f) KeepsPages a b result (λ t u made. subst (KeepsPages t) (sym made) (keeps t)) one

  pub paged_then : {X Y E F : Type 0} (a b c : Transaction S) (x : X) (result : Result Y F) → RelatedSteps {E = E} g KeepsPages a b (Ok x) → RelatedSteps g KeepsPages b c result → RelatedSteps g KeepsPages a c result
  paged_then a b c x result one last = related_then g KeepsPages KeepsPages KeepsPages a b c x result (λ t u z first second. second ∙ first) one last

pub released_pages : (org ws : List ℕ) (released : Option (List ℕ)) (t : Tables) → KeepsPages t (released_rows org ws released t)
released_pages org ws None t = refl
released_pages org ws (Some id) t = refl

pub held_pages : (org ws : List ℕ) (holder : Holder) (t : Tables) → KeepsPages t (held_rows org ws holder t)
held_pages org ws Nobody t = refl
held_pages org ws (Lock id text) t = refl
held_pages org ws (HeldByRun n) t = refl
