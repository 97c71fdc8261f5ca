-- An organization is compared in two stores, and removed from the second.
use Rattle.std.proofs.Common.{◌≡◌, ◌≢◌, ◌∙◌, ℕ, Bool, true, false, List, Option, Some, None, Result, Ok, Err, refl, sym, subst, inl, inr}
use Rattle.std.specs.Str.{bytes_eq}
use Rattle.std.proofs.lemmas.Slice.Eq.{bytes_eq-Decides}
use Rattle.basis.specs.declared.memory.Down.{Down}
use Rattle.machine.specs.Effects.{effect}
use Rattle.machine.specs.Removal.{org_removed}
use Rattle.machine.specs.StoreCalls.{Unchanged, Lasts, LastsWhere}
use Rattle.machine.specs.declared.keeps.AdminAnswer.{AdminAnswer}
use Rattle.machine.specs.declared.keeps.Keep as keep
use Rattle.machine.specs.declared.records.Organization.{Organization}
use Rattle.serve.specs.Service.{Stays}
use Rattle.program.specs.Moves.{CopiesBetween, RemovesSame}
use Rattle.program.specs.Outcomes.{Stream, Errors, IsRemovedCopied, ReportsRemoval}
use Rattle.program.specs.declared.exits.Exit.{Exit}
use Rattle.program.specs.declared.reasons.Cause.{Cause}

abbrev Records : Type 0
Records = List ℕ → Option Organization

-- one record stays, and each other one
all_stay : (old new : Records) (org : List ℕ) → new org ≡ old org → ((other : List ℕ) → other ≢ org → new other ≡ old other) → Stays old new
all_stay old new org own others other = by_test (bytes_eq other org) refl
  where
    by_test : (b : Bool) → bytes_eq other org ≡ b → new other ≡ old other
    by_test true e = subst (λ (o : List ℕ). new o ≡ old o) (sym ((bytes_eq-Decides other org).0 e)) own
    by_test false e = others other (λ same. let is_so = (bytes_eq-Decides other org).1 same in let no : ⊥ = cc in no)

module _ {K : Type 0} (k : keep.Ghosts K) (is_forced : Bool) (org : List ℕ) (copy copy' store mid : K) (read : Unchanged k.rows k.clean k.sound k.keyed k.shielded copy copy')
    (lasts : LastsWhere (k.clean copy' × k.sound copy) k.clean k.sound k.keyed k.shielded store mid) where
  -- the call that compared failed, or the records may differ
  pub removes_none : (result : Result (Option AdminAnswer) Down)
      → (k.clean mid → k.sound store → k.clean copy' → k.sound copy → Stays (k.rows store) (k.rows mid) → RemovesSame is_forced org result (k.rows copy) (k.rows store) (k.rows mid))
      → (k.clean mid → k.sound store → k.clean copy' → k.sound copy → Stays (k.rows store) (k.rows mid)) → CopiesBetween k (RemovesSame is_forced org result) copy copy' store mid
  removes_none result means stays = record {
    unchanged = read;
    so_far = lasts.so_far;
    shield = lasts.shield;
    kept = λ clean sound clean_copy sound_copy. lasts.kept clean sound (clean_copy, sound_copy);
    keys = λ clean sound clean_copy sound_copy. lasts.keys clean sound;
    model = λ clean sound clean_copy sound_copy. means clean sound clean_copy sound_copy (stays clean sound clean_copy sound_copy);
  }

  abbrev IsCompared : Type 0
  IsCompared = k.clean mid → k.sound store → k.clean copy' → k.sound copy → (k.rows mid org ≡ k.rows store org) × (k.rows copy org ≡ k.rows store org)

  abbrev OthersAreCompared : Type 0
  OthersAreCompared = k.clean mid → k.sound store → k.clean copy' → k.sound copy → (other : List ℕ) → other ≢ org → k.rows mid other ≡ k.rows store other

  module _ (after : K) (compared : IsCompared) (others : OthersAreCompared) (removes : Lasts k.clean k.sound k.keyed k.shielded mid after) where
    removes_then : (result : Result (Option AdminAnswer) Down)
        → (k.clean after → k.sound mid → k.clean mid → k.sound store → k.clean copy' → k.sound copy → RemovesSame is_forced org result (k.rows copy) (k.rows store) (k.rows after)) → CopiesBetween k (RemovesSame is_forced org result) copy copy' store after
    removes_then result means = record {
      unchanged = read;
      so_far = λ clean. lasts.so_far (removes.so_far clean);
      shield = λ shielded. removes.shield (lasts.shield shielded);
      kept = λ clean sound clean_copy sound_copy. removes.kept clean (lasts.kept (removes.so_far clean) sound (clean_copy, sound_copy));
      keys = λ clean sound clean_copy sound_copy keyed.
          let before = removes.so_far clean in
          removes.keys clean (lasts.kept before sound (clean_copy, sound_copy)) (lasts.keys before sound keyed);
      model = λ clean sound clean_copy sound_copy.
          let before = removes.so_far clean in
          means clean (lasts.kept before sound (clean_copy, sound_copy)) before sound clean_copy sound_copy;
    }

    -- both are equal, and the rule of the removal says what becomes of it
    pub removes_one : (answer : AdminAnswer) → (k.clean after → k.sound mid → effect answer (k.rows after org) ≡ org_removed is_forced (k.rows mid org))
        → (k.clean after → k.sound mid → (other : List ℕ) → other ≢ org → k.rows after other ≡ k.rows mid other) → CopiesBetween k (RemovesSame is_forced org (Ok (Some answer))) copy copy' store after
    removes_one answer own rest = removes_then (Ok (Some answer)) (λ clean still before sound clean_copy sound_copy.
        let same = compared before sound clean_copy sound_copy in (
          same.1,
          subst (λ (r : Option Organization). effect answer (k.rows after org) ≡ org_removed is_forced r) same.0 (own clean still),
          λ other apart. rest clean still other apart ∙ others before sound clean_copy sound_copy other apart,
        ))

    -- the removal failed
    pub removes_failed : (down : Down) → (k.clean after → (other : List ℕ) → k.rows after other ≡ k.rows mid other) → CopiesBetween k (RemovesSame is_forced org (Err down)) copy copy' store after
    removes_failed down stays = removes_then (Err down) (λ clean still before sound clean_copy sound_copy other.
        stays clean other ∙ all_stay (k.rows store) (k.rows mid) org (compared before sound clean_copy sound_copy).0 (others before sound clean_copy sound_copy) other)

-- one record and each other one stay where the records may differ
pub compared_stay : (old new : Records) (org : List ℕ) → new org ≡ old org → ((other : List ℕ) → other ≢ org → new other ≡ old other) → Stays old new
compared_stay = all_stay

-- what became of the records, and what is said of it
pub removed_copied : (Fails : Cause → Type 0) (is_forced : Bool) (org : List ℕ) (from old new : Records) (e : Exit) (output : Stream) (errors : Errors) (result : Result (Option AdminAnswer) Down)
    → RemovesSame is_forced org result from old new → ReportsRemoval Fails result e output errors → IsRemovedCopied Fails is_forced org from old new e output errors
removed_copied Fails is_forced org from old new e output errors (Ok (Some answer)) removes reports = inl (answer, removes.0, removes.1, removes.2, reports.0, reports.1)
removed_copied Fails is_forced org from old new e output errors (Ok None) removes reports = inr (removes, reports)
removed_copied Fails is_forced org from old new e output errors (Err down) removes reports = inr (removes, reports)
