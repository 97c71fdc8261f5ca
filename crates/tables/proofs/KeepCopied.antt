-- From what was looked at on two connections, and one transaction, to the copy of an organization.
use Rattle.tables.proofs.Outside.{◌≡◌, ◌≢◌, ℕ, true, List, is_some, Option, Some, None, refl, sym, ap, subst, ◌∙◌, Ghosts, Database, Held, state, State, HasCleanDisk, IsUnchanged, AdminAnswer, Done, Exists, Absent, cap_of, Organization, Tables, Holds, tables_of}
use Rattle.tables.specs.Copying.{IsCopied}
use Rattle.tables.specs.Opening.{IsSoundKeep}
use Rattle.tables.specs.Remembered.{nothing_kept}
use Rattle.tables.specs.Records.{record_of}
use Rattle.tables.specs.Stores.{records_of}
use Rattle.tables.specs.declared.memo.Memo.{Memo}
use Rattle.tables.specs.Inner.Imports.{TakesFrom, TakesCommitted, Arrives, Brings, Copies, CommitsRelated}
use Rattle.tables.specs.Inner.Steps.{IsAllCommitted}
use Rattle.tables.proofs.KeptInMemory.{nothing_is}
use Rattle.tables.proofs.Databases.{store_by, records_by}
use Rattle.tables.proofs.Managed.{record_there, record_missing}

-- ---- the answer where nothing is copied

pub is_absent : (org : List ℕ) (found there : Option ℕ) → found ≡ None → (f t : Tables) → found ≡ cap_of org f → there ≡ cap_of org t → IsCopied Absent (record_of f org) (record_of t org) (record_of t org)
is_absent org found there none f t read reported = (record_missing f org (sym read ∙ none), refl)

one_there : (org : List ℕ) (o : Option ℕ) (t : Tables) → is_some o ≡ true → o ≡ cap_of org t → is_some (record_of t org) ≡ true
one_there org None t is e = absurd (cc)
one_there org (Some cap) t is e = ap is_some (record_there t org cap (sym e))

pub is_there : (org : List ℕ) (found there : Option ℕ) (cap : ℕ) → found ≡ Some cap → is_some there ≡ true → (f t : Tables) → found ≡ cap_of org f → there ≡ cap_of org t → IsCopied Exists (record_of f org) (record_of t org) (record_of t org)
is_there org found there cap is some f t read reported = (one_there org found f (ap is_some is) read, one_there org there t some reported, refl)

-- ---- what was looked at, and one transaction

module _ {T : Type 0} (h : Ghosts T) (org : List ℕ) (found there : Option ℕ) (a b : State) (p q : Held T) (all_committed : IsAllCommitted a) (settled_there : IsAllCommitted (state h p))
    (read : HasCleanDisk (state h q) → ((f : Tables) → Holds (state h p).now f → found ≡ cap_of org f) × IsUnchanged (state h p) (state h q)) (reported : (t : Tables) → Holds a.now t → there ≡ cap_of org t) (same : IsUnchanged a b) where
  reported_committed : (t : Tables) → Holds a.committed t → there ≡ cap_of org t
  reported_committed t holds = reported t (subst (λ (d : Database). Holds d t) (sym (all_committed same.0.was_open)) holds)

  now_there : HasCleanDisk (state h q) → (f : Tables) → Holds (state h p).committed f → Holds (state h p).now f
  now_there clean f holds = subst (λ (d : Database). Holds d f) (sym (settled_there (read clean).1.0.was_open)) holds

  -- nothing was changed
  pub copies_none : (answer : AdminAnswer) → ((f t : Tables) → found ≡ cap_of org f → there ≡ cap_of org t → IsCopied answer (record_of f org) (record_of t org) (record_of t org)) → CommitsRelated (TakesCommitted h (Copies answer org) p q) a b
  copies_none answer is = record {
    rows = λ t holds. (
      t,
      subst (λ (d : Database). Holds d t) (sym same.0.committed_is) holds,
      λ clean. ((read clean).1.0.was_open, λ f here sound sound_too. record { sound = sound_too; own = is f t ((read clean).0 f (now_there clean f here)) (reported_committed t holds); others = λ o apart. refl }),
    );
    was_open = same.0.was_open;
    is_open = same.0.is_open;
  }

  -- the organization was brought
  pub copies_one : (cap : ℕ) (d : State) (r : Held T) → found ≡ Some cap → there ≡ None → (HasCleanDisk (state h r) → HasCleanDisk (state h q)) → CommitsRelated (TakesFrom h (Brings org cap) q r) b d → CommitsRelated (TakesCommitted h (Copies Done org) p r) a d
  copies_one cap d r is none so_far done = record {
    rows = λ t holds.
        let u = done.rows t (subst (λ (db : Database). Holds db t) (sym same.0.committed_is) holds) in (
          u.0,
          u.1,
          λ clean.
              let before = so_far clean in
              let unchanged = read before in (
                unchanged.1.0.was_open,
                λ f here sound sound_too.
                    let now = now_there before f here in
                    u.2 clean f (subst (λ (db : Database). Holds db f) (sym unchanged.1.0.now_is) now) sound (sym (unchanged.0 f now) ∙ is) sound_too (sym (reported_committed t holds) ∙ none),
              ),
        );
    was_open = same.0.was_open;
    is_open = done.is_open;
  }

-- ---- the stores

module _ {T : Type 0} (h : Ghosts T) {memo memo_there : Memo} (db source : Database) (a b : State) (p q : Held T) (s : IsSoundKeep db memo a) (there : IsSoundKeep source memo_there (state h p)) (org : List ℕ) (answer : AdminAnswer)
    (m : CommitsRelated (TakesCommitted h (Copies answer org) p q) a b) (clean : HasCleanDisk (state h q)) where
  rows : (u : Tables) × Holds b.committed u × TakesCommitted h (Copies answer org) p q (tables_of db) u
  rows = m.rows (tables_of db) (subst (λ (d : Database). Holds d (tables_of db)) (sym (s.tied m.was_open)) s.store.holds)

  arrives : Arrives answer org (tables_of source) (tables_of db) rows.0
  arrives =
      let unchanged = rows.2 clean in
      unchanged.1 (tables_of source) (subst (λ (d : Database). Holds d (tables_of source)) (sym (there.tied unchanged.0)) there.store.holds) there.store.sound s.store.sound

  pub copied_keeps : IsSoundKeep b.committed nothing_kept b
  copied_keeps = record { store = store_by b.committed rows.0 rows.1 arrives.sound; remembered = nothing_is (tables_of b.committed); tied = λ _. refl }

  pub copied_own : IsCopied answer (records_of source org) (records_of db org) (records_of b.committed org)
  copied_own = subst (λ (r : Option Organization). IsCopied answer (records_of source org) (records_of db org) r) (sym (records_by b.committed rows.0 rows.1 org)) arrives.own

  pub copied_others : (o : List ℕ) → o ≢ org → records_of b.committed o ≡ records_of db o
  copied_others o apart = records_by b.committed rows.0 rows.1 o ∙ arrives.others o apart
