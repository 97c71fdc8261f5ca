-- From steps inside a transaction to the transaction, which a commit ends.
use Rattle.tables.proofs.Outside.{◌≡◌, ◌+◌, ℕ, inl, inr, true, false, [], IsTrue, Result, Ok, Err, IfErr, OnOk, OnErr, refl, sym, ◌∙◌, subst, Ghosts, Database, Held, state, FailsToCommit, State, Shows, KeepsCounts, KeepsCommit, Error, AnyRows, Moves, Alters, HasSchema, Tables, Holds}
use Rattle.tables.specs.Inner.Imports.{CommitsRelated}
use Rattle.tables.specs.Inner.Copies.{Relates}
use Rattle.tables.specs.Inner.Steps.{IsAllCommitted, Commits}
use Rattle.tables.specs.Inner.Making.{IsMade, StepsFrom}
use Rattle.tables.specs.Versions.{Becomes, KeepsBeside}

-- what a commit promises where it is done
abbrev pub Ends : State → State → Type 0
Ends old new = IsTrue old.in_transaction × Shows old new old.now old.now false × KeepsCounts old new × (new.marks ≡ [])

failed : (a c d : State) (e : Error) → (IsTrue c.is_open → IsTrue a.is_open) → (IsTrue c.is_open → c.committed ≡ a.committed) → FailsToCommit c d e → KeepsCommit a d
failed a c d e was same (inl fails) =
    let back = fails.3 in record { was_open = λ is. was (back.was_open is); committed = λ is. (back.undone is).1 ∙ same (back.was_open is) }
failed a c d e was same (inr late) =
    let kept = late.2.0 in record { was_open = λ _. was kept.was_open; committed = λ _. kept.committed_is ∙ same kept.was_open }

pub inside_by : {S : Type 0} (h k : Held S) → k ≡ record h { in_transaction = true } → IsTrue k.in_transaction
inside_by h k begun = subst (λ x. IsTrue x.in_transaction) (sym begun) refl

module _ {S : Type 0} (g : Ghosts S) (h k l m : Held S) (all_committed : IsAllCommitted (state g h)) (begun : k ≡ record h { in_transaction = true }) where
  pub commits_by : {X : Type 0} (f : Tables → Tables) (result : Result X Error) → Moves AnyRows f (state g k) (state g l) → OnOk result (Ends (state g l) (state g m)) → IfErr result (FailsToCommit (state g l) (state g m))
      → OnOk result (Commits f AnyRows (state g h) (state g m)) × OnErr result (KeepsCommit (state g h) (state g m))
  commits_by f (Ok x) moved ends fails =
      let from : Moves AnyRows f (state g (record h { in_transaction = true })) (state g l) = subst (λ x. Moves AnyRows f (state g x) (state g l)) begun moved in (
        record {
          rows = λ t held. subst (λ (d : Database). Holds d (f t)) (sym ends.1.committed_is) (from.rows t (subst (λ (d : Database). Holds d t) (sym (all_committed from.was_open)) held) tt);
          reports = λ t held. tt;
          was_open = from.was_open;
          is_open = ends.1.is_open;
        },
        tt,
      )
  commits_by f (Err e) moved ends fails =
      let from : Moves AnyRows f (state g (record h { in_transaction = true })) (state g l) = subst (λ x. Moves AnyRows f (state g x) (state g l)) begun moved in
      (tt, failed (state g h) (state g l) (state g m) e (λ _. from.was_open) (λ _. from.committed) fails)

  -- rows before and after stand in a relation
  pub commits_related : {X : Type 0} (R : Tables → Tables → Type 0) (result : Result X Error) → Relates R (state g k) (state g l) → OnOk result (Ends (state g l) (state g m)) → IfErr result (FailsToCommit (state g l) (state g m))
      → OnOk result (CommitsRelated R (state g h) (state g m)) × OnErr result (KeepsCommit (state g h) (state g m))
  commits_related R (Ok x) related ends fails =
      let from : Relates R (state g (record h { in_transaction = true })) (state g l) = subst (λ x. Relates R (state g x) (state g l)) begun related in
      let was : IsTrue (state g h).is_open = from.was_open ends.1.was_open in (
        record {
          rows = λ t held.
              let u = from.rows t (subst (λ (d : Database). Holds d t) (sym (all_committed was)) held) in
              (u.0, subst (λ (d : Database). Holds d u.0) (sym ends.1.committed_is) u.1, u.2);
          was_open = was;
          is_open = ends.1.is_open;
        },
        tt,
      )
  commits_related R (Err e) related ends fails =
      let from : Relates R (state g (record h { in_transaction = true })) (state g l) = subst (λ x. Relates R (state g x) (state g l)) begun related in
      (tt, failed (state g h) (state g l) (state g m) e from.was_open (λ _. from.committed) fails)

  -- what was told of the rows in the transaction, is told of those that were committed before it
  pub reported_committed : (f : Tables → Tables) (law : Tables → Type 0) → Moves AnyRows f (state g k) (state g l) → ((t : Tables) → Holds (state g k).now t → law t) → (t : Tables) → Holds (state g h).committed t → law t
  reported_committed f law moved reported t held =
      let from : Moves AnyRows f (state g (record h { in_transaction = true })) (state g l) = subst (λ x. Moves AnyRows f (state g x) (state g l)) begun moved in
      let seen : (u : Tables) → Holds (state g (record h { in_transaction = true })).now u → law u = subst (λ x. (u : Tables) → Holds (state g x).now u → law u) begun reported in
      seen t (subst (λ (d : Database). Holds d t) (sym (all_committed from.was_open)) held)

  pub made_by : {X : Type 0} (result : Result X Error) → Alters HasSchema (state g k) (state g l) → OnOk result (Ends (state g l) (state g m)) → IfErr result (FailsToCommit (state g l) (state g m))
      → OnOk result (IsMade (state g h) (state g m)) × OnErr result (KeepsCommit (state g h) (state g m))
  made_by (Ok x) made ends fails =
      let from : Alters HasSchema (state g (record h { in_transaction = true })) (state g l) = subst (λ x. Alters HasSchema (state g x) (state g l)) begun made in
      (record { schema = subst (λ (d : Database). HasSchema (state g h).now d) (sym ends.1.committed_is) from.change; was_open = from.was_open; is_open = ends.1.is_open }, tt)
  made_by (Err e) made ends fails =
      let from : Alters HasSchema (state g (record h { in_transaction = true })) (state g l) = subst (λ x. Alters HasSchema (state g x) (state g l)) begun made in
      (tt, failed (state g h) (state g l) (state g m) e (λ _. from.was_open) (λ _. from.committed) fails)

  -- a version has become the next one, and that is committed
  pub climbs_by : {X : Type 0} (n : ℕ) (Change : Database → Database → Type 0) → ((a b : Database) → Change a b → Becomes n (n + 1) a b × KeepsBeside n (n + 1) a b) → (result : Result X Error)
      → Alters Change (state g k) (state g l) → OnOk result (Ends (state g l) (state g m)) → IfErr result (FailsToCommit (state g l) (state g m)) → StepsFrom n (state g h) (state g m) result
  climbs_by n Change becomes (Ok x) raised ends fails =
      let from : Alters Change (state g (record h { in_transaction = true })) (state g l) = subst (λ x. Alters Change (state g x) (state g l)) begun raised in
      let done : Change (state g h).committed (state g m).committed = subst (λ (d : Database). Change d (state g m).committed) (all_committed from.was_open) (subst (λ (d : Database). Change (state g h).now d) (sym ends.1.committed_is) from.change) in
      let next = becomes (state g h).committed (state g m).committed done in
      ((record { was_open = λ _. from.was_open; becomes = λ _. next.0; beside = λ _. next.1 }, ends.1.is_open), tt)
  climbs_by n Change becomes (Err e) raised ends fails =
      let from : Alters Change (state g (record h { in_transaction = true })) (state g l) = subst (λ x. Alters Change (state g x) (state g l)) begun raised in
      (tt, failed (state g h) (state g l) (state g m) e (λ _. from.was_open) (λ _. from.committed) fails)

-- what is told of the rows before a change that is committed
pub commits_reported : {X E : Type 0} (f : Tables → Tables) (reported : Tables → Type 0) (a b : State) (result : Result X E) → ((t : Tables) → Holds a.committed t → reported t)
    → OnOk result (Commits f AnyRows a b) × OnErr result (KeepsCommit a b) → OnOk result (Commits f reported a b) × OnErr result (KeepsCommit a b)
commits_reported f reported a b (Ok x) reports done = (record { rows = done.0.rows; reports = reports; was_open = done.0.was_open; is_open = done.0.is_open }, tt)
commits_reported f reported a b (Err e) reports done = (tt, done.1)
