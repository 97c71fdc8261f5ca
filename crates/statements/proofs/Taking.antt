-- A query whose rows are taken one at a time.
use Rattle.statements.proofs.Outside.{◌≡◌, ◌⊎◌, inl, inr, ℕ, ◌+◌, ◌≤◌, false, List, [], ◌∷◌, ◌++◌, length, None, Some, Result, Ok, Err, IsSome, refl, sym, ap, subst, ◌∙◌, arith, length-append, Row, Ghosts, Compiled, CompileError, Schema, Error, Database, Held, state, understood, reads_listing, IsSourceOf, State, HasCleanDisk, IsUnchanged, IsRolledBack, Fails, Survives, Shown, ShowsRows, Begins, CommitsShowing, given_begin, unchanged_then, survives_then}
use Rattle.sqlite.specs.Given.{Returns, HasGiven, HasBegun, Advances}
use Rattle.statements.specs.Calls.{IsQuery, FirstRows}
use Rattle.statements.proofs.Calm.{silent, survives_query}
use Rattle.statements.proofs.Transactions.{clean_before}

fails_from : (a b c : State) → IsUnchanged a b → IsUnchanged b c ⊎ IsRolledBack b c → IsUnchanged a c ⊎ IsRolledBack a c
fails_from a b c same (inl kept) = inl (unchanged_then a b c same kept)
fails_from a b c same (inr back) =
    inr (record {
      was_open = λ is_open. same.0.was_open;
      undone = λ is_open. ((back.undone is_open).0 ∙ same.0.committed_is, (back.undone is_open).1 ∙ same.0.committed_is);
      autocommit = back.autocommit;
      unmarked = back.unmarked;
      counts = record { changes = back.counts.changes ∙ same.1.changes; last_rowid = back.counts.last_rowid ∙ same.1.last_rowid };
    })

module _ (text : List ℕ) (is : IsQuery text) where
  returns_none : (s : Schema) → Returns (understood s text) → ⊥
  returns_none s h = go (understood s text) refl h
    where
      go : (r : Result Compiled CompileError) → understood s text ≡ r → Returns r → ⊥
      go (Ok c) e some = let none = subst IsSome (silent text is s c e) some in cc
      go (Err x) e none = none

  shown_from : (params : Row) (a b c : State) (rows : List Row) → IsUnchanged a b → Shown text params b c rows → Shown text params a c rows
  unfolding Shown
  shown_from params a b c rows same h =
      let none = silent text is b.now.schema h.0 h.1.is in
      let at : b.now ≡ a.now = same.0.now_is in
      let it = subst (ShowsRows b c text h.0 _ rows) none h.2 in (
        h.0,
        record { is = subst (λ (d : Database). understood d.schema text ≡ Ok h.0) at h.1.is; whole = h.1.whole; given = h.1.given; now = h.1.now },
        subst (ShowsRows a c text h.0 _ rows) (sym none) (it.0, subst (λ (d : Database). IsSourceOf (reads_listing d.schema text) d it.0) at it.1, it.2, unchanged_then a b c same it.3),
      )

  begins_from : (params : Row) (a b : State) (rows : List Row) → IsUnchanged a b → Begins text params b rows → Begins text params a rows
  unfolding Begins
  begins_from params a b rows same h =
      let at : b.now ≡ a.now = same.0.now_is in (
        h.0,
        record { is = subst (λ (d : Database). understood d.schema text ≡ Ok h.0) at h.1.is; whole = h.1.whole; given = h.1.given; now = h.1.now },
        h.2,
        h.3,
        subst (λ (d : Database). IsSourceOf (reads_listing d.schema text) d h.3) at h.4,
        h.5,
      )

-- So many rows were taken of a query, and nothing has changed.
pub record Takes {S : Type 0} (g : Ghosts S) (text : List ℕ) (params : Row) (old now : Held S) (rows : List Row) (n : ℕ) : Type 0 where
  pub mode : old.in_transaction ≡ false → now.in_transaction ≡ false
  pub count : length rows ≡ n
  pub survives : IsQuery text → Survives (state g old) (state g now) (λ _. ⊥)
  pub given : IsQuery text → HasCleanDisk (state g now) → HasGiven g text params now rows × IsUnchanged (state g old) (state g now)

module _ {S : Type 0} (g : Ghosts S) (text : List ℕ) (params : Row) (old : Held S) where
  pub takes_none : (now : Held S) → (old.in_transaction ≡ false → now.in_transaction ≡ false) → Survives (state g old) (state g now) (CommitsShowing text params (state g old))
      → (HasCleanDisk (state g now) → HasBegun g text params old now) → Takes g text params old now [] 0
  takes_none now mode survives begun =
      record { mode = mode; count = refl; survives = λ is. survives_query text is params (state g old) (state g now) survives; given = λ is clean. plain is (begun clean) }
    where
      plain : IsQuery text → HasBegun g text params old now → HasGiven g text params now [] × IsUnchanged (state g old) (state g now)
      plain is (inl h) = h
      plain is (inr h) = absurd (returns_none text is old.schema h.0)

  module _ (now : Held S) (rows : List Row) (n : ℕ) (takes : Takes g text params old now rows n) where
    pub taken_begin : (most : ℕ) → n ≡ most → IsQuery text → HasCleanDisk (state g now) → FirstRows most text params (state g old) (state g now) rows
    taken_begin most same is clean =
        let h = takes.given is clean in
        inl (begins_from text is params (state g old) (state g now) rows h.1 (given_begin g text params now rows h.0), takes.count ∙ same)

    pub taken_calm : IsQuery text → HasCleanDisk (state g now) → IsUnchanged (state g old) (state g now)
    taken_calm is clean = (takes.given is clean).1

    module _ (next : Held S) (mode : now.in_transaction ≡ false → next.in_transaction ≡ false) (survives : Survives (state g now) (state g next) (λ _. ⊥)) where
      pub mode_then : old.in_transaction ≡ false → next.in_transaction ≡ false
      mode_then h = mode (takes.mode h)

      pub survives_on : IsQuery text → Survives (state g old) (state g next) (λ _. ⊥)
      survives_on is = survives_then (state g old) (state g now) (state g next) (λ _. ⊥) (λ _. ⊥) (λ _. ⊥) (λ _ db h. h) (λ _ db h. h) (takes.survives is) survives

      was : IsQuery text → HasCleanDisk (state g next) → HasGiven g text params now rows × IsUnchanged (state g old) (state g now)
      was is clean = takes.given is (clean_before (state g now) (state g next) _ survives clean)

      pub takes_more : (row : Row) → (HasCleanDisk (state g next) → Advances g now next (Some row)) → (HasCleanDisk (state g next) → IsUnchanged (state g now) (state g next))
          → Takes g text params old next (rows ++ row ∷ []) (n + 1)
      takes_more row advances same =
          record {
            mode = mode_then;
            count = length-append rows (row ∷ []) ∙ ap (λ k. k + 1) takes.count;
            survives = survives_on;
            given = λ is clean. (advances clean text params rows (was is clean).0, unchanged_then (state g old) (state g now) (state g next) (was is clean).1 (same clean));
          }

      pub takes_all : (most : ℕ) → n ≤ most → (HasCleanDisk (state g next) → Advances g now next None) → IsQuery text → HasCleanDisk (state g next) → FirstRows most text params (state g old) (state g next) rows
      takes_all most low advances is clean =
          let h = was is clean in
          inr (shown_from text is params (state g old) (state g now) (state g next) rows h.1 (advances clean text params rows h.0), omega (arith, takes.count))

      pub calm_on : (HasCleanDisk (state g next) → IsUnchanged (state g now) (state g next)) → IsQuery text → HasCleanDisk (state g next) → IsUnchanged (state g old) (state g next)
      calm_on same is clean = unchanged_then (state g old) (state g now) (state g next) (was is clean).1 (same clean)

      pub calm_failed : (e : Error) → (HasCleanDisk (state g next) → Fails (state g now) (state g next) ⊥ e ⊎ IsUnchanged (state g now) (state g next))
          → IsQuery text → HasCleanDisk (state g next) → IsUnchanged (state g old) (state g next) ⊎ IsRolledBack (state g old) (state g next)
      calm_failed e kept is clean = fails_from (state g old) (state g now) (state g next) (was is clean).1 (elim (kept clean) [ inl failed ↦ inr failed.3 | inr same ↦ inl same ])
