-- A query changes nothing, whatever the schema is.
use Rattle.statements.proofs.Outside.{◌≡◌, ◌⊎◌, inl, inr, ℕ, ◌+◌, Bool, true, false, cond, List, [], Option, None, Result, Ok, Err, IsSome, refl, ap, subst, Row, Trees, Schema, Command, Select, Rows, Checked, and_then, Compiled, CompileError, command, returning, timed, small, meaning, planned, compiled, with_command, Error, Database, RefusesToRead, understood, reads_listing, if_select, is_select, listing_schema, State, IsUnchanged, IsRolledBack, QueriesRow, QueriesRowInside, Shown, ShowsRows, FailsToQuery, FailsToShow, IsNotRun, CommitsShowing, store_error, Survives}
use Rattle.sqlite_trees.specs.declared.error.StoreError.{StoreError}
use Rattle.sqlite_trees.specs.declared.error.StoreError.TheVariants.{OutOfMemory, Io, Corrupt, Full, Broken, Unstorable}
use Rattle.sqlite.specs.declared.error.Error.TheVariants.{QueryReturnedNoRows}
use Rattle.sqlite_ast.specs.declared.Statement.TheVariants as written
use Rattle.statements.specs.Calls.{IsQuery}

module _ (text : List ℕ) (is : IsQuery text) where
  compiled_silent : (s : Schema) (c : Compiled) → compiled s text ≡ Ok c → c.returning ≡ None
  unfolding compiled planned meaning returning
  compiled_silent s c h = go (command s [] (small is.1.names + small (timed s [] (written.Select is.0))) (written.Select is.0)) refl (rw is.2 at h)
    where
      go : (r : Checked Command) → command s [] (small is.1.names + small (timed s [] (written.Select is.0))) (written.Select is.0) ≡ r
          → and_then (and_then (and_then r (λ k. Ok (k, None))) (λ found. Ok (timed s [] (written.Select is.0), found)))
          (λ plan. Ok (with_command (record is.1 { statement = written.Select is.0; formats = [] }) plan)) ≡ Ok c → c.returning ≡ None
      go (Ok k) e f = let same : c ≡ with_command (record is.1 { statement = written.Select is.0; formats = [] }) (timed s [] (written.Select is.0), (k, None)) = cc in ap (λ (d : Compiled). d.returning) same
      go (Err e) f g = absurd (cc)

  pub silent : (s : Schema) (c : Compiled) → understood s text ≡ Ok c → c.returning ≡ None
  unfolding understood
  silent s c h = go (reads_listing s text) h
    where
      kept : (r : Result Compiled CompileError) → ((d : Compiled) → r ≡ Ok d → d.returning ≡ None) → if_select r ≡ Ok c → c.returning ≡ None
      kept (Ok d) of e = pick (is_select d.command) e
        where
          pick : (b : Bool) → cond b (Ok d) (Err Rattle.sqlite_resolve.specs.declared.error.CompileError.TheVariants.NoSuchTable) ≡ Ok c → c.returning ≡ None
          pick true f = let same : d ≡ c = cc in subst (λ (k : Compiled). k.returning ≡ None) same (of d refl)
          pick false f = absurd (cc)
      kept (Err x) of e = absurd (cc)

      go : (b : Bool) → cond b (if_select (compiled listing_schema text)) (compiled s text) ≡ Ok c → c.returning ≡ None
      go true e = kept (compiled listing_schema text) (λ d is_d. compiled_silent listing_schema d is_d) e
      go false e = compiled_silent s c e

  pub shown_calm : (params : Row) (old new : State) (rows : List Row) → Shown text params old new rows → IsUnchanged old new
  unfolding Shown
  shown_calm params old new rows h = (subst (ShowsRows old new text h.0 _ rows) (silent old.now.schema h.0 h.1.is) h.2).3

  no_rows_reported : (e : StoreError) → QueryReturnedNoRows ≡ store_error e → ⊥
  no_rows_reported OutOfMemory h = cc
  no_rows_reported Io h = cc
  no_rows_reported Corrupt h = cc
  no_rows_reported Full h = cc
  no_rows_reported Broken h = cc
  no_rows_reported Unstorable h = cc

  pub failed_calm : (params : Row) (old new : State) (e : Error) → FailsToQuery text params old new e → IsUnchanged old new ⊎ IsRolledBack old new
  unfolding FailsToQuery IsNotRun
  failed_calm params old new e (inl (inl refused)) = inl refused.1
  failed_calm params old new e (inl (inr failed)) = inr failed.3
  failed_calm params old new e (inr ran) = inl (subst (FailsToShow old new text ran.0 _ e) (silent old.now.schema ran.0 ran.1.is) ran.2).3

  not_failed : (params : Row) (old new : State) → FailsToQuery text params old new QueryReturnedNoRows → ⊥
  unfolding FailsToQuery IsNotRun
  not_failed params old new (inl (inl (inl fault, same))) = let e = fault.2 in cc
  not_failed params old new (inl (inl (inr bad, same))) = elim bad.2 [
    | inl many ↦ let e = many.1 in cc
    | inr other ↦ elim other [ inl count ↦ let e = count.1 in cc | inr clock ↦ let e = clock.1 in cc ]
  ]
  not_failed params old new (inl (inr failed)) = no_rows_reported failed.0 failed.1
  not_failed params old new (inr ran) = go ran.0.command (subst (FailsToShow old new text ran.0 _ QueryReturnedNoRows) (silent old.now.schema ran.0 ran.1.is) ran.2)
    where
      refuses : (k : Command) (limit : Option ℕ) (db : Database) (p : Row) → RefusesToRead limit k db p QueryReturnedNoRows → ⊥
      refuses (Select q names) limit db p (inl h) = let e = h.0 in cc
      refuses (Select q names) limit db p (inr (inl h)) = let e = h.0 in cc
      refuses (Select q names) limit db p (inr (inr h)) = let e = h.0 in cc
      refuses (Rows values width names) limit db p h = let e = h.0 in cc
      refuses _ limit db p h = cc

      go : (k : Command) → (db : Database) × Rattle.sqlite.specs.Listing.IsSourceOf (reads_listing old.now.schema text) old.now db × RefusesToRead old.step_limit ran.0.command db (Rattle.sqlite.specs.Clock.timed params ran.0.formats ran.1.now) QueryReturnedNoRows × IsUnchanged old new → ⊥
      go k h = refuses ran.0.command old.step_limit h.0 _ h.2

  pub row_calm : (params : Row) (old new : State) (row : Row) → QueriesRow text params old new (Ok row) → IsUnchanged old new
  unfolding QueriesRow
  row_calm params old new row (inl h) = h.1
  row_calm params old new row (inr h) = shown_calm params old new h.0 h.1

  pub none_shown : (params : Row) (old new : State) → QueriesRow text params old new (Err QueryReturnedNoRows) → Shown text params old new []
  unfolding QueriesRow
  none_shown params old new (inl failed) = absurd (not_failed params old new failed)
  none_shown params old new (inr h) = h.1

  pub none_calm : (params : Row) (old new : State) → QueriesRow text params old new (Err QueryReturnedNoRows) → IsUnchanged old new
  none_calm params old new h = shown_calm params old new [] (none_shown params old new h)

  pub error_calm : (params : Row) (old new : State) (e : Error) → QueriesRow text params old new (Err e) → IsUnchanged old new ⊎ IsRolledBack old new
  unfolding QueriesRow
  error_calm params old new e (inl failed) = failed_calm params old new e failed
  error_calm params old new e (inr h) = inl (shown_calm params old new [] h.1)

  -- inside a transaction

  inside_none : (params : Row) (old new : State) → QueriesRowInside text params old new (Err QueryReturnedNoRows) → QueriesRow text params old new (Err QueryReturnedNoRows)
  inside_none params old new (inl none) = none
  inside_none params old new (inr late) = absurd (let e = late.4 in cc)

  pub inside_none_shown : (params : Row) (old new : State) → QueriesRowInside text params old new (Err QueryReturnedNoRows) → Shown text params old new []
  inside_none_shown params old new h = none_shown params old new (inside_none params old new h)

  pub inside_none_calm : (params : Row) (old new : State) → QueriesRowInside text params old new (Err QueryReturnedNoRows) → IsUnchanged old new
  inside_none_calm params old new h = none_calm params old new (inside_none params old new h)

  pub inside_error_calm : (params : Row) (old new : State) (e : Error) → QueriesRowInside text params old new (Err e) → IsUnchanged old new ⊎ IsRolledBack old new
  inside_error_calm params old new e (inl failed) = error_calm params old new e failed
  inside_error_calm params old new e (inr late) = inl late.5

  commits_none : (params : Row) (s : State) (db : Trees) → CommitsShowing text params s db → ⊥
  unfolding CommitsShowing
  commits_none params s db h = absurd (let e = subst IsSome (silent s.now.schema h.0 h.1.is) h.2 in cc)

  pub survives_query : (params : Row) (old new : State) → Survives old new (CommitsShowing text params old) → Survives old new (λ _. ⊥)
  survives_query params old new s = record {
    clean = s.clean;
    shield = s.shield;
    counts = s.counts;
    limit = s.limit;
    closes = s.closes;
    crash = λ clean db left. elim (s.crash clean db left) [ inl before ↦ inl before | inr now ↦ absurd (commits_none params old db now) ];
  }
