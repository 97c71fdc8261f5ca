-- What a CREATE TABLE and a CREATE INDEX do, in a database with whatever schema.
use Rattle.statements.proofs.Outside.{◌≡◌, ◌≢◌, ◌⊎◌, inl, inr, ℕ, ◌+◌, ◌<◌, Bool, true, false, cond, ◌||◌, ◌&&◌, List, [], ◌∷◌, ◌++◌, slice_get, slice_range, Option, Some, None, is_some, Result, Ok, Err, refl, sym, ap, ◌∙◌, subst, arith, append_assoc, append-nil, AllByRecursion, AllZip, position_from, cases_Bool, or_parts, Row, Trees, IsAscending, Statement, Parsed, Schema, Table, Index, Command, CreateTable, CreateIndex, Nothing, same_name, table_named, Checked, and_then, Compiled, CompileError, table_at, first, command, create_table, create_index, creates, returning, timed, small, meaning, planned, compiled, with_command, table_defined_by, next_tree, KeepsRows, IsTableRow, no_table, rows_trans, Database, IsDatabase, is_query, Tally, AtPlace, Defines, MakesIndex, MakesSequence, lacks_sequence, sequence_text, understood, reads_listing, if_select, is_select, listing_schema, everything, all-slice_get, ascending_weaker}
use Rattle.sqlite_ast.specs.declared.CreateTable.{CreateTable as TableText}
use Rattle.sqlite_ast.specs.declared.CreateIndex.{CreateIndex as IndexText}
use Rattle.sqlite_ast.specs.declared.Statement.TheVariants as written
use Rattle.sqlite_schema.specs.declared.command.Returning.{Returning}
use Rattle.sqlite_resolve.specs.declared.error.CompileError.TheVariants.{Misuse, Exists, Unsupported}
use Rattle.sqlite_resolve.specs.Define as define
use Rattle.sqlite_catalog.specs.Calls.{CreatesTable}
use Rattle.sqlite.specs.Clock as clock
use Rattle.sqlite.specs.State.{State, mode_of, Executes, ExecutesIn, Runs, Writes, shows_rows, is_pragma, text_of}
use Rattle.statements.specs.Making.{KeepsTables, sequence_name}
use Rattle.statements.specs.Inner.Making.{Grows, IsMaker}
use Rattle.statements.specs.Tables.{StoredTable, HasRows, HoldsAll, tables_in}
use Rattle.statements.specs.Place.{IsOwn, at_of, tree_of}
use Rattle.statements.proofs.Meaning.{as_read}
use Rattle.statements.proofs.Grown.{Grown, made_grown, own_kept, added_apart, names_added, trees_below}
use Rattle.statements.proofs.Writes.{went, same_value}

-- ---- what such a text compiles to, if it does

-- the command is of this kind, and shows no rows
pub record IsMaking (Kind : Command → Type 0) (text : List ℕ) (c : Compiled) : Type 0 where
  pub kind : Kind c.command
  pub silent : c.returning ≡ None
  pub timeless : c.formats ≡ []
  pub whole : text_of text c ≡ text

module _ (Kind : Command → Type 0) (no_select : (k : Command) → Kind k → is_select k ≡ false) (text : List ℕ) (st : Statement) (p : Parsed) (reads : first text ≡ Ok (as_read p st)) (whole : slice_range text p.start p.end ≡ text)
    (timeless : (s : Schema) → timed s [] st ≡ []) (quiet : (s : Schema) (base : ℕ) → returning s base st ≡ Ok None) (kinds : (s : Schema) (base : ℕ) (k : Command) → command s [] base st ≡ Ok k → Kind k) where
  compiled_making : (s : Schema) (c : Compiled) → compiled s text ≡ Ok c → IsMaking Kind text c
  unfolding compiled planned meaning
  compiled_making s c h = go (command s [] (small p.names + small []) st) refl (rw (reads, timeless s, quiet s) at h)
    where
      go : (r : Checked Command) → command s [] (small p.names + small []) st ≡ r → and_then (and_then (and_then r (λ k. Ok (k, None))) (λ found. Ok ([], found))) (λ plan. Ok (with_command (as_read p st) plan)) ≡ Ok c → IsMaking Kind text c
      go (Ok k) e f =
          let same : with_command (as_read p st) ([], (k, None)) ≡ c = cc in
          subst (IsMaking Kind text) same (record { kind = kinds s _ k e; silent = refl; timeless = refl; whole = whole })
      go (Err e) f g = absurd (cc)

  making : (s : Schema) (c : Compiled) → understood s text ≡ Ok c → IsMaking Kind text c
  unfolding understood
  making s c h = go (reads_listing s text) h
    where
      kept : (r : Result Compiled CompileError) → ((d : Compiled) → r ≡ Ok d → is_select d.command ≡ false) → if_select r ≡ Ok c → IsMaking Kind text c
      kept (Ok d) none e = absurd (let f = rw (none d refl) at e in cc)
      kept (Err x) none e = absurd (cc)

      go : (b : Bool) → cond b (if_select (compiled listing_schema text)) (compiled s text) ≡ Ok c → IsMaking Kind text c
      go true e = kept (compiled listing_schema text) (λ d is. no_select d.command (compiled_making listing_schema d is).kind) e
      go false e = compiled_making s c e

  -- the command ran as a write
  pub ran_as : (old new : State) (params : Row) (count : ℕ) → ((k : Command) → Kind k → is_query k || is_pragma k ≡ false) → Executes text params old new (Ok count)
      → (k : Command) × Kind k × (full : Row) × Runs old new None k text full count
  unfolding ExecutesIn
  ran_as old new params count plain h =
      let is = making old.now.schema h.0 h.1.is in
      let flat : shows_rows false h.0 ≡ false = flat_for h.0.command h.0.returning (plain h.0.command is.kind) is.silent in
      let ran : Runs old new h.0.returning h.0.command (text_of text h.0) (clock.timed params h.0.formats h.1.now) count = rw flat at h.2 in (
        h.0.command,
        is.kind,
        clock.timed params h.0.formats h.1.now,
        subst (λ t. Runs old new None h.0.command t (clock.timed params h.0.formats h.1.now) count) is.whole (subst (λ r. Runs old new r h.0.command (text_of text h.0) (clock.timed params h.0.formats h.1.now) count) is.silent ran),
      )
    where
      flat_for : (k : Command) (r : Option Returning) → is_query k || is_pragma k ≡ false → r ≡ None → is_query k || (true && (is_pragma k || is_some r)) ≡ false
      flat_for k r none is = let parts = or_parts (is_query k) (is_pragma k) none in rw (parts.0, parts.1, is) refl

-- ---- CREATE TABLE

abbrev IsTableMaking : Command → Type 0
IsTableMaking k = k ≡ CreateTable

module _ (def : TableText) where
  abbrev fresh_table : TableText
  fresh_table = record def { if_missing = false }

  only_new : (a b c : Bool) (body : Checked Command) (k : Command)
      → and_then (cond a (Err Misuse) (cond b (Err Exists) (cond c (Err Exists) (Ok true)))) (λ is_new. cond is_new body (Ok Nothing)) ≡ Ok k → body ≡ Ok k
  only_new true b c body k h = absurd (cc)
  only_new false true c body k h = absurd (cc)
  only_new false false true body k h = absurd (cc)
  only_new false false false body k h = h

  defined_only : (r : Checked Table) (f : Table → Bool) (k : Command) → and_then r (λ t. cond (f t) (Ok CreateTable) (Err Unsupported)) ≡ Ok k → k ≡ CreateTable
  defined_only (Err e) f k h = absurd (cc)
  defined_only (Ok t) f k h = go (f t) h
    where
      go : (b : Bool) → cond b (Ok CreateTable) (Err Unsupported) ≡ Ok k → k ≡ CreateTable
      go true e = cc
      go false e = absurd (cc)

  unattached : (b : Bool) (body : Checked Command) (k : Command) → cond b (Err Unsupported) body ≡ Ok k → body ≡ Ok k
  unattached true body k h = absurd (cc)
  unattached false body k h = h

  makes_a_table : (s : Schema) (base : ℕ) (k : Command) → command s [] base (written.CreateTable fresh_table) ≡ Ok k → IsTableMaking k
  unfolding command create_table creates
  makes_a_table s base k h = defined_only (define.table [] fresh_table) _ k (only_new _ _ _ _ k (unattached _ _ k h))

no_selecting : (k : Command) → IsTableMaking k → is_select k ≡ false
no_selecting k is = ap is_select is

no_showing : (k : Command) → IsTableMaking k → is_query k || is_pragma k ≡ false
no_showing k is = ap (λ m. is_query m || is_pragma m) is

-- every table of a database has a tree below 65,536
low_trees : (rows : List Row) (tables : List Table) → AllZip IsTableRow rows tables → AllByRecursion (λ (t : Table). t.tree < 65536) tables
low_trees [] [] h = tt
low_trees [] (t ∷ tables) h = absurd h
low_trees (r ∷ rows) [] h = absurd h
low_trees (r ∷ rows) (t ∷ tables) h = (h.0.described.low, low_trees rows tables h.1)

pub front : {X : Type 0} (P : X → Type 0) (xs ys : List X) → AllByRecursion P (xs ++ ys) → AllByRecursion P xs × AllByRecursion P ys
front P [] ys h = (tt, h)
front P (x ∷ xs) ys h = let more = front P xs ys h.1 in ((h.0, more.0), more.1)

abbrev name_in : Checked Table → List ℕ
name_in (Ok t) = t.name
name_in (Err e) = []

engine_named : name_in (table_defined_by sequence_text) ≡ sequence_name
unfolding everything
engine_named = refl

module _ (table : Table) (text : List ℕ) (defines : table_defined_by text ≡ Ok table) (old new made : Database) (one : CreatesTable old.schema text old.trees made.schema made.trees)
    (sound : IsDatabase new) where
  same_table : one.table ≡ table
  same_table = same_value (sym one.defined ∙ defines)

  abbrev added : Table
  added = record table { tree = next_tree old.schema }

  tables_are : made.schema.tables ≡ old.schema.tables ++ added ∷ []
  tables_are = ap (λ (s : Schema). s.tables) one.is ∙ ap (λ (t : Table). old.schema.tables ++ (record t { tree = next_tree old.schema }) ∷ []) same_table

  low_in : (more : List Table) → new.schema.tables ≡ old.schema.tables ++ (added ∷ more) → next_tree old.schema < 65536
  low_in more is =
      let all = subst (AllByRecursion (λ (t : Table). t.tree < 65536)) is (low_trees _ new.schema.tables sound.lists.listed.tables) in
      (front (λ (t : Table). t.tree < 65536) old.schema.tables (added ∷ more) all).1.0

  free_is : table_named old.schema table.name ≡ None
  free_is = ap (λ (t : Table). table_named old.schema t.name) (sym same_table) ∙ no_table old.schema one.table.name one.free

  -- the next table after this one has a later tree
  added_below : next_tree old.schema < next_tree made.schema
  added_below = (front (λ (t : Table). t.tree < next_tree made.schema) old.schema.tables (added ∷ []) (subst (AllByRecursion (λ (t : Table). t.tree < next_tree made.schema)) tables_are (trees_below made.schema))).1.0

  pub grown : MakesSequence made (Ok new) → Grown table old new
  grown more = elim (cases_Bool (lacks_sequence made.schema)) [
    | inl lacks ↦
        let two : CreatesTable made.schema sequence_text made.trees new.schema new.trees = rw lacks at more in
        let last : Table = record two.table { tree = next_tree made.schema } in
        let is : new.schema.tables ≡ old.schema.tables ++ (added ∷ last ∷ []) =
        ap (λ (s : Schema). s.tables) two.is ∙ ap (λ l. l ++ last ∷ []) tables_are ∙ append_assoc old.schema.tables (added ∷ []) (last ∷ []) in
        let kept = front (λ (t : Table). new.trees t.tree ≡ made.trees t.tree) old.schema.tables (added ∷ []) (subst (λ ts. KeepsRows ts made.trees new.trees) tables_are two.others) in
        record {
          more = last ∷ [];
          tables = is;
          above = (added_below, tt);
          empty = kept.1.0 ∙ one.empty;
          others = rows_trans old.schema.tables old.trees made.trees new.trees one.others kept.0;
          free = free_is;
          low = low_in (last ∷ []) is;
          engine = (ap name_in (sym two.defined) ∙ engine_named, tt);
        }
    | inr has ↦
        let same : new ≡ made = same_value (rw has at more) in
        let is : new.schema.tables ≡ old.schema.tables ++ added ∷ [] = ap (λ (d : Database). d.schema.tables) same ∙ tables_are in
        record {
          more = [];
          tables = is;
          above = tt;
          empty = ap (λ (d : Database). d.trees (next_tree old.schema)) same ∙ one.empty;
          others = subst (λ (d : Database). KeepsRows old.schema.tables old.trees d.trees) (sym same) one.others;
          free = free_is;
          low = low_in [] is;
          engine = tt;
        }
  ]

module _ (table : Table) (def : TableText) (text : List ℕ) (p : Parsed) (reads : first text ≡ Ok (as_read p (written.CreateTable (fresh_table def))))
    (whole : slice_range text p.start p.end ≡ text) (defines : table_defined_by text ≡ Ok table) where
  quiet : (s : Schema) (base : ℕ) → returning s base (written.CreateTable (fresh_table def)) ≡ Ok None
  unfolding returning
  quiet s base = refl

  timeless : (s : Schema) → timed s [] (written.CreateTable (fresh_table def)) ≡ []
  unfolding timed
  timeless s = refl

  makes_table : (old new : State) (params : Row) (count : ℕ) → Executes text params old new (Ok count) → Grown table old.now new.now
  makes_table old new params count h =
      let ran = ran_as IsTableMaking no_selecting text (written.CreateTable (fresh_table def)) p reads whole timeless quiet (makes_a_table def) old new params count no_showing h in
      let w : Writes old new None CreateTable text ran.2 count = subst (λ k. Runs old new None k text ran.2 count) ran.1 ran.3 in
      let done = went w.changed in
      let made = went done.1 in
      let now : new.now ≡ done.0 = ap (λ (q : Tally × Database). q.1) (same_value done.2) in
      grown table text defines old.now new.now made.0 made.1 w.sound (subst (λ d. MakesSequence made.0 (Ok d)) (sym now) made.2)

  makes_behind : (old new : State) (params : Row) (count : ℕ) → Executes text params old new (Ok count) → Grows (table ∷ []) old.now new.now
  makes_behind old new params count h = let g = makes_table old new params count h in record {
    made = made_grown table old.now new.now g;
    owns = λ other own. own_kept table old.now new.now g other own;
    kept = record { more = record table { tree = next_tree old.now.schema } ∷ g.more; tables = g.tables; rows = g.others };
    apart = (added_apart table old.now new.now g, tt);
    names = names_added table old.now new.now g;
  }

-- ---- CREATE INDEX

-- an index is made, or nothing, where one of its name is there
abbrev IsIndexMaking : Command → Type 0
IsIndexMaking k = (k ≡ Nothing) ⊎ ((at : ℕ) × (k ≡ CreateIndex at))

module _ (def : IndexText) where
  abbrev missing_index : IndexText
  missing_index = record def { if_missing = true }

  an_index : (at : ℕ) (a b c : Bool) (r : Checked Index) (k : Command)
      → and_then (cond a (Err Misuse) (cond b (Err Exists) (cond c (Ok false) (Ok true)))) (λ is_new. cond is_new (and_then r (λ _. Ok (CreateIndex at))) (Ok Nothing)) ≡ Ok k → IsIndexMaking k
  an_index at true b c r k h = absurd (cc)
  an_index at false true c r k h = absurd (cc)
  an_index at false false true r k h = inl (same_value (sym h))
  an_index at false false false (Err e) k h = absurd (cc)
  an_index at false false false (Ok i) k h = inr (at, same_value (sym h))

  on_its_table : (r : Checked ℕ) (table_for : ℕ → Checked Table) (body : ℕ → Table → Checked Command) (k : Command) → ((at : ℕ) (t : Table) → body at t ≡ Ok k → IsIndexMaking k)
      → and_then r (λ at. and_then (table_for at) (body at)) ≡ Ok k → IsIndexMaking k
  on_its_table (Err e) table_for body k each h = absurd (cc)
  on_its_table (Ok at) table_for body k each h = go (table_for at) h
    where
      go : (r : Checked Table) → and_then r (body at) ≡ Ok k → IsIndexMaking k
      go (Err e) f = absurd (cc)
      go (Ok t) f = each at t f

  unreserved : (b : Bool) (body : Checked Command) (k : Command) → cond b (Err Misuse) body ≡ Ok k → body ≡ Ok k
  unreserved true body k h = absurd (cc)
  unreserved false body k h = h

  makes_an_index : (s : Schema) (base : ℕ) (k : Command) → command s [] base (written.CreateIndex missing_index) ≡ Ok k → IsIndexMaking k
  unfolding command create_index creates
  makes_an_index s base k h = on_its_table _ (table_at s) _ k (λ at t f. an_index at _ _ _ (define.index t missing_index) k f) (unreserved _ _ k h)

no_select_index : (k : Command) → IsIndexMaking k → is_select k ≡ false
no_select_index k (inl is) = ap is_select is
no_select_index k (inr one) = ap is_select one.1

no_rows_index : (k : Command) → IsIndexMaking k → is_query k || is_pragma k ≡ false
no_rows_index k (inl is) = ap (λ m. is_query m || is_pragma m) is
no_rows_index k (inr one) = ap (λ m. is_query m || is_pragma m) one.1

-- what stands in a schema hangs on its tables alone
same_tables : (t : Table) (s r : Schema) → r.tables ≡ s.tables → IsOwn s t → IsOwn r t
same_tables t s r is own = subst (λ l. IsOwn (record r { tables = l }) t) (sym is) (record {
  place = record { named = own.place.named; found = own.place.found; treed = own.place.treed; low = own.place.low; small = own.place.small };
  refers = own.refers;
})

same_tree : (t : Table) (s r : Schema) → r.tables ≡ s.tables → tree_of r t.name ≡ tree_of s t.name
same_tree t s r is = ap (λ l. tree_of (record r { tables = l }) t.name) is

module _ (old new : Database) (is : new.schema.tables ≡ old.schema.tables) (rows : KeepsRows old.schema.tables old.trees new.trees) where
  own_same : (ts : List Table) → AllByRecursion (IsOwn old.schema) ts → AllByRecursion (IsOwn new.schema) ts
  own_same [] h = tt
  own_same (t ∷ ts) h = (same_tables t old.schema new.schema is h.0, own_same ts h.1)

  rows_same : (xs : List StoredTable) → AllByRecursion (IsOwn old.schema) (tables_in xs) → AllByRecursion (HasRows old) xs → AllByRecursion (HasRows new) xs
  rows_same [] h k = tt
  rows_same (x ∷ xs) h k = (
    record {
      rows = ap new.trees (same_tree x.table old.schema new.schema is) ∙ all-slice_get (λ (u : Table). new.trees u.tree ≡ old.trees u.tree) old.schema.tables (at_of old.schema x.table.name) _ h.0.place.found rows ∙ k.0.rows;
      keyed = k.0.keyed;
    },
    rows_same xs h.1 k.1,
  )

  apart_same : (ts : List Table) → IsAscending (λ (a b : Table). tree_of old.schema a.name ≢ tree_of old.schema b.name) ts → IsAscending (λ (a b : Table). tree_of new.schema a.name ≢ tree_of new.schema b.name) ts
  apart_same ts h = ascending_weaker _ (λ (a b : Table). tree_of new.schema a.name ≢ tree_of new.schema b.name)
      (λ a b other same. let x = same_tree a old.schema new.schema is in let y = same_tree b old.schema new.schema is in other (omega (arith, x, y, same))) ts h

  made_same : (xs : List StoredTable) → HoldsAll old xs → HoldsAll new xs
  made_same xs m = record { own = record { own = own_same (tables_in xs) m.own.own; apart = apart_same (tables_in xs) m.own.apart }; rows = rows_same xs m.own.own m.rows }

indexes_at : (old new : State) (text : List ℕ) (place : Option Table) (tally : Tally)
    → AtPlace (λ table. Defines (mode_of old) (MakesIndex text old.now table)) place (Ok (tally, new.now))
    → Grows [] old.now new.now
indexes_at old new text None tally e = absurd (cc)
indexes_at old new text (Some table) tally e =
    let done = went e in
    let now : new.now ≡ done.0 = ap (λ (q : Tally × Database). q.1) (same_value done.2) in
    let is : new.now.schema.tables ≡ old.now.schema.tables = ap (λ (d : Database). d.schema.tables) now ∙ ap (λ (s : Schema). s.tables) done.1.is in
    let rows : KeepsRows old.now.schema.tables old.now.trees new.now.trees = subst (λ (d : Database). KeepsRows old.now.schema.tables old.now.trees d.trees) (sym now) done.1.rows in
    record {
      made = λ xs m. subst (λ l. HoldsAll new.now l) (sym (append-nil xs)) (made_same old.now new.now is rows xs m);
      owns = λ other own. same_tables other old.now.schema new.now.schema is own;
      kept = record { more = []; tables = is ∙ sym (append-nil old.now.schema.tables); rows = rows };
      apart = tt;
      names = λ name _ _ none. ap (position_from (λ (t : Table). same_name t.name name) 0) is ∙ none;
    }

rows_kept : (ts : List Table) (trees : Trees) → KeepsRows ts trees trees
rows_kept [] trees = tt
rows_kept (t ∷ ts) trees = (refl, rows_kept ts trees)

-- where an index of its name is there, nothing is made
left_out : (old new : Database) → new ≡ old → Grows [] old new
left_out old new is = subst (Grows [] old) (sym is) (record {
  made = λ xs h. subst (λ l. HoldsAll old l) (sym (append-nil xs)) h;
  owns = λ other own. own;
  kept = record { more = []; tables = sym (append-nil old.schema.tables); rows = rows_kept old.schema.tables old.trees };
  apart = tt;
  names = λ name _ _ none. none;
})

module _ (def : IndexText) (text : List ℕ) (p : Parsed) (reads : first text ≡ Ok (as_read p (written.CreateIndex (missing_index def)))) (whole : slice_range text p.start p.end ≡ text) where
  quiet_index : (s : Schema) (base : ℕ) → returning s base (written.CreateIndex (missing_index def)) ≡ Ok None
  unfolding returning
  quiet_index s base = refl

  timeless_index : (s : Schema) → timed s [] (written.CreateIndex (missing_index def)) ≡ []
  unfolding timed
  timeless_index s = refl

  makes_index : (old new : State) (params : Row) (count : ℕ) → Executes text params old new (Ok count) → Grows [] old.now new.now
  makes_index old new params count h =
      let ran = ran_as IsIndexMaking no_select_index text (written.CreateIndex (missing_index def)) p reads whole timeless_index quiet_index (makes_an_index def) old new params count no_rows_index h in
      made_by ran.0 ran.1 ran.2 ran.3
    where
      made_by : (k : Command) → IsIndexMaking k → (full : Row) → Runs old new None k text full count → Grows [] old.now new.now
      made_by k (inl none) full does =
          let still : Runs old new None Nothing text full count = subst (λ m. Runs old new None m text full count) none does in
          left_out old.now new.now still.0.0.now_is
      made_by k (inr one) full does =
          let w : Writes old new None (CreateIndex one.0) text full count = subst (λ m. Runs old new None m text full count) one.1 does in
          indexes_at old new text (slice_get old.now.schema.tables one.0) w.tally w.changed

-- what such a text does
pub maker_does : (text : List ℕ) (made : List Table) → IsMaker text made → (old new : State) (params : Row) (count : ℕ) → Executes text params old new (Ok count) → Grows made old.now new.now
maker_does text [] is = makes_index is.def text is.parsed is.reads is.whole
maker_does text (table ∷ []) is = makes_behind table is.def text is.parsed is.reads is.whole is.defines
maker_does text (table ∷ other ∷ made) is = absurd is

-- ---- one after another

pub tables_kept_then : (a b c : Database) → KeepsTables a b → KeepsTables b c → KeepsTables a c
tables_kept_then a b c h k = record {
  more = h.more ++ k.more;
  tables = k.tables ∙ ap (λ l. l ++ k.more) h.tables ∙ append_assoc a.schema.tables h.more k.more;
  rows = rows_trans a.schema.tables a.trees b.trees c.trees h.rows (front (λ (t : Table). c.trees t.tree ≡ b.trees t.tree) a.schema.tables h.more (subst (λ l. KeepsRows l b.trees c.trees) h.tables k.rows)).0;
}
