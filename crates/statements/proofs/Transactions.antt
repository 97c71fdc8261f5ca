-- From what a text does to what a function of it promises.
use Rattle.statements.proofs.Outside.{◌≡◌, ◌⊎◌, inl, ◌≤◌, ℕ, Bool, false, IsTrue, not, ◌==◌, List, [], ◌∷◌, Option, Some, None, Result, Ok, Err, IfOk, OnOk, OnErr, refl, ap, subst, ◌∙◌, arith, AllZip, Row, Trees, doubt, Ghosts, Held, state, State, HasCleanDisk, Executes, Shown, KeepsCommit, IsUnchanged, IsRolledBack, Survives, Transaction, Error, Database, keeps_then, survives_then}
use Rattle.statements.specs.Calls.{Wrote, WroteAny, FirstRow, IsCalm, AreAllRead, IsRead, IsOnly, AreRead, IsCount, IsNumber, Pins}
use Rattle.statements.specs.Rows.{number}
use Rattle.statements.specs.Making.{Alters, MakesBy}
use Rattle.statements.specs.Steps.{AnyRows, Equals, EqualsWhere, Moves, Writes, Queries}
use Rattle.statements.specs.Tables.{Tables, Holds, our_tables}
use Rattle.statements.proofs.Frames.{Turns, left_then}

-- a write of rows that obey a law
moves_where : {X E : Type 0} (law : Tables → Type 0) (change : Tables → Tables) (old new : State) (text : List ℕ) (params : Row) (result : Result X E) → Wrote text params old new result
    → ((count : ℕ) (t : Tables) → Holds old.now t → law t → Executes text params old new (Ok count) → Turns old.now new.now (change t)) → OnOk result (Moves law change old new) × OnErr result (KeepsCommit old new)
moves_where law change old new text params (Ok x) wrote does =
    let ran = wrote.0.1 in (
      record {
        rows = λ t h lawful. (does wrote.0.0 t h lawful ran.0).0;
        others = λ t h lawful. (does wrote.0.0 t h lawful ran.0).1;
        was_open = ran.1.was_open;
        is_open = ran.1.is_open;
        committed = ran.1.committed_is;
        inside = ran.1.mode;
      },
      tt,
    )
moves_where law change old new text params (Err e) wrote does = (tt, wrote.1)

-- a write that tells whether there were rows to write
pub any_wrote : {E : Type 0} (old new : State) (text : List ℕ) (params : Row) (result : Result Bool E) → WroteAny text params old new result → Wrote text params old new result
any_wrote old new text params (Ok any) wrote = ((wrote.0.0, wrote.0.1), tt)
any_wrote old new text params (Err e) wrote = (tt, wrote.1)

-- what a write that is done tells of the rows before it
pub reports_by : {X E : Type 0} (law : Tables → Type 0) (old new : State) (text : List ℕ) (params : Row) (result : Result X E) → Wrote text params old new result
    → ((count : ℕ) (t : Tables) → Holds old.now t → Executes text params old new (Ok count) → law t) → OnOk result ((t : Tables) → Holds old.now t → law t)
reports_by law old new text params (Ok x) wrote reports = λ t h. reports wrote.0.0 t h wrote.0.1.0
reports_by law old new text params (Err e) wrote reports = tt

pub finds_by : {E : Type 0} (has : Tables → Bool) (old new : State) (text : List ℕ) (params : Row) (result : Result Bool E) → WroteAny text params old new result
    → ((count : ℕ) (t : Tables) → Holds old.now t → Executes text params old new (Ok count) → not (count == 0) ≡ has t) → IfOk result (λ found. (t : Tables) → Holds old.now t → found ≡ has t)
finds_by has old new text params (Ok any) wrote reports = λ t h. wrote.0.2 ∙ reports wrote.0.0 t h wrote.0.1.0
finds_by has old new text params (Err e) wrote reports = tt

alters_by : {X E : Type 0} (Change : Database → Database → Type 0) (old new : State) (text : List ℕ) (params : Row) (result : Result X E) → Wrote text params old new result
    → ((count : ℕ) → Executes text params old new (Ok count) → Change old.now new.now) → OnOk result (Alters Change old new) × OnErr result (KeepsCommit old new)
alters_by Change old new text params (Ok x) wrote does =
    let ran = wrote.0.1 in
    (record { change = does wrote.0.0 ran.0; was_open = ran.1.was_open; is_open = ran.1.is_open; committed = ran.1.committed_is; inside = ran.1.mode }, tt)
alters_by Change old new text params (Err e) wrote does = (tt, wrote.1)

read_same : {X : Type 0} (Is : Row → X → Type 0) (r : Option Row) (o p : Option X) → IsRead {E = Error} {F = Error} Is (Ok r) (Ok o) → Pins Is r p → o ≡ p
read_same Is None None None is pin = refl
read_same Is None None (Some x) is pin = absurd pin
read_same Is None (Some y) p is pin = absurd is
read_same Is (Some row) None p is pin = absurd is
read_same Is (Some row) (Some y) None is pin = absurd pin
read_same Is (Some row) (Some y) (Some x) is pin = ap Some (pin y is)

-- a query of one row, whose row is read as a value
pub reads_by : {X E F : Type 0} (read : Tables → Option X) (Is : Row → X → Type 0) (old new : State) (text : List ℕ) (params : Row) (row : Result (Option Row) E) (result : Result (Option X) F)
    → IfOk row (FirstRow text params old new) → IsCalm old new row → IsRead Is row result
    → ((t : Tables) → Holds old.now t → (r : Option Row) → FirstRow text params old new r → Pins Is r (read t))
    → IfOk result (λ x. (t : Tables) → Holds old.now t → x ≡ read t) × (OnOk result (IsUnchanged old new) × OnErr result (IsUnchanged old new ⊎ IsRolledBack old new))
reads_by read Is old new text params (Ok r) (Err f) first calm is pins = (tt, (tt, inl calm.0))
reads_by read Is old new text params (Err e) (Err f) first calm is pins = (tt, (tt, calm.1))
reads_by read Is old new text params (Err e) (Ok o) first calm is pins = absurd is
reads_by read Is old new text params (Ok r) (Ok o) first calm is pins = (λ t h. read_same Is r o (read t) is (pins t h r first), (calm.0, tt))

-- of such a row, whatever is told of the value that it pins
pub one_read : {X E F : Type 0} (Is : Row → X → Type 0) (old new : State) (text : List ℕ) (params : Row) (row : Result (Option Row) E) (result : Result (Option X) F)
    → IfOk row (FirstRow text params old new) → IsRead Is row result → (P : Option X → Type 0)
    → ((o : Option X) → ((want : Option X) → ((r : Option Row) → FirstRow text params old new r → Pins Is r want) → o ≡ want) → P o) → IfOk result P
one_read Is old new text params row (Err f) first is P reports = tt
one_read Is old new text params (Err e) (Ok o) first is P reports = absurd is
one_read Is old new text params (Ok r) (Ok o) first is P reports = reports o (λ want pins. read_same Is r o want is (pins r first))

-- what a query leaves, however it ended
pub left_calm : {X E : Type 0} {A B : Type 0} (result : Result X E) → OnOk result A × OnErr result (A ⊎ B) → A ⊎ B
left_calm (Ok x) left = inl left.0
left_calm (Err e) left = left.1

-- a query whose only row is read as a value
reads_only : {X E F : Type 0} (says : Option X → Tables → Type 0) (Is : Row → X → Type 0) (old new : State) (Gives : List Row → Type 0) (rows : Result (List Row) E) (result : Result (Option X) F)
    → IfOk rows Gives → IsCalm old new rows → IsOnly Is rows result
    → ((t : Tables) → Holds old.now t → Gives [] → says None t) → ((t : Tables) → Holds old.now t → (row : Row) (x : X) → Gives (row ∷ []) → Is row x → says (Some x) t)
    → IfOk result (λ x. (t : Tables) → Holds old.now t → says x t) × (OnOk result (IsUnchanged old new) × OnErr result (IsUnchanged old new ⊎ IsRolledBack old new))
reads_only says Is old new Gives (Ok rs) (Err f) gives calm is none one = (tt, (tt, inl calm.0))
reads_only says Is old new Gives (Err e) (Err f) gives calm is none one = (tt, (tt, calm.1))
reads_only says Is old new Gives (Err e) (Ok o) gives calm is none one = absurd is
reads_only says Is old new Gives (Ok rs) (Ok None) gives calm is none one = (λ t h. none t h (subst Gives is gives), (calm.0, tt))
reads_only says Is old new Gives (Ok rs) (Ok (Some x)) gives calm is none one = (λ t h. one t h is.0 x (subst Gives is.1 gives) is.2, (calm.0, tt))

-- a query of many rows, each of which is read as a value
lists_by : {X E F : Type 0} (law : Tables → Type 0) (read : Tables → List X) (Is : Row → X → Type 0) (old new : State) (Gives : List Row → Type 0) (rows : Result (List Row) E) (result : Result (List X) F)
    → IfOk rows Gives → IsCalm old new rows → AreRead Is rows result
    → ((t : Tables) → Holds old.now t → law t → (rs : List Row) (xs : List X) → Gives rs → AllZip Is rs xs → xs ≡ read t)
    → IfOk result (λ x. (t : Tables) → Holds old.now t → law t → x ≡ read t) × (OnOk result (IsUnchanged old new) × OnErr result (IsUnchanged old new ⊎ IsRolledBack old new))
lists_by law read Is old new Gives (Ok rs) (Err f) gives calm are shows = (tt, (tt, inl calm.0))
lists_by law read Is old new Gives (Err e) (Err f) gives calm are shows = (tt, (tt, calm.1))
lists_by law read Is old new Gives (Err e) (Ok xs) gives calm are shows = absurd are
lists_by law read Is old new Gives (Ok rs) (Ok xs) gives calm are shows = (λ t h lawful. shows t h lawful rs xs gives are, (calm.0, tt))

-- all of whose rows are read as values
pub holds_by : {X E F : Type 0} (Is : Row → X → Type 0) (old new : State) (text : List ℕ) (rows : Result (List Row) E) (result : Result (List X) F) → IfOk rows (Shown text [] old new) → IsCalm old new rows → AreRead Is rows result
    → IfOk result (λ xs. (t : Tables) → Holds old.now t → AreAllRead Is text old new xs) × (OnOk result (IsUnchanged old new) × OnErr result (IsUnchanged old new ⊎ IsRolledBack old new))
holds_by Is old new text (Ok rs) (Err f) shown calm are = (tt, (tt, inl calm.0))
holds_by Is old new text (Err e) (Err f) shown calm are = (tt, (tt, calm.1))
holds_by Is old new text (Err e) (Ok xs) shown calm are = absurd are
holds_by Is old new text (Ok rs) (Ok xs) shown calm are = (λ t h. (rs, shown, are), (calm.0, tt))

counts_by : {E F : Type 0} (read : Tables → ℕ) (old new : State) (text : List ℕ) (params : Row) (row : Result (Option Row) E) (result : Result ℕ F)
    → IfOk row (FirstRow text params old new) → IsCalm old new row → IsCount row result
    → ((t : Tables) → Holds old.now t → (r : Option Row) → FirstRow text params old new r → r ≡ Some (number (read t) ∷ []))
    → IfOk result (λ x. (t : Tables) → Holds old.now t → x ≡ read t) × (OnOk result (IsUnchanged old new) × OnErr result (IsUnchanged old new ⊎ IsRolledBack old new))
counts_by read old new text params (Ok r) (Err f) first calm is shows = (tt, (tt, inl calm.0))
counts_by read old new text params (Err e) (Err f) first calm is shows = (tt, (tt, calm.1))
counts_by read old new text params (Err e) (Ok n) first calm is shows = absurd is
counts_by read old new text params (Ok r) (Ok n) first calm is shows = (λ t h. same r (read t) is (shows t h r first), (calm.0, tt))
  where
    same : (r : Option Row) (m : ℕ) → IsCount {E = Error} {F = Error} (Ok r) (Ok n) → r ≡ Some (number m ∷ []) → n ≡ m
    same None m is e = absurd (cc)
    same (Some row) m is e =
        let shown : row ≡ number m ∷ [] = cc in
        let reported : number m ≡ number n = subst (λ (l : Row). IsNumber l n) shown is in
        cc

-- ---- the whole of what a function promises

-- what is known of a text that was run in a transaction
abbrev Ran : {S X E : Type 0} → Ghosts S → Transaction S → Transaction S → List ℕ → Row → Result X E → Type 0
Ran g old new text params result =
    (new.conn.ghost_name ≡ old.conn.ghost_name) × (HasCleanDisk (state g new.conn.now) → IsTrue (state g old.conn.now).in_transaction → Wrote text params (state g old.conn.now) (state g new.conn.now) result)
    × Survives (state g old.conn.now) (state g new.conn.now) (λ _. ⊥)

module _ {S X E : Type 0} {g : Ghosts S} {old new : Transaction S} (text : List ℕ) (params : Row) {result : Result X E} where
  pub writes_where : {law : Tables → Type 0} {change : Tables → Tables} → Ran g old new text params result
      → ((count : ℕ) (t : Tables) → Holds (state g old.conn.now).now t → law t → Executes text params (state g old.conn.now) (state g new.conn.now) (Ok count) → Turns (state g old.conn.now).now (state g new.conn.now).now (change t))
      → Writes g law change old new result
  writes_where {law} {change} ran does = record { same_reference = ran.0; changed = λ clean inside. moves_where law change _ _ text params result (ran.1 clean inside) does; survives = ran.2 }

  pub writes_by : {change : Tables → Tables} → Ran g old new text params result
      → ((count : ℕ) (t : Tables) → Holds (state g old.conn.now).now t → Executes text params (state g old.conn.now) (state g new.conn.now) (Ok count) → Turns (state g old.conn.now).now (state g new.conn.now).now (change t))
      → Writes g AnyRows change old new result
  writes_by ran does = writes_where ran (λ count t h any. does count t h)

  pub makes_by : {Change : Database → Database → Type 0} → Ran g old new text params result
      → ((count : ℕ) → Executes text params (state g old.conn.now) (state g new.conn.now) (Ok count) → Change (state g old.conn.now).now (state g new.conn.now).now) → MakesBy g Change old new result
  makes_by {Change} ran does =
      record { same_reference = ran.0; made = λ clean inside. alters_by Change _ _ text params result (ran.1 clean inside) does; clean = ran.2.clean; shield = ran.2.shield }

-- what is known of a query, whose answer is so
abbrev Asked : {S Y E : Type 0} → Ghosts S → Held S → Held S → Result Y E → (Y → Type 0) → Type 0
Asked g old new rows gives =
    (old.in_transaction ≡ false → new.in_transaction ≡ false) × (HasCleanDisk (state g new) → IfOk rows gives) × (HasCleanDisk (state g new) → IsCalm (state g old) (state g new) rows) × Survives (state g old) (state g new) (λ _. ⊥)

module _ {S E F : Type 0} {g : Ghosts S} {old new : Held S} where
  pub queries_by : {X : Type 0} {read : Tables → Option X} {result : Result (Option X) F} (Is : Row → X → Type 0) (text : List ℕ) (params : Row) (row : Result (Option Row) E)
      → Asked g old new row (FirstRow text params (state g old) (state g new)) → IsRead Is row result
      → ((t : Tables) → Holds (state g old).now t → (r : Option Row) → FirstRow text params (state g old) (state g new) r → Pins Is r (read t)) → Queries g (Equals read) old new result
  queries_by {X} {read} {result} Is text params row asked is pins =
      record { mode = asked.0; read = λ clean. reads_by read Is _ _ text params row result (asked.1 clean) (asked.2 clean) is pins; survives = asked.3 }

  pub queries_only : {X : Type 0} {says : Option X → Tables → Type 0} {result : Result (Option X) F} (Is : Row → X → Type 0) (Gives : State → State → List Row → Type 0) (rows : Result (List Row) E)
      → Asked g old new rows (Gives (state g old) (state g new)) → IsOnly Is rows result → ((t : Tables) → Holds (state g old).now t → Gives (state g old) (state g new) [] → says None t)
      → ((t : Tables) → Holds (state g old).now t → (row : Row) (x : X) → Gives (state g old) (state g new) (row ∷ []) → Is row x → says (Some x) t) → Queries g says old new result
  queries_only {X} {says} {result} Is Gives rows asked is none one =
      record { mode = asked.0; read = λ clean. reads_only says Is _ _ (Gives (state g old) (state g new)) rows result (asked.1 clean) (asked.2 clean) is none one; survives = asked.3 }

  pub queries_all : {X : Type 0} {law : Tables → Type 0} {read : Tables → List X} {result : Result (List X) F} (Is : Row → X → Type 0) (Gives : State → State → List Row → Type 0) (rows : Result (List Row) E)
      → Asked g old new rows (Gives (state g old) (state g new)) → AreRead Is rows result
      → ((t : Tables) → Holds (state g old).now t → law t → (rs : List Row) (xs : List X) → Gives (state g old) (state g new) rs → AllZip Is rs xs → xs ≡ read t) → Queries g (EqualsWhere law read) old new result
  queries_all {X} {law} {read} {result} Is Gives rows asked are shows =
      record { mode = asked.0; read = λ clean. lists_by law read Is _ _ (Gives (state g old) (state g new)) rows result (asked.1 clean) (asked.2 clean) are shows; survives = asked.3 }

  pub queries_count : {read : Tables → ℕ} {result : Result ℕ F} (text : List ℕ) (params : Row) (row : Result (Option Row) E) → Asked g old new row (FirstRow text params (state g old) (state g new)) → IsCount row result
      → ((t : Tables) → Holds (state g old).now t → (r : Option Row) → FirstRow text params (state g old) (state g new) r → r ≡ Some (number (read t) ∷ [])) → Queries g (Equals read) old new result
  queries_count {read} {result} text params row asked is shows =
      record { mode = asked.0; read = λ clean. counts_by read _ _ text params row result (asked.1 clean) (asked.2 clean) is shows; survives = asked.3 }

-- ---- one after another

-- what was clean behind a call was clean before it
pub clean_before : (a b : State) (C : Trees → Type 0) → Survives a b C → HasCleanDisk b → HasCleanDisk a
clean_before a b C s clean = let low : doubt a.is_clean ≤ doubt b.is_clean = s.clean in omega (arith, low, clean)

-- a write behind one that sees to its law
pub moves_then : (law next : Tables → Type 0) (f g : Tables → Tables) (a b c : State) → ((t : Tables) → law t → next (f t)) → Moves law f a b → Moves next g b c → Moves law (λ t. g (f t)) a c
moves_then law next f g a b c keeps one two = record {
  rows = λ t h lawful. two.rows (f t) (one.rows t h lawful) (keeps t lawful);
  others = λ t h lawful. left_then our_tables a.now b.now c.now (one.others t h lawful) (two.others (f t) (one.rows t h lawful) (keeps t lawful));
  was_open = one.was_open;
  is_open = two.is_open;
  committed = two.committed ∙ one.committed;
  inside = two.inside;
}

-- one that may fail
pub moves_more : {X E : Type 0} (law next : Tables → Type 0) (f g : Tables → Tables) (a b c : State) (result : Result X E) → ((t : Tables) → law t → next (f t)) → Moves law f a b
    → OnOk result (Moves next g b c) × OnErr result (KeepsCommit b c) → OnOk result (Moves law (λ t. g (f t)) a c) × OnErr result (KeepsCommit a c)
moves_more law next f g a b c (Ok x) keeps one two = (moves_then law next f g a b c keeps one two.0, tt)
moves_more law next f g a b c (Err e) keeps one two = (tt, keeps_then a b c (record { was_open = λ _. one.was_open; committed = λ _. one.committed }) two.1)

-- the whole of it
pub writes_then : {S X Y E F : Type 0} (g : Ghosts S) (law next : Tables → Type 0) (f h : Tables → Tables) (a b c : Transaction S) (x : X) (result : Result Y F) → ((t : Tables) → law t → next (f t))
    → Writes {E = E} g law f a b (Ok x) → Writes g next h b c result → Writes g law (λ t. h (f t)) a c result
writes_then g law next f h a b c x result keeps one two =
    let s0 = state g a.conn.now in
    let s1 = state g b.conn.now in
    let s2 = state g c.conn.now in
    record {
      same_reference = two.same_reference ∙ one.same_reference;
      changed = λ clean inside.
          let first = (one.changed (clean_before s1 s2 _ two.survives clean) inside).0 in
          moves_more law next f h s0 s1 s2 result keeps first (two.changed clean first.inside);
      survives = survives_then s0 s1 s2 (λ _. ⊥) (λ _. ⊥) (λ _. ⊥) (λ _ db none. none) (λ _ db none. none) one.survives two.survives;
    }
