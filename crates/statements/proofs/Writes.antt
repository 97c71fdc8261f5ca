-- What a text that was run has done, in terms of the rows that its query answers.
use Rattle.statements.proofs.Outside.{◌≡◌, ◌⊎◌, inl, inr, ℕ, ℤ, Bool, true, false, cond, MatchBool, List, [], length, slice_get, unwrap_or, Some, None, Ok, Err, Result, refl, sym, ap, subst, ◌∙◌, Null, Row, Query, IsAnswer, overlay, Program, Table, Enforced, Insert, Update, Delete, Source, Above, Chosen, Given, edit_of, taken_by, ids_of, Writes, Database, IsSource, Task, Written, stamped, Tally, Concludes, State, mode_of, Executes, runs_as, length-map}
use Rattle.sqlite_rules.proofs.PlaceLemmas.{given as numbered_given}
use Rattle.statements.proofs.Meaning.{Means}

-- a part that gave a value did not stop on the way
pub went : {B E R : Type 0} {b : B} {Stops : E → Type 0} → ((stop : E) × Stops stop × (Ok b ≡ Err stop)) ⊎ R → R
went (inl stopped) = absurd (let e = stopped.2 in cc)
went (inr on) = on

pub same_value : {B E : Type 0} {a b : B} → ◌≡◌ {A = Result B E} (Ok a) (Ok b) → a ≡ b
same_value e = cc

uncounted_part : (b c : Bool) (P Q : Type 0) → b ≡ false → MatchBool (cond b c false) P Q → Q
uncounted_part true c P Q is h = absurd (let e = is in cc)
uncounted_part false c P Q is h = h

chosen_rowids : (b : Bool) (n : ℤ) → b ≡ false → cond b (Above n) Chosen ≡ Chosen
chosen_rowids true n is = absurd (let e = is in cc)
chosen_rowids false n is = refl

abbrev pub plain_program : Query → Program
plain_program q = record { lets = []; body = q }

module _ (old new : State) (text : List ℕ) (params : Row) (at : ℕ) (table : Table) (found : slice_get old.now.schema.tables at ≡ Some table) where
  abbrev task : Task
  task = record { limit = old.step_limit; keys = Enforced; schema = old.now.schema; table = table; params = params }

  ends : (w : Written) (tally : Tally) → Concludes task (mode_of old) None w (Ok (tally, new.now)) → new.now ≡ record { schema = old.now.schema; trees = w.trees }
  ends w tally h = ap (λ (p : Tally × Database). p.1) (same_value (went (went h).2).2)

  tallied : (w : Written) (tally : Tally) → Concludes task (mode_of old) None w (Ok (tally, new.now)) → tally.rows ≡ Some (length w.rows)
  tallied w tally h = ap (λ (p : Tally × Database). p.0.rows) (same_value (went (went h).2).2)

  pub updates : (q : Query) → Means old.now.schema (Update at (plain_program q)) text → (count : ℕ) → Executes text params old new (Ok count)
      → (rows : List Row) × IsAnswer q (overlay old.now.trees []) params rows
      × Writes old.now.schema Enforced old.now.trees (edit_of old.now.trees table (ids_of rows) Given 1 rows) (Ok new.now.trees) × (new.now.schema ≡ old.now.schema) × (count ≡ length rows)
  updates q m count ran =
      let w = runs_as text params old new old.now.schema refl (Update at (plain_program q)) m.0 m.1 count ran in
      let done = went (rw found at w.changed) in
      let shown = went done.1 in
      let edit = went shown.2 in
      let now = ends done.0 w.tally done.2 in
      let trees : done.0.trees ≡ edit.0 = ap (λ (it : Written). it.trees) (same_value edit.2) in
      let last : new.now.trees ≡ edit.0 = ap (λ (d : Database). d.trees) now ∙ trees in
      let counted : count ≡ length (edit_of old.now.trees table (ids_of shown.0) Given 1 shown.0).news = w.counted ∙ ap (λ o. unwrap_or o 0) (tallied done.0 w.tally done.2) ∙ ap (λ (it : Written). length it.rows) (same_value edit.2) in (
        shown.0,
        shown.1.answer Null,
        subst (λ t. Writes old.now.schema Enforced old.now.trees (edit_of old.now.trees table (ids_of shown.0) Given 1 shown.0) (Ok t)) (sym last) edit.1,
        ap (λ (d : Database). d.schema) now,
        counted ∙ ap length (numbered_given _ _) ∙ length-map shown.0 _,
      )

  pub deletes : (q : Query) → Means old.now.schema (Delete at (plain_program q)) text → (count : ℕ) → Executes text params old new (Ok count)
      → (rows : List Row) × IsAnswer q (overlay old.now.trees []) params rows
      × Writes old.now.schema Enforced old.now.trees (edit_of old.now.trees table (ids_of rows) Given 0 []) (Ok new.now.trees) × (new.now.schema ≡ old.now.schema) × (count ≡ length rows)
  deletes q m count ran =
      let w = runs_as text params old new old.now.schema refl (Delete at (plain_program q)) m.0 m.1 count ran in
      let done = went (rw found at w.changed) in
      let shown = went done.1 in
      let edit = went shown.2 in
      let now = ends done.0 w.tally done.2 in
      let trees : done.0.trees ≡ edit.0 = ap (λ (it : Written). it.trees) (same_value edit.2) in
      let last : new.now.trees ≡ edit.0 = ap (λ (d : Database). d.trees) now ∙ trees in
      let counted : count ≡ length (taken_by old.now.trees (edit_of old.now.trees table (ids_of shown.0) Given 0 [])) = w.counted ∙ ap (λ o. unwrap_or o 0) (tallied done.0 w.tally done.2) ∙ ap (λ (it : Written). length it.rows) (same_value edit.2) in (
        shown.0,
        shown.1.answer Null,
        subst (λ t. Writes old.now.schema Enforced old.now.trees (edit_of old.now.trees table (ids_of shown.0) Given 0 []) (Ok t)) (sym last) edit.1,
        ap (λ (d : Database). d.schema) now,
        counted ∙ length-map (ids_of shown.0) _ ∙ length-map shown.0 _,
      )

  -- of a table without AUTOINCREMENT, and with no default that reads the time
  pub inserts : (from : Source) → table.is_counted ≡ false → stamped table params ≡ params → Means old.now.schema (Insert at from) text → (count : ℕ) → Executes text params old new (Ok count)
      → (rows : List Row) × IsSource old.now params from rows
      × Writes old.now.schema Enforced old.now.trees (edit_of old.now.trees table [] Chosen 0 rows) (Ok new.now.trees) × (new.now.schema ≡ old.now.schema)
  inserts from uncounted unstamped m count ran =
      let w = runs_as text params old new old.now.schema refl (Insert at from) m.0 m.1 count ran in
      let done = went (rw found at w.changed) in
      let given = went done.1 in
      let counter = went given.2 in
      let edit = went counter.2 in
      let counted = went edit.2 in
      let now = ends done.0 w.tally done.2 in
      let after : counted.0 ≡ edit.0 = same_value (uncounted_part table.is_counted _ _ _ uncounted counted.1) in
      let trees : done.0.trees ≡ edit.0 = ap (λ (it : Written). it.trees) (same_value counted.2) ∙ after in
      let last : new.now.trees ≡ edit.0 = ap (λ (d : Database). d.trees) now ∙ trees in
      let wrote : Writes old.now.schema Enforced old.now.trees (edit_of old.now.trees table [] Chosen 0 given.0) (Ok edit.0) =
      subst (λ r. Writes old.now.schema Enforced old.now.trees (edit_of old.now.trees table [] r 0 given.0) (Ok edit.0)) (chosen_rowids table.is_counted _ uncounted) edit.1 in (
        given.0,
        subst (λ p. IsSource old.now p from given.0) unstamped given.1,
        subst (λ t. Writes old.now.schema Enforced old.now.trees (edit_of old.now.trees table [] Chosen 0 given.0) (Ok t)) (sym last) wrote,
        ap (λ (d : Database). d.schema) now,
      )
