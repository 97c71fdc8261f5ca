-- From the rows that were read to the store that has them.
use Rattle.checks.proofs.Outside.{◌≡◌, ◌==◌, true, ◌<◌, ◌≤◌, ◌+◌, ℕ, List, [], ◌∷◌, ◌++◌, map, take, get_or, length, arith, refl, sym, ap, ◌∙◌, subst, eqb-true, length-take-le, length-map, Tables, Holds, IsOurs, tables_of, AreRowsOf, ArePagesKeyed, IsSound, Rows}
use Rattle.sqlite.specs.Effect.{Database}
use Rattle.sqlite.specs.State.{State}
use Rattle.tables.specs.Remembered.{IsRemembered}
use Rattle.tables.specs.declared.memo.Memo.{Memo}
use Rattle.tables.specs.Defined.{ReportsTables as NamesTables}
use Rattle.tables.specs.Opening.{IsFresh, IsSoundKeep}
use Rattle.statements.proofs.Joined.{map_none}
use Rattle.checks.specs.declared.found.Fault.{Fault}
use Rattle.checks.specs.declared.found.Found.{Found}
use Rattle.checks.specs.declared.stores.Findings.{Findings}
use Rattle.checks.specs.Judging.{noted, OfSome, Decides, AreReported}
use Rattle.checks.specs.Faults.{table_fault, IsFaultOf}
use Rattle.checks.specs.Lines.{fault_line, ReportsEach, ReportsFaults}
use Rattle.checks.specs.Missing.{HasEveryRun}
use Rattle.checks.specs.Standing.{HaveRows, ReportsStore}
use Rattle.checks.specs.Totals.{AreTotalsOf}
use Rattle.checks.specs.Inner.Stores.{ReportsTables, ChecksRows}
use Rattle.checks.proofs.JudgingLemmas.{noted_some, adds_none, adds_one, adds_both, adds_as, all_reported, reported_adds}
use Rattle.checks.proofs.RowLists.{next_row, some_split, some_back}
use Rattle.checks.proofs.SoundRows.{rows_are}

-- where something was taken of a list, it isn't empty
some_taken : {X : Type 0} (xs : List X) (i : ℕ) → i < length xs → ¬ (take (i + 1) xs ≡ [])
some_taken xs i low none =
    let size = length-take-le (i + 1) xs (omega (arith, low)) in
    let no_size : length (take (i + 1) xs) ≡ 0 = ap length none in
    absurd (omega (arith, size, no_size))

pub none_long : {X : Type 0} (xs : List X) → (length xs == 0) ≡ true → xs ≡ []
none_long [] is = refl
none_long (x ∷ xs) is =
    let size : length (x ∷ xs) ≡ 0 = eqb-true (length (x ∷ xs)) 0 is in
    absurd (omega (arith, size))

pub noted_more : {X : Type 0} (names : List X) (i : ℕ) (fault : Fault) (old new : Found) → i < length names → new.faults ≡ noted fault old.faults → Decides (take (i + 1) names ≡ []) new
noted_more names i fault old new low is = record { holds = λ clean. absurd (noted_some fault old.faults (sym is ∙ clean)); clean = λ none. absurd (some_taken names i low none) }

abbrev pub ReportsNames : List (List ℕ) → List Fault → Type 0
ReportsNames names = AreReported (OfSome (λ name f. f ≡ table_fault name) names)

-- a fault was noted for one name more
pub reported_more_names : (names : List (List ℕ)) (i : ℕ) (name : List ℕ) (old new : List Fault) → i < length names → name ≡ get_or names i name → new ≡ noted (table_fault name) old → ReportsNames (take i names) old → ReportsNames (take (i + 1) names) new
reported_more_names names i name old new low is noted_it reported =
    subst (λ l. ReportsNames l new) (sym (next_row names i name low is))
    (subst (ReportsNames (take i names ++ name ∷ [])) (sym noted_it)
    (all_reported [] (noted (table_fault name) old) refl
    (adds_as [] (noted (table_fault name) old) (some_back (λ n f. f ≡ table_fault n) (take i names) name) (some_split (λ n f. f ≡ table_fault n) (take i names) name)
    (adds_both [] old (noted (table_fault name) old) (reported_adds old reported) (adds_one (table_fault name) old)))))

-- no fault was noted of no names
pub none_reported : (faults : List Fault) → faults ≡ [] → ReportsNames [] faults
none_reported faults none = all_reported faults faults none (adds_none faults (λ f says. says))

none_listed : {A B : Type 0} (f : A → B) (xs : List A) → xs ≡ [] → map f xs ≡ []
none_listed f [] none = refl
none_listed f (x ∷ xs) none = absurd (cc)

-- a line for each table that isn't ours
pub tables_reported : (old new : State) (names lines : List (List ℕ)) (faults : List Fault) → NamesTables old new names → (faults ≡ [] → names ≡ []) → (names ≡ [] → faults ≡ []) → ReportsNames names faults
    → lines ≡ map fault_line faults → ReportsTables old.committed new.committed lines
tables_reported old new names lines faults named holds clean reported are = record {
  none = (λ none. named.none.0 (holds (map_none fault_line faults (sym are ∙ none))), λ ours. are ∙ none_listed fault_line faults (clean (named.none.1 ours)));
  others = record { names = names; others = named.named; every = named.every; each = record { faults = faults; reported = reported; lines_are = are } };
  same = named.same;
}

-- the lines of the faults of rows
pub rows_reported : (rows : Rows) (found : Found) (lines : List (List ℕ)) → lines ≡ map fault_line found.faults
    → ((key_of : List ℕ → List ℕ) (t : Tables) → AreRowsOf key_of t rows → Decides (IsSound t × ArePagesKeyed key_of t × HasEveryRun t) found) → AreReported (IsFaultOf rows) found.faults → ReportsFaults rows lines
rows_reported rows found lines are decides reported = record {
  each = record { faults = found.faults; reported = reported; lines_are = are };
  holds = λ none key_of t rows_of. (decides key_of t rows_of).holds (map_none fault_line found.faults (sym are ∙ none));
  clean = λ key_of t rows_of sound keyed every. are ∙ none_listed fault_line found.faults ((decides key_of t rows_of).clean (sound, keyed, every));
}

each_few : {S : Fault → Type 0} (lines : List (List ℕ)) → ReportsEach S lines → length lines ≤ 50
each_few lines each =
    let size : length lines ≡ length each.faults = ap length each.lines_are ∙ length-map each.faults fault_line in
    let few = each.reported.few in
    omega (arith, size, few)

module _ (key_of : List ℕ → List ℕ) (old mid : Database) (others : List (List ℕ)) (reports : ReportsTables old mid others) where
  -- a table isn't ours
  pub others_reported : ¬ (others ≡ []) → ReportsStore key_of old others
  others_reported some = record {
    few = each_few others reports.others.each;
    rows = λ own. absurd (some (reports.none.1 own));
    others = λ _. reports.others;
    ours = λ none. absurd (some none);
    holds = λ none. absurd (some none);
    clean = λ own. absurd (some (reports.none.1 own));
  }

  pub none_held : ¬ (others ≡ []) → (t : Tables) → Holds old t → ⊥
  none_held some t held = some (reports.none.1 held.ours)

  module _ (none : others ≡ []) (findings : Findings) (checked : ChecksRows key_of mid findings) where
    rows_read : (t : Tables) → HaveRows old t → AreRowsOf key_of t checked.rows
    rows_read t held = checked.read t (subst (λ (db : Database). Holds db t) (sym reports.same) (record { ours = reports.none.0 none; rows = held }))

    -- what is told of the rows is told of the tables that have them
    pub store_reported : ReportsStore key_of old findings.faults
    store_reported = record {
      few = each_few findings.faults checked.faults.each;
      rows = λ own t held. subst (λ (r : Rows). ReportsEach (IsFaultOf r) findings.faults) (rows_are key_of t checked.rows (rows_read t held)) checked.faults.each;
      others = λ foreign. absurd (foreign (reports.none.0 none));
      ours = λ _. reports.none.0 none;
      holds = λ clean t held. checked.faults.holds clean key_of t (rows_read t held);
      clean = λ own t held. checked.faults.clean key_of t (rows_read t held);
    }

    pub totals_reported : (t : Tables) → Holds old t → AreTotalsOf t findings.totals
    totals_reported t held = checked.totals t (rows_read t held.rows)

    -- a store as it was opened is sound where no fault is told, and each page is under the key of its bytes
    pub store_sound : (s : State) (seen : Database) (memo : Memo) → s.committed ≡ old
        → findings.faults ≡ [] → IsFresh seen memo s → HaveRows seen (tables_of seen) → IsSoundKeep seen memo s × ArePagesKeyed key_of (tables_of seen)
    store_sound s seen memo is clean fresh held =
        let there : HaveRows old (tables_of seen) = subst (λ (db : Database). HaveRows db (tables_of seen)) (sym fresh.committed ∙ is) held in
        let are = checked.faults.holds clean key_of (tables_of seen) (rows_read (tables_of seen) there) in (
          record {
            store = record {
              holds = record { ours = subst (λ (db : Database). IsOurs db.schema) (sym is ∙ fresh.committed) (reports.none.0 none); rows = held };
              sound = are.0;
            };
            remembered = subst (IsRemembered (tables_of seen)) (sym fresh.forgotten) (record { counts = tt; sizes = tt; askers = tt });
            tied = λ is_open. fresh.committed;
          },
          are.1,
        )
