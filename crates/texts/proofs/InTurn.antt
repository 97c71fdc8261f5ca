-- Rows that show a place and the bytes of its page, taken one at a time and in turn.
use Rattle.texts.proofs.Outside.{◌≡◌, ◌⊎◌, inl, inr, ℕ, ◌+◌, List, [], ◌∷◌, ◌++◌, false, Some, None, Result, Ok, Err, refl, sym, ◌∙◌, subst, arith, AllByRecursion, Blob, Row, column, all_weaker, all-append, Ghosts, Error, Held, state, HasCleanDisk, IsUnchanged, KeepsCommit, Fails, Survives, Shown, CommitsShowing, FailsToQuery, number, IsQuery, FirstRows, failed_calm, number_read, LeavesAsIs, clean_before, as_it_is, one_query, unchanged_then}
use Rattle.std.specs.Result.{IsErr}
use Rattle.sqlite.specs.Given.{Advances, HasBegun}
use Rattle.statements.proofs.Taking.{Takes, takes_none, takes_all, takes_more, calm_failed}
use Rattle.sqlite.proofs.InsideLemmas.{unchanged_keeps}
use Rattle.texts.proofs.Many.{nothing_more}
use Rattle.texts.specs.Inner.Calls.{ShowsPlace, AreInTurn, JoinsRows}
use Rattle.texts.proofs.NextPiece.{none_there, there_more, joined_more}

pub none_in_turn : AreInTurn [] 0 []
none_in_turn = record { below = tt; text_is = λ org ws n t shows. (refl, none_there org ws n t) }

module _ (rows : List Row) (places : ℕ) (text : List ℕ) (so_far : AreInTurn rows places text) (row : Row) (bytes : List ℕ) (place_is : column row 0 ≡ number places) (bytes_are : column row 1 ≡ Blob bytes) where
  -- no row so far shows the next place
  none_next : AllByRecursion (λ r. ¬ (column r 0 ≡ number places)) rows
  none_next = all_weaker _ _ (λ r at is. let same : at.0 ≡ places = sym (number_read at.0 places (sym at.2 ∙ is)) in absurd (omega (arith, same, at.1))) rows so_far.below

  next_shown : ShowsPlace (rows ++ row ∷ []) places bytes
  next_shown = record {
    some = λ none. absurd (let last = all-last (λ r. ¬ (column r 0 ≡ number places)) rows none in last place_is);
    each = all-append _ rows (row ∷ []) (all_weaker _ _ (λ r not_it is. absurd (not_it is)) rows none_next) (λ _. bytes_are, tt);
  }
    where
      all-last : (P : Row → Type 0) (rs : List Row) → AllByRecursion P (rs ++ row ∷ []) → P row
      all-last P [] all = all.0
      all-last P (r ∷ rs) all = all-last P rs all.1

  -- what was shown so far is shown still
  still_shown : (place : ℕ) (b : List ℕ) → ShowsPlace rows place b → ShowsPlace (rows ++ row ∷ []) place b
  still_shown place b shows = record {
    some = λ none. shows.some (all-first (λ r. ¬ (column r 0 ≡ number place)) rows none);
    each = all-append _ rows (row ∷ []) shows.each (λ is. absurd (shows.some (subst (λ p. AllByRecursion (λ r. ¬ (column r 0 ≡ number p)) rows) (number_read place places (sym is ∙ place_is)) none_next)), tt);
  }
    where
      all-first : (P : Row → Type 0) (rs : List Row) → AllByRecursion P (rs ++ row ∷ []) → AllByRecursion P rs
      all-first P [] all = tt
      all-first P (r ∷ rs) all = (all.0, all-first P rs all.1)

  pub one_more_in_turn : (read longer : List ℕ) → longer ≡ text ++ read → read ≡ bytes → AreInTurn (rows ++ row ∷ []) (places + 1) longer
  one_more_in_turn read longer grown is = record {
    below = all-append _ rows (row ∷ []) (all_weaker _ _ (λ r at. (at.0, omega (arith, at.1), at.2)) rows so_far.below) ((places, omega arith, place_is), tt);
    text_is = λ org ws n t shows.
        let before = so_far.text_is org ws n t (λ place b one. shows place b (still_shown place b one)) in
        let next = shows places bytes next_shown in
        (joined_more org ws n t places text bytes read longer grown is before.0 next, there_more org ws n t places bytes before.1 next);
  }

-- ---- rows of a query that are taken so

-- so many rows were taken, in turn, and their bytes are the text
pub record TakesInTurn {S : Type 0} (g : Ghosts S) (sql : List ℕ) (params : Row) (old now : Held S) (places : ℕ) (text : List ℕ) : Type 0 where
  pub rows : List Row
  pub taken : Takes g sql params old now rows places
  pub in_turn : AreInTurn rows places text

module _ {S : Type 0} (g : Ghosts S) (sql : List ℕ) (params : Row) (old : Held S) where
  pub begin_in_turn : (now : Held S) → (old.in_transaction ≡ false → now.in_transaction ≡ false) → Survives (state g old) (state g now) (CommitsShowing sql params (state g old))
      → (HasCleanDisk (state g now) → HasBegun g sql params old now) → TakesInTurn g sql params old now 0 []
  begin_in_turn now mode survives begun = record { rows = []; taken = takes_none g sql params old now mode survives begun; in_turn = none_in_turn }

  -- an error, whichever it is, on the same connection
  errs_at : (all : ℕ) (result : Result (List ℕ) Error) (now end : Held S) → IsErr result → end ≡ now → ((e : Error) → JoinsRows g sql params all old now (Err e)) → JoinsRows g sql params all old end result
  errs_at all (Ok text) now end err is errs = absurd (cc)
  errs_at all (Err e) now end err is errs = subst (λ (h : Held S). JoinsRows g sql params all old h (Err e)) (sym is) (errs e)

  -- nothing was run
  pub joins_none : (all : ℕ) (result : Result (List ℕ) Error) → IsErr result → JoinsRows g sql params all old old result
  joins_none all result err = errs_at all result old old err refl (λ e. record {
    mode = λ idle. idle;
    joins = λ query clean. tt;
    unchanged = λ query clean. (tt, nothing_more (state g old) (state g old) (as_it_is (state g old)));
    was_open = λ query clean. tt;
    so_far = λ query clean. clean;
    shield = λ query s. s;
  })

  -- the query was refused
  pub joins_refused : (now : Held S) (all : ℕ) (f : Error) (result : Result (List ℕ) Error) → IsErr result → (old.in_transaction ≡ false → now.in_transaction ≡ false) → Survives (state g old) (state g now) (CommitsShowing sql params (state g old))
      → (HasCleanDisk (state g now) → FailsToQuery sql params (state g old) (state g now) f) → JoinsRows g sql params all old now result
  joins_refused now all f result err mode survives refused = errs_at all result now now err refl (λ e. record {
    mode = mode;
    joins = λ query clean. tt;
    unchanged = λ query clean. (tt, unchanged_keeps (state g old) (state g now) (failed_calm sql query params (state g old) (state g now) f (refused clean)));
    was_open = λ query clean. tt;
    so_far = λ query. clean_before (state g old) (state g now) _ survives;
    shield = λ query. survives.shield;
  })

  module _ (now : Held S) (places : ℕ) (text : List ℕ) (so : TakesInTurn g sql params old now places text)
      (next : Held S) (mode : now.in_transaction ≡ false → next.in_transaction ≡ false) (survives : Survives (state g now) (state g next) (λ _. ⊥)) where
    mode_on : old.in_transaction ≡ false → next.in_transaction ≡ false
    mode_on is = mode (so.taken.mode is)

    clean_on : IsQuery sql → HasCleanDisk (state g next) → HasCleanDisk (state g now)
    clean_on is = clean_before (state g now) (state g next) _ survives

    so_far_on : IsQuery sql → HasCleanDisk (state g next) → HasCleanDisk (state g old)
    so_far_on is clean = clean_before (state g old) (state g now) _ (so.taken.survives is) (clean_on is clean)

    unchanged_on : (HasCleanDisk (state g next) → IsUnchanged (state g now) (state g next)) → IsQuery sql → HasCleanDisk (state g next) → LeavesAsIs (state g old) (state g next)
    unchanged_on same is clean = unchanged_then (state g old) (state g now) (state g next) (one_query (state g old) (state g now) (so.taken.given is (clean_on is clean)).1) (one_query (state g now) (state g next) (same clean))

    kept_failed : (e : Error) → (HasCleanDisk (state g next) → Fails (state g now) (state g next) ⊥ e ⊎ IsUnchanged (state g now) (state g next)) → IsQuery sql → HasCleanDisk (state g next) → KeepsCommit (state g old) (state g next)
    kept_failed e kept is clean = unchanged_keeps (state g old) (state g next) (calm_failed g sql params old now so.rows places so.taken next mode survives e kept is clean)

    shield_on : IsQuery sql → (state g old).IsShielded → (state g next).IsShielded
    shield_on is s = survives.shield ((so.taken.survives is).shield s)

    -- where something fails behind a row, or no row comes, nothing is committed
    pub joins_stopped : (all : ℕ) (result : Result (List ℕ) Error) (end : Held S) → IsErr result → end ≡ next → (HasCleanDisk (state g next) → IsUnchanged (state g now) (state g next)) → JoinsRows g sql params all old end result
    joins_stopped all result end err is same = errs_at all result next end err is (λ e. record {
      mode = mode_on;
      joins = λ query clean. tt;
      unchanged = λ query clean. (tt, nothing_more (state g old) (state g next) (unchanged_on same query clean));
      was_open = λ query clean. tt;
      so_far = so_far_on;
      shield = shield_on;
    })

    pub joins_failed : (all : ℕ) (f : Error) (result : Result (List ℕ) Error) (end : Held S) → IsErr result → end ≡ next → (HasCleanDisk (state g next) → Fails (state g now) (state g next) ⊥ f ⊎ IsUnchanged (state g now) (state g next)) → JoinsRows g sql params all old end result
    joins_failed all f result end err is kept = errs_at all result next end err is (λ e. record { mode = mode_on; joins = λ query clean. tt; unchanged = λ query clean. (tt, kept_failed f kept query clean); was_open = λ query clean. tt; so_far = so_far_on; shield = shield_on })

    pub more_in_turn : (row : Row) → (HasCleanDisk (state g next) → Advances g now next (Some row)) → (HasCleanDisk (state g next) → IsUnchanged (state g now) (state g next))
        → (bytes longer : List ℕ) → column row 0 ≡ number places → column row 1 ≡ Blob bytes → longer ≡ text ++ bytes → TakesInTurn g sql params old next (places + 1) longer
    more_in_turn row advances same bytes longer place_is bytes_are grown = record {
      rows = so.rows ++ row ∷ [];
      taken = takes_more g sql params old now so.rows places so.taken next mode survives row advances same;
      in_turn = one_more_in_turn so.rows places text so.in_turn row bytes place_is bytes_are bytes longer grown refl;
    }

    -- those that were taken are all
    shown_on : (HasCleanDisk (state g next) → Advances g now next None) → IsQuery sql → HasCleanDisk (state g next) → Shown sql params (state g old) (state g next) so.rows
    shown_on advances is clean = whole (takes_all g sql params old now so.rows places so.taken next mode survives (places + 1) (omega arith) advances is clean)
      where
        whole : FirstRows (places + 1) sql params (state g old) (state g next) so.rows → Shown sql params (state g old) (state g next) so.rows
        whole (inl begins) = absurd (let count = so.taken.count in let long = begins.1 in let none : ⊥ = omega (arith, count, long) in none)
        whole (inr shown) = shown.0

    pub joins_all : (all : ℕ) (whole : List ℕ) (end : Held S) → end ≡ next → places ≡ all → whole ≡ text → (HasCleanDisk (state g next) → Advances g now next None) → (HasCleanDisk (state g next) → IsUnchanged (state g now) (state g next))
        → JoinsRows {E = Error} g sql params all old end (Ok whole)
    joins_all all whole end is last is_text advances same = subst (λ (h : Held S). JoinsRows {E = Error} g sql params all old h (Ok whole)) (sym is) (record {
      mode = mode_on;
      joins = λ query clean. (so.rows, shown_on advances query clean, subst (λ (m : ℕ). AreInTurn so.rows m whole) last (subst (λ (b : List ℕ). AreInTurn so.rows places b) (sym is_text) so.in_turn));
      unchanged = λ query clean. (unchanged_on same query clean, tt);
      was_open = λ query clean. (so.taken.given query (clean_on query clean)).1.0.was_open;
      so_far = so_far_on;
      shield = shield_on;
    })
