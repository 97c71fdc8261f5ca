-- What the query on the table bound reads of its rows.
use Rattle.statements.proofs.Outside.{ℕ, List, [], ◌∷◌, Option, refl, Text, Row, State}
use Rattle.statements.specs.Schema.{bound_table}
use Rattle.statements.specs.Rows.{bound_cells}
use Rattle.statements.specs.Tables.{Tables, Holds, bound_layout}
use Rattle.statements.specs.Changes.{is_bound}
use Rattle.statements.specs.Finds.{bound_in, bound_of}
use Rattle.statements.specs.Calls.{FirstRow, Pins, IsBound}
use Rattle.statements.specs.declared.bounds.TheConstants.{FIND_BOUND}
use Rattle.statements.proofs.Held.{IsHeld, bounds_held}
use Rattle.statements.proofs.PointReads.{first_own}
use Rattle.statements.proofs.ReadBack.{bound_read}
use Rattle.statements.proofs.Conditions.{two_texts}
use Rattle.statements.proofs.BoundTexts.{find_bound_asks, find_bound_rest, find_bound_names}

module _ (old new : State) (t : Tables) (h : Holds old.now t) where
  abbrev held : IsHeld bound_layout old.now t.bounds
  held = bounds_held old.now t h

  pub find_bound_shows : (org name : List ℕ) (row : Option Row) → FirstRow FIND_BOUND.now (Text org ∷ Text name ∷ []) old new row → Pins IsBound row (bound_of org name t)
  find_bound_shows org name row first =
      first_own bound_cells bound_table old new held.own t.bounds held.rows held.keyed FIND_BOUND.now (Text org ∷ Text name ∷ []) row first find_bound_rest find_bound_names
      (is_bound org name) (λ x. two_texts x.1.org org x.1.name name) IsBound bound_in (λ x y reported. bound_read x.1.it.until x.1.it.prefix y reported) (find_bound_asks.meaning old.now.schema _ _ held.own.place) (λ l. refl)
