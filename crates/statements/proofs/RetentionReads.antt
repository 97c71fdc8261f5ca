-- What the query on the table keeping reads of its rows.
use Rattle.statements.proofs.Outside.{ℕ, List, [], ◌∷◌, Option, refl, Text, Row, State}
use Rattle.statements.specs.Schema.{retention_table}
use Rattle.statements.specs.Rows.{retention_cells}
use Rattle.statements.specs.Tables.{Tables, Holds, retention_layout}
use Rattle.statements.specs.Changes.{is_retention}
use Rattle.statements.specs.Finds.{retention_of}
use Rattle.statements.specs.Calls.{FirstRow, Pins, IsNumber}
use Rattle.statements.specs.declared.retentions.TheConstants.{FIND_RETENTION}
use Rattle.statements.proofs.Held.{IsHeld, retentions_held}
use Rattle.statements.proofs.PointReads.{first_own}
use Rattle.statements.proofs.ReadBack.{number_read}
use Rattle.statements.proofs.Conditions.{two_texts}
use Rattle.statements.proofs.RetentionTexts.{find_retention_asks, find_retention_rest, find_retention_names}

module _ (old new : State) (t : Tables) (h : Holds old.now t) where
  abbrev held : IsHeld retention_layout old.now t.retentions
  held = retentions_held old.now t h

  pub find_retention_shows : (org ws : List ℕ) (row : Option Row) → FirstRow FIND_RETENTION.now (Text org ∷ Text ws ∷ []) old new row → Pins IsNumber row (retention_of org ws t)
  find_retention_shows org ws row first =
      first_own retention_cells retention_table old new held.own t.retentions held.rows held.keyed FIND_RETENTION.now (Text org ∷ Text ws ∷ []) row first find_retention_rest find_retention_names
      (is_retention org ws) (λ x. two_texts x.1.org org x.1.name ws) IsNumber (λ x. x.1.it) (λ x y reported. number_read x.1.it y reported) (find_retention_asks.meaning old.now.schema _ _ held.own.place) (λ l. refl)
