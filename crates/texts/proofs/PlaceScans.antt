-- What the text for all rows of vpage means.
use Rattle.texts.proofs.Outside.{codes, refl, everything, vpage_table}
use Rattle.statements.proofs.Columns.{names_of}
use Rattle.statements.proofs.ScanTexts.{AsksAll, asks_all}
use Rattle.texts.specs.declared.scans.TheConstants.{ALL_PLACES}

pub all_places_asks : AsksAll vpage_table ALL_PLACES.now (codes "rowid") (names_of vpage_table.columns)
unfolding everything
all_places_asks =
    asks_all vpage_table ALL_PLACES.now (codes "rowid") (names_of vpage_table.columns) refl (λ s at tree h. rw (h.named, h.found, h.found, h.small, h.found, h.small) refl) (λ s at tree h. rw (h.low, h.treed) refl)
