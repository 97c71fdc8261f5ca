-- What the texts for all rows of a table mean, in each schema that has it.
use Rattle.statements.proofs.Outside.{◌≡◌, ℕ, false, List, [], ◌∷◌, codes, None, Ok, refl, Term, col, Schema, Table, Core, named, program, everything, Draft}
use Rattle.statements.specs.declared.scans.TheConstants.{ALL_ORGS, ALL_TOKENS, ALL_WSS, ALL_VERSIONS, ALL_RUNS, ALL_BOUNDS, ALL_RETENTIONS, ALL_METAS, ALL_EDITIONS}
use Rattle.statements.specs.Place.{StandsAt}
use Rattle.statements.specs.Schema.{org_table, token_table, ws_table, version_table, run_table, bound_table, retention_table, meta_table, edition_table}
use Rattle.statements.proofs.SyntaxTrees as st
use Rattle.statements.proofs.Selects.{IsSelect, Asks, asks}
use Rattle.statements.proofs.Writes.{plain_program}
use Rattle.statements.proofs.Columns.{names_of, shown_of, orders_of}
use Rattle.statements.proofs.Wholes.{whole, whole_draft}

-- ---- of any table: its rowid, and these of its columns

abbrev scan_core : Table → List (List ℕ) → Core
scan_core table columns = st.from_all (st.shown_columns (codes "rowid" ∷ columns)) table.name

abbrev scan_shown : Table → List (List ℕ) → List Term
scan_shown table columns = col 1 0 ∷ shown_of table columns

abbrev scan_draft : Table → List (List ℕ) → ℕ → Draft
scan_draft table columns = whole_draft (scan_shown table columns)

-- The text asks for them. The rowid has the name of its column, where it has one.
abbrev pub AsksAll : Table → List ℕ → List ℕ → List (List ℕ) → Type 0
AsksAll table text rowid columns = Asks table text (whole (scan_shown table columns)) (rowid ∷ columns)

pub asks_all : (table : Table) (text rowid : List ℕ) (columns : List (List ℕ)) → IsSelect text (scan_core table columns) (st.by_rowid false) None
    → ((s : Schema) (at tree : ℕ) → StandsAt s table.name table at tree
    → named s (scan_core table columns) (st.by_rowid false) ((scan_draft table columns tree).limit, (scan_draft table columns tree).offset) ≡ Ok (scan_draft table columns tree, rowid ∷ columns, None ∷ orders_of columns))
    → ((s : Schema) (at tree : ℕ) → StandsAt s table.name table at tree → program s [] (scan_draft table columns tree) ≡ Ok (plain_program (whole (scan_shown table columns) tree))) → AsksAll table text rowid columns
unfolding everything
asks_all table text rowid columns reads is_named fits = asks (scan_core table columns) (st.by_rowid false) None (scan_draft table columns) (None ∷ orders_of columns) reads refl (λ s tree. refl) (λ s again. refl) is_named fits

pub all_orgs_asks : AsksAll org_table ALL_ORGS.now (codes "rowid") (names_of org_table.columns)
unfolding everything
all_orgs_asks = asks_all org_table ALL_ORGS.now (codes "rowid") (names_of org_table.columns) refl (λ s at tree h. rw (h.named, h.found, h.found, h.small, h.found, h.small) refl) (λ s at tree h. rw (h.low, h.treed) refl)

pub all_tokens_asks : AsksAll token_table ALL_TOKENS.now (codes "rowid") (names_of token_table.columns)
unfolding everything
all_tokens_asks = asks_all token_table ALL_TOKENS.now (codes "rowid") (names_of token_table.columns) refl (λ s at tree h. rw (h.named, h.found, h.found, h.small, h.found, h.small) refl) (λ s at tree h. rw (h.low, h.treed) refl)

pub all_wss_asks : AsksAll ws_table ALL_WSS.now (codes "rowid") (names_of ws_table.columns)
unfolding everything
all_wss_asks = asks_all ws_table ALL_WSS.now (codes "rowid") (names_of ws_table.columns) refl (λ s at tree h. rw (h.named, h.found, h.found, h.small, h.found, h.small) refl) (λ s at tree h. rw (h.low, h.treed) refl)

pub all_versions_asks : AsksAll version_table ALL_VERSIONS.now (codes "rowid") (names_of version_table.columns)
unfolding everything
all_versions_asks = asks_all version_table ALL_VERSIONS.now (codes "rowid") (names_of version_table.columns) refl (λ s at tree h. rw (h.named, h.found, h.found, h.small, h.found, h.small) refl) (λ s at tree h. rw (h.low, h.treed) refl)

pub all_runs_asks : AsksAll run_table ALL_RUNS.now (codes "rowid") (names_of run_table.columns)
unfolding everything
all_runs_asks = asks_all run_table ALL_RUNS.now (codes "rowid") (names_of run_table.columns) refl (λ s at tree h. rw (h.named, h.found, h.found, h.small, h.found, h.small) refl) (λ s at tree h. rw (h.low, h.treed) refl)

pub all_bounds_asks : AsksAll bound_table ALL_BOUNDS.now (codes "rowid") (names_of bound_table.columns)
unfolding everything
all_bounds_asks = asks_all bound_table ALL_BOUNDS.now (codes "rowid") (names_of bound_table.columns) refl (λ s at tree h. rw (h.named, h.found, h.found, h.small, h.found, h.small) refl) (λ s at tree h. rw (h.low, h.treed) refl)

pub all_retentions_asks : AsksAll retention_table ALL_RETENTIONS.now (codes "rowid") (names_of retention_table.columns)
unfolding everything
all_retentions_asks = asks_all retention_table ALL_RETENTIONS.now (codes "rowid") (names_of retention_table.columns) refl (λ s at tree h. rw (h.named, h.found, h.found, h.small, h.found, h.small) refl) (λ s at tree h. rw (h.low, h.treed) refl)

pub all_metas_asks : AsksAll meta_table ALL_METAS.now (codes "one") (codes "version" ∷ [])
unfolding everything
all_metas_asks = asks_all meta_table ALL_METAS.now (codes "one") (codes "version" ∷ []) refl (λ s at tree h. rw (h.named, h.found, h.found, h.small, h.found, h.small) refl) (λ s at tree h. rw (h.low, h.treed) refl)

pub all_editions_asks : AsksAll edition_table ALL_EDITIONS.now (codes "one") (codes "version" ∷ [])
unfolding everything
all_editions_asks = asks_all edition_table ALL_EDITIONS.now (codes "one") (codes "version" ∷ []) refl (λ s at tree h. rw (h.named, h.found, h.found, h.small, h.found, h.small) refl) (λ s at tree h. rw (h.low, h.treed) refl)
