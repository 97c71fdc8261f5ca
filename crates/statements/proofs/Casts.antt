-- The cells of each table are what its columns make of them.
use Rattle.statements.proofs.Outside.{◌≡◌, ℕ, pos, List, ◌∷◌, Option, Some, None, refl, ap₂, Text, Value, Row, cast, cast_all, or_null, Holder, RunAction}
use Rattle.sqlite_schema.specs.declared.schema.Kind.TheVariants as kind
use Rattle.basis.specs.declared.rows.Holder.TheVariants.{Nobody, Lock, Run as HeldByRun}
use Rattle.statements.specs.Schema.{meta_table, org_table, token_table, ws_table, version_table, run_table, page_table, vpage_table, bound_table, edition_table, retention_table}
use Rattle.statements.specs.Rows.{OrgRow, TokenRow, WsRow, VersionRow, RunRow, PageRow, VpageRow, BoundRow, RetentionRow, kind_cell, lock_id_cell, run_cell, meta_cells, org_cells, token_cells, ws_cells, version_cells, run_cells, page_cells, vpage_cells, bound_cells, edition_cells, retention_cells, number, action_code}
use Rattle.statements.proofs.Own.{cast_int, cast_null}
use Rattle.statements.proofs.RunSettings.{run_settings_cast}

cast_kind : (h : Holder) → cast kind.Integer (kind_cell h) ≡ kind_cell h
cast_kind Nobody = cast_int (pos 0)
cast_kind (Lock id text) = cast_int (pos 1)
cast_kind (HeldByRun n) = cast_int (pos 2)

cast_lock_id : (h : Holder) → cast kind.Text (lock_id_cell h) ≡ lock_id_cell h
cast_lock_id Nobody = refl
cast_lock_id (Lock id text) = refl
cast_lock_id (HeldByRun n) = refl

cast_run : (h : Holder) → cast kind.Integer (run_cell h) ≡ run_cell h
cast_run Nobody = cast_null
cast_run (Lock id text) = cast_null
cast_run (HeldByRun n) = cast_int (pos n)

cast_text : (o : Option (List ℕ)) → cast kind.Text (or_null Text o) ≡ or_null Text o
cast_text None = refl
cast_text (Some t) = refl

cast_action : (o : Option RunAction) → cast kind.Integer (or_null (λ a. number (action_code a)) o) ≡ or_null (λ a. number (action_code a)) o
cast_action None = cast_null
cast_action (Some a) = cast_int (pos (action_code a))

then_cell : {a b : Value} {xs ys : Row} → a ≡ b → xs ≡ ys → a ∷ xs ≡ b ∷ ys
then_cell = ap₂ ◌∷◌

pub meta_casts : (version : ℕ) → cast_all meta_table.columns (meta_cells version) ≡ meta_cells version
meta_casts version = then_cell cast_null (then_cell (cast_int _) refl)

pub org_casts : (r : OrgRow) → cast_all org_table.columns (org_cells r) ≡ org_cells r
org_casts r = then_cell refl (then_cell (cast_int _) refl)

pub token_casts : (r : TokenRow) → cast_all token_table.columns (token_cells r) ≡ token_cells r
token_casts r = then_cell refl (then_cell refl (then_cell refl (then_cell (cast_int _) refl)))

pub ws_casts : (r : WsRow) → cast_all ws_table.columns (ws_cells r) ≡ ws_cells r
ws_casts r =
    then_cell refl (then_cell refl (run_settings_cast r.it.runs _ (then_cell (cast_kind r.it.holder) (then_cell (cast_lock_id r.it.holder) (then_cell refl (then_cell (cast_run r.it.holder)
    (then_cell (cast_text r.it.released) (then_cell (cast_int _) (then_cell (cast_int _) refl)))))))))

pub version_casts : (r : VersionRow) → cast_all version_table.columns (version_cells r) ≡ version_cells r
version_casts r =
    then_cell refl (then_cell refl (then_cell (cast_int _) (then_cell (cast_int _) (then_cell refl (then_cell (cast_int _) (then_cell (cast_int _) refl))))))

pub run_casts : (r : RunRow) → cast_all run_table.columns (run_cells r) ≡ run_cells r
run_casts r =
    then_cell refl (then_cell refl (then_cell (cast_int _) (then_cell (cast_int _) (then_cell (cast_text r.it.key) (then_cell refl (then_cell (cast_int _) (then_cell (cast_int _)
    (then_cell (cast_action r.it.action) refl))))))))

pub page_casts : (r : PageRow) → cast_all page_table.columns (page_cells r) ≡ page_cells r
page_casts r = then_cell refl (then_cell (cast_int _) (then_cell refl (then_cell (cast_int _) refl)))

pub vpage_casts : (r : VpageRow) → cast_all vpage_table.columns (vpage_cells r) ≡ vpage_cells r
vpage_casts r = then_cell refl (then_cell refl (then_cell (cast_int _) (then_cell (cast_int _) (then_cell refl (then_cell (cast_int _) refl)))))

cast_until : (o : Option ℕ) → cast kind.Integer (or_null number o) ≡ or_null number o
cast_until None = cast_null
cast_until (Some n) = cast_int (pos n)

pub bound_casts : (r : BoundRow) → cast_all bound_table.columns (bound_cells r) ≡ bound_cells r
bound_casts r = then_cell refl (then_cell refl (then_cell (cast_until r.it.until) (then_cell refl refl)))

pub edition_casts : (version : ℕ) → cast_all edition_table.columns (edition_cells version) ≡ edition_cells version
edition_casts version = then_cell cast_null (then_cell (cast_int (pos version)) refl)

pub retention_casts : (r : RetentionRow) → cast_all retention_table.columns (retention_cells r) ≡ retention_cells r
retention_casts r = then_cell refl (then_cell refl (then_cell (cast_int _) refl))
