-- What the texts of the list of workspaces mean, in each schema that has the tables ws, keeping and version.
use Rattle.statements.proofs.Outside.{ℕ, codes, Some, refl, Schema, Select, Parameter, everything}
use Rattle.statements.specs.Place.{StandsAt}
use Rattle.statements.specs.Schema.{ws_table, retention_table, version_table}
use Rattle.statements.specs.Calls.{IsQuery}
use Rattle.statements.specs.declared.workspaces.TheConstants.{LIST_WS, LIST_WS_WITHIN}
use Rattle.statements.proofs.SyntaxTrees as st
use Rattle.statements.proofs.WsListParts.{with_both, list_ws_rest, list_ws_within_rest, list_ws_names, list_ws_orders, list_ws_named, list_ws_within_named}
use Rattle.statements.proofs.Meaning.{Means}
use Rattle.statements.proofs.Selects.{IsSelect, asks_query, select_means}
use Rattle.statements.proofs.Writes.{plain_program}
use Rattle.statements.proofs.Listed.{joined_listing}
use Rattle.statements.proofs.Commands.{page_to, joined_draft}

list_ws_reads : IsSelect LIST_WS.now st.list_ws_core (st.by_column (codes "name")) (Some (Parameter 3))
unfolding everything
list_ws_reads = refl

pub list_ws_is_query : IsQuery LIST_WS.now
list_ws_is_query = asks_query LIST_WS.now st.list_ws_core (st.by_column (codes "name")) (Some (Parameter 3)) list_ws_reads

list_ws_within_reads : IsSelect LIST_WS_WITHIN.now st.list_ws_within_core (st.by_column (codes "name")) (Some (Parameter 5))
unfolding everything
list_ws_within_reads = refl

pub list_ws_within_is_query : IsQuery LIST_WS_WITHIN.now
list_ws_within_is_query = asks_query LIST_WS_WITHIN.now st.list_ws_within_core (st.by_column (codes "name")) (Some (Parameter 5)) list_ws_within_reads

module _ (s : Schema) (at tree : ℕ) (h : StandsAt s (codes "ws") ws_table at tree) (retention_at retentions : ℕ) (k : StandsAt s (codes "keeping") retention_table retention_at retentions)
    (version_at versions : ℕ) (v : StandsAt s (codes "version") version_table version_at versions) where
  pub list_ws_means : Means s (Select (plain_program (joined_listing list_ws_rest tree (with_both retentions versions) 2)) list_ws_names) LIST_WS.now
  unfolding everything
  list_ws_means =
      select_means LIST_WS.now st.list_ws_core (st.by_column (codes "name")) (Some (Parameter 3)) list_ws_reads s (page_to 2) (joined_draft list_ws_rest tree (with_both retentions versions) 2) (joined_listing list_ws_rest tree (with_both retentions versions) 2) list_ws_names list_ws_orders refl refl (λ again. refl)
      (list_ws_named s at tree h retention_at retentions k version_at versions v) (rw (h.low, k.low, v.low, h.treed, k.treed, v.treed) refl)

  pub list_ws_within_means : Means s (Select (plain_program (joined_listing list_ws_within_rest tree (with_both retentions versions) 2)) list_ws_names) LIST_WS_WITHIN.now
  unfolding everything
  list_ws_within_means =
      select_means LIST_WS_WITHIN.now st.list_ws_within_core (st.by_column (codes "name")) (Some (Parameter 5)) list_ws_within_reads s (page_to 4) (joined_draft list_ws_within_rest tree (with_both retentions versions) 2) (joined_listing list_ws_within_rest tree (with_both retentions versions) 2) list_ws_names list_ws_orders refl refl (λ again. refl)
      (list_ws_within_named s at tree h retention_at retentions k version_at versions v) (rw (h.low, k.low, v.low, h.treed, k.treed, v.treed) refl)
