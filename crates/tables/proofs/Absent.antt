-- A workspace that has no row has no row of keeping.
use Rattle.tables.proofs.Outside.{◌≡◌, ℕ, true, false, List, is_some, None, sym, ap, subst, ◌∙◌, AllByRecursion, list_any, false_from_ne_true, all_weaker, none_from_any, any_is_found, Kept, WsRow, Tables, is_ws, is_retention, HasNoRetention, workspace_of, retention_of}
use Rattle.statements.proofs.Fresh.{none_found}
use Rattle.tables.specs.Sound.{IsSound}
use Rattle.tables.proofs.Names.{pair_first, pair_second}
use Rattle.tables.proofs.Parts.{none_mapped}

module _ (org ws : List ℕ) (t : Tables) (none : workspace_of org ws t ≡ None) where
  none_there : list_any (is_ws org ws) t.wss ≡ false
  none_there = any_is_found (is_ws org ws) t.wss ∙ ap is_some (none_mapped (λ (x : Kept WsRow). x.1.it) _ none)

  pub no_row : AllByRecursion (λ x. is_ws org ws x ≡ false) t.wss
  no_row = none_from_any (is_ws org ws) t.wss none_there

  pub no_retention : IsSound t → HasNoRetention org ws t
  no_retention sound = all_weaker (λ x. list_any (is_ws x.1.org x.1.name) t.wss ≡ true) (λ x. is_retention org ws x ≡ false)
      (λ x owned. false_from_ne_true (is_retention org ws x) (λ mine.
      let here : list_any (is_ws org ws) t.wss ≡ true =
      subst (λ (a : List ℕ). list_any (is_ws a ws) t.wss ≡ true) (pair_first org ws x.1.org x.1.name mine) (subst (λ (b : List ℕ). list_any (is_ws x.1.org b) t.wss ≡ true) (pair_second org ws x.1.org x.1.name mine) owned) in
      let no_one : ⊥ = cc (sym here ∙ none_there) in no_one)) t.retentions sound.retentions_owned

  pub none_kept : IsSound t → retention_of org ws t ≡ None
  none_kept sound = none_found (is_retention org ws) (λ x. x.1.it) t.retentions (no_retention sound)
