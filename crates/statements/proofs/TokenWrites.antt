-- What the writes to the table token do to its rows.
use Rattle.statements.proofs.Outside.{ℕ, List, [], ◌∷◌, Ok, refl, Text, Blob, State, Executes, Role}
use Rattle.statements.specs.Rows.{number, role_code}
use Rattle.statements.specs.Tables.{Tables, Holds}
use Rattle.statements.specs.Changes.{is_token, token_row_added, token_row_removed, HasNoBound}
use Rattle.statements.specs.declared.tokens.TheConstants.{ADD_TOKEN, REMOVE_TOKEN}
use Rattle.statements.proofs.Held.{tokens}
use Rattle.statements.proofs.Childless.{token_goes}
use Rattle.statements.proofs.Casts.{token_casts}
use Rattle.statements.proofs.Frames.{Turns, deleted, inserted}
use Rattle.statements.proofs.Conditions.{two_texts}
use Rattle.statements.proofs.TokenTexts.{add_token_means, remove_token_means}

module _ (old new : State) (count : ℕ) (t : Tables) (h : Holds old.now t) where
  pub add_token_does : (org name digest : List ℕ) (role : Role) → Executes ADD_TOKEN.now (Text org ∷ Text name ∷ Blob digest ∷ number (role_code role) ∷ []) old new (Ok count) → Turns old.now new.now (token_row_added org name digest role t)
  add_token_does org name digest role ran = inserted tokens token_casts old new count t h _ _ ran (add_token_means old.now.schema) refl refl (record { org = org; name = name; it = record { digest = digest; role = role } }) refl

  pub remove_token_does : (org name : List ℕ) → HasNoBound org name t → Executes REMOVE_TOKEN.now (Text org ∷ Text name ∷ []) old new (Ok count) → Turns old.now new.now (token_row_removed org name t)
  remove_token_does org name none ran = deleted tokens token_casts old new count t h _ _ ran (remove_token_means old.now.schema) (is_token org name) (λ x. two_texts x.1.org org x.1.name name) ((λ _. token_goes org name old new t h count none ran), tt)
