-- What the queries on the table token read of its rows.
use Rattle.statements.proofs.Outside.{AllZip, ◌≡◌, ℕ, List, [], ◌∷◌, Option, codes, refl, Text, Blob, Row, end, State, Shown}
use Rattle.statements.specs.Schema.{token_table}
use Rattle.statements.specs.Rows.{token_cells}
use Rattle.statements.specs.Tables.{Tables, Holds, token_layout}
use Rattle.statements.specs.Changes.{is_token, is_digest_of}
use Rattle.statements.specs.Finds.{role_of_digest, role_of_name}
use Rattle.statements.specs.Listings.{is_token_of, digest_token_row, digest_tokens_of, TokensApart}
use Rattle.statements.specs.declared.rows.NamedToken.{NamedToken}
use Rattle.statements.specs.Calls.{FirstRow, Pins, IsRole, IsNamedToken}
use Rattle.statements.specs.declared.tokens.TheConstants.{TOKEN_ROLE, NAMED_TOKEN_ROLE, LIST_DIGEST_TOKENS}
use Rattle.statements.proofs.Held.{IsHeld, tokens_held}
use Rattle.statements.proofs.PointReads.{first_own}
use Rattle.statements.proofs.ReadBack.{role_read, named_token_read}
use Rattle.statements.proofs.NameLists.{by_text, tokens_apart, own_names}
use Rattle.statements.proofs.Conditions.{one_text, two_texts, text_blob}
use Rattle.statements.proofs.TokenTexts.{token_role_asks, token_role_rest, named_token_role_asks, named_token_role_rest, digest_token_names, list_digest_tokens_asks, list_digest_tokens_rest}

module _ (old new : State) (t : Tables) (h : Holds old.now t) where
  abbrev held : IsHeld token_layout old.now t.tokens
  held = tokens_held old.now t h

  pub token_role_shows : (org digest : List ℕ) (row : Option Row) → FirstRow TOKEN_ROLE.now (Text org ∷ Blob digest ∷ []) old new row → Pins IsRole row (role_of_digest org digest t)
  token_role_shows org digest row first =
      first_own token_cells token_table old new held.own t.tokens held.rows held.keyed TOKEN_ROLE.now (Text org ∷ Blob digest ∷ []) row first token_role_rest (codes "role" ∷ [])
      (is_digest_of org digest) (λ x. text_blob x.1.org org x.1.it.digest digest) IsRole (λ x. x.1.it.role) (λ x y reported. role_read x.1.it.role y reported) (token_role_asks.meaning old.now.schema _ _ held.own.place) (λ l. refl)

  pub named_token_role_shows : (org name : List ℕ) (row : Option Row) → FirstRow NAMED_TOKEN_ROLE.now (Text org ∷ Text name ∷ []) old new row → Pins IsRole row (role_of_name org name t)
  named_token_role_shows org name row first =
      first_own token_cells token_table old new held.own t.tokens held.rows held.keyed NAMED_TOKEN_ROLE.now (Text org ∷ Text name ∷ []) row first named_token_role_rest (codes "role" ∷ [])
      (is_token org name) (λ x. two_texts x.1.org org x.1.name name) IsRole (λ x. x.1.it.role) (λ x y reported. role_read x.1.it.role y reported) (named_token_role_asks.meaning old.now.schema _ _ held.own.place) (λ l. refl)

  pub list_digest_tokens_shows : (org : List ℕ) (rows : List Row) (tokens : List NamedToken) → TokensApart t → Shown LIST_DIGEST_TOKENS.now (Text org ∷ []) old new rows → AllZip IsNamedToken rows tokens → tokens ≡ digest_tokens_of org t
  list_digest_tokens_shows org rows tokens apart shown read =
      own_names token_cells token_table old new held.own t.tokens held.rows LIST_DIGEST_TOKENS.now (Text org ∷ []) list_digest_tokens_rest 2 digest_token_names end (λ _. []) (λ terms x. refl)
      IsNamedToken (λ x. x.1.name) (λ x. x.1.it) digest_token_row (λ x y reported. named_token_read x.1.name x.1.it y reported)
      (λ x y. by_text x.1.name y.1.name) (list_digest_tokens_asks.meaning old.now.schema _ _ held.own.place) (λ l. refl) (is_token_of org) (λ x. one_text x.1.org org) (tokens_apart org t.tokens apart) rows tokens shown read
