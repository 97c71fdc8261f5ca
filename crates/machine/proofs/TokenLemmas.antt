-- Tokens by their digests, as they are found and as they are shown.
use Rattle.machine.proofs.Outside.{◌≡◌, ℕ, Bool, true, false, cond, List, [], ◌∷◌, Option, Some, None, option_map, refl, bytes_eq, entries}
use Rattle.machine.specs.Tokens.{token_with, caller_of, token_row, row_with, asker_of}
use Rattle.machine.specs.declared.records.Token.{Token}
use Rattle.machine.specs.declared.records.Organization.{Organization}

row_calls : (digest : List ℕ) (es : List (List ℕ × Token)) → option_map (λ row. row.caller) (row_with digest es) ≡ option_map (λ token. token.caller) (token_with digest es)
row_calls digest [] = refl
row_calls digest (e ∷ es) = go (bytes_eq e.1.digest digest) (row_calls digest es)
  where
    go : (b : Bool) → option_map (λ row. row.caller) (row_with digest es) ≡ option_map (λ token. token.caller) (token_with digest es)
        → option_map (λ row. row.caller) (cond b (Some (token_row e.0 e.1)) (row_with digest es)) ≡ option_map (λ token. token.caller) (cond b (Some e.1) (token_with digest es))
    go true more = refl
    go false more = more

-- who asks by a digest is who asks by the token with it
pub asker_calls : (r : Option Organization) (digest : List ℕ) → option_map (λ row. row.caller) (asker_of r digest) ≡ option_map (λ token. token.caller) (caller_of r digest)
asker_calls None digest = refl
asker_calls (Some o) digest = row_calls digest (entries o.tokens)
