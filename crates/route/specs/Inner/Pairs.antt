-- One pair of a query after another: what is found so far, and what a further pair does to it.
use Rattle.std.specs.Prelude.{◌≡◌, ℕ, Bool, ◌&&◌, List, [], ◌∷◌, ◌++◌, Option, Some, None}
use Rattle.route.specs.declared.asks.UrlQuery.{UrlQuery}
use Rattle.route.specs.Queries.{token_key, id_key, after_key, value_if, values_in, values, is_single}

-- the values that are found so far
abbrev pub held : Option (List ℕ) → List (List ℕ)
held None = []
held (Some text) = text ∷ []

-- with one more pair no key has two values
abbrev pub has_room : List ℕ → List ℕ → UrlQuery → Bool
has_room name value found =
    is_single (held found.token ++ value_if token_key name value) && is_single (held found.id ++ value_if id_key name value)
    && is_single (held found.after ++ value_if after_key name value)

-- one more pair is found
pub record AddsPair (name value : List ℕ) (old new : UrlQuery) : Type 0 where
  pub token : held new.token ≡ held old.token ++ value_if token_key name value
  pub id : held new.id ≡ held old.id ++ value_if id_key name value
  pub after : held new.after ≡ held old.after ++ value_if after_key name value

-- what is found and what the pairs that are left hold is what the query holds
pub record IsSoFar (query : List ℕ) (found : UrlQuery) (left : List (List ℕ × List ℕ)) : Type 0 where
  pub token : values token_key query ≡ held found.token ++ values_in token_key left
  pub id : values id_key query ≡ held found.id ++ values_in id_key left
  pub after : values after_key query ≡ held found.after ++ values_in after_key left
