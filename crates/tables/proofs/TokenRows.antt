-- One token comes or goes, with how far it reaches, and all others stay.
use Rattle.tables.proofs.Outside.{◌≡◌, ◌≢◌, ℕ, false, List, find, Option, Some, None, option_map, sym, refl, ap, subst, ◌∙◌, unwrap_or, get, same_map, Bounds, names_total, names_same, Kept, TokenRow, Tables, is_token, bound_of, found_passes}
use Rattle.tables.specs.Records.{no_bounds, bounds_at, token_of_cells, token_at, tokens_at}
use Rattle.tables.proofs.Names.{is_pair, pair_first, pair_second}
use Rattle.tables.proofs.Sets.{got_token, other_org}

-- the rows of each other token, and of how far it reaches, are found as before
pub record ChangesToken (org name : List ℕ) (t u : Tables) : Type 0 where
  pub rows : (a q : List ℕ) → is_pair org name a q ≡ false → find (is_token a q) u.tokens ≡ find (is_token a q) t.tokens
  pub bounds : (a q : List ℕ) → is_pair org name a q ≡ false → bound_of a q u ≡ bound_of a q t

module _ (org name : List ℕ) (t u : Tables) (c : ChangesToken org name t u) where
  same_reach : (a q : List ℕ) → is_pair org name a q ≡ false → bounds_at u a q ≡ bounds_at t a q
  same_reach a q other = ap (λ (b : Option Bounds). unwrap_or b no_bounds) (c.bounds a q other)

  same_token : (a q : List ℕ) → is_pair org name a q ≡ false → (o : Option (Kept TokenRow)) → find (is_token a q) t.tokens ≡ o
      → option_map (λ (x : Kept TokenRow). token_at u x.1) o ≡ option_map (λ (x : Kept TokenRow). token_at t x.1) o
  same_token a q other None e = refl
  same_token a q other (Some x) e =
      let p = found_passes (is_token a q) t.tokens x e in
      let apart : is_pair org name x.1.org x.1.name ≡ false =
      subst (λ (m : List ℕ). is_pair org name m x.1.name ≡ false) (sym (pair_first a q x.1.org x.1.name p)) (subst (λ (m : List ℕ). is_pair org name a m ≡ false) (sym (pair_second a q x.1.org x.1.name p)) other) in
      ap (λ (b : Bounds). Some (token_of_cells b x.1.it)) (same_reach x.1.org x.1.name apart)

  pub other_token : (a q : List ℕ) → is_pair org name a q ≡ false → get (tokens_at u a) q ≡ get (tokens_at t a) q
  other_token a q other =
      got_token u a q ∙ ap (option_map (λ (x : Kept TokenRow). token_at u x.1)) (c.rows a q other)
      ∙ same_token a q other (find (is_token a q) t.tokens) refl ∙ sym (got_token t a q)

  pub other_tokens : (a : List ℕ) → a ≢ org → tokens_at u a ≡ tokens_at t a
  other_tokens a apart = same_map names_total names_same _ _ (λ q. other_token a q (other_org org name a q apart))
