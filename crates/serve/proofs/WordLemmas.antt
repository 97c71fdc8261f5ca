-- Words of another number than a form has.
use Rattle.std.proofs.Common.{◌≡◌, ℕ, ◌<◌, List, [], ◌∷◌, length, Bor, None, refl, arith}
use Rattle.serve.specs.Bounds.{bounds_of}
use Rattle.serve.specs.Words.{bytes_of, org_add_of, org_limit_of, org_remove_of, token_add_of, token_list_of, token_revoke_of}

pub no_org_add : (words : List (Bor (List ℕ))) → ¬ (length words ≡ 1) → ¬ (length words ≡ 2) → org_add_of (bytes_of words) ≡ None
no_org_add [] one two = refl
no_org_add (a ∷ []) one two = absurd (one refl)
no_org_add (a ∷ b ∷ []) one two = absurd (two refl)
no_org_add (a ∷ b ∷ c ∷ words) one two = refl

pub no_org_limit : (words : List (Bor (List ℕ))) → ¬ (length words ≡ 2) → org_limit_of (bytes_of words) ≡ None
no_org_limit [] two = refl
no_org_limit (a ∷ []) two = refl
no_org_limit (a ∷ b ∷ []) two = absurd (two refl)
no_org_limit (a ∷ b ∷ c ∷ words) two = refl

pub no_token_revoke : (words : List (Bor (List ℕ))) → ¬ (length words ≡ 2) → token_revoke_of (bytes_of words) ≡ None
no_token_revoke [] two = refl
no_token_revoke (a ∷ []) two = refl
no_token_revoke (a ∷ b ∷ []) two = absurd (two refl)
no_token_revoke (a ∷ b ∷ c ∷ words) two = refl

pub no_token_add : (words : List (Bor (List ℕ))) → length words < 4 → token_add_of (bytes_of words) ≡ None
no_token_add [] short = refl
no_token_add (a ∷ []) short = refl
no_token_add (a ∷ b ∷ []) short = refl
no_token_add (a ∷ b ∷ c ∷ []) short = refl
no_token_add (a ∷ b ∷ c ∷ d ∷ words) short = absurd (omega arith)

pub no_bounds_of : (words : List (Bor (List ℕ))) → ¬ (length words ≡ 0) → ¬ (length words ≡ 1) → ¬ (length words ≡ 2) → bounds_of (bytes_of words) ≡ None
no_bounds_of [] none one two = absurd (none refl)
no_bounds_of (a ∷ []) none one two = absurd (one refl)
no_bounds_of (a ∷ b ∷ []) none one two = absurd (two refl)
no_bounds_of (a ∷ b ∷ c ∷ words) none one two = refl

pub no_org_remove : (words : List (Bor (List ℕ))) → ¬ (length words ≡ 1) → ¬ (length words ≡ 2) → org_remove_of (bytes_of words) ≡ None
no_org_remove [] one two = refl
no_org_remove (a ∷ []) one two = absurd (one refl)
no_org_remove (a ∷ b ∷ []) one two = absurd (two refl)
no_org_remove (a ∷ b ∷ c ∷ words) one two = refl

pub no_token_list : (words : List (Bor (List ℕ))) → ¬ (length words ≡ 1) → token_list_of (bytes_of words) ≡ None
no_token_list [] one = refl
no_token_list (a ∷ []) one = absurd (one refl)
no_token_list (a ∷ b ∷ words) one = refl
