-- Words of another number than a form has.
use Rattle.std.proofs.Common.{◌≡◌, ℕ, ◌<◌, ◌≤◌, List, [], ◌∷◌, length, Bor, Result, IfOk, refl, arith}
use Rattle.std.specs.List.{slice_index_or}
use Rattle.basis.specs.declared.memory.Down.{Down}
use Rattle.serve.specs.Words.{bytes_of}
use Rattle.program.specs.LineFaults.{org_add_fault, org_limit_fault, org_remove_fault, bounds_fault, token_add_fault, token_list_fault, token_revoke_fault, org_or}
use Rattle.program.specs.declared.line_faults.LineFault.{LineFault}
use Rattle.program.specs.declared.line_faults.LineFault.TheVariants.{OrgAdd, OrgLimit, OrgRemove, TokenAdd, TokenList, TokenRevoke, Limit, NewLimit, Name}

pub other_org_add : (words : List (Bor (List ℕ))) → ¬ (length words ≡ 1) → ¬ (length words ≡ 2) → OrgAdd ≡ org_add_fault (bytes_of words)
other_org_add [] one two = refl
other_org_add (a ∷ []) one two = absurd (one refl)
other_org_add (a ∷ b ∷ []) one two = absurd (two refl)
other_org_add (a ∷ b ∷ c ∷ words) one two = refl

pub other_org_limit : (words : List (Bor (List ℕ))) → ¬ (length words ≡ 2) → OrgLimit ≡ org_limit_fault (bytes_of words)
other_org_limit [] two = refl
other_org_limit (a ∷ []) two = refl
other_org_limit (a ∷ b ∷ []) two = absurd (two refl)
other_org_limit (a ∷ b ∷ c ∷ words) two = refl

pub other_org_remove : (words : List (Bor (List ℕ))) → ¬ (length words ≡ 1) → ¬ (length words ≡ 2) → OrgRemove ≡ org_remove_fault (bytes_of words)
other_org_remove [] one two = refl
other_org_remove (a ∷ []) one two = absurd (one refl)
other_org_remove (a ∷ b ∷ []) one two = absurd (two refl)
other_org_remove (a ∷ b ∷ c ∷ words) one two = refl

pub other_bounds : (words : List (Bor (List ℕ))) → ¬ (length words ≡ 1) → ¬ (length words ≡ 2) → TokenAdd ≡ bounds_fault (bytes_of words)
other_bounds [] one two = refl
other_bounds (a ∷ []) one two = absurd (one refl)
other_bounds (a ∷ b ∷ []) one two = absurd (two refl)
other_bounds (a ∷ b ∷ c ∷ words) one two = refl

pub other_token_add : (words : List (Bor (List ℕ))) → length words < 4 → TokenAdd ≡ token_add_fault (bytes_of words)
other_token_add [] short = refl
other_token_add (a ∷ []) short = refl
other_token_add (a ∷ b ∷ []) short = refl
other_token_add (a ∷ b ∷ c ∷ []) short = refl
other_token_add (a ∷ b ∷ c ∷ d ∷ words) short = absurd (omega arith)

pub other_token_list : (words : List (Bor (List ℕ))) → ¬ (length words ≡ 1) → TokenList ≡ token_list_fault (bytes_of words)
other_token_list [] one = refl
other_token_list (a ∷ []) one = absurd (one refl)
other_token_list (a ∷ b ∷ words) one = refl

pub other_token_revoke : (words : List (Bor (List ℕ))) → ¬ (length words ≡ 2) → TokenRevoke ≡ token_revoke_fault (bytes_of words)
other_token_revoke [] two = refl
other_token_revoke (a ∷ []) two = refl
other_token_revoke (a ∷ b ∷ []) two = absurd (two refl)
other_token_revoke (a ∷ b ∷ c ∷ words) two = refl

-- two words
pub two_org_add : (words : List (Bor (List ℕ))) (first : Bor (List ℕ)) (r : Result LineFault Down) → 2 ≤ length words → length words < 3 → IfOk r (λ found. found ≡ org_or (slice_index_or words 0 first).now Limit) → IfOk r (λ found. found ≡ org_add_fault (bytes_of words))
two_org_add [] first r least most h = absurd (omega (arith, least))
two_org_add (a ∷ []) first r least most h = absurd (omega (arith, least))
two_org_add (a ∷ b ∷ []) first r least most h = h
two_org_add (a ∷ b ∷ c ∷ words) first r least most h = absurd (omega (arith, most))

pub two_org_limit : (words : List (Bor (List ℕ))) (first : Bor (List ℕ)) (r : Result LineFault Down) → 2 ≤ length words → length words < 3 → IfOk r (λ found. found ≡ org_or (slice_index_or words 0 first).now NewLimit) → IfOk r (λ found. found ≡ org_limit_fault (bytes_of words))
two_org_limit [] first r least most h = absurd (omega (arith, least))
two_org_limit (a ∷ []) first r least most h = absurd (omega (arith, least))
two_org_limit (a ∷ b ∷ []) first r least most h = h
two_org_limit (a ∷ b ∷ c ∷ words) first r least most h = absurd (omega (arith, most))

pub two_org_remove : (words : List (Bor (List ℕ))) (first : Bor (List ℕ)) (r : Result LineFault Down) → 2 ≤ length words → length words < 3 → IfOk r (λ found. found ≡ org_or (slice_index_or words 0 first).now OrgRemove) → IfOk r (λ found. found ≡ org_remove_fault (bytes_of words))
two_org_remove [] first r least most h = absurd (omega (arith, least))
two_org_remove (a ∷ []) first r least most h = absurd (omega (arith, least))
two_org_remove (a ∷ b ∷ []) first r least most h = h
two_org_remove (a ∷ b ∷ c ∷ words) first r least most h = absurd (omega (arith, most))

pub two_token_revoke : (words : List (Bor (List ℕ))) (first : Bor (List ℕ)) (r : Result LineFault Down) → 2 ≤ length words → length words < 3 → IfOk r (λ found. found ≡ org_or (slice_index_or words 0 first).now Name) → IfOk r (λ found. found ≡ token_revoke_fault (bytes_of words))
two_token_revoke [] first r least most h = absurd (omega (arith, least))
two_token_revoke (a ∷ []) first r least most h = absurd (omega (arith, least))
two_token_revoke (a ∷ b ∷ []) first r least most h = h
two_token_revoke (a ∷ b ∷ c ∷ words) first r least most h = absurd (omega (arith, most))
