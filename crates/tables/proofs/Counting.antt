-- The count of workspaces stays within the greatest limit.
use Rattle.tables.proofs.Outside.{◌≡◌, ◌⊎◌, inl, inr, ℕ, ◌+◌, ◌-◌, ◌<◌, ◌≤◌, nat_lt, Bool, true, false, cond, List, is_some, Option, Some, None, refl, sym, ap, subst, ◌∙◌, arith, FinMap, get, len, len-insert, len-remove, len-entries, ltb-true, SettingsAsk, name_cmp, standing, seen_by, seen_in, count_of, with_workspace, placed, changed_by, IsDue, Act, PutWorkspace, Change, Workspace, Organization, standing_is, names_total, IsPut, Misses, put_or_missed}
use Rattle.machine.specs.Rules.{Ruling, rules, rules_missing}

-- a workspace is made where there is room
made_in_room : (act : Act) (room : Bool) (w : Workspace) → Some w ≡ (rules_missing act room).left → room ≡ true
made_in_room act room w e = by_act (put_or_missed act)
  where
    made : (room : Bool) (ask : SettingsAsk) → Some w ≡ (rules_missing (PutWorkspace ask) room).left → room ≡ true
    made true ask e = refl
    made false ask e = absurd (let none : ⊥ = cc in none)

    by_act : IsPut act ⊎ Misses act → room ≡ true
    by_act (inl put) = made room put.0 (subst (λ (a : Act). Some w ≡ (rules_missing a room).left) put.1 e)
    by_act (inr misses) = absurd (let none : ⊥ = cc (e ∙ ap (λ (r : Ruling). r.left) (misses room).0) in none)

pub len_with : (m : FinMap name_cmp Workspace) (name : List ℕ) (w : Option Workspace) (limit : ℕ) → len m ≤ limit → (is_some (get m name) ≡ false → is_some w ≡ true → len m < limit) → len (with_workspace m name w) ≤ limit
len_with m name None limit within room = subst (λ (n : ℕ). n ≤ limit) (sym (len-remove names_total m name)) (fewer (is_some (get m name)))
  where
    fewer : (b : Bool) → cond b (len m - 1) (len m) ≤ limit
    fewer true = omega arith
    fewer false = within
len_with m name (Some w) limit within room = subst (λ (n : ℕ). n ≤ limit) (sym (len-insert names_total m name w)) (more (is_some (get m name)) refl)
  where
    more : (b : Bool) → is_some (get m name) ≡ b → cond b (len m) (len m + 1) ≤ limit
    more true e = within
    more false e = let below : len m < limit = room e refl in omega arith

-- the count grows only where it is below the organization's limit, which is none above the greatest
pub count_within : (o : Organization) (ws : List ℕ) (change : Change) → IsDue (seen_in o ws) change → (most : ℕ) → o.limit ≤ most → count_of o ≤ most → count_of (placed o ws (changed_by change (get o.workspaces ws))) ≤ most
count_within o ws change due most limit within =
    subst (λ (n : ℕ). n ≤ most) (len-entries (with_workspace o.workspaces ws (changed_by change (get o.workspaces ws))))
    (len_with o.workspaces ws (changed_by change (get o.workspaces ws)) most (subst (λ (n : ℕ). n ≤ most) (sym (len-entries o.workspaces)) within) (λ none some. subst (λ (n : ℕ). n < most) (sym (len-entries o.workspaces)) (room (get o.workspaces ws) (changed_by change (get o.workspaces ws)) refl refl none some)))
  where
    below : count_of o < o.limit → count_of o < most
    below h = omega (arith, h, limit)

    room : (v w : Option Workspace) → get o.workspaces ws ≡ v → changed_by change (get o.workspaces ws) ≡ w → is_some v ≡ false → is_some w ≡ true → count_of o < most
    room (Some v) w e f none some = absurd (let no_one : ⊥ = cc in no_one)
    room None None e f none some = absurd (let no_one : ⊥ = cc in no_one)
    room None (Some w) e f none some =
        let given : changed_by change (standing (seen_in o ws)) ≡ Some w = ap (changed_by change) (standing_is (nat_lt (count_of o) o.limit) (get o.workspaces ws)) ∙ f in
        let ruled : Some w ≡ (rules due.act due.now (seen_in o ws)).left = sym given ∙ due.is in
        let here : Some w ≡ (rules_missing due.act (nat_lt (count_of o) o.limit)).left = ruled ∙ ap (λ (v : Option Workspace). (rules due.act due.now (seen_by (nat_lt (count_of o) o.limit) v)).left) e in
        below (ltb-true (count_of o) o.limit (made_in_room due.act (nat_lt (count_of o) o.limit) w here))
