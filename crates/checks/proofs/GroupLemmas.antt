-- Rows by their workspaces.
use Rattle.checks.proofs.Outside.{◌≡◌, ℕ, ◌+◌, ◌<◌, Bool, true, false, cond, ◌&&◌, ◌==◌, List, [], ◌∷◌, ◌++◌, map, filter, length, take, get_or, append-nil, refl, ap, ◌∙◌, sym, Some, None, is_eq, Vec, Bor, option_map_or, bytes_eq, BTreeMap, get, and-true, map-append, filter_more, Kept, Owned, is_of}
use Rattle.checks.specs.declared.keys.RowKey.{RowKey}
use Rattle.checks.specs.Workspaces.{its_of}
use Rattle.checks.specs.Inner.Keys.{is_key}
use Rattle.checks.specs.Inner.Firsts.{key_cmp, key_of_parts, IsKeyOf}
use Rattle.checks.specs.Inner.Groups.{held, group_in}
use Rattle.checks.proofs.FirstsLemmas.{is_at_parts, same_place, at_key, empty_at}

-- the key of a workspace
pub ws_parts : (k : RowKey) (org name f s a b : List ℕ) → IsKeyOf k a b 0 0 → a ≡ org → b ≡ name → is_key f s 0 0 k ≡ (bytes_eq org f && bytes_eq name s)
ws_parts k org name f s a b h p q = λ i. h.its_place i == 0 && (h.its_number i == 0 && (bytes_eq ((h.its_first ∙ p) i) f && bytes_eq ((h.its_second ∙ q) i) s))

-- the key of an organization
pub org_parts : (k : RowKey) (org f a : List ℕ) → IsKeyOf k a [] 0 0 → a ≡ org → is_key f [] 0 0 k ≡ bytes_eq org f
org_parts k org f a h p = ws_parts k org [] f [] a [] h p refl ∙ and-true (bytes_eq org f)

module _ {T Z : Type 0} where
  pub empty_group : (org ws : List ℕ) (m : BTreeMap RowKey (Vec (Bor T) Z)) → m.entries ≡ [] → group_in org ws m ≡ []
  empty_group org ws m empty = ap (λ o. option_map_or held o []) (empty_at org ws 0 0 m empty)

  -- what was taken is put back with one more
  pub put_back : (key : RowKey) (it : T) (group : Vec (Bor T) Z) (old mid new : BTreeMap RowKey (Vec (Bor T) Z)) → held group ≡ option_map_or held (get key_cmp old key) [] ++ it ∷ []
      → ((q : RowKey) → get key_cmp mid q ≡ cond (is_eq (key_cmp key q)) None (get key_cmp old q)) → ((q : RowKey) → get key_cmp new q ≡ cond (is_eq (key_cmp key q)) (Some group) (get key_cmp mid q))
      → (org ws : List ℕ) → group_in org ws new ≡ cond (is_key org ws 0 0 key) (group_in org ws old ++ it ∷ []) (group_in org ws old)
  put_back key it group old mid new is taken put org ws = go (is_key org ws 0 0 key) refl
    where
      there : RowKey
      there = key_of_parts org ws 0 0

      go : (b : Bool) → is_key org ws 0 0 key ≡ b → group_in org ws new ≡ cond b (group_in org ws old ++ it ∷ []) (group_in org ws old)
      go true e =
          ap (λ o. option_map_or held o []) (put there ∙ ap (λ b. cond b (Some group) (get key_cmp mid there)) (is_at_parts org ws 0 0 key ∙ e)) ∙ is
          ∙ ap (λ o. option_map_or held o [] ++ it ∷ []) (sym (same_place org ws 0 0 key old e))
      go false e =
          let other = is_at_parts org ws 0 0 key ∙ e in
          ap (λ o. option_map_or held o []) (put there ∙ ap (λ b. cond b (Some group) (get key_cmp mid there)) other ∙ taken there ∙ ap (λ b. cond b None (get key_cmp old there)) other)

-- the rows at the key of a workspace are its group
pub found_group : {T Z : Type 0} (k : RowKey) (org ws a b : List ℕ) (m : BTreeMap RowKey (Vec (Bor T) Z)) → IsKeyOf k a b 0 0 → a ≡ org → b ≡ ws → option_map_or held (get key_cmp m k) [] ≡ group_in org ws m
found_group k org ws a b m h p q = ap (λ o. option_map_or held o []) (sym (at_key a b 0 0 k m h)) ∙ (λ i. group_in (p i) (q i) m)

-- one row more was put into its group
pub one_grouped : {T : Type 0} (org ws : List ℕ) (rows : List (Kept (Owned T))) (i : ℕ) (x : Kept (Owned T)) (old new : List T) → i < length rows → x ≡ get_or rows i x → old ≡ its_of org ws (take i rows)
    → new ≡ cond (is_of org ws x) (old ++ x.1.it ∷ []) old → new ≡ its_of org ws (take (i + 1) rows)
one_grouped {T} org ws rows i x old new within is so_far step =
    step ∙ ap (λ l. cond (is_of org ws x) (l ++ x.1.it ∷ []) l) so_far
    ∙ sym (ap (map it) (filter_more (is_of org ws) rows i x within ∙ ap (λ y. filter (is_of org ws) (take i rows) ++ cond (is_of org ws y) (y ∷ []) []) (sym is)) ∙ map-append it (filter (is_of org ws) (take i rows)) (cond (is_of org ws x) (x ∷ []) []) ∙ go (is_of org ws x))
  where
    it : Kept (Owned T) → T
    it y = y.1.it

    go : (b : Bool) → its_of org ws (take i rows) ++ map it (cond b (x ∷ []) []) ≡ cond b (its_of org ws (take i rows) ++ x.1.it ∷ []) (its_of org ws (take i rows))
    go true = refl
    go false = append-nil (its_of org ws (take i rows))
