-- The tables of a version as those of the next: each token, and later each workspace, gets a row of its own, and no record changes.
use Rattle.tables.proofs.Outside.{◌≡◌, ◌≤◌, ◌<◌, ℕ, zero, suc, arith, drop, not, Bool, true, false, ◌&&◌, ◌||◌, is_some, List, [], ◌∷◌, ◌++◌, map, filter, find, Option, Some, None, option_map, IfSome, IsTrue, refl, sym, ap, subst, ◌∙◌, unwrap_or, bytes_eq, AllByRecursion, list_any, list_all, from_entries, and_parts, or_parts, or_from, not-true, or_right, Table, same_name, IsAscending, next_key, all_weaker, all-append, ascending-map, ascending_from_map, all_map, all_unmap, is_prefix, FIRST_KEPT, name_cmp, IsMoment, Database, Kept, id_of, TokenRow, WsRow, BoundRow, RetentionRow, Owned, AreNamedApart, AreAmong, SCHEMA_VERSION, Tables, HoldsIn, is_known, count_in, our_tables, later_tables, added_by, up_to, tables_of, tables_at, is_of, is_bound, is_retention, with_next, with_all, unbounded, kept_first, cap_of, bound_in, sequence_name, IsNotNamed, NamesNoOther, raised, Raises, next_version, more_tables, tables_at-held, found_holds, none_if}
use Rattle.std.proofs.lemmas.List.{append-nil, append_assoc, map-append}
use Rattle.tables.specs.Records.{no_bounds, bounds_at, retention_at, token_of_cells, is_token_of, tokens_at, record_of}
use Rattle.tables.specs.Sound.{IsBoundRow, IsSoundIn}
use Rattle.tables.specs.Stores.{is_in_schema}
use Rattle.tables.specs.Versions.{HoldsSchema, Becomes, KeepsBeside}
use Rattle.tables.proofs.TextRows.{AreTexts, texts_carried, KeepsWorkspaces, workspace_carried, workspaces_carried, organization_carried}
use Rattle.tables.proofs.Names.{pair_is}
use Rattle.tables.proofs.There.{any_map}

-- ---- rows of a pair of names, one for each row of another table

abbrev Pair : Type 0
Pair = List ℕ × List ℕ

abbrev is_same : List ℕ → List ℕ → Pair → Bool
is_same org name p = bytes_eq p.0 org && bytes_eq p.1 name

abbrev pair_of : {T : Type 0} → Kept (Owned T) → Pair
pair_of x = (x.1.org, x.1.name)

-- each of them is one of them
own_found : {T : Type 0} (xs ys : List (Kept (Owned T))) → ((org name : List ℕ) → list_any (is_of org name) xs ≡ true → list_any (is_of org name) ys ≡ true) → AreAmong ys xs
own_found [] ys within = tt
own_found (x ∷ xs) ys within = (
  within x.1.org x.1.name (ap (λ (b : Bool). b || list_any (is_of x.1.org x.1.name) xs) (pair_is x.1.org x.1.name)),
  own_found xs ys (λ org name e. within org name (or_right (is_of org name x) (list_any (is_of org name) xs) e)),
)

-- ---- rows of bound, one for each token, and of keeping, one for each workspace

module _ {R S : Type 0} (f : Owned R → Owned S) where
  -- each row of the one gets such a row of the other
  abbrev filled : List (Kept (Owned R)) → List (Kept (Owned S)) → List (Kept (Owned S))
  filled ts xs = with_all (map (λ x. f x.1) ts) xs

  all_filled : (P : Kept (Owned S) → Type 0) → ((k : _) (r : Owned R) → P (k, f r)) → (ts : List (Kept (Owned R))) (xs : List (Kept (Owned S))) → AllByRecursion P xs → AllByRecursion P (filled ts xs)
  all_filled P each [] xs h = h
  all_filled P each (t ∷ ts) xs h = all_filled P each ts (with_next (f t.1) xs) (all-append P xs ((next_key id_of xs, f t.1) ∷ []) h (each (next_key id_of xs) t.1, tt))

  module _ (same : (k : _) (r : Owned R) → pair_of (k, f r) ≡ pair_of (k, r)) where
    names_filled : (ts : List (Kept (Owned R))) (xs : List (Kept (Owned S))) → map pair_of (filled ts xs) ≡ map pair_of xs ++ map pair_of ts
    names_filled [] xs = sym (append-nil (map pair_of xs))
    names_filled (t ∷ ts) xs =
        names_filled ts (with_next (f t.1) xs) ∙ ap (λ ps. ps ++ map pair_of ts) (map-append pair_of xs ((next_key id_of xs, f t.1) ∷ []))
        ∙ append_assoc (map pair_of xs) (pair_of (t.0, f t.1) ∷ []) (map pair_of ts) ∙ ap (λ (p : Pair). map pair_of xs ++ p ∷ map pair_of ts) (same t.0 t.1)

    module _ (ts : List (Kept (Owned R))) where
      any_filled : (org name : List ℕ) → list_any (is_of org name) (filled ts []) ≡ list_any (is_of org name) ts
      any_filled org name = any_map pair_of (is_same org name) (filled ts []) ∙ ap (list_any (is_same org name)) (names_filled ts []) ∙ sym (any_map pair_of (is_same org name) ts)

      each_has : AreAmong (filled ts []) ts
      each_has = all_weaker (λ x. list_any (is_of x.1.org x.1.name) ts ≡ true) (λ x. list_any (is_of x.1.org x.1.name) (filled ts []) ≡ true) (λ x e. any_filled x.1.org x.1.name ∙ e) ts (own_found ts ts (λ org name e. e))

      abbrev IsOwned : Pair → Type 0
      IsOwned p = list_any (is_of p.0 p.1) ts ≡ true

      each_owned : AreAmong ts (filled ts [])
      each_owned = all_unmap IsOwned pair_of (filled ts []) (subst (AllByRecursion IsOwned) (sym (names_filled ts [])) (all_map IsOwned pair_of ts (own_found ts ts (λ org name e. e))))

      filled_apart : AreNamedApart ts → AreNamedApart (filled ts [])
      filled_apart apart = ascending_from_map (λ (p q : Pair). is_same p.0 p.1 q ≡ false) pair_of (filled ts [])
          (subst (IsAscending (λ (p q : Pair). is_same p.0 p.1 q ≡ false)) (sym (names_filled ts [])) (ascending-map (λ (p q : Pair). is_same p.0 p.1 q ≡ false) pair_of ts apart))

abbrev IsUnbounded : Kept BoundRow → Type 0
IsUnbounded x = (x.1.it.until ≡ None) × (x.1.it.prefix ≡ [])

all_unbounded : (ts : List (Kept TokenRow)) → AllByRecursion IsUnbounded (filled unbounded ts [])
all_unbounded ts = all_filled unbounded IsUnbounded (λ k r. (refl, refl)) ts [] tt

filled_rows : (ts : List (Kept TokenRow)) → AllByRecursion IsBoundRow (filled unbounded ts [])
filled_rows ts = all_weaker IsUnbounded IsBoundRow (λ x is. record { until = subst (λ (u : Option ℕ). IfSome u IsMoment) (sym is.0) tt; prefix = subst (λ (p : List ℕ). IsTrue (is_prefix p)) (sym is.1) refl }) (filled unbounded ts []) (all_unbounded ts)

abbrev KeepsFirst : Kept RetentionRow → Type 0
KeepsFirst x = x.1.it ≡ FIRST_KEPT

all_kept_first : (ts : List (Kept WsRow)) → AllByRecursion KeepsFirst (filled kept_first ts [])
all_kept_first ts = all_filled kept_first KeepsFirst (λ k r. refl) ts [] tt

-- ---- the first version's as those of the second: how far each token reaches is told by a row

module _ (t : Tables) (none : t.bounds ≡ []) where
  abbrev second : Tables
  second = raised 1 t

  same_workspaces : KeepsWorkspaces t second
  same_workspaces = record { wss = refl; versions = refl; runs = refl; pages = refl; vpages = refl; kept = λ o w. refl }

  -- no token ends, and each is for all workspaces
  reach_filled : (org name : List ℕ) → bounds_at second org name ≡ no_bounds
  reach_filled org name = by_row (find (is_bound org name) second.bounds) refl
    where
      by_row : (o : Option (Kept BoundRow)) → find (is_bound org name) second.bounds ≡ o → unwrap_or (option_map bound_in o) no_bounds ≡ no_bounds
      by_row None e = refl
      by_row (Some x) e = let is = found_holds IsUnbounded (is_bound org name) second.bounds x (all_unbounded t.tokens) e in λ i. record { until = is.0 i; prefix = is.1 i }

  reach_none : (org name : List ℕ) → bounds_at t org name ≡ no_bounds
  reach_none org name = ap (λ (bs : List (Kept BoundRow)). unwrap_or (option_map bound_in (find (is_bound org name) bs)) no_bounds) none

  reach_stays : (org name : List ℕ) → bounds_at second org name ≡ bounds_at t org name
  reach_stays org name = reach_filled org name ∙ sym (reach_none org name)

  tokens_raised : (org : List ℕ) → tokens_at second org ≡ tokens_at t org
  tokens_raised org = λ i. from_entries {R = name_cmp} (map (λ (x : Kept TokenRow). (x.1.name, token_of_cells (reach_stays x.1.org x.1.name i) x.1.it)) (filter (is_token_of org) t.tokens))

  pub record_raised : (org : List ℕ) → record_of second org ≡ record_of t org
  record_raised org = λ i. option_map (λ (cap : ℕ). record { limit = cap; tokens = tokens_raised org i; workspaces = workspaces_carried t second same_workspaces org i }) (cap_of org t)

  -- sound tables of the first version become sound ones of the second
  pub raised_sound : IsSoundIn 1 t → IsSoundIn 2 second
  raised_sound sound = record {
    reported = (refl, refl);
    accounts = record {
      orgs_apart = sound.orgs_apart;
      tokens_apart = sound.tokens_apart;
      digests_apart = sound.digests_apart;
      bounds_apart = filled_apart unbounded (λ k r. refl) t.tokens sound.tokens_apart;
      tokens_bound = each_has unbounded (λ k r. refl) t.tokens;
      tokens_owned = sound.tokens_owned;
      bounds_owned = each_owned unbounded (λ k r. refl) t.tokens;
      org_rows = sound.org_rows;
      token_rows = sound.token_rows;
      bound_rows = filled_rows t.tokens;
    };
    owned = record {
      wss_apart = sound.wss_apart;
      retentions_apart = sound.retentions_apart;
      wss_kept = tt;
      wss_owned = sound.wss_owned;
      retentions_owned = sound.retentions_owned;
      versions_owned = sound.versions_owned;
      runs_owned = sound.runs_owned;
    };
    contents = texts;
    counts = λ org o e. sound.counts org o (sym (record_raised org) ∙ e);
    workspaces = λ org name w e. sound.workspaces org name w (sym (workspace_carried t second same_workspaces org name) ∙ e);
  }
    where
      texts : AreTexts second
      texts = texts_carried t second refl refl refl sound.contents

-- ---- the second version's as those of the third: how many versions each workspace keeps is told by a row

module _ (t : Tables) (none : t.retentions ≡ []) where
  abbrev third : Tables
  third = raised 2 t

  -- each workspace keeps what one keeps at first
  retention_filled : (org ws : List ℕ) → retention_at third org ws ≡ FIRST_KEPT
  retention_filled org ws = by_row (find (is_retention org ws) third.retentions) refl
    where
      by_row : (o : Option (Kept RetentionRow)) → find (is_retention org ws) third.retentions ≡ o → unwrap_or (option_map (λ (x : Kept RetentionRow). x.1.it) o) FIRST_KEPT ≡ FIRST_KEPT
      by_row None e = refl
      by_row (Some x) e = found_holds KeepsFirst (is_retention org ws) third.retentions x (all_kept_first t.wss) e

  retention_none : (org ws : List ℕ) → retention_at t org ws ≡ FIRST_KEPT
  retention_none org ws = ap (λ (ks : List (Kept RetentionRow)). unwrap_or (option_map (λ (x : Kept RetentionRow). x.1.it) (find (is_retention org ws) ks)) FIRST_KEPT) none

  kept_workspaces : KeepsWorkspaces t third
  kept_workspaces = record { wss = refl; versions = refl; runs = refl; pages = refl; vpages = refl; kept = λ org ws. retention_filled org ws ∙ sym (retention_none org ws) }

  pub third_record : (org : List ℕ) → record_of third org ≡ record_of t org
  third_record org = organization_carried t third kept_workspaces refl refl org (cap_of org t)

  -- sound tables of the second version become sound ones of the third
  pub third_sound : IsSoundIn 2 t → IsSoundIn 3 third
  third_sound sound = record {
    reported = (ap (map (λ x. (x.0, 3))) sound.reported.0, sound.reported.1);
    accounts = record {
      orgs_apart = sound.orgs_apart;
      tokens_apart = sound.tokens_apart;
      digests_apart = sound.digests_apart;
      bounds_apart = sound.bounds_apart;
      tokens_bound = sound.tokens_bound;
      tokens_owned = sound.tokens_owned;
      bounds_owned = sound.bounds_owned;
      org_rows = sound.org_rows;
      token_rows = sound.token_rows;
      bound_rows = sound.bound_rows;
    };
    owned = record {
      wss_apart = sound.wss_apart;
      retentions_apart = filled_apart kept_first (λ k r. refl) t.wss sound.wss_apart;
      wss_kept = each_has kept_first (λ k r. refl) t.wss;
      wss_owned = sound.wss_owned;
      retentions_owned = each_owned kept_first (λ k r. refl) t.wss;
      versions_owned = sound.versions_owned;
      runs_owned = sound.runs_owned;
    };
    contents = texts;
    counts = λ org o e. sound.counts org o (sym (third_record org) ∙ e);
    workspaces = λ org name w e. sound.workspaces org name w (sym (workspace_carried t third kept_workspaces org name) ∙ e);
  }
    where
      texts : AreTexts third
      texts = texts_carried t third refl refl refl sound.contents

-- ---- a step from a version to the next

-- no table that is added has the name of this one, nor has the engine's own
abbrev is_apart : List Table → Table → Bool
is_apart added x = not (same_name sequence_name x.name) && list_all (λ (y : Table). not (same_name y.name x.name)) added

-- The records stay, what was sound is sound as the next version, and no table that a later one adds comes along.
record Step (n : ℕ) : Type 0 where
  same : (t : Tables) (org : List ℕ) → record_of (raised n (up_to n t)) org ≡ record_of (up_to n t) org
  sound : (t : Tables) → IsSoundIn n (up_to n t) → IsSoundIn (suc n) (raised n (up_to n t))
  still : (t : Tables) → up_to (suc n) (raised n (up_to n t)) ≡ raised n (up_to n t)
  apart : list_all (is_apart (added_by (suc n))) (later_tables (suc n)) ≡ true
  pages : (t : Tables) → (raised n (up_to n t)).pages ≡ (up_to n t).pages

first_step : Step 1
unfolding same_name
first_step = record { same = λ t. record_raised (up_to 1 t) refl; sound = λ t. raised_sound (up_to 1 t) refl; still = λ t. refl; apart = refl; pages = λ t. refl }

second_step : Step 2
unfolding same_name
second_step = record { same = λ t. third_record (up_to 2 t) refl; sound = λ t. third_sound (up_to 2 t) refl; still = λ t. refl; apart = refl; pages = λ t. refl }

step_of : (n : ℕ) → is_known n ≡ true → n < SCHEMA_VERSION → Step n
step_of zero known low = absurd (cc)
step_of (suc zero) known low = first_step
step_of (suc (suc zero)) known low = second_step
step_of (suc (suc (suc n))) known low = absurd (omega (arith, low))

-- ---- databases

not_named : (name : List ℕ) (ts : List Table) → list_all (λ (y : Table). not (same_name y.name name)) ts ≡ true → AllByRecursion (IsNotNamed name) ts
not_named name [] e = tt
not_named name (t ∷ ts) e =
    let parts = and_parts (not (same_name t.name name)) (list_all (λ (y : Table). not (same_name y.name name)) ts) e in
    (not-true (same_name t.name name) parts.0, not_named name ts parts.1)

none_behind : (p : Table → Bool) (i j : ℕ) (xs : List Table) → i ≤ j → list_any p (drop i xs) ≡ false → list_any p (drop j xs) ≡ false
none_behind p zero zero xs low e = e
none_behind p zero (suc j) [] low e = refl
none_behind p zero (suc j) (x ∷ xs) low e = none_behind p zero j xs (omega arith) (or_parts (p x) (list_any p xs) e).1
none_behind p (suc i) zero xs low e = absurd (omega (arith, low))
none_behind p (suc i) (suc j) [] low e = refl
none_behind p (suc i) (suc j) (x ∷ xs) low e = none_behind p i j xs (omega arith) e

-- what wasn't there and isn't added isn't there
still_absent : (old new : Database) (added : List Table) → NamesNoOther added old new → (xs : List Table) → list_all (is_apart added) xs ≡ true → list_any (is_in_schema old.schema) xs ≡ false → list_any (is_in_schema new.schema) xs ≡ false
still_absent old new added names [] apart none = refl
still_absent old new added names (x ∷ xs) apart none =
    let parts = and_parts (is_apart added x) (list_all (is_apart added) xs) apart in
    let own = and_parts (not (same_name sequence_name x.name)) (list_all (λ (y : Table). not (same_name y.name x.name)) added) parts.0 in
    let lacks = or_parts (is_in_schema old.schema x) (list_any (is_in_schema old.schema) xs) none in
    or_from _ _ (ap is_some (names x.name (not-true _ own.0) (not_named x.name added own.1) (none_if _ lacks.0))) (still_absent old new added names xs parts.1 lacks.1)

module _ (n : ℕ) (low : n < SCHEMA_VERSION) (old new : Database) (raises : Raises n old new) where
  abbrev rows : Tables
  rows = tables_at n old

  module _ (h : HoldsSchema n old) where
    step : Step n
    step = step_of n h.known low

    rows_are : tables_at (suc n) new ≡ raised n rows
    rows_are = tables_at-held (suc n) new (raised n rows) (raises.holds rows h.holds) ∙ step.still (tables_of old)

    next_holds : HoldsSchema (suc n) new
    next_holds =
        let known = next_version n (omega (arith, low)) in
        let more = more_tables n (suc n) (omega arith) known in
        record {
          known = known;
          holds = subst (HoldsIn (suc n) new) (sym rows_are) (raises.holds rows h.holds);
          alone = still_absent old new (added_by (suc n)) (raises.names rows h.holds) (later_tables (suc n)) step.apart (none_behind (is_in_schema old.schema) (count_in n) (count_in (suc n)) our_tables (omega (arith, more)) h.alone);
          sound = subst (IsSoundIn (suc n)) (sym rows_are) (step.sound (tables_of old) h.sound);
        }

  -- a database of a version has become one of the next
  pub becomes_next : Becomes n (suc n) old new × KeepsBeside n (suc n) old new
  becomes_next = (
    record {
      holds = next_holds;
      records = λ h org. ap (λ (u : Tables). record_of u org) (rows_are h) ∙ (step h).same (tables_of old) org;
      pages = λ h. ap (λ (u : Tables). u.pages) (rows_are h) ∙ (step h).pages (tables_of old);
    },
    record { holds = λ t h. (raised n t, raises.holds t h); foreign = raises.foreign },
  )
