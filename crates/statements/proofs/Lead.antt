-- A table keeps its rows, whatever actions of foreign keys of other tables a write sets off: where its references are passive, and also where it
-- follows one table alone whose own references are passive, if that table isn't written, or no row that goes has a child.
use Rattle.statements.proofs.Outside.{◌≡◌, ◌≢◌, ◌⊎◌, inl, inr, ℕ, zero, suc, ◌+◌, ℤ, Bool, true, false, cond, List, [], ◌∷◌, ◌++◌, Option, Some, None, Ok, slice_get, refl, sym, ap, ◌∙◌, subst, ◌&&◌, length, cases_Bool, and_parts, eqb-true, Row, Trees, Enforced, Deferred, Off, Reference, Table, Schema, agree, ParentKey, parent_key, Edit, taken_by, Applies, Work, work_by, work_for, refuses, max_depth, action_edit, Acts, ActsOn, AreChildren, Goes, Leads, Writes, deed_for, deed_of, pairs, loses, is_child_of, all-append, all-slice_get, all_weaker}
use Rattle.std.specs.Prelude.{nat_lt, ◌==◌}
use Rattle.std.specs.List.{AllByRecursion, flat_map, filter_map, list_any}
use Rattle.sqlite_schema.specs.declared.schema.Action.{Action}
use Rattle.sqlite_schema.specs.declared.schema.Action.TheVariants.{NoAction, Restrict, Cascade, SetNull, SetDefault}
use Rattle.sqlite_schema.specs.declared.schema.Keys.{Keys}
use Rattle.sqlite_rules.specs.declared.action.Deed.{Deed}
use Rattle.sqlite_rules.specs.declared.action.Deed.TheVariants.{Refuse}
use Rattle.sqlite_rules.specs.Lists.{Has}
use Rattle.statements.specs.Place.{is_passive, IsPassive, RefersPassively}

deed_of_refuses : (keys : Keys) (deletes : Bool) (a : Action) (d : Deed) → is_passive a ≡ true → deed_of keys deletes a ≡ Some d → refuses d ≡ true
deed_of_refuses keys deletes NoAction d stays is = absurd (cc)
deed_of_refuses Enforced deletes Restrict d stays is = let same : Refuse ≡ d = cc in ap refuses (sym same)
deed_of_refuses Deferred deletes Restrict d stays is = absurd (cc)
deed_of_refuses Off deletes Restrict d stays is = absurd (cc)
deed_of_refuses keys deletes Cascade d stays is = absurd (cc)
deed_of_refuses keys deletes SetNull d stays is = absurd (cc)
deed_of_refuses keys deletes SetDefault d stays is = absurd (cc)

passive_at : (deletes : Bool) (ref : Reference) → IsPassive ref → is_passive (cond deletes ref.on_delete ref.on_update) ≡ true
passive_at true ref stays = (and_parts (is_passive ref.on_delete) (is_passive ref.on_update) stays).0
passive_at false ref stays = (and_parts (is_passive ref.on_delete) (is_passive ref.on_update) stays).1

-- what a reference sets off that is passive for it is a refusal
deed_refuses : (keys : Keys) (deletes : Bool) (ref : Reference) (d : Deed) → is_passive (cond deletes ref.on_delete ref.on_update) ≡ true → deed_for keys deletes ref ≡ Some d → refuses d ≡ true
deed_refuses Off deletes ref d stays is = absurd (cc)
deed_refuses Enforced deletes ref d stays is = deed_of_refuses Enforced deletes (cond deletes ref.on_delete ref.on_update) d stays is
deed_refuses Deferred deletes ref d stays is = deed_of_refuses Deferred deletes (cond deletes ref.on_delete ref.on_update) d stays is

-- no row of these refers to a row that goes
abbrev pub HasNoChildren : List Row → List (Row × Row) → Reference → ParentKey → Type 0
HasNoChildren rows moves ref key = (r : Row) → Has rows r → list_any (λ move. loses key.2 key.1 move && agree key.2 ref.columns r key.1 move.0) moves ≡ false

-- the reference is passive, or it goes to this tree
abbrev pub GoesTo : Schema → ℕ → Reference → Type 0
GoesTo schema parent ref = IsPassive ref ⊎ ((key : ParentKey) → parent_key schema.tables ref ≡ Some key → key.0 ≡ parent)

-- what is written at a tree, and goes there or gets another key, sets off nothing by the reference
abbrev pub IsIdle : Schema → List Row → ℕ → Bool → List (Row × Row) → Reference → Type 0
IsIdle schema rows on deletes moves ref =
    (is_passive (cond deletes ref.on_delete ref.on_update) ≡ true) ⊎ ((key : ParentKey) → parent_key schema.tables ref ≡ Some key → (key.0 ≢ on) ⊎ HasNoChildren rows moves ref key)

-- a work, by what it was made of
pub record MadeOf (depth on : ℕ) (moves : List (Row × Row)) (child : Table) (ref : Reference) (deed : Option Deed) (key : Option ParentKey) (w : Work) : Type 0 where
  pub doing : Deed
  pub parent : ParentKey
  pub deed_is : deed ≡ Some doing
  pub key_is : key ≡ Some parent
  pub on_it : parent.0 ≡ on
  pub it_is : w ≡ record { depth = depth; child = child; ref = ref; places = parent.1; order = parent.2; deed = doing; moves = moves }

one_work : (depth on : ℕ) (moves : List (Row × Row)) (child : Table) (ref : Reference) (deed : Option Deed) (key : Option ParentKey) (w : Work) → work_by depth on moves child ref deed key ≡ Some w → MadeOf depth on moves child ref deed key w
one_work depth on moves child ref None key w e = absurd (cc)
one_work depth on moves child ref (Some deed) None w e = absurd (cc)
one_work depth on moves child ref (Some deed) (Some key) w e = go _ refl e
  where
    go : (b : Bool) → ((key.0 == on) && list_any (loses key.2 key.1) moves) ≡ b → cond b (Some (record { depth = depth; child = child; ref = ref; places = key.1; order = key.2; deed = deed; moves = moves })) None ≡ Some w
        → MadeOf depth on moves child ref (Some deed) (Some key) w
    go true holds same =
        let is : w ≡ record { depth = depth; child = child; ref = ref; places = key.1; order = key.2; deed = deed; moves = moves } = cc in
        record { doing = deed; parent = key; deed_is = refl; key_is = refl; on_it = eqb-true key.0 on (and_parts (key.0 == on) (list_any (loses key.2 key.1) moves) holds).0; it_is = is }
    go false holds same = absurd (cc)

-- a step in another table leaves this one
pub applied_there : (schema : Schema) (keys : Keys) (table : Table) (at tree : ℕ) → slice_get schema.tables at ≡ Some (record table { tree = tree })
    → (db next : Trees) (edit : Edit) → Applies schema keys db edit next → tree ≢ edit.table.tree → next tree ≡ db tree
applied_there schema keys table at tree found db next edit a apart = all-slice_get (λ (t : Table). t.tree ≢ edit.table.tree → next t.tree ≡ db t.tree) schema.tables at _ found a.tables apart

module _ (schema : Schema) (keys : Keys) (tree parent : ℕ) (rows : List Row) where
  abbrev IsChildless : Work → Type 0
  IsChildless w = (r : Row) → Has rows r → list_any (is_child_of w r) w.moves ≡ false

  -- the action leaves the table and the one that it follows: it is on another, or refuses, or finds no child
  abbrev IsElsewhere : Work → Type 0
  IsElsewhere w = (w.child.tree ≡ tree → (refuses w.deed ≡ true) ⊎ IsChildless w) × (w.child.tree ≡ parent → refuses w.deed ≡ true)

  module _ (depth on : ℕ) (olds news : List Row) where
    abbrev moves : List (Row × Row)
    moves = pairs olds news

    refused : (child : Table) (ref : Reference) (w : Work) → MadeOf depth on moves child ref (deed_for keys (length news == 0) ref) (parent_key schema.tables ref) w → is_passive (cond (length news == 0) ref.on_delete ref.on_update) ≡ true → refuses w.deed ≡ true
    refused child ref w made passive = deed_refuses keys (length news == 0) ref w.deed passive (made.deed_is ∙ ap (λ (v : Work). Some v.deed) (sym made.it_is))

    idle : (child : Table) (ref : Reference) (w : Work) → MadeOf depth on moves child ref (deed_for keys (length news == 0) ref) (parent_key schema.tables ref) w → IsIdle schema rows on (length news == 0) moves ref
        → (refuses w.deed ≡ true) ⊎ IsChildless w
    idle child ref w made (inl passive) = inl (refused child ref w made passive)
    idle child ref w made (inr idles) = elim (idles made.parent made.key_is) [ inl apart ↦ absurd (apart made.on_it) | inr none ↦ inr (subst IsChildless (sym made.it_is) none) ]

    child_works : (child : Table) (refs : List Reference) → (child.tree ≡ tree → AllByRecursion (IsIdle schema rows on (length news == 0) moves) refs) → (child.tree ≡ parent → AllByRecursion IsPassive refs)
        → AllByRecursion IsElsewhere (filter_map (work_for schema keys depth on olds news child) refs)
    child_works child [] only firm = tt
    child_works child (ref ∷ refs) only firm = go (work_for schema keys depth on olds news child ref) refl
        (child_works child refs (λ same. (only same).1) (λ same. (firm same).1))
      where
        go : (o : Option Work) → work_for schema keys depth on olds news child ref ≡ o → AllByRecursion IsElsewhere (filter_map (work_for schema keys depth on olds news child) refs)
            → AllByRecursion IsElsewhere (filter_map (work_for schema keys depth on olds news child) (ref ∷ refs))
        go None e more = rw e more
        go (Some w) e more =
            let made = one_work depth on moves child ref _ (parent_key schema.tables ref) w e in
            let child_is : w.child.tree ≡ child.tree = ap (λ (v : Work). v.child.tree) made.it_is in
            rw e (((λ same. idle child ref w made (only (sym child_is ∙ same)).0), (λ same. refused child ref w made (passive_at (length news == 0) ref (firm (sym child_is ∙ same)).0))), more)

    all_works : (tables : List Table) → AllByRecursion (λ (t : Table). t.tree ≡ tree → AllByRecursion (IsIdle schema rows on (length news == 0) moves) t.references) tables → AllByRecursion (λ (t : Table). t.tree ≡ parent → RefersPassively t) tables
        → AllByRecursion IsElsewhere (flat_map (λ child. filter_map (work_for schema keys depth on olds news child) child.references) tables)
    all_works [] h firm = tt
    all_works (t ∷ tables) h firm = all-append IsElsewhere _ _ (child_works t t.references h.0 firm.0) (all_works tables h.1 firm.1)

  split_last : (xs : List Work) (w : Work) → AllByRecursion IsElsewhere (xs ++ w ∷ []) → AllByRecursion IsElsewhere xs × IsElsewhere w
  split_last [] w h = (tt, h.0)
  split_last (x ∷ xs) w h = let more = split_last xs w h.1 in ((h.0, more.0), more.1)

  module _ (table : Table) (at : ℕ) (found : slice_get schema.tables at ≡ Some (record table { tree = tree }))
      (bare : AllByRecursion (λ (t : Table). t.tree ≡ tree → AllByRecursion (GoesTo schema parent) t.references) schema.tables) (firm : AllByRecursion (λ (t : Table). t.tree ≡ parent → RefersPassively t) schema.tables) where
    applied_keeps : (db next : Trees) (edit : Edit) → Applies schema keys db edit next → tree ≢ edit.table.tree → next tree ≡ db tree
    applied_keeps = applied_there schema keys table at tree found

    pub elsewhere_idle : (on : ℕ) (deletes : Bool) (moves : List (Row × Row)) → on ≢ parent → AllByRecursion (λ (t : Table). t.tree ≡ tree → AllByRecursion (IsIdle schema rows on deletes moves) t.references) schema.tables
    elsewhere_idle on deletes moves apart =
        all_weaker (λ (t : Table). t.tree ≡ tree → AllByRecursion (GoesTo schema parent) t.references) (λ (t : Table). t.tree ≡ tree → AllByRecursion (IsIdle schema rows on deletes moves) t.references)
        (λ t h same. all_weaker (GoesTo schema parent) (IsIdle schema rows on deletes moves) one t.references (h same)) schema.tables bare
      where
        one : (ref : Reference) → GoesTo schema parent ref → IsIdle schema rows on deletes moves ref
        one ref (inl passive) = inl (passive_at deletes ref passive)
        one ref (inr goes) = inr (λ key is. inl (λ same. apart (sym same ∙ goes key is)))

    pub lead_keeps : (n : ℕ) (db next : Trees) (stack : List Work) → db tree ≡ rows → AllByRecursion IsElsewhere stack → Leads schema keys n db stack (Ok next) → next tree ≡ rows
    lead_keeps zero db next stack seen away h = let same : db ≡ next = let e = h.1 in cc in ap (λ (t : Trees). t tree) (sym same) ∙ seen
    lead_keeps (suc n) db next stack seen away h =
        let parts = split_last h.0 h.1 (subst (AllByRecursion IsElsewhere) h.2 away) in
        acted h.1 h.0 parts.0 parts.1 h.3 (lead_keeps n)
      where
        acted : (w : Work) (below : List Work) → AllByRecursion IsElsewhere below → IsElsewhere w → Acts schema keys (Leads schema keys n) db w below (Ok next)
            → ((d e : Trees) (rest : List Work) → d tree ≡ rows → AllByRecursion IsElsewhere rest → Leads schema keys n d rest (Ok e) → e tree ≡ rows) → next tree ≡ rows
        acted w below away other acts again = elim (cases_Bool (nat_lt w.depth max_depth)) [
          | inl low ↦ let it = rw low at acts in on it.0 it.1 it.2
          | inr high ↦ absurd (let e = rw high at acts in cc)
        ]
          where
            gone : (edit : Edit) → edit.table ≡ w.child → w.child.tree ≢ tree → w.child.tree ≢ parent → Goes schema keys (Leads schema keys n) db edit (w.depth + 1) below (Ok next) → next tree ≡ rows
            gone edit is apart free (inl refused) = absurd (let e = refused.2 in cc)
            gone edit is apart free (inr (inl big)) = absurd (let e = big.2 in cc)
            gone edit is apart free (inr (inr went)) =
                let there : edit.table.tree ≡ w.child.tree = ap (λ (t : Table). t.tree) is in
                let kept = applied_keeps db went.0 edit went.1 (λ same. apart (sym (same ∙ there))) in
                again went.0 next _ (kept ∙ seen)
                (all-append IsElsewhere below _ away (all_works (w.depth + 1) edit.table.tree _ _ schema.tables (elsewhere_idle edit.table.tree _ _ (λ same. free (sym there ∙ same))) firm)) went.2

            -- a row that is acted on is none of the table
            strange : (id : ℤ) (ids : List ℤ) → AreChildren db w (id ∷ ids) → refuses w.deed ≡ false → w.child.tree ≡ tree → ⊥
            strange id ids are acts_it same = elim (other.0 same) [
              | inl stops ↦ let e = acts_it in cc
              | inr none ↦
                  let it = are.sound id (inl refl) in
                  let here : Has rows it.0 = subst (λ l. Has l it.0) (ap db same ∙ seen) it.1 in
                  let not_so = none it.0 here in
                  let so = it.2 in
                  cc
            ]

            on : (ids : List ℤ) → AreChildren db w ids → ActsOn schema keys (Leads schema keys n) db w below (Ok next) ids → next tree ≡ rows
            on [] are h = again db next below seen away h
            on (id ∷ ids) are h = elim (cases_Bool (refuses w.deed)) [
              | inl stops ↦ absurd (let e = rw stops at h in cc)
              | inr acts_it ↦ gone (action_edit db w (id ∷ ids)) refl (strange id ids are acts_it) (λ same. let e = other.1 same in cc) (rw acts_it at h)
            ]

    -- A write to another table leaves this one, where what it takes away sets off nothing here.
    pub follower_keeps : (db next : Trees) (edit : Edit) → db tree ≡ rows → tree ≢ edit.table.tree
        → AllByRecursion (λ (t : Table). t.tree ≡ tree → AllByRecursion (IsIdle schema rows edit.table.tree (length edit.news == 0) (pairs (taken_by db edit) edit.news)) t.references) schema.tables
        → Writes schema keys db edit (Ok next) → next tree ≡ rows
    follower_keeps db next edit seen apart idles (inl refused) = absurd (let e = refused.2 in cc)
    follower_keeps db next edit seen apart idles (inr (inl big)) = absurd (let e = big.2 in cc)
    follower_keeps db next edit seen apart idles (inr (inr went)) =
        lead_keeps went.2.0 went.0 next _ (applied_keeps db went.0 edit went.1 apart ∙ seen) (all_works 0 edit.table.tree _ _ schema.tables idles firm) went.2.1

-- What a write leaves in a table is what its own step leaves there, where what it takes away sets off nothing in the table.
pub step_keeps : (schema : Schema) (keys : Keys) (tree parent : ℕ) (table : Table) (at : ℕ) → slice_get schema.tables at ≡ Some (record table { tree = tree })
    → AllByRecursion (λ (t : Table). t.tree ≡ tree → AllByRecursion (GoesTo schema parent) t.references) schema.tables → AllByRecursion (λ (t : Table). t.tree ≡ parent → RefersPassively t) schema.tables
    → (db next : Trees) (edit : Edit)
    → ((rows : List Row) → AllByRecursion (λ (t : Table). t.tree ≡ tree → AllByRecursion (IsIdle schema rows edit.table.tree (length edit.news == 0) (pairs (taken_by db edit) edit.news)) t.references) schema.tables)
    → Writes schema keys db edit (Ok next) → (mid : Trees) × Applies schema keys db edit mid × (next tree ≡ mid tree)
step_keeps schema keys tree parent table at found bare firm db next edit idles (inl refused) = absurd (let e = refused.2 in cc)
step_keeps schema keys tree parent table at found bare firm db next edit idles (inr (inl big)) = absurd (let e = big.2 in cc)
step_keeps schema keys tree parent table at found bare firm db next edit idles (inr (inr went)) =
    let rows = went.0 tree in (
      went.0,
      went.1,
      lead_keeps schema keys tree parent rows table at found bare firm went.2.0 went.0 next _ refl (all_works schema keys tree parent rows 0 edit.table.tree _ _ schema.tables (idles rows) firm) went.2.1,
    )

-- so it is of a table whose references are passive
pub write_keeps : (schema : Schema) (keys : Keys) (table : Table) (at tree : ℕ) → slice_get schema.tables at ≡ Some (record table { tree = tree }) → AllByRecursion (λ (t : Table). t.tree ≡ tree → RefersPassively t) schema.tables
    → (db next : Trees) (edit : Edit) → Writes schema keys db edit (Ok next) → (mid : Trees) × Applies schema keys db edit mid × (next tree ≡ mid tree)
write_keeps schema keys table at tree found bare db next edit =
    step_keeps schema keys tree tree table at found (weaker (GoesTo schema tree) (λ ref passive. inl passive)) bare db next edit (λ rows. weaker (IsIdle schema rows edit.table.tree (length edit.news == 0) _) (λ ref passive. inl (passive_at (length edit.news == 0) ref passive)))
  where
    weaker : (Q : Reference → Type 0) → ((ref : Reference) → IsPassive ref → Q ref) → AllByRecursion (λ (t : Table). t.tree ≡ tree → AllByRecursion Q t.references) schema.tables
    weaker Q f = all_weaker (λ (t : Table). t.tree ≡ tree → RefersPassively t) (λ (t : Table). t.tree ≡ tree → AllByRecursion Q t.references) (λ t h same. all_weaker IsPassive Q f t.references (h same)) schema.tables bare
