-- After a write to the table page, each page that a row of vpage names is there: the database sees to its references.
use Rattle.pages.proofs.Outside.{◌≡◌, ℕ, true, false, Bool, ◌||◌, cond, List, [], ◌∷◌, map, find, codes, Option, Some, None, IsSome, option_map, option_and_then, unwrap_or, Result, Ok, Err, OnOk, refl, sym, ap, ap₂, ◌∙◌, subst, AllByRecursion, list_any, and_parts, Row, Schema, everything, Update, Delete, Database, IsDatabase, State, Executes, all-slice_get, at_of, tree_of, IsOwn, page_table, vpage_table, Kept, stored, PageRow, VpageRow, page_cells, vpage_cells, Tables, Holds, page_layout, vpage_layout, IsHeld, pages_held, vpages_held, plain_program, Wrote, LeavesAsIs}
use Rattle.sqlite_value.specs.declared.keys.Order.{Order}
use Rattle.sqlite_value.specs.Keys.{plain}
use Rattle.sqlite_schema.specs.declared.schema.Action.TheVariants.{NoAction, Restrict}
use Rattle.sqlite_schema.specs.declared.schema.Constraint.TheVariants.{ForeignKey}
use Rattle.sqlite_schema.specs.declared.schema.Reference.{Reference}
use Rattle.sqlite_schema.specs.declared.schema.Table.{Table}
use Rattle.sqlite_schema.specs.Rules.{agree, ParentKey, parent_key, key_in, key_places, declared_order, has_parent, has_null, is_held, passes}
use Rattle.sqlite.proofs.Callers.{runs_as}
use Rattle.pages.specs.declared.rows.TheConstants.{SET_PAGE_USES, REMOVE_PAGE, REMOVE_LAST_PAGE}
use Rattle.statements.proofs.Follows.{named_first}
use Rattle.pages.specs.Rows.{is_page}
use Rattle.pages.specs.Pages.{Page, pages_in, NamedAreThere}
use Rattle.pages.proofs.Sequences.{still_holds}
use Rattle.pages.proofs.PageTexts.{set_page_uses_query, set_page_uses_means, remove_page_query, remove_page_means, remove_last_page_query, remove_last_page_means}
use Rattle.pages.proofs.PageWrites.{blob_number}

-- the reference of vpage
abbrev to_page : Reference
to_page = record { columns = 5 ∷ 6 ∷ []; parent = codes "page"; parent_columns = codes "pkey" ∷ codes "twin" ∷ []; on_delete = Restrict; on_update = NoAction; is_deferred = false }

abbrev page_order : Order
page_order = unwrap_or (declared_order page_table (1 ∷ 2 ∷ [])) plain

page_places : (tree : ℕ) → option_and_then (key_in (record page_table { tree = tree })) (key_places (record page_table { tree = tree }) to_page.parent_columns) ≡ Some (tree, 1 ∷ 2 ∷ [], page_order)
unfolding everything
page_places tree = refl

page_key : (s : Schema) → IsOwn s page_table → parent_key s.tables to_page ≡ Some (tree_of s page_table.name, 1 ∷ 2 ∷ [], page_order)
page_key s own = ap (option_and_then (λ t. option_and_then (key_in t) (key_places t to_page.parent_columns))) (named_first s page_table own) ∙ page_places (tree_of s page_table.name)

page_agrees : (z : Kept PageRow) (x : Kept VpageRow) → agree page_order (1 ∷ 2 ∷ []) (stored page_cells z) to_page.columns (stored vpage_cells x) ≡ is_page x.1.key x.1.twin z
unfolding everything
page_agrees z x = blob_number z.1.key x.1.key z.1.twin x.1.twin

names_no_null : (x : Kept VpageRow) → has_null to_page.columns (stored vpage_cells x) ≡ false
unfolding everything
names_no_null x = refl

-- the page that a row stands for
abbrev shown : Kept PageRow → Page
shown z = record { bytes = z.1.bytes; uses = z.1.uses }

-- a row is found where one passes
found_some : {A : Type 0} (p : A → Bool) (xs : List A) → list_any p xs ≡ true → IsSome (find p xs)
found_some p [] h = absurd (let none : ⊥ = cc in none)
found_some p (x ∷ xs) h = go (p x) h (found_some p xs)
  where
    go : (b : Bool) → (b || list_any p xs) ≡ true → (list_any p xs ≡ true → IsSome (find p xs)) → IsSome (cond b (Some x) (find p xs))
    go true any more = refl
    go false any more = more any

any_stored : (x : Kept VpageRow) (zs : List (Kept PageRow)) → list_any (λ parent. agree page_order (1 ∷ 2 ∷ []) parent to_page.columns (stored vpage_cells x)) (map (stored page_cells) zs) ≡ list_any (is_page x.1.key x.1.twin) zs
any_stored x [] = refl
any_stored x (z ∷ zs) = ap₂ (λ a b. a || b) (page_agrees z x) (any_stored x zs)

module _ (db : Database) (u : Tables) (h : Holds db u) (sound : IsDatabase db) where
  pages : IsHeld page_layout db u.pages
  pages = pages_held db u h

  vpages : IsHeld vpage_layout db u.vpages
  vpages = vpages_held db u h

  abbrev passing : Table → Row → Type 0
  passing t row = passes ForeignKey db.schema db.trees t row ≡ true

  -- each row of vpage passes
  all_pass : AllByRecursion (passing (record vpage_table { tree = tree_of db.schema vpage_table.name })) (map (stored vpage_cells) u.vpages)
  all_pass = subst (AllByRecursion (passing (record vpage_table { tree = tree_of db.schema vpage_table.name }))) vpages.rows
      (all-slice_get (λ (t : Table). AllByRecursion (passing t) (db.trees t.tree)) db.schema.tables (at_of db.schema vpage_table.name) (record vpage_table { tree = tree_of db.schema vpage_table.name }) vpages.own.place.found (sound.obeys.rules ForeignKey))

  one_there : (x : Kept VpageRow) → passing (record vpage_table { tree = tree_of db.schema vpage_table.name }) (stored vpage_cells x) → IsSome (pages_in u x.1.key x.1.twin)
  one_there x pass =
      let parent : has_parent db.schema.tables db.trees (stored vpage_cells x) to_page ≡ true = (and_parts (has_parent db.schema.tables db.trees (stored vpage_cells x) to_page) true pass).0 in
      let held : is_held db.trees to_page.columns (stored vpage_cells x) (parent_key db.schema.tables to_page) ≡ true = subst (λ (c : Bool). (c || is_held db.trees to_page.columns (stored vpage_cells x) (parent_key db.schema.tables to_page)) ≡ true) (names_no_null x) parent in
      let keyed = subst (λ (k : Option ParentKey). is_held db.trees to_page.columns (stored vpage_cells x) k ≡ true) (page_key db.schema pages.own) held in
      let any : list_any (is_page x.1.key x.1.twin) u.pages ≡ true = sym (any_stored x u.pages) ∙ ap (list_any (λ parent. agree page_order (1 ∷ 2 ∷ []) parent to_page.columns (stored vpage_cells x))) (sym pages.rows) ∙ keyed in
      mapped (find (is_page x.1.key x.1.twin) u.pages) (found_some (is_page x.1.key x.1.twin) u.pages any)
    where
      mapped : (o : Option (Kept PageRow)) → IsSome o → IsSome (option_map shown o)
      mapped None is = absurd (let none : ⊥ = cc in none)
      mapped (Some a) is = refl

  there : (xs : List (Kept VpageRow)) → AllByRecursion (passing (record vpage_table { tree = tree_of db.schema vpage_table.name })) (map (stored vpage_cells) xs) → AllByRecursion (λ x. IsSome (pages_in u x.1.key x.1.twin)) xs
  there [] p = tt
  there (x ∷ xs) p = (one_there x p.0, there xs p.1)

  pub named_are_there : NamedAreThere u
  named_are_there = there u.vpages all_pass

-- ---- what was written leaves a database

module _ (old new : State) (params : Row) (t : Tables) (h : Holds old.now t) (count : ℕ) where
  abbrev own : IsOwn old.now.schema page_table
  own = (pages_held old.now t h).own

  pub used_is_sound : Executes SET_PAGE_USES.now params old new (Ok count) → IsDatabase new.now
  used_is_sound ran =
      let means = set_page_uses_means old.now.schema _ _ own.place in
      let w = runs_as SET_PAGE_USES.now params old new old.now.schema refl (Update (at_of old.now.schema page_table.name) (plain_program (set_page_uses_query (tree_of old.now.schema page_table.name)))) means.0 means.1 count ran in
      w.sound

  pub removed_is_sound : Executes REMOVE_PAGE.now params old new (Ok count) → IsDatabase new.now
  removed_is_sound ran =
      let means = remove_page_means old.now.schema _ _ own.place in
      let w = runs_as REMOVE_PAGE.now params old new old.now.schema refl (Delete (at_of old.now.schema page_table.name) (plain_program (remove_page_query (tree_of old.now.schema page_table.name)))) means.0 means.1 count ran in
      w.sound

  pub last_is_sound : Executes REMOVE_LAST_PAGE.now params old new (Ok count) → IsDatabase new.now
  last_is_sound ran =
      let means = remove_last_page_means old.now.schema _ _ own.place in
      let w = runs_as REMOVE_LAST_PAGE.now params old new old.now.schema refl (Delete (at_of old.now.schema page_table.name) (plain_program (remove_last_page_query (tree_of old.now.schema page_table.name)))) means.0 means.1 count ran in
      w.sound

-- a text that was run, and leaves a database where it succeeds
pub spared_by : {X E : Type 0} (old new : State) (text : List ℕ) (params : Row) (result : Result X E) → Wrote text params old new result
    → ((t : Tables) → Holds old.now t → (count : ℕ) → Executes text params old new (Ok count) → IsDatabase new.now) → OnOk result ((t u : Tables) → Holds old.now t → Holds new.now u → NamedAreThere u)
spared_by old new text params (Ok x) wrote sound = λ t u before after. named_are_there new.now u after (sound t before wrote.0.0 wrote.0.1.0)
spared_by old new text params (Err e) wrote sound = tt

-- so it is behind queries
pub spared_behind : {X E : Type 0} (a b c : State) (result : Result X E) → LeavesAsIs a b → OnOk result ((t u : Tables) → Holds b.now t → Holds c.now u → NamedAreThere u)
    → OnOk result ((t u : Tables) → Holds a.now t → Holds c.now u → NamedAreThere u)
spared_behind a b c (Ok x) unchanged spares = λ t u before after. spares t u (still_holds a b unchanged t before) after
spared_behind a b c (Err e) unchanged spares = tt
