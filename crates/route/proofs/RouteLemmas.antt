-- A router that holds the table finds the route of a path, whose parameters take what the path names.
use Rattle.std.proofs.Common.{◌≡◌, ℕ, suc, ◌<◌, List, [], ◌∷◌, length, zip, Bool, true, ◌&&◌, ltb, Option, Some, None, get_or, unwrap_or, MatchOption, Bor, Fits, w8, refl, sym, ap, ◌∙◌, zero-add, arith, inl, inr, codes, bytes_eq}
use Rattle.std.specs.Prelude.{Result, Ok, Err, IfErr, IsErrAnd}
use Rattle.std.specs.List.{list_all}
use Rattle.std.specs.Str.{chars, is_utf8}
use lib.Utf8.{encode}
use Rattle.std.proofs.lemmas.Bool.{ltb-true, and_parts}
use Rattle.std.proofs.lemmas.Str.{IsUtf8-from_is_utf8}
use Rattle.matchit.specs.Params.{walk, AllText}
use Rattle.matchit.specs.Rows.{RowsOf}
use Rattle.matchit.specs.Seek.{first}
use Rattle.matchit.specs.Level.{IsText}
use Rattle.matchit.specs.Router.{RouteOf, nearest, Refused}
use Rattle.matchit.specs.declared.error.InsertError.{InsertError}
use Rattle.matchit.specs.declared.error.InsertError.TheVariants.{Conflict, InvalidParam, InvalidParamSegment, InvalidCatchAll, OutOfMemory}
use Rattle.basis.proofs.NameLemmas.{equal_bytes}
use Rattle.route.specs.declared.routes.Kind.{Kind}
use Rattle.route.specs.Paths.{path_parts, resource_of}
use Rattle.route.specs.Inner.Kinds.{Pairs, org_resource_named}
use Rattle.route.specs.Table.{table, param_names}
use Rattle.route.proofs.WalkLemmas.{HasRow}
use Rattle.route.proofs.TreeLemmas.{Taken, IsStr, Finds, finds}
use Rattle.route.proofs.ParamLemmas.{are_named, walk_fits, fits_text, AreText}
use Rattle.route.proofs.TableLemmas.{tree, reads_table}
use Rattle.route.proofs.KindLemmas.{names_of, path_names}

pub text_from : (path : List ℕ) → ((i : ℕ) → Fits w8 (get_or path i 0)) → IsText path
text_from [] h = tt
text_from (b ∷ path) h = (omega (arith, h 0), text_from path (λ i. h (suc i)))

-- a row stands at its route's pattern, whose text has the names
abbrev is_well : List ℕ → RouteOf Kind → Bool
is_well tail route = bytes_eq tail route.pattern && are_named route.text tail route.names param_names && ltb (length tail) 1000

row_well : (tail : List ℕ) (route : RouteOf Kind) (r : RowsOf (RouteOf Kind)) → list_all (λ row. is_well row.0 row.1) r ≡ true → HasRow tail route r → is_well tail route ≡ true
row_well tail route [] well h = absurd h
row_well tail route ((t, key) ∷ r) well (inl h) = rw (sym h.0, sym h.1) (and_parts (is_well t key) (list_all (λ row. is_well row.0 row.1) r) well).0
row_well tail route ((t, key) ∷ r) well (inr h) = row_well tail route r (and_parts (is_well t key) (list_all (λ row. is_well row.0 row.1) r) well).1 h

names_text : AreText param_names
unfolding is_utf8 chars encode
names_text =
    (IsUtf8-from_is_utf8 (codes "org") refl, (IsUtf8-from_is_utf8 (codes "ws") refl, (IsUtf8-from_is_utf8 (codes "number") refl, (IsUtf8-from_is_utf8 (codes "action") refl, tt))))

-- what the route of a path leads to
abbrev pub pairs : List ℕ → RouteOf Kind → Pairs
pairs path route = walk route.pattern route.text path route.names 0 0

abbrev pub Leads : List ℕ → Option (RouteOf Kind) → Type 0
Leads path None = resource_of path ≡ None
Leads path (Some route) = (resource_of path ≡ org_resource_named route.value (pairs path route)) × AllText (pairs path route)

pub leads : (path : List ℕ) → IsStr path → (found : Option (RouteOf Kind)) → first table path ≡ found → Leads path found
leads path s found e = by (finds tree (path_parts path)) found e (reads_table path s) (path_names (path_parts path))
  where
    by : (taken : Taken (RouteOf Kind)) (found : Option (RouteOf Kind)) → first table path ≡ found → Finds table path taken → resource_of path ≡ names_of taken → Leads path found
    by None None e h n = n
    by None (Some route) e h n = absurd (let z : None ≡ Some route = sym h ∙ e in cc)
    by (Some taken) None e h n = absurd (let z : Some taken.0 ≡ None = sym h.0 ∙ e in cc)
    by (Some taken) (Some found) e h n =
        let same : taken.0 ≡ found = ap (λ o. unwrap_or o found) (sym h.0 ∙ e) in
        let route = taken.0 in
        let well = and_parts (bytes_eq h.1.0 route.pattern && are_named route.text h.1.0 route.names param_names) (ltb (length h.1.0) 1000) (row_well h.1.0 route table refl h.1.1) in
        let named = and_parts (bytes_eq h.1.0 route.pattern) (are_named route.text h.1.0 route.names param_names) well.0 in
        let there : h.1.0 ≡ route.pattern = equal_bytes h.1.0 route.pattern named.0 in
        let short : length route.pattern < 1000 = rw (sym there) (ltb-true (length h.1.0) 1000 well.1) in
        let walked : pairs path route ≡ zip param_names taken.1 =
        walk_fits route.pattern route.text path short h.1.0 path taken.1 h.1.2 route.names param_names 0 0 (sym there) refl (zero-add (length h.1.0) ∙ ap length there) (zero-add (length path)) named.1 in
        rw (sym same, walked) (n, fits_text h.1.0 path taken.1 h.1.2 param_names names_text)

-- what is shown of a parameter's part
pub shown : (found : Option (Bor (List ℕ))) (empty : Bor (List ℕ)) (named : Option (List ℕ)) → empty.now ≡ []
    → MatchOption found (named ≡ None) (λ text. named ≡ Some text.now) → (unwrap_or found empty).now ≡ unwrap_or named []
shown None empty named e h = rw h e
shown (Some text) empty named e h = rw h refl

-- a route that conflicts with none is refused for want of memory alone
pub memory_alone : {A : Type 0} (p : List ℕ) (r : RowsOf (RouteOf Kind)) (error : InsertError) (result : Result A InsertError) → nearest p r ≡ None → Refused p r error
    → IsErrAnd result (λ e. e ≡ error) → IfErr result (λ e. e ≡ OutOfMemory)
memory_alone p r error (Ok value) free refused h = tt
memory_alone p r (Conflict with) (Err e) free refused h = absurd (let n = refused.1 in cc)
memory_alone p r OutOfMemory (Err e) free refused h = h
memory_alone p r InvalidParamSegment (Err e) free refused h = absurd refused
memory_alone p r InvalidParam (Err e) free refused h = absurd refused
memory_alone p r InvalidCatchAll (Err e) free refused h = absurd refused
