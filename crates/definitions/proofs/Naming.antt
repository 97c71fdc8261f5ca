-- The names of those that stand otherwise, as the tables come one by one.
use Rattle.std.proofs.Common.{◌≡◌, ◌↔◌, inl, inr, ℕ, ◌+◌, ◌<◌, List, [], ◌∷◌, ◌++◌, take, length, get_or, Contains, refl, sym, ap, ◌∙◌, subst}
use Rattle.std.specs.List.{AllByRecursion}
use Rattle.std.proofs.lemmas.List.{take_more}
use Rattle.std.proofs.lemmas.List.Elements.{Contains-append_left, Contains-push}
use Rattle.std.proofs.SliceLists.{all_by_recursion_push}
use Rattle.sqlite_schema.specs.declared.schema.Schema.{Schema}
use Rattle.sqlite_schema.specs.declared.schema.Table.{Table}
use Rattle.statements.specs.Place.{IsOwn}
use Rattle.definitions.specs.Others.{IsOther, IsOwnOrNamed}
use Rattle.definitions.specs.Inner.{NamesOther}

module _ {X : Type 0} (P : X → Type 0) where
  pub all_less : (xs : List X) (x : X) → AllByRecursion P (xs ++ x ∷ []) → AllByRecursion P xs × P x
  all_less [] x h = (tt, h.0)
  all_less (a ∷ xs) x h = let rest = all_less xs x h.1 in ((h.0, rest.0), rest.1)

  not_none : (xs : List X) (x : X) → ¬ (xs ++ x ∷ [] ≡ [])
  not_none [] x none = absurd (cc)
  not_none (y ∷ ys) x none = absurd (cc)

module _ (s : Schema) (tables : List Table) where
  -- what is named stays so with a name more
  still_named : (names : List (List ℕ)) (name : List ℕ) (xs : List Table) → AllByRecursion (IsOwnOrNamed s names) xs → AllByRecursion (IsOwnOrNamed s (names ++ name ∷ [])) xs
  still_named names name [] all = tt
  still_named names name (x ∷ xs) all = (one all.0, still_named names name xs all.1)
    where
      one : IsOwnOrNamed s names x → IsOwnOrNamed s (names ++ name ∷ []) x
      one (inl own) = inl own
      one (inr named) = inr (Contains-append_left names (name ∷ []) x.name named)

  -- whether no table so far stands otherwise; each that is named is one of these that does, and each so far that does is named
  pub record NamesSoFar (i : ℕ) (names : List (List ℕ)) : Type 0 where
    pub none : (names ≡ []) ↔ AllByRecursion (IsOwn s) (take i tables)
    pub named : AllByRecursion (IsOther s tables) names
    pub every : AllByRecursion (IsOwnOrNamed s names) (take i tables)

  pub names_more : (i : ℕ) (table : Table) (old new : List (List ℕ)) → i < length tables → table ≡ get_or tables i table → NamesSoFar i old → NamesOther s table old new → NamesSoFar (i + 1) new
  names_more i table old new low is so_far step =
      let longer : take i tables ++ table ∷ [] ≡ take (i + 1) tables = sym (take_more tables i table low ∙ ap (λ (y : Table). take i tables ++ y ∷ []) (sym is)) in
      go longer step
    where
      go : take i tables ++ table ∷ [] ≡ take (i + 1) tables → NamesOther s table old new → NamesSoFar (i + 1) new
      go longer (inl (own, same)) = record {
        none = (
          λ none. subst (AllByRecursion (IsOwn s)) longer (all_by_recursion_push (IsOwn s) (take i tables) table (so_far.none.0 (sym same ∙ none)) own),
          λ all. same ∙ so_far.none.1 (all_less (IsOwn s) (take i tables) table (subst (AllByRecursion (IsOwn s)) (sym longer) all)).0,
        );
        named = subst (AllByRecursion (IsOther s tables)) (sym same) so_far.named;
        every = subst (λ l. AllByRecursion (IsOwnOrNamed s new) l) longer (all_by_recursion_push (IsOwnOrNamed s new) (take i tables) table
            (subst (λ l. AllByRecursion (IsOwnOrNamed s l) (take i tables)) (sym same) so_far.every) (inl own));
      }
      go longer (inr (other, pushed)) = record {
        none = (
          λ none. absurd (not_none (IsOther s tables) old table.name (sym pushed ∙ none)),
          λ all. absurd (other (all_less (IsOwn s) (take i tables) table (subst (AllByRecursion (IsOwn s)) (sym longer) all)).1),
        );
        named = subst (AllByRecursion (IsOther s tables)) (sym pushed) (all_by_recursion_push (IsOther s tables) old table.name so_far.named
            (record { table = table; listed = (i, low, sym is); named = refl; other = other }));
        every = subst (λ l. AllByRecursion (IsOwnOrNamed s new) l) longer (all_by_recursion_push (IsOwnOrNamed s new) (take i tables) table
            (subst (λ l. AllByRecursion (IsOwnOrNamed s l) (take i tables)) (sym pushed) (still_named old table.name (take i tables) so_far.every))
            (inr (subst (λ l. Contains l table.name) (sym pushed) (Contains-push old table.name))));
      }
