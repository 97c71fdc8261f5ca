-- What the writes to the table vpage do to its rows.
use Rattle.texts.proofs.Outside.{◌≡◌, ℕ, pos, true, ◌&&◌, List, [], ◌∷◌, Ok, refl, eqb, bytes_eq, Binary, Int, Text, Blob, Eq, Compare, State, Executes, number, Tables, Holds, vpages, same_text, same_number, two_texts_number}
use Rattle.sqlite_sql.specs.Ops.{is_true, binary}
use Rattle.sqlite_typed.proofs.TestLemmas.{then_term, last_term}
use Rattle.texts.specs.declared.places.TheConstants.{ADD_PLACE, REMOVE_PLACES}
use Rattle.statements.proofs.Casts.{vpage_casts}
use Rattle.statements.proofs.Frames.{Turns, deleted, inserted}
use Rattle.texts.specs.Texts.{is_place_of, place_added}
use Rattle.texts.specs.Inner.Calls.{places_removed}
use Rattle.texts.proofs.PlaceTexts.{add_place_means, remove_places_means}

-- WHERE of a place of a version
pub two_texts_two_numbers : (a b c d : List ℕ) (m n p q : ℕ)
    → (is_true (binary (Compare Eq Binary) (Text a) (Text b)) && (is_true (binary (Compare Eq Binary) (Text c) (Text d)) && (is_true (binary (Compare Eq Binary) (Int (pos m)) (Int (pos n))) && (is_true (binary (Compare Eq Binary) (Int (pos p)) (Int (pos q))) && true))))
    ≡ (bytes_eq a b && (bytes_eq c d && (eqb m n && eqb p q)))
two_texts_two_numbers a b c d m n p q = then_term (same_text a b) (then_term (same_text c d) (then_term (same_number m n) (last_term (same_number p q))))

module _ (old new : State) (count : ℕ) (t : Tables) (h : Holds old.now t) where
  pub add_place_does : (org ws : List ℕ) (n place : ℕ) (key : List ℕ) (twin : ℕ) → Executes ADD_PLACE.now (Text org ∷ Text ws ∷ number n ∷ number place ∷ Blob key ∷ number twin ∷ []) old new (Ok count)
      → Turns old.now new.now (place_added org ws n place key twin t)
  add_place_does org ws n place key twin ran = inserted vpages vpage_casts old new count t h _ _ ran (add_place_means old.now.schema) refl refl (record { org = org; ws = ws; number = n; place = place; key = key; twin = twin }) refl

  pub remove_places_does : (org ws : List ℕ) (n : ℕ) → Executes REMOVE_PLACES.now (Text org ∷ Text ws ∷ number n ∷ []) old new (Ok count) → Turns old.now new.now (places_removed org ws n t)
  remove_places_does org ws n ran = deleted vpages vpage_casts old new count t h _ _ ran (remove_places_means old.now.schema) (is_place_of org ws n) (λ x. two_texts_number x.1.org org x.1.ws ws x.1.number n) tt
