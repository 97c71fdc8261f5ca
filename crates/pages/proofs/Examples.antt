-- Worked pages, computed by the definitions themselves. The key keeps a page's first byte.
use Rattle.pages.proofs.Outside.{◌≡◌, ℕ, false, List, [], ◌∷◌, map, Some, None, refl, Tables, no_rows}
use Rattle.std.specs.Prelude.{codes}
use Rattle.pages.specs.Rows.{page_added, page_bytes, equal_page}
use Rattle.pages.specs.Puts.{free_from, put_found, page_released, is_bytes_of}

-- keys, twin numbers and uses of the pages, in the order of their rows
abbrev kept : Tables → List (List ℕ × ℕ × ℕ)
kept t = map (λ x. (x.1.key, x.1.twin, x.1.uses)) t.pages

-- two texts of which all pages differ, under three keys
abbrev three : Tables
three = page_added (codes "a") 1 (codes "a\"}") (page_added (codes "a") 0 (codes "aaa") (page_added (codes "{") 0 (codes "{aa") no_rows))

abbrev six : Tables
six = page_added (codes "b") 1 (codes "b\"}") (page_added (codes "b") 0 (codes "bbb") (page_added (codes "{") 1 (codes "{bb") three))

six_pages : kept six ≡ (codes "{", 0, 1) ∷ (codes "a", 0, 1) ∷ (codes "a", 1, 1) ∷ (codes "{", 1, 1) ∷ (codes "b", 0, 1) ∷ (codes "b", 1, 1) ∷ []
six_pages = refl

-- a page of the same first byte is another page, under the next number that is free
other_page : equal_page (codes "{") (codes "{bb") three ≡ None
other_page = refl

next_number : free_from (codes "{") 4 0 three ≡ 1
unfolding free_from
next_number = refl

-- an equal one has one use more
used_again : kept (put_found (codes "a") (codes "aaa") (equal_page (codes "a") (codes "aaa") three) three) ≡ (codes "{", 0, 1) ∷ (codes "a", 0, 2) ∷ (codes "a", 1, 1) ∷ []
used_again = refl

-- the first text goes, and no page of the other
abbrev left : Tables
left = page_released (codes "a") 1 (page_released (codes "a") 0 (page_released (codes "{") 0 six))

left_pages : kept left ≡ (codes "{", 1, 1) ∷ (codes "b", 0, 1) ∷ (codes "b", 1, 1) ∷ []
left_pages = refl

left_text : page_bytes (codes "{") 1 left ≡ Some (codes "{bb")
left_text = refl

-- the least number is free again
least_number : free_from (codes "{") 4 0 left ≡ 0
unfolding free_from
least_number = refl

compared : is_bytes_of (codes "{") 1 (codes "{aa") six ≡ Some false
compared = refl
