-- Worked texts, computed by the definitions themselves. The key keeps a page's first byte.
use Rattle.texts.proofs.Outside.{◌≡◌, ℕ, true, false, List, [], ◌∷◌, map, None, refl, Tables, no_rows, page_added, page_used, equal_page, free_from}
use Rattle.std.specs.Prelude.{codes}
use Rattle.texts.specs.Texts.{place_added, pages_for, piece_size, text_added, text_removed, piece_of, text_of, are_pieces, HasNoPlaces}

abbrev org : List ℕ
org = codes "acme"

abbrev ws : List ℕ
ws = codes "net"

-- keys, twin numbers and uses of the pages, in the order of their rows
abbrev kept : Tables → List (List ℕ × ℕ × ℕ)
kept t = map (λ x. (x.1.key, x.1.twin, x.1.uses)) t.pages

-- numbers of versions, places, keys and twin numbers of the rows of vpage
abbrev placed : Tables → List (ℕ × ℕ × List ℕ × ℕ)
placed t = map (λ x. (x.1.number, x.1.place, x.1.key, x.1.twin)) t.vpages

-- ---- numbers of pages

no_page : pages_for 0 ≡ 0
no_page = refl

one_byte : pages_for 1 ≡ 1
one_byte = refl

full_page : pages_for 16_384 ≡ 1
full_page = refl

byte_more : pages_for 16_385 ≡ 2
byte_more = refl

four_mebibytes : pages_for 4_194_304 ≡ 256
four_mebibytes = refl

first_size : piece_size 16_385 0 ≡ 16_384
first_size = refl

last_size : piece_size 16_385 1 ≡ 1
last_size = refl

-- ---- texts of one page

abbrev first_text : Tables
first_text = place_added org ws 1 0 (codes "a") 0 (page_added (codes "a") 0 (codes "abc") no_rows)

-- an equal text of the next version is the same page
abbrev equal_text : Tables
equal_text = text_added (λ place. codes "a") org ws 2 (codes "abc") first_text

equal_pages : kept equal_text ≡ (codes "a", 0, 2) ∷ []
equal_pages = refl

equal_places : placed equal_text ≡ (1, 0, codes "a", 0) ∷ (2, 0, codes "a", 0) ∷ []
equal_places = refl

equal_read : text_of org ws 2 3 equal_text ≡ codes "abc"
equal_read = refl

-- another text of the same first byte is another page, under the next number that is free
other_page : equal_page (codes "a") (codes "axy") equal_text ≡ None
other_page = refl

other_number : free_from (codes "a") 4 0 equal_text ≡ 1
unfolding free_from
other_number = refl

abbrev three_texts : Tables
three_texts = place_added org ws 3 0 (codes "a") 1 (page_added (codes "a") 1 (codes "axy") equal_text)

three_read : text_of org ws 3 3 three_texts ≡ codes "axy"
three_read = refl

same_text : are_pieces org ws 3 (codes "axy") 1 three_texts ≡ true
same_text = refl

other_text : are_pieces org ws 3 (codes "abc") 1 three_texts ≡ false
other_text = refl

-- the text of a version that isn't there
absent_piece : piece_of org ws 4 0 three_texts ≡ None
absent_piece = refl

-- ---- texts that go

-- a page that another version names stays
abbrev two_left : Tables
two_left = text_removed org ws 1 3 three_texts

two_pages : kept two_left ≡ (codes "a", 0, 1) ∷ (codes "a", 1, 1) ∷ []
two_pages = refl

two_places : placed two_left ≡ (2, 0, codes "a", 0) ∷ (3, 0, codes "a", 1) ∷ []
two_places = refl

two_read : text_of org ws 2 3 two_left ≡ codes "abc"
two_read = refl

first_gone : HasNoPlaces org ws 1 two_left
first_gone = refl

-- with the last row that names it goes the page, and its number is free again
abbrev one_left : Tables
one_left = text_removed org ws 2 3 two_left

one_page : kept one_left ≡ (codes "a", 1, 1) ∷ []
one_page = refl

one_read : text_of org ws 3 3 one_left ≡ codes "axy"
one_read = refl

number_free : free_from (codes "a") 4 0 one_left ≡ 0
unfolding free_from
number_free = refl

-- ---- a page that stands twice in a text, and in the same place of another organization's version

abbrev twice : Tables
twice = place_added (codes "else") ws 1 0 (codes "a") 0 (place_added org ws 1 1 (codes "a") 0 (place_added org ws 1 0 (codes "a") 0 (page_used (codes "a") 0 3 (page_added (codes "a") 0 (codes "abc") no_rows))))

twice_read : text_of org ws 1 16_385 twice ≡ codes "abcabc"
twice_read = refl

twice_removed : kept (text_removed org ws 1 16_385 twice) ≡ (codes "a", 0, 1) ∷ []
twice_removed = refl

twice_others : text_of (codes "else") ws 1 3 (text_removed org ws 1 16_385 twice) ≡ codes "abc"
twice_others = refl
