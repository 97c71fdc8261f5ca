-- The pieces that a text is cut into, and the text that they make.
use Rattle.texts.proofs.Outside.{◌≡◌, ◌<◌, ◌≤◌, ℕ, zero, suc, ◌+◌, ◌*◌, min, Bool, true, ◌&&◌, List, [], ◌++◌, length, take, drop, Option, Some, refl, sym, ap, ap₂, ◌∙◌, arith, unwrap_or, bytes_eq, and_from, and_parts, length-take, length-drop, length-append, take_all, take_at, drop_at, bytes_eq-Decides, Tables}
use Rattle.std.specs.Cmp.{both_ways}
use Rattle.std.proofs.Math.Seq.{take-add}
use Rattle.texts.specs.declared.texts.TheConstants.{PAGE_BYTES}
use Rattle.texts.specs.Texts.{pages_for, piece_at, piece_size, piece_of, joined, text_of, are_pieces, IsWhole}

-- ---- numbers of pages

-- the pages of a text hold it
pub pages_hold : (size : ℕ) → size ≤ pages_for size * PAGE_BYTES
pages_hold size = omega arith

-- each page has a byte of it
pub page_begins : (size place : ℕ) → place < pages_for size → place * PAGE_BYTES < size
page_begins size place below = omega (arith, below)

next_piece : (place : ℕ) → suc place * PAGE_BYTES ≡ place * PAGE_BYTES + PAGE_BYTES
next_piece place = omega arith

-- ---- pieces of a text

pub length_piece : (text : List ℕ) (place : ℕ) → length (piece_at text place) ≡ piece_size (length text) place
length_piece text place = length-take PAGE_BYTES (drop (place * PAGE_BYTES) text) ∙ ap (min PAGE_BYTES) (length-drop (place * PAGE_BYTES) text)

-- the first pieces of a text are the beginning of it
pub pieces_begin : (text : List ℕ) (place : ℕ) → take (suc place * PAGE_BYTES) text ≡ take (place * PAGE_BYTES) text ++ piece_at text place
pieces_begin text place = ap (λ k. take k text) (next_piece place) ∙ take-add (place * PAGE_BYTES) PAGE_BYTES text

-- all its pieces are the text
pub pieces_all_text : (text : List ℕ) → take (pages_for (length text) * PAGE_BYTES) text ≡ text
pieces_all_text text = take_all (pages_for (length text) * PAGE_BYTES) text (pages_hold (length text))

-- ---- the text that pieces make

module _ (org ws : List ℕ) (n : ℕ) (t : Tables) where
  -- rows that name the pieces of a text make it
  pub joined_pieces : (text : List ℕ) (place : ℕ) → ((q : ℕ) → q < place → piece_of org ws n q t ≡ Some (piece_at text q)) → joined org ws n place t ≡ take (place * PAGE_BYTES) text
  joined_pieces text zero each = refl
  joined_pieces text (suc place) each =
      ap₂ ◌++◌ (joined_pieces text place (λ q below. each q (omega (arith, below)))) (ap (λ (o : Option (List ℕ)). unwrap_or o []) (each place (omega arith))) ∙ sym (pieces_begin text place)

  pub text_pieces : (text : List ℕ) → ((q : ℕ) → q < pages_for (length text) → piece_of org ws n q t ≡ Some (piece_at text q)) → text_of org ws n (length text) t ≡ text
  text_pieces text each = joined_pieces text (pages_for (length text)) each ∙ pieces_all_text text

  pub pieces_whole : (text : List ℕ) → ((q : ℕ) → q < pages_for (length text) → piece_of org ws n q t ≡ Some (piece_at text q)) → IsWhole org ws n (length text) t
  pieces_whole text each place below = (piece_at text place, each place below, length_piece text place)

  module _ (size : ℕ) (whole : IsWhole org ws n size t) where
    whole_piece : (place : ℕ) → place < pages_for size → length (unwrap_or (piece_of org ws n place t) []) ≡ piece_size size place
    whole_piece place below = let there = whole place below in ap (λ (o : Option (List ℕ)). length (unwrap_or o [])) there.1 ∙ there.2

    pub whole_length : (place : ℕ) → place ≤ pages_for size → length (joined org ws n place t) ≡ min (place * PAGE_BYTES) size
    whole_length zero low = omega arith
    whole_length (suc place) low =
        let under : place < pages_for size = low in
        let begins : place * PAGE_BYTES < size = page_begins size place under in
        length-append (joined org ws n place t) (unwrap_or (piece_of org ws n place t) [])
        ∙ ap₂ ◌+◌ (whole_length place (omega (arith, under))) (whole_piece place under) ∙ omega (arith, begins)

    -- a whole text has its size
    pub whole_size : length (text_of org ws n size t) ≡ size
    whole_size = whole_length (pages_for size) (omega arith) ∙ (let hold = pages_hold size in omega (arith, hold))

-- ---- pieces that stay

module _ (o w : List ℕ) (m : ℕ) (t u : Tables) (stay : (q : ℕ) → piece_of o w m q u ≡ piece_of o w m q t) where
  pub whole_stays : (size : ℕ) → IsWhole o w m size t → IsWhole o w m size u
  whole_stays size whole place below = let there = whole place below in (there.0, stay place ∙ there.1, there.2)

  pub joined_stays : (place : ℕ) → joined o w m place u ≡ joined o w m place t
  joined_stays zero = refl
  joined_stays (suc place) = ap₂ ◌++◌ (joined_stays place) (ap (λ (p : Option (List ℕ)). unwrap_or p []) (stay place))

  pub text_stays : (size : ℕ) → text_of o w m size u ≡ text_of o w m size t
  text_stays size = joined_stays (pages_for size)

  pub compared_stays : (text : List ℕ) (place : ℕ) → are_pieces o w m text place u ≡ are_pieces o w m text place t
  compared_stays text zero = refl
  compared_stays text (suc place) = ap₂ ◌&&◌ (compared_stays text place) (ap (λ (p : Option (List ℕ)). bytes_eq (unwrap_or p []) (piece_at text place)) (stay place))

-- ---- a text compared

split_eq : (a b c d : List ℕ) → length a ≡ length c → bytes_eq (a ++ b) (c ++ d) ≡ (bytes_eq a c && bytes_eq b d)
split_eq a b c d same = both_ways (bytes_eq (a ++ b) (c ++ d)) (bytes_eq a c && bytes_eq b d) apart together
  where
    apart : bytes_eq (a ++ b) (c ++ d) ≡ true → (bytes_eq a c && bytes_eq b d) ≡ true
    apart e =
        let is : a ++ b ≡ c ++ d = (bytes_eq-Decides (a ++ b) (c ++ d)).0 e in
        let front : a ≡ c = sym (take_at a b (length a) refl) ∙ ap (take (length a)) is ∙ take_at c d (length a) (sym same) in
        let back : b ≡ d = sym (drop_at a b (length a) refl) ∙ ap (drop (length a)) is ∙ drop_at c d (length a) (sym same) in
        and_from (bytes_eq a c) (bytes_eq b d) ((bytes_eq-Decides a c).1 front) ((bytes_eq-Decides b d).1 back)

    together : (bytes_eq a c && bytes_eq b d) ≡ true → bytes_eq (a ++ b) (c ++ d) ≡ true
    together e =
        let both = and_parts (bytes_eq a c) (bytes_eq b d) e in
        (bytes_eq-Decides (a ++ b) (c ++ d)).1 (ap₂ ◌++◌ ((bytes_eq-Decides a c).0 both.0) ((bytes_eq-Decides b d).0 both.1))

module _ (org ws : List ℕ) (n : ℕ) (text : List ℕ) (t : Tables) (whole : IsWhole org ws n (length text) t) where
  same_so_far : (place : ℕ) → place ≤ pages_for (length text) → are_pieces org ws n text place t ≡ bytes_eq (joined org ws n place t) (take (place * PAGE_BYTES) text)
  same_so_far zero low = refl
  same_so_far (suc place) low =
      let piece = unwrap_or (piece_of org ws n place t) [] in
      let before : place ≤ pages_for (length text) = omega (arith, low) in
      let lengths : length (joined org ws n place t) ≡ length (take (place * PAGE_BYTES) text) = whole_length org ws n t (length text) whole place before ∙ sym (length-take (place * PAGE_BYTES) text) in
      ap (λ (b : Bool). b && bytes_eq piece (piece_at text place)) (same_so_far place before)
      ∙ sym (split_eq (joined org ws n place t) piece (take (place * PAGE_BYTES) text) (piece_at text place) lengths)
      ∙ ap (bytes_eq (joined org ws n place t ++ piece)) (sym (pieces_begin text place))

  -- page by page is the whole text compared, where the sizes are the same
  pub same_is : are_pieces org ws n text (pages_for (length text)) t ≡ bytes_eq (text_of org ws n (length text) t) text
  same_is = same_so_far (pages_for (length text)) (omega arith) ∙ ap (bytes_eq (text_of org ws n (length text) t)) (pieces_all_text text)
