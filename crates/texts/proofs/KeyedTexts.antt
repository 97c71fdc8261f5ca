-- Where each page has the key of its bytes, it has it after a text was put, and after one was taken away.
use Rattle.texts.proofs.Outside.{ℕ, zero, suc, List, Option, Some, None, Tables, PageId}
use Rattle.pages.proofs.KeyedPages.{AreKeyed, put_keyed, released_keyed}
use Rattle.texts.specs.Texts.{piece_at, pieces_added, KeysFit, page_at, place_removed, released_at, pieces_removed}

module _ (key_of : List ℕ → List ℕ) (org ws : List ℕ) (n : ℕ) where
  pub added_keyed : (keys : ℕ → List ℕ) (text : List ℕ) (places : ℕ) (t : Tables) → KeysFit key_of keys org ws n text places t → AreKeyed key_of t → AreKeyed key_of (pieces_added keys org ws n text places t)
  added_keyed keys text zero t fit keyed = keyed
  added_keyed keys text (suc place) t fit keyed = put_keyed key_of (keys place) (piece_at text place) (pieces_added keys org ws n text place t) fit.1 (added_keyed keys text place t fit.0 keyed)

  pub removed_keyed : (places : ℕ) (t : Tables) → AreKeyed key_of t → AreKeyed key_of (pieces_removed org ws n places t)
  removed_keyed zero t keyed = keyed
  removed_keyed (suc place) t keyed = go (page_at org ws n place (pieces_removed org ws n place t)) (removed_keyed place t keyed)
    where
      go : (o : Option PageId) → AreKeyed key_of (pieces_removed org ws n place t) → AreKeyed key_of (released_at o (place_removed org ws n place (pieces_removed org ws n place t)))
      go None before = before
      go (Some id) before = released_keyed key_of id.key id.twin (place_removed org ws n place (pieces_removed org ws n place t)) before
