-- Pages are apart exactly where their heads are.
use Rattle.std.proofs.Common.{◌≡◌, ◌↔◌, ℕ, false, ◌&&◌, ◌==◌, List, map}
use Rattle.checks.proofs.Outside.{bytes_eq, AreApart, ascending-map, ascending_from_map, PageHead, Kept, PageRow, Tables, is_page, head_in}

pub heads_apart : (key_of : List ℕ → List ℕ) (t : Tables) (xs : List (Kept PageRow))
    → AreApart (λ (a b : PageHead). bytes_eq b.key a.key && b.twin == a.twin) (map (head_in key_of t) xs) ↔ AreApart (λ a b. is_page a.1.key a.1.twin b) xs
heads_apart key_of t xs = (
  ascending_from_map (λ (a b : PageHead). (bytes_eq b.key a.key && b.twin == a.twin) ≡ false) (head_in key_of t) xs,
  ascending-map (λ (a b : PageHead). (bytes_eq b.key a.key && b.twin == a.twin) ≡ false) (head_in key_of t) xs,
)
