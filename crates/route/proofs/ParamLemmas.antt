-- What the parameters of a route take of a path that fits its pattern.
use Rattle.std.proofs.Common.{◌≡◌, ℕ, ◌+◌, ◌-◌, ◌==◌, ◌<◌, ◌≤◌, List, [], ◌∷◌, ◌++◌, length, drop, get_or, zip, Bool, true, false, cond, ◌&&◌, ltb, leb, refl, sym, ap, ◌∙◌, arith, IsUtf8, bytes_eq, length-append, append-nil, drop-drop, get_or-drop, take_at, ne_eqb}
use Rattle.std.proofs.Math.Bool.{and-false}
use Rattle.std.proofs.Math.Seq.{drop-append_seam}
use Rattle.std.proofs.lemmas.Bool.{lt-ltb, le-ltb, le-leb, and_parts}
use Rattle.matchit.specs.Params.{walk, wild_from, wild_stop, part_of, after_token, AllText}
use Rattle.matchit.specs.Seek.{has_slash}
use Rattle.basis.proofs.NameLemmas.{equal_bytes}
use Rattle.route.proofs.WalkLemmas.{Fits, fits_end, fits_byte, fits_last, fits_part, segment_cut}

-- the places of a text have these names, as many as the pattern has parameters
abbrev pub are_named : List ℕ → List ℕ → List (ℕ × ℕ) → List (List ℕ) → Bool
are_named text [] [] names = true
are_named text [] (place ∷ places) names = false
are_named text (x ∷ tail) [] names = cond (x == 256) false (are_named text tail [] names)
are_named text (x ∷ tail) (place ∷ places) [] = false
are_named text (x ∷ tail) (place ∷ places) (name ∷ names) =
    cond (x == 256) (bytes_eq (part_of text place.0 place.1) name && are_named text tail places names) (are_named text tail (place ∷ places) (name ∷ names))

named_on : (text tail : List ℕ) (x : ℕ) (places : List (ℕ × ℕ)) (names : List (List ℕ)) → (x == 256) ≡ false
    → are_named text (x ∷ tail) places names ≡ true → are_named text tail places names ≡ true
named_on text tail x [] names e h = rw e at h
named_on text tail x (place ∷ places) [] e h = cc
named_on text tail x (place ∷ places) (name ∷ names) e h = rw e at h

none_named : (text : List ℕ) (places : List (ℕ × ℕ)) (names : List (List ℕ)) → are_named text [] places names ≡ true → places ≡ []
none_named text [] names h = refl
none_named text (place ∷ places) names h = cc

zip_none : (names : List (List ℕ)) → zip {X = List ℕ} names [] ≡ []
zip_none [] = refl
zip_none (name ∷ names) = refl

drop_on : (n x : ℕ) (l more : List ℕ) → drop n l ≡ x ∷ more → drop (n + 1) l ≡ more
drop_on n x l more e = sym (drop-drop 1 n l) ∙ ap (drop 1) e

part_between : (path part more : List ℕ) (at : ℕ) → drop at path ≡ part ++ more → at + length part ≤ length path → part_of path at (at + length part) ≡ part
part_between path part more at e l =
    let up : leb at (at + length part) ≡ true = le-leb at (at + length part) (omega arith) in
    let within : leb (at + length part) (length path) ≡ true = le-leb (at + length part) (length path) l in
    let less : at + length part - at ≡ length part = omega arith in
    rw (up, within, less, e) (take_at part more (length part) refl)

module _ (pattern text path : List ℕ) (short : length pattern < 1000) where
  -- a byte of the pattern stands for a byte of the path
  walk_on : (places : List (ℕ × ℕ)) (token at x : ℕ) (tail : List ℕ) → drop token pattern ≡ x ∷ tail → x < 256 → at < length path
      → walk pattern text path places token at ≡ walk pattern text path places (token + 1) (at + 1)
  walk_on [] token at x tail e small l = refl
  walk_on (place ∷ places) token at x tail e small l =
      let on = drop_on token x pattern tail e in
      let byte : ltb x 256 ≡ true = lt-ltb x 256 small in
      let within : ltb at (length path) ≡ true = lt-ltb at (length path) l in
      let wild : wild_from (drop token pattern) (length path) token at ≡ wild_from (drop (token + 1) pattern) (length path) (token + 1) (at + 1) = rw (e, on, byte, within) refl in
      ap (λ z. (part_of text place.0 place.1, part_of path z.1 (wild_stop pattern z.0 path z.1)) ∷ walk pattern text path places (after_token z.0) (wild_stop pattern z.0 path z.1)) wild

  stop_last : (token at : ℕ) → token + 1 ≡ length pattern → wild_stop pattern token path at ≡ length path
  stop_last token at e =
      let over : ltb (token + 1) (length pattern) ≡ false = le-ltb (token + 1) (length pattern) (omega arith) in
      rw (over, and-false (ltb token (length pattern) && get_or pattern token 0 == 256)) refl

  stop_inner : (token at : ℕ) (tail p rest : List ℕ) → drop token pattern ≡ 256 ∷ 47 ∷ tail → drop at path ≡ p ++ 47 ∷ rest → has_slash p ≡ false
      → token + 1 < length pattern → wild_stop pattern token path at ≡ at + length p
  stop_inner token at tail p rest e f plain l =
      let on = drop_on token 256 pattern (47 ∷ tail) e in
      let here : get_or pattern token 0 ≡ 256 = ap (λ n. get_or pattern n 0) (omega arith) ∙ sym (get_or-drop token pattern 0 0) ∙ ap (λ l. get_or l 0 0) e in
      let first : ltb token (length pattern) ≡ true = lt-ltb token (length pattern) (omega arith) in
      let second : ltb (token + 1) (length pattern) ≡ true = lt-ltb (token + 1) (length pattern) l in
      rw (here, first, second, on, f, segment_cut p rest plain, length-append p (47 ∷ [])) (omega arith)

  -- a parameter takes its part
  walk_pair : (places : List (ℕ × ℕ)) (token at : ℕ) (place : ℕ × ℕ) (name p tail rest : List ℕ) → drop token pattern ≡ 256 ∷ tail → drop at path ≡ p ++ rest
      → wild_stop pattern token path at ≡ at + length p → token < length pattern → at + length p ≤ length path → bytes_eq (part_of text place.0 place.1) name ≡ true
      → walk pattern text path (place ∷ places) token at ≡ (name, p) ∷ walk pattern text path places (token + 1) (at + length p)
  walk_pair places token at place name p tail rest d e stop l m h =
      let on : after_token token ≡ token + 1 = omega arith in
      rw (d, stop, on, part_between path p rest at e m, equal_bytes (part_of text place.0 place.1) name h) refl

  pub walk_fits : (tail rest : List ℕ) (parts : List (List ℕ)) → Fits tail rest parts → (places : List (ℕ × ℕ)) (names : List (List ℕ)) (token at : ℕ)
      → drop token pattern ≡ tail → drop at path ≡ rest → token + length tail ≡ length pattern → at + length rest ≡ length path
      → are_named text tail places names ≡ true → walk pattern text path places token at ≡ zip names parts
  walk_fits _ _ _ fits_end places names token at d e l m h = rw (none_named text places names h, zip_none names) refl
  walk_fits _ _ _ (fits_byte x tail rest parts small fits) places names token at d e l m h =
      let other : (x == 256) ≡ false = ne_eqb x 256 (λ z. omega arith) in
      walk_on places token at x tail d small (omega arith)
      ∙ walk_fits tail rest parts fits places names (token + 1) (at + 1) (drop_on token x pattern tail d) (drop_on at x path rest e) (omega arith) (omega arith) (named_on text tail x places names other h)
  walk_fits _ _ _ (fits_last p u) [] names token at d e l m h = cc
  walk_fits _ _ _ (fits_last p u) (place ∷ places) [] token at d e l m h = cc
  walk_fits _ _ _ (fits_last p u) (place ∷ places) (name ∷ names) token at d e l m h =
      let both = and_parts (bytes_eq (part_of text place.0 place.1) name) (are_named text [] places names) h in
      walk_pair places token at place name p [] [] d (e ∙ sym (append-nil p)) (stop_last token at (omega arith) ∙ sym m) (omega arith) (omega arith) both.0
      ∙ rw (none_named text places names both.1, zip_none names) refl
  walk_fits _ _ _ (fits_part p tail rest parts u plain fits) [] names token at d e l m h = cc
  walk_fits _ _ _ (fits_part p tail rest parts u plain fits) (place ∷ places) [] token at d e l m h = cc
  walk_fits _ _ _ (fits_part p tail rest parts u plain fits) (place ∷ places) (name ∷ names) token at d e l m h =
      let both = and_parts (bytes_eq (part_of text place.0 place.1) name) (are_named text (47 ∷ tail) places names) h in
      let long : length (p ++ 47 ∷ rest) ≡ length p + length (47 ∷ rest) = length-append p (47 ∷ rest) in
      let after : drop (at + length p) path ≡ 47 ∷ rest = sym (drop-drop (length p) at path) ∙ ap (drop (length p)) e ∙ drop-append_seam p (47 ∷ rest) in
      walk_pair places token at place name p (47 ∷ tail) (47 ∷ rest) d e (stop_inner token at tail p rest d e plain (omega arith)) (omega arith) (omega arith) both.0
      ∙ ap (λ l. (name, p) ∷ l) (walk_fits (47 ∷ tail) (47 ∷ rest) parts fits places names (token + 1) (at + length p) (drop_on token 256 pattern (47 ∷ tail) d) after (omega arith) (omega arith) both.1)

-- the parts and their names are text
abbrev pub AreText : List (List ℕ) → Type 0
AreText [] = Unit {0}
AreText (name ∷ names) = IsUtf8 name × AreText names

pub fits_text : (tail path : List ℕ) (parts : List (List ℕ)) → Fits tail path parts → (names : List (List ℕ)) → AreText names → AllText (zip names parts)
fits_text tail path parts fits [] n = tt
fits_text _ _ _ fits_end (name ∷ names) n = tt
fits_text _ _ _ (fits_byte x tail path parts small fits) (name ∷ names) n = fits_text tail path parts fits (name ∷ names) n
fits_text _ _ _ (fits_last p u) (name ∷ names) n = (n.0, u, rw (zip_none names) tt)
fits_text _ _ _ (fits_part p tail path parts u plain fits) (name ∷ names) n =
    (n.0, u, fits_text (47 ∷ tail) (47 ∷ path) parts fits names n.1)
