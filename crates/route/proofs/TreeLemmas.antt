-- The rows of a tree of words and parameters read a path by its parts.
use Rattle.std.proofs.Common.{◌≡◌, ◌≢◌, ℕ, ◌+◌, ◌<◌, List, [], ◌∷◌, ◌++◌, length, drop, get_or, Option, Some, None, Bool, true, false, cond, ◌==◌, refl, sym, ap, subst, ◌∙◌, arith, inl, inr, ◌⊎◌, IsUtf8, length-append, drop-drop, take_at}
use Rattle.std.proofs.Math.Seq.{get_or-append_seam, drop-append_seam}
use Rattle.std.proofs.lemmas.Str.{IsUtf8-take, IsUtf8-drop, IsCharBoundary-before_ascii, IsCharBoundary-after_ascii}
use Rattle.std.specs.Str.{bytes_eq}
use Rattle.std.proofs.lemmas.Slice.Eq.{bytes_eq-Decides}
use Rattle.matchit.specs.Rows.{RowsOf}
use Rattle.matchit.specs.Seek.{own, step, seek, has_slash}
use Rattle.matchit.specs.Level.{IsText}
use Rattle.basis.proofs.NameLemmas.{equal_bytes}
use Rattle.route.specs.Paths.{path_parts, onto_first}
use Rattle.route.proofs.WalkLemmas.{Fits, fits_end, fits_byte, fits_last, fits_part, HasRow, plain_head, row_step, row_word, row_more, row_right, Cut, cut_path, all_words, steps, word_end, word_more, after, onward, after_nil, step_hit, step_onward, own_onward, hit, miss, name_nothing, name_empty, name_last, name_more, seek_none}

-- a path's bytes are UTF-8
abbrev pub IsStr : List ℕ → Type 0
IsStr path = IsText path × IsUtf8 path

text_cut : (p q : List ℕ) → IsText (p ++ 47 ∷ q) → IsText q
text_cut [] q h = h.1
text_cut (b ∷ p) q h = text_cut p q h.1

-- so are those of a part, and of what follows it
str_cut : (p q : List ℕ) → IsStr (p ++ 47 ∷ q) → IsUtf8 p × IsStr q
str_cut p q s =
    let whole : List ℕ = p ++ 47 ∷ q in
    let long : length p < length whole = simp length-append (omega arith) in
    let low : get_or whole (length p) 0 < 128 = rw (get_or-append_seam p 47 q 0) (omega arith) in
    let after : drop (length p + 1) whole ≡ q = sym (drop-drop 1 (length p) whole) ∙ ap (drop 1) (drop-append_seam p (47 ∷ q)) in (
      subst IsUtf8 (take_at p (47 ∷ q) (length p) refl) (IsUtf8-take whole (length p) s.1 (IsCharBoundary-before_ascii whole (length p) long low)),
      (text_cut p q s.0, subst IsUtf8 after (IsUtf8-drop whole (length p + 1) s.1 (IsCharBoundary-after_ascii whole (length p) s.1 long low))),
    )

-- a part has no slash, and what follows a slash has the further parts
parts_single : (p : List ℕ) → has_slash p ≡ false → path_parts p ≡ p ∷ []
parts_single [] h = refl
parts_single (b ∷ p) h =
    let plain = plain_head b p h in
    rw (plain.0, parts_single p plain.1) refl

parts_cut : (p rest : List ℕ) → has_slash p ≡ false → path_parts (p ++ 47 ∷ rest) ≡ p ∷ path_parts rest
parts_cut [] rest h = refl
parts_cut (b ∷ p) rest h =
    let plain = plain_head b p h in
    rw (plain.0, parts_cut p rest plain.1) refl

pub differs : (p w : List ℕ) → bytes_eq p w ≡ false → w ≢ p
differs p w h = λ e. let t : bytes_eq p w ≡ true = (bytes_eq-Decides p w).1 (sym e) in cc

-- a word fits itself
fits_word : (p : List ℕ) → IsText p → Fits p p []
fits_word [] t = fits_end
fits_word (b ∷ p) t = fits_byte b p p [] t.0 (fits_word p t.1)

fits_more : (p tail q : List ℕ) (parts : List (List ℕ)) → IsText (p ++ 47 ∷ q) → Fits tail q parts → Fits (p ++ 47 ∷ tail) (p ++ 47 ∷ q) parts
fits_more [] tail q parts t fits = fits_byte 47 tail q parts t.0 fits
fits_more (b ∷ p) tail q parts t fits = fits_byte b (p ++ 47 ∷ tail) (p ++ 47 ∷ q) parts t.0 (fits_more p tail q parts t.1 fits)

-- routes by their parts: a parameter or a word, what ends and what goes on behind it, and a word's other words
pub data Tree (K : Type 0) : Type 0 where
  nowhere : Tree K
  at_name : Option K → Tree K → Tree K
  at_word : List ℕ → Option K → Tree K → Tree K → Tree K

-- a route, and the parts that its parameters take
abbrev pub Taken : Type 0 → Type 0
Taken K = Option (K × List (List ℕ))

module _ {K : Type 0} where
  -- what a walk finds, with the parts that parameters take
  abbrev pub Finds : RowsOf K → List ℕ → Taken K → Type 0
  Finds r path None = seek 0 r path ≡ None
  Finds r path (Some found) = (seek 0 r path ≡ Some found.0) × ((tail : List ℕ) × HasRow tail found.0 r × Fits tail path found.1)

  abbrev pub taking : Option K → Taken K
  taking None = None
  taking (Some key) = Some (key, [])

  abbrev pub behind : List ℕ → Taken K → Taken K
  behind p None = None
  behind p (Some found) = Some (found.0, p ∷ found.1)

  abbrev pub end_or : Option K → Taken K → List (List ℕ) → Taken K
  end_or end later [] = taking end
  end_or end later (q ∷ parts) = later

  later_onto : (end : Option K) (later : Taken K) (b : ℕ) (parts : List (List ℕ)) → end_or end later (onto_first b parts) ≡ later
  later_onto end later b [] = refl
  later_onto end later b (part ∷ parts) = refl

  -- a path has a part
  is_later : (end : Option K) (later : Taken K) (path : List ℕ) → end_or end later (path_parts path) ≡ later
  is_later end later [] = refl
  is_later end later (b ∷ path) =
      elim (b == 47) as (λ v. end_or end later (cond v ([] ∷ path_parts path) (onto_first b (path_parts path))) ≡ later) [ true ↦ refl | false ↦ later_onto end later b (path_parts path) ]

  -- the route of a path's parts
  abbrev pub finds : Tree K → List (List ℕ) → Taken K
  finds nowhere parts = None
  finds (at_name end next) [] = None
  finds (at_name end next) ([] ∷ parts) = None
  finds (at_name end next) ((b ∷ p) ∷ parts) = behind (b ∷ p) (end_or end (finds next parts) parts)
  finds (at_word w end next others) [] = None
  finds (at_word w end next others) (p ∷ parts) = cond (bytes_eq p w) (end_or end (finds next parts) parts) (finds others (p ∷ parts))

  -- the rows of a tree
  abbrev pub rows : Tree K → RowsOf K
  rows nowhere = []
  rows (at_name end next) = after (256 ∷ []) (onward (rows next) end)
  rows (at_word w end next others) = after w (onward (rows next) end) ++ rows others

  -- words stand beside other words
  abbrev pub IsTree : Tree K → Type 0
  IsTree nowhere = Unit {0}
  IsTree (at_name end next) = IsTree next
  IsTree (at_word w end next others) =
      (has_slash w ≡ false) × (own (steps w (rows others)) ≡ None) × (step 47 (steps w (rows others)) ≡ [])
      × (all_words (rows (at_word w end next others)) ≡ true) × (all_words (rows others) ≡ true) × IsTree next × IsTree others

  finds_by : (r s : RowsOf K) (path q : List ℕ) (found : Taken K) → seek 0 r path ≡ seek 0 s q
      → ((tail : List ℕ) (key : K) (parts : List (List ℕ)) → HasRow tail key s → Fits tail q parts → (t : List ℕ) × HasRow t key r × Fits t path parts) → Finds s q found → Finds r path found
  finds_by r s path q None e f h = e ∙ h
  finds_by r s path q (Some found) e f h = (e ∙ h.0, f h.1.0 found.0 found.1 h.1.1 h.1.2)

  -- a parameter reads a part that isn't empty
  module _ (end : Option K) (next : Tree K) where
    abbrev named : RowsOf K
    named = rows (at_name end next)

    name_end : (p : List ℕ) (found : Option K) → seek 0 named p ≡ found → end ≡ found → IsUtf8 p → Finds named p (behind p (taking found))
    name_end p None e f utf = e
    name_end p (Some key) e f utf =
        let here : own (step 256 named) ≡ Some key = rw (step_hit 256 [] (onward (rows next) end), after_nil (onward (rows next) end)) (own_onward (rows next) end ∙ f) in
        (e, (256 ∷ [], row_step 256 [] key named (row_word [] key (step 256 named) here), fits_last p utf))

    name_next : (p q : List ℕ) (found : Taken K) → seek 0 named (p ++ 47 ∷ q) ≡ seek 0 (rows next) q
        → IsUtf8 p → has_slash p ≡ false → Finds (rows next) q found → Finds named (p ++ 47 ∷ q) (behind p found)
    name_next p q None e utf plain h = e ∙ h
    name_next p q (Some found) e utf plain h =
        let on : step 47 (step 256 named) ≡ rows next = rw (step_hit 256 [] (onward (rows next) end), after_nil (onward (rows next) end)) (step_onward (rows next) end) in (
          e ∙ h.0,
          (256 ∷ 47 ∷ h.1.0, row_step 256 (47 ∷ h.1.0) found.0 named (row_step 47 h.1.0 found.0 (step 256 named) (rw on h.1.1)), fits_part p h.1.0 q found.1 utf plain (fits_byte 47 h.1.0 q found.1 (omega arith) h.1.2)),
        )

    reads_name : ((q : List ℕ) → IsStr q → Finds (rows next) q (finds next (path_parts q))) → (path : List ℕ) → IsStr path
        → Finds named path (finds (at_name end next) (path_parts path))
    reads_name ih path s = by (cut_path path)
      where
        only : (p : List ℕ) → IsStr p → has_slash p ≡ false → Finds named p (finds (at_name end next) (p ∷ []))
        only [] s plain = name_nothing (rows next) end
        only (b ∷ p) s plain =
            let small : b < 256 = s.0.0 in
            name_end (b ∷ p) end (name_last (rows next) end b p (λ z. omega arith) plain) refl s.1

        more : (p q : List ℕ) → IsStr (p ++ 47 ∷ q) → has_slash p ≡ false → Finds named (p ++ 47 ∷ q) (finds (at_name end next) (p ∷ path_parts q))
        more [] q s plain = name_empty (rows next) end q
        more (b ∷ p) q s plain =
            let small : b < 256 = s.0.0 in
            let cut = str_cut (b ∷ p) q s in
            rw (is_later end (finds next (path_parts q)) q)
            (name_next (b ∷ p) q (finds next (path_parts q)) (name_more (rows next) end b p q (λ z. omega arith) plain) cut.0 plain (ih q cut.1))

        by : (has_slash path ≡ false) ⊎ Cut path → Finds named path (finds (at_name end next) (path_parts path))
        by (inl plain) = rw (parts_single path plain) (only path s plain)
        by (inr c) = rw (c.whole, parts_cut c.part c.rest c.plain) (more c.part c.rest (subst IsStr c.whole s) c.plain)

  -- a word reads itself, and leaves what is another one
  module _ (w : List ℕ) (end : Option K) (next others : Tree K) (good : IsTree (at_word w end next others)) where
    abbrev r : RowsOf K
    r = rows (at_word w end next others)

    word_here : (p : List ℕ) (found : Option K) → IsText p → own (steps p r) ≡ found
        → seek 0 r p ≡ found → Finds r p (taking found)
    word_here p None text o e = e
    word_here p (Some key) text o e = (e, (p, row_word p key r o, fits_word p text))

    reads_word : ((q : List ℕ) → IsStr q → Finds (rows next) q (finds next (path_parts q))) → (path : List ℕ) → IsStr path
        → Finds (rows others) path (finds others (path_parts path)) → Finds r path (finds (at_word w end next others) (path_parts path))
    reads_word ih path s left = by (cut_path path)
      where
        only : (v : Bool) → bytes_eq path w ≡ v → has_slash path ≡ false → Finds r path (cond v (taking end) (finds others (path ∷ [])))
        only true e plain =
            let o : own (steps path r) ≡ end = rw (equal_bytes path w e) (hit w (rows next) end (rows others) good.1 good.2).0 in
            word_here path end s.0 o (word_end path r good.3 plain ∙ o)
        only false e plain =
            finds_by r (rows others) path path (finds others (path ∷ []))
            (word_end path r good.3 plain ∙ (miss path w (rows next) end (rows others) (λ z. differs path w e (sym z)) plain good.0).0 ∙ sym (word_end path (rows others) good.4 plain))
            (λ tail key parts h f. (tail, row_right tail key (after w (onward (rows next) end)) (rows others) h, f)) (rw (parts_single path plain) at left)

        more : (p q : List ℕ) → (v : Bool) → bytes_eq p w ≡ v → has_slash p ≡ false → IsStr (p ++ 47 ∷ q) → Finds (rows others) (p ++ 47 ∷ q) (finds others (p ∷ path_parts q))
            → Finds r (p ++ 47 ∷ q) (cond v (finds next (path_parts q)) (finds others (p ∷ path_parts q)))
        more p q true e plain s left =
            let o : step 47 (steps p r) ≡ rows next = rw (equal_bytes p w e) (hit w (rows next) end (rows others) good.1 good.2).1 in
            finds_by r (rows next) (p ++ 47 ∷ q) q (finds next (path_parts q)) (word_more p q r good.3 plain ∙ ap (λ z. seek 0 z q) o)
            (λ tail key parts h f. (p ++ 47 ∷ tail, row_more p tail key r (rw o h), fits_more p tail q parts s.0 f)) (ih q (str_cut p q s).1)
        more p q false e plain s left =
            finds_by r (rows others) (p ++ 47 ∷ q) (p ++ 47 ∷ q) (finds others (p ∷ path_parts q))
            (word_more p q r good.3 plain ∙ ap (λ z. seek 0 z q) (miss p w (rows next) end (rows others) (λ z. differs p w e (sym z)) plain good.0).1 ∙ sym (word_more p q (rows others) good.4 plain))
            (λ tail key parts h f. (tail, row_right tail key (after w (onward (rows next) end)) (rows others) h, f)) left

        by : (has_slash path ≡ false) ⊎ Cut path → Finds r path (finds (at_word w end next others) (path_parts path))
        by (inl plain) = rw (parts_single path plain) (only (bytes_eq path w) refl plain)
        by (inr c) =
            rw (c.whole, parts_cut c.part c.rest c.plain, is_later end (finds next (path_parts c.rest)) c.rest)
            (more c.part c.rest (bytes_eq c.part w) refl c.plain (subst IsStr c.whole s) (rw (c.whole, parts_cut c.part c.rest c.plain) at left))

  pub reads : (t : Tree K) → IsTree t → (path : List ℕ) → IsStr path → Finds (rows t) path (finds t (path_parts path))
  reads nowhere good path s = seek_none 0 path
  reads (at_name end next) good path s = reads_name end next (reads next good) path s
  reads (at_word w end next others) good path s = reads_word w end next others good (reads next good.5) path s (reads others good.6 path s)
