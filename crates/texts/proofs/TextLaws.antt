-- What putting a text and taking it away leave of the texts of versions: soundness, the text itself, and every other.
use Rattle.texts.proofs.Outside.{◌≡◌, ◌<◌, ℕ, false, List, [], ◌∷◌, length, find, Some, None, refl, sym, ap, ◌∙◌, subst, AllByRecursion, false_from_ne_true, true≢false, all_weaker, Kept, PageRow, VpageRow, Tables, no_rows, none_passes, none_found, page_bytes}
use Rattle.texts.specs.Texts.{is_place_of, is_place, pages_for, piece_at, page_at, piece_of, text_added, text_removed, text_of, TwinsFit, are_pieces, IsWhole, HasNoPlaces, HasSoundPlaces}
use Rattle.texts.proofs.PlaceLaws.{IsOtherVersion, other_version, other_rows, version_parts, version_from, place_from, piece_stays}
use Rattle.texts.proofs.PieceLaws.{whole_stays, text_stays, compared_stays, text_pieces, pieces_whole}
use Rattle.texts.proofs.AddedLaws.{pieces_find, pieces_all, pieces_rest, pieces_sound, pieces_stay, pieces_own}
use Rattle.texts.proofs.RemovedLaws.{gone_all, gone_rest, gone_places, gone_sound, gone_stay}

-- ---- a version with no row

module _ (org ws : List ℕ) (n : ℕ) (xs : List (Kept VpageRow)) where
  abbrev pub IsElsewhere : Kept VpageRow → Type 0
  IsElsewhere x = ¬ ((x.1.org ≡ org) × ((x.1.ws ≡ ws) × (x.1.number ≡ n)))

  -- each row is of another version
  pub rows_elsewhere : find (is_place_of org ws n) xs ≡ None → AllByRecursion IsElsewhere xs
  rows_elsewhere none = all_weaker (λ x. is_place_of org ws n x ≡ false) IsElsewhere (λ x e same. true≢false (sym (version_from org ws n x same.0 same.1.0 same.1.1) ∙ e)) xs (none_passes (is_place_of org ws n) xs none)

  pub none_elsewhere : AllByRecursion IsElsewhere xs → find (is_place_of org ws n) xs ≡ None
  none_elsewhere all =
      none_found (is_place_of org ws n) xs (all_weaker IsElsewhere (λ x. is_place_of org ws n x ≡ false) (λ x other. false_from_ne_true (is_place_of org ws n x) (λ e. other (version_parts org ws n x e))) xs all)

-- ---- a text that is put

module _ (keys : ℕ → List ℕ) (org ws : List ℕ) (n : ℕ) (text : List ℕ) (t : Tables) where
  -- places stay sound
  pub text_added_keeps : HasSoundPlaces t → HasNoPlaces org ws n t → TwinsFit keys org ws n text (pages_for (length text)) t → HasSoundPlaces (text_added keys org ws n text t)
  text_added_keeps sound none fit = pieces_sound keys org ws n text t sound none (pages_for (length text)) fit

  own_pieces : HasSoundPlaces t → HasNoPlaces org ws n t → TwinsFit keys org ws n text (pages_for (length text)) t → (q : ℕ) → q < pages_for (length text) → piece_of org ws n q (text_added keys org ws n text t) ≡ Some (piece_at text q)
  own_pieces sound none fit = pieces_own keys org ws n text t sound none (pages_for (length text)) fit

  -- the text is there, each page of it
  pub text_added_whole : HasSoundPlaces t → HasNoPlaces org ws n t → TwinsFit keys org ws n text (pages_for (length text)) t → IsWhole org ws n (length text) (text_added keys org ws n text t)
  text_added_whole sound none fit = pieces_whole org ws n (text_added keys org ws n text t) text (own_pieces sound none fit)

  -- what is read is what was put
  pub text_added_text : HasSoundPlaces t → HasNoPlaces org ws n t → TwinsFit keys org ws n text (pages_for (length text)) t → text_of org ws n (length text) (text_added keys org ws n text t) ≡ text
  text_added_text sound none fit = text_pieces org ws n (text_added keys org ws n text t) text (own_pieces sound none fit)

  -- every other version has its text
  module _ (sound : HasSoundPlaces t) (none : HasNoPlaces org ws n t) (fit : TwinsFit keys org ws n text (pages_for (length text)) t) (o w : List ℕ) (m : ℕ) (other : IsOtherVersion o w m org ws n) where
    pub text_added_others_pieces : (q : ℕ) → piece_of o w m q (text_added keys org ws n text t) ≡ piece_of o w m q t
    text_added_others_pieces q = pieces_stay keys org ws n text t sound none o w m q (pages_for (length text)) fit (λ r below. other_version o w m org ws n other q r)

    pub text_added_others_whole : (size : ℕ) → IsWhole o w m size t → IsWhole o w m size (text_added keys org ws n text t)
    text_added_others_whole = whole_stays o w m t (text_added keys org ws n text t) text_added_others_pieces

    pub text_added_others_text : (size : ℕ) → text_of o w m size (text_added keys org ws n text t) ≡ text_of o w m size t
    text_added_others_text = text_stays o w m t (text_added keys org ws n text t) text_added_others_pieces

  -- a version without a row is without one afterwards, if it is another one
  pub text_added_others_none : (o w : List ℕ) (m : ℕ) → IsOtherVersion o w m org ws n → HasNoPlaces o w m t → HasNoPlaces o w m (text_added keys org ws n text t)
  text_added_others_none o w m other none = pieces_find keys org ws n text t (is_place_of o w m) (pages_for (length text)) (λ q below. other_rows o w m org ws n other q) ∙ none

  -- a law on rows is kept that the version's new rows have
  pub text_added_places : (P : Kept VpageRow → Type 0) → AllByRecursion P t.vpages
      → ((x : Kept VpageRow) → x.1.org ≡ org → x.1.ws ≡ ws → x.1.number ≡ n → x.1.place < pages_for (length text) → P x) → AllByRecursion P (text_added keys org ws n text t).vpages
  text_added_places P all new = pieces_all keys org ws n text t P (pages_for (length text)) new all

  -- the other tables stay
  pub text_added_rest : text_added keys org ws n text t ≡ record t { pages = (text_added keys org ws n text t).pages; vpages = (text_added keys org ws n text t).vpages }
  text_added_rest = pieces_rest keys org ws n text t (pages_for (length text))

  pub text_added_metas : (text_added keys org ws n text t).metas ≡ t.metas
  text_added_metas = ap (λ (u : Tables). u.metas) text_added_rest

  pub text_added_orgs : (text_added keys org ws n text t).orgs ≡ t.orgs
  text_added_orgs = ap (λ (u : Tables). u.orgs) text_added_rest

  pub text_added_tokens : (text_added keys org ws n text t).tokens ≡ t.tokens
  text_added_tokens = ap (λ (u : Tables). u.tokens) text_added_rest

  pub text_added_wss : (text_added keys org ws n text t).wss ≡ t.wss
  text_added_wss = ap (λ (u : Tables). u.wss) text_added_rest

  pub text_added_versions : (text_added keys org ws n text t).versions ≡ t.versions
  text_added_versions = ap (λ (u : Tables). u.versions) text_added_rest

  pub text_added_runs : (text_added keys org ws n text t).runs ≡ t.runs
  text_added_runs = ap (λ (u : Tables). u.runs) text_added_rest

  pub text_added_bounds : (text_added keys org ws n text t).bounds ≡ t.bounds
  text_added_bounds = ap (λ (u : Tables). u.bounds) text_added_rest

  pub text_added_editions : (text_added keys org ws n text t).editions ≡ t.editions
  text_added_editions = ap (λ (u : Tables). u.editions) text_added_rest

  pub text_added_retentions : (text_added keys org ws n text t).retentions ≡ t.retentions
  text_added_retentions = ap (λ (u : Tables). u.retentions) text_added_rest

-- ---- a text that is taken away

module _ (org ws : List ℕ) (n size : ℕ) (t : Tables) where
  -- places stay sound
  pub text_removed_keeps : HasSoundPlaces t → IsWhole org ws n size t → HasSoundPlaces (text_removed org ws n size t)
  text_removed_keeps sound whole = gone_sound org ws n t sound (pages_for size)

  -- every other version has its text
  module _ (sound : HasSoundPlaces t) (whole : IsWhole org ws n size t) (o w : List ℕ) (m : ℕ) (other : IsOtherVersion o w m org ws n) where
    pub text_removed_others_pieces : (q : ℕ) → piece_of o w m q (text_removed org ws n size t) ≡ piece_of o w m q t
    text_removed_others_pieces q = gone_stay org ws n t sound o w m q (pages_for size) (λ r below. other_version o w m org ws n other q r)

    pub text_removed_others_whole : (others : ℕ) → IsWhole o w m others t → IsWhole o w m others (text_removed org ws n size t)
    text_removed_others_whole = whole_stays o w m t (text_removed org ws n size t) text_removed_others_pieces

    pub text_removed_others_text : (others : ℕ) → text_of o w m others (text_removed org ws n size t) ≡ text_of o w m others t
    text_removed_others_text = text_stays o w m t (text_removed org ws n size t) text_removed_others_pieces

  -- a law on rows is kept
  pub text_removed_places : (P : Kept VpageRow → Type 0) → AllByRecursion P t.vpages → AllByRecursion P (text_removed org ws n size t).vpages
  text_removed_places P = gone_all org ws n t P (pages_for size)

  -- a version without a row is without one afterwards
  pub text_removed_others_none : (o w : List ℕ) (m : ℕ) → HasNoPlaces o w m t → HasNoPlaces o w m (text_removed org ws n size t)
  text_removed_others_none o w m none = none_found (is_place_of o w m) (text_removed org ws n size t).vpages (text_removed_places (λ x. is_place_of o w m x ≡ false) (none_passes (is_place_of o w m) t.vpages none))

  -- where all rows of the version stand below the end of its text, none is left
  pub text_removed_none : HasSoundPlaces t
      → AllByRecursion (λ (x : Kept VpageRow). x.1.org ≡ org → x.1.ws ≡ ws → x.1.number ≡ n → x.1.place < pages_for size) t.vpages
      → IsWhole org ws n size t → HasNoPlaces org ws n (text_removed org ws n size t)
  text_removed_none sound below whole = none_found (is_place_of org ws n) left (go left (λ q under. none_passes (is_place org ws n q) left (gone_places org ws n t (pages_for size) q under)) (text_removed_places Below below))
    where
      left : List (Kept VpageRow)
      left = (text_removed org ws n size t).vpages

      Below : Kept VpageRow → Type 0
      Below x = x.1.org ≡ org → x.1.ws ≡ ws → x.1.number ≡ n → x.1.place < pages_for size

      go : (xs : List (Kept VpageRow)) → ((q : ℕ) → q < pages_for size → AllByRecursion (λ x. is_place org ws n q x ≡ false) xs) → AllByRecursion Below xs → AllByRecursion (λ x. is_place_of org ws n x ≡ false) xs
      go = elim [
        | [] ↦ λ gone all. tt
        | x ∷ (xs → more) ↦ λ gone all. (
          false_from_ne_true (is_place_of org ws n x) (λ e.
              let a = version_parts org ws n x e in
              true≢false (sym (place_from org ws n x x.1.place a.0 a.1.0 a.1.1 refl) ∙ (gone x.1.place (all.0 a.0 a.1.0 a.1.1)).0)),
          more (λ q under. (gone q under).1) all.1,
        )
      ]

  -- the other tables stay
  pub text_removed_rest : text_removed org ws n size t ≡ record t { pages = (text_removed org ws n size t).pages; vpages = (text_removed org ws n size t).vpages }
  text_removed_rest = gone_rest org ws n t (pages_for size)

  pub text_removed_metas : (text_removed org ws n size t).metas ≡ t.metas
  text_removed_metas = ap (λ (u : Tables). u.metas) text_removed_rest

  pub text_removed_orgs : (text_removed org ws n size t).orgs ≡ t.orgs
  text_removed_orgs = ap (λ (u : Tables). u.orgs) text_removed_rest

  pub text_removed_tokens : (text_removed org ws n size t).tokens ≡ t.tokens
  text_removed_tokens = ap (λ (u : Tables). u.tokens) text_removed_rest

  pub text_removed_wss : (text_removed org ws n size t).wss ≡ t.wss
  text_removed_wss = ap (λ (u : Tables). u.wss) text_removed_rest

  pub text_removed_versions : (text_removed org ws n size t).versions ≡ t.versions
  text_removed_versions = ap (λ (u : Tables). u.versions) text_removed_rest

  pub text_removed_runs : (text_removed org ws n size t).runs ≡ t.runs
  text_removed_runs = ap (λ (u : Tables). u.runs) text_removed_rest

  pub text_removed_bounds : (text_removed org ws n size t).bounds ≡ t.bounds
  text_removed_bounds = ap (λ (u : Tables). u.bounds) text_removed_rest

  pub text_removed_editions : (text_removed org ws n size t).editions ≡ t.editions
  text_removed_editions = ap (λ (u : Tables). u.editions) text_removed_rest

  pub text_removed_retentions : (text_removed org ws n size t).retentions ≡ t.retentions
  text_removed_retentions = ap (λ (u : Tables). u.retentions) text_removed_rest

-- ---- tables with the same pages and rows of vpage

module _ (t u : Tables) (pages : u.pages ≡ t.pages) (vpages : u.vpages ≡ t.vpages) where
  pub carried_piece : (o w : List ℕ) (m q : ℕ) → piece_of o w m q u ≡ piece_of o w m q t
  carried_piece o w m q =
      piece_stays o w m q t u (ap (λ (vs : List (Kept VpageRow)). page_at o w m q (record t { vpages = vs })) vpages) (λ id named. ap (λ (ps : List (Kept PageRow)). page_bytes id.key id.twin (record t { pages = ps })) pages)

  pub carried_whole : (o w : List ℕ) (m size : ℕ) → IsWhole o w m size t → IsWhole o w m size u
  carried_whole o w m = whole_stays o w m t u (carried_piece o w m)

  pub carried_text : (o w : List ℕ) (m size : ℕ) → text_of o w m size u ≡ text_of o w m size t
  carried_text o w m = text_stays o w m t u (carried_piece o w m)

  pub carried_compared : (o w : List ℕ) (m : ℕ) (text : List ℕ) (place : ℕ) → are_pieces o w m text place u ≡ are_pieces o w m text place t
  carried_compared o w m = compared_stays o w m t u (carried_piece o w m)

  pub carried_none : (o w : List ℕ) (m : ℕ) → HasNoPlaces o w m t → HasNoPlaces o w m u
  carried_none o w m none = ap (find (is_place_of o w m)) vpages ∙ none

  pub carried_places : (P : Kept VpageRow → Type 0) → AllByRecursion P t.vpages → AllByRecursion P u.vpages
  carried_places P = subst (AllByRecursion P) (sym vpages)

  pub carried_sound : HasSoundPlaces t → HasSoundPlaces u
  carried_sound sound = record { pages = record { apart = moved.pages.apart; differ = moved.pages.differ; used = moved.pages.used }; counted = moved.counted; apart = moved.apart }
    where
      same : HasSoundPlaces (record t { pages = t.pages; vpages = t.vpages })
      same = record { pages = record { apart = sound.pages.apart; differ = sound.pages.differ; used = sound.pages.used }; counted = sound.counted; apart = sound.apart }

      moved : HasSoundPlaces (record t { pages = u.pages; vpages = u.vpages })
      moved = subst (λ ps. HasSoundPlaces (record t { pages = ps; vpages = u.vpages })) (sym pages) (subst (λ vs. HasSoundPlaces (record t { pages = t.pages; vpages = vs })) (sym vpages) same)

-- where there is no row, places are sound
pub no_rows_sound : HasSoundPlaces no_rows
no_rows_sound = record { pages = record { apart = tt; differ = tt; used = tt }; counted = λ key twin. refl; apart = tt }
