-- The laws of versions by the tests of their rows.
use Rattle.checks.proofs.Outside.{◌≡◌, ℕ, ◌+◌, ◌-◌, ◌≤◌, ◌==◌, true, nat_le, List, [], ◌∷◌, map, filter, length, IsTrue, refl, sym, ap, ◌∙◌, subst, arith, nat_cmp, ◌↔◌, AllByRecursion, list_all, and_from, leb-true, le-leb, eqb-true, eq-eqb, length-map, sort_by, map-map, all_map, all_unmap, sort_by-map, first_of_both, second_of_both, Rises, IsVersion, AreVersions, IsNext, IsRetention, Kept, VersionRow, Tables, is_version_of, all_sorted, version_at, versions_at, HasNoGap, by_version, versions_sorted, all_unsorted}
use Rattle.basis.specs.declared.rows.VersionRow.{VersionRow as Cells}
use Rattle.machine.specs.declared.records.Version.{Version}
use Rattle.checks.specs.Versions.{is_version, version_number, rises, reaches, sorted, are_versions}
use Rattle.checks.specs.Workspaces.{its_of}
use Rattle.checks.proofs.TestLemmas.{at_most, below, both, all_tests}

-- ---- numbers

pub rises_tests : (low next : ℕ) (ns : List ℕ) → IsTrue (rises low ns next) ↔ Rises low ns next
rises_tests low next [] = (λ e. tt, λ rise. refl)
rises_tests low next (n ∷ ns) = let tests = both (both (below low n) (below n next)) (rises_tests n next ns) in (λ e. let rise = tests.0 e in (rise.0.0, rise.0.1, rise.1), λ rise. tests.1 ((rise.0, rise.1), rise.2))

-- numbers that rise are no more than there are up to the next one
spans : (low next n : ℕ) (ns : List ℕ) → Rises low (n ∷ ns) next → n + length (n ∷ ns) ≤ next
spans low next n [] rise = omega (arith, rise.1)
spans low next n (m ∷ ns) rise = omega (arith, rise.2.0, spans n next m ns rise.2)

filled : (low next n : ℕ) (ns : List ℕ) → Rises low (n ∷ ns) next → n + length (n ∷ ns) ≡ next → HasNoGap (n ∷ ns) next
filled low next n [] rise e = omega (arith, e)
filled low next n (m ∷ ns) rise e =
    let span : m + length (m ∷ ns) ≤ next = spans n next m ns rise.2 in
    (omega (arith, e, span, rise.2.0), filled n next m ns rise.2 (omega (arith, e, span, rise.2.0)))

fills : (next n : ℕ) (ns : List ℕ) → HasNoGap (n ∷ ns) next → n + length (n ∷ ns) ≡ next
fills next n [] gapless = omega (arith, gapless)
fills next n (m ∷ ns) gapless = omega (arith, gapless.0, fills next m ns gapless.1)

gapless_by_test : (low next : ℕ) (ns : List ℕ) → Rises low ns next → reaches ns next ≡ true → HasNoGap ns next
gapless_by_test low next [] rise h = tt
gapless_by_test low next (n ∷ ns) rise h =
    let below : n ≤ next = leb-true n next (first_of_both (nat_le n next) (next - n == length (n ∷ ns)) h) in
    let as_many : next - n ≡ length (n ∷ ns) = eqb-true (next - n) (length (n ∷ ns)) (second_of_both (nat_le n next) (next - n == length (n ∷ ns)) h) in
    filled low next n ns rise (omega (arith, below, as_many))

test_of_gapless : (next : ℕ) (ns : List ℕ) → HasNoGap ns next → reaches ns next ≡ true
test_of_gapless next [] gapless = refl
test_of_gapless next (n ∷ ns) gapless =
    let full : n + length (n ∷ ns) ≡ next = fills next n ns gapless in
    and_from (nat_le n next) (next - n == length (n ∷ ns)) (le-leb n next (omega (arith, full))) (eq-eqb (next - n) (length (n ∷ ns)) (omega (arith, full)))

-- ---- versions

module _ (t : Tables) (org ws : List ℕ) where
  abbrev vs : List Cells
  vs = its_of org ws t.versions

  abbrev ns : List ℕ
  ns = sorted (map version_number vs)

  abbrev value : Cells → Version
  value v = version_at t org ws v

  values_are : versions_at t org ws ≡ sort_by by_version (map value vs)
  values_are = versions_sorted t org ws ∙ ap (sort_by by_version) (sym (map-map value (λ (x : Kept VersionRow). x.1.it) (filter (is_version_of org ws) t.versions)))

  numbers_are : map (λ (v : Version). v.number) (versions_at t org ws) ≡ ns
  numbers_are = ap (map (λ (v : Version). v.number)) values_are ∙ sym (sort_by-map nat_cmp (λ (v : Version). v.number) (map value vs)) ∙ ap sorted (map-map (λ (v : Version). v.number) value vs)

  count_is : length (versions_at t org ws) ≡ length ns
  count_is = sym (length-map (versions_at t org ws) (λ (v : Version). v.number)) ∙ ap length numbers_are

  version_tests : (v : Cells) → IsTrue (is_version v) ↔ IsVersion (value v)
  version_tests v =
      let tests = both (both (at_most v.serial 9_223_372_036_854_775_807) (at_most (length v.lineage) 256)) (at_most v.created 253_402_300_799) in (
        λ e. let law = tests.0 e in let low = law.0.0 in record { serial = omega (arith, low); lineage = law.0.1; created = law.1 },
        λ law. let low = law.serial in tests.1 ((omega (arith, low), law.lineage), law.created),
      )

  each_tests : IsTrue (list_all is_version vs) ↔ AllByRecursion IsVersion (versions_at t org ws)
  each_tests =
      let tests = all_tests is_version (λ v. IsVersion (value v)) version_tests vs in
      subst (λ us. IsTrue (list_all is_version vs) ↔ AllByRecursion IsVersion us) (sym values_are)
      (λ e. all_sorted by_version IsVersion (map value vs) (all_map IsVersion value vs (tests.0 e)), λ all. tests.1 (all_unmap IsVersion value vs (all_unsorted by_version IsVersion (map value vs) all)))

  abbrev Laws : ℕ → ℕ → Type 0
  Laws retention next = (((length (versions_at t org ws) ≤ retention) × Rises 0 ns next) × IsTrue (reaches ns next)) × AllByRecursion IsVersion (versions_at t org ws)

  versions_tests : (retention next : ℕ) → IsTrue (are_versions retention next vs) ↔ Laws retention next
  versions_tests retention next = both (both (both (subst (λ n. IsTrue (nat_le (length ns) retention) ↔ (n ≤ retention)) (sym count_is) (at_most (length ns) retention)) (rises_tests 0 next ns)) (λ e. e, λ e. e)) each_tests

  -- the rows that pass denote lawful versions
  pub versions_by_test : (retention next : ℕ) → IsRetention retention → IsNext next → are_versions retention next vs ≡ true → AreVersions retention next (versions_at t org ws)
  versions_by_test retention next kept nexts e =
      let law = (versions_tests retention next).0 e in record { retention = kept; next = nexts; rise = subst (λ ms. Rises 0 ms next) (sym numbers_are) law.0.0.1; each = law.1; kept = law.0.0.0 }

  -- and none between them is missing
  pub no_gap_by_test : (retention next : ℕ) → are_versions retention next vs ≡ true → HasNoGap (map (λ (v : Version). v.number) (versions_at t org ws)) next
  no_gap_by_test retention next e = let law = (versions_tests retention next).0 e in subst (λ ms. HasNoGap ms next) (sym numbers_are) (gapless_by_test 0 next ns law.0.0.1 law.0.1)

  pub test_of_versions : (retention next : ℕ) → AreVersions retention next (versions_at t org ws) → HasNoGap (map (λ (v : Version). v.number) (versions_at t org ws)) next → are_versions retention next vs ≡ true
  test_of_versions retention next are gapless =
      (versions_tests retention next).1 (((are.kept, subst (λ ms. Rises 0 ms next) numbers_are are.rise), test_of_gapless next ns (subst (λ ms. HasNoGap ms next) numbers_are gapless)), are.each)
