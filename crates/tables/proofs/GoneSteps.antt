-- So many versions that go, one after the other, are all that go, where none is left behind them.
use Rattle.tables.proofs.Outside.{◌≡◌, ◌≤◌, ℕ, zero, suc, ◌+◌, ◌-◌, List, Option, None, refl, sym, ap, ◌∙◌, arith, Tables, oldest_below}
use Rattle.basis.specs.declared.rows.VersionRow.{VersionRow as Head}
use Rattle.tables.specs.Inner.Edits.{first_gone, oldest_gone, so_many_gone, most_gone, gone_below}

module _ (org ws : List ℕ) (below : ℕ) (t : Tables) where
  pub gone_one : oldest_gone org ws below t ≡ so_many_gone 1 org ws below t
  unfolding so_many_gone
  gone_one = refl

  pub gone_more : (many : ℕ) → oldest_gone org ws below (so_many_gone many org ws below t) ≡ so_many_gone (many + 1) org ws below t
  unfolding so_many_gone
  gone_more many = ap (λ (m : ℕ). so_many_gone m org ws below t) (let next : suc many ≡ many + 1 = omega arith in next)

  pub gone_all : (many : ℕ) → many ≡ most_gone → so_many_gone many org ws below t ≡ gone_below org ws below t
  unfolding gone_below
  gone_all many e = ap (λ (m : ℕ). so_many_gone m org ws below t) e

  -- where none is left, nothing goes
  stays : (u : Tables) → oldest_below org ws below u ≡ None → oldest_gone org ws below u ≡ u
  stays u none = ap (λ (o : Option Head). first_gone org ws o u) none

  none_more : (k many m : ℕ) → m ≡ k + many → oldest_below org ws below (so_many_gone many org ws below t) ≡ None → so_many_gone m org ws below t ≡ so_many_gone many org ws below t
  unfolding so_many_gone
  none_more zero many m e none = ap (λ (l : ℕ). so_many_gone l org ws below t) (let same : m ≡ many = omega (arith, e) in same)
  none_more (suc k) many m e none =
      let before = none_more k many (k + many) refl none in
      ap (λ (l : ℕ). so_many_gone l org ws below t) (let next : m ≡ suc (k + many) = omega (arith, e) in next)
      ∙ ap (oldest_gone org ws below) before ∙ stays (so_many_gone many org ws below t) none

  -- where none is left behind one more that went, these are all
  pub ended : (many : ℕ) → many + 1 ≤ most_gone → oldest_below org ws below (oldest_gone org ws below (so_many_gone many org ws below t)) ≡ None
      → oldest_gone org ws below (so_many_gone many org ws below t) ≡ gone_below org ws below t
  unfolding gone_below
  ended many few none =
      let more = gone_more many in
      more ∙ sym (none_more (most_gone - (many + 1)) (many + 1) most_gone (omega (arith, few)) (ap (oldest_below org ws below) (sym more) ∙ none))

  pub none_gone : oldest_below org ws below (oldest_gone org ws below t) ≡ None → oldest_gone org ws below t ≡ gone_below org ws below t
  unfolding so_many_gone
  none_gone none = ended 0 (omega arith) none

  -- where there is none, none is left
  pub none_stays : oldest_below org ws below t ≡ None → oldest_below org ws below (oldest_gone org ws below t) ≡ None
  none_stays none = ap (oldest_below org ws below) (stays t none) ∙ none
