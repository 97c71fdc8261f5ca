-- What the checks look for is that the tables are sound.
use Rattle.checks.proofs.Outside.{◌≡◌, ℕ, List, sym, subst, Rows, Tables, AreRowsOf, ArePagesKeyed, IsSound}
use Rattle.checks.specs.Judging.{Judges}
use Rattle.checks.specs.Faults.{rows_of, OfRows, OfTables, IsFaultOf}
use Rattle.checks.specs.Missing.{HasEveryRun}
use Rattle.checks.specs.declared.found.Found.{Found}
use Rattle.checks.specs.Inner.Counts.{AreFew}
use Rattle.checks.specs.Inner.Places.{AreTextsSound}
use Rattle.checks.specs.Inner.Workspaces.{AreLawfulWss, HasWsRows}
use Rattle.checks.specs.Inner.FaultChecks.{AreRowsFit}
use Rattle.checks.proofs.JudgingLemmas.{judges_both, judges_as}
use Rattle.checks.proofs.WsTies.{named_by_rows, rows_by_name, counts_by_rows, rows_by_counts}

pub rows_are : (key_of : List ℕ → List ℕ) (t : Tables) (rows : Rows) → AreRowsOf key_of t rows → rows ≡ rows_of key_of t
rows_are key_of t rows are = λ i. record {
  metas = are.metas i;
  orgs = are.orgs i;
  tokens = are.tokens i;
  wss = are.wss i;
  versions = are.versions i;
  runs = are.runs i;
  pages = are.pages i;
  vpages = are.vpages i;
  bounds = are.bounds i;
  editions = are.editions i;
  retentions = are.retentions i;
}

pub ws_rows : (key_of : List ℕ → List ℕ) (t : Tables) (rows : Rows) → AreRowsOf key_of t rows → HasWsRows rows t
ws_rows key_of t rows are = record { wss = sym are.wss; versions = sym are.versions; runs = sym are.runs; retentions = sym are.retentions }

-- ---- all of them

module _ (key_of : List ℕ → List ℕ) (t : Tables) where
  sound_to : AreRowsFit (rows_of key_of t) → AreTextsSound key_of t → AreFew t.wss → AreLawfulWss t → IsSound t
  sound_to fit texts few lawful = record {
    reported = fit.ranges.reported;
    accounts = record {
      orgs_apart = fit.names.orgs;
      tokens_apart = fit.names.tokens;
      digests_apart = fit.names.digests;
      bounds_apart = fit.others.bounds;
      tokens_bound = fit.tokens.bound;
      tokens_owned = fit.tokens.tokens;
      bounds_owned = fit.tokens.bounds;
      org_rows = fit.ranges.orgs;
      token_rows = fit.ranges.tokens;
      bound_rows = fit.ranges.bounds;
    };
    owned = record {
      wss_apart = fit.names.wss;
      retentions_apart = fit.others.retentions;
      wss_kept = fit.owned.kept;
      wss_owned = fit.owned.wss;
      retentions_owned = fit.owned.retentions;
      versions_owned = fit.owned.versions;
      runs_owned = fit.owned.runs;
    };
    contents = record { places = texts.places; placed = texts.placed; texts = texts.texts };
    counts = counts_by_rows t fit.names.wss few;
    workspaces = named_by_rows t lawful;
  }

  rows_from : IsSound t → AreRowsFit (rows_of key_of t)
  rows_from s = record {
    names = record { orgs = s.orgs_apart; tokens = s.tokens_apart; digests = s.digests_apart; wss = s.wss_apart };
    others = record { bounds = s.bounds_apart; retentions = s.retentions_apart };
    tokens = record { bound = s.tokens_bound; tokens = s.tokens_owned; bounds = s.bounds_owned };
    owned = record { kept = s.wss_kept; wss = s.wss_owned; retentions = s.retentions_owned; versions = s.versions_owned; runs = s.runs_owned };
    ranges = record { reported = s.reported; orgs = s.org_rows; tokens = s.token_rows; bounds = s.bound_rows };
  }

  texts_from : IsSound t → ArePagesKeyed key_of t → AreTextsSound key_of t
  texts_from s keyed = record { places = s.places; keyed = keyed; placed = s.placed; texts = s.texts }

  -- the checks at rows, and those at tables, look for what is promised
  pub judges_sound : (rows : Rows) (x y z : Found) → AreRowsOf key_of t rows → Judges (OfRows rows) (AreRowsFit rows) x y → Judges (OfTables rows) (AreTextsSound key_of t × AreFew t.wss × AreLawfulWss t × HasEveryRun t) y z
      → Judges (IsFaultOf rows) (IsSound t × ArePagesKeyed key_of t × HasEveryRun t) x z
  judges_sound rows x y z are one two =
      judges_as x z (λ laws. (sound_to laws.0 laws.1.0 laws.1.1 laws.1.2, laws.1.0.keyed, laws.1.3))
      (λ laws. (rows_from laws.0, (texts_from laws.0 laws.1, rows_by_counts t laws.0.wss_apart laws.0.wss_owned laws.0.counts, rows_by_name t laws.0.wss_apart laws.0.workspaces, laws.2)))
      (judges_both x y z (subst (λ (r : Rows). Judges (OfRows rows) (AreRowsFit r) x y) (rows_are key_of t rows are) one) two)
