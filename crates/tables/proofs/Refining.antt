-- An operator's command on sound rows does what the rule says of its organization's record, and nothing else; so it is of the store.
use Rattle.tables.proofs.Outside.{◌≡◌, ◌≢◌, ℕ, ◌≤◌, ◌||◌, List, length, is_some, Option, Some, None, IfSome, IsTrue, refl, sym, ◌∙◌, subst, Database, State, is_org_name, is_prefix, Role, Bounds, IsMoment, Effect, effect, token_of, Organization, AdminAnswer, Exists, Absent, cap_of, role_of_name, role_of_digest, Tables, Holds, tables_of}
use Rattle.machine.specs.Tokens as tokens
use Rattle.tables.specs.Inner.Steps.{Commits, org_managed_by, org_managed, limit_managed_by, limit_managed, token_managed_by, token_managed, revocation_managed_by, revocation_managed}
use Rattle.tables.specs.Opening.{IsSoundKeep}
use Rattle.tables.specs.Records.{record_of}
use Rattle.tables.specs.Remembered.{nothing_kept}
use Rattle.tables.specs.Scans.{ArePagesKeyed}
use Rattle.tables.specs.Sound.{IsSound}
use Rattle.tables.specs.Stores.{records_of}
use Rattle.tables.specs.declared.memo.Memo.{Memo}
use Rattle.tables.proofs.Databases.{store_by, records_by}
use Rattle.tables.proofs.KeepKeyed.{keyed_held}
use Rattle.tables.proofs.Kept.{org_added_keeps, token_added_keeps}
use Rattle.tables.proofs.KeptInMemory.{nothing_is}
use Rattle.tables.proofs.Limits.{limit_absent, limit_done, limit_other, limit_keeps}
use Rattle.tables.proofs.Managed.{org_exists, org_done, org_other, token_absent, token_named, token_known, token_done, token_other}
use Rattle.tables.proofs.Revoking.{revoke_absent, revoke_done, revoke_other, revoke_keeps}

-- The answer and the organization's record are the rule's; every other record stays, the rows are sound, and pages stay under their keys.
pub record Refines (org : List ℕ) (after : Effect AdminAnswer (Option Organization)) (t : Tables) (e : Effect AdminAnswer Tables) : Type 0 where
  pub own : effect e.answer (record_of e.left org) ≡ after
  pub others : (q : List ℕ) → q ≢ org → record_of e.left q ≡ record_of t q
  pub sound : IsSound e.left
  pub keyed : (key_of : List ℕ → List ℕ) → ArePagesKeyed key_of t → ArePagesKeyed key_of e.left

-- ---- each command

module _ (t : Tables) (sound : IsSound t) (org : List ℕ) where
  -- nothing was done
  none_done : (answer : AdminAnswer) (after : Effect AdminAnswer (Option Organization)) → effect answer (record_of t org) ≡ after → Refines org after t (effect answer t)
  none_done answer after is = record { own = is; others = λ q apart. refl; sound = sound; keyed = λ key_of keyed. keyed }

  pub org_refines : (limit : ℕ) → IsTrue (is_org_name org) → limit ≤ 100_000 → Refines org (tokens.org_added limit (record_of t org)) t (org_managed org limit t)
  org_refines limit named most = go (cap_of org t) refl
    where
      go : (c : Option ℕ) → cap_of org t ≡ c → Refines org (tokens.org_added limit (record_of t org)) t (org_managed_by c org limit t)
      go None e = record { own = org_done t sound org limit e; others = org_other t sound org limit; sound = org_added_keeps org limit t sound named most e; keyed = λ key_of keyed. keyed }
      go (Some cap) e = none_done Exists (tokens.org_added limit (record_of t org)) (org_exists t sound org limit cap e)

  pub limit_refines : (limit : ℕ) → limit ≤ 100_000 → Refines org (tokens.org_limited limit (record_of t org)) t (limit_managed org limit t)
  limit_refines limit most = go (cap_of org t) refl
    where
      go : (c : Option ℕ) → cap_of org t ≡ c → Refines org (tokens.org_limited limit (record_of t org)) t (limit_managed_by c org limit t)
      go None e = none_done Absent (tokens.org_limited limit (record_of t org)) (limit_absent org limit t e)
      go (Some cap) e = record { own = limit_done org limit t cap e; others = limit_other org limit t; sound = limit_keeps org limit t cap e sound most; keyed = λ key_of keyed. keyed }

  pub revocation_refines : (name : List ℕ) → Refines org (tokens.token_revoked name (record_of t org)) t (revocation_managed org name t)
  revocation_refines name = go (role_of_name org name t) refl
    where
      go : (r : Option Role) → role_of_name org name t ≡ r → Refines org (tokens.token_revoked name (record_of t org)) t (revocation_managed_by r org name t)
      go None e = none_done Absent (tokens.token_revoked name (record_of t org)) (revoke_absent org name t e)
      go (Some role) e = record { own = revoke_done org name t sound role e; others = revoke_other org name t; sound = revoke_keeps org name t sound; keyed = λ key_of keyed. keyed }

  module _ (name digest : List ℕ) (role : Role) (bounds : Bounds) where
    abbrev after : Effect AdminAnswer (Option Organization)
    after = tokens.token_added name (token_of digest role bounds) (record_of t org)

    pub token_refines : IsTrue (is_org_name name) → length digest ≡ 32 → IfSome bounds.until IsMoment → IsTrue (is_prefix bounds.prefix) → Refines org after t (token_managed org name digest role bounds t)
    token_refines named long ends begins = go (cap_of org t) (role_of_name org name t) (role_of_digest org digest t) refl refl refl
      where
        go : (c : Option ℕ) (n d : Option Role) → cap_of org t ≡ c → role_of_name org name t ≡ n → role_of_digest org digest t ≡ d
            → Refines org after t (token_managed_by c (is_some n || is_some d) org name digest role bounds t)
        go None n d e f h = none_done Absent after (token_absent t sound org name digest role bounds e)
        go (Some cap) (Some r) d e f h = none_done Exists after (token_named t sound org name digest role bounds cap e r f)
        go (Some cap) None (Some r) e f h = none_done Exists after (token_known t sound org name digest role bounds cap e r h)
        go (Some cap) None None e f h = record {
          own = token_done t sound org name digest role bounds cap e f h;
          others = token_other t sound org name digest role bounds;
          sound = token_added_keeps org name digest role bounds t sound named long ends begins cap e f h;
          keyed = λ key_of keyed. keyed;
        }

-- ---- the store, once a command is committed

module _ {memo : Memo} (db : Database) (a b : State) (s : IsSoundKeep db memo a) (org : List ℕ) (answer : AdminAnswer) (after : Effect AdminAnswer (Option Organization)) (command : Tables → Effect AdminAnswer Tables)
    (m : Commits (λ t. (command t).left) (λ t. answer ≡ (command t).answer) a b) (is : Refines org after (tables_of db) (command (tables_of db))) where
  before : Holds a.committed (tables_of db)
  before = subst (λ (d : Database). Holds d (tables_of db)) (sym (s.tied m.was_open)) s.store.holds

  behind : Holds b.committed (command (tables_of db)).left
  behind = m.rows (tables_of db) before

  pub managed_own : effect answer (records_of b.committed org) ≡ after
  managed_own = (λ i. effect (m.reports (tables_of db) before i) (records_by b.committed (command (tables_of db)).left behind org i)) ∙ is.own

  pub managed_others : (q : List ℕ) → q ≢ org → records_of b.committed q ≡ records_of db q
  managed_others q apart = records_by b.committed (command (tables_of db)).left behind q ∙ is.others q apart

  pub managed_keeps : IsSoundKeep b.committed nothing_kept b
  managed_keeps = record { store = store_by b.committed (command (tables_of db)).left behind is.sound; remembered = nothing_is (tables_of b.committed); tied = λ _. refl }

  pub managed_keyed : (key_of : List ℕ → List ℕ) → ArePagesKeyed key_of (tables_of db) → ArePagesKeyed key_of (tables_of b.committed)
  managed_keyed key_of keyed = keyed_held key_of b.committed (command (tables_of db)).left behind (is.keyed key_of keyed)
