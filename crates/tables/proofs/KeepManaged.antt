-- From what was looked at and one transaction to a command.
use Rattle.tables.proofs.Outside.{◌≡◌, ℕ, Bool, true, false, cond, List, is_some, is_none, Option, Some, None, IsTrue, sym, ap, subst, Database, State, Role, Bounds, Effect, effect, AdminAnswer, Done, Exists, Absent, org_row_added, org_capped, token_added, token_removed, cap_of, role_of_name, AnyRows, LeavesAsIs, Tables, Holds}
use Rattle.tables.specs.Inner.Steps.{IsAllCommitted, Commits, org_managed_by, org_managed, limit_managed_by, limit_managed, is_taken, token_managed_by, token_managed, revocation_managed_by, revocation_managed}

module _ (command : Tables → Effect AdminAnswer Tables) (a b d : State) (all_committed : IsAllCommitted a) where
  -- nothing was changed
  pub manages_none : (answer : AdminAnswer) → IsTrue a.is_open → IsTrue b.is_open → LeavesAsIs a b → ((t : Tables) → Holds a.now t → command t ≡ effect answer t) → Commits (λ t. (command t).left) (λ t. answer ≡ (command t).answer) a b
  manages_none answer was is stays means = record {
    reports = λ t held. sym (ap (λ (m : Effect AdminAnswer Tables). m.answer) (means t (subst (λ (db : Database). Holds db t) (sym (all_committed was)) held)));
    rows = λ t held.
        subst (Holds b.committed) (sym (ap (λ (m : Effect AdminAnswer Tables). m.left) (means t (subst (λ (db : Database). Holds db t) (sym (all_committed was)) held))))
        (subst (λ (db : Database). Holds db t) (sym stays.committed) held);
    was_open = was;
    is_open = is;
  }

  -- the change was made
  pub manages_one : (f : Tables → Tables) (answer : AdminAnswer) → LeavesAsIs a b → Commits f AnyRows b d → ((t : Tables) → Holds a.now t → command t ≡ effect answer (f t)) → Commits (λ t. (command t).left) (λ t. answer ≡ (command t).answer) a d
  manages_one f answer stays done means =
      let was = stays.was_open done.was_open in
      record {
        reports = λ t held. sym (ap (λ (m : Effect AdminAnswer Tables). m.answer) (means t (subst (λ (db : Database). Holds db t) (sym (all_committed was)) held)));
        rows = λ t held.
            subst (Holds d.committed) (sym (ap (λ (m : Effect AdminAnswer Tables). m.left) (means t (subst (λ (db : Database). Holds db t) (sym (all_committed was)) held))))
            (done.rows t (subst (λ (db : Database). Holds db t) (sym stays.committed) held));
        was_open = was;
        is_open = done.is_open;
      }

-- ---- an organization

pub org_there : (org : List ℕ) (limit : ℕ) (t : Tables) (o : Option ℕ) → is_some o ≡ true → o ≡ cap_of org t → org_managed org limit t ≡ effect Exists t
org_there org limit t None is e = absurd (cc)
org_there org limit t (Some cap) is e = ap (λ c. org_managed_by c org limit t) (sym e)

pub org_missing : (org : List ℕ) (limit : ℕ) (t : Tables) (o : Option ℕ) → is_some o ≡ false → o ≡ cap_of org t → org_managed org limit t ≡ effect Done (org_row_added org limit t)
org_missing org limit t None is e = ap (λ c. org_managed_by c org limit t) (sym e)
org_missing org limit t (Some cap) is e = absurd (cc)

pub limit_nowhere : (org : List ℕ) (limit : ℕ) (t : Tables) (o : Option ℕ) → is_none o ≡ true → o ≡ cap_of org t → limit_managed org limit t ≡ effect Absent t
limit_nowhere org limit t None is e = ap (λ c. limit_managed_by c org limit t) (sym e)
limit_nowhere org limit t (Some cap) is e = absurd (cc)

pub limit_there : (org : List ℕ) (limit : ℕ) (t : Tables) (o : Option ℕ) → is_none o ≡ false → o ≡ cap_of org t → limit_managed org limit t ≡ effect Done (org_capped org limit t)
limit_there org limit t None is e = absurd (cc)
limit_there org limit t (Some cap) is e = ap (λ c. limit_managed_by c org limit t) (sym e)

-- ---- a token

pub revocation_nowhere : (org name : List ℕ) (t : Tables) (o : Option Role) → is_none o ≡ true → o ≡ role_of_name org name t → revocation_managed org name t ≡ effect Absent t
revocation_nowhere org name t None is e = ap (λ r. revocation_managed_by r org name t) (sym e)
revocation_nowhere org name t (Some role) is e = absurd (cc)

pub revocation_there : (org name : List ℕ) (t : Tables) (o : Option Role) → is_none o ≡ false → o ≡ role_of_name org name t → revocation_managed org name t ≡ effect Done (token_removed org name t)
revocation_there org name t None is e = absurd (cc)
revocation_there org name t (Some role) is e = ap (λ r. revocation_managed_by r org name t) (sym e)

module _ (org name digest : List ℕ) (role : Role) (bounds : Bounds) (t : Tables) where
  pub token_nowhere : (o : Option ℕ) → is_none o ≡ true → o ≡ cap_of org t → token_managed org name digest role bounds t ≡ effect Absent t
  token_nowhere None is e = ap (λ c. token_managed_by c (is_taken org name digest t) org name digest role bounds t) (sym e)
  token_nowhere (Some cap) is e = absurd (cc)

  pub token_there : (o : Option ℕ) (taken : Bool) → is_none o ≡ false → o ≡ cap_of org t → taken ≡ is_taken org name digest t
      → token_managed org name digest role bounds t ≡ cond taken (effect Exists t) (effect Done (token_added org name digest role bounds.until bounds.prefix t))
  token_there None taken is e f = absurd (cc)
  token_there (Some cap) taken is e f = λ i. token_managed_by (sym e i) (sym f i) org name digest role bounds t
