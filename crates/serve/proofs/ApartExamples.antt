-- Two organizations behind a front: one that chooses by the names, and one that chooses by the path.
use Rattle.serve.proofs.Outside.{◌≡◌, ◌⊎◌, inl, inr, ℕ, Bool, true, false, true≢false, List, [], ◌∷◌, Some, None, is_some, refl, ap, bytes_eq, Query, new_organization, OfWorkspace}
use Rattle.std.specs.Prelude.{cond, codes}
use Rattle.basis.specs.declared.acts.Query.TheVariants.{State}
use Rattle.serve.specs.declared.steps.Admin.TheVariants.{OrgAdd}
use Rattle.serve.specs.Apart.{Passed, asks_of, asks_to, answers_of, ChoosesByName, AreDivided, AreAlike, AnswersInTurn}
use Rattle.serve.specs.Asks.{Ask, silent, requests, commands}
use Rattle.serve.specs.Service.{with_own, records_after}
use Rattle.serve.proofs.ApartLemmas.{Records, Chain, TellsText, answers_by_chain, services_apart_are_one}

abbrev acme : List ℕ
acme = codes "acme"

abbrev beta : List ℕ
beta = codes "beta"

-- each organization has a service of its own
abbrev home : List ℕ → List ℕ
home org = org

abbrev none : Records
none org = None

abbrev ok : List ℕ
ok = codes "ok\n"

-- ---- two organizations are added, and bytes without an end come to the service of beta

abbrev add : List ℕ → ℕ → Ask
add org limit = commands 1_700_000_000 (OrgAdd org limit)

abbrev passed : List (Passed (List ℕ))
passed =
    record { ask = add acme 5; service = acme; answer = ok }
    ∷ record { ask = add beta 7; service = beta; answer = ok }
    ∷ record { ask = silent; service = beta; answer = [] } ∷ []

-- the records after what is asked
abbrev after_all : List Ask → Records → Records
after_all [] rows = rows
after_all (a ∷ asked) rows = after_all asked (records_after a rows)

one_answers : AnswersInTurn (asks_of passed) none (after_all (asks_of passed) none) (ok ∷ ok ∷ [] ∷ [])
one_answers = answers_by_chain (asks_of passed) (ok ∷ ok ∷ [] ∷ []) none (after_all (asks_of passed) none) ((refl, tt), ((refl, tt), ((refl, tt), λ org. refl)))

-- what a service is asked, by whether it is that of acme, and that of beta
abbrev asked_if : Bool → Bool → List Ask
asked_if a b = with_own a (add acme 5) (with_own b (add beta 7) (with_own b silent []))

abbrev answered_if : Bool → Bool → List (List ℕ)
answered_if a b = with_own a ok (with_own b ok (with_own b [] []))

each_answers : (a b : Bool) → Chain TellsText (asked_if a b) (answered_if a b) none (after_all (asked_if a b) none)
each_answers true true = ((refl, tt), ((refl, tt), ((refl, tt), λ org. refl)))
each_answers true false = ((refl, tt), λ org. refl)
each_answers false true = ((refl, tt), ((refl, tt), λ org. refl))
each_answers false false = λ org. refl

abbrev stores_after : List ℕ → Records
stores_after service = after_all (asked_if (bytes_eq acme service) (bytes_eq beta service)) none

services_answer : (service : List ℕ) → AnswersInTurn (asks_to service passed) none (stores_after service) (answers_of service passed)
services_answer service = answers_by_chain (asked_if (bytes_eq acme service) (bytes_eq beta service)) (answered_if (bytes_eq acme service) (bytes_eq beta service)) none (stores_after service) (each_answers (bytes_eq acme service) (bytes_eq beta service))

nothing_divided : AreDivided home none (λ service. none)
nothing_divided service org = by_home (bytes_eq org service)
  where
    by_home : (b : Bool) → None ≡ cond b (none org) None
    by_home true = refl
    by_home false = refl

chosen : ChoosesByName home none passed
chosen = (inl refl, (inl refl, (tt, tt)))

-- so each premise of the law is met
both_alike : AreAlike (λ (t u : List ℕ). t ≡ u) passed (ok ∷ ok ∷ [] ∷ []) × AreDivided home (after_all (asks_of passed) none) stores_after
both_alike = services_apart_are_one home passed (ok ∷ ok ∷ [] ∷ []) none (after_all (asks_of passed) none) (λ service. none) stores_after one_answers services_answer nothing_divided chosen

acme_is_at_home : stores_after acme acme ≡ Some (new_organization 5)
acme_is_at_home = refl

beta_is_not_there : stores_after acme beta ≡ None
beta_is_not_there = refl

-- ---- a token of acme asks for a state of beta

abbrev of_beta : Ask
of_beta = requests 1_700_000_000 false (record { caller = acme; secret = codes "wwwwwwwwwwwwwwww"; org = beta; act = OfWorkspace (codes "net") (Query State); lock_id = None }) None []

abbrev rows : Records
rows org = cond (bytes_eq acme org) (Some (new_organization 5)) None

abbrev sent_to : List ℕ → List (Passed (List ℕ))
sent_to service = record { ask = of_beta; service = service; answer = [] } ∷ []

by_name : ChoosesByName home rows (sent_to acme)
by_name = (inl refl, tt)

by_path : ChoosesByName home rows (sent_to beta) → ⊥
by_path h = go h.0
  where
    go : (beta ≡ acme) ⊎ ((rows acme ≡ None) × (records_after of_beta rows acme ≡ None)) → ⊥
    go (inl same) = true≢false (ap (bytes_eq beta) same)
    go (inr absent) = true≢false (ap is_some absent.0)

-- where acme has no record, any service may get it
unknown : ChoosesByName home none (sent_to beta)
unknown = (inr (refl, refl), tt)
