-- The book of a workspace: what the rules, or nothing, made of each step, and what follows over many steps.
use Rattle.std.proofs.Common.{◌≡◌, ◌⊎◌, inl, inr, ℕ, ◌<◌, ◌≤◌, Bool, true, false, not, ◌&&◌, List, [], ◌∷◌, cond, ◌++◌, length, filter, Option, Some, None, option_map, Result, Ok, Err, IfSome, is_some, refl, sym, ap, subst, ◌∙◌, arith}
use Rattle.serve.proofs.Outside.{AllByRecursion, Contains, flat_map, bytes_eq, eqb-true, bytes_eq-Decides, same_Some, run_id, BadState, Applying, StateHead, state_head, holds, is_nobody, IsLawful, IsLawfulIfThere, AreLawful, IsInRange, IsMoment, Seen, missing, there, standing, workspace_in, Outcome, refused, held, done, no_state, state, workspace, the_run, versions, runs, rules, run_of, holder_status, IsRefusal, IsWriter, WritesWith, Releases, IsRepeatable, is_active_run, Starts, is_in_use, Act, Holder, Version, Workspace, Organization, held_versions_change_by_the_id, holds_until_released, locked_workspaces_stay, accepted_acts_come_again, workspaces_begin_anew, IsWrite, all_writes, IsAcceptedWrite, rises_by_write, held_stays, one_is_active, IsBelow, starts_below, stays_below, starts_above, Reaches, reaches_itself, reaches_more, apart_from, Asked, AskedAct, OfWorkspace, WsAct, UpdateState, PurgeState}
use Rattle.machine.specs.declared.acts.Act.TheVariants.{UpdateState as UpdateAct, PurgeState as PurgeAct}
use Rattle.basis.specs.declared.rows.Holder.TheVariants.{Nobody, Lock as HeldLock, Run as HeldRun}
use Rattle.basis.specs.declared.rows.RunRow.{RunRow as Run}
use Rattle.machine.proofs.RefusalLemmas.{refusals_change_nothing as rules_change_nothing, writes_carry_the_id}
use Rattle.machine.proofs.RuleLemmas.{rules_are_lawful}
use Rattle.machine.proofs.QueueLemmas.{actions_come_again, keyed_creations_come_again}
use Rattle.serve.specs.declared.steps.Admin.{Admin}
use Rattle.serve.specs.declared.checks.Task.{Task}
use Rattle.serve.specs.declared.checks.Task.TheVariants.{ListAll, Carry}
use Rattle.serve.specs.declared.steps.Step.{Step}
use Rattle.serve.specs.Asks.{Ask, silent, requests, commands, stops, Owner, organization, IsTimely}
use Rattle.serve.specs.Asks as ask
use Rattle.serve.specs.Checks.{spelt, act_of, checked}
use Rattle.serve.specs.Steps.{Said, replies, answer_to, seen_at, carried, step}
use Rattle.serve.specs.Service.{with_own, is_own, own_asks, AreAsked}
use Rattle.serve.specs.Custody.{NamesIn, Names, RemovesOrganization, ForcesRemoval, IsForcedRemoval, IsInUseIn, CarriesId, IsActOn, ReleasesLock, asked_again, MayRepeat, IsAccepted}
use Rattle.serve.specs.Book.{Entry, book, BooksAreOfTheRun, if_so, put_if, as_long_as, begun_periods, periods, PeriodsAreTheStepsBetween, InEachPeriod, is_lock, is_held, is_run, life, AsksOf, AsksFor, CarriesNoId, IsAcceptedUpdate, IsAcceptedPurge, next_version, MakesVersion, kept_versions, LosesVersion, WritesState, IsApplying, starts, Repeats, IsDoneOnce, IsRemovedByForce, LocksKeepOthersOut, RunsKeepOthersOut, NoIdWhereNobodyHolds, LocksEndByUnlock, OneRunAtATime, StartsRise, RepeatsLeaveIt, DoneOnceIsDone, OfEachBookOf, KeepsCustody, CustodyIsKept}
use Rattle.serve.specs.Inner.Taking.{RunsTo}
use Rattle.serve.proofs.ActLemmas.{IsKeyed, IsAction, act_is, once_is}
use Rattle.serve.proofs.CheckLemmas.{Passes, order_passes, list_passes}
use Rattle.serve.proofs.RecordLemmas.{standing_at, workspace_lawful}
use Rattle.serve.proofs.CustodyLemmas.{own_after, other_after, names_of, act_on, is_one, one_name, not_refused, some_is}
use Rattle.serve.proofs.RunLemmas.{all_asked_one}
use Rattle.serve.proofs.RemovalLemmas.{held_is_used, Comes, command_comes}

-- ---- what was made of a step

-- the rules, on the workspace as it stood
pub record Ruled (ws : List ℕ) (e : Entry) : Type 0 where
  pub now : ℕ
  pub awaited : Bool
  pub asked : Asked
  pub content_md5 : Option (List ℕ)
  pub body : List ℕ
  pub asking : e.ask ≡ requests now awaited asked content_md5 body
  pub what : WsAct
  pub asks : asked.act ≡ OfWorkspace ws what
  pub act : Act
  pub spells : act_of what asked.lock_id body ≡ Ok act
  pub range : IsInRange act
  pub moment : IsMoment now
  pub seen : Seen
  pub stands : standing seen ≡ e.before
  pub says : e.said ≡ replies awaited now (answer_to asked.caller ws (rules act now seen).answer)
  pub leaves : e.after ≡ (rules act now seen).left

-- nothing
pub record Unruled (ws : List ℕ) (e : Entry) : Type 0 where
  pub stays : e.after ≡ e.before
  pub refuses : Names e.ask ws → IsAccepted e.said → ⊥

-- the organization was removed, by force or where the workspace isn't in use
pub record Removed (e : Entry) : Type 0 where
  pub removes : RemovesOrganization e.ask
  pub accepts : IsAccepted e.said
  pub gone : e.after ≡ None
  pub reason : ForcesRemoval e.ask ⊎ ((w : Workspace) → e.before ≡ Some w → is_in_use w ≡ true → ⊥)

abbrev pub Goes : List ℕ → Entry → Type 0
Goes ws e = Ruled ws e ⊎ Unruled ws e ⊎ Removed e

abbrev entry_of : List ℕ → Option Organization → Ask → Entry
entry_of ws r a = record { ask = a; said = (step r a).answer; before = workspace_in r ws; after = workspace_in (step r a).left ws }

request_goes : (ws : List ℕ) (r : Option Organization) (now : ℕ) (awaited : Bool) (asked : Asked) (content_md5 : Option (List ℕ)) (body : List ℕ) (x : Result Task _) → checked r now asked content_md5 body ≡ x → IsMoment now
    → Goes ws (record { ask = requests now awaited asked content_md5 body; said = replies awaited now (carried asked.caller now r x).answer; before = workspace_in r ws; after = workspace_in (carried asked.caller now r x).left ws })
request_goes ws r now awaited asked content_md5 body (Err refusal) e moment = inr (inl (record { stays = refl; refuses = λ names accepted. let none : ⊥ = cc in none }))
request_goes ws r now awaited asked content_md5 body (Ok (ListAll after prefix)) e moment =
    inr (inl (record { stays = refl; refuses = λ names accepted. subst (λ (a : AskedAct). NamesIn a ws) (list_passes r now asked content_md5 body after prefix e) names }))
request_goes ws r now awaited asked content_md5 body (Ok (Carry its_ws its_act)) e moment = by_name (bytes_eq ws its_ws) refl
  where
    p : Passes r asked body its_ws its_act
    p = order_passes r now asked content_md5 body its_ws its_act e

    entry : List ℕ → Entry
    entry name = record {
      ask = requests now awaited asked content_md5 body;
      said = replies awaited now (carried asked.caller now r (Ok (Carry its_ws its_act))).answer;
      before = workspace_in r name;
      after = workspace_in (carried asked.caller now r (Ok (Carry its_ws its_act))).left name;
    }

    by_name : (b : Bool) → bytes_eq ws its_ws ≡ b → Goes ws (entry ws)
    by_name true same = subst (λ (n : List ℕ). Goes n (entry n)) (sym ((bytes_eq-Decides ws its_ws).0 same)) (inl (record {
      now = now;
      awaited = awaited;
      asked = asked;
      content_md5 = content_md5;
      body = body;
      asking = refl;
      what = p.what;
      asks = p.asks;
      act = its_act;
      spells = p.spelt;
      range = (act_is p.what asked.lock_id body its_act p.spelt).range;
      moment = moment;
      seen = seen_at r its_ws;
      stands = standing_at r its_ws;
      says = refl;
      leaves = own_after r asked.caller its_ws its_act now p.there;
    }))
    by_name false apart = inr (inl (record {
      stays = other_after r asked.caller its_ws ws its_act now (apart_from ws its_ws apart);
      refuses = λ names accepted. apart_from ws its_ws apart (sym (subst (λ (a : AskedAct). NamesIn a ws) p.asks names));
    }))

command_goes : (ws : List ℕ) (r : Option Organization) (at : ℕ) (command : Admin) → Comes r command → Goes ws (entry_of ws r (commands at command))
command_goes ws r at command (inl h) = inr (inr (record { removes = h.removes; accepts = h.accepts; gone = ap (λ (o : Option Organization). workspace_in o ws) h.gone; reason = by_reason h.reason }))
  where
    by_reason : IsForcedRemoval command ⊎ (IsInUseIn r → ⊥) → IsForcedRemoval command ⊎ ((w : Workspace) → workspace_in r ws ≡ Some w → is_in_use w ≡ true → ⊥)
    by_reason (inl forced) = inl forced
    by_reason (inr free) = inr (λ w stands used. free (ws, w, stands, used))
command_goes ws r at command (inr h) = inr (inl (record { stays = h.keeps ws; refuses = λ names accepted. names }))

step_goes : (ws : List ℕ) (r : Option Organization) (a : Ask) → IsTimely a → Goes ws (entry_of ws r a)
step_goes ws r silent timely = inr (inl (record { stays = refl; refuses = λ names accepted. names }))
step_goes ws r (ask.refused at awaited refusal is_head at_door) timely = inr (inl (record { stays = refl; refuses = λ names accepted. names }))
step_goes ws r (requests at awaited asked content_md5 body) timely = request_goes ws r at awaited asked content_md5 body (checked r at asked content_md5 body) refl timely
step_goes ws r (stops at) timely = inr (inl (record { stays = refl; refuses = λ names accepted. names }))
step_goes ws r (commands at command) timely = command_goes ws r at command (command_comes r command)

-- each step of a book is such a one, from a lawful workspace to a lawful one, and goes on where the one before it ended
pub record IsLegal (ws : List ℕ) (e : Entry) : Type 0 where
  pub goes : Goes ws e
  pub first : IsLawfulIfThere e.before
  pub last : IsLawfulIfThere e.after

lawful_goes : (ws : List ℕ) (e : Entry) → Goes ws e → IsLawfulIfThere e.before → IsLawfulIfThere e.after
lawful_goes ws e (inl h) lawful = subst IsLawfulIfThere (sym h.leaves) (rules_are_lawful h.act h.now h.seen h.range h.moment (subst IsLawfulIfThere (sym h.stands) lawful))
lawful_goes ws e (inr (inl h)) lawful = subst IsLawfulIfThere (sym h.stays) lawful
lawful_goes ws e (inr (inr h)) lawful = subst IsLawfulIfThere (sym h.gone) tt

abbrev pub Joins : Option Workspace → List Entry → Type 0
Joins w [] = Unit {0}
Joins w (e ∷ es) = (e.before ≡ w) × Joins e.after es

abbrev pub AreLegal : List ℕ → Option Workspace → List Entry → Type 0
AreLegal ws w es = Joins w es × AllByRecursion (IsLegal ws) es

book_is_legal : (ws : List ℕ) (r : Option Organization) (asks : List Ask) → IsLawfulIfThere (workspace_in r ws) → AllByRecursion IsTimely asks → AreLegal ws (workspace_in r ws) (book ws r asks)
book_is_legal ws r [] lawful timely = (tt, tt)
book_is_legal ws r (a ∷ asks) lawful timely =
    let goes : Goes ws (entry_of ws r a) = step_goes ws r a timely.0 in
    let after : IsLawfulIfThere (workspace_in (step r a).left ws) = lawful_goes ws (entry_of ws r a) goes lawful in
    let rest : AreLegal ws (workspace_in (step r a).left ws) (book ws (step r a).left asks) = book_is_legal ws (step r a).left asks after timely.1 in
    ((refl, rest.0), (record { goes = goes; first = lawful; last = after }, rest.1))

-- the book is of the run
pub books_are_of_the_run : BooksAreOfTheRun
books_are_of_the_run ws r [] = (refl, refl)
books_are_of_the_run ws r (a ∷ asks) =
    let rest = books_are_of_the_run ws (step r a).left asks in
    (ap (λ (said : List Said). (step r a).answer ∷ said) rest.0, rest.1)

-- ---- over many steps

all_of : {A : Type 0} (P Q : A → Type 0) (xs : List A) → ((x : A) → P x → Q x) → AllByRecursion P xs → AllByRecursion Q xs
all_of P Q [] f all = tt
all_of P Q (x ∷ xs) f all = (f x all.0, all_of P Q xs f all.1)

-- in each period
module _ (is : Option Workspace → Bool) (P : Entry → Type 0) where
  in_period : (es : List Entry) (w : Option Workspace) → Joins w es → is w ≡ true → AllByRecursion (λ (e : Entry). is e.before ≡ true → P e) es → AllByRecursion P (as_long_as is es)
  in_period [] w joins so all = tt
  in_period (e ∷ es) w joins so all = (all.0 (ap is joins.0 ∙ so), rest (is e.after) refl (λ still. in_period es e.after joins.1 still all.1))
    where
      rest : (b : Bool) → is e.after ≡ b → (is e.after ≡ true → AllByRecursion P (as_long_as is es)) → AllByRecursion P (if_so b (as_long_as is es))
      rest true t more = more t
      rest false t more = tt

  in_begun : (es : List Entry) (w : Option Workspace) → Joins w es → AllByRecursion (λ (e : Entry). is e.before ≡ true → P e) es → AllByRecursion (λ (period : List Entry). AllByRecursion P period) (begun_periods is es)
  in_begun [] w joins all = tt
  in_begun (e ∷ es) w joins all = chosen (not (is e.before)) (is e.after) refl (in_begun es e.after joins.1 all.1)
    where
      chosen : (b c : Bool) → is e.after ≡ c → AllByRecursion (λ (period : List Entry). AllByRecursion P period) (begun_periods is es)
          → AllByRecursion (λ (period : List Entry). AllByRecursion P period) (put_if (b && c) (as_long_as is es) (begun_periods is es))
      chosen true true t more = (in_period es e.after joins.1 t all.1, more)
      chosen true false t more = more
      chosen false c t more = more

  in_periods : (es : List Entry) (w : Option Workspace) → Joins w es → AllByRecursion (λ (e : Entry). is e.before ≡ true → P e) es → InEachPeriod is P es
  in_periods [] w joins all = tt
  in_periods (e ∷ es) w joins all = chosen (is e.before) refl
    where
      chosen : (b : Bool) → is e.before ≡ b → AllByRecursion (λ (period : List Entry). AllByRecursion P period) (put_if b (as_long_as is (e ∷ es)) (begun_periods is (e ∷ es)))
      chosen true t = (in_period (e ∷ es) w joins (ap is (sym joins.0) ∙ t) all, in_begun (e ∷ es) w joins all)
      chosen false t = in_begun (e ∷ es) w joins all

-- the periods, one after the other
book_joins : (ws : List ℕ) (r : Option Organization) (asks : List Ask) → Joins (workspace_in r ws) (book ws r asks)
book_joins ws r [] = tt
book_joins ws r (a ∷ asks) = (refl, book_joins ws (step r a).left asks)

module _ (is : Option Workspace → Bool) where
  abbrev held_steps : List Entry → List Entry
  held_steps es = filter (λ (e : Entry). is e.before) es

  abbrev joined : List (List Entry) → List Entry
  joined ps = flat_map (λ (period : List Entry). period) ps

  from_here : (es : List Entry) (w : Option Workspace) → Joins w es → if_so (is w) (as_long_as is es) ++ joined (begun_periods is es) ≡ held_steps es
  from_here [] w joins = by_test (is w)
    where
      by_test : (b : Bool) → if_so {A = Entry} b [] ++ [] ≡ []
      by_test true = refl
      by_test false = refl
  from_here (e ∷ es) w joins = ap (λ (b : Bool). if_so b (as_long_as is (e ∷ es)) ++ joined (begun_periods is (e ∷ es))) (ap is (sym joins.0)) ∙ by_tests (is e.before) (is e.after) (from_here es e.after joins.1)
    where
      by_tests : (b c : Bool) → if_so c (as_long_as is es) ++ joined (begun_periods is es) ≡ held_steps es
          → if_so b (e ∷ if_so c (as_long_as is es)) ++ joined (put_if (not b && c) (as_long_as is es) (begun_periods is es)) ≡ cond b (e ∷ held_steps es) (held_steps es)
      by_tests true c h = ap (λ (xs : List Entry). e ∷ xs) h
      by_tests false true h = h
      by_tests false false h = h

  from_the_start : (es : List Entry) (w : Option Workspace) → Joins w es → joined (periods is es) ≡ held_steps es
  from_the_start [] w joins = refl
  from_the_start (e ∷ es) w joins = ap joined_by (ap is joins.0) ∙ chosen (is w) ∙ from_here (e ∷ es) w joins
    where
      joined_by : Bool → List Entry
      joined_by b = joined (put_if b (as_long_as is (e ∷ es)) (begun_periods is (e ∷ es)))

      chosen : (b : Bool) → joined (put_if b (as_long_as is (e ∷ es)) (begun_periods is (e ∷ es))) ≡ if_so b (as_long_as is (e ∷ es)) ++ joined (begun_periods is (e ∷ es))
      chosen true = refl
      chosen false = refl

pub periods_are_the_steps_between : PeriodsAreTheStepsBetween
periods_are_the_steps_between is ws r asks = from_the_start is (book ws r asks) (workspace_in r ws) (book_joins ws r asks)

-- through a life: what is kept from step to step, and what it gives of each
module _ (ws : List ℕ) (I : Workspace → Type 0) (P : Entry → Type 0)
    (keeps : (f : Entry) (u x : Workspace) → IsLegal ws f → f.before ≡ Some u → f.after ≡ Some x → I u → I x)
    (gives : (f : Entry) (u : Workspace) → IsLegal ws f → f.before ≡ Some u → I u → P f) where
  through : (es : List Entry) (w : Option Workspace) (u : Workspace) → w ≡ Some u → AreLegal ws w es → I u → AllByRecursion P (as_long_as is_some es)
  through [] w u e legal i = tt
  through (f ∷ es) w u e legal i = (gives f u legal.1.0 (legal.0.0 ∙ e) i, rest f.after refl (λ x left. through es f.after x left (legal.0.1, legal.1.1) (keeps f u x legal.1.0 (legal.0.0 ∙ e) left i)))
    where
      rest : (o : Option Workspace) → f.after ≡ o → ((x : Workspace) → f.after ≡ Some x → AllByRecursion P (as_long_as is_some es)) → AllByRecursion P (if_so (is_some o) (as_long_as is_some es))
      rest None t more = tt
      rest (Some x) t more = more x t

  through_life : (e : Entry) (es : List Entry) → AreLegal ws e.after es → ((v : Workspace) → e.after ≡ Some v → I v) → AllByRecursion P (life e es)
  through_life e es legal i = by_after e.after refl
    where
      by_after : (o : Option Workspace) → e.after ≡ o → AllByRecursion P (if_so (is_some o) (as_long_as is_some es))
      by_after None t = tt
      by_after (Some v) t = through es e.after v t legal (i v t)

-- ---- one step

seen_is : (s : Seen) (w : Workspace) → standing s ≡ Some w → s ≡ there w
seen_is (missing room) w e = absurd (let none : ⊥ = cc in none)
seen_is (there v) w e = ap there (same_Some v w e)

leaves_of : (ws : List ℕ) (e : Entry) (h : Ruled ws e) (w : Workspace) → e.before ≡ Some w → e.after ≡ (rules h.act h.now (there w)).left
leaves_of ws e h w b = h.leaves ∙ ap (λ (s : Seen). (rules h.act h.now s).left) (seen_is h.seen w (h.stands ∙ b))

accepted_of : (ws : List ℕ) (e : Entry) (h : Ruled ws e) → IsAccepted e.said → IsRefusal (rules h.act h.now h.seen).answer → ⊥
accepted_of ws e h accepted = not_refused h.asked.caller ws (rules h.act h.now h.seen).answer (subst IsAccepted h.says accepted)

accepted_there : (ws : List ℕ) (e : Entry) (h : Ruled ws e) (w : Workspace) → e.before ≡ Some w → IsAccepted e.said → IsRefusal (rules h.act h.now (there w)).answer → ⊥
accepted_there ws e h w b accepted = subst (λ (s : Seen). IsRefusal (rules h.act h.now s).answer → ⊥) (seen_is h.seen w (h.stands ∙ b)) (accepted_of ws e h accepted)

names_it : (ws : List ℕ) (e : Entry) → Ruled ws e → Names e.ask ws
names_it ws e h = subst (λ (a : Ask). Names a ws) (sym h.asking) (names_of h.asked.act ws h.what h.asks)

asks_names : (ws : List ℕ) (what : WsAct) (a : Ask) → AsksOf ws what a → Names a ws
asks_names ws what silent asks = asks
asks_names ws what (ask.refused at awaited refusal is_head at_door) asks = asks
asks_names ws what (requests at awaited asked content_md5 body) asks = names_of asked.act ws what asks
asks_names ws what (stops at) asks = asks
asks_names ws what (commands at command) asks = asks

for_names : (ws : List ℕ) (act : Act) (a : Ask) → AsksFor ws act a → Names a ws
for_names ws act silent asks = asks
for_names ws act (ask.refused at awaited refusal is_head at_door) asks = asks
for_names ws act (requests at awaited asked content_md5 body) asks = names_of asked.act ws asks.0 asks.1
for_names ws act (stops at) asks = asks
for_names ws act (commands at command) asks = asks

-- the removal of an organization names no workspace, nor does what it repeats
removal_names : (ws : List ℕ) (a : Ask) → RemovesOrganization a → Names a ws → ⊥
removal_names ws silent removes names = names
removal_names ws (ask.refused at awaited refusal is_head at_door) removes names = names
removal_names ws (requests at awaited asked content_md5 body) removes names = removes
removal_names ws (stops at) removes names = names
removal_names ws (commands at command) removes names = names

names_again : (ws : List ℕ) (at : ℕ) (a : Ask) → Names a ws → Names (asked_again at a) ws
names_again ws at silent names = names
names_again ws at (ask.refused now awaited refusal is_head at_door) names = names
names_again ws at (requests now awaited asked content_md5 body) names = names
names_again ws at (stops now) names = names
names_again ws at (commands now command) names = names

repeat_removes : (ws : List ℕ) (e f : Entry) → Names e.ask ws → Repeats e f → Removed f → ⊥
repeat_removes ws e f names again h = removal_names ws (asked_again again.0 e.ask) (subst RemovesOrganization again.1 h.removes) (names_again ws again.0 e.ask names)

-- who is held in use goes by force alone
forced_of : (ws : List ℕ) (e : Entry) (w : Workspace) → Removed e → IsLegal ws e → is_nobody w.holder ≡ false → e.before ≡ Some w → IsRemovedByForce e
forced_of ws e w h legal somebody b = (by_reason h.reason, h.accepts, h.gone)
  where
    by_reason : ForcesRemoval e.ask ⊎ ((v : Workspace) → e.before ≡ Some v → is_in_use v ≡ true → ⊥) → ForcesRemoval e.ask
    by_reason (inl forced) = forced
    by_reason (inr free) = absurd (free w b (held_is_used w (subst IsLawfulIfThere b legal.first) somebody))

-- the act of the path, and so the act
spells_of : (ws : List ℕ) (e : Entry) (h : Ruled ws e) (what : WsAct) → AsksOf ws what e.ask → act_of what h.asked.lock_id h.body ≡ Ok h.act
spells_of ws e h what asks =
    let is : h.asked.act ≡ OfWorkspace ws what = subst (AsksOf ws what) h.asking asks in
    let same : h.what ≡ what = (one_name ws ws h.what what (sym h.asks ∙ is)).1 in
    subst (λ (x : WsAct). act_of x h.asked.lock_id h.body ≡ Ok h.act) same h.spells

-- whoever writes carries the holder's ID
abbrev IsOfWriter : Workspace → Option (List ℕ) → Type 0
IsOfWriter w id = IsWriter w.holder (holder_status w.holder w.runs) id

accepted_writer : (ws : List ℕ) (e : Entry) (h : Ruled ws e) (w : Workspace) → e.before ≡ Some w → IsAccepted e.said → WritesWith h.act h.asked.lock_id → IsOfWriter w h.asked.lock_id
accepted_writer ws e h w b accepted writes =
    let write : IsWrite h.act h.now w h.asked.lock_id = all_writes h.act h.now w h.asked.lock_id writes in
    write.carries (write.accepted (accepted_there ws e h w b accepted))

purge_writer : (ws : List ℕ) (e : Entry) (h : Ruled ws e) (w : Workspace) → e.before ≡ Some w → IsAcceptedPurge ws e → IsOfWriter w h.asked.lock_id
purge_writer ws e h w b purge =
    let is : h.act ≡ PurgeAct h.asked.lock_id = is_one (PurgeAct h.asked.lock_id) h.act (spells_of ws e h PurgeState purge.0) in
    accepted_writer ws e h w b purge.1 (subst (λ (a : Act). WritesWith a h.asked.lock_id) (sym is) refl)

update_writer : (ws : List ℕ) (e : Entry) (h : Ruled ws e) (w : Workspace) → e.before ≡ Some w → IsAcceptedUpdate ws e → IsOfWriter w h.asked.lock_id
update_writer ws e h w b update = by_head (state_head h.body) (spells_of ws e h UpdateState update.0)
  where
    by_head : (o : Option StateHead) → spelt BadState (λ head. UpdateAct head h.body h.asked.lock_id) o ≡ Ok h.act → IsOfWriter w h.asked.lock_id
    by_head None is = absurd (let none : ⊥ = cc in none)
    by_head (Some head) is =
        let one : h.act ≡ UpdateAct head h.body h.asked.lock_id = is_one (UpdateAct head h.body h.asked.lock_id) h.act is in
        accepted_writer ws e h w b update.1 (subst (λ (a : Act). WritesWith a h.asked.lock_id) (sym one) refl)

made_writer : (ws : List ℕ) (e : Entry) (h : Ruled ws e) (w : Workspace) → IsLawful w → e.before ≡ Some w → MakesVersion e → IsOfWriter w h.asked.lock_id
made_writer ws e h w lawful b makes = by_after e.after refl
  where
    rises : (o : Option Workspace) → e.after ≡ o → w.next_version < next_version o
    rises o t = subst (λ (x : Option Workspace). w.next_version < next_version x) t (subst (λ (x : Option Workspace). next_version x < next_version e.after) b makes)

    by_after : (o : Option Workspace) → e.after ≡ o → IsOfWriter w h.asked.lock_id
    by_after None t = absurd (omega (arith, rises None t, lawful.versions.next.0))
    by_after (Some v) t =
        let writes : IsAcceptedWrite h.act h.now w = rises_by_write h.act h.now w v (sym (leaves_of ws e h w b) ∙ t) (rises (Some v) t) in
        subst (IsOfWriter w) (sym ((act_is h.what h.asked.lock_id h.body h.act h.spells).writes writes.0 writes.1)) (writes_carry_the_id h.act h.now w writes.0 writes.1 writes.2)

-- where the same versions are kept, none is gone
stays_kept : (a b : List Version) (u : Version) → b ≡ a → Contains a u → (Contains b u → ⊥) → ⊥
stays_kept a b u same was gone = gone (subst (λ (versions : List Version). Contains versions u) (sym same) was)

lost_writer : (ws : List ℕ) (e : Entry) (h : Ruled ws e) (w : Workspace) → IsLawful w → is_nobody w.holder ≡ false → e.before ≡ Some w → LosesVersion e → IsOfWriter w h.asked.lock_id
lost_writer ws e h w lawful somebody b loses =
    let v = some_is (rules h.act h.now (there w)).left (held_stays h.act h.now w lawful somebody) in
    let after : e.after ≡ Some v.0 = leaves_of ws e h w b ∙ v.1 in
    by_case v.0 after (held_versions_change_by_the_id h.act h.now w v.0 somebody v.1)
  where
    by_case : (v : Workspace) → e.after ≡ Some v
        → (v.versions ≡ w.versions) ⊎ ((id : Option (List ℕ)) × WritesWith h.act id × ((rules h.act h.now (there w)).answer ≡ done) × IsOfWriter w id) → IsOfWriter w h.asked.lock_id
    by_case v after (inl same) =
        absurd (stays_kept (kept_versions e.before) (kept_versions e.after) loses.0 (ap kept_versions after ∙ same ∙ sym (ap kept_versions b)) loses.1 loses.2)
    by_case v after (inr (id, writes, is, writer)) = subst (IsOfWriter w) (sym ((act_is h.what h.asked.lock_id h.body h.act h.spells).writes id writes)) writer

-- where nothing is made of a step, no version is made or goes, and no purge is accepted
none_made : (ws : List ℕ) (e : Entry) → Unruled ws e → WritesState ws e → ⊥
none_made ws e h (inl makes) = omega (arith, ap next_version h.stays, makes)
none_made ws e h (inr (inl purge)) = h.refuses (asks_names ws PurgeState e.ask purge.0) purge.1
none_made ws e h (inr (inr loses)) = stays_kept (kept_versions e.before) (kept_versions e.after) loses.0 (ap kept_versions h.stays) loses.1 loses.2

-- while somebody holds
abbrev IsByWriter : List ℕ → Entry → Workspace → Type 0
IsByWriter ws e w = (h : Ruled ws e) × IsOfWriter w h.asked.lock_id

written_by : (ws : List ℕ) (e : Entry) (w : Workspace) → IsLegal ws e → is_nobody w.holder ≡ false → e.before ≡ Some w → WritesState ws e → IsByWriter ws e w ⊎ IsRemovedByForce e
written_by ws e w legal somebody b writes = by_goes legal.goes writes
  where
    lawful : IsLawful w
    lawful = subst IsLawfulIfThere b legal.first

    by_goes : Goes ws e → WritesState ws e → IsByWriter ws e w ⊎ IsRemovedByForce e
    by_goes (inl h) (inl makes) = inl (h, made_writer ws e h w lawful b makes)
    by_goes (inl h) (inr (inl purge)) = inl (h, purge_writer ws e h w b purge)
    by_goes (inl h) (inr (inr loses)) = inl (h, lost_writer ws e h w lawful somebody b loses)
    by_goes (inr (inl h)) writes = absurd (none_made ws e h writes)
    by_goes (inr (inr h)) writes = inr (forced_of ws e w h legal somebody b)

accepted_by : (ws : List ℕ) (e : Entry) (w : Workspace) → IsLegal ws e → e.before ≡ Some w → IsAcceptedUpdate ws e ⊎ IsAcceptedPurge ws e → IsByWriter ws e w
accepted_by ws e w legal b accepted = by_goes legal.goes accepted
  where
    by_goes : Goes ws e → IsAcceptedUpdate ws e ⊎ IsAcceptedPurge ws e → IsByWriter ws e w
    by_goes (inl h) (inl update) = (h, update_writer ws e h w b update)
    by_goes (inl h) (inr purge) = (h, purge_writer ws e h w b purge)
    by_goes (inr (inl h)) (inl update) = absurd (h.refuses (asks_names ws UpdateState e.ask update.0) update.1)
    by_goes (inr (inl h)) (inr purge) = absurd (h.refuses (asks_names ws PurgeState e.ask purge.0) purge.1)
    by_goes (inr (inr h)) (inl update) = absurd (removal_names ws e.ask h.removes (asks_names ws UpdateState e.ask update.0))
    by_goes (inr (inr h)) (inr purge) = absurd (removal_names ws e.ask h.removes (asks_names ws PurgeState e.ask purge.0))

-- who holds, where one holds
lock_there : (id : List ℕ) (o : Option Workspace) → is_held (is_lock id) o ≡ true → (w : Workspace) × (text : List ℕ) × (o ≡ Some w) × (w.holder ≡ HeldLock id text)
lock_there id None e = absurd (let none : ⊥ = cc in none)
lock_there id (Some w) e = by_holder w.holder refl e
  where
    by_holder : (h : Holder) → w.holder ≡ h → is_lock id h ≡ true → (x : Workspace) × (text : List ℕ) × (Some w ≡ Some x) × (x.holder ≡ HeldLock id text)
    by_holder Nobody at e = absurd (let none : ⊥ = cc in none)
    by_holder (HeldLock own text) at e = (w, text, refl, at ∙ ap (λ (i : List ℕ). HeldLock i text) ((bytes_eq-Decides own id).0 e))
    by_holder (HeldRun n) at e = absurd (let none : ⊥ = cc in none)

run_there : (n : ℕ) (o : Option Workspace) → is_held (is_run n) o ≡ true → (w : Workspace) × (o ≡ Some w) × (w.holder ≡ HeldRun n)
run_there n None e = absurd (let none : ⊥ = cc in none)
run_there n (Some w) e = by_holder w.holder refl e
  where
    by_holder : (h : Holder) → w.holder ≡ h → holds h n ≡ true → (x : Workspace) × (Some w ≡ Some x) × (x.holder ≡ HeldRun n)
    by_holder Nobody at e = absurd (let none : ⊥ = cc in none)
    by_holder (HeldLock own text) at e = absurd (let none : ⊥ = cc in none)
    by_holder (HeldRun m) at e = (w, refl, at ∙ ap HeldRun (eqb-true m n e))

nobody_there : (o : Option Workspace) → is_held is_nobody o ≡ true → (w : Workspace) × (o ≡ Some w) × (w.holder ≡ Nobody)
nobody_there None e = absurd (let none : ⊥ = cc in none)
nobody_there (Some w) e = by_holder w.holder refl e
  where
    by_holder : (h : Holder) → w.holder ≡ h → is_nobody h ≡ true → (x : Workspace) × (Some w ≡ Some x) × (x.holder ≡ Nobody)
    by_holder Nobody at e = (w, refl, at)
    by_holder (HeldLock own text) at e = absurd (let none : ⊥ = cc in none)
    by_holder (HeldRun m) at e = absurd (let none : ⊥ = cc in none)

writer_as : (w : Workspace) (id : Option (List ℕ)) (h : Holder) → w.holder ≡ h → IsOfWriter w id → IsWriter h (holder_status h w.runs) id
writer_as w id h at is = subst (λ (x : Holder). IsWriter x (holder_status x w.runs) id) at is

carries : (ws : List ℕ) (e : Entry) (h : Ruled ws e) (id : List ℕ) → h.asked.lock_id ≡ Some id → CarriesId e.ask id
carries ws e h id is = subst (λ (a : Ask). CarriesId a id) (sym h.asking) is

-- ---- the laws

-- in the period of a lock
pub locks_keep_others_out : (ws : List ℕ) (w : Option Workspace) (es : List Entry) → AreLegal ws w es → LocksKeepOthersOut ws es
locks_keep_others_out ws w es legal id =
    in_periods (is_held (is_lock id)) _ es w legal.0 (all_of (IsLegal ws) _ es (λ e is so writes.
    let at = lock_there id e.before so in
    by_id e at.0 at.1 at.3 (written_by ws e at.0 is (ap is_nobody at.3) at.2 writes)) legal.1)
  where
    by_id : (e : Entry) (v : Workspace) (text : List ℕ) → v.holder ≡ HeldLock id text → IsByWriter ws e v ⊎ IsRemovedByForce e → (Names e.ask ws × CarriesId e.ask id) ⊎ IsRemovedByForce e
    by_id e v text at (inl by) = inl (names_it ws e by.0, carries ws e by.0 id (writer_as v by.0.asked.lock_id (HeldLock id text) at by.1))
    by_id e v text at (inr forced) = inr forced

-- in the period of a run
status_is : (n : ℕ) (o : Option Run) → option_map (λ (r : Run). r.status) o ≡ Some Applying → (r : Run) × (o ≡ Some r) × (r.status ≡ Applying)
status_is n None e = absurd (let none : ⊥ = cc in none)
status_is n (Some r) e = (r, refl, let is : r.status ≡ Applying = cc in is)

pub runs_keep_others_out : (ws : List ℕ) (w : Option Workspace) (es : List Entry) → AreLegal ws w es → RunsKeepOthersOut ws es
runs_keep_others_out ws w es legal n =
    in_periods (is_held (is_run n)) _ es w legal.0 (all_of (IsLegal ws) _ es (λ e is so writes.
    let at = run_there n e.before so in
    by_id e at.0 at.1 at.2 (written_by ws e at.0 is (ap is_nobody at.2) at.1 writes)) legal.1)
  where
    by_id : (e : Entry) (v : Workspace) → e.before ≡ Some v → v.holder ≡ HeldRun n → IsByWriter ws e v ⊎ IsRemovedByForce e
        → (Names e.ask ws × CarriesId e.ask (run_id n) × IsApplying n e.before) ⊎ IsRemovedByForce e
    by_id e v b at (inl by) =
        let writer = writer_as v by.0.asked.lock_id (HeldRun n) at by.1 in
        inl (names_it ws e by.0, carries ws e by.0 (run_id n) writer.0, subst (IsApplying n) (sym b) (status_is n (run_of n v.runs) writer.1))
    by_id e v b at (inr forced) = inr forced

-- while nobody holds
pub no_id_where_nobody_holds : (ws : List ℕ) (w : Option Workspace) (es : List Entry) → AreLegal ws w es → NoIdWhereNobodyHolds ws es
no_id_where_nobody_holds ws w es legal =
    in_periods (is_held is_nobody) _ es w legal.0 (all_of (IsLegal ws) _ es (λ e is so accepted.
    let at = nobody_there e.before so in
    let by = accepted_by ws e at.0 is at.1 accepted in
    subst CarriesNoId (sym by.0.asking) (writer_as at.0 by.0.asked.lock_id Nobody at.2 by.1)) legal.1)

-- how a lock's period ends
answer_accepted : (org ws : List ℕ) (o : Outcome) → (IsRefusal o → ⊥) → (answer_to org ws o).refusal ≡ None
answer_accepted org ws (refused refusal) h = absurd (h tt)
answer_accepted org ws (held holder) h = absurd (h tt)
answer_accepted org ws done h = refl
answer_accepted org ws no_state h = refl
answer_accepted org ws (state text) h = refl
answer_accepted org ws (workspace shown) h = refl
answer_accepted org ws (the_run r) h = refl
answer_accepted org ws (versions list) h = refl
answer_accepted org ws (runs list) h = refl

lock_ends : (ws : List ℕ) (id : List ℕ) (e : Entry) → IsLegal ws e → is_held (is_lock id) e.before ≡ true → is_held (is_lock id) e.after ≡ false
    → (Names e.ask ws × ReleasesLock e.ask id × IsAccepted e.said) ⊎ IsRemovedByForce e
lock_ends ws id e legal so gone = by_goes legal.goes
  where
    stays_held : e.after ≡ e.before → ⊥
    stays_held same = let none : ⊥ = cc (sym gone ∙ ap (is_held (is_lock id)) same ∙ so) in none

    released : (h : Ruled ws e) (w v : Workspace) (text : List ℕ) → e.after ≡ Some v → (v.holder ≡ HeldLock id text) ⊎ Releases h.act id → Releases h.act id
    released h w v text after (inl still) =
        absurd (let none : ⊥ = cc (sym gone ∙ ap (is_held (is_lock id)) after ∙ ap (is_lock id) still ∙ (bytes_eq-Decides id id).1 refl) in none)
    released h w v text after (inr releases) = releases

    by_goes : Goes ws e → (Names e.ask ws × ReleasesLock e.ask id × IsAccepted e.said) ⊎ IsRemovedByForce e
    by_goes (inr (inl h)) = absurd (stays_held h.stays)
    by_goes (inr (inr h)) =
        let at = lock_there id e.before so in
        inr (forced_of ws e at.0 h legal (ap is_nobody at.3) at.2)
    by_goes (inl h) =
        let at = lock_there id e.before so in
        let v = some_is (rules h.act h.now (there at.0)).left (locked_workspaces_stay h.act h.now at.0 id at.1 at.3) in
        let after : e.after ≡ Some v.0 = leaves_of ws e h at.0 at.2 ∙ v.1 in
        let releases : Releases h.act id = released h at.0 v.0 at.1 after (holds_until_released h.act h.now at.0 v.0 id at.1 at.3 v.1) in inl (
          names_it ws e h,
          subst (λ (a : Ask). ReleasesLock a id) (sym h.asking) (h.act, act_on h.asked ws h.body h.what h.act h.asks h.spells, releases),
          subst IsAccepted (sym h.says) (answer_accepted h.asked.caller ws (rules h.act h.now h.seen).answer
              (λ refuses. stays_held (h.leaves ∙ rules_change_nothing h.act h.now h.seen refuses ∙ h.stands))),
        )

pub locks_end_by_unlock : (ws : List ℕ) (w : Option Workspace) (es : List Entry) → AreLegal ws w es → LocksEndByUnlock ws es
locks_end_by_unlock ws w es legal id = in_periods (is_held (is_lock id)) _ es w legal.0 (all_of (IsLegal ws) _ es (λ e is so gone. lock_ends ws id e is so gone) legal.1)

-- who is active
one_active : (o : Option Workspace) → IsLawfulIfThere o → IfSome o (λ w. length (filter is_active_run w.runs) ≤ 1)
one_active None lawful = tt
one_active (Some v) lawful = one_is_active v lawful

pub one_run_is_active : (ws : List ℕ) (w : Option Workspace) (es : List Entry) → AreLegal ws w es → OneRunAtATime ws es
one_run_is_active ws w es legal = all_of (IsLegal ws) _ es (λ e is. one_active e.after is.last) legal.1

-- who starts
both_are : (b c : Bool) → (not b && c) ≡ true → (b ≡ false) × (c ≡ true)
both_are true c e = absurd (let none : ⊥ = cc in none)
both_are false c e = (refl, e)

same_workspace : (o : Option Workspace) (u x : Workspace) → o ≡ Some u → o ≡ Some x → u ≡ x
same_workspace o u x a b = same_Some u x (sym a ∙ b)

start_of : (ws : List ℕ) (e : Entry) (n : ℕ) → IsLegal ws e → starts n e ≡ true → (h : Ruled ws e) × (w : Workspace) × (v : Workspace) × (e.before ≡ Some w) × (e.after ≡ Some v) × Starts n w v
start_of ws e n legal is = by_goes legal.goes
  where
    both : (is_held (is_run n) e.before ≡ false) × (is_held (is_run n) e.after ≡ true)
    both = both_are (is_held (is_run n) e.before) (is_held (is_run n) e.after) is

    v : (x : Workspace) × (e.after ≡ Some x) × (x.holder ≡ HeldRun n)
    v = run_there n e.after both.1

    by_goes : Goes ws e → (h : Ruled ws e) × (w : Workspace) × (v : Workspace) × (e.before ≡ Some w) × (e.after ≡ Some v) × Starts n w v
    by_goes (inr (inl h)) = absurd (let none : ⊥ = cc (sym both.0 ∙ ap (is_held (is_run n)) (sym h.stays) ∙ both.1) in none)
    by_goes (inr (inr h)) = absurd (let none : ⊥ = cc (sym h.gone ∙ v.1) in none)
    by_goes (inl h) = by_before e.before refl
      where
        by_before : (o : Option Workspace) → e.before ≡ o → (h : Ruled ws e) × (w : Workspace) × (v : Workspace) × (e.before ≡ Some w) × (e.after ≡ Some v) × Starts n w v
        by_before (Some w) b = (
          h,
          w,
          v.0,
          b,
          v.1,
          (ap (is_held (is_run n)) (sym b) ∙ both.0, ap (is_held (is_run n)) (sym v.1) ∙ both.1),
        )
        by_before None b = by_seen h.seen (h.stands ∙ b) (sym h.leaves ∙ v.1)
          where
            by_seen : (s : Seen) → standing s ≡ None → (rules h.act h.now s).left ≡ Some v.0 → (h : Ruled ws e) × (w : Workspace) × (v : Workspace) × (e.before ≡ Some w) × (e.after ≡ Some v) × Starts n w v
            by_seen (there w) none left = absurd (let no : ⊥ = cc in no)
            by_seen (missing room) none left =
                let anew = workspaces_begin_anew h.act h.now room v.0 left in
                absurd (let no : ⊥ = cc (sym anew.holder ∙ v.2) in no)

lawful_at : (ws : List ℕ) (e : Entry) (w : Workspace) → IsLegal ws e → e.before ≡ Some w → IsLawful w
lawful_at ws e w legal b = subst IsLawfulIfThere b legal.first

below_kept : (ws : List ℕ) (n : ℕ) (f : Entry) (u x : Workspace) → IsLegal ws f → f.before ≡ Some u → f.after ≡ Some x → IsBelow n u → IsBelow n x
below_kept ws n f u x legal b a below = by_goes legal.goes
  where
    by_goes : Goes ws f → IsBelow n x
    by_goes (inr (inl h)) = subst (IsBelow n) (same_workspace f.before u x b (sym h.stays ∙ a)) below
    by_goes (inr (inr h)) = absurd (let none : ⊥ = cc (sym h.gone ∙ a) in none)
    by_goes (inl h) = stays_below h.act h.now u x n (lawful_at ws f u legal b) (sym (leaves_of ws f h u b) ∙ a) below

above : (ws : List ℕ) (n m : ℕ) (f : Entry) (u : Workspace) → IsLegal ws f → f.before ≡ Some u → IsBelow n u → starts m f ≡ true → n < m
above ws n m f u legal b below is =
    let s = start_of ws f m legal is in
    let one : s.1 ≡ u = same_workspace f.before s.1 u s.3 b in
    starts_above s.0.act s.0.now u s.2 n m s.0.range s.0.moment (lawful_at ws f u legal b) (sym (leaves_of ws f s.0 u b) ∙ s.4) below (subst (λ (w : Workspace). Starts m w s.2) one s.5)

pub runs_start_in_order : (ws : List ℕ) (w : Option Workspace) (es : List Entry) → AreLegal ws w es → StartsRise ws es
runs_start_in_order ws w [] legal = tt
runs_start_in_order ws w (e ∷ es) legal = (
  (λ n m is.
      let s = start_of ws e n legal.1.0 is in
      let below : IsBelow n s.2 = starts_below s.0.act s.0.now s.1 s.2 n s.0.range s.0.moment (lawful_at ws e s.1 legal.1.0 s.3) (sym (leaves_of ws e s.0 s.1 s.3) ∙ s.4) s.5 in
      through_life ws (IsBelow n) (λ (f : Entry). starts m f ≡ true → n < m) (below_kept ws n) (above ws n m) e es (legal.0.1, legal.1.1)
      (λ v left. subst (IsBelow n) (same_workspace e.after s.2 v s.4 left) below)),
  runs_start_in_order ws e.after es (legal.0.1, legal.1.1),
)

-- what comes again
asked_is : (a b : ℕ) (c d : Bool) (asked other : Asked) (m n : Option (List ℕ)) (body text : List ℕ) → requests a c asked m body ≡ requests b d other n text → (asked ≡ other) × (body ≡ text)
asked_is a b c d asked other m n body text e = (let is : asked ≡ other = cc in is, let is : body ≡ text = cc in is)

same_act : (ws : List ℕ) (e f : Entry) (h : Ruled ws e) (k : Ruled ws f) → Repeats e f → k.act ≡ h.act
same_act ws e f h k again =
    let one = asked_is k.now again.0 k.awaited h.awaited k.asked h.asked k.content_md5 h.content_md5 k.body h.body (sym k.asking ∙ again.1 ∙ ap (asked_again again.0) h.asking) in
    let same : k.what ≡ h.what = (one_name ws ws k.what h.what (sym k.asks ∙ ap (λ (x : Asked). x.act) one.0 ∙ h.asks)).1 in
    is_one h.act k.act (sym h.spells ∙ ap (λ (x : WsAct). act_of x h.asked.lock_id h.body) (sym same) ∙ ap (λ (x : Asked). act_of k.what x.lock_id h.body) (sym one.0)
    ∙ ap (λ (x : List ℕ). act_of k.what k.asked.lock_id x) (sym one.1) ∙ k.spells)

repeat_leaves : (ws : List ℕ) (e f : Entry) → IsLegal ws e → IsLegal ws f → Names e.ask ws → MayRepeat e.ask → IsAccepted e.said → Repeats e f → f.before ≡ e.after → f.after ≡ f.before
repeat_leaves ws e f first second names may accepted again same = by_goes first.goes second.goes
  where
    by_goes : Goes ws e → Goes ws f → f.after ≡ f.before
    by_goes (inr (inl h)) k = absurd (h.refuses names accepted)
    by_goes (inr (inr h)) k = absurd (removal_names ws e.ask h.removes names)
    by_goes (inl h) (inr (inl k)) = k.stays
    by_goes (inl h) (inr (inr k)) = absurd (repeat_removes ws e f names again k)
    by_goes (inl h) (inl k) =
        let repeatable : IsRepeatable h.act = subst MayRepeat h.asking may h.act (act_on h.asked ws h.body h.what h.act h.asks h.spells) in
        let still : (rules h.act k.now k.seen).left ≡ standing k.seen =
        accepted_acts_come_again h.act h.now k.now h.seen k.seen repeatable (accepted_of ws e h accepted) (k.stands ∙ same ∙ h.leaves) in
        k.leaves ∙ ap (λ (a : Act). (rules a k.now k.seen).left) (same_act ws e f h k again) ∙ still ∙ k.stands

pub repeats_leave_it : (ws : List ℕ) (w : Option Workspace) (es : List Entry) → AreLegal ws w es → RepeatsLeaveIt ws es
repeats_leave_it ws w [] legal = tt
repeats_leave_it ws w (e ∷ es) legal = (
  (λ names may accepted. all_of (IsLegal ws) _ es (λ f is again same. repeat_leaves ws e f legal.1.0 is names may accepted again same) legal.1.1),
  repeats_leave_it ws e.after es (legal.0.1, legal.1.1),
)

-- what is done once
refused_missing : (act : Act) (now : ℕ) (room : Bool) → IsDoneOnce act → IsRefusal (rules act now (missing room)).answer
refused_missing act now room once = by_kind (once_is act once)
  where
    by_kind : IsKeyed act ⊎ IsAction act → IsRefusal (rules act now (missing room)).answer
    by_kind (inl keyed) = subst (λ (a : Act). IsRefusal (rules a now (missing room)).answer) (sym keyed.2) tt
    by_kind (inr action) = subst (λ (a : Act). IsRefusal (rules a now (missing room)).answer) (sym action.2) tt

abbrev ComesAgain : Act → Type 0
ComesAgain act = (now later : ℕ) (w v u : Workspace) → IsInRange act → IsMoment now → IsLawful w → (IsRefusal (rules act now (there w)).answer → ⊥)
    → (rules act now (there w)).left ≡ Some v → Reaches v u → (rules act later (there u)).left ≡ Some u

done_again : (act : Act) → IsDoneOnce act → ComesAgain act
done_again act once = by_kind (once_is act once)
  where
    by_kind : IsKeyed act ⊎ IsAction act → ComesAgain act
    by_kind (inl (ask, key, is, k)) = subst ComesAgain (sym is) (λ now later w v u range moment lawful accepted left reaches.
        keyed_creations_come_again ask ask key now later reaches.0 w v u k k range lawful moment accepted left reaches.1 reaches.2)
    by_kind (inr (n, action, is)) = subst ComesAgain (sym is) (λ now later w v u range moment lawful accepted left reaches.
        actions_come_again n action now later reaches.0 w v u lawful moment accepted left reaches.1 reaches.2)

reaches_kept : (ws : List ℕ) (v : Workspace) (f : Entry) (u x : Workspace) → IsLegal ws f → f.before ≡ Some u → f.after ≡ Some x → Reaches v u → Reaches v x
reaches_kept ws v f u x legal b a reaches = by_goes legal.goes
  where
    by_goes : Goes ws f → Reaches v x
    by_goes (inr (inl h)) = subst (Reaches v) (same_workspace f.before u x b (sym h.stays ∙ a)) reaches
    by_goes (inr (inr h)) = absurd (let none : ⊥ = cc (sym h.gone ∙ a) in none)
    by_goes (inl h) = reaches_more h.act h.now v u x reaches h.range h.moment (sym (leaves_of ws f h u b) ∙ a)

for_act : (ws : List ℕ) (e : Entry) (h : Ruled ws e) (act : Act) → AsksFor ws act e.ask → h.act ≡ act
for_act ws e h act asks =
    let given = subst (AsksFor ws act) h.asking asks in
    let spells : act_of h.what h.asked.lock_id h.body ≡ Ok act = subst (λ (a : AskedAct). IsActOn a h.asked.lock_id h.body act) h.asks given.2 in
    is_one act h.act (sym spells ∙ h.spells)

done_once : (ws : List ℕ) (e : Entry) (es : List Entry) (act : Act) → IsLegal ws e → AreLegal ws e.after es → AsksFor ws act e.ask → IsDoneOnce act → IsAccepted e.said
    → AllByRecursion (λ (f : Entry). Repeats e f → f.after ≡ f.before) (life e es)
done_once ws e es act first legal asks once accepted = by_goes first.goes
  where
    by_goes : Goes ws e → AllByRecursion (λ (f : Entry). Repeats e f → f.after ≡ f.before) (life e es)
    by_goes (inr (inl h)) = absurd (h.refuses (for_names ws act e.ask asks) accepted)
    by_goes (inr (inr h)) = absurd (removal_names ws e.ask h.removes (for_names ws act e.ask asks))
    by_goes (inl h) = by_before e.before refl
      where
        once_of : IsDoneOnce h.act
        once_of = subst IsDoneOnce (sym (for_act ws e h act asks)) once

        missed : (s : Seen) → standing s ≡ None → (IsRefusal (rules h.act h.now s).answer → ⊥) → ⊥
        missed (missing room) none taken = taken (refused_missing h.act h.now room once_of)
        missed (there w) none taken = let no : ⊥ = cc in no

        by_before : (o : Option Workspace) → e.before ≡ o → AllByRecursion (λ (f : Entry). Repeats e f → f.after ≡ f.before) (life e es)
        by_before None b = absurd (missed h.seen (h.stands ∙ b) (accepted_of ws e h accepted))
        by_before (Some w) b = by_after e.after refl
          where
            by_after : (o : Option Workspace) → e.after ≡ o → AllByRecursion (λ (f : Entry). Repeats e f → f.after ≡ f.before) (if_so (is_some o) (as_long_as is_some es))
            by_after None a = tt
            by_after (Some v) a = through ws (Reaches v) (λ (f : Entry). Repeats e f → f.after ≡ f.before) (reaches_kept ws v) again es e.after v a legal (reaches_itself v)
              where
                left : (rules h.act h.now (there w)).left ≡ Some v
                left = sym (leaves_of ws e h w b) ∙ a

                again : (f : Entry) (u : Workspace) → IsLegal ws f → f.before ≡ Some u → Reaches v u → Repeats e f → f.after ≡ f.before
                again f u is c reaches repeats = by_way is.goes
                  where
                    by_way : Goes ws f → f.after ≡ f.before
                    by_way (inr (inl k)) = k.stays
                    by_way (inr (inr k)) = absurd (repeat_removes ws e f (for_names ws act e.ask asks) repeats k)
                    by_way (inl k) =
                        leaves_of ws f k u c ∙ ap (λ (x : Act). (rules x k.now (there u)).left) (same_act ws e f h k repeats)
                        ∙ done_again h.act once_of h.now k.now w v u h.range h.moment (lawful_at ws e w first b) (accepted_there ws e h w b accepted) left reaches ∙ sym c

pub done_once_is_done : (ws : List ℕ) (w : Option Workspace) (es : List Entry) → AreLegal ws w es → DoneOnceIsDone ws es
done_once_is_done ws w [] legal = tt
done_once_is_done ws w (e ∷ es) legal = (
  (λ act asks once accepted. done_once ws e es act legal.1.0 (legal.0.1, legal.1.1) asks once accepted),
  done_once_is_done ws e.after es (legal.0.1, legal.1.1),
)

-- ---- the book of each workspace

own_timely : (owner : Owner) (asked : List Ask) → AllByRecursion IsTimely asked → AllByRecursion IsTimely (own_asks owner asked)
own_timely owner [] all = tt
own_timely owner (a ∷ asked) all = chosen (is_own owner a) (own_timely owner asked all.1)
  where
    chosen : (b : Bool) → AllByRecursion IsTimely (own_asks owner asked) → AllByRecursion IsTimely (with_own b a (own_asks owner asked))
    chosen true rest = (all.0, rest)
    chosen false rest = rest

pub of_each_book_of : (Law : List ℕ → List Entry → Type 0) → ((ws : List ℕ) (w : Option Workspace) (es : List Entry) → AreLegal ws w es → Law ws es)
    → (asked : List Ask) (rows : List ℕ → Option Organization) → AllByRecursion IsTimely asked → AreLawful rows → OfEachBookOf Law asked rows
of_each_book_of Law holds_of asked rows timely lawful org ws =
    holds_of ws (workspace_in (rows org) ws) (book ws (rows org) (own_asks (organization org) asked))
    (book_is_legal ws (rows org) (own_asks (organization org) asked) (workspace_lawful rows org ws lawful) (own_timely (organization org) asked timely))

pub custody_is_kept : CustodyIsKept
custody_is_kept asked rows timely lawful = record {
  lock_periods = of_each_book_of _ locks_keep_others_out asked rows timely lawful;
  run_periods = of_each_book_of _ runs_keep_others_out asked rows timely lawful;
  unheld = of_each_book_of _ no_id_where_nobody_holds asked rows timely lawful;
  lock_ends = of_each_book_of _ locks_end_by_unlock asked rows timely lawful;
  one_active = of_each_book_of _ one_run_is_active asked rows timely lawful;
  starts_rise = of_each_book_of _ runs_start_in_order asked rows timely lawful;
  repeats = of_each_book_of _ repeats_leave_it asked rows timely lawful;
  done_once = of_each_book_of _ done_once_is_done asked rows timely lawful;
}

-- of a run of steps, by whatever reading of them
pub custody_of_run : (steps : List Step) (old new : List ℕ → Option Organization) (ts : List (List ℕ)) → RunsTo steps old new ts → AreLawful old
    → (asked : List Ask) → AreAsked steps asked → KeepsCustody asked old
custody_of_run steps old new ts run lawful asked are =
    custody_is_kept asked old (subst (λ (x : List Ask). AllByRecursion IsTimely x) (all_asked_one steps run.asked asked run.are are) run.timely) lawful
