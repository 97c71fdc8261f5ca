-- Services apart: what is answered in turn, step by step, by one service and by services behind a front.
use Rattle.std.specs.Prelude.{cond, IfSome}
use Rattle.serve.proofs.Outside.{◌≡◌, ◌⊎◌, inl, inr, ℕ, suc, Bool, true, false, List, [], ◌∷◌, length, Option, Some, None, refl, sym, ap, subst, ◌∙◌, arith, bytes_eq, fun_ext, bytes_eq-Decides, BadToken, NotFound, token_list_answer, Organization, Answer}
use Rattle.serve.specs.declared.doors.Door.{Door}
use Rattle.serve.specs.declared.steps.Admin.{Admin}
use Rattle.serve.specs.declared.steps.Admin.TheVariants.{OrgAdd, OrgLimit, OrgRemove, OrgList, TokenAdd, TokenList, TokenRevoke}
use Rattle.serve.specs.Apart.{Passed, asks_of, asks_to, answers_of, org_named, IsServiceOf, ChoosesByName, AreDivided, ListsThemAll, AreAlike, AnswersInTurn, ReplaysAnswerInTurn, ServicesApartAreOne, Sent, exchanges_of, with_passed, passed_in, ServedApartAreOne, StrangersHaveBadTokens, FrontsByPathAnswerOtherwise}
use Rattle.serve.specs.Asks.{Ask, silent, refused, requests, commands, stops, Owner, organization, unattributed, operator, owner_of}
use Rattle.serve.specs.Doors.{reported_answer, IsAnswerTo}
use Rattle.serve.specs.Laws.{WroteAlike}
use Rattle.serve.specs.Logs.{org_commanded}
use Rattle.serve.specs.Runs.{AreOwnReplies}
use Rattle.serve.specs.Served.{Exchange, Replies, IsSaidBy, IsServedBy, AreServed, with_carried, with_ask, asked_in, carried_in}
use Rattle.serve.specs.Service.{token_list_text, IsSaidText, AreTexts, IsListed, Stays, said_to, is_own, same_owner, with_own, own_asks, replies_at, record_for, after_ask, records_after}
use Rattle.serve.specs.Steps.{Said, Answered, nothing, step, own_said, own_record}
use Rattle.serve.proofs.LawLemmas.{out_of_reach_is_not_found}
use Rattle.serve.proofs.RunLemmas.{IsOfOne, one_text, owner_is}
use Rattle.serve.proofs.ServedLemmas.{record_then, answer_said, one_answer, reply_alike}

abbrev pub Records : Type 0
Records = List ℕ → Option Organization

same_bytes : (xs : List ℕ) → bytes_eq xs xs ≡ true
same_bytes xs = (bytes_eq-Decides xs xs).1 refl

-- what an organization owns names it
own_names : (org : List ℕ) (command : Admin) → same_owner (organization org) (owner_of (commands 0 command)) ≡ true → org_commanded command ≡ Some org
own_names org (OrgAdd name limit) own = ap Some (sym ((bytes_eq-Decides org name).0 own))
own_names org (OrgLimit name limit) own = ap Some (sym ((bytes_eq-Decides org name).0 own))
own_names org (OrgRemove name is_forced) own = ap Some (sym ((bytes_eq-Decides org name).0 own))
own_names org OrgList own = absurd (let none : ⊥ = cc in none)
own_names org (TokenAdd name token role secret bounds) own = ap Some (sym ((bytes_eq-Decides org name).0 own))
own_names org (TokenList name) own = absurd (let none : ⊥ = cc in none)
own_names org (TokenRevoke name token) own = ap Some (sym ((bytes_eq-Decides org name).0 own))

own_is_named : (org : List ℕ) (a : Ask) → is_own (organization org) a ≡ true → org_named a ≡ Some org
own_is_named org silent own = absurd (let none : ⊥ = cc in none)
own_is_named org (refused at awaited refusal is_head at_door) own = absurd (let none : ⊥ = cc in none)
own_is_named org (requests at awaited asked content_md5 body) own = ap Some (sym ((bytes_eq-Decides org asked.caller).0 own))
own_is_named org (stops at) own = absurd (let none : ⊥ = cc in none)
own_is_named org (commands at command) own = own_names org command own

-- ---- answers in turn, one by one

-- what is asked is answered in turn, each from the records that the one before left
abbrev pub Chain : {A : Type 0} → (Records → Ask → A → Type 0) → List Ask → List A → Records → Records → Type 0
Chain Tells [] [] old new = Stays old new
Chain Tells [] (t ∷ ts) old new = ⊥
Chain Tells (a ∷ asked) [] old new = ⊥
Chain Tells (a ∷ asked) (t ∷ ts) old new = Tells old a t × Chain Tells asked ts (records_after a old) new

-- the records of all that is named are equal
abbrev Agree : Ask → Records → Records → Type 0
Agree a rows others = IfSome (org_named a) (λ org. rows org ≡ others org)

-- the record of the organization that is named, in the store of the service that was chosen
chosen_agrees : (home : List ℕ → List ℕ) (a : Ask) (service : List ℕ) (old before : Records) → ((org : List ℕ) → before org ≡ cond (bytes_eq (home org) service) (old org) None)
    → (named : Option (List ℕ)) → IsServiceOf home old a service named → IfSome named (λ org. before org ≡ old org)
chosen_agrees home a service old before divided None right = tt
chosen_agrees home a service old before divided (Some org) (inl is) =
    divided org ∙ ap (λ (s : List ℕ). cond (bytes_eq (home org) s) (old org) None) is ∙ ap (λ (b : Bool). cond b (old org) None) (same_bytes (home org))
chosen_agrees home a service old before divided (Some org) (inr absent) = divided org ∙ nowhere (bytes_eq (home org) service) ∙ sym absent.0
  where
    nowhere : (b : Bool) → cond b (old org) None ≡ None
    nowhere true = absent.0
    nowhere false = refl

-- a store that has what is its own, after what the chosen service is asked
module _ (home : List ℕ → List ℕ) (a : Ask) (chosen : List ℕ) (old : Records) (right : IsServiceOf home old a chosen (org_named a)) where
  -- the record of an organization that is asked, in a store: before, and after, if it was asked there
  asked_one : (org service : List ℕ) (r : Option Organization) → is_own (organization org) a ≡ true → r ≡ cond (bytes_eq (home org) service) (old org) None
      → IsServiceOf home old a chosen (Some org) → cond (bytes_eq chosen service) (step r a).left r ≡ cond (bytes_eq (home org) service) (step (old org) a).left None
  asked_one org service r own is (inl at_home) =
      ap (λ (s : List ℕ). cond (bytes_eq s service) (step r a).left r) at_home ∙ by_store (bytes_eq (home org) service) is
    where
      by_store : (b : Bool) → r ≡ cond b (old org) None → cond b (step r a).left r ≡ cond b (step (old org) a).left None
      by_store true e = ap (λ (x : Option Organization). (step x a).left) e
      by_store false e = e
  asked_one org service r own is (inr absent) =
      ap (λ (x : Option Organization). cond (bytes_eq chosen service) (step x a).left x) (is ∙ nowhere (bytes_eq (home org) service) (old org) absent.0) ∙ nowhere (bytes_eq chosen service) (step None a).left stays
      ∙ sym (nowhere (bytes_eq (home org) service) (step (old org) a).left (ap (λ (x : Option Organization). (step x a).left) absent.0 ∙ stays))
    where
      nowhere : (b : Bool) (x : Option Organization) → x ≡ None → cond b x None ≡ None
      nowhere true x e = e
      nowhere false x e = refl

      stays : (step None a).left ≡ None
      stays = ap (λ (x : Option Organization). (step x a).left) (sym absent.0) ∙ ap (λ (b : Bool). after_ask b a (old org)) (sym own) ∙ absent.1

  still_divided : (org service : List ℕ) (before : Records) → before org ≡ cond (bytes_eq (home org) service) (old org) None
      → cond (bytes_eq chosen service) (records_after a before) before org ≡ cond (bytes_eq (home org) service) (records_after a old org) None
  still_divided org service before is = by_own (is_own (organization org) a) refl
    where
      split : (b : Bool) → cond b (records_after a before) before org ≡ cond b (records_after a before org) (before org)
      split true = refl
      split false = refl

      unasked : (b : Bool) → cond b (before org) (before org) ≡ before org
      unasked true = refl
      unasked false = refl

      by_own : (own : Bool) → is_own (organization org) a ≡ own
          → cond (bytes_eq chosen service) (records_after a before) before org ≡ cond (bytes_eq (home org) service) (records_after a old org) None
      by_own true e =
          split (bytes_eq chosen service) ∙ ap (λ (b : Bool). cond (bytes_eq chosen service) (after_ask b a (before org)) (before org)) e
          ∙ asked_one org service (before org) e is (subst (IsServiceOf home old a chosen) (own_is_named org a e) right)
          ∙ ap (λ (b : Bool). cond (bytes_eq (home org) service) (after_ask b a (old org)) None) (sym e)
      by_own false e =
          split (bytes_eq chosen service) ∙ ap (λ (b : Bool). cond (bytes_eq chosen service) (after_ask b a (before org)) (before org)) e
          ∙ unasked (bytes_eq chosen service) ∙ is ∙ ap (λ (b : Bool). cond (bytes_eq (home org) service) (after_ask b a (old org)) None) (sym e)

-- what is told is alike if the records that are named are equal
module _ {A : Type 0} (Tells : Records → Ask → A → Type 0) (Alike : A → A → Type 0)
    (alike : (a : Ask) (rows others : Records) (t u : A) → Agree a rows others → Tells rows a t → Tells others a u → ListsThemAll a ⊎ Alike t u) where
  -- what a service has yet to answer, once it has answered the first
  rest_of : (b : Bool) (a : Ask) (t : A) (asked : List Ask) (ts : List A) (before after : Records) → Chain Tells (with_own b a asked) (with_own b t ts) before after
      → Chain Tells asked ts (cond b (records_after a before) before) after
  rest_of true a t asked ts before after h = h.1
  rest_of false a t asked ts before after h = h

  first_of : (b : Bool) (a : Ask) (t : A) (asked : List Ask) (ts : List A) (before after : Records) → b ≡ true → Chain Tells (with_own b a asked) (with_own b t ts) before after → Tells before a t
  first_of true a t asked ts before after e h = h.0
  first_of false a t asked ts before after e h = absurd (let none : ⊥ = cc in none)

  pub apart_alike : (home : List ℕ → List ℕ) (passed : List (Passed A)) (ts : List A) (old new : Records) (before after : List ℕ → Records)
      → Chain Tells (asks_of passed) ts old new
      → ((service : List ℕ) → Chain Tells (asks_to service passed) (answers_of service passed) (before service) (after service))
      → AreDivided home old before → ChoosesByName home old passed
      → AreAlike Alike passed ts × AreDivided home new after
  apart_alike home [] [] old new before after one each divided right = (
    tt,
    λ service org. each service org ∙ divided service org ∙ ap (λ (r : Option Organization). cond (bytes_eq (home org) service) r None) (sym (one org)),
  )
  apart_alike home [] (t ∷ ts) old new before after one each divided right = absurd one
  apart_alike home (p ∷ passed) [] old new before after one each divided right = absurd one
  apart_alike home (p ∷ passed) (t ∷ ts) old new before after one each divided right =
      let next_stores : List ℕ → Records = λ (service : List ℕ). cond (bytes_eq p.service service) (records_after p.ask (before service)) (before service) in
      let first : Tells (before p.service) p.ask p.answer =
      first_of (bytes_eq p.service p.service) p.ask p.answer (asks_to p.service passed) (answers_of p.service passed) (before p.service) (after p.service) (same_bytes p.service) (each p.service) in
      let later : AreAlike Alike passed ts × AreDivided home new after =
      apart_alike home passed ts (records_after p.ask old) new next_stores after one.1
      (λ service. rest_of (bytes_eq p.service service) p.ask p.answer (asks_to service passed) (answers_of service passed) (before service) (after service) (each service))
      (λ service org. still_divided home p.ask p.service old right.0 org service (before service) (divided service org)) right.1 in (
        (alike p.ask (before p.service) old p.answer t (chosen_agrees home p.ask p.service old (before p.service) (divided p.service) (org_named p.ask) right.0) first one.0, later.0),
        later.1,
      )

-- ---- replies as `replay` gives them

abbrev pub TellsText : Records → Ask → List ℕ → Type 0
TellsText rows a text = IsSaidText (said_to rows a) text × IsListed rows a text

said_alike : (said other : Said) (x y : List ℕ) → said ≡ other → IsOfOne other → IsSaidText said x → IsSaidText other y → x ≡ y
said_alike said other x y same one h k = one_text other x y one (subst (λ (s : Said). IsSaidText s x) same h) k

command_alike : (at : ℕ) (command : Admin) (rows others : Records) (x y : List ℕ) → IfSome (org_commanded command) (λ org. rows org ≡ others org)
    → TellsText rows (commands at command) x → TellsText others (commands at command) y → ListsThemAll (commands at command) ⊎ (x ≡ y)
command_alike at (OrgAdd org limit) rows others x y same h k = inr (said_alike (said_to rows (commands at (OrgAdd org limit))) (said_to others (commands at (OrgAdd org limit))) x y (ap (λ (r : Option Organization). (step r (commands at (OrgAdd org limit))).answer) same) tt h.0 k.0)
command_alike at (OrgLimit org limit) rows others x y same h k = inr (said_alike (said_to rows (commands at (OrgLimit org limit))) (said_to others (commands at (OrgLimit org limit))) x y (ap (λ (r : Option Organization). (step r (commands at (OrgLimit org limit))).answer) same) tt h.0 k.0)
command_alike at (OrgRemove org is_forced) rows others x y same h k = inr (said_alike (said_to rows (commands at (OrgRemove org is_forced))) (said_to others (commands at (OrgRemove org is_forced))) x y (ap (λ (r : Option Organization). (step r (commands at (OrgRemove org is_forced))).answer) same) tt h.0 k.0)
command_alike at OrgList rows others x y same h k = inl (at, refl)
command_alike at (TokenAdd org name role secret bounds) rows others x y same h k = inr (said_alike (said_to rows (commands at (TokenAdd org name role secret bounds))) (said_to others (commands at (TokenAdd org name role secret bounds))) x y (ap (λ (r : Option Organization). (step r (commands at (TokenAdd org name role secret bounds))).answer) same) tt h.0 k.0)
command_alike at (TokenList org) rows others x y same h k = inr (h.1 ∙ ap (λ (r : Option Organization). token_list_text (token_list_answer r)) same ∙ sym k.1)
command_alike at (TokenRevoke org name) rows others x y same h k = inr (said_alike (said_to rows (commands at (TokenRevoke org name))) (said_to others (commands at (TokenRevoke org name))) x y (ap (λ (r : Option Organization). (step r (commands at (TokenRevoke org name))).answer) same) tt h.0 k.0)

text_alike : (a : Ask) (rows others : Records) (x y : List ℕ) → Agree a rows others → TellsText rows a x → TellsText others a y → ListsThemAll a ⊎ (x ≡ y)
text_alike silent rows others x y same h k = inr (one_text nothing x y tt h.0 k.0)
text_alike (refused at awaited refusal is_head at_door) rows others x y same h k = inr (one_text (said_to others (refused at awaited refusal is_head at_door)) x y tt h.0 k.0)
text_alike (requests at awaited asked content_md5 body) rows others x y same h k =
    inr (said_alike (said_to rows (requests at awaited asked content_md5 body)) (said_to others (requests at awaited asked content_md5 body)) x y
    (ap (λ (r : Option Organization). (step r (requests at awaited asked content_md5 body)).answer) same) tt h.0 k.0)
text_alike (stops at) rows others x y same h k = inr (one_text (said_to others (stops at)) x y tt h.0 k.0)
text_alike (commands at command) rows others x y same h k = command_alike at command rows others x y same h k

-- what was answered in turn, from its first answer on
own_first : (b : Bool) (owner : Owner) (a : Ask) (r : Option Organization) (t : List ℕ) (asked : List Ask) (ts : List (List ℕ)) → b ≡ true
    → AreTexts (own_said r (with_own b a asked)) (with_own b t ts) → IsSaidText (step r a).answer t
own_first true owner a r t asked ts e h = h.0
own_first false owner a r t asked ts e h = absurd (let none : ⊥ = cc in none)

own_rest : (b : Bool) (a : Ask) (r : Option Organization) (t : List ℕ) (asked : List Ask) (ts : List (List ℕ)) → AreTexts (own_said r (with_own b a asked)) (with_own b t ts) → AreTexts (own_said (after_ask b a r) asked) ts
own_rest true a r t asked ts h = h.1
own_rest false a r t asked ts h = h

record_rest : (b : Bool) (a : Ask) (r : Option Organization) (asked : List Ask) → own_record r (with_own b a asked) ≡ own_record (after_ask b a r) asked
record_rest true a r asked = refl
record_rest false a r asked = refl

same_owner-refl : (owner : Owner) → same_owner owner owner ≡ true
same_owner-refl (organization org) = same_bytes org
same_owner-refl unattributed = refl
same_owner-refl operator = refl

pub chain_of : (asked : List Ask) (old new : Records) (ts : List (List ℕ)) → AnswersInTurn asked old new ts → Chain TellsText asked ts old new
chain_of [] old new [] run = run.records
chain_of [] old new (t ∷ ts) run = let size : suc (length ts) ≡ 0 = run.one_each in absurd (omega arith)
chain_of (a ∷ asked) old new [] run = let size : 0 ≡ suc (length asked) = run.one_each in absurd (omega arith)
chain_of (a ∷ asked) old new (t ∷ ts) run =
    let size : suc (length ts) ≡ suc (length asked) = run.one_each in (
      (own_first (is_own (owner_of a) a) (owner_of a) a (record_for old (owner_of a)) t (own_asks (owner_of a) asked) (replies_at (owner_of a) asked ts) (same_owner-refl (owner_of a)) (run.told (owner_of a)), run.listed.0),
      chain_of asked (records_after a old) new ts (record {
        one_each = omega arith;
        told = λ owner. subst (λ (r : Option Organization). AreTexts (own_said r (own_asks owner asked)) (replies_at owner asked ts))
            (sym (record_then owner a old (records_after a old) (λ org. refl) (is_own owner a) refl))
            (own_rest (is_own owner a) a (record_for old owner) t (own_asks owner asked) (replies_at owner asked ts) (run.told owner));
        records = λ org. run.records org ∙ record_rest (is_own (organization org) a) a (old org) (own_asks (organization org) asked);
        listed = run.listed.1;
      }),
    )

-- and the other way round
own_more : (b : Bool) (a : Ask) (r : Option Organization) (t : List ℕ) (asked : List Ask) (ts : List (List ℕ)) → (b ≡ true → IsSaidText (step r a).answer t) → AreTexts (own_said (after_ask b a r) asked) ts
    → AreTexts (own_said r (with_own b a asked)) (with_own b t ts)
own_more true a r t asked ts first rest = (first refl, rest)
own_more false a r t asked ts first rest = rest

pub answers_by_chain : (asked : List Ask) (ts : List (List ℕ)) (old new : Records) → Chain TellsText asked ts old new → AnswersInTurn asked old new ts
answers_by_chain [] [] old new h = record { one_each = refl; told = λ owner. tt; records = h; listed = tt }
answers_by_chain [] (t ∷ ts) old new h = absurd h
answers_by_chain (a ∷ asked) [] old new h = absurd h
answers_by_chain (a ∷ asked) (t ∷ ts) old new h =
    let rest : AnswersInTurn asked (records_after a old) new ts = answers_by_chain asked ts (records_after a old) new h.1 in
    record {
      one_each = ap suc rest.one_each;
      told = λ owner.
          own_more (is_own owner a) a (record_for old owner) t (own_asks owner asked) (replies_at owner asked ts)
          (λ own. subst (λ (o : Owner). IsSaidText (step (record_for old o) a).answer t) (sym (owner_is owner (owner_of a) own)) h.0.0)
          (subst (λ (r : Option Organization). AreTexts (own_said r (own_asks owner asked)) (replies_at owner asked ts)) (record_then owner a old (records_after a old) (λ org. refl) (is_own owner a) refl) (rest.told owner));
      records = λ org. rest.records org ∙ sym (record_rest (is_own (organization org) a) a (old org) (own_asks (organization org) asked));
      listed = (h.0.1, rest.listed);
    }

pub replays_answer_in_turn : ReplaysAnswerInTurn
replays_answer_in_turn asked before after ts size own nobodys operators listed = record {
  one_each = size;
  told = told;
  records = λ org. (own org).own_record;
  listed = listed;
}
  where
    told : (owner : Owner) → AreOwnReplies asked before ts owner
    told (organization org) = (own org).own_replies
    told unattributed = nobodys
    told operator = operators

pub services_apart_are_one : ServicesApartAreOne
services_apart_are_one home passed ts old new before after one each divided right =
    apart_alike TellsText (λ (x y : List ℕ). x ≡ y) text_alike home passed ts old new before after (chain_of (asks_of passed) old new ts one)
    (λ service. chain_of (asks_to service passed) (before service) (after service) (answers_of service passed) (each service)) divided right

-- ---- exchanges

abbrev TellsExchange : Records → Ask → Exchange → Type 0
TellsExchange rows a e = (answer : Answer) × IsAnswerTo rows e.at e.awaited a answer × Replies e answer

-- what is said of equal records
module _ (a : Ask) (rows others : Records) (e f : Exchange) (said : said_to rows a ≡ said_to others a) (one : IsOfOne (said_to others a)) where
  told_alike : TellsExchange rows a e → TellsExchange others a f → ListsThemAll a ⊎ WroteAlike e f
  told_alike h k =
      inr (reply_alike e f h.0 k.0 (one_answer (said_to others a) e.at f.at e.awaited f.awaited h.0 k.0 one
      (subst (λ (s : Said). IsSaidBy e.at e.awaited s h.0) said (answer_said rows e.at e.awaited a h.0 h.1)) (answer_said others f.at f.awaited a k.0 k.1)) h.2 k.2)

list_told_alike : (at : ℕ) (org : List ℕ) (rows others : Records) (e f : Exchange) → rows org ≡ others org → TellsExchange rows (commands at (TokenList org)) e → TellsExchange others (commands at (TokenList org)) f
    → ListsThemAll (commands at (TokenList org)) ⊎ WroteAlike e f
list_told_alike at org rows others e f same h k =
    let first = h.1 in
    let second = k.1 in
    let listed : first.0 ≡ second.0 = first.1 ∙ ap token_list_answer same ∙ sym second.1 in
    inr (reply_alike e f h.0 k.0 (first.2 ∙ ap reported_answer listed ∙ sym second.2) h.2 k.2)

command_told_alike : (at : ℕ) (command : Admin) (rows others : Records) (e f : Exchange) → IfSome (org_commanded command) (λ org. rows org ≡ others org)
    → TellsExchange rows (commands at command) e → TellsExchange others (commands at command) f → ListsThemAll (commands at command) ⊎ WroteAlike e f
command_told_alike at (OrgAdd org limit) rows others e f same = told_alike (commands at (OrgAdd org limit)) rows others e f (ap (λ (r : Option Organization). (step r (commands at (OrgAdd org limit))).answer) same) tt
command_told_alike at (OrgLimit org limit) rows others e f same = told_alike (commands at (OrgLimit org limit)) rows others e f (ap (λ (r : Option Organization). (step r (commands at (OrgLimit org limit))).answer) same) tt
command_told_alike at (OrgRemove org is_forced) rows others e f same = told_alike (commands at (OrgRemove org is_forced)) rows others e f (ap (λ (r : Option Organization). (step r (commands at (OrgRemove org is_forced))).answer) same) tt
command_told_alike at OrgList rows others e f same = λ h k. inl (at, refl)
command_told_alike at (TokenAdd org name role secret bounds) rows others e f same = told_alike (commands at (TokenAdd org name role secret bounds)) rows others e f (ap (λ (r : Option Organization). (step r (commands at (TokenAdd org name role secret bounds))).answer) same) tt
command_told_alike at (TokenList org) rows others e f same = list_told_alike at org rows others e f same
command_told_alike at (TokenRevoke org name) rows others e f same = told_alike (commands at (TokenRevoke org name)) rows others e f (ap (λ (r : Option Organization). (step r (commands at (TokenRevoke org name))).answer) same) tt

exchange_alike : (a : Ask) (rows others : Records) (e f : Exchange) → Agree a rows others → TellsExchange rows a e → TellsExchange others a f → ListsThemAll a ⊎ WroteAlike e f
exchange_alike silent rows others e f same = told_alike silent rows others e f refl tt
exchange_alike (refused at awaited refusal is_head at_door) rows others e f same = told_alike (refused at awaited refusal is_head at_door) rows others e f refl tt
exchange_alike (requests at awaited asked content_md5 body) rows others e f same =
    told_alike (requests at awaited asked content_md5 body) rows others e f (ap (λ (r : Option Organization). (step r (requests at awaited asked content_md5 body)).answer) same) tt
exchange_alike (stops at) rows others e f same = told_alike (stops at) rows others e f refl tt
exchange_alike (commands at command) rows others e f same = command_told_alike at command rows others e f same

-- exchanges in a row, those that carried something out, one by one
pub chain_served : (door : Door) (es : List Exchange) (old new : Records) → AreServed door es old new → Chain TellsExchange (asked_in es) (carried_in es) old new
chain_served door [] old new h = h
chain_served door (e ∷ es) old new h = by_ask e.ask h.1.1 (chain_served door es h.0 new h.2)
  where
    by_ask : (o : Option Ask) → IsServedBy door e o old h.0 → Chain TellsExchange (asked_in es) (carried_in es) h.0 new → Chain TellsExchange (with_ask o (asked_in es)) (with_carried o e (carried_in es)) old new
    by_ask None one rest = subst (λ (rows : Records). Chain TellsExchange (asked_in es) (carried_in es) rows new) (fun_ext one.0) rest
    by_ask (Some a) one rest = ((one.0, one.1.answers, one.2), subst (λ (rows : Records). Chain TellsExchange (asked_in es) (carried_in es) rows new) (fun_ext one.1.carries) rest)

-- what a service carried out, as it passed the front
module _ (service : List ℕ) (s : Sent) (passed : List (Passed Exchange)) (es : List Exchange) where
  asks_by : (o : Option Ask) (b : Bool) → s.exchange.ask ≡ o → bytes_eq s.service service ≡ b → asks_to service passed ≡ asked_in es → asks_to service (with_passed o s passed) ≡ asked_in (with_own b s.exchange es)
  asks_by None true ask chosen rest = rest ∙ sym (ap (λ (o : Option Ask). with_ask o (asked_in es)) ask)
  asks_by None false ask chosen rest = rest
  asks_by (Some a) true ask chosen rest =
      ap (λ (b : Bool). with_own b a (asks_to service passed)) chosen ∙ ap (λ (l : List Ask). a ∷ l) rest ∙ sym (ap (λ (o : Option Ask). with_ask o (asked_in es)) ask)
  asks_by (Some a) false ask chosen rest = ap (λ (b : Bool). with_own b a (asks_to service passed)) chosen ∙ rest

  answers_by : (o : Option Ask) (b : Bool) → s.exchange.ask ≡ o → bytes_eq s.service service ≡ b → answers_of service passed ≡ carried_in es → answers_of service (with_passed o s passed) ≡ carried_in (with_own b s.exchange es)
  answers_by None true ask chosen rest = rest ∙ sym (ap (λ (o : Option Ask). with_carried o s.exchange (carried_in es)) ask)
  answers_by None false ask chosen rest = rest
  answers_by (Some a) true ask chosen rest =
      ap (λ (b : Bool). with_own b s.exchange (answers_of service passed)) chosen ∙ ap (λ (l : List Exchange). s.exchange ∷ l) rest ∙ sym (ap (λ (o : Option Ask). with_carried o s.exchange (carried_in es)) ask)
  answers_by (Some a) false ask chosen rest = ap (λ (b : Bool). with_own b s.exchange (answers_of service passed)) chosen ∙ rest

asks_carried : (service : List ℕ) (sent : List Sent) → asks_to service (passed_in sent) ≡ asked_in (exchanges_of service sent)
asks_carried service [] = refl
asks_carried service (s ∷ sent) = asks_by service s (passed_in sent) (exchanges_of service sent) s.exchange.ask (bytes_eq s.service service) refl refl (asks_carried service sent)

answers_carried : (service : List ℕ) (sent : List Sent) → answers_of service (passed_in sent) ≡ carried_in (exchanges_of service sent)
answers_carried service [] = refl
answers_carried service (s ∷ sent) = answers_by service s (passed_in sent) (exchanges_of service sent) s.exchange.ask (bytes_eq s.service service) refl refl (answers_carried service sent)

pub served_apart_are_one : ServedApartAreOne
served_apart_are_one home sent es door doors old new before after same one each divided right =
    apart_alike TellsExchange WroteAlike exchange_alike home (passed_in sent) (carried_in es) old new before after
    (subst (λ (asked : List Ask). Chain TellsExchange asked (carried_in es) old new) (sym same) (chain_served door es old new one))
    (λ service.
    subst (λ (asked : List Ask). Chain TellsExchange asked (answers_of service (passed_in sent)) (before service) (after service)) (sym (asks_carried service sent))
    (subst (λ (answers : List Exchange). Chain TellsExchange (asked_in (exchanges_of service sent)) answers (before service) (after service)) (sym (answers_carried service sent))
    (chain_served (doors service) (exchanges_of service sent) (before service) (after service) (each service))))
    divided right

-- ---- fronts by path

pub strangers_have_bad_tokens : StrangersHaveBadTokens
strangers_have_bad_tokens now asked content_md5 body = refl

pub fronts_by_path_answer_otherwise : FrontsByPathAnswerOtherwise
fronts_by_path_answer_otherwise r now asked content_md5 body token out known may same =
    let told : Some BadToken ≡ Some NotFound = ap (λ (a : Answer). a.refusal) (same ∙ ap (λ (done : Answered). done.answer) (out_of_reach_is_not_found r now asked content_md5 body token out known may)) in
    let none : ⊥ = cc told in none
