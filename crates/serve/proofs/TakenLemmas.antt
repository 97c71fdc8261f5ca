-- One step taken: what it asks is carried out, and this is the text of what is said.
use Rattle.serve.proofs.Outside.{◌≡◌, ℕ, Bool, true, false, not, ◌&&◌, ◌||◌, cond, List, Option, Some, None, is_some, Result, IfOk, refl, sym, ap, subst, ◌∙◌, IfOk-weaker, get, sha256, Organization, Asking, asked_of, asks, Message, unfinished, whole, Reading, effect, has_use, has_digest, with_token, without_token, token_of, token_list_answer, ListsOrganizations, AdminAnswer, Done, Exists, Absent, InUse, Organizations, Tokens, IsMoment}
use Rattle.route.specs.Asks as route
use Rattle.wire.specs.Messages as wire
use Rattle.serve.specs.declared.messages.Prepared.{Prepared}
use Rattle.serve.specs.Asks.{Ask, silent, requests, commands, stops, organization, IsTimely}
use Rattle.serve.specs.Asks as ask
use Rattle.serve.specs.Inner.Prepared.{IsPrepared, Foresees}
use Rattle.serve.specs.Steps.{request_step, command_step}
use Rattle.serve.specs.Service.{asked_by, Asks, Carries, Stays, said_to, IsSaidText, after_ask, is_own, ask_of}
use Rattle.serve.specs.Service.{IsAsked, IsAdminAnswer, admin_word, token_list_text, reported_text, ListsAll, IsListedBy, IsListed}
use Rattle.serve.specs.Inner.Taking.{IsTaken, IsOnOne, IsReported, IsCarriedOut}
use Rattle.serve.specs.declared.commands.CommandReport.{CommandReport}
use Rattle.serve.specs.declared.steps.Step.{Step}
use Rattle.serve.specs.declared.steps.Step.TheVariants.{Command, Request}
use Rattle.serve.specs.declared.steps.Admin.{Admin}
use Rattle.serve.specs.declared.steps.Admin.TheVariants.{OrgAdd, OrgLimit, OrgRemove, OrgList, TokenAdd, TokenList, TokenRevoke}

-- what is prepared stays so over rows that stay
pub prepared_after : (old new : List ℕ → Option Organization) (a : Ask) (p : Prepared) → Stays old new → IsPrepared old a p → IsPrepared new a p
prepared_after old new silent p stays h = h
prepared_after old new (ask.refused at awaited refusal is_head at_door) p stays h = h
prepared_after old new (requests at awaited asked content_md5 body) p stays h =
    subst (λ (r : Option Organization). Foresees r asked.caller (request_step r at asked content_md5 body) p.reply p.change) (sym (stays asked.caller)) h
prepared_after old new (stops at) p stays h = h
prepared_after old new (commands at command) p stays h = h

pub carries_after : (old mid new : List ℕ → Option Organization) (a : Ask) → Stays old mid → Carries a mid new → Carries a old new
carries_after old mid new a stays carries = λ org. carries org ∙ ap (after_ask (is_own (organization org) a) a) (stays org)

-- an operator's command
pub command_taken : {E : Type 0} (s : Step) (at : ℕ) (command : Admin) (old new : List ℕ → Option Organization) (res : Result (List ℕ) E) → s ≡ Command at command
    → IfOk res (λ text. (at : ℕ) → Carries (commands at command) old new × IsSaidText (said_to old (commands at command)) text × IsListedBy old command text)
    → IfOk res (λ text. IsTaken s text old new)
command_taken s at command old new res is h =
    IfOk-weaker res _ _ (λ text taken. record {
      ask = commands at command;
      is = subst (λ (x : Step). IsAsked x (commands at command)) (sym is) refl;
      timely = tt;
      carries = (taken at).0;
      text_is = (taken at).1;
      listed = (taken at).2;
    }) h

-- the moment of what is asked is that of the step
asking_timely : (at : ℕ) (awaited : Bool) (message : Message) (asking : Asking) → IsMoment at → IsTimely (asked_by at awaited message asking)
asking_timely at awaited message (route.refused refusal) moment = tt
asking_timely at awaited message (asks asked) moment = moment

pub reading_timely : (at : ℕ) (reading : Reading) → IsMoment at → IsTimely (ask_of at reading)
reading_timely at unfinished moment = tt
reading_timely at (wire.refused refusal head) moment = tt
reading_timely at (whole message awaited) moment = asking_timely at awaited message (asked_of message) moment

-- no request asks for the list of all organizations
asking_listed : (at : ℕ) (awaited : Bool) (message : Message) (asking : Asking) (records : List ℕ → Option Organization) (text : List ℕ) → IsListed records (asked_by at awaited message asking) text
asking_listed at awaited message (route.refused refusal) records text = tt
asking_listed at awaited message (asks asked) records text = tt

pub reading_listed : (at : ℕ) (reading : Reading) (records : List ℕ → Option Organization) (text : List ℕ) → IsListed records (ask_of at reading) text
reading_listed at unfinished records text = tt
reading_listed at (wire.refused refusal head) records text = tt
reading_listed at (whole message awaited) records text = asking_listed at awaited message (asked_of message) records text

-- the list of all organizations, and that of an organization's tokens: nothing changes
pub list_carried : (old new : List ℕ → Option Organization) (command : Admin) (reported : CommandReport) → command ≡ OrgList → Stays old new
    → (answer : AdminAnswer) → ListsOrganizations old answer → IsReported answer reported → IsCarriedOut command old new reported
list_carried old new command reported is stays answer listed reports =
    subst (λ (c : Admin). IsCarriedOut c old new reported) (sym is) (record { answer = answer; answered = listed; reports = reports; carries = λ at. stays })

pub tokens_carried : (old new : List ℕ → Option Organization) (command : Admin) (org : List ℕ) (reported : CommandReport) → command ≡ TokenList org → Stays old new
    → IsReported (token_list_answer (old org)) reported → IsCarriedOut command old new reported
tokens_carried old new command org reported is stays reports =
    subst (λ (c : Admin). IsCarriedOut c old new reported) (sym is) (record { answer = token_list_answer (old org); answered = refl; reports = reports; carries = λ at. stays })

-- a request
pub request_taken : {E : Type 0} (s : Step) (at : ℕ) (bytes came : List ℕ) (old new : List ℕ → Option Organization) (res : Result (List ℕ) E) → s ≡ Request at bytes → came ≡ bytes → IsMoment at
    → IfOk res (λ text. (ask : Ask) × Asks at came ask × Carries ask old new × IsSaidText (said_to old ask) text)
    → IfOk res (λ text. IsTaken s text old new)
request_taken s at bytes came old new res is same moment h =
    IfOk-weaker res _ _ (λ text taken. record {
      ask = taken.0;
      is = subst (λ (x : Step). IsAsked x taken.0) (sym is) (subst (λ (b : List ℕ). Asks at b taken.0) same taken.1);
      timely = subst IsTimely (sym taken.1.is) (reading_timely at taken.1.reading moment);
      carries = taken.2;
      text_is = taken.3;
      listed = subst (λ (a : Ask). IsListed old a text) (sym taken.1.is) (reading_listed at taken.1.reading old text);
    }) h

-- the text of an answer on one organization is its word
abbrev IsWord : AdminAnswer → Type 0
IsWord answer = admin_word answer ≡ reported_text answer

step_word : (r : Option Organization) (command : Admin) → IsOnOne command → IsWord (command_step r command).answer
step_word None (OrgAdd org limit) one = refl
step_word (Some o) (OrgAdd org limit) one = refl
step_word None (OrgLimit org limit) one = refl
step_word (Some o) (OrgLimit org limit) one = refl
step_word None (OrgRemove org is_forced) one = refl
step_word (Some o) (OrgRemove org is_forced) one = removed (not is_forced && has_use o)
  where
    removed : (b : Bool) → IsWord (cond b (effect InUse (Some o)) (effect Done None)).answer
    removed true = refl
    removed false = refl
step_word r OrgList one = absurd one
step_word None (TokenAdd org name role secret bounds) one = refl
step_word (Some o) (TokenAdd org name role secret bounds) one = added (is_some (get o.tokens name) || has_digest (sha256 secret) o)
  where
    added : (b : Bool) → IsWord (cond b (effect Exists (Some o)) (effect Done (Some (with_token o name (token_of (sha256 secret) role bounds))))).answer
    added true = refl
    added false = refl
step_word r (TokenList org) one = absurd one
step_word None (TokenRevoke org name) one = refl
step_word (Some o) (TokenRevoke org name) one = taken (is_some (get o.tokens name))
  where
    taken : (b : Bool) → IsWord (cond b (effect Done (Some (without_token o name))) (effect Absent (Some o))).answer
    taken true = refl
    taken false = refl

pub word_reported : (rows : List ℕ → Option Organization) (command : Admin) (answer : AdminAnswer) → IsAdminAnswer rows command answer → IsOnOne command → IsWord answer
word_reported rows (OrgAdd org limit) answer is one = subst IsWord (sym is) (step_word (rows org) (OrgAdd org limit) one)
word_reported rows (OrgLimit org limit) answer is one = subst IsWord (sym is) (step_word (rows org) (OrgLimit org limit) one)
word_reported rows (OrgRemove org is_forced) answer is one = subst IsWord (sym is) (step_word (rows org) (OrgRemove org is_forced) one)
word_reported rows OrgList answer is one = absurd one
word_reported rows (TokenAdd org name role secret bounds) answer is one = subst IsWord (sym is) (step_word (rows org) (TokenAdd org name role secret bounds) one)
word_reported rows (TokenList org) answer is one = absurd one
word_reported rows (TokenRevoke org name) answer is one = subst IsWord (sym is) (step_word (rows org) (TokenRevoke org name) one)

-- a list of all organizations, and one of tokens, is its text
list_said : (rows : List ℕ → Option Organization) (answer : AdminAnswer) (text : List ℕ) → ListsOrganizations rows answer → text ≡ reported_text answer → ListsAll rows text
list_said rows Done text listed made = absurd listed
list_said rows Exists text listed made = absurd listed
list_said rows Absent text listed made = absurd listed
list_said rows InUse text listed made = absurd listed
list_said rows (Organizations listing) text listed made = (listing, listed, made)
list_said rows (Tokens listing) text listed made = absurd listed

tokens_said : (r : Option Organization) → reported_text (token_list_answer r) ≡ token_list_text (token_list_answer r)
tokens_said None = refl
tokens_said (Some o) = refl

-- the text of an answer is that of what the machine says, and of the list that is asked for
pub said_reported : (rows : List ℕ → Option Organization) (command : Admin) (answer : AdminAnswer) (text : List ℕ) (at : ℕ) → IsAdminAnswer rows command answer → text ≡ reported_text answer
    → IsSaidText (said_to rows (commands at command)) text × IsListedBy rows command text
said_reported rows (OrgAdd org limit) answer text at is made = (made ∙ sym (word_reported rows (OrgAdd org limit) answer is tt) ∙ ap admin_word is, tt)
said_reported rows (OrgLimit org limit) answer text at is made = (made ∙ sym (word_reported rows (OrgLimit org limit) answer is tt) ∙ ap admin_word is, tt)
said_reported rows (OrgRemove org is_forced) answer text at is made = (made ∙ sym (word_reported rows (OrgRemove org is_forced) answer is tt) ∙ ap admin_word is, tt)
said_reported rows OrgList answer text at is made = let listed = list_said rows answer text is made in ((listed.0, listed.2), listed)
said_reported rows (TokenAdd org name role secret bounds) answer text at is made = (made ∙ sym (word_reported rows (TokenAdd org name role secret bounds) answer is tt) ∙ ap admin_word is, tt)
said_reported rows (TokenList org) answer text at is made = let listed = made ∙ ap reported_text is ∙ tokens_said (rows org) in ((token_list_answer (rows org), listed), listed)
said_reported rows (TokenRevoke org name) answer text at is made = (made ∙ sym (word_reported rows (TokenRevoke org name) answer is tt) ∙ ap admin_word is, tt)
