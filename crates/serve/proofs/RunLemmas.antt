-- A run one step longer, and runs that agree.
use Rattle.serve.proofs.Outside.{⊤, ◌≡◌, ℕ, suc, ◌+◌, Bool, true, false, List, [], ◌∷◌, ◌++◌, length, take, get_or, ◌<◌, Option, None, Result, Ok, Err, IfOk, OnOk, Vec, Global, refl, sym, ap, subst, ◌∙◌, arith, bytes_eq-Decides, take_more, length-take-le, Organization, fun_ext, take-length, reads_one, one_reply, continue_if, AdminAnswer, AllByRecursion}
use Rattle.serve.specs.declared.steps.Step.{Step}
use Rattle.serve.specs.declared.steps.Step.TheVariants.{Request, Command}
use Rattle.serve.specs.declared.steps.Admin.{Admin}
use Rattle.serve.specs.declared.steps.Admin.TheVariants.{OrgAdd, OrgLimit, OrgRemove, OrgList, TokenAdd, TokenList, TokenRevoke}
use Rattle.serve.specs.Asks.{Ask, silent, refused, requests, commands, stops, Owner, organization, unattributed, operator, commanded_of, owner_of, IsTimely}
use Rattle.serve.specs.Steps.{Said, nothing, replies, reports, lists, lists_tokens, command_step, command_said, step, own_said, own_record}
use Rattle.serve.specs.Service.{IsAsked, AreAsked, AreTexts, IsSaidText, ask_of, same_owner, is_own, with_own, own_asks, replies_at, record_for, after_ask, records_after, IsListed, said_to}
use Rattle.serve.specs.Runs.{IsOwnMachine, IsOwnRecord, AreOwnReplies, ListsAreReported}
use Rattle.serve.specs.Inner.Taking.{IsTaken, RunsTo}
use Rattle.serve.specs.Laws.{TwoWorlds, own_steps, SameStepsAskTheSame}

with_own-append : {A : Type 0} (b : Bool) (a : A) (xs ys : List A) → with_own b a (xs ++ ys) ≡ with_own b a xs ++ ys
with_own-append true a xs ys = refl
with_own-append false a xs ys = refl

own_asks-push : (owner : Owner) (asked : List Ask) (a : Ask) → own_asks owner (asked ++ a ∷ []) ≡ own_asks owner asked ++ with_own (is_own owner a) a []
own_asks-push owner [] a = refl
own_asks-push owner (b ∷ asked) a = ap (with_own (is_own owner b) b) (own_asks-push owner asked a) ∙ with_own-append (is_own owner b) b (own_asks owner asked) (with_own (is_own owner a) a [])

pub own_asks-append : (owner : Owner) (asked more : List Ask) → own_asks owner (asked ++ more) ≡ own_asks owner asked ++ own_asks owner more
own_asks-append owner [] more = refl
own_asks-append owner (b ∷ asked) more = ap (with_own (is_own owner b) b) (own_asks-append owner asked more) ∙ with_own-append (is_own owner b) b (own_asks owner asked) (own_asks owner more)

replies_at-push : (owner : Owner) (asked : List Ask) (a : Ask) (ts : List (List ℕ)) (t : List ℕ) → length asked ≡ length ts
    → replies_at owner (asked ++ a ∷ []) (ts ++ t ∷ []) ≡ replies_at owner asked ts ++ with_own (is_own owner a) t []
replies_at-push owner [] a [] t e = refl
replies_at-push owner [] a (u ∷ ts) t e = absurd (omega arith)
replies_at-push owner (b ∷ asked) a [] t e = absurd (omega arith)
replies_at-push owner (b ∷ asked) a (u ∷ ts) t e =
    ap (with_own (is_own owner b) u) (replies_at-push owner asked a ts t (omega arith)) ∙ with_own-append (is_own owner b) u (replies_at owner asked ts) (with_own (is_own owner a) t [])

pub own_record-append : (r : Option Organization) (xs ys : List Ask) → own_record r (xs ++ ys) ≡ own_record (own_record r xs) ys
own_record-append r [] ys = refl
own_record-append r (a ∷ xs) ys = own_record-append (step r a).left xs ys

pub own_said-append : (r : Option Organization) (xs ys : List Ask) → own_said r (xs ++ ys) ≡ own_said r xs ++ own_said (own_record r xs) ys
own_said-append r [] ys = refl
own_said-append r (a ∷ xs) ys = ap (λ (s : List Said). (step r a).answer ∷ s) (own_said-append (step r a).left xs ys)

pub AreTexts-append : (s s' : List Said) (ts ts' : List (List ℕ)) → AreTexts s ts → AreTexts s' ts' → AreTexts (s ++ s') (ts ++ ts')
AreTexts-append [] s' [] ts' h h' = h'
AreTexts-append [] s' (t ∷ ts) ts' h h' = absurd h
AreTexts-append (x ∷ s) s' [] ts' h h' = absurd h
AreTexts-append (x ∷ s) s' (t ∷ ts) ts' h h' = (h.0, AreTexts-append s s' ts ts' h.1 h')

AreAsked-push : (steps : List Step) (s : Step) (asked : List Ask) (a : Ask) → AreAsked steps asked → IsAsked s a → AreAsked (steps ++ s ∷ []) (asked ++ a ∷ [])
AreAsked-push [] s [] a h is = (is, tt)
AreAsked-push [] s (b ∷ asked) a h is = absurd h
AreAsked-push (x ∷ steps) s [] a h is = absurd h
AreAsked-push (x ∷ steps) s (b ∷ asked) a h is = (h.0, AreAsked-push steps s asked a h.1 is)

timely-push : (asked : List Ask) (a : Ask) → AllByRecursion IsTimely asked → IsTimely a → AllByRecursion IsTimely (asked ++ a ∷ [])
timely-push [] a all is = (is, tt)
timely-push (b ∷ asked) a all is = (all.0, timely-push asked a all.1 is)

AreAsked-length : (steps : List Step) (asked : List Ask) → AreAsked steps asked → length asked ≡ length steps
AreAsked-length [] [] h = refl
AreAsked-length [] (a ∷ asked) h = absurd h
AreAsked-length (s ∷ steps) [] h = absurd h
AreAsked-length (s ∷ steps) (a ∷ asked) h = ap suc (AreAsked-length steps asked h.1)

-- the record of an organization after one step more
after_more : (b : Bool) (r : Option Organization) (a : Ask) → own_record r (with_own b a []) ≡ after_ask b a r
after_more true r a = refl
after_more false r a = refl

-- equal owners
pub owner_is : (owner other : Owner) → same_owner owner other ≡ true → owner ≡ other
owner_is (organization a) (organization b) e = ap organization ((bytes_eq-Decides a b).0 e)
owner_is (organization a) unattributed e = absurd (let no : ⊥ = cc in no)
owner_is (organization a) operator e = absurd (let no : ⊥ = cc in no)
owner_is unattributed (organization b) e = absurd (let no : ⊥ = cc in no)
owner_is unattributed unattributed e = refl
owner_is unattributed operator e = absurd (let no : ⊥ = cc in no)
owner_is operator (organization b) e = absurd (let no : ⊥ = cc in no)
owner_is operator unattributed e = absurd (let no : ⊥ = cc in no)
owner_is operator operator e = refl

-- what is said to the owner of one step more
said_more : (b : Bool) (owner : Owner) (rows : List ℕ → Option Organization) (a : Ask) (text : List ℕ) → is_own owner a ≡ b
    → IsSaidText (said_to rows a) text → AreTexts (own_said (record_for rows owner) (with_own b a [])) (with_own b text [])
said_more true owner rows a text e is =
    (subst (λ (o : Owner). IsSaidText (step (record_for rows o) a).answer text) (sym (owner_is owner (owner_of a) e)) is, tt)
said_more false owner rows a text e is = tt

-- the record that the owner's next step reads is what its own run has left
-- an unattributed step changes no record, nor does the operator's over all organizations
nobody_commands : (command : Admin) → same_owner unattributed (commanded_of command) ≡ true → ⊥
nobody_commands (OrgAdd org limit) e = let no : ⊥ = cc in no
nobody_commands (OrgLimit org limit) e = let no : ⊥ = cc in no
nobody_commands (OrgRemove org is_forced) e = let no : ⊥ = cc in no
nobody_commands OrgList e = let no : ⊥ = cc in no
nobody_commands (TokenAdd org name role secret bounds) e = let no : ⊥ = cc in no
nobody_commands (TokenList org) e = let no : ⊥ = cc in no
nobody_commands (TokenRevoke org name) e = let no : ⊥ = cc in no

pub nobody_still : (b : Ask) (r : Option Organization) → same_owner unattributed (owner_of b) ≡ true → (step r b).left ≡ r
nobody_still silent r e = refl
nobody_still (refused at awaited refusal is_head at_door) r e = refl
nobody_still (requests at awaited asked content_md5 body) r e = absurd (let no : ⊥ = cc in no)
nobody_still (stops at) r e = absurd (let no : ⊥ = cc in no)
nobody_still (commands at command) r e = absurd (nobody_commands command e)

list_still : (command : Admin) (r : Option Organization) → same_owner operator (commanded_of command) ≡ true → (command_step r command).left ≡ r
list_still (OrgAdd org limit) r e = absurd (let no : ⊥ = cc in no)
list_still (OrgLimit org limit) r e = absurd (let no : ⊥ = cc in no)
list_still (OrgRemove org is_forced) r e = absurd (let no : ⊥ = cc in no)
list_still OrgList r e = refl
list_still (TokenAdd org name role secret bounds) r e = absurd (let no : ⊥ = cc in no)
list_still (TokenList org) r e = refl
list_still (TokenRevoke org name) r e = absurd (let no : ⊥ = cc in no)

pub operator_still : (b : Ask) (r : Option Organization) → same_owner operator (owner_of b) ≡ true → (step r b).left ≡ r
operator_still silent r e = absurd (let no : ⊥ = cc in no)
operator_still (refused at awaited refusal is_head at_door) r e = absurd (let no : ⊥ = cc in no)
operator_still (requests at awaited asked content_md5 body) r e = absurd (let no : ⊥ = cc in no)
operator_still (stops at) r e = refl
operator_still (commands at command) r e = list_still command r e

module _ (owner : Owner) (still : (b : Ask) (r : Option Organization) → same_owner owner (owner_of b) ≡ true → (step r b).left ≡ r) where
  one_still : (t : Bool) (b : Ask) (rest : List Ask) (r : Option Organization) → is_own owner b ≡ t → own_record r rest ≡ r → own_record r (with_own t b rest) ≡ r
  one_still true b rest r e h = ap (λ (x : Option Organization). own_record x rest) (still b r e) ∙ h
  one_still false b rest r e h = h

  all_still : (asked : List Ask) (r : Option Organization) → own_record r (own_asks owner asked) ≡ r
  all_still [] r = refl
  all_still (b ∷ asked) r = one_still (is_own owner b) b (own_asks owner asked) r refl (all_still asked r)

own_so_far : (owner : Owner) (asked : List Ask) (old mid : List ℕ → Option Organization) → ((org : List ℕ) → IsOwnRecord asked old mid org)
    → record_for mid owner ≡ own_record (record_for old owner) (own_asks owner asked)
own_so_far (organization org) asked old mid rows = rows org
own_so_far unattributed asked old mid rows = sym (all_still unattributed nobody_still asked None)
own_so_far operator asked old mid rows = sym (all_still operator operator_still asked None)

-- each record after a list of what is asked
abbrev run_records : (List ℕ → Option Organization) → List Ask → List ℕ → Option Organization
run_records records [] = records
run_records records (a ∷ asked) = run_records (records_after a records) asked

run_record_is : (asked : List Ask) (records : List ℕ → Option Organization) (org : List ℕ) → run_records records asked org ≡ own_record (records org) (own_asks (organization org) asked)
run_record_is [] records org = refl
run_record_is (a ∷ asked) records org = run_record_is asked (records_after a records) org ∙ first (is_own (organization org) a)
  where
    first : (b : Bool) → own_record (after_ask b a (records org)) (own_asks (organization org) asked) ≡ own_record (records org) (with_own b a (own_asks (organization org) asked))
    first true = refl
    first false = refl

lists_push : (records : List ℕ → Option Organization) (asked : List Ask) (ts : List (List ℕ)) (a : Ask) (t : List ℕ) → length asked ≡ length ts
    → ListsAreReported records asked ts → IsListed (run_records records asked) a t → ListsAreReported records (asked ++ a ∷ []) (ts ++ t ∷ [])
lists_push records [] [] a t e h is = (is, tt)
lists_push records [] (u ∷ ts) a t e h is = absurd (omega arith)
lists_push records (b ∷ asked) [] a t e h is = absurd h
lists_push records (b ∷ asked) (u ∷ ts) a t e h is = (h.0, lists_push (records_after b records) asked ts a t (omega arith) h.1 is)

pub runs_none : (rows : List ℕ → Option Organization) → RunsTo [] rows rows []
runs_none rows = record { asked = []; are = tt; timely = tt; rows = λ org. refl; texts = λ owner. tt; listed = tt }

pub runs_more : (steps : List Step) (s : Step) (old mid new : List ℕ → Option Organization) (ts : List (List ℕ)) (text : List ℕ)
    → length ts ≡ length steps → RunsTo steps old mid ts → IsTaken s text mid new → RunsTo (steps ++ s ∷ []) old new (ts ++ text ∷ [])
runs_more steps s old mid new ts text len run taken =
    let asked = run.asked in
    let a = taken.ask in
    let even : length asked ≡ length ts = AreAsked-length steps asked run.are ∙ sym len in
    record {
      asked = asked ++ a ∷ [];
      are = AreAsked-push steps s asked a run.are taken.is;
      timely = timely-push asked a run.timely taken.timely;
      rows = λ org. taken.carries org
          ∙ ap (after_ask (is_own (organization org) a) a) (run.rows org)
          ∙ sym (after_more (is_own (organization org) a) (own_record (old org) (own_asks (organization org) asked)) a)
          ∙ sym (own_record-append (old org) (own_asks (organization org) asked) (with_own (is_own (organization org) a) a []))
          ∙ ap (own_record (old org)) (sym (own_asks-push (organization org) asked a));
      texts = λ owner.
          let so_far : record_for mid owner ≡ own_record (record_for old owner) (own_asks owner asked) = own_so_far owner asked old mid run.rows in
          let more : AreTexts (own_said (own_record (record_for old owner) (own_asks owner asked)) (with_own (is_own owner a) a [])) (with_own (is_own owner a) text []) =
          subst (λ (r : Option Organization). AreTexts (own_said r (with_own (is_own owner a) a [])) (with_own (is_own owner a) text [])) so_far
          (said_more (is_own owner a) owner mid a text refl taken.text_is) in
          let all : AreTexts (own_said (record_for old owner) (own_asks owner asked) ++ own_said (own_record (record_for old owner) (own_asks owner asked)) (with_own (is_own owner a) a []))
          (replies_at owner asked ts ++ with_own (is_own owner a) text []) =
          AreTexts-append _ _ _ _ (run.texts owner) more in
          let said : own_said (record_for old owner) (own_asks owner (asked ++ a ∷ []))
          ≡ own_said (record_for old owner) (own_asks owner asked) ++ own_said (own_record (record_for old owner) (own_asks owner asked)) (with_own (is_own owner a) a []) =
          ap (own_said (record_for old owner)) (own_asks-push owner asked a) ∙ own_said-append (record_for old owner) (own_asks owner asked) (with_own (is_own owner a) a []) in
          subst (λ (x : List Said). AreTexts x (replies_at owner (asked ++ a ∷ []) (ts ++ text ∷ []))) (sym said)
          (subst (λ (x : List (List ℕ)). AreTexts (own_said (record_for old owner) (own_asks owner asked) ++ own_said (own_record (record_for old owner) (own_asks owner asked)) (with_own (is_own owner a) a [])) x)
          (sym (replies_at-push owner asked a ts text even)) all);
      listed = lists_push old asked ts a text even run.listed
          (subst (λ (records : List ℕ → Option Organization). IsListed records a text) (fun_ext (λ org. run.rows org ∙ sym (run_record_is asked old org))) taken.listed);
    }

-- what a step asks is one thing
pub asked_one : (s : Step) (a b : Ask) → IsAsked s a → IsAsked s b → a ≡ b
asked_one (Request at bytes) a b h k = h.is ∙ ap (ask_of at) (reads_one bytes h.reading k.reading h.reads k.reads) ∙ sym k.is
asked_one (Command at command) a b h k = h ∙ sym k

pub all_asked_one : (steps : List Step) (xs ys : List Ask) → AreAsked steps xs → AreAsked steps ys → xs ≡ ys
all_asked_one [] [] [] h k = refl
all_asked_one [] [] (b ∷ ys) h k = absurd k
all_asked_one [] (a ∷ xs) ys h k = absurd h
all_asked_one (s ∷ steps) [] ys h k = absurd h
all_asked_one (s ∷ steps) (a ∷ xs) [] h k = absurd k
all_asked_one (s ∷ steps) (a ∷ xs) (b ∷ ys) h k = ap (λ (x : Ask). x ∷ xs) (asked_one s a b h.0 k.0) ∙ ap (λ (l : List Ask). b ∷ l) (all_asked_one steps xs ys h.1 k.1)

-- what an organization's machine says: anything but the operator's lists
abbrev pub IsOfOne : Said → Type 0
IsOfOne nothing = ⊤
IsOfOne (replies awaited at answer) = ⊤
IsOfOne (reports answer) = ⊤
IsOfOne lists = ⊥
IsOfOne lists_tokens = ⊥

said_of_one : (org : List ℕ) (command : Admin) (answer : AdminAnswer) → same_owner (organization org) (commanded_of command) ≡ true → IsOfOne (command_said command answer)
said_of_one org (OrgAdd name limit) answer own = tt
said_of_one org (OrgLimit name limit) answer own = tt
said_of_one org (OrgRemove name is_forced) answer own = tt
said_of_one org OrgList answer own = absurd (let none : ⊥ = cc in none)
said_of_one org (TokenAdd name token role secret bounds) answer own = tt
said_of_one org (TokenList name) answer own = absurd (let none : ⊥ = cc in none)
said_of_one org (TokenRevoke name token) answer own = tt

step_of_one : (org : List ℕ) (r : Option Organization) (a : Ask) → is_own (organization org) a ≡ true → IsOfOne (step r a).answer
step_of_one org r silent own = tt
step_of_one org r (refused at awaited refusal is_head at_door) own = tt
step_of_one org r (requests at awaited asked content_md5 body) own = tt
step_of_one org r (stops at) own = tt
step_of_one org r (commands at command) own = said_of_one org command (command_step r command).answer own

abbrev pub AreOfOne : List Said → Type 0
AreOfOne [] = ⊤
AreOfOne (s ∷ said) = IsOfOne s × AreOfOne said

pub own_of_one : (org : List ℕ) (r : Option Organization) (asked : List Ask) → AreOfOne (own_said r (own_asks (organization org) asked))
own_of_one org r [] = tt
own_of_one org r (a ∷ asked) = chosen (is_own (organization org) a) refl (λ q. own_of_one org q asked)
  where
    chosen : (b : Bool) → is_own (organization org) a ≡ b → ((q : Option Organization) → AreOfOne (own_said q (own_asks (organization org) asked)))
        → AreOfOne (own_said r (with_own b a (own_asks (organization org) asked)))
    chosen true own rest = (step_of_one org r a own, rest (step r a).left)
    chosen false own rest = rest r

-- a thing said has one text
pub one_text : (said : Said) (x y : List ℕ) → IsOfOne said → IsSaidText said x → IsSaidText said y → x ≡ y
one_text lists x y of_one h k = absurd of_one
one_text lists_tokens x y of_one h k = absurd of_one
one_text nothing x y of_one h k = h ∙ sym k
one_text (replies awaited at answer) x y of_one h k = h.2 ∙ ap (λ (r : List ℕ). continue_if awaited ++ r) (one_reply answer at h.0 k.0 h.1 k.1) ∙ sym k.2
one_text (reports answer) x y of_one h k = h ∙ sym k

pub one_list_of_texts : (said : List Said) (xs ys : List (List ℕ)) → AreOfOne said → AreTexts said xs → AreTexts said ys → xs ≡ ys
one_list_of_texts [] [] [] one h k = refl
one_list_of_texts [] [] (y ∷ ys) one h k = absurd k
one_list_of_texts [] (x ∷ xs) ys one h k = absurd h
one_list_of_texts (s ∷ said) [] ys one h k = absurd h
one_list_of_texts (s ∷ said) (x ∷ xs) [] one h k = absurd k
one_list_of_texts (s ∷ said) (x ∷ xs) (y ∷ ys) one h k = ap (λ (t : List ℕ). t ∷ xs) (one_text s x y one.0 h.0 k.0) ∙ ap (λ (l : List (List ℕ)). y ∷ l) (one_list_of_texts said xs ys one.1 h.1 k.1)

-- of a run, by whatever reading of its steps
pub rows_by : (steps : List Step) (old new : List ℕ → Option Organization) (ts : List (List ℕ)) → RunsTo steps old new ts
    → (asked : List Ask) → AreAsked steps asked → (org : List ℕ) → IsOwnRecord asked old new org
rows_by steps old new ts run asked are org = subst (λ (x : List Ask). IsOwnRecord x old new org) (all_asked_one steps run.asked asked run.are are) (run.rows org)

pub texts_by : (steps : List Step) (old new : List ℕ → Option Organization) (ts : List (List ℕ)) → RunsTo steps old new ts
    → (asked : List Ask) → AreAsked steps asked → (owner : Owner) → AreOwnReplies asked old ts owner
texts_by steps old new ts run asked are owner = subst (λ (x : List Ask). AreOwnReplies x old ts owner) (all_asked_one steps run.asked asked run.are are) (run.texts owner)

-- the step at hand, after those before it
pub step_more : (steps : List Step) (i : ℕ) (s : Step) (old mid new : List ℕ → Option Organization) (ts more : List (List ℕ)) (text : List ℕ)
    → i < length steps → s ≡ get_or steps i s → length ts ≡ i → more ≡ ts ++ text ∷ []
    → RunsTo (take i steps) old mid ts → IsTaken s text mid new → RunsTo (take (i + 1) steps) old new more
step_more steps i s old mid new ts more text within is len pushed run taken =
    let size : length (take i steps) ≡ i = length-take-le i steps (omega arith) in
    let longer : take (i + 1) steps ≡ take i steps ++ s ∷ [] = take_more steps i s within ∙ ap (λ (x : Step). take i steps ++ x ∷ []) (sym is) in
    let run' : RunsTo (take i steps ++ s ∷ []) old new (ts ++ text ∷ []) = runs_more (take i steps) s old mid new ts text (len ∙ sym size) run taken in
    subst (λ (xs : List Step). RunsTo xs old new more) (sym longer) (subst (λ (l : List (List ℕ)). RunsTo (take i steps ++ s ∷ []) old new l) (sym pushed) run')

-- what a run gave, clause by clause
pub replies_given : {E : Type 0} (steps : List Step) (taken : ℕ) (old new : List ℕ → Option Organization) (res : Result (Vec (List ℕ) Global) E)
    → (replies : List (List ℕ)) × RunsTo (take taken steps) old new replies × IfOk res (λ given. given.items ≡ replies) → OnOk res (taken ≡ length steps)
    → (owner : Owner) → IfOk res (λ given. (asked : List Ask) → AreAsked steps asked → AreOwnReplies asked old given.items owner)
replies_given steps taken old new (Ok given) h all owner = λ asked are.
    let whole : take taken steps ≡ steps = ap (λ (n : ℕ). take n steps) all ∙ take-length steps in
    let run : RunsTo steps old new h.0 = subst (λ (xs : List Step). RunsTo xs old new h.0) whole h.1 in
    subst (λ (ts : List (List ℕ)). AreOwnReplies asked old ts owner) (sym h.2) (texts_by steps old new h.0 run asked are owner)
replies_given steps taken old new (Err e) h all owner = tt

pub lists_given : {E : Type 0} (steps : List Step) (taken : ℕ) (old new : List ℕ → Option Organization) (res : Result (Vec (List ℕ) Global) E)
    → (replies : List (List ℕ)) × RunsTo (take taken steps) old new replies × IfOk res (λ given. given.items ≡ replies) → OnOk res (taken ≡ length steps)
    → IfOk res (λ given. (asked : List Ask) → AreAsked steps asked → ListsAreReported old asked given.items)
lists_given steps taken old new (Ok given) h all = λ asked are.
    let whole : take taken steps ≡ steps = ap (λ (n : ℕ). take n steps) all ∙ take-length steps in
    let run : RunsTo steps old new h.0 = subst (λ (xs : List Step). RunsTo xs old new h.0) whole h.1 in
    subst (λ (ts : List (List ℕ)). ListsAreReported old asked ts) (sym h.2) (subst (λ (x : List Ask). ListsAreReported old x h.0) (all_asked_one steps run.asked asked run.are are) run.listed)
lists_given steps taken old new (Err e) h all = tt

pub whole_taken : (steps : List Step) (taken : ℕ) (asked : List Ask) → taken ≡ length steps → AreAsked steps asked → AreAsked (take taken steps) asked
whole_taken steps taken asked all are = subst (λ (xs : List Step). AreAsked xs asked) (sym (ap (λ (n : ℕ). take n steps) all ∙ take-length steps)) are

pub orgs_given : {E : Type 0} (steps : List Step) (taken : ℕ) (old new : List ℕ → Option Organization) (res : Result (Vec (List ℕ) Global) E)
    → (replies : List (List ℕ)) × RunsTo (take taken steps) old new replies × IfOk res (λ given. given.items ≡ replies) → OnOk res (taken ≡ length steps)
    → IfOk res (λ given. (asked : List Ask) → AreAsked steps asked → (org : List ℕ) → IsOwnMachine org asked old new given.items)
orgs_given steps taken old new (Ok given) h all = λ asked are org. record {
  own_replies = replies_given {E = ℕ} steps taken old new (Ok given) h all (organization org) asked are;
  own_record = rows_by (take taken steps) old new h.0 h.1 asked (whole_taken steps taken asked all are) org;
}
orgs_given steps taken old new (Err e) h all = tt

-- two worlds
pub two_worlds : TwoWorlds
two_worlds org asked other before after before' after' texts answers first second rows steps =
    let said : own_said (before org) (own_asks (organization org) asked) ≡ own_said (before' org) (own_asks (organization org) other) =
    ap (λ (r : Option Organization). own_said r (own_asks (organization org) asked)) rows ∙ ap (own_said (before' org)) steps in (
      one_list_of_texts (own_said (before' org) (own_asks (organization org) other)) (replies_at (organization org) asked texts) (replies_at (organization org) other answers)
          (own_of_one org (before' org) other)
          (subst (λ (s : List Said). AreTexts s (replies_at (organization org) asked texts)) said first.own_replies) second.own_replies,
      first.own_record ∙ ap (λ (r : Option Organization). own_record r (own_asks (organization org) asked)) rows ∙ ap (own_record (before' org)) steps ∙ sym second.own_record,
    )

-- own steps of which each asks one thing
own_are_asked : (org : List ℕ) (steps : List Step) (asked : List Ask) → AreAsked steps asked → AreAsked (own_steps org steps asked) (own_asks (organization org) asked)
own_are_asked org [] [] h = tt
own_are_asked org [] (a ∷ asked) h = absurd h
own_are_asked org (s ∷ steps) [] h = absurd h
own_are_asked org (s ∷ steps) (a ∷ asked) h = chosen (is_own (organization org) a) h.0 (own_are_asked org steps asked h.1)
  where
    chosen : (b : Bool) → IsAsked s a → AreAsked (own_steps org steps asked) (own_asks (organization org) asked)
        → AreAsked (with_own b s (own_steps org steps asked)) (with_own b a (own_asks (organization org) asked))
    chosen true is rest = (is, rest)
    chosen false is rest = rest

pub same_steps : SameStepsAskTheSame
same_steps org steps others asked other are are' same =
    all_asked_one (own_steps org steps asked) (own_asks (organization org) asked) (own_asks (organization org) other)
    (own_are_asked org steps asked are)
    (subst (λ (xs : List Step). AreAsked xs (own_asks (organization org) other)) (sym same) (own_are_asked org others other are'))
