-- Steps as their bytes say them, and whole runs of them over the records of all organizations.
use Rattle.std.specs.Prelude.{◌≡◌, ℕ, Bool, true, false, List, [], ◌∷◌, ◌++◌, Option, Some, None, codes, decimal, ⊤}
use Rattle.std.specs.List.{flat_map}
use Rattle.std.specs.Str.{bytes_eq}
use Rattle.machine.specs.declared.keeps.AdminAnswer.{AdminAnswer}
use Rattle.basis.specs.declared.refusals.Refusal.{Refusal}
use Rattle.basis.specs.declared.refusals.Refusal.TheVariants as why
use Rattle.basis.specs.Roles.{role_word}
use Rattle.machine.specs.Tokens.{AreOrganizations, ListsOrganizations, token_list_answer}
use Rattle.machine.specs.declared.keeps.AdminAnswer.TheVariants.{Done, Exists, Absent, InUse, Organizations, Tokens}
use Rattle.machine.specs.declared.keeps.OrgRow.{OrgRow}
use Rattle.machine.specs.declared.keeps.TokenRow.{TokenRow}
use Rattle.machine.specs.declared.records.Organization.{Organization}
use Rattle.route.specs.Asks.{Asking, asked_of, asks}
use Rattle.route.specs.Asks as route
use Rattle.wire.specs.declared.messages.Message.{Message}
use Rattle.wire.specs.Messages.{Reading, Reads, unfinished, whole}
use Rattle.wire.specs.Messages as wire
use Rattle.wire.specs.Links.{continue_if}
use Rattle.wire.specs.Replies.{IsReplyText}
use Rattle.serve.specs.declared.steps.Step.{Step}
use Rattle.serve.specs.declared.steps.Step.TheVariants.{Request, Command}
use Rattle.serve.specs.Asks.{Ask, silent, refused, requests, commands, stops, Owner, organization, unattributed, operator, owner_of}
use Rattle.serve.specs.declared.steps.Admin.{Admin}
use Rattle.serve.specs.declared.steps.Admin.TheVariants.{OrgAdd, OrgLimit, OrgRemove, OrgList, TokenAdd, TokenList, TokenRevoke}
use Rattle.serve.specs.Steps.{Said, nothing, replies, reports, lists, lists_tokens, command_step, step}

-- the method of a message is HEAD
abbrev pub is_head : Message → Bool
is_head message = bytes_eq message.method (codes "HEAD")

-- what a message asks at a moment
abbrev pub asked_by : ℕ → Bool → Message → Asking → Ask
asked_by at awaited message (route.refused refusal) = refused at awaited refusal (is_head message) false
asked_by at awaited message (asks asked) = requests at awaited asked message.content_md5 message.body

-- what the reading of a string of bytes asks at a moment
abbrev pub ask_of : ℕ → Reading → Ask
ask_of at unfinished = silent
ask_of at (wire.refused refusal head) = refused at false refusal head false
ask_of at (whole message awaited) = asked_by at awaited message (asked_of message)

-- what the bytes of a connection ask at a moment
pub record Asks (at : ℕ) (bytes : List ℕ) (ask : Ask) : Type 0 where
  pub reading : Reading
  pub reads : Reads bytes reading
  pub is : ask ≡ ask_of at reading

-- what a step asks
abbrev pub IsAsked : Step → Ask → Type 0
IsAsked (Request at bytes) ask = Asks at bytes ask
IsAsked (Command at command) ask = ask ≡ commands at command

-- what each of a list of steps asks
abbrev pub AreAsked : List Step → List Ask → Type 0
AreAsked [] [] = ⊤
AreAsked [] (a ∷ asked) = ⊥
AreAsked (s ∷ steps) [] = ⊥
AreAsked (s ∷ steps) (a ∷ asked) = IsAsked s a × AreAsked steps asked

-- an organization's line in the list of all: its name, how many workspaces it has, its limit
abbrev pub org_line : OrgRow → List ℕ
org_line row = row.name ++ codes " " ++ decimal row.workspaces ++ codes " " ++ decimal row.limit ++ codes "\n"

abbrev pub org_lines : List OrgRow → List ℕ
org_lines rows = flat_map org_line rows

-- the end of a token, or a hyphen
abbrev pub until_text : Option ℕ → List ℕ
until_text None = codes "-"
until_text (Some until) = decimal until

-- the prefix of a token's workspaces, or a hyphen if it is for all of them
abbrev pub prefix_text : List ℕ → List ℕ
prefix_text [] = codes "-"
prefix_text (b ∷ bytes) = b ∷ bytes

-- a token's line in the list of an organization's: its name, its role, its end, its prefix
abbrev pub token_line : TokenRow → List ℕ
token_line row = row.name ++ codes " " ++ role_word row.caller.role ++ codes " " ++ until_text row.caller.until ++ codes " " ++ prefix_text row.caller.prefix ++ codes "\n"

abbrev pub token_lines : List TokenRow → List ℕ
token_lines rows = flat_map token_line rows

-- the word that answers an operator's command on one organization; a list has none
abbrev pub admin_word : AdminAnswer → List ℕ
admin_word Done = codes "ok\n"
admin_word Exists = codes "refused exists\n"
admin_word Absent = codes "refused absent\n"
admin_word InUse = codes "refused in-use\n"
admin_word (Organizations rows) = []
admin_word (Tokens rows) = []

-- the list of an organization's tokens, or the word for an absent organization
abbrev pub token_list_text : AdminAnswer → List ℕ
token_list_text Done = admin_word Done
token_list_text Exists = admin_word Exists
token_list_text Absent = admin_word Absent
token_list_text InUse = admin_word InUse
token_list_text (Organizations rows) = admin_word (Organizations rows)
token_list_text (Tokens rows) = token_lines rows

-- the text of an answer: a word or a list
abbrev pub reported_text : AdminAnswer → List ℕ
reported_text Done = admin_word Done
reported_text Exists = admin_word Exists
reported_text Absent = admin_word Absent
reported_text InUse = admin_word InUse
reported_text (Organizations rows) = org_lines rows
reported_text (Tokens rows) = token_lines rows

-- why a command is refused, if it is
abbrev pub reported_refusal : AdminAnswer → Option Refusal
reported_refusal Done = None
reported_refusal Exists = Some why.Exists
reported_refusal Absent = Some why.Absent
reported_refusal InUse = Some why.InUse
reported_refusal (Organizations rows) = None
reported_refusal (Tokens rows) = None

-- the text of what is said
abbrev pub IsSaidText : Said → List ℕ → Type 0
IsSaidText nothing text = text ≡ []
IsSaidText (replies awaited at answer) text = (reply : List ℕ) × IsReplyText answer at reply × (text ≡ continue_if awaited ++ reply)
IsSaidText (reports answer) text = text ≡ admin_word answer
IsSaidText lists text = (rows : List OrgRow) × (text ≡ org_lines rows)
IsSaidText lists_tokens text = (answer : AdminAnswer) × (text ≡ token_list_text answer)

abbrev pub AreTexts : List Said → List (List ℕ) → Type 0
AreTexts [] [] = ⊤
AreTexts [] (t ∷ ts) = ⊥
AreTexts (s ∷ said) [] = ⊥
AreTexts (s ∷ said) (t ∷ ts) = IsSaidText s t × AreTexts said ts

-- the same owner
abbrev pub same_owner : Owner → Owner → Bool
same_owner (organization a) (organization b) = bytes_eq a b
same_owner (organization a) unattributed = false
same_owner (organization a) operator = false
same_owner unattributed (organization b) = false
same_owner unattributed unattributed = true
same_owner unattributed operator = false
same_owner operator (organization b) = false
same_owner operator unattributed = false
same_owner operator operator = true

abbrev pub is_own : Owner → Ask → Bool
is_own owner ask = same_owner owner (owner_of ask)

-- one more at the front, if it is one's own
abbrev pub with_own : {A : Type 0} → Bool → A → List A → List A
with_own true a rest = a ∷ rest
with_own false a rest = rest

-- what is asked of one organization, or by nobody, in the order of the steps
abbrev pub own_asks : Owner → List Ask → List Ask
own_asks owner [] = []
own_asks owner (a ∷ asked) = with_own (is_own owner a) a (own_asks owner asked)

-- the replies at the positions of its own steps
abbrev pub replies_at : {A : Type 0} → Owner → List Ask → List A → List A
replies_at owner [] ts = []
replies_at owner (a ∷ asked) [] = []
replies_at owner (a ∷ asked) (t ∷ ts) = with_own (is_own owner a) t (replies_at owner asked ts)

-- the record that a step reads: that of its organization; none if it belongs to no organization
abbrev pub record_for : (List ℕ → Option Organization) → Owner → Option Organization
record_for rows (organization org) = rows org
record_for rows unattributed = None
record_for rows operator = None

-- the record of an organization after what is asked: only its own steps change it
abbrev pub after_ask : Bool → Ask → Option Organization → Option Organization
after_ask true ask r = (step r ask).left
after_ask false ask r = r

-- each record after what is asked
abbrev pub records_after : Ask → (List ℕ → Option Organization) → List ℕ → Option Organization
records_after ask records org = after_ask (is_own (organization org) ask) ask (records org)

-- what is asked is carried out: each record afterwards
abbrev pub Carries : Ask → (List ℕ → Option Organization) → (List ℕ → Option Organization) → Type 0
Carries ask old new = (org : List ℕ) → new org ≡ records_after ask old org

-- what is said to the one who asks, by the records before
abbrev pub said_to : (List ℕ → Option Organization) → Ask → Said
said_to rows ask = (step (record_for rows (owner_of ask)) ask).answer

-- the answer to an operator's command: the word of the machine of the organization that it names; or, for the list of all
-- organizations, exactly those that have records; or the tokens of an organization, by its record
abbrev pub IsAdminAnswer : (List ℕ → Option Organization) → Admin → AdminAnswer → Type 0
IsAdminAnswer rows (OrgAdd org limit) answer = answer ≡ (command_step (rows org) (OrgAdd org limit)).answer
IsAdminAnswer rows (OrgLimit org limit) answer = answer ≡ (command_step (rows org) (OrgLimit org limit)).answer
IsAdminAnswer rows (OrgRemove org is_forced) answer = answer ≡ (command_step (rows org) (OrgRemove org is_forced)).answer
IsAdminAnswer rows OrgList answer = ListsOrganizations rows answer
IsAdminAnswer rows (TokenAdd org name role secret bounds) answer = answer ≡ (command_step (rows org) (TokenAdd org name role secret bounds)).answer
IsAdminAnswer rows (TokenList org) answer = answer ≡ token_list_answer (rows org)
IsAdminAnswer rows (TokenRevoke org name) answer = answer ≡ (command_step (rows org) (TokenRevoke org name)).answer

-- the text that lists all organizations: exactly those that have records
abbrev pub ListsAll : (List ℕ → Option Organization) → List ℕ → Type 0
ListsAll records text = (rows : List OrgRow) × AreOrganizations records rows × (text ≡ org_lines rows)

-- if a command asks for the list of all organizations, or of an organization's tokens, the text is that list
abbrev pub IsListedBy : (List ℕ → Option Organization) → Admin → List ℕ → Type 0
IsListedBy records (OrgAdd org limit) text = ⊤
IsListedBy records (OrgLimit org limit) text = ⊤
IsListedBy records (OrgRemove org is_forced) text = ⊤
IsListedBy records OrgList text = ListsAll records text
IsListedBy records (TokenAdd org name role secret bounds) text = ⊤
IsListedBy records (TokenList org) text = text ≡ token_list_text (token_list_answer (records org))
IsListedBy records (TokenRevoke org name) text = ⊤

abbrev pub IsListed : (List ℕ → Option Organization) → Ask → List ℕ → Type 0
IsListed records silent text = ⊤
IsListed records (refused at awaited refusal is_head at_door) text = ⊤
IsListed records (requests at awaited asked content_md5 body) text = ⊤
IsListed records (stops at) text = ⊤
IsListed records (commands at command) text = IsListedBy records command text

-- no record changes
abbrev pub Stays : (List ℕ → Option Organization) → (List ℕ → Option Organization) → Type 0
Stays old new = (org : List ℕ) → new org ≡ old org
