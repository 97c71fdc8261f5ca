-- What is put into a text: members one behind another, objects one behind another, and the whole.
use Rattle.std.proofs.Common.{◌≡◌, ◌∙◌, refl, sym, ap, ap₂, ℕ, List, [], ◌∷◌, ◌++◌, Option, Some, None, option_map, MatchOption, Bor, Bool, subst, append_assoc, ◌+◌, ◌<◌, ◌≤◌, length, drop, get_or}
use Rattle.docs.proofs.Outside.{drop_more, drop_all, print, Token, begin_object, end_object, json_tokens, items_tokens, members_tokens, Written, Data, object, no_items, Members, no_members, member, compact_text, outline, items_outline, members_outline, print-outline, action_word}
use Rattle.std.specs.Option.{IsSomeAnd, option_copied}
use Rattle.basis.specs.declared.runs.RunAction.{RunAction}
use Rattle.docs.specs.Bodies.{action_value, text_value, objects}
use Rattle.docs.specs.Logs.{door_member}
use Rattle.docs.specs.Inner.Put.{Puts, PutsValue, PutsItems, IsBegun, with_member, with_members, ahead, text_of, object_text}

-- ---- members, one behind another

-- a member put is that of any value that is the same
pub put_as : {old new : Written} {name : List ℕ} {d e : Data} → d ≡ e → Puts old new (member name d) → Puts old new (member name e)
put_as {old} {new} {name} is put = subst (λ (x : Data). Puts old new (member name x)) is put

-- some members and then others
pub then_put : {old mid new : Written} {first then : Members → Members} → Puts old mid first → Puts mid new then → Puts old new (λ rest. first (then rest))
then_put first then = record { before = then.before ∙ first.before; tokens = λ rest. then.tokens rest ∙ first.tokens _ }

with_members_ahead : (tokens : List Token) (ms rest : Members) → with_members tokens ms ++ members_tokens (members_outline rest) ≡ tokens ++ members_tokens (members_outline (ahead ms rest))
unfolding with_member
with_members_ahead tokens no_members rest = refl
with_members_ahead tokens (member name value ms) rest =
    with_members_ahead (with_member tokens name value) ms rest
    ∙ append_assoc tokens (Token.key name ∷ json_tokens (outline value)) (members_tokens (members_outline (ahead ms rest)))

-- members whose tokens follow those before are put
pub members_put : {old new : Written} (ms : Members) → new.before ≡ old.before → new.tokens ≡ with_members old.tokens ms → Puts old new (ahead ms)
members_put {old = old} ms stays is = record {
  before = stays;
  tokens = λ rest. ap (λ tokens. tokens ++ members_tokens (members_outline rest)) is ∙ with_members_ahead old.tokens ms rest;
}

-- a text made of what may be absent
pub text_made : {A : Type 0} (from : Option A) (made : Option (Bor (List ℕ))) (text : A → List ℕ) (post : A → Bor (List ℕ) → Type 0) → MatchOption from (made ≡ None) (λ x. IsSomeAnd made (post x)) → ((x : A) (y : Bor (List ℕ)) → post x y → y.now ≡ text x) → option_copied made ≡ option_map text from
text_made None made text post is each = ap option_copied is
text_made (Some x) (Some y) text post is each = ap Some (each x y is)
text_made (Some x) None text post is each = absurd is

-- the same of a text that is lent
pub text_lent : (from : Option (List ℕ)) (lent made : Option (Bor (List ℕ))) (post : Bor (List ℕ) → Bor (List ℕ) → Type 0) → option_copied lent ≡ from → MatchOption lent (made ≡ None) (λ x. IsSomeAnd made (post x)) → ((x y : Bor (List ℕ)) → post x y → y.now ≡ x.now) → text_value (option_copied made) ≡ text_value from
text_lent from lent made post lends is each = ap text_value (text_made lent made (λ x. x.now) post is each ∙ lends)

-- a member of a request at the door that is put is that of what it is lent from
pub at_door_as : {old new : Written} (at_door : Bool) (name : List ℕ) (from : Option (List ℕ)) (lent made : Option (Bor (List ℕ))) (post : Bor (List ℕ) → Bor (List ℕ) → Type 0) → option_copied lent ≡ from → MatchOption lent (made ≡ None) (λ x. IsSomeAnd made (post x)) → ((x y : Bor (List ℕ)) → post x y → y.now ≡ x.now)
    → Puts old new (door_member at_door name (option_copied made)) → Puts old new (door_member at_door name from)
at_door_as {old} {new} at_door name from lent made post lends is each put =
    subst (λ (o : Option (List ℕ)). Puts old new (door_member at_door name o)) (text_made lent made (λ x. x.now) post is each ∙ lends) put

-- a number made of what may be absent
pub number_made : (from made : Option ℕ) (post : ℕ → ℕ → Type 0) → MatchOption from (made ≡ None) (λ x. IsSomeAnd made (post x)) → ((x y : ℕ) → post x y → y ≡ x) → made ≡ from
number_made None made post is each = is
number_made (Some x) (Some y) post is each = ap Some (each x y is)
number_made (Some x) None post is each = absurd is

pub action_is : (action : Option RunAction) → text_value (option_map action_word action) ≡ action_value action
action_is None = refl
action_is (Some action) = refl

-- nothing is behind members
pub ahead_of_none : (ms : Members) → ahead ms no_members ≡ ms
ahead_of_none no_members = refl
ahead_of_none (member key value ms) = ap (member key value) (ahead_of_none ms)

-- ---- items, one behind another

-- members between braces are an object
pub object_put : {start begun put last : Written} (ms : Members) → begun.before ≡ start.before → begun.tokens ≡ start.tokens ++ begin_object ∷ [] → Puts begun put (ahead ms) → last.before ≡ put.before → last.tokens ≡ put.tokens ++ end_object ∷ [] → PutsValue start last (object ms)
object_put {start = start} ms stays opens puts then_stays closes =
    record {
      before = then_stays ∙ puts.before ∙ stays;
      tokens =
          closes
          ∙ puts.tokens no_members
          ∙ ap₂ (λ tokens all. tokens ++ members_tokens (members_outline all)) opens (ahead_of_none ms)
          ∙ append_assoc start.tokens (begin_object ∷ []) (members_tokens (members_outline ms));
    }

-- one item more
pub item_put : {T : Type 0} {start old new : Written} (members : T → Members) (rows : List T) (i : ℕ) (x : T) → i < length rows → x ≡ get_or rows i x → PutsItems start old (objects members rows) (objects members (drop i rows)) → PutsValue old new (object (members x)) → PutsItems start new (objects members rows) (objects members (drop (i + 1) rows))
item_put {old = old} members rows i x within is first value =
    let next : drop i rows ≡ x ∷ drop (i + 1) rows = drop_more rows i x within ∙ ap (λ y. y ∷ drop (i + 1) rows) (sym is) in
    record {
      before = value.before ∙ first.before;
      tokens =
          ap (λ tokens. tokens ++ items_tokens (items_outline (objects members (drop (i + 1) rows)))) value.tokens
          ∙ append_assoc old.tokens (json_tokens (outline (object (members x)))) (items_tokens (items_outline (objects members (drop (i + 1) rows))))
          ∙ sym (ap (λ left. old.tokens ++ items_tokens (items_outline (objects members left))) next)
          ∙ first.tokens;
    }

-- none is left
pub items_put : {T : Type 0} {start last : Written} (members : T → Members) (rows : List T) (i : ℕ) → length rows ≤ i → PutsItems start last (objects members rows) (objects members (drop i rows)) → PutsItems start last (objects members rows) no_items
items_put {start = start} {last = last} members rows i past all = subst (λ left. PutsItems start last (objects members rows) (objects members left)) (drop_all i rows past) all

-- ---- the whole

-- what a writer has in the end, which began with a brace
pub object_written : {begun put : Written} {members : Members → Members} {out : List ℕ} → IsBegun begun → Puts begun put members → out ≡ text_of put → out ≡ compact_text (object (members no_members))
object_written {begun} {put} {members} begins puts is =
    is
    ∙ ap₂ (λ before tokens. before ++ print tokens) (puts.before ∙ begins.before) (puts.tokens no_members ∙ ap (λ tokens. tokens ++ members_tokens (members_outline (members no_members))) begins.tokens)
    ∙ print-outline (object (members no_members))

pub shown_written : {begun put : Written} {out : List ℕ} (ms : Members) → IsBegun begun → Puts begun put (ahead ms) → out ≡ text_of put → out ≡ object_text ms
unfolding object_text
shown_written ms begins puts is = object_written begins puts is ∙ ap (λ all. compact_text (object all)) (ahead_of_none ms)
