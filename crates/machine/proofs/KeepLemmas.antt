-- What a change does to the laws of records.
use Rattle.machine.proofs.Outside.{◌≡◌, ◌≢◌, ℕ, Bool, true, false, not, ◌&&◌, ◌||◌, cond, List, [], ◌∷◌, Option, Some, None, Result, Ok, Err, OnOk, OnErr, IfOk, IsTrue, is_some, nat_lt, refl, sym, ap, subst, ◌∙◌, ◌≤◌, bytes_eq, is_eq, FinMap, entries, get, insert, remove, empty, get-empty, get-entries, Ordering, bytes_eq-Decides, same_Some, is_ws_name}
use Rattle.std.specs.Prelude.{option_map}
use Rattle.std.specs.FinMap.Entries.{find}
use Rattle.machine.specs.Order.{name_cmp}
use Rattle.machine.specs.Effects.{effect}
use Rattle.machine.specs.Laws.{IsLawful, IsLawfulIfThere, IsToken, IsNamedWorkspace, IsLawfulOrganization, AreLawful}
use Rattle.machine.specs.Records.{count_of, seen_by, seen_in, standing, with_workspace, placed}
use Rattle.machine.specs.Changes.{changed_by, IsDue}
use Rattle.machine.specs.Rules.{rules}
use Rattle.machine.specs.Removal.{has_use, org_removed}
use Rattle.machine.specs.Tokens.{token_with, has_digest, new_organization, org_added, with_limit, org_limited, with_token, token_added, without_token, token_revoked}
use Rattle.machine.specs.declared.acts.Change.{Change}
use Rattle.machine.specs.declared.keeps.AdminAnswer.{AdminAnswer}
use Rattle.machine.specs.declared.keeps.AdminAnswer.TheVariants.{Done, Exists, Absent, InUse}
use Rattle.machine.specs.declared.records.Token.{Token}
use Rattle.machine.specs.declared.records.Workspace.{Workspace}
use Rattle.machine.specs.declared.records.Organization.{Organization}
use Rattle.machine.proofs.RuleLemmas.{rules_are_lawful}
use Rattle.machine.proofs.MapLemmas.{get_own, get_other, removed_own, removed_other}

-- names are the same or apart
pub apart_from : (a b : List ℕ) → bytes_eq a b ≡ false → a ≢ b
apart_from a b e same = let none : ⊥ = cc (sym e ∙ (bytes_eq-Decides a b).1 same) in none

-- the workspace of a name, where one is put in place or taken away
pub own_workspace : (m : FinMap name_cmp Workspace) (name : List ℕ) (w : Option Workspace) → get (with_workspace m name w) name ≡ w
own_workspace m name None = removed_own m name
own_workspace m name (Some w) = get_own m name w

pub other_workspace : (m : FinMap name_cmp Workspace) (name : List ℕ) (w : Option Workspace) (other : List ℕ) → other ≢ name → get (with_workspace m name w) other ≡ get m other
other_workspace m name None other apart = removed_other m name other apart
other_workspace m name (Some w) other apart = get_other m name w other apart

if_there : (w : Option Workspace) (v : Workspace) → IsLawfulIfThere w → w ≡ Some v → IsLawful v
if_there None v lawful e = absurd (let none : ⊥ = cc in none)
if_there (Some w) v lawful e = let same_one : w ≡ v = cc in subst IsLawful same_one lawful

-- a lawful organization, in which a workspace is put in place or taken away
placed_is_lawful : (o : Organization) (name : List ℕ) (w : Option Workspace) → IsLawfulOrganization o → IsTrue (is_ws_name name) → IsLawfulIfThere w → IsLawfulOrganization (placed o name w)
placed_is_lawful o name w lawful named after = record {
  limit = lawful.limit;
  tokens = lawful.tokens;
  digests = lawful.digests;
  workspaces = λ q v e. by_name q v e (bytes_eq q name) refl;
}
  where
    by_name : (q : List ℕ) (v : Workspace) → get (with_workspace o.workspaces name w) q ≡ Some v → (b : Bool) → bytes_eq q name ≡ b → IsNamedWorkspace q v
    by_name q v e true t =
        let is : q ≡ name = (bytes_eq-Decides q name).0 t in
        let own : w ≡ Some v = sym (own_workspace o.workspaces name w) ∙ subst (λ (p : List ℕ). get (with_workspace o.workspaces name w) p ≡ Some v) is e in
        record { named = subst (λ (p : List ℕ). IsTrue (is_ws_name p)) (sym is) named; lawful = if_there w v after own }
    by_name q v e false t = lawful.workspaces q v (sym (other_workspace o.workspaces name w q (apart_from q name t)) ∙ e)

-- the workspace that rules see is the one that stands there
pub standing_is : (b : Bool) (w : Option Workspace) → standing (seen_by b w) ≡ w
standing_is b None = refl
standing_is b (Some w) = refl

-- a workspace of a lawful organization is lawful
pub lawful_there : (o : Organization) (name : List ℕ) → IsLawfulOrganization o → IsLawfulIfThere (standing (seen_in o name))
lawful_there o name lawful = found (get o.workspaces name) refl
  where
    found : (w : Option Workspace) → get o.workspaces name ≡ w → IsLawfulIfThere (standing (seen_by (nat_lt (count_of o) o.limit) w))
    found None e = tt
    found (Some w) e = (lawful.workspaces name w e).lawful

-- a due change leaves a lawful organization
changed_is_lawful : (o : Organization) (name : List ℕ) (change : Change) → IsLawfulOrganization o → IsTrue (is_ws_name name) → IsDue (seen_in o name) change
    → IsLawfulOrganization (placed o name (changed_by change (get o.workspaces name)))
changed_is_lawful o name change lawful named due =
    let room : Bool = nat_lt (count_of o) o.limit in
    let stands : standing (seen_in o name) ≡ get o.workspaces name = standing_is room (get o.workspaces name) in
    let after : changed_by change (get o.workspaces name) ≡ (rules due.act due.now (seen_in o name)).left = ap (changed_by change) (sym stands) ∙ due.is in
    placed_is_lawful o name (changed_by change (get o.workspaces name)) lawful named
    (subst IsLawfulIfThere (sym after) (rules_are_lawful due.act due.now (seen_in o name) due.range due.moment (lawful_there o name lawful)))

-- records of which only one may have changed, and that one is lawful
kept_by : (old new : List ℕ → Option Organization) (org : List ℕ) → AreLawful old → ((o : List ℕ) → o ≢ org → new o ≡ old o)
    → ((o : Organization) → new org ≡ Some o → IsLawfulOrganization o) → AreLawful new
kept_by old new org lawful others own = λ q o e. by_name q o e (bytes_eq q org) refl
  where
    by_name : (q : List ℕ) (o : Organization) → new q ≡ Some o → (b : Bool) → bytes_eq q org ≡ b → IsLawfulOrganization o
    by_name q o e true t = own o (subst (λ (p : List ℕ). new p ≡ Some o) ((bytes_eq-Decides q org).0 t) e)
    by_name q o e false t = lawful q o (sym (others q (apart_from q org t)) ∙ e)

abbrev Rows : Type 0
Rows = FinMap name_cmp Organization

pub apply_keeps : {T E : Type 0} (r : Result T E) (old new : Rows) (org name : List ℕ) (change : Change) (o : Organization)
    → IsTrue (is_ws_name name) → AreLawful (λ q. get old q) → get old org ≡ Some o → IsDue (seen_in o name) change
    → OnOk r (get new org ≡ option_map (λ (p : Organization). placed p name (changed_by change (get p.workspaces name))) (get old org))
    → ((q : List ℕ) → q ≢ org → get new q ≡ get old q) → OnErr r (new ≡ old) → AreLawful (λ q. get new q)
apply_keeps (Ok done) old new org name change o named lawful there due own others err =
    let after : Organization = placed o name (changed_by change (get o.workspaces name)) in
    let is : get new org ≡ Some after = own ∙ ap (option_map (λ (p : Organization). placed p name (changed_by change (get p.workspaces name)))) there in
    kept_by (λ q. get old q) (λ q. get new q) org lawful others
    (λ p e. subst IsLawfulOrganization (same_Some after p (sym is ∙ e)) (changed_is_lawful o name change (lawful org o there) named due))
apply_keeps (Err fault) old new org name change o named lawful there due own others err = subst (λ (m : Rows). AreLawful (λ q. get m q)) (sym err) lawful

-- an organization at its creation is lawful
new_is_lawful : (limit : ℕ) → limit ≤ 100_000 → IsLawfulOrganization (new_organization limit)
new_is_lawful limit most = record {
  limit = most;
  tokens = λ name t e. absurd (let none : ⊥ = cc (sym (get-empty name_cmp name) ∙ e) in none);
  digests = λ name other t u e f d. absurd (let none : ⊥ = cc (sym (get-empty name_cmp name) ∙ e) in none);
  workspaces = λ name w e. absurd (let none : ⊥ = cc (sym (get-empty name_cmp name) ∙ e) in none);
}

added_is_lawful : (limit : ℕ) (r : Option Organization) → limit ≤ 100_000 → ((o : Organization) → r ≡ Some o → IsLawfulOrganization o)
    → (o : Organization) → (org_added limit r).left ≡ Some o → IsLawfulOrganization o
added_is_lawful limit None most lawful o e = subst IsLawfulOrganization (same_Some (new_organization limit) o e) (new_is_lawful limit most)
added_is_lawful limit (Some p) most lawful o e = lawful o e

pub org_add_keeps : {E : Type 0} (r : Result AdminAnswer E) (old new : Rows) (org : List ℕ) (limit : ℕ) → limit ≤ 100_000 → AreLawful (λ q. get old q)
    → IfOk r (λ answer. effect answer (get new org) ≡ org_added limit (get old org)) → ((q : List ℕ) → q ≢ org → get new q ≡ get old q)
    → OnErr r (new ≡ old) → AreLawful (λ q. get new q)
org_add_keeps (Ok answer) old new org limit most lawful own others err =
    kept_by (λ q. get old q) (λ q. get new q) org lawful others
    (λ o e. added_is_lawful limit (get old org) most (lawful org) o (sym (ap (λ x. x.left) own) ∙ e))
org_add_keeps (Err fault) old new org limit most lawful own others err = subst (λ (m : Rows). AreLawful (λ q. get m q)) (sym err) lawful

-- another limit
limited_is_lawful : (limit : ℕ) (r : Option Organization) → limit ≤ 100_000 → ((o : Organization) → r ≡ Some o → IsLawfulOrganization o)
    → (o : Organization) → (org_limited limit r).left ≡ Some o → IsLawfulOrganization o
limited_is_lawful limit None most lawful o e = absurd (let none : ⊥ = cc in none)
limited_is_lawful limit (Some p) most lawful o e =
    let was : IsLawfulOrganization p = lawful p refl in
    subst IsLawfulOrganization (same_Some (with_limit p limit) o e) (record { limit = most; tokens = was.tokens; digests = was.digests; workspaces = was.workspaces })

pub org_limit_keeps : (answer : AdminAnswer) (old new : Rows) (org : List ℕ) (limit : ℕ) → limit ≤ 100_000 → AreLawful (λ q. get old q)
    → effect answer (get new org) ≡ org_limited limit (get old org) → ((q : List ℕ) → q ≢ org → get new q ≡ get old q) → AreLawful (λ q. get new q)
org_limit_keeps answer old new org limit most lawful own others =
    kept_by (λ q. get old q) (λ q. get new q) org lawful others
    (λ o e. limited_is_lawful limit (get old org) most (lawful org) o (sym (ap (λ x. x.left) own) ∙ e))

-- no entry has a digest that isn't found
no_digest : (digest : List ℕ) (es : List (List ℕ × Token)) (q : List ℕ) (t : Token) → is_some (token_with digest es) ≡ false → find name_cmp q es ≡ Some t → bytes_eq t.digest digest ≡ false
no_digest digest [] q t none e = absurd (let no_one : ⊥ = cc in no_one)
no_digest digest (x ∷ es) q t none e = passed (bytes_eq x.1.digest digest) (name_cmp q x.0) refl none e (λ rest is. no_digest digest es q t rest is)
  where
    passed : (b : Bool) (o : Ordering) → bytes_eq x.1.digest digest ≡ b → is_some (cond b (Some x.1) (token_with digest es)) ≡ false → cond (is_eq o) (Some x.1) (find name_cmp q es) ≡ Some t
        → (is_some (token_with digest es) ≡ false → find name_cmp q es ≡ Some t → bytes_eq t.digest digest ≡ false) → bytes_eq t.digest digest ≡ false
    passed true o b none is more = absurd (let no_one : ⊥ = cc in no_one)
    passed false Ordering.Less b none is more = more none is
    passed false Ordering.Equal b none is more = ap (λ (u : Token). bytes_eq u.digest digest) (let same_one : t ≡ x.1 = cc in same_one) ∙ b
    passed false Ordering.Greater b none is more = more none is

digest_apart : (o : Organization) (digest : List ℕ) (q : List ℕ) (t : Token) → has_digest digest o ≡ false → get o.tokens q ≡ Some t → t.digest ≢ digest
digest_apart o digest q t none e = apart_from t.digest digest (no_digest digest (entries o.tokens) q t none (sym (get-entries o.tokens q) ∙ e))

-- a token more, whose name is one and whose digest is new
token_is_lawful : (o : Organization) (name : List ℕ) (token : Token) → IsLawfulOrganization o → IsToken name token → has_digest token.digest o ≡ false
    → IsLawfulOrganization (with_token o name token)
token_is_lawful o name token lawful fits none = record {
  limit = lawful.limit;
  tokens = λ q t e. of_name q t e (bytes_eq q name) refl;
  digests = λ q p t u e f d. of_both q p t u e f d (bytes_eq q name) (bytes_eq p name) refl refl;
  workspaces = lawful.workspaces;
}
  where
    own : (q : List ℕ) (t : Token) → get (insert o.tokens name token) q ≡ Some t → bytes_eq q name ≡ true → token ≡ t
    own q t e b = same_Some token t (sym (get_own o.tokens name token) ∙ subst (λ (p : List ℕ). get (insert o.tokens name token) p ≡ Some t) ((bytes_eq-Decides q name).0 b) e)

    other : (q : List ℕ) (t : Token) → get (insert o.tokens name token) q ≡ Some t → bytes_eq q name ≡ false → get o.tokens q ≡ Some t
    other q t e b = sym (get_other o.tokens name token q (apart_from q name b)) ∙ e

    of_name : (q : List ℕ) (t : Token) → get (insert o.tokens name token) q ≡ Some t → (b : Bool) → bytes_eq q name ≡ b → IsToken q t
    of_name q t e true b = subst (IsToken q) (own q t e b) (subst (λ (p : List ℕ). IsToken p token) (sym ((bytes_eq-Decides q name).0 b)) fits)
    of_name q t e false b = lawful.tokens q t (other q t e b)

    of_both : (q p : List ℕ) (t u : Token) → get (insert o.tokens name token) q ≡ Some t → get (insert o.tokens name token) p ≡ Some u → t.digest ≡ u.digest
        → (b c : Bool) → bytes_eq q name ≡ b → bytes_eq p name ≡ c → q ≡ p
    of_both q p t u e f d true true b c = (bytes_eq-Decides q name).0 b ∙ sym ((bytes_eq-Decides p name).0 c)
    of_both q p t u e f d true false b c =
        absurd (digest_apart o token.digest p u none (other p u f c) (sym d ∙ ap (λ (x : Token). x.digest) (sym (own q t e b))))
    of_both q p t u e f d false true b c =
        absurd (digest_apart o token.digest q t none (other q t e b) (d ∙ ap (λ (x : Token). x.digest) (sym (own p u f c))))
    of_both q p t u e f d false false b c = lawful.digests q p t u (other q t e b) (other p u f c) d

with_token_is_lawful : (name : List ℕ) (token : Token) (r : Option Organization) → IsToken name token → ((o : Organization) → r ≡ Some o → IsLawfulOrganization o)
    → (o : Organization) → (token_added name token r).left ≡ Some o → IsLawfulOrganization o
with_token_is_lawful name token None fits lawful o e = absurd (let none : ⊥ = cc in none)
with_token_is_lawful name token (Some p) fits lawful o e = chosen (is_some (get p.tokens name)) (has_digest token.digest p) refl e
  where
    chosen : (a b : Bool) → has_digest token.digest p ≡ b → (cond (a || b) (effect Exists (Some p)) (effect Done (Some (with_token p name token)))).left ≡ Some o → IsLawfulOrganization o
    chosen true b t e = lawful o e
    chosen false true t e = lawful o e
    chosen false false t e = subst IsLawfulOrganization (same_Some (with_token p name token) o e) (token_is_lawful p name token (lawful p refl) fits t)

pub token_add_keeps : {E : Type 0} (r : Result AdminAnswer E) (old new : Rows) (org name : List ℕ) (token : Token) → IsToken name token → AreLawful (λ q. get old q)
    → IfOk r (λ answer. effect answer (get new org) ≡ token_added name token (get old org)) → ((q : List ℕ) → q ≢ org → get new q ≡ get old q)
    → OnErr r (new ≡ old) → AreLawful (λ q. get new q)
token_add_keeps (Ok answer) old new org name token fits lawful own others err =
    kept_by (λ q. get old q) (λ q. get new q) org lawful others
    (λ o e. with_token_is_lawful name token (get old org) fits (lawful org) o (sym (ap (λ x. x.left) own) ∙ e))
token_add_keeps (Err fault) old new org name token fits lawful own others err = subst (λ (m : Rows). AreLawful (λ q. get m q)) (sym err) lawful

-- a token that stays is the same token
token_stays : (o : Organization) (name q : List ℕ) (t : Token) → get (remove o.tokens name) q ≡ Some t → (b : Bool) → bytes_eq q name ≡ b → get o.tokens q ≡ Some t
token_stays o name q t e true same =
    let is : get (remove o.tokens name) name ≡ Some t = subst (λ (p : List ℕ). get (remove o.tokens name) p ≡ Some t) ((bytes_eq-Decides q name).0 same) e in
    absurd (let none : ⊥ = cc (sym (removed_own o.tokens name) ∙ is) in none)
token_stays o name q t e false same = sym (removed_other o.tokens name q (apart_from q name same)) ∙ e

stays : (o : Organization) (name q : List ℕ) (t : Token) → get (remove o.tokens name) q ≡ Some t → get o.tokens q ≡ Some t
stays o name q t e = token_stays o name q t e (bytes_eq q name) refl

less_is_lawful : (o : Organization) (name : List ℕ) → IsLawfulOrganization o → IsLawfulOrganization (without_token o name)
less_is_lawful o name lawful = record {
  limit = lawful.limit;
  tokens = λ q t e. lawful.tokens q t (stays o name q t e);
  digests = λ q p t u e f d. lawful.digests q p t u (stays o name q t e) (stays o name p u f) d;
  workspaces = lawful.workspaces;
}

without_token_is_lawful : (name : List ℕ) (r : Option Organization) → ((o : Organization) → r ≡ Some o → IsLawfulOrganization o)
    → (o : Organization) → (token_revoked name r).left ≡ Some o → IsLawfulOrganization o
without_token_is_lawful name None lawful o e = absurd (let none : ⊥ = cc in none)
without_token_is_lawful name (Some p) lawful o e = chosen (is_some (get p.tokens name)) e
  where
    chosen : (b : Bool) → (cond b (effect Done (Some (without_token p name))) (effect Absent (Some p))).left ≡ Some o → IsLawfulOrganization o
    chosen true is = subst IsLawfulOrganization (same_Some (without_token p name) o is) (less_is_lawful p name (lawful p refl))
    chosen false is = lawful o is

pub token_revoke_keeps : (answer : AdminAnswer) (old new : Rows) (org name : List ℕ) → AreLawful (λ q. get old q)
    → effect answer (get new org) ≡ token_revoked name (get old org) → ((q : List ℕ) → q ≢ org → get new q ≡ get old q) → AreLawful (λ q. get new q)
token_revoke_keeps answer old new org name lawful own others =
    kept_by (λ q. get old q) (λ q. get new q) org lawful others
    (λ o e. without_token_is_lawful name (get old org) (lawful org) o (sym (ap (λ x. x.left) own) ∙ e))

-- an organization that isn't removed is the one that was there
unremoved_is_lawful : (is_forced : Bool) (r : Option Organization) → ((o : Organization) → r ≡ Some o → IsLawfulOrganization o)
    → (o : Organization) → (org_removed is_forced r).left ≡ Some o → IsLawfulOrganization o
unremoved_is_lawful is_forced None lawful o e = absurd (let none : ⊥ = cc in none)
unremoved_is_lawful is_forced (Some p) lawful o e = chosen (not is_forced && has_use p) e
  where
    chosen : (b : Bool) → (cond b (effect InUse (Some p)) (effect Done None)).left ≡ Some o → IsLawfulOrganization o
    chosen true is = lawful o is
    chosen false is = absurd (let none : ⊥ = cc in none)

pub org_remove_keeps : (answer : AdminAnswer) (old new : Rows) (org : List ℕ) (is_forced : Bool) → AreLawful (λ q. get old q)
    → effect answer (get new org) ≡ org_removed is_forced (get old org) → ((q : List ℕ) → q ≢ org → get new q ≡ get old q) → AreLawful (λ q. get new q)
org_remove_keeps answer old new org is_forced lawful own others =
    kept_by (λ q. get old q) (λ q. get new q) org lawful others
    (λ o e. unremoved_is_lawful is_forced (get old org) (lawful org) o (sym (ap (λ x. x.left) own) ∙ e))

-- a store with no organization
pub none_are_lawful : (m : Rows) → m ≡ empty → AreLawful (λ q. get m q)
none_are_lawful m e = λ q o is. absurd (let none : ⊥ = cc (sym (get-empty name_cmp q) ∙ sym (ap (λ (n : Rows). get n q) e) ∙ is) in none)
