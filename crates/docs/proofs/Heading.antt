-- What counts of a state, as its members are read one after another.
use Rattle.docs.proofs.Outside.{◌≡◌, ◌∙◌, sym, ap, refl, arith, ℕ, List, [], ◌∷◌, length, Bool, true, false, true≢false, Option, Some, None, is_some, option_map, option_and_then, codes, IsUtf8, is_utf8, bytes_eq, IsUtf8-from_is_utf8, is_utf8-from_IsUtf8, tokens, token_of, Yields, Token, parse_map, items, members, value, value_is, value-begin_array, value-begin_object, Data, Num, Items, Members, number, array, object, no_members, put, get_member, as_object, as_u64, number_of, of_json, of_items, of_members, converted, within, StateHead, MAX_SERIAL, MAX_LINEAGE}
use Rattle.std.specs.Borrow.{Bor}
use Rattle.std.proofs.lemmas.Slice.Eq.{bytes_eq-Decides}
use Rattle.json.specs.declared.token.Token as read
use Rattle.json.specs.Json as json
use Rattle.serde_json.proofs.Views.{get_member-put, get_member-put_other}
use Rattle.docs.specs.Documents.{object_of, serial_of, text_within, optional_text, make_head, head_in, state_head}
use Rattle.docs.specs.Inner.Heads.{opens_object, object_in, IsPartOf, IsHeadOf, whole_in, serial_in, lineage_in}
use Rattle.docs.specs.declared.heads.Head.{Head}
use Rattle.docs.specs.declared.heads.Part.{Part}
use Rattle.docs.proofs.Passing.{converted-object, whole, whole_read, whole_and_more, whole_refused}

abbrev pub text_of : Option (Bor (List ℕ)) → Option (List ℕ)
text_of found = option_map (λ text. text.now) found

found_at : (wanted name : List ℕ) (value : Data) (found : Members) → name ≡ wanted → get_member wanted (put name value found) ≡ Some value
found_at wanted name value found is = ap (λ k. get_member k (put name value found)) (sym is) ∙ get_member-put name value found

differs : (wanted name : List ℕ) → bytes_eq name wanted ≡ false → wanted ≡ name → ⊥
differs wanted name apart is = true≢false (sym ((bytes_eq-Decides name wanted).1 (sym is)) ∙ apart)

not_lineage : (name : List ℕ) → name ≡ codes "serial" → codes "lineage" ≡ name → ⊥
not_lineage name is other = let longer : 7 ≡ 6 = ap length (other ∙ is) in omega (arith, longer)

not_serial : (name : List ℕ) → name ≡ codes "lineage" → codes "serial" ≡ name → ⊥
not_serial name is other = let shorter : 6 ≡ 7 = ap length (other ∙ is) in omega (arith, shorter)

pub with_serial : (name : List ℕ) (part : Part) (value : Data) (found : Members) (old : Head) (serial : Option ℕ) → bytes_eq name (codes "serial") ≡ true → IsPartOf part value → IsHeadOf old found
    → serial ≡ serial_in part → IsHeadOf (record { whole = serial; lineage = old.lineage }) (put name value found)
with_serial name part value found old serial same part_is head is =
    let named = (bytes_eq-Decides name (codes "serial")).0 same in
    record {
      serial = is ∙ ap (option_and_then as_u64) part_is.0 ∙ ap (option_and_then whole_in) (sym (found_at (codes "serial") name value found named));
      lineage = head.lineage ∙ ap (optional_text MAX_LINEAGE) (sym (get_member-put_other (codes "lineage") name value found (not_lineage name named)));
    }

pub with_lineage : (name : List ℕ) (part : Part) (value : Data) (found : Members) (old : Head) (lineage : Option (Bor (List ℕ))) → bytes_eq name (codes "lineage") ≡ true → IsPartOf part value → IsHeadOf old found
    → text_of lineage ≡ lineage_in part → IsHeadOf (record { whole = old.whole; lineage = lineage }) (put name value found)
with_lineage name part value found old lineage same part_is head is =
    let named = (bytes_eq-Decides name (codes "lineage")).0 same in
    record {
      serial = head.serial ∙ ap (option_and_then whole_in) (sym (get_member-put_other (codes "serial") name value found (not_serial name named)));
      lineage = is ∙ ap (option_and_then (text_within 0 MAX_LINEAGE)) part_is.1 ∙ ap (optional_text MAX_LINEAGE) (sym (found_at (codes "lineage") name value found named));
    }

pub with_another : (name : List ℕ) (value : Data) (found : Members) (head : Head) → bytes_eq name (codes "serial") ≡ false → bytes_eq name (codes "lineage") ≡ false → IsHeadOf head found → IsHeadOf head (put name value found)
with_another name value found head no_serial no_lineage is = record {
  serial = is.serial ∙ ap (option_and_then whole_in) (sym (get_member-put_other (codes "serial") name value found (differs (codes "serial") name no_serial)));
  lineage = is.lineage ∙ ap (optional_text MAX_LINEAGE) (sym (get_member-put_other (codes "lineage") name value found (differs (codes "lineage") name no_lineage)));
}

-- ---- the whole text

opened : (ts : List Token) → converted of_json (value 127 (Token.begin_object ∷ ts)) ≡ parse_map object (converted (λ ms. of_members ms no_members) (members (value 126) (length ts) ts))
opened ts = ap (converted of_json) (value-begin_object 127 ts (omega arith)) ∙ converted-object (members (value 126) (length ts) ts)

pub object_whole : (ts : List Token) (found : Members) → converted (λ ms. of_members ms no_members) (members (value 126) (length ts) ts) ≡ Some (found, []) → object_in (Token.begin_object ∷ ts) ≡ Some found
object_whole ts found e = ap (option_and_then as_object) (whole_read (value 127 (Token.begin_object ∷ ts)) (object found) (opened ts ∙ ap (parse_map object) e))

pub object_and_more : (ts r : List Token) (t : Token) (found : Members) → converted (λ ms. of_members ms no_members) (members (value 126) (length ts) ts) ≡ Some (found, t ∷ r) → object_in (Token.begin_object ∷ ts) ≡ None
object_and_more ts r t found e = ap (option_and_then as_object) (whole_and_more (value 127 (Token.begin_object ∷ ts)) (object found) t r (opened ts ∙ ap (parse_map object) e))

pub object_refused : (ts : List Token) → converted (λ ms. of_members ms no_members) (members (value 126) (length ts) ts) ≡ None → object_in (Token.begin_object ∷ ts) ≡ None
object_refused ts e = ap (option_and_then as_object) (whole_refused (value 127 (Token.begin_object ∷ ts)) (opened ts ∙ ap (parse_map object) e))

-- ---- what is read next

pub one_left : (r : Option read.Token) (now new : List Token) → Yields now r new → is_some r ≡ true → (t : Token) × (rest : List Token) × (now ≡ t ∷ rest)
one_left None now new is some = absurd (cc)
one_left (Some t) now new is some = (token_of t, new, is)

pub none_left : (r : Option read.Token) (now new : List Token) → Yields now r new → is_some r ≡ false → now ≡ []
none_left None now new is some = is.0
none_left (Some t) now new is some = absurd (cc)

-- ---- what begins otherwise

number_plain : (o : Option Num) → option_and_then as_object (option_map number o) ≡ None
number_plain None = refl
number_plain (Some n) = refl

array_plain : (o : Option Items) → option_and_then as_object (option_map array o) ≡ None
array_plain None = refl
array_plain (Some ds) = refl

one_plain : (j : json.Json) (ts : List Token) → option_and_then as_object (of_json j) ≡ None → option_and_then as_object (whole (Some (j, ts))) ≡ None
one_plain j [] e = e
one_plain j (t ∷ ts) e = refl

array_whole : (o : Option (json.Items × List Token)) → option_and_then as_object (whole (parse_map json.array o)) ≡ None
array_whole None = refl
array_whole (Some p) = one_plain (json.array p.0) p.1 (array_plain (of_items p.0))

pub no_tokens : object_in [] ≡ None
no_tokens = ap (λ o. option_and_then as_object (whole o)) (value_is 127 [])

pub no_object : (t : Token) (ts : List Token) → opens_object t ≡ false → object_in (t ∷ ts) ≡ None
no_object Token.begin_object ts e = absurd (cc)
no_object Token.end_object ts e = ap (λ o. option_and_then as_object (whole o)) (value_is 127 (Token.end_object ∷ ts))
no_object Token.begin_array ts e =
    ap (λ o. option_and_then as_object (whole o)) (value-begin_array 127 ts (omega arith)) ∙ array_whole (items (value 126) (length ts) ts)
no_object Token.end_array ts e = ap (λ o. option_and_then as_object (whole o)) (value_is 127 (Token.end_array ∷ ts))
no_object (Token.key s) ts e = ap (λ o. option_and_then as_object (whole o)) (value_is 127 (Token.key s ∷ ts))
no_object (Token.string s) ts e =
    ap (λ o. option_and_then as_object (whole o)) (value_is 127 (Token.string s ∷ ts)) ∙ one_plain (json.string s) ts refl
no_object (Token.number s) ts e =
    ap (λ o. option_and_then as_object (whole o)) (value_is 127 (Token.number s ∷ ts)) ∙ one_plain (json.number s) ts (number_plain (number_of s))
no_object (Token.boolean b) ts e =
    ap (λ o. option_and_then as_object (whole o)) (value_is 127 (Token.boolean b ∷ ts)) ∙ one_plain (json.boolean b) ts refl
no_object Token.null ts e = ap (λ o. option_and_then as_object (whole o)) (value_is 127 (Token.null ∷ ts)) ∙ one_plain json.null ts refl
no_object Token.bad ts e = ap (λ o. option_and_then as_object (whole o)) (value_is 127 (Token.bad ∷ ts))

pub object_token : (t : Token) → opens_object t ≡ true → t ≡ Token.begin_object
object_token Token.begin_object e = refl
object_token Token.end_object e = absurd (cc)
object_token Token.begin_array e = absurd (cc)
object_token Token.end_array e = absurd (cc)
object_token (Token.key s) e = absurd (cc)
object_token (Token.string s) e = absurd (cc)
object_token (Token.number s) e = absurd (cc)
object_token (Token.boolean b) e = absurd (cc)
object_token Token.null e = absurd (cc)
object_token Token.bad e = absurd (cc)

-- ---- the bytes

pub text_found : (bytes : List ℕ) (found : Members) → IsUtf8 bytes → object_in (tokens bytes) ≡ Some found → object_of bytes ≡ Some found
text_found bytes found utf8 e = rw (is_utf8-from_IsUtf8 bytes utf8) e

pub text_refused : (bytes : List ℕ) → IsUtf8 bytes → object_in (tokens bytes) ≡ None → object_of bytes ≡ None
text_refused bytes utf8 e = rw (is_utf8-from_IsUtf8 bytes utf8) e

no_text_as : (bytes : List ℕ) (b : Bool) → is_utf8 bytes ≡ b → (IsUtf8 bytes → ⊥) → object_of bytes ≡ None
no_text_as bytes true is other = absurd (other (IsUtf8-from_is_utf8 bytes is))
no_text_as bytes false is other = rw is refl

pub no_text : (bytes : List ℕ) → (IsUtf8 bytes → ⊥) → object_of bytes ≡ None
no_text bytes = no_text_as bytes (is_utf8 bytes) refl

-- ---- the state

-- a serial is a whole number in its range
serial_is : (value : Option Data) → option_and_then serial_of value ≡ option_and_then (within 0 MAX_SERIAL) (option_and_then whole_in value)
serial_is None = refl
serial_is (Some value) = refl

pub head_found : (bytes : List ℕ) (found : Members) (head : Head) (made : StateHead) → object_of bytes ≡ Some found → IsHeadOf head found
    → option_and_then (within 0 MAX_SERIAL) head.whole ≡ Some made.serial → text_of head.lineage ≡ Some made.lineage → state_head bytes ≡ Some made
unfolding state_head
head_found bytes found head made document is serial lineage =
    let text = optional_text MAX_LINEAGE (get_member (codes "lineage") found) in
    ap (option_and_then head_in) document ∙ ap (option_and_then (λ n. option_map (make_head n) text)) (serial_is (get_member (codes "serial") found) ∙ ap (option_and_then (within 0 MAX_SERIAL)) (sym is.serial) ∙ serial)
    ∙ ap (option_map (make_head made.serial)) (sym is.lineage ∙ lineage)

pub none_found : (bytes : List ℕ) → object_of bytes ≡ None → state_head bytes ≡ None
unfolding state_head
none_found bytes document = ap (option_and_then head_in) document

pub no_serial_found : (bytes : List ℕ) (found : Members) (head : Head) → object_of bytes ≡ Some found → IsHeadOf head found → option_and_then (within 0 MAX_SERIAL) head.whole ≡ None → state_head bytes ≡ None
unfolding state_head
no_serial_found bytes found head document is serial =
    let text = optional_text MAX_LINEAGE (get_member (codes "lineage") found) in
    ap (option_and_then head_in) document ∙ ap (option_and_then (λ n. option_map (make_head n) text)) (serial_is (get_member (codes "serial") found) ∙ ap (option_and_then (within 0 MAX_SERIAL)) (sym is.serial) ∙ serial)

without_text : (o : Option ℕ) → option_and_then (λ n. option_map {U = StateHead} (make_head n) None) o ≡ None
without_text None = refl
without_text (Some n) = refl

pub no_lineage_found : (bytes : List ℕ) (found : Members) (head : Head) → object_of bytes ≡ Some found → IsHeadOf head found → text_of head.lineage ≡ None → state_head bytes ≡ None
unfolding state_head
no_lineage_found bytes found head document is lineage =
    let serial = option_and_then serial_of (get_member (codes "serial") found) in
    ap (option_and_then head_in) document ∙ ap (λ text. option_and_then (λ n. option_map (make_head n) text) serial) (sym is.lineage ∙ lineage) ∙ without_text serial
