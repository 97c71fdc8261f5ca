-- The functions of Documents and the relations of Readings say the same.
use Rattle.docs.proofs.Outside.{◌≡◌, ◌∙◌, sym, ap, refl, arith, ℕ, ◌<◌, ◌≤◌, List, [], ◌∷◌, length, Bool, true, false, ◌&&◌, cond, nat_le, Option, Some, None, option_and_then, codes, is_utf8, IsUtf8-from_is_utf8, is_utf8-from_IsUtf8, Data, null, boolean, number, string, array, object, unsigned, negative, float, Members, get_member, as_number, as_object, as_str, as_u64, read, MAX_KEPT, MAX_SERIAL, StateHead, MAX_LINEAGE, is_free_id, within, MAX_KEY, MAX_MESSAGE}
use Rattle.std.proofs.lemmas.Bool.{leb-true, le-leb, and_parts, not-true}
use Rattle.std.proofs.lemmas.Option.{cond_some, option_and_then_some}
use Rattle.basis.specs.declared.rows.RunAsk.{RunAsk}
use Rattle.basis.specs.declared.rows.SettingsAsk.{SettingsAsk}
use Rattle.docs.specs.declared.documents.TheConstants.{MAX_SMALL}
use Rattle.docs.specs.Documents.{state_head, lock_id_of, settings_of, run_ask, object_of, serial_of, text_within, optional_text, make_head, head_in, free_id, lock_id_in, small_object_of, retention_of, make_settings, settings_in, key_of, make_ask, ask_in}
use Rattle.docs.specs.Readings.{IsObject, IsText, IsState, IsLock, IsSmallObject, IsRetentionAsked, IsSettings, IsKey, IsAsk, StateLaw, LockLaw, SettingsLaw, AskLaw}
use Rattle.docs.specs.Flags.{flag_of}
use Rattle.docs.specs.RunSettings.{run_settings_in}
use Rattle.docs.proofs.FlagLemmas.{option_map_some, flag_read, flag_said}
use Rattle.docs.proofs.RunSettings.{run_settings_read, run_settings_said}

-- ---- tests

-- ---- objects

object_as : (d : Data) (ms : Members) → as_object d ≡ Some ms → d ≡ object ms
object_as null ms is = absurd (cc)
object_as (boolean b) ms is = absurd (cc)
object_as (number n) ms is = absurd (cc)
object_as (string s) ms is = absurd (cc)
object_as (array ds) ms is = absurd (cc)
object_as (object ls) ms is = cc

object_read_as : (bytes : List ℕ) (ms : Members) (b : Bool) → is_utf8 bytes ≡ b → object_of bytes ≡ Some ms → IsObject bytes ms
object_read_as bytes ms true is found =
    let within = rw is at found in
    option_and_then_some as_object (read bytes) ms within (λ d value as_is. record {
      text = IsUtf8-from_is_utf8 bytes is;
      value = value ∙ ap Some (object_as d ms as_is);
    })
object_read_as bytes ms false is found = let none = rw is at found in absurd (cc)

object_read : (bytes : List ℕ) (ms : Members) → object_of bytes ≡ Some ms → IsObject bytes ms
object_read bytes ms = object_read_as bytes ms (is_utf8 bytes) refl

object_said : (bytes : List ℕ) (ms : Members) → IsObject bytes ms → object_of bytes ≡ Some ms
object_said bytes ms is = rw (is_utf8-from_IsUtf8 bytes is.text, is.value) refl

-- ---- states

serial_read : (d : Data) (n : ℕ) → serial_of d ≡ Some n → (d ≡ number (unsigned n)) × (n < 9_223_372_036_854_775_808)
serial_read (number (unsigned k)) n is =
    let found = cond_some (nat_le 0 k && nat_le k MAX_SERIAL) k n is in
    let most : k ≤ 9_223_372_036_854_775_807 = leb-true k MAX_SERIAL (and_parts (nat_le 0 k) (nat_le k MAX_SERIAL) found.0).1 in
    (ap (λ x. number (unsigned x)) found.1, rw (← found.1) (omega arith))
serial_read (number (negative z)) n is = absurd (cc)
serial_read (number (float x)) n is = absurd (cc)
serial_read null n is = absurd (cc)
serial_read (boolean b) n is = absurd (cc)
serial_read (string s) n is = absurd (cc)
serial_read (array ds) n is = absurd (cc)
serial_read (object ms) n is = absurd (cc)

text_read : (most : ℕ) (found : Option Data) (text : List ℕ) → optional_text most found ≡ Some text → IsText most found text
text_read most None text is = cc
text_read most (Some (string s)) text is =
    let short = cond_some _ s text is in
    (ap string short.1, rw (← short.1) (leb-true _ _ (and_parts _ _ short.0).1))
text_read most (Some null) text is = absurd (cc)
text_read most (Some (boolean b)) text is = absurd (cc)
text_read most (Some (number n)) text is = absurd (cc)
text_read most (Some (array ds)) text is = absurd (cc)
text_read most (Some (object ms)) text is = absurd (cc)

text_said : (most : ℕ) (found : Option Data) (text : List ℕ) → IsText most found text → optional_text most found ≡ Some text
text_said most None text is = ap Some (sym is)
text_said most (Some value) text is = let least : 0 ≤ length text = omega arith in rw (is.0, le-leb _ _ least, le-leb _ _ is.1) refl

serial_said : (n : ℕ) → n < 9_223_372_036_854_775_808 → serial_of (number (unsigned n)) ≡ Some n
serial_said n is = let most : n ≤ 9_223_372_036_854_775_807 = omega arith in let least : 0 ≤ n = omega arith in rw (le-leb _ _ least, le-leb _ _ most) refl

head_read : (bytes : List ℕ) (ms : Members) (head : StateHead) → IsObject bytes ms → head_in ms ≡ Some head → IsState bytes head
head_read bytes ms head document is =
    option_and_then_some _ (option_and_then serial_of (get_member (codes "serial") ms)) head is (λ n serial rest.
    option_and_then_some serial_of (get_member (codes "serial") ms) n serial (λ d found whole.
    option_map_some (make_head n) (optional_text MAX_LINEAGE (get_member (codes "lineage") ms)) head rest (λ text lineage made.
    let number_is = serial_read d n whole in
    rw (← made) (record {
      members = ms;
      document = document;
      serial = found ∙ ap Some number_is.0;
      signed = number_is.1;
      lineage = text_read MAX_LINEAGE (get_member (codes "lineage") ms) text lineage;
    }))))

-- a state is what `state_head` gives
pub state_law : (bytes : List ℕ) → StateLaw bytes
unfolding state_head
state_law bytes head = (
  (λ is. option_and_then_some head_in (object_of bytes) head is (λ ms document found. head_read bytes ms head (object_read bytes ms document) found)),
  (λ is. rw (object_said bytes is.members is.document, is.serial, serial_said head.serial is.signed, text_said MAX_LINEAGE (get_member (codes "lineage") is.members) head.lineage is.lineage) refl),
)

-- ---- locks

string_as : (d : Data) (text : List ℕ) → as_str d ≡ Some text → d ≡ string text
string_as (string s) text is = cc
string_as null text is = absurd (cc)
string_as (boolean b) text is = absurd (cc)
string_as (number n) text is = absurd (cc)
string_as (array ds) text is = absurd (cc)
string_as (object ms) text is = absurd (cc)

lock_read : (bytes : List ℕ) (ms : Members) (id : List ℕ) → IsObject bytes ms → lock_id_in ms ≡ Some id → IsLock bytes id
lock_read bytes ms id document is =
    option_and_then_some free_id (option_and_then as_str (get_member (codes "ID") ms)) id is (λ text said free.
    option_and_then_some as_str (get_member (codes "ID") ms) text said (λ d found as_text.
    let fits = cond_some (is_free_id text) text id free in
    let parts = and_parts _ _ fits.0 in
    let bounds = and_parts _ _ parts.0 in
    rw (← fits.1) (record {
      members = ms;
      document = document;
      id_text = found ∙ ap Some (string_as d text as_text);
      least = leb-true _ _ bounds.0;
      most = leb-true _ _ bounds.1;
      free = not-true _ parts.1;
    })))

-- lock information is what `lock_id_of` gives the ID of
pub lock_law : (bytes : List ℕ) → LockLaw bytes
unfolding lock_id_of
lock_law bytes id = (
  (λ is. option_and_then_some lock_id_in (object_of bytes) id is (λ ms document found. lock_read bytes ms id (object_read bytes ms document) found)),
  (λ is. rw (object_said bytes is.members is.document, is.id_text, le-leb _ _ is.least, le-leb _ _ is.most, is.free) refl),
)

-- ---- settings

small_read_as : (b : ℕ) (bytes : List ℕ) (ms : Members) (t : Bool) → nat_le (length (b ∷ bytes)) MAX_SMALL ≡ t → cond t (object_of (b ∷ bytes)) None ≡ Some ms → IsSmallObject (b ∷ bytes) ms
small_read_as b bytes ms true short is = (object_read (b ∷ bytes) ms is, leb-true _ _ short)
small_read_as b bytes ms false short is = absurd (cc)

small_read : (bytes : List ℕ) (ms : Members) → small_object_of bytes ≡ Some ms → IsSmallObject bytes ms
small_read [] ms is = cc
small_read (b ∷ bytes) ms is = small_read_as b bytes ms (nat_le (length (b ∷ bytes)) MAX_SMALL) refl is

small_said : (bytes : List ℕ) (ms : Members) → IsSmallObject bytes ms → small_object_of bytes ≡ Some ms
small_said [] ms is = ap Some (sym is)
small_said (b ∷ bytes) ms is = rw (le-leb _ _ is.1, object_said (b ∷ bytes) ms is.0) refl

retention_number_read : (d : Data) (keep : ℕ) → option_and_then (within 1 MAX_KEPT) (option_and_then as_u64 (as_number d)) ≡ Some keep → (d ≡ number (unsigned keep)) × (1 ≤ keep) × (keep ≤ MAX_KEPT)
retention_number_read (number (unsigned k)) keep is =
    let found = cond_some (nat_le 1 k && nat_le k MAX_KEPT) k keep is in
    let bounds = and_parts (nat_le 1 k) (nat_le k MAX_KEPT) found.0 in
    (ap (λ x. number (unsigned x)) found.1, rw (← found.1) (leb-true 1 k bounds.0), rw (← found.1) (leb-true k MAX_KEPT bounds.1))
retention_number_read (number (negative z)) keep is = absurd (cc)
retention_number_read (number (float x)) keep is = absurd (cc)
retention_number_read null keep is = absurd (cc)
retention_number_read (boolean b) keep is = absurd (cc)
retention_number_read (string s) keep is = absurd (cc)
retention_number_read (array ds) keep is = absurd (cc)
retention_number_read (object ms) keep is = absurd (cc)

retention_read : (found : Option Data) (keep : Option ℕ) → retention_of found ≡ Some keep → IsRetentionAsked found keep
retention_read None keep is = cc
retention_read (Some value) None is = option_map_some Some (option_and_then (within 1 MAX_KEPT) (option_and_then as_u64 (as_number value))) None is (λ n said made. absurd (cc))
retention_read (Some value) (Some keep) is =
    option_map_some Some (option_and_then (within 1 MAX_KEPT) (option_and_then as_u64 (as_number value))) (Some keep) is (λ n said made.
    let same : n ≡ keep = cc in retention_number_read value keep (said ∙ ap Some same))

retention_said : (found : Option Data) (keep : Option ℕ) → IsRetentionAsked found keep → retention_of found ≡ Some keep
retention_said None keep is = ap Some (sym is)
retention_said (Some value) None is = absurd is
retention_said (Some value) (Some keep) is = rw (is.0, le-leb _ _ is.1, le-leb _ _ is.2) refl

settings_read : (bytes : List ℕ) (ms : Members) (settings : SettingsAsk) → IsSmallObject bytes ms → settings_in ms ≡ Some settings → IsSettings bytes settings
settings_read bytes ms settings document is =
    option_and_then_some _ (run_settings_in ms) settings is (λ runs runs_are rest.
    option_map_some (make_settings runs) (retention_of (get_member (codes "keep_versions") ms)) settings rest (λ keep retention_is made.
    rw (← made) (record {
      members = ms;
      document = document;
      runs = run_settings_read ms runs runs_are;
      retention = retention_read (get_member (codes "keep_versions") ms) keep retention_is;
    })))

-- settings are what `settings_of` gives
pub settings_law : (bytes : List ℕ) → SettingsLaw bytes
unfolding settings_of
settings_law bytes settings = (
  (λ is. option_and_then_some settings_in (small_object_of bytes) settings is (λ ms document found. settings_read bytes ms settings (small_read bytes ms document) found)),
  (λ is. rw (small_said bytes is.members is.document, run_settings_said is.members settings.runs is.runs, retention_said (get_member (codes "keep_versions") is.members) settings.retention is.retention) refl),
)

-- ---- runs

key_read : (found : Option Data) (key : Option (List ℕ)) → key_of found ≡ Some key → IsKey found key
key_read None key is = cc
key_read (Some value) None is = option_map_some Some (option_and_then (text_within 1 MAX_KEY) (as_str value)) None is (λ text said made. absurd (cc))
key_read (Some value) (Some key) is =
    option_map_some Some (option_and_then (text_within 1 MAX_KEY) (as_str value)) (Some key) is (λ text said made.
    option_and_then_some (text_within 1 MAX_KEY) (as_str value) text said (λ s as_text fits.
    let parts = cond_some _ s text fits in
    let bounds = and_parts _ _ parts.0 in
    let same : s ≡ key = cc in
    (string_as value key (as_text ∙ ap Some same), rw (← same) (leb-true _ _ bounds.0), rw (← same) (leb-true _ _ bounds.1))))

key_said : (found : Option Data) (key : Option (List ℕ)) → IsKey found key → key_of found ≡ Some key
key_said None key is = ap Some (sym is)
key_said (Some value) None is = absurd is
key_said (Some value) (Some key) is = rw (is.0, le-leb _ _ is.1, le-leb _ _ is.2) refl

ask_read : (bytes : List ℕ) (ms : Members) (ask : RunAsk) → IsSmallObject bytes ms → ask_in ms ≡ Some ask → IsAsk bytes ask
ask_read bytes ms ask document is =
    option_and_then_some _ (key_of (get_member (codes "key") ms)) ask is (λ key key_is rest.
    option_and_then_some _ (optional_text MAX_MESSAGE (get_member (codes "message") ms)) ask rest (λ message message_is last.
    option_map_some (make_ask key message) (flag_of (get_member (codes "plan_only") ms)) ask last (λ flag flag_is made.
    rw (← made) (record {
      members = ms;
      document = document;
      key = key_read (get_member (codes "key") ms) key key_is;
      message = text_read MAX_MESSAGE (get_member (codes "message") ms) message message_is;
      plan_only = flag_read (get_member (codes "plan_only") ms) flag flag_is;
    }))))

-- what a run's creation asks is what `run_ask` gives
pub ask_law : (bytes : List ℕ) → AskLaw bytes
unfolding run_ask
ask_law bytes ask = (
  (λ is. option_and_then_some ask_in (small_object_of bytes) ask is (λ ms document found. ask_read bytes ms ask (small_read bytes ms document) found)),
  (λ is. rw (small_said bytes is.members is.document, key_said (get_member (codes "key") is.members) ask.key is.key, text_said MAX_MESSAGE (get_member (codes "message") is.members) ask.message is.message, flag_said (get_member (codes "plan_only") is.members) ask.plan_only is.plan_only) refl),
)
