-- The object that bytes are, by what the reader of `serde_json` says of them.
use Rattle.docs.proofs.Outside.{◌≡◌, ◌<◌, arith, length, [], ◌∷◌, ℕ, List, Bool, true, false, Some, None, is_some, refl, IsUtf8, is_utf8, chars, serde_json_on_literals, IsUtf8-from_is_utf8, is_utf8-from_IsUtf8, Data, null, boolean, number, string, array, object, Members, no_members, as_object, read, Result, Ok, Err, IsErrAnd, IsErrOf}
use Rattle.docs.specs.declared.faults.DocFault.{DocFault}
use Rattle.docs.specs.declared.faults.DocFault.TheVariants.{Bad, Down}
use Rattle.docs.specs.Documents.{object_of, small_object_of}

-- a value that is an object is the one that the bytes are
pub object_found : (bytes : List ℕ) (d : Data) → IsUtf8 bytes → read bytes ≡ Some d → is_some (as_object d) ≡ true → (members : Members) × (d ≡ object members) × (object_of bytes ≡ Some members)
object_found bytes null utf8 is_read found = absurd (cc)
object_found bytes (boolean b) utf8 is_read found = absurd (cc)
object_found bytes (number n) utf8 is_read found = absurd (cc)
object_found bytes (string s) utf8 is_read found = absurd (cc)
object_found bytes (array ds) utf8 is_read found = absurd (cc)
object_found bytes (object ms) utf8 is_read found = (ms, refl, rw (is_utf8-from_IsUtf8 bytes utf8, is_read) refl)

unread_as : (bytes : List ℕ) (b : Bool) → is_utf8 bytes ≡ b → (IsUtf8 bytes → read bytes ≡ None) → object_of bytes ≡ None
unread_as bytes true is unread = rw (is, unread (IsUtf8-from_is_utf8 bytes is)) refl
unread_as bytes false is unread = rw is refl

-- no object, where nothing was read
pub unread : (bytes : List ℕ) → (IsUtf8 bytes → read bytes ≡ None) → object_of bytes ≡ None
unread bytes = unread_as bytes (is_utf8 bytes) refl

-- a fault that is `Bad` isn't want of memory
pub not_memory : {T : Type 0} (r : Result T DocFault) (M : Type 0) → IsErrAnd r (λ e. (M → e ≡ Down) × (¬ M → e ≡ Bad)) → IsErrOf r Bad → ¬ M
not_memory (Ok x) M reported is m = absurd (cc)
not_memory (Err e) M reported is m = let down : e ≡ Down = reported.0 m in absurd (cc)

-- no bytes are no object
pub some_bytes : (bytes : List ℕ) (ms : Members) → object_of bytes ≡ Some ms → 0 < length bytes
unfolding serde_json_on_literals is_utf8 chars
some_bytes [] ms found = absurd (cc)
some_bytes (b ∷ bytes) ms found = omega arith

pub no_bytes : (bytes : List ℕ) → length bytes ≡ 0 → small_object_of bytes ≡ Some no_members
no_bytes [] empty = refl
no_bytes (b ∷ bytes) empty = absurd (omega arith)
