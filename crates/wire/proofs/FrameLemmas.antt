-- The verdict on the parts of a head, rule by rule.
use Rattle.std.proofs.Common.{◌≡◌, ℕ, ◌+◌, ◌<◌, ◌≤◌, List, [], length, Bool, true, false, Option, Some, None, Result, Ok, Err, refl, sym, subst, arith}
use Rattle.std.proofs.lemmas.List.{append-nil}
use Rattle.httparse.specs.Grammar.{is_token_byte as is_tchar, IsToken as IsName, RequestHead, ReadsRequest, HasNoRequest}
use Rattle.httparse.specs.Spans.{RequestOverflows}
use Rattle.http_header.specs.Token.{is_token_byte, IsToken}
use Rattle.basis.specs.declared.refusals.Refusal.{Refusal}
use Rattle.basis.specs.declared.refusals.Refusal.TheVariants.{BadMessage, NoLength}
use Rattle.wire.specs.declared.framing.TheConstants.{MAX_FEEDS}
use Rattle.wire.specs.declared.framing.Frame.{Frame}
use Rattle.wire.specs.declared.messages.WireFault.{WireFault}
use Rattle.wire.specs.declared.messages.WireFault.TheVariants.{Ended, Read, Continue, Refused, Down}
use Rattle.wire.specs.Heads.{feeds_of}
use Rattle.wire.specs.Targets.{origin_of}
use Rattle.wire.specs.Framing.{Parts, parts_of, are_misframed, is_chunked, content_length, length_refusal, max_body, is_head_method, frame_of, judged, Verdict, refuses, accepts, parsed, IsJudged}
use Rattle.wire.specs.Inner.Spans.{GivesBy, Judges, Frames}
use Rattle.wire.proofs.FeedLemmas.{feeds_request}

-- a method of the grammar is a token
pub same_token : (bytes : List ℕ) → IsName bytes → IsToken bytes
unfolding is_tchar is_token_byte
same_token bytes t = t

pub refuses_target : (p : Parts) (h : Bool) → h ≡ is_head_method p.method → None ≡ origin_of p.target → refuses BadMessage h ≡ judged p
refuses_target p h e o = rw (e, ← o) refl

pub refuses_frame : (p : Parts) (origin : List ℕ) (h : Bool) → h ≡ is_head_method p.method → Some origin ≡ origin_of p.target
    → true ≡ are_misframed p.minor p.fields → refuses BadMessage h ≡ judged p
refuses_frame p origin h e o m = rw (e, ← o, ← m) refl

pub refuses_chunks : (p : Parts) (origin : List ℕ) (h : Bool) → h ≡ is_head_method p.method → Some origin ≡ origin_of p.target
    → false ≡ are_misframed p.minor p.fields → true ≡ is_chunked p.fields → refuses NoLength h ≡ judged p
refuses_chunks p origin h e o m t = rw (e, ← o, ← m, ← t) refl

pub refuses_length : (p : Parts) (origin : List ℕ) (h : Bool) (text : Option (List ℕ)) (most : ℕ) (r : Refusal) → h ≡ is_head_method p.method
    → Some origin ≡ origin_of p.target → false ≡ are_misframed p.minor p.fields → false ≡ is_chunked p.fields → text ≡ content_length p.fields
    → most ≡ max_body p.method → length_refusal text most ≡ Some r → refuses r h ≡ judged p
refuses_length p origin h text most r e o m t c b l = rw (e, ← o, ← m, ← t, ← c, ← b, l) refl

pub takes_all : (p : Parts) (origin : List ℕ) (frame : Frame) (text : Option (List ℕ)) (most : ℕ)
    → Some origin ≡ origin_of p.target → false ≡ are_misframed p.minor p.fields → false ≡ is_chunked p.fields → text ≡ content_length p.fields
    → most ≡ max_body p.method → length_refusal text most ≡ None → frame ≡ frame_of p origin → accepts frame ≡ judged p
takes_all p origin frame text most o m t c b l f =
    let here : length_refusal (content_length p.fields) (max_body p.method) ≡ None = rw (← c, ← b) l in
    rw (f, ← o, ← m, ← t, here) refl

-- ---- a whole head

pub gives_weaker : (P Q : Verdict → Type 0) (r : Result Frame WireFault) → ((v : Verdict) → P v → Q v) → GivesBy P r → GivesBy Q r
gives_weaker P Q (Ok frame) f p = f (accepts frame) p
gives_weaker P Q (Err (Refused refusal is_head)) f p = f (refuses refusal is_head) p
gives_weaker P Q (Err Ended) f p = p
gives_weaker P Q (Err Read) f p = p
gives_weaker P Q (Err Continue) f p = p
gives_weaker P Q (Err Down) f p = p

pub judged_head : (head : List ℕ) (h : RequestHead) (rest : List ℕ) (result : Result Frame WireFault) → feeds_of head ≤ MAX_FEEDS
    → ReadsRequest head h rest → Judges (parts_of h) result → Frames head result
judged_head head h rest result few reads judges =
    gives_weaker (λ v. v ≡ judged (parts_of h)) (IsJudged head) result
    (λ v e. (parsed (parts_of h), (few, (h, rest, reads, refl)), e)) judges

-- more than 64 fields have more than 66 line feeds
pub no_request : (head : List ℕ) → feeds_of head ≤ MAX_FEEDS → RequestOverflows 64 head → HasNoRequest head
no_request head few over h rest reads =
    let R : List ℕ → Type 0 = λ bytes. ReadsRequest bytes h rest in
    let many : 64 < length h.fields = over [] h rest (subst R (sym (append-nil head)) reads) in
    let feeds : length h.fields + 2 ≤ feeds_of head = feeds_request head h rest reads in
    omega arith
