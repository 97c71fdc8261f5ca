-- Lines on the error stream, one behind the other.
use Rattle.std.proofs.Common.{◌≡◌, ◌<◌, ◌+◌, ◌++◌, ◌∷◌, [], ℕ, List, Result, Ok, Err, ◌∙◌, sym, subst, append_assoc, ap, refl, length, take, drop, take-append-drop, get_or, inl, inr, IsErr}
use Rattle.std.proofs.lemmas.List.{append-nil, at_drop_more}
use Rattle.std.proofs.KnownBytes.{Appends-trans, Appends-kept}
use Rattle.std.specs.Io.KnownBytes.{Appends, Keeps}
use Rattle.serve.specs.declared.exchanges.LinkFault.{LinkFault}
use Rattle.program.specs.Errors.{connection_line, fault_line, fault_text}
use Rattle.program.specs.Replies.{answer_line, fault_lines}
use Rattle.program.specs.Streams.{Reported, one_more, failures_after, GetsAll, GetsPart, Reports, ReportsBy}

pub behind : (x y z end : List ℕ) → x ++ y ++ z ++ end ≡ x ++ (y ++ z ++ end)
behind [] y z end = refl
behind (b ∷ x) y z end = ap (λ (bytes : List ℕ). b ∷ bytes) (behind x y z end)

pub failed : {T E : Type 0} (old new : Reported) (text : List ℕ) (r : Result T E) → IsErr r → GetsPart old new text → ReportsBy old new text r
failed old new text (Ok done) ended h = absurd (let none : ⊥ = cc in none)
failed old new text (Err fault) ended h = h

-- a front of the first text, and nothing of the next
part_longer : (old new : Reported) (x y : List ℕ) → GetsPart old new x → GetsPart old new (x ++ y)
part_longer old new x y h = ((h.0.0, h.0.1 ++ y, ap (λ (text : List ℕ). text ++ y) h.0.2 ∙ append_assoc h.0.0 h.0.1 y, h.0.3), h.1)

-- the first text whole, and a front of the next
part_behind : (old mid new : Reported) (x y : List ℕ) → GetsAll old mid x → GetsPart mid new y → GetsPart old new (x ++ y)
part_behind old mid new x y first h = (
  (x ++ h.0.0, h.0.1, ap (λ (text : List ℕ). x ++ text) h.0.2 ∙ sym (append_assoc x h.0.0 h.0.1), Appends-trans old.bytes mid.bytes new.bytes x h.0.0 first.0 h.0.3),
  h.1 ∙ ap one_more first.1,
)

pub all_behind : (old mid new : Reported) (x y : List ℕ) → GetsAll old mid x → GetsAll mid new y → GetsAll old new (x ++ y)
all_behind old mid new x y first h = (Appends-trans old.bytes mid.bytes new.bytes x y first.0 h.0, h.1 ∙ first.1)

-- a call failed in the first piece, and the text goes on behind it
pub wrote_first : {T E : Type 0} (old new : Reported) (piece x y : List ℕ) (r : Result T E) → IsErr r → piece ≡ x → GetsPart old new piece → ReportsBy old new (x ++ y) r
wrote_first old new piece x y r ended is h = failed old new (x ++ y) r ended (part_longer old new x y (subst (λ (z : List ℕ). GetsPart old new z) is h))

-- a piece was written, and then the rest of the text, unless a call failed
pub wrote_then : {T E : Type 0} (old mid new : Reported) (piece x y : List ℕ) (r : Result T E) → piece ≡ x → GetsAll old mid piece → ReportsBy mid new y r → ReportsBy old new (x ++ y) r
wrote_then old mid new piece x y (Ok done) is h more = all_behind old mid new x y (subst (λ (z : List ℕ). GetsAll old mid z) is h) more
wrote_then old mid new piece x y (Err fault) is h more = part_behind old mid new x y (subst (λ (z : List ℕ). GetsAll old mid z) is h) more

pub reported_same : {T E : Type 0} (old new : Reported) (x y : List ℕ) (r : Result T E) → x ≡ y → ReportsBy old new y r → ReportsBy old new x r
reported_same {T} {E} old new x y r is h = subst (λ (z : List ℕ). ReportsBy old new z r) (sym is) h

pub reported_fault : {T U E : Type 0} (old new : Reported) (connection : ℕ) (ended : Result T LinkFault) (fault : LinkFault) (text : List ℕ) (r : Result U E)
    → ended ≡ Err fault → text ≡ fault_text fault → ReportsBy old new (connection_line connection text) r → ReportsBy old new (fault_line connection ended) r
reported_fault {T} old new connection ended fault text r is says h =
    subst (λ (e : Result T LinkFault). ReportsBy old new (fault_line connection e) r) (sym is) (subst (λ (t : List ℕ). ReportsBy old new (connection_line connection t) r) says h)

-- what was written is sent on
pub sent_on : {T E : Type 0} (old mid new : Reported) (text : List ℕ) (r : Result T E) → GetsAll old mid text → Keeps mid.bytes new.bytes → new.failures ≡ failures_after r mid.failures → ReportsBy old new text r
sent_on old mid new text (Ok done) whole kept counted = (Appends-kept old.bytes mid.bytes new.bytes text whole.0 kept, counted ∙ whole.1)
sent_on old mid new text (Err fault) whole kept counted = ((text, [], sym (append-nil text), Appends-kept old.bytes mid.bytes new.bytes text whole.0 kept), counted ∙ ap one_more whole.1)

pub whole_of : {T E : Type 0} (old new : Reported) (text : List ℕ) (r : Result T E) (done : T) → r ≡ Ok done → ReportsBy old new text r → GetsAll old new text
whole_of {T} {E} old new text r done is h = subst (λ (x : Result T E). ReportsBy old new text x) is h

-- whether a call failed isn't said
pub reported_of : {T E : Type 0} (old new : Reported) (text : List ℕ) (r : Result T E) → ReportsBy old new text r → Reports old new text
reported_of old new text (Ok done) h = inl h
reported_of old new text (Err fault) h = inr h

-- a call took some of the rest of a text
pub took_more : (old mid new : Reported) (text prefix rest back : List ℕ) (n : ℕ) → text ≡ prefix ++ rest → GetsAll old mid prefix → Appends mid.bytes new.bytes (take n rest) → new.failures ≡ mid.failures → back ≡ drop n rest
    → (prefix' : List ℕ) × (text ≡ prefix' ++ back) × GetsAll old new prefix'
took_more old mid new text prefix rest back n is so_far more counted left = (
  prefix ++ take n rest,
  rw (left, append_assoc, take-append-drop n rest) is,
  all_behind old mid new prefix (take n rest) so_far (more, counted),
)

-- a call failed behind a front of a text
pub took_part : (old mid new : Reported) (text prefix rest : List ℕ) → text ≡ prefix ++ rest → GetsAll old mid prefix → Keeps mid.bytes new.bytes → new.failures ≡ one_more mid.failures → GetsPart old new text
took_part old mid new text prefix rest is so_far kept counted =
    ((prefix, rest, is, Appends-kept old.bytes mid.bytes new.bytes prefix so_far.0 kept), counted ∙ ap one_more so_far.1)

-- the line of one fault more stands behind those so far
pub lines_more : (faults : List (List ℕ)) (i : ℕ) (fault text front : List ℕ) → i < length faults → fault ≡ get_or faults i fault → text ≡ fault
    → fault_lines faults ≡ front ++ fault_lines (drop i faults) → fault_lines faults ≡ (front ++ (text ++ 10 ∷ [])) ++ fault_lines (drop (i + 1) faults)
lines_more faults i fault text front within at is so_far =
    let one : fault_lines (drop i faults) ≡ answer_line (get_or faults i fault) ++ fault_lines (drop (i + 1) faults) = at_drop_more fault_lines faults i fault within in
    let same : answer_line (get_or faults i fault) ++ fault_lines (drop (i + 1) faults) ≡ answer_line text ++ fault_lines (drop (i + 1) faults) =
    ap (λ (t : List ℕ). answer_line t ++ fault_lines (drop (i + 1) faults)) (sym at ∙ sym is) in
    so_far ∙ ap (λ (t : List ℕ). front ++ t) (one ∙ same) ∙ sym (append_assoc front (answer_line text) (fault_lines (drop (i + 1) faults)))

-- a call failed in the line of one fault, and the lines of the others come behind it
pub lines_broken : (old mid new : Reported) (faults : List (List ℕ)) (i : ℕ) (fault text front : List ℕ) → i < length faults → fault ≡ get_or faults i fault → text ≡ fault
    → fault_lines faults ≡ front ++ fault_lines (drop i faults) → GetsAll old mid front → GetsPart mid new (text ++ 10 ∷ []) → GetsPart old new (fault_lines faults)
lines_broken old mid new faults i fault text front within at is so_far first h =
    subst (λ (t : List ℕ). GetsPart old new t) (sym (lines_more faults i fault text front within at is so_far))
    (part_longer old new (front ++ (text ++ 10 ∷ [])) (fault_lines (drop (i + 1) faults)) (part_behind old mid new front (text ++ 10 ∷ []) first h))
