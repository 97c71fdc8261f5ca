-- What the parts of the reading answer, joined to what the whole answers.
use Rattle.std.proofs.Common.{◌≡◌, ◌≢◌, ℕ, ◌<◌, ◌≤◌, List, [], ◌++◌, length, take, drop, Bool, true, cond, IsTrue, Option, Some, None, Result, Ok, Err, IfSome, is_err, sym, ap, subst, ◌∙◌, OnErr}
use Rattle.std.specs.Io.KnownBytes.{Consumes}
use Rattle.std.proofs.lemmas.List.{append-nil, take-append-le, drop-append-le}
use Rattle.std.proofs.lemmas.Bool.{lt-leb, le-leb}
use Rattle.std.proofs.KnownBytes.{Appends-nil}
use Rattle.wire.specs.declared.framing.Frame.{Frame}
use Rattle.wire.specs.declared.messages.Message.{Message}
use Rattle.wire.specs.declared.messages.WireFault.{WireFault}
use Rattle.wire.specs.declared.messages.WireFault.TheVariants.{Ended, Read, Continue, Refused, Down}
use Rattle.wire.specs.Heads.{HeadEnd, Unfinished, Whole, head_end_of}
use Rattle.wire.specs.Framing.{Verdict, refuses, accepts, IsJudged}
use Rattle.wire.specs.Inner.Spans.{Frames}
use Rattle.wire.specs.Messages.{Reading, unfinished, refused, whole, framed_message, reading_by, ReadsByEnd, Reads, AwaitsContinueBy, AwaitsContinue, IsAwaited}
use Rattle.wire.specs.Links.{continue_text, continue_if, WritesPrefix, Writes, WritesContinue, ReportsReceived, ReportsInput}
use Rattle.wire.specs.Inner.Bodies.{Finishes}
use Rattle.wire.proofs.HeadLemmas.{head_end_more}
use Rattle.wire.proofs.ReadingLemmas.{judged_one, reads_more, awaited_more}

whole_open : (received : List ℕ) (n : ℕ) → head_end_of received ≡ Whole n → head_end_of received ≢ Unfinished
whole_open received n e u = let g : Whole n ≡ Unfinished = sym e ∙ u in absurd (cc)

head_end_is : (received more : List ℕ) (n : ℕ) → head_end_of received ≡ Whole n → head_end_of (received ++ more) ≡ Whole n
head_end_is received more n e = head_end_more received more (whole_open received n e) ∙ e

judged_more : (received more : List ℕ) (n : ℕ) (v : Verdict) → n ≤ length received → IsJudged (take n received) v → IsJudged (take n (received ++ more)) v
judged_more received more n v h j = let J : List ℕ → Type 0 = λ head. IsJudged head v in subst J (sym (take-append-le n received more h)) j

-- what a judged head makes with the bytes after it
pub rests : (received more : List ℕ) (n : ℕ) (v : Verdict) → head_end_of received ≡ Whole n → n ≤ length received → IsJudged (take n received) v
    → Reads (received ++ more) (reading_by v (drop n received ++ more))
rests received more n v e h j =
    let F : HeadEnd → Type 0 = λ head_end. ReadsByEnd head_end (received ++ more) (reading_by v (drop n received ++ more)) in
    subst F (sym (head_end_is received more n e))
    (v, judged_more received more n v h j, ap (reading_by v) (sym (drop-append-le n received more h)))

pub awaited_by : (received more : List ℕ) (n : ℕ) (frame : Frame) → head_end_of received ≡ Whole n → n ≤ length received → IsJudged (take n received) (accepts frame)
    → IsAwaited (received ++ more) frame.awaits_continue
awaited_by received more n frame e h j =
    let F : HeadEnd → Type 0 = λ head_end. AwaitsContinueBy head_end (received ++ more) in (
      λ t. subst F (sym (head_end_is received more n e)) (frame, judged_more received more n (accepts frame) h j, t),
      λ d.
          let found : AwaitsContinueBy (Whole n) (received ++ more) = subst F (head_end_is received more n e) d in
          let same : accepts found.0 ≡ accepts frame = judged_one (take n (received ++ more)) _ _ found.1 (judged_more received more n (accepts frame) h j) in
          let frames : found.0 ≡ frame = cc in
          let T : Frame → Type 0 = λ f. IsTrue f.awaits_continue in
          subst T frames found.2,
    )

reading_is : (bytes : List ℕ) (r s : Reading) → Reads bytes r → r ≡ s → Reads bytes s
reading_is bytes r s p e = let R : Reading → Type 0 = λ x. Reads bytes x in subst R e p

is_whole : (frame : Frame) (rest : List ℕ) (message : Message) → frame.body_len ≤ length rest → message ≡ framed_message frame (take frame.body_len rest)
    → reading_by (accepts frame) rest ≡ whole message frame.awaits_continue
is_whole frame rest message h e =
    ap (λ b. cond b (whole (framed_message frame (take frame.body_len rest)) frame.awaits_continue) unfinished) (le-leb frame.body_len (length rest) h)
    ∙ ap (λ m. whole m frame.awaits_continue) (sym e)

is_unfinished : (frame : Frame) (rest : List ℕ) → length rest < frame.body_len → reading_by (accepts frame) rest ≡ unfinished
is_unfinished frame rest h =
    ap (λ b. cond b (whole (framed_message frame (take frame.body_len rest)) frame.awaits_continue) unfinished) (lt-leb frame.body_len (length rest) h)

pub finish_reports : (received more : List ℕ) (n : ℕ) (frame : Frame) (left old new : Option (List ℕ)) (result : Result Message WireFault)
    → head_end_of received ≡ Whole n → n ≤ length received → IsJudged (take n received) (accepts frame)
    → Finishes frame (drop n received ++ more) left old new result → ReportsReceived (received ++ more) left old new result
finish_reports received more n frame left old new (Ok message) e h j f =
    (frame.awaits_continue, reading_is (received ++ more) _ _ (rests received more n (accepts frame) e h j) (is_whole frame (drop n received ++ more) message f.0 f.1), f.2)
finish_reports received more n frame left old new (Err Ended) e h j f = (
  reading_is (received ++ more) _ _ (rests received more n (accepts frame) e h j) (is_unfinished frame (drop n received ++ more) f.0),
  f.1,
  (frame.awaits_continue, awaited_by received more n frame e h j, f.2),
)
finish_reports received more n frame left old new (Err Read) e h j f = (
  reading_is (received ++ more) _ _ (rests received more n (accepts frame) e h j) (is_unfinished frame (drop n received ++ more) f.0),
  (frame.awaits_continue, awaited_by received more n frame e h j, f.1),
)
finish_reports received more n frame left old new (Err Continue) e h j f = ((awaited_by received more n frame e h j).0 f.0, f.1)
finish_reports received more n frame left old new (Err (Refused refusal is_head)) e h j f = absurd f
finish_reports received more n frame left old new (Err Down) e h j f = f

pub refused_reports : (received : List ℕ) (n : ℕ) (fault : WireFault) (left old : Option (List ℕ))
    → head_end_of received ≡ Whole n → n ≤ length received → Frames (take n received) (Err fault)
    → ReportsReceived (received ++ []) left old old (Err fault)
refused_reports received n (Refused refusal is_head) left old e h j = (rests received [] n (refuses refusal is_head) e h j, Appends-nil old)
refused_reports received n Down left old e h j = Appends-nil old
refused_reports received n Ended left old e h j = absurd j
refused_reports received n Read left old e h j = absurd j
refused_reports received n Continue left old e h j = absurd j

-- the same, by the two parts that the head was cut into
pub finished : (received head rest more : List ℕ) (n : ℕ) (frame : Frame) (left old new : Option (List ℕ)) (result : Result Message WireFault)
    → head ≡ take n received → rest ≡ drop n received → head_end_of received ≡ Whole n → n ≤ length received → IsJudged head (accepts frame)
    → Finishes frame (rest ++ more) left old new result → ReportsReceived (received ++ more) left old new result
finished received head rest more n frame left old new result a b e h j f =
    let J : List ℕ → Type 0 = λ z. IsJudged z (accepts frame) in
    let F : List ℕ → Type 0 = λ z. Finishes frame (z ++ more) left old new result in
    finish_reports received more n frame left old new result e h (subst J a j) (subst F b f)

pub refused_here : (received head : List ℕ) (n : ℕ) (fault : WireFault) (left old : Option (List ℕ))
    → head ≡ take n received → head_end_of received ≡ Whole n → n ≤ length received → Frames head (Err fault)
    → ReportsReceived (received ++ []) left old old (Err fault)
refused_here received head n fault left old a e h j =
    let J : List ℕ → Type 0 = λ z. Frames z (Err fault) in
    refused_reports received n fault left old e h (subst J a j)

pub continue_refused : {T E : Type 0} (r : Result T E) (old new : Option (List ℕ)) (awaited : Bool) → is_err r ≡ true
    → Writes old new (continue_if awaited) r → OnErr r (IsTrue awaited) → IsTrue awaited × WritesPrefix old new continue_text
continue_refused (Ok done) old new awaited e w d = absurd (cc)
continue_refused (Err fault) old new awaited e w d =
    let S : Bool → Type 0 = λ b. WritesPrefix old new (continue_if b) in (d, subst S d w)

-- ---- all the bytes of a reader that tells them

reports_all : (bytes received rest : List ℕ) (old new : Option (List ℕ)) (result : Result Message WireFault) → bytes ≡ received ++ rest
    → ReportsReceived received (Some rest) old new result → ReportsInput bytes old new result
reports_all bytes received rest old new (Ok message) e a =
    let R : List ℕ → Type 0 = λ b. Reads b (whole message a.0) in
    (a.0, subst R (sym e) (reads_more received rest (whole message a.0) a.1 (λ z. cc)), a.2)
reports_all bytes received rest old new (Err Ended) e a =
    let same : bytes ≡ received = e ∙ ap (λ z. received ++ z) a.1 ∙ append-nil received in
    let R : List ℕ → Type 0 = λ b. Reads b unfinished in
    let W : List ℕ → Type 0 = λ b. WritesContinue b old new in
    (subst R (sym same) a.0, subst W (sym same) a.2)
reports_all bytes received rest old new (Err Read) e a = tt
reports_all bytes received rest old new (Err Continue) e a =
    let D : List ℕ → Type 0 = λ b. AwaitsContinue b in (subst D (sym e) (awaited_more received rest a.0), a.1)
reports_all bytes received rest old new (Err (Refused refusal is_head)) e a =
    let R : List ℕ → Type 0 = λ b. Reads b (refused refusal is_head) in
    (subst R (sym e) (reads_more received rest (refused refusal is_head) a.0 (λ z. cc)), a.1)
reports_all bytes received rest old new (Err Down) e a = a

pub reports : (known left : Option (List ℕ)) (received : List ℕ) (old new : Option (List ℕ)) (result : Result Message WireFault) → Consumes known left received
    → ReportsReceived received left old new result → IfSome known (λ bytes. ReportsInput bytes old new result)
reports None left received old new result c a = tt
reports (Some bytes) None received old new result c a = absurd c
reports (Some bytes) (Some rest) received old new result c a = reports_all bytes received rest old new result c a
