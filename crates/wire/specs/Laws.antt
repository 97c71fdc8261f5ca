-- The laws of readings and of reply texts.
use Rattle.std.specs.Prelude.{◌≡◌, ◌≢◌, ℕ, List, ◌++◌}
use Rattle.wire.specs.Messages.{Reading, unfinished, Reads, AwaitsContinue}
use Rattle.wire.specs.Replies.{Answer, IsReplyText}

-- each string has at most one reading
abbrev pub OneReading : Type 0
OneReading = (bytes : List ℕ) (r s : Reading) → Reads bytes r → Reads bytes s → r ≡ s

-- once a string is read, bytes that follow change nothing
abbrev pub StaysRead : Type 0
StaysRead = (bytes more : List ℕ) (r : Reading) → Reads bytes r → r ≢ unfinished → Reads (bytes ++ more) r

-- where a `100 Continue` is awaited, it is awaited whatever follows
abbrev pub StaysAwaited : Type 0
StaysAwaited = (bytes more : List ℕ) → AwaitsContinue bytes → AwaitsContinue (bytes ++ more)

-- an answer has at most one text at a moment
abbrev pub OneText : Type 0
OneText = (answer : Answer) (moment : ℕ) (x y : List ℕ) → IsReplyText answer moment x → IsReplyText answer moment y → x ≡ y
