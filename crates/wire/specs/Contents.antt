-- The answer that a reply stands for: its body is empty, fixed, or held.
use Rattle.std.specs.Prelude.{ℕ, List, []}
use Rattle.wire.specs.declared.replies.Content.{Content}
use Rattle.wire.specs.declared.replies.Content.TheVariants.{Empty, Unavailable, BadSecret, Held}
use Rattle.wire.specs.declared.replies.Reply.TheInside.{Inside}
use Rattle.wire.specs.Replies.{Answer, down_text, secret_text}

abbrev pub content_bytes : Content → List ℕ
content_bytes Empty = []
content_bytes Unavailable = down_text
content_bytes BadSecret = secret_text
content_bytes (Held bytes) = bytes

abbrev pub answer_of : Inside → Answer
answer_of r = record { status = r.status; refusal = r.refusal; body = content_bytes r.content; is_head = r.is_head; is_text = r.is_text }
