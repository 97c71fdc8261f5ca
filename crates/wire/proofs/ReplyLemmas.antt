-- An answer has one text at a moment, since a date is determined by its second.
use Rattle.std.proofs.Common.{◌≡◌, ℕ, List, sym, ap, ◌∙◌}
use Rattle.httpdate.specs.Text.{imf_fixdate}
use Rattle.httpdate.proofs.Theorems.{unix_secs_injective}
use Rattle.wire.specs.Replies.{Answer, IsDateOf, IsReplyText, text_with_date}

pub one_date : (moment : ℕ) (x y : List ℕ) → IsDateOf moment x → IsDateOf moment y → x ≡ y
one_date moment x y p q = p.2 ∙ ap imf_fixdate (unix_secs_injective p.0 q.0 (p.1 ∙ sym q.1)) ∙ sym q.2

pub one_reply : (answer : Answer) (moment : ℕ) (x y : List ℕ) → IsReplyText answer moment x → IsReplyText answer moment y → x ≡ y
one_reply answer moment x y p q = p.2 ∙ ap (text_with_date answer) (one_date moment p.0 q.0 p.1 q.1) ∙ sym q.2
