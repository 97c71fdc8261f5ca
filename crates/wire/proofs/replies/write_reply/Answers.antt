use Rattle.std.proofs.Common.{◌≡◌, refl, ◌∙◌, ◌++◌}
use Rattle.std.proofs.lemmas.Result.{IfOk-at_ok}
use Rattle.httpdate.specs.Date.{unix_secs, date_text}
use Rattle.wire.specs.Replies.{text_with_date}
use Rattle.wire.proofs.LinkLemmas.{writes_same}
use Rattle.wire.proofs.ReplyLemmas.{one_reply}
use Rattle.wire.proofs.replies.write_reply.Goals as goal

pub returns-clause-text : goal.returns-clause-text
returns-clause-text g c =
    let date = c.unwrap-date.result in
    let second : unix_secs date ≡ c.args.now =
    IfOk-at_ok (λ d. unix_secs d ≡ c.seconds.result) c.unwrap-date.ensures c.from_unix_secs.ensures.value ∙ c.seconds.ensures.value in
    let made : text_with_date c.args.reply.now (date_text date) ≡ c.as_slice.result.now ++ c.sent.result.now =
    rw (c.as_slice.ensures.value, c.put_head.ensures, c.sent.ensures) refl in (
      text_with_date c.args.reply.now (date_text date),
      (date_text date, (date, second, refl), refl),
      writes_same _ _ (text_with_date c.args.reply.now (date_text date)) (c.as_slice.result.now ++ c.sent.result.now) c.write_both.result made c.write_both.ensures.text,
    )

pub returns-clause-any : goal.returns-clause-any
returns-clause-any g c text is =
    let here = returns-clause-text g c in
    writes_same _ _ text here.0 c.write_both.result (one_reply c.args.reply.now c.args.now text here.0 is here.1) here.2
