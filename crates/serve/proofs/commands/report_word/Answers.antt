use Rattle.std.proofs.Common.{◌≡◌, ◌∙◌, rules}
use Rattle.serve.specs.Service.{admin_word}
use Rattle.serve.proofs.TakenLemmas.{word_reported}
use Rattle.serve.proofs.commands.report_word.Goals as goal

pub returns-clause-ok : goal.returns-clause-ok
returns-clause-ok g c = λ clean sound one.
    let done = c.in_ok-answer.ensures.ok clean sound in
    let made : c.new.result ≡ admin_word c.in_ok-answer.answer = search rules in
    record {
      answer = c.in_ok-answer.answer;
      answered = (done 0).1;
      reports = record { refusal = c.reported_refusal.ensures; text = made ∙ word_reported (g.K.Keep.rows c.args.keep.now) c.args.asked.now c.in_ok-answer.answer (done 0).1 one };
      carries = λ at. (done at).0;
    }
