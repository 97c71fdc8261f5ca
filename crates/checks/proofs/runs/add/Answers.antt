use Rattle.checks.proofs.Outside.{◌∙◌, ◌||◌, ap, true, string_bytes, bytes_eq, contains_text, btree_set_updates_text}
use Rattle.checks.proofs.RunKeys.{either}
use Rattle.checks.proofs.runs.add.Goals as goal

-- the set has the key besides those that it had
pub returns-clause-added : goal.returns-clause-added
returns-clause-added c = λ q.
    btree_set_updates_text (string_bytes c.in_ok-key.key) c.args.seen.now c.insert.new.self true c.in_ok-fresh.ensures.updates q
    ∙ either (bytes_eq (string_bytes c.in_ok-key.key) q) (contains_text c.args.seen.now q)
    ∙ ap (λ k. bytes_eq k q || contains_text c.args.seen.now q) c.in_ok-key.ensures.ok
