use Rattle.std.proofs.Common.{◌≡◌, ◌≤◌, length, take, vec_len, vec_capacity}
use Rattle.serve.proofs.service.run.Given as goal
use Rattle.machine.specs.StoreCalls.{Lasts}
use Rattle.serve.specs.Inner.Taking.{RunsTo}

-- the steps so far are run, with a reply each
abbrev pub invariant-steps : goal.invariant-steps
invariant-steps g l = record {
  count : l.taken ≡ l.step-index;
  len : vec_len l.replies ≡ l.step-index;
  room : length l.steps ≤ vec_capacity l.replies;
  lasts : Lasts g.K.Keep.clean g.K.Keep.sound g.K.Keep.keyed g.K.Keep.shielded l.fn.keep l.keep;
  ran : g.K.Keep.clean l.keep → g.K.Keep.sound l.fn.keep → RunsTo (take l.step-index l.steps) (g.K.Keep.rows l.fn.keep) (g.K.Keep.rows l.keep) l.replies.items;
}
