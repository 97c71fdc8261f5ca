use Rattle.std.proofs.Common.{◌≡◌, ◌%◌, ◌+◌, arith, refl}
use Rattle.lanes.proofs.LaneLemmas.{word_of}
use Rattle.lanes.proofs.rounds.next_word.Goals as goal

pub returns-clause-value : goal.returns-clause-value
returns-clause-value c j h =
    let at : c.args.place % 16 ≡ c.args.place = omega arith in
    let w = c.args.w.now in
    rw (
      c.add-word.ensures j h,
      c.add-2.ensures j h,
      c.add.ensures j h,
      c.small_sigma1-far.ensures j h,
      c.small_sigma0-near.ensures j h,
      at,
      word_of j w ((c.args.place + 14) % 16),
      word_of j w ((c.args.place + 9) % 16),
      word_of j w ((c.args.place + 1) % 16),
      word_of j w c.args.place,
    ) refl
