use Rattle.std.proofs.Common.{◌≡◌, ◌+◌, ◌-◌, ◌*◌, arith}
use Rattle.lanes.proofs.BlockLemmas.{block_whole, block_tail}
use Rattle.lanes.proofs.blocks.block.Goals as goal

pub returns-then-n-whole-clause-block : goal.returns-then-n-whole-clause-block
returns-then-n-whole-clause-block c few =
    let n = c.args.n in
    let width : 64 * n + 64 - 64 * n ≡ 64 = omega arith in
    let at : 64 * n ≡ n * 64 = omega arith in
    rw (width, at) (block_whole c.args.text.now n (omega arith))

pub returns-then-n-whole-2-clause-block : goal.returns-then-n-whole-2-clause-block
returns-then-n-whole-2-clause-block c few =
    block_tail c.args.text.now c.args.tail.now c.args.n 0 c.requires few (omega arith)

pub returns-clause-block : goal.returns-clause-block
returns-clause-block c few =
    block_tail c.args.text.now c.args.tail.now c.args.n 64 c.requires few (omega arith)
