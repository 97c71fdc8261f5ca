use Rattle.docs.proofs.Outside.{◌≡◌, true, false, codes, arith, bytes_eq}
use Rattle.docs.proofs.Heading.{with_serial, with_lineage, with_another}
use Rattle.docs.proofs.heads.Head.with.Goals as goal

pub returns-then-eq : goal.returns-then-eq
returns-then-eq c = λ value found part_is head_is.
    let same : bytes_eq c.args.name.now (codes "serial") ≡ true = grind arith in
    with_serial c.args.name.now c.args.part.now value found c.args.self c.serial.result same part_is head_is c.serial.ensures

pub returns-then-eq-2 : goal.returns-then-eq-2
returns-then-eq-2 c = λ value found part_is head_is.
    let same : bytes_eq c.args.name.now (codes "lineage") ≡ true = grind arith in
    with_lineage c.args.name.now c.args.part.now value found c.args.self c.lineage.result same part_is head_is c.lineage.ensures

pub returns-else-eq-2 : goal.returns-else-eq-2
returns-else-eq-2 c = λ value found part_is head_is.
    let no_serial : bytes_eq c.args.name.now (codes "serial") ≡ false = grind arith in
    let no_lineage : bytes_eq c.args.name.now (codes "lineage") ≡ false = grind arith in
    with_another c.args.name.now value found c.args.self no_serial no_lineage head_is
