use Rattle.statements.proofs.Outside.{◌≡◌, pos, w64, None, to_z-of_z}
use Rattle.statements.specs.Finds.{size_of}
use Rattle.statements.specs.declared.versions.TheConstants.{ADD_VERSION}
use Rattle.statements.proofs.Codes.{moment_fits, serial_fits}
use Rattle.statements.proofs.Transactions.{writes_by, reports_by}
use Rattle.statements.proofs.VersionWrites.{add_version_does, add_version_finds}
use Rattle.statements.proofs.versions.add.Goals as goal

pub returns-clause-writes : goal.returns-clause-writes
returns-clause-writes g c =
    writes_by _ _ (c.write.ensures.same_reference, (λ clean inside. rw (c.signed_serial-serial.ensures.number, to_z-of_z w64 (pos c.args.serial) (serial_fits c.args.serial c.signed_serial-serial.ensures.most), c.seconds-created.ensures.number, to_z-of_z w64 (pos c.args.created) (moment_fits c.args.created c.seconds-created.ensures.most), c.signed-size.ensures, to_z-of_z w64 (pos c.args.size) (record { sfits = c.requires.size_fits })) at (rw (c.params-to_sql.ensures, c.params-to_sql-2.ensures, c.params-to_sql-3.ensures, c.params-to_sql-4.ensures, c.params-to_sql-5.ensures, c.params-to_sql-6.ensures, c.params-to_sql-7.ensures, c.get-number.ensures.value) at (c.write.ensures.runs clean inside))), c.write.ensures.survives)
    (λ count t holds. add_version_does _ _ count t holds c.args.org.now c.args.ws.now c.args.number c.args.serial c.args.lineage.now c.args.created c.args.size)

pub returns-clause-fresh : goal.returns-clause-fresh
returns-clause-fresh g c clean inside =
    reports_by (λ t. size_of c.args.org.now c.args.ws.now c.args.number t ≡ None) _ _ ADD_VERSION.now _ c.write.result
    (rw (c.signed_serial-serial.ensures.number, to_z-of_z w64 (pos c.args.serial) (serial_fits c.args.serial c.signed_serial-serial.ensures.most), c.seconds-created.ensures.number, to_z-of_z w64 (pos c.args.created) (moment_fits c.args.created c.seconds-created.ensures.most), c.signed-size.ensures, to_z-of_z w64 (pos c.args.size) (record { sfits = c.requires.size_fits })) at (rw (c.params-to_sql.ensures, c.params-to_sql-2.ensures, c.params-to_sql-3.ensures, c.params-to_sql-4.ensures, c.params-to_sql-5.ensures, c.params-to_sql-6.ensures, c.params-to_sql-7.ensures, c.get-number.ensures.value) at (c.write.ensures.runs clean inside)))
    (λ count t holds. add_version_finds _ _ count t holds c.args.org.now c.args.ws.now c.args.number c.args.serial c.args.lineage.now c.args.created c.args.size)
