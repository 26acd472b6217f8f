use Rattle.std.proofs.Common.{◌+◌, ◌≤◌, length, arith}
use Rattle.vx_rows.specs.Body.{seen, spelled}
use Rattle.vx_rows.specs.Layout.{place_of}
use Rattle.vx_rows.proofs.BodyLemmas.{room_for_stored}
use Rattle.vx_rows.proofs.body.put_bytes.Goals as goal

pub write_stored-requires-clause-inside : goal.write_stored-requires-clause-inside
write_stored-requires-clause-inside c =
    let room : place_of c.args.layout.now c.args.which + length (spelled (seen c.args.stored)) ≤ length c.write.new.body = room_for_stored c.args.layout.now c.args.body.now c.write.new.body c.args.which c.null_byte-byte.result (seen c.args.stored) c.requires.which c.requires.body c.requires.fits c.write.ensures.is in
    omega (arith, room, c.at.ensures)
