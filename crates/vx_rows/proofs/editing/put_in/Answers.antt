use Rattle.std.proofs.Common.{◌+◌, ◌/◌, ◌%◌, ◌≤◌, Bool, [], ◌∷◌, get_or, List, ℕ, length, sym, ap, ◌∙◌, subst, arith}
use Rattle.vx_raw.specs.Region.{written}
use Rattle.vx_records.specs.Record.{RecordsModel, record_at}
use Rattle.vx_rows.specs.Body.{is_null, seen, spelled}
use Rattle.vx_rows.specs.Layout.{place_of}
use Rattle.vx_rows.specs.Nulls.{SetsBit}
use Rattle.vx_rows.proofs.BodyLemmas.{puts_one, room_in_body}
use Rattle.vx_rows.proofs.EditLemmas.{written_twice}
use Rattle.vx_rows.proofs.editing.put_in.Goals as goal

pub write_in-requires-clause-inside : goal.write_in-requires-clause-inside
write_in-requires-clause-inside c =
    let room : place_of c.args.layout.now c.args.which + length (spelled (seen c.args.stored)) ≤ _ = room_in_body c.args.layout.now c.args.which (seen c.args.stored) c.requires.which c.requires.fits in
    let len = ap (λ (m : RecordsModel). m.len) c.write.ensures.set in
    omega (arith, room, len, c.requires.len, c.at.ensures)

pub returns : goal.returns
returns c =
    let fields = c.args.layout.now in
    let which = c.args.which in
    let s = seen c.args.stored in
    let old = (record_at c.args.records.now c.args.number).body in
    let byte = c.null_byte-byte.result in
    let marked = written old (which / 8) (byte ∷ []) in
    let bit : SetsBit (get_or old (which / 8) 0) byte (which % 8) (is_null s) =
    subst (λ (b : Bool). SetsBit (get_or old (which / 8) 0) byte (which % 8) b) c.is_null.ensures
    (subst (λ (l : List ℕ). SetsBit (get_or l (which / 8) 0) byte (which % 8) c.is_null.result) c.body.ensures.is c.null_byte-byte.ensures) in
    record {
      body = written marked c.at.result (spelled s);
      is = written_twice c.args.records.now c.write.new.self c.args.number marked c.requires.live c.write.ensures.set c.write_in.new.records c.at.result (spelled s) c.write_in.ensures;
      stores = puts_one fields old (written marked c.at.result (spelled s)) which s c.requires.which (ap length (sym c.body.ensures.is) ∙ (c.body.ensures.len ∙ c.requires.len)) c.requires.fits
          (record { byte = byte; bit = bit; is = ap (λ (at : ℕ). written marked at (spelled s)) c.at.ensures });
    }
