use Rattle.std.proofs.Common.{◌≡◌, ◌<◌, length}
use Rattle.vx_page.specs.Sealed.{kept_of, seals_of}
use Rattle.vx_page.proofs.SealLaws.{place, read_is, get_is}
use Rattle.vx_page.proofs.seals.seal_of.Goals as goal

pub returns : goal.returns
returns c =
    let files = c.args.files.now in
    let lt : c.args.file < length files = place files c.args.file c.args.page c.requires in
    let seals : seals_of (kept_of files) c.args.file ≡ c.index-files-file.result.items = read_is files c.args.file c.index-files-file.result lt c.index-files-file.is in
    rw seals (get_is c.index-files-file.result.items c.args.page c.index.result.now (rw (← seals) c.requires) c.index.ensures)
