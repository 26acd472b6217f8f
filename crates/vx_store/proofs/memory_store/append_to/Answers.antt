use Rattle.std.proofs.Common.{length, ap}
use Rattle.vx_store.proofs.FileLaws.{put_back, put_longer, appended, OnErr-any}
use Rattle.vx_store.proofs.memory_store.append_to.Goals as goal

pub returns-in_err-extend_from_slice-in-Some-clause-err :
    goal.returns-in_err-extend_from_slice-in-Some-clause-err
returns-in_err-extend_from_slice-in-Some-clause-err c =
    OnErr-any c.from_residual.result (put_back c.args.files.now.items c.args.number c.index_mut.result.now c.in-Some.file c.extend_from_slice.new.self c.index_mut.ensures.value c.in-Some.is (c.in_err-extend_from_slice-in-Some.ensures).items)

pub returns-in_ok-extend_from_slice-in-Some-clause-ok :
    goal.returns-in_ok-extend_from_slice-in-Some-clause-ok
returns-in_ok-extend_from_slice-in-Some-clause-ok c =
    appended c.args.files.now.items c.args.number (length c.as_slice.result.now) c.index_mut.result.now c.in-Some.file c.extend_from_slice.new.self c.args.bytes.now c.requires c.index_mut.ensures.value c.in-Some.is (ap length c.as_slice.ensures.value) (c.in_ok-extend_from_slice-in-Some.ensures).items

pub returns-in_ok-extend_from_slice-in-Some-clause-set :
    goal.returns-in_ok-extend_from_slice-in-Some-clause-set
returns-in_ok-extend_from_slice-in-Some-clause-set c =
    put_longer c.args.files.now.items c.args.number c.index_mut.result.now c.in-Some.file c.extend_from_slice.new.self c.args.bytes.now c.requires c.index_mut.ensures.value c.in-Some.is (c.in_ok-extend_from_slice-in-Some.ensures).items
