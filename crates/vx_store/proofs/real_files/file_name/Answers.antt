use Rattle.std.proofs.lemmas.List.{append_assoc}
use Rattle.vx_store.proofs.real_files.file_name.Goals as goal

pub returns : goal.returns
returns c = simp append_assoc c.format.ensures.ok
