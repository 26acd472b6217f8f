-- What the fields of a `World` mean. No public clause cites this module.
use Rattle.vx_world.specs.Scenes.{Scene}
use Rattle.vx_world.specs.declared.running.World.TheInside.{Inside}

-- the world that contracts see
abbrev pub scene_of : {L M : Type 0} → Inside L M → Scene M
scene_of world = record {
  books = world.arb;
  members = world.members.items;
  request = world.request;
}
