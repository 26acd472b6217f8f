-- What the fields of a `PlainMember` mean. No public clause cites this module.
use Rattle.vx_world.specs.Plain.{Plain}
use Rattle.vx_world.specs.declared.plain.PlainMember.TheInside.{Inside}

-- the member that contracts see
abbrev pub member_seen : {L : Type 0} → Inside L → Plain
member_seen member = record {
  job = member.job;
  pools = member.tree;
  script = member.script.items;
  next = member.next;
  soft = member.soft;
  ended = member.ended;
}
