-- What the fields of an `Arb` mean. No public clause cites this module.
use Rattle.vx_arb.specs.Books.{Books}
use Rattle.vx_arb.specs.declared.arbiter.Arb.TheInside.{Inside}

-- the books that contracts see
abbrev pub books_of : {L : Type 0} → Inside L → Books
books_of arb = record {
  total = arb.total;
  free = arb.free;
  log = arb.log.items;
  live = arb.live.items;
  admitted = arb.admitted.items;
  requests = arb.requests;
  standing = arb.standing;
  spare = arb.spare;
}
