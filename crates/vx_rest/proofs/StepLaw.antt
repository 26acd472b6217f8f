-- A move lets the query stand for no more than before.
use Rattle.std.proofs.Common.{◌≡◌, ℕ, List, ◌++◌, sym, ap, ◌∙◌, inl, inr, append_assoc}
use Rattle.vx_value.specs.Row.{Row}
use Rattle.vx_expr.specs.declared.outcome.Fault.{Fault}
use Rattle.vx_plan.specs.declared.widths.Width.{Width}
use Rattle.vx_plan.specs.declared.widths.Width.TheVariants.{One, Many}
use Rattle.vx_plan.specs.Tree.{Tree, values, over, join, Own, filter, project, aggregation, order, topn, limit, exchange, id_of}
use Rattle.vx_plan.specs.Width.{width_of}
use Rattle.vx_meaning.specs.Lines.{spread}
use Rattle.vx_rest.specs.Lists.{Lists, ahead}
use Rattle.vx_rest.specs.Held.{Holding}
use Rattle.vx_rest.specs.Rest.{Comes, Rest, Stands}
use Rattle.vx_rest.specs.RestFaulty.{grouped_from, begun_source, faulty_source, Starts, RestBegun, RestFaulty}
use Rattle.vx_rest.specs.Fits.{Passed, HandsPass, Fits, Moved}

-- the rows taken out of a hand, that hand and what comes behind it are the hand before, what was put in and what comes
passes : (taken new old put given : List Row) → taken ++ new ≡ old ++ put → taken ++ (new ++ given) ≡ old ++ (put ++ given)
passes taken new old put given h = sym (append_assoc taken new given) ∙ ap (λ l. l ++ given) h ∙ append_assoc old put given

module _ (hand hand_new taken put : Lists) (pass : (driver : ℕ) → taken driver ++ hand_new driver ≡ hand driver ++ put driver) (Give Give_new : Lists → Type 0) (back : (given : Lists) → Give_new given → Give (ahead put given)) where
  Comes-back : (lists : Lists) → Comes hand_new Give_new lists → Comes hand Give (ahead taken lists)
  Comes-back lists h = (ahead put h.0, back h.0 h.1, λ d. ap (λ l. taken d ++ l) (h.2 d) ∙ passes (taken d) (hand_new d) (hand d) (put d) (h.0 d) (pass d))

  Starts-back : (lists : Lists) → Starts hand_new Give_new lists → Starts hand Give (ahead taken lists)
  Starts-back lists h = (ahead put h.0, back h.0 h.1, λ d. ((h.2 d).0, append_assoc (taken d) (lists d) (h.2 d).0 ∙ ap (λ l. taken d ++ l) (h.2 d).1 ∙ passes (taken d) (hand_new d) (hand d) (put d) (h.0 d) (pass d)))

module _ (drivers : ℕ) (old new : Holding) (m : Passed) (hands : HandsPass m old new) where
  pub Rest-back : (t : Tree) → Fits drivers old new m t → (lists : Lists) → Rest drivers new t lists → Rest drivers old t (ahead (m.taken (id_of t)) lists)
  Rest-back (values id kinds all parallel) fits lists h = Comes-back (old.hand id) (new.hand id) (m.taken id) (m.put id) (hands id) _ _ fits lists h
  Rest-back (over id own source) fits lists h =
      Comes-back (old.hand id) (new.hand id) (m.taken id) (m.put id) (hands id) _ _
      (λ given r. record { more = ahead (m.taken (id_of source)) r.more; from = Rest-back source fits.0 r.more r.from; gives = fits.1.whole r.more given r.gives }) lists h
  Rest-back (join id kind left_keys right_keys left right) fits lists h =
      Comes-back (old.hand id) (new.hand id) (m.taken id) (m.put id) (hands id) _ _
      (λ given r. record {
        left = ahead (m.taken (id_of left)) r.left;
        from_left = Rest-back left fits.0 r.left r.from_left;
        right = ahead (m.taken (id_of right)) r.right;
        from_right = Rest-back right fits.1 r.right r.from_right;
        gives = fits.2.whole r.left r.right given r.gives;
      }) lists h

  grouped_from-back : (w : Width) (whole whole_new begun begun_new : Lists → Type 0) (taken : Lists) → ((lists : Lists) → whole_new lists → whole (ahead taken lists)) → ((lists : Lists) → begun_new lists → begun (ahead taken lists))
      → (lists : Lists) → grouped_from w whole_new begun_new lists → grouped_from w whole begun (ahead taken lists)
  grouped_from-back One whole whole_new begun begun_new taken p q lists h = p lists h
  grouped_from-back Many whole whole_new begun begun_new taken p q lists h = q lists h

  source-back : (own : Own) (w : Width) (whole whole_new begun begun_new : Lists → Type 0) (taken : Lists) → ((lists : Lists) → whole_new lists → whole (ahead taken lists)) → ((lists : Lists) → begun_new lists → begun (ahead taken lists))
      → (lists : Lists) → begun_source own w whole_new begun_new lists → begun_source own w whole begun (ahead taken lists)
  source-back (filter e) w whole whole_new begun begun_new taken p q lists h = q lists h
  source-back (project es) w whole whole_new begun begun_new taken p q lists h = q lists h
  source-back (aggregation step keys aggregates) w whole whole_new begun begun_new taken p q lists h = grouped_from-back (spread step w) whole whole_new begun begun_new taken p q lists h
  source-back (order keys) w whole whole_new begun begun_new taken p q lists h = p lists h
  source-back (topn count keys) w whole whole_new begun begun_new taken p q lists h = p lists h
  source-back (limit offset count) w whole whole_new begun begun_new taken p q lists h = q lists h
  source-back (exchange kind keys) w whole whole_new begun begun_new taken p q lists h = q lists h

  faulty-back : (own : Own) (whole whole_new begun begun_new : Lists → Type 0) (taken : Lists) → ((lists : Lists) → whole_new lists → whole (ahead taken lists)) → ((lists : Lists) → begun_new lists → begun (ahead taken lists))
      → (lists : Lists) → faulty_source own whole_new begun_new lists → faulty_source own whole begun (ahead taken lists)
  faulty-back (filter e) whole whole_new begun begun_new taken p q lists h = q lists h
  faulty-back (project es) whole whole_new begun begun_new taken p q lists h = q lists h
  faulty-back (aggregation step keys aggregates) whole whole_new begun begun_new taken p q lists h = p lists h
  faulty-back (order keys) whole whole_new begun begun_new taken p q lists h = q lists h
  faulty-back (topn count keys) whole whole_new begun begun_new taken p q lists h = q lists h
  faulty-back (limit offset count) whole whole_new begun begun_new taken p q lists h = q lists h
  faulty-back (exchange kind keys) whole whole_new begun begun_new taken p q lists h = q lists h

  pub RestBegun-back : (t : Tree) → Fits drivers old new m t → (lists : Lists) → RestBegun drivers new t lists → RestBegun drivers old t (ahead (m.taken (id_of t)) lists)
  RestBegun-back (values id kinds all parallel) fits lists h = Starts-back (old.hand id) (new.hand id) (m.taken id) (m.put id) (hands id) _ _ fits lists h
  RestBegun-back (over id own source) fits lists h =
      Starts-back (old.hand id) (new.hand id) (m.taken id) (m.put id) (hands id) _ _
      (λ given r. record {
        more = ahead (m.taken (id_of source)) r.more;
        from = source-back own (width_of source) (Rest drivers old source) (Rest drivers new source) (RestBegun drivers old source) (RestBegun drivers new source) (m.taken (id_of source)) (Rest-back source fits.0) (RestBegun-back source fits.0) r.more r.from;
        gives = fits.1.begun r.more given r.gives;
      }) lists h
  RestBegun-back (join id kind left_keys right_keys left right) fits lists (inl h) =
      inl (Starts-back (old.hand id) (new.hand id) (m.taken id) (m.put id) (hands id) _ _
      (λ given r. record {
        left = ahead (m.taken (id_of left)) r.left;
        from_left = Rest-back left fits.0 r.left r.from_left;
        right = ahead (m.taken (id_of right)) r.right;
        from_right = Rest-back right fits.1 r.right r.from_right;
        gives = fits.2.whole r.left r.right given r.gives;
      }) lists h)
  RestBegun-back (join id kind left_keys right_keys left right) fits lists (inr h) =
      inr (Starts-back (old.hand id) (new.hand id) (m.taken id) (m.put id) (hands id) _ _
      (λ given r. record {
        left = ahead (m.taken (id_of left)) r.left;
        from_left = RestBegun-back left fits.0 r.left r.from_left;
        right = ahead (m.taken (id_of right)) r.right;
        from_right = Rest-back right fits.1 r.right r.from_right;
        gives = fits.2.begun r.left r.right given r.gives;
      }) lists h)

  pub RestFaulty-back : (t : Tree) → Fits drivers old new m t → (at : ℕ) (row : Row) (code : Fault) → RestFaulty drivers new t at row code → RestFaulty drivers old t at row code
  RestFaulty-back (values id kinds all parallel) fits at row code h = h
  RestFaulty-back (over id own source) fits at row code (inl h) =
      inl (
        h.0,
        record {
          more = ahead (m.taken (id_of source)) h.1.more;
          from = faulty-back own (Rest drivers old source) (Rest drivers new source) (RestBegun drivers old source) (RestBegun drivers new source) (m.taken (id_of source)) (Rest-back source fits.0) (RestBegun-back source fits.0) h.1.more h.1.from;
          driver = h.1.driver;
          within = h.1.within;
          meets = fits.1.faults h.1.driver h.1.within (h.1.more h.1.driver) row code h.1.meets;
        },
      )
  RestFaulty-back (over id own source) fits at row code (inr h) = inr (RestFaulty-back source fits.0 at row code h)
  RestFaulty-back (join id kind left_keys right_keys left right) fits at row code (inl h) = inl (RestFaulty-back left fits.0 at row code h)
  RestFaulty-back (join id kind left_keys right_keys left right) fits at row code (inr h) = inr (RestFaulty-back right fits.1 at row code h)

pub Stands-back : (drivers : ℕ) (t : Tree) (m : Passed) (old new : Holding) → Moved drivers t m old new → (rows : List Row) → Stands drivers new t rows → Stands drivers old t rows
Stands-back drivers t m old new moved rows h = record {
  lists = ahead (m.taken (id_of t)) h.lists;
  rest = Rest-back drivers old new m moved.hands t moved.fits h.lists h.rest;
  is = h.is ∙ ap (λ l. l ++ h.lists 0) moved.out ∙ append_assoc old.out (m.taken (id_of t) 0) (h.lists 0);
}
