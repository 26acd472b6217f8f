-- Strings that are too long, list by list and member by member.
use Rattle.std.proofs.Common.{◌≡◌, ℕ, ◌+◌, ◌<◌, ◌≤◌, List, [], ◌∷◌, length, drop, get_or, Bool, true, false, cond, ◌||◌, Option, Some, None, option_map, unwrap_or, String, Vec, BTreeMap, Global, string_bytes, nat_cmp, refl, ap, sym, ◌∙◌}
use Rattle.std.specs.BTreeMap.{is_at}
use Rattle.std.specs.Cmp.Lexicographic.{slice_cmp}
use Rattle.std.specs.Map.{lookup, remove_entry}
use Rattle.std.proofs.lemmas.List.{at_drop_more, at_drop_all}
use Rattle.serde_json.specs.Data.{Data, object}
use Rattle.serde_json.specs.Find.{get_member}
use Rattle.serde_json.specs.View.{view, items_view, members_view}
use Rattle.serde_json.proofs.Views.{view-Array, view-Object, view-lookup}
use Rattle.serde_json.specs.declared.value.Value.{Value, Array, Object}
use Rattle.vx_json.specs.Place.{field}
use Rattle.vx_json.specs.Plans.{has_long, has_long_item, has_long_member}

pub has_long-Array : (values : Vec Value Global) → has_long (view (Array values)) ≡ has_long_item (items_view values.items)
has_long-Array values = ap has_long (view-Array values)

pub has_long-Object : (fields : BTreeMap (String Global) Value) → has_long (view (Object fields)) ≡ has_long_member (members_view fields.entries)
has_long-Object fields = ap has_long (view-Object fields)

abbrev pub long_from : List Value → Bool
long_from values = has_long_item (items_view values)

-- an item that isn't too long leaves the rest
pub item-short : (values : List Value) (i : ℕ) (x : Value) → i < length values → x ≡ get_or values i x → has_long (view x) ≡ false → long_from (drop (i + 1) values) ≡ long_from (drop i values)
item-short values i x within is short = sym (at_drop_more long_from values i x within ∙ ap (λ y. has_long (view y) || long_from (drop (i + 1) values)) (sym is) ∙ rw short)

pub item-long : (values : List Value) (i : ℕ) (x : Value) → i < length values → x ≡ get_or values i x → has_long (view x) ≡ true → long_from (drop i values) ≡ true
item-long values i x within is long = at_drop_more long_from values i x within ∙ ap (λ y. has_long (view y) || long_from (drop (i + 1) values)) (sym is) ∙ rw long

pub items-done : (values : List Value) (i : ℕ) → length values ≤ i → long_from (drop i values) ≡ false
items-done values i past = at_drop_all long_from values i past

pub ruleset long = (has_long-Array, has_long-Object, item-short, item-long, items-done)

-- ---- noted on the way, value by value

or_none : (a : Bool) → (a || false) ≡ a
or_none true = refl
or_none false = refl

or_then : (a b d : Bool) → ((a || b) || d) ≡ (a || (b || d))
or_then true b d = refl
or_then false b d = refl

or_swapped : (a b : Bool) → (a || b) ≡ (b || a)
or_swapped true true = refl
or_swapped true false = refl
or_swapped false true = refl
or_swapped false false = refl

-- the next of a list
pub noted-next : (before now : Bool) (rest later : List Value) (x : Value) → rest ≡ x ∷ later → now ≡ (before || has_long (view x)) → (now || long_from later) ≡ (before || long_from rest)
noted-next before now rest later x is noted =
    ap (λ (b : Bool). b || long_from later) noted ∙ (or_then before (has_long (view x)) (long_from later) ∙ ap (λ (l : List Value). before || long_from l) (sym is))

pub noted-all : (now all : Bool) (rest : List Value) → rest ≡ [] → (now || long_from rest) ≡ all → now ≡ all
noted-all now all rest none noted = sym (or_none now) ∙ (ap (λ (l : List Value). now || long_from l) (sym none) ∙ noted)

-- a member that is taken out of an object, and the others
taken-long : (test : String Global → Bool) (es : List (String Global × Value)) (found : Value) → lookup test es ≡ Some found → has_long_member (members_view es) ≡ (has_long_member (members_view (remove_entry test es)) || has_long (view found))
taken-long test [] found is = absurd (cc)
taken-long test (e ∷ es) found is = step (test e.0) refl (taken-long test es found)
  where
    step : (b : Bool) → test e.0 ≡ b → (lookup test es ≡ Some found → has_long_member (members_view es) ≡ (has_long_member (members_view (remove_entry test es)) || has_long (view found))) → has_long_member (members_view (e ∷ es)) ≡ (has_long_member (members_view (remove_entry test (e ∷ es))) || has_long (view found))
    step true so others =
        let own : Some e.1 ≡ Some found = ap (λ (b : Bool). cond b (Some e.1) (lookup test es)) (sym so) ∙ is in
        let value : e.1 ≡ found = cc in
        let rest : remove_entry test (e ∷ es) ≡ es = ap (λ (b : Bool). cond b es (e ∷ remove_entry test es)) so in
        or_swapped (has_long (view e.1)) (has_long_member (members_view es))
        ∙ (ap (λ (x : Value). has_long_member (members_view es) || has_long (view x)) value
        ∙ ap (λ (l : List (String Global × Value)). has_long_member (members_view l) || has_long (view found)) (sym rest))
    step false so others =
        let below : lookup test es ≡ Some found = sym (ap (λ (b : Bool). cond b (Some e.1) (lookup test es)) so) ∙ is in
        let rest : remove_entry test (e ∷ es) ≡ e ∷ remove_entry test es = ap (λ (b : Bool). cond b es (e ∷ remove_entry test es)) so in
        ap (λ (b : Bool). has_long (view e.1) || b) (others below)
        ∙ (sym (or_then (has_long (view e.1)) (has_long_member (members_view (remove_entry test es))) (has_long (view found)))
        ∙ ap (λ (l : List (String Global × Value)). has_long_member (members_view l) || has_long (view found)) (sym rest))

pub noted-taken : (test : String Global → Bool) (es now : List (String Global × Value)) (found : Value) (before after : Bool) → Some found ≡ lookup test es → now ≡ remove_entry test es → after ≡ (before || has_long_member (members_view now)) → (after || has_long (view found)) ≡ (before || has_long_member (members_view es))
noted-taken test es now found before after is rest noted =
    ap (λ (b : Bool). b || has_long (view found)) noted
    ∙ (or_then before (has_long_member (members_view now)) (has_long (view found))
    ∙ ap (λ (b : Bool). before || b) (ap (λ (l : List (String Global × Value)). has_long_member (members_view l) || has_long (view found)) rest ∙ sym (taken-long test es found (sym is))))

-- ---- the member itself

pub taken-is : (name : List ℕ) (es : List (String Global × Value)) (found : Value) → Some found ≡ lookup (is_at (λ k. slice_cmp nat_cmp name (string_bytes k))) es → view found ≡ field name (object (members_view es))
taken-is name es found is =
    let there : get_member name (members_view es) ≡ Some (view found) = sym (view-lookup name es) ∙ ap (option_map view) (sym is) in
    sym (ap (λ (o : Option Data). unwrap_or o (object (members_view es))) there)

pub taken-absent : (name : List ℕ) (es : List (String Global × Value)) → None ≡ lookup (is_at (λ k. slice_cmp nat_cmp name (string_bytes k))) es → object (members_view es) ≡ field name (object (members_view es))
taken-absent name es is =
    let there : get_member name (members_view es) ≡ None = sym (view-lookup name es) ∙ ap (option_map view) (sym is) in
    sym (ap (λ (o : Option Data). unwrap_or o (object (members_view es))) there)
