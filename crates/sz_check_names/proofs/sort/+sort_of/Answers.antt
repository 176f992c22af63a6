use Rattle.std.proofs.Common.{sym, ap, ◌∙◌, length, refl, arith}
use Rattle.std.proofs.lemmas.Bool.{ltb-false}
use Rattle.std.proofs.lemmas.Option.{slice_get_read}
use Rattle.sz_check_names.specs.Sorts.{sort_at}
use Rattle.sz_check_names.specs.Written.{shape_in, shapes_of}
use Rattle.sz_check_names.proofs.WrittenLemmas.{named_is, named_none, depths_less}
use Rattle.sz_check_names.proofs.sort.+sort_of.Goals as goal

-- a name goes on among the types before it
pub sort_of-requires-in-Some : goal.sort_of-requires-in-Some
sort_of-requires-in-Some t c =
    let types = c.args.types.now in
    let read = slice_get_read types (length types) c.in-Named.number c.in-Some.named.now refl
    c.in-Some.ensures.lookup.3.0 c.in-Some.ensures.lookup.1 in
    let less = depths_less types c.in-Named.number c.in-Some.named.now read in
    (omega (arith, less, c.decreases), tt)

pub returns-in-Some : goal.returns-in-Some
returns-in-Some t c =
    let types = c.args.types.now in
    let read = slice_get_read types (length types) c.in-Named.number c.in-Some.named.now refl
    c.in-Some.ensures.lookup.3.0 c.in-Some.ensures.lookup.1 in
    let same = named_is types c.in-Named.number c.in-Some.named.now read
    ∙ sym (ap (shape_in (shapes_of types)) c.in-Named.is) in
    record { value = c.sort_of-in-Some.ensures.value ∙ ap (sort_at c.args.inside) same }

-- a number that no type has
pub returns-in-None : goal.returns-in-None
returns-in-None t c =
    let types = c.args.types.now in
    let over = ltb-false c.in-Named.number (length types) (sym c.in-None.ensures.lookup.0) in
    record {
      value = ap (sort_at c.args.inside)
          (sym (ap (shape_in (shapes_of types)) c.in-Named.is ∙ named_none types c.in-Named.number over));
    }
