use Rattle.std.proofs.Common.{ap, sym, subst, ◌∙◌, IfSome, refl, Some, length, rules}
use Rattle.std.proofs.lemmas.Option.{slice_get_read}
use Rattle.sz_scope.specs.Blocks.{found}
use Rattle.sz_scope.specs.Sight.{seen_blocks}
use Rattle.sz_check_rules.specs.Names.{meaning_of}
use Rattle.sz_check_names.specs.Knowledge.{maybe_means_of, IsOfTypes, blocks_for}
use Rattle.sz_check_names.proofs.KeepingLemmas.{find_is, found_placed, place_within, place_means, record_means, typed_at, types_are}
use Rattle.sz_check_names.proofs.known.Known.find.Goals as goal

-- nothing that is seen has the name
pub returns-in_err-found : goal.returns-in_err-found
returns-in_err-found c =
    let k = c.self.inside in
    let asked = c.in_err-found.ensures.value
    ∙ (λ i. found ((c.as_str.ensures.value ∙ c.text.ensures.value) i)
    (seen_blocks (c.sight_for-sight.ensures.value i) k.scopes)) in
    record {
      value = ap maybe_means_of c.from_residual.ensures
          ∙ find_is k.types k.meanings.items c.args.name.now.text k.locals c.args.site k.scopes k.sight
          c.self.invariant _ asked
          ∙ ap (λ stored. meaning_of c.args.name.now.text (blocks_for stored c.args.site)) c.self.view_is;
      types = subst (λ o. IfSome o (IsOfTypes c.args.self.now.outside.types)) (sym c.from_residual.ensures) tt;
    }

-- the place of what is found is in the list
pub index-requires : goal.index-requires
index-requires c =
    let k = c.self.inside in
    let h = found_placed k.types k.meanings.items c.as_str.result.now c.sight_for-sight.result k.scopes k.sight
    c.self.invariant c.in_ok-found.found.now c.in_ok-found.ensures.value in
    let within = place_within k.types k.meanings.items c.in_ok-found.found.now h c.in-Some.place
    (sym c.place_of.ensures.value ∙ c.in-Some.is) in
    search (rules, within)

-- a type that is kept there is one of those that are known
pub means-requires : goal.means-requires
means-requires c =
    let k = c.self.inside in
    let h = found_placed k.types k.meanings.items c.as_str.result.now c.sight_for-sight.result k.scopes k.sight
    c.self.invariant c.in_ok-found.found.now c.in_ok-found.ensures.value in
    let placed = sym c.place_of.ensures.value ∙ c.in-Some.is in
    let within = place_within k.types k.meanings.items c.in_ok-found.found.now h c.in-Some.place placed in
    let read = slice_get_read k.meanings.items _ c.in-Some.place c.index.result.now refl within c.index.ensures in
    let typed = typed_at (length k.types) k.meanings.items (Some c.in-Some.place)
    c.index.result.now c.self.invariant.typed read in
    search (rules, typed)

-- and what is kept there is what the name stands for
pub returns-in-Some : goal.returns-in-Some
returns-in-Some c =
    let k = c.self.inside in
    let asked = c.in_ok-found.ensures.value
    ∙ (λ i. found ((c.as_str.ensures.value ∙ c.text.ensures.value) i)
    (seen_blocks (c.sight_for-sight.ensures.value i) k.scopes)) in
    let h = found_placed k.types k.meanings.items c.as_str.result.now c.sight_for-sight.result k.scopes k.sight
    c.self.invariant c.in_ok-found.found.now c.in_ok-found.ensures.value in
    let placed = sym c.place_of.ensures.value ∙ c.in-Some.is in
    let within = place_within k.types k.meanings.items c.in_ok-found.found.now h c.in-Some.place placed in
    let read = slice_get_read k.meanings.items _ c.in-Some.place c.index.result.now refl within c.index.ensures in
    record {
      value = ap (λ m. Some m) (c.means.ensures.value
          ∙ place_means k.types k.meanings.items c.in_ok-found.found.now c.in-Some.place c.index.result.now placed read)
          ∙ find_is k.types k.meanings.items c.args.name.now.text k.locals c.args.site k.scopes k.sight
          c.self.invariant _ asked
          ∙ ap (λ stored. meaning_of c.args.name.now.text (blocks_for stored c.args.site)) c.self.view_is;
      types = subst (λ ts. IsOfTypes ts c.means.result)
          (types_are k.types k.meanings.items k.scopes k.sight k.locals c.args.self.now c.self.view_is)
          c.means.ensures.types;
    }

-- the record is kept without a place
pub returns-in-None : goal.returns-in-None
returns-in-None c =
    let k = c.self.inside in
    let asked = c.in_ok-found.ensures.value
    ∙ (λ i. found ((c.as_str.ensures.value ∙ c.text.ensures.value) i)
    (seen_blocks (c.sight_for-sight.ensures.value i) k.scopes)) in
    record {
      value = ap (λ m. Some m) (record_means k.types k.meanings.items c.in_ok-found.found.now
          (sym c.place_of.ensures.value ∙ c.in-None.is)) ∙ find_is k.types k.meanings.items c.args.name.now.text
          k.locals c.args.site k.scopes k.sight c.self.invariant _ asked
          ∙ ap (λ stored. meaning_of c.args.name.now.text (blocks_for stored c.args.site)) c.self.view_is;
      types = tt;
    }
