use Rattle.std.proofs.Common.{◌≡◌, ◌<◌, suc, ◌-◌, sym, ap, subst, ◌∙◌, length, reverse, refl, rules, arith}
use Rattle.std.proofs.lemmas.Option.{slice_get_read}
use Rattle.sz_scope.specs.Blocks.{with_declared}
use Rattle.sz_scope.proofs.BlocksLemmas.{length_blocks}
use Rattle.sz_scope.proofs.LookupLemmas.{place_within, sound_after, blocks_after}
use Rattle.sz_scope.proofs.scopes.Scopes.declare.Goals as goal

-- a name that is known has a newest entry
pub is_twice-requires-clause-within : goal.is_twice-requires-clause-within
is_twice-requires-clause-within c = λ place p.
    subst (λ l. place < length l) (sym c.as_slice-2.ensures.value)
    (place_within c.self.inside.names c.self.inside.newest.items c.self.inside.entries.items c.self.inside.depth
    c.self.invariant c.args.name.now place (sym c.find-known.ensures.value ∙ p))

-- so has the name once it is added
pub index-hidden-requires : goal.index-hidden-requires
index-hidden-requires c =
    let sound =
    c.place_for.ensures.kept.sound (reverse c.self.inside.entries.items) c.self.inside.depth c.self.invariant in
    let within = place_within c.place_for.new.names c.place_for.new.newest.items c.self.inside.entries.items
    c.self.inside.depth sound c.args.name.now c.in_ok-name.name (c.in_ok-name.ensures.place) in
    search (rules, within)

pub push_entry-requires : goal.push_entry-requires
push_entry-requires c =
    let sound =
    c.place_for.ensures.kept.sound (reverse c.self.inside.entries.items) c.self.inside.depth c.self.invariant in
    record {
      within = place_within c.place_for.new.names c.place_for.new.newest.items c.self.inside.entries.items
          c.self.inside.depth sound c.args.name.now c.in_ok-name.name (c.in_ok-name.ensures.place);
    }

-- the entry is the newest of its name, and stands in the innermost block
pub invariant_of-self-2 : goal.invariant_of-self-2
invariant_of-self-2 c =
    let sound =
    c.place_for.ensures.kept.sound (reverse c.self.inside.entries.items) c.self.inside.depth c.self.invariant in
    let within = place_within c.place_for.new.names c.place_for.new.newest.items c.self.inside.entries.items
    c.self.inside.depth sound c.args.name.now c.in_ok-name.name (c.in_ok-name.ensures.place) in
    let there = slice_get_read c.place_for.new.newest.items (length c.place_for.new.newest.items) c.in_ok-name.name
    c.index-hidden.result.now refl within c.index-hidden.ensures in
    let count = length_blocks c.self.inside.names (reverse c.self.inside.entries.items) c.self.inside.depth in
    let counted : c.self.inside.depth ≡ suc (c.self.inside.depth - 1) =
    omega (arith, count, ap (λ l. length l) c.self.view_is, c.requires.within) in
    sound_after c.place_for.new.names c.args.name.now c.place_for.new.newest.items c.self.inside.entries.items
    c.self.inside.depth sound c.in_ok-name.name (c.in_ok-name.ensures.place)
    (c.self.inside.depth - 1) counted c.args.what c.index-hidden.result.now there
    c.push_entry.new.newest.items c.push_entry.new.entries.items (c.in_ok-push_entry.ensures.newest)
    (c.in_ok-push_entry.ensures.entries)

pub returns-clause-ok : goal.returns-clause-ok
returns-clause-ok c =
    let sound =
    c.place_for.ensures.kept.sound (reverse c.self.inside.entries.items) c.self.inside.depth c.self.invariant in
    let within = place_within c.place_for.new.names c.place_for.new.newest.items c.self.inside.entries.items
    c.self.inside.depth sound c.args.name.now c.in_ok-name.name (c.in_ok-name.ensures.place) in
    let there = slice_get_read c.place_for.new.newest.items (length c.place_for.new.newest.items) c.in_ok-name.name
    c.index-hidden.result.now refl within c.index-hidden.ensures in
    let count = length_blocks c.self.inside.names (reverse c.self.inside.entries.items) c.self.inside.depth in
    let counted : c.self.inside.depth ≡ suc (c.self.inside.depth - 1) =
    omega (arith, count, ap (λ l. length l) c.self.view_is, c.requires.within) in
    blocks_after c.place_for.new.names c.args.name.now c.place_for.new.newest.items c.self.inside.entries.items
    c.self.inside.depth sound c.in_ok-name.name (c.in_ok-name.ensures.place)
    (c.self.inside.depth - 1) counted c.args.what c.index-hidden.result.now there
    c.push_entry.new.newest.items c.push_entry.new.entries.items (c.in_ok-push_entry.ensures.newest)
    (c.in_ok-push_entry.ensures.entries) ∙ ap (with_declared (record { name = c.args.name.now; what = c.args.what }))
    (c.place_for.ensures.kept.blocks (reverse c.self.inside.entries.items) c.self.inside.depth c.self.invariant
    ∙ c.self.view_is)
