use Rattle.std.proofs.Common.{◌≡◌, pos, ◌++◌, ◌∷◌, [], List, Bool, not, eqb, map, take, get_or, to_z, of_z, w64, rules, sym, ap, ◌∙◌, append_assoc}
use Rattle.std.proofs.lemmas.List.{append-nil, map-append}
use Rattle.sz_value.specs.Data as values
use Rattle.sz_value.specs.Data.{Datum}
use Rattle.sz_value.specs.Seen.{seen}
use Rattle.sz_proto.specs.Elements.{truths_of}
use Rattle.sz_proto.proofs.ElementLemmas.{truths_more, nonzero}
use Rattle.sz_proto.proofs.elements.push_truths.Goals as goal

pub loop-number-init : goal.loop-number-init
unfolding truths_of
loop-number-init c = ap (map seen) c.in_ok-reserve.ensures.items ∙ sym (append-nil (map seen c.args.elements.now.items))

pub loop-number-preserved : goal.loop-number-preserved
loop-number-preserved c =
    let n = get_or c.args.numbers.now c.loop-number.number-index (pos 0) in
    let back : to_z w64 (of_z w64 n) ≡ n = search rules in
    let front = truths_of (take c.loop-number.number-index c.args.numbers.now) in
    let more = truths_more c.args.numbers.now c.loop-number.number-index (pos 0) c.loop-number-test.true in
    let one = map values.truth (not (eqb (of_z w64 n) 0) ∷ []) in
    ap (map seen) c.in_ok-push.ensures.items ∙ map-append seen c.loop-number.elements.items _
    ∙ ap (λ (ds : List Datum). ds ++ one) c.loop-number.invariant
    ∙ append_assoc (map seen c.args.elements.now.items) (map values.truth front) one
    ∙ ap (λ (ds : List Datum). map seen c.args.elements.now.items ++ ds)
    (ap (λ (bs : List Bool). map values.truth front ++ map values.truth bs) (sym (nonzero n back))
    ∙ sym (ap (map values.truth) more ∙ map-append values.truth front (truths_of (n ∷ []))))
