-- What is lent may cross threads, and each call sorts one piece.
use denote.Param.Send.{sendable}
use Rattle.std.proofs.Common.{drop_of_length-le, ℕ, ◌≡◌, ◌∙◌, ◌≤◌, ◌++◌, ◌*◌, ◌<◌, ap, sym, take, drop, length, subst, arith, IsPermutation}
use Rattle.std.specs.Fork.{slice_chunk}
use Rattle.std.proofs.Crossing.{crosses}
use Rattle.std.proofs.lemmas.List.{append-nil, take_all}
use Rattle.sz_total.proofs.SendLemmas.{entry_send}
use Rattle.sz_total.proofs.ChunkLemmas.{chunks_moved}
use Rattle.sz_total.proofs.in_order.sort_pieces.Goals as goal

pub for_each_chunk_mut-requires-send-T : goal.for_each_chunk_mut-requires-send-T
for_each_chunk_mut-requires-send-T g c κs within = search (sendable, crosses, entry_send) depth 30

pub returns : goal.returns
returns g c =
    let xs = c.args.entries.now.items in
    let ys = c.for_each_chunk_mut.new.s in
    let lent = c.as_mut_slice.ensures.value in
    let same : length ys ≡ length xs = c.for_each_chunk_mut.auto.s ∙ ap length lent in
    let all : take c.args.entries.now.len (ys ++ drop (length ys) xs) ≡ ys =
    ap (λ rest. take c.args.entries.now.len (ys ++ rest)) (drop_of_length-le xs (omega (arith, same)))
    ∙ ap (take c.args.entries.now.len) (append-nil ys)
    ∙ take_all c.args.entries.now.len ys (omega (arith, same, ap length lent, c.as_mut_slice.ensures.len)) in
    let each : (n : ℕ) → n * c.args.size < length xs
    → IsPermutation (slice_chunk xs c.args.size n) (slice_chunk ys c.args.size n) = λ n less.
    let r = c.for_each_chunk_mut.ensures.chunks n (omega (arith, less, ap length lent)) in
    let moved : IsPermutation r.argument.now r.after_call.now = r.call in
    subst (IsPermutation (slice_chunk xs c.args.size n)) r.left
    (subst (λ l. IsPermutation l r.after_call.now)
    (r.argument_is ∙ ap (λ l. slice_chunk l c.args.size n) lent) moved) in
    record { same = subst (IsPermutation xs) (sym all) (chunks_moved c.args.size xs ys c.requires.size same each) }
