-- Where two differ at a place the lists do.
use Rattle.std.proofs.Common.{true≢false, sym, arith}
use Rattle.sz_types.specs.SeenTables.{seen_table}
use Rattle.sz_save.proofs.ListLemmas.{alike_at}
use Rattle.sz_save.proofs.declared.are_same.Goals as goal

pub returns-then-not-same_decl : goal.returns-then-not-same_decl
returns-then-not-same_decl c =
    let less = c.loop-i-test.true in
    record {
      value = (
        λ claim. absurd (true≢false (sym claim)),
        λ alike. absurd (true≢false (sym (c.if-not-same_decl.ensures.value.1 (alike_at seen_table
            c.args.one.now c.args.other.now c.loop-i.i c.index-one-i.result c.index-other-i.result less
            (omega (arith, less, c.if-one-other.false)) c.index-one-i.is c.index-other-i.is alike)))),
      );
    }
