-- Each list is cut.
use Rattle.std.proofs.Common.{◌∙◌, refl, sym, ap, map, take}
use Rattle.std.specs.List.{take-map}
use Rattle.sz_types.specs.Seen.{seen}
use Rattle.sz_gen_expr.specs.declared.builder.Builder.{Builder}
use Rattle.sz_gen_expr.specs.Building.{cut_to}
use Rattle.sz_gen_expr.proofs.Undone.{as_before}
use Rattle.sz_gen_expr.proofs.builder.Builder.cut.Goals as goal

pub returns : goal.returns
returns c =
    let old : Builder = c.args.self.now in
    record {
      value = as_before (cut_to c.args.mark old) (record {
        lines = c.truncate.new.self;
        functions = old.functions;
        statics = old.statics;
        constants = c.truncate-2.new.self;
        types = c.from_vec.result;
      }) c.truncate.ensures.value refl refl c.truncate-2.ensures.value
          (c.from_vec.ensures.value ∙ ap (map seen) c.truncate-3.ensures.items ∙ sym (take-map seen _ _)
          ∙ ap (take c.args.mark.types) (c.into_vec-types.ensures.value ∙ c.replace.ensures.value));
    }
