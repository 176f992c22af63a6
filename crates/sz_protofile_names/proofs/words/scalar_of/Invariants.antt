use Rattle.std.proofs.Common.{◌≡◌, drop, find}
use Rattle.std.specs.Str.{bytes_eq}
use Rattle.sz_protofile.specs.Scalars.{scalar_text}
use Rattle.sz_protofile_names.proofs.words.scalar_of.Given as goal

-- no scalar so far is spelled so
abbrev pub invariant-loop-scalar : goal.invariant-loop-scalar
invariant-loop-scalar l = find (λ s. bytes_eq (scalar_text s) l.word) (drop l.scalar-index l.scalar-items)
    ≡ find (λ s. bytes_eq (scalar_text s) l.word) l.scalar-items
