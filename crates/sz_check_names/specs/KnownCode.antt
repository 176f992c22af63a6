-- How the logic stores what is known in front of a statement.
use Rattle.std.specs.Prelude.{◌≡◌, ℕ, zero, suc, List, [], ◌∷◌, ◌⊎◌}
use Rattle.std.proofs.Common.{refl, inl, inr}
use Rattle.std.specs.Coded.{Coded, code_by, coded_ℕ, coded_list, coded×, coded⊎}
use Rattle.sz_types.specs.Data.{Shape}
use Rattle.sz_types.specs.Tables.{Declaration}
use Rattle.sz_types.specs.Code.{shape_code, shapes_code, declarations_code}
use Rattle.sz_types.specs.declared.operator.Builtin.{Builtin}
use Rattle.sz_scope.specs.declared.sight.Sight.{Sight}
use Rattle.sz_scope.specs.declared.sight.Sight.TheVariants.{Record, Function, Static}
use Rattle.sz_core.specs.OperatorCode.{builtin_code}
use Rattle.sz_core.specs.ProgramCode.{signature_code}
use Rattle.sz_core.specs.Programs.{Signature}
use Rattle.sz_check_rules.specs.Names.{Meaning, Block, variable, quantified, static, type_name, table, function, predeclared, input}
use Rattle.sz_check_names.specs.Knowledge.{Outside, Knowledge}

-- a meaning as one of several things: a list of at most one declaration stands for a table, or for the record itself
abbrev Kinds : Type 0
Kinds = (((ℕ × Shape) ⊎ (ℕ × Shape)) ⊎ (ℕ × Shape)) ⊎ (((ℕ × List Declaration) ⊎ (ℕ × Signature)) ⊎ (Shape ⊎ Builtin))

abbrev kinds_of : Meaning → Kinds
kinds_of (variable n t) = inl (inl (inl (n, t)))
kinds_of (quantified n t) = inl (inl (inr (n, t)))
kinds_of (static n t) = inl (inr (n, t))
kinds_of (table n d) = inr (inl (inl (n, d ∷ [])))
kinds_of input = inr (inl (inl (0, [])))
kinds_of (function n s) = inr (inl (inr (n, s)))
kinds_of (type_name t) = inr (inr (inl t))
kinds_of (predeclared b) = inr (inr (inr b))

abbrev meaning_of : Kinds → Meaning
meaning_of (inl (inl (inl x))) = variable x.0 x.1
meaning_of (inl (inl (inr x))) = quantified x.0 x.1
meaning_of (inl (inr x)) = static x.0 x.1
meaning_of (inr (inl (inl (n, [])))) = input
meaning_of (inr (inl (inl (n, (d ∷ ds))))) = table n d
meaning_of (inr (inl (inr x))) = function x.0 x.1
meaning_of (inr (inr (inl t))) = type_name t
meaning_of (inr (inr (inr b))) = predeclared b

pub meaning_again : (m : Meaning) → meaning_of (kinds_of m) ≡ m
meaning_again (variable n t) = refl
meaning_again (quantified n t) = refl
meaning_again (static n t) = refl
meaning_again (type_name t) = refl
meaning_again (table n d) = refl
meaning_again (function n s) = refl
meaning_again (predeclared b) = refl
meaning_again input = refl

abbrev meaning_code : Coded Meaning
meaning_code =
    code_by Kinds
    (coded⊎ (coded⊎ (coded⊎ (coded× coded_ℕ shape_code) (coded× coded_ℕ shape_code)) (coded× coded_ℕ shape_code))
    (coded⊎ (coded⊎ (coded× coded_ℕ declarations_code) (coded× coded_ℕ signature_code))
    (coded⊎ shape_code builtin_code))) kinds_of meaning_of meaning_again

abbrev block_code : Coded Block
block_code =
    coded_list (code_by (List ℕ × Meaning) (coded× (coded_list coded_ℕ) meaning_code)
    (λ n. (n.name, n.meaning))
    (λ p. record { name = p.0; meaning = p.1 })
    (λ n. refl))

-- who looks, as a number
abbrev sight_number : Sight → ℕ
sight_number Record = 0
sight_number Static = 1
sight_number (Function n) = suc (suc n)

abbrev sight_at : ℕ → Sight
sight_at zero = Record
sight_at (suc zero) = Static
sight_at (suc (suc n)) = Function n

pub sight_again : (s : Sight) → sight_at (sight_number s) ≡ s
sight_again Record = refl
sight_again Static = refl
sight_again (Function n) = refl

abbrev outside_code : Coded Outside
outside_code = code_by (List Block × (List Block × (ℕ × (ℕ × List Shape))))
    (coded× (coded_list block_code) (coded× (coded_list block_code) (coded× coded_ℕ (coded× coded_ℕ shapes_code))))
    (λ o. (o.seen, (o.all, (o.own, (sight_number o.sight, o.types)))))
    (λ p. record { seen = p.0; all = p.1.0; own = p.1.1.0; sight = sight_at p.1.1.1.0; types = p.1.1.1.1 })
    (λ o i. record { seen = o.seen; all = o.all; own = o.own; sight = sight_again o.sight i; types = o.types })

-- how what is known is stored
abbrev pub knowledge_code : Coded Knowledge
knowledge_code = code_by (Block × (Outside × List Shape)) (coded× block_code (coded× outside_code shapes_code))
    (λ k. (k.innermost, (k.outside, k.locals)))
    (λ p. record { innermost = p.0; outside = p.1.0; locals = p.1.1 })
    (λ k. refl)
