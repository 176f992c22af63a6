-- The values that a list of `clap`'s rows has for an id.
use Rattle.std.proofs.Common.{◌≡◌, List, [], ◌∷◌, ◌++◌, Bool, true, false, true≢false, refl, sym, ◌∙◌, subst}
use Rattle.std.specs.Prelude.{bytes_eq, unwrap_or}
use Rattle.std.proofs.lemmas.Slice.Eq.{bytes_eq-Decides}
use Rattle.clap.specs.Walk.{Row, Text, all_of, with_values}
use Rattle.clap.specs.declared.builder.value_parser.Reading.{Reading}
use Rattle.clap.specs.declared.parser.matches.ValueSource.{ValueSource}

pub same : (text : Text) → bytes_eq text text ≡ true
same text = (bytes_eq-Decides text text).1 refl

pub equal : (a b : Text) → bytes_eq a b ≡ true → a ≡ b
equal a b e = (bytes_eq-Decides a b).0 e

-- the values of the rows' first row of this id
abbrev pub values_at : Text → List Row → List Text
values_at id rows = unwrap_or (all_of id rows) []

-- values that are added for an id stand after those that it had
pub values-added : (id : Text) (how : Reading) (s : ValueSource) (values : List Text) (rows : List Row)
    → values_at id (with_values id how s values rows) ≡ values_at id rows ++ values
values-added id how s values [] = rw (same id) refl
values-added id how s values (r ∷ rs) = go (values-added id how s values rs) (bytes_eq r.id id) refl
  where
    go : values_at id (with_values id how s values rs) ≡ values_at id rs ++ values → (b : Bool) → bytes_eq r.id id ≡ b
        → values_at id (with_values id how s values (r ∷ rs)) ≡ values_at id (r ∷ rs) ++ values
    go more true e = rw (e, e) refl
    go more false e = rw (e, e) more

-- and those of another id stay
pub values-kept : (id other : Text) (how : Reading) (s : ValueSource) (values : List Text) (rows : List Row)
    → bytes_eq id other ≡ false → values_at other (with_values id how s values rows) ≡ values_at other rows
values-kept id other how s values [] differ = rw differ refl
values-kept id other how s values (r ∷ rs) differ =
    go (values-kept id other how s values rs differ) (bytes_eq r.id id) refl (bytes_eq r.id other) refl
  where
    go : values_at other (with_values id how s values rs) ≡ values_at other rs
        → (b : Bool) → bytes_eq r.id id ≡ b → (c : Bool) → bytes_eq r.id other ≡ c
        → values_at other (with_values id how s values (r ∷ rs)) ≡ values_at other (r ∷ rs)
    go more true e true f =
        let both : bytes_eq id other ≡ true = subst (λ x. bytes_eq x other ≡ true) (equal r.id id e) f in
        absurd (true≢false (sym both ∙ differ))
    go more true e false f = rw (e, f) refl
    go more false e true f = rw (e, f) refl
    go more false e false f = rw (e, f) more
