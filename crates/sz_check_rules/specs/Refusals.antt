-- Why a program is refused, and judgements that go on only where nothing was refused.
use Rattle.std.specs.Prelude.{ℕ, List, [], ◌∷◌, Bool, if◌then◌else◌, Option, Some, None, Result, Ok, Err, codes, bytes_eq}
use Rattle.std.specs.List.{list_any}
use Rattle.sz_types.specs.declared.place.Place.{Place}
use Rattle.sz_tree.specs.Names.{Ident}
use Rattle.sz_check_rules.specs.declared.cause.Cause.{Cause}
use Rattle.sz_check_rules.specs.declared.cause.Cause.TheVariants as causes

-- a refusal: its cause, the place that it names, and the name that its text has
pub record Refusal : Type 0 where
  pub cause : Cause
  pub place : Place
  pub name : Option (List ℕ)

-- what judging gives, or the first refusal
abbrev pub Judged : Type 0 → Type 0
Judged A = Result A Refusal

infixl 10 ◌>>=◌
-- the second judgement, where the first refused nothing
abbrev pub ◌>>=◌ : {A B : Type 0} → Judged A → (A → Judged B) → Judged B
Ok x >>= f = f x
Err r >>= f = Err r

-- a refusal at a place, and one at a name
abbrev pub refused_at : {A : Type 0} → Cause → Place → Judged A
refused_at cause p = Err (record { cause = cause; place = p; name = None })

abbrev pub refused_for : {A : Type 0} → Cause → Ident → Judged A
refused_for cause n = Err (record { cause = cause; place = n.place; name = Some n.text })

-- whether a list of names has this one
abbrev pub has_name : List ℕ → List (List ℕ) → Bool
has_name name names = list_any (bytes_eq name) names

-- names that are refused as left out where nothing declares them
abbrev pub left_out_names : List (List ℕ)
left_out_names = codes "float" ∷ codes "fingerprint" ∷ codes "fingerprintof" ∷ codes "match" ∷ []

-- kinds of tables that are left out
abbrev pub left_out_kinds : List (List ℕ)
left_out_kinds =
    codes "sample" ∷ codes "weightedsample" ∷ codes "distinctsample" ∷ codes "quantile" ∷ codes "top" ∷ codes "unique"
    ∷ codes "inversehistogram" ∷ codes "text" ∷ codes "recordio" ∷ codes "mrcounter" ∷ []

-- nothing that is seen has the name: it is unknown, or left out
abbrev pub unseen : {A : Type 0} → Ident → Judged A
unseen n = if has_name n.text left_out_names then refused_for causes.LeftOut n else refused_for causes.UnknownName n

-- no table is of this kind: it is unknown, or left out
abbrev pub no_kind : {A : Type 0} → Ident → Judged A
no_kind n = if has_name n.text left_out_kinds then refused_for causes.LeftOut n else refused_for causes.UnknownName n

abbrev pub declared_twice : {A : Type 0} → Ident → Judged A
declared_twice n = refused_for causes.Redeclared n

abbrev pub wrong_kind : {A : Type 0} → Ident → Judged A
wrong_kind n = refused_for causes.WrongKind n

abbrev pub wrong_type : {A : Type 0} → Place → Judged A
wrong_type p = refused_at causes.WrongType p

abbrev pub no_type : {A : Type 0} → Place → Judged A
no_type p = refused_at causes.NoType p

abbrev pub no_field : {A : Type 0} → Ident → Judged A
no_field n = refused_for causes.NoField n

abbrev pub wrong_count : {A : Type 0} → Place → Judged A
wrong_count p = refused_at causes.WrongCount p

abbrev pub wrong_weight : {A : Type 0} → Place → Judged A
wrong_weight p = refused_at causes.WrongWeight p

abbrev pub not_assignable : {A : Type 0} → Ident → Judged A
not_assignable n = refused_for causes.NotAssignable n

abbrev pub misplaced : {A : Type 0} → Place → Judged A
misplaced p = refused_at causes.Misplaced p

abbrev pub bad_table : {A : Type 0} → Place → Judged A
bad_table p = refused_at causes.BadTable p

abbrev pub bad_field : {A : Type 0} → Ident → Judged A
bad_field n = refused_for causes.BadProto n

-- no part of the condition fits the variable
abbrev pub unbounded : {A : Type 0} → Ident → Judged A
unbounded n = refused_for causes.Unbounded n

-- a variable of another kind stands after one that speaks of all candidates
abbrev pub all_must_be_last : {A : Type 0} → Place → Judged A
all_must_be_last p = refused_at causes.QuantOrder p

abbrev pub too_many : {A : Type 0} → Place → Judged A
too_many p = refused_at causes.TooMany p

abbrev pub emit_here : {A : Type 0} → Place → Judged A
emit_here p = refused_at causes.EmitHere p

-- nothing is refused where the test holds
abbrev pub unless : Bool → Judged Unit → Judged Unit
unless holds refusal = if holds then Ok tt else refusal
