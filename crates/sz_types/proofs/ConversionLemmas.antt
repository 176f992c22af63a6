-- The conversions are those of the table.
use Rattle.std.proofs.Common.{◌≡◌, ◌≢◌, ◌↔◌, ◌⊎◌, inl, inr, ⊎_elim, Bool, true, false, ◌||◌, true≢false, refl, sym, ap, ◌∙◌, subst, arith}
use Rattle.std.specs.List.{All, Contains}
use Rattle.std.proofs.lemmas.List.Elements.{All-contains}
use Rattle.std.proofs.lemmas.List.Sums.{AllPass-from_list_all}
use Rattle.sz_types.specs.Data.{Shape, truth, int, time, str, bytes, array, mapping, tuple, proto}
use Rattle.sz_types.specs.Same.{alike}
use Rattle.sz_types.specs.Seen.{seen}
use Rattle.sz_types.specs.declared.ty.Ty.{Ty}
use Rattle.sz_types.specs.declared.ty.Ty.TheVariants.{Bool as BoolTy, Int, Time, Str, Bytes, Array', Map', Tuple, Proto}
use Rattle.sz_types.specs.declared.ty.Fields.{Fields}
use Rattle.sz_types.specs.Conversions.{has_row, converts_to, rows, IsProto}
use Rattle.sz_types.proofs.SeenLemmas.{box_of, seen_bool, seen_time, seen_bytes, seen_array, seen_map, seen_tuple}
use Rattle.sz_types.proofs.AlikeLemmas.{alike_equal, alike_itself}

-- bytes convert to no other type than whole numbers, strings and proto types
pub bytes_rows : (t : Ty) → t ≢ Int → t ≢ Str → ((x : Fields) → t ≡ Proto x → ⊥) → has_row bytes (seen t) ≡ false
bytes_rows BoolTy whole text message = ap (has_row bytes) seen_bool
bytes_rows Int whole text message = absurd (whole refl)
bytes_rows Time whole text message = ap (has_row bytes) seen_time
bytes_rows Str whole text message = absurd (text refl)
bytes_rows Bytes whole text message = ap (has_row bytes) seen_bytes
bytes_rows (Array' p e) whole text message = ap (has_row bytes) (seen_array (box_of p e))
bytes_rows (Map' p l q w) whole text message =
    ap (has_row bytes) (seen_map (box_of p l) (box_of q w))
bytes_rows (Tuple x) whole text message = ap (has_row bytes) (seen_tuple x)
bytes_rows (Proto x) whole text message = absurd (message x refl)

either : (a b : Bool) → (a || b) ≡ true → (a ≡ true) ⊎ (b ≡ true)
either true b h = inl refl
either false b h = inr h

-- a pair of types with a row stands in the table, or it is bytes and a proto type
row_listed : (from to : Shape) → has_row from to ≡ true → Contains rows (from, to) ⊎ ((from ≡ bytes) × IsProto to)
row_listed str int h = inl (0, omega arith, refl)
row_listed bytes int h = inl (1, omega arith, refl)
row_listed bytes str h = inl (2, omega arith, refl)
row_listed str bytes h = inl (3, omega arith, refl)
row_listed int str h = inl (4, omega arith, refl)
row_listed truth str h = inl (5, omega arith, refl)
row_listed truth int h = inl (6, omega arith, refl)
row_listed int time h = inl (7, omega arith, refl)
row_listed time int h = inl (8, omega arith, refl)
row_listed bytes (proto fs) h = inr (refl, tt)
row_listed from to h = absurd (true≢false (sym h))

listed_rows : All (λ row. has_row row.0 row.1 ≡ true) rows
listed_rows = AllPass-from_list_all (λ row. has_row row.0 row.1) rows refl

proto_row : (to : Shape) → IsProto to → has_row bytes to ≡ true
proto_row (proto fs) is = refl
proto_row truth is = absurd is
proto_row int is = absurd is
proto_row time is = absurd is
proto_row str is = absurd is
proto_row bytes is = absurd is
proto_row (array s) is = absurd is
proto_row (mapping k v) is = absurd is
proto_row (tuple fs) is = absurd is

by_row : (from to : Shape) → has_row from to ≡ true → converts_to from to ≡ true
by_row from to row = ap (λ b. b || alike from to) row

by_equality : (from to : Shape) → from ≡ to → converts_to from to ≡ true
by_equality from to same = subst (λ t. converts_to from t ≡ true) same
    (ap (λ b. has_row from from || b) (alike_itself from) ∙ always (has_row from from))
  where
    always : (b : Bool) → (b || true) ≡ true
    always true = refl
    always false = refl

-- a type converts to another exactly where they are equal, or there is a row for them
pub table_is_exact : (from to : Shape)
    → (converts_to from to ≡ true) ↔ ((from ≡ to) ⊎ (Contains rows (from, to) ⊎ ((from ≡ bytes) × IsProto to)))
table_is_exact from to = (
  λ h. ⊎_elim (λ row. inr (row_listed from to row)) (λ same. inl (alike_equal from to same))
      (either (has_row from to) (alike from to) h),
  λ h. ⊎_elim (by_equality from to) (λ row. by_row from to (⊎_elim
      (λ listed. All-contains (λ row. has_row row.0 row.1 ≡ true) rows (from, to) listed_rows listed)
      (λ message. subst (λ f. has_row f to ≡ true) (sym message.0) (proto_row to message.1)) row)) h,
)

-- each type converts to itself
pub converts_itself : (s : Shape) → converts_to s s ≡ true
converts_itself s = by_equality s s refl
