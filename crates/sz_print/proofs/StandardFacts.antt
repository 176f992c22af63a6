-- Worked examples, checked by computing both sides.
use Rattle.std.proofs.Common.{◌≡◌, pos, true, false, Some, None, [], ◌∷◌, ◌++◌, refl}
use Rattle.std.specs.Prelude.{codes}
use Rattle.std.specs.Fmt.{signed_decimal}
use Rattle.sz_types.specs.Data.{Shape}
use Rattle.sz_types.specs.Tables.{Declaration}
use Rattle.sz_types.specs.declared.table.TableKind.TheVariants.{Maximum}
use Rattle.sz_value.specs.Data.{truth, str, bytes, array, tuple, mapping, no_data, datum, no_entries, entry}
use Rattle.sz_tabs.specs.Data.{one, overflow}
use Rattle.sz_print.specs.Text.{value_text}
use Rattle.sz_print.specs.Lines.{row_line, sums_text}

-- a tuple of a truth value and an array, and a tuple of one part
tuples : value_text
    (tuple (datum (truth true) (datum (array (datum (str (codes "a")) (datum (str []) no_data))) no_data)))
    ≡ codes "{true, {\"a\", \"\"}}"
tuples = refl

-- a map, one without pairs, and an array without parts
maps : value_text (mapping (entry (str (codes "a")) (truth false) (entry (str (codes "b")) (truth true) no_entries)))
    ≡ codes "{\"a\": false, \"b\": true}"
maps = refl

no_pairs : value_text (mapping no_entries) ≡ codes "{:}"
no_pairs = refl

no_parts : value_text (array no_data) ≡ codes "{}"
no_parts = refl

-- quotes, backslashes, a newline, a tabulator, bytes that control, and a character of two bytes
escapes : value_text (str (34 ∷ 92 ∷ 10 ∷ 9 ∷ 31 ∷ 127 ∷ 195 ∷ 169 ∷ [])) ≡ codes "\"\\\"\\\\\\n\\t\\x1f\\x7f"
    ++ 195 ∷ 169 ∷ codes "\""
escapes = refl

-- the same two bytes where they are no character
high_bytes : value_text (bytes (195 ∷ 169 ∷ [])) ≡ codes "B\"\\xc3\\xa9\""
high_bytes = refl

-- a sum of numbers, and one of tuples with one part
one_sum : sums_text Shape.int (pos 7 ∷ []) ≡ signed_decimal (pos 7) ++ []
one_sum = refl

-- a table of the two greatest, without indexes and with two
abbrev best : Declaration
best = record {
  name = codes "best";
  kind = Maximum;
  limit = 2;
  indexes = [];
  element = Shape.str;
  weight = Some Shape.int;
}

weights : row_line best [] (record { shown = one (str (codes "a")); weight = Some (pos 5) })
    ≡ codes "best[] = \"a\"" ++ (codes " weight " ++ signed_decimal (pos 5)) ++ codes "\n"
weights = refl

indexes : row_line best (str (codes "us") ∷ truth true ∷ []) (record { shown = overflow; weight = None })
    ≡ codes "best[\"us\"][true] = overflow\n"
indexes = refl
