-- What contracts see of values that are looked at where they stand.
use Rattle.sz_value.specs.Data.{Datum, truth, int, time, str, bytes, array, tuple, mapping, data_of, entries_of}
use Rattle.sz_value.specs.Seen.{seen}
use Rattle.sz_builtin.specs.Letters.{letters_of}
use Rattle.sz_builtin.specs.declared.view.View.{View}
use Rattle.sz_builtin.specs.declared.view.View.TheVariants as views
use Rattle.sz_builtin.specs.declared.view.Kind.{Kind}
use Rattle.sz_builtin.specs.declared.view.Kind.TheVariants as kinds
use Rattle.sz_builtin.specs.declared.view.Lent.{Lent}
use Rattle.sz_builtin.specs.declared.view.Lent.TheVariants as lent

-- the plain data of a view
abbrev pub seen_view : View → Datum
seen_view (views.Bool b) = truth b
seen_view (views.Int n) = int n
seen_view (views.Time n) = time n
seen_view (views.Ascii text) = str text.octets.now
seen_view (views.Bytes octets) = bytes octets.now
seen_view (views.Whole value) = seen value.now

-- the plain data of a value that is told by its kind
abbrev pub seen_kind : Kind → Datum
seen_kind (kinds.Bool b) = truth b
seen_kind (kinds.Int n) = int n
seen_kind (kinds.Time n) = time n
seen_kind (kinds.Str text) = str (letters_of text)
seen_kind (kinds.Bytes octets) = bytes octets.now
seen_kind (kinds.Array parts) = array (data_of parts.now)
seen_kind (kinds.Tuple parts) = tuple (data_of parts.now)
seen_kind (kinds.Map pairs) = mapping (entries_of pairs.now)

-- the plain data of a value that is made or lent
abbrev pub seen_lent : Lent → Datum
seen_lent (lent.Made value) = seen value
seen_lent (lent.Shared value) = seen value.now
