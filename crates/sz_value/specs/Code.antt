-- How the logic stores plain data, and the number of its nodes: what a model over data of our own has to give.
use Rattle.std.specs.Prelude.{◌≡◌, ℕ, ◌+◌, List, Option}
use Rattle.std.proofs.Common.{ap, arith}
use Rattle.std.specs.Coded.{Coded, coded_ℕ, coded_ℤ, coded_bool, coded_list, coded_option, coded×}
use base.Stored.{Gv, gnil, gnum, gcons, num}
use Rattle.sz_value.specs.Data.{Datum, truth, int, time, str, bytes, array, tuple, mapping, Data, no_data, datum, Entries, no_entries, entry, data_of, entries_of}

abbrev coded_letters : Coded (List ℕ)
coded_letters = coded_list coded_ℕ

abbrev mutual
  pub datum_tree : Datum → Gv
  datum_tree (truth b) = gcons (gnum 0) (coded_bool.code b)
  datum_tree (int n) = gcons (gnum 1) (coded_ℤ.code n)
  datum_tree (time n) = gcons (gnum 2) (coded_ℤ.code n)
  datum_tree (str s) = gcons (gnum 3) (coded_letters.code s)
  datum_tree (bytes s) = gcons (gnum 4) (coded_letters.code s)
  datum_tree (array ds) = gcons (gnum 5) (data_tree ds)
  datum_tree (tuple ds) = gcons (gnum 6) (data_tree ds)
  datum_tree (mapping es) = gcons (gnum 7) (entries_tree es)

  data_tree : Data → Gv
  data_tree no_data = gnil
  data_tree (datum d ds) = gcons (datum_tree d) (data_tree ds)

  entries_tree : Entries → Gv
  entries_tree no_entries = gnil
  entries_tree (entry k v es) = gcons (datum_tree k) (gcons (datum_tree v) (entries_tree es))

abbrev head : Gv → Gv
head gnil = gnil
head (gnum n) = gnil
head (gcons a b) = a

abbrev tail : Gv → Gv
tail gnil = gnil
tail (gnum n) = gnil
tail (gcons a b) = b

-- 1 for a pair, else 0
abbrev is_pair : Gv → ℕ
is_pair gnil = 0
is_pair (gnum n) = 0
is_pair (gcons a b) = 1

mutual
  pub datum_apart : (d e : Datum) → datum_tree d ≡ datum_tree e → d ≡ e
  datum_apart (truth b) (truth c) p = ap truth (coded_bool.inj b c (ap tail p))
  datum_apart (int m) (int n) p = ap int (coded_ℤ.inj m n (ap tail p))
  datum_apart (time m) (time n) p = ap time (coded_ℤ.inj m n (ap tail p))
  datum_apart (str s) (str t) p = ap str (coded_letters.inj s t (ap tail p))
  datum_apart (bytes s) (bytes t) p = ap bytes (coded_letters.inj s t (ap tail p))
  datum_apart (array ds) (array es) p = ap array (data_apart ds es (ap tail p))
  datum_apart (tuple ds) (tuple es) p = ap tuple (data_apart ds es (ap tail p))
  datum_apart (mapping ps) (mapping qs) p = ap mapping (entries_apart ps qs (ap tail p))
  datum_apart d e p = absurd (let kinds = ap (λ g. num (head g)) p in omega arith)

  data_apart : (ds es : Data) → data_tree ds ≡ data_tree es → ds ≡ es
  data_apart no_data no_data p = λ i. no_data
  data_apart no_data (datum e es) p = absurd (let sizes = ap is_pair p in omega arith)
  data_apart (datum d ds) no_data p = absurd (let sizes = ap is_pair p in omega arith)
  data_apart (datum d ds) (datum e es) p = λ i. datum (datum_apart d e (ap head p) i) (data_apart ds es (ap tail p) i)

  entries_apart : (ps qs : Entries) → entries_tree ps ≡ entries_tree qs → ps ≡ qs
  entries_apart no_entries no_entries p = λ i. no_entries
  entries_apart no_entries (entry k v qs) p = absurd (let sizes = ap is_pair p in omega arith)
  entries_apart (entry k v ps) no_entries p = absurd (let sizes = ap is_pair p in omega arith)
  entries_apart (entry k v ps) (entry l w qs) p =
      λ i. entry (datum_apart k l (ap head p) i) (datum_apart v w (ap (λ g. head (tail g)) p) i)
      (entries_apart ps qs (ap (λ g. tail (tail g)) p) i)

-- how a value is stored
abbrev pub datum_code : Coded Datum
datum_code = record { code = datum_tree; inj = datum_apart }

-- how a list of parts is stored
abbrev pub parts_code : Coded (List Datum)
parts_code = coded_list datum_code

-- how a list of pairs is stored
abbrev pub pairs_code : Coded (List (Datum × Datum))
pairs_code = coded_list (coded× datum_code datum_code)

-- how a list of slots is stored
abbrev pub slots_code : Coded (List (Option Datum))
slots_code = coded_list (coded_option datum_code)

abbrev mutual
  -- the number of nodes of a value
  pub datum_nodes : Datum → ℕ
  datum_nodes (truth b) = 1
  datum_nodes (int n) = 1
  datum_nodes (time n) = 1
  datum_nodes (str s) = 1
  datum_nodes (bytes s) = 1
  datum_nodes (array ds) = data_nodes ds + 1
  datum_nodes (tuple ds) = data_nodes ds + 1
  datum_nodes (mapping es) = entries_nodes es + 1

  -- the nodes of all parts
  pub data_nodes : Data → ℕ
  data_nodes no_data = 0
  data_nodes (datum d ds) = datum_nodes d + data_nodes ds

  -- the nodes of all keys and values
  pub entries_nodes : Entries → ℕ
  entries_nodes no_entries = 0
  entries_nodes (entry k v es) = datum_nodes k + datum_nodes v + entries_nodes es

-- the nodes of the parts that a list holds
abbrev pub parts_nodes : List Datum → ℕ
parts_nodes ds = data_nodes (data_of ds)

-- the nodes of the pairs that a list holds
abbrev pub pairs_nodes : List (Datum × Datum) → ℕ
pairs_nodes ps = entries_nodes (entries_of ps)
