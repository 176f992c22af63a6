-- How bytes are kept.
use Rattle.std.specs.Prelude.{ℕ, List}
use Rattle.sz_flat.specs.declared.storage.Storage.{Storage}
use Rattle.sz_flat.specs.declared.storage.Storage.TheVariants.{Short, Long}

-- the bytes, in place or in a block of their own
abbrev pub bytes_of : Storage → List ℕ
bytes_of (Short bytes) = bytes
bytes_of (Long bytes) = bytes.items
