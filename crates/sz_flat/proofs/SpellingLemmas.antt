-- One value is spelled by some bytes, and none of two values is spelled as a front of the other.
pub use Rattle.sz_flat.specs.OneSpelling.{split_same, same_length, same_number, same_string, one_spelling, same_parts, same_pairs}
