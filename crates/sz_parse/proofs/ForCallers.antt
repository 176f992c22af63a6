-- What the crates above may cite: a list of tokens spells a tree or is stuck somewhere, never both, and either once; a
-- statement takes a token at least, and two spellings that agree on the tokens spell the same.
pub use Rattle.sz_parse.proofs.Whole.{one_tree, one_place, not_both}
pub use Rattle.sz_parse.proofs.Total.{every_list_is_read}
pub use Rattle.sz_parse.proofs.SimpleSound.{stm_shorter}
pub use Rattle.sz_parse.proofs.StatementAlike.{stm_alike}
