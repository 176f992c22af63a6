-- What the crates above may cite.
pub use Rattle.sz_machine_rows.proofs.PayLemmas.{world, spend_more, spend_less}
