-- What the crates above may cite: what holds of each meaning that a list of blocks has.
pub use Rattle.sz_check_rules.proofs.Meanings.{Mean, looked_up, declared}
