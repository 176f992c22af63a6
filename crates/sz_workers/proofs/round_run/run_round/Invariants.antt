use Rattle.sz_workers.proofs.round_run.run_round.Given as goal

-- the round is named by itself
abbrev pub ghosts-run_named : goal.ghosts-run_named
ghosts-run_named g a = record { job = a.job.now; round = a.round.now }
