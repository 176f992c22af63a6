use Rattle.sz_gen_tests.proofs.one_worker.holds.Given as goal

-- the round is named by itself
abbrev pub ghosts-fills_the_lane : goal.ghosts-fills_the_lane
ghosts-fills_the_lane a = record { job = a.job.now; round = a.round.now }
