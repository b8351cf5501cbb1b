use Rattle.host_run.proofs.runs.run_threads.Given as goal

-- the program, the machine and the image that the call is of
abbrev pub ghosts-run_as : goal.ghosts-run_as
ghosts-run_as g a = record { program = a.program.now; machine = a.spec.now; image = a.image.now }
