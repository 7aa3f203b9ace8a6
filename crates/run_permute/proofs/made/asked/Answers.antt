use Rattle.run_permute.proofs.made.asked.Goals as goal

pub asks-requires : goal.asks-requires
asks-requires c = c.requires c.in-Exec.spe c.in-Exec.is
