use Rattle.cell_commands.proofs.permute.reordered.Goals as goal

pub permute_by_needs-requires-clause-needs : goal.permute_by_needs-requires-clause-needs
permute_by_needs-requires-clause-needs c = c.requires.looks.gathers (c.is_settled.ensures.so_far c.if-not-is_settled.false)
