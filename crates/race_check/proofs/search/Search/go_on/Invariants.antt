use Rattle.race_check.proofs.search.Search.go_on.Given as goal

abbrev pub ghost-advance : goal.ghost-advance
ghost-advance a = a.self.now.machine
