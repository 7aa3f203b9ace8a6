use Rattle.std.proofs.Common.{map, arith}
use Rattle.cell_load.specs.LoadViews.{load_of}
use Rattle.cell_load.specs.Entries.{entry_of}
use Rattle.cell_load.specs.Sources.{spes_in}
use Rattle.cell_load.proofs.SetupLemmas.{starts-length}
use Rattle.cell_load.proofs.loading.setup_in.Goals as goal

pub add_spes-requires-clause-few : goal.add_spes-requires-clause-few
add_spes-requires-clause-few c =
    let few = c.requires.limits.spes in
    let count = c.requires.count in
    omega (arith, few, count, starts-length (map load_of c.args.loads.now) (spes_in (map entry_of c.args.lines.now)))

pub set_modes-requires : goal.set_modes-requires
set_modes-requires c =
    rw (c.in_ok-add_actions.ensures, c.in_ok-fill_memory.ensures, c.in_ok-place_loads.ensures, c.in_ok-add_spes.ensures, starts-length (map load_of c.args.loads.now) c.args.spes)
    c.requires.modes

pub add_shows-requires-clause-fits : goal.add_shows-requires-clause-fits
add_shows-requires-clause-fits c =
    rw (c.in_ok-set_modes.ensures, c.in_ok-add_actions.ensures, c.in_ok-fill_memory.ensures, c.in_ok-place_loads.ensures, c.in_ok-add_spes.ensures, c.in-Ok.ensures.made, c.lines_number.ensures, c.requires.count)
    c.requires.limits.shows
