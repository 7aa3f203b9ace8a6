use Rattle.cell_report.proofs.Texts.{states_written}
use Rattle.cell_report.proofs.states.states_text.Goals as goal

pub returns-clause-text : goal.returns-clause-text
returns-clause-text c = states_written _ c.args.m.now.setup.budget c.end.result c.args.m.now.setup.shows _ _ _ _ c.end.ensures (rw c.new-out.ensures.items at c.in_ok-put_end.ensures.text) c.in_ok-put_spes.ensures.text c.in_ok-put_host.ensures.text c.in_ok-put_shows.ensures.text
